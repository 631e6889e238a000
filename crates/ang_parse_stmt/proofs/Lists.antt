-- Lists of items, with one more at the end.
use Rattle.std.proofs.Common.{◌≡◌, List, [], ◌∷◌, ◌++◌, Option, refl, ap}
use Rattle.ang_lex.specs.declared.token.Token.{Token}
use Rattle.ang_tree.specs.Kinds.{IsComma}
use Rattle.ang_tree.specs.Stmt.{each, Every, Parted, Filled}

pub each-one_more : {A : Type 0} (spell : A → List Token → List Token) (xs : List A) (x : A) (s : List Token) → each spell (xs ++ x ∷ []) s ≡ each spell xs (spell x s)
each-one_more spell [] x s = refl
each-one_more spell (y ∷ xs) x s = ap (spell y) (each-one_more spell xs x s)

pub Every-one_more : {A : Type 0} (P : A → Type 0) (xs : List A) (x : A) → Every P xs → P x → Every P (xs ++ x ∷ [])
Every-one_more P [] x h p = (p, tt)
Every-one_more P (y ∷ xs) x h p = (h.0, Every-one_more P xs x h.1 p)

pub Filled-one_more : {A : Type 0} (xs : List A) (x : A) → Filled xs → Filled (xs ++ x ∷ [])
Filled-one_more [] x h = absurd h
Filled-one_more (y ∷ xs) x h = tt

pub Parted-one_more : {A : Type 0} (comma : A → Option Token) (xs : List A) (x : A) → Filled xs → Parted comma xs → IsComma (comma x) → Parted comma (xs ++ x ∷ [])
Parted-one_more comma [] x filled h c = absurd filled
Parted-one_more comma (y ∷ xs) x filled h c = (h.0, Every-one_more (λ z. IsComma (comma z)) xs x h.1 c)
