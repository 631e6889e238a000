-- One member of a list of drivers moves.
use Rattle.std.specs.Prelude.{ℕ, zero, suc, ◌≡◌, ◌<◌, List, [], ◌∷◌, map as list_map, length, slice_index_or, slice_set}
use Rattle.std.proofs.Common.{subst, sym, ap, ◌∙◌, get_or-set_same, arith, below_more, ◌+◌, ◌≤◌}
use Rattle.std.specs.FinMap as map
use Rattle.std.proofs.lemmas.List.{map-set, length-map}
use Rattle.std.proofs.Math.Seq.{map-set_same}
use Rattle.ang_host.specs.State.{State}
use Rattle.ang_host.specs.Laws.{Fits, IsSound}
use Rattle.ang_host.specs.Members.{nothing, never, state_at, rule_at, OneMoved, AreFresh}

pub read_at {ℓ} : {B : Type 0} {C : Type ℓ} (f : B → C) (xs : List B) (i : ℕ) (x : B) (d : C) → i < length xs → x ≡ slice_index_or xs i x → slice_index_or (list_map f xs) i d ≡ f x
read_at f [] i x d lt e = absurd (omega (arith, lt))
read_at f (b ∷ bs) zero x d lt e = sym (ap f e)
read_at f (b ∷ bs) (suc i) x d lt e = read_at f bs i x d (omega (arith, lt)) e

carry : (R : Fits → State → State → Type 0) (f f' : Fits) (s s' t t' : State) → f' ≡ f → s' ≡ s → t' ≡ t → R f s t → R f' s' t'
carry R f f' s s' t t' ef es et r = subst (λ x. R x s' t') (sym ef) (subst (λ x. R f x t') (sym es) (subst (λ x. R f s x) (sym et) r))

pub one_moved : {B V : Type 0} (st : B → State) (kind : B → V) (rule : V → Fits) (xs : List B) (i : ℕ) (R : Fits → State → State → Type 0) (x y : B)
    → i < length xs → x ≡ slice_index_or xs i x → kind y ≡ kind x → R (rule (kind x)) (st x) (st y)
    → OneMoved st kind rule xs i R (slice_set xs i y)
one_moved st kind rule xs i R x y lt e k r =
    let sx : state_at (list_map st xs) i ≡ st x = read_at st xs i x nothing lt e in
    let kl : i < length (list_map kind xs) = subst (λ n. i < n) (sym (length-map xs kind)) lt in
    let rx : rule_at (list_map rule (list_map kind xs)) i ≡ rule (kind x) =
    read_at rule (list_map kind xs) i (kind x) never kl (sym (read_at kind xs i x (kind x) lt e)) in
    let sy : state_at (list_map st (slice_set xs i y)) i ≡ st y =
    ap (λ ss. state_at ss i) (map-set st xs i y) ∙ get_or-set_same (list_map st xs) i (st y) nothing (subst (λ n. i < n) (sym (length-map xs st)) lt) in
    record {
      in_list = lt;
      moved = carry R _ _ _ _ _ _ rx sx sy r;
      others = map-set st xs i y ∙ ap (λ t. slice_set (list_map st xs) i t) (sym sy);
      kinds = map-set_same kind xs i y x (k ∙ ap kind e);
    }

-- a fact of the states below i, and of the i-th member, holds of those below i + 1
pub states_more : {B : Type 0} (st : B → State) (P : State → Type 0) (xs : List B) (i : ℕ) (x : B) → i < length xs → x ≡ slice_index_or xs i x
    → ((k : ℕ) → k < i → P (state_at (list_map st xs) k)) → P (st x) → (k : ℕ) → k < i + 1 → P (state_at (list_map st xs) k)
states_more st P xs i x lt e h p = below_more _ _ h (subst P (sym (read_at st xs i x nothing lt e)) p)

pub fresh_all : {B : Type 0} (st : B → State) (xs : List B) (i : ℕ) → length xs ≤ i
    → ((k : ℕ) → k < i → ((state_at (list_map st xs) k).counts ≡ map.empty) × IsSound (state_at (list_map st xs) k))
    → AreFresh (list_map st xs)
fresh_all st xs i le h =
    let below : (k : ℕ) → k < length (list_map st xs) → k < i = λ k lt. omega (arith, lt, length-map xs st) in
    record { idle = λ k lt. (h k (below k lt)).0; sound = λ k lt. (h k (below k lt)).1 }
