-- Parameters that are spelled the same have the same bytes.
use Rattle.std.specs.Prelude.{ℕ, ◌≡◌, ◌+◌, ◌==◌, Bool, true, false, ◌&&◌, List, [], ◌∷◌, ◌++◌}
use Rattle.std.proofs.Common.{arith, refl, ap}
use Rattle.std.proofs.lemmas.Slice.Eq.{bytes_eq-Decides}
use Rattle.std.proofs.Math.Bool.{beq}
use Rattle.ang_tree.specs.declared.declaration.Parameter.{Parameter}
use Rattle.ang_view.specs.Numbers.{primitive_number, pass_number}
use Rattle.ang_view.proofs.Lists.{and_gives}
use Rattle.ang_names_listed.specs.declared.spelling.Base.{Base}
use Rattle.ang_names_listed.specs.declared.spelling.Base.TheVariants as base
use Rattle.ang_names_listed.specs.declared.spelling.Spelling.{Spelling}
use Rattle.ang_names_listed.specs.Spellings.{base_code, code_of, codes_of, const_number, same_base, same_spelling, same_spellings, sign_number, spelling_of}

same_number : (a b : ℕ) → (a == b) ≡ true → a ≡ b
same_number a b h = search arith

same_truth : (a b : Bool) → beq a b ≡ true → a ≡ b
same_truth true true h = refl
same_truth true false h = cc
same_truth false true h = cc
same_truth false false h = refl

bases_alike : (a b : Base) → same_base a b ≡ true → base_code a ≡ base_code b
bases_alike base.Void base.Void h = refl
bases_alike base.Void (base.Primitive q) h = cc
bases_alike base.Void (base.Named m) h = cc
bases_alike (base.Primitive p) base.Void h = cc
bases_alike (base.Primitive p) (base.Primitive q) h = ap (λ n. (n + 1) ∷ []) (same_number (primitive_number p) (primitive_number q) h)
bases_alike (base.Primitive p) (base.Named m) h = cc
bases_alike (base.Named n) base.Void h = cc
bases_alike (base.Named n) (base.Primitive q) h = cc
bases_alike (base.Named n) (base.Named m) h = ap (λ name. 10 ∷ name) ((bytes_eq-Decides n m).0 h)

spellings_alike : (a b : Spelling) → same_spelling a b ≡ true → code_of a ≡ code_of b
unfolding code_of
spellings_alike a b h =
    let first = and_gives (same_base a.base b.base && sign_number a.sign == sign_number b.sign && beq a.is_const b.is_const) (pass_number a.pass == pass_number b.pass) h in
    let second = and_gives (same_base a.base b.base && sign_number a.sign == sign_number b.sign) (beq a.is_const b.is_const) first.0 in
    let third = and_gives (same_base a.base b.base) (sign_number a.sign == sign_number b.sign) second.0 in
    let bases = bases_alike a.base b.base third.0 in
    let signs = same_number (sign_number a.sign) (sign_number b.sign) third.1 in
    let consts = ap const_number (same_truth a.is_const b.is_const second.1) in
    let passes = same_number (pass_number a.pass) (pass_number b.pass) first.1 in
    λ i. bases i ++ signs i ∷ consts i ∷ passes i ∷ []

-- Functions that can't overload one name have parameters of the same bytes.
pub codes_alike : (text : List ℕ) (ps : List Parameter) (other : List ℕ) (qs : List Parameter) → same_spellings text ps other qs ≡ true
    → codes_of text ps ≡ codes_of other qs
codes_alike text [] other [] h = refl
codes_alike text [] other (q ∷ qs) h = cc
codes_alike text (p ∷ ps) other [] h = cc
codes_alike text (p ∷ ps) other (q ∷ qs) h =
    let parts = and_gives (same_spelling (spelling_of text p) (spelling_of other q)) (same_spellings text ps other qs) h in
    let first = spellings_alike (spelling_of text p) (spelling_of other q) parts.0 in
    let rest = codes_alike text ps other qs parts.1 in
    λ i. first i ++ rest i
