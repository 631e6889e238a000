-- A test of all entries of a list, among the numbers of those that pass a wider one: who looks for such entries alone finds among these
-- what there is among all.
use Rattle.std.proofs.Common.{◌≡◌, ℕ, suc, ◌+◌, Bool, true, false, cond, ◌||◌, List, [], ◌∷◌, map, filter, length, Option, refl, sym, ap, ◌∙◌, arith}
use Rattle.std.specs.List.{list_any, range_with_len}
use Rattle.ang_kinds.specs.declared.mask.EntityNo.{EntityNo}
use Rattle.ang_view.specs.declared.entry.Entry.{Entry}
use Rattle.ang_view.specs.Hidden.{numbers_of}
use Rattle.ang_view.specs.Named.{find, has_name}
use Rattle.ang_view.specs.Registration.{RegistrationList, entry_at}

any_step : (f : ℕ → Bool) (b c r : Bool) (i : ℕ) (ns : List ℕ) → f i ≡ c → (c ≡ true → b ≡ true) → list_any f ns ≡ r → list_any f (cond b (i ∷ ns) ns) ≡ (c || r)
any_step f true c r i ns e h rest = ap (λ d. d || list_any f ns) e ∙ ap (λ d. c || d) rest
any_step f false true r i ns e h rest = let no' : false ≡ true = h refl in cc
any_step f false false r i ns e h rest = rest

module _ (p q : Option Entry → Bool) (wide : (o : Option Entry) → p o ≡ true → q o ≡ true) where
  in_range : (all xs : RegistrationList) (i : ℕ) → ((j : ℕ) → entry_at all (i + j) ≡ entry_at xs j)
      → list_any (λ n. p (entry_at all n)) (filter (λ n. q (entry_at all n)) (range_with_len i (length xs))) ≡ list_any p xs
  in_range all [] i stands = refl
  in_range all (x ∷ xs) i stands =
      let z : i + 0 ≡ i = omega arith in
      let here : entry_at all i ≡ x = ap (entry_at all) (sym z) ∙ stands 0 in
      let rest = in_range all xs (i + 1) (λ j. let up : (i + 1) + j ≡ i + suc j = omega arith in ap (entry_at all) up ∙ stands (suc j)) in
      any_step (λ n. p (entry_at all n)) (q (entry_at all i)) (p x) (list_any p xs) i _ (ap p here)
      (λ e. ap q here ∙ wide x e) rest

  by_number : (V : RegistrationList) (es : List EntityNo) → list_any (λ (e : EntityNo). p (entry_at V e.0)) es ≡ list_any (λ n. p (entry_at V n)) (map (λ (e : EntityNo). e.0) es)
  by_number V [] = refl
  by_number V (e ∷ es) = ap (λ r. p (entry_at V e.0) || r) (by_number V es)

  pub among : (V : RegistrationList) (es : List EntityNo) → map (λ (e : EntityNo). e.0) es ≡ filter (λ n. q (entry_at V n)) (numbers_of V)
      → list_any (λ (e : EntityNo). p (entry_at V e.0)) es ≡ list_any p V
  among V es row =
      by_number V es ∙ ap (list_any (λ n. p (entry_at V n))) row
      ∙ in_range V V 0 (λ j. let z : 0 + j ≡ j = omega arith in ap (entry_at V) z)

pub no_number : (ns : List ℕ) → [] ≡ filter (λ n. false) ns
no_number [] = refl
no_number (n ∷ ns) = no_number ns

-- among the types, functions and global properties of a name
pub any_found : (p : Option Entry → Bool) (V : RegistrationList) (name : List ℕ) (es : List EntityNo) → ((o : Option Entry) → p o ≡ true → has_name name o ≡ true)
    → map (λ (e : EntityNo). e.0) es ≡ find V name → list_any (λ (e : EntityNo). p (entry_at V e.0)) es ≡ list_any p V
unfolding find
any_found p V name es wide row = among p (has_name name) wide V es row
