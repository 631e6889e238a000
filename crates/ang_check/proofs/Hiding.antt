-- Where a mask hides nothing no entry helps, and there are no denials.
use Rattle.std.specs.Prelude.{ℕ, zero, suc, ◌≡◌, Bool, true, false, cond, ◌&&◌, ◌||◌, ◌++◌, is_some, List, [], ◌∷◌, filter, map, Option, Some, None}
use Rattle.std.specs.List.{flat_map, list_any}
use Rattle.std.proofs.Common.{refl, ap, ◌∙◌}
use Rattle.ang_types.specs.declared.asks.Asks.{Asks}
use Rattle.ang_types.specs.declared.asks.Refused.{Refused}
use Rattle.ang_view.specs.declared.entry.Entry.{Entry}
use Rattle.ang_view.specs.Hidden.{hidden, is_hidden, is_unmet, is_with, numbers_of}
use Rattle.ang_view.specs.Registration.{RegistrationList, entry_at, seen}
use Rattle.ang_names_listed.specs.Sources.{Source}
use Rattle.ang_check_contest.specs.Scopes.{Scope}
use Rattle.ang_check_denials.specs.Denials.{denied, helps, row, rows_asked, rows_for}
use Rattle.ang_check_denials.proofs.Helping.{seen_helps_not}
use Rattle.ang_check.specs.Denials.{denials_of, scope_over, script_refusals}

-- ---- nothing is hidden

neither : (b c : Bool) → (b || c) ≡ false → (b ≡ false) × (c ≡ false)
neither true c e = cc
neither false c e = (refl, e)

none_at : (list : RegistrationList) (n : ℕ) → list_any is_some list ≡ false → is_some (entry_at list n) ≡ false
none_at [] n e = refl
none_at (o ∷ os) zero e = (neither (is_some o) (list_any is_some os) e).0
none_at (o ∷ os) (suc n) e = none_at os n (neither (is_some o) (list_any is_some os) e).1

-- what is marked of what is hidden is there
pub any_marked : (list : RegistrationList) → list_any (λ b. b) (map is_some list) ≡ list_any is_some list
any_marked [] = refl
any_marked (o ∷ os) = ap (λ b. is_some o || b) (any_marked os)

-- ---- nothing helps

none_passes : (p : ℕ → Bool) → ((k : ℕ) → p k ≡ false) → (ks : List ℕ) → filter p ks ≡ []
none_passes p h [] = refl
none_passes p h (k ∷ ks) = ap (λ b. cond b (k ∷ filter p ks) (filter p ks)) (h k) ∙ none_passes p h ks

none_found : (p : ℕ → Bool) → ((k : ℕ) → p k ≡ false) → (ks : List ℕ) → list_any p ks ≡ false
none_found p h [] = refl
none_found p h (k ∷ ks) = ap (λ b. b || list_any p ks) (h k) ∙ none_found p h ks

and_none : (b : Bool) → (b && false) ≡ false
and_none true = refl
and_none false = refl

helps_not : (R : RegistrationList) (m : ℕ) (s : Scope) (r : Refused) (a : Asks) (x : ℕ) → list_any is_some (hidden R m) ≡ false → helps R m s r a x ≡ false
helps_not R m s r a x e = seen_helps_not R m s r a x (none_at (hidden R m) x e)

denied_not : (R : RegistrationList) (m : ℕ) (s : Scope) (r : Refused) (a : Asks) (y : ℕ) → list_any is_some (hidden R m) ≡ false → denied R m s r a y ≡ false
denied_not R m s r a y e =
    let none = none_found (λ x. helps R m s r a x && is_with R x y) (λ x. ap (λ b. b && is_with R x y) (helps_not R m s r a x e)) (numbers_of R) in
    ap (λ b. is_unmet R m y && b) none ∙ and_none (is_unmet R m y)

-- ---- nothing is denied

none_asked : (R : RegistrationList) (m : ℕ) (s : Scope) (r : Refused) (o : Option Asks) → list_any is_some (hidden R m) ≡ false → rows_asked R m s r o ≡ []
none_asked R m s r None e = refl
none_asked R m s r (Some a) e =
    ap (map (row R m r)) (none_passes (denied R m s r a) (λ y. denied_not R m s r a y e) (numbers_of R))

none_denied : (R : RegistrationList) (m : ℕ) (s : Scope) (rs : List Refused) → list_any is_some (hidden R m) ≡ false → flat_map (rows_for R m s) rs ≡ []
none_denied R m s [] e = refl
none_denied R m s (r ∷ rs) e =
    ap (λ ds. ds ++ flat_map (rows_for R m s) rs) (none_asked R m s r r.asks e) ∙ none_denied R m s rs e

pub nothing_hidden : (R : RegistrationList) (m : ℕ) (ss : List Source) → list_any is_some (hidden R m) ≡ false → denials_of R m ss ≡ []
unfolding denials_of
nothing_hidden R m ss e = none_denied R m (scope_over (seen R m) ss) (script_refusals (seen R m) ss) e
