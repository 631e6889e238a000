-- A row is told just where an entry helps.
use Rattle.std.specs.Prelude.{ℕ, zero, suc, Bool, true, false, ◌≡◌, ◌<◌, ◌≤◌, ◌+◌, ◌&&◌, ◌||◌, ◌⊎◌, ◌↔◌, length}
use Rattle.std.specs.List.{list_any, range_with_len}
use Rattle.std.proofs.Common.{arith, refl, sym, subst, inl, inr}
use Rattle.ang_types.specs.declared.asks.Asks.{Asks}
use Rattle.ang_types.specs.declared.asks.Refused.{Refused}
use Rattle.ang_view.specs.Hidden.{is_unmet, is_with}
use Rattle.ang_view.specs.Registration.{RegistrationList}
use Rattle.ang_check_contest.specs.Scopes.{Scope}
use Rattle.ang_check_denials.specs.Denials.{denied, helps}

or_cases : (a b : Bool) → (a || b) ≡ true → (a ≡ true) ⊎ (b ≡ true)
or_cases true b e = inl refl
or_cases false b e = inr e

or_left : (a b : Bool) → a ≡ true → (a || b) ≡ true
or_left true b e = refl
or_left false b e = cc

or_right : (a b : Bool) → b ≡ true → (a || b) ≡ true
or_right true b e = refl
or_right false b e = e

and_parts : (a b : Bool) → (a && b) ≡ true → (a ≡ true) × (b ≡ true)
and_parts true b e = (refl, e)
and_parts false b e = cc

both : (a b : Bool) → a ≡ true → b ≡ true → (a && b) ≡ true
both true b e f = f
both false b e f = cc

order : (a x : ℕ) → a ≤ x → (a ≡ x) ⊎ (a + 1 ≤ x)
order a x le = grind arith

found_from : (p : ℕ → Bool) (a n : ℕ) → list_any p (range_with_len a n) ≡ true → (x : ℕ) × (x < a + n) × (p x ≡ true)
found_from p a zero e = cc
found_from p a (suc n) e =
    elim (or_cases (p a) (list_any p (range_with_len (a + 1) n)) e) [
      | inl h ↦ (a, omega arith, h)
      | inr h ↦ let rest = found_from p (a + 1) n h in (rest.0, omega (arith, rest.1), rest.2)
    ]

found_at : (p : ℕ → Bool) (a n x : ℕ) → a ≤ x → x < a + n → p x ≡ true → list_any p (range_with_len a n) ≡ true
found_at p a zero x le lt h = absurd (omega (arith, le, lt))
found_at p a (suc n) x le lt h =
    elim (order a x le) [
      | inl same ↦ or_left (p a) (list_any p (range_with_len (a + 1) n)) (subst (λ k. p k ≡ true) (sym same) h)
      | inr less ↦ or_right (p a) (list_any p (range_with_len (a + 1) n)) (found_at p (a + 1) n x less (omega (arith, lt)) h)
    ]

module _ (R : RegistrationList) (m : ℕ) (s : Scope) (r : Refused) (a : Asks) (y : ℕ) where
  abbrev brings : ℕ → Bool
  brings x = helps R m s r a x && is_with R x y

  abbrev Helped : Type 0
  Helped = (x : ℕ) × (x < length R) × (helps R m s r a x ≡ true) × (is_with R x y ≡ true)

  told : denied R m s r a y ≡ true → (is_unmet R m y ≡ true) × Helped
  told e =
      let parts = and_parts (is_unmet R m y) (list_any brings (range_with_len 0 (length R))) e in
      let x = found_from brings 0 (length R) parts.1 in
      let both_parts = and_parts (helps R m s r a x.0) (is_with R x.0 y) x.2 in
      (parts.0, (x.0, omega (arith, x.1), both_parts.0, both_parts.1))

  listed : (is_unmet R m y ≡ true) × Helped → denied R m s r a y ≡ true
  listed h =
      both (is_unmet R m y) (list_any brings (range_with_len 0 (length R))) h.0
      (found_at brings 0 (length R) h.1.0 (omega arith) (omega (arith, h.1.1)) (both (helps R m s r a h.1.0) (is_with R h.1.0 y) h.1.2 h.1.3))

  pub row_helps : (denied R m s r a y ≡ true) ↔ ((is_unmet R m y ≡ true) × Helped)
  row_helps = (told, listed)
