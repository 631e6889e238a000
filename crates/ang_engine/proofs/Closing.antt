-- Whoever uses an entry that names one of a group uses one of the group, where nothing outside names a type of it.
use Rattle.std.proofs.lemmas.Bool.Decides.{eqb_tells}
use Rattle.std.proofs.Common.{inl, inr, ◌≡◌, ◌+◌, ◌<◌, ◌≤◌, refl, ap, sym, ◌∙◌, arith, ℕ, zero, suc, Bool, true, false, not, ◌&&◌, ◌||◌, List, [], ◌∷◌, length, Option, Some, None}
use Rattle.std.specs.Prelude.{is_some}
use Rattle.std.specs.List.{list_any, range_with_len}
use Rattle.ang_view.specs.declared.entry.Entry.{Entry}
use Rattle.ang_view.specs.declared.group.Group.{Group}
use Rattle.ang_view.specs.Groups.{is_in, is_named_outside, names_into}
use Rattle.ang_view.specs.Hidden.{names_entry, numbers_of}
use Rattle.ang_view.specs.Only.{IsWithin}
use Rattle.ang_view.specs.Registration.{RegistrationList, entry_at, is_named_by, named}
use Rattle.ang_view.proofs.Entries.{entry_at-lt}
use Rattle.ang_view.proofs.Grouping.{named_within, none_at, none_kept_at}
use Rattle.ang_engine_modules.specs.Keeping.{keeps, keeps_group}
use Rattle.ang_engine.specs.Groups.{uses_entry, uses_group}

pub no_true : (b : Bool) → b ≡ false → b ≡ true → ⊥
no_true true e t = cc
no_true false e t = cc

from_no_true : (b : Bool) → (b ≡ true → ⊥) → b ≡ false
from_no_true true h = absurd (h refl)
from_no_true false h = refl

pub none_from : (f : ℕ → Bool) (a n : ℕ) → ((k : ℕ) → a ≤ k → k < a + n → f k ≡ false) → list_any f (range_with_len a n) ≡ false
none_from f a zero h = refl
none_from f a (suc n) h =
    let here : f a ≡ false = h a (omega arith) (omega arith) in
    let rest = none_from f (a + 1) n (λ k low high. h k (omega (arith, low)) (omega (arith, high))) in
    both (f a) (list_any f (range_with_len (a + 1) n)) here rest
  where
    both : (b c : Bool) → b ≡ false → c ≡ false → (b || c) ≡ false
    both true c e d = e
    both false c e d = d

less : (b c d : Bool) → (b && (c || d)) ≡ false → (b && c) ≡ false
less true true d e = cc
less true false d e = refl
less false c d e = refl

pub second : (b c : Bool) → (b && c) ≡ false → b ≡ true → c ≡ false
second true c e t = e
second false c e t = cc

by_both : (b c d : Bool) → (b ≡ true → c ≡ false) → (b ≡ true → d ≡ false) → (b && (c || d)) ≡ false
by_both true true d h k = h refl
by_both true false d h k = k refl
by_both false c d h k = refl

pub alike_false : (b c : Bool) → (b ≡ false → c ≡ false) → (c ≡ false → b ≡ false) → b ≡ c
alike_false true true f g = refl
alike_false true false f g = g refl
alike_false false c f g = sym (f refl)

module _ (R V : RegistrationList) (g : Group) (none : is_named_outside R g ≡ false) (within : IsWithin V R) where
  abbrev kept : ℕ → Bool
  kept n = is_in g n && keeps V n

  abbrev used : ℕ → Bool
  used n = is_in g n && uses_entry R V n

  -- an entry that is kept and names one of the group is of the group, and so it is kept there
  names_none : (n k : ℕ) → keeps_group R g V ≡ false → is_in g n ≡ true → (o : Option Entry) → entry_at V k ≡ o → names_entry o n (entry_at R n) ≡ false
  unfolding is_named_outside named
  names_none n k less_kept inside None at = refl
  names_none n k less_kept inside (Some x) at =
      from_no_true (is_named_by x n (entry_at R n))
      (λ names.
      let there : entry_at R k ≡ Some x = within k x at in
      let lt : k < length R = entry_at-lt R k x there in
      let out : is_in g k ≡ false = from_no_true (is_in g k) (λ e. no_true (keeps V k) (second (is_in g k) (keeps V k) (none_at kept 0 (length R) k (omega arith) (omega (arith, lt)) less_kept) e) (ap is_some at)) in
      let here = none_at (λ i. not (is_in g i) && names_into R g (entry_at R i)) 0 (length R) k (omega arith) (omega (arith, lt)) none in
      let into : names_into R g (entry_at R k) ≡ false = second (not (is_in g k)) (names_into R g (entry_at R k)) here (ap not out) in
      let mine : list_any (is_in g) (named R x) ≡ false = sym (ap (names_into R g) there) ∙ into in
      let within_list : n < length R = named_within R x n (entry_at R n) refl names in
      no_true (is_in g n) (none_kept_at (is_in g) (λ i. is_named_by x i (entry_at R i)) 0 (length R) n (omega arith) (omega (arith, within_list)) names mine) inside)

  pub closing : uses_group R g V ≡ keeps_group R g V
  closing =
      alike_false (uses_group R g V) (keeps_group R g V)
      (λ e. none_from kept 0 (length R) (λ n low high. less (is_in g n) (keeps V n) (list_any (λ k. names_entry (entry_at V k) n (entry_at R n)) (numbers_of V)) (none_at used 0 (length R) n low high e)))
      (λ e. none_from used 0 (length R) (λ n low high.
      by_both (is_in g n) (keeps V n) (list_any (λ k. names_entry (entry_at V k) n (entry_at R n)) (numbers_of V))
      (λ inside. second (is_in g n) (keeps V n) (none_at kept 0 (length R) n low high e) inside)
      (λ inside. none_from (λ k. names_entry (entry_at V k) n (entry_at R n)) 0 (length V) (λ k l h. names_none n k e inside (entry_at V k) refl))))
