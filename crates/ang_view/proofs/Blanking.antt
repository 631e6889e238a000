-- An index of a list in which one entry becomes a blank.
use Rattle.std.proofs.lemmas.Bool.Decides.{eqb_tells, leb_tells}
use Rattle.std.specs.Prelude.{slice_set}
use Rattle.std.specs.List.{position_from, position_or_len, range_with_len, remove}
use Rattle.std.proofs.lemmas.Iterator.Adapters.{position_from-zero}
use Rattle.std.proofs.lemmas.Slice.Eq.{bytes_eq-Decides}
use Rattle.std.proofs.Common.{inl, inr, ◌≡◌, ℕ, zero, suc, ◌+◌, ◌<◌, ◌≤◌, ◌==◌, Bool, true, false, cond, ◌&&◌, List, [], ◌∷◌, map, filter, length, Option, Some, None, refl, sym, ap, ◌∙◌, arith, bytes_eq, position, not, nat_le, nat_lt}
use Rattle.ang_index.specs.Rows.{Changes, Rows, is_under, items_at}
use Rattle.ang_kinds.specs.declared.mask.EntityNo.{EntityNo}
use Rattle.ang_view.specs.declared.entry.Entry.{Entry}
use Rattle.ang_view.specs.Blanks.{blanked, left_outside_range, TakesEntry, TakesOut, without_first}
use Rattle.ang_view.specs.Hidden.{shown_from}
use Rattle.ang_view.specs.Only.{kept_entry, only}
use Rattle.ang_view.specs.Named.{Indexes, is_scope, name_in, numbers_at, numbers_under, Scopes, stands_under}
use Rattle.ang_view.specs.Registration.{RegistrationList, entry_at}

unlike : (a n : ℕ) → (a ≡ n → ⊥) → (a == n) ≡ false
unlike a n h = elim (eqb_tells a n) [ inl e ↦ absurd (h e.1) | inr e ↦ e.0 ]

like : (a n : ℕ) → a ≡ n → (a == n) ≡ true
like a n h = elim (eqb_tells a n) [ inl e ↦ e.0 | inr e ↦ absurd (e.1 h) ]

-- ---- numbers of a range

absent : (p : ℕ → Bool) (n a count : ℕ) → n < a → filter p (range_with_len a count) ≡ without_first n (filter p (range_with_len a count))
absent p n a zero lt = refl
absent p n a (suc count) lt = by (p a) (absent p n (a + 1) count (omega (arith, lt)))
  where
    by : (b : Bool) → filter p (range_with_len (a + 1) count) ≡ without_first n (filter p (range_with_len (a + 1) count))
        → cond b (a ∷ filter p (range_with_len (a + 1) count)) (filter p (range_with_len (a + 1) count))
        ≡ without_first n (cond b (a ∷ filter p (range_with_len (a + 1) count)) (filter p (range_with_len (a + 1) count)))
    by true rest =
        ap (λ ks. a ∷ ks) rest
        ∙ sym (ap (λ c. cond c (filter p (range_with_len (a + 1) count)) (a ∷ without_first n (filter p (range_with_len (a + 1) count)))) (unlike a n (λ e. omega (arith, lt, e))))
    by false rest = rest

same_rest : (p q : ℕ → Bool) (n a count : ℕ) → n < a → ((k : ℕ) → (k ≡ n → ⊥) → q k ≡ p k) → filter q (range_with_len a count) ≡ filter p (range_with_len a count)
same_rest p q n a zero lt h = refl
same_rest p q n a (suc count) lt h =
    let here : q a ≡ p a = h a (λ e. omega (arith, lt, e)) in
    let rest = same_rest p q n (a + 1) count (omega (arith, lt)) h in
    λ i. cond (here i) (a ∷ rest i) (rest i)

-- one number fewer passes
module _ (p q : ℕ → Bool) (n a count : ℕ) where
  abbrev rest_before : List ℕ
  rest_before = filter p (range_with_len (a + 1) count)

  abbrev rest_after : List ℕ
  rest_after = filter q (range_with_len (a + 1) count)

  at_it : a ≡ n → rest_after ≡ rest_before → rest_before ≡ without_first n rest_before → q a ≡ false → (b : Bool) → cond (q a) (a ∷ rest_after) rest_after ≡ without_first n (cond b (a ∷ rest_before) rest_before)
  at_it e same none gone true = ap (λ c. cond c (a ∷ rest_after) rest_after) gone ∙ same ∙ sym (ap (λ c. cond c rest_before (a ∷ without_first n rest_before)) (like a n e))
  at_it e same none gone false = ap (λ c. cond c (a ∷ rest_after) rest_after) gone ∙ same ∙ none

  apart_from_it : (a ≡ n → ⊥) → rest_after ≡ without_first n rest_before → (b : Bool) → q a ≡ b → cond (q a) (a ∷ rest_after) rest_after ≡ without_first n (cond b (a ∷ rest_before) rest_before)
  apart_from_it other later true e =
      ap (λ c. cond c (a ∷ rest_after) rest_after) e ∙ ap (λ ks. a ∷ ks) later ∙ sym (ap (λ c. cond c rest_before (a ∷ without_first n rest_before)) (unlike a n other))
  apart_from_it other later false e = ap (λ c. cond c (a ∷ rest_after) rest_after) e ∙ later

pub one_fewer : (p q : ℕ → Bool) (n a count : ℕ) → ((k : ℕ) → (k ≡ n → ⊥) → q k ≡ p k) → q n ≡ false → filter q (range_with_len a count) ≡ without_first n (filter p (range_with_len a count))
one_fewer p q n a zero h none = refl
one_fewer p q n a (suc count) h none =
    let later = one_fewer p q n (a + 1) count h none in
    elim (eqb_tells a n) [
      | inl e ↦ at_it p q n a count e.1 (same_rest p q n (a + 1) count (omega (arith, e.1)) h) (absent p n (a + 1) count (omega (arith, e.1))) (ap q e.1 ∙ none) (p a)
      | inr e ↦ apart_from_it p q n a count e.1 later (p a) (h a e.1)
    ]

none_fewer : (p q : ℕ → Bool) (a count : ℕ) → ((k : ℕ) → q k ≡ p k) → filter q (range_with_len a count) ≡ filter p (range_with_len a count)
none_fewer p q a zero h = refl
none_fewer p q a (suc count) h = let rest = none_fewer p q (a + 1) count h in λ i. cond (h a i) (a ∷ rest i) (rest i)

-- ---- a list with a blank more

blank_at : (V : RegistrationList) (n : ℕ) → entry_at (blanked V n) n ≡ None
blank_at [] n = refl
blank_at (x ∷ xs) zero = refl
blank_at (x ∷ xs) (suc n) = blank_at xs n

blank_apart : (V : RegistrationList) (n k : ℕ) → (k ≡ n → ⊥) → entry_at (blanked V n) k ≡ entry_at V k
blank_apart [] n k h = refl
blank_apart (x ∷ xs) zero zero h = absurd (h refl)
blank_apart (x ∷ xs) zero (suc k) h = refl
blank_apart (x ∷ xs) (suc n) zero h = refl
blank_apart (x ∷ xs) (suc n) (suc k) h = blank_apart xs n k (λ e. h (ap suc e))

blank_length : (V : RegistrationList) (n : ℕ) → length (blanked V n) ≡ length V
blank_length [] n = refl
blank_length (x ∷ xs) zero = refl
blank_length (x ∷ xs) (suc n) = ap suc (blank_length xs n)

module _ (scope_of : Scopes) (nowhere : scope_of None ≡ None) (V : RegistrationList) (n : ℕ) where
  abbrev before : ℕ → List ℕ → ℕ → Bool
  before s name k = stands_under scope_of s name (entry_at V k)

  abbrev after : ℕ → List ℕ → ℕ → Bool
  after s name k = stands_under scope_of s name (entry_at (blanked V n) k)

  gone : (s : ℕ) (name : List ℕ) → after s name n ≡ false
  gone s name = ap (stands_under scope_of s name) (blank_at V n) ∙ ap (λ o. is_scope s o && bytes_eq (name_in None) name) nowhere

  others : (s : ℕ) (name : List ℕ) (k : ℕ) → (k ≡ n → ⊥) → after s name k ≡ before s name k
  others s name k h = ap (stands_under scope_of s name) (blank_apart V n k h)

  all_same : (s : ℕ) (name : List ℕ) → before s name n ≡ false → (k : ℕ) → after s name k ≡ before s name k
  all_same s name e k = elim (eqb_tells k n) [ inl h ↦ ap (after s name) h.1 ∙ gone s name ∙ sym e ∙ sym (ap (before s name) h.1) | inr h ↦ others s name k h.1 ]

  fewer : (s : ℕ) (name : List ℕ) (b : Bool) → before s name n ≡ b → numbers_under scope_of (blanked V n) s name (length (blanked V n)) ≡ cond b (without_first n (numbers_under scope_of V s name (length V))) (numbers_under scope_of V s name (length V))
  unfolding numbers_under
  fewer s name true e =
      ap (λ count. filter (after s name) (range_with_len 0 count)) (blank_length V n) ∙ one_fewer (before s name) (after s name) n 0 (length V) (others s name) (gone s name)
  fewer s name false e =
      ap (λ count. filter (after s name) (range_with_len 0 count)) (blank_length V n) ∙ none_fewer (before s name) (after s name) 0 (length V) (all_same s name e)

  -- its number is taken out where it stood
  pub blank_indexed : (old new : Rows EntityNo) (scope : ℕ) (name : List ℕ) → Some scope ≡ scope_of (entry_at V n) → name ≡ name_in (entry_at V n) → TakesOut old new scope name n → Indexes scope_of V old
      → Indexes scope_of (blanked V n) new
  blank_indexed old new scope name at called takes h = record {
    same = λ s other.
        takes s other
        ∙ ap (λ ns. cond (is_under s other (scope, name)) (without_first n ns) ns) (h.same s other)
        ∙ ap (λ b. cond b (without_first n (numbers_under scope_of V s other (length V))) (numbers_under scope_of V s other (length V))) (λ i. is_scope s (at i) && bytes_eq (called i) other)
        ∙ sym (fewer s other (before s other n) refl);
  }

  -- or it stood nowhere
  pub blank_unindexed : (rows : Rows EntityNo) → None ≡ scope_of (entry_at V n) → Indexes scope_of V rows → Indexes scope_of (blanked V n) rows
  blank_unindexed rows at h = record {
    same = λ s other.
        h.same s other
        ∙ sym (fewer s other (before s other n) refl ∙ ap (λ b. cond b (without_first n (numbers_under scope_of V s other (length V))) (numbers_under scope_of V s other (length V))) (λ i. is_scope s (sym at i) && bytes_eq (name_in (entry_at V n)) other));
  }

pub entry_blanked : (scope_of : Scopes) (o : Option Entry) (scope : ℕ) (name : List ℕ) (n : ℕ) (old new : Rows EntityNo) → scope_of None ≡ None → Some scope ≡ scope_of o → name ≡ name_in o → TakesOut old new scope name n
    → TakesEntry scope_of old new o n
entry_blanked scope_of o scope name n old new nowhere at called takes V is h = blank_indexed scope_of nowhere V n old new scope name (at ∙ ap scope_of is) (called ∙ ap name_in is) takes h

pub nothing_blanked : (scope_of : Scopes) (o : Option Entry) (n : ℕ) (rows : Rows EntityNo) → scope_of None ≡ None → None ≡ scope_of o → TakesEntry scope_of rows rows o n
nothing_blanked scope_of o n rows nowhere at V is h = blank_unindexed scope_of nowhere V n rows (at ∙ ap scope_of is) h

-- ---- the first place of a number

module _ (n : ℕ) where
  abbrev is_it : EntityNo → Bool
  is_it e = e.0 == n

  abbrev plain : List EntityNo → List ℕ
  plain es = map (λ (e : EntityNo). e.0) es

  at_first : (es : List EntityNo) → plain (remove es (position_or_len is_it es)) ≡ without_first n (plain es)
  at_first [] = refl
  at_first (e ∷ es) = by (e.0 == n) (at_first es)
    where
      by : (b : Bool) → plain (remove es (position_or_len is_it es)) ≡ without_first n (plain es)
          → plain (remove (e ∷ es) (cond (not b) (1 + position_or_len is_it es) 0)) ≡ cond b (plain es) (e.0 ∷ without_first n (plain es))
      by true rest = refl
      by false rest =
          let up : 1 + position_or_len is_it es ≡ suc (position_or_len is_it es) = omega arith in
          ap (λ place. plain (remove (e ∷ es) place)) up ∙ ap (λ ks. e.0 ∷ ks) rest

  at_none : (i : ℕ) (es : List EntityNo) → position_from is_it i es ≡ None → plain es ≡ without_first n (plain es)
  at_none i [] none = refl
  at_none i (e ∷ es) none = by (e.0 == n) none (at_none (i + 1) es)
    where
      by : (b : Bool) → cond b (Some i) (position_from is_it (i + 1) es) ≡ None → (position_from is_it (i + 1) es ≡ None → plain es ≡ without_first n (plain es))
          → e.0 ∷ plain es ≡ cond b (plain es) (e.0 ∷ without_first n (plain es))
      by true h rest = cc
      by false h rest = ap (λ ks. e.0 ∷ ks) (rest h)

  some_is : (b : Bool) (i place : ℕ) → cond b (Some i) None ≡ Some place → i ≡ place
  some_is true i place e = cc
  some_is false i place e = cc

  some_within : (i k place : ℕ) → cond (nat_lt i k) (Some i) None ≡ Some place → place < k
  some_within i k place e = search (arith, e)

  pub place_within : (es : List EntityNo) (place : ℕ) → position is_it es ≡ Some place → place < length es
  place_within es place e = some_within (position_or_len is_it es) (length es) place e

  number_gone : (es : List EntityNo) (place : ℕ) → position is_it es ≡ Some place → plain (remove es place) ≡ without_first n (plain es)
  number_gone es place e = sym (ap (λ i. plain (remove es i)) (some_is _ (position_or_len is_it es) place e)) ∙ at_first es

record IsThere (s scope : ℕ) (other name : List ℕ) : Type 0 where
  same_scope : scope ≡ s
  same_name : name ≡ other

is_there : (s scope : ℕ) (other name : List ℕ) → is_under s other (scope, name) ≡ true → IsThere s scope other name
is_there s scope other name e =
    let r = both_hold (scope == s) (bytes_eq name other) e in
    record {
      same_scope = search (arith, r.0);
      same_name = (bytes_eq-Decides name other).0 r.1;
    }
  where
    both_hold : (b c : Bool) → (b && c) ≡ true → (b ≡ true) × (c ≡ true)
    both_hold true c e = (refl, e)
    both_hold false c e = cc

taken_where : (n place : ℕ) (row : List EntityNo) (b : Bool) → (b ≡ true → plain n (remove row place) ≡ without_first n (plain n row))
    → plain n (cond b (remove row place) row) ≡ cond b (without_first n (plain n row)) (plain n row)
taken_where n place row true h = h refl
taken_where n place row false h = refl

pub number_taken : (old new : Rows EntityNo) (scope : ℕ) (name : List ℕ) (n place : ℕ) → Some place ≡ position (λ (e : EntityNo). e.0 == n) (items_at scope name old)
    → Changes old new scope name (λ row. remove row place) → TakesOut old new scope name n
number_taken old new scope name n place found changes s other =
    ap (plain n) (changes s other)
    ∙ taken_where n place (items_at s other old) (is_under s other (scope, name))
    (λ e.
    let r = is_there s scope other name e in
    number_gone n (items_at s other old) place ((λ i. position (is_it n) (items_at (sym r.same_scope i) (sym r.same_name i) old)) ∙ sym found))

absent_where : (n : ℕ) (row : List EntityNo) (b : Bool) → (b ≡ true → plain n row ≡ without_first n (plain n row)) → plain n row ≡ cond b (without_first n (plain n row)) (plain n row)
absent_where n row true h = h refl
absent_where n row false h = refl

pub number_absent : (rows : Rows EntityNo) (scope : ℕ) (name : List ℕ) (n : ℕ) → None ≡ position (λ (e : EntityNo). e.0 == n) (items_at scope name rows) → TakesOut rows rows scope name n
number_absent rows scope name n none s other =
    absent_where n (items_at s other rows) (is_under s other (scope, name))
    (λ e.
    let r = is_there s scope other name e in
    at_none n 0 (items_at s other rows) (sym (position_from-zero (is_it n) (items_at s other rows)) ∙ (λ i. position (is_it n) (items_at (sym r.same_scope i) (sym r.same_name i) rows)) ∙ sym none))

-- ---- one entry after another

shown_same : (keep less : ℕ → Bool) (a : ℕ) (R : RegistrationList) → ((k : ℕ) → a ≤ k → keep k ≡ less k) → shown_from (kept_entry keep) a R ≡ shown_from (kept_entry less) a R
shown_same keep less a [] h = refl
shown_same keep less a (x ∷ xs) h =
    let here = h a (omega arith) in
    let rest = shown_same keep less (a + 1) xs (λ k low. h k (omega (arith, low))) in
    λ i. cond (here i) x None ∷ rest i

shown_blanked : (keep less : ℕ → Bool) (a n : ℕ) (R : RegistrationList) → ((k : ℕ) → (k ≡ a + n → ⊥) → keep k ≡ less k) → less (a + n) ≡ false
    → blanked (shown_from (kept_entry keep) a R) n ≡ shown_from (kept_entry less) a R
shown_blanked keep less a n [] h gone = refl
shown_blanked keep less a zero (x ∷ xs) h gone =
    let here : a + 0 ≡ a = omega arith in
    let none : less a ≡ false = sym (ap less here) ∙ gone in
    let rest = shown_same keep less (a + 1) xs (λ k low. h k (λ e. omega (arith, low, e))) in
    λ i. cond (sym none i) x None ∷ rest i
shown_blanked keep less a (suc n) (x ∷ xs) h gone =
    let up : (a + 1) + n ≡ a + suc n = omega arith in
    let here = h a (λ e. omega (arith, e)) in
    let rest = shown_blanked keep less (a + 1) n xs (λ k apart. h k (λ e. apart (e ∙ sym up))) (ap less up ∙ gone) in
    λ i. cond (here i) x None ∷ rest i

-- all entries from a number up to this one are blanks already, and it becomes one
pub one_blank_more : (first n : ℕ) (R : RegistrationList) → first ≤ n → blanked (only (left_outside_range first n) R) n ≡ only (left_outside_range first (n + 1)) R
unfolding only
one_blank_more first n R low =
    shown_blanked (left_outside_range first n) (left_outside_range first (n + 1)) 0 n R (λ k apart. search (arith, apart)) (search (arith, low))

pub none_blank : (first bound : ℕ) (R : RegistrationList) → bound ≤ first → only (left_outside_range first bound) R ≡ R
unfolding only
none_blank first bound R low = all_kept 0 R
  where
    all_kept : (a : ℕ) (R : RegistrationList) → shown_from (kept_entry (left_outside_range first bound)) a R ≡ R
    all_kept a [] = refl
    all_kept a (x ∷ xs) =
        let here : left_outside_range first bound a ≡ true = search (arith, low) in
        let rest = all_kept (a + 1) xs in
        λ i. cond (here i) x None ∷ rest i

-- a count that has come to the bound leaves none; it begins there where the range has no number
pub all_blank : (first n bound : ℕ) (R : RegistrationList) → first ≤ n → bound ≤ n → (first ≤ bound → n ≤ bound) → (bound ≤ first → n ≤ first)
    → only (left_outside_range first n) R ≡ only (left_outside_range first bound) R
unfolding only
all_blank first n bound R low high at_end none =
    shown_same (left_outside_range first n) (left_outside_range first bound) 0 R
    (λ k from.
    elim (leb_tells first bound) [
      | inl e ↦ (let same : n ≡ bound = omega (arith, high, at_end e.1) in ap (λ m. left_outside_range first m k) same)
      | inr e ↦ (let back : bound ≤ first = omega (arith, e.1) in let stays : n ≤ first = none back in search (arith, e.1, stays))
    ])
