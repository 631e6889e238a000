-- Where a hidden entry is added a bare name means it as a value just where it is the only one of the name.
use Rattle.std.specs.Prelude.{ℕ, zero, suc, ◌≡◌, ◌≢◌, ◌+◌, ◌≤◌, ◌<◌, ◌==◌, Bool, true, false, cond, not, ◌&&◌, ◌||◌, is_some, List, [], ◌∷◌, filter, length, bytes_eq, Option, Some, None}
use Rattle.std.specs.List.{range_with_len}
use Rattle.std.proofs.Common.{arith, refl, sym, ap, ◌∙◌}
use Rattle.ang_kinds.specs.declared.mask.EntityNo.{EntityNo}
use Rattle.ang_view.specs.declared.entry.Entry.{Entry}
use Rattle.ang_view.specs.declared.entry.EntryKind.{EntryKind}
use Rattle.ang_view.specs.declared.entry.EntryKind.TheVariants as entry
use Rattle.ang_view.specs.Hidden.{is_with, names_entry, numbers_of, seen_entry_with, seen_with}
use Rattle.ang_view.specs.Named.{is_value, is_value_named, values_named}
use Rattle.ang_view.specs.Registration.{RegistrationList, entry_at, is_named_by, is_number, is_seen, is_type, mentions, seen, seen_entry}
use Rattle.ang_view.proofs.Entries.{entry_at-lt}
use Rattle.ang_view.proofs.Seen.{entry_at-seen, length-seen}
use Rattle.ang_names_known.specs.Items.{is_empty}
use Rattle.ang_check_contest.proofs.Adding.{entry_at-seen_with, length-seen_with}
use Rattle.ang_check_uses.specs.Uses.{one_value, value_among, value_at, value_by, value_in, value_meant}
use Rattle.ang_check_denials.specs.Added.{is_value_at}
use Rattle.ang_check_denials.specs.Denials.{means_entry}

-- ---- what one of some values is meant

-- number x is the only one of these, and passes a test
abbrev only : (ℕ → Bool) → ℕ → List ℕ → Bool
only passes x [] = false
only passes x (n ∷ []) = passes n && n == x
only passes x (n ∷ k ∷ rest) = false

meant_by : (x n : ℕ) (k : EntryKind) (o : Option EntityNo) → means_entry x (one_value (value_by n k o)) ≡ (is_some (value_by n k o) && n == x)
meant_by x n entry.HostType o = refl
meant_by x n entry.Factory o = refl
meant_by x n entry.Method o = refl
meant_by x n entry.Property o = refl
meant_by x n entry.Function o = refl
meant_by x n entry.Global o = refl
meant_by x n entry.Enumeration o = refl
meant_by x n (entry.EnumValue v) None = refl
meant_by x n (entry.EnumValue v) (Some e) = refl

meant_in : (x n : ℕ) (o : Option Entry) → means_entry x (one_value (value_in n o)) ≡ (is_some (value_in n o) && n == x)
meant_in x n None = refl
meant_in x n (Some y) = meant_by x n y.kind y.owner

meant_among : (V : RegistrationList) (x : ℕ) (ns : List ℕ) → means_entry x (value_among V ns) ≡ only (λ n. is_some (value_at V n)) x ns
meant_among V x [] = refl
meant_among V x (n ∷ []) = meant_in x n (entry_at V n)
meant_among V x (n ∷ k ∷ rest) = refl

-- ---- one number more among some

and_none : (b : Bool) → (b && false) ≡ false
and_none true = refl
and_none false = refl

and_all : (b : Bool) → (b && true) ≡ b
and_all true = refl
and_all false = refl

pub is_itself : (n x : ℕ) → n ≡ x → (n == x) ≡ true
is_itself n x e = search (arith, e)

pub is_other : (n x : ℕ) → n ≢ x → (n == x) ≡ false
is_other n x e = search (arith, e)

module _ (passes : ℕ → Bool) (x : ℕ) where
  -- another one in front
  not_only : (n : ℕ) (ks : List ℕ) → (n == x) ≡ false → only passes x (n ∷ ks) ≡ false
  not_only n [] e = ap (λ b. passes n && b) e ∙ and_none (passes n)
  not_only n (k ∷ ks) e = refl

  itself_only : (n : ℕ) (ks : List ℕ) → n ≡ x → only passes x (n ∷ ks) ≡ (passes x && is_empty ks)
  itself_only n [] e = ap (λ b. passes n && b) (is_itself n x e) ∙ ap (λ k. passes k && true) e
  itself_only n (k ∷ ks) e = sym (and_none (passes x))

  module _ (p : ℕ → Bool) (none : p x ≡ false) where
    other_one : (k : ℕ) → p k ≡ true → (k == x) ≡ false
    other_one k e = is_other k x (λ s. let no' : true ≡ false = sym e ∙ ap p s ∙ none in cc)

    none_by : (k : ℕ) (ks : List ℕ) (b : Bool) → p k ≡ b → only passes x ks ≡ false → only passes x (cond b (k ∷ ks) ks) ≡ false
    none_by k ks true e f = not_only k ks (other_one k e)
    none_by k ks false e f = f

    -- what fails a test is none of those that pass it
    none_of_these : (ks : List ℕ) → only passes x (filter p ks) ≡ false
    none_of_these [] = refl
    none_of_these (k ∷ ks) = none_by k (filter p ks) (p k) refl (none_of_these ks)

    module _ (q : ℕ → Bool) (same : (k : ℕ) → k ≢ x → q k ≡ p k) where
      past : (n count : ℕ) → x < n → filter q (range_with_len n count) ≡ filter p (range_with_len n count)
      past n zero lt = refl
      past n (suc count) lt =
          let apart : n ≢ x = omega (arith, lt) in
          let here = same n apart in
          let rest = past (n + 1) count (omega (arith, lt)) in
          λ i. cond (here i) (n ∷ rest i) (rest i)

      here_by : (n : ℕ) (ks : List ℕ) (b : Bool) → n ≡ x → only passes x ks ≡ false → only passes x (cond b (n ∷ ks) ks) ≡ ((b && passes x) && is_empty ks)
      here_by n ks true e f = itself_only n ks e
      here_by n ks false e f = f

      before_by : (n : ℕ) (ks qs : List ℕ) (b t : Bool) → (n == x) ≡ false → only passes x qs ≡ (t && is_empty ks)
          → only passes x (cond b (n ∷ qs) qs) ≡ (t && is_empty (cond b (n ∷ ks) ks))
      before_by n ks qs true t e f = not_only n qs e ∙ sym (and_none t)
      before_by n ks qs false t e f = f

      none_left : (b g : Bool) (n : ℕ) → n ≤ x → (b ≡ true → x < n + 0) → false ≡ ((b && g) && true)
      none_left true g n le h = absurd (omega (arith, le, h refl))
      none_left false g n le h = refl

      by_place : (n count : ℕ) (t : Bool) → (n == x) ≡ t
          → (n ≢ x → only passes x (filter q (range_with_len (n + 1) count)) ≡ ((q x && passes x) && is_empty (filter p (range_with_len (n + 1) count))))
          → only passes x (filter q (range_with_len n (suc count))) ≡ ((q x && passes x) && is_empty (filter p (range_with_len n (suc count))))
      by_place n count true t after =
          let is : n ≡ x = search (arith, t) in
          let up : x < n + 1 = omega (arith, is) in
          let rest = past (n + 1) count up in
          let ks : List ℕ = filter p (range_with_len (n + 1) count) in
          (λ i. only passes x (cond (q (is i)) (n ∷ rest i) (rest i)))
          ∙ here_by n ks (q x) is (none_of_these (range_with_len (n + 1) count))
          ∙ sym (ap (λ b. (q x && passes x) && is_empty (cond b (n ∷ ks) ks)) (ap p is ∙ none))
      by_place n count false t after =
          let apart : n ≢ x = search (arith, t) in
          let ks : List ℕ = filter p (range_with_len (n + 1) count) in
          let qs : List ℕ = filter q (range_with_len (n + 1) count) in
          ap (λ b. only passes x (cond b (n ∷ qs) qs)) (same n apart)
          ∙ before_by n ks qs (p n) (q x && passes x) t (after apart)

      -- the number is the only one just where it passes and there is no other one
      one_more_only : (n count : ℕ) → n ≤ x → (q x ≡ true → x < n + count)
          → only passes x (filter q (range_with_len n count)) ≡ ((q x && passes x) && is_empty (filter p (range_with_len n count)))
      one_more_only n zero le within = none_left (q x) (passes x) n le within
      one_more_only n (suc count) le within =
          by_place n count (n == x) refl
          (λ apart. one_more_only (n + 1) count (omega (arith, le, apart)) (λ e. let lt = within e in omega (arith, lt)))

-- ---- what comes with an entry is no value

type_is_no_value : (k : EntryKind) → is_type k ≡ true → is_value k ≡ false
type_is_no_value entry.HostType e = refl
type_is_no_value entry.Factory e = cc
type_is_no_value entry.Method e = cc
type_is_no_value entry.Property e = cc
type_is_no_value entry.Function e = cc
type_is_no_value entry.Global e = cc
type_is_no_value entry.Enumeration e = refl
type_is_no_value (entry.EnumValue v) e = cc

middle_holds : (a b c : Bool) → ((a && b) && c) ≡ true → b ≡ true
middle_holds true true c e = refl
middle_holds true false c e = cc
middle_holds false b c e = cc

named_is_type : (o : Option Entry) (k : ℕ) (t : Entry) → names_entry o k (Some t) ≡ true → is_type t.kind ≡ true
named_is_type None k t e = cc
named_is_type (Some x) k t e = middle_holds (not (is_type x.kind)) (is_type t.kind) (is_number k x.owner || mentions x.signature t.signature.name) e

no_value_either : (name : List ℕ) (t : Entry) (s : Bool) → is_type t.kind ≡ true → is_value_named name (cond s (Some t) None) ≡ false
no_value_either name t true e = ap (λ b. b && bytes_eq t.signature.name name) (type_is_no_value t.kind e)
no_value_either name t false e = refl

module _ (R : RegistrationList) (m x : ℕ) (name : List ℕ) where
  same_by : (k : ℕ) (o : Option Entry) (b : Bool) → names_entry (entry_at R x) k o ≡ b
      → is_value_named name (cond b o (seen_entry R m o)) ≡ is_value_named name (seen_entry R m o)
  same_by k None true e = refl
  same_by k None false e = refl
  same_by k (Some t) true e =
      let is = named_is_type (entry_at R x) k t e in
      no_value_either name t true is ∙ sym (no_value_either name t (is_seen R m t) is)
  same_by k (Some t) false e = refl

  -- the values of the larger view are those of the view, but for the entry that is added
  same_elsewhere : (k : ℕ) → k ≢ x → is_value_named name (entry_at (seen_with R m x) k) ≡ is_value_named name (entry_at (seen R m) k)
  same_elsewhere k apart =
      ap (is_value_named name) (entry_at-seen_with R m x k)
      ∙ ap (λ t. is_value_named name (cond (t || names_entry (entry_at R x) k (entry_at R k)) (entry_at R k) (seen_entry R m (entry_at R k)))) (is_other k x apart)
      ∙ same_by k (entry_at R k) (names_entry (entry_at R x) k (entry_at R k)) refl
      ∙ sym (ap (is_value_named name) (entry_at-seen R m k))

added_itself : (R : RegistrationList) (m x : ℕ) → entry_at (seen_with R m x) x ≡ entry_at R x
added_itself R m x =
    entry_at-seen_with R m x x
    ∙ ap (λ t. cond (t || names_entry (entry_at R x) x (entry_at R x)) (entry_at R x) (seen_entry R m (entry_at R x))) (is_itself x x refl)

value_within : (R : RegistrationList) (name : List ℕ) (x : ℕ) (o : Option Entry) → entry_at R x ≡ o → is_value_named name o ≡ true → x < length R
value_within R name x None e v = cc
value_within R name x (Some t) e v = entry_at-lt R x t e

-- With a hidden entry added a name means it as a value just where it is one of the name, and none of those that are seen is.
pub value_added : (R : RegistrationList) (m x : ℕ) (name : List ℕ) → entry_at (seen R m) x ≡ None
    → means_entry x (value_meant (seen_with R m x) name) ≡ (is_value_at name x (entry_at R x) && is_empty (values_named (seen R m) name))
unfolding value_meant values_named
value_added R m x name unseen =
    let V = seen_with R m x in
    let S = seen R m in
    let q : ℕ → Bool = λ k. is_value_named name (entry_at V k) in
    let p : ℕ → Bool = λ k. is_value_named name (entry_at S k) in
    let itself : q x ≡ is_value_named name (entry_at R x) = ap (is_value_named name) (added_itself R m x) in
    let many : length V ≡ length R = length-seen_with R m x in
    let seen_many : length S ≡ length R = length-seen R m in
    let low : 0 ≤ x = omega arith in
    meant_among V x (filter q (numbers_of V))
    ∙ ap (λ n. only (λ k. is_some (value_at V k)) x (filter q (range_with_len 0 n))) many
    ∙ one_more_only (λ k. is_some (value_at V k)) x p (ap (is_value_named name) unseen) q (same_elsewhere R m x name) 0 (length R) low
    (λ e. let lt : x < length R = value_within R name x (entry_at R x) refl (sym itself ∙ e) in omega (arith, lt))
    ∙ (λ i. (itself i && is_some (value_in x (added_itself R m x i))) && is_empty (filter p (range_with_len 0 (sym seen_many i))))
