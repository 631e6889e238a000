-- Groups: the one that has a name, those that were ended, and that each lies within the list.
use Rattle.std.proofs.Common.{inl, inr, ◌≡◌, ℕ, zero, suc, ◌+◌, ◌-◌, ◌<◌, ◌≤◌, Bool, true, false, cond, if◌then◌else◌, List, [], ◌∷◌, ◌++◌, length, All, Option, Some, None, IfSome, find, refl, sym, ap, ◌∙◌, subst, arith, nat_lt, get_or, slice_get, slice_set, take, drop}
use Rattle.std.specs.List.{IsLastAndRest, position, position_or_len, remove}
use Rattle.std.proofs.lemmas.Bool.{cases_lt}
use Rattle.std.proofs.lemmas.Bool.Decides.{nat_tests}
use Rattle.std.proofs.lemmas.List.{append-nil, drop_all, take_all}
use Rattle.std.proofs.lemmas.List.Folds.{find_at}
use Rattle.std.proofs.lemmas.List.Quantifiers.{position-Some}
use Rattle.std.proofs.lemmas.Slice.Eq.{bytes_eq-Decides}
use Rattle.ang_view.specs.declared.group.Group.{Group}
use Rattle.ang_view.specs.Groups.{group_named, is_called, is_named_outside, left_outside, without_group, without_name}
use Rattle.ang_view.specs.Only.{only}
use Rattle.ang_view.specs.Registration.{RegistrationList}
use Rattle.ang_registry.specs.declared.error.GroupError.TheVariants.{InUse}
use Rattle.ang_registry.specs.Groups.{ended_at, refusal_of_removal, removal_row, where_found, with_removed, with_removed_at, without}
use Rattle.ang_registry.specs.Registrations.{Registrations, AreGroups, IsWithinList, closed, closed_of, grouped, without_last}

-- ---- the first group of a name

-- the first group that passes stands at this place
abbrev pub IsFirst : (Group → Bool) → List Group → ℕ → Type 0
IsFirst p [] i = ⊥
IsFirst p (g ∷ gs) zero = p g ≡ true
IsFirst p (g ∷ gs) (suc i) = (p g ≡ false) × IsFirst p gs i

no_group : Group
no_group = record { name = []; first = 0; after = 0 }

first_at : (p : Group → Bool) (gs : List Group) (i : ℕ) → i < length gs → p (get_or gs i no_group) ≡ true → ((k : ℕ) → k < i → p (get_or gs k no_group) ≡ false)
    → IsFirst p gs i
first_at p [] i lt here before = absurd (omega (arith, lt))
first_at p (g ∷ gs) zero lt here before = here
first_at p (g ∷ gs) (suc i) lt here before =
    (before 0 (omega arith), first_at p gs i (omega (arith, lt)) here (λ k l. before (suc k) (omega (arith, l))))

pub is_first : (p : Group → Bool) (gs : List Group) (i : ℕ) → Some i ≡ position p gs → IsFirst p gs i
is_first p gs i e = let h = position-Some p gs i no_group (sym e) in first_at p gs i h.0 h.1 h.2

pub first_within : (p : Group → Bool) (gs : List Group) (i : ℕ) → IsFirst p gs i → i < length gs
first_within p [] i h = absurd h
first_within p (g ∷ gs) zero h = omega arith
first_within p (g ∷ gs) (suc i) h = let l = first_within p gs i h.1 in omega arith

-- it is the one that is found
pub first_found : (p : Group → Bool) (gs : List Group) (i : ℕ) → IsFirst p gs i → find p gs ≡ slice_get gs i
first_found p [] i h = absurd h
first_found p (g ∷ gs) zero h = ap (λ b. cond b (Some g) (find p gs)) h
first_found p (g ∷ gs) (suc i) h = ap (λ b. cond b (Some g) (find p gs)) h.0 ∙ first_found p gs i h.1

past_end : (gs : List Group) (i : ℕ) → length gs ≤ i → slice_get gs i ≡ None
past_end [] i h = refl
past_end (g ∷ gs) zero h = absurd (omega (arith, h))
past_end (g ∷ gs) (suc i) h = past_end gs i (omega (arith, h))

-- where none has a place, none is found
pub none_found : (p : Group → Bool) (gs : List Group) → None ≡ position p gs → find p gs ≡ None
none_found p gs none =
    elim (cases_lt (position_or_len p gs) (length gs)) [
      | inl under ↦
          let within : nat_lt (position_or_len p gs) (length gs) ≡ true = grind (arith, nat_tests) in
          let bad : None ≡ Some (position_or_len p gs) = none ∙ ap (λ b. cond b (Some (position_or_len p gs)) None) within in
          cc
      | inr over ↦ find_at p gs ∙ past_end gs (position_or_len p gs) over
    ]

-- ---- those that were ended

before_last : (rest : List Group) (g : Group) → without_last (rest ++ g ∷ []) ≡ rest
before_last [] g = refl
before_last (x ∷ []) g = refl
before_last (x ∷ y ∷ rest) g = ap (λ gs. x ∷ gs) (before_last (y ∷ rest) g)

pub all_but_last : (gs rest : List Group) (g : Group) → IsLastAndRest gs g rest → rest ≡ without_last gs
all_but_last gs rest g h = sym (ap without_last h.0 ∙ before_last rest g)

pub none_to_leave : (gs : List Group) → length gs ≡ 0 → gs ≡ without_last gs
none_to_leave [] e = refl
none_to_leave (g ∷ gs) e = absurd (omega (arith, e))

-- the first of these is the first of all
in_front : (p : Group → Bool) (gs : List Group) (i : ℕ) → IsFirst p (without_last gs) i → IsFirst p gs i
in_front p [] i h = absurd h
in_front p (g ∷ []) i h = absurd h
in_front p (g ∷ x ∷ gs) zero h = h
in_front p (g ∷ x ∷ gs) (suc i) h = (h.0, in_front p (x ∷ gs) i h.1)

pub first_of_all : (p : Group → Bool) (gs : List Group) (is_open : Bool) (i : ℕ) → IsFirst p (closed_of is_open gs) i → IsFirst p gs i
first_of_all p gs true i h = in_front p gs i h
first_of_all p gs false i h = h

same_at : (gs : List Group) (i : ℕ) → i < length (without_last gs) → slice_get (without_last gs) i ≡ slice_get gs i
same_at [] i lt = refl
same_at (g ∷ []) i lt = absurd (omega (arith, lt))
same_at (g ∷ x ∷ gs) zero lt = refl
same_at (g ∷ x ∷ gs) (suc i) lt = same_at (x ∷ gs) i (omega (arith, lt))

pub stands_at : (gs : List Group) (is_open : Bool) (i : ℕ) → i < length (closed_of is_open gs) → slice_get (closed_of is_open gs) i ≡ slice_get gs i
stands_at gs true i lt = same_at gs i lt
stands_at gs false i lt = refl

-- ---- one that is taken out

pub taken_out : (name : List ℕ) (gs : List Group) (i : ℕ) → IsFirst (is_called name) gs i → remove gs i ≡ without_name name gs
taken_out name [] i h = absurd h
taken_out name (g ∷ gs) zero h = ap (λ b. if b then gs else (g ∷ without_name name gs)) (sym h)
taken_out name (g ∷ gs) (suc i) h =
    ap (λ hs. g ∷ hs) (taken_out name gs i h.1) ∙ ap (λ b. if b then gs else (g ∷ without_name name gs)) (sym h.0)

-- it is no matter whether the last one stands behind them
taken_in_front : (name : List ℕ) (gs : List Group) (i : ℕ) → IsFirst (is_called name) (without_last gs) i
    → without_last (without_name name gs) ≡ without_name name (without_last gs)
taken_in_front name [] i h = absurd h
taken_in_front name (g ∷ []) i h = absurd h
taken_in_front name (g ∷ x ∷ gs) zero h =
    ap (λ b. without_last (if b then x ∷ gs else (g ∷ without_name name (x ∷ gs)))) h
    ∙ ap (λ b. if b then without_last (x ∷ gs) else (g ∷ without_name name (without_last (x ∷ gs)))) (sym h)
taken_in_front name (g ∷ x ∷ gs) (suc i) h =
    ap (λ b. without_last (if b then x ∷ gs else (g ∷ without_name name (x ∷ gs)))) h.0
    ∙ behind (without_name name (x ∷ gs)) refl
    ∙ ap (λ hs. g ∷ hs) (taken_in_front name (x ∷ gs) i h.1)
    ∙ ap (λ b. if b then without_last (x ∷ gs) else (g ∷ without_name name (without_last (x ∷ gs)))) (sym h.0)
  where
    none_left : (hs : List Group) (k : ℕ) → IsFirst (is_called name) (without_last hs) k → [] ≡ without_name name hs → ⊥
    none_left [] k f e = f
    none_left (y ∷ []) k f e = f
    none_left (y ∷ z ∷ ys) zero f e = let bad : [] ≡ z ∷ ys = e ∙ ap (λ b. if b then z ∷ ys else (y ∷ without_name name (z ∷ ys))) f in cc
    none_left (y ∷ z ∷ ys) (suc k) f e =
        let bad : [] ≡ y ∷ without_name name (z ∷ ys) = e ∙ ap (λ b. if b then z ∷ ys else (y ∷ without_name name (z ∷ ys))) f.0 in cc

    -- what is left has the last one still
    behind : (hs : List Group) → hs ≡ without_name name (x ∷ gs) → without_last (g ∷ hs) ≡ g ∷ without_last hs
    behind (y ∷ ys) e = refl
    behind [] e = absurd (none_left (x ∷ gs) i h.1 e)

pub closed_taken_out : (name : List ℕ) (gs : List Group) (is_open : Bool) (i : ℕ) → IsFirst (is_called name) (closed_of is_open gs) i
    → closed_of is_open (without_name name gs) ≡ without_name name (closed_of is_open gs)
closed_taken_out name gs true i h = taken_in_front name gs i h
closed_taken_out name gs false i h = refl

-- ---- within the list

pub left_within : (P : Group → Type 0) (gs : List Group) (i : ℕ) → i < length gs → All P gs → All P (remove gs i)
left_within P [] i at h k d lt = absurd (omega (arith, at))
left_within P (g ∷ gs) zero at h k d lt = h (suc k) d (omega (arith, lt))
left_within P (g ∷ gs) (suc i) at h zero d lt = h 0 d (omega arith)
left_within P (g ∷ gs) (suc i) at h (suc k) d lt = left_within P gs i (omega (arith, at)) (λ j e l. h (suc j) e (omega (arith, l))) k d (omega (arith, lt))

pub left_count : (gs : List Group) (i : ℕ) → i < length gs → length (remove gs i) ≤ length gs
left_count [] i at = absurd (omega (arith, at))
left_count (g ∷ gs) zero at = omega arith
left_count (g ∷ gs) (suc i) at = let l = left_count gs i (omega (arith, at)) in omega arith

-- a list that is as long, or longer
pub within_more : (R S : RegistrationList) (gs : List Group) → length R ≤ length S → AreGroups R gs → AreGroups S gs
within_more R S gs more h = record {
  within = λ k d lt. let w = h.within k d lt in (w.0, omega (arith, more, w.1));
  few = h.few;
}

-- one goes
pub within_left : (R S : RegistrationList) (gs : List Group) (i : ℕ) → i < length gs → length R ≡ length S → AreGroups R gs → AreGroups S (remove gs i)
within_left R S gs i at same h =
    let moved = within_more R S gs (omega (arith, same)) h in
    record { within = left_within (IsWithinList S) gs i at moved.within; few = let l = left_count gs i at in omega (arith, l, h.few) }

-- the last one ends at the list's end
ended_within : (R : RegistrationList) (n : ℕ) (gs : List Group) → n ≡ length R → All (IsWithinList R) gs → All (IsWithinList R) (ended_at n gs)
ended_within R n [] same h k d lt = absurd (omega (arith, lt))
ended_within R n (g ∷ []) same h zero d lt = let w = h 0 d (omega arith) in (omega (arith, w.0, w.1, same), omega (arith, same))
ended_within R n (g ∷ []) same h (suc k) d lt = absurd (omega (arith, lt))
ended_within R n (g ∷ x ∷ gs) same h zero d lt = h 0 d (omega arith)
ended_within R n (g ∷ x ∷ gs) same h (suc k) d lt = ended_within R n (x ∷ gs) same (λ j e l. h (suc j) e (omega (arith, l))) k d (omega (arith, lt))

ended_count : (n : ℕ) (gs : List Group) → length (ended_at n gs) ≡ length gs
ended_count n [] = refl
ended_count n (g ∷ []) = refl
ended_count n (g ∷ x ∷ gs) = ap suc (ended_count n (x ∷ gs))

pub groups_ended : (R : RegistrationList) (n : ℕ) (gs hs : List Group) → n ≡ length R → hs ≡ ended_at n gs → AreGroups R gs → AreGroups R hs
groups_ended R n gs hs same e h =
    subst (AreGroups R) (sym e)
    (record { within = ended_within R n gs same h.within; few = let l = ended_count n gs in omega (arith, l, h.few) })

-- what a slice of them all, in which the last one was ended, leaves of them
pub groups_written : (R : RegistrationList) (n len : ℕ) (gs hs : List Group) → hs ≡ ended_at n gs → n ≡ length R → len ≡ length gs → AreGroups R gs
    → AreGroups R (take len (hs ++ drop (length hs) gs))
groups_written R n len gs hs e same long h =
    let count : length hs ≡ length gs = ap length e ∙ ended_count n gs in
    let none : drop (length hs) gs ≡ [] = drop_all (length hs) gs (omega (arith, count)) in
    let all : take len (hs ++ drop (length hs) gs) ≡ hs = ap (λ xs. take len (hs ++ xs)) none ∙ ap (take len) (append-nil hs) ∙ take_all len hs (omega (arith, count, long)) in
    subst (AreGroups R) (sym all) (groups_ended R n gs hs same e h)

-- the last one is written over
last_at : (n : ℕ) (gs : List Group) (i : ℕ) (g : Group) → i + 1 ≡ length gs → g ≡ get_or gs i g → slice_set gs i (record g { after = n }) ≡ ended_at n gs
last_at n [] i g long at = absurd (omega (arith, long))
last_at n (x ∷ []) zero g long at = ap (λ (y : Group). (record y { after = n }) ∷ []) at
last_at n (x ∷ []) (suc i) g long at = absurd (omega (arith, long))
last_at n (x ∷ y ∷ gs) zero g long at = absurd (omega (arith, long))
last_at n (x ∷ y ∷ gs) (suc i) g long at = ap (λ hs. x ∷ hs) (last_at n (y ∷ gs) i g (omega (arith, long)) at)

pub last_ended : (n : ℕ) (gs : List Group) (g : Group) → 0 < length gs → g ≡ get_or gs (length gs - 1) g → slice_set gs (length gs - 1) (record g { after = n }) ≡ ended_at n gs
last_ended n gs g some at = last_at n gs (length gs - 1) g (omega (arith, some)) at

-- ---- one that is removed

pub got : (gs : List Group) (i : ℕ) (g : Group) → i < length gs → g ≡ get_or gs i g → slice_get gs i ≡ Some g
got [] i g lt e = absurd (omega (arith, lt))
got (x ∷ gs) zero g lt e = ap Some (sym e)
got (x ∷ gs) (suc i) g lt e = got gs i g (omega (arith, lt)) e

pub removed_at : (r now after : Registrations) (g : Group) (i : ℕ) → r ≡ now → slice_get r.groups i ≡ Some g → after ≡ with_removed_at r g i
    → IfSome (slice_get now.groups i) (λ x. after ≡ with_removed_at now x i)
removed_at r now after g i same at e =
    subst (λ (s : Registrations). IfSome (slice_get s.groups i) (λ x. after ≡ with_removed_at s x i)) same
    (subst (λ (o : Option Group). IfSome o (λ x. after ≡ with_removed_at r x i)) (sym at) e)

named_so : (name : List ℕ) (gs : List Group) (i : ℕ) (g : Group) → IsFirst (is_called name) gs i → slice_get gs i ≡ Some g → g.name ≡ name
named_so name [] i g h at = absurd h
named_so name (x ∷ gs) zero g h at = let same : x ≡ g = cc in (bytes_eq-Decides g.name name).0 (ap (is_called name) (sym same) ∙ h)
named_so name (x ∷ gs) (suc i) g h at = named_so name gs i g h.1 at

-- the place of the first group of this name that was ended
module _ (r : Registrations) (name : List ℕ) (i : ℕ) (h : IsFirst (is_called name) (closed r) i) where
  pub is_there : i < length r.groups
  is_there = first_within (is_called name) r.groups i (first_of_all (is_called name) r.groups r.is_open i h)

  pub is_found : group_named name (grouped r) ≡ slice_get r.groups i
  is_found = first_found (is_called name) (closed r) i h ∙ stands_at r.groups r.is_open i (first_within (is_called name) (closed r) i h)

  module _ (after : Registrations) (g : Group) (at : slice_get r.groups i ≡ Some g) (e : after ≡ with_removed_at r g i) where
    called : g.name ≡ name
    called = named_so name r.groups i g (first_of_all (is_called name) r.groups r.is_open i h) at

    this_removed : after ≡ with_removed r g
    this_removed =
        e
        ∙ (λ j. record r { entries = only (left_outside g) r.entries; groups = taken_out name r.groups i (first_of_all (is_called name) r.groups r.is_open i h) j })
        ∙ (λ j. record r { entries = only (left_outside g) r.entries; groups = without_name (sym called j) r.groups })

    is_removed : after ≡ without r name
    is_removed = this_removed ∙ sym (ap (where_found r) (is_found ∙ at))

    this_left : grouped after ≡ without_group g (grouped r)
    this_left =
        ap grouped this_removed
        ∙ (λ j. record {
          entries = only (left_outside g) r.entries;
          groups = closed_of r.is_open (without_name (called j) r.groups);
        })
        ∙ (λ j. record { entries = only (left_outside g) r.entries; groups = closed_taken_out name r.groups r.is_open i h j })
        ∙ (λ j. record { entries = only (left_outside g) r.entries; groups = without_name (sym called j) (closed r) })

    is_left : IfSome (group_named name (grouped r)) (λ x. grouped after ≡ without_group x (grouped r))
    is_left = subst (λ (o : Option Group). IfSome o (λ x. grouped after ≡ without_group x (grouped r))) (sym (is_found ∙ at)) this_left

  -- what is left where the group at this place goes
  pub gone : (after : Registrations) → IfSome (slice_get r.groups i) (λ g. after ≡ with_removed_at r g i)
      → (after ≡ without r name) × IfSome (group_named name (grouped r)) (λ x. grouped after ≡ without_group x (grouped r))
  gone after e = by (slice_get r.groups i) refl e
    where
      stands : (gs : List Group) (k : ℕ) → k < length gs → slice_get gs k ≡ None → ⊥
      stands [] k lt none = omega (arith, lt)
      stands (x ∷ gs) zero lt none = cc
      stands (x ∷ gs) (suc k) lt none = stands gs k (omega (arith, lt)) none

      by : (o : Option Group) → slice_get r.groups i ≡ o → IfSome o (λ g. after ≡ with_removed_at r g i)
          → (after ≡ without r name) × IfSome (group_named name (grouped r)) (λ x. grouped after ≡ without_group x (grouped r))
      by None at f = absurd (stands (r.groups) i is_there at)
      by (Some g) at f = (is_removed after g at f, is_left after g at f)

  -- why it stays
  pub refused_so : (g : Group) → g ≡ get_or (closed r) i g → (b : Bool) → is_named_outside r.entries g ≡ b → refusal_of_removal r name ≡ (if b then Some InUse else None)
  refused_so g at b e =
      ap (removal_row r) (first_found (is_called name) (closed r) i h ∙ got (closed r) i g (first_within (is_called name) (closed r) i h) at)
      ∙ ap (λ c. if c then Some InUse else None) e
