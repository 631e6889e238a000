-- What a module sees of a list of which some entries alone are kept.
use Rattle.std.proofs.Common.{◌≡◌, ℕ, zero, suc, ◌+◌, Bool, true, false, cond, [], ◌∷◌, length, Option, Some, None, refl, sym, ap, ◌∙◌, arith}
use Rattle.ang_kinds.specs.Masks.{meets}
use Rattle.ang_view.specs.declared.entry.Entry.{Entry}
use Rattle.ang_view.specs.Hidden.{shown_from}
use Rattle.ang_view.specs.Values.{EntryTakesValues, TakesValues}
use Rattle.ang_view.specs.Only.{kept_entry, only, NamesKept, IsWithin}
use Rattle.ang_view.specs.Registration.{RegistrationList, entry_at, has_mask_for, is_named_by, is_seen, named, seen, seen_entry}
use Rattle.ang_view.proofs.Lists.{and_from, and_gives, Decides-list_all-filter}
use Rattle.ang_view.proofs.Seen.{entry_at-seen}
use Rattle.ang_view.proofs.ViewTypes.{has_mask-named, is_seen-in_view}

-- ---- by number

none_kept : (b : Bool) (o : Option Entry) → o ≡ None → None ≡ cond b o None
none_kept true o e = sym e
none_kept false o e = refl

kept_from : (keep : ℕ → Bool) (a : ℕ) (R : RegistrationList) (n : ℕ) → entry_at (shown_from (kept_entry keep) a R) n ≡ kept_entry keep (a + n) (entry_at R n)
kept_from keep a [] n = none_kept (keep (a + n)) None refl
kept_from keep a (x ∷ xs) zero = let same : a ≡ a + 0 = omega arith in ap (λ k. kept_entry keep k x) same
kept_from keep a (x ∷ xs) (suc n) =
    let same : (a + 1) + n ≡ a + suc n = omega arith in
    kept_from keep (a + 1) xs n ∙ ap (λ k. kept_entry keep k (entry_at xs n)) same

pub entry_at-only : (keep : ℕ → Bool) (R : RegistrationList) (n : ℕ) → entry_at (only keep R) n ≡ kept_entry keep n (entry_at R n)
unfolding only
entry_at-only keep R n = kept_from keep 0 R n ∙ (let same : 0 + n ≡ n = omega arith in ap (λ k. kept_entry keep k (entry_at R n)) same)

kept_is : (b : Bool) (o : Option Entry) → b ≡ true → cond b o None ≡ o
kept_is true o e = refl
kept_is false o e = cc

-- an entry that is kept stays
pub kept_stays : (keep : ℕ → Bool) (R : RegistrationList) (n : ℕ) → keep n ≡ true → entry_at (only keep R) n ≡ entry_at R n
kept_stays keep R n e = entry_at-only keep R n ∙ kept_is (keep n) (entry_at R n) e

record IsKept (b : Bool) (o : Option Entry) (x : Entry) : Type 0 where
  kept : b ≡ true
  same : o ≡ Some x

is_kept : (b : Bool) (o : Option Entry) (x : Entry) → cond b o None ≡ Some x → IsKept b o x
is_kept true o x e = record { kept = refl; same = e }
is_kept false o x e = cc

-- what stands there was kept
pub only_gives : (keep : ℕ → Bool) (R : RegistrationList) (n : ℕ) (x : Entry) → entry_at (only keep R) n ≡ Some x → (keep n ≡ true) × (entry_at R n ≡ Some x)
only_gives keep R n x e = let r = is_kept (keep n) (entry_at R n) x (sym (entry_at-only keep R n) ∙ e) in (r.kept, r.same)

-- ---- what it sees

-- a type that is named there was kept
named_kept : (x : Entry) (k : ℕ) (b : Bool) (o : Option Entry) → is_named_by x k (cond b o None) ≡ true → (b ≡ true) × (is_named_by x k o ≡ true)
named_kept x k true o e = (refl, e)
named_kept x k false o e = cc

named_before : (keep : ℕ → Bool) (R : RegistrationList) (x : Entry) (k : ℕ) → is_named_by x k (entry_at (only keep R) k) ≡ true → (keep k ≡ true) × (is_named_by x k (entry_at R k) ≡ true)
named_before keep R x k e = named_kept x k (keep k) (entry_at R k) (sym (ap (is_named_by x k) (entry_at-only keep R k)) ∙ e)

-- what is seen of the whole list is seen of the kept ones
pub still_seen : (keep : ℕ → Bool) (R : RegistrationList) (m : ℕ) (x : Entry) → is_seen R m x ≡ true → is_seen (only keep R) m x ≡ true
unfolding is_seen named
still_seen keep R m x s =
    let own : meets x.mask.0 m ≡ true = (and_gives (meets x.mask.0 m) _ s).0 in
    and_from _ _ own ((Decides-list_all-filter (λ n. is_named_by x n (entry_at (only keep R) n)) (λ n. has_mask_for m (entry_at (only keep R) n)) 0 (length (only keep R))).1
    (λ k low high h.
    let r = named_before keep R x k h in
    ap (has_mask_for m) (kept_stays keep R k r.0) ∙ has_mask-named R m x k s r.1))

-- and the other way where the types that it names are kept
seen_before : (keep : ℕ → Bool) (R : RegistrationList) (m : ℕ) (x : Entry) → ((k : ℕ) → is_named_by x k (entry_at R k) ≡ true → keep k ≡ true) → is_seen (only keep R) m x ≡ true → is_seen R m x ≡ true
unfolding is_seen named
seen_before keep R m x names s =
    let own : meets x.mask.0 m ≡ true = (and_gives (meets x.mask.0 m) _ s).0 in
    and_from _ _ own ((Decides-list_all-filter (λ n. is_named_by x n (entry_at R n)) (λ n. has_mask_for m (entry_at R n)) 0 (length R)).1
    (λ k low high h.
    let stays = kept_stays keep R k (names k h) in
    sym (ap (has_mask_for m) stays) ∙ has_mask-named (only keep R) m x k s (ap (is_named_by x k) stays ∙ h)))

seen_shown : (b : Bool) (x : Entry) → b ≡ true → cond b (Some x) None ≡ Some x
seen_shown true x e = refl
seen_shown false x e = cc

shown_is : (b : Bool) (x y : Entry) → cond b (Some x) None ≡ Some y → Some x ≡ Some y
shown_is true x y e = e
shown_is false x y e = cc

registered_by : (R : RegistrationList) (m : ℕ) (o : Option Entry) (x : Entry) → seen_entry R m o ≡ Some x → o ≡ Some x
registered_by R m None x e = cc
registered_by R m (Some y) x e = shown_is (is_seen R m y) y x e

-- What a module sees of an entry it sees still, whatever else is gone, as long as the entry is kept.
pub seen_stays : (keep : ℕ → Bool) (R : RegistrationList) (m n : ℕ) (x : Entry) → entry_at (seen R m) n ≡ Some x → keep n ≡ true → entry_at (seen (only keep R) m) n ≡ Some x
seen_stays keep R m n x e k =
    let at : entry_at R n ≡ Some x = registered_by R m (entry_at R n) x (sym (entry_at-seen R m n) ∙ e) in
    entry_at-seen (only keep R) m n ∙ ap (seen_entry (only keep R) m) (kept_stays keep R n k ∙ at) ∙ seen_shown (is_seen (only keep R) m x) x (still_seen keep R m x (is_seen-in_view R m n x e))

both_ways : (b c : Bool) → (b ≡ true → c ≡ true) → (c ≡ true → b ≡ true) → b ≡ c
both_ways true c f g = sym (f refl)
both_ways false true f g = g refl
both_ways false false f g = refl

none_either : (b : Bool) (R : RegistrationList) (m : ℕ) → seen_entry R m (cond b None None) ≡ cond b None None
none_either true R m = refl
none_either false R m = refl

seen_either : (b : Bool) (S R : RegistrationList) (m : ℕ) (x : Entry) → (b ≡ true → is_seen S m x ≡ is_seen R m x) → seen_entry S m (cond b (Some x) None) ≡ cond b (seen_entry R m (Some x)) None
seen_either true S R m x h = ap (λ c. cond c (Some x) None) (h refl)
seen_either false S R m x h = refl

seen_at : (keep : ℕ → Bool) (R : RegistrationList) (m n : ℕ) → NamesKept keep R → (o : Option Entry) → entry_at R n ≡ o → seen_entry (only keep R) m (kept_entry keep n o) ≡ kept_entry keep n (seen_entry R m o)
seen_at keep R m n names None at = none_either (keep n) (only keep R) m
seen_at keep R m n names (Some x) at =
    seen_either (keep n) (only keep R) R m x
    (λ k. both_ways (is_seen (only keep R) m x) (is_seen R m x) (seen_before keep R m x (λ j h. names n j x at k h)) (still_seen keep R m x))

-- The view of the list that is left is what is left of the view, where what is kept names nothing else.
pub seen_only : (keep : ℕ → Bool) (R : RegistrationList) (m n : ℕ) → NamesKept keep R → entry_at (seen (only keep R) m) n ≡ kept_entry keep n (entry_at (seen R m) n)
seen_only keep R m n names =
    entry_at-seen (only keep R) m n ∙ ap (seen_entry (only keep R) m) (entry_at-only keep R n) ∙ seen_at keep R m n names (entry_at R n) refl ∙ sym (ap (kept_entry keep n) (entry_at-seen R m n))

-- ---- lists within others

pub only_within : (keep : ℕ → Bool) (R : RegistrationList) → IsWithin (only keep R) R
only_within keep R n x e = (only_gives keep R n x e).1

-- What a module saw it sees still, where all of it is kept.
pub within_still : (keep : ℕ → Bool) (V R : RegistrationList) (m : ℕ) → IsWithin V (seen R m) → ((n : ℕ) (x : Entry) → entry_at V n ≡ Some x → keep n ≡ true) → IsWithin V (seen (only keep R) m)
within_still keep V R m h kept n x e = seen_stays keep R m n x (h n x e) (kept n x e)

-- ---- how long it is

shown_length : (f : ℕ → Option Entry → Option Entry) (a : ℕ) (R : RegistrationList) → length (shown_from f a R) ≡ length R
shown_length f a [] = refl
shown_length f a (x ∷ xs) = ap suc (shown_length f (a + 1) xs)

pub length-only : (keep : ℕ → Bool) (R : RegistrationList) → length (only keep R) ≡ length R
unfolding only
length-only keep R = shown_length (kept_entry keep) 0 R

-- ---- what it may declare

kept_values : (b : Bool) (o : Option Entry) → EntryTakesValues o → EntryTakesValues (cond b o None)
kept_values true o h = h
kept_values false o h = tt

values_from : (keep : ℕ → Bool) (a : ℕ) (R : RegistrationList) → TakesValues R → TakesValues (shown_from (kept_entry keep) a R)
values_from keep a [] h = tt
values_from keep a (o ∷ os) h = (kept_values (keep a) o h.0, values_from keep (a + 1) os h.1)

-- What is left takes values alone, as the list did.
pub only_values : (keep : ℕ → Bool) (R : RegistrationList) → TakesValues R → TakesValues (only keep R)
unfolding only
only_values keep R h = values_from keep 0 R h
