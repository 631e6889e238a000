-- What stands where in the view of a mask, and what a found function is.
use Rattle.std.proofs.Common.{◌≡◌, ℕ, zero, suc, ◌<◌, Bool, true, false, cond, nat_lt, List, [], ◌∷◌, map, length, get_or, Option, Some, None, refl, sym, ap, ◌∙◌, arith, position, bytes_eq}
use Rattle.std.specs.List.{position_or_len}
use Rattle.std.proofs.lemmas.List.Sums.{passes_at_first}
use Rattle.std.proofs.lemmas.Bool.Decides.{Decides-ltb}
use Rattle.std.proofs.lemmas.Slice.Eq.{bytes_eq-Decides}
use Rattle.ang_view.specs.declared.entry.Entry.{Entry}
use Rattle.ang_view.specs.declared.entry.EntryKind.{EntryKind}
use Rattle.ang_view.specs.declared.entry.EntryKind.TheVariants.{HostType, Factory, Method, Property, Function, Global, Enumeration, EnumValue}
use Rattle.ang_view.specs.Registration.{RegistrationList, entry_at, is_seen, seen_entry, seen, is_function, is_function_named, function_named, SeesFunction}
use Rattle.ang_view.proofs.Lists.{length-map, and_gives}

pub length-seen : (list : RegistrationList) (m : ℕ) → length (seen list m) ≡ length list
unfolding seen
length-seen list m = length-map (seen_entry list m) list

at_map : (h : Option Entry → Option Entry) → h None ≡ None → (list : RegistrationList) (n : ℕ) → entry_at (map h list) n ≡ h (entry_at list n)
at_map h e [] n = sym e
at_map h e (x ∷ xs) zero = refl
at_map h e (x ∷ xs) (suc n) = at_map h e xs n

-- each number of the view has its own entry, or a blank
pub entry_at-seen : (list : RegistrationList) (m n : ℕ) → entry_at (seen list m) n ≡ seen_entry list m (entry_at list n)
unfolding seen
entry_at-seen list m n = at_map (seen_entry list m) refl list n

where_some : (b : Bool) (k n : ℕ) → cond b (Some k) None ≡ Some n → (b ≡ true) × (k ≡ n)
where_some true k n e = (refl, cc)
where_some false k n e = cc

-- the element at the first place that passes does pass
pub position-passes : {X : Type 0} (p : X → Bool) (xs : List X) (n : ℕ) (d : X) → position p xs ≡ Some n → (n < length xs) × (p (get_or xs n d) ≡ true)
position-passes p xs n d e =
    let w = where_some (nat_lt (position_or_len p xs) (length xs)) (position_or_len p xs) n e in
    let inside : position_or_len p xs < length xs = (Decides-ltb (position_or_len p xs) (length xs)).0 w.0 in
    (omega arith, ap (λ k. p (get_or xs k d)) (sym w.1) ∙ passes_at_first p xs d inside)

kind_from : (k : EntryKind) → is_function k ≡ true → k ≡ Function
kind_from HostType e = cc
kind_from Factory e = cc
kind_from Method e = cc
kind_from Property e = cc
kind_from Function e = refl
kind_from Global e = cc
kind_from Enumeration e = cc
kind_from (EnumValue v) e = cc

sees_from : (list : RegistrationList) (m : ℕ) (name : List ℕ) (n : ℕ) (here : Option Entry) → entry_at list n ≡ here → entry_at (seen list m) n ≡ seen_entry list m here → is_function_named name (seen_entry list m here) ≡ true → SeesFunction list m name n
sees_from list m name n None e v t = cc
sees_from list m name n (Some x) e v t = by_sight (is_seen list m x) v t
  where
    by_sight : (s : Bool) → entry_at (seen list m) n ≡ cond s (Some x) None → is_function_named name (cond s (Some x) None) ≡ true → SeesFunction list m name n
    by_sight true v t =
        let r = and_gives (is_function x.kind) (bytes_eq x.signature.name name) t in
        record { entry = x; registered = e; is_in_view = v; is_function = kind_from x.kind r.0; has_name = (bytes_eq-Decides x.signature.name name).0 r.1 }
    by_sight false v t = cc

-- what is found by a name in the view of a mask
pub SeesFunction-from_function_named : (list : RegistrationList) (m : ℕ) (name : List ℕ) (n : ℕ) → function_named (seen list m) name ≡ Some n → SeesFunction list m name n
SeesFunction-from_function_named list m name n e =
    let at = entry_at-seen list m n in
    let passes = (position-passes (is_function_named name) (seen list m) n None e).1 in
    sees_from list m name n (entry_at list n) refl at (ap (is_function_named name) (sym at) ∙ passes)
