-- The types that a seen entry names are seen, and have the numbers that they have in the whole list.
use Rattle.std.proofs.Common.{◌≡◌, ℕ, suc, ◌<◌, Bool, true, false, cond, ◌||◌, not, List, [], ◌∷◌, length, get_or, Option, Some, None, refl, sym, ap, ◌∙◌, arith, position, bytes_eq}
use Rattle.std.specs.List.{prefix_len, list_all}
use Rattle.std.proofs.lemmas.Slice.Eq.{bytes_eq-Decides}
use Rattle.ang_kinds.specs.Masks.{meets}
use Rattle.ang_view.specs.declared.entry.Entry.{Entry}
use Rattle.ang_view.specs.declared.entry.EntryKind.{EntryKind}
use Rattle.ang_view.specs.declared.entry.EntryKind.TheVariants as entry
use Rattle.ang_view.specs.Registration.{RegistrationList, entry_at, is_host_type, is_type, mentions, is_number, is_named_by, named, has_mask_for, is_seen, seen_entry, seen}
use Rattle.ang_view.specs.Types.{enumeration_named, is_enumeration, is_enumeration_named, is_type_named, type_named}
use Rattle.ang_view.proofs.Lists.{position-map, and_gives, and_from, Decides-list_all-filter}
use Rattle.ang_view.proofs.Entries.{entry_at-lt}
use Rattle.ang_view.proofs.Seen.{entry_at-seen}

some_of : {X : Type 0} (b : Bool) (y x : X) → cond b (Some y) None ≡ Some x → (b ≡ true) × (y ≡ x)
some_of true y x e = (refl, cc)
some_of false y x e = cc

seen_from : (list : RegistrationList) (m : ℕ) (here : Option Entry) (x : Entry) → seen_entry list m here ≡ Some x → is_seen list m x ≡ true
seen_from list m None x e = cc
seen_from list m (Some y) x e = let r = some_of (is_seen list m y) y x e in ap (is_seen list m) (sym r.1) ∙ r.0

-- what stands in a view is seen
pub is_seen-in_view : (list : RegistrationList) (m n : ℕ) (x : Entry) → entry_at (seen list m) n ≡ Some x → is_seen list m x ≡ true
is_seen-in_view list m n x e = seen_from list m (entry_at list n) x (sym (entry_at-seen list m n) ∙ e)

inside : (list : RegistrationList) (x : Entry) (k : ℕ) (here : Option Entry) → entry_at list k ≡ here → is_named_by x k here ≡ true → k < length list
inside list x k None e h = cc
inside list x k (Some t) e h = entry_at-lt list k t e

-- a seen entry's named types have masks that meet
pub has_mask-named : (list : RegistrationList) (m : ℕ) (x : Entry) (k : ℕ) → is_seen list m x ≡ true → is_named_by x k (entry_at list k) ≡ true → has_mask_for m (entry_at list k) ≡ true
unfolding is_seen named
has_mask-named list m x k s h =
    let all : list_all (λ n. has_mask_for m (entry_at list n)) (named list x) ≡ true = (and_gives (meets x.mask.0 m) _ s).1 in
    let l : k < length list = inside list x k (entry_at list k) refl h in
    (Decides-list_all-filter (λ n. is_named_by x n (entry_at list n)) (λ n. has_mask_for m (entry_at list n)) 0 (length list)).0 all k (omega arith) (omega arith) h

names_nothing : (t : Entry) (k : ℕ) (here : Option Entry) → is_type t.kind ≡ true → is_named_by t k here ≡ false
names_nothing t k None h = refl
names_nothing t k (Some y) h = rw h

type_is_seen : (list : RegistrationList) (m : ℕ) (t : Entry) → is_type t.kind ≡ true → has_mask_for m (Some t) ≡ true → is_seen list m t ≡ true
unfolding is_seen named
type_is_seen list m t h e =
    and_from _ _ e ((Decides-list_all-filter (λ n. is_named_by t n (entry_at list n)) (λ n. has_mask_for m (entry_at list n)) 0 (length list)).1 (λ k low high n. let no : is_named_by t k (entry_at list k) ≡ false = names_nothing t k (entry_at list k) h in cc))

pub shown : (list : RegistrationList) (m : ℕ) (x : Entry) (k : ℕ) (here : Option Entry) → is_named_by x k here ≡ true → has_mask_for m here ≡ true → seen_entry list m here ≡ here
shown list m x k None h e = refl
shown list m x k (Some t) h e =
    let r = and_gives _ _ h in
    let is = (and_gives _ _ r.0).1 in
    rw (type_is_seen list m t is e)

-- each type that a seen entry names is seen
pub named_is_seen : (list : RegistrationList) (m n k : ℕ) (x : Entry) → entry_at (seen list m) n ≡ Some x → is_named_by x k (entry_at list k) ≡ true → entry_at (seen list m) k ≡ entry_at list k
named_is_seen list m n k x e h =
    entry_at-seen list m k ∙ shown list m x k (entry_at list k) h (has_mask-named list m x k (is_seen-in_view list m n x e) h)

-- ---- by name

prefix_len-same : {X : Type 0} (p q : X → Bool) (xs : List X) (d : X) → ((k : ℕ) → k < length xs → p (get_or xs k d) ≡ q (get_or xs k d)) → prefix_len p xs ≡ prefix_len q xs
prefix_len-same p q [] d h = refl
prefix_len-same p q (x ∷ xs) d h =
    let here : p x ≡ q x = h 0 (omega arith) in
    let rest = prefix_len-same p q xs d (λ k l. h (suc k) (omega arith)) in
    cc

position-same : {X : Type 0} (p q : X → Bool) (xs : List X) (d : X) → ((k : ℕ) → k < length xs → p (get_or xs k d) ≡ q (get_or xs k d)) → position p xs ≡ position q xs
position-same p q xs d h = rw (prefix_len-same (λ x. not (p x)) (λ x. not (q x)) xs d (λ k l. ap not (h k l)))

-- a test that only a type of this name passes
record AsksType (name : List ℕ) (test : Option Entry → Bool) : Type 0 where
  passes_no_blank : test None ≡ false
  type : (t : Entry) → test (Some t) ≡ true → is_type t.kind ≡ true
  has_name : (t : Entry) → test (Some t) ≡ true → bytes_eq t.signature.name name ≡ true

named_from : (x t : Entry) (k : ℕ) (name : List ℕ) → is_type x.kind ≡ false → mentions x.signature name ≡ true → is_type t.kind ≡ true → bytes_eq t.signature.name name ≡ true → is_named_by x k (Some t) ≡ true
named_from x t k name f h is e =
    let same : t.signature.name ≡ name = (bytes_eq-Decides t.signature.name name).0 e in
    let by : mentions x.signature t.signature.name ≡ true = rw same h in
    let either : (is_number k x.owner || mentions x.signature t.signature.name) ≡ true = or_true _ _ by in
    rw (f, is, either)
  where
    or_true : (b c : Bool) → c ≡ true → (b || c) ≡ true
    or_true true c e = refl
    or_true false c e = e

module _ (name : List ℕ) (test : Option Entry → Bool) (asks : AsksType name test) where
  hidden_too : (b : Bool) (t : Entry) → test (Some t) ≡ false → test (cond b (Some t) None) ≡ false
  hidden_too true t e = e
  hidden_too false t e = asks.passes_no_blank

  same_test : (list : RegistrationList) (m : ℕ) (x : Entry) (k : ℕ) → is_seen list m x ≡ true → is_type x.kind ≡ false → mentions x.signature name ≡ true
      → (here : Option Entry) → entry_at list k ≡ here → (b : Bool) → test here ≡ b → test (seen_entry list m here) ≡ test here
  same_test list m x k s f h None e b t = refl
  same_test list m x k s f h (Some y) e true t =
      let by : is_named_by x k (Some y) ≡ true = named_from x y k name f h (asks.type y t) (asks.has_name y t) in
      let mask : has_mask_for m (Some y) ≡ true = ap (has_mask_for m) (sym e) ∙ has_mask-named list m x k s (ap (is_named_by x k) e ∙ by) in
      ap test (shown list m x k (Some y) by mask)
  same_test list m x k s f h (Some y) e false t = hidden_too (is_seen list m y) y t ∙ sym t

  place-seen : (list : RegistrationList) (m n : ℕ) (x : Entry) → entry_at (seen list m) n ≡ Some x → is_type x.kind ≡ false → mentions x.signature name ≡ true → position test (seen list m) ≡ position test list
  unfolding seen
  place-seen list m n x e f h =
      let s = is_seen-in_view list m n x e in
      position-map test (seen_entry list m) list
      ∙ position-same (λ y. test (seen_entry list m y)) test list None (λ k l. same_test list m x k s f h (entry_at list k) refl (test (entry_at list k)) refl)

pub host_type_is_type : (k : EntryKind) → is_host_type k ≡ true → is_type k ≡ true
host_type_is_type entry.HostType e = refl
host_type_is_type entry.Factory e = cc
host_type_is_type entry.Method e = cc
host_type_is_type entry.Property e = cc
host_type_is_type entry.Function e = cc
host_type_is_type entry.Global e = cc
host_type_is_type entry.Enumeration e = cc
host_type_is_type (entry.EnumValue v) e = cc

pub enumeration_is_type : (k : EntryKind) → is_enumeration k ≡ true → is_type k ≡ true
enumeration_is_type entry.HostType e = cc
enumeration_is_type entry.Factory e = cc
enumeration_is_type entry.Method e = cc
enumeration_is_type entry.Property e = cc
enumeration_is_type entry.Function e = cc
enumeration_is_type entry.Global e = cc
enumeration_is_type entry.Enumeration e = refl
enumeration_is_type (entry.EnumValue v) e = cc

asks_host_type : (name : List ℕ) → AsksType name (is_type_named name)
asks_host_type name =
    record {
      passes_no_blank = refl;
      type = λ t e. host_type_is_type t.kind (and_gives (is_host_type t.kind) (bytes_eq t.signature.name name) e).0;
      has_name = λ t e. (and_gives (is_host_type t.kind) (bytes_eq t.signature.name name) e).1;
    }

asks_enumeration : (name : List ℕ) → AsksType name (is_enumeration_named name)
asks_enumeration name =
    record {
      passes_no_blank = refl;
      type = λ t e. enumeration_is_type t.kind (and_gives (is_enumeration t.kind) (bytes_eq t.signature.name name) e).0;
      has_name = λ t e. (and_gives (is_enumeration t.kind) (bytes_eq t.signature.name name) e).1;
    }

-- a type of host objects that a seen entry names has the number in the view that it has in the whole list
pub type_named-seen : (list : RegistrationList) (m n : ℕ) (x : Entry) (name : List ℕ) → entry_at (seen list m) n ≡ Some x → is_type x.kind ≡ false → mentions x.signature name ≡ true → type_named (seen list m) name ≡ type_named list name
unfolding type_named
type_named-seen list m n x name e f h = place-seen name (is_type_named name) (asks_host_type name) list m n x e f h

-- and so has an enumeration
pub enumeration_named-seen : (list : RegistrationList) (m n : ℕ) (x : Entry) (name : List ℕ) → entry_at (seen list m) n ≡ Some x → is_type x.kind ≡ false → mentions x.signature name ≡ true
    → enumeration_named (seen list m) name ≡ enumeration_named list name
unfolding enumeration_named
enumeration_named-seen list m n x name e f h = place-seen name (is_enumeration_named name) (asks_enumeration name) list m n x e f h
