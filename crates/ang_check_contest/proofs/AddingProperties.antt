-- With a hidden entry added the search for a property finds what it found, or that entry where it stands in front.
use Rattle.std.proofs.Common.{◌≡◌, ◌≢◌, inl, inr, ℕ, zero, suc, ◌+◌, ◌<◌, ◌≤◌, ◌==◌, Bool, true, false, cond, [], ◌∷◌, length, Option, Some, None, refl, sym, ap, ◌∙◌, arith}
use Rattle.std.specs.Prelude.{IfSome}
use Rattle.std.specs.Option.{option_or}
use Rattle.ang_view.specs.declared.entry.Entry.{Entry}
use Rattle.ang_view.specs.declared.entry.EntryKind.{EntryKind}
use Rattle.ang_view.specs.declared.entry.EntryKind.TheVariants as entry
use Rattle.ang_view.specs.Registration.{RegistrationList, entry_at, is_type, is_seen, is_spelled_with, mentions, seen_entry, seen}
use Rattle.ang_view.specs.Hidden.{is_with, names_entry, seen_entry_with, seen_with}
use Rattle.ang_view.proofs.Lists.{and_gives}
use Rattle.ang_view.proofs.Seen.{length-seen, entry_at-seen}
use Rattle.ang_types.specs.declared.arg_type.ArgType.{ArgType}
use Rattle.ang_check_contest.specs.declared.host.SeenProperty.{SeenProperty}
use Rattle.ang_check_contest.specs.declared.host.WantedProperty.{WantedProperty}
use Rattle.ang_check_contest.specs.declared.host.WantedProperty.TheVariants as wanted
use Rattle.ang_check_contest.specs.Added.{added_property}
use Rattle.ang_check_contest.specs.Host.{host_type, is_global, is_property, is_wanted_property, property_with, property_found, first_found, property_where}
use Rattle.ang_check_contest.proofs.Adding.{SameTypes, either_way, entry_at-seen_with, length-seen_with, host_type-same, lt_is, not_lt_is, or_left, order, past_end, range, same_number, shown_own, type_of_named, types_of_added, types_of_both}

-- ---- what is made of a declaration

global_no_type : (k : EntryKind) → is_global k ≡ true → is_type k ≡ false
global_no_type entry.HostType e = cc
global_no_type entry.Factory e = refl
global_no_type entry.Method e = refl
global_no_type entry.Property e = refl
global_no_type entry.Function e = refl
global_no_type entry.Global e = refl
global_no_type entry.Enumeration e = cc
global_no_type (entry.EnumValue v) e = refl

property_no_type : (k : EntryKind) → is_property k ≡ true → is_type k ≡ false
property_no_type entry.HostType e = cc
property_no_type entry.Factory e = refl
property_no_type entry.Method e = refl
property_no_type entry.Property e = refl
property_no_type entry.Function e = refl
property_no_type entry.Global e = refl
property_no_type entry.Enumeration e = cc
property_no_type (entry.EnumValue v) e = refl

-- nothing that is looked for is a type
no_type : (w : WantedProperty) (y : Entry) → is_wanted_property w y ≡ true → is_type y.kind ≡ false
no_type (wanted.Global name) y e = global_no_type y.kind (and_gives (is_global y.kind) _ e).0
no_type (wanted.Member n name) y e = property_no_type y.kind (and_gives (is_property y.kind) _ e).0

where_wanted : (b : Bool) (o q : Option SeenProperty) → (b ≡ true → o ≡ q) → cond b o None ≡ cond b q None
where_wanted true o q h = h refl
where_wanted false o q h = refl

found_same : (w : WantedProperty) (V W : RegistrationList) (n : ℕ) (y : Entry) → (is_type y.kind ≡ false → SameTypes V W (mentions y.signature))
    → property_found w V n (Some y) ≡ property_found w W n (Some y)
found_same w V W n y h =
    where_wanted (is_wanted_property w y) (property_with n y (host_type V y.signature.result)) (property_with n y (host_type W y.signature.result))
    (λ e. ap (property_with n y) (host_type-same V W y.signature.result (λ name t. h (no_type w y e) name (or_left (is_spelled_with name y.signature.result) _ t))))

type_not_wanted : (w : WantedProperty) (y : Entry) (b : Bool) → is_wanted_property w y ≡ b → is_type y.kind ≡ true → is_wanted_property w y ≡ false
type_not_wanted w y true e t = let no' : true ≡ false = sym t ∙ no_type w y e in cc
type_not_wanted w y false e t = e

found_no_type : (w : WantedProperty) (V : RegistrationList) (n : ℕ) (y : Entry) → is_type y.kind ≡ true → property_found w V n (Some y) ≡ None
found_no_type w V n y t = rw (type_not_wanted w y (is_wanted_property w y) refl t) refl

-- ---- searches

unfoldable pub first_n : (ℕ → Option SeenProperty) → ℕ → ℕ → Option SeenProperty
first_n F n zero = None
first_n F n (suc l) = option_or (F n) (first_n F (n + 1) l)

first-is : (f : ℕ → Option Entry → Option SeenProperty) (R xs : RegistrationList) (n : ℕ) → ((j : ℕ) → entry_at xs j ≡ entry_at R (n + j))
    → first_found f n xs ≡ first_n (λ k. f k (entry_at R k)) n (length xs)
unfolding first_n
first-is f R [] n h = refl
first-is f R (x ∷ xs) n h =
    let z : n + 0 ≡ n = omega arith in
    let here : x ≡ entry_at R n = h 0 ∙ ap (entry_at R) z in
    let rest = first-is f R xs (n + 1) (λ j. let e : n + suc j ≡ n + 1 + j = omega arith in h (suc j) ∙ ap (entry_at R) e) in
    λ i. option_or (f n (here i)) (rest i)

pub property_where-is : (w : WantedProperty) (V : RegistrationList) → property_where w V ≡ first_n (λ k. property_found w V k (entry_at V k)) 0 (length V)
unfolding property_where
property_where-is w V = first-is (property_found w V) V V 0 (λ j. let e : j ≡ 0 + j = omega arith in ap (entry_at V) e)

first_n-same : (F G : ℕ → Option SeenProperty) (n l : ℕ) → ((k : ℕ) → n ≤ k → F k ≡ G k) → first_n F n l ≡ first_n G n l
unfolding first_n
first_n-same F G n zero h = refl
first_n-same F G n (suc l) h =
    let here = h n (omega arith) in
    let rest = first_n-same F G (n + 1) l (λ k le. h k (omega arith)) in
    λ i. option_or (here i) (rest i)

-- each is found under its number
abbrev pub HaveNumbers : (ℕ → Option SeenProperty) → Type 0
HaveNumbers G = (k : ℕ) → IfSome (G k) (λ h. h.entity.0 ≡ k)

low_or : (o r : Option SeenProperty) (n : ℕ) → IfSome o (λ h. h.entity.0 ≡ n) → IfSome r (λ h. n + 1 ≤ h.entity.0) → IfSome (option_or o r) (λ h. n ≤ h.entity.0)
low_or None None n e f = tt
low_or None (Some g) n e f = omega (arith, f)
low_or (Some g) r n e f = omega (arith, e)

first_n-low : (G : ℕ → Option SeenProperty) → HaveNumbers G → (n l : ℕ) → IfSome (first_n G n l) (λ h. n ≤ h.entity.0)
unfolding first_n
first_n-low G h n zero = tt
first_n-low G h n (suc l) = low_or (G n) (first_n G (n + 1) l) n (h n) (first_n-low G h (n + 1) l)

front : (o r : Option SeenProperty) (x : ℕ) → IfSome o (λ h. h.entity.0 ≡ x) → IfSome r (λ h. x + 1 ≤ h.entity.0) → option_or o r ≡ added_property o r
front None r x e f = refl
front (Some p) None x e f = refl
front (Some p) (Some q) x e f =
    let lt : p.entity.0 < q.entity.0 = omega (arith, e, f) in
    rw (lt_is p.entity.0 q.entity.0 lt) refl

past : (o q rest : Option SeenProperty) (n x : ℕ) → n < x → IfSome o (λ h. h.entity.0 ≡ n) → IfSome q (λ h. h.entity.0 ≡ x)
    → option_or o (added_property q rest) ≡ added_property q (option_or o rest)
past None q rest n x lt e f = refl
past (Some g) None rest n x lt e f = refl
past (Some g) (Some h) rest n x lt e f =
    let le : g.entity.0 ≤ h.entity.0 = omega (arith, e, f) in
    rw (not_lt_is h.entity.0 g.entity.0 le) refl

at_place : (F G : ℕ → Option SeenProperty) (x : ℕ) → HaveNumbers F → HaveNumbers G → ((k : ℕ) → k ≢ x → F k ≡ G k) → G x ≡ None → (n l : ℕ) → n ≡ x
    → option_or (F n) (first_n F (n + 1) l) ≡ added_property (F x) (option_or (G n) (first_n G (n + 1) l))
at_place F G x a b same isnt n l is =
    let rest = first_n-same F G (n + 1) l (λ k le. same k (omega arith)) in
    let e : F n ≡ F x = ap F is in
    let g : G n ≡ None = ap G is ∙ isnt in
    ap (option_or (F n)) rest
    ∙ front (F n) (first_n G (n + 1) l) n (a n) (first_n-low G b (n + 1) l)
    ∙ (λ i. added_property (e i) (option_or (sym g i) (first_n G (n + 1) l)))

first_n-added : (F G : ℕ → Option SeenProperty) (x : ℕ) → HaveNumbers F → HaveNumbers G → ((k : ℕ) → k ≢ x → F k ≡ G k) → G x ≡ None → (n l : ℕ) → n ≤ x → x < n + l
    → first_n F n l ≡ added_property (F x) (first_n G n l)
unfolding first_n
first_n-added F G x a b same isnt n zero le lt = absurd (omega arith)
first_n-added F G x a b same isnt n (suc l) le lt =
    elim (order n x le) [
      | inr less ↦
          let here = same n (omega arith) in
          let rest = first_n-added F G x a b same isnt (n + 1) l (omega arith) (omega arith) in
          (λ i. option_or (here i) (rest i)) ∙ past (G n) (F x) (first_n G (n + 1) l) n x less (b n) (a x)
      | inl is ↦ at_place F G x a b same isnt n l is
    ]

-- ---- the law

numbered : (w : WantedProperty) (V : RegistrationList) (k : ℕ) (o : Option Entry) → IfSome (property_found w V k o) (λ h. h.entity.0 ≡ k)
numbered w V k None = tt
numbered w V k (Some y) = by_test (is_wanted_property w y) (host_type V y.signature.result)
  where
    by_test : (b : Bool) (t : Option ArgType) → IfSome (cond b (property_with k y t) None) (λ h. h.entity.0 ≡ k)
    by_test false t = tt
    by_test true None = tt
    by_test true (Some t) = refl

at_other : (R : RegistrationList) (m x : ℕ) (w : WantedProperty) (k : ℕ) → k ≢ x → (o : Option Entry) → entry_at R k ≡ o
    → property_found w (seen_with R m x) k (seen_entry_with R m x k o) ≡ property_found w (seen R m) k (seen_entry R m o)
at_other R m x w k ne None e = ap (property_found w (seen_with R m x) k) (either_way (is_with R x k) None)
at_other R m x w k ne (Some y) e = by_sight (is_seen R m y) refl (is_with R x k) refl
  where
    by_sight : (s : Bool) → is_seen R m y ≡ s → (b : Bool) → is_with R x k ≡ b
        → property_found w (seen_with R m x) k (cond b (Some y) (cond s (Some y) None)) ≡ property_found w (seen R m) k (cond s (Some y) None)
    by_sight true s b t =
        ap (property_found w (seen_with R m x) k) (either_way b (Some y))
        ∙ found_same w (seen_with R m x) (seen R m) k y (λ f. types_of_both R m x y s f)
    by_sight false s false t = refl
    by_sight false s true t =
        let named : names_entry (entry_at R x) k (Some y) ≡ true = sym (ap (λ o. names_entry (entry_at R x) k o) e) ∙ sym (rw (same_number k x ne) refl) ∙ t in
        found_no_type w (seen_with R m x) k y (type_of_named (entry_at R x) k y named)

at_own : (R : RegistrationList) (m x : ℕ) (w : WantedProperty) (o : Option Entry) → entry_at R x ≡ o → property_found w (seen_with R m x) x o ≡ property_found w R x o
at_own R m x w None e = refl
at_own R m x w (Some y) e = found_same w (seen_with R m x) R x y (λ f. types_of_added R m x y e f)

pub one_property_added : (R : RegistrationList) (m x : ℕ) (w : WantedProperty) → entry_at (seen R m) x ≡ None
    → property_where w (seen_with R m x) ≡ added_property (property_found w R x (entry_at R x)) (property_where w (seen R m))
one_property_added R m x w hidden =
    let V = seen_with R m x in
    let S = seen R m in
    let F : ℕ → Option SeenProperty = λ k. property_found w V k (entry_at V k) in
    let G : ℕ → Option SeenProperty = λ k. property_found w S k (entry_at S k) in
    let same : (k : ℕ) → k ≢ x → F k ≡ G k = λ k ne.
    ap (property_found w V k) (entry_at-seen_with R m x k) ∙ at_other R m x w k ne (entry_at R k) refl ∙ sym (ap (property_found w S k) (entry_at-seen R m k)) in
    let isnt : G x ≡ None = ap (property_found w S x) hidden in
    let own : F x ≡ property_found w R x (entry_at R x) = ap (property_found w V x) (shown_own R m x) ∙ at_own R m x w (entry_at R x) refl in
    let a : HaveNumbers F = λ k. numbered w V k (entry_at V k) in
    let b : HaveNumbers G = λ k. numbered w S k (entry_at S k) in
    let lengths : length V ≡ length S = length-seen_with R m x ∙ sym (length-seen R m) in
    elim (range x (length R)) [
      | inl lt ↦
          property_where-is w V
          ∙ first_n-added F G x a b same isnt 0 (length V) (omega arith) (omega (arith, length-seen_with R m x))
          ∙ (λ i. added_property (own i) (first_n G 0 (lengths i)))
          ∙ sym (ap (added_property (property_found w R x (entry_at R x))) (property_where-is w S))
      | inr le ↦
          let none : entry_at R x ≡ None = past_end R x le in
          let nothing : F x ≡ None = own ∙ ap (property_found w R x) none in
          property_where-is w V
          ∙ first_n-same F G 0 (length V) (λ k low. everywhere F G x same (nothing ∙ sym isnt) k (k == x) refl)
          ∙ ap (first_n G 0) lengths
          ∙ sym (property_where-is w S)
          ∙ sym (ap (λ o. added_property (property_found w R x o) (property_where w S)) none)
    ]
  where
    everywhere : (F G : ℕ → Option SeenProperty) (x : ℕ) → ((k : ℕ) → k ≢ x → F k ≡ G k) → F x ≡ G x → (k : ℕ) (b : Bool) → (k == x) ≡ b → F k ≡ G k
    everywhere F G x h e k true t = let is : k ≡ x = search (arith, t) in ap F is ∙ e ∙ sym (ap G is)
    everywhere F G x h e k false t = let ne : k ≢ x = search (arith, t) in h k ne
