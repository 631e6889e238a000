-- With a hidden entry added a scan finds what it found, and the entry at its place.
use Rattle.std.proofs.Common.{◌≡◌, ◌≢◌, ◌⊎◌, inl, inr, ℕ, zero, suc, ◌+◌, ◌<◌, ◌≤◌, ◌==◌, Bool, true, false, cond, nat_lt, ◌||◌, ◌&&◌, not, List, [], ◌∷◌, ◌++◌, length, Option, Some, None, refl, sym, ap, subst, ◌∙◌, arith, position, eq-eqb}
use Rattle.std.specs.Prelude.{IfSome, bytes_eq, option_map, option_to_list}
use Rattle.std.specs.List.{prefix_len, list_any}
use Rattle.std.proofs.lemmas.Slice.Eq.{bytes_eq-Decides}
use Rattle.ang_kinds.specs.declared.types.Param.{Param}
use Rattle.ang_kinds.specs.declared.types.TypeRef.{TypeRef}
use Rattle.ang_kinds.specs.declared.types.TypeRef.TheVariants as ref
use Rattle.ang_view.specs.declared.entry.Entry.{Entry}
use Rattle.ang_view.specs.declared.entry.EntryKind.{EntryKind}
use Rattle.ang_view.specs.declared.entry.EntryKind.TheVariants as entry
use Rattle.ang_view.specs.Named.{is_factory}
use Rattle.ang_view.specs.Registration.{RegistrationList, entry_at, is_host_type, is_type, is_function, mentions, is_spelled_with, is_number, is_named_by, is_seen, seen_entry, seen}
use Rattle.ang_view.specs.Types.{enumeration_named, is_enumeration, is_enumeration_named, is_type_named, type_named}
use Rattle.ang_view.proofs.Lists.{and_gives}
use Rattle.ang_view.proofs.Seen.{length-seen, entry_at-seen}
use Rattle.ang_view.proofs.ViewTypes.{enumeration_is_type, has_mask-named, host_type_is_type, shown}
use Rattle.ang_view.specs.Hidden.{names_entry, is_with, shown_from, seen_entry_with, seen_with}
use Rattle.ang_types.specs.declared.arg_type.ArgType.TheVariants as type
use Rattle.ang_check_contest.specs.declared.host.SeenFunction.{SeenFunction}
use Rattle.ang_check_contest.specs.declared.host.Wanted.{Wanted}
use Rattle.ang_check_contest.specs.declared.host.Wanted.TheVariants as wanted
use Rattle.ang_check_contest.specs.Added.{put_in, added}
use Rattle.ang_check_contest.specs.Host.{object_with, host_type, in_front, host_parameters, host_function, function_of_entry, is_method, is_wanted, found, scan, host_where}

-- ---- the entries of the view

pub either_way : (b : Bool) (o : Option Entry) → cond b o o ≡ o
either_way true o = refl
either_way false o = refl

pub length-shown_from : (f : ℕ → Option Entry → Option Entry) (n : ℕ) (xs : RegistrationList) → length (shown_from f n xs) ≡ length xs
length-shown_from f n [] = refl
length-shown_from f n (x ∷ xs) = ap suc (length-shown_from f (n + 1) xs)

pub at_shown_from : (f : ℕ → Option Entry → Option Entry) → ((n : ℕ) → f n None ≡ None) → (n : ℕ) (xs : RegistrationList) (k : ℕ) → entry_at (shown_from f n xs) k ≡ f (n + k) (entry_at xs k)
at_shown_from f e n [] k = sym (e (n + k))
at_shown_from f e n (x ∷ xs) zero = let z : n ≡ n + 0 = omega arith in ap (λ k. f k x) z
at_shown_from f e n (x ∷ xs) (suc k) =
    let z : n + 1 + k ≡ n + suc k = omega arith in
    at_shown_from f e (n + 1) xs k ∙ ap (λ j. f j (entry_at xs k)) z

pub length-seen_with : (R : RegistrationList) (m x : ℕ) → length (seen_with R m x) ≡ length R
unfolding seen_with
length-seen_with R m x = length-shown_from (seen_entry_with R m x) 0 R

pub entry_at-seen_with : (R : RegistrationList) (m x n : ℕ) → entry_at (seen_with R m x) n ≡ seen_entry_with R m x n (entry_at R n)
unfolding seen_with
entry_at-seen_with R m x n =
    let z : 0 + n ≡ n = omega arith in
    at_shown_from (seen_entry_with R m x) (λ k. either_way (is_with R x k) None) 0 R n ∙ ap (λ j. seen_entry_with R m x j (entry_at R n)) z

-- ---- places by name

pub prefix_len-at : (p : Option Entry → Bool) (xs ys : RegistrationList) → length xs ≡ length ys → ((k : ℕ) → p (entry_at xs k) ≡ p (entry_at ys k)) → prefix_len p xs ≡ prefix_len p ys
prefix_len-at p [] [] e h = refl
prefix_len-at p [] (y ∷ ys) e h = absurd (omega (arith, e))
prefix_len-at p (x ∷ xs) [] e h = absurd (omega (arith, e))
prefix_len-at p (x ∷ xs) (y ∷ ys) e h =
    let here : p x ≡ p y = h 0 in
    let rest = prefix_len-at p xs ys (omega (arith, e)) (λ k. h (suc k)) in
    cc

pub position-at : (p : Option Entry → Bool) (xs ys : RegistrationList) → length xs ≡ length ys → ((k : ℕ) → p (entry_at xs k) ≡ p (entry_at ys k)) → position p xs ≡ position p ys
position-at p xs ys e h = rw (prefix_len-at (λ x. not (p x)) xs ys e (λ k. ap not (h k)), e) refl

-- ---- types by name

-- a test that types of one name alone pass
pub record IsTypeTest (own : List ℕ) (p : Option Entry → Bool) : Type 0 where
  pub of_none : p None ≡ false
  pub of_some : (t : Entry) → p (Some t) ≡ true → (is_type t.kind ≡ true) × (t.signature.name ≡ own)

host_type_test : (name : List ℕ) → IsTypeTest name (is_type_named name)
host_type_test name = record {
  of_none = refl;
  of_some = λ t e. let both = and_gives (is_host_type t.kind) (bytes_eq t.signature.name name) e in (host_type_is_type t.kind both.0, (bytes_eq-Decides t.signature.name name).0 both.1);
}

enumeration_test : (name : List ℕ) → IsTypeTest name (is_enumeration_named name)
enumeration_test name = record {
  of_none = refl;
  of_some = λ t e. let both = and_gives (is_enumeration t.kind) (bytes_eq t.signature.name name) e in (enumeration_is_type t.kind both.0, (bytes_eq-Decides t.signature.name name).0 both.1);
}

or_right : (b c : Bool) → c ≡ true → (b || c) ≡ true
or_right true c e = refl
or_right false c e = e

-- an entry names the types of the names that its signature mentions
names_it : (y z : Entry) (k : ℕ) (name : List ℕ) → is_type y.kind ≡ false → mentions y.signature name ≡ true → is_type z.kind ≡ true → z.signature.name ≡ name
    → is_named_by y k (Some z) ≡ true
names_it y z k name f h is same =
    let by : mentions y.signature z.signature.name ≡ true = rw same h in
    let either : (is_number k y.owner || mentions y.signature z.signature.name) ≡ true = or_right _ _ by in
    rw (f, is, either)

module _ (name : List ℕ) (p : Option Entry → Bool) (test : IsTypeTest name p) where
  -- a type shown by a test that lets it through
  let_through : (b : Bool) (o s : Option Entry) → (p o ≡ true → s ≡ o) → (p o ≡ false → p s ≡ false) → (t : Bool) → p o ≡ t → p (cond b o s) ≡ p o
  let_through true o s h g t e = refl
  let_through false o s h g true e = ap p (h e)
  let_through false o s h g false e = g e ∙ sym e

  shown_or_none : (b : Bool) (t : Entry) → p (Some t) ≡ false → p (cond b (Some t) None) ≡ false
  shown_or_none true t e = e
  shown_or_none false t e = test.of_none

  hidden_or : (R : RegistrationList) (m : ℕ) (o : Option Entry) → p o ≡ false → p (seen_entry R m o) ≡ false
  hidden_or R m None e = e
  hidden_or R m (Some t) e = shown_or_none (is_seen R m t) t e

  -- a seen entry names seen types
  seen_through : (R : RegistrationList) (m k : ℕ) (y : Entry) → is_seen R m y ≡ true → is_type y.kind ≡ false → mentions y.signature name ≡ true
      → (o : Option Entry) → entry_at R k ≡ o → p o ≡ true → seen_entry R m o ≡ o
  seen_through R m k y s f h None e t = refl
  seen_through R m k y s f h (Some z) e t =
      let is = test.of_some z t in
      let by : is_named_by y k (Some z) ≡ true = names_it y z k name f h is.0 is.1 in
      shown R m y k (Some z) by (ap (λ o. Rattle.ang_view.specs.Registration.has_mask_for m o) (sym e) ∙ has_mask-named R m y k s (ap (is_named_by y k) e ∙ by))

  place_in_seen : (R : RegistrationList) (m : ℕ) (y : Entry) → is_seen R m y ≡ true → is_type y.kind ≡ false → mentions y.signature name ≡ true
      → position p (seen R m) ≡ position p R
  place_in_seen R m y s f h =
      position-at p (seen R m) R (length-seen R m)
      (λ k. ap p (entry_at-seen R m k)
      ∙ let_through false (entry_at R k) (seen_entry R m (entry_at R k)) (seen_through R m k y s f h (entry_at R k) refl) (hidden_or R m (entry_at R k)) (p (entry_at R k)) refl)

  place_in_seen_with : (R : RegistrationList) (m x : ℕ) (y : Entry) → is_seen R m y ≡ true → is_type y.kind ≡ false → mentions y.signature name ≡ true
      → position p (seen_with R m x) ≡ position p R
  place_in_seen_with R m x y s f h =
      position-at p (seen_with R m x) R (length-seen_with R m x)
      (λ k. ap p (entry_at-seen_with R m x k)
      ∙ let_through (is_with R x k) (entry_at R k) (seen_entry R m (entry_at R k)) (seen_through R m k y s f h (entry_at R k) refl) (hidden_or R m (entry_at R k)) (p (entry_at R k)) refl)

  -- the types that the added entry names come with it
  with_named : (R : RegistrationList) (x k : ℕ) (y : Entry) → entry_at R x ≡ Some y → is_type y.kind ≡ false → mentions y.signature name ≡ true
      → (o : Option Entry) → entry_at R k ≡ o → p o ≡ true → is_with R x k ≡ true
  with_named R x k y at f h None e t = let no' : false ≡ true = sym test.of_none ∙ t in cc
  with_named R x k y at f h (Some z) e t =
      let is = test.of_some z t in
      let by : is_named_by y k (Some z) ≡ true = names_it y z k name f h is.0 is.1 in
      or_right (k == x) (names_entry (entry_at R x) k (entry_at R k)) (ap (λ o. names_entry o k (entry_at R k)) at ∙ ap (is_named_by y k) e ∙ by)

  taken : (b : Bool) (o s : Option Entry) → (p o ≡ true → b ≡ true) → (p o ≡ false → p s ≡ false) → (t : Bool) → p o ≡ t → p (cond b o s) ≡ p o
  taken true o s h g t e = refl
  taken false o s h g true e = let no' : false ≡ true = h e in cc
  taken false o s h g false e = g e ∙ sym e

  place_in_added : (R : RegistrationList) (m x : ℕ) (y : Entry) → entry_at R x ≡ Some y → is_type y.kind ≡ false → mentions y.signature name ≡ true
      → position p (seen_with R m x) ≡ position p R
  place_in_added R m x y at f h =
      position-at p (seen_with R m x) R (length-seen_with R m x)
      (λ k. ap p (entry_at-seen_with R m x k)
      ∙ taken (is_with R x k) (entry_at R k) (seen_entry R m (entry_at R k)) (with_named R x k y at f h (entry_at R k) refl) (hidden_or R m (entry_at R k)) (p (entry_at R k)) refl)

-- both views have the same types and enumerations of a signature
abbrev pub SameTypes : RegistrationList → RegistrationList → (List ℕ → Bool) → Type 0
SameTypes V W test = (name : List ℕ) → test name ≡ true → (type_named V name ≡ type_named W name) × (enumeration_named V name ≡ enumeration_named W name)

pub types_of_seen : (R : RegistrationList) (m : ℕ) (y : Entry) → is_seen R m y ≡ true → is_type y.kind ≡ false → SameTypes (seen R m) R (mentions y.signature)
unfolding type_named enumeration_named
types_of_seen R m y s f name h =
    (place_in_seen name (is_type_named name) (host_type_test name) R m y s f h, place_in_seen name (is_enumeration_named name) (enumeration_test name) R m y s f h)

pub types_of_seen_with : (R : RegistrationList) (m x : ℕ) (y : Entry) → is_seen R m y ≡ true → is_type y.kind ≡ false
    → SameTypes (seen_with R m x) R (mentions y.signature)
unfolding type_named enumeration_named
types_of_seen_with R m x y s f name h =
    (place_in_seen_with name (is_type_named name) (host_type_test name) R m x y s f h, place_in_seen_with name (is_enumeration_named name) (enumeration_test name) R m x y s f h)

pub types_of_added : (R : RegistrationList) (m x : ℕ) (y : Entry) → entry_at R x ≡ Some y → is_type y.kind ≡ false
    → SameTypes (seen_with R m x) R (mentions y.signature)
unfolding type_named enumeration_named
types_of_added R m x y at f name h =
    (place_in_added name (is_type_named name) (host_type_test name) R m x y at f h, place_in_added name (is_enumeration_named name) (enumeration_test name) R m x y at f h)

-- a view with an entry more has the types that a seen entry names as the view without it has them
pub types_of_both : (R : RegistrationList) (m x : ℕ) (y : Entry) → is_seen R m y ≡ true → is_type y.kind ≡ false
    → SameTypes (seen_with R m x) (seen R m) (mentions y.signature)
types_of_both R m x y s f name h =
    let more = types_of_seen_with R m x y s f name h in
    let less = types_of_seen R m y s f name h in
    (more.0 ∙ sym less.0, more.1 ∙ sym less.1)

-- ---- what is made of a declaration

pub or_left : (b c : Bool) → b ≡ true → (b || c) ≡ true
or_left true c e = refl
or_left false c e = cc

pub host_type-same : (V W : RegistrationList) (t : TypeRef) → SameTypes V W (λ name. is_spelled_with name t) → host_type V t ≡ host_type W t
host_type-same V W ref.Void h = refl
host_type-same V W (ref.Plain p) h = refl
host_type-same V W (ref.Enumeration name) h = ap (option_map type.Enumeration) (h name ((bytes_eq-Decides name name).1 refl)).1
host_type-same V W (ref.Object name s o c) h = ap (object_with s o) (h name ((bytes_eq-Decides name name).1 refl)).0

pub host_parameters-same : (V W : RegistrationList) (ps : List Param) → SameTypes V W (λ name. list_any (λ p. is_spelled_with name p.ty) ps) → host_parameters V ps ≡ host_parameters W ps
host_parameters-same V W [] h = refl
host_parameters-same V W (p ∷ ps) h =
    let here = host_type-same V W p.ty (λ name e. h name (or_left (is_spelled_with name p.ty) (list_any (λ q. is_spelled_with name q.ty) ps) e)) in
    let rest = host_parameters-same V W ps (λ name e. h name (or_right (is_spelled_with name p.ty) (list_any (λ q. is_spelled_with name q.ty) ps) e)) in
    λ i. in_front (here i) p.pass (rest i)

pub entry_same : (V W : RegistrationList) (n : ℕ) (y : Entry) → SameTypes V W (mentions y.signature) → function_of_entry V n y ≡ function_of_entry W n y
entry_same V W n y h =
    let s = y.signature in
    let result = host_type-same V W s.result (λ name e. h name (or_left (is_spelled_with name s.result) (list_any (λ p. is_spelled_with name p.ty) s.params) e)) in
    let params = host_parameters-same V W s.params (λ name e. h name (or_right (is_spelled_with name s.result) (list_any (λ p. is_spelled_with name p.ty) s.params) e)) in
    λ i. host_function n y (result i) (params i)

pub function_no_type : (k : EntryKind) → is_function k ≡ true → is_type k ≡ false
function_no_type entry.HostType e = cc
function_no_type entry.Factory e = refl
function_no_type entry.Method e = refl
function_no_type entry.Property e = refl
function_no_type entry.Function e = refl
function_no_type entry.Global e = refl
function_no_type entry.Enumeration e = cc
function_no_type (entry.EnumValue v) e = refl

pub factory_no_type : (k : EntryKind) → is_factory k ≡ true → is_type k ≡ false
factory_no_type entry.HostType e = cc
factory_no_type entry.Factory e = refl
factory_no_type entry.Method e = refl
factory_no_type entry.Property e = refl
factory_no_type entry.Function e = refl
factory_no_type entry.Global e = refl
factory_no_type entry.Enumeration e = cc
factory_no_type (entry.EnumValue v) e = refl

pub method_no_type : (k : EntryKind) → is_method k ≡ true → is_type k ≡ false
method_no_type entry.HostType e = cc
method_no_type entry.Factory e = refl
method_no_type entry.Method e = refl
method_no_type entry.Property e = refl
method_no_type entry.Function e = refl
method_no_type entry.Global e = refl
method_no_type entry.Enumeration e = cc
method_no_type (entry.EnumValue v) e = refl

-- nothing that is looked for is a type
pub no_type : (w : Wanted) (y : Entry) → is_wanted w y ≡ true → is_type y.kind ≡ false
no_type (wanted.Function name) y e = function_no_type y.kind (and_gives (is_function y.kind) _ e).0
no_type (wanted.Factory n) y e = factory_no_type y.kind (and_gives (is_factory y.kind) _ e).0
no_type (wanted.Method n name) y e = method_no_type y.kind (and_gives (is_method y.kind) _ e).0

pub where_wanted : (b : Bool) (o q : Option SeenFunction) → (b ≡ true → o ≡ q) → cond b o None ≡ cond b q None
where_wanted true o q h = h refl
where_wanted false o q h = refl

pub found-same : (w : Wanted) (V W : RegistrationList) (n : ℕ) (y : Entry) → (is_type y.kind ≡ false → SameTypes V W (mentions y.signature)) → found w V n (Some y) ≡ found w W n (Some y)
found-same w V W n y h = where_wanted (is_wanted w y) (function_of_entry V n y) (function_of_entry W n y) (λ e. entry_same V W n y (h (no_type w y e)))

pub type_not_wanted : (w : Wanted) (y : Entry) (b : Bool) → is_wanted w y ≡ b → is_type y.kind ≡ true → is_wanted w y ≡ false
type_not_wanted w y true e t = let no' : true ≡ false = sym t ∙ no_type w y e in cc
type_not_wanted w y false e t = e

pub found_no_type : (w : Wanted) (V : RegistrationList) (n : ℕ) (y : Entry) → is_type y.kind ≡ true → found w V n (Some y) ≡ None
found_no_type w V n y t = rw (type_not_wanted w y (is_wanted w y) refl t) refl

-- ---- scans

unfoldable pub scan_n : (ℕ → Option SeenFunction) → ℕ → ℕ → List SeenFunction
scan_n F n zero = []
scan_n F n (suc l) = option_to_list (F n) ++ scan_n F (n + 1) l

pub scan-is : (f : ℕ → Option Entry → Option SeenFunction) (R xs : RegistrationList) (n : ℕ) → ((j : ℕ) → entry_at xs j ≡ entry_at R (n + j)) → scan f n xs ≡ scan_n (λ k. f k (entry_at R k)) n (length xs)
unfolding scan_n
scan-is f R [] n h = refl
scan-is f R (x ∷ xs) n h =
    let z : n + 0 ≡ n = omega arith in
    let here : x ≡ entry_at R n = h 0 ∙ ap (entry_at R) z in
    let rest = scan-is f R xs (n + 1) (λ j. let e : n + suc j ≡ n + 1 + j = omega arith in h (suc j) ∙ ap (entry_at R) e) in
    λ i. option_to_list (f n (here i)) ++ rest i

pub host_where-is : (w : Wanted) (V : RegistrationList) → host_where w V ≡ scan_n (λ k. found w V k (entry_at V k)) 0 (length V)
unfolding host_where
host_where-is w V = scan-is (found w V) V V 0 (λ j. let e : j ≡ 0 + j = omega arith in ap (entry_at V) e)

pub scan_n-same : (F G : ℕ → Option SeenFunction) (n l : ℕ) → ((k : ℕ) → n ≤ k → F k ≡ G k) → scan_n F n l ≡ scan_n G n l
unfolding scan_n
scan_n-same F G n zero h = refl
scan_n-same F G n (suc l) h =
    let here = h n (omega arith) in
    let rest = scan_n-same F G (n + 1) l (λ k le. h k (omega arith)) in
    λ i. option_to_list (here i) ++ rest i

-- each is found under its number
abbrev pub HaveNumbers : (ℕ → Option SeenFunction) → Type 0
HaveNumbers G = (k : ℕ) → IfSome (G k) (λ h. h.entity.0 ≡ k)

pub lt_is : (a b : ℕ) → a < b → nat_lt a b ≡ true
lt_is a b h = search arith

pub not_lt_is : (a b : ℕ) → b ≤ a → nat_lt a b ≡ false
not_lt_is a b h = search arith

pub in_front_of : (f : SeenFunction) (o : Option SeenFunction) (rest : List SeenFunction) (k : ℕ) → f.entity.0 < k → IfSome o (λ h. h.entity.0 ≡ k) → put_in f rest ≡ f ∷ rest → put_in f (option_to_list o ++ rest) ≡ f ∷ (option_to_list o ++ rest)
in_front_of f None rest k lt e h = h
in_front_of f (Some g) rest k lt e h =
    let less : f.entity.0 < g.entity.0 = subst (λ j. f.entity.0 < j) (sym e) lt in
    rw (lt_is f.entity.0 g.entity.0 less) refl

pub put_front : (f : SeenFunction) (G : ℕ → Option SeenFunction) → HaveNumbers G → (n l : ℕ) → f.entity.0 < n → put_in f (scan_n G n l) ≡ f ∷ scan_n G n l
unfolding scan_n
put_front f G h n zero lt = refl
put_front f G h n (suc l) lt = in_front_of f (G n) (scan_n G (n + 1) l) n lt (h n) (put_front f G h (n + 1) l (omega arith))

pub front : (o : Option SeenFunction) (G : ℕ → Option SeenFunction) → HaveNumbers G → (x l : ℕ) → IfSome o (λ h. h.entity.0 ≡ x) → option_to_list o ++ scan_n G (x + 1) l ≡ added o (scan_n G (x + 1) l)
front None G h x l e = refl
front (Some f) G h x l e = let lt : f.entity.0 < x + 1 = omega (arith, e) in sym (put_front f G h (x + 1) l lt)

pub past : (o q : Option SeenFunction) (rest : List SeenFunction) (n x : ℕ) → n < x → IfSome o (λ h. h.entity.0 ≡ n) → IfSome q (λ h. h.entity.0 ≡ x) → option_to_list o ++ added q rest ≡ added q (option_to_list o ++ rest)
past None q rest n x lt e f = refl
past (Some g) None rest n x lt e f = refl
past (Some g) (Some h) rest n x lt e f =
    let le : g.entity.0 ≤ h.entity.0 = omega (arith, e, f) in
    rw (not_lt_is h.entity.0 g.entity.0 le) refl

pub order : (n x : ℕ) → n ≤ x → (n ≡ x) ⊎ (n < x)
order n x le = grind arith

pub at_place : (F G : ℕ → Option SeenFunction) (x : ℕ) → HaveNumbers F → HaveNumbers G → ((k : ℕ) → k ≢ x → F k ≡ G k) → G x ≡ None → (n l : ℕ) → n ≡ x
    → option_to_list (F n) ++ scan_n F (n + 1) l ≡ added (F x) (option_to_list (G n) ++ scan_n G (n + 1) l)
at_place F G x a b same isnt n l is =
    let rest = scan_n-same F G (n + 1) l (λ k le. same k (omega arith)) in
    let e : F n ≡ F x = ap F is in
    let g : G n ≡ None = ap G is ∙ isnt in
    ap (λ r. option_to_list (F n) ++ r) rest
    ∙ front (F n) G b n l (a n)
    ∙ (λ i. added (e i) (option_to_list (sym g i) ++ scan_n G (n + 1) l))

pub scan_n-added : (F G : ℕ → Option SeenFunction) (x : ℕ) → HaveNumbers F → HaveNumbers G → ((k : ℕ) → k ≢ x → F k ≡ G k) → G x ≡ None → (n l : ℕ) → n ≤ x → x < n + l
    → scan_n F n l ≡ added (F x) (scan_n G n l)
unfolding scan_n
scan_n-added F G x a b same isnt n zero le lt = absurd (omega arith)
scan_n-added F G x a b same isnt n (suc l) le lt =
    elim (order n x le) [
      | inr less ↦
          let here = same n (omega arith) in
          let rest = scan_n-added F G x a b same isnt (n + 1) l (omega arith) (omega arith) in
          (λ i. option_to_list (here i) ++ rest i) ∙ past (G n) (F x) (scan_n G (n + 1) l) n x less (b n) (a x)
      | inl is ↦ at_place F G x a b same isnt n l is
    ]

-- ---- the law

pub numbered : (w : Wanted) (V : RegistrationList) (k : ℕ) (o : Option Entry) → IfSome (found w V k o) (λ h. h.entity.0 ≡ k)
numbered w V k None = tt
numbered w V k (Some y) = by_test (is_wanted w y) (host_type V y.signature.result) (host_parameters V y.signature.params)
  where
    by_test : (b : Bool) (t : Option _) (ps : Option (List _)) → IfSome (cond b (host_function k y t ps) None) (λ h. h.entity.0 ≡ k)
    by_test false t ps = tt
    by_test true None ps = tt
    by_test true (Some t) None = tt
    by_test true (Some t) (Some ps) = refl

pub same_number : (k x : ℕ) → k ≢ x → (k == x) ≡ false
same_number k x ne = search arith

pub type_of_named : (o : Option Entry) (k : ℕ) (y : Entry) → names_entry o k (Some y) ≡ true → is_type y.kind ≡ true
type_of_named None k y e = cc
type_of_named (Some z) k y e = (and_gives (not (is_type z.kind)) (is_type y.kind) (and_gives (not (is_type z.kind) && is_type y.kind) (is_number k z.owner || mentions z.signature y.signature.name) e).0).1

pub at_other : (R : RegistrationList) (m x : ℕ) (w : Wanted) (k : ℕ) → k ≢ x → (o : Option Entry) → entry_at R k ≡ o
    → found w (seen_with R m x) k (seen_entry_with R m x k o) ≡ found w (seen R m) k (seen_entry R m o)
at_other R m x w k ne None e = ap (found w (seen_with R m x) k) (either_way (is_with R x k) None)
at_other R m x w k ne (Some y) e = by_sight (is_seen R m y) refl (is_with R x k) refl
  where
    by_sight : (s : Bool) → is_seen R m y ≡ s → (b : Bool) → is_with R x k ≡ b
        → found w (seen_with R m x) k (cond b (Some y) (cond s (Some y) None)) ≡ found w (seen R m) k (cond s (Some y) None)
    by_sight true s b t =
        ap (found w (seen_with R m x) k) (either_way b (Some y))
        ∙ found-same w (seen_with R m x) (seen R m) k y (λ f. types_of_both R m x y s f)
    by_sight false s false t = refl
    by_sight false s true t =
        let named : names_entry (entry_at R x) k (Some y) ≡ true = sym (ap (λ o. names_entry (entry_at R x) k o) e) ∙ sym (rw (same_number k x ne) refl) ∙ t in
        found_no_type w (seen_with R m x) k y (type_of_named (entry_at R x) k y named)

pub is_same : (x : ℕ) → (x == x) ≡ true
is_same x = eq-eqb x x refl

pub at_own : (R : RegistrationList) (m x : ℕ) (w : Wanted) (o : Option Entry) → entry_at R x ≡ o → found w (seen_with R m x) x o ≡ found w R x o
at_own R m x w None e = refl
at_own R m x w (Some y) e = found-same w (seen_with R m x) R x y (λ f. types_of_added R m x y e f)

pub shown_own : (R : RegistrationList) (m x : ℕ) → entry_at (seen_with R m x) x ≡ entry_at R x
shown_own R m x =
    entry_at-seen_with R m x x
    ∙ ap (λ b. cond b (entry_at R x) (seen_entry R m (entry_at R x))) (or_left (x == x) (names_entry (entry_at R x) x (entry_at R x)) (is_same x))

pub past_end : (R : RegistrationList) (x : ℕ) → length R ≤ x → entry_at R x ≡ None
past_end [] x le = refl
past_end (y ∷ ys) zero le = absurd (omega arith)
past_end (y ∷ ys) (suc x) le = past_end ys x (omega arith)

pub range : (x n : ℕ) → (x < n) ⊎ (n ≤ x)
range x n = grind arith

pub one_added : (R : RegistrationList) (m x : ℕ) (w : Wanted) → entry_at (seen R m) x ≡ None
    → host_where w (seen_with R m x) ≡ added (found w R x (entry_at R x)) (host_where w (seen R m))
one_added R m x w hidden =
    let V = seen_with R m x in
    let S = seen R m in
    let F : ℕ → Option SeenFunction = λ k. found w V k (entry_at V k) in
    let G : ℕ → Option SeenFunction = λ k. found w S k (entry_at S k) in
    let same : (k : ℕ) → k ≢ x → F k ≡ G k = λ k ne.
    ap (found w V k) (entry_at-seen_with R m x k) ∙ at_other R m x w k ne (entry_at R k) refl ∙ sym (ap (found w S k) (entry_at-seen R m k)) in
    let isnt : G x ≡ None = ap (found w S x) hidden in
    let own : F x ≡ found w R x (entry_at R x) = ap (found w V x) (shown_own R m x) ∙ at_own R m x w (entry_at R x) refl in
    let a : HaveNumbers F = λ k. numbered w V k (entry_at V k) in
    let b : HaveNumbers G = λ k. numbered w S k (entry_at S k) in
    let lengths : length V ≡ length S = length-seen_with R m x ∙ sym (length-seen R m) in
    elim (range x (length R)) [
      | inl lt ↦
          host_where-is w V
          ∙ scan_n-added F G x a b same isnt 0 (length V) (omega arith) (omega (arith, length-seen_with R m x))
          ∙ (λ i. added (own i) (scan_n G 0 (lengths i)))
          ∙ sym (ap (added (found w R x (entry_at R x))) (host_where-is w S))
      | inr le ↦
          let none : entry_at R x ≡ None = past_end R x le in
          let nothing : F x ≡ None = own ∙ ap (found w R x) none in
          host_where-is w V
          ∙ scan_n-same F G 0 (length V) (λ k low. everywhere F G x same (nothing ∙ sym isnt) k (k == x) refl)
          ∙ ap (scan_n G 0) lengths
          ∙ sym (host_where-is w S)
          ∙ sym (ap (λ o. added (found w R x o) (host_where w S)) none)
    ]
  where
    everywhere : (F G : ℕ → Option SeenFunction) (x : ℕ) → ((k : ℕ) → k ≢ x → F k ≡ G k) → F x ≡ G x → (k : ℕ) (b : Bool) → (k == x) ≡ b → F k ≡ G k
    everywhere F G x h e k true t = let is : k ≡ x = search (arith, t) in ap F is ∙ e ∙ sym (ap G is)
    everywhere F G x h e k false t = let ne : k ≢ x = search (arith, t) in h k ne
