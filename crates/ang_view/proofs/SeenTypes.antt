-- The types that a declaration names, looked for by their names: their masks meet a mask as those do that are found by a scan of the list.
use Rattle.std.proofs.Common.{inl, inr, ◌≡◌, ℕ, zero, suc, ◌+◌, ◌==◌, Bool, true, false, cond, not, ◌&&◌, ◌||◌, List, [], ◌∷◌, map, filter, length, Option, Some, None, refl, sym, ap, ◌∙◌, arith, bytes_eq}
use Rattle.std.specs.List.{list_all, list_any, range_with_len}
use Rattle.std.proofs.lemmas.Bool.Decides.{eqb_tells}
use Rattle.std.proofs.lemmas.Slice.Eq.{bytes_eq-Decides}
use Rattle.ang_kinds.specs.declared.mask.EntityNo.{EntityNo}
use Rattle.ang_kinds.specs.declared.primitive.Primitive.{Primitive}
use Rattle.ang_kinds.specs.declared.types.Param.{Param}
use Rattle.ang_kinds.specs.declared.types.Shape.{Shape}
use Rattle.ang_kinds.specs.declared.types.Signature.{Signature}
use Rattle.ang_kinds.specs.declared.types.TypeRef.{TypeRef}
use Rattle.ang_kinds.specs.declared.types.TypeRef.TheVariants.{Void, Plain, Enumeration, Object}
use Rattle.ang_view.specs.declared.entry.Entry.{Entry}
use Rattle.ang_view.specs.declared.entry.EntryKind.{EntryKind}
use Rattle.ang_view.specs.declared.entry.EntryKind.TheVariants as entry
use Rattle.ang_view.specs.Hidden.{numbers_of}
use Rattle.ang_view.specs.Named.{find, has_name, is_bare, is_type_entry}
use Rattle.ang_view.specs.Registration.{RegistrationList, entry_at, has_mask_for, is_named_by, is_number, is_spelled_with, is_type, mentions, named}
use Rattle.ang_view.specs.SeenTypes.{is_spelled_type, meets_if_spelled, meets_owner, meets_signature, meets_spelled}

-- ---- tests of those numbers that pass another one

pub and_false : (b : Bool) → (b && false) ≡ false
and_false true = refl
and_false false = refl

both : (d h a b : Bool) → h ≡ (a && b) → (d && h) ≡ ((d && a) && (d && b))
both true h a b e = e
both false h a b e = refl

first_alone : (d h a b : Bool) → h ≡ (a && b) → (d && h) ≡ ((d && a) && b)
first_alone true h a b e = e
first_alone false h a b e = refl

second_alone : (d h a b : Bool) → h ≡ (a && b) → (d && h) ≡ (a && (d && b))
second_alone true h a b e = e
second_alone false h a b e = sym (and_false a)

or_step : (q : ℕ → Bool) (b c : Bool) (n : ℕ) (hs fs gs : List ℕ) → list_all q hs ≡ (list_all q fs && list_all q gs)
    → list_all q (cond (b || c) (n ∷ hs) hs) ≡ (list_all q (cond b (n ∷ fs) fs) && list_all q (cond c (n ∷ gs) gs))
or_step q true true n hs fs gs e = both (q n) (list_all q hs) (list_all q fs) (list_all q gs) e
or_step q true false n hs fs gs e = first_alone (q n) (list_all q hs) (list_all q fs) (list_all q gs) e
or_step q false true n hs fs gs e = second_alone (q n) (list_all q hs) (list_all q fs) (list_all q gs) e
or_step q false false n hs fs gs e = e

-- those that pass one of two tests
all_or : (q f g : ℕ → Bool) (ns : List ℕ) → list_all q (filter (λ n. f n || g n) ns) ≡ (list_all q (filter f ns) && list_all q (filter g ns))
all_or q f g [] = refl
all_or q f g (n ∷ ns) = or_step q (f n) (g n) n (filter (λ n. f n || g n) ns) (filter f ns) (filter g ns) (all_or q f g ns)

all_of_none : (q f : ℕ → Bool) → ((n : ℕ) → f n ≡ false) → (ns : List ℕ) → list_all q (filter f ns) ≡ true
all_of_none q f h [] = refl
all_of_none q f h (n ∷ ns) = ap (λ b. list_all q (cond b (n ∷ filter f ns) (filter f ns))) (h n) ∙ all_of_none q f h ns

wide_step : (q : ℕ → Bool) (s w : Bool) (n : ℕ) (rest : Bool) (ms ns : List ℕ) (r : ℕ → Bool) → r n ≡ (not s || q n) → (s ≡ true → w ≡ true) → list_all r ms ≡ list_all q ns
    → list_all r (cond w (n ∷ ms) ms) ≡ list_all q (cond s (n ∷ ns) ns)
wide_step q true true n rest ms ns r e h same = λ i. e i && same i
wide_step q true false n rest ms ns r e h same = let no' : false ≡ true = h refl in cc
wide_step q false true n rest ms ns r e h same = ap (λ b. b && list_all r ms) e ∙ same
wide_step q false false n rest ms ns r e h same = same

-- a test of those that pass f, asked of those that pass a wider one
all_wide : (q f w : ℕ → Bool) → ((n : ℕ) → f n ≡ true → w n ≡ true) → (ns : List ℕ) → list_all (λ n. not (f n) || q n) (filter w ns) ≡ list_all q (filter f ns)
all_wide q f w h [] = refl
all_wide q f w h (n ∷ ns) =
    wide_step q (f n) (w n) n true (filter w ns) (filter f ns) (λ n. not (f n) || q n) refl (h n) (all_wide q f w h ns)

-- ---- the own type

kept_twice : (p a : Bool) → (p && (not a || p)) ≡ p
kept_twice true true = refl
kept_twice true false = refl
kept_twice false a = refl

own_here : (t p a r : Bool) → r ≡ (not (t && a) || p) → cond t (p && r) r ≡ (not t || p)
own_here true p a r e = ap (λ b. p && b) e ∙ kept_twice p a
own_here false p a r e = e

module _ (t q : ℕ → Bool) (k : ℕ) where
  taken : (b : Bool) (n : ℕ) (ns : List ℕ) → list_all q (cond b (n ∷ ns) ns) ≡ cond b (q n && list_all q ns) (list_all q ns)
  taken true n ns = refl
  taken false n ns = refl

  and_true : (b : Bool) → (b && true) ≡ b
  and_true true = refl
  and_true false = refl

  not_false : (b p : Bool) → true ≡ (not (b && false) || p)
  not_false true p = refl
  not_false false p = refl

  at_one : (ns : List ℕ) → list_all q (filter (λ n. t n && (k == n)) ns) ≡ (not (t k && list_any (λ n. k == n) ns) || q k)
  at_one [] = not_false (t k) (q k)
  at_one (n ∷ ns) = elim (eqb_tells k n) [ inl e ↦ same e.0 e.1 (at_one ns) | inr e ↦ other e.0 (at_one ns) ]
    where
      fs : List ℕ
      fs = filter (λ n. t n && (k == n)) ns

      same : (k == n) ≡ true → k ≡ n → list_all q fs ≡ (not (t k && list_any (λ n. k == n) ns) || q k)
          → list_all q (cond (t n && (k == n)) (n ∷ fs) fs) ≡ (not (t k && ((k == n) || list_any (λ n. k == n) ns)) || q k)
      same e is rest =
          ap (λ b. list_all q (cond (t n && b) (n ∷ fs) fs)) e ∙ ap (λ b. list_all q (cond b (n ∷ fs) fs)) (and_true (t n))
          ∙ taken (t n) n fs
          ∙ (λ i. cond (t (sym is i)) (q (sym is i) && list_all q fs) (list_all q fs))
          ∙ own_here (t k) (q k) (list_any (λ n. k == n) ns) (list_all q fs) rest
          ∙ ap (λ b. not b || q k) (sym (and_true (t k)))
          ∙ ap (λ b. not (t k && (b || list_any (λ n. k == n) ns)) || q k) (sym e)

      other : (k == n) ≡ false → list_all q fs ≡ (not (t k && list_any (λ n. k == n) ns) || q k)
          → list_all q (cond (t n && (k == n)) (n ∷ fs) fs) ≡ (not (t k && ((k == n) || list_any (λ n. k == n) ns)) || q k)
      other e rest =
          ap (λ b. list_all q (cond (t n && b) (n ∷ fs) fs)) e ∙ ap (λ b. list_all q (cond b (n ∷ fs) fs)) (and_false (t n))
          ∙ rest
          ∙ ap (λ b. not (t k && (b || list_any (λ n. k == n) ns)) || q k) (sym e)

itself : (n : ℕ) → (n == n) ≡ true
itself n = search arith

unlike : (i k : ℕ) → ((i + suc k) == i) ≡ false
unlike i k = elim (eqb_tells (i + suc k) i) [ inl e ↦ absurd (omega (arith, e.1)) | inr e ↦ e.0 ]

pub and_yes : (b : Bool) → (b && true) ≡ b
and_yes true = refl
and_yes false = refl

-- a type's number is one of the list
pub inside : (V : RegistrationList) (i k : ℕ) → (is_type_entry (entry_at V k) && list_any (λ n. (i + k) == n) (range_with_len i (length V))) ≡ is_type_entry (entry_at V k)
inside [] i k = refl
inside (x ∷ xs) i zero =
    let z : i ≡ i + 0 = omega arith in
    let here : ((i + 0) == i) ≡ true = ap (λ n. n == i) (sym z) ∙ itself i in
    ap (λ b. is_type_entry x && (b || list_any (λ n. (i + 0) == n) (range_with_len (i + 1) (length xs)))) here ∙ and_yes (is_type_entry x)
inside (x ∷ xs) i (suc k) =
    let up : i + suc k ≡ (i + 1) + k = omega arith in
    ap (λ b. is_type_entry (entry_at xs k) && (b || list_any (λ n. (i + suc k) == n) (range_with_len (i + 1) (length xs)))) (unlike i k)
    ∙ ap (λ m. is_type_entry (entry_at xs k) && list_any (λ n. m == n) (range_with_len (i + 1) (length xs))) up
    ∙ inside xs (i + 1) k

owner_met : (V : RegistrationList) (m : ℕ) (owner : Option EntityNo)
    → list_all (λ n. has_mask_for m (entry_at V n)) (filter (λ n. is_type_entry (entry_at V n) && is_number n owner) (numbers_of V)) ≡ meets_owner V m owner
owner_met V m None = all_of_none (λ n. has_mask_for m (entry_at V n)) (λ n. is_type_entry (entry_at V n) && false) (λ n. and_false (is_type_entry (entry_at V n))) (numbers_of V)
owner_met V m (Some e) =
    let from_zero : e.0 ≡ 0 + e.0 = omega arith in
    at_one (λ n. is_type_entry (entry_at V n)) (λ n. has_mask_for m (entry_at V n)) e.0 (numbers_of V)
    ∙ ap (λ k. not (is_type_entry (entry_at V e.0) && list_any (λ n. k == n) (numbers_of V)) || has_mask_for m (entry_at V e.0)) from_zero
    ∙ ap (λ b. not b || has_mask_for m (entry_at V e.0)) (inside V 0 e.0)

-- ---- types that are spelled in a signature

abbrev pub is_spelled_any : List Param → Option Entry → Bool
is_spelled_any ps None = false
is_spelled_any ps (Some t) = is_type t.kind && list_any (λ (p : Param). is_spelled_with t.signature.name p.ty) ps

pub over_or : (b c d : Bool) → (b && (c || d)) ≡ ((b && c) || (b && d))
over_or true c d = refl
over_or false c d = refl

pub no_parameter : (o : Option Entry) → is_spelled_any [] o ≡ false
no_parameter None = refl
no_parameter (Some t) = and_false (is_type t.kind)

pub one_parameter : (p : Param) (ps : List Param) (o : Option Entry) → is_spelled_any (p ∷ ps) o ≡ (is_spelled_type p.ty o || is_spelled_any ps o)
one_parameter p ps None = refl
one_parameter p ps (Some t) = over_or (is_type t.kind) (is_spelled_with t.signature.name p.ty) (list_any (λ (p : Param). is_spelled_with t.signature.name p.ty) ps)

parameters_met : (V : RegistrationList) (m : ℕ) (ps : List Param)
    → list_all (λ n. has_mask_for m (entry_at V n)) (filter (λ n. is_spelled_any ps (entry_at V n)) (numbers_of V)) ≡ list_all (λ (p : Param). meets_spelled V m p.ty) ps
parameters_met V m [] = all_of_none (λ n. has_mask_for m (entry_at V n)) (λ n. is_spelled_any [] (entry_at V n)) (λ n. no_parameter (entry_at V n)) (numbers_of V)
parameters_met V m (p ∷ ps) =
    (λ i. list_all (λ n. has_mask_for m (entry_at V n)) (filter (λ n. one_parameter p ps (entry_at V n) i) (numbers_of V)))
    ∙ all_or (λ n. has_mask_for m (entry_at V n)) (λ n. is_spelled_type p.ty (entry_at V n)) (λ n. is_spelled_any ps (entry_at V n)) (numbers_of V)
    ∙ ap (λ b. meets_spelled V m p.ty && b) (parameters_met V m ps)

-- ---- all types that a declaration names

abbrev pub by_owner : Option EntityNo → Option Entry → ℕ → Bool
by_owner owner o n = is_type_entry o && is_number n owner

abbrev pub by_signature : Signature → Option Entry → Bool
by_signature s o = is_spelled_type s.result o || is_spelled_any s.params o

split : (z b o r a : Bool) → z ≡ false → (not z && b && (o || (r || a))) ≡ ((b && o) || ((b && r) || (b && a)))
split true b o r a e = cc
split false true o r a e = refl
split false false o r a e = refl

pub by_one : (x : Entry) (n : ℕ) (o : Option Entry) → is_type x.kind ≡ false → is_named_by x n o ≡ (by_owner x.owner o n || by_signature x.signature o)
by_one x n None e = refl
by_one x n (Some t) e =
    split (is_type x.kind) (is_type t.kind) (is_number n x.owner) (is_spelled_with t.signature.name x.signature.result)
    (list_any (λ (p : Param). is_spelled_with t.signature.name p.ty) x.signature.params) e

no_names : (z b c : Bool) → z ≡ true → (not z && b && c) ≡ false
no_names true b c e = refl
no_names false b c e = cc

pub names_nothing : (x : Entry) (n : ℕ) (o : Option Entry) → is_type x.kind ≡ true → is_named_by x n o ≡ false
names_nothing x n None e = refl
names_nothing x n (Some t) e = no_names (is_type x.kind) (is_type t.kind) (is_number n x.owner || mentions x.signature t.signature.name) e

pub types_met : (V : RegistrationList) (m : ℕ) (x : Entry)
    → (is_type x.kind || (meets_owner V m x.owner && meets_signature V m x.signature)) ≡ list_all (λ n. has_mask_for m (entry_at V n)) (named V x)
unfolding named
types_met V m x = by (is_type x.kind) refl
  where
    q : ℕ → Bool
    q = λ n. has_mask_for m (entry_at V n)

    by : (b : Bool) → is_type x.kind ≡ b
        → (b || (meets_owner V m x.owner && meets_signature V m x.signature)) ≡ list_all q (filter (λ n. is_named_by x n (entry_at V n)) (numbers_of V))
    by true e = sym (all_of_none q (λ n. is_named_by x n (entry_at V n)) (λ n. names_nothing x n (entry_at V n) e) (numbers_of V))
    by false e =
        sym (
        (λ i. list_all q (filter (λ n. by_one x n (entry_at V n) e i) (numbers_of V)))
        ∙ all_or q (λ n. by_owner x.owner (entry_at V n) n) (λ n. by_signature x.signature (entry_at V n)) (numbers_of V)
        ∙ ap (λ b. list_all q (filter (λ n. by_owner x.owner (entry_at V n) n) (numbers_of V)) && b)
        (all_or q (λ n. is_spelled_type x.signature.result (entry_at V n)) (λ n. is_spelled_any x.signature.params (entry_at V n)) (numbers_of V))
        ∙ (λ i. owner_met V m x.owner i && (meets_spelled V m x.signature.result && parameters_met V m x.signature.params i))
        )

pub named_none : (b c : Bool) → b ≡ true → b ≡ (b || c)
named_none true c e = refl
named_none false c e = cc

pub own_type_met : (b o s : Bool) → b ≡ false → o ≡ true → s ≡ (b || (o && s))
own_type_met true o s e f = cc
own_type_met false true s e f = refl
own_type_met false false s e f = cc

pub own_type_unmet : (b o s : Bool) → b ≡ false → o ≡ false → o ≡ (b || (o && s))
own_type_unmet true o s e f = cc
own_type_unmet false true s e f = cc
own_type_unmet false false s e f = refl

-- ---- found by the name

pub nothing_spelled : (V : RegistrationList) (m : ℕ) (ty : TypeRef) → ((o : Option Entry) → is_spelled_type ty o ≡ false) → true ≡ meets_spelled V m ty
nothing_spelled V m ty h = sym (all_of_none (λ n. has_mask_for m (entry_at V n)) (λ n. is_spelled_type ty (entry_at V n)) (λ n. h (entry_at V n)) (numbers_of V))

spelled_is_bare : (k : EntryKind) → is_type k ≡ true → is_bare k ≡ true
spelled_is_bare entry.HostType e = refl
spelled_is_bare entry.Factory e = cc
spelled_is_bare entry.Method e = cc
spelled_is_bare entry.Property e = cc
spelled_is_bare entry.Function e = cc
spelled_is_bare entry.Global e = cc
spelled_is_bare entry.Enumeration e = refl
spelled_is_bare (entry.EnumValue v) e = cc

by_number : (r : ℕ → Bool) (es : List EntityNo) → list_all (λ (e : EntityNo). r e.0) es ≡ list_all r (map (λ (e : EntityNo). e.0) es)
by_number r [] = refl
by_number r (e ∷ es) = ap (λ b. r e.0 && b) (by_number r es)

-- what is tested of the entries of a name
pub found_met : (V : RegistrationList) (m : ℕ) (ty : TypeRef) (name : List ℕ) (es : List EntityNo)
    → map (λ (e : EntityNo). e.0) es ≡ find V name → ((o : Option Entry) → is_spelled_type ty o ≡ true → has_name name o ≡ true)
    → list_all (λ (e : EntityNo). meets_if_spelled m ty (entry_at V e.0)) es ≡ meets_spelled V m ty
unfolding find
found_met V m ty name es found wide =
    let q : ℕ → Bool = λ n. has_mask_for m (entry_at V n) in
    by_number (λ n. meets_if_spelled m ty (entry_at V n)) es
    ∙ ap (list_all (λ n. meets_if_spelled m ty (entry_at V n))) found
    ∙ all_wide q (λ n. is_spelled_type ty (entry_at V n)) (λ n. has_name name (entry_at V n)) (λ n e. wide (entry_at V n) e) (numbers_of V)

pub no_void : (o : Option Entry) → is_spelled_type Void o ≡ false
no_void None = refl
no_void (Some t) = and_false (is_type t.kind)

pub no_plain : (p : Primitive) (o : Option Entry) → is_spelled_type (Plain p) o ≡ false
no_plain p None = refl
no_plain p (Some t) = and_false (is_type t.kind)

-- `void` and primitive types name nothing
pub void_met : (V : RegistrationList) (m : ℕ) (ty : TypeRef) → ty ≡ Void → true ≡ meets_spelled V m ty
void_met V m ty is = nothing_spelled V m Void no_void ∙ ap (meets_spelled V m) (sym is)

pub plain_met : (V : RegistrationList) (m : ℕ) (ty : TypeRef) (p : Primitive) → ty ≡ Plain p → true ≡ meets_spelled V m ty
plain_met V m ty p is = nothing_spelled V m (Plain p) (no_plain p) ∙ ap (meets_spelled V m) (sym is)

name_kept : (b c d e : Bool) → (b ≡ true → d ≡ true) → (c ≡ true → e ≡ true) → (b && c) ≡ true → (d && e) ≡ true
name_kept true c d e f g h = rw (f refl, g h) refl
name_kept false c d e f g h = cc

spelled_has_name : (own : List ℕ) (t : Entry) → (is_type t.kind && bytes_eq own t.signature.name) ≡ true → has_name own (Some t) ≡ true
spelled_has_name own t e =
    name_kept (is_type t.kind) (bytes_eq own t.signature.name) (is_bare t.kind) (bytes_eq t.signature.name own) (spelled_is_bare t.kind)
    (λ s. (bytes_eq-Decides t.signature.name own).1 (sym ((bytes_eq-Decides own t.signature.name).0 s))) e

-- a type that is spelled by a name has the name
pub has_its_name : (own : List ℕ) (shape : Shape) (o' h' : Bool) (o : Option Entry) → is_spelled_type (Object own shape o' h') o ≡ true → has_name own o ≡ true
has_its_name own shape o' h' None e = cc
has_its_name own shape o' h' (Some t) e = spelled_has_name own t e

pub enumeration_has_its_name : (own : List ℕ) (o : Option Entry) → is_spelled_type (Enumeration own) o ≡ true → has_name own o ≡ true
enumeration_has_its_name own None e = cc
enumeration_has_its_name own (Some t) e = spelled_has_name own t e
