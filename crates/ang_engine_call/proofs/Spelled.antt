-- Parameters of the same type as it is written, and of the same passing, are spelled the same.
use Rattle.std.proofs.Common.{◌≡◌, ◌≢◌, ℕ, Bool, true, false, ◌==◌, ◌&&◌, ◌<◌, ◌≤◌, List, [], ◌∷◌, length, Option, Some, None, Ok, Err, refl, sym, ap, ◌∙◌, subst, map, eq-eqb, arith}
use Rattle.std.specs.Prelude.{bytes_eq, is_some}
use Rattle.std.specs.List.{position}
use Rattle.std.specs.Option.{option_or}
use Rattle.std.specs.Cmp.{booleans_Decides}
use Rattle.std.proofs.Math.Bool.{beq}
use Rattle.std.proofs.lemmas.List.Quantifiers.{position-Some}
use Rattle.std.proofs.lemmas.Slice.Eq.{bytes_eq-Decides}
use Rattle.ang_kinds.specs.declared.types.Pass.{Pass}
use Rattle.ang_kinds.specs.declared.types.Pass.TheVariants as pass
use Rattle.ang_kinds.specs.declared.primitive.Primitive.{Primitive}
use Rattle.ang_lex.specs.declared.token.TokenKind.{TokenKind}
use Rattle.ang_lex.specs.declared.token.TokenKind.TheVariants as k
use Rattle.ang_view.specs.declared.entry.Entry.{Entry}
use Rattle.ang_view.specs.Numbers.{primitive_number, pass_number}
use Rattle.ang_view.specs.Registration.{RegistrationList, is_host_type}
use Rattle.ang_view.specs.Types.{enumeration_named, is_enumeration, is_enumeration_named, is_type_named, type_named}
use Rattle.ang_view.proofs.Lists.{and_gives}
use Rattle.ang_tree.specs.declared.declaration.Parameter.{Parameter}
use Rattle.ang_tree.specs.declared.type_name.TypeName.{TypeName}
use Rattle.ang_tree.specs.declared.type_name.Handle.{Handle}
use Rattle.ang_types.specs.declared.arg_type.ArgType.{ArgType}
use Rattle.ang_types.specs.declared.arg_type.ArgType.TheVariants as type
use Rattle.ang_types.specs.declared.asks.Refused.{Refused}
use Rattle.ang_names_known.specs.declared.space.Named.{Named}
use Rattle.ang_names_known.specs.declared.space.Named.TheVariants as named
use Rattle.ang_names_known.specs.Spaces.{Space, family_or_host, type_of_name}
use Rattle.ang_names_listed.specs.declared.spelling.Base.{Base}
use Rattle.ang_names_listed.specs.declared.spelling.Base.TheVariants as base
use Rattle.ang_names_listed.specs.declared.spelling.Sign.{Sign}
use Rattle.ang_names_listed.specs.declared.spelling.Sign.TheVariants as sign
use Rattle.ang_lex.specs.Text.{text_of}
use Rattle.ang_names_listed.specs.Spellings.{base_by, sign_by, sign_of, sign_number, spelling_of, same_base, same_spelling, same_spellings}
use Rattle.ang_names_listed.specs.declared.role.TypePosition.TheVariants as role
use Rattle.ang_names_listed.specs.Types.{TypeOrError, without_handle, object_type, written_type, no_void, passed, pass_of, type_in, is_const_handle, settled, ◌and_then◌}
use Rattle.ang_names.specs.Refusals.{parameters_refusal, type_refusal_of, why_refused}
use Rattle.ang_names_classes.specs.Headings.{parameter_of}
use Rattle.ang_engine_call.specs.Headings.{Passed, passed_of}

-- ---- a type's name by its number

name_of_entry : (name : List ℕ) (here : Option Entry) → is_type_named name here ≡ true → (t : Entry) × (here ≡ Some t) × (t.signature.name ≡ name)
name_of_entry name None h = cc
name_of_entry name (Some t) h = (t, refl, (bytes_eq-Decides t.signature.name name).0 (and_gives (is_host_type t.kind) (bytes_eq t.signature.name name) h).1)

one_entry : (a b : List ℕ) (here : Option Entry) → is_type_named a here ≡ true → is_type_named b here ≡ true → a ≡ b
one_entry a b here h g =
    let x = name_of_entry a here h in
    let y = name_of_entry b here g in
    let same : x.0 ≡ y.0 = cc in
    sym x.2 ∙ ap (λ (t : Entry). t.signature.name) same ∙ y.2

one_host_type : (V : RegistrationList) (a b : List ℕ) (n : ℕ) → type_named V a ≡ Some n → type_named V b ≡ Some n → a ≡ b
unfolding type_named
one_host_type V a b n e f =
    one_entry a b _ (position-Some (is_type_named a) V n None e).1 (position-Some (is_type_named b) V n None f).1

name_of_enumeration : (name : List ℕ) (here : Option Entry) → is_enumeration_named name here ≡ true → (t : Entry) × (here ≡ Some t) × (t.signature.name ≡ name)
name_of_enumeration name None h = cc
name_of_enumeration name (Some t) h = (t, refl, (bytes_eq-Decides t.signature.name name).0 (and_gives (is_enumeration t.kind) (bytes_eq t.signature.name name) h).1)

one_value_type : (a b : List ℕ) (here : Option Entry) → is_enumeration_named a here ≡ true → is_enumeration_named b here ≡ true → a ≡ b
one_value_type a b here h g =
    let x = name_of_enumeration a here h in
    let y = name_of_enumeration b here g in
    let same : x.0 ≡ y.0 = cc in
    sym x.2 ∙ ap (λ (t : Entry). t.signature.name) same ∙ y.2

one_enumeration : (V : RegistrationList) (a b : List ℕ) (n : ℕ) → enumeration_named V a ≡ Some n → enumeration_named V b ≡ Some n → a ≡ b
unfolding enumeration_named
one_enumeration V a b n e f =
    one_value_type a b _ (position-Some (is_enumeration_named a) V n None e).1 (position-Some (is_enumeration_named b) V n None f).1

-- a host type's number is below those of families
host_below : (V : RegistrationList) (a : List ℕ) (n : ℕ) → length V ≤ 1024 → type_named V a ≡ Some n → n < 1024
unfolding type_named
host_below V a n small e = omega (arith, small, (position-Some (is_type_named a) V n None e).0)

one_family : (fs : List (List ℕ)) (a b : List ℕ) (c : ℕ) → position (bytes_eq a) fs ≡ Some c → position (bytes_eq b) fs ≡ Some c → a ≡ b
one_family fs a b c e f =
    let x = (bytes_eq-Decides a _).0 (position-Some (bytes_eq a) fs c [] e).1 in
    let y = (bytes_eq-Decides b _).0 (position-Some (bytes_eq b) fs c [] f).1 in
    x ∙ sym y

no_object : (u : Option ℕ) (n : ℕ) → family_or_host None None u ≡ named.Object n → ⊥
no_object None n e = cc
no_object (Some m) n e = cc

-- a name that means an enumeration is found as one
number_of_enumeration : (c x u : Option ℕ) (n : ℕ) → family_or_host c x u ≡ named.Enumeration n → u ≡ Some n
number_of_enumeration (Some c) x u n e = cc
number_of_enumeration None (Some m) u n e = cc
number_of_enumeration None None None n e = cc
number_of_enumeration None None (Some m) n e = let is : m ≡ n = cc in ap Some is

-- What two names are found as, a family or a host type, and that they are of one number.
one_of_two : (fs : List (List ℕ)) (V : RegistrationList) (a b : List ℕ) (c d x y u v : Option ℕ) (n : ℕ) → length V ≤ 1024
    → position (bytes_eq a) fs ≡ c → position (bytes_eq b) fs ≡ d → type_named V a ≡ x → type_named V b ≡ y
    → family_or_host c x u ≡ named.Object n → family_or_host d y v ≡ named.Object n → a ≡ b
one_of_two fs V a b (Some c) (Some d) x y u v n small e f g h s t =
    let same : c ≡ d = omega (arith, number_is s, number_is t) in
    one_family fs a b c e (f ∙ ap Some (sym same))
  where
    number_is : {m : ℕ} → named.Object m ≡ named.Object n → m ≡ n
    number_is e = cc
one_of_two fs V a b (Some c) None x (Some m) u v n small e f g h s t = absurd (omega (arith, above s, below t, host_below V b m small h))
  where
    above : {m : ℕ} → named.Object m ≡ named.Object n → m ≡ n
    above e = cc

    below : named.Object m ≡ named.Object n → m ≡ n
    below e = cc
one_of_two fs V a b None (Some d) (Some m) y u v n small e f g h s t = absurd (omega (arith, below s, above t, host_below V a m small g))
  where
    above : {m : ℕ} → named.Object m ≡ named.Object n → m ≡ n
    above e = cc

    below : named.Object m ≡ named.Object n → m ≡ n
    below e = cc
one_of_two fs V a b None None (Some l) (Some m) u v n small e f g h s t =
    let first : l ≡ n = cc in
    let second : m ≡ n = cc in
    one_host_type V a b n (g ∙ ap Some first) (h ∙ ap Some second)
one_of_two fs V a b (Some c) None x None u v n small e f g h s t = absurd (no_object v n t)
one_of_two fs V a b None (Some d) None y u v n small e f g h s t = absurd (no_object u n s)
one_of_two fs V a b None None None y u v n small e f g h s t = absurd (no_object u n s)
one_of_two fs V a b None None (Some l) None u v n small e f g h s t = absurd (no_object v n t)

-- What two names are found as, an enumeration, and that they are of one number.
one_of_values : (V : RegistrationList) (a b : List ℕ) (c d x y u v : Option ℕ) (n : ℕ) → enumeration_named V a ≡ u → enumeration_named V b ≡ v
    → family_or_host c x u ≡ named.Enumeration n → family_or_host d y v ≡ named.Enumeration n → a ≡ b
one_of_values V a b c d x y u v n e f s t =
    one_enumeration V a b n (e ∙ number_of_enumeration c x u n s) (f ∙ number_of_enumeration d y v n t)

one_name : (E : Space) (a b : List ℕ) (n : ℕ) → length E.view ≤ 1024 → type_of_name E a ≡ named.Object n → type_of_name E b ≡ named.Object n → a ≡ b
unfolding type_of_name
one_name E a b n small s t = one_of_two E.families E.view a b _ _ _ _ _ _ n small refl refl refl refl s t

one_value_name : (E : Space) (a b : List ℕ) (n : ℕ) → type_of_name E a ≡ named.Enumeration n → type_of_name E b ≡ named.Enumeration n → a ≡ b
unfolding type_of_name
one_value_name E a b n s t = one_of_values E.view a b _ _ _ _ _ _ n refl refl s t

-- ---- what a type tells of its spelling

-- A type, with whether `const` stands after its `@`, that is spelled by this base and sign.
abbrev IsSpelled : Space → ArgType → Bool → Base → Sign → Type 0
IsSpelled E type.Void r b s = ⊥
IsSpelled E type.Null r b s = ⊥
IsSpelled E (type.Plain p) r b s = (b ≡ base.Primitive p) × (s ≡ sign.Absent)
IsSpelled E (type.Enumeration n) r b s = (name : List ℕ) × (b ≡ base.Named name) × (type_of_name E name ≡ named.Enumeration n) × (s ≡ sign.Absent)
IsSpelled E (type.Object n o) r b s = (name : List ℕ) × (b ≡ base.Named name) × (type_of_name E name ≡ named.Object n) × (s ≡ sign.Absent)
IsSpelled E (type.Handle n o) r b s = (name : List ℕ) × (b ≡ base.Named name) × (type_of_name E name ≡ named.Object n) × (s ≡ sign_by r)

-- two spellings that are the same
abbrev AreSame : Base → Base → Sign → Sign → Type 0
AreSame b b' s s' = (same_base b b' ≡ true) × (s ≡ s')

same_primitive : (b b' : Base) (p : Primitive) → b ≡ base.Primitive p → b' ≡ base.Primitive p → same_base b b' ≡ true
same_primitive b b' p e f =
    (λ i. same_base (e i) (f i)) ∙ eq-eqb (primitive_number p) (primitive_number p) refl

same_named : (E : Space) (b b' : Base) (name name' : List ℕ) (n : ℕ) → length E.view ≤ 1024 → b ≡ base.Named name → b' ≡ base.Named name'
    → type_of_name E name ≡ named.Object n → type_of_name E name' ≡ named.Object n → same_base b b' ≡ true
same_named E b b' name name' n small e f g h =
    (λ i. same_base (e i) (f i)) ∙ (bytes_eq-Decides name name').1 (one_name E name name' n small g h)

same_value_type : (E : Space) (b b' : Base) (name name' : List ℕ) (n : ℕ) → b ≡ base.Named name → b' ≡ base.Named name'
    → type_of_name E name ≡ named.Enumeration n → type_of_name E name' ≡ named.Enumeration n → same_base b b' ≡ true
same_value_type E b b' name name' n e f g h = (λ i. same_base (e i) (f i)) ∙ (bytes_eq-Decides name name').1 (one_value_name E name name' n g h)

spelled_alike : (E : Space) (t : ArgType) (r : Bool) (b b' : Base) (s s' : Sign) → length E.view ≤ 1024 → IsSpelled E t r b s → IsSpelled E t r b' s' → AreSame b b' s s'
spelled_alike E type.Void r b b' s s' small x y = absurd x
spelled_alike E type.Null r b b' s s' small x y = absurd x
spelled_alike E (type.Plain p) r b b' s s' small x y = (same_primitive b b' p x.0 y.0, x.1 ∙ sym y.1)
spelled_alike E (type.Enumeration n) r b b' s s' small x y = (same_value_type E b b' x.0 y.0 n x.1 y.1 x.2 y.2, x.3 ∙ sym y.3)
spelled_alike E (type.Object n o) r b b' s s' small x y = (same_named E b b' x.0 y.0 n small x.1 y.1 x.2 y.2, x.3 ∙ sym y.3)
spelled_alike E (type.Handle n o) r b b' s s' small x y = (same_named E b b' x.0 y.0 n small x.1 y.1 x.2 y.2, x.3 ∙ sym y.3)

-- ---- the spelling of a written type

plain_is : (E : Space) (p : Primitive) (h : Option Handle) (t : ArgType) → without_handle (type.Plain p) h ≡ Ok t → IsSpelled E t (is_const_handle h) (base.Primitive p) (sign_of h)
plain_is E p None t e =
    let own : type.Plain p ≡ t = cc in
    subst (λ (u : ArgType). IsSpelled E u (is_const_handle None) (base.Primitive p) sign.Absent) own (refl, refl)
plain_is E p (Some h) t e = cc

void_is_none : (h : Option Handle) (t : ArgType) → without_handle type.Void h ≡ Ok t → t ≢ type.Void → ⊥
void_is_none None t e n = n cc
void_is_none (Some h) t e n = cc

object_is : (E : Space) (found : Named) (name : List ℕ) (h : Option Handle) (c : Bool) (t : ArgType) → type_of_name E name ≡ found → object_type found c h ≡ Ok t
    → IsSpelled E t (is_const_handle h) (base.Named name) (sign_of h)
object_is E named.Unknown name h c t e f = cc
object_is E (named.Object n) name None c t e f =
    let own : type.Object n c ≡ t = cc in
    subst (λ (u : ArgType). IsSpelled E u (is_const_handle None) (base.Named name) sign.Absent) own (name, refl, e, refl)
object_is E (named.Object n) name (Some h) c t e f =
    let own : type.Handle n c ≡ t = cc in
    subst (λ (u : ArgType). IsSpelled E u (is_const_handle (Some h)) (base.Named name) (sign_of (Some h))) own (name, refl, e, refl)
object_is E (named.Enumeration n) name None c t e f =
    let own : type.Enumeration n ≡ t = cc in
    subst (λ (u : ArgType). IsSpelled E u (is_const_handle None) (base.Named name) sign.Absent) own (name, refl, e, refl)
object_is E (named.Enumeration n) name (Some h) c t e f = cc

type_is : (E : Space) (text : List ℕ) (y : TypeName) (kind : TokenKind) (t : ArgType) → written_type E text y kind ≡ Ok t → t ≢ type.Void
    → IsSpelled E t (is_const_handle y.handle) (base_by text y kind) (sign_of y.handle)
type_is E text y (k.Primitive p) t e n = plain_is E p y.handle t e
type_is E text y k.Void t e n = absurd (void_is_none y.handle t e n)
type_is E text y _ t e n = object_is E (type_of_name E (text_of text y.name)) (text_of text y.name) y.handle (is_some y.constant) t refl e

-- ---- where it can stand

then_is : (m : TypeOrError) (f : ArgType → TypeOrError) (t : ArgType) → (m and_then f) ≡ Ok t → (u : ArgType) × (m ≡ Ok u) × (f u ≡ Ok t)
then_is (Ok u) f t e = (u, refl, e)
then_is (Err why) f t e = cc

no_void_is : (u t : ArgType) → no_void u ≡ Ok t → (u ≡ t) × (t ≢ type.Void)
no_void_is type.Void t h = cc
no_void_is type.Null t h = let own : type.Null ≡ t = cc in (own, λ v. cc)
no_void_is (type.Plain p) t h = let own : type.Plain p ≡ t = cc in (own, λ v. cc)
no_void_is (type.Enumeration n) t h = let own : type.Enumeration n ≡ t = cc in (own, λ v. cc)
no_void_is (type.Object n c) t h = let own : type.Object n c ≡ t = cc in (own, λ v. cc)
no_void_is (type.Handle n c) t h = let own : type.Handle n c ≡ t = cc in (own, λ v. cc)

passed_is : (p : Pass) (u t : ArgType) → passed p u ≡ Ok t → u ≡ t
passed_is pass.Value type.Void t h = cc
passed_is pass.Value type.Null t h = cc
passed_is pass.Value (type.Plain p) t h = cc
passed_is pass.Value (type.Enumeration n) t h = cc
passed_is pass.Value (type.Object n c) t h = cc
passed_is pass.Value (type.Handle n c) t h = cc
passed_is pass.RefIn type.Void t h = cc
passed_is pass.RefIn type.Null t h = cc
passed_is pass.RefIn (type.Plain p) t h = cc
passed_is pass.RefIn (type.Enumeration n) t h = cc
passed_is pass.RefIn (type.Object n true) t h = cc
passed_is pass.RefIn (type.Object n false) t h = cc
passed_is pass.RefIn (type.Handle n c) t h = cc
passed_is pass.RefOut type.Void t h = cc
passed_is pass.RefOut type.Null t h = cc
passed_is pass.RefOut (type.Plain p) t h = cc
passed_is pass.RefOut (type.Enumeration n) t h = cc
passed_is pass.RefOut (type.Object n c) t h = cc
passed_is pass.RefOut (type.Handle n c) t h = cc
passed_is pass.RefInOut type.Void t h = cc
passed_is pass.RefInOut type.Null t h = cc
passed_is pass.RefInOut (type.Plain p) t h = cc
passed_is pass.RefInOut (type.Enumeration n) t h = cc
passed_is pass.RefInOut (type.Object n c) t h = cc
passed_is pass.RefInOut (type.Handle n c) t h = cc

parameter_is : (E : Space) (text : List ℕ) (p : Parameter) (t : ArgType) → type_in E (role.Parameter (pass_of p.reference)) text p.declared_type ≡ Ok t
    → IsSpelled E t (is_const_handle p.declared_type.handle) (base_by text p.declared_type p.declared_type.name.kind) (sign_of p.declared_type.handle)
unfolding type_in
parameter_is E text p t e =
    let y = p.declared_type in
    let way = pass_of p.reference in
    let w = then_is (written_type E text y y.name.kind) (λ u. no_void u and_then passed way) t e in
    let v = then_is (no_void w.0) (passed way) t w.2 in
    let n = no_void_is w.0 v.0 v.1 in
    let own : v.0 ≡ t = passed_is way v.0 t v.2 in
    let no : t ≢ type.Void = subst (λ (u : ArgType). u ≢ type.Void) own n.1 in
    type_is E text y y.name.kind t (w.1 ∙ ap Ok (n.0 ∙ own)) no

-- ---- parameters

all_hold : (a b c d : Bool) → a ≡ true → b ≡ true → c ≡ true → d ≡ true → (a && b && c && d) ≡ true
all_hold a b c d e f g h = λ i. e i && f i && g i && h i

-- of two parameters with types
one_spelling : (E : Space) (text other : List ℕ) (p q : Parameter) (t u : ArgType) → length E.view ≤ 1024 → type_in E (role.Parameter (pass_of p.reference)) text p.declared_type ≡ Ok t
    → type_in E (role.Parameter (pass_of q.reference)) other q.declared_type ≡ Ok u → passed_of (parameter_of E text false p) ≡ passed_of (parameter_of E other false q)
    → same_spelling (spelling_of text p) (spelling_of other q) ≡ true
unfolding spelling_of
one_spelling E text other p q t u small e f same =
    let y = p.declared_type in
    let z = q.declared_type in
    let types : u ≡ t = sym (ap settled f) ∙ sym (ap (λ (x : Passed). x.written.ty) same) ∙ ap settled e in
    let handles : is_const_handle z.handle ≡ is_const_handle y.handle = sym (ap (λ (x : Passed). x.written.const_handle) same) in
    let constants : is_some y.constant ≡ is_some z.constant = ap (λ (x : Passed). x.written.constant) same in
    let way : pass_of p.reference ≡ pass_of q.reference = ap (λ (x : Passed). x.pass) same in
    let b = base_by other z z.name.kind in
    let s = sign_of z.handle in
    let here = parameter_is E text p t e in
    let there = parameter_is E other q u f in
    let moved = subst (λ (x : ArgType). IsSpelled E x (is_const_handle z.handle) b s) types there in
    let shown = subst (λ (r : Bool). IsSpelled E t r b s) handles moved in
    let alike = spelled_alike E t (is_const_handle y.handle) (base_by text y y.name.kind) b (sign_of y.handle) s small here shown in
    all_hold (same_base (base_by text y y.name.kind) b) (sign_number (sign_of y.handle) == sign_number s) (beq (is_some y.constant) (is_some z.constant))
    (pass_number (pass_of p.reference) == pass_number (pass_of q.reference)) alike.0 (eq-eqb _ _ (ap sign_number alike.1)) ((booleans_Decides _ _).1 constants) (eq-eqb _ _ (ap pass_number way))

typed_from : (E : Space) (p : Parameter) (text : List ℕ) (m : TypeOrError) → type_in E (role.Parameter (pass_of p.reference)) text p.declared_type ≡ m
    → type_refusal_of E text (role.Parameter (pass_of p.reference)) p.declared_type ≡ None → (t : ArgType) × (type_in E (role.Parameter (pass_of p.reference)) text p.declared_type ≡ Ok t)
typed_from E p text (Ok t) is e = (t, is)
typed_from E p text (Err kind) is e = let refused = ap (λ m. why_refused text p.declared_type.name m) (sym is) ∙ e in cc

pub both_none : (a b : Option Refused) → option_or a b ≡ None → (a ≡ None) × (b ≡ None)
both_none None b e = (refl, e)
both_none (Some x) b e = cc

-- Lists of parameters that no phase refuses, and that are equal but for their names, are spelled the same.
pub same_lists : (E : Space) (text other : List ℕ) (ps qs : List Parameter) → length E.view ≤ 1024 → parameters_refusal E text false ps ≡ None
    → parameters_refusal E other false qs ≡ None → map passed_of (map (parameter_of E text false) ps) ≡ map passed_of (map (parameter_of E other false) qs)
    → same_spellings text ps other qs ≡ true
same_lists E text other [] [] small e f same = refl
same_lists E text other [] (q ∷ qs) small e f same = cc
same_lists E text other (p ∷ ps) [] small e f same = cc
same_lists E text other (p ∷ ps) (q ∷ qs) small e f same =
    let x = both_none (type_refusal_of E text (role.Parameter (pass_of p.reference)) p.declared_type) (parameters_refusal E text false ps) e in
    let y = both_none (type_refusal_of E other (role.Parameter (pass_of q.reference)) q.declared_type) (parameters_refusal E other false qs) f in
    let t = typed_from E p text _ refl x.0 in
    let u = typed_from E q other _ refl y.0 in
    let head : passed_of (parameter_of E text false p) ≡ passed_of (parameter_of E other false q) = cc in
    let tail : map passed_of (map (parameter_of E text false) ps) ≡ map passed_of (map (parameter_of E other false) qs) = cc in
    let first = one_spelling E text other p q t.0 u.0 small t.1 u.1 head in
    let rest = same_lists E text other ps qs small x.1 y.1 tail in
    λ i. first i && rest i
