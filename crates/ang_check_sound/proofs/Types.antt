-- What type is written: of the host one that the view has, or a class or an interface that is there.
use Rattle.std.specs.Prelude.{◌≡◌, ℕ, ◌+◌, ◌-◌, ◌≤◌, ◌<◌, nat_lt, if◌then◌else◌, Bool, true, false, is_some, length, List, [], Option, Some, None, IfSome, IsSome, Ok, Err, IfOk, bytes_eq}
use Rattle.std.specs.List.{position}
use Rattle.std.proofs.Common.{refl, sym, ap, subst, arith}
use Rattle.std.proofs.lemmas.List.Quantifiers.{position-Some}
use Rattle.ang_kinds.specs.declared.error.ErrorKind.TheVariants.{ByValue, BadImport}
use Rattle.ang_kinds.specs.declared.types.Pass.{Pass}
use Rattle.ang_kinds.specs.declared.types.Pass.TheVariants as pass
use Rattle.ang_lex.specs.declared.token.TokenKind.{TokenKind}
use Rattle.ang_lex.specs.declared.token.TokenKind.TheVariants as k
use Rattle.ang_tree.specs.declared.type_name.TypeName.{TypeName}
use Rattle.ang_tree.specs.declared.type_name.Handle.{Handle}
use Rattle.ang_types.specs.declared.arg_type.ArgType.{ArgType}
use Rattle.ang_types.specs.declared.arg_type.ArgType.TheVariants as type
use Rattle.ang_view.specs.declared.entry.Entry.{Entry}
use Rattle.ang_view.specs.Registration.{entry_at}
use Rattle.ang_view.specs.Types.{enumeration_named, is_enumeration_named, is_type_named, type_named}
use Rattle.ang_names_known.specs.declared.space.Named.{Named}
use Rattle.ang_names_known.specs.declared.space.Named.TheVariants as named
use Rattle.ang_names_known.specs.Spaces.{Space, first_family, family_type, family_of_type, family_or_host, is_family_type, type_of_name}
use Rattle.ang_names_listed.specs.declared.role.TypePosition.{TypePosition}
use Rattle.ang_names_listed.specs.declared.role.TypePosition.TheVariants as role
use Rattle.ang_lex.specs.Text.{text_of}
use Rattle.ang_names_listed.specs.Types.{TypeOrError, ◌and_then◌, without_handle, object_type, written_type, no_void, no_object, taken_in, changed, passed, crossing, is_by_value, cast_to, admitted, type_in, settled}
use Rattle.ang_check_operators.specs.Operands.{object_of}
use Rattle.ang_source.specs.Sound.{IsNoBlank, IsSeenType}

-- ---- numbers of types

below : (a b : ℕ) → nat_lt a b ≡ true → a < b
below a b h = search arith

is_low : (a b : ℕ) → a < b → nat_lt a b ≡ true
is_low a b h = search arith

-- a number below those of families is no family's
host_number : (P : ℕ → Type 0) (n : ℕ) → n < first_family → IfSome (family_of_type n) P
host_number P n h =
    subst (λ (low : Bool). IfSome (if low then None else Some (n - first_family)) P) (sym (is_low n first_family h)) tt

family_number : (c count : ℕ) → c < count → IfSome (family_of_type (family_type c)) (λ d. d < count)
family_number c count h = by (nat_lt (family_type c) first_family)
  where
    by : (low : Bool) → IfSome (if low then None else Some (family_type c - first_family)) (λ d. d < count)
    by true = tt
    by false = let goal : 1024 + c - 1024 < count = omega (arith, h) in goal

-- the same, said of the test alone
no_family : (n : ℕ) → n < first_family → family_of_type n ≡ None
no_family n h = ap (λ (low : Bool). if low then None else Some (n - first_family)) (is_low n first_family h)

-- a family's number is no host type's
family_has : {P : Type 0} (c : ℕ) → family_of_type (family_type c) ≡ None → P
family_has {P = P} c none = by (nat_lt (family_type c) first_family) refl none
  where
    by : (low : Bool) → nat_lt (family_type c) first_family ≡ low → (if low then None else Some (family_type c - first_family)) ≡ None → P
    by true e none = absurd (omega (arith, below (family_type c) first_family e))
    by false e none = cc

-- ---- what a written type is of a name

-- What holds of the name's meaning, where one is written, and of every other type:
module _ (P : Named → Type 0) (Other : Type 0) where
  abbrev pub TypeHas : ArgType → Type 0
  TypeHas type.Void = Other
  TypeHas type.Null = Other
  TypeHas (type.Plain p) = Other
  TypeHas (type.Enumeration n) = P (named.Enumeration n)
  TypeHas (type.Object n c) = P (named.Object n)
  TypeHas (type.Handle n c) = P (named.Object n)

  without_has : (ty : ArgType) (h : Option Handle) → TypeHas ty → IfOk (without_handle ty h) TypeHas
  without_has ty None has = has
  without_has ty (Some h) has = tt

  pub object_has : (d : Named) (constant : Bool) (h : Option Handle) → P d → IfOk (object_type d constant h) TypeHas
  object_has named.Unknown constant h has = tt
  object_has (named.Object n) constant None has = has
  object_has (named.Object n) constant (Some h) has = has
  object_has (named.Enumeration n) constant h has = without_has (type.Enumeration n) h has

  -- where it can stand is asked of it, and its number stays
  no_void_has : (ty : ArgType) → TypeHas ty → IfOk (no_void ty) TypeHas
  no_void_has type.Void has = tt
  no_void_has type.Null has = has
  no_void_has (type.Plain p) has = has
  no_void_has (type.Enumeration n) has = has
  no_void_has (type.Object n c) has = has
  no_void_has (type.Handle n c) has = has

  no_object_has : (ty : ArgType) → TypeHas ty → IfOk (no_object ty) TypeHas
  no_object_has type.Void has = has
  no_object_has type.Null has = has
  no_object_has (type.Plain p) has = has
  no_object_has (type.Enumeration n) has = has
  no_object_has (type.Object n c) has = tt
  no_object_has (type.Handle n c) has = has

  if_has : (b : Bool) (x y : TypeOrError) → IfOk x TypeHas → IfOk y TypeHas → IfOk (if b then x else y) TypeHas
  if_has true x y h k = h
  if_has false x y h k = k

  taken_in_has : (ty : ArgType) → TypeHas ty → IfOk (taken_in ty) TypeHas
  taken_in_has type.Void has = has
  taken_in_has type.Null has = has
  taken_in_has (type.Plain p) has = has
  taken_in_has (type.Enumeration n) has = has
  taken_in_has (type.Object n c) has = if_has c (Ok (type.Object n c)) (Err ByValue) has tt
  taken_in_has (type.Handle n c) has = has

  changed_has : (ty : ArgType) → TypeHas ty → IfOk (changed ty) TypeHas
  changed_has type.Void has = tt
  changed_has type.Null has = tt
  changed_has (type.Plain p) has = tt
  changed_has (type.Enumeration n) has = tt
  changed_has (type.Object n c) has = has
  changed_has (type.Handle n c) has = tt

  passed_has : (p : Pass) (ty : ArgType) → TypeHas ty → IfOk (passed p ty) TypeHas
  passed_has pass.Value ty has = no_object_has ty has
  passed_has pass.RefIn ty has = taken_in_has ty has
  passed_has pass.RefOut ty has = no_object_has ty has
  passed_has pass.RefInOut ty has = changed_has ty has

  crossing_has : (b : Bool) (ty : ArgType) → TypeHas ty → IfOk (crossing b ty) TypeHas
  crossing_has b type.Void has = has
  crossing_has b type.Null has = tt
  crossing_has b (type.Plain p) has = if_has b (Ok (type.Plain p)) (Err BadImport) has tt
  crossing_has b (type.Enumeration n) has = if_has b (Ok (type.Enumeration n)) (Err BadImport) has tt
  crossing_has b (type.Object n c) has = tt
  crossing_has b (type.Handle n c) has = if_has (is_family_type n) (Err BadImport) (Ok (type.Handle n c)) tt has

  cast_to_has : (ty : ArgType) → TypeHas ty → IfOk (cast_to ty) TypeHas
  cast_to_has type.Void has = tt
  cast_to_has type.Null has = tt
  cast_to_has (type.Plain p) has = tt
  cast_to_has (type.Enumeration n) has = tt
  cast_to_has (type.Object n c) has = has
  cast_to_has (type.Handle n c) has = has

  pub then_has : (m : TypeOrError) (f : ArgType → TypeOrError) → IfOk m TypeHas → ((ty : ArgType) → TypeHas ty → IfOk (f ty) TypeHas) → IfOk (m and_then f) TypeHas
  then_has (Ok ty) f has keeps = keeps ty has
  then_has (Err why) f has keeps = tt

  pub admitted_has : (r : TypePosition) (ty : ArgType) → TypeHas ty → IfOk (admitted r ty) TypeHas
  admitted_has role.Result ty has = no_object_has ty has
  admitted_has role.Variable ty has = no_void_has ty has
  admitted_has role.Field ty has = then_has (no_void ty) no_object (no_void_has ty has) no_object_has
  admitted_has (role.Parameter p) ty has = then_has (no_void ty) (passed p) (no_void_has ty has) (passed_has p)
  admitted_has role.ImportResult ty has = then_has (no_object ty) (crossing true) (no_object_has ty has) (crossing_has true)
  admitted_has (role.ImportParameter p) ty has =
      then_has (no_void ty and_then passed p) (crossing (is_by_value p)) (then_has (no_void ty) (passed p) (no_void_has ty has) (passed_has p)) (crossing_has (is_by_value p))
  admitted_has role.Cast ty has = cast_to_has ty has

-- What holds of the meaning of every name holds of each type that is written.
module _ (E : Space) (P : Named → Type 0) (each : (name : List ℕ) → P (type_of_name E name)) where
  abbrev Has : ArgType → Type 0
  Has = TypeHas P (Unit {0})

  written_has : (text : List ℕ) (y : TypeName) (kind : TokenKind) → IfOk (written_type E text y kind) Has
  written_has text y (k.Primitive p) = without_has P (Unit {0}) (type.Plain p) y.handle tt
  written_has text y k.Void = without_has P (Unit {0}) type.Void y.handle tt
  written_has text y _ = object_has P (Unit {0}) (type_of_name E (text_of text y.name)) (is_some y.constant) y.handle (each (text_of text y.name))

  pub type_in_has : (r : TypePosition) (text : List ℕ) (y : TypeName) → IfOk (type_in E r text y) Has
  unfolding type_in
  type_in_has r text y = then_has P (Unit {0}) (written_type E text y y.name.kind) (admitted r) (written_has text y y.name.kind) (admitted_has P (Unit {0}) r)

  -- the type that is meant, where one is written
  pub settled_has : (r : TypePosition) (text : List ℕ) (y : TypeName) → Has (settled (type_in E r text y))
  settled_has r text y = settled_so (type_in E r text y) (type_in_has r text y)
    where
      settled_so : (m : TypeOrError) → IfOk m Has → Has (settled m)
      settled_so (Ok ty) has = has
      settled_so (Err why) has = tt

-- ---- what is there of a name

-- In a space over a view whose types have numbers below those of families:
module _ (E : Space) (few : length E.view ≤ first_family) where
  -- of an object type: a class or an interface that is there, or an entry that the view has
  abbrev pub IsObjectThere : ℕ → Option ℕ → Type 0
  IsObjectThere n own = IfSome own (λ d. d < length E.families) × (own ≡ None → IsSome (entry_at E.view n))

  abbrev pub IsNameThere : Named → Type 0
  IsNameThere named.Unknown = Unit {0}
  IsNameThere (named.Object n) = IsObjectThere n (family_of_type n)
  IsNameThere (named.Enumeration n) = IsSome (entry_at E.view n)

  type_has : (name : List ℕ) (o : Option Entry) → is_type_named name o ≡ true → IsSome o
  type_has name None e = cc
  type_has name (Some x) e = refl

  enumeration_has : (name : List ℕ) (o : Option Entry) → is_enumeration_named name o ≡ true → IsSome o
  enumeration_has name None e = cc
  enumeration_has name (Some x) e = refl

  host_there : (name : List ℕ) (n : ℕ) → position (is_type_named name) E.view ≡ Some n → IsObjectThere n (family_of_type n)
  host_there name n e =
      let at = position-Some (is_type_named name) E.view n None e in
      let within : n < length E.view = at.0 in
      (host_number (λ d. d < length E.families) n (omega (arith, few, within)), λ none. type_has name (entry_at E.view n) at.1)

  family_there : (name : List ℕ) (c : ℕ) → position (bytes_eq name) E.families ≡ Some c → IsObjectThere (family_type c) (family_of_type (family_type c))
  family_there name c e = (family_number c (length E.families) (position-Some (bytes_eq name) E.families c [] e).0, λ none. family_has c none)

  one_there : (name : List ℕ) (c n m : Option ℕ) → position (bytes_eq name) E.families ≡ c → position (is_type_named name) E.view ≡ n
      → position (is_enumeration_named name) E.view ≡ m → IsNameThere (family_or_host c n m)
  one_there name (Some c) n m e f g = family_there name c e
  one_there name None (Some n) m e f g = host_there name n f
  one_there name None None (Some m) e f g = enumeration_has name (entry_at E.view m) (position-Some (is_enumeration_named name) E.view m None g).1
  one_there name None None None e f g = tt

  pub name_there : (name : List ℕ) → IsNameThere (type_of_name E name)
  unfolding type_of_name type_named enumeration_named
  name_there name =
      one_there name (position (bytes_eq name) E.families) (position (is_type_named name) E.view) (position (is_enumeration_named name) E.view) refl refl refl

  -- ---- and of a written type

  abbrev IsTypeThere : ArgType → Type 0
  IsTypeThere = TypeHas IsNameThere (Unit {0})

  -- what a cast is to
  abbrev pub IsCastThere : ArgType → Type 0
  IsCastThere ty = IfSome (object_of ty) (λ o. IsObjectThere o.0 (family_of_type o.0))

  cast_object : (ty : ArgType) → IsTypeThere ty → IsCastThere ty
  cast_object type.Void there = tt
  cast_object type.Null there = tt
  cast_object (type.Plain p) there = tt
  cast_object (type.Enumeration n) there = tt
  cast_object (type.Object n c) there = there
  cast_object (type.Handle n c) there = there

  host_no_blank : (n : ℕ) → IsObjectThere n (family_of_type n) → IsNoBlank E.view n
  host_no_blank n there within = there.1 (no_family n (omega (arith, few, within)))

  type_seen : (ty : ArgType) → IsTypeThere ty → IsSeenType E.view ty
  type_seen type.Void there = tt
  type_seen type.Null there = tt
  type_seen (type.Plain p) there = tt
  type_seen (type.Enumeration n) there = λ within. there
  type_seen (type.Object n c) there = host_no_blank n there
  type_seen (type.Handle n c) there = host_no_blank n there

  then_so : (P : ArgType → Type 0) (m : TypeOrError) → ((ty : ArgType) → IsTypeThere ty → P ty) → IfOk m IsTypeThere → IfOk m P
  then_so P (Ok ty) so there = so ty there
  then_so P (Err why) so there = tt

  pub cast_there : (text : List ℕ) (y : TypeName) → IfOk (type_in E role.Cast text y) IsCastThere
  cast_there text y = then_so IsCastThere (type_in E role.Cast text y) cast_object (type_in_has E IsNameThere name_there role.Cast text y)

  -- no blank of the view
  pub type_in_seen : (r : TypePosition) (text : List ℕ) (y : TypeName) → IfOk (type_in E r text y) (IsSeenType E.view)
  type_in_seen r text y = then_so (IsSeenType E.view) (type_in E r text y) type_seen (type_in_has E IsNameThere name_there r text y)

  pub written_seen : (r : TypePosition) (text : List ℕ) (y : TypeName) → IsSeenType E.view (settled (type_in E r text y))
  written_seen r text y = type_seen (settled (type_in E r text y)) (settled_has E IsNameThere name_there r text y)
