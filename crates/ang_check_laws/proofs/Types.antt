-- A written type is refused as an unknown one just where its name means no type.
use Rattle.std.specs.Prelude.{◌≡◌, ℕ, Bool, true, false, if◌then◌else◌, is_some, List, Option, Some, None, Ok, Err, IfErr}
use Rattle.std.proofs.Common.{refl}
use Rattle.ang_kinds.specs.declared.error.ErrorKind.{ErrorKind}
use Rattle.ang_kinds.specs.declared.error.ErrorKind.TheVariants.{UnknownType, ByValue, BadImport}
use Rattle.ang_kinds.specs.declared.types.Pass.{Pass}
use Rattle.ang_kinds.specs.declared.types.Pass.TheVariants as pass
use Rattle.ang_lex.specs.declared.token.TokenKind.{TokenKind}
use Rattle.ang_lex.specs.declared.token.TokenKind.TheVariants as k
use Rattle.ang_tree.specs.declared.type_name.TypeName.{TypeName}
use Rattle.ang_tree.specs.declared.type_name.Handle.{Handle}
use Rattle.ang_types.specs.declared.arg_type.ArgType.{ArgType}
use Rattle.ang_types.specs.declared.arg_type.ArgType.TheVariants as type
use Rattle.ang_names_known.specs.declared.space.Named.{Named}
use Rattle.ang_names_known.specs.declared.space.Named.TheVariants as named
use Rattle.ang_names_known.specs.Spaces.{Space, type_of_name, is_family_type}
use Rattle.ang_names_listed.specs.declared.role.TypePosition.{TypePosition}
use Rattle.ang_names_listed.specs.declared.role.TypePosition.TheVariants as role
use Rattle.ang_lex.specs.Text.{text_of}
use Rattle.ang_check_laws.specs.Asked.{refuses_use}
use Rattle.ang_names_listed.specs.Types.{TypeOrError, ◌and_then◌, without_handle, object_type, written_type, no_void, no_object, taken_in, changed, passed, crossing, is_by_value, cast_to, admitted, type_in}

-- where a name that means this is refused as an unknown type; each other refusal is none of a use
abbrev pub IfUnknown : Named → ErrorKind → Type 0
IfUnknown d UnknownType = d ≡ named.Unknown
IfUnknown d why = refuses_use why ≡ false

abbrev Refuses : Named → TypeOrError → Type 0
Refuses d x = IfErr x (IfUnknown d)

then_refused : (d : Named) (x : TypeOrError) (f : ArgType → TypeOrError) → Refuses d x → ((t : ArgType) → Refuses d (f t)) → Refuses d (x and_then f)
then_refused d (Ok t) f h g = g t
then_refused d (Err why) f h g = h

without_refused : (d : Named) (t : ArgType) (h : Option Handle) → Refuses d (without_handle t h)
without_refused d t None = tt
without_refused d t (Some h) = refl

object_refused : (d : Named) (constant : Bool) (h : Option Handle) → Refuses d (object_type d constant h)
object_refused named.Unknown constant h = refl
object_refused (named.Object n) constant None = tt
object_refused (named.Object n) constant (Some h) = tt
object_refused (named.Enumeration n) constant h = without_refused (named.Enumeration n) (type.Enumeration n) h

kind_refused : (E : Space) (text : List ℕ) (y : TypeName) (kind : TokenKind) → Refuses (type_of_name E (text_of text y.name)) (written_type E text y kind)
kind_refused E text y (k.Primitive p) = without_refused _ (type.Plain p) y.handle
kind_refused E text y k.Void = without_refused _ type.Void y.handle
kind_refused E text y _ = object_refused (type_of_name E (text_of text y.name)) (is_some y.constant) y.handle

-- ---- where it can stand, whatever the name means

module _ (d : Named) where
  either_type : (b : Bool) (x y : TypeOrError) → Refuses d x → Refuses d y → Refuses d (if b then x else y)
  either_type true x y h k = h
  either_type false x y h k = k

  void_refused : (t : ArgType) → Refuses d (no_void t)
  void_refused type.Void = refl
  void_refused type.Null = tt
  void_refused (type.Plain p) = tt
  void_refused (type.Enumeration n) = tt
  void_refused (type.Object n c) = tt
  void_refused (type.Handle n c) = tt

  value_refused : (t : ArgType) → Refuses d (no_object t)
  value_refused type.Void = tt
  value_refused type.Null = tt
  value_refused (type.Plain p) = tt
  value_refused (type.Enumeration n) = tt
  value_refused (type.Object n c) = refl
  value_refused (type.Handle n c) = tt

  taken_refused : (t : ArgType) → Refuses d (taken_in t)
  taken_refused type.Void = tt
  taken_refused type.Null = tt
  taken_refused (type.Plain p) = tt
  taken_refused (type.Enumeration n) = tt
  taken_refused (type.Object n c) = either_type c (Ok (type.Object n c)) (Err ByValue) tt refl
  taken_refused (type.Handle n c) = tt

  changed_refused : (t : ArgType) → Refuses d (changed t)
  changed_refused type.Void = refl
  changed_refused type.Null = refl
  changed_refused (type.Plain p) = refl
  changed_refused (type.Enumeration n) = refl
  changed_refused (type.Object n c) = tt
  changed_refused (type.Handle n c) = refl

  passed_refused : (p : Pass) (t : ArgType) → Refuses d (passed p t)
  passed_refused pass.Value t = value_refused t
  passed_refused pass.RefIn t = taken_refused t
  passed_refused pass.RefOut t = value_refused t
  passed_refused pass.RefInOut t = changed_refused t

  crossing_refused : (by_value : Bool) (t : ArgType) → Refuses d (crossing by_value t)
  crossing_refused by_value type.Void = tt
  crossing_refused by_value type.Null = refl
  crossing_refused by_value (type.Plain p) = either_type by_value (Ok (type.Plain p)) (Err BadImport) tt refl
  crossing_refused by_value (type.Enumeration n) = either_type by_value (Ok (type.Enumeration n)) (Err BadImport) tt refl
  crossing_refused by_value (type.Object n c) = refl
  crossing_refused by_value (type.Handle n c) = either_type (is_family_type n) (Err BadImport) (Ok (type.Handle n c)) refl tt

  cast_refused : (t : ArgType) → Refuses d (cast_to t)
  cast_refused type.Void = refl
  cast_refused type.Null = refl
  cast_refused (type.Plain p) = refl
  cast_refused (type.Enumeration n) = refl
  cast_refused (type.Object n c) = tt
  cast_refused (type.Handle n c) = tt

  admitted_refused : (r : TypePosition) (t : ArgType) → Refuses d (admitted r t)
  admitted_refused role.Result t = value_refused t
  admitted_refused role.Variable t = void_refused t
  admitted_refused role.Field t = then_refused d (no_void t) no_object (void_refused t) value_refused
  admitted_refused (role.Parameter p) t = then_refused d (no_void t) (passed p) (void_refused t) (passed_refused p)
  admitted_refused role.ImportResult t = then_refused d (no_object t) (crossing true) (value_refused t) (crossing_refused true)
  admitted_refused (role.ImportParameter p) t =
      then_refused d (no_void t and_then passed p) (crossing (is_by_value p)) (then_refused d (no_void t) (passed p) (void_refused t) (passed_refused p))
      (crossing_refused (is_by_value p))
  admitted_refused role.Cast t = cast_refused t

pub type_refused_so : (E : Space) (r : TypePosition) (text : List ℕ) (y : TypeName) → IfErr (type_in E r text y) (IfUnknown (type_of_name E (text_of text y.name)))
unfolding type_in
type_refused_so E r text y =
    let d = type_of_name E (text_of text y.name) in
    then_refused d (written_type E text y y.name.kind) (admitted r) (kind_refused E text y y.name.kind) (admitted_refused d r)
