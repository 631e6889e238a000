-- How parameters are spelled, for functions that overload one name (docs/LANGUAGE.md, "Names of a build"; the AngelScript manual,
-- "Function overloading"; what is the same is this profile's own): two parameters are the same
-- where their types are spelled the same (`int32` is `int`, `T@+` is `T@`), both are `const` or neither, and they are passed alike.
use Rattle.std.specs.Prelude.{ℕ, Bool, true, false, ◌+◌, ◌==◌, ◌&&◌, is_some, List, [], ◌∷◌, ◌++◌, Option, Some, None, bytes_eq, if◌then◌else◌}
use Rattle.std.specs.List.{flat_map}
use Rattle.std.specs.Cmp.Lexicographic.{pointwise}
use Rattle.std.proofs.Math.Bool.{beq}
use Rattle.ang_kinds.specs.declared.types.Param.{Param}
use Rattle.ang_kinds.specs.declared.types.Shape.{Shape}
use Rattle.ang_kinds.specs.declared.types.Shape.TheVariants as shape
use Rattle.ang_kinds.specs.declared.types.TypeRef.{TypeRef}
use Rattle.ang_kinds.specs.declared.types.TypeRef.TheVariants as ref
use Rattle.ang_lex.specs.declared.token.TokenKind.{TokenKind}
use Rattle.ang_lex.specs.declared.token.TokenKind.TheVariants as k
use Rattle.ang_view.specs.Numbers.{primitive_number, pass_number}
use Rattle.ang_tree.specs.declared.declaration.Parameter.{Parameter}
use Rattle.ang_tree.specs.declared.type_name.TypeName.{TypeName}
use Rattle.ang_tree.specs.declared.type_name.Handle.{Handle}
use Rattle.ang_names_listed.specs.declared.spelling.Base.{Base}
use Rattle.ang_names_listed.specs.declared.spelling.Base.TheVariants as base
use Rattle.ang_names_listed.specs.declared.spelling.Sign.{Sign}
use Rattle.ang_names_listed.specs.declared.spelling.Sign.TheVariants as sign
use Rattle.ang_names_listed.specs.declared.spelling.Spelling.{Spelling}
use Rattle.ang_lex.specs.Text.{text_of}
use Rattle.ang_names_listed.specs.Types.{pass_of}

-- ---- a script's

abbrev pub base_by : List ℕ → TypeName → TokenKind → Base
base_by text y (k.Primitive p) = base.Primitive p
base_by text y k.Void = base.Void
base_by text y _ = base.Named (text_of text y.name)

abbrev pub sign_by : Bool → Sign
sign_by constant = if constant then sign.ConstHandle else sign.Handle

abbrev pub sign_of : Option Handle → Sign
sign_of None = sign.Absent
sign_of (Some h) = sign_by (is_some h.constant)

-- how a parameter is spelled
unfoldable pub spelling_of : List ℕ → Parameter → Spelling
spelling_of text p = record {
  base = base_by text p.declared_type p.declared_type.name.kind;
  sign = sign_of p.declared_type.handle;
  is_const = is_some p.declared_type.constant;
  pass = pass_of p.reference;
}

-- ---- a host's

abbrev pub host_base : TypeRef → Base
host_base ref.Void = base.Void
host_base (ref.Plain p) = base.Primitive p
host_base (ref.Enumeration name) = base.Named name
host_base (ref.Object name s o h) = base.Named name

abbrev pub shape_sign : Shape → Bool → Sign
shape_sign shape.ByValue h = sign.Absent
shape_sign _ h = sign_by h

abbrev pub host_sign : TypeRef → Sign
host_sign (ref.Object name s o h) = shape_sign s h
host_sign _ = sign.Absent

abbrev pub is_host_const : TypeRef → Bool
is_host_const (ref.Object name s o h) = o
is_host_const _ = false

-- how a host function's parameter is spelled
unfoldable pub host_spelling_of : Param → Spelling
host_spelling_of p = record { base = host_base p.ty; sign = host_sign p.ty; is_const = is_host_const p.ty; pass = p.pass }

-- ---- the same

abbrev pub same_base : Base → Base → Bool
same_base base.Void base.Void = true
same_base (base.Primitive p) (base.Primitive q) = primitive_number p == primitive_number q
same_base (base.Named n) (base.Named m) = bytes_eq n m
same_base _ _ = false

abbrev pub sign_number : Sign → ℕ
sign_number sign.Absent = 0
sign_number sign.Handle = 1
sign_number sign.ConstHandle = 2

abbrev pub same_spelling : Spelling → Spelling → Bool
same_spelling a b =
    same_base a.base b.base && sign_number a.sign == sign_number b.sign && beq a.is_const b.is_const && pass_number a.pass == pass_number b.pass

-- Two lists of parameters by which functions of one name can't overload: they are as long, and each parameter is the same.
abbrev pub same_spellings : List ℕ → List Parameter → List ℕ → List Parameter → Bool
same_spellings text ps other qs = pointwise (λ p q. same_spelling (spelling_of text p) (spelling_of other q)) ps qs

abbrev pub same_as_host : List ℕ → List Parameter → List Param → Bool
same_as_host text ps qs = pointwise (λ p q. same_spelling (spelling_of text p) (host_spelling_of q)) ps qs

-- ---- as bytes, so that functions that can't overload one name are found by them

abbrev pub named_code : List ℕ → List ℕ
named_code name = 10 ∷ name

abbrev pub base_code : Base → List ℕ
base_code base.Void = 0 ∷ []
base_code (base.Primitive p) = (primitive_number p + 1) ∷ []
base_code (base.Named name) = named_code name

abbrev pub const_number : Bool → ℕ
const_number true = 1
const_number false = 0

-- spellings that are the same have the same bytes
unfoldable pub code_of : Spelling → List ℕ
code_of s = base_code s.base ++ sign_number s.sign ∷ const_number s.is_const ∷ pass_number s.pass ∷ []

abbrev pub codes_of : List ℕ → List Parameter → List ℕ
codes_of text ps = flat_map (λ (p : Parameter). code_of (spelling_of text p)) ps
