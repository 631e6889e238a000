-- What the grammar asks of a token: its kind. (docs/LANGUAGE.md, "Tokens" and "Grammar".)
use Rattle.std.specs.Prelude.{◌≡◌, ℕ, Bool, true, false, ◌||◌, List, ◌∷◌, Option, Some, None, is_some}
use Rattle.ang_lex.specs.declared.token.Token.{Token}
use Rattle.ang_lex.specs.declared.token.TokenKind.{TokenKind}
use Rattle.ang_lex.specs.declared.token.TokenKind.TheVariants as k
use Rattle.ang_lex.specs.Operators.{binary_operator, compound_operator, precedence_of}

-- the token is of this kind
abbrev pub Is : TokenKind → Token → Type 0
Is kind t = t.kind ≡ kind

-- the token is of one of the kinds that the test accepts
abbrev pub IsA : (TokenKind → Bool) → Token → Type 0
IsA test t = test t.kind ≡ true

-- where it is written, it is of this kind
abbrev pub IfWritten : TokenKind → Option Token → Type 0
IfWritten kind None = Unit {0}
IfWritten kind (Some t) = Is kind t

abbrev pub IfWrittenA : (TokenKind → Bool) → Option Token → Type 0
IfWrittenA test None = Unit {0}
IfWrittenA test (Some t) = IsA test t

-- it is written, and is a comma
abbrev pub IsComma : Option Token → Type 0
IsComma None = ⊥
IsComma (Some t) = Is k.Comma t

-- a token that may be left out, in front of what follows
abbrev pub optional : Option Token → List Token → List Token
optional None after = after
optional (Some t) after = t ∷ after

-- NUMBER, `true`, `false`, `null`, `this`
abbrev pub literal_kind : TokenKind → Bool
literal_kind k.Number = true
literal_kind k.True = true
literal_kind k.False = true
literal_kind k.Null = true
literal_kind k.This = true
literal_kind _ = false

-- the words of the primitive types
abbrev pub primitive_kind : TokenKind → Bool
primitive_kind (k.Primitive p) = true
primitive_kind _ = false

-- what a type is named by: a primitive type, `void` or a name
abbrev pub type_kind : TokenKind → Bool
type_kind (k.Primitive p) = true
type_kind k.Void = true
type_kind k.Name = true
type_kind _ = false

-- the operators in front of an operand
abbrev pub prefix_kind : TokenKind → Bool
prefix_kind k.Not = true
prefix_kind k.Minus = true
prefix_kind k.Plus = true
prefix_kind k.Tilde = true
prefix_kind k.At = true
prefix_kind k.Increment = true
prefix_kind k.Decrement = true
prefix_kind _ = false

-- `++` and `--`
abbrev pub step_kind : TokenKind → Bool
step_kind k.Increment = true
step_kind k.Decrement = true
step_kind _ = false

-- `=`
abbrev pub plain_assignment_kind : TokenKind → Bool
plain_assignment_kind k.Assign = true
plain_assignment_kind _ = false

-- `=` and the compound assignments
abbrev pub assignment_kind : TokenKind → Bool
assignment_kind kind = plain_assignment_kind kind || is_some (compound_operator kind)

-- How tightly a binary operator binds, from `||` at 1 to `*` at 10. No other token is a binary operator: 0.
abbrev pub precedence : TokenKind → ℕ
precedence kind = precedence_of (binary_operator kind)

-- `in`, `out`, `inout`
abbrev pub direction_kind : TokenKind → Bool
direction_kind k.In = true
direction_kind k.Out = true
direction_kind k.InOut = true
direction_kind _ = false

-- `private`, `protected`
abbrev pub access_kind : TokenKind → Bool
access_kind k.Private = true
access_kind k.Protected = true
access_kind _ = false

-- `final`, `override`
abbrev pub attribute_kind : TokenKind → Bool
attribute_kind k.Final = true
attribute_kind k.Override = true
attribute_kind _ = false
