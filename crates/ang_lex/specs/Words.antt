-- The reserved words and the signs, each with what the grammar asks of it.
use Rattle.std.specs.Prelude.{ℕ, Bool, List, [], ◌∷◌, codes, if◌then◌else◌}
use Rattle.std.specs.Str.{bytes_eq}
use Rattle.std.specs.List.{list_any}
use Rattle.ang_kinds.specs.declared.primitive.Primitive.TheVariants as p
use Rattle.ang_lex.specs.declared.token.TokenKind.{TokenKind}
use Rattle.ang_lex.specs.declared.token.TokenKind.TheVariants as k

-- a spelling, and the kind of a token that is spelled so
abbrev pub Entry : Type 0
Entry = List ℕ × TokenKind

-- the reserved words: docs/LANGUAGE.md, "Tokens". `int32` is `int`, and `uint32` is `uint`
unfoldable pub reserved_words : List Entry
reserved_words =
    (codes "int8", k.Primitive p.I8) ∷
    (codes "int16", k.Primitive p.I16) ∷
    (codes "int", k.Primitive p.I32) ∷
    (codes "int32", k.Primitive p.I32) ∷
    (codes "int64", k.Primitive p.I64) ∷
    (codes "uint8", k.Primitive p.U8) ∷
    (codes "uint16", k.Primitive p.U16) ∷
    (codes "uint", k.Primitive p.U32) ∷
    (codes "uint32", k.Primitive p.U32) ∷
    (codes "uint64", k.Primitive p.U64) ∷
    (codes "bool", k.Primitive p.Bool) ∷
    (codes "void", k.Void) ∷
    (codes "true", k.True) ∷
    (codes "false", k.False) ∷
    (codes "null", k.Null) ∷
    (codes "this", k.This) ∷
    (codes "super", k.Super) ∷
    (codes "cast", k.Cast) ∷
    (codes "class", k.Class) ∷
    (codes "interface", k.Interface) ∷
    (codes "import", k.Import) ∷
    (codes "from", k.From) ∷
    (codes "private", k.Private) ∷
    (codes "protected", k.Protected) ∷
    (codes "const", k.Const) ∷
    (codes "final", k.Final) ∷
    (codes "override", k.Override) ∷
    (codes "if", k.If) ∷
    (codes "else", k.Else) ∷
    (codes "while", k.While) ∷
    (codes "for", k.For) ∷
    (codes "do", k.Do) ∷
    (codes "break", k.Break) ∷
    (codes "continue", k.Continue) ∷
    (codes "return", k.Return) ∷
    (codes "is", k.Is) ∷
    (codes "and", k.And) ∷
    (codes "or", k.Or) ∷
    (codes "xor", k.Xor) ∷
    (codes "not", k.Not) ∷
    (codes "in", k.In) ∷
    (codes "out", k.Out) ∷
    (codes "inout", k.InOut) ∷
    (codes "auto", k.Reserved) ∷
    (codes "float", k.Reserved) ∷
    (codes "double", k.Reserved) ∷
    (codes "enum", k.Reserved) ∷
    (codes "typedef", k.Reserved) ∷
    (codes "funcdef", k.Reserved) ∷
    (codes "namespace", k.Reserved) ∷
    (codes "switch", k.Reserved) ∷
    (codes "case", k.Reserved) ∷
    (codes "default", k.Reserved) ∷
    (codes "mixin", k.Reserved) ∷
    []

-- the signs, the longest first; `!is` is not among them, since what follows it counts too
unfoldable pub signs : List Entry
signs =
    (codes ">>>=", k.ShiftRightArithmeticAssign) ∷
    (codes "<<=", k.ShiftLeftAssign) ∷
    (codes ">>=", k.ShiftRightAssign) ∷
    (codes ">>>", k.ShiftRightArithmetic) ∷
    (codes "<<", k.ShiftLeft) ∷
    (codes ">>", k.ShiftRight) ∷
    (codes "<=", k.LessEqual) ∷
    (codes ">=", k.GreaterEqual) ∷
    (codes "==", k.Equal) ∷
    (codes "!=", k.NotEqual) ∷
    (codes "&&", k.And) ∷
    (codes "||", k.Or) ∷
    (codes "^^", k.Xor) ∷
    (codes "++", k.Increment) ∷
    (codes "--", k.Decrement) ∷
    (codes "+=", k.PlusAssign) ∷
    (codes "-=", k.MinusAssign) ∷
    (codes "*=", k.StarAssign) ∷
    (codes "/=", k.SlashAssign) ∷
    (codes "%=", k.PercentAssign) ∷
    (codes "&=", k.AmpersandAssign) ∷
    (codes "|=", k.PipeAssign) ∷
    (codes "^=", k.CaretAssign) ∷
    (codes "::", k.Scope) ∷
    (codes "+", k.Plus) ∷
    (codes "-", k.Minus) ∷
    (codes "*", k.Star) ∷
    (codes "/", k.Slash) ∷
    (codes "%", k.Percent) ∷
    (codes "&", k.Ampersand) ∷
    (codes "|", k.Pipe) ∷
    (codes "^", k.Caret) ∷
    (codes "~", k.Tilde) ∷
    (codes "!", k.Not) ∷
    (codes "<", k.Less) ∷
    (codes ">", k.Greater) ∷
    (codes "=", k.Assign) ∷
    (codes "?", k.Question) ∷
    (codes ":", k.Colon) ∷
    (codes ";", k.Semicolon) ∷
    (codes ",", k.Comma) ∷
    (codes ".", k.Dot) ∷
    (codes "(", k.LeftParen) ∷
    (codes ")", k.RightParen) ∷
    (codes "{", k.LeftBrace) ∷
    (codes "}", k.RightBrace) ∷
    (codes "@", k.At) ∷
    []

abbrev pub not_is : List ℕ
not_is = codes "!is"

-- the text is one of the spellings
unfoldable pub is_listed : List Entry → List ℕ → Bool
is_listed entries text = list_any (λ e. bytes_eq e.0 text) entries

-- the kind of that spelling, and of any other text the kind at the end
unfoldable pub lookup : List Entry → List ℕ → TokenKind → TokenKind
lookup [] text other = other
lookup (e ∷ entries) text other = if bytes_eq e.0 text then e.1 else lookup entries text other
