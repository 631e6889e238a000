-- What a parser of host declarations answers, for the crates above. specs/Meaning.antt says the same by the grammar.
use Rattle.std.specs.Prelude.{ℕ, Bool, true, ◌&&◌, is_none, if◌then◌else◌, List, Result, Ok, Err}
use Rattle.ang_kinds.specs.declared.types.Signature.{Signature}
use Rattle.ang_lex.specs.declared.token.Token.{Token}
use Rattle.ang_lex.specs.declared.error.LexError.{LexError}
use Rattle.ang_lex.specs.declared.error.LexError.TheVariants as lexer
use Rattle.ang_lex.specs.Tokens.{tokens_of}
use Rattle.ang_parse_read.specs.declared.error.ReadError.{ReadError}
use Rattle.ang_parse_read.specs.declared.error.ReadError.TheVariants as reader
use Rattle.ang_parse_read.specs.Law.{all_of}
use Rattle.ang_parse_read.specs.Read.{Outcome, Parser}
use Rattle.ang_decl.specs.declared.error.DeclError.{DeclError}
use Rattle.ang_decl.specs.declared.error.DeclError.TheVariants.{Syntax, Unsupported, Memory}
use Rattle.ang_decl.specs.declared.tree.HostFunction.{HostFunction}
use Rattle.ang_decl.specs.Grammar.{is_plain_handle}
use Rattle.ang_decl.specs.Signatures.{is_function_left_out, is_factory_left_out, is_property_left_out, is_type_left_out, function_signature, property_signature, type_signature}
use Rattle.ang_decl.specs.Read.{a_type, a_function, a_property}

-- ---- errors of the layers below

abbrev pub error_of_lex : LexError → DeclError
error_of_lex (lexer.TooLong p) = Syntax
error_of_lex (lexer.BadByte p) = Syntax
error_of_lex (lexer.BadNumber p) = Syntax
error_of_lex (lexer.OpenComment p) = Syntax
error_of_lex lexer.Memory = Memory

abbrev pub error_of_read : ReadError → DeclError
error_of_read reader.Memory = Memory
error_of_read (reader.Syntax rest) = Syntax
error_of_read reader.Deep = Syntax

-- ---- answers

-- What was read is of the form, and is not left out: its signature. Or else which refusal.
abbrev pub judged : {A : Type 0} → (A → Bool) → (A → Bool) → (A → Signature) → Outcome A → Result Signature DeclError
judged form left_out signature (Err f) = Err Syntax
judged form left_out signature (Ok p) = if form p.0 then (if left_out p.0 then Err Unsupported else Ok (signature p.0)) else Err Syntax

abbrev pub judged_tokens : {A : Type 0} → (ℕ → Parser A) → (A → Bool) → (A → Bool) → (A → Signature) → Result (List Token) LexError → Result Signature DeclError
judged_tokens reader form left_out signature (Err e) = Err Syntax
judged_tokens reader form left_out signature (Ok ts) = judged form left_out signature (all_of reader ts)

-- all that is read is of the form
abbrev pub of_any_form : {A : Type 0} → A → Bool
of_any_form x = true

-- no `const` after the parameters
abbrev pub is_function_form : HostFunction → Bool
is_function_form f = is_none f.constant

-- and the result is `T@`
abbrev pub is_factory_form : HostFunction → Bool
is_factory_form f = is_none f.constant && is_plain_handle f.result

unfoldable pub declared_type_alone : List ℕ → Result Signature DeclError
declared_type_alone text = judged_tokens (λ n. a_type) of_any_form is_type_left_out (type_signature text) (tokens_of 0 text)

unfoldable pub declared_property : List ℕ → Result Signature DeclError
declared_property text = judged_tokens (λ n. a_property) of_any_form is_property_left_out (property_signature text) (tokens_of 0 text)

unfoldable pub declared_method : List ℕ → Result Signature DeclError
declared_method text = judged_tokens a_function of_any_form is_function_left_out (function_signature text) (tokens_of 0 text)

unfoldable pub declared_function : List ℕ → Result Signature DeclError
declared_function text = judged_tokens a_function is_function_form is_function_left_out (function_signature text) (tokens_of 0 text)

unfoldable pub declared_factory : List ℕ → Result Signature DeclError
declared_factory text = judged_tokens a_function is_factory_form is_factory_left_out (function_signature text) (tokens_of 0 text)
