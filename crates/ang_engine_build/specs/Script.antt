-- How sections are read: a section's bytes are tokens, and its tokens are declarations; or else it has a first fault, which is an
-- error (docs/LANGUAGE.md, "Tokens" and "Grammar").
use Rattle.std.specs.Prelude.{ℕ, suc, List, [], ◌∷◌, Result, Ok, Err}
use Rattle.ang_kinds.specs.declared.error.Error.{Error}
use Rattle.ang_kinds.specs.declared.error.ErrorKind.TheVariants.{TooLong, BadByte, BadNumber, OpenComment, TooDeep, Syntax}
use Rattle.ang_lex.specs.declared.token.Token.{Token}
use Rattle.ang_lex.specs.declared.error.LexError.{LexError}
use Rattle.ang_lex.specs.declared.error.LexError.TheVariants as lex
use Rattle.ang_lex.specs.Tokens.{tokens_of, start_of}
use Rattle.ang_tree.specs.Declarations.{Decl}
use Rattle.ang_parse.specs.declared.error.ParseError.{ParseError}
use Rattle.ang_parse.specs.declared.error.ParseError.TheVariants as parse
use Rattle.ang_parse.specs.Answers.{script_of}
use Rattle.ang_names_listed.specs.Sources.{Source, fault_at}

-- ---- the error of a section

-- the error that a section's first fault is; `tokens_of` never gives `Memory`
abbrev pub lexical_error : LexError → Error
lexical_error (lex.TooLong place) = fault_at TooLong place
lexical_error (lex.BadByte place) = fault_at BadByte place
lexical_error (lex.BadNumber place) = fault_at BadNumber place
lexical_error (lex.OpenComment place) = fault_at OpenComment place
lexical_error lex.Memory = fault_at BadByte (start_of 0)

-- the error that a parser's answer is; `script_of` never gives `Memory`
abbrev pub grammar_error : ParseError → Error
grammar_error (parse.TooDeep place) = fault_at TooDeep place
grammar_error (parse.Syntax place name) = record { kind = Syntax; place = place; name = name }
grammar_error parse.Memory = fault_at Syntax (start_of 0)

-- ---- sections

abbrev pub with_script : List ℕ → Result (List Decl) ParseError → Result Source Error
with_script text (Err f) = Err (grammar_error f)
with_script text (Ok ds) = Ok (record { text = text; declarations = ds })

abbrev pub with_tokens : List ℕ → Result (List Token) LexError → Result Source Error
with_tokens text (Err e) = Err (lexical_error e)
with_tokens text (Ok ts) = with_script text (script_of text ts)

-- the declarations of one section, or its error
abbrev pub source_from : ℕ → List ℕ → Result Source Error
source_from sect text = with_tokens text (tokens_of sect text)

abbrev pub joined : Result Source Error → Result (List Source) Error → Result (List Source) Error
joined (Err e) rest = Err e
joined (Ok s) (Err e) = Err e
joined (Ok s) (Ok ss) = Ok (s ∷ ss)

-- all sections, counted from here, or the error of the first that has one
abbrev pub sources_of : ℕ → List (List ℕ) → Result (List Source) Error
sources_of sect [] = Ok []
sources_of sect (text ∷ texts) = joined (source_from sect text) (sources_of (suc sect) texts)
