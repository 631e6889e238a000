-- What the reader of sections answers.
use Rattle.std.specs.Prelude.{◌≡◌, ◌≢◌, List, Vec, Result, Ok, Err, map as list_map}
use Rattle.std.specs.declared.alloc.Global.{Global}
use Rattle.ang_kinds.specs.declared.error.Error.{Error}
use Rattle.ang_lex.specs.declared.error.LexError.{LexError}
use Rattle.ang_lex.specs.declared.error.LexError.TheVariants as lex
use Rattle.ang_parse.specs.declared.error.ParseError.{ParseError}
use Rattle.ang_parse.specs.declared.error.ParseError.TheVariants as parse
use Rattle.ang_tree.specs.declared.declaration.Script.{Script}
use Rattle.ang_engine_build.specs.declared.stop.SourceError.{SourceError}
use Rattle.ang_engine_build.specs.declared.stop.SourceError.TheVariants.{Fault, Memory}
use Rattle.ang_names_listed.specs.Sources.{Source, source_of}
use Rattle.ang_engine_build.specs.Script.{lexical_error, grammar_error}

-- a section's declarations or its error, unless memory was refused
abbrev pub IsSource : Result Script SourceError → Result Source Error → Type 0
IsSource (Ok s) read = read ≡ Ok (source_of s)
IsSource (Err (Fault e)) read = read ≡ Err e
IsSource (Err Memory) read = Unit {0}

-- the same of all sections
abbrev pub AreSources : Result (Vec Script Global) SourceError → Result (List Source) Error → Type 0
AreSources (Ok ss) read = read ≡ Ok (list_map source_of ss.items)
AreSources (Err (Fault e)) read = read ≡ Err e
AreSources (Err Memory) read = Unit {0}

-- the error of a section's first fault, which want of memory is not
abbrev pub IsFault : SourceError → LexError → Type 0
IsFault (Fault e) fault = (e ≡ lexical_error fault) × (fault ≢ lex.Memory)
IsFault Memory fault = Unit {0}

-- the same of a parser's answer
abbrev pub IsUnparsed : SourceError → ParseError → Type 0
IsUnparsed (Fault e) fault = (e ≡ grammar_error fault) × (fault ≢ parse.Memory)
IsUnparsed Memory fault = Unit {0}
