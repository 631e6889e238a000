-- Code that gives what a parser reads.
use Rattle.std.specs.Prelude.{◌≡◌, List, Result, Ok, Err}
use Rattle.ang_lex.specs.declared.token.Token.{Token}
use Rattle.ang_parse_read.specs.declared.error.ReadError.{ReadError}
use Rattle.ang_parse_read.specs.declared.error.ReadError.TheVariants as e
use Rattle.ang_parse_read.specs.Read.{Outcome, at, deep}

abbrev pub Fails : {Y : Type 0} → ReadError → Outcome Y → Type 0
Fails e.Memory read = Unit {0}
Fails (e.Syntax rest) read = read ≡ Err (at rest.now)
Fails e.Deep read = read ≡ Err deep

-- What a function returned, seen by view, is what reading gives, unless memory ran out.
abbrev pub Gives : {X Y : Type 0} → (X → Y × List Token) → Result X ReadError → Outcome Y → Type 0
Gives view (Ok x) read = read ≡ Ok (view x)
Gives view (Err f) read = Fails f read

-- It did not run out of memory.
abbrev pub NeedsNoMemory : {X : Type 0} → Result X ReadError → Type 0
NeedsNoMemory (Ok x) = Unit {0}
NeedsNoMemory (Err e.Memory) = ⊥
NeedsNoMemory (Err (e.Syntax rest)) = Unit {0}
NeedsNoMemory (Err e.Deep) = Unit {0}
