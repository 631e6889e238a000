-- What is refused, with what was asked of the refused name.
use Rattle.std.specs.Prelude.{false, None}
use Rattle.ang_kinds.specs.declared.error.Error.{Error}
use Rattle.ang_types.specs.declared.asks.Refused.{Refused}

-- an error with which no entry of the host could help
abbrev pub plain_refusal : Error → Refused
plain_refusal e = record { error = e; asks = None; is_there = false }
