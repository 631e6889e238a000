-- How a command ended (docs/HOST.md, "Faults").
use Rattle.std.specs.Prelude.{Bool, true, false}
use Rattle.ang_engine_modules.specs.declared.reply.Outcome.{Outcome}
use Rattle.ang_engine_modules.specs.declared.reply.Outcome.TheVariants.{Done, Failed, Refused}
use Rattle.ang_engine_modules.specs.declared.reply.Refusal.{Refusal}
use Rattle.ang_engine_modules.specs.declared.reply.Refusal.TheVariants.{InitFailed}

-- whether an initializer has faulted
abbrev pub is_failed_start : Refusal → Bool
is_failed_start (InitFailed f) = true
is_failed_start _ = false

-- whether a command ended with a fault, of a call or of an initializer
abbrev pub is_fault : Outcome → Bool
is_fault (Done v) = false
is_fault (Failed f) = true
is_fault (Refused why) = is_failed_start why

-- whether something may have run: of the commands that are refused those alone whose initializer faulted
abbrev pub may_have_run : Outcome → Bool
may_have_run (Done v) = true
may_have_run (Failed f) = true
may_have_run (Refused why) = is_failed_start why
