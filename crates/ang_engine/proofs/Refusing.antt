-- Commands that are refused before they do anything.
use Rattle.std.proofs.Common.{◌≡◌, sym, subst, List, Ok, Err}
use Rattle.std.specs.Prelude.{Result, IfErr}
use Rattle.ang_kinds.specs.declared.fault.Fault.{Fault}
use Rattle.ang_host.specs.declared.event.HostEvent.{HostEvent}
use Rattle.ang_meaning.specs.declared.slot.Slot.{Slot}
use Rattle.ang_names_known.specs.declared.names.ScriptFunction.{ScriptFunction}
use Rattle.ang_engine.specs.declared.building.BuildRefused.{BuildRefused}
use Rattle.ang_engine.specs.declared.building.BuildRefused.TheVariants as why
use Rattle.ang_engine_modules.specs.declared.reply.Outcome.{Outcome}
use Rattle.ang_engine_modules.specs.declared.reply.Outcome.TheVariants.{Done, Failed, Refused}
use Rattle.ang_engine_modules.specs.declared.reply.Refusal.TheVariants.{BadName, ModuleExists, Limit, NoModule, NotBuilt, BadBudget, BuildMemory, BuildErrors, InitFailed, NoFunction, NoImport, SignatureDiffers, NotCallable, BadArguments, Memory, NoGroup, InUse}
use Rattle.ang_engine.specs.Outcomes.{IfRefusedAtOnce, IsBegun, outcome_by, reply_to_build}

-- what holds anyway
pub refused_anyway : (o : Outcome) (P : Type 0) → P → IfRefusedAtOnce o P
refused_anyway (Done v) P h = tt
refused_anyway (Failed f) P h = tt
refused_anyway (Refused BuildMemory) P h = tt
refused_anyway (Refused BuildErrors) P h = tt
refused_anyway (Refused (InitFailed f)) P h = tt
refused_anyway (Refused BadName) P h = h
refused_anyway (Refused ModuleExists) P h = h
refused_anyway (Refused Limit) P h = h
refused_anyway (Refused NoModule) P h = h
refused_anyway (Refused NotBuilt) P h = h
refused_anyway (Refused BadBudget) P h = h
refused_anyway (Refused NoFunction) P h = h
refused_anyway (Refused NoImport) P h = h
refused_anyway (Refused SignatureDiffers) P h = h
refused_anyway (Refused NoGroup) P h = h
refused_anyway (Refused InUse) P h = h
refused_anyway (Refused NotCallable) P h = h
refused_anyway (Refused BadArguments) P h = h
refused_anyway (Refused Memory) P h = h

-- a build that was begun is not refused at once
pub begun_build : {U : Type 0} (r : Result U BuildRefused) (es : List HostEvent) (P : Type 0) → IfErr r IsBegun
    → IfRefusedAtOnce (reply_to_build r es).outcome P
begun_build (Ok u) es P h = tt
begun_build (Err (why.Before refusal)) es P h = elim h [ ]
begun_build (Err why.Memory) es P h = tt
begun_build (Err (why.Errors errors ds)) es P h = tt
begun_build (Err (why.Initializer f)) es P h = tt

-- nor is a call that was run
run_call : (f : ScriptFunction) (value : Result Slot Fault) (P : Type 0) → IfRefusedAtOnce (outcome_by f value) P
run_call f (Ok v) P = tt
run_call f (Err fault) P = tt

pub called_ended : (f : ScriptFunction) (value : Result Slot Fault) (o : Outcome) (P : Type 0) → o ≡ outcome_by f value → IfRefusedAtOnce o P
called_ended f value o P e = subst (λ x. IfRefusedAtOnce x P) (sym e) (run_call f value P)
