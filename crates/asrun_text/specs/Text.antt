-- The text of a reply (docs/HOST.md, "The program").
use Rattle.std.specs.Prelude.{ℕ, true, false, List, [], ◌∷◌, ◌++◌, length, Option, Some, None, nat_lt, ◌+◌, ◌/◌, ◌%◌, ◌==◌, if◌then◌else◌, codes, decimal, flat_map}
use Rattle.std.specs.Fmt.{signed_decimal}
use Rattle.std.specs.Int.{w32, to_be_bytes}
use Rattle.ang_kinds.specs.declared.error.Denial.{Denial}
use Rattle.ang_kinds.specs.declared.error.Error.{Error}
use Rattle.ang_kinds.specs.declared.error.ErrorKind.{ErrorKind}
use Rattle.ang_kinds.specs.declared.error.ErrorKind.TheVariants as kind
use Rattle.ang_kinds.specs.declared.fault.Fault.{Fault}
use Rattle.ang_kinds.specs.declared.fault.Fault.TheVariants as fault
use Rattle.ang_kinds.specs.declared.place.Place.{Place}
use Rattle.ang_kinds.specs.declared.value.Value.{Value}
use Rattle.ang_kinds.specs.declared.value.Value.TheVariants as value
use Rattle.ang_host.specs.declared.answer.Answer.{Answer}
use Rattle.ang_host.specs.declared.answer.Answer.TheVariants as answer
use Rattle.ang_host.specs.declared.answer.Made.{Made}
use Rattle.ang_host.specs.declared.answer.Made.TheVariants as made
use Rattle.ang_host.specs.declared.answer.HostReply.{HostReply}
use Rattle.ang_host.specs.declared.answer.HostReply.TheVariants as reply
use Rattle.ang_host.specs.declared.event.HostEvent.{HostEvent}
use Rattle.ang_host.specs.declared.event.HostEvent.TheVariants as event
use Rattle.ang_engine_modules.specs.declared.reply.Outcome.{Outcome}
use Rattle.ang_engine_modules.specs.declared.reply.Outcome.TheVariants as outcome
use Rattle.ang_engine_modules.specs.declared.reply.Refusal.{Refusal}
use Rattle.ang_engine_modules.specs.declared.reply.Refusal.TheVariants as refusal
use Rattle.ang_engine_modules.specs.declared.reply.Reply.{Reply}
use Rattle.asrun_lines.specs.Texts.{key_text, object_text}

abbrev pub newline : List ℕ
newline = 10 ∷ []

-- `7`, `-7`, `true`, `#7`, `null`
unfoldable pub value_text : Value → List ℕ
value_text (value.Int n) = signed_decimal n
value_text (value.Uint n) = decimal n
value_text (value.Bool true) = codes "true"
value_text (value.Bool false) = codes "false"
value_text (value.Key None) = codes "null"
value_text (value.Key (Some k)) = key_text k

-- values with a comma between two
unfoldable pub values_text : List Value → List ℕ
values_text [] = []
values_text (v ∷ vs) = value_text v ++ flat_map (λ w. codes "," ++ value_text w) vs

unfoldable pub fault_text : Fault → List ℕ
fault_text fault.Null = codes "Null"
fault_text fault.DivideByZero = codes "DivideByZero"
fault_text fault.DivideOverflow = codes "DivideOverflow"
fault_text fault.Unbound = codes "Unbound"
fault_text fault.Budget = codes "Budget"
fault_text fault.Depth = codes "Depth"
fault_text (fault.Host n) = codes "Host " ++ decimal n
fault_text fault.BadAnswer = codes "BadAnswer"
fault_text fault.NoObject = codes "NoObject"
fault_text fault.Memory = codes "Memory"
fault_text fault.Tally = codes "Tally"

-- what `make` answered
unfoldable pub made_text : Made → List ℕ
made_text (made.Key k) = codes "made " ++ key_text k
made_text made.Nothing = codes "nothing"
made_text (made.Fault n) = codes "fault " ++ decimal n
made_text made.Memory = codes "memory"
made_text made.Full = codes "full"

-- what a call, a read or a write answered
unfoldable pub answer_text : Answer → List ℕ
answer_text answer.Void = codes "void"
answer_text (answer.Gave v) = value_text v
answer_text (answer.Fault n) = codes "fault " ++ decimal n
answer_text answer.Memory = codes "memory"
answer_text answer.Full = codes "full"

unfoldable pub host_reply_text : HostReply → List ℕ
host_reply_text (reply.Making m) = made_text m
host_reply_text (reply.Asking a) = answer_text a

-- `host CALLER ENTRY DRIVER OBJECT (V,V) ANSWER`, or `end DRIVER #k`
unfoldable pub event_text : HostEvent → List ℕ
event_text (event.Called caller entity driver object args answered) =
    codes "host " ++ caller ++ codes " " ++ decimal entity.0 ++ codes " " ++ decimal driver ++ codes " " ++ object_text object
    ++ codes " (" ++ values_text args ++ codes ") " ++ host_reply_text answered ++ newline
event_text (event.Ended driver key) = codes "end " ++ decimal driver ++ codes " " ++ key_text key ++ newline

-- `SECT:LINE:COLUMN`
abbrev pub place_text : Place → List ℕ
place_text p = decimal p.sect ++ codes ":" ++ decimal p.line ++ codes ":" ++ decimal p.column

unfoldable pub kind_text : ErrorKind → List ℕ
kind_text kind.TooLong = codes "TooLong"
kind_text kind.BadByte = codes "BadByte"
kind_text kind.BadNumber = codes "BadNumber"
kind_text kind.OpenComment = codes "OpenComment"
kind_text kind.TooDeep = codes "TooDeep"
kind_text kind.Syntax = codes "Syntax"
kind_text kind.Duplicate = codes "Duplicate"
kind_text kind.Limit = codes "Limit"
kind_text kind.UnknownType = codes "UnknownType"
kind_text kind.BadType = codes "BadType"
kind_text kind.ByValue = codes "ByValue"
kind_text kind.BadBase = codes "BadBase"
kind_text kind.BadImport = codes "BadImport"
kind_text kind.BadOverride = codes "BadOverride"
kind_text kind.MissingMethod = codes "MissingMethod"
kind_text kind.Cyclic = codes "Cyclic"
kind_text kind.UnknownName = codes "UnknownName"
kind_text kind.NoMatch = codes "NoMatch"
kind_text kind.Ambiguous = codes "Ambiguous"
kind_text kind.Const = codes "Const"
kind_text kind.Private = codes "Private"
kind_text kind.Protected = codes "Protected"
kind_text kind.NotBool = codes "NotBool"
kind_text kind.BadConversion = codes "BadConversion"
kind_text kind.BadOut = codes "BadOut"
kind_text kind.NoAssign = codes "NoAssign"
kind_text kind.Jump = codes "Jump"
kind_text kind.NoDefault = codes "NoDefault"
kind_text kind.NoReturn = codes "NoReturn"

-- a name, or `-` where it is empty
abbrev pub name_text : List ℕ → List ℕ
name_text name = if length name == 0 then codes "-" else name

-- `error KIND SECT:LINE:COLUMN NAME`
unfoldable pub error_text : Error → List ℕ
error_text e = codes "error " ++ kind_text e.kind ++ codes " " ++ place_text e.place ++ codes " " ++ name_text e.name ++ newline

-- a mask is eight hexadecimal digits, two for each byte, the highest first
abbrev pub hex_digit : ℕ → ℕ
hex_digit d = if nat_lt d 10 then 48 + d else 87 + d

abbrev pub mask_text : ℕ → List ℕ
mask_text m = flat_map (λ b. hex_digit (b / 16) ∷ hex_digit (b % 16) ∷ []) (to_be_bytes w32 m)

-- `denied SECT:LINE:COLUMN ENTRY EMASK MMASK`
unfoldable pub denial_text : Denial → List ℕ
denial_text d = codes "denied " ++ place_text d.place ++ codes " " ++ decimal d.entity.0 ++ codes " " ++ mask_text d.entity_mask.0
    ++ codes " " ++ mask_text d.module_mask.0 ++ newline

unfoldable pub refusal_text : Refusal → List ℕ
refusal_text refusal.BadName = codes "BadName"
refusal_text refusal.ModuleExists = codes "ModuleExists"
refusal_text refusal.Limit = codes "Limit"
refusal_text refusal.NoModule = codes "NoModule"
refusal_text refusal.NotBuilt = codes "NotBuilt"
refusal_text refusal.BadBudget = codes "BadBudget"
refusal_text refusal.BuildMemory = codes "BuildMemory"
refusal_text refusal.BuildErrors = codes "BuildErrors"
refusal_text (refusal.InitFailed f) = codes "InitFailed " ++ fault_text f
refusal_text refusal.NoFunction = codes "NoFunction"
refusal_text refusal.NoImport = codes "NoImport"
refusal_text refusal.SignatureDiffers = codes "SignatureDiffers"
refusal_text refusal.NoGroup = codes "NoGroup"
refusal_text refusal.InUse = codes "InUse"
refusal_text refusal.NotCallable = codes "NotCallable"
refusal_text refusal.BadArguments = codes "BadArguments"
refusal_text refusal.Memory = codes "Memory"

-- `ok`, `ok V`, `fault F` or `refused R`
unfoldable pub outcome_text : Outcome → List ℕ
outcome_text (outcome.Done None) = codes "ok" ++ newline
outcome_text (outcome.Done (Some v)) = codes "ok " ++ value_text v ++ newline
outcome_text (outcome.Failed f) = codes "fault " ++ fault_text f ++ newline
outcome_text (outcome.Refused r) = codes "refused " ++ refusal_text r ++ newline

-- events, errors, denials and the outcome, a line for each
unfoldable pub reply_text : Reply → List ℕ
reply_text r = flat_map event_text r.events ++ flat_map error_text r.errors ++ flat_map denial_text r.denials ++ outcome_text r.outcome
