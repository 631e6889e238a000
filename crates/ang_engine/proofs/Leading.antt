-- How commands lead to their replies.
use Rattle.std.proofs.Common.{◌≡◌, refl, ap, sym, ◌∙◌, subst, inl, inr, ◌⊎◌, true, false, List, [], ◌∷◌, ◌++◌, Option, Some, None}
use Rattle.std.specs.Prelude.{Result, Ok, Err, IsSome, is_some, if◌then◌else◌}
use Rattle.ang_kinds.specs.declared.fault.Fault.{Fault}
use Rattle.ang_host.specs.declared.event.HostEvent.{HostEvent}
use Rattle.ang_view.specs.Groups.{Grouped}
use Rattle.ang_meaning.specs.declared.slot.Slot.{Slot}
use Rattle.ang_meaning.specs.World.{Input, Room}
use Rattle.ang_meaning.specs.Told.{has_room, stopped_by}
use Rattle.ang_engine_modules.specs.Ends.{IsTold}
use Rattle.ang_engine_modules.specs.declared.command.Command.{Command}
use Rattle.ang_engine_modules.specs.declared.reply.Reply.{Reply}
use Rattle.ang_engine_modules.specs.declared.reply.Outcome.{Outcome}
use Rattle.ang_engine_modules.specs.declared.reply.Outcome.TheVariants.{Done, Refused}
use Rattle.ang_engine_modules.specs.declared.reply.Refusal.{Refusal}
use Rattle.ang_engine_modules.specs.declared.reply.Refusal.TheVariants.{Memory}
use Rattle.ang_engine_modules.specs.World.{World}
use Rattle.ang_engine_modules.specs.Commands.{Stepped, answered, reply_of}
use Rattle.ang_engine.specs.Step.{Leads, Takes, TellsRefusal, fault_told, judged, granted, may_want_memory, step}
use Rattle.ang_engine_modules.specs.Outcomes.{IsRefused, IsDone, IsDoneWithoutMemory, outcome_of}
use Rattle.ang_engine.specs.Outcomes.{IsCalled, IsDiscarded, reply_to_call, reply_to_discard}

-- ---- what was told

some_stop : {A : Type 0} (o : Option A) (x : A) → o ≡ Some x → IsSome o
some_stop o x e = ap is_some e

-- the fault with which a run ended
abbrev pub fault_in : Result Slot Fault → Option Fault
fault_in (Ok v) = None
fault_in (Err f) = Some f

-- a run that was told enough, or stopped by its last input, as the outcome tells
pub told_by : (r : Result Slot Fault) (used : List Input) (o : Outcome) → fault_in r ≡ fault_told o → IsTold r used → (has_room used ≡ true) ⊎ TellsRefusal o used
told_by (Ok v) used o e h = inl h
told_by (Err f) used o e (inl h) = inl h
told_by (Err f) used o e (inr h) = inr (some_stop (stopped_by used) f h, h ∙ e)

-- ---- commands that asked for no more

pub leads-at_once : (go : List Input → Option Stepped) (o : Outcome) (after : World) → ((rest : List Input) → go rest ≡ answered o after rest) → Leads go (reply_of o [] []) after
leads-at_once go o after h = record { used = []; tells = h; told = inl refl; answers = refl }

-- the same step by other words
pub leads-same : (go to : List Input → Option Stepped) (reply : Reply) (v w : World) → ((rest : List Input) → to rest ≡ go rest) → v ≡ w → Leads go reply v → Leads to reply w
leads-same go to reply v w h e l = record {
  used = l.used;
  tells = λ rest. h (l.used ++ rest) ∙ l.tells rest ∙ ap (λ x. Some (record { reply = reply; world = x; left = rest })) e;
  told = l.told;
  answers = l.answers;
}

-- ---- a whole command

-- a command that may be refused for want of memory
step-granted : (R : Grouped) (w : World) (c : Command) (is : List Input) → may_want_memory c ≡ true → step R w c is ≡ granted R w c is
step-granted R w c is wants = ap (λ b. if b then (granted R w c is) else (judged R w c is)) wants

-- there was memory, and it was judged
pub takes-judged : (R : Grouped) (w v : World) (c : Command) (reply : Reply) → may_want_memory c ≡ true → Leads (judged R w c) reply v → Takes R w c reply v
takes-judged R w v c reply wants l = record {
  used = Room true ∷ l.used;
  tells = λ rest. step-granted R w c (Room true ∷ (l.used ++ rest)) wants ∙ l.tells rest;
  told = l.told;
  answers = l.answers;
}

-- there was none before anything was changed
pub takes-memory : (R : Grouped) (w v : World) (c : Command) → may_want_memory c ≡ true → v ≡ w → Takes R w c (reply_of (Refused Memory) [] []) v
takes-memory R w v c wants same = record {
  used = Room false ∷ [];
  tells = λ rest. step-granted R w c (Room false ∷ rest) wants ∙ ap (λ x. Some (record { reply = reply_of (Refused Memory) [] []; world = x; left = rest })) (sym same);
  told = inr (refl, refl);
  answers = refl;
}

pub refused-takes : (R : Grouped) (w v : World) (c : Command) (why : Refusal) → may_want_memory c ≡ true → IsRefused why (judged R w c) w v → Takes R w c (reply_of (Refused why) [] []) v
refused-takes R w v c why wants (inl memory, same) = subst (λ x. Takes R w c (reply_of (Refused x) [] []) v) (sym memory) (takes-memory R w v c wants same)
refused-takes R w v c why wants (inr so, same) =
    subst (λ x. Takes R w c (reply_of (Refused why) [] []) x) (sym same) (takes-judged R w w c _ wants (leads-at_once (judged R w c) (Refused why) w so))

-- it is done or refused
pub takes-done : {U : Type 0} (R : Grouped) (w v : World) (c : Command) (r : Result U Refusal) → may_want_memory c ≡ true → IsDone r (judged R w c) w v
    → Takes R w c (reply_of (outcome_of r) [] []) v
takes-done R w v c (Ok u) wants done = takes-judged R w v c _ wants (leads-at_once (judged R w c) (Done None) v done)
takes-done R w v c (Err why) wants done = refused-takes R w v c why wants done

-- a call was run or refused
pub takes-called : (R : Grouped) (w v : World) (c : Command) (r : Result Outcome Refusal) (es : List HostEvent) → may_want_memory c ≡ true → IsCalled r es (judged R w c) w v
    → Takes R w c (reply_to_call r es) v
takes-called R w v c (Ok outcome) es wants done = takes-judged R w v c _ wants done
takes-called R w v c (Err why) es wants done = refused-takes R w v c why wants done

-- a module was discarded or it was refused
pub takes-discarded : {U : Type 0} (R : Grouped) (w v : World) (c : Command) (r : Result U Refusal) (es : List HostEvent) → may_want_memory c ≡ true → IsDiscarded r es (judged R w c) w v
    → Takes R w c (reply_to_discard r es) v
takes-discarded R w v c (Ok u) es wants done = takes-judged R w v c _ wants done
takes-discarded R w v c (Err why) es wants done = refused-takes R w v c why wants done

-- ---- a command that wants no memory

-- nobody is asked
pub takes-without : {U : Type 0} (R : Grouped) (w v : World) (c : Command) (r : Result U Refusal) → may_want_memory c ≡ false → IsDoneWithoutMemory r (judged R w c) w v
    → Takes R w c (reply_of (outcome_of r) [] []) v
takes-without R w v c (Ok u) wants done =
    leads-at_once (step R w c) (Done None) v (λ rest. ap (λ b. if b then (granted R w c rest) else (judged R w c rest)) wants ∙ done rest)
takes-without R w v c (Err why) wants (so, same) =
    subst (λ x. Takes R w c (reply_of (Refused why) [] []) x) (sym same)
    (leads-at_once (step R w c) (Refused why) w (λ rest. ap (λ b. if b then (granted R w c rest) else (judged R w c rest)) wants ∙ so rest))
