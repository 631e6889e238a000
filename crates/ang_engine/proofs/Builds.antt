-- How a build of a module leads to its reply.
use Rattle.std.proofs.Common.{◌≡◌, refl, ap, sym, ◌∙◌, subst, inl, inr, ℕ, true, false, List, [], ◌∷◌, ◌++◌, Some, None, map}
use Rattle.std.specs.Prelude.{Result, Ok, Err}
use Rattle.ang_kinds.specs.declared.error.Error.{Error}
use Rattle.ang_kinds.specs.declared.fault.Fault.{Fault}
use Rattle.ang_view.specs.Registration.{RegistrationList, seen}
use Rattle.ang_typed.specs.View.{view_typed}
use Rattle.ang_meaning.specs.declared.slot.Slot.{Slot}
use Rattle.ang_meaning.specs.declared.slot.Slot.TheVariants.{Bits}
use Rattle.ang_meaning.specs.World.{Input, Room, World as RunWorld, with_inputs}
use Rattle.ang_meaning.specs.Told.{answers_told, answers_listed}
use Rattle.ang_engine_build.specs.declared.program.NoProgram.{NoProgram}
use Rattle.ang_engine_build.specs.declared.program.NoProgram.TheVariants as no
use Rattle.ang_engine_build.specs.Answer.{HasDenials}
use Rattle.ang_engine_build.specs.Build.{Errors, build_of, denials_in}
use Rattle.ang_engine_modules.specs.declared.modules.LoadedModule.{LoadedModule}
use Rattle.ang_engine_modules.specs.Modules.{Module}
use Rattle.ang_engine_modules.specs.Executed.{initialization_of}
use Rattle.ang_engine_modules.specs.Ends.{Ends, end_of}
use Rattle.ang_engine.specs.declared.building.BuildRefused.{BuildRefused}
use Rattle.ang_engine.specs.declared.building.BuildRefused.TheVariants as why
use Rattle.ang_engine_modules.specs.declared.reply.Reply.{Reply}
use Rattle.ang_engine_modules.specs.declared.reply.Outcome.TheVariants.{Done, Refused}
use Rattle.ang_engine_modules.specs.declared.reply.Refusal.TheVariants.{BuildMemory, InitFailed}
use Rattle.ang_engine_modules.specs.World.{Program, ModuleState, ModuleStates, World, placed, all_unbound_from, built_in, running, left_to, globals_ended}
use Rattle.ang_engine.specs.Engines.{resolved_in}
use Rattle.ang_engine_modules.specs.States.{program_in}
use Rattle.ang_engine_build.specs.Narrowed.{narrowed}
use Rattle.ang_engine.specs.Step.{Leads, after_errors, errors_reply, emptied, with_program, program_over, globals_begun, started, initialized, after_build, build, fault_told}
use Rattle.ang_engine_modules.specs.Commands.{after_run, reply_of}
use Rattle.ang_engine.specs.Outcomes.{IsCompiled, HasStarted, refused_by, reply_to_build}
use Rattle.ang_engine.proofs.Leading.{told_by, fault_in}

-- Module i of these is built, whose globals have ended and left a run's world u, in which no answer is listed.
module _ (R : RegistrationList) (w : World) (i : ℕ) (m : ModuleState) (budget : ℕ) (u : RunWorld) (ended : (is : List Input) → globals_ended i (running w is) ≡ with_inputs is u)
    (silent : answers_listed u.events ≡ []) where
  -- no import leads to it
  abbrev pub others : World
  others = all_unbound_from i w

  -- ---- a build that runs no initializer

  pub build-memory : Leads (build R w i m budget) (reply_of (Refused BuildMemory) u.events []) (left_to (placed others i (emptied m)) u)
  build-memory = record {
    used = Room false ∷ [];
    tells = λ rest. ap (λ r. Some (after_run (Refused BuildMemory) [] (placed others i (emptied m)) r)) (ended rest);
    told = inr (refl, refl);
    answers = sym silent;
  }

  pub build-errors : (es : List Error) → build_of (seen R m.mask) m.sections ≡ Errors es
      → Leads (build R w i m budget) (errors_reply u.events es (denials_in R m.mask m.sections)) (left_to (placed others i (emptied m)) u)
  build-errors es built = record {
    used = Room true ∷ [];
    tells = λ rest.
        ap (λ b. Some (after_build (seen R m.mask) (denials_in R m.mask m.sections) b others i m budget (globals_ended i (running w rest)))) built
        ∙ ap (λ r. Some (after_errors es (denials_in R m.mask m.sections) (placed others i (emptied m)) r)) (ended rest);
    told = inl refl;
    answers = sym silent;
  }

  -- ---- its initializers

  module _ (p : Program) (built : (r : RunWorld) → after_build (seen R m.mask) (denials_in R m.mask m.sections) (build_of (seen R m.mask) m.sections) others i m budget r
      ≡ started (end_of (initialization_of (built_in (placed others i (with_program p m))) budget i (globals_begun i p r))) others i m p) where
    started-fault : (r : Result Slot Fault) (x : RunWorld) → fault_in r ≡ fault_told (initialized r x others i m p).reply.outcome
    started-fault (Ok v) x = refl
    started-fault (Err f) x = refl

    -- they have ended: what the build comes to
    build-started : (r : Result Slot Fault) (x : RunWorld) (reply : Reply) (after : World)
        → ((rest : List Input) → initialized r (with_inputs rest x) others i m p ≡ record { reply = reply; world = after; left = rest })
        → answers_listed x.events ≡ answers_listed reply.events
        → Ends (initialization_of (built_in (placed others i (with_program p m))) budget i) (globals_begun i p u) r x
        → Leads (build R w i m budget) reply after
    build-started r x reply after so listed ends = record {
      used = Room true ∷ ends.used;
      tells = λ rest.
          ap Some (built (globals_ended i (running w (ends.used ++ rest))))
          ∙ ap (λ q. Some (started (end_of (initialization_of (built_in (placed others i (with_program p m))) budget i (globals_begun i p q))) others i m p)) (ended (ends.used ++ rest))
          ∙ ap (λ e. Some (started e others i m p)) (ends.ends rest)
          ∙ ap Some (so rest);
      told = told_by r ends.used reply.outcome (started-fault r (with_inputs [] x) ∙ ap (λ s. fault_told s.reply.outcome) (so [])) ends.told;
      answers = sym (ap (λ l. l ++ answers_told ends.used) silent) ∙ sym ends.answers ∙ listed;
    }

    pub build-done : (v : Slot) (x : RunWorld) → Ends (initialization_of (built_in (placed others i (with_program p m))) budget i) (globals_begun i p u) (Ok v) x
        → Leads (build R w i m budget) (reply_of (Done None) x.events []) (left_to (placed others i (with_program p m)) x)
    build-done v x ends = build-started (Ok v) x (reply_of (Done None) x.events []) (left_to (placed others i (with_program p m)) x) (λ rest. refl) refl ends

    pub build-failed : (f : Fault) (x y : RunWorld) → Ends (initialization_of (built_in (placed others i (with_program p m))) budget i) (globals_begun i p u) (Err f) x
        → ((rest : List Input) → globals_ended i (with_inputs rest x) ≡ with_inputs rest y) → answers_listed x.events ≡ answers_listed y.events
        → Leads (build R w i m budget) (reply_of (Refused (InitFailed f)) y.events []) (left_to (placed others i (emptied m)) y)
    build-failed f x y ends after listed =
        build-started (Err f) x (reply_of (Refused (InitFailed f)) y.events []) (left_to (placed others i (emptied m)) y)
        (λ rest. ap (λ q. after_run (Refused (InitFailed f)) [] (placed others i (emptied m)) q) (after rest)) listed ends

  -- ---- by the words of the code

  -- what a build is refused by that comes to no program
  pub build-refused : (U : Type 0) (e : NoProgram) → IsCompiled (Err e) (build_of (seen R m.mask) m.sections)
      → HasDenials {A = LoadedModule} (Err e) (denials_in R m.mask m.sections)
      → Leads (build R w i m budget) (reply_to_build {U = U} (Err (refused_by e)) u.events) (left_to (placed others i (emptied m)) u)
  build-refused U (no.Errors es ds) c d =
      subst (λ rows. Leads (build R w i m budget) (errors_reply u.events es rows) (left_to (placed others i (emptied m)) u)) (sym d) (build-errors es c)
  build-refused U no.Memory c d = build-memory

  module _ (l : LoadedModule) (view : l.view ≡ narrowed (seen R m.mask) (view_typed l.tree)) (unbound : l.links ≡ map (λ h. None) l.tree.imports) (c : IsCompiled (Ok l) (build_of (seen R m.mask) m.sections)) where
    loaded-over : program_over (seen R m.mask) (resolved_in l) ≡ program_in l
    loaded-over =
        ap (λ V. record { view = V; names = l.names; tree = view_typed l.tree; links = map (λ h. None) l.tree.imports }) (sym view)
        ∙ ap (λ ls. record { view = l.view; names = l.names; tree = view_typed l.tree; links = ls }) (sym unbound)

    loaded-built : (r : RunWorld) → after_build (seen R m.mask) (denials_in R m.mask m.sections) (build_of (seen R m.mask) m.sections) others i m budget r
        ≡ started (end_of (initialization_of (built_in (placed others i (with_program (program_in l) m))) budget i (globals_begun i (program_in l) r))) others i m (program_in l)
    loaded-built r =
        ap (λ b. after_build (seen R m.mask) (denials_in R m.mask m.sections) b others i m budget r) c
        ∙ ap (λ p. started (end_of (initialization_of (built_in (placed others i (with_program p m))) budget i (globals_begun i p r))) others i m p) loaded-over

    -- the modules after it: this one is built, or it is left emptied
    abbrev pub IsPlacedBy : {U : Type 0} → Result U BuildRefused → ModuleStates → Type 0
    IsPlacedBy (Ok x) ss = ss ≡ placed others i (with_program (program_in l) m)
    IsPlacedBy (Err e) ss = ss ≡ placed others i (emptied m)

    -- a module that was loaded and started
    pub build-begun : {U : Type 0} (r : Result U BuildRefused) (ms : List Module) (y : RunWorld) → built_in (placed others i (with_program (program_in l) m)) ≡ ms
        → HasStarted ms i budget (program_in l) u r y
        → ((end : RunWorld) → ((rest : List Input) → globals_ended i (with_inputs rest end) ≡ with_inputs rest y) → answers_listed end.events ≡ answers_listed y.events)
        → (ss : ModuleStates) → IsPlacedBy r ss
        → Leads (build R w i m budget) (reply_to_build r y.events) (left_to ss y)
    build-begun (Ok x) ms y same h listed ss e =
        subst (λ q. Leads (build R w i m budget) (reply_of (Done None) y.events []) (left_to q y)) (sym e)
        (build-done (program_in l) loaded-built (Bits 0) y (subst (λ q. Ends (initialization_of q budget i) (globals_begun i (program_in l) u) (Ok (Bits 0)) y) (sym same) h))
    build-begun (Err (why.Before refusal)) ms y same h listed ss e = absurd h
    build-begun (Err why.Memory) ms y same h listed ss e =
        subst (λ q. Leads (build R w i m budget) (reply_of (Refused BuildMemory) q.events []) (left_to ss q)) (sym h)
        (subst (λ q. Leads (build R w i m budget) (reply_of (Refused BuildMemory) u.events []) (left_to q u)) (sym e) build-memory)
    build-begun (Err (why.Errors es ds)) ms y same h listed ss e = absurd h
    build-begun (Err (why.Initializer f)) ms y same h listed ss e =
        subst (λ q. Leads (build R w i m budget) (reply_of (Refused (InitFailed f)) y.events []) (left_to q y)) (sym e)
        (build-failed (program_in l) loaded-built f h.0 y (subst (λ q. Ends (initialization_of q budget i) (globals_begun i (program_in l) u) (Err f) h.0) (sym same) h.1) h.2 (listed h.0 h.2))
