-- Runs of a table's code that call a function of a module.
use Rattle.std.proofs.Common.{◌≡◌, ◌≢◌, ℕ, List, [], ◌++◌, length, reverse, Some, sym, ap, ◌∙◌}
use Rattle.std.proofs.lemmas.List.{length-reverse}
use Rattle.std.specs.Prelude.{Ok, Err, slice_get}
use Rattle.ang_kinds.specs.declared.fault.Fault.{Fault}
use Rattle.ang_typed.specs.Typed as tree
use Rattle.ang_meaning.specs.declared.slot.Slot.{Slot}
use Rattle.ang_meaning.specs.World.{World, Input, with_inputs, give}
use Rattle.ang_meaning.specs.Counting.{IsCounted}
use Rattle.ang_meaning.specs.Environment.{Environment}
use Rattle.ang_meaning.specs.Results.{Reply}
use Rattle.ang_meaning.proofs.Counted.{give_counted}
use Rattle.ang_code.specs.Machine.{Config, Over, Stuck, steps, call_begins}
use Rattle.ang_code.specs.Runs.{Runs, Completion, Gives, Stops, ended}
use Rattle.ang_code.specs.Told.{ComesFrom}
use Rattle.ang_code.proofs.Telling.{calls_come_from}
use Rattle.ang_code_laws.proofs.Whole.{call_runs_ask}
use Rattle.ang_code_laws.proofs.Counting.{call_runs_count}
use Rattle.ang_code_laws.proofs.Worlds.{give_has}
use Rattle.ang_code_laws.proofs.Keeping.{call_runs_keep}
use Rattle.ang_code_laws.specs.Globals.{globals_of_each}
use Rattle.ang_gen.specs.BodyBehaves.{outcome_of}
use Rattle.ang_source.specs.Meaning.{passings_of, passings_in, routine}
use Rattle.ang_lower.proofs.Follows.{passings_count}
use Rattle.ang_vm_stack.specs.declared.table.Table.{Table}
use Rattle.ang_vm_stack.specs.Tables.{texts_of}
use Rattle.ang_engine_modules.specs.Modules.{Module, module_at, TakesSoMany}
use Rattle.ang_engine_modules.specs.Executed.{setting_for, call_of}
use Rattle.ang_engine_modules.specs.Loaded.{IsTableOf}
use Rattle.ang_engine_modules.specs.Started.{HasEnded}
use Rattle.ang_engine_modules.proofs.Inputs.{give_inputs, give_listed}
use Rattle.ang_engine_modules.proofs.Behaving.{behaves, never}
use Rattle.ang_engine_modules.proofs.Outcomes.{finished_as, faulted_as, ends_as, told_value, told_fault, answered_value, answered_fault}
use Rattle.ang_engine_modules.proofs.Asking.{asks_more, gives_more}
use Rattle.ang_engine_modules.proofs.Bodies.{takes_as}

-- the arguments are as many as the function's parameters
counted : (f : tree.TypedFunction) (args : List Slot) → length f.parameters ≡ length args → length (passings_of f.parameters) ≡ length (reverse args)
counted f args e = passings_count f.parameters ∙ e ∙ sym (length-reverse args)

module _ (t : Table) (ms : List Module) (is : IsTableOf t ms) (budget m n : ℕ) (args : List Slot) (takes : TakesSoMany ms m n (length args)) (before : World) where
  abbrev z : Environment
  z = setting_for ms 200

  abbrev from : List Input → Config
  from inputs = call_begins z (texts_of t) budget (routine m n) (reverse args) (with_inputs inputs before)

  abbrev reply : List Input → Reply
  reply inputs = call_of ms budget m n args (with_inputs inputs before)

  known : slice_get (passings_in (module_at ms m).tree) n ≡ Some (passings_of takes.function.parameters)
  known = takes_as (module_at ms m).tree n takes.function takes.at

  comes : (inputs : List Input) → (k : ℕ) × (steps z (texts_of t) k (from inputs) ≡ Over (outcome_of (reply inputs)))
  comes inputs =
      (behaves t ms is 200).calls budget (routine m n) (passings_of takes.function.parameters) (reverse args) (with_inputs inputs before) known (counted takes.function args takes.params)

  told : (k : ℕ) (inputs : List Input) → ComesFrom (with_inputs inputs before) (steps z (texts_of t) k (from inputs))
  told k inputs = calls_come_from z (texts_of t) k budget (routine m n) (reverse args) (with_inputs inputs before)

  ended_as : (end : Completion) (w : World) (run : Runs z (texts_of t) from end w) (rest : List Input) → outcome_of (reply (run.told.used ++ rest)) ≡ ended end (with_inputs rest w)
  ended_as end w run rest = ends_as z (texts_of t) from reply comes end w run rest

  -- such code is never lost
  pub call_stands : (k : ℕ) (inputs : List Input) → steps z (texts_of t) k (from inputs) ≢ Over Stuck
  call_stands k inputs =
      (never t ms is 200).calls budget (routine m n) (passings_of takes.function.parameters) (reverse args) (with_inputs inputs before) known (counted takes.function args takes.params) k

  -- a run that gives a value, which is given up
  pub call_gives : (v : Slot) (left : ℕ) (w : World) → IsCounted (reverse args) before → Runs z (texts_of t) from (Gives v left) w
      → HasEnded ms (call_of ms budget m n args) before (Ok v) (give v w)
  call_gives v left w count run =
      let used = run.told.used in
      record {
        means = record {
          used = used;
          ends = λ rest.
              finished_as (reply (used ++ rest)) v left (with_inputs rest w) (ended_as (Gives v left) w run rest)
              ∙ ap (λ u. record { result = Ok v; world = u }) (give_inputs v rest w);
          told = told_value z (texts_of t) from before told v left w run;
          answers = give_listed v w ∙ answered_value z (texts_of t) from before told v left w run;
        };
        asked = λ asked.
            gives_more ms 200 v w (asks_more ms 200 before w asked (call_runs_ask z (texts_of t) budget (routine m n) (reverse args) before w (Gives v left) run));
        counted = give_counted v [] w (call_runs_count z (texts_of t) budget (routine m n) (reverse args) before w (Gives v left) count run);
        globals = give_has (globals_of_each before) v w (call_runs_keep z (texts_of t) budget (routine m n) (reverse args) before w (Gives v left) run);
      }

  -- and one that faults
  pub call_stops : (x : Fault) (w : World) → IsCounted (reverse args) before → Runs z (texts_of t) from (Stops x) w → HasEnded ms (call_of ms budget m n args) before (Err x) w
  call_stops x w count run =
      let used = run.told.used in
      record {
        means = record {
          used = used;
          ends = λ rest. faulted_as (reply (used ++ rest)) x (with_inputs rest w) (ended_as (Stops x) w run rest);
          told = told_fault z (texts_of t) from before told x w run;
          answers = answered_fault z (texts_of t) from before told x w run;
        };
        asked = λ asked. asks_more ms 200 before w asked (call_runs_ask z (texts_of t) budget (routine m n) (reverse args) before w (Stops x) run);
        counted = call_runs_count z (texts_of t) budget (routine m n) (reverse args) before w (Stops x) count run;
        globals = call_runs_keep z (texts_of t) budget (routine m n) (reverse args) before w (Stops x) run;
      }
