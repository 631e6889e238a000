-- Runs of a table's code of a module's initializers, one after the other.
use Rattle.std.proofs.Common.{◌≡◌, ◌≢◌, ⊎_elim, ℕ, suc, List, [], ◌∷◌, ◌++◌, Option, Some, inl, inr, refl, sym, ap, ◌∙◌, subst, append_assoc, append-nil}
use Rattle.std.specs.Prelude.{true, Ok, Err, slice_get}
use Rattle.std.specs.List.{AllByRecursion}
use Rattle.ang_kinds.specs.declared.fault.Fault.{Fault}
use Rattle.ang_kinds.specs.declared.fault.Fault.TheVariants.{Memory}
use Rattle.ang_meaning.specs.declared.slot.Slot.{Slot}
use Rattle.ang_meaning.specs.declared.slot.Slot.TheVariants.{Bits}
use Rattle.ang_meaning.specs.declared.routine.Routine.{Routine}
use Rattle.ang_meaning.specs.declared.routine.Passing.{Passing}
use Rattle.ang_meaning.specs.World.{World, Input, Tried, Yes, No, with_inputs, give, give_all, memory_step, or_else}
use Rattle.ang_meaning.specs.Told.{has_room, stopped_by, answers_told, answers_listed}
use Rattle.ang_meaning.specs.Counting.{IsCounted}
use Rattle.ang_meaning.specs.Environment.{Environment, params_in}
use Rattle.ang_meaning.specs.Results.{Reply, Yields, Raises, Ran, Went, Returned, Halted, Broken, Continued, finished, enter}
use Rattle.ang_meaning.proofs.Counted.{give_counted}
use Rattle.ang_meaning.proofs.Giving.{give_bits}
use Rattle.ang_code.specs.Machine.{Texts, Config, Over, Stuck, steps, initializer_begins}
use Rattle.ang_code.specs.Runs.{Runs, Completion, Gives, Stops, ended}
use Rattle.ang_code.specs.Told.{ComesFrom}
use Rattle.ang_code.proofs.Telling.{initializers_come_from}
use Rattle.ang_code_laws.proofs.Whole.{initializer_runs_ask}
use Rattle.ang_code_laws.proofs.Counting.{initializer_runs_count}
use Rattle.ang_code_laws.specs.Globals.{globals_of_each}
use Rattle.ang_code_laws.proofs.Worlds.{give_has}
use Rattle.ang_code_laws.proofs.Keeping.{initializer_runs_keep}
use Rattle.ang_gen.specs.BodyBehaves.{outcome_of}
use Rattle.ang_source.specs.Meaning.{Codes, codes_in, passings_in, body_at, pass_at, run_code, initialized, initialized_all, routine}
use Rattle.ang_vm_stack.specs.declared.table.Table.{Table}
use Rattle.ang_vm_stack.specs.Tables.{texts_of}
use Rattle.ang_engine_modules.specs.Modules.{Module, module_at, trees_of, IsAskedIn}
use Rattle.ang_engine_modules.specs.Executed.{setting_for, initialized_in, initialization_of, initializers_of}
use Rattle.ang_engine_modules.specs.Ends.{Ends, end_of}
use Rattle.ang_engine_modules.specs.Initializing.{HaveComeTo}
use Rattle.ang_engine_modules.specs.Loaded.{IsTableOf}
use Rattle.ang_engine_modules.proofs.Inputs.{room_append, stopped_append, told_append, give_inputs, give_listed}
use Rattle.ang_engine_modules.proofs.Behaving.{behaves, never}
use Rattle.ang_engine_modules.proofs.Outcomes.{NoOuts, goes_on_as, stops_as, ends_as, told_value, told_fault, answered_value, answered_fault}
use Rattle.ang_engine_modules.proofs.Asking.{asks_more, gives_more}

-- ---- an initializer has no `&out` values

none_finished : (o : Ran) → NoOuts (finished [] o)
none_finished (Went ls t w) = refl
none_finished (Returned v ls t w) = refl
none_finished (Halted f ls w) = tt
none_finished (Broken ls t w) = refl
none_finished (Continued ls t w) = refl

no_outs : (o : Option (List Passing)) (r : Ran) → o ≡ Some [] → NoOuts (finished (params_in o) r)
no_outs o r e = subst (λ ps. NoOuts (finished (params_in ps) r)) (sym e) (none_finished r)

none_begun : (o : Tried) (out go : World → Reply) → ((w : World) → NoOuts (out w)) → ((w : World) → NoOuts (go w)) → NoOuts (or_else o out go)
none_begun (No w) out go p q = p w
none_begun (Yes w) out go p q = q w

none_initialized : (z : Environment) (codes : Codes) (ticks : ℕ) (g : Routine) (w : World) → z.params g ≡ Some [] → NoOuts (initialized z codes ticks g w)
none_initialized z codes ticks g w known =
    none_begun (memory_step w) (λ w'. Raises Memory (give_all [] w')) (λ w'. body_at z codes (suc ticks) 0 g [] ticks w') (λ w'. tt)
    (λ w'. no_outs (z.params g) (run_code z g.home (enter z (body_at z codes ticks 1) 0 g.home) (pass_at z codes ticks 0 g.home) (codes g) [] ticks w') known)

-- ---- one initializer

module _ (t : Table) (ms : List Module) (is : IsTableOf t ms) (ticks m n : ℕ) (known : slice_get (passings_in (module_at ms m).tree) n ≡ Some []) (now : World) where
  abbrev z : Environment
  z = setting_for ms 201

  abbrev code : Texts
  code = texts_of t

  abbrev from : List Input → Config
  from inputs = initializer_begins z code ticks (routine m n) (with_inputs inputs now)

  abbrev reply : List Input → Reply
  reply inputs = initialized z (codes_in (trees_of ms)) ticks (routine m n) (with_inputs inputs now)

  -- what follows it
  abbrev follow : List Routine → ℕ → World → Reply
  follow gs t' w' = initialized_all z (codes_in (trees_of ms)) gs t' w'

  comes : (inputs : List Input) → (k : ℕ) × (steps z code k (from inputs) ≡ Over (outcome_of (reply inputs)))
  comes inputs = (behaves t ms is 201).initializers ticks (routine m n) (with_inputs inputs now) known

  told : (k : ℕ) (inputs : List Input) → ComesFrom (with_inputs inputs now) (steps z code k (from inputs))
  told k inputs = initializers_come_from z code k ticks (routine m n) (with_inputs inputs now)

  ended_as : (end : Completion) (w : World) (run : Runs z code from end w) (rest : List Input) → outcome_of (reply (run.told.used ++ rest)) ≡ ended end (with_inputs rest w)
  ended_as end w run rest = ends_as z code from reply comes end w run rest

  -- such code is never lost
  pub initializer_stands : (k : ℕ) (inputs : List Input) → steps z code k (from inputs) ≢ Over Stuck
  initializer_stands k inputs = (never t ms is 201).initializers ticks (routine m n) (with_inputs inputs now) known k

  -- it asks what its module may ask
  pub initializer_asks : (end : Completion) (w : World) → Runs z code from end w → AllByRecursion (IsAskedIn ms) now.events → AllByRecursion (IsAskedIn ms) w.events
  initializer_asks end w run asked = asks_more ms 201 now w asked (initializer_runs_ask z code ticks (routine m n) now w end run)

  pub initializer_gives_asks : (v : Slot) (left : ℕ) (w : World) → Runs z code from (Gives v left) w → AllByRecursion (IsAskedIn ms) now.events → AllByRecursion (IsAskedIn ms) (give v w).events
  initializer_gives_asks v left w run asked = gives_more ms 201 v w (initializer_asks (Gives v left) w run asked)

  -- its value is given up, and those after it are left
  pub leaves : (budget left : ℕ) (gs : List Routine) (before w : World) → HaveComeTo ms budget m before (routine m n ∷ gs) ticks now
      → (v : Slot) → Runs z code from (Gives v left) w → HaveComeTo ms budget m before gs left (give v w)
  leaves budget left gs before w come v run =
      let used = run.told.used in
      record {
        used = come.used ++ used;
        goes_on = λ rest.
            ap (λ l. initialization_of ms budget m (with_inputs l before)) (append_assoc come.used used rest)
            ∙ come.goes_on (used ++ rest)
            ∙ goes_on_as (reply (used ++ rest)) (follow gs) v left (with_inputs rest w)
            (none_initialized z (codes_in (trees_of ms)) ticks (routine m n) (with_inputs (used ++ rest) now) known) (ended_as (Gives v left) w run rest)
            ∙ ap (λ u. initialized_in ms gs left u) (give_inputs v rest w);
        room = room_append come.used used come.room ∙ told_value z code from now told v left w run;
        answers =
            give_listed v w ∙ answered_value z code from now told v left w run
            ∙ ap (λ l. l ++ answers_told used) come.answers
            ∙ append_assoc (answers_listed before.events) (answers_told come.used) (answers_told used)
            ∙ ap (λ l. answers_listed before.events ++ l) (sym (told_append come.used used));
      }

  -- it faults, and with it all of them
  pub stops : (budget : ℕ) (gs : List Routine) (before w : World) → HaveComeTo ms budget m before (routine m n ∷ gs) ticks now
      → (x : Fault) → Runs z code from (Stops x) w → Ends (initialization_of ms budget m) before (Err x) w
  stops budget gs before w come x run =
      let used = run.told.used in
      record {
        used = come.used ++ used;
        ends = λ rest.
            ap end_of
            (ap (λ l. initialization_of ms budget m (with_inputs l before)) (append_assoc come.used used rest)
            ∙ come.goes_on (used ++ rest)
            ∙ stops_as (reply (used ++ rest)) (follow gs) x (with_inputs rest w) (ended_as (Stops x) w run rest));
        told =
            ⊎_elim (λ (e : has_room used ≡ true). inl (room_append come.used used come.room ∙ e)) (λ (e : stopped_by used ≡ Some x). inr (stopped_append come.used used come.room ∙ e))
            (told_fault z code from now told x w run);
        answers =
            answered_fault z code from now told x w run
            ∙ ap (λ l. l ++ answers_told used) come.answers
            ∙ append_assoc (answers_listed before.events) (answers_told come.used) (answers_told used)
            ∙ ap (λ l. answers_listed before.events ++ l) (sym (told_append come.used used));
      }

-- each leaves what is held by globals and fields alone, and as many globals as there were, whatever its code is
module _ (z : Environment) (code : Texts) (ticks : ℕ) (g : Routine) (now w : World) where
  abbrev first : List Input → Config
  first inputs = initializer_begins z code ticks g (with_inputs inputs now)

  pub counted_given : IsCounted [] now → (v : Slot) (left : ℕ) → Runs z code first (Gives v left) w → IsCounted [] (give v w)
  counted_given count v left run = give_counted v [] w (initializer_runs_count z code ticks g now w (Gives v left) count run)

  pub counted_stopped : IsCounted [] now → (x : Fault) → Runs z code first (Stops x) w → IsCounted [] w
  counted_stopped count x run = initializer_runs_count z code ticks g now w (Stops x) count run

  pub kept_given : (v : Slot) (left : ℕ) → Runs z code first (Gives v left) w → globals_of_each (give v w) ≡ globals_of_each now
  kept_given v left run = give_has (globals_of_each now) v w (initializer_runs_keep z code ticks g now w (Gives v left) run)

  pub kept_stopped : (x : Fault) → Runs z code first (Stops x) w → globals_of_each w ≡ globals_of_each now
  kept_stopped x run = initializer_runs_keep z code ticks g now w (Stops x) run

-- ---- all of them

-- at first all are left
pub come_first : (ms : List Module) (budget m : ℕ) (before : World) → HaveComeTo ms budget m before (initializers_of m (module_at ms m).tree) budget before
come_first ms budget m before = record { used = []; goes_on = λ rest. refl; room = refl; answers = sym (append-nil (answers_listed before.events)) }

-- the value of initializers is a number, which nothing holds
nothing_given : (w : World) → end_of (Yields (Bits 0) [] 0 w) ≡ record { result = Ok (Bits 0); world = w }
nothing_given w = ap (λ u. record { result = Ok (Bits 0); world = u }) (give_bits 0 w)

-- where none is left they have ended
pub come_last : (ms : List Module) (budget m ticks : ℕ) (before now : World) → HaveComeTo ms budget m before [] ticks now → Ends (initialization_of ms budget m) before (Ok (Bits 0)) now
come_last ms budget m ticks before now come = record { used = come.used; ends = λ rest. ap end_of (come.goes_on rest) ∙ nothing_given (with_inputs rest now); told = come.room; answers = come.answers }
