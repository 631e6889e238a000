-- What the machine's runs of a table mean, whichever modules it holds.
use Rattle.std.proofs.Common.{◌≡◌, ◌+◌, ◌-◌, ◌<◌, ◌≤◌, ℕ, List, [], ◌∷◌, ◌++◌, Some, inl, inr, refl, sym, ap, subst, ◌∙◌}
use Rattle.std.specs.Prelude.{length, reverse, slice_get, Option, Result, Ok, Err}
use Rattle.std.specs.List.{AllByRecursion}
use Rattle.std.proofs.lemmas.List.{append_assoc}
use Rattle.ang_kinds.specs.declared.fault.Fault.{Fault}
use Rattle.ang_kinds.specs.declared.value.Value.{Value}
use Rattle.ang_meaning.specs.declared.slot.Slot.{Slot}
use Rattle.ang_meaning.specs.declared.slot.Slot.TheVariants.{Bits}
use Rattle.ang_meaning.specs.declared.routine.Routine.{Routine}
use Rattle.ang_meaning.specs.World.{World, Input, with_inputs}
use Rattle.ang_meaning.specs.Counting.{IsCounted}
use Rattle.ang_meaning.specs.Environment.{Environment}
use Rattle.ang_code.specs.Machine.{Config, call_begins, initializer_begins}
use Rattle.ang_code.specs.Runs.{Stops}
use Rattle.ang_code_laws.specs.Globals.{globals_of_each}
use Rattle.ang_code.specs.Values.{answer_of}
use Rattle.ang_source.specs.Meaning.{passings_in, routine}
use Rattle.ang_vm_stack.specs.declared.table.Table.{Table}
use Rattle.ang_vm_stack.specs.Tables.{setting_of, texts_of, result_of}
use Rattle.ang_vm.specs.Machines.{HasRun, HasCalled as CallEnded, HasInitialized}
use Rattle.ang_engine_modules.specs.Modules.{Module, module_at, TakesSoMany, IsAskedIn}
use Rattle.ang_engine_modules.specs.Executed.{setting_for, call_of, initializers_of, initialization_of}
use Rattle.ang_engine_modules.specs.Initializing.{HaveComeTo}
use Rattle.ang_engine_modules.specs.Loaded.{IsTableOf}
use Rattle.ang_engine_modules.specs.Numbers.{routines_at}
use Rattle.ang_engine_modules.specs.Started.{HasEnded, HasCalled, HasBegun}
use Rattle.ang_engine_modules.proofs.Settings.{setting_same}
use Rattle.ang_engine_modules.proofs.Loading.{typed}
use Rattle.ang_engine_modules.proofs.Bodies.{takes_nothing}
use Rattle.ang_engine_modules.proofs.Numbers.{next_routine, no_routine}
use Rattle.ang_engine_modules.proofs.Calls.{call_gives, call_stops, call_stands}
use Rattle.ang_engine_modules.proofs.Initializers.{initializer_asks, initializer_gives_asks, initializer_stands, leaves, stops, counted_given, counted_stopped, kept_given, kept_stopped, come_first, come_last}

module _ (t : Table) where
  -- ---- calls

  -- the first configuration of a call, and of an initializer, in a setting
  abbrev calling : Environment → ℕ → ℕ → ℕ → List Slot → World → List Input → Config
  calling z budget m n args w is = call_begins z (texts_of t) budget (routine m n) (reverse args) (with_inputs is w)

  abbrev beginning : Environment → ℕ → ℕ → ℕ → World → List Input → Config
  beginning z ticks m n w is = initializer_begins z (texts_of t) ticks (routine m n) (with_inputs is w)

  module _ (ms : List Module) (is : IsTableOf t ms) (budget m n : ℕ) (args : List Slot) (takes : TakesSoMany ms m n (length args)) (before after : World) (count : IsCounted (reverse args) before) where
    called : (result : Result Slot Fault) → CallEnded (setting_for ms 200) (texts_of t) (calling (setting_for ms 200) budget m n args before) result after
        → HasEnded ms (call_of ms budget m n args) before result after
    called (Ok v) (left, given) =
        subst (HasEnded ms (call_of ms budget m n args) before (Ok v)) (sym given.given) (call_gives t ms is budget m n args takes before v left given.end count given.runs)
    called (Err x) (inl run) = call_stops t ms is budget m n args takes before x after count run
    called (Err x) (inr (null, lost)) = absurd (call_stands t ms is budget m n args takes before lost.count (lost.told.used ++ []) (lost.told.tells []))

  pub has_called : (budget m n : ℕ) (args : List Slot) (before after : World) (answer : Result (Option Value) Fault) → IsCounted (reverse args) before
      → HasRun (setting_of t 200) (texts_of t) (result_of t (routine m n)) (calling (setting_of t 200) budget m n args before) answer after
      → HasCalled t budget m n args before answer after
  has_called budget m n args before after answer count run = λ ms is takes.
      let ended = called ms is budget m n args takes before after count run.end
      (subst (λ z. CallEnded z (texts_of t) (calling z budget m n args before) run.end after) (setting_same t ms is 200) run.called) in
      record {
        means = record {
          result = run.end;
          ends = ended.means;
          answered = run.answered ∙ ap (λ type. answer_of type run.end) (typed t ms is m n (length args) takes);
        };
        asked = ended.asked;
        counted = ended.counted;
        globals = ended.globals;
      }

-- ---- initializers

-- The initializers of module m from the first number to the end have come to a number, whichever modules the table holds.
pub record HaveComeAt (t : Table) (budget m first end : ℕ) (before : World) (n ticks : ℕ) (now : World) : Type 0 where
  pub gone : List Routine
  pub listed : routines_at m first (end - first) ≡ gone ++ routines_at m n (end - n)
  pub come : (ms : List Module) → IsTableOf t ms → initializers_of m (module_at ms m).tree ≡ routines_at m first (end - first)
      → HaveComeTo ms budget m before (routines_at m n (end - n)) ticks now
  pub asked : (ms : List Module) → IsTableOf t ms → initializers_of m (module_at ms m).tree ≡ routines_at m first (end - first)
      → AllByRecursion (IsAskedIn ms) before.events → AllByRecursion (IsAskedIn ms) now.events
  pub counted : IsCounted [] now
  pub globals : globals_of_each now ≡ globals_of_each before

module _ (t : Table) (budget m first end : ℕ) (before : World) where
  -- these are the initializers of its module m
  abbrev Numbered : List Module → Type 0
  Numbered ms = initializers_of m (module_at ms m).tree ≡ routines_at m first (end - first)

  pub begins_at : IsCounted [] before → HaveComeAt t budget m first end before first budget before
  begins_at count = record {
    gone = [];
    listed = refl;
    come = λ ms is all. subst (λ gs. HaveComeTo ms budget m before gs budget before) all (come_first ms budget m before);
    asked = λ ms is all asked. asked;
    counted = count;
    globals = refl;
  }

  module _ (n ticks : ℕ) (now : World) (at : HaveComeAt t budget m first end before n ticks now) where
    abbrev rest : List Routine
    rest = routines_at m (n + 1) (end - (n + 1))

    -- the routines are those that are gone, this one, and those after it
    there : n < end → (gs : List Routine) → gs ≡ routines_at m first (end - first) → gs ≡ at.gone ++ routine m n ∷ rest
    there lt gs all = all ∙ at.listed ∙ ap (λ l. at.gone ++ l) (next_routine m n end lt)

    -- those that are left begin with this one
    comes : n < end → (ms : List Module) → IsTableOf t ms → Numbered ms → HaveComeTo ms budget m before (routine m n ∷ rest) ticks now
    comes lt ms is all = subst (λ gs. HaveComeTo ms budget m before gs ticks now) (next_routine m n end lt) (at.come ms is all)

    module _ (ms : List Module) (is : IsTableOf t ms) (all : Numbered ms) (lt : n < end) where
      abbrev begun : Environment → List Input → Config
      begun z = beginning t z ticks m n now

      known : slice_get (passings_in (module_at ms m).tree) n ≡ Some []
      known = takes_nothing m (module_at ms m).tree at.gone rest n (there lt (initializers_of m (module_at ms m).tree) all)

      here : (result : Result ℕ Fault) (after : World) → HasInitialized (setting_of t 201) (texts_of t) (begun (setting_of t 201)) result after
          → HasInitialized (setting_for ms 201) (texts_of t) (begun (setting_for ms 201)) result after
      here result after run = subst (λ z. HasInitialized z (texts_of t) (begun z) result after) (setting_same t ms is 201) run

      come_next : (left : ℕ) (after : World) → HasInitialized (setting_for ms 201) (texts_of t) (begun (setting_for ms 201)) (Ok left) after
          → HaveComeTo ms budget m before rest left after
      come_next left after (v, given) =
          subst (HaveComeTo ms budget m before rest left) (sym given.given)
          (leaves t ms is ticks m n known now budget left rest before given.end (comes lt ms is all) v given.runs)

      asks_next : (left : ℕ) (after : World) → HasInitialized (setting_for ms 201) (texts_of t) (begun (setting_for ms 201)) (Ok left) after
          → AllByRecursion (IsAskedIn ms) now.events → AllByRecursion (IsAskedIn ms) after.events
      asks_next left after (v, given) asked =
          subst (λ w. AllByRecursion (IsAskedIn ms) w.events) (sym given.given)
          (initializer_gives_asks t ms is ticks m n known now v left given.end given.runs asked)

      ends_by : (fault : Fault) (after : World) → HasInitialized (setting_for ms 201) (texts_of t) (begun (setting_for ms 201)) (Err fault) after
          → HasEnded ms (initialization_of ms budget m) before (Err fault) after
      ends_by fault after (inl run) = record {
        means = stops t ms is ticks m n known now budget rest before after (comes lt ms is all) fault run;
        asked = λ asked. initializer_asks t ms is ticks m n known now (Stops fault) after run (at.asked ms is all asked);
        counted = counted_stopped (setting_for ms 201) (texts_of t) ticks (routine m n) now after at.counted fault run;
        globals = kept_stopped (setting_for ms 201) (texts_of t) ticks (routine m n) now after fault run ∙ at.globals;
      }
      ends_by fault after (inr (null, lost)) = absurd (initializer_stands t ms is ticks m n known now lost.count (lost.told.used ++ []) (lost.told.tells []))

    -- what is counted after one that ended
    count_next : (left : ℕ) (after : World) → HasInitialized (setting_of t 201) (texts_of t) (beginning t (setting_of t 201) ticks m n now) (Ok left) after → IsCounted [] after
    count_next left after (v, given) =
        subst (IsCounted []) (sym given.given) (counted_given (setting_of t 201) (texts_of t) ticks (routine m n) now given.end at.counted v left given.runs)

    -- and how many globals there are
    keep_next : (left : ℕ) (after : World) → HasInitialized (setting_of t 201) (texts_of t) (beginning t (setting_of t 201) ticks m n now) (Ok left) after
        → globals_of_each after ≡ globals_of_each now
    keep_next left after (v, given) =
        subst (λ w. globals_of_each w ≡ globals_of_each now) (sym given.given) (kept_given (setting_of t 201) (texts_of t) ticks (routine m n) now given.end v left given.runs)

    -- this one ended, and those after it are left
    pub goes_on_at : (left : ℕ) (after : World) → n < end
        → HasInitialized (setting_of t 201) (texts_of t) (beginning t (setting_of t 201) ticks m n now) (Ok left) after
        → HaveComeAt t budget m first end before (n + 1) left after
    goes_on_at left after lt run = record {
      gone = at.gone ++ routine m n ∷ [];
      listed = there lt (routines_at m first (end - first)) refl ∙ sym (append_assoc at.gone (routine m n ∷ []) rest);
      come = λ ms is all. come_next ms is all lt left after (here ms is all lt (Ok left) after run);
      asked = λ ms is all asked. asks_next ms is all lt left after (here ms is all lt (Ok left) after run) (at.asked ms is all asked);
      counted = count_next left after run;
      globals = keep_next left after run ∙ at.globals;
    }

    -- it faulted, and with it all of them
    pub faults_at : (fault : Fault) (after : World) → n < end
        → HasInitialized (setting_of t 201) (texts_of t) (beginning t (setting_of t 201) ticks m n now) (Err fault) after
        → HasBegun t budget m first end before (Err fault) after
    faults_at fault after lt run = λ ms is all. ends_by ms is all lt fault after (here ms is all lt (Err fault) after run)

    -- none is left
    pub ends_at : end ≤ n → HasBegun t budget m first end before (Ok (Bits 0)) now
    ends_at le = λ ms is all. record {
      means = come_last ms budget m ticks before now (subst (λ gs. HaveComeTo ms budget m before gs ticks now) (no_routine m n end le) (at.come ms is all));
      asked = at.asked ms is all;
      counted = at.counted;
      globals = at.globals;
    }
