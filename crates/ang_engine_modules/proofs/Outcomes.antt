-- A run's end is that of the reply to which its first configuration leads.
use Rattle.std.proofs.Common.{◌≡◌, ◌⊎◌, ℕ, List, [], ◌++◌, Some, sym, ap, ◌∙◌, subst, append-nil}
use Rattle.std.specs.Prelude.{true, Ok, Err}
use Rattle.ang_kinds.specs.declared.fault.Fault.{Fault}
use Rattle.ang_meaning.specs.declared.slot.Slot.{Slot}
use Rattle.ang_meaning.specs.World.{World, Input, with_inputs, give, give_all}
use Rattle.ang_meaning.specs.Told.{has_room, stopped_by, answers_told, answers_listed, Moves, GoesOn, Faults}
use Rattle.ang_meaning.specs.Environment.{Environment}
use Rattle.ang_meaning.specs.Results.{Reply, Yields, Raises}
use Rattle.ang_code.specs.Machine.{Texts, Config, Over, Finished, Faulted, steps}
use Rattle.ang_code.specs.Runs.{Runs, Completion, Gives, Stops, ended}
use Rattle.ang_code.specs.Told.{ComesFrom}
use Rattle.ang_code_laws.proofs.Determined.{has_one_end}
use Rattle.ang_gen.specs.BodyBehaves.{outcome_of}
use Rattle.ang_meaning.specs.Bodies.{then_initialized}
use Rattle.ang_engine_modules.specs.Ends.{end_of}
use Rattle.ang_engine_modules.proofs.Inputs.{listed_append}

-- ---- replies by their outcomes

pub finished_as : (r : Reply) (v : Slot) (left : ℕ) (u : World) → outcome_of r ≡ Finished v left u → end_of r ≡ record { result = Ok v; world = give v u }
finished_as (Yields x outs t w) v left u e =
    let same : x ≡ v = cc in
    let there : give_all outs w ≡ u = cc in
    λ j. record { result = Ok (same j); world = give (same j) (there j) }
finished_as (Raises f w) v left u e = absurd (cc)

pub faulted_as : (r : Reply) (x : Fault) (u : World) → outcome_of r ≡ Faulted x u → end_of r ≡ record { result = Err x; world = u }
faulted_as (Yields v outs t w) x u e = absurd (cc)
faulted_as (Raises f w) x u e =
    let same : f ≡ x = cc in
    let there : w ≡ u = cc in
    λ j. record { result = Err (same j); world = there j }

-- a reply without `&out` values
abbrev pub NoOuts : Reply → Type 0
NoOuts (Yields v outs t w) = outs ≡ []
NoOuts (Raises f w) = Unit {0}

-- what follows an initializer that ended
pub goes_on_as : (r : Reply) (go : ℕ → World → Reply) (v : Slot) (left : ℕ) (u : World) → NoOuts r → outcome_of r ≡ Finished v left u → then_initialized r go ≡ go left (give v u)
goes_on_as (Yields x outs t w) go v left u none e =
    let same : x ≡ v = cc in
    let ticks : t ≡ left = cc in
    let given : give_all outs w ≡ u = cc in
    let there : w ≡ u = sym (ap (λ l. give_all l w) none) ∙ given in
    λ j. go (ticks j) (give (same j) (there j))
goes_on_as (Raises f w) go v left u none e = absurd (cc)

-- and one that faulted
pub stops_as : (r : Reply) (go : ℕ → World → Reply) (x : Fault) (u : World) → outcome_of r ≡ Faulted x u → then_initialized r go ≡ Raises x u
stops_as (Yields v outs t w) go x u e = absurd (cc)
stops_as (Raises f w) go x u e =
    let same : f ≡ x = cc in
    let there : w ≡ u = cc in
    λ j. Raises (same j) (there j)

-- ---- what a run was told

-- told these inputs and no more, it used them all
used_all : (used again : List Input) (v w : World) → Moves (with_inputs (used ++ []) v) again (with_inputs [] w) → used ≡ again
used_all used again v w m = sym (append-nil used) ∙ m.inputs ∙ append-nil again

-- it answered just what it lists
listed_by : (used again : List Input) (v w : World) → Moves (with_inputs (used ++ []) v) again (with_inputs [] w) → answers_listed w.events ≡ answers_listed v.events ++ answers_told used
listed_by used again v w m =
    ap answers_listed m.events
    ∙ listed_append v.events m.more
    ∙ ap (λ l. answers_listed v.events ++ l) (m.answers ∙ ap answers_told (sym (used_all used again v w m)))

-- ---- runs

module _ (z : Environment) (code : Texts) (from : List Input → Config) where
  -- the outcome is the run's end, whatever inputs are left
  pub ends_as : (reply : List Input → Reply) → ((is : List Input) → (n : ℕ) × (steps z code n (from is) ≡ Over (outcome_of (reply is))))
      → (end : Completion) (w : World) (run : Runs z code from end w) (rest : List Input) → outcome_of (reply (run.told.used ++ rest)) ≡ ended end (with_inputs rest w)
  ends_as reply comes end w run rest =
      let is = run.told.used ++ rest in
      let b = comes is in
      has_one_end z code b.0 run.count (from is) (outcome_of (reply is)) (ended end (with_inputs rest w)) b.1 (run.told.tells rest)

  module _ (start : World) (comes : (n : ℕ) (is : List Input) → ComesFrom (with_inputs is start) (steps z code n (from is))) where
    value_comes : (v : Slot) (left : ℕ) (w : World) (run : Runs z code from (Gives v left) w) → GoesOn (with_inputs (run.told.used ++ []) start) (with_inputs [] w)
    value_comes v left w run =
        let is = run.told.used ++ [] in
        subst (ComesFrom (with_inputs is start)) (run.told.tells []) (comes run.count is)

    fault_comes : (x : Fault) (w : World) (run : Runs z code from (Stops x) w) → Faults x (with_inputs (run.told.used ++ []) start) (with_inputs [] w)
    fault_comes x w run =
        let is = run.told.used ++ [] in
        subst (ComesFrom (with_inputs is start)) (run.told.tells []) (comes run.count is)

    pub told_value : (v : Slot) (left : ℕ) (w : World) (run : Runs z code from (Gives v left) w) → has_room run.told.used ≡ true
    told_value v left w run =
        let g = value_comes v left w run in
        ap has_room (used_all run.told.used g.used start w g.moves) ∙ g.room

    pub told_fault : (x : Fault) (w : World) (run : Runs z code from (Stops x) w) → (has_room run.told.used ≡ true) ⊎ (stopped_by run.told.used ≡ Some x)
    told_fault x w run =
        let g = fault_comes x w run in
        subst (λ l. (has_room l ≡ true) ⊎ (stopped_by l ≡ Some x)) (sym (used_all run.told.used g.used start w g.moves)) g.told

    pub answered_value : (v : Slot) (left : ℕ) (w : World) (run : Runs z code from (Gives v left) w) → answers_listed w.events ≡ answers_listed start.events ++ answers_told run.told.used
    answered_value v left w run = let g = value_comes v left w run in listed_by run.told.used g.used start w g.moves

    pub answered_fault : (x : Fault) (w : World) (run : Runs z code from (Stops x) w) → answers_listed w.events ≡ answers_listed start.events ++ answers_told run.told.used
    answered_fault x w run = let g = fault_comes x w run in listed_by run.told.used g.used start w g.moves
