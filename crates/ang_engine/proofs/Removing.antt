-- A module that is discarded.
use Rattle.std.proofs.Common.{◌≡◌, inl, refl, ap, sym, ◌∙◌, ℕ, List, [], Some, None, map, option_map}
use Rattle.std.specs.Prelude.{◌==◌, not, filter, Vec, slice_set}
use Rattle.std.specs.List.{AllZip}
use Rattle.std.specs.declared.alloc.Global.{Global}
use Rattle.ang_host.specs.Logs.{listed_in}
use Rattle.ang_host.specs.declared.event_buffer.EventBuffer.{EventBuffer}
use Rattle.ang_host.specs.declared.event.HostEvent.{HostEvent}
use Rattle.ang_host.specs.Meanings.{Meanings}
use Rattle.ang_view.specs.Registration.{RegistrationList}
use Rattle.ang_meaning.specs.World.{Input, World as RunWorld, with_inputs}
use Rattle.ang_meaning.specs.Told.{answers_listed}
use Rattle.ang_meaning.specs.Counting.{IsCounted}
use Rattle.ang_heap.specs.declared.store.Store.{Store}
use Rattle.ang_heap.specs.Globals.{values_in}
use Rattle.ang_heap.specs.Stores.{world_of, IsReady, StoreBecomes, HasMoved}
use Rattle.ang_engine_modules.specs.Loaded.{unbound_in}
use Rattle.ang_engine_modules.specs.declared.module.ModuleList.{ModuleList}
use Rattle.ang_engine_modules.specs.declared.reply.Outcome.TheVariants.{Done}
use Rattle.ang_engine_modules.specs.World.{World, ModuleStates, module_named, unbound_module, all_unbound_from, running, left_to, globals_ended}
use Rattle.ang_engine_modules.specs.Commands.{reply_of, after_run, without, discard}
use Rattle.ang_engine_modules.specs.States.{places_of, states_in}
use Rattle.ang_engine_modules.proofs.PlaceLists.{map_set}
use Rattle.ang_engine_modules.proofs.Worlds.{places_set, places_unbound, zip_length}
use Rattle.ang_engine_modules.proofs.Finding.{on_module-found}
use Rattle.ang_engine.specs.Asked.{HasAsked}
use Rattle.ang_engine.specs.Outcomes.{discarding}
use Rattle.ang_engine.specs.Sound.{IsSoundPlace}
use Rattle.ang_engine.specs.Step.{Leads}
use Rattle.ang_engine.proofs.Between.{left_without, run_begins}
use Rattle.ang_engine.proofs.Asking.{asked-ends, run-ended}
use Rattle.ang_engine.proofs.GlobalsEnd.{ended_globals}
use Rattle.ang_engine.proofs.Starting.{ended_silent}

-- its place is empty, and no import leads to it
removed_places : (R : RegistrationList) (x : ModuleList) (home : ℕ) → AllZip (IsSoundPlace R) x.places.items x.code
    → places_of (slice_set x.places.items home None) (unbound_in home (slice_set x.code home None)) ≡ slice_set (map (option_map (unbound_module home)) (places_of x.places.items x.code)) home None
removed_places R x home zip =
    places_unbound home (slice_set x.places.items home None) (slice_set x.code home None)
    ∙ ap (map (option_map (unbound_module home))) (places_set x.places.items x.code home None None (zip_length (IsSoundPlace R) x.places.items x.code zip))
    ∙ map_set (option_map (unbound_module home)) (places_of x.places.items x.code) home None

-- Its globals have ended between the stores s and t, and it is taken out of the modules.
module _ {V : Type 0} {P : V → Type 0} (m : Meanings P) (R : RegistrationList) (x y : ModuleList) (home : ℕ) (s t : Store V P) (es fs : EventBuffer) (first : listed_in es ≡ [])
    (ended : StoreBecomes m (globals_ended home) (record s { events = es }) (record t { events = fs })) where
  -- the world before, and the one after the end of its globals
  abbrev before : World
  before = left_to (states_in x) (world_of m s)

  abbrev now : RunWorld
  now = world_of m (record t { events = fs })

  has_ended : (is : List Input) → globals_ended home (running before is) ≡ with_inputs is now
  has_ended is = ap (globals_ended home) (run_begins m (states_in x) s es is first) ∙ ended is

  silent : answers_listed now.events ≡ []
  silent = sym (ended_silent home (running before []) now (has_ended []))

  -- it has no globals any more
  pub removed-values : values_in t.globals ≡ slice_set (values_in s.globals) home []
  removed-values = ap (λ (w : RunWorld). w.globals) (sym (has_ended [])) ∙ ended_globals home (running before [])

  module _ (zip : AllZip (IsSoundPlace R) x.places.items x.code) (places : y.places.items ≡ slice_set x.places.items home None) (code : y.code ≡ unbound_in home (slice_set x.code home None))
      (order : y.order.items ≡ filter (λ j. not (j == home)) x.order.items) where
    removed_states : without home (all_unbound_from home before).modules ≡ states_in y
    removed_states =
        ap (λ ps. record { places = ps; order = filter (λ j. not (j == home)) x.order.items }) (sym (removed_places R x home zip))
        ∙ ap (λ l. record { places = places_of (slice_set x.places.items home None) l; order = filter (λ j. not (j == home)) x.order.items }) (sym code)
        ∙ ap (λ l. record { places = places_of l y.code; order = filter (λ j. not (j == home)) x.order.items }) (sym places)
        ∙ ap (λ l. record { places = places_of y.places.items y.code; order = l }) (sym order)

    pub removed-leads : (name : List ℕ) → Some home ≡ module_named name before → Leads (discarding name before) (reply_of (Done None) (listed_in fs) []) (left_to (states_in y) (world_of m t))
    removed-leads name found = record {
      used = [];
      tells = λ rest.
          on_module-found name before home rest (discard before) found
          ∙ ap (λ u. Some (after_run (Done None) [] (without home (all_unbound_from home before).modules) u)) (has_ended rest)
          ∙ ap (λ (ss : ModuleStates). Some (after_run (Done None) [] ss (with_inputs rest now))) removed_states
          ∙ ap (λ (v : World). Some (record { reply = reply_of (Done None) (listed_in fs) []; world = v; left = rest })) (left_without m (states_in y) t fs);
      told = inl refl;
      answers = sym silent;
    }

  pub removed-asked : (w : World) → IsReady m (record s { events = es }) → IsCounted [] (world_of m s) → HasMoved m (record s { events = es }) (record t { events = fs }) → HasAsked m R w (listed_in fs) s t
  removed-asked w ready counted moves = asked-ends m R s t es fs first ready counted w (run-ended m [] home (record s { events = es }) (record t { events = fs }) (ended []) moves)
