-- An engine that begins: nothing lives, and nothing is held.
use Rattle.std.proofs.Common.{Bool, true, false, ◌≡◌, ◌+◌, ℕ, refl, sym, ap, ◌∙◌, subst, List, [], length, arith, Some}
use Rattle.std.specs.FinMap as map
use Rattle.std.specs.FinMap.{get-empty}
use Rattle.std.specs.Ordering.{nat_cmp}
use Rattle.std.specs.Prelude.{if◌then◌else◌, slice_get, slice_index_or}
use Rattle.std.specs.List.{AllZip}
use Rattle.ang_host.specs.declared.event.HostEvent.{HostEvent}
use Rattle.ang_host.specs.State.{State, count_of}
use Rattle.ang_host.specs.Members.{AreFresh}
use Rattle.ang_view.specs.Registration.{RegistrationList}
use Rattle.ang_registry.specs.Groups.{all_ended, with_ended}
use Rattle.ang_registry.specs.Registrations.{Registrations}
use Rattle.ang_meaning.specs.declared.slot.Slot.{Slot}
use Rattle.ang_meaning.specs.World.{World as RunWorld, Bounds, ScriptObjects}
use Rattle.ang_meaning.specs.Counting.{IsCounted, counts_by}
use Rattle.ang_meaning.proofs.Roots.{nothing_counted}
use Rattle.ang_heap.specs.Parts.{world_by, AreReady}
use Rattle.ang_engine_modules.specs.declared.module.Module.{Module}
use Rattle.ang_engine_modules.specs.declared.module.ModuleList.{ModuleList}
use Rattle.ang_engine_modules.specs.World.{unbounded, no_modules, running, left_to}
use Rattle.ang_engine_modules.specs.States.{places_of, states_in}
use Rattle.ang_engine_modules.specs.Sound.{HaveGlobals}
use Rattle.ang_engine.specs.Sound.{IsSoundPlace, AreSoundModules}
use Rattle.ang_engine.proofs.States.{counts_fresh, ready_fresh}

-- ---- a registry of which no group is open

pub ended_entries : (r : Registrations) → (all_ended r).entries ≡ r.entries
ended_entries r = by r.is_open
  where
    by : (b : Bool) → (if b then with_ended r else r).entries ≡ r.entries
    by true = refl
    by false = refl

-- ---- a machine on fresh drivers, without script objects and globals

pub fresh_world : (ss : List State) (os : ScriptObjects) (gs : List (List Slot)) (es : List HostEvent) (b : Bounds) → AreFresh ss → os ≡ map.empty → gs ≡ [] → es ≡ [] → b ≡ unbounded
    → world_by os (counts_by ss) gs es (length es + 0) false b [] ≡ running no_modules []
fresh_world ss os gs es b fresh objects globals events bounds =
    ap (λ o. world_by o (counts_by ss) gs es (length es + 0) false b []) objects
    ∙ ap (λ h. world_by map.empty h gs es (length es + 0) false b []) (counts_fresh ss fresh)
    ∙ ap (λ g. world_by map.empty (λ d. map.empty) g es (length es + 0) false b []) globals
    ∙ ap (λ l. world_by map.empty (λ d. map.empty) [] l (length l + 0) false b []) events
    ∙ ap (λ k. world_by map.empty (λ d. map.empty) [] [] 0 false k []) bounds

empty_counted : IsCounted [] (running no_modules [])
empty_counted = nothing_counted (running no_modules []) refl (λ d k. ap count_of (get-empty nat_cmp k)) (λ x. refl)

pub fresh_counted : (w : RunWorld) → w ≡ running no_modules [] → IsCounted [] w
fresh_counted w e = subst (λ u. IsCounted [] u) (sym e) empty_counted

pub room_fresh : (ss : List State) (len capacity : ℕ) → AreFresh ss → len ≡ 0 → AreReady ss len capacity
room_fresh ss len capacity fresh e = subst (λ n. AreReady ss n capacity) (sym e) (ready_fresh ss capacity fresh)

-- ---- an engine without modules

pub no_sound_modules : (R : RegistrationList) (x : ModuleList) → x.places.items ≡ [] → x.code ≡ [] → AreSoundModules R x
no_sound_modules R x e f =
    let none : (i : ℕ) (m : Module) → slice_get x.places.items i ≡ Some (Some m) → ⊥ = λ i m at. nothing_there i m (sym (ap (λ l. slice_get l i) e) ∙ at) in
    record {
      each = subst (λ ms. AllZip (IsSoundPlace R) ms x.code) (sym e) (subst (λ ls. AllZip (IsSoundPlace R) [] ls) (sym f) tt);
      apart = λ i j m n at bt same. absurd (none i m at);
      few = omega (arith, ap length e);
      listed = λ i m at. absurd (none i m at);
    }
  where
    nothing_there : (i : ℕ) (m : Module) → slice_get [] i ≡ Some (Some m) → ⊥
    nothing_there i m at = let y : ⊥ = cc in y

pub no_globals : (x : ModuleList) (gs : List (List Slot)) → x.places.items ≡ [] → gs ≡ [] → HaveGlobals x gs
no_globals x gs e f = record { count = ap length f ∙ sym (ap length e); none = λ i at. ap (λ l. slice_index_or l i []) f }

pub world_begun : (x : ModuleList) (r : RunWorld) → x.places.items ≡ [] → x.order.items ≡ [] → r ≡ running no_modules [] → left_to (states_in x) r ≡ no_modules
world_begun x r e o f =
    ap (λ ms. left_to (record { places = places_of ms x.code; order = x.order.items }) r) e
    ∙ ap (λ l. left_to (record { places = []; order = l }) r) o
    ∙ ap (λ u. left_to (record { places = []; order = [] }) u) f
