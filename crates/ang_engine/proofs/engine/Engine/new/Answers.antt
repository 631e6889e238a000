use Rattle.std.proofs.Common.{◌≡◌, ◌∙◌, ap, sym, subst, length, true, rules, None}
use Rattle.ang_host.specs.Boxes.{members}
use Rattle.ang_registry.specs.Registrations.{Registrations, grouped}
use Rattle.ang_meaning.specs.World.{World as RunWorld}
use Rattle.ang_heap.specs.Globals.{values_in}
use Rattle.ang_heap.specs.Stores.{world_of}
use Rattle.ang_engine_modules.specs.declared.module.ModuleList.{ModuleList}
use Rattle.ang_engine.specs.Sound.{HaveDrivers}
use Rattle.ang_engine.proofs.Moved.{no_numbers}
use Rattle.ang_engine.proofs.Beginning.{ended_entries, no_sound_modules, no_globals, world_begun}
use Rattle.ang_engine.proofs.engine.Engine.new.Goals as goal

pub returns-in-Ok-clause-world : goal.returns-in-Ok-clause-world
returns-in-Ok-clause-world g c =
    let x : ModuleList = record { places = c.new.result; code = c.new-in-Ok.result; failed = None; order = c.in-Ok.order; builds = 0 } in
    world_begun x (world_of (λ v. (g.dyn-1.0.entry v).1) c.machine_of.result.store) c.new.ensures.items c.in-Ok.ensures.items
    c.machine_of.ensures.world

pub returns-in-Ok-clause-registrations : goal.returns-in-Ok-clause-registrations
returns-in-Ok-clause-registrations g c = ap (λ (r : Registrations). r.entries) c.closed.ensures.ended ∙ ended_entries c.args.registry

pub returns-in-Ok-clause-groups : goal.returns-in-Ok-clause-groups
returns-in-Ok-clause-groups g c = ap grouped c.closed.ensures.ended

pub returns-in-Ok-clause-sound : goal.returns-in-Ok-clause-sound
returns-in-Ok-clause-sound g c =
    let R = c.closed.result.entries in
    let same : c.args.registry.entries ≡ R = sym (ap (λ (r : Registrations). r.entries) c.closed.ensures.ended ∙ ended_entries c.args.registry) in
    let x : ModuleList = record { places = c.new.result; code = c.new-in-Ok.result; failed = None; order = c.in-Ok.order; builds = 0 } in
    let yes : c.have_drivers.result ≡ true = search rules in
    let have : HaveDrivers c.args.registry.entries (length (members c.args.drivers)) = subst (λ n. HaveDrivers c.args.registry.entries n) c.len.ensures.exact (c.have_drivers.ensures.exact.0 yes) in
    record {
      modules = no_sound_modules R x c.new.ensures.items c.new-in-Ok.ensures.none;
      globals = no_globals x (values_in c.machine_of.result.store.globals) c.new.ensures.items (ap (λ (w : RunWorld). w.globals) c.machine_of.ensures.world);
      in_list = subst (λ bs. HaveDrivers R (length bs)) (sym c.machine_of.ensures.drivers) (subst (λ l. HaveDrivers l (length (members c.args.drivers))) same have);
      kept = c.machine_of.ensures.kept;
      counted = c.machine_of.ensures.counted;
      numbered = no_numbers x c.new.ensures.items;
    }
