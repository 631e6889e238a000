use Rattle.std.proofs.Common.{◌∙◌, refl, ap, sym, subst, length, map, [], None}
use Rattle.std.specs.Prelude.{slice_index_or}
use Rattle.ang_heap.specs.Globals.{values_in}
use Rattle.ang_engine_modules.specs.Sound.{HasSameName}
use Rattle.ang_engine_modules.specs.States.{build_in}
use Rattle.ang_engine_modules.proofs.PlaceLists.{any_default, set_at}
use Rattle.ang_engine_modules.proofs.Keeping.{placed_modules}
use Rattle.ang_engine.specs.Sound.{IsBuiltBy}
use Rattle.ang_engine.proofs.Starting.{globals_kept, set_again}
use Rattle.ang_engine.proofs.Rebuilding.{apart_still, none-there, globals-there, empty-there, ready-there, counted-there, within-there, free-there, refused-leads, refused-asked, refused-sound, begun-drivers, begun-leads, begun-heard, begun-asked, begun-sound}
use Rattle.ang_engine.proofs.Moved.{set_builds, begun_numbers}
use Rattle.ang_engine.proofs.building.build_module.Goals as goal

pub start-requires-clause-empty : goal.start-requires-clause-empty
start-requires-clause-empty g c =
    empty-there (λ v. (g.dyn-1.0.entry v).1) c.args.registry.now.entries c.args.list.now.places.items c.args.list.now.code c.unload.new.self c.args.list.now.order.items c.args.home
    c.args.budget c.compile_place.new.place c.index_mut.result.now c.args.machine.now.store c.end_globals.new.machine.store c.args.events.now c.end_globals.new.events
    c.requires.modules.each c.requires.within (sym (c.index_mut.ensures.value ∙ any_default c.args.list.now.places.items c.args.home c.index_mut.result.now None c.requires.within)) c.unload.ensures.unloaded
    c.requires.first c.end_globals.ensures.ended c.end_globals.ensures.moves

pub start-requires-clause-free : goal.start-requires-clause-free
start-requires-clause-free g c =
    free-there (λ v. (g.dyn-1.0.entry v).1) c.args.registry.now.entries c.args.list.now.places.items c.args.list.now.code c.unload.new.self c.args.list.now.order.items c.args.home
    c.args.budget c.compile_place.new.place c.index_mut.result.now c.args.machine.now.store c.end_globals.new.machine.store c.args.events.now c.end_globals.new.events
    c.requires.modules.each c.requires.within (sym (c.index_mut.ensures.value ∙ any_default c.args.list.now.places.items c.args.home c.index_mut.result.now None c.requires.within)) c.unload.ensures.unloaded
    c.requires.first c.end_globals.ensures.ended c.end_globals.ensures.moves

pub start-requires-clause-drivers : goal.start-requires-clause-drivers
start-requires-clause-drivers g c =
    begun-drivers (λ v. (g.dyn-1.0.entry v).1) c.args.registry.now.entries c.args.list.now.places.items c.args.list.now.code c.unload.new.self c.args.list.now.order.items c.args.home
    c.args.budget c.compile_place.new.place c.index_mut.result.now c.args.machine.now.store c.end_globals.new.machine.store c.args.events.now c.end_globals.new.events
    c.requires.modules.each c.requires.within (sym (c.index_mut.ensures.value ∙ any_default c.args.list.now.places.items c.args.home c.index_mut.result.now None c.requires.within)) c.unload.ensures.unloaded
    c.requires.first c.end_globals.ensures.ended c.end_globals.ensures.moves
    c.compile_place.ensures.emptied c.in-Ok.loaded c.in-Ok.ensures.built c.requires.drivers

pub start-requires-clause-ready : goal.start-requires-clause-ready
start-requires-clause-ready g c =
    ready-there (λ v. (g.dyn-1.0.entry v).1) c.args.registry.now.entries c.args.list.now.places.items c.args.list.now.code c.unload.new.self c.args.list.now.order.items c.args.home
    c.args.budget c.compile_place.new.place c.index_mut.result.now c.args.machine.now.store c.end_globals.new.machine.store c.args.events.now c.end_globals.new.events
    c.requires.modules.each c.requires.within (sym (c.index_mut.ensures.value ∙ any_default c.args.list.now.places.items c.args.home c.index_mut.result.now None c.requires.within)) c.unload.ensures.unloaded
    c.requires.first c.end_globals.ensures.ended c.end_globals.ensures.moves
    c.requires.ready

pub start-requires-clause-counted : goal.start-requires-clause-counted
start-requires-clause-counted g c =
    counted-there (λ v. (g.dyn-1.0.entry v).1) c.args.registry.now.entries c.args.list.now.places.items c.args.list.now.code c.unload.new.self c.args.list.now.order.items c.args.home
    c.args.budget c.compile_place.new.place c.index_mut.result.now c.args.machine.now.store c.end_globals.new.machine.store c.args.events.now c.end_globals.new.events
    c.requires.modules.each c.requires.within (sym (c.index_mut.ensures.value ∙ any_default c.args.list.now.places.items c.args.home c.index_mut.result.now None c.requires.within)) c.unload.ensures.unloaded
    c.requires.first c.end_globals.ensures.ended c.end_globals.ensures.moves
    c.requires.counted

pub start-requires-clause-none : goal.start-requires-clause-none
start-requires-clause-none g c =
    none-there (λ v. (g.dyn-1.0.entry v).1) c.args.registry.now.entries c.args.list.now.places.items c.args.list.now.code c.unload.new.self c.args.list.now.order.items c.args.home
    c.args.budget c.compile_place.new.place c.index_mut.result.now c.args.machine.now.store c.end_globals.new.machine.store c.args.events.now c.end_globals.new.events
    c.requires.modules.each c.requires.within (sym (c.index_mut.ensures.value ∙ any_default c.args.list.now.places.items c.args.home c.index_mut.result.now None c.requires.within)) c.unload.ensures.unloaded
    c.requires.first c.end_globals.ensures.ended c.end_globals.ensures.moves

pub start-requires-clause-within : goal.start-requires-clause-within
start-requires-clause-within g c =
    within-there (λ v. (g.dyn-1.0.entry v).1) c.args.registry.now.entries c.args.list.now.places.items c.args.list.now.code c.unload.new.self c.args.list.now.order.items c.args.home
    c.args.budget c.compile_place.new.place c.index_mut.result.now c.args.machine.now.store c.end_globals.new.machine.store c.args.events.now c.end_globals.new.events
    c.requires.modules.each c.requires.within (sym (c.index_mut.ensures.value ∙ any_default c.args.list.now.places.items c.args.home c.index_mut.result.now None c.requires.within)) c.unload.ensures.unloaded
    c.requires.first c.end_globals.ensures.ended c.end_globals.ensures.moves

pub returns-in-Ok-clause-done : goal.returns-in-Ok-clause-done
returns-in-Ok-clause-done g c =
    begun-leads (λ v. (g.dyn-1.0.entry v).1) c.args.registry.now.entries c.args.list.now.places.items c.args.list.now.code c.unload.new.self c.args.list.now.order.items c.args.home
    c.args.budget c.compile_place.new.place c.index_mut.result.now c.args.machine.now.store c.end_globals.new.machine.store c.args.events.now c.end_globals.new.events
    c.requires.modules.each c.requires.within (sym (c.index_mut.ensures.value ∙ any_default c.args.list.now.places.items c.args.home c.index_mut.result.now None c.requires.within)) c.unload.ensures.unloaded
    c.requires.first c.end_globals.ensures.ended c.end_globals.ensures.moves
    c.compile_place.ensures.emptied c.in-Ok.loaded c.in-Ok.ensures.built c.in-Ok.ensures.shown c.in-Ok.ensures.unbound c.in-Ok.ensures.compiled
    c.start.result c.start.new.code c.start.new.machine.store c.start.new.events c.start.ensures.built c.start.ensures.unloaded c.start.ensures.started

pub returns-in-Ok-clause-asked : goal.returns-in-Ok-clause-asked
returns-in-Ok-clause-asked g c =
    let named : HasSameName (slice_index_or c.args.list.now.places.items c.args.home None) c.compile_place.new.place = subst (λ q. HasSameName q c.compile_place.new.place) (sym (sym (c.index_mut.ensures.value ∙ any_default c.args.list.now.places.items c.args.home c.index_mut.result.now None c.requires.within))) c.compile_place.ensures.name in
    begun-asked (λ v. (g.dyn-1.0.entry v).1) c.args.registry.now.entries c.args.list.now.places.items c.args.list.now.code c.unload.new.self c.args.list.now.order.items c.args.home
    c.args.budget c.compile_place.new.place c.index_mut.result.now c.args.machine.now.store c.end_globals.new.machine.store c.args.events.now c.end_globals.new.events
    c.requires.modules.each c.requires.within (sym (c.index_mut.ensures.value ∙ any_default c.args.list.now.places.items c.args.home c.index_mut.result.now None c.requires.within)) c.unload.ensures.unloaded
    c.requires.first c.end_globals.ensures.ended c.end_globals.ensures.moves
    c.compile_place.ensures.emptied c.in-Ok.loaded c.in-Ok.ensures.built
    c.start.result c.start.new.code c.start.new.machine.store c.start.new.events (apart_still c.args.list.now.places.items c.args.home c.compile_place.new.place named c.requires.modules.apart) c.start.ensures.started c.start.ensures.asked c.requires.ready c.requires.counted

pub returns-in-Ok-clause-sound : goal.returns-in-Ok-clause-sound
returns-in-Ok-clause-sound g c =
    let named : HasSameName (slice_index_or c.args.list.now.places.items c.args.home None) c.compile_place.new.place = subst (λ q. HasSameName q c.compile_place.new.place) (sym (sym (c.index_mut.ensures.value ∙ any_default c.args.list.now.places.items c.args.home c.index_mut.result.now None c.requires.within))) c.compile_place.ensures.name in
    placed_modules (IsBuiltBy c.args.registry.now.entries) c.args.list.now _ c.args.home c.compile_place.new.place named refl refl
    (begun-sound (λ v. (g.dyn-1.0.entry v).1) c.args.registry.now.entries c.args.list.now.places.items c.args.list.now.code c.unload.new.self c.args.list.now.order.items c.args.home
    c.args.budget c.compile_place.new.place c.index_mut.result.now c.args.machine.now.store c.end_globals.new.machine.store c.args.events.now c.end_globals.new.events
    c.requires.modules.each c.requires.within (sym (c.index_mut.ensures.value ∙ any_default c.args.list.now.places.items c.args.home c.index_mut.result.now None c.requires.within)) c.unload.ensures.unloaded
    c.requires.first c.end_globals.ensures.ended c.end_globals.ensures.moves
    c.compile_place.ensures.emptied c.in-Ok.loaded c.in-Ok.ensures.built c.start.result c.start.new.code c.start.ensures.built c.start.ensures.unloaded)
    c.requires.modules

pub returns-in-Ok-clause-globals : goal.returns-in-Ok-clause-globals
returns-in-Ok-clause-globals g c =
    let named : HasSameName (slice_index_or c.args.list.now.places.items c.args.home None) c.compile_place.new.place = subst (λ q. HasSameName q c.compile_place.new.place) (sym (sym (c.index_mut.ensures.value ∙ any_default c.args.list.now.places.items c.args.home c.index_mut.result.now None c.requires.within))) c.compile_place.ensures.name in
    globals_kept c.args.list.now _ (values_in c.args.machine.now.store.globals) (values_in c.start.new.machine.store.globals) c.args.home c.start.ensures.globals.0 c.compile_place.new.place named refl
    (set_again (map length (values_in c.args.machine.now.store.globals)) (map length (values_in c.end_globals.new.machine.store.globals)) (map length (values_in c.start.new.machine.store.globals)) c.args.home 0 c.start.ensures.globals.0
    (globals-there (λ v. (g.dyn-1.0.entry v).1) c.args.registry.now.entries c.args.list.now.places.items c.args.list.now.code c.unload.new.self c.args.list.now.order.items c.args.home
    c.args.budget c.compile_place.new.place c.index_mut.result.now c.args.machine.now.store c.end_globals.new.machine.store c.args.events.now c.end_globals.new.events
    c.requires.modules.each c.requires.within (sym (c.index_mut.ensures.value ∙ any_default c.args.list.now.places.items c.args.home c.index_mut.result.now None c.requires.within)) c.unload.ensures.unloaded
    c.requires.first c.end_globals.ensures.ended c.end_globals.ensures.moves)
    c.start.ensures.globals.1)
    c.requires.globals

pub returns-in-Err-clause-done : goal.returns-in-Err-clause-done
returns-in-Err-clause-done g c =
    refused-leads (λ v. (g.dyn-1.0.entry v).1) c.args.registry.now.entries c.args.list.now.places.items c.args.list.now.code c.unload.new.self c.args.list.now.order.items c.args.home
    c.args.budget c.compile_place.new.place c.index_mut.result.now c.args.machine.now.store c.end_globals.new.machine.store c.args.events.now c.end_globals.new.events
    c.requires.modules.each c.requires.within (sym (c.index_mut.ensures.value ∙ any_default c.args.list.now.places.items c.args.home c.index_mut.result.now None c.requires.within)) c.unload.ensures.unloaded
    c.requires.first c.end_globals.ensures.ended c.end_globals.ensures.moves
    c.compile_place.ensures.emptied (Unit {0}) c.in-Err.why c.refused_by.result c.refused_by.ensures.exact c.in-Err.ensures.compiled c.in-Err.ensures.denials

pub returns-in-Err-clause-asked : goal.returns-in-Err-clause-asked
returns-in-Err-clause-asked g c =
    refused-asked (λ v. (g.dyn-1.0.entry v).1) c.args.registry.now.entries c.args.list.now.places.items c.args.list.now.code c.unload.new.self c.args.list.now.order.items c.args.home
    c.args.budget c.compile_place.new.place c.index_mut.result.now c.args.machine.now.store c.end_globals.new.machine.store c.args.events.now c.end_globals.new.events
    c.requires.modules.each c.requires.within (sym (c.index_mut.ensures.value ∙ any_default c.args.list.now.places.items c.args.home c.index_mut.result.now None c.requires.within)) c.unload.ensures.unloaded
    c.requires.first c.end_globals.ensures.ended c.end_globals.ensures.moves
    c.compile_place.ensures.emptied (Unit {0}) c.in-Err.why c.refused_by.result c.refused_by.ensures.exact _ c.requires.ready c.requires.counted

pub returns-in-Err-clause-sound : goal.returns-in-Err-clause-sound
returns-in-Err-clause-sound g c =
    let named : HasSameName (slice_index_or c.args.list.now.places.items c.args.home None) c.compile_place.new.place = subst (λ q. HasSameName q c.compile_place.new.place) (sym (sym (c.index_mut.ensures.value ∙ any_default c.args.list.now.places.items c.args.home c.index_mut.result.now None c.requires.within))) c.compile_place.ensures.name in
    placed_modules (IsBuiltBy c.args.registry.now.entries) c.args.list.now _ c.args.home c.compile_place.new.place named refl refl
    (refused-sound (λ v. (g.dyn-1.0.entry v).1) c.args.registry.now.entries c.args.list.now.places.items c.args.list.now.code c.unload.new.self c.args.list.now.order.items c.args.home
    c.args.budget c.compile_place.new.place c.index_mut.result.now c.args.machine.now.store c.end_globals.new.machine.store c.args.events.now c.end_globals.new.events
    c.requires.modules.each c.requires.within (sym (c.index_mut.ensures.value ∙ any_default c.args.list.now.places.items c.args.home c.index_mut.result.now None c.requires.within)) c.unload.ensures.unloaded
    c.requires.first c.end_globals.ensures.ended c.end_globals.ensures.moves
    c.compile_place.ensures.emptied)
    c.requires.modules

pub returns-in-Err-clause-globals : goal.returns-in-Err-clause-globals
returns-in-Err-clause-globals g c =
    let named : HasSameName (slice_index_or c.args.list.now.places.items c.args.home None) c.compile_place.new.place = subst (λ q. HasSameName q c.compile_place.new.place) (sym (sym (c.index_mut.ensures.value ∙ any_default c.args.list.now.places.items c.args.home c.index_mut.result.now None c.requires.within))) c.compile_place.ensures.name in
    globals_kept c.args.list.now _ (values_in c.args.machine.now.store.globals) (values_in c.end_globals.new.machine.store.globals) c.args.home 0 c.compile_place.new.place named refl
    (globals-there (λ v. (g.dyn-1.0.entry v).1) c.args.registry.now.entries c.args.list.now.places.items c.args.list.now.code c.unload.new.self c.args.list.now.order.items c.args.home
    c.args.budget c.compile_place.new.place c.index_mut.result.now c.args.machine.now.store c.end_globals.new.machine.store c.args.events.now c.end_globals.new.events
    c.requires.modules.each c.requires.within (sym (c.index_mut.ensures.value ∙ any_default c.args.list.now.places.items c.args.home c.index_mut.result.now None c.requires.within)) c.unload.ensures.unloaded
    c.requires.first c.end_globals.ensures.ended c.end_globals.ensures.moves)
    c.requires.globals

pub returns-in-Ok-clause-heard : goal.returns-in-Ok-clause-heard
returns-in-Ok-clause-heard g c =
    begun-heard (λ v. (g.dyn-1.0.entry v).1) c.args.registry.now.entries c.args.list.now.places.items c.args.list.now.code c.unload.new.self c.args.list.now.order.items c.args.home
    c.args.budget c.compile_place.new.place c.index_mut.result.now c.args.machine.now.store c.end_globals.new.machine.store c.args.events.now c.end_globals.new.events
    c.requires.modules.each c.requires.within (sym (c.index_mut.ensures.value ∙ any_default c.args.list.now.places.items c.args.home c.index_mut.result.now None c.requires.within)) c.unload.ensures.unloaded
    c.requires.first c.end_globals.ensures.ended c.end_globals.ensures.moves
    c.compile_place.ensures.emptied c.in-Ok.loaded c.in-Ok.ensures.built
    c.start.new.machine.store c.start.new.events c.start.ensures.asked

pub returns-in-Err-clause-heard : goal.returns-in-Err-clause-heard
returns-in-Err-clause-heard g c = (c.end_globals.ensures.moves []).heard

pub returns-in-Ok-clause-build : goal.returns-in-Ok-clause-build
returns-in-Ok-clause-build g c =
    ap build_in (set_at c.args.list.now.places.items c.args.home c.compile_place.new.place None c.requires.within) ∙ c.compile_place.ensures.build

pub returns-in-Err-clause-build : goal.returns-in-Err-clause-build
returns-in-Err-clause-build g c =
    ap build_in (set_at c.args.list.now.places.items c.args.home c.compile_place.new.place None c.requires.within) ∙ c.compile_place.ensures.build

pub returns-in-Ok-clause-others : goal.returns-in-Ok-clause-others
returns-in-Ok-clause-others g c = set_builds c.args.list.now.places.items c.args.home c.compile_place.new.place

pub returns-in-Ok-clause-numbered : goal.returns-in-Ok-clause-numbered
returns-in-Ok-clause-numbered g c = λ h.
    begun_numbers c.args.list.now _ c.args.home (set_builds c.args.list.now.places.items c.args.home c.compile_place.new.place) refl
    (ap build_in (set_at c.args.list.now.places.items c.args.home c.compile_place.new.place None c.requires.within) ∙ c.compile_place.ensures.build) h

pub returns-in-Err-clause-others : goal.returns-in-Err-clause-others
returns-in-Err-clause-others g c = set_builds c.args.list.now.places.items c.args.home c.compile_place.new.place

pub returns-in-Err-clause-numbered : goal.returns-in-Err-clause-numbered
returns-in-Err-clause-numbered g c = λ h.
    begun_numbers c.args.list.now _ c.args.home (set_builds c.args.list.now.places.items c.args.home c.compile_place.new.place) refl
    (ap build_in (set_at c.args.list.now.places.items c.args.home c.compile_place.new.place None c.requires.within) ∙ c.compile_place.ensures.build) h
