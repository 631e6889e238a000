use Rattle.std.proofs.Common.{◌∙◌, ◌++◌, ◌∷◌, [], refl, ap}
use Rattle.ang_heap.specs.Globals.{values_in}
use Rattle.ang_engine_modules.proofs.Adding.{ready_as}
use Rattle.ang_engine_modules.proofs.Numbering.{same_builds, taken_builds}
use Rattle.ang_engine_modules.proofs.module_places.put_module.Goals as goal

pub returns-in-Ok-clause-taken : goal.returns-in-Ok-clause-taken
returns-in-Ok-clause-taken c = record {
  readied = c.ready_place.new.list;
  place = c.in-Ok.place;
  ready = ready_as _ c.args.list.now c.ready_place.new.list (values_in c.args.globals.now) (values_in c.ready_place.new.globals) c.in-Ok.place refl refl c.in-Ok.ensures.ready;
  places = refl;
  code = refl;
  order =
      c.push_reserved.ensures.items ∙ ap (λ o. o.items ++ c.in-Ok.place ∷ []) c.in-Ok.ensures.order ∙ ap (λ l. l ++ c.in-Ok.place ∷ []) c.reserve.ensures.items;
}

pub returns-in-Ok-clause-builds : goal.returns-in-Ok-clause-builds
returns-in-Ok-clause-builds c =
    taken_builds c.args.list.now _ (values_in c.args.globals.now) (values_in c.ready_place.new.globals) c.args.new_one
    (record {
      readied = c.ready_place.new.list;
      place = c.in-Ok.place;
      ready = ready_as _ c.args.list.now c.ready_place.new.list (values_in c.args.globals.now) (values_in c.ready_place.new.globals) c.in-Ok.place refl refl c.in-Ok.ensures.ready;
      places = refl;
      code = refl;
      order =
          c.push_reserved.ensures.items ∙ ap (λ o. o.items ++ c.in-Ok.place ∷ []) c.in-Ok.ensures.order ∙ ap (λ l. l ++ c.in-Ok.place ∷ []) c.reserve.ensures.items;
    })
    c.requires.unbuilt c.ready_place.ensures.builds

pub returns-in-Err-clause-builds : goal.returns-in-Err-clause-builds
returns-in-Err-clause-builds c = same_builds c.args.list.now _ c.in-Err.ensures.places_unchanged c.ready_place.ensures.builds
