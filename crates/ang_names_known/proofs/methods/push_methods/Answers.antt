use Rattle.std.proofs.Common.{◌≤◌, ◌++◌, List, length, arith, refl, ap, ◌∙◌}
use Rattle.std.specs.Prelude.{option_map, slice_get, slice_index_or}
use Rattle.std.proofs.lemmas.List.{take_all}
use Rattle.ang_names_known.specs.declared.names.Family.{Family}
use Rattle.ang_names_known.specs.declared.names.ScriptMethod.{ScriptMethod}
use Rattle.ang_names_known.specs.MethodPlaces.{found_in}
use Rattle.ang_names_known.specs.Nearest.{at_places, methods_declared, of_owner}
use Rattle.ang_names_known.proofs.NearestMethods.{nearest, place_more}
use Rattle.ang_names_known.proofs.methods.push_methods.Goals as goal

pub loop-place-preserved : goal.loop-place-preserved
loop-place-preserved c =
    let fs : List Family = c.args.families.now in
    let methods : List ScriptMethod = methods_declared (slice_get fs c.args.owner) in (
      c.in_ok-push_method.ensures.there,
      λ before h.
          place_more before c.args.owner methods c.args.places.now c.loop-place.place-index
          (option_map (of_owner c.args.owner) (slice_get methods (slice_index_or c.args.places.now c.loop-place.place-index 0)))
          (found_in fs c.loop-place.found.items) (found_in fs c.push_method.new.found.items)
          c.loop-place-test.true refl (c.loop-place.invariant.1 before h) c.in_ok-push_method.ensures.pushed,
      c.in_ok-push_method.ensures.slots,
    )

pub returns : goal.returns
returns c =
    let over : length c.args.places.now ≤ c.loop-place.place-index = omega arith in
    record {
      pushed = λ before h.
          c.loop-place.invariant.1 before h
          ∙ ap (λ ps. nearest (before ++ at_places c.args.owner (methods_declared (slice_get c.args.families.now c.args.owner)) ps)) (take_all c.loop-place.place-index c.args.places.now over);
      there = c.loop-place.invariant.0;
      slots = c.loop-place.invariant.2;
    }
