use Rattle.std.proofs.Common.{rules, ◌≡◌, length, option_map, slice_index_or}
use Rattle.ang_engine_modules.specs.Loaded.{without_links}
use Rattle.ang_engine_modules.proofs.Lists.{next_first, left_mapped}
use Rattle.ang_engine_modules.proofs.links.unbind_places.Goals as goal

pub loop-place-preserved : goal.loop-place-preserved
loop-place-preserved c =
    let stood = slice_index_or c.loop-place.place-items c.loop-place.place-index c.place-item.result in
    let place : c.unbind_loaded.new.place ≡ option_map (without_links c.args.home) stood = search rules in
    next_first (option_map (without_links c.args.home)) c.loop-place.place-index c.deref_mut-place-items.result.now c.loop-place.place-items c.place-item.result _ c.loop-place.invariant
    c.loop-place-test.true place

pub returns : goal.returns
returns c =
    let old = c.args.places.now in
    let same : c.deref_mut-place-items.result.now ≡ old.items = search rules in
    let count : old.len ≡ length old.items = search rules in
    record {
      unbound = left_mapped (option_map (without_links c.args.home)) c.loop-place.place-index old.len c.loop-place.place-items c.deref_mut-place-items.result.now old.items c.loop-place.invariant same
          c.loop-place-test.false count;
    }
