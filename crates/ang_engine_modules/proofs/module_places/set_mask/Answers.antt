use Rattle.std.proofs.Common.{rules, ◌<◌, ◌∙◌, refl, sym, length, Some, None}
use Rattle.ang_engine_modules.proofs.PlaceLists.{any_default}
use Rattle.ang_engine_modules.proofs.Finding.{found_same, masked}
use Rattle.ang_engine_modules.proofs.Keeping.{nothing_kept, one_kept}
use Rattle.ang_engine_modules.proofs.Numbering.{same_builds, one_builds}
use Rattle.ang_engine_modules.proofs.module_places.set_mask.Goals as goal

pub returns-in_default-clause-kept : goal.returns-in_default-clause-kept
returns-in_default-clause-kept c = nothing_kept c.args.list.now _ refl refl refl

pub returns-clause-done : goal.returns-clause-done
returns-clause-done c = λ r rest.
    let x = c.args.list.now in
    let lt : c.in-Some.i < length x.places.items = search rules in
    masked x.places.items x.code x.order.items r c.args.name c.args.mask.0 c.in-Some.i c.index_mut.result.now c.put_mask.new.place rest
    (found_same (Some c.in-Some.i) _ _ x.code _ _ (c.in-Some.ensures.exact x.code) c.deref.ensures.value c.as_slice.ensures.same)
    (c.index_mut.ensures.value ∙ any_default x.places.items c.in-Some.i c.index_mut.result.now None lt) c.put_mask.ensures.masked

pub returns-clause-kept : goal.returns-clause-kept
returns-clause-kept c =
    let x = c.args.list.now in
    let lt : c.in-Some.i < length x.places.items = search rules in
    one_kept x _ c.in-Some.i c.index_mut.result.now c.put_mask.new.place (sym (c.index_mut.ensures.value ∙ any_default x.places.items c.in-Some.i c.index_mut.result.now None lt)) c.put_mask.ensures.kept refl refl
    refl

pub returns-in_default-clause-builds : goal.returns-in_default-clause-builds
returns-in_default-clause-builds c = same_builds c.args.list.now _ refl refl

pub returns-clause-builds : goal.returns-clause-builds
returns-clause-builds c =
    let x = c.args.list.now in
    let lt : c.in-Some.i < length x.places.items = search rules in
    one_builds x _ c.in-Some.i c.index_mut.result.now c.put_mask.new.place (c.index_mut.ensures.value ∙ any_default x.places.items c.in-Some.i c.index_mut.result.now None lt)
    c.put_mask.ensures.build refl refl
