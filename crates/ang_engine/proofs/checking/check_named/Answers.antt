use Rattle.std.proofs.Common.{◌≡◌, ◌<◌, ◌∙◌, refl, sym, ap, subst, rules, length, None}
use Rattle.ang_engine_modules.specs.States.{build_in}
use Rattle.std.specs.Prelude.{IsSome, slice_index_or}
use Rattle.ang_engine_modules.proofs.Finding.{found_same}
use Rattle.ang_engine_modules.proofs.Keeping.{nothing_kept, one_kept}
use Rattle.ang_engine_modules.proofs.PlaceLists.{any_default}
use Rattle.ang_engine.proofs.Checks.{checked-none, checked-program, checked-refused, alone, others}
use Rattle.ang_engine_modules.proofs.Numbering.{same_builds, one_builds}
use Rattle.ang_engine.proofs.checking.check_named.Goals as goal

pub returns-in_default-clause-done : goal.returns-in_default-clause-done
returns-in_default-clause-done c = λ r.
    let x = c.args.list.now in
    checked-none c.args.registry.now.entries x.places.items x.code x.order.items r c.args.name.now
    (found_same _ _ _ x.code _ _ (c.in_default.ensures.exact x.code) c.deref.ensures.value refl)

pub returns-in_default-clause-kept : goal.returns-in_default-clause-kept
returns-in_default-clause-kept c = nothing_kept c.args.list.now _ refl refl refl

pub returns-in-Ok-clause-done : goal.returns-in-Ok-clause-done
returns-in-Ok-clause-done c = λ r.
    let x = c.args.list.now in
    let i = c.in-Some.home in
    let lt : i < length x.places.items = search rules in
    let d = c.index_mut.result.now in
    let at : d ≡ slice_index_or x.places.items i None = c.index_mut.ensures.value ∙ any_default x.places.items i d None lt in
    let there : IsSome d = subst IsSome (sym at) (subst (λ xs. IsSome (slice_index_or xs i None)) c.deref.ensures.value c.in-Some.ensures.there) in
    let l = slice_index_or x.code i None in
    let q = c.in-Ok.ensures.judged l in
    checked-program c.args.registry.now.entries x.places.items x.code x.order.items r c.args.name.now i d c.judge_place.new.place
    (found_same _ _ _ x.code _ _ (c.in-Some.ensures.exact x.code) c.deref.ensures.value refl) lt at there q.0 (c.in-Ok.ensures.after l) q.1

pub returns-in-Ok-clause-alone : goal.returns-in-Ok-clause-alone
returns-in-Ok-clause-alone c = λ r.
    let x = c.args.list.now in
    let i = c.in-Some.home in
    let lt : i < length x.places.items = search rules in
    let d = c.index_mut.result.now in
    let at : d ≡ slice_index_or x.places.items i None = c.index_mut.ensures.value ∙ any_default x.places.items i d None lt in
    let there : IsSome d = subst IsSome (sym at) (subst (λ xs. IsSome (slice_index_or xs i None)) c.deref.ensures.value c.in-Some.ensures.there) in
    let l = slice_index_or x.code i None in
    alone c.args.registry.now.entries x.places.items x.code x.order.items r c.args.name.now i d c.judge_place.new.place
    (found_same _ _ _ x.code _ _ (c.in-Some.ensures.exact x.code) c.deref.ensures.value refl) lt at there c.judge_place.result (c.judge_place.ensures.after l)

pub returns-in-Ok-clause-others : goal.returns-in-Ok-clause-others
returns-in-Ok-clause-others c = λ r.
    let x = c.args.list.now in
    let i = c.in-Some.home in
    let lt : i < length x.places.items = search rules in
    let d = c.index_mut.result.now in
    let at : d ≡ slice_index_or x.places.items i None = c.index_mut.ensures.value ∙ any_default x.places.items i d None lt in
    let there : IsSome d = subst IsSome (sym at) (subst (λ xs. IsSome (slice_index_or xs i None)) c.deref.ensures.value c.in-Some.ensures.there) in
    others c.args.registry.now.entries x.places.items x.code x.order.items r c.args.name.now i d c.judge_place.new.place
    (found_same _ _ _ x.code _ _ (c.in-Some.ensures.exact x.code) c.deref.ensures.value refl) lt at there

pub returns-in-Ok-clause-kept : goal.returns-in-Ok-clause-kept
returns-in-Ok-clause-kept c =
    let x = c.args.list.now in
    let i = c.in-Some.home in
    let lt : i < length x.places.items = search rules in
    one_kept x _ i c.index_mut.result.now c.judge_place.new.place (sym (c.index_mut.ensures.value ∙ any_default x.places.items i c.index_mut.result.now None lt)) c.judge_place.ensures.kept refl refl refl

pub returns-in-Ok-clause-builds : goal.returns-in-Ok-clause-builds
returns-in-Ok-clause-builds c =
    let x = c.args.list.now in
    let i = c.in-Some.home in
    let lt : i < length x.places.items = search rules in
    one_builds x _ i c.index_mut.result.now c.judge_place.new.place (c.index_mut.ensures.value ∙ any_default x.places.items i c.index_mut.result.now None lt) c.judge_place.ensures.build refl refl

pub returns-in-Err-clause-done : goal.returns-in-Err-clause-done
returns-in-Err-clause-done c = λ r.
    let x = c.args.list.now in
    let i = c.in-Some.home in
    let lt : i < length x.places.items = search rules in
    let d = c.index_mut.result.now in
    let at : d ≡ slice_index_or x.places.items i None = c.index_mut.ensures.value ∙ any_default x.places.items i d None lt in
    let there : IsSome d = subst IsSome (sym at) (subst (λ xs. IsSome (slice_index_or xs i None)) c.deref.ensures.value c.in-Some.ensures.there) in
    checked-refused c.args.registry.now.entries x.places.items x.code x.order.items r c.args.name.now i d c.judge_place.new.place
    (found_same _ _ _ x.code _ _ (c.in-Some.ensures.exact x.code) c.deref.ensures.value refl) lt at there (Unit {0}) c.in-Err.why c.refused_by.result c.refused_by.ensures.exact
    c.in-Err.ensures.after c.in-Err.ensures.judged c.in-Err.ensures.denials

pub returns-in-Err-clause-alone : goal.returns-in-Err-clause-alone
returns-in-Err-clause-alone c = λ r.
    let x = c.args.list.now in
    let i = c.in-Some.home in
    let lt : i < length x.places.items = search rules in
    let d = c.index_mut.result.now in
    let at : d ≡ slice_index_or x.places.items i None = c.index_mut.ensures.value ∙ any_default x.places.items i d None lt in
    let there : IsSome d = subst IsSome (sym at) (subst (λ xs. IsSome (slice_index_or xs i None)) c.deref.ensures.value c.in-Some.ensures.there) in
    let l = slice_index_or x.code i None in
    alone c.args.registry.now.entries x.places.items x.code x.order.items r c.args.name.now i d c.judge_place.new.place
    (found_same _ _ _ x.code _ _ (c.in-Some.ensures.exact x.code) c.deref.ensures.value refl) lt at there c.judge_place.result (c.judge_place.ensures.after l)

pub returns-in-Err-clause-others : goal.returns-in-Err-clause-others
returns-in-Err-clause-others c = λ r.
    let x = c.args.list.now in
    let i = c.in-Some.home in
    let lt : i < length x.places.items = search rules in
    let d = c.index_mut.result.now in
    let at : d ≡ slice_index_or x.places.items i None = c.index_mut.ensures.value ∙ any_default x.places.items i d None lt in
    let there : IsSome d = subst IsSome (sym at) (subst (λ xs. IsSome (slice_index_or xs i None)) c.deref.ensures.value c.in-Some.ensures.there) in
    others c.args.registry.now.entries x.places.items x.code x.order.items r c.args.name.now i d c.judge_place.new.place
    (found_same _ _ _ x.code _ _ (c.in-Some.ensures.exact x.code) c.deref.ensures.value refl) lt at there

pub returns-in-Err-clause-kept : goal.returns-in-Err-clause-kept
returns-in-Err-clause-kept c =
    let x = c.args.list.now in
    let i = c.in-Some.home in
    let lt : i < length x.places.items = search rules in
    one_kept x _ i c.index_mut.result.now c.judge_place.new.place (sym (c.index_mut.ensures.value ∙ any_default x.places.items i c.index_mut.result.now None lt)) c.judge_place.ensures.kept refl refl refl

pub returns-in-Err-clause-builds : goal.returns-in-Err-clause-builds
returns-in-Err-clause-builds c =
    let x = c.args.list.now in
    let i = c.in-Some.home in
    let lt : i < length x.places.items = search rules in
    one_builds x _ i c.index_mut.result.now c.judge_place.new.place (c.index_mut.ensures.value ∙ any_default x.places.items i c.index_mut.result.now None lt) c.judge_place.ensures.build refl refl

pub returns-in_default-clause-builds : goal.returns-in_default-clause-builds
returns-in_default-clause-builds c = same_builds c.args.list.now _ refl refl
