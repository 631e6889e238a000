use Rattle.std.proofs.Common.{◌≡◌, ◌∙◌, refl, ap, sym, subst, Some, None}
use Rattle.std.specs.Prelude.{IsSome, slice_index_or}
use Rattle.std.proofs.lemmas.Result.{err_from_is_err_and}
use Rattle.ang_source.specs.Meaning.{routine}
use Rattle.ang_engine_modules.specs.Loaded.{loaded_at}
use Rattle.ang_engine_modules.specs.declared.reply.Outcome.TheVariants.{Done}
use Rattle.ang_engine_modules.specs.World.{World, module_named, left_to}
use Rattle.ang_engine_modules.specs.States.{states_in}
use Rattle.ang_engine_modules.specs.Commands.{answered}
use Rattle.ang_engine_modules.proofs.Finding.{found_same}
use Rattle.ang_engine_modules.proofs.Worlds.{zip_length}
use Rattle.ang_engine.specs.Sound.{IsSoundPlace}
use Rattle.ang_engine.proofs.Kept.{linked_sound}
use Rattle.ang_engine.proofs.Bound.{binding-refused, binding-done, bound_fits, few_exported, world_by}
use Rattle.ang_engine.proofs.binding.bind.Goals as goal

pub choose_link-requires : goal.choose_link-requires
choose_link-requires c =
    let x = c.args.list.now in
    record { few = few_exported c.requires.modules.0 x.places.items x.code c.in-Some-find.exporter (loaded_at x.code c.in-Some-find.exporter) c.requires.modules.1.each refl }

pub returns-in_err-number-clause-done : goal.returns-in_err-number-clause-done
returns-in_err-number-clause-done c = λ r.
    let x = c.args.list.now in
    let w : World = left_to (states_in x) r in
    let found : Some c.in-Some.home ≡ module_named c.args.name.now w = found_same (Some c.in-Some.home) _ _ x.code _ _ (c.in-Some.ensures.exact x.code) c.deref.ensures.value refl in
    let other : Some c.in-Some-find.exporter ≡ module_named c.args.exporter.now w =
    found_same (Some c.in-Some-find.exporter) _ _ x.code _ _ (c.in-Some-find.ensures.exact x.code) c.deref-2.ensures.value refl in
    let here : IsSome (slice_index_or x.places.items c.in-Some.home None) = subst (λ l. IsSome (slice_index_or l c.in-Some.home None)) c.deref.ensures.value c.in-Some.ensures.there in
    let there : IsSome (slice_index_or x.places.items c.in-Some-find.exporter None) =
    subst (λ l. IsSome (slice_index_or l c.in-Some-find.exporter None)) c.deref-2.ensures.value c.in-Some-find.ensures.there in
    let e = err_from_is_err_and c.from_residual.result c.from_residual.ensures.1 in
    rw (e.1, e.2) (binding-refused x.places.items x.code x.order.items r c.args.name.now c.args.exporter.now c.args.decl.now c.args.index c.in-Some.home found c.in-Some-find.exporter other here there (Unit {0})
    c.in_err-number.field-0.0
    (record { importer = c.in_err-number.ensures.importer; exporter = c.in_err-number.ensures.exporter; chosen = c.in_err-number.ensures.linked }))

pub bind-requires-clause-fits : goal.bind-requires-clause-fits
bind-requires-clause-fits c =
    let x = c.args.list.now in
    bound_fits c.requires.modules.0 x.places.items x.code c.in-Some.home c.args.index c.in-Some-find.exporter c.in_ok-number.number c.args.decl.now c.requires.modules.1.each
    (record { importer = c.in_ok-number.ensures.importer; exporter = c.in_ok-number.ensures.exporter; chosen = c.in_ok-number.ensures.linked })

pub returns-clause-done : goal.returns-clause-done
returns-clause-done c = λ r rest.
    let x = c.args.list.now in
    let w : World = left_to (states_in x) r in
    let found : Some c.in-Some.home ≡ module_named c.args.name.now w = found_same (Some c.in-Some.home) _ _ x.code _ _ (c.in-Some.ensures.exact x.code) c.deref.ensures.value refl in
    let other : Some c.in-Some-find.exporter ≡ module_named c.args.exporter.now w =
    found_same (Some c.in-Some-find.exporter) _ _ x.code _ _ (c.in-Some-find.ensures.exact x.code) c.deref-2.ensures.value refl in
    let here : IsSome (slice_index_or x.places.items c.in-Some.home None) = subst (λ l. IsSome (slice_index_or l c.in-Some.home None)) c.deref.ensures.value c.in-Some.ensures.there in
    let there : IsSome (slice_index_or x.places.items c.in-Some-find.exporter None) =
    subst (λ l. IsSome (slice_index_or l c.in-Some-find.exporter None)) c.deref-2.ensures.value c.in-Some-find.ensures.there in
    binding-done x.places.items x.code x.order.items r c.args.name.now c.args.exporter.now c.args.decl.now c.args.index c.in-Some.home found c.in-Some-find.exporter other here there
    c.in_ok-number.number
    (record { importer = c.in_ok-number.ensures.importer; exporter = c.in_ok-number.ensures.exporter; chosen = c.in_ok-number.ensures.linked }) rest
    (zip_length (IsSoundPlace c.requires.modules.0) x.places.items x.code c.requires.modules.1.each)
    ∙ ap (λ q. answered (Done None) (world_by x.places.items x.code x.order.items r q) rest) (sym c.bind.ensures.bound)

pub returns-clause-sound : goal.returns-clause-sound
returns-clause-sound c = λ R h.
    linked_sound R c.args.list.now _ c.in-Some.home c.args.index (Some (routine c.in-Some-find.exporter c.in_ok-number.number)) refl refl c.bind.ensures.bound h
