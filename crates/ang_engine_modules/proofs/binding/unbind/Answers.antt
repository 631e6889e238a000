use Rattle.std.proofs.Common.{rules, ◌≡◌, refl, Some, None}
use Rattle.ang_engine_modules.specs.Loaded.{loaded_at}
use Rattle.ang_engine_modules.proofs.Finding.{found_same}
use Rattle.ang_engine_modules.proofs.Unbinding.{none_there, one_there, unbuilt_refused, no_import_refused, unbound_done}
use Rattle.ang_engine_modules.proofs.binding.unbind.Goals as goal

pub returns-in_default-loaded-clause-done : goal.returns-in_default-loaded-clause-done
returns-in_default-loaded-clause-done c = λ r.
    let x = c.args.list.now in
    let none : loaded_at x.code c.in-Some.home ≡ None = search rules in (
      λ rest.
          unbuilt_refused x.places.items x.code x.order.items r c.args.name.now c.in-Some.home c.args.index
          (found_same (Some c.in-Some.home) _ _ x.code _ _ (c.in-Some.ensures.exact x.code) c.deref.ensures.value refl) rest none,
      refl,
    )

pub returns-then-is_none-clause-done : goal.returns-then-is_none-clause-done
returns-then-is_none-clause-done c = λ r.
    let x = c.args.list.now in
    let l = c.in-Some-loaded.loaded.now in
    let at : loaded_at x.code c.in-Some.home ≡ Some l = search rules in (
      λ rest.
          no_import_refused x.places.items x.code x.order.items r c.args.name.now c.in-Some.home c.args.index
          (found_same (Some c.in-Some.home) _ _ x.code _ _ (c.in-Some.ensures.exact x.code) c.deref.ensures.value refl) rest l at (search rules)
          (none_there _ c.import_of.result _ c.is_none.result c.is_none.ensures c.if-is_none.true c.import_of.ensures.exact),
      refl,
    )

pub returns-clause-done : goal.returns-clause-done
returns-clause-done c = λ r rest.
    let x = c.args.list.now in
    let l = c.in-Some-loaded.loaded.now in
    let at : loaded_at x.code c.in-Some.home ≡ Some l = search rules in
    let import = one_there _ c.import_of.result _ c.is_none.result c.is_none.ensures c.if-is_none.false c.import_of.ensures.exact in
    unbound_done x.places.items x.code x.order.items r c.args.name.now c.in-Some.home c.args.index
    (found_same (Some c.in-Some.home) _ _ x.code _ _ (c.in-Some.ensures.exact x.code) c.deref.ensures.value refl) rest l at (search rules) import.0 import.1 c.unbind.new.self c.unbind.ensures.unbound
