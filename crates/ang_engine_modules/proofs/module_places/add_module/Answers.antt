use Rattle.std.proofs.Common.{rules, ◌≡◌, ◌∙◌, ap, sym, true, None}
use Rattle.std.specs.Prelude.{position}
use Rattle.ang_lex.specs.Spelling.{is_identifier}
use Rattle.ang_heap.specs.Globals.{values_in}
use Rattle.ang_engine_modules.specs.World.{has_name}
use Rattle.ang_engine_modules.specs.States.{places_of}
use Rattle.ang_engine_modules.specs.Commands.{fresh_module}
use Rattle.ang_engine_modules.proofs.Finding.{named_same, found_same, free_on}
use Rattle.ang_engine_modules.proofs.Adding.{taken_named, put_done}
use Rattle.ang_engine_modules.proofs.module_places.add_module.Goals as goal

pub returns-clause-done : goal.returns-clause-done
returns-clause-done c = λ r.
    let x = c.args.list.now in
    let named : is_identifier c.args.name ≡ true = search rules in
    let not_found : c.find.result ≡ None = search rules in
    let free : None ≡ position (has_name c.args.name) (places_of x.places.items x.code) =
    sym not_found ∙ found_same c.find.result _ _ x.code _ _ (c.find.ensures.exact x.code) c.deref.ensures.value c.as_slice-2.ensures.same in
    put_done x c.put_module.new.list (values_in c.args.globals.now) (values_in c.put_module.new.globals) _ c.args.name c.args.mask.0 r
    (ap (λ l. record (fresh_module c.args.name c.args.mask.0) { sections = l }) c.new.ensures.items) named free c.put_module.result c.requires.zipped c.requires.empty c.put_module.ensures.taken
    c.put_module.ensures.limit c.put_module.ensures.places_unchanged c.put_module.ensures.code_unchanged c.put_module.ensures.order_unchanged c.put_module.ensures.globals_unchanged

pub returns-clause-taken : goal.returns-clause-taken
returns-clause-taken c =
    taken_named c.args.list.now c.put_module.new.list (values_in c.args.globals.now) (values_in c.put_module.new.globals) _ c.put_module.result c.put_module.ensures.taken

pub returns-clause-free : goal.returns-clause-free
returns-clause-free c =
    let x = c.args.list.now in
    let not_found : c.find.result ≡ None = search rules in
    let free : None ≡ position (has_name c.args.name) (places_of x.places.items x.code) =
    sym not_found ∙ found_same c.find.result _ _ x.code _ _ (c.find.ensures.exact x.code) c.deref.ensures.value c.as_slice-2.ensures.same in
    free_on c.put_module.result c.args.name x.places.items (named_same c.args.name x.places.items x.code ∙ sym free)
