use Rattle.std.proofs.Common.{◌≡◌, ◌||◌, ap, ◌∙◌}
use Rattle.std.specs.List.{list_any}
use Rattle.ang_kinds.specs.declared.types.Param.{Param}
use Rattle.ang_registry.specs.Among.{is_spelled_foreign}
use Rattle.ang_registry.proofs.Among.{foreign_named, or_first, or_second}
use Rattle.ang_registry.proofs.lookup.names_foreign.Goals as goal

pub returns-then-own : goal.returns-then-own
returns-then-own c =
    let V = c.args.list.now in
    let s = c.args.signature.now in
    let d = c.args.driver in
    let others = list_any (λ (p : Param). list_any (is_spelled_foreign d p.ty) V) s.params in
    record {
      exact =
          or_first c.spells_foreign-own.result others c.if-own.true ∙ ap (λ a. a || others) c.spells_foreign-own.ensures.exact
          ∙ foreign_named V s d;
    }

pub returns-else-own : goal.returns-else-own
returns-else-own c =
    let V = c.args.list.now in
    let s = c.args.signature.now in
    let d = c.args.driver in
    let others = list_any (λ (p : Param). list_any (is_spelled_foreign d p.ty) V) s.params in
    let is : c.any_foreign-others.result ≡ others =
    c.any_foreign-others.ensures.exact ∙ ap (list_any (λ (p : Param). list_any (is_spelled_foreign d p.ty) V)) c.as_slice.ensures.same in
    record {
      exact =
          is ∙ or_second c.spells_foreign-own.result others c.if-own.false ∙ ap (λ a. a || others) c.spells_foreign-own.ensures.exact
          ∙ foreign_named V s d;
    }
