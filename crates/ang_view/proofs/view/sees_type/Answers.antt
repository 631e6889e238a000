use Rattle.std.proofs.Common.{inl, inr, rules, tests, ◌≡◌, true, Option, sym, ap, ◌∙◌}
use Rattle.std.proofs.lemmas.Iterator.{YieldsList-from_slice}
use Rattle.std.proofs.lemmas.Iterator.Search.{all_from_yields_List}
use Rattle.ang_view.specs.declared.entry.Entry.{Entry}
use Rattle.ang_view.specs.Named.{find, has_name}
use Rattle.ang_view.specs.Registration.{entry_at}
use Rattle.ang_view.specs.SeenTypes.{is_spelled_type, meets_if_spelled}
use Rattle.ang_view.proofs.SeenTypes.{enumeration_has_its_name, found_met, has_its_name, plain_met, void_met}
use Rattle.ang_view.proofs.view.sees_type.Goals as goal

pub returns-in-Enumeration : goal.returns-in-Enumeration
returns-in-Enumeration c =
    let list = c.args.list.now in
    let mask = c.args.mask.0 in
    let ty = c.args.ty.now in
    let name = c.in-Enumeration.name in
    let numbers = c.find.result.now in
    let wide : (o : Option Entry) → is_spelled_type ty o ≡ true → has_name name o ≡ true =
    λ o e.
    elim c.in-Enumeration.is [
      | inl is ↦ enumeration_has_its_name name o (ap (λ t. is_spelled_type t o) (sym is) ∙ e)
      | inr is ↦ has_its_name name is.0 is.1 is.2 o (ap (λ t. is_spelled_type t o) (sym is.3) ∙ e)
    ] in
    record {
      exact =
          all_from_yields_List (λ e. meets_if_spelled mask ty (entry_at list e.0)) _ _ _ c.all.ensures.ran (YieldsList-from_slice numbers cc) (λ x b q k. search (rules, tests))
          ∙ found_met list mask ty name numbers (c.find.ensures.exact ∙ ap (find list) c.as_slice.ensures.same) wide;
    }

pub returns-in-Void : goal.returns-in-Void
returns-in-Void c =
    record {
      exact =
          elim c.in-Void.is [
            | inl e ↦ void_met c.args.list.now c.args.mask.0 c.args.ty.now e
            | inr e ↦ plain_met c.args.list.now c.args.mask.0 c.args.ty.now e.0 e.1
          ];
    }

pub returns-in-Void-2 : goal.returns-in-Void-2
returns-in-Void-2 c =
    record {
      exact =
          elim c.in-Void.is [
            | inl e ↦ void_met c.args.list.now c.args.mask.0 c.args.ty.now e
            | inr e ↦ plain_met c.args.list.now c.args.mask.0 c.args.ty.now e.0 e.1
          ];
    }
