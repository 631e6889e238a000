use Rattle.std.proofs.Common.{inl, inr, rules, tests, ◌≡◌, true, Option, sym, ap, ◌∙◌}
use Rattle.std.proofs.lemmas.Iterator.{YieldsList-from_slice}
use Rattle.std.proofs.lemmas.Iterator.Search.{any_from_yields_List}
use Rattle.ang_view.specs.declared.entry.Entry.{Entry}
use Rattle.ang_view.specs.Named.{find, has_name}
use Rattle.ang_view.specs.Outside.{spelled_here}
use Rattle.ang_view.specs.Registration.{entry_at}
use Rattle.ang_view.specs.SeenTypes.{is_spelled_type}
use Rattle.ang_view.proofs.Outside.{found_in, plain_in, void_in}
use Rattle.ang_view.proofs.SeenTypes.{enumeration_has_its_name, has_its_name}
use Rattle.ang_view.proofs.group.spelled_is_in.Goals as goal

pub returns-in-Enumeration : goal.returns-in-Enumeration
returns-in-Enumeration c =
    let R = c.args.list.now in
    let g = c.args.group.now in
    let ty = c.args.ty.now in
    let name = c.in-Enumeration.name in
    let numbers = c.find.result.now in
    let wide : (o : Option Entry) → is_spelled_type ty o ≡ true → has_name name o ≡ true =
    λ o e.
    elim c.in-Enumeration.is [
      | inl is ↦ enumeration_has_its_name name o (ap (λ t. is_spelled_type t o) (sym is) ∙ e)
      | inr is ↦ has_its_name name is.0 is.1 is.2 o (ap (λ t. is_spelled_type t o) (sym is.3) ∙ e)
    ] in
    record {
      exact =
          any_from_yields_List (λ e. spelled_here g ty e.0 (entry_at R e.0)) _ _ _ c.any.ensures.ran (YieldsList-from_slice numbers cc) (λ x b q k. search (rules, tests))
          ∙ found_in R g ty name numbers (c.find.ensures.exact ∙ ap (find R) c.as_slice.ensures.same) wide;
    }

pub returns-in-Void : goal.returns-in-Void
returns-in-Void c =
    record {
      exact =
          elim c.in-Void.is [
            | inl e ↦ void_in c.args.list.now c.args.group.now c.args.ty.now e
            | inr e ↦ plain_in c.args.list.now c.args.group.now c.args.ty.now e.0 e.1
          ];
    }

pub returns-in-Void-2 : goal.returns-in-Void-2
returns-in-Void-2 c =
    record {
      exact =
          elim c.in-Void.is [
            | inl e ↦ void_in c.args.list.now c.args.group.now c.args.ty.now e
            | inr e ↦ plain_in c.args.list.now c.args.group.now c.args.ty.now e.0 e.1
          ];
    }
