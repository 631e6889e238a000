use Rattle.std.specs.Prelude.{[], ◌++◌, filter, OnOk}
use Rattle.std.proofs.Common.{inl, inr, ◌≡◌, true, Option, subst, sym, ap, ◌∙◌, append-nil}
use Rattle.ang_view.specs.declared.entry.Entry.{Entry}
use Rattle.ang_view.specs.Named.{find, has_name}
use Rattle.ang_view.specs.SeenTypes.{is_spelled_type}
use Rattle.ang_view.proofs.SeenTypes.{enumeration_has_its_name, has_its_name}
use Rattle.ang_check_added.specs.Brought.{is_unmet_type, unmet_spelled}
use Rattle.ang_check_added.proofs.Bringing.{found_spelled, plain_spelled, void_spelled}
use Rattle.ang_check_added.proofs.brought.push_spelled.Goals as goal

pub returns-in-Enumeration : goal.returns-in-Enumeration
returns-in-Enumeration c =
    let R = c.args.whole.now in
    let m = c.args.mask.0 in
    let ty = c.args.ty.now in
    let name = c.in-Enumeration.name in
    let wide : (o : Option Entry) → is_spelled_type ty o ≡ true → has_name name o ≡ true =
    λ o e.
    elim c.in-Enumeration.is [
      | inl is ↦ enumeration_has_its_name name o (ap (λ t. is_spelled_type t o) (sym is) ∙ e)
      | inr is ↦ has_its_name name is.0 is.1 is.2 o (ap (λ t. is_spelled_type t o) (sym is.3) ∙ e)
    ] in
    record {
      pushed =
          subst (λ ns. OnOk c.push_found.result (c.push_found.new.numbers.items ≡ c.args.numbers.now.items ++ ns))
          (ap (λ own. filter (is_unmet_type R m ty) (find R own)) c.as_slice.ensures.same ∙ found_spelled R m ty name wide)
          c.push_found.ensures.pushed;
    }

pub returns-in-Void : goal.returns-in-Void
returns-in-Void c =
    let R = c.args.whole.now in
    let m = c.args.mask.0 in
    let ty = c.args.ty.now in
    let none : [] ≡ unmet_spelled R m ty = elim c.in-Void.is [ inl e ↦ void_spelled R m ty e | inr e ↦ plain_spelled R m ty e.0 e.1 ] in
    record { pushed = sym (append-nil c.args.numbers.now.items) ∙ ap (λ ns. c.args.numbers.now.items ++ ns) none }

pub returns-in-Void-2 : goal.returns-in-Void-2
returns-in-Void-2 c =
    let R = c.args.whole.now in
    let m = c.args.mask.0 in
    let ty = c.args.ty.now in
    let none : [] ≡ unmet_spelled R m ty = elim c.in-Void.is [ inl e ↦ void_spelled R m ty e | inr e ↦ plain_spelled R m ty e.0 e.1 ] in
    record { pushed = sym (append-nil c.args.numbers.now.items) ∙ ap (λ ns. c.args.numbers.now.items ++ ns) none }
