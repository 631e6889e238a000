use Rattle.std.proofs.Common.{◌≡◌, ◌+◌, ℕ, List, Some, get_or, drop, ap, sym, ◌∙◌}
use Rattle.std.specs.Prelude.{find, bytes_eq, option_map, slice_get}
use Rattle.std.specs.Option.{option_or}
use Rattle.std.proofs.lemmas.List.{drop_more}
use Rattle.ang_names_known.specs.declared.names.Family.{Family}
use Rattle.ang_names_known.specs.declared.names.Field.{Field}
use Rattle.ang_names_known.specs.Lookup.{field_named, field_of, fields_in, families_at, first_field}
use Rattle.ang_names_known.proofs.Kin.{first_field_with}
use Rattle.ang_names_known.proofs.members.field_in.Goals as goal

pub returns-in-Some : goal.returns-in-Some
unfolding field_named
returns-in-Some c =
    let fs : List Family = c.args.families.now in
    let name : List ℕ = c.args.name.now in
    let order : List ℕ = c.order_of-order.result.now in
    let i : ℕ = c.loop-number.number-index in
    let n : ℕ = get_or order i 0 in
    let here : option_map (field_of n) (find (λ (x : Field). bytes_eq x.name name) (fields_in (slice_get fs n))) ≡ Some c.in-Some.found =
    sym c.in-Some.ensures.exact in
    record {
      exact = sym (
          c.loop-number.invariant
          ∙ ap (λ ns. first_field name (families_at fs ns)) (drop_more order i 0 c.loop-number-test.true)
          ∙ first_field_with name n (slice_get fs n) (families_at fs (drop (i + 1) order))
          ∙ ap (λ o. option_or o (first_field name (families_at fs (drop (i + 1) order)))) here);
    }
