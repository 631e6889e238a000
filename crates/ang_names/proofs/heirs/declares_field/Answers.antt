use Rattle.std.specs.Prelude.{bytes_eq, slice_get}
use Rattle.std.specs.List.{list_any}
use Rattle.ang_names_known.specs.declared.names.Field.{Field}
use Rattle.ang_names_known.specs.Lookup.{fields_in}
use Rattle.ang_names.specs.Rows.{field_row, is_at}
use Rattle.ang_names.proofs.InRows.{field_in_row, looked_up}
use Rattle.ang_names.proofs.heirs.declares_field.Goals as goal

pub returns : goal.returns
returns c =
    let name = c.args.name.now in
    let fields = c.fields_of-fields.result.now in
    let row = c.field_row.result.now in
    record {
      exact = looked_up fields_in (field_row name) (λ xs at. list_any (λ n. is_at (λ (x : Field). bytes_eq x.name name) (slice_get xs n)) at)
          (λ xs. list_any (λ (x : Field). bytes_eq x.name name) xs) (λ xs. field_in_row xs name)
          c.args.families.now c.families.result.now c.args.number fields row c.has_field_at.result
          c.families.ensures.same c.fields_of-fields.ensures.exact c.field_row.ensures.exact c.has_field_at.ensures.exact;
    }
