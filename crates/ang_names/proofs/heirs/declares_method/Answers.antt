use Rattle.std.specs.Prelude.{bytes_eq, slice_get}
use Rattle.std.specs.List.{list_any}
use Rattle.ang_names_known.specs.declared.names.ScriptMethod.{ScriptMethod}
use Rattle.ang_names.specs.ByNumber.{methods_in}
use Rattle.ang_names.specs.Rows.{is_at, method_row}
use Rattle.ang_names.proofs.InRows.{looked_up, method_in_row}
use Rattle.ang_names.proofs.heirs.declares_method.Goals as goal

pub returns : goal.returns
returns c =
    let name = c.args.name.now in
    let methods = c.methods_of-methods.result.now in
    let row = c.method_row.result.now in
    record {
      exact = looked_up methods_in (method_row name) (λ ms at. list_any (λ n. is_at (λ (x : ScriptMethod). bytes_eq x.function.name name) (slice_get ms n)) at)
          (λ ms. list_any (λ (x : ScriptMethod). bytes_eq x.function.name name) ms) (λ ms. method_in_row ms name)
          c.args.families.now c.families.result.now c.args.number methods row c.has_method_at.result
          c.families.ensures.same c.methods_of-methods.ensures.exact c.method_row.ensures.exact c.has_method_at.ensures.exact;
    }
