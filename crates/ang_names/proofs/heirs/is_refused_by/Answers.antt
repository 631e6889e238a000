use Rattle.std.specs.Prelude.{◌==◌, ◌&&◌, slice_get}
use Rattle.std.specs.List.{list_any}
use Rattle.ang_names_known.specs.declared.names.ScriptMethod.{ScriptMethod}
use Rattle.ang_names.specs.Heirs.{cannot_override}
use Rattle.ang_names.specs.ByNumber.{methods_in}
use Rattle.ang_names.specs.Rows.{is_at, slot_row}
use Rattle.ang_names.proofs.InRows.{looked_up, refused_in_row}
use Rattle.ang_names.proofs.heirs.is_refused_by.Goals as goal

pub returns : goal.returns
returns c =
    let m = c.args.method.now in
    record {
      exact = looked_up methods_in (slot_row m.slot) (λ ms row. list_any (λ n. is_at (λ (x : ScriptMethod). x.slot == m.slot && cannot_override m x) (slice_get ms n)) row)
          (λ ms. list_any (λ (x : ScriptMethod). x.slot == m.slot && cannot_override m x) ms) (λ ms. refused_in_row ms m)
          c.args.families.now c.families.result.now c.args.number c.methods_of-methods.result.now c.slot_row.result.now c.is_refused_among.result
          c.families.ensures.same c.methods_of-methods.ensures.exact c.slot_row.ensures.exact c.is_refused_among.ensures.exact;
    }
