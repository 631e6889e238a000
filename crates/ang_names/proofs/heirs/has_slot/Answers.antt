use Rattle.std.specs.Prelude.{◌==◌, slice_get}
use Rattle.std.specs.List.{list_any}
use Rattle.ang_names_known.specs.declared.names.ScriptMethod.{ScriptMethod}
use Rattle.ang_names.specs.ByNumber.{methods_in}
use Rattle.ang_names.specs.Rows.{is_at, slot_row}
use Rattle.ang_names.proofs.InRows.{looked_up, slot_in_row}
use Rattle.ang_names.proofs.heirs.has_slot.Goals as goal

pub returns : goal.returns
returns c =
    let slot = c.args.slot in
    record {
      exact = looked_up methods_in (slot_row slot) (λ ms row. list_any (λ n. is_at (λ (m : ScriptMethod). m.slot == slot) (slice_get ms n)) row)
          (λ ms. list_any (λ (m : ScriptMethod). m.slot == slot) ms) (λ ms. slot_in_row ms slot)
          c.args.families.now c.families.result.now c.args.number c.methods_of-methods.result.now c.slot_row.result.now c.has_slot_among.result
          c.families.ensures.same c.methods_of-methods.ensures.exact c.slot_row.ensures.exact c.has_slot_among.ensures.exact;
    }
