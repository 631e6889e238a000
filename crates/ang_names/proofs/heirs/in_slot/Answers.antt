use Rattle.std.specs.Prelude.{◌==◌, find, option_copied}
use Rattle.ang_names_known.specs.declared.names.ScriptMethod.{ScriptMethod}
use Rattle.ang_names.specs.ByNumber.{methods_in}
use Rattle.ang_names.specs.Rows.{first_at, slot_row}
use Rattle.ang_names.proofs.InRows.{first_in_slot_row, looked_up}
use Rattle.ang_names.proofs.heirs.in_slot.Goals as goal

pub returns : goal.returns
returns c =
    let slot = c.args.slot in
    record {
      exact = looked_up methods_in (slot_row slot) (first_at (λ (m : ScriptMethod). m.slot == slot))
          (find (λ (m : ScriptMethod). m.slot == slot)) (λ ms. first_in_slot_row ms slot)
          c.args.families.now c.families.result.now c.args.number c.methods_of-methods.result.now c.slot_row.result.now (option_copied c.first_at.result)
          c.families.ensures.same c.methods_of-methods.ensures.exact c.slot_row.ensures.exact c.first_at.ensures.exact;
    }
