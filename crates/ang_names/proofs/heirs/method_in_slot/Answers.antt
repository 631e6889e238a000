use Rattle.std.specs.Prelude.{◌≡◌}
use Rattle.std.proofs.Common.{subst, ◌∙◌}
use Rattle.ang_names_known.specs.Lookup.{families_at, kin_of}
use Rattle.ang_names.proofs.Inherited.{slot_known}
use Rattle.ang_names.proofs.heirs.method_in_slot.Goals as goal

pub returns : goal.returns
returns c =
    let order = c.order_of.result.now in
    let kin = subst (λ gs. families_at gs order ≡ kin_of gs c.args.number) c.families.ensures.same c.order_of.ensures.exact in
    record { exact = c.first_in_slot.ensures.exact ∙ slot_known c.args.families.now c.args.number c.args.slot order kin }
