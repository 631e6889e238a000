use Rattle.std.specs.Prelude.{◌≡◌}
use Rattle.std.proofs.Common.{subst, ◌∙◌}
use Rattle.ang_names_known.specs.Lookup.{families_at, kin_of}
use Rattle.ang_names.proofs.InRows.{member_known}
use Rattle.ang_names.proofs.heirs.has_member.Goals as goal

pub returns : goal.returns
returns c =
    let order = c.order_of.result.now in
    let kin = subst (λ gs. families_at gs order ≡ kin_of gs c.args.class) c.families.ensures.same c.order_of.ensures.exact in
    record { exact = c.declares_among.ensures.exact ∙ member_known c.args.families.now c.args.class c.args.name.now order kin }
