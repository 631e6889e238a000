use Rattle.std.proofs.Common.{◌≡◌, true, false, ◌&&◌, sym, ◌∙◌}
use Rattle.ang_view.specs.Registration.{is_type}
use Rattle.ang_view.specs.SeenTypes.{meets_owner, meets_signature}
use Rattle.ang_view.proofs.SeenTypes.{named_none, own_type_met, own_type_unmet, types_met}
use Rattle.ang_view.proofs.view.sees_types.Goals as goal

pub returns-then-is_type : goal.returns-then-is_type
returns-then-is_type c =
    let list = c.args.list.now in
    let mask = c.args.mask.0 in
    let x = c.args.entry.now in
    let names_none : is_type x.kind ≡ true = sym c.is_type.ensures.exact ∙ c.if-is_type.true in
    record {
      exact = c.is_type.ensures.exact ∙ named_none (is_type x.kind) (meets_owner list mask x.owner && meets_signature list mask x.signature) names_none ∙ types_met list mask x;
    }

pub returns-then-sees_owner : goal.returns-then-sees_owner
returns-then-sees_owner c =
    let list = c.args.list.now in
    let mask = c.args.mask.0 in
    let x = c.args.entry.now in
    let names : is_type x.kind ≡ false = sym c.is_type.ensures.exact ∙ c.if-is_type.false in
    let met : meets_owner list mask x.owner ≡ true = sym c.sees_owner.ensures.exact ∙ c.if-sees_owner.true in
    record {
      exact =
          c.sees_signature.ensures.exact ∙ own_type_met (is_type x.kind) (meets_owner list mask x.owner) (meets_signature list mask x.signature) names met
          ∙ types_met list mask x;
    }

pub returns-else-sees_owner : goal.returns-else-sees_owner
returns-else-sees_owner c =
    let list = c.args.list.now in
    let mask = c.args.mask.0 in
    let x = c.args.entry.now in
    let names : is_type x.kind ≡ false = sym c.is_type.ensures.exact ∙ c.if-is_type.false in
    let unmet : meets_owner list mask x.owner ≡ false = sym c.sees_owner.ensures.exact ∙ c.if-sees_owner.false in
    record {
      exact =
          c.sees_owner.ensures.exact ∙ own_type_unmet (is_type x.kind) (meets_owner list mask x.owner) (meets_signature list mask x.signature) names unmet
          ∙ types_met list mask x;
    }
