use Rattle.std.specs.Prelude.{filter}
use Rattle.std.proofs.Common.{◌≤◌, length, rules, ap, ◌∙◌}
use Rattle.std.proofs.lemmas.List.{take_all}
use Rattle.ang_view.specs.Registration.{entry_at}
use Rattle.ang_check_denials.specs.Names.{is_a_type_named}
use Rattle.ang_check_denials.proofs.Types.{types_are}
use Rattle.ang_check_denials.proofs.named.types_named.Goals as goal

pub returns : goal.returns
returns c =
    let R = c.args.masked.now.list in
    let name = c.args.name.now in
    let types = c.types-types.result.now in
    let end : length types ≤ c.loop-number.number-index = search rules in
    record {
      exact =
          c.loop-number.invariant
          ∙ ap (filter (λ k. is_a_type_named name (entry_at R k))) (take_all c.loop-number.number-index types end)
          ∙ types_are R name types c.types-types.ensures.exact;
    }
