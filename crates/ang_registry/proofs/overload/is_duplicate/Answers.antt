use Rattle.std.proofs.Common.{◌∙◌}
use Rattle.ang_registry.proofs.Among.{taken_among}
use Rattle.ang_registry.proofs.overload.is_duplicate.Goals as goal

pub returns : goal.returns
returns c =
    let x = c.args.entry.now in
    record {
      exact = c.clashes_among.ensures.exact ∙ taken_among c.args.list.now x.kind x.owner x.signature c.rivals_of.result.now c.rivals_of.ensures.exact;
    }
