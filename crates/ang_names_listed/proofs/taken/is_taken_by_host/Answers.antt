use Rattle.std.proofs.Common.{ap, ◌∙◌}
use Rattle.ang_view.specs.Named.{find}
use Rattle.ang_names_listed.proofs.HostNames.{taken_by_host}
use Rattle.ang_names_listed.proofs.taken.is_taken_by_host.Goals as goal

pub returns : goal.returns
returns c =
    record {
      exact =
          c.clashes_among.ensures.exact
          ∙ taken_by_host c.args.view.now c.args.declared.now c.find.result.now (c.find.ensures.exact ∙ ap (find c.args.view.now) c.declared_name.ensures.exact);
    }
