use Rattle.std.proofs.Common.{◌∙◌}
use Rattle.ang_view.proofs.Named.{function_found}
use Rattle.ang_view.proofs.view.View.find_function.Goals as goal

pub returns : goal.returns
returns c =
    record {
      exact =
          c.first_function.ensures.exact
          ∙ function_found c.args.self.now c.args.mask.0 c.args.name.now c.find.result.now c.find.ensures.exact;
    }
