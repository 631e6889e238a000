use Rattle.ang_registry.proofs.Values.{view_few, view_values}
use Rattle.ang_registry.proofs.registry.Registry.seen.Goals as goal

pub returns-clause-values : goal.returns-clause-values
returns-clause-values c =
    view_values _ c.args.mask.0 c.view_of.result c.self.invariant.1 c.view_of.ensures.exact

pub returns-clause-few : goal.returns-clause-few
returns-clause-few c =
    view_few _ c.args.mask.0 c.view_of.result c.self.invariant.0 c.view_of.ensures.exact
