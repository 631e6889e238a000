use Rattle.std.proofs.Common.{◌∙◌}
use Rattle.asrun_session.proofs.Lists.{begun_list}
use Rattle.asrun_session.proofs.limits.limited_engine.Goals as goal

pub returns-in-Ok-clause-list : goal.returns-in-Ok-clause-list
returns-in-Ok-clause-list g c =
    c.set_limits.ensures.list ∙ c.in-Ok.ensures.groups ∙ begun_list c.args.profile.registry
