use Rattle.std.proofs.Common.{refl, ap, ◌∙◌}
use Rattle.std.proofs.lemmas.Result.{err_from_is_err_and}
use Rattle.ang_engine.specs.Engines.{limits_in, world_in}
use Rattle.asrun_session.specs.Limits.{with_limit}
use Rattle.asremote.proofs.Limiting.{limited_world}
use Rattle.asremote.specs.Talk.{Limited}
use Rattle.asremote.proofs.obeying.set_limit.Goals as goal

pub returns-in_err-write_text-clause-cut : goal.returns-in_err-write_text-clause-cut
returns-in_err-write_text-clause-cut g c =
    let p = err_from_is_err_and c.from_residual.result c.from_residual.ensures.1 in
    λ ps ticks. rw p.1 record {
      did = Limited c.args.limit;
      says = refl;
      budgeted = tt;
      comes = record {
        comes = record {
          limits = c.set_limits.ensures.set ∙ c.with_limit-limits.ensures.exact ∙ ap (λ l. with_limit l c.args.limit) c.limits.ensures.exact;
          world = limited_world (world_in (λ v. (g.dyn-1.0.entry v).1) c.args.engine.now) _ (limits_in c.args.engine.now) _ _ c.args.limit refl c.limits.ensures.exact c.with_limit-limits.ensures.exact c.set_limits.ensures.world;
          list = c.set_limits.ensures.list;
          numbers = record { last = c.set_limits.ensures.last; builds = c.set_limits.ensures.builds };
          drivers = c.set_limits.ensures.drivers;
        };
        functions = refl;
      };
      front = c.in_err-write_text.ensures.front;
    }

pub returns-clause-obeyed : goal.returns-clause-obeyed
returns-clause-obeyed g c = λ ps ticks. record {
  did = Limited c.args.limit;
  says = refl;
  budgeted = tt;
  comes = record {
    comes = record {
      limits = c.set_limits.ensures.set ∙ c.with_limit-limits.ensures.exact ∙ ap (λ l. with_limit l c.args.limit) c.limits.ensures.exact;
      world = limited_world (world_in (λ v. (g.dyn-1.0.entry v).1) c.args.engine.now) _ (limits_in c.args.engine.now) _ _ c.args.limit refl c.limits.ensures.exact c.with_limit-limits.ensures.exact c.set_limits.ensures.world;
      list = c.set_limits.ensures.list;
      numbers = record { last = c.set_limits.ensures.last; builds = c.set_limits.ensures.builds };
      drivers = c.set_limits.ensures.drivers;
    };
    functions = refl;
  };
  right = refl;
  printed = c.in_ok-write_text.ensures.whole;
}
