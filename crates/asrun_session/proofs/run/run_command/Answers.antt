use Rattle.std.proofs.Common.{refl}
use Rattle.std.proofs.lemmas.Result.{err_from_is_err_and}
use Rattle.ang_engine.specs.Engines.{registrations, world_in}
use Rattle.ang_engine.specs.Roles.{roles_of}
use Rattle.ang_engine.proofs.Roles.{own_roles}
use Rattle.asrun_session.specs.Deeds.{Ran}
use Rattle.asrun_session.proofs.Lists.{command_within}
use Rattle.asrun_session.proofs.run.run_command.Goals as goal

pub returns-in_err-print_reply-clause-within : goal.returns-in_err-print_reply-clause-within
returns-in_err-print_reply-clause-within g c = command_within _ _ (world_in (λ v. (g.dyn-1.0.entry v).1) c.args.engine.now) c.args.command c.apply-reply.ensures.list

pub returns-clause-within : goal.returns-clause-within
returns-clause-within g c = command_within _ _ (world_in (λ v. (g.dyn-1.0.entry v).1) c.args.engine.now) c.args.command c.apply-reply.ensures.list

pub returns-in_err-print_reply-clause-order : goal.returns-in_err-print_reply-clause-order
returns-in_err-print_reply-clause-order g c = (c.apply-reply.ensures.follow (roles_of (registrations c.args.engine.now)) (own_roles (registrations c.args.engine.now))).kinds

pub returns-clause-order : goal.returns-clause-order
returns-clause-order g c = (c.apply-reply.ensures.follow (roles_of (registrations c.args.engine.now)) (own_roles (registrations c.args.engine.now))).kinds

pub returns-in_err-print_reply-clause-cut : goal.returns-in_err-print_reply-clause-cut
returns-in_err-print_reply-clause-cut g c =
    let p = err_from_is_err_and c.from_residual.result c.from_residual.ensures.1 in
    rw p.1 record {
      done = record { deed = Ran c.args.command c.apply-reply.result; action = refl; does = c.apply-reply.ensures.takes; follow = c.apply-reply.ensures.follow; front = c.in_err-print_reply.ensures.front };
      list = c.apply-reply.ensures.list;
      within = record {
        limits = c.apply-reply.ensures.limits;
        limited = record { few_events = c.apply-reply.ensures.few_events; few_slots = c.apply-reply.ensures.few_slots; few_objects = c.apply-reply.ensures.few_objects };
      };
      builds = c.apply-reply.ensures.prepared;
    }

pub returns-clause-done : goal.returns-clause-done
returns-clause-done g c = record {
  done = record {
    deed = Ran c.args.command c.apply-reply.result;
    action = refl;
    does = c.apply-reply.ensures.takes;
    follow = c.apply-reply.ensures.follow;
    printed = c.in_ok-print_reply.ensures.whole;
    ended = c.is_done.ensures.exact;
  };
  list = c.apply-reply.ensures.list;
  within = record {
    limits = c.apply-reply.ensures.limits;
    limited = record { few_events = c.apply-reply.ensures.few_events; few_slots = c.apply-reply.ensures.few_slots; few_objects = c.apply-reply.ensures.few_objects };
  };
  builds = c.apply-reply.ensures.prepared;
}
