use Rattle.std.proofs.Common.{refl, ap}
use Rattle.ang_engine.specs.Engines.{list_in, world_in}
use Rattle.ang_engine_modules.specs.declared.command.Command.TheVariants.{Build}
use Rattle.ang_engine.proofs.Whole.{applied-memory}
use Rattle.ang_engine.proofs.Limiting.{within_none, within_reply}
use Rattle.ang_engine_modules.specs.declared.reply.Reply.{Reply}
use Rattle.ang_engine.specs.Prepared.{replaced}
use Rattle.ang_engine.proofs.Moved.{same_moved, nothing_built}
use Rattle.ang_engine.proofs.engine.Engine.build.Goals as goal

pub returns-else-self-lt18446744073709551615-clause-applied : goal.returns-else-self-lt18446744073709551615-clause-applied
returns-else-self-lt18446744073709551615-clause-applied g c =
    applied-memory (λ v. (g.dyn-1.0.entry v).1) (list_in c.args.self.now) (world_in (λ v. (g.dyn-1.0.entry v).1) c.args.self.now) c.args.self.now.machine.store
    (Build c.args.name c.args.budget) _ refl c.answer.ensures.exact c.requires.sound.kept c.requires.sound.counted

pub returns-else-self-lt18446744073709551615-clause-within : goal.returns-else-self-lt18446744073709551615-clause-within
returns-else-self-lt18446744073709551615-clause-within g c =
    let s = c.args.self.now.machine.store in
    within_reply (λ v. (g.dyn-1.0.entry v).1) s s _ _ c.answer.ensures.exact (within_none (λ v. (g.dyn-1.0.entry v).1) s)

pub returns-else-self-lt18446744073709551615-clause-prepared : goal.returns-else-self-lt18446744073709551615-clause-prepared
returns-else-self-lt18446744073709551615-clause-prepared g c =
    let x = c.args.self.now.modules in
    same_moved x x _ (ap (λ (r : Reply). replaced (Build c.args.name c.args.budget) r.outcome (world_in (λ v. (g.dyn-1.0.entry v).1) c.args.self.now)) c.answer.ensures.exact) (nothing_built x)
