use Rattle.std.proofs.Common.{◌≡◌, refl, subst, None, Some}
use Rattle.ang_view.specs.Groups.{Grouped}
use Rattle.ang_view.specs.Registration.{entry_at}
use Rattle.ang_engine_modules.specs.States.{states_in}
use Rattle.ang_engine_modules.specs.declared.command.Command.TheVariants.{RemoveGroup}
use Rattle.ang_engine.specs.Engines.{list_in, world_in}
use Rattle.ang_engine.specs.Groups.{removal}
use Rattle.ang_engine.proofs.LeavingGroups.{removed-done}
use Rattle.ang_engine.proofs.Limiting.{within_none, within_reply}
use Rattle.ang_engine.proofs.Lists.{after_within}
use Rattle.ang_engine.proofs.Moved.{nothing_built, same_moved}
use Rattle.ang_engine.proofs.Whole.{applied-without}
use Rattle.ang_engine.proofs.engine.Engine.remove_group.Goals as goal

pub returns-clause-applied : goal.returns-clause-applied
returns-clause-applied g c =
    let s = c.args.self.now.machine.store in
    let R = list_in c.args.self.now in
    let w = world_in (λ v. (g.dyn-1.0.entry v).1) c.args.self.now in
    applied-without (λ v. (g.dyn-1.0.entry v).1) R w _ s s _ _
    c.remove_group-done.result c.ended.result refl c.ended.ensures.exact c.answer.ensures.exact
    (removed-done c.remove_group-done.result (removal c.args.name R (states_in c.args.self.now.modules)) w c.remove_group-done.ensures.exact)
    c.requires.sound.kept c.requires.sound.counted refl

-- an entry that is left was there before
pub returns-clause-sound : goal.returns-clause-sound
returns-clause-sound g c =
    let R = list_in c.args.self.now in
    let w = world_in (λ v. (g.dyn-1.0.entry v).1) c.args.self.now in
    record {
      modules = c.remove_group-done.ensures.sound;
      globals = c.requires.sound.globals;
      in_list = λ n x e driver. c.requires.sound.in_list n x (after_within R w (RemoveGroup c.args.name) n x (subst (λ (l : Grouped). entry_at l.entries n ≡ Some x) c.remove_group-done.ensures.list e)) driver;
      kept = c.requires.sound.kept;
      counted = c.requires.sound.counted;
      numbered = c.requires.sound.numbered;
    }

pub returns-clause-within : goal.returns-clause-within
returns-clause-within g c =
    let s = c.args.self.now.machine.store in
    within_reply (λ v. (g.dyn-1.0.entry v).1) s s _ _ c.answer.ensures.exact (within_none (λ v. (g.dyn-1.0.entry v).1) s)

pub returns-clause-prepared : goal.returns-clause-prepared
returns-clause-prepared g c = same_moved c.args.self.now.modules c.args.self.now.modules None refl (nothing_built c.args.self.now.modules)
