use Rattle.std.proofs.Common.{◌≡◌, ◌∙◌, [], ap, sym, subst}
use Rattle.ang_heap.specs.Globals.{values_in}
use Rattle.ang_heap.specs.Stores.{world_of}
use Rattle.ang_engine_modules.specs.declared.reply.Reply.{Reply}
use Rattle.ang_engine.specs.Checking.{checking}
use Rattle.ang_engine.specs.Engines.{registrations, world_in}
use Rattle.ang_engine.specs.Outcomes.{reply_to_build}
use Rattle.ang_engine.specs.Step.{Leads}
use Rattle.ang_engine.proofs.Checks.{silent}
use Rattle.ang_engine.proofs.Kept.{kept_sound, kept_globals}
use Rattle.ang_engine.proofs.Moved.{same_numbers}
use Rattle.ang_engine.proofs.engine.Engine.check.Goals as goal

pub returns-clause-checks : goal.returns-clause-checks
returns-clause-checks g c =
    let replied : c.heard_reply.result ≡ reply_to_build c.check_named-done.result [] =
    c.heard_reply.ensures.exact ∙ c.build_reply.ensures.exact ∙ ap (λ es. reply_to_build c.check_named-done.result es) c.no_events.ensures.empty in
    subst (λ (r : Reply).
    Leads (checking (registrations c.args.self.now) c.args.name.now (world_in (λ v. (g.dyn-1.0.entry v).1) c.args.self.now)) r
    (world_in (λ v. (g.dyn-1.0.entry v).1) (record c.args.self.now { modules = c.check_named-done.new.list })))
    (sym replied) (c.check_named-done.ensures.done (world_of (λ v. (g.dyn-1.0.entry v).1) c.args.self.now.machine.store))

pub returns-clause-alone : goal.returns-clause-alone
returns-clause-alone g c = c.check_named-done.ensures.alone (world_of (λ v. (g.dyn-1.0.entry v).1) c.args.self.now.machine.store)

pub returns-clause-others : goal.returns-clause-others
returns-clause-others g c = c.check_named-done.ensures.others (world_of (λ v. (g.dyn-1.0.entry v).1) c.args.self.now.machine.store)

pub returns-clause-silent : goal.returns-clause-silent
returns-clause-silent g c =
    let replied : c.heard_reply.result ≡ reply_to_build c.check_named-done.result [] =
    c.heard_reply.ensures.exact ∙ c.build_reply.ensures.exact ∙ ap (λ es. reply_to_build c.check_named-done.result es) c.no_events.ensures.empty in
    ap (λ (r : Reply). r.events) replied ∙ silent c.check_named-done.result

pub returns-clause-sound : goal.returns-clause-sound
returns-clause-sound g c =
    let x = c.args.self.now.modules in
    let y = c.check_named-done.new.list in
    record {
      modules = kept_sound (registrations c.args.self.now) x y c.check_named-done.ensures.kept c.requires.sound.modules;
      globals = kept_globals x y (values_in c.args.self.now.machine.store.globals) c.check_named-done.ensures.kept c.requires.sound.globals;
      in_list = c.requires.sound.in_list;
      kept = c.requires.sound.kept;
      counted = c.requires.sound.counted;
      numbered = same_numbers x y c.check_named-done.ensures.builds c.requires.sound.numbered;
    }

pub returns-clause-builds : goal.returns-clause-builds
returns-clause-builds g c = c.check_named-done.ensures.builds.each

pub returns-clause-last : goal.returns-clause-last
returns-clause-last g c = c.check_named-done.ensures.builds.count
