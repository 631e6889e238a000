use Rattle.std.proofs.Common.{ap, sym, ◌∙◌}
use Rattle.ang_registry.specs.Registrations.{grouped}
use Rattle.ang_engine.specs.Engines.{list_in, world_in}
use Rattle.ang_engine.specs.Step.{list_after}
use Rattle.ang_engine.proofs.engine.Engine.dispatch.Goals as goal

-- the list is as it was

pub returns-in-NewModule-clause-list : goal.returns-in-NewModule-clause-list
returns-in-NewModule-clause-list g c =
    ap grouped c.new_module.ensures.registry ∙ sym (ap (list_after (list_in c.args.self.now) (world_in (λ v. (g.dyn-1.0.entry v).1) c.args.self.now)) c.in-NewModule.is)

pub returns-in-SetMask-clause-list : goal.returns-in-SetMask-clause-list
returns-in-SetMask-clause-list g c =
    ap grouped c.set_mask.ensures.registry ∙ sym (ap (list_after (list_in c.args.self.now) (world_in (λ v. (g.dyn-1.0.entry v).1) c.args.self.now)) c.in-SetMask.is)

pub returns-in-AddSection-clause-list : goal.returns-in-AddSection-clause-list
returns-in-AddSection-clause-list g c =
    ap grouped c.add_section.ensures.registry ∙ sym (ap (list_after (list_in c.args.self.now) (world_in (λ v. (g.dyn-1.0.entry v).1) c.args.self.now)) c.in-AddSection.is)

pub returns-in-Build-clause-list : goal.returns-in-Build-clause-list
returns-in-Build-clause-list g c =
    ap grouped c.build.ensures.registry ∙ sym (ap (list_after (list_in c.args.self.now) (world_in (λ v. (g.dyn-1.0.entry v).1) c.args.self.now)) c.in-Build.is)

pub returns-in-Bind-clause-list : goal.returns-in-Bind-clause-list
returns-in-Bind-clause-list g c =
    ap grouped c.bind.ensures.registry ∙ sym (ap (list_after (list_in c.args.self.now) (world_in (λ v. (g.dyn-1.0.entry v).1) c.args.self.now)) c.in-Bind.is)

pub returns-in-Unbind-clause-list : goal.returns-in-Unbind-clause-list
returns-in-Unbind-clause-list g c =
    ap grouped c.unbind.ensures.registry ∙ sym (ap (list_after (list_in c.args.self.now) (world_in (λ v. (g.dyn-1.0.entry v).1) c.args.self.now)) c.in-Unbind.is)

pub returns-in-Call-clause-list : goal.returns-in-Call-clause-list
returns-in-Call-clause-list g c =
    ap grouped c.call.ensures.registry ∙ sym (ap (list_after (list_in c.args.self.now) (world_in (λ v. (g.dyn-1.0.entry v).1) c.args.self.now)) c.in-Call.is)

pub returns-in-Discard-clause-list : goal.returns-in-Discard-clause-list
returns-in-Discard-clause-list g c =
    ap grouped c.discard_module.ensures.registry ∙ sym (ap (list_after (list_in c.args.self.now) (world_in (λ v. (g.dyn-1.0.entry v).1) c.args.self.now)) c.in-Discard.is)

-- or what is left of it

pub returns-in-RemoveGroup-clause-list : goal.returns-in-RemoveGroup-clause-list
returns-in-RemoveGroup-clause-list g c = c.remove_group.ensures.list ∙ sym (ap (list_after (list_in c.args.self.now) (world_in (λ v. (g.dyn-1.0.entry v).1) c.args.self.now)) c.in-RemoveGroup.is)
