use Rattle.std.proofs.Common.{◌≡◌, ◌∙◌, ap, length, Some, rules}
use Rattle.ang_vm_stack.specs.Tables.{method_in}
use Rattle.ang_engine_modules.specs.Trees.{methods_by}
use Rattle.ang_engine_modules.proofs.classes.class_parts.Goals as goal

pub returns : goal.returns
returns c =
    let chain : c.add_chain.new.found.items ≡ methods_by c.args.home c.args.classes.now (length c.args.classes.now) (Some c.args.class.now) = search rules in
    record {
      exact = λ j. (c.in_ok-fields.ensures.exact j, λ s. (c.in_ok-methods.ensures.same s ∙ ap (λ l. method_in l s) chain) j);
    }
