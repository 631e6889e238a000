use Rattle.std.proofs.Common.{rules, ◌≡◌, length}
use Rattle.ang_vm_stack.specs.declared.table.ModuleCode.{ModuleCode}
use Rattle.ang_engine_modules.specs.Modules.{unbound_links}
use Rattle.ang_engine_modules.specs.Relinked.{bounds_of, IsRelinked}
use Rattle.ang_engine_modules.proofs.Lists.{zip_next, left_zip}
use Rattle.ang_engine_modules.proofs.links.unbind_codes.Goals as goal

pub loop-code-preserved : goal.loop-code-preserved
loop-code-preserved c =
    zip_next (λ (x : ModuleCode) y. IsRelinked x (unbound_links c.args.home (bounds_of x)) y) c.loop-code.code-index c.deref_mut-code-items.result.now c.loop-code.code-items c.code-item.result
    c.unbind_code.new.code c.loop-code-test.true c.loop-code.invariant c.unbind_code.ensures.unbound

pub returns : goal.returns
returns c =
    let old = c.args.codes.now in
    let same : c.deref_mut-code-items.result.now ≡ old.items = search rules in
    let count : old.len ≡ length old.items = search rules in
    record {
      unbound = left_zip (λ (x : ModuleCode) y. IsRelinked x (unbound_links c.args.home (bounds_of x)) y) c.loop-code.code-index old.len c.loop-code.code-items c.deref_mut-code-items.result.now old.items
          c.loop-code.invariant same c.loop-code-test.false count;
    }
