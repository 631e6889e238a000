use Rattle.std.proofs.Common.{rules, ◌≡◌, length}
use Rattle.ang_engine_modules.specs.Modules.{unbound_link}
use Rattle.ang_engine_modules.proofs.Lists.{next_first, left_mapped}
use Rattle.ang_engine_modules.proofs.links.unbind_each.Goals as goal

pub loop-link-preserved : goal.loop-link-preserved
loop-link-preserved c =
    next_first (unbound_link c.args.home) c.loop-link.link-index c.deref_mut-link-items.result.now c.loop-link.link-items _ c.unbound_link.result c.loop-link.invariant c.loop-link-test.true
    c.unbound_link.ensures.exact

pub returns : goal.returns
returns c =
    let old = c.args.links.now in
    let same : c.deref_mut-link-items.result.now ≡ old.items = search rules in
    let count : old.len ≡ length old.items = search rules in
    record { unbound = left_mapped (unbound_link c.args.home) c.loop-link.link-index old.len c.loop-link.link-items c.deref_mut-link-items.result.now old.items c.loop-link.invariant same c.loop-link-test.false count }
