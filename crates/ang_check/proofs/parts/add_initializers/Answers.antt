use Rattle.std.proofs.Common.{◌≡◌, ◌<◌, ◌≤◌, ap, arith, length, get_or}
use Rattle.ang_tree.specs.View.{view_var, view_vars}
use Rattle.ang_check.proofs.JudgedParts.{initializes_turn, initializes_all, globals_judged}
use Rattle.ang_check.proofs.parts.add_initializers.Goals as goal

pub loop-variable-preserved : goal.loop-variable-preserved
loop-variable-preserved c =
    let items = c.args.written.now.items.items in
    let i = c.loop-variable.variable-index in
    let same = c.deref-variable-items.ensures.value in
    let before : i < length items = omega (arith, c.loop-variable-test.true, ap length same) in
    let is : c.variable-item.result ≡ get_or items i c.variable-item.result = cc (c.variable-item.is, same) in
    initializes_turn c.args.build.now.view.now c.args.build.now.names.now view_var items i c.variable-item.result _ _ _ _ _ _ _ _
    c.loop-variable.invariant before is c.in_ok-add_global.ensures.judged

pub returns : goal.returns
returns c =
    let V = c.args.build.now.view.now in
    let names = c.args.build.now.names.now in
    let items = c.args.written.now.items.items in
    let i = c.loop-variable.variable-index in
    let past : length items ≤ i = omega (arith, c.loop-variable-test.false, ap length c.deref-variable-items.ensures.value) in record {
      judged = globals_judged V names _ _ _ _ c.args.text.now (view_vars c.args.written.now)
          (initializes_all V names view_var items i _ _ _ _ c.args.text.now c.args.written.now.declared_type c.loop-variable.invariant past);
    }
