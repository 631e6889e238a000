use Rattle.std.proofs.Common.{◌<◌, length, arith}
use Rattle.ang_names_listed.proofs.NamesSoFar.{name_more}
use Rattle.ang_names_listed.proofs.taken.name_refusals.Goals as goal

pub loop-i-preserved : goal.loop-i-preserved
loop-i-preserved c =
    let all = c.args.all.now in
    let i = c.loop-i.i in
    let inside : i < length all = omega arith in (
      name_more c.args.view.now all i c.index-all-i.result c.loop-i.found.items c.push_refused.new.found.items _ c.in_ok-refused.refused inside
          c.index-all-i.is c.loop-i.invariant.1 c.in_ok-refused.ensures.exact c.in_ok-push_refused.ensures.pushed c.loop-i.invariant.0,
      c.in_ok-before.ensures.grown,
    )
