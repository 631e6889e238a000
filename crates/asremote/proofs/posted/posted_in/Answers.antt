use Rattle.std.proofs.Common.{rules}
use Rattle.asremote.proofs.Posting.{posted_more, posted_all}
use Rattle.asremote.proofs.posted.posted_in.Goals as goal

pub loop-line-preserved : goal.loop-line-preserved
loop-line-preserved c =
    posted_more c.loop-line.posted.items c.push_posted.new.posted.items c.in-Some.line.now _ _ _ c.in-Some.ensures.some
    (rw c.shown.ensures.exact at c.in_ok-push_posted.ensures.added) c.loop-line.invariant

pub returns : goal.returns
returns c = record { exact = posted_all c.loop-line.posted.items _ _ c.in_default.ensures.none c.loop-line.invariant }
