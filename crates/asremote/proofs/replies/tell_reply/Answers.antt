use Rattle.asremote.proofs.replies.tell_reply.Goals as goal

pub returns-in-Ok-clause-told : goal.returns-in-Ok-clause-told
returns-in-Ok-clause-told g c = rw c.in-Ok.is at c.print_reply-printed.ensures.whole

pub returns-in-Err-clause-front : goal.returns-in-Err-clause-front
returns-in-Err-clause-front g c = rw c.in-Err.is at c.print_reply-printed.ensures.front
