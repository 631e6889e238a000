use Rattle.std.proofs.lemmas.Result.{err_from_is_err_and}
use Rattle.asrun_session.proofs.whole.print_drivers_error.Goals as goal

pub returns-in_err-write_text-in-TooMany-clause-front :
    goal.returns-in_err-write_text-in-TooMany-clause-front
returns-in_err-write_text-in-TooMany-clause-front g c =
    let p = err_from_is_err_and c.from_residual.result c.from_residual.ensures.1 in
    rw (p.1, c.in-TooMany.is) c.in_err-write_text-in-TooMany.ensures.front

pub returns-in_err-write_text-in-Busy-clause-front :
    goal.returns-in_err-write_text-in-Busy-clause-front
returns-in_err-write_text-in-Busy-clause-front g c =
    let p = err_from_is_err_and c.from_residual-in_err-write_text-in-Busy.result c.from_residual-in_err-write_text-in-Busy.ensures.1 in
    rw (p.1, c.in-Busy.is) c.in_err-write_text-in-Busy.ensures.front

pub returns-in_ok-write_text-in-TooMany-clause-whole :
    goal.returns-in_ok-write_text-in-TooMany-clause-whole
returns-in_ok-write_text-in-TooMany-clause-whole g c = rw c.in-TooMany.is c.in_ok-write_text-in-TooMany.ensures.whole

pub returns-in_ok-write_text-in-Busy-clause-whole :
    goal.returns-in_ok-write_text-in-Busy-clause-whole
returns-in_ok-write_text-in-Busy-clause-whole g c = rw c.in-Busy.is c.in_ok-write_text-in-Busy.ensures.whole
