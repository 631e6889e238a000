use Rattle.std.proofs.Common.{refl, inl, inr}
use Rattle.std.proofs.lemmas.Result.{err_from_is_err_and}
use Rattle.asremote.proofs.Stepping.{steps_more, steps_last, half_more, half_last}
use Rattle.asremote.proofs.conversation.turn_over.Goals as goal

pub returns-in_ok-at-in-Command-clause-done : goal.returns-in_ok-at-in-Command-clause-done
returns-in_ok-at-in-Command-clause-done g c =
    rw c.stepped.ensures.exact
    (steps_more (λ v. (g.dyn-1.0.entry v).1) _ _ _ _ _ _ _ _ _ _ _ c.as_slice-lines.result.now c.as_slice-lines.ensures.value c.in_ok-read_command.field-0 c.in_ok-read_command.ensures.read
    c.in-Command.is c.in_ok-at-in-Command.at c.in_ok-at-in-Command.ensures.turned)

pub returns-in_ok-at-in-Last-clause-done : goal.returns-in_ok-at-in-Last-clause-done
returns-in_ok-at-in-Last-clause-done g c =
    rw c.stepped-in-Last.ensures.exact
    (steps_last (λ v. (g.dyn-1.0.entry v).1) _ _ _ _ _ _ _ _ _ _ _ c.as_slice-lines-in-Last.result.now c.as_slice-lines-in-Last.ensures.value c.in_ok-read_command.field-0 c.in_ok-read_command.ensures.read
    c.in-Last.is c.in_ok-at-in-Last.at c.in_ok-at-in-Last.ensures.turned)

pub returns-in_ok-print_too_long-in-TooLong-clause-done : goal.returns-in_ok-print_too_long-in-TooLong-clause-done
returns-in_ok-print_too_long-in-TooLong-clause-done g c = record {
  text = c.read_command.new.text.items;
  read = rw c.in-TooLong.is at c.in_ok-read_command.ensures.read;
  same = refl;
  printed = c.in_ok-print_too_long-in-TooLong.ensures.whole;
}

pub returns-in-End-clause-done : goal.returns-in-End-clause-done
returns-in-End-clause-done g c = (rw c.in-End.is at c.in_ok-read_command.ensures.read, (refl, refl))

pub returns-in_err-read_command-clause-cut : goal.returns-in_err-read_command-clause-cut
returns-in_err-read_command-clause-cut g c =
    let p = err_from_is_err_and c.from_residual.result c.from_residual.ensures.1 in
    rw p.1 (inr (inr (inr (refl, refl))))

pub returns-in_err-at-in-Command-clause-cut : goal.returns-in_err-at-in-Command-clause-cut
returns-in_err-at-in-Command-clause-cut g c =
    let p = err_from_is_err_and c.from_residual-in_err-at-in-Command.result c.from_residual-in_err-at-in-Command.ensures.1 in
    rw p.1
    (half_more (λ v. (g.dyn-1.0.entry v).1) _ _ _ _ _ _ _ _ _ _ _ c.as_slice-lines.result.now c.as_slice-lines.ensures.value c.in_ok-read_command.field-0 c.in_ok-read_command.ensures.read
    c.in-Command.is c.in_err-at-in-Command.ensures.cut)

pub returns-in_err-at-in-Last-clause-cut : goal.returns-in_err-at-in-Last-clause-cut
returns-in_err-at-in-Last-clause-cut g c =
    let p = err_from_is_err_and c.from_residual-in_err-at-in-Last.result c.from_residual-in_err-at-in-Last.ensures.1 in
    rw p.1
    (half_last (λ v. (g.dyn-1.0.entry v).1) _ _ _ _ _ _ _ _ _ _ _ c.as_slice-lines-in-Last.result.now c.as_slice-lines-in-Last.ensures.value c.in_ok-read_command.field-0 c.in_ok-read_command.ensures.read
    c.in-Last.is c.in_err-at-in-Last.ensures.cut)

pub returns-in_err-print_too_long-in-TooLong-clause-cut : goal.returns-in_err-print_too_long-in-TooLong-clause-cut
returns-in_err-print_too_long-in-TooLong-clause-cut g c =
    let p = err_from_is_err_and c.from_residual-in_err-print_too_long-in-TooLong.result c.from_residual-in_err-print_too_long-in-TooLong.ensures.1 in
    rw p.1 (inr (inr (inl (record { same = refl; front = c.in_err-print_too_long-in-TooLong.ensures.front }))))
