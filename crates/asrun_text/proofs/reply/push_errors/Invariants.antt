use Rattle.std.proofs.Common.{◌≡◌, ◌++◌, take, flat_map}
use Rattle.asrun_text.specs.Text.{error_text}
use Rattle.asrun_text.proofs.reply.push_errors.Given as goal

abbrev pub invariant-loop-error : goal.invariant-loop-error
invariant-loop-error l = l.out.items ≡ l.initial.out.items ++ flat_map (error_text) (take l.error-index l.errors)
