use Rattle.std.proofs.Common.{◌∙◌, ap, sym, codes}
use Rattle.asrun_lines.specs.Budget.{budget_given}
use Rattle.asrun.proofs.CommandLine.{value_given, flag_given, refused_right, not_right, no_options, version_shown}
use Rattle.asrun.proofs.options.options_by.Goals as goal

pub returns-in-Some-clause-profile : goal.returns-in-Some-clause-profile
returns-in-Some-clause-profile c =
    sym (value_given _ _ c.in_ok-matches.matches (codes "profile") c.requires.program c.in_ok-matches.ensures.ok.2)
    ∙ (rw c.in-Some.is at c.in_ok-options.ensures.profile)

pub returns-in-Some-clause-session : goal.returns-in-Some-clause-session
returns-in-Some-clause-session c =
    sym (value_given _ _ c.in_ok-matches.matches (codes "session") c.requires.program c.in_ok-matches.ensures.ok.2)
    ∙ (rw c.in-Some.is at c.in_ok-options.ensures.session)

pub returns-in-Some-clause-budget : goal.returns-in-Some-clause-budget
returns-in-Some-clause-budget c =
    ap budget_given (sym (value_given _ _ c.in_ok-matches.matches (codes "budget") c.requires.program c.in_ok-matches.ensures.ok.2))
    ∙ (rw c.in-Some.is at c.in_ok-options.ensures.budget)

pub returns-in-Some-clause-trace : goal.returns-in-Some-clause-trace
returns-in-Some-clause-trace c =
    λ is. (rw c.in-Some.is at c.in_ok-options.ensures.trace) (flag_given _ _ c.in_ok-matches.matches (codes "trace") c.requires.program c.in_ok-matches.ensures.ok.2 ∙ is)

pub returns-in-Some-clause-no_trace : goal.returns-in-Some-clause-no_trace
returns-in-Some-clause-no_trace c =
    λ is. (rw c.in-Some.is at c.in_ok-options.ensures.no_trace) (flag_given _ _ c.in_ok-matches.matches (codes "trace") c.requires.program c.in_ok-matches.ensures.ok.2 ∙ is)

pub returns-in_err-matches-clause-refused : goal.returns-in_err-matches-clause-refused
returns-in_err-matches-clause-refused c =
    refused_right _ _ _ _ c.from_residual.ensures.1 c.requires.program c.in_err-matches.ensures.passes

pub returns-clause-refused : goal.returns-clause-refused
returns-clause-refused c =
    λ right. absurd (not_right _ _ c.in_ok-matches.matches _ c.requires.program c.in_ok-matches.ensures.ok.2 c.in-None.is c.in_ok-options.ensures.complete right)

pub returns-in-Some-clause-version : goal.returns-in-Some-clause-version
returns-in-Some-clause-version c =
    λ asks. no_options c.in_ok-matches.matches _ _ c.requires.program asks c.in_ok-matches.ensures.kinds

pub returns-in_err-matches-clause-version : goal.returns-in_err-matches-clause-version
returns-in_err-matches-clause-version c =
    version_shown _ _ _ _ c.from_residual.ensures.1 c.requires.program c.in_err-matches.ensures.kinds

pub returns-clause-version : goal.returns-clause-version
returns-clause-version c =
    λ asks. absurd (no_options c.in_ok-matches.matches _ _ c.requires.program asks c.in_ok-matches.ensures.kinds)
