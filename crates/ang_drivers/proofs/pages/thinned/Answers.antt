use Rattle.std.proofs.Common.{count_by, ap, ◌∙◌}
use Rattle.ang_drivers.specs.Pages.{is_blank}
use Rattle.ang_drivers.proofs.Paging.{count-kept}
use Rattle.ang_drivers.proofs.pages.thinned.Goals as goal

pub returns-clause-counted : goal.returns-clause-counted
returns-clause-counted g c = ap (count_by is_blank) c.take_blank_out.ensures.exact ∙ count-kept is_blank c.args.pages.now.items
