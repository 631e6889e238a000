use Rattle.std.proofs.Common.{◌≡◌, true, false, sym, ◌∙◌}
use Rattle.std.proofs.lemmas.Bool.{eq-eqb}
use Rattle.ang_drivers.proofs.Paging.{not_at_end}
use Rattle.ang_drivers.proofs.pages.is_last.Goals as goal

pub returns-clause-ahead : goal.returns-clause-ahead
returns-clause-ahead g c f =
    not_at_end 0 c.args.key c.args.entries.now c.requires.rises
    (λ t. let x : false ≡ true = sym f ∙ eq-eqb _ c.args.key (t.1 c.index-entries-entries.result) in let z : ⊥ = cc in z)
