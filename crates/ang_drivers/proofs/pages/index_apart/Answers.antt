use Rattle.std.proofs.Common.{sym, ◌∙◌, ap, is_some, ◌≡◌, true, false}
use Rattle.ang_drivers.proofs.pages.index_apart.Goals as goal

-- a live key is found
pub unreachable-requires : goal.unreachable-requires
unreachable-requires g c =
    let x : false ≡ true = sym (ap is_some c.in-Err.ensures.absent) ∙ c.requires.held in
    let z : ⊥ = cc in
    z
