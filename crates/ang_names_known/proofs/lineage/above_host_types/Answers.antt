use Rattle.std.proofs.Common.{◌≡◌, ℕ, List, [], rules, ap, ◌∙◌}
use Rattle.std.specs.Prelude.{replicate}
use Rattle.ang_names_known.specs.Spaces.{first_family}
use Rattle.ang_names_known.proofs.lineage.above_host_types.Goals as goal

pub returns : goal.returns
returns c =
    let e : c.loop-number._number ≡ first_family = search rules in
    let nothing : List ℕ = [] in
    record { exact = c.loop-number.invariant ∙ ap (λ n. replicate n nothing) e }
