use Rattle.std.specs.Prelude.{ℕ, ◌≡◌, ◌<◌, All, length}
use Rattle.std.proofs.Common.{Vec, Global}
use Rattle.std.proofs.lemmas.Result.{IfOk-weaker}
use Rattle.ang_names_graph.specs.Graphs.{above}
use Rattle.ang_names_classes.specs.Hierarchy.{is_parent}
use Rattle.ang_names_classes.proofs.Small.{above_few}
use Rattle.ang_names_classes.proofs.families.all_above.Goals as goal

pub returns : goal.returns
returns c =
    let e = is_parent c.args.families.now in
    let n = length c.args.families.now in
    let i = c.args.number in
    let exact = c.above_of.ensures.exact e c.requires.above in
    record {
      exact = exact;
      few = IfOk-weaker c.above_of.result (λ (places : Vec ℕ Global). places.items ≡ above e n i) (λ (places : Vec ℕ Global). All (λ k. k < 256) places.items)
          (λ places is. above_few e n i c.requires.few places.items is) exact;
    }
