use Rattle.std.specs.Prelude.{ℕ, ◌≡◌, ◌<◌, All, length}
use Rattle.std.proofs.Common.{Vec, Global}
use Rattle.std.proofs.lemmas.Result.{IfOk-weaker}
use Rattle.ang_names_graph.specs.Graphs.{order_of}
use Rattle.ang_names_classes.specs.Hierarchy.{is_base}
use Rattle.ang_names_classes.proofs.Small.{order_few}
use Rattle.ang_names_classes.proofs.families.chain_of.Goals as goal

pub returns : goal.returns
returns c =
    let e = is_base c.args.families.now in
    let n = length c.args.families.now in
    let i = c.args.number in
    let exact = c.order_of.ensures.exact e c.requires.bases in
    record {
      exact = exact;
      few = IfOk-weaker c.order_of.result (λ (places : Vec ℕ Global). places.items ≡ order_of e n i) (λ (places : Vec ℕ Global). All (λ k. k < 256) places.items)
          (λ places is. order_few e n i c.requires.few c.requires.there places.items is) exact;
    }
