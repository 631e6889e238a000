use Rattle.std.specs.Prelude.{◌≡◌, [], length}
use Rattle.std.proofs.Common.{rules, ap, ◌∙◌}
use Rattle.ang_names_known.specs.Items.{each_after}
use Rattle.ang_names_graph.specs.Graphs.{above, order_of, reach_of}
use Rattle.ang_names_listed.specs.Declarations.{family_name}
use Rattle.ang_names_classes.specs.Hierarchy.{holds, is_base, is_parent}
use Rattle.ang_names_classes.specs.Resolved.{first_below, gives_members, methods_after}
use Rattle.ang_names_classes.proofs.families.family_with.Goals as goal

pub returns : goal.returns
returns c =
    let E = c.args.space.now in
    let ds = c.args.families.now in
    let d = c.args.family.now in
    let name : c.in_ok-name.name ≡ family_name d = search rules in
    let place : c.name-3.result.place ≡ d.name.place = search rules in
    let is_class : c.shape.result.now.is_class ≡ d.shape.is_class = search rules in
    let base : c.base_of.result ≡ first_below (is_base ds c.args.number) (length ds) = search rules in
    let over : c.in_ok-above.above ≡ above (is_parent ds) (length ds) c.args.number = search rules in
    let nearest : c.in_ok-order.order ≡ c.in_ok-nearest.nearest.items = search rules in
    let order : c.in_ok-order.order ≡ order_of (gives_members ds d.shape.is_class) (length ds) c.args.number =
    nearest ∙ c.in_ok-nearest.ensures.exact ∙ ap (λ b. order_of (gives_members ds b) (length ds) c.args.number) is_class in
    let rank : c.rank_of.result ≡ reach_of (holds E ds) (length ds) c.args.number = search rules in
    let fields = c.in_ok-fields.ensures.exact in
    let methods = c.in_ok-methods.ensures.exact ∙ ap (λ all. each_after (methods_after E all d (length c.args.before.now)) [] d.shape.members) c.requires.known.signatures in
    let constructors = c.in_ok-constructors.ensures.exact in
    let origin : c.origin.result ≡ d.origin = search rules in
    record {
      exact = λ i. record {
        name = name i;
        place = place i;
        is_class = is_class i;
        base = base i;
        above = over i;
        order = order i;
        rank = rank i;
        fields = fields i;
        methods = methods i;
        constructors = constructors i;
        origin = origin i;
      };
    }
