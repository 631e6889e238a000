use Rattle.std.proofs.Common.{ℕ, ◌≤◌, ◌++◌, List, length, take, get_or, arith, ap, ◌∙◌}
use Rattle.std.specs.Prelude.{filter, slice_get}
use Rattle.std.specs.List.{flat_map}
use Rattle.std.proofs.lemmas.List.{take_all}
use Rattle.ang_names_known.specs.declared.names.Family.{Family}
use Rattle.ang_names_known.specs.Lookup.{FoundMethod, is_named, methods_in, methods_of, methods_named}
use Rattle.ang_names_known.proofs.MembersByPlace.{methods_are}
use Rattle.ang_names_known.proofs.NearestMethods.{nearest, methods_at, family_more}
use Rattle.ang_names_known.proofs.methods.methods_in.Goals as goal

pub loop-number-preserved : goal.loop-number-preserved
loop-number-preserved c =
    let fs : List Family = c.args.families.now in
    let name : List ℕ = c.args.name.now in
    let order : List ℕ = c.order_of-order.result.now in
    let i : ℕ = c.loop-number.number-index in
    let n : ℕ = get_or order i 0 in
    let before : List FoundMethod = filter (is_named name) (methods_at fs (take i order)) in (
      c.in_ok-push_methods.ensures.there,
      c.in_ok-push_methods.ensures.pushed before c.loop-number.invariant.1
          ∙ ap (λ ms. nearest (before ++ ms)) (methods_are (slice_get fs n) n name c.find-places.result.now (c.find-places.ensures.exact ∙ c.requires.indexed n name))
          ∙ ap nearest (family_more fs name order i c.loop-number-test.true),
      c.in_ok-push_methods.ensures.slots,
    )

pub returns : goal.returns
unfolding methods_named methods_of
returns c =
    let over : length c.order_of-order.result.now ≤ c.loop-number.number-index = omega arith in
    record {
      there = c.loop-number.invariant.0;
      exact =
          c.loop-number.invariant.1
          ∙ ap (λ ns. nearest (filter (is_named c.args.name.now) (methods_at c.args.families.now ns))) (take_all c.loop-number.number-index c.order_of-order.result.now over)
          ∙ ap (λ kin. nearest (filter (is_named c.args.name.now) (flat_map methods_in kin))) c.order_of-order.ensures.exact;
    }
