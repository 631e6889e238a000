use Rattle.std.proofs.Common.{Some, map, ◌≡◌, ◌<◌, ◌≤◌, ◌==◌, ℕ, List, [], ◌++◌, cond, length, arith, refl, ap, ◌∙◌}
use Rattle.std.specs.Prelude.{slice_get}
use Rattle.std.proofs.lemmas.List.{take_all}
use Rattle.ang_index.specs.Rows.{items_at}
use Rattle.ang_names_known.specs.declared.names.Family.{Family}
use Rattle.ang_names_known.specs.declared.names.ScriptMethod.{ScriptMethod}
use Rattle.ang_names_known.specs.NameIndex.{method_names, places_of}
use Rattle.ang_names_known.proofs.MembersByPlace.{family_more}
use Rattle.ang_names_known.proofs.places.places_of_methods.Goals as goal

pub loop-number-preserved : goal.loop-number-preserved
loop-number-preserved c k name =
    let fs : List Family = c.args.families.now in
    let n : ℕ = c.loop-number.number in
    let inside : n < length fs = omega arith in
    let old : List ℕ = items_at k name c.loop-number.index in
    let all : c.as_slice-in-loop-number.result.now ≡ method_names (Some c.index-families-number.result) = c.as_slice-in-loop-number.ensures.value ∙ c.in_ok-names.ensures.exact ∙ ap (λ xs. map (λ (m : ScriptMethod). m.function.name) xs) c.as_slice.ensures.same in
    let puts = c.in_ok-push_all.ensures.pushed k name ∙ ap (λ (xs : List (List ℕ)). old ++ cond (n == k) (places_of xs name) []) all in
    family_more method_names refl fs n k c.index-families-number.result name old (items_at k name c.push_all.new.index) inside c.index-families-number.is puts (c.loop-number.invariant k name)

pub returns : goal.returns
returns c =
    let fs : List Family = c.args.families.now in
    let over : length fs ≤ c.loop-number.number = omega arith in
    record {
      exact = λ k name.
          c.loop-number.invariant k name ∙ ap (λ xs. places_of (method_names (slice_get xs k)) name) (take_all c.loop-number.number fs over);
    }
