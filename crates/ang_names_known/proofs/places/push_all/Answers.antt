use Rattle.std.proofs.Common.{◌≡◌, ◌<◌, ◌≤◌, ◌==◌, ℕ, List, [], drop, get_or, length, arith, sym, ◌∙◌}
use Rattle.std.proofs.lemmas.List.{drop_all, get_or_read}
use Rattle.ang_index.specs.Rows.{items_at}
use Rattle.ang_names_known.proofs.NameIndex.{place_more, places_end}
use Rattle.ang_names_known.proofs.places.push_all.Goals as goal

pub loop-place-preserved : goal.loop-place-preserved
loop-place-preserved c s name =
    let all : List (List ℕ) = c.args.names.now in
    let n = c.loop-place.place in
    let inside : n < length all = omega arith in
    let is : c.bytes.result.now ≡ get_or all n [] = c.bytes.ensures.exact ∙ get_or_read all _ _ inside c.index-names-place.is [] in
    place_more c.args.scope s n name c.bytes.result.now all (items_at s name c.args.index.now) (items_at s name c.loop-place.index) (items_at s name c.push.new.self)
    inside is (c.in_ok-push.ensures.pushed s name) (c.loop-place.invariant s name)

pub returns : goal.returns
returns c =
    let all : List (List ℕ) = c.args.names.now in
    let n = c.loop-place.place in
    let over : length all ≤ n = omega arith in
    record {
      pushed = λ s name.
          sym (c.loop-place.invariant s name ∙ places_end (c.args.scope == s) name (items_at s name c.loop-place.index) n (drop n all) (drop_all n all over));
    }
