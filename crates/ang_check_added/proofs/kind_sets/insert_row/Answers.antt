use Rattle.std.specs.Prelude.{◌==◌, ◌&&◌, slice_get}
use Rattle.std.proofs.Common.{get_or, sym, ap, ◌∙◌, arith}
use Rattle.std.proofs.lemmas.Option.{slice_get-get_or, slice_get_past}
use Rattle.ang_check_added.specs.Sets.{in_kind, is_number, sets_in}
use Rattle.ang_check_added.proofs.SetLaws.{all_below, further}
use Rattle.ang_check_added.proofs.kind_sets.insert_row.Goals as goal

pub loop-place-preserved : goal.loop-place-preserved
loop-place-preserved c p k n =
    let l = c.loop-place in
    let row = c.args.row.now in
    let number = c.args.number in
    further (in_kind (sets_in c.args.places.now.items p) k n) (in_kind (sets_in l.places.items p) k n) (in_kind (sets_in c.insert_place.new.places.items p) k n)
    p l.place (is_number (slice_get row p) k && (number == n)) ((get_or row l.place 0 == k) && (number == n))
    (l.invariant p k n)
    (c.insert_place.ensures.added c.if-not-insert_place.false p k n)
    (λ e. ap (λ o. is_number o k && (number == n)) (sym (slice_get-get_or row l.place 0 c.loop-place-test.true) ∙ ap (slice_get row) e))

pub returns : goal.returns
returns c =
    let l = c.loop-place in
    let row = c.args.row.now in
    let number = c.args.number in
    record {
      added = λ t p k n.
          l.invariant p k n
          ∙ all_below (in_kind (sets_in c.args.places.now.items p) k n) (is_number (slice_get row p) k && (number == n)) p l.place
          (λ le. ap (λ o. is_number o k && (number == n)) (slice_get_past row p (omega arith)));
    }
