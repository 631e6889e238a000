use Rattle.std.specs.Prelude.{false, filter, slice_index_or, ◌&&◌, IfOk}
use Rattle.std.specs.List.{list_any, range_with_len}
use Rattle.std.proofs.Common.{◌≡◌, ℕ, Bool, List, true, length, subst, sym, ap, ◌∙◌}
use Rattle.ang_view.specs.Hidden.{is_unmet, is_with, numbers_of}
use Rattle.ang_check_added.specs.Brought.{are_alone}
use Rattle.ang_check_added.proofs.Bringing.{alone_are, marked_are}
use Rattle.ang_check_denials.proofs.rows.denied_with.Goals as goal

pub returns-then-are_alone : goal.returns-then-are_alone
returns-then-are_alone c =
    let R = c.args.masked.now.list in
    let m = c.args.masked.now.mask in
    let alone : are_alone R m c.args.helpers.items ≡ true =
    sym (c.are_alone.ensures.exact ∙ ap (are_alone R m) c.as_slice-entries.ensures.value) ∙ c.if-are_alone.true in
    record { exact = alone_are R m c.args.helpers.items c.requires.ordered alone }

pub returns : goal.returns
returns c =
    let R = c.args.masked.now.list in
    let m = c.args.masked.now.mask in
    let kept : List Bool → ℕ → List ℕ = λ bs count. filter (λ y. slice_index_or bs y false) (range_with_len 0 count) in
    record {
      exact =
          subst (λ ns. IfOk c.numbers_marked.result (λ numbers. numbers.items ≡ ns))
          (ap (λ bs. kept bs c.len.result) c.as_slice.ensures.value
          ∙ ap (kept c.in_ok-marks.marks.items) c.len.ensures.exact
          ∙ ap (λ bs. kept bs (length R)) c.in_ok-marks.ensures.exact
          ∙ marked_are R m c.as_slice-entries.result.now
          ∙ ap (λ hs. filter (λ y. is_unmet R m y && list_any (λ x. is_with R x y) hs) (numbers_of R)) c.as_slice-entries.ensures.value)
          c.numbers_marked.ensures.exact;
    }
