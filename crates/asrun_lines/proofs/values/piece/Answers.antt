use Rattle.std.proofs.Common.{arith, sym}
use Rattle.std.proofs.lemmas.List.{length-take, length-drop}
use Rattle.asrun_lines.proofs.Cuts.{split_at_place, split_without_place}
use Rattle.asrun_lines.specs.Values.{is_comma}
use Rattle.asrun_lines.proofs.values.piece.Goals as goal

pub returns-in_err-at : goal.returns-in_err-at
returns-in_err-at c = rw c.from_residual.ensures record {
  none = split_without_place is_comma c.args.text.now (sym c.in_err-at.ensures.exact);
  some = tt;
  shorter = tt;
}

pub returns : goal.returns
returns c = record {
  none = tt;
  some = split_at_place is_comma c.args.text.now c.in_ok-at.at (sym c.in_ok-at.ensures.exact);
  shorter = simp (length-take, length-drop) (omega (arith, c.in_ok-at.ensures.within));
}
