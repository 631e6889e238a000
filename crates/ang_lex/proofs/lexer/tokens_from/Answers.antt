use Rattle.std.proofs.Common.{◌-◌, length, take, drop, sym, arith, length-drop, length-take}
use Rattle.std.proofs.lemmas.List.{take_rest}
use Rattle.ang_lex.proofs.Reading.{reads_start, reads_round}
use Rattle.ang_lex.proofs.lexer.tokens_from.Goals as goal

pub loop-at-init : goal.loop-at-init
loop-at-init c = record {
  within = c.requires.within;
  line = c.requires.line;
  column = c.requires.column;
  reads = rw c.new-tokens.ensures.items (reads_start (length c.args.text.now) c.args.at c.args.place (drop c.args.at c.args.text.now) (omega (arith, length-drop c.args.at c.args.text.now)));
}

pub loop-at-preserved : goal.loop-at-preserved
loop-at-preserved c =
    let text = c.args.text.now in
    let at = c.loop-at.at in
    let is = rw (take_rest text at) at (sym c.in-Ok.ensures.value) in
    let within = rw (take_rest text at, length-drop at text) at c.in-Ok.ensures.within in
    let next = rw (take_rest text at) at c.place_after-place.ensures.value in
    let len_is = c.piece_len-len.ensures.exact in
    let size = length-take c.piece_len-len.result (take (length text - at) (drop at text)) in
    record {
      within = omega (arith, within, len_is);
      line = omega (arith, c.place_after-place.ensures.line, c.loop-at.invariant.line, size);
      column = omega (arith, c.place_after-place.ensures.column, c.loop-at.invariant.column, size);
      reads = reads_round text c.in-Ok.found c.push_piece.new.tokens.items c.piece_len-len.result c.place_after-place.result c.loop-at.invariant.reads c.loop-at-test.true is within.0 c.in_ok-push_piece.ensures.ok len_is next;
    }
