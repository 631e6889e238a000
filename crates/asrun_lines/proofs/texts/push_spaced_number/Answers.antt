use Rattle.std.proofs.Common.{arith, sym, ap, ◌∙◌, ◌++◌, [], ◌∷◌}
use Rattle.std.proofs.lemmas.Fmt.{decimal_digit}
use Rattle.asrun_lines.proofs.texts.push_spaced_number.Goals as goal

pub returns-then-n-lt10 : goal.returns-then-n-lt10
returns-then-n-lt10 c =
    let digit = decimal_digit c.args.n (omega (arith, c.if-n-lt10.true)) in
    record {
      added = c.in_ok-extend_from_slice.ensures.items
          ∙ ap (λ l. c.args.out.now.items ++ (l ++ 32 ∷ [])) (sym digit);
    }
