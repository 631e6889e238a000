use Rattle.std.proofs.Common.{◌*◌, ◌/◌, ◌%◌, ◌^◌, set, bit_or, ap, ◌∙◌}
use Rattle.std.proofs.lemmas.List.{get_or_default}
use Rattle.ang_types.specs.Marks.{bit_of}
use Rattle.ang_types.proofs.MarkLaws.{bit_of-set}
use Rattle.ang_types.proofs.marks.set_bit.Goals as goal

pub returns-clause-set : goal.returns-clause-set
returns-clause-set c n =
    let words = c.args.words.now.items in
    let at = c.args.at in
    ap (λ w. bit_of (set words (at / 64) (bit_or w (1 * 2 ^ (at % 64) % 2 ^ 64))) n)
    (c.index_mut.ensures.value ∙ get_or_default words (at / 64) c.index_mut.result.now 0 c.requires.there)
    ∙ bit_of-set words at c.requires.there n
