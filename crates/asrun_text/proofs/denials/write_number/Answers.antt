use Rattle.std.proofs.Common.{arith}
use Rattle.asrun_text.proofs.Parts.{short_number}
use Rattle.asrun_text.proofs.denials.write_number.Goals as goal

pub write_digits-requires : goal.write_digits-requires
write_digits-requires c =
    let short = short_number c.from.result (omega (arith, c.from.ensures, c.ranges.n.fits)) in
    omega (arith, c.requires.room, c.requires.within, short)

pub returns-clause-short : goal.returns-clause-short
returns-clause-short c = short_number c.args.n c.ranges.n.fits
