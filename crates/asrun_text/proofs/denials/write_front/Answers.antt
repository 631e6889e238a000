use Rattle.std.proofs.Common.{arith}
use Rattle.asrun_text.proofs.denials.write_front.Goals as goal

pub write_number-at-requires-clause-room : goal.write_number-at-requires-clause-room
write_number-at-requires-clause-room c = omega (arith, c.requires.room, c.write_bytes-at.ensures.start)
