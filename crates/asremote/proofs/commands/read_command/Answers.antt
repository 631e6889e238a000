use Rattle.std.proofs.Common.{ap, ◌∙◌}
use Rattle.asrun_lines.specs.Lines.{shown_of}
use Rattle.asremote.proofs.Lining.{command_read, command_last, command_long, first_few}
use Rattle.asremote.proofs.commands.read_command.Goals as goal

pub read_section-requires : goal.read_section-requires
read_section-requires g c = record { few = first_few _ _ _ (rw c.requires.empty at c.in-Line.ensures.heard) }

pub returns-in_ok-lines-in-Line : goal.returns-in_ok-lines-in-Line
returns-in_ok-lines-in-Line g c = record {
  read = command_read _ _ _ _ _ _ _ c.read_section.result (rw c.requires.empty at c.in-Line.ensures.heard) c.in_ok-lines-in-Line.ensures.exact (c.shown.ensures.exact ∙ ap shown_of c.as_slice.ensures.value) c.read_section.ensures.read;
}

pub returns-in-Last : goal.returns-in-Last
returns-in-Last g c = record { read = command_last _ _ _ (rw c.requires.empty at c.in-Last.ensures.heard) }

pub returns-in-Long : goal.returns-in-Long
returns-in-Long g c = record { read = command_long _ _ _ (rw c.requires.empty at c.in-Long.ensures.heard) }
