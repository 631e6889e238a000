use Rattle.asrun_lines.proofs.Headers.{no_header}
use Rattle.std.proofs.lemmas.Slice.Eq.{bytes_eq-Decides}
use Rattle.std.specs.Bool.{one_answer}
use Rattle.asrun_lines.proofs.session_lines.is_section.Goals as goal

pub returns : goal.returns
returns c = record { exact = one_answer _ _ c.eq_ignore_ascii_case.ensures.test (bytes_eq-Decides _ _) }
