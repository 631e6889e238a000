use Rattle.std.proofs.Common.{◌≡◌, drop, map as list_map}
use Rattle.ang_names_listed.specs.Sources.{source_of}
use Rattle.ang_engine_build.specs.Script.{sources_of}
use Rattle.ang_engine_build.proofs.SoFar.{all_joined}
use Rattle.ang_engine_build.proofs.section.read_sections.Given as goal

abbrev pub invariant-loop-i : goal.invariant-loop-i
invariant-loop-i l = sources_of 0 l.sections ≡ all_joined (list_map source_of l.scripts.items) (sources_of l.i (drop l.i l.sections))
