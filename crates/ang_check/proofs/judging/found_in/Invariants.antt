use Rattle.std.proofs.Common.{take, map as list_map}
use Rattle.std.specs.List.{flat_map}
use Rattle.ang_names_listed.specs.Sources.{source_of}
use Rattle.ang_check.specs.Judging.{Judges, section_of}
use Rattle.ang_check.proofs.judging.found_in.Given as goal

abbrev pub invariant-loop-script : goal.invariant-loop-script
invariant-loop-script l =
    Judges l.build.view.now l.build.names.now l.initial.left l.left l.initial.found l.found
    (flat_map section_of (list_map source_of (take l.script-index l.scripts)))
