use Rattle.std.proofs.Common.{ap, sym, ◌∙◌}
use Rattle.std.specs.Prelude.{Ok}
use Rattle.ang_engine_build.proofs.section.read_section.Goals as goal

pub parse-requires : goal.parse-requires
parse-requires c = record { tokens = record { sect = c.args.sect; are = c.in-Ok.ensures.tokens ∙ ap Ok (sym c.deref.ensures.value) } }
