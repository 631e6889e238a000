use Rattle.std.proofs.Common.{rules, ◌==◌, not}
use Rattle.std.proofs.lemmas.Fn.{filter_same}
use Rattle.ang_engine_modules.proofs.module_places.remove_number.Goals as goal

pub returns : goal.returns
returns c = record { removed = filter_same _ (λ j. not (j == c.args.home)) _ (λ x b f' k. search rules) _ _ c.retain.ensures.filtered }
