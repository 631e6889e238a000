use Rattle.std.proofs.Common.{◌≡◌, length, option_copied, map as list_map, rules, sym, ◌∙◌}
use Rattle.ang_names_listed.specs.Sources.{source_of}
use Rattle.ang_check.proofs.Asking.{no_denials}
use Rattle.ang_check.proofs.denying.denials.Goals as goal

pub returns-then-is_empty : goal.returns-then-is_empty
returns-then-is_empty c =
    let none : length c.args.errors.now ≡ 0 = search rules in
    record {
      exact =
          c.new.ensures.items
          ∙ sym (no_denials c.args.registry.now.entries c.args.mask.0 (list_map source_of c.args.scripts.now) (option_copied c.args.names) c.args.errors.now
          c.requires.errors none);
    }
