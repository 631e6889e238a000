use Rattle.std.proofs.Common.{◌≡◌, Some, None, option_copied, map as list_map, ap}
use Rattle.ang_names_listed.specs.Sources.{source_of}
use Rattle.ang_names.proofs.Named.{found_as}
use Rattle.ang_check.proofs.Asking.{body_rows, phase_rows}
use Rattle.ang_check.proofs.denying.rows_masked.Goals as goal

pub returns-in-None : goal.returns-in-None
returns-in-None c =
    let R = c.args.registry.now.entries in
    let ss = list_map source_of c.args.scripts.now in
    let none : option_copied c.args.names ≡ None = ap option_copied c.in-None.is in
    record {
      exact =
          found_as (λ rows. rows.items) _ _ c.rows_of_phases.result c.rows_of_phases.ensures.exact
          (phase_rows R c.args.mask.0 ss (option_copied c.args.names) c.requires.errors.0 _ _ _ c.requires.errors.1 none
          c.requires.list c.requires.mask c.in_ok-view.ensures.exact);
    }

pub returns : goal.returns
returns c =
    let R = c.args.registry.now.entries in
    let ss = list_map source_of c.args.scripts.now in
    let some : option_copied c.args.names ≡ Some c.in-Some.names.now = ap option_copied c.in-Some.is in
    record {
      exact =
          found_as (λ rows. rows.items) _ _ c.rows_of_bodies.result c.rows_of_bodies.ensures.exact
          (body_rows R c.args.mask.0 ss (option_copied c.args.names) c.in-Some.names.now c.requires.errors.0 _ _ _ c.requires.errors.1 some
          c.requires.list c.requires.mask c.in_ok-view.ensures.exact);
    }
