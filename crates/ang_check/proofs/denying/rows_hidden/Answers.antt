use Rattle.std.proofs.Common.{◌≡◌, false, is_some, map as list_map, rules, sym, ap, ◌∙◌}
use Rattle.std.specs.List.{list_any}
use Rattle.ang_view.specs.Hidden.{hidden}
use Rattle.ang_names_listed.specs.Sources.{source_of}
use Rattle.ang_check.proofs.Hiding.{any_marked, nothing_hidden}
use Rattle.ang_check.proofs.denying.rows_hidden.Goals as goal

pub returns-then-not-hides_any : goal.returns-then-not-hides_any
returns-then-not-hides_any c =
    let R = c.args.registry.now.entries in
    let same : c.hides_any.result ≡ list_any is_some (hidden R c.args.mask.0) =
    c.hides_any.ensures.exact ∙ ap (list_any (λ hides. hides)) c.requires.hidden ∙ any_marked (hidden R c.args.mask.0) in
    let none : c.hides_any.result ≡ false = search rules in
    record {
      exact = c.no_rows.ensures.none ∙ sym (nothing_hidden R c.args.mask.0 (list_map source_of c.args.scripts.now) (sym same ∙ none));
    }
