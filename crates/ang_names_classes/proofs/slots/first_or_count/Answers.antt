use Rattle.std.specs.Prelude.{◌≡◌, Bool, find, length, unwrap_or}
use Rattle.std.proofs.Common.{rules, ap, ◌∙◌}
use Rattle.ang_names_known.specs.declared.names.ScriptFunction.{ScriptFunction}
use Rattle.ang_names_classes.specs.Slots.{is_same_at}
use Rattle.ang_names_classes.proofs.Named.{first_keyed}
use Rattle.ang_names_classes.proofs.slots.first_or_count.Goals as goal

pub returns : goal.returns
returns c =
    let all = c.args.items.now in
    let s : ScriptFunction × Bool = (c.args.function.now, c.args.read_only) in
    let here : c.unwrap_or.result ≡ unwrap_or (find (is_same_at all s) c.args.keyed.now) (length all) = search rules in
    record { exact = here ∙ ap (λ row. unwrap_or (find (is_same_at all s) row) (length all)) c.requires.keyed ∙ first_keyed all s }
