use Rattle.std.proofs.Common.{◌≡◌, ◌++◌, ◌∷◌, [], ℕ, List, Option, Some, length, refl, ap, rules, ◌∙◌}
use Rattle.ang_names_known.specs.declared.kinds.Span.{Span}
use Rattle.ang_names_known.specs.KindRows.{rows_of}
use Rattle.ang_names_known.proofs.KeptNumbers.{rows_more}
use Rattle.ang_names_known.proofs.kinds.KindRows.push.Goals as goal

pub returns : goal.returns
returns c =
    let numbers : List ℕ = c.self.inside.numbers.items in
    let spans : List (Option Span) = c.self.inside.spans.items in
    let row : List ℕ = c.args.row.now in
    let span : Span = record { start = c.len-start.result; count = length row } in
    let counted : c.len-start.result ≡ length numbers = search rules in
    record {
      pushed = (λ i. rows_of (c.in_ok-extend_from_slice.ensures.items i) (c.in_ok-push.ensures.items i))
          ∙ rows_more numbers row spans span c.self.invariant counted refl
          ∙ ap (λ rows. rows ++ Some row ∷ []) c.self.view_is;
    }
