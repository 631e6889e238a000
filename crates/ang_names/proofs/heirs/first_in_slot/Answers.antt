use Rattle.std.specs.Prelude.{ℕ, ◌≡◌, ◌+◌, ◌==◌, Bool, None, drop, find, get_or, slice_get}
use Rattle.std.specs.Option.{option_or}
use Rattle.std.proofs.Common.{rules, sym, ap, ◌∙◌}
use Rattle.ang_names_known.specs.declared.names.ScriptMethod.{ScriptMethod}
use Rattle.ang_names.specs.ByNumber.{methods_at, methods_in}
use Rattle.ang_names.proofs.Inherited.{first_from}
use Rattle.ang_names.proofs.heirs.first_in_slot.Goals as goal

pub returns-in-Some : goal.returns-in-Some
returns-in-Some c =
    let fs = c.args.families.now in
    let order = c.args.order.now in
    let i = c.loop-number.number-index in
    let n : ℕ = get_or order i 0 in
    let p : ScriptMethod → Bool = λ m. m.slot == c.args.slot in
    let here = sym c.in-Some.ensures.exact in
    record {
      exact = sym (
          c.loop-number.invariant
          ∙ first_from p (λ k. methods_in (slice_get fs k)) order i c.loop-number-test.true
          ∙ ap (λ o. option_or o (find p (methods_at fs (drop (i + 1) order)))) here);
    }

pub loop-number-preserved : goal.loop-number-preserved
loop-number-preserved c =
    let fs = c.args.families.now in
    let order = c.args.order.now in
    let i = c.loop-number.number-index in
    let n : ℕ = get_or order i 0 in
    let p : ScriptMethod → Bool = λ m. m.slot == c.args.slot in
    let here : find p (methods_in (slice_get fs n)) ≡ None = search rules in
    c.loop-number.invariant
    ∙ first_from p (λ k. methods_in (slice_get fs k)) order i c.loop-number-test.true
    ∙ ap (λ o. option_or o (find p (methods_at fs (drop (i + 1) order)))) here
