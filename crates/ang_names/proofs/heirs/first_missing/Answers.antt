use Rattle.std.specs.Prelude.{ℕ, ◌≡◌, ◌+◌, Bool, not, None, drop, find, get_or, slice_get}
use Rattle.std.specs.Option.{option_or}
use Rattle.std.proofs.Common.{rules, sym, ap, ◌∙◌}
use Rattle.ang_names_known.specs.declared.names.ScriptMethod.{ScriptMethod}
use Rattle.ang_names.specs.Heirs.{has_public_method}
use Rattle.ang_names.specs.ByNumber.{interface_methods, interface_methods_at}
use Rattle.ang_names.proofs.Inherited.{first_from}
use Rattle.ang_names.proofs.heirs.first_missing.Goals as goal

pub returns-in-Some : goal.returns-in-Some
returns-in-Some c =
    let fs = c.args.families.now in
    let order = c.args.above.now in
    let i = c.loop-number.number-index in
    let n : ℕ = get_or order i 0 in
    let p : ScriptMethod → Bool = λ m. not (has_public_method fs c.args.class m) in
    let own = c.interface_methods-methods.ensures.exact ∙ ap (λ gs. interface_methods (slice_get gs n)) c.families.ensures.same in
    let here = ap (find p) (sym own) ∙ sym c.in-Some.ensures.exact in
    record {
      exact = sym (
          c.loop-number.invariant
          ∙ first_from p (λ k. interface_methods (slice_get fs k)) order i c.loop-number-test.true
          ∙ ap (λ o. option_or o (find p (interface_methods_at fs (drop (i + 1) order)))) here);
    }

pub loop-number-preserved : goal.loop-number-preserved
loop-number-preserved c =
    let fs = c.args.families.now in
    let order = c.args.above.now in
    let i = c.loop-number.number-index in
    let n : ℕ = get_or order i 0 in
    let p : ScriptMethod → Bool = λ m. not (has_public_method fs c.args.class m) in
    let none : find p c.interface_methods-methods.result.now ≡ None = search rules in
    let own = c.interface_methods-methods.ensures.exact ∙ ap (λ gs. interface_methods (slice_get gs n)) c.families.ensures.same in
    let here : find p (interface_methods (slice_get fs n)) ≡ None = ap (find p) (sym own) ∙ none in
    c.loop-number.invariant
    ∙ first_from p (λ k. interface_methods (slice_get fs k)) order i c.loop-number-test.true
    ∙ ap (λ o. option_or o (find p (interface_methods_at fs (drop (i + 1) order)))) here
