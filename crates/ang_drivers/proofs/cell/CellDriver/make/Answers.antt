use Rattle.std.proofs.Common.{rules, refl, ap, subst, ◌∙◌, ◌≡◌, Some}
use Rattle.std.specs.Prelude.{◌+ℤ◌}
use Rattle.std.specs.Int.{w32, w64, int_wrap, int_wrapping_add}
use Rattle.std.specs.Int.RustNames.{FitsSigned}
use Rattle.std.proofs.lemmas.Int.{to_z-of_z, wrapping_add_is, int_wrap-add_right}
use Rattle.ang_host.specs.State.{make}
use Rattle.ang_host.specs.declared.answer.Made.TheVariants.{Fault as MadeFault}
use Rattle.ang_host.specs.declared.answer.HostReply.TheVariants.{Making}
use Rattle.ang_drivers.specs.Objects.{MakesOne}
use Rattle.ang_drivers.specs.Tables.{MakesValue}
use Rattle.ang_drivers.specs.Cell.{value_code, CellMoves, MakingMoves}
use Rattle.ang_drivers.specs.ObjectsLedger.{ledger}
use Rattle.ang_drivers.proofs.Moving.{made_value, made_fault, sound_of}
use Rattle.ang_drivers.proofs.cell.CellDriver.make.Goals as goal

pub returns-in-Of : goal.returns-in-Of
returns-in-Of c =
    let t = ledger c.ask.new.self in
    let u = ledger c.make.new.self in
    let z = c.in-Of.value in
    let fits : FitsSigned w32 z = search rules in
    let made : MakesOne t z c.make.result u = subst (λ n. MakesOne t n c.make.result u) (to_z-of_z w32 z fits) c.make.ensures.made in
    record {
      law =
          made_value value_code CellMoves (ledger c.args.self.now.cells) t u (make c.args.f c.args.args.now) z c.make.result c.if-not-ask.ensures.asked made
          (λ r y m. subst (λ o. MakingMoves t.table o r y) c.in-Of.ensures.exact m) (sound_of value_code c.make.new.self);
    }

pub returns-in-Above : goal.returns-in-Above
returns-in-Above c =
    let t = ledger c.ask.new.self in
    let u = ledger c.make-in-Above.new.self in
    let k = c.in-Above.key in
    let z = c.in-Above.more in
    let v = c.value.result in
    let sum = int_wrapping_add w32 v c.low_32.result in
    let wide : FitsSigned w64 z = search rules in
    let low : c.low_32.result ≡ int_wrap w32 z = c.low_32.ensures.exact ∙ ap (int_wrap w32) (to_z-of_z w64 z wide) in
    let fits_v : FitsSigned w32 v = search rules in
    let fits_low : FitsSigned w32 c.low_32.result = search rules in
    let wrapped : sum ≡ int_wrap w32 (v +ℤ z) = wrapping_add_is w32 v c.low_32.result fits_v fits_low ∙ ap (λ n. int_wrap w32 (v +ℤ n)) low ∙ int_wrap-add_right w32 v z in
    let made : MakesOne t sum c.make-in-Above.result u = c.make-in-Above.ensures.made in
    record {
      law =
          made_value value_code CellMoves (ledger c.args.self.now.cells) t u (make c.args.f c.args.args.now) sum c.make-in-Above.result c.if-not-ask.ensures.asked made
          (λ r y m. subst (λ o. MakingMoves t.table o r y) c.in-Above.ensures.exact (v, c.value.ensures.exact, subst (λ n. MakesValue t.table (Some n) r y) wrapped m)) (sound_of value_code c.make-in-Above.new.self);
    }

pub returns-in-Unknown : goal.returns-in-Unknown
returns-in-Unknown c =
    let t = ledger c.ask.new.self in
    record {
      law =
          made_fault value_code CellMoves (ledger c.args.self.now.cells) t (make c.args.f c.args.args.now) 1 c.if-not-ask.ensures.asked
          (subst (λ o. MakingMoves t.table o (Making (MadeFault 1)) t.table) c.in-Unknown.ensures.exact (refl, refl)) (sound_of value_code c.ask.new.self);
    }
