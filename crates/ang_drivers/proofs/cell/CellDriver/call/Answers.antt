use Rattle.std.proofs.Common.{rules, arith, refl, ap, subst, ◌≡◌}
use Rattle.std.specs.Int.{w32, w64, cast_signed, cast_unsigned}
use Rattle.std.specs.Int.RustNames.{FitsSigned}
use Rattle.std.proofs.lemmas.Int.{ints, to_z-of_z}
use Rattle.ang_kinds.specs.declared.value.Value.TheVariants.{Int, Key as KeyValue}
use Rattle.ang_host.specs.State.{call}
use Rattle.ang_host.specs.declared.answer.Answer.TheVariants.{Void, Gave, Fault}
use Rattle.ang_host.specs.declared.answer.HostReply.TheVariants.{Asking}
use Rattle.ang_drivers.specs.declared.cell.CellCall.TheVariants.{Tell, Set, Pick}
use Rattle.ang_drivers.specs.Objects.{IsRevalued}
use Rattle.ang_drivers.specs.Tables.{state_of}
use Rattle.ang_drivers.specs.Cell.{value_code, CellMoves, CallMoves}
use Rattle.ang_drivers.specs.ObjectsLedger.{ledger}
use Rattle.ang_drivers.proofs.Moving.{answered, kept, revalued, revalued_table, held_after, live_after, sound_of}
use Rattle.ang_drivers.proofs.Celling.{call_named}
use Rattle.ang_drivers.proofs.cell.CellDriver.call.Goals as goal

pub value-value-requires : goal.value-value-requires
value-value-requires c = record {
  held =
      let s = ledger c.args.self.now.cells in
      held_after value_code s (ledger c.ask.new.self) c.args.object c.in-Tell.key c.if-not-ask.ensures.asked
      (call_named (state_of value_code s) c.args.f c.args.object c.args.args.now (Tell c.in-Tell.key) c.in-Tell.ensures.exact c.requires.args_live) c.requires.object_live;
}

pub set_value-requires : goal.set_value-requires
set_value-requires c = record {
  held =
      let s = ledger c.args.self.now.cells in
      held_after value_code s (ledger c.ask.new.self) c.args.object c.in-Set.key c.if-not-ask.ensures.asked
      (call_named (state_of value_code s) c.args.f c.args.object c.args.args.now (Set c.in-Set.key c.in-Set.value) c.in-Set.ensures.exact c.requires.args_live) c.requires.object_live;
}

pub returns-in-Tell : goal.returns-in-Tell
returns-in-Tell c =
    let t = ledger c.ask.new.self in
    let z = cast_signed w64 (cast_unsigned w64 c.from.result) in
    let e : z ≡ c.value-value.result = first_of (search rules, omega (arith, ints)) in
    record {
      law =
          answered value_code CellMoves (ledger c.args.self.now.cells) t t (call c.args.f c.args.object c.args.args.now) (Gave (Int z)) c.if-not-ask.ensures.asked (kept t) tt
          (subst (λ m. CallMoves t.table m (Asking (Gave (Int z))) t.table) c.in-Tell.ensures.exact (c.value-value.result, c.value-value.ensures.exact, ap (λ n. Asking (Gave (Int n))) e, refl)) tt
          (sound_of value_code c.ask.new.self);
    }

pub returns-in-Set : goal.returns-in-Set
returns-in-Set c =
    let t = ledger c.ask.new.self in
    let u = ledger c.set_value.new.self in
    let k = c.in-Set.key in
    let z = c.in-Set.value in
    let fits : FitsSigned w32 z = search rules in
    let set : IsRevalued t k z u = subst (λ n. IsRevalued t k n u) (to_z-of_z w32 z fits) c.set_value.ensures.revalued in
    record {
      law =
          answered value_code CellMoves (ledger c.args.self.now.cells) t u (call c.args.f c.args.object c.args.args.now) Void c.if-not-ask.ensures.asked (revalued t u k z set) tt
          (subst (λ m. CallMoves t.table m (Asking Void) u.table) c.in-Set.ensures.exact (refl, revalued_table t u k z z set refl)) tt (sound_of value_code c.set_value.new.self);
    }

pub returns-in-Pick : goal.returns-in-Pick
returns-in-Pick c =
    let s = ledger c.args.self.now.cells in
    let t = ledger c.ask.new.self in
    record {
      law =
          answered value_code CellMoves s t t (call c.args.f c.args.object c.args.args.now) (Gave (KeyValue c.in-Pick.key)) c.if-not-ask.ensures.asked (kept t) tt
          (subst (λ m. CallMoves t.table m (Asking (Gave (KeyValue c.in-Pick.key))) t.table) c.in-Pick.ensures.exact (refl, refl))
          (live_after value_code s t c.in-Pick.key c.if-not-ask.ensures.asked (call_named (state_of value_code s) c.args.f c.args.object c.args.args.now (Pick c.in-Pick.key) c.in-Pick.ensures.exact c.requires.args_live))
          (sound_of value_code c.ask.new.self);
    }

pub returns-in-Unknown : goal.returns-in-Unknown
returns-in-Unknown c =
    let t = ledger c.ask.new.self in
    record {
      law =
          answered value_code CellMoves (ledger c.args.self.now.cells) t t (call c.args.f c.args.object c.args.args.now) (Fault 1) c.if-not-ask.ensures.asked (kept t) tt
          (subst (λ m. CallMoves t.table m (Asking (Fault 1)) t.table) c.in-Unknown.ensures.exact (refl, refl)) tt (sound_of value_code c.ask.new.self);
    }
