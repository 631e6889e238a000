use Rattle.std.proofs.Common.{rules, ◌≡◌, refl, sym, subst, ◌+◌, ◌∷◌, map as list_map}
use Rattle.std.proofs.lemmas.Bool.{ne_eqb}
use Rattle.std.specs.Int.{w64, cast_signed, cast_unsigned}
use Rattle.ang_kinds.specs.declared.value.Value.TheVariants.{Int}
use Rattle.ang_host.specs.declared.answer.Answer.TheVariants.{Void, Fault}
use Rattle.ang_host.specs.State.{write}
use Rattle.ang_host.specs.Laws.{Answered}
use Rattle.ang_drivers.specs.Console.{code_of, ConsoleFits, console_state}
use Rattle.ang_drivers.proofs.ConsoleLaws.{console_answers, console_full, written_other}
use Rattle.ang_drivers.proofs.console.ConsoleDriver.write.Goals as goal

pub returns-then-self-eq-LIMIT : goal.returns-then-self-eq-LIMIT
returns-then-self-eq-LIMIT c = record {
  law =
      console_full c.args.self.now.register c.args.self.now.notes.items c.args.self.now.asked (write c.args.f c.args._object c.args.value) c.if-self-eq-LIMIT.true;
}

pub returns-then-f-ne0 : goal.returns-then-f-ne0
returns-then-f-ne0 c = record {
  law =
      console_answers c.args.self.now.register c.args.self.now.register c.args.self.now.notes.items c.args.self.now.notes.items c.args.self.now.asked (write c.args.f c.args._object c.args.value) (Fault 1) tt (rw (ne_eqb c.args.f 0 c.if-f-ne0.true) (refl, refl));
}

pub returns-in-Int : goal.returns-in-Int
returns-in-Int c = record {
  law =
      let e : cast_signed w64 (cast_unsigned w64 c.in-Int.number) ≡ c.in-Int.number = search rules in
      subst (λ z. Answered ConsoleFits (console_state c.args.self.now.register c.args.self.now.notes.items c.args.self.now.asked) (write c.args.f c.args._object c.args.value) Void (console_state z c.args.self.now.notes.items (c.args.self.now.asked + 1))) (sym e)
      (console_answers c.args.self.now.register c.in-Int.number c.args.self.now.notes.items c.args.self.now.notes.items c.args.self.now.asked (write c.args.f c.args._object c.args.value) Void tt
      (let z : c.args.f ≡ 0 = search rules in rw (z, c.in-Int.is) (refl, refl)));
}

pub returns-in_default : goal.returns-in_default
returns-in_default c = record {
  law =
      console_answers c.args.self.now.register c.args.self.now.register c.args.self.now.notes.items c.args.self.now.notes.items c.args.self.now.asked (write c.args.f c.args._object c.args.value) (Fault 1) tt
      (let z : c.args.f ≡ 0 = search rules in rw z (written_other (code_of (Int c.args.self.now.register) ∷ list_map code_of c.args.self.now.notes.items) c.args.value c.in_default.not-Int));
}
