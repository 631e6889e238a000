use Rattle.std.proofs.Common.{rules, ◌≡◌, refl, sym, subst, ◌+◌}
use Rattle.std.proofs.lemmas.Bool.{ne_eqb}
use Rattle.std.specs.Int.{w64, cast_signed, cast_unsigned}
use Rattle.ang_kinds.specs.declared.value.Value.TheVariants.{Int}
use Rattle.ang_host.specs.declared.answer.Answer.TheVariants.{Gave, Fault}
use Rattle.ang_host.specs.State.{read}
use Rattle.ang_host.specs.Laws.{Answered}
use Rattle.ang_drivers.specs.Console.{ConsoleFits, console_state}
use Rattle.ang_drivers.proofs.ConsoleLaws.{console_answers, console_full}
use Rattle.ang_drivers.proofs.console.ConsoleDriver.read.Goals as goal

pub returns-then-self-eq-LIMIT : goal.returns-then-self-eq-LIMIT
returns-then-self-eq-LIMIT c = record {
  law =
      console_full c.args.self.now.register c.args.self.now.notes.items c.args.self.now.asked (read c.args.f c.args._object) c.if-self-eq-LIMIT.true;
}

pub returns-then-f-eq0 : goal.returns-then-f-eq0
returns-then-f-eq0 c = record {
  law =
      let e : cast_signed w64 (cast_unsigned w64 c.args.self.now.register) ≡ c.args.self.now.register = search rules in
      subst (λ z. Answered ConsoleFits (console_state c.args.self.now.register c.args.self.now.notes.items c.args.self.now.asked) (read c.args.f c.args._object) (Gave (Int z)) (console_state c.args.self.now.register c.args.self.now.notes.items (c.args.self.now.asked + 1))) (sym e)
      (console_answers c.args.self.now.register c.args.self.now.register c.args.self.now.notes.items c.args.self.now.notes.items c.args.self.now.asked (read c.args.f c.args._object) (Gave (Int c.args.self.now.register)) tt
      (rw c.if-f-eq0.true ((c.args.self.now.register, refl, refl), refl)));
}

pub returns-else-f-eq0 : goal.returns-else-f-eq0
returns-else-f-eq0 c = record {
  law =
      console_answers c.args.self.now.register c.args.self.now.register c.args.self.now.notes.items c.args.self.now.notes.items c.args.self.now.asked (read c.args.f c.args._object) (Fault 1) tt (rw (ne_eqb c.args.f 0 c.if-f-eq0.false) (refl, refl));
}
