use Rattle.std.proofs.Common.{rules, ◌≡◌, refl, ap, inl, inr, ◌∷◌, ◌∙◌, map as list_map}
use Rattle.std.proofs.lemmas.Bool.{ne_eqb}
use Rattle.std.proofs.lemmas.List.{map-append}
use Rattle.ang_kinds.specs.declared.value.Value.TheVariants.{Int}
use Rattle.ang_host.specs.declared.answer.Answer.TheVariants.{Void, Fault, Memory}
use Rattle.ang_host.specs.State.{call}
use Rattle.ang_drivers.specs.Console.{code_of}
use Rattle.ang_drivers.proofs.ConsoleLaws.{console_answers, console_full}
use Rattle.ang_drivers.proofs.console.ConsoleDriver.call.Goals as goal

pub returns-then-self-eq-LIMIT : goal.returns-then-self-eq-LIMIT
returns-then-self-eq-LIMIT c = record {
  law =
      console_full c.args.self.now.register c.args.self.now.notes.items c.args.self.now.asked (call c.args.f c.args._object c.args.args.now) c.if-self-eq-LIMIT.true;
}

pub returns-in-1 : goal.returns-in-1
returns-in-1 c = record {
  law =
      console_answers c.args.self.now.register c.args.self.now.register c.args.self.now.notes.items c.args.self.now.notes.items c.args.self.now.asked (call c.args.f c.args._object c.args.args.now) c.sum_of.result c.sum_of.ensures.plain (rw c.in-1.is (c.sum_of.ensures.law, refl));
}

pub returns-in-2 : goal.returns-in-2
returns-in-2 c = record {
  law =
      console_answers c.args.self.now.register c.args.self.now.register c.args.self.now.notes.items c.args.self.now.notes.items c.args.self.now.asked (call c.args.f c.args._object c.args.args.now) c.fault_of.result c.fault_of.ensures.plain (rw c.in-2.is (c.fault_of.ensures.law, refl));
}

pub returns-in-Ok : goal.returns-in-Ok
returns-in-Ok c = record {
  law =
      console_answers c.args.self.now.register c.args.self.now.register c.args.self.now.notes.items c.note.new.notes.items c.args.self.now.asked (call c.args.f c.args._object c.args.args.now) Void tt
      (rw c.in-0.is (inl (
        refl,
        ap (λ ns. code_of (Int c.args.self.now.register) ∷ list_map code_of ns) c.in-Ok.ensures.added
            ∙ ap (λ ns. code_of (Int c.args.self.now.register) ∷ ns) (map-append code_of c.args.self.now.notes.items c.args.args.now),
      )));
}

pub returns-in-Err : goal.returns-in-Err
returns-in-Err c = record {
  law =
      console_answers c.args.self.now.register c.args.self.now.register c.args.self.now.notes.items c.note.new.notes.items c.args.self.now.asked (call c.args.f c.args._object c.args.args.now) Memory tt
      (rw c.in-0.is (inr (refl, ap (λ ns. code_of (Int c.args.self.now.register) ∷ list_map code_of ns) c.in-Err.ensures.kept)));
}

pub returns-in_default : goal.returns-in_default
returns-in_default c = record {
  law =
      let n0 : c.args.f ≡ 0 → ⊥ = search rules in
      let n1 : c.args.f ≡ 1 → ⊥ = search rules in
      let n2 : c.args.f ≡ 2 → ⊥ = search rules in
      console_answers c.args.self.now.register c.args.self.now.register c.args.self.now.notes.items c.args.self.now.notes.items c.args.self.now.asked (call c.args.f c.args._object c.args.args.now) (Fault 1) tt
      (rw (ne_eqb c.args.f 0 n0, ne_eqb c.args.f 1 n1, ne_eqb c.args.f 2 n2) (refl, refl));
}
