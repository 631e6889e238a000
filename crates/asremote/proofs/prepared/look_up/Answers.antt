use Rattle.std.proofs.Common.{◌≡◌, ◌≤◌, ◌++◌, ◌∷◌, [], true, ℕ, List, length, Result, Ok, Err, IfOk, IfErr, OnOk, OnErr}
use Rattle.ang_engine.specs.Prepared.{IsFunctionOf, build_in, number_in, is_there, looked_up}
use Rattle.ang_engine.specs.declared.prepared.Prepared.{Prepared}
use Rattle.ang_engine_modules.specs.declared.reply.Refusal.{Refusal}
use Rattle.ang_engine_modules.specs.declared.reply.Refusal.TheVariants.{Memory}
use Rattle.asremote.specs.Standing.{Standing, LooksUp, standing}
use Rattle.asremote.proofs.prepared.look_up.Goals as goal

-- what was found is kept behind the others, unless memory ran out
kept : (s : Standing) (name decl : List ℕ) (p : Prepared) (after : List Prepared) → IsFunctionOf s.world s.builds p name decl → looked_up name decl s.world ≡ Ok (number_in p)
    → is_there s.builds p ≡ true → build_in p ≤ s.last → (r : Result ℕ Refusal) → IfOk r (λ n. n ≡ length s.functions) → OnOk r (after ≡ s.functions ++ p ∷ [])
    → OnErr r (after ≡ s.functions) → IfErr r (λ why. why ≡ Memory) → LooksUp s name decl r after
kept s name decl p after named callable there begun (Ok n) place more same memory =
    record { function = p; named = named; callable = callable; there = there; begun = begun; place = place; kept = more }
kept s name decl p after named callable there begun (Err why) place more same memory = (λ other. absurd (other memory), same)

pub returns-in-Ok : goal.returns-in-Ok
returns-in-Ok g c = record {
  found =
      kept (standing (λ v. (g.dyn-1.0.entry v).1) c.args.engine.now c.args.prepared.now.items) c.args.name.now c.args.decl.now c.in-Ok.function c.keep.new.prepared.items c.in-Ok.ensures.prepared c.in-Ok.ensures.found c.in-Ok.ensures.there c.in-Ok.ensures.begun c.keep.result c.keep.ensures.place c.keep.ensures.kept
      c.keep.ensures.unchanged c.keep.ensures.refused;
}
