-- Calls of functions that were looked up before.
use Rattle.std.proofs.Common.{◌≡◌, refl, sym, ap, ◌∙◌, subst, ℕ, true, false, List, [], Option, Some}
use Rattle.std.specs.Prelude.{Result}
use Rattle.ang_kinds.specs.declared.value.Value.{Value}
use Rattle.ang_host.specs.declared.event.HostEvent.{HostEvent}
use Rattle.ang_host.specs.Boxes.{members}
use Rattle.ang_host.specs.Meanings.{Meanings}
use Rattle.ang_view.specs.Groups.{Grouped}
use Rattle.ang_view.specs.Registration.{RegistrationList}
use Rattle.ang_meaning.specs.Counting.{IsCounted}
use Rattle.ang_heap.specs.declared.store.Store.{Store}
use Rattle.ang_heap.specs.Stores.{world_of, IsKept}
use Rattle.ang_engine_modules.specs.declared.command.Command.TheVariants.{Call}
use Rattle.ang_engine_modules.specs.declared.reply.Outcome.{Outcome}
use Rattle.ang_engine_modules.specs.declared.reply.Outcome.TheVariants.{Refused}
use Rattle.ang_engine_modules.specs.declared.reply.Refusal.{Refusal}
use Rattle.ang_engine_modules.specs.declared.reply.Refusal.TheVariants.{Memory}
use Rattle.ang_engine_modules.specs.declared.reply.Reply.{Reply}
use Rattle.ang_engine_modules.specs.Commands.{reply_of}
use Rattle.ang_engine_modules.specs.World.{Program, World, module_named, module_at}
use Rattle.ang_engine.specs.declared.prepared.Prepared.{Prepared}
use Rattle.ang_engine.specs.Asked.{HasAsked}
use Rattle.ang_engine.specs.Outcomes.{IfRefusedAtOnce, IsCalled, calling, reply_to_call}
use Rattle.ang_engine.specs.Prepared.{is_there, callable_at, callable_in, looked_up, IsFunctionOf, PreparedApplied}
use Rattle.ang_engine.proofs.Asking.{asked-nothing}
use Rattle.ang_engine.proofs.Leading.{takes-called, takes-memory}

not_both : (builds : ℕ → Option ℕ) (p : Prepared) → is_there builds p ≡ true → is_there builds p ≡ false → ⊥
not_both builds p stays lost = cc

module _ {V : Type 0} {P : V → Type 0} (m : Meanings P) (R : Grouped) (builds : ℕ → Option ℕ) (w : World) (p : Prepared) (args : List Value) (budget : ℕ) where
  -- memory was refused before anything was changed
  pub prepared-memory : (s : Store V P) (reply : Reply) → is_there builds p ≡ true → reply ≡ reply_of (Refused Memory) [] [] → IsKept m s → IsCounted [] (world_of m s)
      → PreparedApplied m R builds w (members s.drivers) p args budget reply w (members s.drivers)
  prepared-memory s reply stays answered kept counted =
      let asked = asked-nothing m R.entries w s kept counted in
      subst (λ x. PreparedApplied m R builds w (members s.drivers) p args budget x w (members s.drivers)) (sym answered)
      (record {
        takes = λ name decl h. takes-memory R w w (Call name decl args budget) refl refl;
        gone = λ e. absurd (not_both builds p stays e);
        entitled = asked.entitled;
        follow = asked.follow;
        refused = refl;
      })

  -- it was called, or refused as a call is
  pub prepared-called : (v : World) (s t : Store V P) (reply : Reply) (r : Result Outcome Refusal) (es : List HostEvent) → is_there builds p ≡ true → reply ≡ reply_to_call r es
      → ((name decl : List ℕ) → IsFunctionOf w builds p name decl → IsCalled r es (calling name decl args budget w) w v)
      → HasAsked m R.entries v (reply_to_call r es).events s t → IfRefusedAtOnce (reply_to_call r es).outcome (members t.drivers ≡ members s.drivers)
      → PreparedApplied m R builds w (members s.drivers) p args budget reply v (members t.drivers)
  prepared-called v s t reply r es stays answered done asked refused =
      subst (λ x. PreparedApplied m R builds w (members s.drivers) p args budget x v (members t.drivers)) (sym answered)
      (record {
        takes = λ name decl h. takes-called R w v (Call name decl args budget) r es refl (done name decl h);
        gone = λ e. absurd (not_both builds p stays e);
        entitled = asked.entitled;
        follow = asked.follow;
        refused = refused;
      })

-- ---- looking it up

pub looked-found : (name decl : List ℕ) (w : World) (i : ℕ) (o : Option Program) → Some i ≡ module_named name w → (module_at w i).program ≡ o → looked_up name decl w ≡ callable_in o decl
looked-found name decl w i o found built = ap (λ q. callable_at q decl w) (sym found) ∙ ap (λ q. callable_in q decl) built
