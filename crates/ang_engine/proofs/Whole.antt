-- Whole commands on an engine.
use Rattle.std.proofs.Common.{◌≡◌, refl, sym, ap, ◌∙◌, subst, ℕ, true, false, List, [], length}
use Rattle.std.specs.Prelude.{Result}
use Rattle.std.proofs.lemmas.List.{length-map}
use Rattle.ang_kinds.specs.declared.value.Value.{Value}
use Rattle.ang_host.specs.declared.event.HostEvent.{HostEvent}
use Rattle.ang_host.specs.declared.event.Role.{Role}
use Rattle.ang_host.specs.State.{State}
use Rattle.ang_host.specs.Boxes.{members}
use Rattle.ang_host.specs.Laws.{Fits}
use Rattle.ang_host.specs.Meanings.{Meanings, state_in}
use Rattle.ang_host.specs.Events.{AllFollow}
use Rattle.ang_view.specs.Registration.{RegistrationList}
use Rattle.ang_engine.specs.Roles.{roles_of}
use Rattle.ang_meaning.specs.Counting.{IsCounted}
use Rattle.ang_heap.specs.declared.store.Store.{Store}
use Rattle.ang_heap.specs.Globals.{values_in}
use Rattle.ang_heap.specs.Stores.{world_of, IsKept}
use Rattle.ang_engine.specs.declared.building.BuildRefused.{BuildRefused}
use Rattle.ang_engine.specs.declared.engine.Engine.{Engine}
use Rattle.ang_engine_modules.specs.declared.command.Command.{Command}
use Rattle.ang_engine_modules.specs.declared.command.Command.TheVariants.{Build, Bind, Unbind, Call, Discard}
use Rattle.ang_engine_modules.specs.declared.reply.Outcome.{Outcome}
use Rattle.ang_engine_modules.specs.declared.reply.Outcome.TheVariants.{Refused}
use Rattle.ang_engine_modules.specs.declared.reply.Refusal.{Refusal}
use Rattle.ang_engine_modules.specs.declared.reply.Refusal.TheVariants.{Memory}
use Rattle.ang_engine_modules.specs.declared.reply.Reply.{Reply}
use Rattle.ang_engine_modules.specs.World.{World}
use Rattle.ang_engine.specs.Step.{Leads, judged, may_want_memory}
use Rattle.ang_engine_modules.specs.Commands.{reply_of}
use Rattle.ang_engine_modules.specs.Outcomes.{IsDone, IsDoneWithoutMemory, outcome_of, unbinding}
use Rattle.ang_engine_modules.specs.Sound.{HaveGlobals}
use Rattle.ang_engine.specs.Outcomes.{IfRefusedAtOnce, IsCalled, IsDiscarded, binding, building, calling, discarding, reply_to_build, reply_to_call, reply_to_discard}
use Rattle.ang_engine.specs.Engines.{registrations, drivers_in}
use Rattle.ang_engine.specs.Sound.{AreSoundModules}
use Rattle.ang_engine.specs.Sound.{HaveDrivers, AreNumbered, IsSound}
use Rattle.ang_engine.specs.Asked.{HasAsked}
use Rattle.ang_engine.specs.Applied.{Applied}
use Rattle.ang_view.specs.Groups.{Grouped}
use Rattle.ang_engine.proofs.Roles.{own_roles}
use Rattle.ang_engine.proofs.Asking.{asked-nothing, applied-asked}
use Rattle.ang_engine.proofs.Refusing.{refused_anyway}
use Rattle.ang_engine.proofs.Leading.{takes-done, takes-without, takes-judged, takes-memory, takes-called, takes-discarded}

-- there are as many drivers as before
follow_count : {B V : Type 0} (st : B → State) (kind : B → V) (rule : V → Fits) (roles : List Role) (xs : List B) (es : List HostEvent) (ys : List B)
    → AllFollow st kind rule roles xs es ys → length ys ≡ length xs
follow_count st kind rule roles xs es ys h = sym (length-map ys st) ∙ h.follow.same_length ∙ length-map xs st

-- what an engine keeps, after a command that has asked
pub sound-asked : {V : Type 0} {P : V → Type 0} (m : Meanings P) (e f : Engine V P) (v : World) (es : List HostEvent) → IsSound m e → registrations f ≡ registrations e
    → AreSoundModules (registrations e) f.modules → HaveGlobals f.modules (values_in f.machine.store.globals) → HasAsked m (registrations e) v es e.machine.store f.machine.store → AreNumbered f.modules → IsSound m f
sound-asked m e f v es sound same modules globals asked numbered = record {
  modules = subst (λ R. AreSoundModules R f.modules) (sym same) modules;
  globals = globals;
  in_list = subst (λ R. HaveDrivers R (length (drivers_in f))) (sym same)
      (subst (λ n. HaveDrivers (registrations e) n)
      (sym (follow_count (λ b. state_in m b) (λ b. b.vtable) (λ x. (m x).meaning.fits) (roles_of (registrations e)) (drivers_in e) es (drivers_in f) (asked.follow (roles_of (registrations e)) (own_roles (registrations e))))) sound.in_list);
  kept = asked.kept;
  counted = asked.counted;
  numbered = numbered;
}

module _ {V : Type 0} {P : V → Type 0} (m : Meanings P) (R : Grouped) where
  -- one that asks nothing
  pub applied-done : {U : Type 0} (w v : World) (s t : Store V P) (c : Command) (reply : Reply) (r : Result U Refusal) (o : Outcome)
      → may_want_memory c ≡ true → o ≡ outcome_of r → reply ≡ reply_of o [] [] → IsDone r (judged R w c) w v → IsKept m t → IsCounted [] (world_of m t) → members s.drivers ≡ members t.drivers
      → Applied m R w (members s.drivers) c reply v (members t.drivers)
  applied-done w v s t c reply r o wants ended answered done kept counted same =
      subst (λ xs. Applied m R w xs c reply v (members t.drivers)) (sym same)
      (subst (λ x. Applied m R w (members t.drivers) c x v (members t.drivers)) (sym (answered ∙ ap (λ y. reply_of y [] []) ended))
      (applied-asked m R w v c (reply_of (outcome_of r) [] []) t t (takes-done R w v c r wants done) (asked-nothing m R.entries v t kept counted) (refused_anyway (outcome_of r) _ refl)))

  -- one that asks nothing and wants no memory
  pub applied-without : {U : Type 0} (w v : World) (s t : Store V P) (c : Command) (reply : Reply) (r : Result U Refusal) (o : Outcome)
      → may_want_memory c ≡ false → o ≡ outcome_of r → reply ≡ reply_of o [] [] → IsDoneWithoutMemory r (judged R w c) w v → IsKept m t → IsCounted [] (world_of m t)
      → members s.drivers ≡ members t.drivers → Applied m R w (members s.drivers) c reply v (members t.drivers)
  applied-without w v s t c reply r o wants ended answered done kept counted same =
      subst (λ xs. Applied m R w xs c reply v (members t.drivers)) (sym same)
      (subst (λ x. Applied m R w (members t.drivers) c x v (members t.drivers)) (sym (answered ∙ ap (λ y. reply_of y [] []) ended))
      (applied-asked m R w v c (reply_of (outcome_of r) [] []) t t (takes-without R w v c r wants done) (asked-nothing m R.entries v t kept counted) (refused_anyway (outcome_of r) _ refl)))

  -- one that is refused for want of memory
  pub applied-memory : (w : World) (s : Store V P) (c : Command) (reply : Reply) → may_want_memory c ≡ true → reply ≡ reply_of (Refused Memory) [] [] → IsKept m s → IsCounted [] (world_of m s)
      → Applied m R w (members s.drivers) c reply w (members s.drivers)
  applied-memory w s c reply wants answered kept counted =
      subst (λ x. Applied m R w (members s.drivers) c x w (members s.drivers)) (sym answered)
      (applied-asked m R w w c (reply_of (Refused Memory) [] []) s s (takes-memory R w w c wants refl) (asked-nothing m R.entries w s kept counted) refl)

  -- an import that is bound, and one that is unbound
  pub applied-bind : {U : Type 0} (w v : World) (s t : Store V P) (n name : List ℕ) (index : ℕ) (f from d decl : List ℕ) (reply : Reply) (r : Result U Refusal) (o : Outcome)
      → n ≡ name → f ≡ from → d ≡ decl → o ≡ outcome_of r → reply ≡ reply_of o [] [] → IsDone r (binding n index f d w) w v → IsKept m t → IsCounted [] (world_of m t)
      → members s.drivers ≡ members t.drivers → Applied m R w (members s.drivers) (Bind name index from decl) reply v (members t.drivers)
  applied-bind w v s t n name index f from d decl reply r o en ef ed ended answered done kept counted same =
      let so : IsDone r (binding name index from decl w) w v =
      subst (λ x. IsDone r (binding x index from decl w) w v) en
      (subst (λ x. IsDone r (binding n index x decl w) w v) ef (subst (λ x. IsDone r (binding n index f x w) w v) ed done)) in
      applied-done w v s t (Bind name index from decl) reply r o refl ended answered so kept counted same

  pub applied-unbind : {U : Type 0} (w v : World) (s t : Store V P) (n name : List ℕ) (index : ℕ) (reply : Reply) (r : Result U Refusal) (o : Outcome)
      → n ≡ name → o ≡ outcome_of r → reply ≡ reply_of o [] [] → IsDoneWithoutMemory r (unbinding n index w) w v → IsKept m t → IsCounted [] (world_of m t)
      → members s.drivers ≡ members t.drivers → Applied m R w (members s.drivers) (Unbind name index) reply v (members t.drivers)
  applied-unbind w v s t n name index reply r o en ended answered done kept counted same =
      applied-without w v s t (Unbind name index) reply r o refl ended answered (subst (λ x. IsDoneWithoutMemory r (unbinding x index w) w v) en done) kept counted same

  -- a build
  pub applied-build : {U : Type 0} (w v : World) (s t : Store V P) (n name : List ℕ) (budget : ℕ) (reply : Reply) (r : Result U BuildRefused) (es : List HostEvent)
      → n ≡ name → reply ≡ reply_to_build r es → Leads (building R.entries n budget w) (reply_to_build r es) v → HasAsked m R.entries v (reply_to_build r es).events s t
      → IfRefusedAtOnce (reply_to_build r es).outcome (members t.drivers ≡ members s.drivers)
      → Applied m R w (members s.drivers) (Build name budget) reply v (members t.drivers)
  applied-build w v s t n name budget reply r es en replied done asked refused =
      subst (λ x. Applied m R w (members s.drivers) (Build name budget) x v (members t.drivers)) (sym replied)
      (applied-asked m R w v (Build name budget) (reply_to_build r es) s t
      (takes-judged R w v (Build name budget) (reply_to_build r es) refl (subst (λ x. Leads (building R.entries x budget w) (reply_to_build r es) v) en done)) asked refused)

  -- a call
  pub applied-call : (w v : World) (s t : Store V P) (n name d decl : List ℕ) (vs args : List Value) (budget : ℕ) (reply : Reply) (r : Result Outcome Refusal) (es : List HostEvent)
      → n ≡ name → d ≡ decl → vs ≡ args → reply ≡ reply_to_call r es → IsCalled r es (calling n d vs budget w) w v → HasAsked m R.entries v (reply_to_call r es).events s t
      → IfRefusedAtOnce (reply_to_call r es).outcome (members t.drivers ≡ members s.drivers)
      → Applied m R w (members s.drivers) (Call name decl args budget) reply v (members t.drivers)
  applied-call w v s t n name d decl vs args budget reply r es en ed ea replied done asked refused =
      let so : IsCalled r es (calling name decl args budget w) w v =
      subst (λ x. IsCalled r es (calling x decl args budget w) w v) en
      (subst (λ x. IsCalled r es (calling n x args budget w) w v) ed (subst (λ x. IsCalled r es (calling n d x budget w) w v) ea done)) in
      subst (λ x. Applied m R w (members s.drivers) (Call name decl args budget) x v (members t.drivers)) (sym replied)
      (applied-asked m R w v (Call name decl args budget) (reply_to_call r es) s t (takes-called R w v (Call name decl args budget) r es refl so) asked refused)

  -- a discard
  pub applied-discard : {U : Type 0} (w v : World) (s t : Store V P) (n name : List ℕ) (reply : Reply) (r : Result U Refusal) (es : List HostEvent)
      → n ≡ name → reply ≡ reply_to_discard r es → IsDiscarded r es (discarding n w) w v → HasAsked m R.entries v (reply_to_discard r es).events s t
      → IfRefusedAtOnce (reply_to_discard r es).outcome (members t.drivers ≡ members s.drivers)
      → Applied m R w (members s.drivers) (Discard name) reply v (members t.drivers)
  applied-discard w v s t n name reply r es en replied done asked refused =
      subst (λ x. Applied m R w (members s.drivers) (Discard name) x v (members t.drivers)) (sym replied)
      (applied-asked m R w v (Discard name) (reply_to_discard r es) s t
      (takes-discarded R w v (Discard name) r es refl (subst (λ x. IsDiscarded r es (discarding x w) w v) en done)) asked refused)
