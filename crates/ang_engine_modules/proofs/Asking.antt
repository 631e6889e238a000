-- What a run of modules asks, by their views.
use Rattle.std.proofs.Common.{◌≡◌, ◌⊎◌, ⊎_elim, ℕ, List, [], ◌∷◌, ◌++◌, Option, Some, None, refl, sym, subst}
use Rattle.std.specs.Prelude.{false, true, IsSome}
use Rattle.std.specs.List.{AllByRecursion}
use Rattle.ang_host.specs.declared.event.HostEvent.{HostEvent}
use Rattle.ang_host.specs.declared.event.HostEvent.TheVariants.{Called, Ended}
use Rattle.ang_view.specs.declared.entry.Entry.{Entry}
use Rattle.ang_meaning.specs.declared.slot.Slot.{Slot}
use Rattle.ang_meaning.specs.World.{World, give}
use Rattle.ang_meaning.specs.Told.{answers_listed}
use Rattle.ang_meaning.specs.Environment.{may_call, may_access}
use Rattle.ang_meaning.proofs.Moving.{give_moves}
use Rattle.ang_code_laws.specs.Asked.{IsAskedBy, Asks}
use Rattle.ang_source.specs.Hosts.{asked_as}
use Rattle.ang_engine_modules.specs.Modules.{Module, entry_in, IsAskedIn}
use Rattle.ang_engine_modules.specs.Executed.{setting_for}

-- what may be asked has an entry
has_entry : (o : Option Entry) → (may_call (asked_as o) ≡ true) ⊎ (may_access (asked_as o) ≡ true) → IsSome o
has_entry None may = ⊎_elim (λ (h : false ≡ true). h) (λ (h : false ≡ true). h) may
has_entry (Some x) may = refl

all_append : (P : HostEvent → Type 0) (a b : List HostEvent) → AllByRecursion P a → AllByRecursion P b → AllByRecursion P (a ++ b)
all_append P [] b p q = q
all_append P (x ∷ a) b p q = (p.0, all_append P a b p.1 q)

module _ (ms : List Module) (nesting : ℕ) where
  asked_in : (e : HostEvent) → IsAskedBy (setting_for ms nesting) e → IsAskedIn ms e
  asked_in (Called caller entity driver object args reply) h = (h.0, h.1, has_entry (entry_in ms h.0 entity.0) h.2)
  asked_in (Ended driver key) h = tt

  all_asked_in : (es : List HostEvent) → AllByRecursion (IsAskedBy (setting_for ms nesting)) es → AllByRecursion (IsAskedIn ms) es
  all_asked_in [] h = tt
  all_asked_in (e ∷ es) h = (asked_in e h.0, all_asked_in es h.1)

  -- after what was asked before
  pub asks_more : (w w' : World) → AllByRecursion (IsAskedIn ms) w.events → Asks (setting_for ms nesting) w w' → AllByRecursion (IsAskedIn ms) w'.events
  asks_more w w' before asks =
      subst (AllByRecursion (IsAskedIn ms)) (sym asks.events)
      (all_append (IsAskedIn ms) w.events asks.more before (all_asked_in asks.more asks.askings))

  -- where nothing is answered objects end, and nothing else is listed
  ends_alone : (es : List HostEvent) → answers_listed es ≡ [] → AllByRecursion (IsAskedIn ms) es
  ends_alone [] h = tt
  ends_alone (Called caller entity driver object args reply ∷ es) h = absurd (cc)
  ends_alone (Ended driver key ∷ es) h = (tt, ends_alone es h)

  -- so it is where a value is given up
  pub gives_more : (v : Slot) (w : World) → AllByRecursion (IsAskedIn ms) w.events → AllByRecursion (IsAskedIn ms) (give v w).events
  gives_more v w before =
      let p = give_moves v w in
      subst (AllByRecursion (IsAskedIn ms)) (sym p.events) (all_append (IsAskedIn ms) w.events p.more before (ends_alone p.more p.answers))
