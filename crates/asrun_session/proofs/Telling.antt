-- What a run tells at its end.
use Rattle.std.proofs.Common.{◌≡◌, ◌⊎◌, ap, ℕ, Bool, true, false, cond, List, Option, Some, None, IfSome, Result, Ok, Err, inl, inr, refl}
use Rattle.std.specs.Result.{IfOk, IfErr, OnErr}
use Rattle.std.specs.List.{list_all}
use Rattle.std.specs.declared.alloc.Global.{Global}
use Rattle.std.specs.declared.dyn_box.DynBox.{DynBox}
use Rattle.ang_host.specs.Meanings.{Meanings}
use Rattle.ang_host.specs.declared.event.HostEvent.{HostEvent}
use Rattle.ang_view.specs.Groups.{Grouped}
use Rattle.ang_engine_modules.specs.World.{World}
use Rattle.asrun_session.specs.Deeds.{Deed, is_ok, status_of}
use Rattle.asrun_session.specs.Reading.{unread}
use Rattle.asrun_session.specs.Writing.{unwritten}
use Rattle.asrun_session.specs.Whole.{Start, RunsSession, Unread, Ends, Stops, Tells, Starts, StartStops, start_of, world_at_start, outcome_of}
use Rattle.asrun_session.proofs.Held.{front_none}
use Rattle.asrun_session.specs.declared.ending.IoFault.TheVariants as io
use Rattle.asrun_session.specs.declared.ending.Status.{Status}
use Rattle.asrun_session.specs.declared.ending.Status.TheVariants.{AllOk, SomeRefused, BadInput, Memory}
use Rattle.asrun_session.specs.declared.ending.SessionError.{SessionError}
use Rattle.asrun_session.specs.declared.ending.SessionError.TheVariants as stop

no_status : (b : Bool) → Memory ≡ cond b AllOk SomeRefused → ⊥
no_status true e = cc
no_status false e = cc

no_memory : (bad : Option ℕ) (deeds : List Deed) → Memory ≡ status_of bad deeds → ⊥
no_memory None deeds e = no_status (list_all is_ok deeds) e
no_memory (Some n) deeds e = cc

unsaid : (R : Grouped) (begun : World) (s : List ℕ) (budget : ℕ) (old new : Option (List ℕ)) (es : List HostEvent) (w : World)
    → RunsSession R begun s budget old new Memory es w → ⊥
unsaid R begun s budget old new es w (inl h) = let e : Memory ≡ BadInput = h.2 in cc
unsaid R begun s budget old new es w (inr h) = no_memory _ h.1.deeds h.1.ending

module _ {V : Type 0} {P : V → Type 0} (m : Meanings P) (xs ys : List (DynBox V Global P)) where
  never : (t : Start) (s : List ℕ) (budget : ℕ) (old new : Option (List ℕ)) → Ends m xs ys old new (Ok t) s budget Memory → ⊥
  never t s budget old new (inl h) = let e : Memory ≡ BadInput = h.3 in cc
  never t s budget old new (inr gone) = unsaid t.list (world_at_start t) s budget old new gone.events gone.after gone.did

  ends : (t : Start) (s : List ℕ) (budget : ℕ) (old new : Option (List ℕ)) (status : Status)
      → Ends m xs ys old new (Ok t) s budget status → Tells m xs ys old new (Ok t) s budget (Ok status)
  ends t s budget old new AllOk h = h
  ends t s budget old new SomeRefused h = h
  ends t s budget old new BadInput h = h
  ends t s budget old new Memory h = absurd (never t s budget old new h)

  -- over a profile that was taken
  tells_taken : (t : Start) (s : List ℕ) (budget : ℕ) (old new : Option (List ℕ)) (ended : Result Status SessionError)
      → IfOk ended (λ status. Ends m xs ys old new (Ok t) s budget status) → OnErr ended (Stops m xs ys old new (Ok t) s budget)
      → IfErr ended (λ e. e ≡ unread → Unread m xs ys old new (Ok t))
      → Tells m xs ys old new (Ok t) s budget (outcome_of ended)
  tells_taken t s budget old new (Ok status) h k u = ends t s budget old new status h
  tells_taken t s budget old new (Err stop.Memory) h k u = k
  tells_taken t s budget old new (Err (stop.Fault io.Write)) h k u = k
  tells_taken t s budget old new (Err (stop.Fault io.Read)) h k u = u refl

  -- over a profile that was not
  untaken : (start : Result Start (List ℕ)) (s : List ℕ) (budget : ℕ) (old new : Option (List ℕ)) (why : SessionError) → ys ≡ xs
      → StartStops start old new → (why ≡ unread → new ≡ old) → Tells m xs ys old new start s budget (outcome_of (Err why))
  untaken (Ok t) s budget old new (stop.Fault io.Read) back h u = inl (u refl, back)
  untaken (Ok t) s budget old new (stop.Fault io.Write) back h u = inl (h, back)
  untaken (Ok t) s budget old new stop.Memory back h u = inl (h, back)
  untaken (Err text) s budget old new (stop.Fault io.Read) back h u = (u refl, back)
  untaken (Err text) s budget old new (stop.Fault io.Write) back h u = (h, back)
  untaken (Err text) s budget old new stop.Memory back h u = (h, back)

  pub tells_untaken : (profile session : Option (List ℕ)) (budget : ℕ) (old new : Option (List ℕ)) (why : SessionError) → ys ≡ xs
      → IfSome profile (λ p. StartStops (start_of p) old new) → (why ≡ unread → new ≡ old)
      → IfSome profile (λ p. IfSome session (λ s. Tells m xs ys old new (start_of p) s budget (outcome_of (Err why))))
  tells_untaken None session budget old new why back h u = tt
  tells_untaken (Some p) None budget old new why back h u = tt
  tells_untaken (Some p) (Some s) budget old new why back h u = untaken (start_of p) s budget old new why back h u

  -- nothing was done
  nothing : (start : Result Start (List ℕ)) (s : List ℕ) (budget : ℕ) (old : Option (List ℕ)) → ys ≡ xs
      → Tells m xs ys old old start s budget (Ok Memory)
  nothing (Ok t) s budget old back = inl (refl, back)
  nothing (Err text) s budget old back = (front_none old text, back)

  pub tells_nothing : (profile session : Option (List ℕ)) (budget : ℕ) (old : Option (List ℕ)) → ys ≡ xs
      → IfSome profile (λ p. IfSome session (λ s. Tells m xs ys old old (start_of p) s budget (Ok Memory)))
  tells_nothing None session budget old back = tt
  tells_nothing (Some p) None budget old back = tt
  tells_nothing (Some p) (Some s) budget old back = nothing (start_of p) s budget old back

  -- the whole run, where the profile was taken
  pub tells : (t : Start) (profile session : Option (List ℕ)) (budget : ℕ) (old mid new : Option (List ℕ)) (ended : Result Status SessionError)
      → IfSome profile (λ p. Starts (start_of p) t old mid true)
      → IfOk ended (λ status. IfSome session (λ s. Ends m xs ys mid new (Ok t) s budget status))
      → OnErr ended (IfSome session (λ s. Stops m xs ys mid new (Ok t) s budget))
      → IfErr ended (λ e. e ≡ unread → Unread m xs ys mid new (Ok t))
      → IfSome profile (λ p. IfSome session (λ s. Tells m xs ys old new (start_of p) s budget (outcome_of ended)))
  tells t None session budget old mid new ended a h k u = tt
  tells t (Some p) None budget old mid new ended a h k u = tt
  tells t (Some p) (Some s) budget old mid new ended a h k u =
      let taken : Tells m xs ys mid new (Ok t) s budget (outcome_of ended) = tells_taken t s budget mid new ended h k u in
      rw (a.0, ← a.1) taken

-- nothing is given by a profile that is refused, so that all holds of it
none_given : (start : Result Start (List ℕ)) (B : Start → Type 0) → IfOk start (λ t. ⊥) → IfOk start B
none_given (Ok t) B h = absurd h
none_given (Err text) B h = tt

never_taken : (profile : Option (List ℕ)) (B : Start → Type 0)
    → IfSome profile (λ p. IfOk (start_of p) (λ t. ⊥)) → IfSome profile (λ p. IfOk (start_of p) B)
never_taken None B h = tt
never_taken (Some p) B h = none_given (start_of p) B h

-- a write fault before there was an engine is one over a profile that is refused
pub unwritten_untaken : (A : Type 0) (B : Start → Type 0) (profile : Option (List ℕ)) (why : SessionError)
    → (why ≡ unwritten → IfSome profile (λ p. IfOk (start_of p) (λ t. ⊥)))
    → IfErr (outcome_of (Err why)) (λ e. e ≡ io.Write → A ⊎ IfSome profile (λ p. IfOk (start_of p) B))
unwritten_untaken A B profile stop.Memory h = tt
unwritten_untaken A B profile (stop.Fault why) h = λ e. inr (never_taken profile B (h (ap stop.Fault e)))
