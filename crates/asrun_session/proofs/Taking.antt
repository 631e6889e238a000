-- Engines that take drivers, and give them back.
use Rattle.std.proofs.Common.{◌≡◌, ℕ, ◌<◌, ◌≤◌, ◌⊎◌, List, [], length, Option, Some, None, IfSome, Result, Ok, Err, inl, inr, refl, sym, subst}
use Rattle.std.specs.Io.KnownBytes.{Appends}
use Rattle.std.specs.Result.{IfOk, IfErr, OnOk, OnErr}
use Rattle.std.specs.declared.alloc.Global.{Global}
use Rattle.std.specs.declared.dyn_box.DynBox.{DynBox}
use Rattle.ang_host.specs.Events.{DriversFollow}
use Rattle.ang_host.specs.Meanings.{Meanings, state_in}
use Rattle.ang_host.specs.Members.{states_of}
use Rattle.ang_host.specs.declared.event.HostEvent.{HostEvent}
use Rattle.ang_host.proofs.Events.{AllFollow-join}
use Rattle.ang_meaning.specs.Counting.{counts_by}
use Rattle.ang_view.specs.Groups.{Grouped}
use Rattle.ang_view.specs.Registration.{RegistrationList}
use Rattle.ang_engine.specs.Roles.{roles_of}
use Rattle.ang_engine.specs.Sound.{HaveDrivers}
use Rattle.ang_engine.proofs.Roles.{own_roles}
use Rattle.ang_engine_modules.specs.World.{World, engine_ended}
use Rattle.asrun_session.specs.Deeds.{IsDone, IsCut}
use Rattle.asrun_session.specs.Drivers.{AreListed, AreBack, ByEvents, WasDiscarded, DidNothing, EngineRefusal, IsRefused, AreRefused, NoDriver, engine_text}
use Rattle.asrun_session.specs.Reading.{unread}
use Rattle.asrun_session.specs.Whole.{Start, world_at_start, Ends, Stops, Unread, RunsSession, StopsSession, most_session, long_session_text}
use Rattle.asrun_session.specs.Writing.{HasFront, unwritten}
use Rattle.asrun_session.specs.declared.ending.Status.{Status}
use Rattle.asrun_session.specs.declared.ending.Status.TheVariants.{BadInput}
use Rattle.asrun_session.specs.declared.ending.SessionError.{SessionError}
use Rattle.asrun_session.specs.declared.ending.SessionError.TheVariants.{Memory}
use Rattle.asrun_lines.specs.Lines.{lines_of}
use Rattle.asrun_session.specs.Session.{session_from}
use Rattle.asrun_session.proofs.Doing.{cut_nothing, follow_nothing}
use Rattle.asrun_session.proofs.LastEnds.{last_ends}

-- ---- the text of a session, over an engine that has the world w

module _ {V : Type 0} {P : V → Type 0} (m : Meanings P) (R : Grouped) (w : World) where
  -- it could not be read
  pub stops_unread : (xs : List (DynBox V Global P)) (o text : Option (List ℕ)) (budget : ℕ)
      → IfSome text (λ s. ByEvents m R.entries xs (λ es. StopsSession R w s budget o o es w) xs)
  stops_unread xs o None budget = tt
  stops_unread xs o (Some s) budget =
      ([], inr (cut_nothing R w (session_from 1 budget 0 (lines_of s)) o), λ roles fit. follow_nothing m roles xs)

  -- it was too long
  pub runs_long : (xs : List (DynBox V Global P)) (old new text : Option (List ℕ)) (budget : ℕ)
      → IfSome text (λ s. most_session < length s) → Appends old new long_session_text
      → IfSome text (λ s. ByEvents m R.entries xs (λ es. RunsSession R w s budget old new BadInput es w) xs)
  runs_long xs old new None budget long printed = tt
  runs_long xs old new (Some s) budget long printed = ([], inl (long, printed, refl, (refl, refl)), λ roles fit. follow_nothing m roles xs)

  -- the text that says so was cut short
  pub stops_long : (xs : List (DynBox V Global P)) (old new text : Option (List ℕ)) (budget : ℕ)
      → IfSome text (λ s. most_session < length s) → HasFront old new long_session_text
      → IfSome text (λ s. ByEvents m R.entries xs (λ es. StopsSession R w s budget old new es w) xs)
  stops_long xs old new None budget long front = tt
  stops_long xs old new (Some s) budget long front = ([], inl (long, front, (refl, refl)), λ roles fit. follow_nothing m roles xs)

  -- its lines were done
  pub runs_lines : (xs ys : List (DynBox V Global P)) (old new text : Option (List ℕ)) (bytes : List ℕ) (budget : ℕ) (ended : Result Status SessionError) (after : World)
      → IfSome text (λ s. (bytes ≡ s) × (length s ≤ most_session))
      → IfOk ended (λ status. ByEvents m R.entries xs (λ es. IsDone R w (session_from 1 budget 0 (lines_of bytes)) old new status es after) ys)
      → IfOk ended (λ status. IfSome text (λ s. ByEvents m R.entries xs (λ es. RunsSession R w s budget old new status es after) ys))
  runs_lines xs ys old new text bytes budget (Err stop) after is h = tt
  runs_lines xs ys old new None bytes budget (Ok status) after is h = tt
  runs_lines xs ys old new (Some s) bytes budget (Ok status) after is h =
      let done : IsDone R w (session_from 1 budget 0 (lines_of s)) old new status h.0 after =
      subst (λ b. IsDone R w (session_from 1 budget 0 (lines_of b)) old new status h.0 after) is.0 h.1 in
      (h.0, inr (is.1, done), h.2)

  -- some of them were
  pub stops_lines : (xs ys : List (DynBox V Global P)) (old new text : Option (List ℕ)) (bytes : List ℕ) (budget : ℕ) (ended : Result Status SessionError) (after : World)
      → IfSome text (λ s. (bytes ≡ s) × (length s ≤ most_session))
      → OnErr ended (ByEvents m R.entries xs (λ es. IsCut R w (session_from 1 budget 0 (lines_of bytes)) old new es after) ys)
      → OnErr ended (IfSome text (λ s. ByEvents m R.entries xs (λ es. StopsSession R w s budget old new es after) ys))
  stops_lines xs ys old new text bytes budget (Ok status) after is h = tt
  stops_lines xs ys old new None bytes budget (Err stop) after is h = tt
  stops_lines xs ys old new (Some s) bytes budget (Err stop) after is h =
      let cut : IsCut R w (session_from 1 budget 0 (lines_of s)) old new h.0 after =
      subst (λ b. IsCut R w (session_from 1 budget 0 (lines_of b)) old new h.0 after) is.0 h.1 in
      (h.0, inr cut, h.2)

-- ---- no engine took the drivers

pub ends_refused : {V : Type 0} {P : V → Type 0} (m : Meanings P) (t : Start) (xs ys : List (DynBox V Global P)) (old new text : Option (List ℕ))
    (budget : ℕ) (why : EngineRefusal) (ended : Result Status SessionError) → ys ≡ xs → IsRefused m t.list.entries xs why → OnOk ended (Appends old new (engine_text why))
    → IfOk ended (λ status. status ≡ BadInput) → IfOk ended (λ status. IfSome text (λ s. Ends m xs ys old new (Ok t) s budget status))
ends_refused m t xs ys old new text budget why (Err stop) back refused printed ending = tt
ends_refused m t xs ys old new None budget why (Ok status) back refused printed ending = tt
ends_refused m t xs ys old new (Some s) budget why (Ok status) back refused printed ending = inl (why, refused, printed, ending, back)

-- the text that says why was cut short
pub stops_refused : {V : Type 0} {P : V → Type 0} (m : Meanings P) (t : Start) (xs ys : List (DynBox V Global P)) (old new text : Option (List ℕ))
    (budget : ℕ) (why : EngineRefusal) (ended : Result Status SessionError) → ys ≡ xs → IsRefused m t.list.entries xs why → OnErr ended (HasFront old new (engine_text why))
    → OnErr ended (IfSome text (λ s. Stops m xs ys old new (Ok t) s budget))
stops_refused m t xs ys old new text budget why (Ok status) back refused front = tt
stops_refused m t xs ys old new None budget why (Err stop) back refused front = tt
stops_refused m t xs ys old new (Some s) budget why (Err stop) back refused front = inr (inl (why, refused, front, back))

-- a write fault then comes after drivers that were refused
pub read_refused : {V : Type 0} {P : V → Type 0} (m : Meanings P) (R : RegistrationList) (xs : List (DynBox V Global P)) (A : Type 0)
    (why : EngineRefusal) (ended : Result Status SessionError) → IsRefused m R xs why → IfErr ended (λ e. e ≡ unwritten → A ⊎ AreRefused m R xs)
read_refused m R xs A why (Ok status) refused = tt
read_refused m R xs A why (Err stop) refused = λ _. inr (why, refused)

-- want of memory is no write fault
memory_written : Memory ≡ unwritten → ⊥
memory_written e = cc

pub read_memory : (A : Type 0) (ended : Result Status SessionError) → ended ≡ Err Memory → IfErr ended (λ e. e ≡ unwritten → A)
read_memory A ended is = rw is (λ e. absurd (memory_written e))

-- ---- no engine was made: an entry's driver is not there, or there was no memory

module _ {V : Type 0} {P : V → Type 0} (m : Meanings P) (t : Start) (xs ys : List (DynBox V Global P)) (old new : Option (List ℕ)) (text : Option (List ℕ)) (budget : ℕ)
    (same : ys ≡ xs) where
  pub refused_done : (ended : Result Status SessionError) → IsRefused m t.list.entries xs NoDriver → OnOk ended (Appends old new (engine_text NoDriver)) → IfOk ended (λ status. status ≡ BadInput)
      → IfOk ended (λ status. IfSome text (λ s. Ends m xs ys old new (Ok t) s budget status))
  refused_done (Err stop) refused printed is = tt
  refused_done (Ok status) refused printed is = some text
    where
      some : (o : Option (List ℕ)) → IfSome o (λ s. Ends m xs ys old new (Ok t) s budget status)
      some None = tt
      some (Some s) = inl (NoDriver, refused, printed, is, same)

  pub refused_cut : (ended : Result Status SessionError) → IsRefused m t.list.entries xs NoDriver → OnErr ended (HasFront old new (engine_text NoDriver))
      → OnErr ended (IfSome text (λ s. Stops m xs ys old new (Ok t) s budget))
  refused_cut (Ok status) refused printed = tt
  refused_cut (Err stop) refused printed = some text
    where
      some : (o : Option (List ℕ)) → IfSome o (λ s. Stops m xs ys old new (Ok t) s budget)
      some None = tt
      some (Some s) = inr (inl (NoDriver, refused, printed, same))

  pub memory_done : (ended : Result Status SessionError) → ended ≡ Err Memory → IfOk ended (λ status. IfSome text (λ s. Ends m xs ys old new (Ok t) s budget status))
  memory_done ended is = rw is tt

  pub memory_cut : (ended : Result Status SessionError) → new ≡ old → OnErr ended (IfSome text (λ s. Stops m xs ys old new (Ok t) s budget))
  memory_cut (Ok status) kept = tt
  memory_cut (Err stop) kept = some text
    where
      some : (o : Option (List ℕ)) → IfSome o (λ s. Stops m xs ys old new (Ok t) s budget)
      some None = tt
      some (Some s) = inl (kept, same)

-- ---- an engine over the list R', which had the world begun, took the drivers, which it has as xs'; it was left with the world w and the drivers zs, and discarded

module _ {V : Type 0} {P : V → Type 0} (m : Meanings P) (t : Start) (R' : Grouped) (xs xs' zs ys : List (DynBox V Global P)) (begun w : World)
    (list : R' ≡ t.list) (new_engine : begun ≡ world_at_start t) (same : xs' ≡ xs) (listed : AreListed m xs) (in_list : HaveDrivers R'.entries (length xs'))
    (hosts : w.hosts ≡ counts_by (states_of m zs)) (ends : DriversFollow m (roles_of t.list.entries) zs (engine_ended w).events ys) (back : AreBack m ys) where
  -- what was done with it, by the events that the drivers followed meanwhile
  pub discarded : (S : Grouped → World → List HostEvent → World → Type 0) → ByEvents m R'.entries xs' (λ es. S R' begun es w) zs → WasDiscarded m t.list.entries xs ys (S t.list (world_at_start t))
  discarded S h =
      let first : DriversFollow m (roles_of t.list.entries) xs h.0 zs =
      subst (λ l. DriversFollow m (roles_of l.entries) xs h.0 zs) list
      (subst (λ l. DriversFollow m (roles_of R'.entries) l h.0 zs) same (h.2 (roles_of R'.entries) (own_roles R'.entries))) in
      record {
        taken = record { listed = listed; in_list = subst (λ l. HaveDrivers l.entries (length xs)) list (subst (λ l. HaveDrivers R'.entries (length l)) same in_list) };
        events = h.0;
        after = w;
        did = subst (λ u. S t.list u h.0 w) new_engine (subst (λ l. S l begun h.0 w) list h.1);
        follow = AllFollow-join (λ b. state_in m b) (λ b. b.vtable) (λ v. (m v).meaning.fits) (roles_of t.list.entries) xs zs ys h.0 (engine_ended w).events first ends;
        last = last_ends m t.list.entries xs zs ys h.0 w hosts listed.idle back.fresh first ends;
        back = back;
      }

  -- the session was done
  pub ends_taken : (old new text : Option (List ℕ)) (budget : ℕ) (ended : Result Status SessionError)
      → IfOk ended (λ status. IfSome text (λ s. ByEvents m R'.entries xs' (λ es. RunsSession R' begun s budget old new status es w) zs))
      → IfOk ended (λ status. IfSome text (λ s. Ends m xs ys old new (Ok t) s budget status))
  ends_taken old new text budget (Err stop) h = tt
  ends_taken old new None budget (Ok status) h = tt
  ends_taken old new (Some s) budget (Ok status) h = inr (discarded (λ l u. RunsSession l u s budget old new status) h)

  -- it was cut short
  pub stops_taken : (old new text : Option (List ℕ)) (budget : ℕ) (ended : Result Status SessionError)
      → OnErr ended (IfSome text (λ s. ByEvents m R'.entries xs' (λ es. StopsSession R' begun s budget old new es w) zs))
      → OnErr ended (IfSome text (λ s. Stops m xs ys old new (Ok t) s budget))
  stops_taken old new text budget (Ok status) h = tt
  stops_taken old new None budget (Err stop) h = tt
  stops_taken old new (Some s) budget (Err stop) h = inr (inr (discarded (λ l u. StopsSession l u s budget old new) h))

  -- nothing was done with it
  pub unused : w ≡ begun → zs ≡ xs' → WasDiscarded m t.list.entries xs ys (DidNothing (world_at_start t))
  unused idle kept = discarded (λ l. DidNothing) ([], (refl, idle), λ roles fit. subst (λ l. DriversFollow m roles xs' [] l) (sym kept) (follow_nothing m roles xs'))

-- the session could not be read
pub unread_taken : {V : Type 0} {P : V → Type 0} (m : Meanings P) (t : Start) (xs ys : List (DynBox V Global P)) (old new : Option (List ℕ))
    (A : Type 0) (ended : Result Status SessionError) → (A → WasDiscarded m t.list.entries xs ys (DidNothing (world_at_start t)))
    → IfErr ended (λ e. e ≡ unread → new ≡ old) → IfErr ended (λ e. e ≡ unread → A) → IfErr ended (λ e. e ≡ unread → Unread m xs ys old new (Ok t))
unread_taken m t xs ys old new A (Ok status) go h k = tt
unread_taken m t xs ys old new A (Err stop) go h k = λ is. inr (h is, go (k is))
