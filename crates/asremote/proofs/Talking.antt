-- Engines that take the drivers of a conversation, and give them back.
use Rattle.std.proofs.Common.{◌≡◌, ◌≢◌, ℕ, List, length, Bool, true, false, if◌then◌else◌, Option, Some, None, Result, Ok, Err, IfOk, OnOk, OnErr, inl, inr, refl, sym, ◌∙◌, subst}
use Rattle.std.specs.Option.{IfSome}
use Rattle.std.specs.Io.KnownBytes.{Appends}
use Rattle.std.specs.declared.alloc.Global.{Global}
use Rattle.std.specs.declared.dyn_box.DynBox.{DynBox}
use Rattle.ang_host.specs.Events.{DriversFollow}
use Rattle.ang_host.specs.Meanings.{Meanings}
use Rattle.ang_host.specs.Members.{states_of}
use Rattle.ang_meaning.specs.Counting.{counts_by}
use Rattle.ang_view.specs.Groups.{Grouped}
use Rattle.ang_engine.specs.Roles.{roles_of}
use Rattle.ang_engine.specs.Sound.{HaveDrivers}
use Rattle.ang_engine_modules.specs.World.{World, engine_ended}
use Rattle.asrun_session.specs.Drivers.{AreListed, AreBack, ByEvents, EngineRefusal, IsRefused, engine_text}
use Rattle.asrun_session.specs.declared.ending.Status.{Status}
use Rattle.asrun_session.specs.declared.ending.Status.TheVariants.{AllOk, SomeRefused, BadInput, Memory}
use Rattle.asrun_session.specs.declared.ending.SessionError.{SessionError}
use Rattle.asrun_session.specs.declared.ending.SessionError.TheVariants as stop
use Rattle.asrun_session.proofs.Taking.{discarded}
use Rattle.asrun_session.proofs.Doing.{front_none}
use Rattle.asrun_session.specs.Whole.{Start, world_at_start, Starts, StartStops, outcome_of}
use Rattle.asrun_session.specs.Writing.{HasFront}
use Rattle.ang_host.specs.declared.event.HostEvent.{HostEvent}
use Rattle.std.specs.List.{list_all}
use Rattle.asremote.specs.Talk.{done_line, Turned, is_right, status_of}
use Rattle.asremote.specs.Conversation.{Converses, IsCutShort, TalksOver, StopsOver, Talks, Stops, Tells}

-- where a command was too long, or a line of another form, the status says so
pub over : (S : Status → Type 0) (ended : Result Status SessionError) → S BadInput → IfOk ended (λ status. status ≡ BadInput) → IfOk ended S
over S (Err why) h e = tt
over S (Ok status) h e = subst S (sym e) h

bad_memory : BadInput ≡ Memory → ⊥
bad_memory e = cc

status_right : (bad_line : Option ℕ) (turns : List Turned) → status_of bad_line turns ≡ Memory → ⊥
status_right (Some n) turns e = bad_memory e
status_right None turns e = ended (list_all is_right turns) e
  where
    ended : (b : Bool) → (if b then AllOk else SomeRefused) ≡ Memory → ⊥
    ended true e = cc
    ended false e = cc

module _ {V : Type 0} {P : V → Type 0} (m : Meanings P) (budget : ℕ) (unread unread2 written written2 : Option (List ℕ)) where
  -- an engine took the drivers, and was discarded
  module _ (t : Start) (R' : Grouped) (xs xs' zs ys : List (DynBox V Global P)) (begun w : World) (list : R' ≡ t.list) (new_engine : begun ≡ world_at_start t) (same : xs' ≡ xs)
      (listed : AreListed m xs) (in_list : HaveDrivers R'.entries (length xs')) (hosts : w.hosts ≡ counts_by (states_of m zs)) (ends : DriversFollow m (roles_of t.list.entries) zs (engine_ended w).events ys) (back : AreBack m ys) where
    pub talks_taken : (ended : Result Status SessionError)
        → IfOk ended (λ status. ByEvents m R'.entries xs' (λ es. Converses R' begun budget done_line unread unread2 written written2 status es w) zs)
        → IfOk ended (TalksOver m xs ys budget unread unread2 written written2 t)
    talks_taken (Err why) h = tt
    talks_taken (Ok status) h =
        inr (discarded m t R' xs xs' zs ys begun w list new_engine same listed in_list hosts ends back (λ l v. Converses l v budget done_line unread unread2 written written2 status) h)

    pub stops_taken : (ended : Result Status SessionError)
        → OnErr ended (ByEvents m R'.entries xs' (λ es. IsCutShort R' begun budget done_line unread unread2 written written2 es w) zs)
        → OnErr ended (StopsOver m xs ys budget unread unread2 written written2 t)
    stops_taken (Ok status) h = tt
    stops_taken (Err why) h =
        inr (inr (discarded m t R' xs xs' zs ys begun w list new_engine same listed in_list hosts ends back (λ l v. IsCutShort l v budget done_line unread unread2 written written2) h))

  -- no engine took them
  module _ (t : Start) (xs ys : List (DynBox V Global P)) (why : EngineRefusal) (back : ys ≡ xs) (refused : IsRefused m t.list.entries xs why) where
    pub talks_refused : (ended : Result Status SessionError) → OnOk ended (Appends written written2 (engine_text why)) → IfOk ended (λ status. status ≡ BadInput)
        → IfOk ended (TalksOver m xs ys budget unread unread2 written written2 t)
    talks_refused (Err e) printed ending = tt
    talks_refused (Ok status) printed ending = inl (why, refused, printed, ending, back)

    pub stops_refused : (ended : Result Status SessionError) → OnErr ended (HasFront written written2 (engine_text why))
        → OnErr ended (StopsOver m xs ys budget unread unread2 written written2 t)
    stops_refused (Ok status) printed = tt
    stops_refused (Err e) printed = inr (inl (why, refused, printed, back))

  -- no engine was made
  pub stops_untouched : (t : Start) (xs ys : List (DynBox V Global P)) (ended : Result Status SessionError) → ys ≡ xs → written2 ≡ written
      → OnErr ended (StopsOver m xs ys budget unread unread2 written written2 t)
  stops_untouched t xs ys (Ok status) back same = tt
  stops_untouched t xs ys (Err e) back same = inl (same, back)

  -- want of memory is no status of a conversation
  not_memory : (xs ys : List (DynBox V Global P)) (t : Start) (status : Status) → TalksOver m xs ys budget unread unread2 written written2 t status → status ≢ Memory
  not_memory xs ys t status (inl r) = λ e. bad_memory (sym r.3 ∙ e)
  not_memory xs ys t status (inr d) = told_memory d.did
    where
      told_memory : {es : List HostEvent} {after : World} → Converses t.list (world_at_start t) budget done_line unread unread2 written written2 status es after → status ≢ Memory
      told_memory (inl d) = λ e. status_right _ d.turns (sym d.ending ∙ e)
      told_memory (inr d) = λ e. bad_memory (sym d.ending ∙ e)

  talks_status : (xs ys : List (DynBox V Global P)) (start : Result Start (List ℕ)) (status : Status) → status ≢ Memory
      → Talks m xs ys budget unread unread2 written written2 start status → Tells m xs ys budget unread unread2 written written2 start (Ok status)
  talks_status xs ys start AllOk ne h = h
  talks_status xs ys start SomeRefused ne h = h
  talks_status xs ys start BadInput ne h = h
  talks_status xs ys start Memory ne h = absurd (ne refl)

  stops_outcome : (xs ys : List (DynBox V Global P)) (start : Result Start (List ℕ)) (why : SessionError)
      → Stops m xs ys budget unread unread2 written written2 start → Tells m xs ys budget unread unread2 written written2 start (outcome_of (Err why))
  stops_outcome xs ys start stop.Memory h = h
  stops_outcome xs ys start (stop.Fault why) h = h

  -- the profile was taken
  pub talks_over : (xs ys : List (DynBox V Global P)) (t : Start) (profile : Option (List ℕ)) (start : List ℕ → Result Start (List ℕ)) (before : Option (List ℕ)) (ended : Result Status SessionError)
      → IfSome profile (λ text. Starts (start text) t before written true)
      → IfOk ended (TalksOver m xs ys budget unread unread2 written written2 t) → OnErr ended (StopsOver m xs ys budget unread unread2 written written2 t)
      → IfSome profile (λ text. Tells m xs ys budget unread unread2 before written2 (start text) (outcome_of ended))
  talks_over xs ys t None start before ended s h cut = tt
  talks_over xs ys t (Some text) start before (Err why) s h cut =
      stops_start xs ys t (start text) before why s.0 s.1 cut
    where
      stops_start : (xs ys : List (DynBox V Global P)) (t : Start) (r : Result Start (List ℕ)) (before : Option (List ℕ)) (why : SessionError) → r ≡ Ok t → written ≡ before
          → StopsOver m xs ys budget unread unread2 written written2 t → Tells m xs ys budget unread unread2 before written2 r (outcome_of (Err why))
      stops_start xs ys t r before why e k c =
          subst (λ o. Tells m xs ys budget unread unread2 o written2 r (outcome_of (Err why))) k
          (subst (λ q. Tells m xs ys budget unread unread2 written written2 q (outcome_of (Err why))) (sym e) (stops_outcome xs ys (Ok t) why c))
  talks_over xs ys t (Some text) start before (Ok status) s h cut =
      subst (λ o. Tells m xs ys budget unread unread2 o written2 (start text) (Ok status)) s.1
      (subst (λ q. Tells m xs ys budget unread unread2 written written2 q (Ok status)) (sym s.0) (talks_status xs ys (Ok t) status (not_memory xs ys t status h) h))

  -- it was not
  pub talks_untaken : (xs : List (DynBox V Global P)) (profile : Option (List ℕ)) (start : List ℕ → Result Start (List ℕ))
      → IfSome profile (λ text. (said : List ℕ) × (start text ≡ Err said) × Appends written written2 said)
      → IfSome profile (λ text. Tells m xs xs budget unread unread2 written written2 (start text) (Ok BadInput))
  talks_untaken xs None start s = tt
  talks_untaken xs (Some text) start s = subst (λ r. Talks m xs xs budget unread unread2 written written2 r BadInput) (sym s.1) (s.2, refl, refl)

  stops_at_start : (xs : List (DynBox V Global P)) (r : Result Start (List ℕ)) → StartStops r written written2 → Stops m xs xs budget unread unread2 written written2 r
  stops_at_start xs (Err text) h = (h, refl)
  stops_at_start xs (Ok t) h = inl (h, refl)

  -- memory ran out, or a stream failed, before it was
  pub talks_stopped : (xs : List (DynBox V Global P)) (profile : Option (List ℕ)) (start : List ℕ → Result Start (List ℕ)) (why : SessionError)
      → IfSome profile (λ text. StartStops (start text) written written2)
      → IfSome profile (λ text. Tells m xs xs budget unread unread2 written written2 (start text) (outcome_of (Err why)))
  talks_stopped xs None start why h = tt
  talks_stopped xs (Some text) start why h = stops_outcome xs xs (start text) why (stops_at_start xs (start text) h)

front_nothing : (o : Option (List ℕ)) (text : List ℕ) → HasFront o o text
front_nothing o text = front_none o text

-- nothing was begun
pub talks_unbegun : {V : Type 0} {P : V → Type 0} (m : Meanings P) (budget : ℕ) (unread written : Option (List ℕ)) (xs : List (DynBox V Global P)) (profile : Option (List ℕ))
    (start : List ℕ → Result Start (List ℕ)) → IfSome profile (λ text. Tells m xs xs budget unread unread written written (start text) (Ok Memory))
talks_unbegun m budget unread written xs None start = tt
talks_unbegun m budget unread written xs (Some text) start = unbegun (start text)
  where
    unbegun : (r : Result Start (List ℕ)) → Stops m xs xs budget unread unread written written r
    unbegun (Err t) = (front_nothing written t, refl)
    unbegun (Ok t) = inl (refl, refl)
