-- What commands ask of the drivers.
use Rattle.std.proofs.Common.{◌≡◌, ap, sym, ◌∙◌, subst, ℕ, List, [], ◌++◌, Option}
use Rattle.std.specs.Prelude.{All, Vec}
use Rattle.std.specs.List.{AllByRecursion, AllZip}
use Rattle.std.specs.declared.alloc.Global.{Global}
use Rattle.std.proofs.lemmas.List.Elements.{All-nil}
use Rattle.ang_host.specs.Logs.{listed_in, is_heard}
use Rattle.ang_host.specs.declared.event_buffer.EventBuffer.{EventBuffer}
use Rattle.ang_host.specs.declared.event.HostEvent.{HostEvent}
use Rattle.ang_host.specs.declared.event.Role.{Role}
use Rattle.ang_host.specs.Boxes.{members}
use Rattle.ang_host.specs.Meanings.{Meanings}
use Rattle.ang_host.specs.Events.{DriversFollow}
use Rattle.ang_host.proofs.Events.{AllFollow-none}
use Rattle.ang_view.specs.Registration.{RegistrationList}
use Rattle.ang_view.specs.Groups.{Grouped}
use Rattle.ang_engine.specs.Roles.{AreRoles, roles_of}
use Rattle.ang_engine.proofs.Roles.{own_roles}
use Rattle.ang_meaning.specs.World.{World as RunWorld}
use Rattle.ang_meaning.specs.Counting.{IsCounted}
use Rattle.ang_heap.specs.declared.store.Store.{Store}
use Rattle.ang_heap.specs.Stores.{world_of, IsKept, IsReady, StoreMoves}
use Rattle.ang_heap.proofs.Storing.{moves_join}
use Rattle.ang_engine_modules.specs.declared.modules.LoadedModule.{LoadedModule}
use Rattle.ang_engine_modules.specs.Loaded.{modules_of}
use Rattle.ang_engine_modules.specs.Modules.{Module as RunModule, AgreesWith, IsAskedIn}
use Rattle.ang_engine_modules.specs.declared.command.Command.{Command}
use Rattle.ang_engine_modules.specs.declared.module.Module.{Module}
use Rattle.ang_engine_modules.specs.declared.reply.Reply.{Reply}
use Rattle.ang_engine_modules.specs.World.{World, left_to, globals_ended}
use Rattle.ang_engine_modules.specs.States.{places_of}
use Rattle.ang_engine.specs.Step.{Takes, IsEntitled}
use Rattle.ang_engine.specs.Sound.{IsSoundPlace}
use Rattle.ang_engine.specs.Asked.{HasRunOn, HasAsked}
use Rattle.ang_engine.specs.Applied.{Applied}
use Rattle.ang_engine.specs.Outcomes.{IfRefusedAtOnce}
use Rattle.ang_engine.proofs.Entries.{AreApart, roles_agree, all_entitled, ends_entitled, agrees_none}
use Rattle.ang_engine.proofs.GlobalsEnd.{globals_ends, ends_all, ended_counted}
use Rattle.ang_engine.proofs.Limiting.{within_none, within_moves}

module _ {V : Type 0} {P : V → Type 0} (m : Meanings P) where
  -- ---- pieces of a command

  pub run-join : (ms : List RunModule) (s t u : Store V P) → HasRunOn m ms s t → HasRunOn m ms t u → HasRunOn m ms s u
  run-join ms s t u p q = record {
    asked = λ h. q.asked (p.asked h);
    moves = λ roles h. moves_join m roles s t u (p.moves roles h) (q.moves roles h);
    ready = λ h. q.ready (p.ready h);
    counted = λ h. q.counted (p.counted h);
  }

  -- the globals of a module end
  pub run-ended : (ms : List RunModule) (i : ℕ) (s t : Store V P) → globals_ended i (world_of m s) ≡ world_of m t → ((roles : List Role) → StoreMoves m roles s t) → HasRunOn m ms s t
  run-ended ms i s t e moves = record {
    asked = λ h. subst (λ (w : RunWorld). AllByRecursion (IsAskedIn ms) w.events) e (ends_all (IsAskedIn ms) (λ d k. tt) (world_of m s) (globals_ended i (world_of m s)) (globals_ends i (world_of m s)) h);
    moves = λ roles h. moves roles;
    ready = (moves []).ready;
    counted = λ h. subst (λ w. IsCounted [] w) e (ended_counted i (world_of m s) h);
  }

  -- ---- a whole command

  -- what is kept does not look at the events
  pub kept-same : (s : Store V P) (es : EventBuffer) → IsKept m (record s { events = es }) → IsKept m s
  kept-same s es k = record { drivers = k.drivers; alive = k.alive; none = k.none; due = k.due; tallied = k.tallied }

  -- nothing was asked
  pub asked-nothing : (R : RegistrationList) (after : World) (s : Store V P) → IsKept m s → IsCounted [] (world_of m s) → HasAsked m R after [] s s
  asked-nothing R after s kept counted = record { entitled = All-nil (IsEntitled R after); follow = λ roles fit. AllFollow-none _ _ _ roles (members s.drivers); within = within_none m s; kept = kept; counted = counted }

  module _ (R : RegistrationList) (s t : Store V P) (before after : EventBuffer) (first : listed_in before ≡ []) (ready : IsReady m (record s { events = before }))
      (counted : IsCounted [] (world_of m s)) where
    asked-by : (ms : List RunModule) (w : World) → HasRunOn m ms (record s { events = before }) (record t { events = after }) → ((roles : List Role) → AreRoles roles R → AgreesWith roles ms)
        → (AllByRecursion (IsAskedIn ms) (listed_in after) → All (IsEntitled R w) (listed_in after)) → HasAsked m R w (listed_in after) s t
    asked-by ms w h agrees entitled =
        let own = h.moves (roles_of R) (agrees (roles_of R) (own_roles R)) in
        record {
          entitled = entitled (h.asked (subst (λ es. AllByRecursion (IsAskedIn ms) es) (sym first) tt));
          follow = λ roles fit.
              let p = (h.moves roles (agrees roles fit)).parts in
              let more : listed_in after ≡ p.more = p.events ∙ ap (λ es. es ++ p.more) first in
              subst (λ es. DriversFollow m roles (members s.drivers) es (members t.drivers)) (sym more) p.follow;
          within = within_moves m (roles_of R) s t before after first ready own;
          kept = kept-same t after (h.ready ready).kept;
          counted = h.counted counted;
        }

    -- modules have run, whatever is built of them now, and events are heard as before
    pub asked-run : (xs : List (Option Module)) (ls ks : List (Option LoadedModule)) (order : List ℕ) (r : RunWorld) → AllZip (IsSoundPlace R) xs ls → AreApart xs
        → HasRunOn m (modules_of ls) (record s { events = before }) (record t { events = after })
        → HasAsked m R (left_to (record { places = places_of xs ks; order = order }) r) (listed_in after) s t
    asked-run xs ls ks order r zip apart h =
        asked-by (modules_of ls) (left_to (record { places = places_of xs ks; order = order }) r) h (λ roles fit. roles_agree roles R xs ls fit zip)
        (λ es. all_entitled R xs ls ks order r zip apart (listed_in after) es)

    pub heard-run : (xs : List (Option Module)) (ls : List (Option LoadedModule)) → AllZip (IsSoundPlace R) xs ls → HasRunOn m (modules_of ls) (record s { events = before }) (record t { events = after })
        → is_heard after ≡ is_heard before
    heard-run xs ls zip h = (h.moves (roles_of R) (roles_agree (roles_of R) R xs ls (own_roles R) zip)).heard

    -- none has run
    pub asked-ends : (w : World) → HasRunOn m [] (record s { events = before }) (record t { events = after }) → HasAsked m R w (listed_in after) s t
    asked-ends w h = asked-by [] w h (λ roles fit. agrees_none roles) (λ es. ends_entitled R w (listed_in after) es)

  pub applied-asked : (R : Grouped) (w v : World) (c : Command) (reply : Reply) (s t : Store V P)
      → Takes R w c reply v → HasAsked m R.entries v reply.events s t → IfRefusedAtOnce reply.outcome (members t.drivers ≡ members s.drivers)
      → Applied m R w (members s.drivers) c reply v (members t.drivers)
  applied-asked R w v c reply s t takes asked refused = record { takes = takes; entitled = asked.entitled; follow = asked.follow; refused = refused }
