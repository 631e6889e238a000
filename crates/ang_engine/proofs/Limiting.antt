-- Limits, from pieces of a run to lists of commands.
use Rattle.std.proofs.Common.{◌≡◌, ◌≤◌, refl, ap, sym, ◌∙◌, subst, ℕ, List, [], ◌∷◌, length, arith}
use Rattle.std.specs.Prelude.{max, All}
use Rattle.std.proofs.Math.Nat.{le-max_left, le-max_right, max-le}
use Rattle.std.proofs.lemmas.List.Elements.{All-from_recursion}
use Rattle.std.specs.List.{AllByRecursion}
use Rattle.ang_host.specs.Logs.{listed_in, log_len}
use Rattle.ang_host.specs.Events.{ends_listed}
use Rattle.ang_host.proofs.Listing.{ends_listed_few}
use Rattle.ang_host.specs.declared.event_buffer.EventBuffer.{EventBuffer}
use Rattle.ang_host.specs.declared.event.HostEvent.{HostEvent}
use Rattle.ang_host.specs.declared.event.Role.{Role}
use Rattle.ang_host.specs.Meanings.{Meanings}
use Rattle.ang_heap.specs.declared.limits.Limits.{Limits}
use Rattle.ang_heap.specs.declared.limits.Held.{Held}
use Rattle.ang_heap.specs.declared.globals.Globals.{Globals}
use Rattle.ang_heap.specs.declared.store.Store.{Store}
use Rattle.ang_heap.specs.Stores.{IsReady, StoreMoves}
use Rattle.ang_engine_modules.specs.declared.reply.Reply.{Reply}
use Rattle.ang_engine.specs.Limited.{no_limits, held_of, IsLimited, StaysWithin, Listing, AreLimited, IsBounded, LimitsHold}

-- limits and what is held are the same where their numbers are
pub limits_same : (l : Limits) → l.events ≡ no_limits.events → l.slots ≡ no_limits.slots → l.objects ≡ no_limits.objects → l ≡ no_limits
limits_same l e s o = λ i. record { events = e i; slots = s i; objects = o i }

pub held_same : (h k : Held) → h.slots ≡ k.slots → h.objects ≡ k.objects → h ≡ k
held_same h k s o = λ i. record { slots = s i; objects = o i }

-- ---- one command

-- no more events are ends than there are
pub ends_are_few : (es : List HostEvent) → ends_listed es ≤ length es
ends_are_few es = ends_listed_few es

-- nothing is listed, and as much is held as before
pub limited_none : (l : Limits) (h : Held) → IsLimited l h [] h
limited_none l h = record { few_events = omega arith; few_slots = le-max_right l.slots h.slots; few_objects = le-max_right l.objects h.objects }

module _ {V : Type 0} {P : V → Type 0} (m : Meanings P) where
  pub within_none : (s : Store V P) → StaysWithin m s [] s
  within_none s = record { limits = refl; limited = limited_none s.limits (held_of m s) }

  pub within_globals : (s : Store V P) (gs : Globals) → StaysWithin m s [] (record s { globals = gs })
  within_globals s gs = record { limits = refl; limited = limited_none s.limits (held_of m s) }

  -- said of the reply
  pub within_reply : (s t : Store V P) (reply done : Reply) → reply ≡ done → StaysWithin m s done.events t → StaysWithin m s reply.events t
  within_reply s t reply done e h = subst (λ (r : Reply). StaysWithin m s r.events t) (sym e) h

  -- a piece of a run that begins with no events is a command's
  pub within_moves : (roles : List Role) (s t : Store V P) (before after : EventBuffer) → listed_in before ≡ [] → IsReady m (record s { events = before })
      → StoreMoves m roles (record s { events = before }) (record t { events = after }) → StaysWithin m s (listed_in after) t
  within_moves roles s t before after first ready moves =
      let l = s.limits in
      let h = held_of m s in
      let k = (moves.ready ready).kept in
      let none : log_len before ≡ 0 = ap length first in
      let w = moves.within ready (max l.slots h.slots) (max l.events h.objects) (max l.objects h.objects)
      (record { slots = le-max_left l.slots h.slots; events = le-max_left l.events h.objects; objects = le-max_left l.objects h.objects })
      (record {
        slots = omega (arith, ready.kept.tallied, le-max_right l.slots h.slots);
        events = omega (arith, none, ready.kept.alive, le-max_right l.events h.objects);
        objects = omega (arith, ready.kept.alive, le-max_right l.objects h.objects);
      }) in
      record {
        limits = moves.limits;
        limited = record {
          few_events = omega (arith, w.events);
          few_slots = omega (arith, w.slots, k.tallied);
          few_objects = omega (arith, w.objects, k.alive);
        };
      }

-- ---- lists of commands

-- what bounds one command of a list bounds those after it
later : (l : Limits) (first next : Held) (c : Listing) → next.slots ≤ max l.slots first.slots → next.objects ≤ max l.objects first.objects → IsBounded l next c → IsBounded l first c
later l first next c slots objects b =
    let o : max l.objects next.objects ≤ max l.objects first.objects = max-le (le-max_left l.objects first.objects) objects in
    let s : max l.slots next.slots ≤ max l.slots first.slots = max-le (le-max_left l.slots first.slots) slots in
    let e : max l.events (max l.objects next.objects) ≤ max l.events (max l.objects first.objects) =
    max-le (le-max_left l.events (max l.objects first.objects)) (omega (arith, o, le-max_right l.events (max l.objects first.objects))) in
    record { few_events = omega (arith, b.few_events, e); few_slots = omega (arith, b.few_slots, s); few_objects = omega (arith, b.few_objects, o) }

one : (l : Limits) (first : Held) (c : Listing) → IsLimited l first c.0 c.1 → IsBounded l first c
one l first c h =
    let o : first.objects ≤ max l.objects first.objects = le-max_right l.objects first.objects in
    let e : max l.events first.objects ≤ max l.events (max l.objects first.objects) =
    max-le (le-max_left l.events (max l.objects first.objects)) (omega (arith, o, le-max_right l.events (max l.objects first.objects))) in
    record { few_events = omega (arith, h.few_events, e); few_slots = h.few_slots; few_objects = h.few_objects }

-- a list of commands that begins where another one has come to
bounded_after : (l : Limits) (first next : Held) → next.slots ≤ max l.slots first.slots → next.objects ≤ max l.objects first.objects → (cs : List Listing) → AllByRecursion (IsBounded l next) cs
    → AllByRecursion (IsBounded l first) cs
bounded_after l first next slots objects [] h = tt
bounded_after l first next slots objects (c ∷ cs) h = (later l first next c slots objects h.0, bounded_after l first next slots objects cs h.1)

bounded : (l : Limits) (first : Held) (cs : List Listing) → AreLimited l first cs → AllByRecursion (IsBounded l first) cs
bounded l first [] h = tt
bounded l first (c ∷ cs) h = (one l first c h.0, bounded_after l first c.1 h.0.few_slots h.0.few_objects cs (bounded l c.1 cs h.1))

pub limits_hold : LimitsHold
limits_hold l first cs h = All-from_recursion (λ c. IsBounded l first c) cs (bounded l first cs h)
