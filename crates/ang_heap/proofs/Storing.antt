-- Values held and given up in a store, over worlds.
use Rattle.std.proofs.Common.{◌≡◌, ◌≤◌, ℕ, List, [], ◌∷◌, Bool, true, false, refl, sym, ap, ◌∙◌, arith, Option, Some, None, cond, subst, Result, Ok, Err, is_ok, OnErr}
use Rattle.std.specs.Prelude.{◌-◌, ◌^◌}
use Rattle.std.specs.FinMap as map
use Rattle.std.proofs.lemmas.Bool.{le-ltb}
use Rattle.ang_host.specs.Logs.{listed_in}
use Rattle.ang_host.specs.declared.event.HostEvent.{HostEvent}
use Rattle.ang_host.specs.declared.event.Role.{Role}
use Rattle.ang_host.specs.Meanings.{Meanings}
use Rattle.ang_host.specs.Boxes.{members}
use Rattle.ang_meaning.specs.declared.slot.Slot.{Slot}
use Rattle.ang_meaning.specs.declared.slot.Slot.TheVariants.{Bits, Script, Host}
use Rattle.ang_meaning.specs.World.{World, Bounds, ScriptRecord, ScriptObjects, HostCounts, Tallied, Yes, No, or_else, hold, one_more, Inside, AtEnd, hold_limit_of, refused_at, tally_step, host_raised, script_raised, if_told, with_inputs}
use Rattle.ang_meaning.specs.Told.{Told}
use Rattle.ang_heap.specs.declared.heap.Heap.{Heap}
use Rattle.ang_heap.specs.declared.store.Store.{Store}
use Rattle.ang_meaning.specs.Counting.{count_of_object}
use Rattle.ang_heap.specs.Parts.{world_by, noted}
use Rattle.ang_heap.specs.Heaps.{IsTallied}
use Rattle.ang_heap.specs.Stores.{AllowAtMost, StoreMoves}
use Rattle.ang_heap.proofs.Hosting.{parts_none, parts_join}

pub bits_hold : (n : ℕ) (w : World) → Told (λ is. hold (Bits n) (with_inputs is w)) (λ is. if_told true (with_inputs is w))
unfolding hold tally_step one_more
bits_hold n w = record { used = []; tells = λ rest. refl }

pub null_hold : (w : World) → Told (λ is. hold (Script None) (with_inputs is w)) (λ is. if_told true (with_inputs is w))
unfolding hold tally_step one_more
null_hold w = record { used = []; tells = λ rest. refl }

pub no_key_hold : (d : ℕ) (w : World) → Told (λ is. hold (Host d None) (with_inputs is w)) (λ is. if_told true (with_inputs is w))
unfolding hold tally_step one_more
no_key_hold d w = record { used = []; tells = λ rest. refl }

-- the count of a script object that is full stands at its end
at_end : (o : Option ScriptRecord) → 2 ^ 64 - 1 ≤ count_of_object o → hold_limit_of o ≡ AtEnd
at_end None h = absurd (omega (arith, h))
at_end (Some o) h = ap (λ b. cond b Inside AtEnd) (le-ltb o.count (2 ^ 64 - 1) h)

module _ (gs : List (List Slot)) (es : List HostEvent) (reserved : ℕ) (sp : Bool) (bounds : Bounds) where
  pub host_hold : (d k : ℕ) (b : Bool) (os : ScriptObjects) (hs hs' : HostCounts) → hs' ≡ cond b (host_raised d k hs) hs
      → Told (λ is. hold (Host d (Some k)) (with_inputs is (world_by os hs gs es reserved sp bounds []))) (λ is. if_told b (with_inputs is (world_by os hs' gs es reserved (noted (Host d (Some k)) b sp) bounds [])))
  unfolding hold tally_step one_more
  host_hold d k true os hs hs' e = record { used = Tallied true ∷ []; tells = λ rest. ap (λ h. Yes (world_by os h gs es reserved sp bounds rest)) (sym e) }
  host_hold d k false os hs hs' e = record { used = Tallied false ∷ []; tells = λ rest. ap (λ h. No (world_by os h gs es reserved true bounds rest)) (sym e) }

  pub script_hold : (n : ℕ) (b : Bool) (os os' : ScriptObjects) (hs : HostCounts) → os' ≡ cond b (script_raised n os) os → (b ≡ false → 2 ^ 64 - 1 ≤ count_of_object (map.get os n))
      → Told (λ is. hold (Script (Some n)) (with_inputs is (world_by os hs gs es reserved sp bounds []))) (λ is. if_told b (with_inputs is (world_by os' hs gs es reserved sp bounds [])))
  unfolding hold tally_step one_more
  script_hold n true os os' hs e full = record { used = Tallied true ∷ []; tells = λ rest. ap (λ o. Yes (world_by o hs gs es reserved sp bounds rest)) (sym e) }
  script_hold n false os os' hs e full = record {
    used = Tallied false ∷ [];
    tells = λ rest.
        ap (λ x. or_else (refused_at x rest (world_by os hs gs es reserved sp bounds (Tallied false ∷ rest))) No (λ u. Yes (one_more (Script (Some n)) u))) (at_end (map.get os n) (full refl))
        ∙ ap (λ o. No (world_by o hs gs es reserved sp bounds rest)) (sym e);
  }

-- ---- the same of a value that is such a one

pub bits_held : (v : Slot) (n : ℕ) (w : World) → v ≡ Bits n → Told (λ is. hold v (with_inputs is w)) (λ is. if_told true (with_inputs is w))
bits_held v n w e = subst (λ x. Told (λ is. hold x (with_inputs is w)) (λ is. if_told true (with_inputs is w))) (sym e) (bits_hold n w)

pub null_held : (v : Slot) (w : World) → v ≡ Script None → Told (λ is. hold v (with_inputs is w)) (λ is. if_told true (with_inputs is w))
null_held v w e = subst (λ x. Told (λ is. hold x (with_inputs is w)) (λ is. if_told true (with_inputs is w))) (sym e) (null_hold w)

pub no_key_held : (v : Slot) (d : ℕ) (w : World) → v ≡ Host d None → Told (λ is. hold v (with_inputs is w)) (λ is. if_told true (with_inputs is w))
no_key_held v d w e = subst (λ x. Told (λ is. hold x (with_inputs is w)) (λ is. if_told true (with_inputs is w))) (sym e) (no_key_hold d w)

pub host_held : (v : Slot) (d k : ℕ) (b : Bool) (w : World) (hs' : HostCounts) → v ≡ Host d (Some k) → hs' ≡ cond b (host_raised d k w.hosts) w.hosts
    → Told (λ is. hold v (with_inputs is w)) (λ is. if_told b (with_inputs is (record w { hosts = hs'; spent = noted v b w.spent })))
host_held v d k b w hs' e h =
    subst (λ x. Told (λ is. hold x (with_inputs is w)) (λ is. if_told b (with_inputs is (record w { hosts = hs'; spent = noted x b w.spent })))) (sym e)
    (host_hold w.globals w.events w.reserved w.spent w.bounds d k b w.objects w.hosts hs' h)

pub script_held : (v : Slot) (n : ℕ) (b : Bool) (w : World) (os' : ScriptObjects) → v ≡ Script (Some n) → os' ≡ cond b (script_raised n w.objects) w.objects
    → (b ≡ false → 2 ^ 64 - 1 ≤ count_of_object (map.get w.objects n)) → Told (λ is. hold v (with_inputs is w)) (λ is. if_told b (with_inputs is (record w { objects = os' })))
script_held v n b w os' e h full =
    subst (λ x. Told (λ is. hold x (with_inputs is w)) (λ is. if_told b (with_inputs is (record w { objects = os' })))) (sym e) (script_hold w.globals w.events w.reserved w.spent w.bounds n b w.objects os' w.hosts h full)

-- nothing is noted of it
pub none_noted : (v x : Slot) (b : Bool) (w u : World) → v ≡ x → noted x b w.spent ≡ u.spent → Told (λ is. hold v (with_inputs is w)) (λ is. if_told b (with_inputs is u))
    → Told (λ is. hold v (with_inputs is w)) (λ is. if_told b (with_inputs is (record u { spent = noted v b w.spent })))
none_noted v x b w u e n t =
    subst (λ q. Told (λ is. hold v (with_inputs is w)) (λ is. if_told b (with_inputs is (record u { spent = q })))) (sym (ap (λ y. noted y b w.spent) e ∙ n)) t

pub on_false : {A E P : Type 0} (r : Result A E) → is_ok r ≡ false → OnErr r P → P
on_false (Ok a) e p = absurd (let x : ⊥ = cc in x)
on_false (Err e) h p = p

-- ---- pieces of a run

pub moves_none : {V : Type 0} {P : V → Type 0} (m : Meanings P) (roles : List Role) (s : Store V P) → StoreMoves m roles s s
moves_none m roles s = record { parts = parts_none m roles (members s.drivers) (listed_in s.events); ready = λ r. r; heard = refl; limits = refl; within = λ r n k o a h. h; made = λ n l h. h }

pub moves_join : {V : Type 0} {P : V → Type 0} (m : Meanings P) (roles : List Role) (s t u : Store V P) → StoreMoves m roles s t → StoreMoves m roles t u → StoreMoves m roles s u
moves_join m roles s t u p q = record {
  parts = parts_join m roles (members s.drivers) (members t.drivers) (members u.drivers) (listed_in s.events) (listed_in t.events) (listed_in u.events) p.parts q.parts;
  ready = λ r. q.ready (p.ready r);
  heard = q.heard ∙ p.heard;
  limits = q.limits ∙ p.limits;
  within = λ r n k o a h. q.within (p.ready r) n k o (subst (AllowAtMost n k o) (sym p.limits) a) (p.within r n k o a h);
  made = λ n l h. q.made n (subst (λ x. x.slots ≤ n) (sym p.limits) l) (p.made n l h);
}

-- its script objects alone are others, which take more slots than before only within the limit
pub moves_objects : {V : Type 0} {P : V → Type 0} (m : Meanings P) (roles : List Role) (s : Store V P) (h : Heap) → (IsTallied s.heap → IsTallied h)
    → ((n : ℕ) → s.heap.slots ≤ n → s.limits.slots ≤ n → h.slots ≤ n) → StoreMoves m roles s (record s { heap = h })
moves_objects m roles s h tallied grown = record {
  parts = parts_none m roles (members s.drivers) (listed_in s.events);
  ready = λ r. record { kept = record { drivers = r.kept.drivers; alive = r.kept.alive; none = r.kept.none; due = r.kept.due; tallied = tallied r.kept.tallied }; room = r.room };
  heard = refl;
  limits = refl;
  within = λ r n k o a w. record { slots = grown n w.slots a.slots; events = w.events; objects = w.objects };
  made = λ n l h. h;
}

-- an object was made while so many ticks were left
pub moves_made : {V : Type 0} {P : V → Type 0} (m : Meanings P) (roles : List Role) (s : Store V P) (made ticks : ℕ) → made ≤ s.limits.slots → StoreMoves m roles s (record s { made = made; made_at = ticks })
moves_made m roles s made ticks few = record {
  parts = parts_none m roles (members s.drivers) (listed_in s.events);
  ready = λ r. record { kept = record { drivers = r.kept.drivers; alive = r.kept.alive; none = r.kept.none; due = r.kept.due; tallied = r.kept.tallied }; room = r.room };
  heard = refl;
  limits = refl;
  within = λ r n k o a w. record { slots = w.slots; events = w.events; objects = w.objects };
  made = λ n l h. omega (arith, few, l);
}
