-- A machine of the tests may run code, before its first run and after each that was not lost.
use Rattle.std.proofs.Common.{◌≡◌, ◌≢◌, ◌<◌, ℕ, zero, suc, List, [], ◌∷◌, refl, sym, ap, ◌∙◌, subst, inl, inr, Bool, true, false, Option, Some, None, Result, Ok, Err, length, arith}
use Rattle.std.proofs.lemmas.Bool.{ltb-true}
use Rattle.std.specs.Prelude.{◌&&◌, ltb, slice_get, Vec, map as list_map}
use Rattle.std.specs.Option.{option_flatten, IfSome}
use Rattle.std.specs.List.{list_all}
use Rattle.std.specs.Ordering.{nat_cmp}
use Rattle.std.specs.FinMap as map
use Rattle.std.specs.FinMap.{len-empty, get-empty}
use Rattle.std.specs.declared.alloc.Global.{Global}
use Rattle.std.specs.declared.boxed.Box.{Box}
use Rattle.ang_kinds.specs.declared.fault.Fault.{Fault}
use Rattle.ang_kinds.specs.declared.fault.Fault.TheVariants.{Null}
use Rattle.ang_kinds.specs.declared.primitive.Primitive.{Primitive}
use Rattle.ang_kinds.specs.declared.value.Value.{Value}
use Rattle.ang_host.specs.State.{State, count_at, count_of}
use Rattle.ang_host.specs.declared.event_buffer.EventBuffer.{EventBuffer}
use Rattle.ang_host.specs.Meanings.{Meanings}
use Rattle.ang_host.specs.Members.{state_at, AreFresh}
use Rattle.ang_meaning.specs.declared.host.HostUse.{HostUse}
use Rattle.ang_meaning.specs.declared.slot.Slot.{Slot}
use Rattle.ang_meaning.specs.declared.slot.Slot.TheVariants.{Bits, Script, Host}
use Rattle.ang_meaning.specs.declared.routine.Routine.{Routine}
use Rattle.ang_meaning.specs.World.{World, with_inputs}
use Rattle.ang_meaning.specs.Environment.{Environment}
use Rattle.ang_meaning.specs.Counting.{Thing, KeyOf, NumberOf, names, how_many, in_lists, counts_by, IsCounted}
use Rattle.ang_meaning.proofs.Counted.{give_counted}
use Rattle.ang_code.specs.Machine.{Texts, call_begins, initializer_begins}
use Rattle.ang_code.specs.Runs.{Gives, Stops}
use Rattle.ang_code.specs.Values.{answer_of}
use Rattle.ang_code_laws.proofs.Counting.{call_runs_count, initializer_runs_count}
use Rattle.ang_heap.specs.Parts.{live_in, AreReady}
use Rattle.ang_vm_stack.specs.declared.table.ModuleCode.{ModuleCode}
use Rattle.ang_vm_stack.specs.declared.table.Table.{Table}
use Rattle.ang_vm_stack.specs.Tables.{list_in}
use Rattle.ang_vm_ask.specs.Entities.{DriversThere}
use Rattle.ang_vm.specs.Machines.{HasCalled, HasRun, HasInitialized}
use Rattle.ang_vm.specs.declared.machines.Machine.{Machine}
use Rattle.tests_vm.specs.Ready.{is_below, names_nothing, MayBegin, IsAtRest}

both_left : (a b : Bool) → a && b ≡ true → a ≡ true
both_left true b h = refl
both_left false b h = cc

both_right : (a b : Bool) → a && b ≡ true → b ≡ true
both_right true b h = h
both_right false b h = cc

-- what holds of the value in an option
pub value_there : {X : Type 0} (P : X → Type 0) (r : Option X) (x : X) → r ≡ Some x → IfSome r P → P x
value_there P r x e h = subst (λ o. IfSome o P) e h

-- ---- drivers

one_there : (count e : ℕ) (us : List (Option HostUse)) (u : HostUse) → list_all (is_below count) us ≡ true → option_flatten (slice_get us e) ≡ Some u → u.driver < count
one_there count e [] u h k = cc
one_there count zero (None ∷ us) u h k = cc
one_there count zero (Some x ∷ us) u h k = let same : x ≡ u = cc in subst (λ y. y.driver < count) same (ltb-true x.driver count (both_left (ltb x.driver count) (list_all (is_below count) us) h))
one_there count (suc e) (x ∷ us) u h k = one_there count e us u (both_right (is_below count x) (list_all (is_below count) us) h) k

all_there : (count m e : ℕ) (ms : List ModuleCode) (u : HostUse) → list_all (λ c. list_all (is_below count) c.entities.items) ms ≡ true
    → option_flatten (slice_get (list_in (λ c. c.entities.items) (slice_get ms m)) e) ≡ Some u → u.driver < count
all_there count m e [] u h k = cc
all_there count zero e (c ∷ ms) u h k = one_there count e c.entities.items u (both_left (list_all (is_below count) c.entities.items) (list_all (λ c. list_all (is_below count) c.entities.items) ms) h) k
all_there count (suc m) e (c ∷ ms) u h k = all_there count m e ms u (both_right (list_all (is_below count) c.entities.items) (list_all (λ c. list_all (is_below count) c.entities.items) ms) h) k

pub drivers_there : (t : Table) (count : ℕ) → list_all (λ c. list_all (is_below count) c.entities.items) t.modules.items ≡ true → DriversThere t count
drivers_there t count h = record { each = λ m e u k. all_there count m e t.modules.items u h k }

-- ---- before the first run

count_empty : (k : ℕ) → count_at map.empty k ≡ 0
count_empty k = ap count_of (get-empty nat_cmp k)

counts_none : (ss : List State) (d : ℕ) → ((i : ℕ) → i < length ss → (state_at ss i).counts ≡ map.empty) → (state_at ss d).counts ≡ map.empty
counts_none [] d h = refl
counts_none (s ∷ ss) zero h = h 0 (omega arith)
counts_none (s ∷ ss) (suc d) h = counts_none ss d (λ i lt. h (suc i) (omega (arith, lt)))

live_none : (ss : List State) → ((i : ℕ) → i < length ss → (state_at ss i).counts ≡ map.empty) → live_in ss ≡ 0
live_none [] h = refl
live_none (s ∷ ss) h = omega (arith, ap map.len (h 0 (omega arith)), len-empty nat_cmp ℕ, live_none ss (λ i lt. h (suc i) (omega (arith, lt))))

pub live_fresh : (ss : List State) → AreFresh ss → live_in ss ≡ 0
live_fresh ss f = live_none ss f.idle

pub ready_fresh : (ss : List State) (len capacity : ℕ) → AreFresh ss → len ≡ 0 → AreReady ss len capacity
ready_fresh ss len capacity f e = record { sound = f.sound; room = omega (arith, e, live_fresh ss f) }

pub no_counts : (ss : List State) → AreFresh ss → (d k : ℕ) → count_at (counts_by ss d) k ≡ 0
no_counts ss f d k = ap (λ m. count_at m k) (counts_none ss d f.idle) ∙ count_empty k

one_empty : (x : Thing) (v : Slot) → names_nothing v ≡ true → names x v ≡ 0
one_empty (KeyOf d k) (Bits n) h = refl
one_empty (NumberOf m) (Bits n) h = refl
one_empty (KeyOf d k) (Script None) h = refl
one_empty (NumberOf m) (Script None) h = refl
one_empty x (Script (Some n)) h = cc
one_empty x (Host d k) h = cc

empty_values : (x : Thing) (vs : List Slot) → list_all names_nothing vs ≡ true → how_many x vs ≡ 0
empty_values x [] h = refl
empty_values x (v ∷ vs) h =
    omega (arith, one_empty x v (both_left (names_nothing v) (list_all names_nothing vs) h), empty_values x vs (both_right (names_nothing v) (list_all names_nothing vs) h))

pub empty_globals : (x : Thing) (gs : List (Box (Vec Slot Global) Global)) → list_all (λ b. list_all names_nothing b.value.items) gs ≡ true → in_lists x (list_map (λ b. b.value.items) gs) ≡ 0
empty_globals x [] h = refl
empty_globals x (b ∷ gs) h =
    omega (
      arith,
      empty_values x b.value.items (both_left (list_all names_nothing b.value.items) (list_all (λ b. list_all names_nothing b.value.items) gs) h),
      empty_globals x gs (both_right (list_all names_nothing b.value.items) (list_all (λ b. list_all names_nothing b.value.items) gs) h),
    )

-- ---- after a run

module _ (z : Environment) (code : Texts) (g : Routine) where
  end_counted : (budget : ℕ) (vs : List Slot) (w w' : World) (result : Result Slot Fault) → IsCounted vs w → HasCalled z code (λ is. call_begins z code budget g vs (with_inputs is w)) result w'
      → result ≢ Err Null → IsCounted [] w'
  end_counted budget vs w w' (Ok v) p h apart =
      subst (IsCounted []) (sym h.1.given) (give_counted v [] h.1.end (call_runs_count z code budget g vs w h.1.end (Gives v h.0) p h.1.runs))
  end_counted budget vs w w' (Err f) p (inl runs) apart = call_runs_count z code budget g vs w w' (Stops f) p runs
  end_counted budget vs w w' (Err f) p (inr lost) apart = absurd (apart (ap Err lost.0))

  pub run_counted : (type : Option Primitive) (budget : ℕ) (vs : List Slot) (w w' : World) (answer : Result (Option Value) Fault) → IsCounted vs w
      → HasRun z code type (λ is. call_begins z code budget g vs (with_inputs is w)) answer w' → answer ≢ Err Null → IsCounted [] w'
  run_counted type budget vs w w' answer p h apart = end_counted budget vs w w' h.end p h.called (λ e. apart (h.answered ∙ ap (answer_of type) e))

  pub initialized_counted : (ticks : ℕ) (w w' : World) (result : Result ℕ Fault) → IsCounted [] w → HasInitialized z code (λ is. initializer_begins z code ticks g (with_inputs is w)) result w'
      → result ≢ Err Null → IsCounted [] w'
  initialized_counted ticks w w' (Ok left) p h apart =
      subst (IsCounted []) (sym h.1.given) (give_counted h.0 [] h.1.end (initializer_runs_count z code ticks g w h.1.end (Gives h.0 left) p h.1.runs))
  initialized_counted ticks w w' (Err f) p (inl runs) apart = initializer_runs_count z code ticks g w w' (Stops f) p runs
  initialized_counted ticks w w' (Err f) p (inr lost) apart = absurd (apart (ap Err lost.0))

-- a number as the argument
bits_none : (x : Thing) (n : ℕ) → how_many x (Bits n ∷ []) ≡ 0
bits_none (KeyOf d k) n = refl
bits_none (NumberOf m) n = refl

pub with_number : (n : ℕ) (w : World) → IsCounted [] w → IsCounted (Bits n ∷ []) w
with_number n w p = record {
  counts = record { counts = λ x. omega (arith, p.counts.counts x, bits_none x n) };
  ordered = p.ordered;
}

-- what was listed does not matter to the next run
pub comes_to_rest : {V : Type 0} {P : V → Type 0} (m : Meanings P) (x : Machine V P) (events : EventBuffer) → MayBegin m x events → IsAtRest m x
comes_to_rest m x events b = λ after room.
    let k = b.ready.kept in
    record {
      ready = record {
        kept = record { drivers = k.drivers; alive = k.alive; none = k.none; due = k.due; tallied = k.tallied };
        room = room;
      };
      counted = b.counted;
    }
