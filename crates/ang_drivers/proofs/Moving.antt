-- Each call of the objects is the law of the driver's call.
use Rattle.std.specs.Prelude.{ℕ, ◌+◌, ◌≡◌, Bool, true, false, List, Option, Some, None}
use Rattle.std.specs.FinMap as map
use Rattle.std.proofs.Common.{refl, sym, ◌∙◌, ap, subst, inl, inr}
use Rattle.ang_host.specs.declared.answer.Made.{Made}
use Rattle.ang_host.specs.declared.answer.Made.TheVariants.{Key as MadeKey, Nothing, Fault as MadeFault, Memory as MadeMemory, Full as MadeFull}
use Rattle.ang_host.specs.declared.answer.Answer.{Answer}
use Rattle.ang_host.specs.declared.answer.Answer.TheVariants.{Void, Gave, Fault, Memory, Full}
use Rattle.ang_host.specs.declared.answer.HostReply.{HostReply}
use Rattle.ang_host.specs.declared.answer.HostReply.TheVariants.{Making, Asking}
use Rattle.ang_host.specs.State.{State, Ask, Tally, end}
use Rattle.ang_host.specs.Laws.{Fits, IsSound, IsLiveOption, IsAsked, Answers, Answered, WasMade, WasReleased, IsLiveAnswer, one_asked}
use Rattle.ang_drivers.specs.declared.objects.Objects.{Objects}
use Rattle.ang_drivers.specs.Objects.{Ledger, Table, IsHeld, IsRevalued, Asks, Inserts, MakesOne, ReleasesOne, with_value, without}
use Rattle.ang_drivers.specs.ObjectsLedger.{ledger}
use Rattle.ang_drivers.specs.Tables.{core_of, state_of, Moves, CoreFits, MakesValue}
use Rattle.ang_drivers.proofs.Ledgers.{insert_again}

-- an answer that is not for want of a tally
abbrev pub IsNotFull : Answer → Type 0
IsNotFull Void = Unit {0}
IsNotFull (Gave v) = Unit {0}
IsNotFull (Fault n) = Unit {0}
IsNotFull Memory = Unit {0}
IsNotFull Full = ⊥

not_full : (fits : Fits) (s : State) (a : Ask) (r : Answer) (t : State) → IsNotFull r → IsAsked fits s a (Asking r) t → Answers fits s a r t
not_full fits s a Void t p h = h
not_full fits s a (Gave v) t p h = h
not_full fits s a (Fault n) t p h = h
not_full fits s a Memory t p h = h
not_full fits s a Full t p h = absurd p

-- the objects after a host call that was counted, apart from their values
pub record IsAsking {T : Type 0} (s u : Ledger T) : Type 0 where
  pub counts : u.counts ≡ s.counts
  pub tally : u.tally ≡ one_asked s.tally

-- a host call that changes no more than values
pub record IsKept {T : Type 0} (t u : Ledger T) : Type 0 where
  pub counts : u.counts ≡ t.counts
  pub tally : u.tally ≡ t.tally

pub kept : {T : Type 0} (t : Ledger T) → IsKept t t
kept t = record { counts = refl; tally = refl }

pub revalued : {T : Type 0} (t u : Ledger T) (k : ℕ) (v : T) → IsRevalued t k v u → IsKept t u
revalued t u k v e = record { counts = ap (λ x. x.counts) e; tally = ap (λ x. x.tally) e }

pub revalued_table : {T : Type 0} (t u : Ledger T) (k : ℕ) (v w : T) → IsRevalued t k v u → v ≡ w → u.table ≡ with_value t.table k w
revalued_table t u k v w e h = ap (λ x. x.table) e ∙ ap (λ x. with_value t.table k x) h

-- a value that is put there for a while
pub revalued_twice : {T : Type 0} (s t u : Ledger T) (k : ℕ) (v w : T) → IsRevalued s k v t → IsRevalued t k w u → IsRevalued s k w u
revalued_twice {T} s t u k v w e f =
    f ∙ ap (λ (x : Ledger T). record { counts = x.counts; table = with_value x.table k w; tally = x.tally }) e
    ∙ ap (λ m. record { counts = s.counts; table = record { next = s.table.next; values = m }; tally = s.tally }) (insert_again s.table.values k v w)

pub held_revalued : {T : Type 0} (s t : Ledger T) (k : ℕ) (v : T) → IsRevalued s k v t → IsHeld s k → IsHeld t k
held_revalued s t k v e h = (h.0, ap (λ x. map.get x.counts k) e ∙ h.1)

module _ {T : Type 0} (code : T → List ℕ) where
  pub sound_of : (o : Objects T) → IsSound (state_of code (ledger o))
  sound_of o = record { sums = o.sums; positive = o.positive }

  asked : (s t : Ledger T) → Asks s true t → IsAsking s t
  asked s t e = record { counts = ap (λ x. x.counts) e; tally = ap (λ x. x.tally) e }

  asked_table : (s t : Ledger T) → Asks s true t → t.table ≡ s.table
  asked_table s t e = ap (λ x. x.table) e

  -- an object that was live before a host call is live after it
  pub held_after : (s t : Ledger T) (o : Option ℕ) (k : ℕ) → Asks s true t → o ≡ Some k → IsLiveOption (state_of code s) o → IsHeld t k
  held_after s t o k q e h =
      let live : IsLiveOption (state_of code s) (Some k) = subst (IsLiveOption (state_of code s)) e h in
      (live.0, ap (λ m. map.get m k) (asked s t q).counts ∙ live.1)

  -- and so is a key among the arguments
  pub live_after : (s t : Ledger T) (o : Option ℕ) → Asks s true t → IsLiveOption (state_of code s) o → IsLiveOption (state_of code t) o
  live_after s t None q h = tt
  live_after s t (Some k) q h = (h.0, ap (λ m. map.get m k) (asked s t q).counts ∙ h.1)

  module _ (moves : Moves T) where
    -- the relation of the tables is that of their cores
    told : (x y : Table T) (a : Ask) (r : HostReply) → moves x a r y → CoreFits code moves (core_of code x) a r (core_of code y)
    told x y a r m = (x, y, refl, refl, m)

    told_after : (s t : Ledger T) (y : Table T) (a : Ask) (r : HostReply) → Asks s true t → moves t.table a r y → CoreFits code moves (core_of code s.table) a r (core_of code y)
    told_after s t y a r q m = told s.table y a r (subst (λ x. moves x a r y) (asked_table s t q) m)

    pub answered : (s t u : Ledger T) (a : Ask) (r : Answer) → Asks s true t → IsKept t u → IsNotFull r → moves t.table a (Asking r) u.table → IsLiveAnswer (state_of code u) r → IsSound (state_of code u)
        → Answered (CoreFits code moves) (state_of code s) a r (state_of code u)
    answered s t u a r q w p m live sound = record {
      moved = not_full (CoreFits code moves) (state_of code s) a r (state_of code u) p
          (w.counts ∙ (asked s t q).counts, w.tally ∙ (asked s t q).tally, told_after s t u.table a (Asking r) q m);
      live = live;
      sound = sound;
    }

    pub made_fault : (s t : Ledger T) (a : Ask) (n : ℕ) → Asks s true t → moves t.table a (Making (MadeFault n)) t.table → IsSound (state_of code t)
        → WasMade (CoreFits code moves) (state_of code s) a (MadeFault n) (state_of code t)
    made_fault s t a n q m sound = record { moved = ((asked s t q).counts, (asked s t q).tally, told_after s t t.table a (Making (MadeFault n)) q m); sound = sound }

    made_memory : (s t u : Ledger T) (a : Ask) → Asks s true t → u ≡ t → moves t.table a (Making MadeMemory) u.table → IsSound (state_of code u)
        → WasMade (CoreFits code moves) (state_of code s) a MadeMemory (state_of code u)
    made_memory s t u a q e m sound = record {
      moved = (ap (λ x. x.counts) e ∙ (asked s t q).counts, ap (λ x. x.tally) e ∙ (asked s t q).tally, told_after s t u.table a (Making MadeMemory) q m);
      sound = sound;
    }

    made_key : (s t u : Ledger T) (a : Ask) (v : T) (k : ℕ) → Asks s true t → Inserts t v k u → moves t.table a (Making (MadeKey k)) u.table → IsSound (state_of code u)
        → WasMade (CoreFits code moves) (state_of code s) a (MadeKey k) (state_of code u)
    made_key s t u a v k q i m sound = record {
      moved = (
        ap (λ n. map.get n k) (sym (asked s t q).counts) ∙ i.unused,
        i.counts ∙ ap (λ n. map.insert n k 1) (asked s t q).counts,
        i.tally ∙ ap (λ (y : Tally). record y { made = y.made + 1 }) (asked s t q).tally,
        told_after s t u.table a (Making (MadeKey k)) q m,
      );
      sound = sound;
    }

    -- the host call for an object of the value v moves as the making of that value
    pub made_value : (s t u : Ledger T) (a : Ask) (v : T) (r : Made) → Asks s true t → MakesOne t v r u
        → ((r : HostReply) (y : Table T) → MakesValue t.table (Some v) r y → moves t.table a r y) → IsSound (state_of code u)
        → WasMade (CoreFits code moves) (state_of code s) a r (state_of code u)
    made_value s t u a v (MadeKey k) q h m sound = made_key s t u a v k q h (m (Making (MadeKey k)) u.table (inl (ap (λ n. Making (MadeKey n)) h.key, h.table))) sound
    made_value s t u a v MadeMemory q h m sound = made_memory s t u a q h (m (Making MadeMemory) u.table (inr (refl, ap (λ x. x.table) h))) sound
    made_value s t u a v Nothing q h m sound = absurd h
    made_value s t u a v (MadeFault n) q h m sound = absurd h
    made_value s t u a v MadeFull q h m sound = absurd h

    pub released : (s t : Ledger T) (k : ℕ) (r : Bool) → ReleasesOne s k r t → (moves s.table (end k) (Asking Void) (without s.table k)) → IsSound (state_of code t)
        → WasReleased (CoreFits code moves) (state_of code s) k r (state_of code t)
    released s t k true h m sound = record {
      moved = (h.0, h.1, h.3, told s.table t.table (end k) (Asking Void) (subst (λ y. moves s.table (end k) (Asking Void) y) (sym h.2) m));
      sound = sound;
    }
    released s t k false h m sound = record { moved = (h.0, h.1, h.2, ap (core_of code) h.3, h.4); sound = sound }
