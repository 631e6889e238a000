-- The laws of a driver, as relations between its states before and after a call
-- (docs/RATTLE_HOST.md).
use Rattle.std.specs.Prelude.{ℕ, ◌+◌, ◌≡◌, ◌<◌, ◌⊎◌, ◌↔◌, List, [], ◌∷◌, Option, Some, None, Bool, true, false, IsTrue}
use Rattle.std.specs.FinMap as map
use Rattle.ang_kinds.specs.declared.value.Value.{Value}
use Rattle.ang_kinds.specs.declared.value.Value.TheVariants.{Key as KeyValue}
use Rattle.ang_host.specs.declared.answer.Made.{Made}
use Rattle.ang_host.specs.declared.answer.Made.TheVariants.{Key as MadeKey, Full as MadeFull}
use Rattle.ang_host.specs.declared.answer.Answer.{Answer}
use Rattle.ang_host.specs.declared.answer.Answer.TheVariants.{Void, Gave, Full}
use Rattle.ang_host.specs.declared.answer.HostReply.{HostReply}
use Rattle.ang_host.specs.declared.answer.HostReply.TheVariants.{Making, Asking}
use Rattle.ang_host.specs.State.{State, Tally, Ask, end, limit, total}

-- how a driver's core moves: the core before, what was asked, the answer, the core after
abbrev pub Fits : Type 1
Fits = List ℕ → Ask → HostReply → List ℕ → Type 0

-- what a driver of the type S means: the state of each value, and how its core moves
pub record Meaning (S : Type 0) : Type 1 where
  pub state : S → State
  pub fits : Fits

-- a key with a count
abbrev pub IsLive : State → ℕ → Type 0
IsLive s k = (n : ℕ) × (map.get s.counts k ≡ Some n)

abbrev pub IsLiveOption : State → Option ℕ → Type 0
IsLiveOption s None = Unit {0}
IsLiveOption s (Some k) = IsLive s k

-- each key of the value is live
abbrev pub IsLiveValue : State → Value → Type 0
IsLiveValue s (KeyValue k) = IsLiveOption s k
IsLiveValue s _ = Unit {0}

abbrev pub AreLive : State → List Value → Type 0
AreLive s [] = Unit {0}
AreLive s (v ∷ vs) = IsLiveValue s v × AreLive s vs

-- a key that is answered is live
abbrev pub IsLiveAnswer : State → Answer → Type 0
IsLiveAnswer s (Gave v) = IsLiveValue s v
IsLiveAnswer s _ = Unit {0}

-- a tally has run out
abbrev pub IsFull : State → Type 0
IsFull s = (s.tally.asked ≡ limit) ⊎ ((s.tally.made ≡ limit) ⊎ (s.tally.added ≡ limit))

-- the tallies add up, and a live key has a count of at least 1
pub record IsSound (s : State) : Type 0 where
  pub sums : s.tally.made + s.tally.added ≡ s.tally.released + total s.counts
  pub positive : (k n : ℕ) → map.get s.counts k ≡ Some n → 0 < n

-- one host call more
abbrev pub one_asked : Tally → Tally
one_asked t = record t { asked = t.asked + 1 }

-- one host call that was not refused as `Full` and made no key
abbrev pub IsAsked : Fits → State → Ask → HostReply → State → Type 0
IsAsked fits s a r t =
    (t.counts ≡ s.counts) × (t.tally ≡ one_asked s.tally) × fits s.core a r t.core

-- a host call through `call`, `read` or `write`
abbrev pub Answers : Fits → State → Ask → Answer → State → Type 0
Answers fits s a Full t = (t ≡ s) × IsFull s
Answers fits s a r t = IsAsked fits s a (Asking r) t

-- a host call through `make`
abbrev pub Makes : Fits → State → Ask → Made → State → Type 0
Makes fits s a MadeFull t = (t ≡ s) × IsFull s
Makes fits s a (MadeKey k) t =
    (map.get s.counts k ≡ None) × (t.counts ≡ map.insert s.counts k 1)
    × (t.tally ≡ record s.tally { asked = s.tally.asked + 1; made = s.tally.made + 1 })
    × fits s.core a (Making (MadeKey k)) t.core
Makes fits s a r t = IsAsked fits s a (Making r) t

-- one more reference to the key k, or a full tally
abbrev pub Adds : State → ℕ → Bool → State → Type 0
Adds s k true t =
    (n : ℕ) × (map.get s.counts k ≡ Some n) × (t.counts ≡ map.insert s.counts k (n + 1))
    × (t.core ≡ s.core)
    × (t.tally ≡ record s.tally { added = s.tally.added + 1 })
Adds s k false t = (t ≡ s) × IsFull s

-- one reference fewer; true where it was the last
abbrev pub Releases : Fits → State → ℕ → Bool → State → Type 0
Releases fits s k true t =
    (map.get s.counts k ≡ Some 1) × (t.counts ≡ map.remove s.counts k)
    × (t.tally ≡ record s.tally { released = s.tally.released + 1 })
    × fits s.core (end k) (Asking Void) t.core
Releases fits s k false t =
    (n : ℕ) × (map.get s.counts k ≡ Some (n + 2)) × (t.counts ≡ map.insert s.counts k (n + 1))
    × (t.core ≡ s.core)
    × (t.tally ≡ record s.tally { released = s.tally.released + 1 })

-- what each call ensures
pub record Answered (fits : Fits) (s : State) (a : Ask) (r : Answer) (t : State) : Type 0 where
  pub moved : Answers fits s a r t
  pub live : IsLiveAnswer t r
  pub sound : IsSound t

pub record WasMade (fits : Fits) (s : State) (a : Ask) (r : Made) (t : State) : Type 0 where
  pub moved : Makes fits s a r t
  pub sound : IsSound t

pub record WasAdded (s : State) (k : ℕ) (r : Bool) (t : State) : Type 0 where
  pub moved : Adds s k r t
  pub sound : IsSound t

pub record WasReleased (fits : Fits) (s : State) (k : ℕ) (r : Bool) (t : State) : Type 0 where
  pub moved : Releases fits s k r t
  pub sound : IsSound t

-- what `idle` ensures
pub record IsIdleTest (s : State) (r : Bool) : Type 0 where
  pub exact : IsTrue r ↔ (s.counts ≡ map.empty)
  pub sound : IsSound s
