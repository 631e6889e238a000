-- What is said of a driver's objects holds with the bound in front of the core.
use Rattle.std.specs.Prelude.{ℕ, Bool, true, false, ◌∷◌, Option, Some, None}
use Rattle.std.proofs.Common.{refl, ap}
use Rattle.ang_kinds.specs.declared.value.Value.TheVariants.{Int, Uint, Bool as Truth, Key as KeyValue}
use Rattle.ang_host.specs.declared.answer.Made.{Made}
use Rattle.ang_host.specs.declared.answer.Made.TheVariants.{Key as MadeKey, Nothing as MadeNothing, Fault as MadeFault, Memory as MadeMemory, Full as MadeFull}
use Rattle.ang_host.specs.declared.answer.Answer.{Answer}
use Rattle.ang_host.specs.declared.answer.Answer.TheVariants.{Void, Gave, Fault, Memory, Full}
use Rattle.ang_host.specs.declared.answer.HostReply.{HostReply}
use Rattle.ang_host.specs.declared.answer.HostReply.TheVariants.{Making, Asking}
use Rattle.ang_host.specs.State.{State, Ask}
use Rattle.ang_host.specs.Laws.{Fits, IsLiveOption, IsLiveAnswer, IsSound, IsAsked, Answers, Makes, Releases, Answered, WasMade, WasReleased}
use Rattle.ang_drivers.specs.Bounded.{bounded_over, BoundedFits}

-- an object that is live with the bound in front of the core is live without it
pub live_inside : (bound : ℕ) (s : State) (o : Option ℕ) → IsLiveOption (bounded_over bound s) o → IsLiveOption s o
live_inside bound s None h = tt
live_inside bound s (Some k) h = h

module _ (fits : ℕ → Fits) (bound : ℕ) where
  sound_over : (s : State) → IsSound s → IsSound (bounded_over bound s)
  sound_over s h = record { sums = h.sums; positive = h.positive }

  live_over : (s : State) (r : Answer) → IsLiveAnswer s r → IsLiveAnswer (bounded_over bound s) r
  live_over s Void h = tt
  live_over s (Gave (Int z)) h = tt
  live_over s (Gave (Uint m)) h = tt
  live_over s (Gave (Truth b)) h = tt
  live_over s (Gave (KeyValue None)) h = tt
  live_over s (Gave (KeyValue (Some k))) h = h
  live_over s (Fault m) h = tt
  live_over s Memory h = tt
  live_over s Full h = tt

  module _ (s t : State) where
    moves_over : (a : Ask) (r : HostReply) → fits bound s.core a r t.core → BoundedFits fits (bound ∷ s.core) a r (bound ∷ t.core)
    moves_over a r h = (bound, s.core, t.core, refl, refl, h)

    asked_over : (a : Ask) (r : HostReply) → IsAsked (fits bound) s a r t → IsAsked (BoundedFits fits) (bounded_over bound s) a r (bounded_over bound t)
    asked_over a r h = (h.0, h.1, moves_over a r h.2)

    answers_over : (a : Ask) (r : Answer) → Answers (fits bound) s a r t → Answers (BoundedFits fits) (bounded_over bound s) a r (bounded_over bound t)
    answers_over a Void h = asked_over a (Asking Void) h
    answers_over a (Gave v) h = asked_over a (Asking (Gave v)) h
    answers_over a (Fault m) h = asked_over a (Asking (Fault m)) h
    answers_over a Memory h = asked_over a (Asking Memory) h
    answers_over a Full h = (ap (bounded_over bound) h.0, h.1)

    pub answered_over : (a : Ask) (r : Answer) → Answered (fits bound) s a r t → Answered (BoundedFits fits) (bounded_over bound s) a r (bounded_over bound t)
    answered_over a r h = record { moved = answers_over a r h.moved; live = live_over t r h.live; sound = sound_over t h.sound }

    makes_over : (a : Ask) (r : Made) → Makes (fits bound) s a r t → Makes (BoundedFits fits) (bounded_over bound s) a r (bounded_over bound t)
    makes_over a (MadeKey k) h = (h.0, h.1, h.2, moves_over a (Making (MadeKey k)) h.3)
    makes_over a MadeNothing h = asked_over a (Making MadeNothing) h
    makes_over a (MadeFault m) h = asked_over a (Making (MadeFault m)) h
    makes_over a MadeMemory h = asked_over a (Making MadeMemory) h
    makes_over a MadeFull h = (ap (bounded_over bound) h.0, h.1)

    pub made_over : (a : Ask) (r : Made) → WasMade (fits bound) s a r t → WasMade (BoundedFits fits) (bounded_over bound s) a r (bounded_over bound t)
    made_over a r h = record { moved = makes_over a r h.moved; sound = sound_over t h.sound }

    releases_over : (k : ℕ) (r : Bool) → Releases (fits bound) s k r t → Releases (BoundedFits fits) (bounded_over bound s) k r (bounded_over bound t)
    releases_over k true h = (h.0, h.1, h.2, (bound, s.core, t.core, refl, refl, h.3))
    releases_over k false h = (h.0, h.1, h.2, ap (λ c. bound ∷ c) h.3, h.4)

    pub released_over : (k : ℕ) (r : Bool) → WasReleased (fits bound) s k r t → WasReleased (BoundedFits fits) (bounded_over bound s) k r (bounded_over bound t)
    released_over k r h = record { moved = releases_over k r h.moved; sound = sound_over t h.sound }
