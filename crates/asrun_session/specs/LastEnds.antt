-- What ends where an engine is discarded.
use Rattle.std.specs.Prelude.{ℕ, ◌+◌, ◌≡◌, ◌<◌, Bool, false, cond, nat_eq, ◌&&◌, List, [], ◌∷◌}
use Rattle.ang_host.specs.declared.event.HostEvent.{HostEvent}
use Rattle.ang_host.specs.declared.event.HostEvent.TheVariants.{Called, Ended}
use Rattle.ang_host.specs.Events.{events_of, live_along}
use Rattle.ang_engine.specs.Ending.{ends_of}

-- whether an event is the end of the object k of driver d
abbrev pub is_end : ℕ → ℕ → HostEvent → Bool
is_end d k (Called caller entity driver object args reply) = false
is_end d k (Ended driver key) = nat_eq driver d && nat_eq key k

-- how often that end is listed
abbrev pub ends_in : ℕ → ℕ → List HostEvent → ℕ
ends_in d k [] = 0
ends_in d k (e ∷ es) = cond (is_end d k e) 1 0 + ends_in d k es

-- Of n drivers that began with nothing alive, each object that is alive after the events es ends
-- once, in some order, and nothing else is listed.
pub record AreLastEnds (n : ℕ) (es ends : List HostEvent) : Type 0 where
  pub only : (ks : List (ℕ × ℕ)) × (ends ≡ ends_of ks)
  pub once : (d k : ℕ) → d < n → ends_in d k ends ≡ cond (live_along k false (events_of d es)) 1 0
