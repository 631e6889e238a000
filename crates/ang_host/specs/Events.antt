-- Host events, and that drivers follow them: nothing was asked that is not listed, and no answer is
-- made up
-- (docs/HOST.md).
use Rattle.std.specs.Prelude.{ℕ, ◌+◌, ◌≡◌, ◌<◌, ◌≤◌, ◌⊎◌, Bool, true, false, cond, nat_eq, ◌||◌, List, [], ◌∷◌, Option, length, filter, map as list_map, slice_index_or}
use Rattle.std.specs.FinMap as map
use Rattle.std.specs.Prelude.{All}
use Rattle.std.specs.declared.alloc.Global.{Global}
use Rattle.std.specs.declared.dyn_box.DynBox.{DynBox}
use Rattle.ang_kinds.specs.declared.value.Value.{Value}
use Rattle.ang_host.specs.declared.answer.Made.TheVariants.{Key as MadeKey, Full as MadeFull}
use Rattle.ang_host.specs.declared.answer.Answer.TheVariants.{Void, Full}
use Rattle.ang_host.specs.declared.answer.HostReply.{HostReply}
use Rattle.ang_host.specs.declared.answer.HostReply.TheVariants.{Making, Asking}
use Rattle.ang_host.specs.declared.event.HostEvent.{HostEvent}
use Rattle.ang_host.specs.declared.event.HostEvent.TheVariants.{Called, Ended}
use Rattle.ang_host.specs.declared.event.Role.{Role}
use Rattle.ang_host.specs.declared.event.Role.TheVariants.{Making as MakingRole, Calling as CallingRole, Property as PropertyRole}
use Rattle.ang_host.specs.State.{State, Tally, Ask, make, call, read, write, end, limit}
use Rattle.ang_host.specs.Laws.{Fits}
use Rattle.ang_host.specs.Meanings.{Meanings, state_in}
use Rattle.ang_host.specs.Members.{state_at, rule_at}

-- what an event asked, where the entity has the role; a property is written where there is an
-- argument
abbrev pub ask_of : Role → Option ℕ → List Value → Ask
ask_of (MakingRole f) o args = make f args
ask_of (CallingRole f) o args = call f o args
ask_of (PropertyRole f) o [] = read f o
ask_of (PropertyRole f) o (v ∷ vs) = write f o v

-- the role of the n-th entity
abbrev pub role_at : List Role → ℕ → Role
role_at rs n = slice_index_or rs n (MakingRole 0)

-- whether the driver refused to be asked, for want of room in its tallies
abbrev pub is_full : HostReply → Bool
is_full (Making MadeFull) = true
is_full (Asking Full) = true
is_full _ = false

-- the key that a reply brings to life
abbrev pub is_born : ℕ → HostReply → Bool
is_born k (Making (MadeKey j)) = nat_eq j k
is_born k _ = false

-- the core stays where b is true, and else p holds
abbrev pub StaysIf : Bool → List ℕ → List ℕ → Type 0 → Type 0
StaysIf true c d p = c ≡ d
StaysIf false c d p = p

-- one event moves the core
abbrev pub CoreStep : List Role → Fits → List ℕ → HostEvent → List ℕ → Type 0
CoreStep roles fits c (Called caller entity driver object args reply) d =
    StaysIf (is_full reply) c d (fits c (ask_of (role_at roles entity.0) object args) reply d)
CoreStep roles fits c (Ended driver key) d = fits c (end key) (Asking Void) d

-- the events move the core, one after the other
abbrev pub CoreMoves : List Role → Fits → List ℕ → List HostEvent → List ℕ → Type 0
CoreMoves roles fits c [] d = c ≡ d
CoreMoves roles fits c (e ∷ es) d =
    (m : List ℕ) × CoreStep roles fits c e m × CoreMoves roles fits m es d

-- whether k is live after an event, where b says whether it was before
abbrev pub live_after : ℕ → Bool → HostEvent → Bool
live_after k b (Called caller entity driver object args reply) = cond (is_born k reply) true b
live_after k b (Ended driver key) = cond (nat_eq key k) false b

-- whether k is live after the events
abbrev pub live_along : ℕ → Bool → List HostEvent → Bool
live_along k b [] = b
live_along k b (e ∷ es) = live_along k (live_after k b e) es

-- what an event adds to the tally of host calls
abbrev pub counts_as_asked : HostEvent → ℕ
counts_as_asked (Called caller entity driver object args reply) = cond (is_full reply) 0 1
counts_as_asked (Ended driver key) = 0

abbrev pub asked_in : List HostEvent → ℕ
asked_in [] = 0
asked_in (e ∷ es) = counts_as_asked e + asked_in es

-- whether an event was refused as full, and whether some was
abbrev pub was_full : HostEvent → Bool
was_full (Called caller entity driver object args reply) = is_full reply
was_full (Ended driver key) = false

abbrev pub some_full : List HostEvent → Bool
some_full [] = false
some_full (e ∷ es) = was_full e || some_full es

-- a tally is full
abbrev pub HasRunOut : Tally → Type 0
HasRunOut t = (limit ≤ t.asked) ⊎ ((limit ≤ t.made) ⊎ (limit ≤ t.added))

-- one driver, over its own events
pub record Follows (roles : List Role) (fits : Fits) (s : State) (es : List HostEvent) (t : State)
    : Type 0 where
  pub core : CoreMoves roles fits s.core es t.core
  pub live : (k : ℕ) → map.contains_key t.counts k ≡ live_along k (map.contains_key s.counts k) es
  pub asked : t.tally.asked ≡ s.tally.asked + asked_in es
  pub made : s.tally.made ≤ t.tally.made
  pub added : s.tally.added ≤ t.tally.added
  pub full : some_full es ≡ true → HasRunOut t.tally

-- the events of a release of k at driver d
abbrev pub ends : ℕ → ℕ → Bool → List HostEvent
ends d k true = Ended d k ∷ []
ends d k false = []

-- how many of the events are ends
abbrev pub ends_listed : List HostEvent → ℕ
ends_listed [] = 0
ends_listed (Called caller entity driver object args reply ∷ es) = ends_listed es
ends_listed (Ended driver key ∷ es) = 1 + ends_listed es

-- the driver of an event, and the events of the i-th driver
abbrev pub driver_of : HostEvent → ℕ
driver_of (Called caller entity driver object args reply) = driver
driver_of (Ended driver key) = driver

abbrev pub events_of : ℕ → List HostEvent → List HostEvent
events_of i = filter (λ e. nat_eq (driver_of e) i)

-- each driver of a list, over the events of all, which name no other driver
pub record EachFollows (roles : List Role) (rules : List Fits) (ss : List State)
    (es : List HostEvent) (ts : List State) : Type 0 where
  pub same_length : length ts ≡ length ss
  pub within : All (λ e. driver_of e < length ss) es
  pub each : (i : ℕ) → i < length ss
      → Follows roles (rule_at rules i) (state_at ss i) (events_of i es) (state_at ts i)

-- the same of members, of which each has a state and a kind, and each kind a relation
pub record AllFollow {B V : Type 0} (st : B → State) (kind : B → V) (rule : V → Fits)
    (roles : List Role) (xs : List B) (es : List HostEvent) (ys : List B) : Type 0 where
  pub kinds : list_map kind ys ≡ list_map kind xs
  pub follow : EachFollows roles (list_map rule (list_map kind xs)) (list_map st xs) es
      (list_map st ys)

-- boxed drivers follow the events
abbrev pub DriversFollow :
    {V : Type 0} {P : V → Type 0} → Meanings P → List Role → List (DynBox V Global P)
    → List HostEvent → List (DynBox V Global P) → Type 0
DriversFollow m roles xs es ys =
    AllFollow (λ b. state_in m b) (λ b. b.vtable) (λ v. (m v).meaning.fits) roles xs es ys
