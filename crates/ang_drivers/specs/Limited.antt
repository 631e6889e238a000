-- What a limited driver answers (docs/RATTLE_HOST.md): what the driver inside does, while host calls are left, and then a fault.
use Rattle.std.specs.Prelude.{ℕ, ◌-◌, ◌^◌, ◌≡◌, ◌≢◌, ◌<◌, ◌≤◌, ◌⊎◌, Bool, true, false, not, cond, nat_eq, List, ◌∷◌}
use Rattle.ang_host.specs.declared.answer.Made.TheVariants.{Fault as MadeFault}
use Rattle.ang_host.specs.declared.answer.Answer.TheVariants.{Void, Fault}
use Rattle.ang_host.specs.declared.answer.HostReply.{HostReply}
use Rattle.ang_host.specs.declared.answer.HostReply.TheVariants.{Making, Asking}
use Rattle.ang_host.specs.State.{State, Ask, make, call, read, write, end}
use Rattle.ang_host.specs.Laws.{Fits, IsSound}
use Rattle.ang_drivers.specs.declared.limited.CallLimit.{CallLimit}

-- a driver of the type D with a limit, how many host calls are left to it, and how many were counted in all
pub record Limits (D : Type 0) : Type 0 where
  pub driver : D
  pub limit : CallLimit
  pub left : ℕ
  pub asked : ℕ

-- before the first host call
abbrev pub fresh_limits : {D : Type 0} → D → CallLimit → Limits D
fresh_limits driver l = record { driver = driver; limit = l; left = l.calls; asked = 0 }

-- the core: how many host calls are left, the three numbers of the limit, and then the core c of the driver inside
abbrev pub limited_core : CallLimit → ℕ → List ℕ → List ℕ
limited_core l left c = left ∷ l.calls ∷ l.fault ∷ l.reset ∷ c

-- the state over that of the driver inside, whose tally of host calls lacks those that never reached it
abbrev pub limited_over : CallLimit → ℕ → ℕ → State → State
limited_over l left asked s = record {
  counts = s.counts;
  core = limited_core l left s.core;
  tally = record s.tally { asked = asked };
}

abbrev pub limited_state : {D : Type 0} → (D → State) → Limits D → State
limited_state state v = limited_over v.limit v.left v.asked (state v.driver)

-- what holds of the driver inside in each state, where so many host calls were counted in all
pub record IsWithin (s : State) (asked : ℕ) : Type 0 where
  pub few : asked < 2 ^ 63
  pub reached : s.tally.asked ≤ asked
  pub sound : IsSound s

-- the fault, as what was asked is answered; the end of a key is no host call
abbrev pub refusal : CallLimit → Ask → HostReply
refusal l (make f args) = Making (MadeFault l.fault)
refusal l (call f o args) = Asking (Fault l.fault)
refusal l (read f o) = Asking (Fault l.fault)
refusal l (write f o v) = Asking (Fault l.fault)
refusal l (end k) = Asking Void

-- whether a host call is one of those that are limited: any but a reset
abbrev pub uses_one : CallLimit → Ask → Bool
uses_one l (make f args) = true
uses_one l (call f o args) = not (nat_eq f l.reset)
uses_one l (read f o) = true
uses_one l (write f o v) = true
uses_one l (end k) = false

-- how many host calls are left after what was asked
abbrev pub left_after : CallLimit → ℕ → Ask → ℕ
left_after l left (make f args) = left - 1
left_after l left (call f o args) = cond (nat_eq f l.reset) l.calls (left - 1)
left_after l left (read f o) = left - 1
left_after l left (write f o v) = left - 1
left_after l left (end k) = left

-- while host calls are left the core inside moves by `fits`, and else there is the fault and it stays
abbrev pub CountedFits : Fits → CallLimit → ℕ → Fits
CountedFits fits l left c a r d = ((left ≡ 0) × (r ≡ refusal l a) × (d ≡ c)) ⊎ ((left ≢ 0) × fits c a r d)

-- how the core inside moves; a reset leaves it
abbrev pub InsideFits : Fits → CallLimit → ℕ → Fits
InsideFits fits l left c (make f args) r d = CountedFits fits l left c (make f args) r d
InsideFits fits l left c (call f o args) r d =
    ((f ≡ l.reset) × (r ≡ Asking Void) × (d ≡ c)) ⊎ ((f ≢ l.reset) × CountedFits fits l left c (call f o args) r d)
InsideFits fits l left c (read f o) r d = CountedFits fits l left c (read f o) r d
InsideFits fits l left c (write f o v) r d = CountedFits fits l left c (write f o v) r d
InsideFits fits l left c (end k) r d = fits c (end k) r d

-- how the core of a limited driver moves whose driver inside moves by `fits`
abbrev pub LimitedFits : Fits → Fits
LimitedFits fits c a r d =
    (l : CallLimit) × (left : ℕ) × (x : List ℕ) × (y : List ℕ)
    × (c ≡ limited_core l left x) × (d ≡ limited_core l (left_after l left a) y) × InsideFits fits l left x a r y
