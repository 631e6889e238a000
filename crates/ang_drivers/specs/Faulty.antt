-- What the faulty driver answers (docs/RATTLE_HOST.md): what a counter does, but for one asking, which fails.
use Rattle.std.specs.Prelude.{ℕ, ◌-◌, ◌≡◌, ◌≢◌, ◌^◌, ◌⊎◌, List, ◌∷◌}
use Rattle.ang_host.specs.declared.answer.Made.{Made}
use Rattle.ang_host.specs.declared.answer.Made.TheVariants.{Nothing as MadeNothing, Fault as MadeFault, Memory as MadeMemory, Full as MadeFull}
use Rattle.ang_host.specs.declared.answer.Answer.{Answer}
use Rattle.ang_host.specs.declared.answer.Answer.TheVariants.{Void, Fault as AnswerFault, Memory as AnswerMemory, Full as AnswerFull}
use Rattle.ang_host.specs.declared.answer.HostReply.{HostReply}
use Rattle.ang_host.specs.declared.answer.HostReply.TheVariants.{Making, Asking}
use Rattle.ang_host.specs.State.{State, Ask, make, call, read, write, end}
use Rattle.ang_host.specs.Laws.{Fits}
use Rattle.ang_drivers.specs.declared.faulty.Failing.{Failing}
use Rattle.ang_drivers.specs.declared.faulty.Failing.TheVariants.{Fault, Nothing, Memory, Full}
use Rattle.ang_drivers.specs.Objects.{begun}
use Rattle.ang_drivers.specs.Tables.{state_of}
use Rattle.ang_drivers.specs.Counter.{count_code, CounterFits}

-- what a `make` that fails answers
abbrev pub failing_made : Failing → Made
failing_made Fault = MadeFault 9
failing_made Nothing = MadeNothing
failing_made Memory = MadeMemory
failing_made Full = MadeFull

-- what any other asking that fails answers
abbrev pub failing_answer : Failing → Answer
failing_answer Fault = AnswerFault 9
failing_answer Nothing = AnswerFault 9
failing_answer Memory = AnswerMemory
failing_answer Full = AnswerFull

-- both, by what was asked; the end of a key is no asking
abbrev pub failing_reply : Failing → Ask → HostReply
failing_reply how (make f args) = Making (failing_made how)
failing_reply how (call f o args) = Asking (failing_answer how)
failing_reply how (read f o) = Asking (failing_answer how)
failing_reply how (write f o v) = Asking (failing_answer how)
failing_reply how (end k) = Asking Void

-- where the tally of askings begins if the asking n fails: a full tally is one that comes to 2^63
abbrev pub begins_at : Failing → ℕ → ℕ
begins_at Fault n = 0
begins_at Nothing n = 0
begins_at Memory n = 0
begins_at Full n = 2 ^ 63 - n

-- to what the tally comes by the asking n, begun so
abbrev pub fails_at : Failing → ℕ → ℕ
fails_at Fault n = n
fails_at Nothing n = n
fails_at Memory n = n
fails_at Full n = 2 ^ 63

-- how many askings there are up to the one that fails and with it; 0 after it
abbrev pub left_of : Failing → ℕ → ℕ → ℕ
left_of how n asked = fails_at how n - asked

-- a number for each way to fail
abbrev pub failing_code : Failing → ℕ
failing_code Fault = 0
failing_code Nothing = 1
failing_code Memory = 2
failing_code Full = 3

-- the core: how many askings are left, how the last of them fails, and then the core c of the counter
abbrev pub faulty_core : ℕ → Failing → List ℕ → List ℕ
faulty_core left how c = left ∷ failing_code how ∷ c

-- the last of the askings that are left fails and leaves the core; each other asking moves it by `fits`
abbrev pub OneFits : Fits → ℕ → Failing → Fits
OneFits fits left how c a r d = ((left ≡ 1) × (r ≡ failing_reply how a) × (d ≡ c)) ⊎ ((left ≢ 1) × fits c a r d)

-- an asking is one fewer that is left
abbrev pub AskingFits : Fits → Fits
AskingFits fits c a r d =
    (left : ℕ) × (how : Failing) × (x : List ℕ) × (y : List ℕ)
    × (c ≡ faulty_core left how x) × (d ≡ faulty_core (left - 1) how y) × OneFits fits left how x a r y

-- the end of a key leaves how many are left
abbrev pub EndFits : Fits → Fits
EndFits fits c a r d =
    (left : ℕ) × (how : Failing) × (x : List ℕ) × (y : List ℕ)
    × (c ≡ faulty_core left how x) × (d ≡ faulty_core left how y) × fits x a r y

-- how the core of a driver moves that fails once, and else moves by `fits`
abbrev pub FailsOnce : Fits → Fits
FailsOnce fits c (make f args) r d = AskingFits fits c (make f args) r d
FailsOnce fits c (call f o args) r d = AskingFits fits c (call f o args) r d
FailsOnce fits c (read f o) r d = AskingFits fits c (read f o) r d
FailsOnce fits c (write f o v) r d = AskingFits fits c (write f o v) r d
FailsOnce fits c (end k) r d = EndFits fits c (end k) r d

-- how the faulty driver's core moves
abbrev pub FaultyFits : Fits
FaultyFits = FailsOnce CounterFits

-- the state over that of the counter, where the asking n fails
abbrev pub faulty_over : Failing → ℕ → State → State
faulty_over how n s = record {
  counts = s.counts;
  core = faulty_core (left_of how n s.tally.asked) how s.core;
  tally = s.tally;
}

-- the state before the first asking: n askings are left, there is no object, and the tally of askings stands where it begins
abbrev pub fresh_faulty : Failing → ℕ → State
fresh_faulty how n =
    let counter : State = state_of count_code (begun (begins_at how n)) in
    record { counts = counter.counts; core = faulty_core n how counter.core; tally = counter.tally }
