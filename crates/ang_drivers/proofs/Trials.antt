-- A driver that fails once keeps the laws that it keeps without that.
use Rattle.std.specs.Prelude.{ℕ, ◌+◌, ◌-◌, ◌≡◌, ◌≢◌, ◌<◌, ◌^◌, List, Some, None}
use Rattle.std.proofs.Common.{refl, sym, ap, subst, arith, inl, inr}
use Rattle.ang_kinds.specs.declared.value.Value.TheVariants.{Int, Uint, Bool as Truth, Key as KeyValue}
use Rattle.ang_host.specs.declared.answer.Made.{Made}
use Rattle.ang_host.specs.declared.answer.Made.TheVariants.{Key as MadeKey, Nothing as MadeNothing, Fault as MadeFault, Memory as MadeMemory, Full as MadeFull}
use Rattle.ang_host.specs.declared.answer.Answer.{Answer}
use Rattle.ang_host.specs.declared.answer.Answer.TheVariants.{Void, Gave, Fault as AnswerFault, Memory as AnswerMemory, Full as AnswerFull}
use Rattle.ang_host.specs.declared.answer.HostReply.{HostReply}
use Rattle.ang_host.specs.declared.answer.HostReply.TheVariants.{Making, Asking}
use Rattle.ang_host.specs.State.{State, Ask}
use Rattle.ang_host.specs.Laws.{Fits, IsLiveAnswer, IsSound, IsAsked, Answers, Makes, Answered, WasMade, one_asked}
use Rattle.ang_drivers.specs.declared.faulty.Failing.{Failing}
use Rattle.ang_drivers.specs.declared.faulty.Failing.TheVariants.{Fault, Nothing, Memory, Full}
use Rattle.ang_drivers.specs.Faulty.{failing_made, failing_answer, failing_reply, left_of, faulty_core, AskingFits, FailsOnce, faulty_over}

-- ---- what is asked but for the asking that fails

one_fewer : (x a b : ℕ) → b ≡ a + 1 → x - b ≡ (x - a) - 1
one_fewer x a b e = omega (arith, e)

-- what was asked is an asking, and not the end of a key
abbrev pub IsAsking : Fits → Ask → Type 0
IsAsking fits a = (c : List ℕ) (r : HostReply) (d : List ℕ) → AskingFits fits c a r d → FailsOnce fits c a r d

module _ (fits : Fits) (how : Failing) (n : ℕ) where
  sound_over : (s : State) → IsSound s → IsSound (faulty_over how n s)
  sound_over s h = record { sums = h.sums; positive = h.positive }

  live_over : (s : State) (r : Answer) → IsLiveAnswer s r → IsLiveAnswer (faulty_over how n s) r
  live_over s Void h = tt
  live_over s (Gave (Int z)) h = tt
  live_over s (Gave (Uint m)) h = tt
  live_over s (Gave (Truth b)) h = tt
  live_over s (Gave (KeyValue None)) h = tt
  live_over s (Gave (KeyValue (Some k))) h = h
  live_over s (AnswerFault m) h = tt
  live_over s AnswerMemory h = tt
  live_over s AnswerFull h = tt

  module _ (s t : State) (a : Ask) (asking : IsAsking fits a) where
    module _ (other : left_of how n s.tally.asked ≢ 1) where
      moves_over : (r : HostReply) → t.tally.asked ≡ s.tally.asked + 1 → fits s.core a r t.core → FailsOnce fits (faulty_over how n s).core a r (faulty_over how n t).core
      moves_over r q h =
          asking (faulty_over how n s).core r (faulty_over how n t).core (
            left_of how n s.tally.asked,
            how,
            s.core,
            t.core,
            refl,
            ap (λ l. faulty_core l how t.core) (one_fewer _ s.tally.asked t.tally.asked q),
            inr (other, h),
          )

      asked_over : (r : HostReply) → IsAsked fits s a r t → IsAsked (FailsOnce fits) (faulty_over how n s) a r (faulty_over how n t)
      asked_over r h = (h.0, h.1, moves_over r (ap (λ x. x.asked) h.1) h.2)

      answers_over : (r : Answer) → Answers fits s a r t → Answers (FailsOnce fits) (faulty_over how n s) a r (faulty_over how n t)
      answers_over Void h = asked_over (Asking Void) h
      answers_over (Gave v) h = asked_over (Asking (Gave v)) h
      answers_over (AnswerFault m) h = asked_over (Asking (AnswerFault m)) h
      answers_over AnswerMemory h = asked_over (Asking AnswerMemory) h
      answers_over AnswerFull h = (ap (faulty_over how n) h.0, h.1)

      pub answered_over : (r : Answer) → Answered fits s a r t → Answered (FailsOnce fits) (faulty_over how n s) a r (faulty_over how n t)
      answered_over r h = record {
        moved = answers_over r h.moved;
        live = live_over t r h.live;
        sound = sound_over t h.sound;
      }

      makes_over : (r : Made) → Makes fits s a r t → Makes (FailsOnce fits) (faulty_over how n s) a r (faulty_over how n t)
      makes_over (MadeKey k) h = (h.0, h.1, h.2, moves_over (Making (MadeKey k)) (ap (λ x. x.asked) h.2) h.3)
      makes_over MadeNothing h = asked_over (Making MadeNothing) h
      makes_over (MadeFault m) h = asked_over (Making (MadeFault m)) h
      makes_over MadeMemory h = asked_over (Making MadeMemory) h
      makes_over MadeFull h = (ap (faulty_over how n) h.0, h.1)

      pub made_over : (r : Made) → WasMade fits s a r t → WasMade (FailsOnce fits) (faulty_over how n s) a r (faulty_over how n t)
      made_over r h = record { moved = makes_over r h.moved; sound = sound_over t h.sound }

    -- no more than a host call is counted: the asking fails
    asked_failing : left_of how n s.tally.asked ≡ 1 → t ≡ record s { tally = one_asked s.tally }
        → IsAsked (FailsOnce fits) (faulty_over how n s) a (failing_reply how a) (faulty_over how n t)
    asked_failing last e = (
      ap (λ x. x.counts) e,
      ap (λ x. x.tally) e,
      asking (faulty_over how n s).core (failing_reply how a) (faulty_over how n t).core (
        left_of how n s.tally.asked,
        how,
        s.core,
        t.core,
        refl,
        ap (λ l. faulty_core l how t.core) (one_fewer _ s.tally.asked t.tally.asked (ap (λ x. x.tally.asked) e)),
        inl (last, refl, ap (λ x. x.core) e),
      ),
    )

-- ---- the asking that fails, where the tally has room for it: it doesn't fail by `Full` then

no_room : (n : ℕ) (s t : State) → left_of Full n s.tally.asked ≡ 1 → t ≡ record s { tally = one_asked s.tally } → t.tally.asked < 2 ^ 63 → ⊥
no_room n s t last e few = omega (arith, last, few, ap (λ x. x.tally.asked) e)

-- an asking other than a `make`, and a `make`
abbrev pub IsAnswering : Ask → Type 0
IsAnswering a = (how : Failing) → failing_reply how a ≡ Asking (failing_answer how)

abbrev pub IsMaking : Ask → Type 0
IsMaking a = (how : Failing) → failing_reply how a ≡ Making (failing_made how)

module _ (fits : Fits) (n : ℕ) (s t : State) (a : Ask) (asking : IsAsking fits a) where
  -- the asking is counted and else nothing is done
  abbrev IsLast : Failing → Type 0
  IsLast how = (left_of how n s.tally.asked ≡ 1) × (t ≡ record s { tally = one_asked s.tally }) × (t.tally.asked < 2 ^ 63)

  asked_as : (how : Failing) (r : HostReply) → failing_reply how a ≡ r → IsLast how → IsAsked (FailsOnce fits) (faulty_over how n s) a r (faulty_over how n t)
  asked_as how r e h = subst (λ x. IsAsked (FailsOnce fits) (faulty_over how n s) a x (faulty_over how n t)) e (asked_failing fits how n s t a asking h.0 h.1)

  failing_answers : (how : Failing) → IsAnswering a → IsLast how → Answers (FailsOnce fits) (faulty_over how n s) a (failing_answer how) (faulty_over how n t)
  failing_answers Fault e h = asked_as Fault (Asking (AnswerFault 9)) (e Fault) h
  failing_answers Nothing e h = asked_as Nothing (Asking (AnswerFault 9)) (e Nothing) h
  failing_answers Memory e h = asked_as Memory (Asking AnswerMemory) (e Memory) h
  failing_answers Full e h = absurd (no_room n s t h.0 h.1 h.2)

  live_failing : (how : Failing) (u : State) → IsLiveAnswer u (failing_answer how)
  live_failing Fault u = tt
  live_failing Nothing u = tt
  live_failing Memory u = tt
  live_failing Full u = tt

  pub answered_failing : (how : Failing) (r : Answer) → IsAnswering a → r ≡ failing_answer how → IsLast how → IsSound t
      → Answered (FailsOnce fits) (faulty_over how n s) a r (faulty_over how n t)
  answered_failing how r e q h sound =
      subst (λ x. Answered (FailsOnce fits) (faulty_over how n s) a x (faulty_over how n t)) (sym q) (record {
        moved = failing_answers how e h;
        live = live_failing how (faulty_over how n t);
        sound = sound_over fits how n t sound;
      })

  failing_makes : (how : Failing) → IsMaking a → IsLast how → Makes (FailsOnce fits) (faulty_over how n s) a (failing_made how) (faulty_over how n t)
  failing_makes Fault e h = asked_as Fault (Making (MadeFault 9)) (e Fault) h
  failing_makes Nothing e h = asked_as Nothing (Making MadeNothing) (e Nothing) h
  failing_makes Memory e h = asked_as Memory (Making MadeMemory) (e Memory) h
  failing_makes Full e h = absurd (no_room n s t h.0 h.1 h.2)

  pub made_failing : (how : Failing) (r : Made) → IsMaking a → r ≡ failing_made how → IsLast how → IsSound t
      → WasMade (FailsOnce fits) (faulty_over how n s) a r (faulty_over how n t)
  made_failing how r e q h sound =
      subst (λ x. WasMade (FailsOnce fits) (faulty_over how n s) a x (faulty_over how n t)) (sym q) (record {
        moved = failing_makes how e h;
        sound = sound_over fits how n t sound;
      })
