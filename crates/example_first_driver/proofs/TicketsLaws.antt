-- Each answer of the tickets meets the law of its call.
use Rattle.std.specs.Prelude.{ℕ, ◌+◌, ◌≡◌, true, Option, Some, None}
use Rattle.std.specs.Ordering.{nat_cmp}
use Rattle.std.specs.FinMap as map
use Rattle.std.specs.FinMap.{get-empty}
use Rattle.std.proofs.Common.{refl, sym, ap, ◌∙◌, arith, inl, rules}
use Rattle.ang_kinds.specs.declared.value.Value.TheVariants.{Int, Uint, Bool as BoolValue, Key}
use Rattle.ang_host.specs.declared.answer.Made.TheVariants.{Fault as MadeFault, Full as MadeFull}
use Rattle.ang_host.specs.declared.answer.Answer.{Answer}
use Rattle.ang_host.specs.declared.answer.Answer.TheVariants.{Void, Gave, Fault, Memory, Full}
use Rattle.ang_host.specs.State.{Ask, limit}
use Rattle.ang_host.specs.Laws.{IsLive, IsSound, IsFull, Answered, WasMade, IsIdleTest, one_asked}
use Rattle.ang_host.proofs.Counts.{total-empty}
use Rattle.example_first_driver.specs.Answers.{is_plain}
use Rattle.example_first_driver.specs.Tickets.{tickets, TicketsFits}

none_some : (n : ℕ) (o : Option ℕ) → o ≡ None → o ≡ Some n → ⊥
none_some n o e h = let x : None ≡ Some n = sym e ∙ h in cc

sound : (n : ℕ) → IsSound (tickets n)
sound n = record {
  sums = omega (arith, total-empty);
  positive = λ k m h. absurd (none_some m (map.get map.empty k) (get-empty nat_cmp k) h);
}

pub not_live : (n k : ℕ) → IsLive (tickets n) k → ⊥
not_live n k h = none_some h.0 (map.get map.empty k) (get-empty nat_cmp k) h.1

pub idle_test : (n : ℕ) → IsIdleTest (tickets n) true
idle_test n = record { exact = (λ _. refl, λ _. search rules); sound = sound n }

counted : (n m : ℕ) → m ≡ n + 1 → (tickets m).tally ≡ one_asked (tickets n).tally
counted n m e = ap (λ k. (tickets k).tally) e

is_full : (n m : ℕ) → m ≡ n → n ≡ limit → (tickets m ≡ tickets n) × IsFull (tickets n)
is_full n m e f = (ap tickets e, inl f)

pub answered : (n m : ℕ) (a : Ask) (r : Answer) → m ≡ n + 1 → is_plain r ≡ true → Answered TicketsFits (tickets n) a r (tickets m)
answered n m a Void e h = record { moved = (refl, counted n m e, tt); live = tt; sound = sound m }
answered n m a (Gave (Int v)) e h = record { moved = (refl, counted n m e, tt); live = tt; sound = sound m }
answered n m a (Gave (Uint v)) e h = record { moved = (refl, counted n m e, tt); live = tt; sound = sound m }
answered n m a (Gave (BoolValue v)) e h = record { moved = (refl, counted n m e, tt); live = tt; sound = sound m }
answered n m a (Gave (Key k)) e h = cc
answered n m a (Fault v) e h = record { moved = (refl, counted n m e, tt); live = tt; sound = sound m }
answered n m a Memory e h = record { moved = (refl, counted n m e, tt); live = tt; sound = sound m }
answered n m a Full e h = cc

pub full : (n m : ℕ) (a : Ask) → m ≡ n → n ≡ limit → Answered TicketsFits (tickets n) a Full (tickets m)
full n m a e f = record { moved = is_full n m e f; live = tt; sound = sound m }

pub makes_none : (n m v : ℕ) (a : Ask) → m ≡ n + 1 → WasMade TicketsFits (tickets n) a (MadeFault v) (tickets m)
makes_none n m v a e = record { moved = (refl, counted n m e, tt); sound = sound m }

pub makes_full : (n m : ℕ) (a : Ask) → m ≡ n → n ≡ limit → WasMade TicketsFits (tickets n) a MadeFull (tickets m)
makes_full n m a e f = record { moved = is_full n m e f; sound = sound m }
