-- Each answer of the tickets meets the law of its call.
use Rattle.std.specs.Prelude.{ℕ, ◌+◌, ◌≡◌, ◌≢◌, true, List, [], ◌∷◌, Option, Some, None}
use Rattle.std.specs.Ordering.{nat_cmp}
use Rattle.std.specs.FinMap as map
use Rattle.std.specs.FinMap.{get-empty}
use Rattle.std.proofs.Common.{refl, sym, ◌∙◌, arith, inl, inr, rules}
use Rattle.ang_kinds.specs.declared.value.Value.{Value}
use Rattle.ang_kinds.specs.declared.value.Value.TheVariants.{Uint}
use Rattle.ang_host.specs.declared.answer.Made.TheVariants.{Fault as MadeFault, Full as MadeFull}
use Rattle.ang_host.specs.declared.answer.Answer.TheVariants.{Gave, Fault, Full}
use Rattle.ang_host.specs.declared.answer.HostReply.TheVariants.{Asking}
use Rattle.ang_host.specs.State.{Ask, make, call, read, limit}
use Rattle.ang_host.specs.Laws.{IsLive, IsSound, Answered, WasMade, IsIdleTest}
use Rattle.ang_host.proofs.Counts.{total-empty}
use Rattle.example_driver.specs.Tickets.{tickets, TicketsFits}

none_some : (n : ℕ) (o : Option ℕ) → o ≡ None → o ≡ Some n → ⊥
none_some n o e h = let x : None ≡ Some n = sym e ∙ h in cc

sound : (g n : ℕ) → IsSound (tickets g n)
sound g n = record {
  sums = omega (arith, total-empty);
  positive = λ k m h. absurd (none_some m (map.get map.empty k) (get-empty nat_cmp k) h);
}

pub not_live : (g n k : ℕ) → IsLive (tickets g n) k → ⊥
not_live g n k h = none_some h.0 (map.get map.empty k) (get-empty nat_cmp k) h.1

pub idle_test : (g n : ℕ) → IsIdleTest (tickets g n) true
idle_test g n = record { exact = (λ _. refl, λ _. search rules); sound = sound g n }

pub gives_next : (g n f : ℕ) (o : Option ℕ) (args : List Value) → f ≡ 0
    → Answered TicketsFits (tickets g n) (call f o args) (Gave (Uint g)) (tickets (g + 1) (n + 1))
gives_next g n f o args e = record {
  moved = (refl, refl, inl (e, (g, refl, refl, refl)));
  live = tt;
  sound = sound (g + 1) (n + 1);
}

pub tells_given : (g n f : ℕ) (o : Option ℕ) → f ≡ 0 → Answered TicketsFits (tickets g n) (read f o) (Gave (Uint g)) (tickets g (n + 1))
tells_given g n f o e = record {
  moved = (refl, refl, inl (e, (g, refl, refl, refl)));
  live = tt;
  sound = sound g (n + 1);
}

-- what is not known
pub unknown : (g n : ℕ) (a : Ask) → TicketsFits (g ∷ []) a (Asking (Fault 1)) (g ∷ []) → Answered TicketsFits (tickets g n) a (Fault 1) (tickets g (n + 1))
unknown g n a h = record { moved = (refl, refl, h); live = tt; sound = sound g (n + 1) }

pub full : (g n : ℕ) (a : Ask) → n ≡ limit → Answered TicketsFits (tickets g n) a Full (tickets g n)
full g n a e = record { moved = (refl, inl e); live = tt; sound = sound g n }

pub makes_none : (g n f : ℕ) (args : List Value) → WasMade TicketsFits (tickets g n) (make f args) (MadeFault 1) (tickets g (n + 1))
makes_none g n f args = record { moved = (refl, refl, (refl, refl)); sound = sound g (n + 1) }

pub makes_full : (g n f : ℕ) (args : List Value) → n ≡ limit → WasMade TicketsFits (tickets g n) (make f args) MadeFull (tickets g n)
makes_full g n f args e = record { moved = (refl, inl e); sound = sound g n }
