-- Each answer of the console meets the law of its call.
use Rattle.std.specs.Prelude.{ℕ, ℤ, ◌+◌, ◌≡◌, true, List, ◌∷◌, Option, Some, None, map as list_map}
use Rattle.std.specs.Ordering.{nat_cmp}
use Rattle.std.specs.FinMap as map
use Rattle.std.specs.FinMap.{get-empty}
use Rattle.std.proofs.Common.{refl, sym, ◌∙◌, arith, inl, rules}
use Rattle.ang_kinds.specs.declared.value.Value.{Value}
use Rattle.ang_kinds.specs.declared.value.Value.TheVariants.{Int, Uint, Bool as Truth, Key as KeyValue}
use Rattle.ang_host.specs.declared.answer.Made.TheVariants.{Fault as MadeFault, Full as MadeFull}
use Rattle.ang_host.specs.declared.answer.Answer.{Answer}
use Rattle.ang_host.specs.declared.answer.Answer.TheVariants.{Void, Gave, Fault, Memory, Full}
use Rattle.ang_host.specs.declared.answer.HostReply.TheVariants.{Asking}
use Rattle.ang_host.specs.State.{State, Ask, make, limit}
use Rattle.ang_host.specs.Laws.{Fits, IsLive, IsSound, IsAsked, Answers, Answered, WasMade, IsIdleTest, IsLiveAnswer}
use Rattle.ang_host.proofs.Counts.{total-empty}
use Rattle.ang_drivers.specs.Plain.{IsPlain}
use Rattle.ang_drivers.specs.Console.{code_of, console_state, ConsoleFits, IsWritten}

none_some : (n : ℕ) (o : Option ℕ) → o ≡ None → o ≡ Some n → ⊥
none_some n o e h = let x : None ≡ Some n = sym e ∙ h in cc

sound : (r : ℤ) (ns : List Value) (n : ℕ) → IsSound (console_state r ns n)
sound r ns n = record {
  sums = omega (arith, total-empty);
  positive = λ k m h. absurd (none_some m (map.get map.empty k) (get-empty nat_cmp k) h);
}

pub not_live : (r : ℤ) (ns : List Value) (n k : ℕ) → IsLive (console_state r ns n) k → ⊥
not_live r ns n k h = none_some h.0 (map.get map.empty k) (get-empty nat_cmp k) h.1

pub idle_test : (r : ℤ) (ns : List Value) (n : ℕ) → IsIdleTest (console_state r ns n) true
idle_test r ns n = record { exact = (λ _. refl, λ _. search rules); sound = sound r ns n }

from_plain : (fits : Fits) (s : State) (a : Ask) (x : Answer) (t : State) → IsPlain x → IsAsked fits s a (Asking x) t → Answers fits s a x t
from_plain fits s a Void t p h = h
from_plain fits s a (Gave v) t p h = h
from_plain fits s a (Fault n) t p h = h
from_plain fits s a Memory t p h = h
from_plain fits s a Full t p h = absurd p

pub live_plain : (s : State) (x : Answer) → IsPlain x → IsLiveAnswer s x
live_plain s Void p = tt
live_plain s (Gave (Int z)) p = tt
live_plain s (Gave (Uint n)) p = tt
live_plain s (Gave (Truth b)) p = tt
live_plain s (Gave (KeyValue k)) p = absurd p
live_plain s (Fault n) p = tt
live_plain s Memory p = tt
live_plain s Full p = absurd p

-- an answer for which the core moved by the relation
pub console_answers : (r r' : ℤ) (ns ns' : List Value) (n : ℕ) (a : Ask) (x : Answer) → IsPlain x
    → ConsoleFits (code_of (Int r) ∷ list_map code_of ns) a (Asking x) (code_of (Int r') ∷ list_map code_of ns')
    → Answered ConsoleFits (console_state r ns n) a x (console_state r' ns' (n + 1))
console_answers r r' ns ns' n a x p h = record {
  moved = from_plain ConsoleFits (console_state r ns n) a x (console_state r' ns' (n + 1)) p (refl, refl, h);
  live = live_plain (console_state r' ns' (n + 1)) x p;
  sound = sound r' ns' (n + 1);
}

pub console_full : (r : ℤ) (ns : List Value) (n : ℕ) (a : Ask) → n ≡ limit → Answered ConsoleFits (console_state r ns n) a Full (console_state r ns n)
console_full r ns n a e = record { moved = (refl, inl e); live = tt; sound = sound r ns n }

pub console_makes : (r : ℤ) (ns : List Value) (n f : ℕ) (args : List Value) → WasMade ConsoleFits (console_state r ns n) (make f args) (MadeFault 1) (console_state r ns (n + 1))
console_makes r ns n f args = record { moved = (refl, refl, (refl, refl)); sound = sound r ns (n + 1) }

pub console_makes_full : (r : ℤ) (ns : List Value) (n f : ℕ) (args : List Value) → n ≡ limit → WasMade ConsoleFits (console_state r ns n) (make f args) MadeFull (console_state r ns n)
console_makes_full r ns n f args e = record { moved = (refl, inl e); sound = sound r ns n }

pub written_other : (c : List ℕ) (v : Value) → ((z : ℤ) → v ≡ Int z → ⊥) → IsWritten c v (Fault 1) c
written_other c (Int z) h = absurd (h z refl)
written_other c (Uint n) h = (refl, refl)
written_other c (Truth b) h = (refl, refl)
written_other c (KeyValue k) h = (refl, refl)
