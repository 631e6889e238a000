-- What the events of a limited driver tell.
use Rattle.std.specs.Prelude.{ℕ, ◌+◌, ◌≡◌, Bool, true, false, cond, nat_eq, ◌||◌, List, [], ◌∷◌}
use Rattle.ang_host.specs.declared.answer.Made.TheVariants.{Key as MadeKey, Nothing, Fault as MadeFault, Memory as MadeMemory, Full as MadeFull}
use Rattle.ang_host.specs.declared.answer.Answer.TheVariants.{Void, Gave, Fault, Memory, Full}
use Rattle.ang_host.specs.declared.answer.HostReply.{HostReply}
use Rattle.ang_host.specs.declared.answer.HostReply.TheVariants.{Making, Asking}
use Rattle.ang_host.specs.declared.event.HostEvent.{HostEvent}
use Rattle.ang_host.specs.declared.event.HostEvent.TheVariants.{Called, Ended}
use Rattle.ang_host.specs.declared.event.Role.{Role}
use Rattle.ang_host.specs.Events.{ask_of, role_at, is_full}
use Rattle.ang_drivers.specs.declared.limited.CallLimit.{CallLimit}
use Rattle.ang_drivers.specs.Limited.{uses_one}

-- whether a reply is the fault of this number
abbrev pub is_fault : ℕ → HostReply → Bool
is_fault n (Making (MadeKey k)) = false
is_fault n (Making Nothing) = false
is_fault n (Making (MadeFault m)) = nat_eq m n
is_fault n (Making MadeMemory) = false
is_fault n (Making MadeFull) = false
is_fault n (Asking Void) = false
is_fault n (Asking (Gave v)) = false
is_fault n (Asking (Fault m)) = nat_eq m n
is_fault n (Asking Memory) = false
is_fault n (Asking Full) = false

-- how many host calls are answered otherwise than by `Full` and by the fault of this number
abbrev pub answered_in : ℕ → List HostEvent → ℕ
answered_in n [] = 0
answered_in n (Called caller entity driver object args reply ∷ es) = cond (is_full reply || is_fault n reply) 0 1 + answered_in n es
answered_in n (Ended driver key ∷ es) = answered_in n es

-- no host call of the events resets the count
abbrev pub ResetsNothing : List Role → CallLimit → List HostEvent → Type 0
ResetsNothing roles l [] = Unit {0}
ResetsNothing roles l (Called caller entity driver object args reply ∷ es) =
    (uses_one l (ask_of (role_at roles entity.0) object args) ≡ true) × ResetsNothing roles l es
ResetsNothing roles l (Ended driver key ∷ es) = ResetsNothing roles l es
