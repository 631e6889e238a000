-- How the core of a driver with objects tells what it keeps, and what the drivers with objects have in common
-- (docs/RATTLE_HOST.md).
use Rattle.std.specs.Prelude.{ℕ, ℤ, pos, negsuc, ◌≡◌, ◌^◌, ◌⊎◌, Bool, false, cond, nat_eq, nat_lt, List, [], ◌∷◌, ◌++◌, Option, Some, None}
use Rattle.std.specs.FinMap as map
use Rattle.ang_kinds.specs.declared.value.Value.{Value}
use Rattle.ang_kinds.specs.declared.value.Value.TheVariants.{Int, Uint, Bool as Truth, Key as KeyValue}
use Rattle.ang_host.specs.declared.answer.Made.TheVariants.{Key as MadeKey, Fault as MadeFault, Memory as MadeMemory}
use Rattle.ang_host.specs.declared.answer.Answer.TheVariants.{Fault}
use Rattle.ang_host.specs.declared.answer.HostReply.{HostReply}
use Rattle.ang_host.specs.declared.answer.HostReply.TheVariants.{Making, Asking}
use Rattle.ang_host.specs.State.{State, Ask}
use Rattle.ang_host.specs.Laws.{Fits}
use Rattle.ang_drivers.specs.Objects.{Table, Ledger, with_new}

-- each object's key, and then the numbers of its value
abbrev pub numbers_of : {T : Type 0} → (T → List ℕ) → List (ℕ × T) → List ℕ
numbers_of code [] = []
numbers_of code (e ∷ es) = e.0 ∷ (code e.1 ++ numbers_of code es)

-- the core: the key that the next object gets, and then the live objects in the order of their keys
abbrev pub core_of : {T : Type 0} → (T → List ℕ) → Table T → List ℕ
core_of code x = x.next ∷ numbers_of code (map.entries x.values)

-- the state of a driver that keeps these objects and nothing else
abbrev pub state_of : {T : Type 0} → (T → List ℕ) → Ledger T → State
state_of code s = record { counts = s.counts; core = core_of code s.table; tally = s.tally }

-- how a table moves: the table before, what was asked, the answer, the table after
abbrev pub Moves : Type 0 → Type 1
Moves T = Table T → Ask → HostReply → Table T → Type 0

-- a core moves as the tables move that the core tells before and after
abbrev pub CoreFits : {T : Type 0} → (T → List ℕ) → Moves T → Fits
CoreFits {T} code moves c a r d = (x : Table T) × (y : Table T) × (c ≡ core_of code x) × (d ≡ core_of code y) × moves x a r y

-- another number than the driver has, or arguments of another form: the fault 1, and nothing changes
abbrev pub IsUnknown : {T : Type 0} → Table T → HostReply → Table T → Type 0
IsUnknown x r y = (r ≡ Asking (Fault 1)) × (y ≡ x)

-- an object of this value is made, or there is no memory; without a value the factory is unknown
abbrev pub MakesValue : {T : Type 0} → Table T → Option T → HostReply → Table T → Type 0
MakesValue x None r y = (r ≡ Making (MadeFault 1)) × (y ≡ x)
MakesValue x (Some v) r y = ((r ≡ Making (MadeKey x.next)) × (y ≡ with_new x v)) ⊎ ((r ≡ Making MadeMemory) × (y ≡ x))

-- whether a number fits into 32 bits with its sign
abbrev pub in_32_bits : ℤ → Bool
in_32_bits (pos n) = nat_lt n (2 ^ 31)
in_32_bits (negsuc n) = nat_lt n (2 ^ 31)

-- a signed number in 32 bits
abbrev pub int_32 : Value → Option ℤ
int_32 (Int z) = cond (in_32_bits z) (Some z) None
int_32 (Uint n) = None
int_32 (Truth b) = None
int_32 (KeyValue k) = None

-- a signed number in 32 bits, alone
abbrev pub one_int_32 : List Value → Option ℤ
one_int_32 [] = None
one_int_32 (v ∷ []) = int_32 v
one_int_32 (v ∷ w ∷ vs) = None

-- the object whose property is meant, where only the property 0 is known
abbrev pub property_0 : ℕ → Option ℕ → Option ℕ
property_0 f o = cond (nat_eq f 0) o None

-- whether the factory 0 is asked, which takes nothing
abbrev pub is_bare_making : ℕ → List Value → Bool
is_bare_making f [] = nat_eq f 0
is_bare_making f (v ∷ vs) = false
