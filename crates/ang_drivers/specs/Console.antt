-- What the console answers (docs/RATTLE_HOST.md). Its core is the register's code and then the codes of what it noted.
use Rattle.std.specs.Prelude.{ℕ, ℤ, pos, negsuc, ◌+ℤ◌, FitsSigned, ◌+◌, ◌*◌, ◌^◌, ◌≡◌, ◌<◌, ◌≤◌, ◌⊎◌, Bool, true, false, cond, nat_eq, List, [], ◌∷◌, ◌++◌, Some, None, map as list_map}
use Rattle.std.specs.Int.{w64}
use Rattle.std.specs.FinMap as map
use Rattle.ang_kinds.specs.declared.value.Value.{Value}
use Rattle.ang_kinds.specs.declared.value.Value.TheVariants.{Int, Uint, Bool as Truth, Key as KeyValue}
use Rattle.ang_host.specs.declared.answer.Made.TheVariants.{Fault as MadeFault}
use Rattle.ang_host.specs.declared.answer.Answer.{Answer}
use Rattle.ang_host.specs.declared.answer.Answer.TheVariants.{Void, Gave, Fault, Memory}
use Rattle.ang_host.specs.declared.answer.HostReply.{HostReply}
use Rattle.ang_host.specs.declared.answer.HostReply.TheVariants.{Making, Asking}
use Rattle.ang_host.specs.State.{State, Ask, make, call, read, write, end}

-- a number for each value
abbrev pub code_of : Value → ℕ
code_of (Int (pos n)) = 8 * n
code_of (Int (negsuc n)) = 8 * n + 1
code_of (Uint n) = 8 * n + 2
code_of (Truth b) = cond b 11 3
code_of (KeyValue None) = 4
code_of (KeyValue (Some k)) = 8 * k + 5

-- p where b is true, and else q
abbrev pub When : Bool → Type 0 → Type 0 → Type 0
When true p q = p
When false p q = q

-- another number than the console has, or arguments of another form
abbrev pub IsUnknown : Answer → Type 0
IsUnknown r = r ≡ Fault 1

-- call 1: the sum of two signed numbers, or the fault 2 where it does not fit into 64 bits
abbrev pub IsSum : List Value → Answer → Type 0
IsSum (Int a ∷ Int b ∷ []) r = ((r ≡ Gave (Int (a +ℤ b))) × FitsSigned w64 (a +ℤ b)) ⊎ ((r ≡ Fault 2) × (FitsSigned w64 (a +ℤ b) → ⊥))
IsSum vs r = IsUnknown r

-- call 2: the fault of the number that is handed in, if it is below 2^32
abbrev pub IsFaultOf : List Value → Answer → Type 0
IsFaultOf (Uint n ∷ []) r = ((r ≡ Fault n) × (n < 2 ^ 32)) ⊎ (IsUnknown r × (2 ^ 32 ≤ n))
IsFaultOf vs r = IsUnknown r

-- the core without the register
abbrev pub rest : List ℕ → List ℕ
rest [] = []
rest (x ∷ xs) = xs

-- a call, over the core c; call 0 notes its arguments, or has no memory for them
abbrev pub CallFits : List ℕ → ℕ → List Value → HostReply → List ℕ → Type 0
CallFits c f args (Making m) d = ⊥
CallFits c f args (Asking a) d =
    When (nat_eq f 0) (((a ≡ Void) × (d ≡ c ++ list_map code_of args)) ⊎ ((a ≡ Memory) × (d ≡ c)))
    (When (nat_eq f 1) (IsSum args a × (d ≡ c))
    (When (nat_eq f 2) (IsFaultOf args a × (d ≡ c)) (IsUnknown a × (d ≡ c))))

-- the register, whose code is the core's first number
abbrev pub IsRegister : List ℕ → Answer → Type 0
IsRegister [] a = ⊥
IsRegister (x ∷ xs) a = (z : ℤ) × (x ≡ code_of (Int z)) × (a ≡ Gave (Int z))

abbrev pub ReadFits : List ℕ → ℕ → HostReply → List ℕ → Type 0
ReadFits c f (Making m) d = ⊥
ReadFits c f (Asking a) d = When (nat_eq f 0) (IsRegister c a) (IsUnknown a) × (d ≡ c)

-- a signed number written to the register
abbrev pub IsWritten : List ℕ → Value → Answer → List ℕ → Type 0
IsWritten c (Int z) a d = (a ≡ Void) × (d ≡ code_of (Int z) ∷ rest c)
IsWritten c v a d = IsUnknown a × (d ≡ c)

abbrev pub WriteFits : List ℕ → ℕ → Value → HostReply → List ℕ → Type 0
WriteFits c f v (Making m) d = ⊥
WriteFits c f v (Asking a) d = When (nat_eq f 0) (IsWritten c v a d) (IsUnknown a × (d ≡ c))

-- how the console's core moves; it makes nothing, so no key ends
abbrev pub ConsoleFits : List ℕ → Ask → HostReply → List ℕ → Type 0
ConsoleFits c (make f args) r d = (r ≡ Making (MadeFault 1)) × (d ≡ c)
ConsoleFits c (call f o args) r d = CallFits c f args r d
ConsoleFits c (read f o) r d = ReadFits c f r d
ConsoleFits c (write f o v) r d = WriteFits c f v r d
ConsoleFits c (end k) r d = ⊥

-- the state of a console with this register, these notes and `asked` host calls
abbrev pub console_state : ℤ → List Value → ℕ → State
console_state register notes asked = record {
  counts = map.empty;
  core = code_of (Int register) ∷ list_map code_of notes;
  tally = record { asked = asked; made = 0; added = 0; released = 0 };
}
