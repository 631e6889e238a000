-- What the cell answers (docs/RATTLE_HOST.md).
use Rattle.std.specs.Prelude.{ℕ, ℤ, ◌+ℤ◌, ◌≡◌, cond, nat_eq, List, [], ◌∷◌, Option, Some, None}
use Rattle.std.specs.Int.{w32, int_wrap}
use Rattle.std.specs.FinMap as map
use Rattle.ang_kinds.specs.declared.value.Value.{Value}
use Rattle.ang_kinds.specs.declared.value.Value.TheVariants.{Int, Key as KeyValue}
use Rattle.ang_host.specs.declared.answer.Answer.TheVariants.{Void, Gave}
use Rattle.ang_host.specs.declared.answer.HostReply.{HostReply}
use Rattle.ang_host.specs.declared.answer.HostReply.TheVariants.{Asking}
use Rattle.ang_host.specs.State.{make, call, read, write, end}
use Rattle.ang_host.specs.Laws.{Fits}
use Rattle.ang_drivers.specs.declared.cell.CellMaking.{CellMaking}
use Rattle.ang_drivers.specs.declared.cell.CellMaking.TheVariants.{Of, Above, Unknown as UnknownMaking}
use Rattle.ang_drivers.specs.declared.cell.CellCall.{CellCall}
use Rattle.ang_drivers.specs.declared.cell.CellCall.TheVariants.{Tell, Set, Pick, Unknown}
use Rattle.ang_drivers.specs.Console.{code_of}
use Rattle.ang_drivers.specs.Objects.{Table, with_value, without}
use Rattle.ang_drivers.specs.Tables.{Moves, CoreFits, IsUnknown, MakesValue, one_int_32}

-- the number of a cell's value
abbrev pub value_code : ℤ → List ℕ
value_code z = code_of (Int z) ∷ []

-- the factory 0 takes the value
abbrev pub making_of : Option ℤ → CellMaking
making_of None = UnknownMaking
making_of (Some z) = Of z

-- the factory 1 takes a key and a signed number
abbrev pub making_above : List Value → CellMaking
making_above (KeyValue (Some k) ∷ Int z ∷ []) = Above k z
making_above vs = UnknownMaking

-- what is to be made
abbrev pub cell_making : ℕ → List Value → CellMaking
cell_making f args = cond (nat_eq f 0) (making_of (one_int_32 args)) (cond (nat_eq f 1) (making_above args) UnknownMaking)

-- the method 0 takes nothing
abbrev pub tell_call : ℕ → List Value → CellCall
tell_call k [] = Tell k
tell_call k (v ∷ vs) = Unknown

-- the method 1 takes the value
abbrev pub set_call : ℕ → Option ℤ → CellCall
set_call k None = Unknown
set_call k (Some z) = Set k z

-- the function 2 takes a key or null
abbrev pub pick_call : List Value → CellCall
pick_call (KeyValue k ∷ []) = Pick k
pick_call vs = Unknown

abbrev pub cell_method : ℕ → ℕ → List Value → CellCall
cell_method f k args = cond (nat_eq f 0) (tell_call k args) (cond (nat_eq f 1) (set_call k (one_int_32 args)) Unknown)

abbrev pub cell_function : ℕ → List Value → CellCall
cell_function f args = cond (nat_eq f 2) (pick_call args) Unknown

-- what a call asks for
abbrev pub cell_call : ℕ → Option ℕ → List Value → CellCall
cell_call f (Some k) args = cell_method f k args
cell_call f None args = cell_function f args

-- a making; from a key it is that object's value and so much more, wrapped to 32 bits
abbrev pub MakingMoves : Table ℤ → CellMaking → HostReply → Table ℤ → Type 0
MakingMoves x (Of z) r y = MakesValue x (Some z) r y
MakingMoves x (Above k z) r y = (v : ℤ) × (map.get x.values k ≡ Some v) × MakesValue x (Some (int_wrap w32 (v +ℤ z))) r y
MakingMoves x UnknownMaking r y = MakesValue x None r y

abbrev pub CallMoves : Table ℤ → CellCall → HostReply → Table ℤ → Type 0
CallMoves x (Tell k) r y = (v : ℤ) × (map.get x.values k ≡ Some v) × (r ≡ Asking (Gave (Int v))) × (y ≡ x)
CallMoves x (Set k z) r y = (r ≡ Asking Void) × (y ≡ with_value x k z)
CallMoves x (Pick k) r y = (r ≡ Asking (Gave (KeyValue k))) × (y ≡ x)
CallMoves x Unknown r y = IsUnknown x r y

-- how the cells move; they have no properties, and a key that ends takes its value along
abbrev pub CellMoves : Moves ℤ
CellMoves x (make f args) r y = MakingMoves x (cell_making f args) r y
CellMoves x (call f o args) r y = CallMoves x (cell_call f o args) r y
CellMoves x (read f o) r y = IsUnknown x r y
CellMoves x (write f o v) r y = IsUnknown x r y
CellMoves x (end k) r y = (r ≡ Asking Void) × (y ≡ without x k)

-- how the cell's core moves
abbrev pub CellFits : Fits
CellFits = CoreFits value_code CellMoves
