-- The code of bodies, and the texts of several modules.
use Rattle.std.specs.Prelude.{◌≡◌, ℕ, ◌+◌, ◌<◌, ◌≤◌, ◌^◌, List, [], length, Option, Some, None, slice_get}
use Rattle.std.specs.declared.vec.Vec.{Vec}
use Rattle.std.specs.declared.alloc.Global.{Global}
use Rattle.ang_meaning.specs.declared.routine.Routine.{Routine}
use Rattle.ang_core.specs.declared.tree.CoreBody.{CoreBody}
use Rattle.ang_core.specs.declared.tree.CoreStatement.{CoreStatement}
use Rattle.ang_core.specs.declared.tree.CoreStatement.TheVariants.{Skip}
use Rattle.ang_code.specs.declared.instruction.Instruction.{Instruction}
use Rattle.ang_code.specs.declared.instruction.RoutineCode.{RoutineCode}
use Rattle.ang_code.specs.Machine.{Texts}
use Rattle.ang_gen.specs.Code.{body_code}
use Rattle.ang_gen.specs.Heights.{BelowBody}
use Rattle.ang_gen.specs.Marks.{AreAmong}

abbrev pub parameter_count : CoreBody → ℕ
parameter_count b = length b.params.items

-- the height is enough for a body, and no smaller one is
pub record IsHeight (height : ℕ) (b : CoreBody) : Type 0 where
  pub enough : BelowBody (parameter_count b + height) (parameter_count b) b.statement
  pub least : (h : ℕ) → BelowBody (parameter_count b + h) (parameter_count b) b.statement → height ≤ h

-- the code of one body, whose frame is counted in 64 bits, and whose marks stand where its statements do
pub record IsBodyCode (b : CoreBody) (code : RoutineCode) : Type 0 where
  pub params : code.params.items ≡ b.params.items
  pub result : code.result ≡ b.result
  pub text : code.text.items ≡ body_code (parameter_count b) b.statement
  pub height : IsHeight code.height b
  pub counted : parameter_count b + code.height < 2 ^ 64
  pub marks : AreAmong b.positions.items code.marks.items

-- a routine among those of all modules
abbrev pub items_in : {A : Type 0} → Option (Vec A Global) → List A
items_in None = []
items_in (Some v) = v.items

abbrev pub routine_in : {A : Type 0} → List (Vec A Global) → Routine → Option A
routine_in modules g = slice_get (items_in (slice_get modules g.home)) g.number

abbrev pub statement_in : Option CoreBody → CoreStatement
statement_in None = Skip
statement_in (Some b) = b.statement

abbrev pub text_in : Option RoutineCode → List Instruction
text_in None = []
text_in (Some c) = c.text.items

abbrev pub height_in : Option RoutineCode → ℕ
height_in None = 0
height_in (Some c) = c.height

-- the codes of several modules, as the meaning takes them
abbrev pub texts_of : List (Vec RoutineCode Global) → Texts
texts_of codes = record { text = λ g. text_in (routine_in codes g); height = λ g. height_in (routine_in codes g) }
