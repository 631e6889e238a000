-- What the code of a module is (docs/CLAIMS.md, "Code").
use Rattle.std.specs.Prelude.{◌≡◌, List, map}
use Rattle.std.specs.List.{AllZip}
use Rattle.ang_view.specs.Registration.{RegistrationList}
use Rattle.ang_typed.specs.Typed as t
use Rattle.ang_core.specs.declared.tree.CoreBody.{CoreBody}
use Rattle.ang_code.specs.declared.instruction.RoutineCode.{RoutineCode}
use Rattle.ang_source.specs.Sound.{SoundProgram}
use Rattle.ang_lower.specs.Plain.{plain_body}
use Rattle.ang_lower.specs.Lowered.{lowered_module}
use Rattle.ang_lower.specs.Positions.{listed, of_module}
use Rattle.ang_gen.specs.Programs.{IsBodyCode}

-- There are core bodies that are lowered from the module's tree, whose statements stand where the tree's do, and each code is that of the body
-- at its place.
pub record IsCompiled (p : t.Program) (codes : List RoutineCode) : Type 0 where
  pub bodies : List CoreBody
  pub lowered : map plain_body bodies ≡ lowered_module p
  pub positions : listed bodies ≡ of_module p
  pub code : AllZip IsBodyCode bodies codes

-- Code by which no run is lost: that of a tree which is sound over some view of the host.
pub record IsWellFormed (codes : List RoutineCode) : Type 0 where
  pub view : RegistrationList
  pub program : t.Program
  pub sound : SoundProgram view program
  pub compiled : IsCompiled program codes
