-- A registration list and the mask of a module.
use Rattle.std.specs.Prelude.{ℕ, List}
use Rattle.ang_names_known.specs.Kinds.{Kind}
use Rattle.ang_view.specs.Registration.{RegistrationList}

-- all that is registered, the mask of the module that sees a part of it, and the kinds of parameters that have numbers
pub record Masked : Type 0 where
  pub list : RegistrationList
  pub mask : ℕ
  pub kinds : List Kind
