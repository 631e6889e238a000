-- What a use is asked over.
use Rattle.ang_types.specs.Ranks.{Ancestors}
use Rattle.ang_view.specs.Registration.{RegistrationList}
use Rattle.ang_names_known.specs.declared.names.Names.{Names}

-- what a use is asked over: what the module sees of the host, what the scripts declare, and what stands above each object type
pub record Scope : Type 0 where
  pub view : RegistrationList
  pub names : Names
  pub ancestors : Ancestors
