-- The class in whose body an expression stands is one of few.
use Rattle.std.specs.Prelude.{◌<◌, Option, Some, None, IfSome}
use Rattle.std.proofs.Common.{arith}
use Rattle.ang_names_known.specs.declared.names.Names.{Names}
use Rattle.ang_check_context.specs.declared.scope.Within.{Within}
use Rattle.ang_check_context.specs.Scope.{IsWithin}

pub class_is_few : (names : Names) (within : Option Within) → IsWithin names within → IfSome within (λ (w : Within). w.family < 256)
class_is_few names None h = tt
class_is_few names (Some w) h = omega (arith, h.few, h.there)
