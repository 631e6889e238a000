use Rattle.ang_check_laws.proofs.TypedStatements.{statement_typed}
use Rattle.ang_check_laws.proofs.TypedBodies.{function_body, method_body, constructor_body, global_body}
use Rattle.ang_check_laws.proofs.programs.bodies_are_typed.Goals as goal

pub returns : goal.returns
returns c = record {
  statements = λ z ms m f result x loop start ps locals built alive. statement_typed z ms m f built result x loop start ps locals alive;
  functions = function_body;
  methods = method_body;
  constructors = constructor_body;
  initializers = global_body;
}
