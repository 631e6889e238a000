use Rattle.ang_decl.specs.declared.tree.HostFunction.{HostFunction}
use Rattle.ang_decl.specs.Grammar.{SpellsMethod}
use Rattle.ang_decl.specs.Parsed.{of_any_form, declared_method}
use Rattle.ang_decl.specs.Read as r
use Rattle.ang_decl.specs.Signatures.{is_function_left_out, function_signature}
use Rattle.ang_decl.proofs.Answering.{given_signature, given_unsupported, given_syntax}
use Rattle.ang_decl.proofs.Exactly.{methods_exact, any_form}
use Rattle.ang_decl.proofs.parse.parse_method.Goals as goal

pub returns-clause-signature : goal.returns-clause-signature
unfolding declared_method
returns-clause-signature c = given_signature HostFunction r.a_function SpellsMethod of_any_form SpellsMethod is_function_left_out function_signature methods_exact (any_form SpellsMethod) c.args.text.now c.method_in.result c.method_in.ensures.exact

pub returns-clause-unsupported : goal.returns-clause-unsupported
unfolding declared_method
returns-clause-unsupported c = given_unsupported HostFunction r.a_function SpellsMethod of_any_form SpellsMethod is_function_left_out function_signature methods_exact (any_form SpellsMethod) c.args.text.now c.method_in.result c.method_in.ensures.fault

pub returns-clause-syntax : goal.returns-clause-syntax
unfolding declared_method
returns-clause-syntax c = given_syntax HostFunction r.a_function SpellsMethod of_any_form SpellsMethod is_function_left_out function_signature methods_exact (any_form SpellsMethod) c.args.text.now c.method_in.result c.method_in.ensures.fault
