use Rattle.ang_decl.specs.declared.tree.HostFunction.{HostFunction}
use Rattle.ang_decl.specs.Grammar.{SpellsMethod, SpellsFunction}
use Rattle.ang_decl.specs.Parsed.{is_function_form, declared_function}
use Rattle.ang_decl.specs.Read as r
use Rattle.ang_decl.specs.Signatures.{is_function_left_out, function_signature}
use Rattle.ang_decl.proofs.Answering.{given_signature, given_unsupported, given_syntax}
use Rattle.ang_decl.proofs.Exactly.{methods_exact, function_form}
use Rattle.ang_decl.proofs.parse.parse_function.Goals as goal

pub returns-clause-signature : goal.returns-clause-signature
unfolding declared_function
returns-clause-signature c = given_signature HostFunction r.a_function SpellsMethod is_function_form SpellsFunction is_function_left_out function_signature methods_exact function_form c.args.text.now c.function_in.result c.function_in.ensures.exact

pub returns-clause-unsupported : goal.returns-clause-unsupported
unfolding declared_function
returns-clause-unsupported c = given_unsupported HostFunction r.a_function SpellsMethod is_function_form SpellsFunction is_function_left_out function_signature methods_exact function_form c.args.text.now c.function_in.result c.function_in.ensures.fault

pub returns-clause-syntax : goal.returns-clause-syntax
unfolding declared_function
returns-clause-syntax c = given_syntax HostFunction r.a_function SpellsMethod is_function_form SpellsFunction is_function_left_out function_signature methods_exact function_form c.args.text.now c.function_in.result c.function_in.ensures.fault
