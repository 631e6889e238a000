use Rattle.ang_decl.specs.declared.tree.HostFunction.{HostFunction}
use Rattle.ang_decl.specs.Grammar.{SpellsMethod, SpellsFactory}
use Rattle.ang_decl.specs.Parsed.{is_factory_form, declared_factory}
use Rattle.ang_decl.specs.Read as r
use Rattle.ang_decl.specs.Signatures.{is_factory_left_out, function_signature}
use Rattle.ang_decl.proofs.Answering.{given_signature, given_unsupported, given_syntax}
use Rattle.ang_decl.proofs.Exactly.{methods_exact, factory_form}
use Rattle.ang_decl.proofs.parse.parse_factory.Goals as goal

pub returns-clause-signature : goal.returns-clause-signature
unfolding declared_factory
returns-clause-signature c = given_signature HostFunction r.a_function SpellsMethod is_factory_form SpellsFactory is_factory_left_out function_signature methods_exact factory_form c.args.text.now c.factory_in.result c.factory_in.ensures.exact

pub returns-clause-unsupported : goal.returns-clause-unsupported
unfolding declared_factory
returns-clause-unsupported c = given_unsupported HostFunction r.a_function SpellsMethod is_factory_form SpellsFactory is_factory_left_out function_signature methods_exact factory_form c.args.text.now c.factory_in.result c.factory_in.ensures.fault

pub returns-clause-syntax : goal.returns-clause-syntax
unfolding declared_factory
returns-clause-syntax c = given_syntax HostFunction r.a_function SpellsMethod is_factory_form SpellsFactory is_factory_left_out function_signature methods_exact factory_form c.args.text.now c.factory_in.result c.factory_in.ensures.fault
