use Rattle.ang_decl.specs.declared.tree.HostFunction.{HostFunction}
use Rattle.ang_decl.specs.declared.tree.HostProperty.{HostProperty}
use Rattle.ang_decl.specs.declared.tree.HostType.{HostType}
use Rattle.ang_decl.specs.Grammar.{SpellsType, SpellsProperty, SpellsMethod, SpellsFunction, SpellsFactory}
use Rattle.ang_decl.specs.Parsed.{of_any_form, is_function_form, is_factory_form, declared_type_alone, declared_property, declared_method, declared_function, declared_factory}
use Rattle.ang_decl.specs.Read as r
use Rattle.ang_decl.specs.Signatures.{is_function_left_out, is_factory_left_out, is_property_left_out, is_type_left_out, function_signature, property_signature, type_signature}
use Rattle.ang_decl.proofs.Answering.{answer_is}
use Rattle.ang_decl.proofs.Exactly.{types_exact, properties_exact, methods_exact, any_form, function_form, factory_form}
use Rattle.ang_decl.proofs.laws.one_answer.Goals as goal

pub returns-clause-types : goal.returns-clause-types
unfolding declared_type_alone
returns-clause-types c = answer_is HostType (λ n. r.a_type) SpellsType of_any_form SpellsType is_type_left_out type_signature types_exact (any_form SpellsType)

pub returns-clause-properties : goal.returns-clause-properties
unfolding declared_property
returns-clause-properties c = answer_is HostProperty (λ n. r.a_property) SpellsProperty of_any_form SpellsProperty is_property_left_out property_signature properties_exact (any_form SpellsProperty)

pub returns-clause-methods : goal.returns-clause-methods
unfolding declared_method
returns-clause-methods c = answer_is HostFunction r.a_function SpellsMethod of_any_form SpellsMethod is_function_left_out function_signature methods_exact (any_form SpellsMethod)

pub returns-clause-functions : goal.returns-clause-functions
unfolding declared_function
returns-clause-functions c = answer_is HostFunction r.a_function SpellsMethod is_function_form SpellsFunction is_function_left_out function_signature methods_exact function_form

pub returns-clause-factories : goal.returns-clause-factories
unfolding declared_factory
returns-clause-factories c = answer_is HostFunction r.a_function SpellsMethod is_factory_form SpellsFactory is_factory_left_out function_signature methods_exact factory_form
