use Rattle.ang_decl.specs.declared.tree.HostProperty.{HostProperty}
use Rattle.ang_decl.specs.Grammar.{SpellsProperty}
use Rattle.ang_decl.specs.Parsed.{of_any_form, declared_property}
use Rattle.ang_decl.specs.Read as r
use Rattle.ang_decl.specs.Signatures.{is_property_left_out, property_signature}
use Rattle.ang_decl.proofs.Answering.{given_signature, given_unsupported, given_syntax}
use Rattle.ang_decl.proofs.Exactly.{properties_exact, any_form}
use Rattle.ang_decl.proofs.parse.parse_property.Goals as goal

pub returns-clause-signature : goal.returns-clause-signature
unfolding declared_property
returns-clause-signature c = given_signature HostProperty (λ n. r.a_property) SpellsProperty of_any_form SpellsProperty is_property_left_out property_signature properties_exact (any_form SpellsProperty) c.args.text.now c.property_in.result c.property_in.ensures.exact

pub returns-clause-unsupported : goal.returns-clause-unsupported
unfolding declared_property
returns-clause-unsupported c = given_unsupported HostProperty (λ n. r.a_property) SpellsProperty of_any_form SpellsProperty is_property_left_out property_signature properties_exact (any_form SpellsProperty) c.args.text.now c.property_in.result c.property_in.ensures.fault

pub returns-clause-syntax : goal.returns-clause-syntax
unfolding declared_property
returns-clause-syntax c = given_syntax HostProperty (λ n. r.a_property) SpellsProperty of_any_form SpellsProperty is_property_left_out property_signature properties_exact (any_form SpellsProperty) c.args.text.now c.property_in.result c.property_in.ensures.fault
