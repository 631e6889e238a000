use Rattle.ang_decl.specs.declared.tree.HostType.{HostType}
use Rattle.ang_decl.specs.Grammar.{SpellsType}
use Rattle.ang_decl.specs.Parsed.{of_any_form, declared_type_alone}
use Rattle.ang_decl.specs.Read as r
use Rattle.ang_decl.specs.Signatures.{is_type_left_out, type_signature}
use Rattle.ang_decl.proofs.Answering.{given_signature, given_unsupported, given_syntax}
use Rattle.ang_decl.proofs.Exactly.{types_exact, any_form}
use Rattle.ang_decl.proofs.parse.parse_type.Goals as goal

pub returns-clause-signature : goal.returns-clause-signature
unfolding declared_type_alone
returns-clause-signature c = given_signature HostType (λ n. r.a_type) SpellsType of_any_form SpellsType is_type_left_out type_signature types_exact (any_form SpellsType) c.args.text.now c.type_in.result c.type_in.ensures.exact

pub returns-clause-unsupported : goal.returns-clause-unsupported
unfolding declared_type_alone
returns-clause-unsupported c = given_unsupported HostType (λ n. r.a_type) SpellsType of_any_form SpellsType is_type_left_out type_signature types_exact (any_form SpellsType) c.args.text.now c.type_in.result c.type_in.ensures.fault

pub returns-clause-syntax : goal.returns-clause-syntax
unfolding declared_type_alone
returns-clause-syntax c = given_syntax HostType (λ n. r.a_type) SpellsType of_any_form SpellsType is_type_left_out type_signature types_exact (any_form SpellsType) c.args.text.now c.type_in.result c.type_in.ensures.fault
