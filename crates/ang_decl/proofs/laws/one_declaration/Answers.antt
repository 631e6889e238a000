use Rattle.ang_decl.specs.declared.tree.HostType.{HostType}
use Rattle.ang_decl.specs.declared.tree.HostFunction.{HostFunction}
use Rattle.ang_decl.specs.declared.tree.HostProperty.{HostProperty}
use Rattle.ang_decl.specs.Grammar.{SpellsType, SpellsProperty, SpellsMethod}
use Rattle.ang_decl.specs.Read as r
use Rattle.ang_decl.proofs.Exactly.{one_reading, types_exact, properties_exact, methods_exact}
use Rattle.ang_decl.proofs.laws.one_declaration.Goals as goal

pub returns-clause-types : goal.returns-clause-types
returns-clause-types c = one_reading HostType (λ n. r.a_type) SpellsType types_exact

pub returns-clause-properties : goal.returns-clause-properties
returns-clause-properties c = one_reading HostProperty (λ n. r.a_property) SpellsProperty properties_exact

pub returns-clause-methods : goal.returns-clause-methods
returns-clause-methods c = one_reading HostFunction r.a_function SpellsMethod methods_exact

pub returns-clause-functions : goal.returns-clause-functions
returns-clause-functions c = λ x y ts h k. one_reading HostFunction r.a_function SpellsMethod methods_exact x y ts h.method k.method

pub returns-clause-factories : goal.returns-clause-factories
returns-clause-factories c = λ x y ts h k. one_reading HostFunction r.a_function SpellsMethod methods_exact x y ts h.function.method k.function.method
