use Rattle.ang_view.proofs.ViewTypes.{enumeration_named-seen, named_is_seen, type_named-seen}
use Rattle.ang_view.proofs.laws.types_are_seen.Goals as goal

pub returns-clause-seen : goal.returns-clause-seen
returns-clause-seen c = named_is_seen

pub returns-clause-numbers : goal.returns-clause-numbers
returns-clause-numbers c = type_named-seen

pub returns-clause-enumerations : goal.returns-clause-enumerations
returns-clause-enumerations c = enumeration_named-seen
