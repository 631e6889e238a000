-- A group without where its trees lie in memory.
use Rattle.std.specs.Prelude.{option_map}
use Rattle.ang_parse.specs.declared.group.Group as groups
use Rattle.ang_tree.specs.View.{view_params, view_args}
use Rattle.ang_parse.specs.ReadFunction.{Group}

abbrev pub view_group : groups.Group → Group
view_group g = (option_map view_params g.parameters, option_map view_args g.arguments)
