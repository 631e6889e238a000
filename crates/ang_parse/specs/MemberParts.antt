-- The parts of classes without where they lie in memory.
use Rattle.std.specs.Prelude.{option_map}
use Rattle.ang_parse.specs.declared.parts.Heading as headings
use Rattle.ang_parse.specs.declared.parts.MethodEnd as methods
use Rattle.ang_parse.specs.declared.parts.ConstructorEnd as constructors
use Rattle.ang_tree.specs.View.{view_body, view_stmts, view_super}
use Rattle.ang_parse.specs.ReadClass.{Heading, MethodEnd, ConstructorEnd}

abbrev pub view_heading : headings.Heading → Heading
view_heading h = record { name = h.name; bases = h.bases.items; left = h.open }

abbrev pub view_method_end : methods.MethodEnd → MethodEnd
view_method_end e = record { constant = e.constant; attributes = e.attributes.items; body = view_body e.body }

abbrev pub view_constructor_end : constructors.ConstructorEnd → ConstructorEnd
view_constructor_end e = record { super_call = option_map view_super e.super_call; statements = view_stmts e.statements.items; right = e.close }
