-- Expressions by kind, as the functions that type them take them.
use Rattle.std.specs.Prelude.{Bool, true, false}
use Rattle.ang_tree.specs.Tree.{Tree, cast, convert, group, postfix, member, method_call, prefix, binary, conditional, assignment}

abbrev pub has_one_operand : Tree → Bool
has_one_operand (convert word left e right) = true
has_one_operand (group left e right) = true
has_one_operand (postfix e op) = true
has_one_operand (prefix op e) = true
has_one_operand e = false

abbrev pub has_two_operands : Tree → Bool
has_two_operands (binary l op r) = true
has_two_operands (assignment l op r) = true
has_two_operands e = false

abbrev pub has_three_operands : Tree → Bool
has_three_operands (conditional c question l colon r) = true
has_three_operands e = false

-- a cast, a member or a call of a method
abbrev pub is_of_object : Tree → Bool
is_of_object (cast word less y greater left e right) = true
is_of_object (member e dot x) = true
is_of_object (method_call e dot x es) = true
is_of_object e = false
