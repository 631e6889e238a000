-- Expressions of the resolved tree by their kinds.
use Rattle.std.specs.Prelude.{Bool, true, false}
use Rattle.ang_typed.specs.Typed as t

-- a conversion or a cast, an operator on one operand, or an operand in which an entry is named
abbrev pub is_unary : t.Expr → Bool
is_unary (t.convert from to e) = true
is_unary (t.negate ty e) = true
is_unary (t.complement ty e) = true
is_unary (t.not e) = true
is_unary (t.cast family e) = true
is_unary (t.naming x e) = true
is_unary e = false

-- an operator on two operands that are both evaluated
abbrev pub is_binary : t.Expr → Bool
is_binary (t.operate op ty l r) = true
is_binary (t.compare op ty l r) = true
is_binary (t.same l r) = true
is_binary e = false

-- one of two operands is evaluated, by a test
abbrev pub is_choice : t.Expr → Bool
is_choice (t.and l r) = true
is_choice (t.or l r) = true
is_choice (t.choose a l r) = true
is_choice e = false

-- a variable or a member is stored into
abbrev pub is_change : t.Expr → Bool
is_change (t.assign x ty e) = true
is_change (t.compound x ty op at e) = true
is_change (t.step x ty kind) = true
is_change e = false

-- a call, or the making of an object
abbrev pub is_call : t.Expr → Bool
is_call (t.make family constructor args) = true
is_call (t.call f ty args) = true
is_call (t.host_call h ty args) = true
is_call e = false
