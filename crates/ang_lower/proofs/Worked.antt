-- Worked examples of where core statements stand, computed. Each stands above its tree in AngelScript, p being the place of the first
-- statement in it, q that of the second, and so on, in the order of the text.
use Rattle.std.proofs.Common.{◌≡◌, refl, List, [], ◌∷◌, Option, Some, None}
use Rattle.ang_kinds.specs.declared.position.Position.{Position}
use Rattle.ang_typed.specs.Typed as t
use Rattle.ang_lower.specs.Positions.{core_of}

-- for (int i = 0; i < a; ++i)
-- {
--   if (i > 2) break; else { a = i; }
-- }
-- { int b, c; }
--
-- The statements in their order, with what the core tree makes of each: p `for`: a block, a loop and its step; q `int i`; r `{`; s `if`;
-- u `break`; v `{`; w `a = i;`; x `{`; y `int b, c;`: two declarations.
loop_and_block : (i b c : t.Local) (less more next set : t.Expr) (p q r s u v w x y : Position)
    → core_of (t.stmts (
    t.for (t.stmts (t.locals (i ∷ []) ∷ [])) (Some less) (next ∷ [])
    (t.stmts (t.block (t.stmts (t.either more (t.stmts (t.break ∷ [])) (t.stmts (t.block (t.stmts (t.expression (Some set) ∷ [])) ∷ [])) ∷ [])) ∷ []))
    ∷ t.block (t.stmts (t.locals (b ∷ c ∷ []) ∷ [])) ∷ []))
    (p ∷ q ∷ r ∷ s ∷ u ∷ v ∷ w ∷ x ∷ y ∷ [])
    ≡ q ∷ u ∷ w ∷ v ∷ s ∷ r ∷ p ∷ p ∷ p ∷ y ∷ y ∷ x ∷ []
loop_and_block i b c less more next set p q r s u v w x y = refl

-- B() { super(1); int y = 2; x = y; }
--
-- p `super`; q `int y`; r `x = y;`; s the closing `}`, where the object is given back
constructor : (y : t.Local) (base set own : t.Expr) (p q r s : Position)
    → core_of (t.stmts (t.expression (Some base) ∷ t.locals (y ∷ []) ∷ t.expression (Some set) ∷ t.return (Some own) ∷ [])) (p ∷ q ∷ r ∷ s ∷ [])
    ≡ p ∷ q ∷ r ∷ s ∷ []
constructor y base set own p q r s = refl
