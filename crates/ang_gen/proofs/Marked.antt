-- A mark of a module's code stands where one of the statements of its body does.
use Rattle.std.proofs.Common.{◌≡◌, ℕ, zero, suc, List, [], ◌∷◌, Some, slice_get, slice_index_or, subst}
use Rattle.std.specs.List.{AllZip}
use Rattle.ang_kinds.specs.declared.position.Position.{Position}
use Rattle.ang_typed.specs.Typed.{Program}
use Rattle.ang_core.specs.declared.tree.CoreBody.{CoreBody}
use Rattle.ang_code.specs.declared.instruction.RoutineCode.{RoutineCode}
use Rattle.ang_lower.specs.Positions.{listed, of_module}
use Rattle.ang_gen.specs.Marks.{AreAmong}
use Rattle.ang_gen.specs.Programs.{IsBodyCode}
use Rattle.ang_gen.specs.Compiled.{IsCompiled}

of_bodies : (bs : List CoreBody) (cs : List RoutineCode) (n : ℕ) (code : RoutineCode) → AllZip IsBodyCode bs cs → slice_get cs n ≡ Some code
    → AreAmong (slice_index_or (listed bs) n []) code.marks.items
of_bodies [] [] n code all there = absurd (cc)
of_bodies [] (c ∷ cs) n code all there = absurd all
of_bodies (b ∷ bs) [] n code all there = absurd all
of_bodies (b ∷ bs) (c ∷ cs) zero code all there =
    let same : c ≡ code = cc in
    subst (λ (x : RoutineCode). AreAmong b.positions.items x.marks.items) same all.0.marks
of_bodies (b ∷ bs) (c ∷ cs) (suc n) code all there = of_bodies bs cs n code all.1 there

pub of_statements : (p : Program) (codes : List RoutineCode) (n : ℕ) (code : RoutineCode) → IsCompiled p codes → slice_get codes n ≡ Some code
    → AreAmong (slice_index_or (of_module p) n []) code.marks.items
of_statements p codes n code is there =
    subst (λ (ps : List (List Position)). AreAmong (slice_index_or ps n []) code.marks.items) is.positions (of_bodies is.bodies codes n code is.code there)
