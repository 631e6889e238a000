-- Where the statement of a frame stands: at one of the places of its body's statements.
use Rattle.std.proofs.Common.{◌≡◌, ◌∙◌, sym, ap, subst, refl, ℕ, zero, suc, ◌-◌, ◌==◌, Bool, true, false, List, [], ◌∷◌, length, arith, Option, Some, None}
use Rattle.std.specs.Prelude.{Contains, IfSome, nat_lt, option_map, slice_get, slice_index_or, if◌then◌else◌}
use Rattle.std.specs.Option.{option_or}
use Rattle.std.proofs.lemmas.Option.{IfSome_then}
use Rattle.ang_kinds.specs.declared.place.Place.{Place}
use Rattle.ang_kinds.specs.declared.position.Position.{Position}
use Rattle.ang_typed.specs.Typed as t
use Rattle.ang_typed.specs.View.{view_typed}
use Rattle.ang_meaning.specs.declared.routine.Routine.{Routine}
use Rattle.ang_lower.specs.Positions.{of_module}
use Rattle.ang_code.specs.declared.instruction.Mark.{Mark}
use Rattle.ang_code.specs.declared.instruction.RoutineCode.{RoutineCode}
use Rattle.ang_gen.specs.Compiled.{IsCompiled}
use Rattle.ang_gen.specs.Marks.{AreAmong}
use Rattle.ang_gen.proofs.Marked.{of_statements}
use Rattle.ang_vm_stack.specs.declared.table.ModuleCode.{ModuleCode}
use Rattle.ang_vm_stack.specs.declared.table.Table.{Table}
use Rattle.ang_vm_stack.specs.Tables.{body_of, module_at as code_at}
use Rattle.ang_engine_modules.specs.declared.failed.FailedModule.{FailedModule}
use Rattle.ang_engine_modules.specs.declared.modules.LoadedModule.{LoadedModule}
use Rattle.ang_engine_modules.specs.declared.traced.TraceFrame.{TraceFrame}
use Rattle.ang_engine_modules.specs.Loaded.{codes_of, loaded_at, module_of, modules_of, IsCodeOf, IsLoaded}
use Rattle.ang_engine_modules.specs.Modules.{Module, unbuilt}
use Rattle.ang_engine_modules.specs.Traced.{StandsIn, count_before, failed_in, traced_in, mark_before, marks_in, place_in, places_of, statement_place}
use Rattle.ang_engine_modules.proofs.Loading.{module_loaded}

-- ---- the marks of a module's bodies, by number

marks_of : (p : t.Program) (cs : List RoutineCode) (n : ℕ) → IsCompiled p cs → (c : Option RoutineCode) → slice_get cs n ≡ c
    → AreAmong (slice_index_or (of_module p) n []) (marks_in c)
marks_of p cs n is None there = tt
marks_of p cs n is (Some c) there = of_statements p cs n c is there

pub code_marks : (n : ℕ) (l : LoadedModule) (cs : List RoutineCode) → IsCompiled (view_typed l.tree) cs → AreAmong (places_of l n) (marks_in (slice_get cs n))
code_marks n l cs is = marks_of (view_typed l.tree) cs n is (slice_get cs n) refl

-- ---- a statement

one_among : (ps : List Position) (ms : List Mark) (n : ℕ) (m : Mark) → AreAmong ps ms → slice_get ms n ≡ Some m → Contains ps m.position
one_among ps [] n m all there = absurd (cc)
one_among ps (x ∷ ms) zero m all there =
    let same : x ≡ m = cc in
    subst (λ (y : Mark). Contains ps y.position) same all.0
one_among ps (x ∷ ms) (suc n) m all there = one_among ps ms n m all.1 there

chosen_among : (ps : List Position) (ms : List Mark) (n : ℕ) (some : Bool) (m : Mark) → AreAmong ps ms
    → (if some then slice_get ms n else None) ≡ Some m → Contains ps m.position
chosen_among ps ms n true m all there = one_among ps ms n m all there
chosen_among ps ms n false m all there = absurd (cc)

stands_by : (l : LoadedModule) (n section : ℕ) (o : Option Mark) → ((m : Mark) → o ≡ Some m → Contains (places_of l n) m.position)
    → IfSome (option_map (λ (m : Mark). place_in section m.position) o) (StandsIn l n section)
stands_by l n section None among = tt
stands_by l n section (Some m) among = record { at = m.position; among = among m refl; is = refl }

place_stands : (l : LoadedModule) (n : ℕ) (ms : List Mark) (at section : ℕ) → AreAmong (places_of l n) ms
    → IfSome (statement_place ms at section) (StandsIn l n section)
place_stands l n ms at section all =
    stands_by l n section (mark_before ms at)
    (λ m there. chosen_among (places_of l n) ms (count_before ms at - 1) (nat_lt 0 (count_before ms at)) m all there)

pub frame_stands : (l : LoadedModule) (n at : ℕ) (ms : List Mark) (r : Option TraceFrame) → AreAmong (places_of l n) ms
    → IfSome r (λ f. f.place ≡ statement_place ms at f.declared.sect)
    → IfSome r (λ f. IfSome f.place (StandsIn l n f.declared.sect))
frame_stands l n at ms r all placed =
    IfSome_then r placed
    (λ f is. subst (λ o. IfSome o (StandsIn l n f.declared.sect)) (sym is) (place_stands l n ms at f.declared.sect all))

-- ---- a module that is loaded

loaded_marks : (t : Table) (xs : List (Option LoadedModule)) (g : Routine) (l : LoadedModule) → IsLoaded t xs → loaded_at xs g.home ≡ Some l
    → AreAmong (places_of l g.number) (marks_in (body_of t g))
loaded_marks t xs g l is there =
    let code : IsCodeOf g.home (code_at t g.home) (module_of (Some l)) =
    subst (IsCodeOf g.home (code_at t g.home)) (module_loaded xs g.home ∙ ap module_of there) (is.holds.each g.home)
    in
    code_marks g.number l (codes_of (code_at t g.home)) code.compiled

-- what is built is what a trace names
pub built_first : (xs : List (Option LoadedModule)) (failed : Option FailedModule) (home : ℕ) (k l : LoadedModule) → Some k ≡ loaded_at xs home
    → traced_in xs failed home ≡ Some l → loaded_at xs home ≡ Some l
built_first xs failed home k l at traced =
    sym at ∙ ap (λ o. option_or o (failed_in failed home)) at ∙ traced

-- and else what failed
pub failed_else : (xs : List (Option LoadedModule)) (failed : Option FailedModule) (home : ℕ) (l : LoadedModule) → None ≡ loaded_at xs home
    → traced_in xs failed home ≡ Some l → failed_in failed home ≡ Some l
failed_else xs failed home l none traced = ap (λ o. option_or o (failed_in failed home)) none ∙ traced

pub loaded_stands : (t : Table) (xs now : List (Option LoadedModule)) (g : Routine) (at : ℕ) (ms : List Mark) (r : Option TraceFrame) → IsLoaded t xs → xs ≡ now
    → ms ≡ marks_in (body_of t g) → IfSome r (λ f. f.place ≡ statement_place ms at f.declared.sect)
    → (l : LoadedModule) → loaded_at now g.home ≡ Some l → IfSome r (λ f. IfSome f.place (StandsIn l g.number f.declared.sect))
loaded_stands t xs now g at ms r is same marks placed l there =
    frame_stands l g.number at ms r
    (subst (AreAmong (places_of l g.number)) (sym marks) (loaded_marks t xs g l is (ap (λ ys. loaded_at ys g.home) same ∙ there))) placed

-- ---- a module that failed

own_of : (same : Bool) (f : FailedModule) (l : LoadedModule) → (if same then Some f.loaded else None) ≡ Some l → f.loaded ≡ l
own_of true f l there = cc
own_of false f l there = absurd (cc)

-- it is the one of its own number
failed_is : (f : FailedModule) (home : ℕ) (l : LoadedModule) → failed_in (Some f) home ≡ Some l → f.loaded ≡ l
failed_is f home l there = own_of (f.home == home) f l there

pub failed_stands : (f now : FailedModule) (code : ModuleCode) (home n at : ℕ) (ms : List Mark) (r : Option TraceFrame) → IsCodeOf f.home (Some code) (module_of (Some f.loaded)) → f ≡ now
    → ms ≡ marks_in (slice_get code.bodies.items n) → IfSome r (λ x. x.place ≡ statement_place ms at x.declared.sect)
    → (l : LoadedModule) → failed_in (Some now) home ≡ Some l → IfSome r (λ x. IfSome x.place (StandsIn l n x.declared.sect))
failed_stands f now code home n at ms r is same marks placed l there =
    let own : f.loaded ≡ l = ap (λ (x : FailedModule). x.loaded) same ∙ failed_is now home l there in
    subst (λ k. IfSome r (λ x. IfSome x.place (StandsIn k n x.declared.sect))) own
    (frame_stands f.loaded n at ms r
    (subst (AreAmong (places_of f.loaded n)) (sym marks) (code_marks n f.loaded code.bodies.items is.compiled)) placed)

-- ---- what is kept of it

kept_at : (c : ModuleCode) (P : ℕ → Option ModuleCode → Module → Type 0) (cs : List ModuleCode) (bs : List (Option LoadedModule)) (i : ℕ)
    → ((m : ℕ) → P m (slice_get cs m) (slice_index_or (modules_of bs) m unbuilt)) → length cs ≡ length bs → P i (Some c) unbuilt
    → P i (Some (slice_index_or cs i c)) (module_of (loaded_at bs i))
kept_at c P [] [] i p e is = is
kept_at c P [] (y ∷ bs) i p e is = absurd (omega (arith, e))
kept_at c P (x ∷ cs) [] i p e is = absurd (omega (arith, e))
kept_at c P (x ∷ cs) (y ∷ bs) zero p e is = p zero
kept_at c P (x ∷ cs) (y ∷ bs) (suc i) p e is = kept_at c (λ k. P (suc k)) cs bs i (λ k. p (suc k)) (omega (arith, e)) is

pub kept_code : (t : Table) (xs : List (Option LoadedModule)) (i : ℕ) (c code : ModuleCode) (o : Option LoadedModule) → IsLoaded t xs → IsCodeOf i (Some c) unbuilt
    → code ≡ slice_index_or t.modules.items i c → o ≡ loaded_at xs i → IsCodeOf i (Some code) (module_of o)
kept_code t xs i c code o is blank replaced taken =
    subst (λ x. IsCodeOf i (Some x) (module_of o)) (sym replaced)
    (subst (λ x. IsCodeOf i (Some (slice_index_or t.modules.items i c)) (module_of x)) (sym taken)
    (kept_at c IsCodeOf t.modules.items xs i is.holds.each is.same blank))
