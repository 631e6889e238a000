-- The numbers of a module's bodies: those of its functions, and after them those of its initializers.
use Rattle.std.proofs.Common.{◌≡◌, ℕ, zero, suc, ◌+◌, ◌<◌, List, [], ◌∷◌, ◌++◌, length, Option, Some, None, refl, ap, ◌∙◌, map, arith}
use Rattle.std.specs.Prelude.{slice_get}
use Rattle.ang_kinds.specs.declared.primitive.Primitive.{Primitive}
use Rattle.ang_typed.specs.Typed as tree
use Rattle.ang_meaning.specs.declared.routine.Routine.{Routine}
use Rattle.ang_meaning.specs.declared.routine.Passing.{Passing}
use Rattle.ang_source.specs.Meaning.{Code, passings_of, passings_in, results_in, initializers_from, routine}
use Rattle.ang_types.specs.ArgTypes.{primitive_of}
use Rattle.ang_engine_modules.specs.Executed.{routines_from, initializers_of}

-- how a function takes its arguments
abbrev taken : tree.TypedFunction → List Passing
taken f = passings_of f.parameters

abbrev nothing_taken : List Code → List (List Passing)
nothing_taken cs = map (λ c. []) cs

function_at : (fs : List tree.TypedFunction) (cs : List Code) (n : ℕ) (f : tree.TypedFunction) → slice_get fs n ≡ Some f → slice_get (map taken fs ++ nothing_taken cs) n ≡ Some (taken f)
function_at [] cs n f at = absurd (cc)
function_at (g ∷ fs) cs zero f at = let same : g ≡ f = cc in ap (λ h. Some (taken h)) same
function_at (g ∷ fs) cs (suc n) f at = function_at fs cs n f at

pub takes_as : (p : tree.Program) (n : ℕ) (f : tree.TypedFunction) → slice_get p.functions n ≡ Some f → slice_get (passings_in p) n ≡ Some (passings_of f.parameters)
takes_as p n f at = function_at p.functions (initializers_from 0 p.globals) n f at

none_taken : (cs : List Code) (k : ℕ) → k < length cs → slice_get (nothing_taken cs) k ≡ Some []
none_taken [] k h = absurd (omega arith)
none_taken (c ∷ cs) zero h = refl
none_taken (c ∷ cs) (suc k) h = none_taken cs k (omega arith)

initializer_at : (fs : List tree.TypedFunction) (cs : List Code) (k n : ℕ) → n ≡ length fs + k → k < length cs → slice_get (map taken fs ++ nothing_taken cs) n ≡ Some []
initializer_at [] cs k n at h = let same : n ≡ k = omega arith in ap (λ i. slice_get (nothing_taken cs) i) same ∙ none_taken cs k h
initializer_at (f ∷ fs) cs k zero at h = absurd (omega arith)
initializer_at (f ∷ fs) cs k (suc n) at h = initializer_at fs cs k n (omega arith) h

-- the primitive type of a function's value
typed_at : (fs : List tree.TypedFunction) (cs : List Code) (n : ℕ) (f : tree.TypedFunction) → slice_get fs n ≡ Some f
    → slice_get (map (λ (x : tree.TypedFunction). primitive_of x.result) fs ++ map {B = Option Primitive} (λ c. None) cs) n ≡ Some (primitive_of f.result)
typed_at [] cs n f at = absurd (cc)
typed_at (g ∷ fs) cs zero f at = let same : g ≡ f = cc in ap (λ (h : tree.TypedFunction). Some (primitive_of h.result)) same
typed_at (g ∷ fs) cs (suc n) f at = typed_at fs cs n f at

pub gives_as : (p : tree.Program) (n : ℕ) (f : tree.TypedFunction) → slice_get p.functions n ≡ Some f → slice_get (results_in p) n ≡ Some (primitive_of f.result)
gives_as p n f at = typed_at p.functions (initializers_from 0 p.globals) n f at

-- the place of a routine among those that are counted from a number on
record PlaceFrom (first : ℕ) (cs : List Code) (n : ℕ) : Type 0 where
  place : ℕ
  number : n ≡ first + place
  below : place < length cs

place_from : (m first : ℕ) (cs : List Code) (done gs : List Routine) (n : ℕ) → routines_from m first cs ≡ done ++ routine m n ∷ gs → PlaceFrom first cs n
place_from m first [] [] gs n e = absurd (cc)
place_from m first [] (d ∷ done) gs n e = absurd (cc)
place_from m first (c ∷ cs) [] gs n e =
    let here : routine m first ≡ routine m n = cc in
    let same : first ≡ n = ap (λ (r : Routine). r.number) here in
    record { place = 0; number = omega arith; below = omega arith }
place_from m first (c ∷ cs) (d ∷ done) gs n e =
    let tail : routines_from m (suc first) cs ≡ done ++ routine m n ∷ gs = cc in
    let r = place_from m (suc first) cs done gs n tail in
    record { place = suc r.place; number = omega (arith, r.number); below = omega (arith, r.below) }

-- an initializer takes no arguments
pub takes_nothing : (m : ℕ) (p : tree.Program) (done gs : List Routine) (n : ℕ) → initializers_of m p ≡ done ++ routine m n ∷ gs → slice_get (passings_in p) n ≡ Some []
takes_nothing m p done gs n e =
    let r = place_from m (length p.functions) (initializers_from 0 p.globals) done gs n e in
    initializer_at p.functions (initializers_from 0 p.globals) r.place n r.number r.below
