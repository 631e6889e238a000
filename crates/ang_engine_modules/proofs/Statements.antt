-- The statements of a body, by its number: those that the tree lists for a function, and none of an initializer.
use Rattle.std.proofs.Common.{◌≡◌, ◌∙◌, refl, ap, sym, subst, ℕ, zero, suc, ◌≤◌, List, [], ◌∷◌, ◌++◌, length, arith, Option, Some, None}
use Rattle.std.specs.Prelude.{Contains, map as list_map, slice_get, slice_index_or}
use Rattle.std.specs.List.{flat_map}
use Rattle.std.proofs.lemmas.List.{length-map}
use Rattle.ang_kinds.specs.declared.place.Place.{Place}
use Rattle.ang_kinds.specs.declared.position.Position.{Position}
use Rattle.ang_typed.specs.Typed as t
use Rattle.ang_typed.specs.View.{view_function, view_typed}
use Rattle.ang_lower.specs.Positions.{core_of, of_function, of_global, of_initializer}
use Rattle.ang_lower.proofs.HandedOn.{handed_on}
use Rattle.ang_engine_modules.specs.declared.modules.LoadedModule.{LoadedModule}
use Rattle.ang_engine_modules.specs.Traced.{StandsIn, place_in, places_of}

-- ---- lists by number

function_at : (fs : List t.TypedFunction) (rest : List (List Position)) (n : ℕ) (f : t.TypedFunction) → slice_get fs n ≡ Some f
    → slice_index_or (list_map of_function fs ++ rest) n [] ≡ of_function f
function_at [] rest n f there = absurd (cc)
function_at (g ∷ fs) rest zero f there = let same : g ≡ f = cc in ap of_function same
function_at (g ∷ fs) rest (suc n) f there = function_at fs rest n f there

-- initializers list nothing
one_empty : {A : Type 0} (o : Option A) (rest : List (List Position)) → ((n : ℕ) → slice_index_or rest n [] ≡ []) → (n : ℕ)
    → slice_index_or (of_initializer o ++ rest) n [] ≡ []
one_empty None rest others n = others n
one_empty (Some e) rest others zero = refl
one_empty (Some e) rest others (suc n) = others n

all_empty : (gs : List t.Global) (n : ℕ) → slice_index_or (flat_map of_global gs) n [] ≡ []
all_empty [] n = refl
all_empty (g ∷ gs) n = one_empty g.initializer (flat_map of_global gs) (all_empty gs) n

past_functions : (fs : List t.TypedFunction) (rest : List (List Position)) → ((n : ℕ) → slice_index_or rest n [] ≡ []) → (n : ℕ) → length fs ≤ n
    → slice_index_or (list_map of_function fs ++ rest) n [] ≡ []
past_functions [] rest others n past = others n
past_functions (f ∷ fs) rest others zero past = absurd (omega (arith, past))
past_functions (f ∷ fs) rest others (suc n) past = past_functions fs rest others n (omega (arith, past))

none_in : (q : Position) → Contains [] q → ⊥
none_in q there = omega (arith, there.1)

-- ---- the laws

pub function_lists : (l : LoadedModule) (n section : ℕ) (p : Place) (f : t.TypedFunction) → slice_get (view_typed l.tree).functions n ≡ Some f
    → t.statement_count f.body ≤ length f.positions → StandsIn l n section p
    → (q : Position) × Contains f.positions q × (p ≡ place_in section q)
function_lists l n section p f there counted stands =
    let tree = view_typed l.tree in
    let same : places_of l n ≡ core_of f.body f.positions = function_at tree.functions (flat_map of_global tree.globals) n f there in
    (stands.at, handed_on f.body f.positions stands.at counted (subst (λ ps. Contains ps stands.at) same stands.among), stands.is)

pub none_of_initializers : (l : LoadedModule) (n section : ℕ) (p : Place) → length l.tree.functions ≤ n → StandsIn l n section p → ⊥
none_of_initializers l n section p past stands =
    let tree = view_typed l.tree in
    let many : length tree.functions ≡ length l.tree.functions = length-map l.tree.functions view_function in
    let none : places_of l n ≡ [] = past_functions tree.functions (flat_map of_global tree.globals) (all_empty tree.globals) n (omega (arith, past, many)) in
    none_in stands.at (subst (λ ps. Contains ps stands.at) none stands.among)
