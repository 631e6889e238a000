-- The numbers of the globals that have initializers, and the initializers as the source has them.
use Rattle.std.proofs.Common.{◌≡◌, refl, ap, ℕ, zero, suc, List, [], ◌∷◌, ◌++◌, length, Option, Some, None}
use Rattle.std.specs.Prelude.{map as list_map, slice_get}
use Rattle.std.specs.declared.boxed.Box.{Box}
use Rattle.std.specs.declared.alloc.Global.{Global as Heap}
use Rattle.ang_typed.specs.declared.expression.TypedExpression.{TypedExpression}
use Rattle.ang_typed.specs.declared.program.Global.{Global}
use Rattle.ang_typed.specs.Typed.{Expr}
use Rattle.ang_typed.specs.View.{view_global, view_option, view_tree}
use Rattle.ang_source.specs.Meaning.{Code, of_global, initializer_of, initializers_from}
use Rattle.ang_gen.specs.Initialized.{numbered, initialized_from}

abbrev Initializer : Type 0
Initializer = Option (Box TypedExpression Heap)

-- the initializer of number n sets the global of number i
abbrev Sets : List Code → ℕ → ℕ → Type 0
Sets cs n i = (e : Expr) × (slice_get cs n ≡ Some (of_global i e))

one_more : (k i : ℕ) (o : Initializer) (numbers : List ℕ) (cs : List Code) → ((m : ℕ) → slice_get numbers m ≡ Some i → Sets cs m i)
    → (n : ℕ) → slice_get (numbered k o ++ numbers) n ≡ Some i → Sets (initializer_of k (view_option o) ++ cs) n i
one_more k i None numbers cs rest n there = rest n there
one_more k i (Some b) numbers cs rest zero there =
    let same : k ≡ i = cc in
    (view_tree b, ap (λ j. Some (of_global j (view_tree b))) same)
one_more k i (Some b) numbers cs rest (suc n) there = rest n there

sets_from : (k i : ℕ) (gs : List Global) (n : ℕ) → slice_get (initialized_from k gs) n ≡ Some i → Sets (initializers_from k (list_map view_global gs)) n i
sets_from k i [] n there = absurd (cc)
sets_from k i (g ∷ gs) n there =
    one_more k i g.initializer (initialized_from (suc k) gs) (initializers_from (suc k) (list_map view_global gs)) (sets_from (suc k) i gs) n there

pub sets_named : (gs : List Global) (n i : ℕ) → slice_get (initialized_from 0 gs) n ≡ Some i → Sets (initializers_from 0 (list_map view_global gs)) n i
sets_named gs n i there = sets_from 0 i gs n there

more_of : (k : ℕ) (o : Initializer) (numbers : List ℕ) (cs : List Code) → length numbers ≡ length cs
    → length (numbered k o ++ numbers) ≡ length (initializer_of k (view_option o) ++ cs)
more_of k None numbers cs same = same
more_of k (Some b) numbers cs same = ap suc same

many_from : (k : ℕ) (gs : List Global) → length (initialized_from k gs) ≡ length (initializers_from k (list_map view_global gs))
many_from k [] = refl
many_from k (g ∷ gs) = more_of k g.initializer (initialized_from (suc k) gs) (initializers_from (suc k) (list_map view_global gs)) (many_from (suc k) gs)

pub as_many : (gs : List Global) → length (initialized_from 0 gs) ≡ length (initializers_from 0 (list_map view_global gs))
as_many gs = many_from 0 gs
