-- What runs take of a resolved tree has none of the places of its statements.
use Rattle.std.specs.Prelude.{◌≡◌, List, [], ◌∷◌, ◌++◌, map}
use Rattle.std.specs.List.{flat_map}
use Rattle.std.proofs.Common.{refl, ap}
use Rattle.ang_typed.specs.Typed as t
use Rattle.ang_typed.specs.Uses.{function_uses, global_uses, class_uses, heading_uses, uses}
use Rattle.ang_source.specs.Meaning.{of_function, codes_of, initializers_from, passings_of, passings_in}
use Rattle.ang_source.specs.Unplaced.{unplaced, without_places}

-- what comes of each function, where its places play no part
same_each : {A : Type 0} (f : t.TypedFunction → A) → ((g : t.TypedFunction) → f (unplaced g) ≡ f g) → (gs : List t.TypedFunction)
    → map f (map unplaced gs) ≡ map f gs
same_each f h [] = refl
same_each f h (g ∷ gs) = λ j. h g j ∷ same_each f h gs j

same_used : (gs : List t.TypedFunction) → flat_map function_uses (map unplaced gs) ≡ flat_map function_uses gs
same_used [] = refl
same_used (g ∷ gs) = ap (λ ns. function_uses g ++ ns) (same_used gs)

pub same_codes : (p : t.Program) → codes_of (without_places p) ≡ codes_of p
same_codes p = ap (λ cs. cs ++ initializers_from 0 p.globals) (same_each (λ f. of_function f.body) (λ g. refl) p.functions)

pub same_passings : (p : t.Program) → passings_in (without_places p) ≡ passings_in p
same_passings p =
    ap (λ pss. pss ++ map (λ c. []) (initializers_from 0 p.globals)) (same_each (λ f. passings_of f.parameters) (λ g. refl) p.functions)

pub same_uses : (p : t.Program) → uses (without_places p) ≡ uses p
unfolding uses
same_uses p =
    ap (λ ns. ns ++ (flat_map global_uses p.globals ++ (flat_map class_uses p.classes
    ++ (flat_map heading_uses p.methods ++ flat_map heading_uses p.imports)))) (same_used p.functions)
