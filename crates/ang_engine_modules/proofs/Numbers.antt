-- The numbers of a module's initializers, one after the other.
use Rattle.std.proofs.Common.{◌≡◌, ◌+◌, ◌-◌, ◌<◌, ◌≤◌, ℕ, suc, List, [], ◌∷◌, length, refl, sym, ap, ◌∙◌, arith}
use Rattle.ang_source.specs.Meaning.{Code, routine}
use Rattle.ang_engine_modules.specs.Executed.{routines_from}
use Rattle.ang_engine_modules.specs.Numbers.{routines_at}

-- the routines go by how many there are
pub routines_counted : (m n : ℕ) (cs : List Code) → routines_from m n cs ≡ routines_at m n (length cs)
routines_counted m n [] = refl
routines_counted m n (c ∷ cs) = ap (λ gs. routine m n ∷ gs) (routines_counted m (suc n) cs)

-- the next of those below an end
pub next_routine : (m n end : ℕ) → n < end → routines_at m n (end - n) ≡ routine m n ∷ routines_at m (n + 1) (end - (n + 1))
next_routine m n end lt =
    let one : n + 1 ≡ suc n = omega arith in
    let left : end - n ≡ suc (end - (n + 1)) = omega (arith, lt) in
    ap (routines_at m n) left ∙ ap (λ k. routine m n ∷ routines_at m k (end - (n + 1))) (sym one)

-- none is left at the end
pub no_routine : (m n end : ℕ) → end ≤ n → routines_at m n (end - n) ≡ []
no_routine m n end le =
    let none : end - n ≡ 0 = omega (arith, le) in
    ap (routines_at m n) none
