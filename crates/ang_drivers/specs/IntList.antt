-- What lists of numbers answer (docs/RATTLE_HOST.md).
use Rattle.std.specs.Prelude.{ℕ, ℤ, pos, negsuc, ◌+◌, ◌≡◌, ◌<◌, ◌⊎◌, cond, nat_eq, nat_lt, List, [], ◌∷◌, ◌++◌, length, take, drop, slice_get, Option, Some, None, map as list_map}
use Rattle.std.specs.FinMap as map
use Rattle.ang_kinds.specs.declared.value.Value.{Value}
use Rattle.ang_kinds.specs.declared.value.Value.TheVariants.{Int}
use Rattle.ang_host.specs.declared.answer.Answer.{Answer}
use Rattle.ang_host.specs.declared.answer.Answer.TheVariants.{Void, Gave, Fault, Memory}
use Rattle.ang_host.specs.declared.answer.HostReply.{HostReply}
use Rattle.ang_host.specs.declared.answer.HostReply.TheVariants.{Asking}
use Rattle.ang_host.specs.State.{make, call, read, write, end}
use Rattle.ang_host.specs.Laws.{Fits}
use Rattle.ang_drivers.specs.declared.numbers.ListCall.{ListCall}
use Rattle.ang_drivers.specs.declared.numbers.ListCall.TheVariants.{Push, Get, Set, Length, Remove, Clear, Unknown}
use Rattle.ang_drivers.specs.Console.{code_of}
use Rattle.ang_drivers.specs.Objects.{Table, with_value, without}
use Rattle.ang_drivers.specs.Tables.{Moves, CoreFits, IsUnknown, MakesValue, is_bare_making}
use Rattle.ang_drivers.specs.Bounded.{BoundedFits}

-- the numbers of a list: how many it has, and then each
abbrev pub list_code : List ℤ → List ℕ
list_code xs = length xs ∷ list_map (λ z. code_of (Int z)) xs

-- the place of an index, if the list has it
abbrev pub place : List ℤ → ℤ → Option ℕ
place xs (pos n) = cond (nat_lt n (length xs)) (Some n) None
place xs (negsuc n) = None

-- the number at an index, if the list has it
abbrev pub number_at : List ℤ → ℤ → Option ℤ
number_at xs (pos n) = slice_get xs n
number_at xs (negsuc n) = None

-- a number is the answer, and where there is none the fault 2
abbrev pub told : Option ℤ → Answer
told None = Fault 2
told (Some z) = Gave (Int z)

-- the methods 3 and 5 take nothing
abbrev pub bare_call : ℕ → ListCall
bare_call f = cond (nat_eq f 3) Length (cond (nat_eq f 5) Clear Unknown)

-- the methods 0, 1 and 4 take a number
abbrev pub call_of_one : ℕ → ℤ → ListCall
call_of_one f z = cond (nat_eq f 0) (Push z) (cond (nat_eq f 1) (Get z) (cond (nat_eq f 4) (Remove z) Unknown))

-- what a method asks for; the method 2 takes two numbers
abbrev pub list_call : ℕ → List Value → ListCall
list_call f [] = bare_call f
list_call f (Int z ∷ []) = call_of_one f z
list_call f (Int i ∷ Int z ∷ []) = cond (nat_eq f 2) (Set i z) Unknown
list_call f vs = Unknown

-- the number comes at the end of a list that has fewer than the bound, or there is no memory
abbrev pub Pushes : ℕ → List ℤ → ℤ → Answer → List ℤ → Type 0
Pushes bound xs z a ys = ((a ≡ Void) × (length xs < bound) × (ys ≡ xs ++ z ∷ [])) ⊎ ((a ≡ Memory) × (ys ≡ xs))

-- the number at a place is another one
abbrev pub Sets : List ℤ → Option ℕ → ℤ → Answer → List ℤ → Type 0
Sets xs None z a ys = (a ≡ Fault 2) × (ys ≡ xs)
Sets xs (Some i) z a ys = (a ≡ Void) × (ys ≡ take i xs ++ z ∷ drop (i + 1) xs)

-- the number at a place is gone, and those after it come one place to the front
abbrev pub Removes : List ℤ → Option ℕ → Answer → List ℤ → Type 0
Removes xs None a ys = (a ≡ Fault 2) × (ys ≡ xs)
Removes xs (Some i) a ys = (a ≡ Void) × (ys ≡ take i xs ++ drop (i + 1) xs)

-- a call of a list: its numbers before, what is asked for, the answer, its numbers after
abbrev pub ListDoes : ℕ → List ℤ → ListCall → Answer → List ℤ → Type 0
ListDoes bound xs (Push z) a ys = Pushes bound xs z a ys
ListDoes bound xs (Get i) a ys = (a ≡ told (number_at xs i)) × (ys ≡ xs)
ListDoes bound xs (Set i z) a ys = Sets xs (place xs i) z a ys
ListDoes bound xs Length a ys = (a ≡ Gave (Int (pos (length xs)))) × (ys ≡ xs)
ListDoes bound xs (Remove i) a ys = Removes xs (place xs i) a ys
ListDoes bound xs Clear a ys = (a ≡ Void) × (ys ≡ [])
ListDoes bound xs Unknown a ys = (a ≡ Fault 1) × (ys ≡ xs)

-- a call of the list of the key k
abbrev pub CallMoves : ℕ → Table (List ℤ) → ℕ → ListCall → HostReply → Table (List ℤ) → Type 0
CallMoves bound x k m r y =
    (xs : List ℤ) × (ys : List ℤ) × (a : Answer) × (map.get x.values k ≡ Some xs) × ListDoes bound xs m a ys × (r ≡ Asking a) × (y ≡ with_value x k ys)

-- how the lists move; the factory 0 makes an empty one, there are no properties, and a key that ends takes its list along
abbrev pub ListMoves : ℕ → Moves (List ℤ)
ListMoves bound x (make f args) r y = MakesValue x (cond (is_bare_making f args) (Some []) None) r y
ListMoves bound x (call f None args) r y = IsUnknown x r y
ListMoves bound x (call f (Some k) args) r y = CallMoves bound x k (list_call f args) r y
ListMoves bound x (read f o) r y = IsUnknown x r y
ListMoves bound x (write f o v) r y = IsUnknown x r y
ListMoves bound x (end k) r y = (r ≡ Asking Void) × (y ≡ without x k)

-- how the core moves of a driver that keeps lists
abbrev pub ListFits : Fits
ListFits = BoundedFits (λ bound. CoreFits list_code (ListMoves bound))
