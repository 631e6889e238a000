-- What maps of numbers answer (docs/RATTLE_HOST.md).
use Rattle.std.specs.Prelude.{ℕ, ℤ, pos, negsuc, ◌≡◌, ◌<◌, ◌⊎◌, Bool, true, false, cond, not, nat_eq, List, [], ◌∷◌, length, slice_get, is_some, Option, Some, None}
use Rattle.std.specs.Option.{option_map}
use Rattle.std.specs.Ordering.{int_cmp, eq_by_cmp}
use Rattle.std.specs.FinMap as map
use Rattle.std.specs.FinMap.{find, put}
use Rattle.std.specs.FinMap.Entries.{where_key}
use Rattle.ang_kinds.specs.declared.value.Value.{Value}
use Rattle.ang_kinds.specs.declared.value.Value.TheVariants.{Int, Bool as Truth}
use Rattle.ang_host.specs.declared.answer.Answer.{Answer}
use Rattle.ang_host.specs.declared.answer.Answer.TheVariants.{Void, Gave, Fault, Memory}
use Rattle.ang_host.specs.declared.answer.HostReply.{HostReply}
use Rattle.ang_host.specs.declared.answer.HostReply.TheVariants.{Asking}
use Rattle.ang_host.specs.State.{make, call, read, write, end}
use Rattle.ang_host.specs.Laws.{Fits}
use Rattle.ang_drivers.specs.declared.pairs.MapCall.{MapCall}
use Rattle.ang_drivers.specs.declared.pairs.MapCall.TheVariants.{Contains, Get, Set, Length, Remove, Clear, Key, Unknown}
use Rattle.ang_drivers.specs.Console.{code_of}
use Rattle.ang_drivers.specs.Objects.{Table, with_value, without}
use Rattle.ang_drivers.specs.Tables.{Moves, CoreFits, IsUnknown, MakesValue, is_bare_making}
use Rattle.ang_drivers.specs.Bounded.{BoundedFits}
use Rattle.ang_drivers.specs.IntList.{told}

-- keys with their numbers; in a map the keys rise
abbrev pub Pairs : Type 0
Pairs = List (ℤ × ℤ)

-- the numbers of pairs, one pair after the other
abbrev pub codes_of : Pairs → List ℕ
codes_of [] = []
codes_of (e ∷ es) = code_of (Int e.0) ∷ code_of (Int e.1) ∷ codes_of es

-- the numbers of a map: how many pairs it has, and then each
abbrev pub map_code : Pairs → List ℕ
map_code es = length es ∷ codes_of es

-- whether the key has a number
abbrev pub has_key : ℤ → Pairs → Bool
has_key k es = is_some (find int_cmp k es)

-- the pairs of other keys than this one
abbrev pub without_key : ℤ → Pairs → Pairs
without_key k es = where_key int_cmp (λ j. not (eq_by_cmp int_cmp k j)) es

-- the pair at an index, in the order of the keys, if the map has so many
abbrev pub pair_at : Pairs → ℤ → Option (ℤ × ℤ)
pair_at es (pos n) = slice_get es n
pair_at es (negsuc n) = None

-- a key's number is the answer, and where the key has none the fault 3
abbrev pub told_of : Option ℤ → Answer
told_of None = Fault 3
told_of (Some z) = Gave (Int z)

-- the methods 3 and 5 take nothing
abbrev pub bare_map_call : ℕ → MapCall
bare_map_call f = cond (nat_eq f 3) Length (cond (nat_eq f 5) Clear Unknown)

-- the methods 0, 1, 4 and 6 take a number
abbrev pub map_call_of_one : ℕ → ℤ → MapCall
map_call_of_one f z = cond (nat_eq f 0) (Contains z) (cond (nat_eq f 1) (Get z) (cond (nat_eq f 4) (Remove z) (cond (nat_eq f 6) (Key z) Unknown)))

-- what a method asks for; the method 2 takes two numbers
abbrev pub map_call : ℕ → List Value → MapCall
map_call f [] = bare_map_call f
map_call f (Int z ∷ []) = map_call_of_one f z
map_call f (Int k ∷ Int z ∷ []) = cond (nat_eq f 2) (Set k z) Unknown
map_call f vs = Unknown

-- a key that has a number needs no room; a new one a map of fewer pairs than the bound
abbrev pub HasRoom : ℕ → Pairs → ℤ → Type 0
HasRoom bound es k = (has_key k es ≡ true) ⊎ (length es < bound)

-- the key has that number from now on; or there is no memory for a new key
abbrev pub Sets : ℕ → Pairs → ℤ → ℤ → Answer → Pairs → Type 0
Sets bound es k z a ns = ((a ≡ Void) × HasRoom bound es k × (ns ≡ put int_cmp k z es)) ⊎ ((a ≡ Memory) × (has_key k es ≡ false) × (ns ≡ es))

-- a call of a map: its pairs before, what is asked for, the answer, its pairs after
abbrev pub MapDoes : ℕ → Pairs → MapCall → Answer → Pairs → Type 0
MapDoes bound es (Contains k) a ns = (a ≡ Gave (Truth (has_key k es))) × (ns ≡ es)
MapDoes bound es (Get k) a ns = (a ≡ told_of (find int_cmp k es)) × (ns ≡ es)
MapDoes bound es (Set k z) a ns = Sets bound es k z a ns
MapDoes bound es Length a ns = (a ≡ Gave (Int (pos (length es)))) × (ns ≡ es)
MapDoes bound es (Remove k) a ns = (a ≡ Gave (Truth (has_key k es))) × (ns ≡ without_key k es)
MapDoes bound es Clear a ns = (a ≡ Void) × (ns ≡ [])
MapDoes bound es (Key i) a ns = (a ≡ told (option_map (λ e. e.0) (pair_at es i))) × (ns ≡ es)
MapDoes bound es Unknown a ns = (a ≡ Fault 1) × (ns ≡ es)

-- a call of the map of the key k
abbrev pub CallMoves : ℕ → Table Pairs → ℕ → MapCall → HostReply → Table Pairs → Type 0
CallMoves bound x k m r y =
    (es : Pairs) × (ns : Pairs) × (a : Answer) × (map.get x.values k ≡ Some es) × MapDoes bound es m a ns × (r ≡ Asking a) × (y ≡ with_value x k ns)

-- how the maps move; the factory 0 makes an empty one, there are no properties, and a key that ends takes its map along
abbrev pub MapMoves : ℕ → Moves Pairs
MapMoves bound x (make f args) r y = MakesValue x (cond (is_bare_making f args) (Some []) None) r y
MapMoves bound x (call f None args) r y = IsUnknown x r y
MapMoves bound x (call f (Some k) args) r y = CallMoves bound x k (map_call f args) r y
MapMoves bound x (read f o) r y = IsUnknown x r y
MapMoves bound x (write f o v) r y = IsUnknown x r y
MapMoves bound x (end k) r y = (r ≡ Asking Void) × (y ≡ without x k)

-- how the core moves of a driver that keeps maps
abbrev pub MapFits : Fits
MapFits = BoundedFits (λ bound. CoreFits map_code (MapMoves bound))
