-- What the runs of built modules mean: a call from outside, and a module's initializers in turn
-- (docs/CLAIMS.md, "A run of a built module").
use Rattle.std.specs.Prelude.{ℕ, suc, List, [], ◌∷◌, length, reverse, map, slice_get}
use Rattle.std.specs.Option.{option_flatten}
use Rattle.ang_typed.specs.Typed as t
use Rattle.ang_meaning.specs.declared.slot.Slot.{Slot}
use Rattle.ang_meaning.specs.declared.routine.Routine.{Routine}
use Rattle.ang_meaning.specs.World.{World}
use Rattle.ang_meaning.specs.Environment.{Environment}
use Rattle.ang_meaning.specs.Results.{Reply}
use Rattle.ang_source.specs.Meaning.{Code, default_in, codes_in, called_with, initialized_all, initializers_from, passings_in, routine, heading_among, class_among, method_among}
use Rattle.ang_source.specs.Hosts.{use_in}
use Rattle.ang_engine_modules.specs.Modules.{Module, module_at, trees_of}

-- ---- what stays the same while they run

-- Modules run in a setting of their own: each has its name, may ask what its view has, and has its
-- functions, its classes and its imports, each of which leads where it is bound. At most `nesting`
-- functions may stand one inside the other.
abbrev pub setting_for : List Module → ℕ → Environment
setting_for ms nesting =
    record {
      name = λ m. (module_at ms m).name;
      host = λ m e. use_in (module_at ms m).view e;
      imported = λ m i. heading_among (module_at ms m).tree.imports i;
      linked = λ m i. option_flatten (slice_get (module_at ms m).links i);
      class = λ m c. class_among (module_at ms m).tree.classes c;
      method = λ m c s. method_among m (module_at ms m).tree.classes c s;
      slot = λ m s. heading_among (module_at ms m).tree.methods s;
      params = λ g. slice_get (passings_in (module_at ms g.home).tree) g.number;
      nesting = nesting;
    }

-- ---- what they do

-- A call of function n of module m, with a budget and arguments in their order.
abbrev pub call_of : List Module → ℕ → ℕ → ℕ → List Slot → World → Reply
call_of ms budget m n args w =
    called_with (setting_for ms 200) (codes_in (trees_of ms)) budget (routine m n) (reverse args) w

-- the routines of module m that begin with this number, one for each initializer
abbrev pub routines_from : ℕ → ℕ → List Code → List Routine
routines_from m n [] = []
routines_from m n (c ∷ cs) = routine m n ∷ routines_from m (suc n) cs

-- a module's initializers, whose numbers come after those of its functions
abbrev pub initializers_of : ℕ → t.Program → List Routine
initializers_of m p = routines_from m (length p.functions) (initializers_from 0 p.globals)

-- Initializers of modules in turn, with t ticks left. An initializer is no function, so with
-- it 201 may stand one inside the other.
abbrev pub initialized_in : List Module → List Routine → ℕ → World → Reply
initialized_in ms gs ticks w =
    initialized_all (setting_for ms 201) (codes_in (trees_of ms)) gs ticks w

-- the initializers of module m in the order of declaration, on one budget
abbrev pub initialization_of : List Module → ℕ → ℕ → World → Reply
initialization_of ms budget m w =
    initialized_in ms (initializers_of m (module_at ms m).tree) budget w

-- ---- globals before their initializers

-- a global is 0, false or null at first (the AngelScript manual, "Global variables")
abbrev pub first_globals : t.Program → List Slot
first_globals p = map (λ g. default_in g.ty) p.globals
