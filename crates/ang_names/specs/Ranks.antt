-- What stands above what, and what reaches what, among the classes and interfaces of a build by their numbers (docs/LANGUAGE.md, "Names
-- of a build"; the AngelScript manual, "Inheritance" and "Memory management").
use Rattle.std.specs.Prelude.{ℕ, Bool, List, Option, slice_get}
use Rattle.ang_view.specs.Registration.{RegistrationList}
use Rattle.ang_names_known.specs.declared.names.Family.{Family}
use Rattle.ang_names_listed.specs.Declarations.{Declaring, declarations_of, families_of}
use Rattle.ang_names_classes.specs.Hierarchy.{holds, is_cyclic, stands_above}
use Rattle.ang_names_classes.specs.Resolved.{names_of, space_of_declared}
use Rattle.ang_names_listed.specs.Sources.{Source}

-- the declarations of the classes and interfaces of these sections
abbrev pub family_declarations : List Source → List Declaring
family_declarations ss = families_of (declarations_of ss)

-- family c stands above itself
abbrev pub is_own_ancestor : List Source → ℕ → Bool
is_own_ancestor ss c = stands_above (family_declarations ss) c c

-- In a build over a view:
module _ (V : RegistrationList) (ss : List Source) where
  -- the class or interface of this number
  abbrev pub family_at : ℕ → Option Family
  family_at c = slice_get (names_of V (declarations_of ss)).families c

  -- a field of family c, own or inherited, can hold an object of family d
  abbrev pub can_hold : ℕ → ℕ → Bool
  can_hold c d = holds (space_of_declared V (declarations_of ss)) (family_declarations ss) c d

  -- objects of family c can lead to one of the same family through their fields
  abbrev pub reaches_itself : ℕ → Bool
  reaches_itself c = is_cyclic (space_of_declared V (declarations_of ss)) (family_declarations ss) c
