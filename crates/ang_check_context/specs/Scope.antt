-- What expressions stand in: a body's class, and the parameters and locals that are alive (docs/LANGUAGE.md, "Expressions": names; the
-- AngelScript manual, "Variables" and "Script classes").
use Rattle.std.specs.Prelude.{ℕ, ◌+◌, ◌≤◌, ◌<◌, Bool, false, ◌||◌, bytes_eq, if◌then◌else◌, List, [], ◌∷◌, length, Option, Some, None, IfSome}
use Rattle.std.specs.List.{list_any}
use Rattle.std.specs.Option.{option_or}
use Rattle.ang_view.specs.Registration.{RegistrationList}
use Rattle.ang_types.specs.Ranks.{Ancestors}
use Rattle.ang_names_known.specs.declared.names.Names.{Names}
use Rattle.ang_check_context.specs.declared.scope.LocalVariable.{LocalVariable}
use Rattle.ang_check_context.specs.declared.scope.Within.{Within}
use Rattle.ang_names_known.specs.Lookup.{has_member}
use Rattle.ang_names_known.specs.Spaces.{Space, space_of_names}
use Rattle.ang_check_contest.specs.Scopes.{Scope}

-- What is the same for all of a body: what its module sees of the host, what the scripts declare, what stands above each object type, the
-- bytes of the section, and the class whose method or constructor it is.
pub record BodyContext : Type 0 where
  pub view : RegistrationList
  pub names : Names
  pub ancestors : Ancestors
  pub text : List ℕ
  pub within : Option Within

abbrev pub scope_of : BodyContext → Scope
scope_of s = record { view = s.view; names = s.names; ancestors = s.ancestors }

abbrev pub space_of : BodyContext → Space
space_of s = space_of_names s.view s.names

-- The number of the last local of the name, where the first has the number n. Locals stand with the innermost last.
abbrev pub last_named : List ℕ → ℕ → List LocalVariable → Option ℕ
last_named name n [] = None
last_named name n (p ∷ ps) = option_or (last_named name (n + 1) ps) (if bytes_eq p.name name then Some n else None)

abbrev pub family_of : Option Within → Option ℕ
family_of None = None
family_of (Some w) = Some w.family

abbrev pub has_in : BodyContext → Option ℕ → List ℕ → Bool
has_in s None name = false
has_in s (Some c) name = has_member s.names.families c name

-- a local, a parameter, or a field or method of the class has the name
abbrev pub is_there : BodyContext → List LocalVariable → List ℕ → Bool
is_there s ps name = list_any (λ (p : LocalVariable). bytes_eq p.name name) ps || has_in s (family_of s.within) name

-- There are few enough families for each to have a number as a type, and the class is one of them.
pub record IsWithin (names : Names) (within : Option Within) : Type 0 where
  pub few : length names.families ≤ 256
  pub there : IfSome within (λ (w : Within). w.family < length names.families)
