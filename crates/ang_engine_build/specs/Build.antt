-- What a build gives (docs/CLAIMS.md, "A build"; the AngelScript manual, "Script modules"): the errors of the first phase
-- that refuses something, or the program.
use Rattle.std.specs.Prelude.{ℕ, List, [], ◌∷◌, Result, Ok, Err}
use Rattle.ang_kinds.specs.declared.error.Denial.{Denial}
use Rattle.ang_kinds.specs.declared.error.Error.{Error}
use Rattle.ang_view.specs.Registration.{RegistrationList}
use Rattle.ang_typed.specs.Typed as t
use Rattle.ang_typed.specs.View.{view_typed}
use Rattle.ang_names_listed.specs.Sources.{Source}
use Rattle.ang_names_known.specs.declared.names.Names.{Names}
use Rattle.ang_names_listed.specs.Declarations.{declarations_of}
use Rattle.ang_names.specs.Phases.{errors_in}
use Rattle.ang_names_classes.specs.Resolved.{names_of}
use Rattle.ang_check.specs.Bodies.{program_of}
use Rattle.ang_check.specs.Denials.{denials_of, script_refusals}
use Rattle.ang_engine_build.specs.declared.program.Program.{Program}
use Rattle.ang_engine_build.specs.Script.{sources_of}

-- ---- programs

-- the names that scripts declare, and their resolved tree
pub record Resolved : Type 0 where
  pub names : Names
  pub tree : t.Program

-- those of a program
abbrev pub resolved_of : Program → Resolved
resolved_of p = record { names = p.names; tree = view_typed p.tree }

-- what scripts without errors are resolved to, over what their module sees
abbrev pub resolution_of : RegistrationList → List Source → Resolved
resolution_of V ss = let names = names_of V (declarations_of ss) in record { names = names; tree = program_of V names ss }

-- ---- a build

pub data Built : Type 0 where
  Errors : List Error → Built
  Compiled : Resolved → Built

-- The errors of scripts: of the first phase over their declarations that refuses some; else of their bodies and initializers, judged
-- over the names that they declare.
abbrev pub script_errors : RegistrationList → List Source → List Error
script_errors V ss = errors_in (script_refusals V ss)

-- the program, where nothing is refused
abbrev pub unless_refused : List Error → Resolved → Built
unless_refused (e ∷ es) r = Errors (e ∷ es)
unless_refused [] r = Compiled r

abbrev pub build_of_scripts : RegistrationList → List Source → Built
build_of_scripts V ss = unless_refused (script_errors V ss) (resolution_of V ss)

-- the error of the first section that is not read, or what the scripts build to
abbrev pub after_reading : RegistrationList → Result (List Source) Error → Built
after_reading V (Err e) = Errors (e ∷ [])
after_reading V (Ok ss) = build_of_scripts V ss

-- what the sections build to, over what the module sees
abbrev pub build_of : RegistrationList → List (List ℕ) → Built
build_of V sections = after_reading V (sources_of 0 sections)

-- ---- its denials

-- For a module of mask m: those of the scripts; a section that is not read has none.
abbrev pub denials_after : RegistrationList → ℕ → Result (List Source) Error → List Denial
denials_after R m (Err e) = []
denials_after R m (Ok ss) = denials_of R m ss

-- the denials of sections: the hidden entries by which what is refused in them would have been resolved
abbrev pub denials_in : RegistrationList → ℕ → List (List ℕ) → List Denial
denials_in R m sections = denials_after R m (sources_of 0 sections)
