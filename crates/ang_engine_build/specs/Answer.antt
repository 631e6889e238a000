-- What the builder answers.
use Rattle.std.specs.Prelude.{◌≡◌, List, [], ◌∷◌, Option, Result, Ok, Err}
use Rattle.ang_kinds.specs.declared.error.Denial.{Denial}
use Rattle.ang_kinds.specs.declared.error.Unbuilt.{Unbuilt}
use Rattle.ang_kinds.specs.declared.error.Unbuilt.TheVariants as unbuilt
use Rattle.ang_view.specs.Registration.{RegistrationList}
use Rattle.ang_names_known.specs.declared.names.Names.{Names}
use Rattle.ang_names_listed.specs.Sources.{Source}
use Rattle.ang_check.specs.Denials.{AreErrors}
use Rattle.ang_engine_build.specs.declared.program.NoProgram.{NoProgram}
use Rattle.ang_engine_build.specs.declared.program.NoProgram.TheVariants as no
use Rattle.ang_engine_build.specs.declared.program.Program.{Program}
use Rattle.ang_engine_build.specs.declared.stop.SourceError.{SourceError}
use Rattle.ang_engine_build.specs.declared.stop.SourceError.TheVariants as stop
use Rattle.ang_engine_build.specs.Build.{Built, Errors, Compiled, resolved_of}

-- the program or the errors, unless memory was refused
abbrev pub IsBuilt : Result Program NoProgram → Built → Type 0
IsBuilt (Ok p) built = built ≡ Compiled (resolved_of p)
IsBuilt (Err (no.Errors es ds)) built = built ≡ Errors es
IsBuilt (Err no.Memory) built = Unit {0}

-- where there are errors, these are the denials
abbrev pub HasDenials : {A : Type 0} → Result A NoProgram → List Denial → Type 0
HasDenials (Ok a) denials = Unit {0}
HasDenials (Err (no.Errors es ds)) denials = ds ≡ denials
HasDenials (Err no.Memory) denials = Unit {0}

-- the one error, without denials, unless memory was refused
abbrev pub IsOneError : NoProgram → SourceError → Type 0
IsOneError (no.Errors es ds) (stop.Fault e) = (es ≡ e ∷ []) × (ds ≡ [])
IsOneError (no.Errors es ds) stop.Memory = ⊥
IsOneError no.Memory u = Unit {0}

-- where scripts are refused for errors, these are theirs over a view, for which `declare` gave these names
abbrev pub HasErrorsOf : RegistrationList → List Source → Option Names → Unbuilt → Type 0
HasErrorsOf V ss names (unbuilt.Errors es) = AreErrors V ss names es
HasErrorsOf V ss names unbuilt.Memory = Unit {0}

-- the same errors and these denials, unless memory was refused
abbrev pub IsDenied : NoProgram → Unbuilt → List Denial → Type 0
IsDenied (no.Errors es ds) (unbuilt.Errors errors) denials = (es ≡ errors) × (ds ≡ denials)
IsDenied (no.Errors es ds) unbuilt.Memory denials = ⊥
IsDenied no.Memory why denials = Unit {0}
