-- What scripts build to, by what is refused of them.
use Rattle.std.proofs.Common.{◌≡◌, refl, sym, ap, subst, ◌∙◌, List, [], ◌∷◌}
use Rattle.std.specs.Prelude.{Ok, Err}
use Rattle.ang_kinds.specs.declared.error.Denial.{Denial}
use Rattle.ang_kinds.specs.declared.error.Error.{Error}
use Rattle.ang_kinds.specs.declared.error.Unbuilt.{Unbuilt}
use Rattle.ang_kinds.specs.declared.error.Unbuilt.TheVariants as unbuilt
use Rattle.ang_view.specs.Registration.{RegistrationList}
use Rattle.ang_types.specs.declared.asks.Refused.{Refused}
use Rattle.ang_typed.specs.View.{view_typed}
use Rattle.ang_names_known.specs.declared.names.Names.{Names}
use Rattle.ang_names_known.specs.Items.{list_or}
use Rattle.ang_names_listed.specs.Sources.{Source}
use Rattle.ang_names_listed.specs.Declarations.{declarations_of}
use Rattle.ang_names.specs.Phases.{IsRefused, errors_in, refusals_of}
use Rattle.ang_names_classes.specs.Resolved.{names_of}
use Rattle.ang_check.specs.Bodies.{body_refusals, program_of}
use Rattle.ang_check.specs.Denials.{script_refusals}
use Rattle.ang_engine_build.specs.declared.program.NoProgram.{NoProgram}
use Rattle.ang_engine_build.specs.declared.program.NoProgram.TheVariants as no
use Rattle.ang_engine_build.specs.declared.program.Program.{Program}
use Rattle.ang_engine_build.specs.Answer.{IsBuilt, IsDenied}
use Rattle.ang_engine_build.specs.Build.{Resolved, Errors, Compiled, resolution_of, script_errors, unless_refused, build_of_scripts}

-- where errors are found, they are what is built
refused_so : (n : NoProgram) (why : Unbuilt) (rows : List Denial) (found : List Error) (r : Resolved) → IsRefused why found → IsDenied n why rows → IsBuilt (Err n) (unless_refused found r)
refused_so (no.Errors es ds) (unbuilt.Errors errors) rows [] r h d = absurd (h.1 refl)
refused_so (no.Errors es ds) (unbuilt.Errors errors) rows (e ∷ found) r h d = ap Errors (sym (d.0 ∙ h.0))
refused_so (no.Errors es ds) unbuilt.Memory rows found r h d = absurd d
refused_so no.Memory why rows found r h d = tt

first_refused : (first later : List Refused) (why : Unbuilt) → IsRefused why (errors_in first) → IsRefused why (errors_in (list_or first later))
first_refused [] later (unbuilt.Errors es) h = absurd (h.1 refl)
first_refused [] later unbuilt.Memory h = tt
first_refused (x ∷ xs) later why h = h

module _ (V : RegistrationList) (ss : List Source) where
  -- a declaration is refused
  pub declarations_refused : (n : NoProgram) (why : Unbuilt) (rows : List Denial) → IsRefused why (errors_in (refusals_of V ss)) → IsDenied n why rows
      → IsBuilt (Err n) (build_of_scripts V ss)
  unfolding script_refusals
  declarations_refused n why rows h d =
      refused_so n why rows (script_errors V ss) (resolution_of V ss) (first_refused (refusals_of V ss) (body_refusals V (names_of V (declarations_of ss)) ss) why h) d

  module _ (names : Names) (declared : refusals_of V ss ≡ []) (own : names ≡ names_of V (declarations_of ss)) where
    refused_behind : script_refusals V ss ≡ body_refusals V names ss
    unfolding script_refusals
    refused_behind =
        ap (λ first. list_or first (body_refusals V (names_of V (declarations_of ss)) ss)) declared ∙ ap (λ (n : Names). body_refusals V n ss) (sym own)

    -- a body or an initializer is
    pub bodies_refused : (n : NoProgram) (why : Unbuilt) (rows : List Denial) → IsRefused why (errors_in (body_refusals V names ss)) → IsDenied n why rows
        → IsBuilt (Err n) (build_of_scripts V ss)
    bodies_refused n why rows h d =
        refused_so n why rows (script_errors V ss) (resolution_of V ss) (subst (λ (rs : List Refused). IsRefused why (errors_in rs)) (sym refused_behind) h) d

    -- nothing is
    pub none_refused : (p : Program) → p.names ≡ names → body_refusals V names ss ≡ [] → view_typed p.tree ≡ program_of V names ss → IsBuilt (Ok p) (build_of_scripts V ss)
    none_refused p same accepted typed =
        ap (λ (rs : List Refused). unless_refused (errors_in rs) (resolution_of V ss)) (refused_behind ∙ accepted)
        ∙ ap (λ (n : Names). Compiled (record { names = n; tree = program_of V n ss })) (sym own)
        ∙ ap (λ q. Compiled (record { names = names; tree = q })) (sym typed)
        ∙ ap (λ (n : Names). Compiled (record { names = n; tree = view_typed p.tree })) (sym same)
