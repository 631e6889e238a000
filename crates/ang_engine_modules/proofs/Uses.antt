-- The entities of a view and the values of globals, one after the other.
use Rattle.std.proofs.Common.{◌≡◌, ◌≤◌, ℕ, zero, suc, List, [], ◌∷◌, take, length, refl, sym, ap, ◌∙◌, Option, Some}
use Rattle.std.specs.Prelude.{map as list_map}
use Rattle.std.proofs.lemmas.List.{take_all}
use Rattle.ang_view.specs.Registration.{RegistrationList}
use Rattle.ang_meaning.specs.declared.host.HostUse.{HostUse}
use Rattle.ang_types.specs.declared.arg_type.ArgType.{ArgType}
use Rattle.ang_typed.specs.declared.program.Global.{Global}
use Rattle.ang_typed.specs.View.{view_global}
use Rattle.ang_source.specs.Hosts.{asked_as}
use Rattle.ang_source.specs.Meaning.{default_in}
use Rattle.ang_engine_modules.specs.declared.modules.LoadedModule.{LoadedModule}
use Rattle.ang_engine_modules.specs.Modules.{module_at}
use Rattle.ang_engine_modules.specs.Executed.{first_globals}
use Rattle.ang_engine_modules.specs.Loaded.{loaded_at, module_of, modules_of, uses_of}

pub uses_all : (V : RegistrationList) (n : ℕ) (us : List (Option HostUse)) → length V ≤ n → us ≡ list_map asked_as (take n V) → us ≡ uses_of V
uses_all V n us end so = so ∙ ap (list_map asked_as) (take_all n V end)

-- the values with which globals of these types begin
defaults_same : (gs : List Global) → list_map default_in (list_map (λ g. g.ty) gs) ≡ list_map (λ g. default_in g.ty) (list_map view_global gs)
defaults_same [] = refl
defaults_same (g ∷ gs) = ap (λ vs. default_in g.ty ∷ vs) (defaults_same gs)

-- ---- what modules begin with

module_loaded : (xs : List (Option LoadedModule)) (m : ℕ) → module_at (modules_of xs) m ≡ module_of (loaded_at xs m)
module_loaded [] m = refl
module_loaded (x ∷ xs) zero = refl
module_loaded (x ∷ xs) (suc m) = module_loaded xs m

pub globals_begin : (xs : List (Option LoadedModule)) (m : ℕ) (x : LoadedModule) (tys : List ArgType) → tys ≡ list_map (λ g. g.ty) x.tree.globals
    → Some x ≡ loaded_at xs m → list_map default_in tys ≡ first_globals (module_at (modules_of xs) m).tree
globals_begin xs m x tys same there =
    ap (list_map default_in) same
    ∙ defaults_same x.tree.globals
    ∙ ap (λ o. first_globals (module_of o).tree) there
    ∙ ap (λ y. first_globals y.tree) (sym (module_loaded xs m))
