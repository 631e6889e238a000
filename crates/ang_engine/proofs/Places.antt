-- Places of modules, as runs know them.
use Rattle.std.proofs.Common.{◌≡◌, refl, ap, sym, ◌∙◌, ℕ, List, [], ◌∷◌, Option, Some, None}
use Rattle.std.specs.Prelude.{option_map}
use Rattle.std.specs.List.{AllZip}
use Rattle.ang_view.specs.Registration.{RegistrationList}
use Rattle.ang_typed.specs.View.{view_typed}
use Rattle.ang_engine_modules.specs.declared.modules.LoadedModule.{LoadedModule}
use Rattle.ang_engine_modules.specs.Loaded.{module_of, modules_of, without_links, unbound_in}
use Rattle.ang_engine_modules.specs.declared.module.Module.{Module}
use Rattle.ang_engine_modules.specs.World.{built_at, built_in}
use Rattle.ang_engine_modules.specs.States.{place_of, places_of}
use Rattle.ang_engine_modules.proofs.Worlds.{zip_changed, place_changed}
use Rattle.ang_engine.specs.Sound.{IsBuiltBy, IsSoundPlace}

one_built : (R : RegistrationList) (m : Option Module) (l : Option LoadedModule) → IsSoundPlace R m l → built_at (place_of m l) ≡ module_of l
one_built R None None h = refl
one_built R None (Some l) h = absurd h
one_built R (Some m) None h = refl
one_built R (Some m) (Some l) h = ap (λ n. record { name = n; view = l.view; tree = view_typed l.tree; links = l.links }) (sym h.name)

pub places_built : (R : RegistrationList) (ms : List (Option Module)) (ls : List (Option LoadedModule)) (order : List ℕ) → AllZip (IsSoundPlace R) ms ls
    → built_in (record { places = places_of ms ls; order = order }) ≡ modules_of ls
places_built R [] [] order h = refl
places_built R [] (l ∷ ls) order h = absurd h
places_built R (m ∷ ms) [] order h = absurd h
places_built R (m ∷ ms) (l ∷ ls) order h =
    ap (λ x. x ∷ built_in (record { places = places_of ms ls; order = order })) (one_built R m l h.0) ∙ ap (λ xs. module_of l ∷ xs) (places_built R ms ls order h.1)

-- imports that are unbound leave each module built as it was
pub zip_unbound : (R : RegistrationList) (i : ℕ) (ms : List (Option Module)) (ls : List (Option LoadedModule)) → AllZip (IsSoundPlace R) ms ls → AllZip (IsSoundPlace R) ms (unbound_in i ls)
zip_unbound R i ms ls h =
    zip_changed (IsSoundPlace R) (option_map (without_links i)) ms ls h
    (place_changed (IsBuiltBy R) (without_links i) (λ name mask l b. record { name = b.name; sight = b.sight; sections = b.sections; built = b.built; view = b.view; stands = b.stands }))
