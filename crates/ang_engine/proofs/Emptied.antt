-- A module that is built anew, among the others.
use Rattle.std.proofs.Common.{◌≡◌, ap, sym, ◌∙◌, subst, ℕ, List, Option, Some, None, map}
use Rattle.std.specs.Prelude.{option_map, slice_index_or, slice_set}
use Rattle.std.specs.List.{AllZip}
use Rattle.ang_view.specs.Registration.{RegistrationList}
use Rattle.ang_engine_modules.specs.declared.modules.LoadedModule.{LoadedModule}
use Rattle.ang_engine_modules.specs.Loaded.{modules_of, without_links, unbound_in}
use Rattle.ang_engine_modules.specs.declared.module.Module.{Module}
use Rattle.ang_engine_modules.specs.World.{ModuleState, module_in, unbound_module, built_in}
use Rattle.ang_engine_modules.specs.States.{program_in, place_of, places_of}
use Rattle.ang_engine_modules.proofs.PlaceLists.{map_set, set_set}
use Rattle.ang_engine_modules.proofs.Worlds.{places_set, places_unbound, zip_length, zip_set}
use Rattle.ang_engine.specs.Sound.{IsSoundPlace}
use Rattle.ang_engine.specs.Step.{emptied, with_program}
use Rattle.ang_engine.proofs.Places.{places_built, zip_unbound}

-- Module `home` of these, whose place is n now: its code is gone, and no import leads to it.
module _ (R : RegistrationList) (ms : List (Option Module)) (ls : List (Option LoadedModule)) (home : ℕ) (n : Option Module) (order : List ℕ) (zip : AllZip (IsSoundPlace R) ms ls)
    (empty : (l : Option LoadedModule) → place_of n None ≡ Some (emptied (module_in (place_of (slice_index_or ms home None) l)))) (unbuilt : IsSoundPlace R n None) where
  -- the module as it was
  abbrev pub before : ModuleState
  before = module_in (place_of (slice_index_or ms home None) (slice_index_or ls home None))

  -- the places, where no import leads to it
  abbrev pub places_left : List (Option ModuleState)
  places_left = map (option_map (unbound_module home)) (places_of ms ls)

  -- what is built of the others
  abbrev pub code_left : List (Option LoadedModule)
  code_left = unbound_in home (slice_set ls home None)

  pub refused_zip : AllZip (IsSoundPlace R) (slice_set ms home n) code_left
  refused_zip = zip_unbound R home (slice_set ms home n) (slice_set ls home None) (zip_set (IsSoundPlace R) ms ls home n None zip unbuilt)

  -- it is left emptied
  pub refused_states : places_of (slice_set ms home n) code_left ≡ slice_set places_left home (Some (emptied before))
  refused_states =
      places_unbound home (slice_set ms home n) (slice_set ls home None)
      ∙ ap (map (option_map (unbound_module home))) (places_set ms ls home n None (zip_length (IsSoundPlace R) ms ls zip))
      ∙ map_set (option_map (unbound_module home)) (places_of ms ls) home (place_of n None)
      ∙ ap (λ p. slice_set places_left home (option_map (unbound_module home) p)) (empty (slice_index_or ls home None))

  -- or it is built
  module _ (l : LoadedModule) where
    place_with : (d : Option Module) (s : ModuleState) → place_of d None ≡ Some (emptied s) → place_of d (Some l) ≡ Some (with_program (program_in l) s)
    place_with None s e = absurd (cc)
    place_with (Some d) s e = ap (λ p. Some (record (module_in p) { program = Some (program_in l) })) e

    code_with : slice_set code_left home (Some l) ≡ slice_set (unbound_in home ls) home (Some l)
    code_with = ap (λ q. slice_set q home (Some l)) (map_set (option_map (without_links home)) ls home None) ∙ set_set (unbound_in home ls) home None (Some l)

    zip_left : AllZip (IsSoundPlace R) ms (unbound_in home ls)
    zip_left = zip_unbound R home ms ls zip

    pub begun_states : places_of (slice_set ms home n) (slice_set code_left home (Some l)) ≡ slice_set places_left home (Some (with_program (program_in l) before))
    begun_states =
        ap (λ q. places_of (slice_set ms home n) q) code_with
        ∙ places_set ms (unbound_in home ls) home n (Some l) (zip_length (IsSoundPlace R) ms (unbound_in home ls) zip_left)
        ∙ ap (λ ps. slice_set ps home (place_of n (Some l))) (places_unbound home ms ls)
        ∙ ap (λ p. slice_set places_left home p) (place_with n before (empty (slice_index_or ls home None)))

    pub begun_zip : IsSoundPlace R n (Some l) → AllZip (IsSoundPlace R) (slice_set ms home n) (slice_set code_left home (Some l))
    begun_zip built =
        subst (λ q. AllZip (IsSoundPlace R) (slice_set ms home n) q) (sym code_with) (zip_set (IsSoundPlace R) ms (unbound_in home ls) home n (Some l) zip_left built)

    pub begun_built : IsSoundPlace R n (Some l)
        → built_in (record { places = slice_set places_left home (Some (with_program (program_in l) before)); order = order }) ≡ modules_of (slice_set code_left home (Some l))
    begun_built built =
        ap (λ ps. built_in (record { places = ps; order = order })) (sym begun_states)
        ∙ places_built R (slice_set ms home n) (slice_set code_left home (Some l)) order (begun_zip built)
