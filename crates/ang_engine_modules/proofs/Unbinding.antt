-- An import that is unbound.
use Rattle.std.proofs.Common.{◌≡◌, ◌<◌, refl, ap, sym, ◌∙◌, ℕ, zero, suc, Bool, true, false, not, is_some, List, [], ◌∷◌, length, Option, Some, None, arith}
use Rattle.std.specs.Prelude.{IsSome, option_map, slice_get, slice_index_or, slice_set}
use Rattle.ang_names_known.specs.declared.names.ScriptFunction.{ScriptFunction}
use Rattle.ang_meaning.specs.World.{Input, World as RunWorld}
use Rattle.ang_engine_modules.specs.declared.modules.LoadedModule.{LoadedModule}
use Rattle.ang_engine_modules.specs.Loaded.{loaded_at, with_link as link_loaded, linked_in}
use Rattle.ang_engine_modules.specs.declared.module.Module.{Module}
use Rattle.ang_engine_modules.specs.declared.reply.Outcome.TheVariants.{Done}
use Rattle.ang_engine_modules.specs.declared.reply.Refusal.TheVariants.{NotBuilt, NoImport}
use Rattle.ang_engine_modules.specs.World.{Program, ModuleState, World, module_named, module_in, module_at}
use Rattle.ang_engine_modules.specs.States.{program_in, place_of, places_of}
use Rattle.ang_engine_modules.specs.Commands.{on_module, answered, refused, with_link, unbind_import, unbind_program, unbind}
use Rattle.ang_engine_modules.proofs.Finding.{on_module-found, with_places, here, stood}
use Rattle.ang_engine_modules.proofs.Worlds.{places_built}

-- ---- what a look-up answers, through a function

pub none_there : {A B : Type 0} (f : A → B) (o : Option A) (q : Option B) (b : Bool) → is_some o ≡ not b → b ≡ true → option_map f o ≡ q → q ≡ None
none_there f None q b some test found = sym found
none_there f (Some a) q true some test found = absurd (cc)
none_there f (Some a) q false some test found = absurd (cc)

pub one_there : {A B : Type 0} (f : A → B) (o : Option A) (q : Option B) (b : Bool) → is_some o ≡ not b → b ≡ false → option_map f o ≡ q → (y : B) × (q ≡ Some y)
one_there f None q true some test found = absurd (cc)
one_there f None q false some test found = absurd (cc)
one_there f (Some a) q b some test found = (f a, sym found)

-- what is built there is there
pub built_within : {A : Type 0} (xs : List (Option A)) (i : ℕ) (x : A) → slice_index_or xs i None ≡ Some x → i < length xs
built_within [] i x at = absurd (cc)
built_within (y ∷ xs) zero x at = omega arith
built_within (y ∷ xs) (suc i) x at = let lt = built_within xs i x at in omega (arith, lt)

-- ---- a module's program

not_built : (d : Option Module) → (module_in (place_of d None)).program ≡ None
not_built None = refl
not_built (Some m) = refl

built : (d : Option Module) (l : LoadedModule) → IsSome d → (module_in (place_of d (Some l))).program ≡ Some (program_in l)
built None l there = absurd (cc)
built (Some m) l there = refl

relinked : (d : Option Module) (l : LoadedModule) (index : ℕ) → IsSome d → Some (record (module_in (place_of d (Some l))) { program = Some (with_link index None (program_in l)) }) ≡ place_of d (Some (link_loaded index None l))
relinked None l index there = absurd (cc)
relinked (Some m) l index there = refl

-- ---- the command

module _ (ms : List (Option Module)) (ls : List (Option LoadedModule)) (order : List ℕ) (r : RunWorld) (name : List ℕ) (i index : ℕ) (found : Some i ≡ module_named name (here ms ls order r)) (rest : List Input) where
  abbrev w : World
  w = here ms ls order r

  abbrev d : Option Module
  d = slice_index_or ms i None

  abbrev own : ModuleState
  own = module_at w i

  own_is : (l : Option LoadedModule) → loaded_at ls i ≡ l → own ≡ module_in (place_of d l)
  own_is l at = stood ms ls order r i d refl ∙ ap (λ k. module_in (place_of d k)) at

  by_program : (p : Option Program) → own.program ≡ p → on_module (module_named name w) w rest (unbind index w) ≡ unbind_program p index w i own rest
  by_program p is = on_module-found name w i rest (unbind index w) found ∙ ap (λ q. unbind_program q index w i own rest) is

  pub unbuilt_refused : loaded_at ls i ≡ None → on_module (module_named name w) w rest (unbind index w) ≡ refused NotBuilt w rest
  unbuilt_refused none = by_program None (ap (λ (s : ModuleState). s.program) (own_is None none) ∙ not_built d)

  module _ (l : LoadedModule) (at : loaded_at ls i ≡ Some l) (there : IsSome d) where
    by_import : (o : Option ScriptFunction) → slice_get l.names.imports index ≡ o → on_module (module_named name w) w rest (unbind index w) ≡ unbind_import o w i own (program_in l) index rest
    by_import o is =
        by_program (Some (program_in l)) (ap (λ (s : ModuleState). s.program) (own_is (Some l) at) ∙ built d l there)
        ∙ ap (λ q. unbind_import q w i own (program_in l) index rest) is

    pub no_import_refused : slice_get l.names.imports index ≡ None → on_module (module_named name w) w rest (unbind index w) ≡ refused NoImport w rest
    no_import_refused none = by_import None none

    linked_places : slice_set (places_of ms ls) i (Some (record own { program = Some (with_link index None (program_in l)) })) ≡ places_of ms (linked_in i index None ls)
    linked_places =
        ap (λ (s : ModuleState). slice_set (places_of ms ls) i (Some (record s { program = Some (with_link index None (program_in l)) }))) (own_is (Some l) at)
        ∙ ap (slice_set (places_of ms ls) i) (relinked d l index there)
        ∙ ap (λ k. slice_set (places_of ms ls) i (place_of d (option_map (link_loaded index None) k))) (sym at)
        ∙ sym (places_built ms ls i (option_map (link_loaded index None) (loaded_at ls i)) (built_within ls i l at))

    pub unbound_done : (import : ScriptFunction) → slice_get l.names.imports index ≡ Some import → (ks : List (Option LoadedModule)) → ks ≡ linked_in i index None ls
        → on_module (module_named name w) w rest (unbind index w) ≡ answered (Done None) (with_places ms ls order r (places_of ms ks)) rest
    unbound_done import is ks new =
        by_import (Some import) is
        ∙ ap (λ ps. answered (Done None) (with_places ms ls order r ps) rest) linked_places
        ∙ ap (λ k. answered (Done None) (with_places ms ls order r (places_of ms k)) rest) (sym new)
