-- A command that binds an import.
use Rattle.std.proofs.Common.{◌≡◌, ◌≤◌, refl, ap, sym, ◌∙◌, inl, inr, ℕ, Bool, true, false, List, length, Option, Some, None, option_map}
use Rattle.std.specs.Prelude.{Result, Ok, Err, IfSome, IsNone, IsSome, if◌then◌else◌, slice_get, slice_index_or, slice_set}
use Rattle.std.specs.List.{AllZip}
use Rattle.ang_view.specs.Registration.{RegistrationList}
use Rattle.ang_names_known.specs.declared.names.ScriptFunction.{ScriptFunction}
use Rattle.ang_names_known.specs.Lookup.{same_call}
use Rattle.ang_meaning.specs.declared.routine.Routine.{Routine}
use Rattle.ang_meaning.specs.World.{Input, World as RunWorld}
use Rattle.ang_source.specs.Meaning.{routine}
use Rattle.ang_engine_call.specs.Named.{function_named_by}
use Rattle.ang_engine_modules.specs.declared.modules.LoadedModule.{LoadedModule}
use Rattle.ang_engine_modules.specs.Loaded.{loaded_at, linked_in, modules_of, with_link as with_link_to}
use Rattle.ang_engine_modules.specs.Modules.{LinkFits}
use Rattle.ang_engine_modules.specs.declared.module.Module.{Module}
use Rattle.ang_engine_modules.specs.declared.reply.Outcome.TheVariants.{Done}
use Rattle.ang_engine_modules.specs.declared.reply.Refusal.{Refusal}
use Rattle.ang_engine_modules.specs.declared.reply.Refusal.TheVariants.{NoModule, NotBuilt, NoFunction, SignatureDiffers}
use Rattle.ang_engine_modules.specs.World.{Program, ModuleState, World, module_named, module_in, module_at, left_to}
use Rattle.ang_engine_modules.specs.States.{program_in, place_of, places_of}
use Rattle.ang_engine_modules.specs.Commands.{Stepped, answered, refused, linked, on_both, with_link}
use Rattle.ang_engine_modules.specs.Outcomes.{IsDone}
use Rattle.ang_engine_modules.proofs.Worlds.{places_at, places_loaded}
use Rattle.ang_engine.specs.Outcomes.{IsLinked, IsRefusedBy, binding}
use Rattle.ang_engine.specs.Sound.{IsSoundPlace}
use Rattle.ang_engine.specs.Step.{link_to, link_to_number, link_of, bound, bind_programs, bind}
use Rattle.ang_engine.proofs.Linking.{bindable, link_fits}
use Rattle.ang_engine.proofs.Named.{built_there, few_families, program_there}

-- ---- the function that a declaration names

module _ (import : ScriptFunction) (j : ℕ) (q : Program) (decl : List ℕ) where
  -- there is none
  pub linked-none : None ≡ function_named_by q.view q.names decl → IsLinked (Err NoFunction) j (link_of (Some import) j q decl)
  linked-none none = inr (ap (λ o. link_to_number import j o q.names.functions) (sym none))

  linked-number : (n : ℕ) (f : ScriptFunction) (b : Bool) → Some n ≡ function_named_by q.view q.names decl → slice_get q.names.functions n ≡ Some f → same_call import f ≡ b
      → link_of (Some import) j q decl ≡ (if b then (Ok (routine j n)) else (Err SignatureDiffers))
  linked-number n f b named at same =
      ap (λ o. link_to_number import j o q.names.functions) (sym named)
      ∙ ap (link_to import j n) at
      ∙ ap (λ x. if x then (Ok (routine j n)) else (Err SignatureDiffers)) same

  pub linked-differs : (n : ℕ) (f : ScriptFunction) → Some n ≡ function_named_by q.view q.names decl → slice_get q.names.functions n ≡ Some f → same_call import f ≡ false
      → IsLinked (Err SignatureDiffers) j (link_of (Some import) j q decl)
  linked-differs n f named at same = inr (linked-number n f false named at same)

  pub linked-found : (n : ℕ) (f : ScriptFunction) → Some n ≡ function_named_by q.view q.names decl → slice_get q.names.functions n ≡ Some f → same_call import f ≡ true
      → IsLinked (Ok n) j (link_of (Some import) j q decl)
  linked-found n f named at same = linked-number n f true named at same

-- ---- of two modules

-- what is said of a link that was chosen, where these stand in the two places
pub record IsLinkBetween (result : Result ℕ Refusal) (index j : ℕ) (decl : List ℕ) (a b : Option LoadedModule) : Type 0 where
  pub importer : IsNone a → IsRefusedBy result NotBuilt
  pub exporter : IsSome a → IsNone b → IsRefusedBy result NotBuilt
  pub chosen : (p q : LoadedModule) → a ≡ Some p → b ≡ Some q → IsLinked result j (link_of (slice_get p.names.imports index) j (program_in q) decl)

-- both are built, the import is there, and a function was found
record IsChosenLink (n index j : ℕ) (decl : List ℕ) (a b : Option LoadedModule) : Type 0 where
  importer : LoadedModule
  here : a ≡ Some importer
  exporter : LoadedModule
  there : b ≡ Some exporter
  import : ScriptFunction
  declared : slice_get importer.names.imports index ≡ Some import
  link : link_of (Some import) j (program_in exporter) decl ≡ Ok (routine j n)

chosen_by : (n index j : ℕ) (decl : List ℕ) (p q : LoadedModule) (o : Option ScriptFunction) → slice_get p.names.imports index ≡ o → link_of o j (program_in q) decl ≡ Ok (routine j n)
    → IsChosenLink n index j decl (Some p) (Some q)
chosen_by n index j decl p q None declared link = absurd (cc)
chosen_by n index j decl p q (Some import) declared link = record { importer = p; here = refl; exporter = q; there = refl; import = import; declared = declared; link = link }

chosen_link : (n index j : ℕ) (decl : List ℕ) (a b : Option LoadedModule) → IsLinkBetween (Ok n) index j decl a b → IsChosenLink n index j decl a b
chosen_link n index j decl None b h = absurd (h.importer refl)
chosen_link n index j decl (Some p) None h = absurd (h.exporter refl refl)
chosen_link n index j decl (Some p) (Some q) h = chosen_by n index j decl p q (slice_get p.names.imports index) refl (h.chosen p q refl refl)

-- ---- in the world

linked_place : (d : Option Module) (index : ℕ) (g : Option Routine) (p : LoadedModule) → IsSome d
    → place_of d (Some (with_link_to index g p)) ≡ Some (record (module_in (place_of d (Some p))) { program = Some (with_link index g (program_in p)) })
linked_place None index g p there = absurd (cc)
linked_place (Some d) index g p there = refl

module _ (ms : List (Option Module)) (ls : List (Option LoadedModule)) (order : List ℕ) (r : RunWorld) where
  abbrev pub world_by : List (Option LoadedModule) → World
  world_by ks = left_to (record { places = places_of ms ks; order = order }) r

  abbrev w : World
  w = world_by ls

  -- an import of a module that is built leads elsewhere
  pub linked-world : (i index : ℕ) (g : Option Routine) (p : LoadedModule) → length ls ≡ length ms → IsSome (slice_index_or ms i None) → loaded_at ls i ≡ Some p
      → linked g w i (module_at w i) (program_in p) index ≡ world_by (linked_in i index g ls)
  linked-world i index g p zipped there here =
      let d = slice_index_or ms i None in
      sym (ap (λ o. world_by (slice_set ls i (option_map (with_link_to index g) o))) here
      ∙ ap (λ ps. left_to (record { places = ps; order = order }) r)
      (places_loaded ms ls i (Some (with_link_to index g p)) zipped
      ∙ ap (slice_set (places_of ms ls) i)
      (linked_place d index g p there
      ∙ ap (λ (o : Option LoadedModule). Some (record (module_in (place_of d o)) { program = Some (with_link index g (program_in p)) })) (sym here)
      ∙ ap (λ (m : Option ModuleState). Some (record (module_in m) { program = Some (with_link index g (program_in p)) })) (sym (places_at ms ls i)))))

  module _ (name exporter decl : List ℕ) (index : ℕ) where
    abbrev go : List Input → Option Stepped
    go = binding name index exporter decl w

    pub binding-none : (rest : List Input) → None ≡ module_named name w → go rest ≡ refused NoModule w rest
    binding-none rest none = ap (λ o. on_both o (module_named exporter w) w rest (bind index decl w)) (sym none)

    module _ (i : ℕ) (found : Some i ≡ module_named name w) where
      pub binding-other : (rest : List Input) → None ≡ module_named exporter w → go rest ≡ refused NoModule w rest
      binding-other rest none =
          ap (λ o. on_both o (module_named exporter w) w rest (bind index decl w)) (sym found) ∙ ap (λ o. on_both (Some i) o w rest (bind index decl w)) (sym none)

      module _ (j : ℕ) (other : Some j ≡ module_named exporter w) (here : IsSome (slice_index_or ms i None)) (there : IsSome (slice_index_or ms j None)) where
        binding-both : (rest : List Input) (a b : Option LoadedModule) → a ≡ loaded_at ls i → b ≡ loaded_at ls j
            → go rest ≡ bind_programs (option_map program_in a) (option_map program_in b) index decl w i (module_at w i) j rest
        binding-both rest a b ea eb =
            ap (λ o. on_both o (module_named exporter w) w rest (bind index decl w)) (sym found)
            ∙ ap (λ o. on_both (Some i) o w rest (bind index decl w)) (sym other)
            ∙ ap (λ o. bind_programs o (module_at w j).program index decl w i (module_at w i) j rest) (program_there ms ls i a here ea)
            ∙ ap (λ o. bind_programs (option_map program_in a) o index decl w i (module_at w i) j rest) (program_there ms ls j b there eb)

        refused-as : (U : Type 0) (why because : Refusal) → why ≡ because → ((rest : List Input) → go rest ≡ refused because w rest) → IsDone {U = U} (Err why) go w w
        refused-as U why because same so = (inr (λ rest. so rest ∙ ap (λ x. refused x w rest) (sym same)), refl)

        refused-by : (U : Type 0) (why : Refusal) (p q : LoadedModule) → Some p ≡ loaded_at ls i → Some q ≡ loaded_at ls j
            → IsLinked (Err why) j (link_of (slice_get p.names.imports index) j (program_in q) decl) → IsDone {U = U} (Err why) go w w
        refused-by U why p q ea eb (inl memory) = (inl memory, refl)
        refused-by U why p q ea eb (inr so) =
            (inr (λ rest. binding-both rest (Some p) (Some q) ea eb ∙ ap (λ o. bound o w i (module_at w i) (program_in p) index rest) so), refl)

        not-linked : (U : Type 0) (why : Refusal) (a b : Option LoadedModule) → a ≡ loaded_at ls i → b ≡ loaded_at ls j → IsLinkBetween (Err why) index j decl a b → IsDone {U = U} (Err why) go w w
        not-linked U why None b ea eb h = refused-as U why NotBuilt (h.importer refl) (λ rest. binding-both rest None b ea eb)
        not-linked U why (Some p) None ea eb h = refused-as U why NotBuilt (h.exporter refl refl) (λ rest. binding-both rest (Some p) None ea eb)
        not-linked U why (Some p) (Some q) ea eb h = refused-by U why p q ea eb (h.chosen p q refl refl)

        -- no link was chosen
        pub binding-refused : (U : Type 0) (why : Refusal) → IsLinkBetween (Err why) index j decl (loaded_at ls i) (loaded_at ls j) → IsDone {U = U} (Err why) go w w
        binding-refused U why h = not-linked U why (loaded_at ls i) (loaded_at ls j) refl refl h

        -- or one was
        module _ (n : ℕ) (h : IsLinkBetween (Ok n) index j decl (loaded_at ls i) (loaded_at ls j)) where
          abbrev it : IsChosenLink n index j decl (loaded_at ls i) (loaded_at ls j)
          it = chosen_link n index j decl (loaded_at ls i) (loaded_at ls j) h

          pub binding-done : (rest : List Input) → length ls ≡ length ms → go rest ≡ answered (Done None) (world_by (linked_in i index (Some (routine j n)) ls)) rest
          binding-done rest zipped =
              binding-both rest (Some it.importer) (Some it.exporter) (sym it.here) (sym it.there)
              ∙ ap (λ o. bound (link_of o j (program_in it.exporter) decl) w i (module_at w i) (program_in it.importer) index rest) it.declared
              ∙ ap (λ o. bound o w i (module_at w i) (program_in it.importer) index rest) it.link
              ∙ ap (λ v. answered (Done None) v rest) (linked-world i index (Some (routine j n)) it.importer zipped here it.here)

-- the function takes its arguments as the import is declared to
pub bound_fits : (R : RegistrationList) (ms : List (Option Module)) (ls : List (Option LoadedModule)) (i index j n : ℕ) (decl : List ℕ) → AllZip (IsSoundPlace R) ms ls
    → IsLinkBetween (Ok n) index j decl (loaded_at ls i) (loaded_at ls j) → LinkFits (modules_of ls) i index (routine j n)
bound_fits R ms ls i index j n decl zip h =
    let c = chosen_link n index j decl (loaded_at ls i) (loaded_at ls j) h in
    let p = built_there R ms ls i c.importer zip (sym c.here) in
    let q = built_there R ms ls j c.exporter zip (sym c.there) in
    link_fits ls i index j n c.importer c.exporter c.here c.there c.import c.declared (bindable c.import j n (program_in c.exporter) decl c.link) R p.own q.own p.mask q.mask p.built q.built

-- the exporter declares few classes and interfaces
pub few_exported : (R : RegistrationList) (ms : List (Option Module)) (ls : List (Option LoadedModule)) (j : ℕ) (o : Option LoadedModule) → AllZip (IsSoundPlace R) ms ls → loaded_at ls j ≡ o
    → IfSome o (λ l. length l.names.families ≤ 256)
few_exported R ms ls j None zip e = tt
few_exported R ms ls j (Some l) zip e = few_families R ms ls j l zip (sym e)
