-- Built modules as an engine keeps them for the machine: what they resolve to, and the table of
-- their code.
use Rattle.std.specs.Prelude.{◌≡◌, ◌<◌, ◌^◌, ℕ, List, length, slice_index_or, slice_set, Option, Some, None, option_map, map as list_map}
use Rattle.ang_view.specs.Registration.{RegistrationList}
use Rattle.ang_typed.specs.View.{view_typed}
use Rattle.ang_meaning.specs.declared.host.HostUse.{HostUse}
use Rattle.ang_meaning.specs.declared.routine.Routine.{Routine}
use Rattle.ang_code.specs.declared.instruction.RoutineCode.{RoutineCode}
use Rattle.ang_source.specs.Meaning.{passings_in, results_in}
use Rattle.ang_source.specs.Sound.{SoundProgram}
use Rattle.ang_source.specs.Hosts.{asked_as}
use Rattle.ang_gen.specs.Compiled.{IsCompiled}
use Rattle.ang_vm_stack.specs.declared.table.ClassCode.{ClassCode}
use Rattle.ang_vm_stack.specs.declared.table.ModuleCode.{ModuleCode}
use Rattle.ang_vm_stack.specs.declared.table.Table.{Table}
use Rattle.ang_vm_stack.specs.Tables.{module_at as code_at, list_in, method_in}
use Rattle.ang_engine_modules.specs.declared.modules.LoadedModule.{LoadedModule}
use Rattle.ang_engine_modules.specs.Modules.{Module, unbuilt, module_at, unbound_links, AreLinked}
use Rattle.ang_engine_modules.specs.Trees.{ScriptClass, headings_in, classes_in}

-- what stands in the place of a module
abbrev pub loaded_at : List (Option LoadedModule) → ℕ → Option LoadedModule
loaded_at xs m = slice_index_or xs m None

-- what runs know of a place that a built module has, or none
abbrev pub module_of : Option LoadedModule → Module
module_of None = unbuilt
module_of (Some x) =
    record { name = x.name; view = x.view; tree = view_typed x.tree; links = x.links }

abbrev pub modules_of : List (Option LoadedModule) → List Module
modules_of xs = list_map module_of xs

-- ---- imports that are bound and unbound

-- what a module is loaded with, where an import of it leads somewhere else
abbrev pub with_link : ℕ → Option Routine → LoadedModule → LoadedModule
with_link i link x = record x { links = slice_set x.links i link }

abbrev pub linked_in : ℕ → ℕ → Option Routine → List (Option LoadedModule) → List (Option LoadedModule)
linked_in m i link xs = slice_set xs m (option_map (with_link i link) (loaded_at xs m))

-- none of its imports leads to module m
abbrev pub without_links : ℕ → LoadedModule → LoadedModule
without_links m x = record x { links = unbound_links m x.links }

abbrev pub unbound_in : ℕ → List (Option LoadedModule) → List (Option LoadedModule)
unbound_in m xs = list_map (option_map (without_links m)) xs

-- ---- the table

-- each entry of a view as code asks it, by its number
abbrev pub uses_of : RegistrationList → List (Option HostUse)
uses_of V = list_map asked_as V

-- A class as the tree has it. So two lists of classes are the same where each class is, and where it
-- has the same method in each slot.
abbrev pub class_of : ClassCode → ScriptClass
class_of y = record { class = y.class; method = λ s. method_in y.methods s }

-- the code of a table's place
abbrev pub codes_of : Option ModuleCode → List RoutineCode
codes_of c = list_in (λ y. y.bodies.items) c

-- Code in the place m of a table is that of a module: its name, its view, what its tree declares,
-- and what its tree is compiled to; the tree is sound over the view.
pub record IsCodeOf (m : ℕ) (c : Option ModuleCode) (x : Module) : Type 0 where
  pub name : list_in (λ y. y.name.items) c ≡ x.name
  pub entities : list_in (λ y. y.entities.items) c ≡ uses_of x.view
  pub passings : list_map (λ b. b.params.items) (codes_of c) ≡ passings_in x.tree
  pub results : list_map (λ b. b.result) (codes_of c) ≡ results_in x.tree
  pub compiled : IsCompiled x.tree (codes_of c)
  pub imports :
      list_map (λ y. y.params.items) (list_in (λ y. y.imports.items) c) ≡ headings_in x.tree.imports
  pub links : list_map (λ y. y.bound) (list_in (λ y. y.imports.items) c) ≡ x.links
  pub classes : list_map class_of (list_in (λ y. y.classes.items) c) ≡ classes_in m x.tree
  pub slots : list_map (λ y. y.items) (list_in (λ y. y.slots.items) c) ≡ headings_in x.tree.methods
  pub sound : SoundProgram x.view x.tree

-- the table is that of these modules, by number, each of whose imports leads where it may
pub record IsTableOf (t : Table) (ms : List Module) : Type 0 where
  pub each : (m : ℕ) → IsCodeOf m (code_at t m) (module_at ms m)
  pub linked : AreLinked ms

-- the table has a place for each of these, which has its code
pub record IsLoaded (t : Table) (xs : List (Option LoadedModule)) : Type 0 where
  pub holds : IsTableOf t (modules_of xs)
  pub same : length t.modules.items ≡ length xs
