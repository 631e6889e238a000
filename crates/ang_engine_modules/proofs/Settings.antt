-- The setting of a table is that of its modules.
use Rattle.std.proofs.Common.{◌≡◌, ℕ, zero, suc, List, [], ◌∷◌, refl, ap, ◌∙◌}
use Rattle.std.specs.Prelude.{option_map, slice_get, map as list_map}
use Rattle.std.specs.Option.{option_flatten}
use Rattle.ang_view.specs.Registration.{RegistrationList, entry_at}
use Rattle.ang_typed.specs.declared.program.Heading.{Heading}
use Rattle.ang_meaning.specs.declared.routine.Routine.{Routine}
use Rattle.ang_source.specs.Meaning.{passings_in, heading_among}
use Rattle.ang_source.specs.Hosts.{asked_as, use_in}
use Rattle.ang_vm_stack.specs.declared.table.Table.{Table}
use Rattle.ang_vm_stack.specs.Tables.{module_at as code_at, list_in, body_of, import_of, linked_of, entity_of, slot_of, setting_of}
use Rattle.ang_engine_modules.specs.Modules.{Module, module_at}
use Rattle.ang_engine_modules.specs.Trees.{headings_in}
use Rattle.ang_engine_modules.specs.Executed.{setting_for}
use Rattle.ang_engine_modules.specs.Loaded.{uses_of, codes_of, IsTableOf}
use Rattle.ang_engine_modules.proofs.ClassTables.{class_same, method_same}

-- a use of its number is that of the entry
use_at : (V : RegistrationList) (e : ℕ) → option_flatten (slice_get (uses_of V) e) ≡ asked_as (entry_at V e)
use_at [] e = refl
use_at (x ∷ xs) zero = refl
use_at (x ∷ xs) (suc e) = use_at xs e

item_map : {A B : Type 0} (f : A → B) (xs : List A) (i : ℕ) → option_map f (slice_get xs i) ≡ slice_get (list_map f xs) i
item_map f [] i = refl
item_map f (x ∷ xs) zero = refl
item_map f (x ∷ xs) (suc i) = item_map f xs i

heading_item : (hs : List Heading) (i : ℕ) → slice_get (headings_in hs) i ≡ heading_among hs i
heading_item [] i = refl
heading_item (h ∷ hs) zero = refl
heading_item (h ∷ hs) (suc i) = heading_item hs i

module _ (t : Table) (ms : List Module) (is : IsTableOf t ms) where
  imported_same : (m i : ℕ) → option_map (λ x. x.params.items) (import_of t m i) ≡ heading_among (module_at ms m).tree.imports i
  imported_same m i =
      item_map (λ x. x.params.items) (list_in (λ y. y.imports.items) (code_at t m)) i ∙ ap (λ l. slice_get l i) (is.each m).imports
      ∙ heading_item (module_at ms m).tree.imports i

  linked_same : (m i : ℕ) → linked_of t m i ≡ option_flatten (slice_get (module_at ms m).links i)
  linked_same m i = ap option_flatten (item_map (λ x. x.bound) (list_in (λ y. y.imports.items) (code_at t m)) i ∙ ap (λ l. slice_get l i) (is.each m).links)

  slot_same : (m s : ℕ) → slot_of t m s ≡ heading_among (module_at ms m).tree.methods s
  slot_same m s =
      item_map (λ y. y.items) (list_in (λ y. y.slots.items) (code_at t m)) s ∙ ap (λ l. slice_get l s) (is.each m).slots
      ∙ heading_item (module_at ms m).tree.methods s

  params_same : (g : Routine) → option_map (λ c. c.params.items) (body_of t g) ≡ slice_get (passings_in (module_at ms g.home).tree) g.number
  params_same g = item_map (λ c. c.params.items) (codes_of (code_at t g.home)) g.number ∙ ap (λ l. slice_get l g.number) (is.each g.home).passings

  pub host_same : (m e : ℕ) → entity_of t m e ≡ use_in (module_at ms m).view e
  host_same m e = ap (λ l. option_flatten (slice_get l e)) (is.each m).entities ∙ use_at (module_at ms m).view e

  pub setting_same : (nesting : ℕ) → setting_of t nesting ≡ setting_for ms nesting
  setting_same nesting = λ j. record {
    name = λ m. (is.each m).name j;
    host = λ m e. host_same m e j;
    imported = λ m i. imported_same m i j;
    linked = λ m i. linked_same m i j;
    class = λ m c. class_same m (module_at ms m).tree.classes (list_in (λ y. y.classes.items) (code_at t m)) (is.each m).classes c j;
    method = λ m c s. method_same m (module_at ms m).tree.classes (list_in (λ y. y.classes.items) (code_at t m)) (is.each m).classes c s j;
    slot = λ m s. slot_same m s j;
    params = λ g. params_same g j;
    nesting = nesting;
  }
