-- What modules that are loaded say of themselves, from what holds of their table.
use Rattle.std.proofs.Common.{◌≡◌, ◌<◌, ◌^◌, ℕ, List, [], ◌∷◌, ◌++◌, length, reverse, sym, ap, subst, arith, Option, None, Some}
use Rattle.std.proofs.lemmas.List.{length-map}
use Rattle.std.proofs.lemmas.Option.{slice_get_within}
use Rattle.ang_meaning.specs.declared.routine.Routine.{Routine}
use Rattle.std.specs.Prelude.{Result, Ok, Err, OnOk, OnErr}
use Rattle.ang_kinds.specs.declared.fault.Fault.{Fault}
use Rattle.ang_host.specs.declared.event.Role.{Role}
use Rattle.ang_kinds.specs.declared.value.Value.{Value}
use Rattle.ang_meaning.specs.declared.slot.Slot.{Slot}
use Rattle.ang_meaning.specs.World.{World, with_inputs}
use Rattle.ang_meaning.specs.Counting.{IsCounted}
use Rattle.ang_code.specs.Machine.{call_begins}
use Rattle.ang_source.specs.Meaning.{routine, passings_in}
use Rattle.ang_vm_stack.specs.declared.table.ModuleCode.{ModuleCode}
use Rattle.ang_vm_stack.specs.declared.table.Table.{Table}
use Rattle.ang_vm_stack.specs.Tables.{module_at as code_at, setting_of, texts_of, result_of}
use Rattle.ang_vm_ask.specs.Entities.{DriversThere, HaveRoles}
use Rattle.ang_vm.specs.Machines.{HasRun}
use Rattle.ang_engine_modules.specs.declared.modules.LoadedModule.{LoadedModule}
use Rattle.ang_engine_modules.specs.Modules.{unbuilt, module_at, result_at, LinkFits, TakesSoMany, AreDriversThere, AgreesWith}
use Rattle.ang_engine_modules.specs.Executed.{call_of, initialization_of}
use Rattle.ang_engine_modules.specs.Loaded.{modules_of, codes_of, IsCodeOf, IsTableOf, IsLoaded}
use Rattle.ang_engine_modules.specs.Started.{HasEnded, HasAnswered, HasBegun}
use Rattle.ang_engine_modules.proofs.Askable.{drivers_there, roles_are}
use Rattle.ang_engine_modules.proofs.Loading.{numbered, loaded_same, loaded_pushed}
use Rattle.ang_engine_modules.proofs.Running.{has_called}

module _ (t : Table) (xs now : List (Option LoadedModule)) (is : IsLoaded t xs) (same : xs ≡ now) where
  table_is : IsTableOf t (modules_of now)
  table_is = subst (λ l. IsTableOf t (modules_of l)) same is.holds

  pub there : (count : ℕ) → AreDriversThere (modules_of now) count → DriversThere t count
  there count drivers = record { each = drivers_there t (modules_of now) table_is count drivers }

  pub have : (roles : List Role) → AgreesWith roles (modules_of now) → HaveRoles t roles
  have roles agrees = record { each = roles_are t (modules_of now) table_is roles agrees }

  pub call_ended : (budget m n : ℕ) (args : List Slot) (before after : World) (answer : Result (Option Value) Fault) → IsCounted (reverse args) before → TakesSoMany (modules_of now) m n (length args)
      → HasRun (setting_of t 200) (texts_of t) (result_of t (routine m n)) (λ is. call_begins (setting_of t 200) (texts_of t) budget (routine m n) (reverse args) (with_inputs is before)) answer after
      → HasAnswered (modules_of now) (result_at (modules_of now) m n) (call_of (modules_of now) budget m n args) before answer after
  call_ended budget m n args before after answer count takes run = has_called t budget m n args before after answer count run (modules_of now) table_is takes

  pub initializers_ended : (budget m first end : ℕ) (before after : World) (result : Result Slot Fault)
      → first ≡ length (module_at (modules_of now) m).tree.functions → end ≡ length (codes_of (code_at t m)) → HasBegun t budget m first end before result after
      → HasEnded (modules_of now) (initialization_of (modules_of now) budget m) before result after
  initializers_ended budget m first end before after result functions bodies begun =
      begun (modules_of now) table_is (numbered t (modules_of now) table_is m first end functions bodies)

pub fits_still : (xs now : List (Option LoadedModule)) → xs ≡ now → (m i : ℕ) (f : Routine) → LinkFits (modules_of now) m i f → (g : Routine) → Some f ≡ Some g → LinkFits (modules_of xs) m i g
fits_still xs now same m i f fits g e =
    let one : f ≡ g = cc in
    subst (λ l. LinkFits (modules_of l) m i g) (sym same) (subst (λ h. LinkFits (modules_of now) m i h) one fits)

pub within_still : (xs now : List (Option LoadedModule)) → xs ≡ now → (m : ℕ) → m < length now → m < length xs
within_still xs now same m lt = omega (arith, lt, ap length same)

pub none_some : (g : Routine) → None ≡ Some g → ⊥
none_some g e = let x : ⊥ = cc in x

-- a place more, or none where memory was refused
pub loaded_added : {U E : Type 0} (t t' : Table) (xs xs' : List (Option LoadedModule)) → IsLoaded t xs → (r : Result U E) (c : ModuleCode)
    → OnOk r (t'.modules.items ≡ t.modules.items ++ c ∷ []) → OnErr r (t'.modules.items ≡ t.modules.items)
    → OnOk r (xs' ≡ xs ++ None ∷ []) → OnErr r (xs' ≡ xs) → ((m : ℕ) → IsCodeOf m (Some c) unbuilt) → IsLoaded t' xs'
loaded_added t t' xs xs' is (Ok u) c pushed kept added left code = loaded_pushed t t' xs xs' is c pushed added code
loaded_added t t' xs xs' is (Err e) c pushed kept added left code = loaded_same t t' xs xs' is kept left
