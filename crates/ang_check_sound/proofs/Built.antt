-- A body of the names that `declare` gives stands in what the promise is made of.
use Rattle.std.specs.Prelude.{◌≡◌, ℕ, ◌≤◌, length, List, reverse, Option, Some, slice_get}
use Rattle.std.proofs.Common.{ap}
use Rattle.ang_view.specs.Registration.{RegistrationList}
use Rattle.ang_view.specs.Values.{TakesValues}
use Rattle.ang_names_known.specs.declared.names.Family.{Family}
use Rattle.ang_names_known.specs.declared.names.ScriptMethod.{ScriptMethod}
use Rattle.ang_names_known.specs.declared.names.Names.{Names}
use Rattle.ang_names_known.specs.Spaces.{first_family}
use Rattle.ang_names_listed.specs.Sources.{Source}
use Rattle.ang_names_listed.specs.Declarations.{declarations_of}
use Rattle.ang_names_classes.specs.Resolved.{names_of}
use Rattle.ang_check_context.specs.declared.scope.Within.{Within}
use Rattle.ang_check.specs.Bodies.{context_in}
use Rattle.ang_check_sound.specs.Checked.{module_in}
use Rattle.ang_check_sound.specs.Built.{IsMethodIn, IsFamilyIn, IsBuiltContext}
use Rattle.ang_check_sound.proofs.Slots.{has_slot}
use Rattle.ang_check_sound.proofs.Standing.{has_bodies_in}

module _ (V : RegistrationList) (names : Names) (sources : List Source) (same : names ≡ names_of V (declarations_of sources)) where
  method_built : (c : ℕ) (f : Family) → slice_get names.families c ≡ Some f → (m : ℕ) (y : ScriptMethod) → slice_get f.methods m ≡ Some y
      → IsMethodIn (module_in V names) c y
  method_built c f there m y at =
      let slot = has_slot V names sources same c f there m y at in
      record {
        heading = slot.heading;
        slot_is = slot.slot_is;
        alike = ap reverse slot.takes;
        body = λ k e. (has_bodies_in V names sources same).methods c m f y k there at e;
      }

  pub families_built : (c : ℕ) (f : Family) → slice_get names.families c ≡ Some f → IsFamilyIn (module_in V names) c f
  families_built c f there = record {
    methods = method_built c f there;
    constructors = λ m k at. (has_bodies_in V names sources same).constructors c m f k there at;
  }

pub context_built : (V : RegistrationList) (values : TakesValues V) (few : length V ≤ first_family) (names : Names) (sources : List Source)
    → names ≡ names_of V (declarations_of sources) → (text : List ℕ) (within : Option Within) → IsBuiltContext (context_in V names text within)
context_built V values few names sources same text within = record { values = values; few = few; families = families_built V names sources same }
