-- The program of a build is typed: where its classes are, and they are where nothing is refused.
use Rattle.std.specs.Prelude.{◌≡◌, ℕ, ◌-◌, ◌≤◌, ◌<◌, if◌then◌else◌, length, List, Option, Some, None, IfSome}
use Rattle.std.proofs.Common.{refl, sym, subst}
use Rattle.ang_view.specs.Registration.{RegistrationList, entry_at}
use Rattle.ang_names_known.specs.declared.names.Names.{Names}
use Rattle.ang_names_known.specs.Spaces.{family_of_type}
use Rattle.ang_names_listed.specs.Sources.{Source}
use Rattle.ang_names_listed.specs.Declarations.{declarations_of}
use Rattle.ang_names_classes.specs.Resolved.{names_of}
use Rattle.ang_meaning.specs.Environment.{Environment}
use Rattle.ang_source_typed.specs.Types.{Key, Family, Modules, driver_of, object_type, first_family, IsA}
use Rattle.ang_check_sound.proofs.DeclaredTypes.{NamesHave}
use Rattle.ang_check_laws.specs.Contexts.{IsDeclared}
use Rattle.ang_check_laws.specs.Given.{IsBuilt}
use Rattle.ang_check_laws.specs.Typed.{ClassesAreTyped, ProgramIsTyped, ProgramsAreTyped}
use Rattle.ang_check_laws.proofs.Built.{within_list, there, place_of, tree_is, build_is}
use Rattle.ang_check_laws.proofs.ClassesKin.{bases_above, orders_above}
use Rattle.ang_check_laws.proofs.ClassesTyped.{typed}
use Rattle.ang_check_laws.proofs.TypedDeclared.{all_declared}
use Rattle.ang_check_laws.proofs.FieldsFound.{fields_stand}
use Rattle.ang_check_laws.proofs.Found.{has_classes}
use Rattle.ang_check_laws.proofs.Hosts.{low}
use Rattle.ang_check_laws.proofs.MethodsCalled.{methods_stand}
use Rattle.ang_check_laws.proofs.Objects.{number_of}
use Rattle.ang_check_laws.proofs.Program.{build_typed}

module _ (z : Environment) (ms : Modules) (m : ℕ) (V : RegistrationList) (names : Names) (sources : List Source) (b : IsBuilt z ms m V names sources) where
  -- what has an object's type has it
  itself : (n : ℕ) (d : Option ℕ) → family_of_type n ≡ d → IfSome d (λ c. c < length names.families)
      → IsA z ms (object_type (ms m).view m n) (object_type (ms m).view m n)
  itself n None e less =
      subst (λ x. IsA z ms (if x then Key (driver_of (entry_at (ms m).view n)) else Family m (n - first_family))
      (if x then Key (driver_of (entry_at (ms m).view n)) else Family m (n - first_family))) (sym (low n e)) refl
  itself n (Some c) e less =
      let f = within_list names.families c less in
      subst (λ i. IsA z ms (object_type (ms m).view m i) (object_type (ms m).view m i)) (sym (number_of n c e).1)
      (subst (λ u. IsA z ms u u) (sym (place_of z ms m V names sources b c)) (refl, there z ms m V names sources b c f.0 f.1))

  declared : length V ≤ first_family → names ≡ names_of V (declarations_of sources) → NamesHave (IsDeclared z ms m) names
  declared few same =
      subst (NamesHave (IsDeclared z ms m)) (sym same)
      (all_declared z ms m V few (declarations_of sources)
      (λ n h. itself n (family_of_type n) refl (subst (λ (x : Names). IfSome (family_of_type n) (λ c. c < length x.families)) (sym same) h)))

pub programs_typed : ProgramsAreTyped
programs_typed V names ss z ms m values own few same none b classes =
    let d = declared z ms m V names ss b few same in
    build_typed z ms m V names ss (build_is z ms m V names ss b same none d (has_classes z ms m V names ss b same none d classes) values own few) same none (tree_is z ms m V names ss b)

pub classes_typed : ClassesAreTyped
classes_typed V names ss z ms m free e none built = record {
  classes = typed V names ss z ms m free e built;
  orders = orders_above V names (declarations_of ss) e;
  bases = bases_above V names (declarations_of ss) e;
  fields = fields_stand V names ss z ms m free e built;
  methods = methods_stand V names ss z ms m free e none built;
}

pub program_typed : ProgramIsTyped
program_typed V names ss z ms m values own few free e none built =
    programs_typed V names ss z ms m values own few e none built (classes_typed V names ss z ms m free e none built)
