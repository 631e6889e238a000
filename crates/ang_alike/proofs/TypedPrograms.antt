-- Modules that were built over parts of one list stand in it, in the setting in which they run.
use Rattle.std.proofs.Common.{inl, inr, ◌≡◌, ◌≤◌, refl, sym, ap, ◌∙◌, subst, ℕ, List, length, Option, Some, None}
use Rattle.std.specs.Prelude.{◌⊎◌, slice_get, slice_index_or}
use Rattle.std.specs.List.{list_any}
use Rattle.std.specs.Option.{option_flatten}
use Rattle.ang_view.specs.Only.{IsWithin}
use Rattle.ang_view.specs.Registration.{RegistrationList}
use Rattle.ang_view.specs.Values.{TakesValues}
use Rattle.ang_view.proofs.Keeping.{only_within}
use Rattle.ang_typed.specs.Typed as t
use Rattle.ang_typed.specs.Uses.{uses}
use Rattle.ang_meaning.specs.declared.routine.Routine.{Routine}
use Rattle.ang_meaning.specs.Environment.{Environment}
use Rattle.ang_source.specs.Hosts.{HasView}
use Rattle.ang_source.specs.Meaning.{method_among}
use Rattle.ang_source_typed.specs.Types.{Modules}
use Rattle.ang_source_typed.specs.Runs.{HasTree}
use Rattle.ang_engine_build.specs.Build.{Resolved, Compiled, build_of}
use Rattle.ang_engine_build.specs.Narrowed.{is_among, narrowed}
use Rattle.ang_check_laws.specs.Given.{constructs, is_class_at}
use Rattle.ang_check_laws.specs.HostTypes.{HandlesAreOwn}
use Rattle.ang_check_laws.specs.Narrowed.{IsKept, module_kept}
use Rattle.ang_check_laws.specs.Settings.{IsStanding, IsUnbuilt}
use Rattle.ang_engine_modules.specs.Modules.{Module, module_at}
use Rattle.ang_engine_modules.specs.Executed.{setting_for}
use Rattle.ang_engine_modules.specs.World.{Program, ModuleState, ModuleStates, module_in, built_of, built_at, built_in}
use Rattle.ang_alike.specs.Misfits.{typed_of, typed_modules}
use Rattle.ang_alike.proofs.ByNumber.{at_places}

-- ---- programs by the numbers of modules

abbrev pub program_in : Option ModuleState → Option Program
program_in o = (module_in o).program

abbrev pub programs_of : ModuleStates → ℕ → Option Program
programs_of ms m = program_in (slice_index_or ms.places m None)

-- where import i leads
abbrev pub link_in : Option Program → ℕ → Option Routine
link_in None i = None
link_in (Some p) i = option_flatten (slice_get p.links i)

abbrev pub resolved_of : Program → Resolved
resolved_of p = record { names = p.names; tree = p.tree }

-- It is what some sections are built to over a part of this list, of which it keeps what it uses.
pub record IsOwnProgram (L : RegistrationList) (p : Program) : Type 0 where
  pub sight : RegistrationList
  pub sections : List (List ℕ)
  pub built : build_of sight sections ≡ Compiled (resolved_of p)
  pub view : p.view ≡ narrowed sight p.tree
  pub values : TakesValues sight
  pub few : length sight ≤ 1024
  pub handles : HandlesAreOwn sight
  pub within : IsWithin sight L

-- ---- what runs know of a module

record IsKnown (x : Module) (o : Option Program) : Type 0 where
  tree : x.tree ≡ (typed_of o).program
  view : x.view ≡ (typed_of o).view
  links : (i : ℕ) → option_flatten (slice_get x.links i) ≡ link_in o i

known_of : (name : List ℕ) (o : Option Program) → IsKnown (built_of name o) o
known_of name None = record { tree = refl; view = refl; links = λ i. refl }
known_of name (Some p) = record { tree = refl; view = refl; links = λ i. refl }

known_place : (o : Option ModuleState) → IsKnown (built_at o) (program_in o)
known_place None = record { tree = refl; view = refl; links = λ i. refl }
known_place (Some m) = known_of m.name m.program

typed_kept : (p : Program) (V : RegistrationList) → p.view ≡ narrowed V p.tree → typed_of (Some p) ≡ module_kept V (resolved_of p)
typed_kept p V e = λ i. record {
  view = e i;
  program = p.tree;
  is_class = λ c. is_class_at (slice_get p.names.families c);
  is_constructor = λ k. list_any (constructs k) p.names.families;
}

narrowed_within : (L V : RegistrationList) (p : t.Program) → IsWithin V L → IsWithin (narrowed V p) L
unfolding narrowed
narrowed_within L V p h = λ n x e. h n x (only_within (is_among (uses p)) V n x e)

-- ---- the setting

known : (ms : ModuleStates) (m : ℕ) → IsKnown (module_at (built_in ms) m) (programs_of ms m)
known ms m = subst (λ (x : Module). IsKnown x (programs_of ms m)) (sym (at_places ms.places m)) (known_place (slice_index_or ms.places m None))

pub tree_known : (ms : ModuleStates) (m : ℕ) → (module_at (built_in ms) m).tree ≡ (typed_modules ms m).program
tree_known ms m = (known ms m).tree

module _ (ms : ModuleStates) (nesting : ℕ) where
  abbrev z : Environment
  z = setting_for (built_in ms) nesting

  abbrev T : Modules
  T = typed_modules ms

  pub has_tree : (m : ℕ) → HasTree z m (T m).program
  has_tree m =
      let here : HasTree z m (module_at (built_in ms) m).tree = record { bodies = λ k. refl; slots = λ s. refl; classes = λ c. refl } in
      subst (λ (p : t.Program). HasTree z m p) (tree_known ms m) here

  has_view : (m : ℕ) → HasView z m (T m).view
  has_view m =
      let here : HasView z m (module_at (built_in ms) m).view = record { each = λ e. refl } in
      subst (λ (V : RegistrationList). HasView z m V) (known ms m).view here

  has_methods : (m c s : ℕ) → z.method m c s ≡ method_among m (T m).program.classes c s
  has_methods m c s = ap (λ (p : t.Program). method_among m p.classes c s) (tree_known ms m)

  pub leads_there : (m i : ℕ) → z.linked m i ≡ link_in (programs_of ms m) i
  leads_there m i = (known ms m).links i

  -- nothing is built there, or what is built stands in the list
  module _ (L : RegistrationList) where
    stands_by : (m : ℕ) (o : Option Program) → programs_of ms m ≡ o → ((p : Program) → o ≡ Some p → IsOwnProgram L p) → IsUnbuilt z T m ⊎ IsStanding L z T m
    stands_by m None e h = inl (record { known = ap typed_of e; tree = subst (λ (o : Option Program). HasTree z m (typed_of o).program) e (has_tree m) })
    stands_by m (Some p) e h =
        let b = h p refl in
        let kept : IsKept z T m b.sight (resolved_of p) = record {
          known = ap typed_of e ∙ typed_kept p b.sight b.view;
          tree = subst (λ (o : Option Program). HasTree z m (typed_of o).program) e (has_tree m);
          view = subst (λ (V : RegistrationList). HasView z m V) b.view (subst (λ (o : Option Program). HasView z m (typed_of o).view) e (has_view m));
          methods = λ c s. has_methods m c s ∙ ap (λ (o : Option Program). method_among m (typed_of o).program.classes c s) e;
        } in
        inr (record {
          sight = b.sight;
          takes = record { values = b.values; few = b.few };
          own = b.handles;
          sections = b.sections;
          resolved = resolved_of p;
          built = b.built;
          kept = kept;
          stands = narrowed_within L b.sight p.tree b.within;
        })

    pub modules_stand : ((m : ℕ) (p : Program) → programs_of ms m ≡ Some p → IsOwnProgram L p) → (m : ℕ) → IsUnbuilt z T m ⊎ IsStanding L z T m
    modules_stand h m = stands_by m (programs_of ms m) refl (h m)
