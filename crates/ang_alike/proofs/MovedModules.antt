-- Modules in other places: what runs know of them, and their links.
use Rattle.std.proofs.Common.{◌≡◌, ◌≢◌, refl, sym, ap, ◌∙◌, inl, inr, ℕ, zero, suc, Bool, true, false, List, [], ◌∷◌, length, map, Option, Some, None}
use Rattle.std.specs.Prelude.{◌⊎◌, ◌==◌, option_map, slice_get, slice_index_or, if◌then◌else◌}
use Rattle.std.specs.Option.{option_flatten}
use Rattle.std.proofs.lemmas.Bool.{eq-eqb}
use Rattle.ang_view.specs.Registration.{RegistrationList}
use Rattle.ang_typed.specs.Typed as t
use Rattle.ang_meaning.specs.declared.routine.Routine.{Routine}
use Rattle.ang_source.specs.Meaning.{Code, codes_of, code_or, codes_in, routine, class_among, method_among, body_by, heading_among, passings_in, initializers_from}
use Rattle.ang_source.specs.Hosts.{use_in}
use Rattle.ang_engine_build.specs.Build.{Resolved}
use Rattle.ang_engine_modules.specs.Modules.{Module, module_at as built_module, unbound_link, unbound_links, trees_of}
use Rattle.ang_engine_modules.specs.Executed.{setting_for, routines_from, initializers_of}
use Rattle.ang_engine_modules.specs.World.{Program, ModuleState, module_in, has_name, unbound_program, unbound_module, built_of, built_at}
use Rattle.ang_engine_modules.specs.Commands.{with_link}
use Rattle.ang_engine_modules.proofs.PlaceLists.{map_set}
use Rattle.ang_engine.specs.Step.{program_over}
use Rattle.ang_alike.specs.Moved.{Moving, moved_routine, moved_setting}
use Rattle.ang_alike.proofs.ByNumber.{at_places, tree_at}
use Rattle.ang_alike.proofs.MovedPlaces.{AreUnder, one_number, same_or_not, differs, under_back}

module _ (p : Moving) where
  abbrev pub moved_links : List (Option Routine) → List (Option Routine)
  moved_links ls = map (option_map (moved_routine p)) ls

  abbrev pub moved_program : Program → Program
  moved_program q = record q { links = moved_links q.links }

  abbrev pub moved_state : ModuleState → ModuleState
  moved_state m = record m { program = option_map moved_program m.program }

  abbrev pub moved_place : Option ModuleState → Option ModuleState
  moved_place = option_map moved_state

  abbrev pub moved_module : Module → Module
  moved_module x = record x { links = moved_links x.links }

  -- ---- what stays

  pub name_stays : (name : List ℕ) (o : Option ModuleState) → has_name name (moved_place o) ≡ has_name name o
  name_stays name None = refl
  name_stays name (Some m) = refl

  pub state_in : (o : Option ModuleState) → module_in (moved_place o) ≡ moved_state (module_in o)
  state_in None = refl
  state_in (Some m) = refl

  program_built : (name : List ℕ) (o : Option Program) → built_of name (option_map moved_program o) ≡ moved_module (built_of name o)
  program_built name None = refl
  program_built name (Some q) = refl

  pub place_built : (o : Option ModuleState) → built_at (moved_place o) ≡ moved_module (built_at o)
  place_built None = refl
  place_built (Some m) = program_built m.name m.program

  -- ---- links

  flat_moved : (ls : List (Option Routine)) (i : ℕ) → option_flatten (slice_get (moved_links ls) i) ≡ option_map (moved_routine p) (option_flatten (slice_get ls i))
  flat_moved [] i = refl
  flat_moved (l ∷ ls) zero = refl
  flat_moved (l ∷ ls) (suc i) = flat_moved ls i

  -- an import that is bound anew
  pub link_moved : (index : ℕ) (g : Option Routine) (q : Program) → with_link index (option_map (moved_routine p) g) (moved_program q) ≡ moved_program (with_link index g q)
  link_moved index g q = ap (λ ls. record q { links = ls }) (sym (map_set (option_map (moved_routine p)) q.links index g))

  unlinked : {A : Type 0} (xs : List A) → ◌≡◌ {A = List (Option Routine)} (moved_links (map (λ x. None) xs)) (map (λ x. None) xs)
  unlinked [] = refl
  unlinked (x ∷ xs) = ap (λ ls. None ∷ ls) (unlinked xs)

  -- a new program, with no import bound
  pub new_program : (V : RegistrationList) (r : Resolved) → moved_program (program_over V r) ≡ program_over V r
  new_program V r = ap (λ ls. record (program_over V r) { links = ls }) (unlinked r.tree.imports)

  same_test_by : (a b : ℕ) → (a ≡ b) ⊎ (a ≢ b) → (p.to a == p.to b) ≡ (a == b)
  same_test_by a b (inl e) = eq-eqb (p.to a) (p.to b) (ap p.to e) ∙ sym (eq-eqb a b e)
  same_test_by a b (inr d) = differs (p.to a) (p.to b) (λ e. d (one_number p a b e)) ∙ sym (differs a b d)

  pub same_test : (a b : ℕ) → (p.to a == p.to b) ≡ (a == b)
  same_test a b = same_test_by a b (same_or_not a b)

  free_by : (b : Bool) (g : Routine) → (if b then None else Some (moved_routine p g)) ≡ option_map (moved_routine p) (if b then None else Some g)
  free_by true g = refl
  free_by false g = refl

  unbound_moved : (i : ℕ) (o : Option Routine) → unbound_link (p.to i) (option_map (moved_routine p) o) ≡ option_map (moved_routine p) (unbound_link i o)
  unbound_moved i None = refl
  unbound_moved i (Some g) = ap (λ b. if b then None else Some (moved_routine p g)) (same_test g.home i) ∙ free_by (g.home == i) g

  links_unbound : (i : ℕ) (ls : List (Option Routine)) → unbound_links (p.to i) (moved_links ls) ≡ moved_links (unbound_links i ls)
  links_unbound i [] = refl
  links_unbound i (l ∷ ls) = ap (λ x. x ∷ unbound_links (p.to i) (moved_links ls)) (unbound_moved i l) ∙ ap (λ xs. option_map (moved_routine p) (unbound_link i l) ∷ xs) (links_unbound i ls)

  program_unbound : (i : ℕ) (o : Option Program) → option_map (unbound_program (p.to i)) (option_map moved_program o) ≡ option_map moved_program (option_map (unbound_program i) o)
  program_unbound i None = refl
  program_unbound i (Some q) = ap (λ ls. Some (record q { links = ls })) (links_unbound i q.links)

  state_unbound : (i : ℕ) (m : ModuleState) → unbound_module (p.to i) (moved_state m) ≡ moved_state (unbound_module i m)
  state_unbound i m = ap (λ o. record m { program = o }) (program_unbound i m.program)

  pub place_unbound : (i : ℕ) (o : Option ModuleState) → option_map (unbound_module (p.to i)) (moved_place o) ≡ moved_place (option_map (unbound_module i) o)
  place_unbound i None = refl
  place_unbound i (Some m) = ap (λ x. Some x) (state_unbound i m)

  -- ---- initializers

  routines_moved : (i n : ℕ) (cs : List Code) → routines_from (p.to i) n cs ≡ map (moved_routine p) (routines_from i n cs)
  routines_moved i n [] = refl
  routines_moved i n (c ∷ cs) = ap (λ gs. routine (p.to i) n ∷ gs) (routines_moved i (suc n) cs)

  pub initializers_elsewhere : (i : ℕ) (tree : t.Program) → initializers_of (p.to i) tree ≡ map (moved_routine p) (initializers_of i tree)
  initializers_elsewhere i tree = routines_moved i (length tree.functions) (initializers_from 0 tree.globals)

  -- ---- what runs know

  module _ (ps qs : List (Option ModuleState)) (h : AreUnder p moved_place ps qs) where
    abbrev ms : List Module
    ms = map built_at ps

    abbrev ns : List Module
    ns = map built_at qs

    at_back : (m : ℕ) → built_module ns m ≡ moved_module (built_module ms (p.back m))
    at_back m =
        at_places qs m ∙ ap built_at (under_back p moved_place ps qs h m) ∙ place_built (slice_index_or ps (p.back m) None)
        ∙ ap moved_module (sym (at_places ps (p.back m)))

    tree_back : (m : ℕ) → (built_module ns m).tree ≡ (built_module ms (p.back m)).tree
    tree_back m = ap (λ (x : Module). x.tree) (at_back m)

    pub tree_there : (i : ℕ) → (built_module ns (p.to i)).tree ≡ (built_module ms i).tree
    tree_there i = tree_back (p.to i) ∙ ap (λ k. (built_module ms k).tree) (p.there i)

    linked_moved : (m i : ℕ) → option_flatten (slice_get (built_module ns m).links i) ≡ option_map (moved_routine p) (option_flatten (slice_get (built_module ms (p.back m)).links i))
    linked_moved m i = ap (λ (x : Module). option_flatten (slice_get x.links i)) (at_back m) ∙ flat_moved (built_module ms (p.back m)).links i

    home_moved : (m : ℕ) (o : Option ℕ) → option_map (routine m) o ≡ option_map (moved_routine p) (option_map (routine (p.back m)) o)
    home_moved m None = refl
    home_moved m (Some k) = ap (λ h. Some (routine h k)) (sym (p.here m))

    method_moved : (m c s : ℕ) → method_among m (built_module ns m).tree.classes c s ≡ option_map (moved_routine p) (method_among (p.back m) (built_module ms (p.back m)).tree.classes c s)
    method_moved m c s =
        let classes = (built_module ms (p.back m)).tree.classes in
        ap (λ (x : t.Program). method_among m x.classes c s) (tree_back m)
        ∙ home_moved m (body_by classes s (length classes) (slice_get classes c))

    pub setting_elsewhere : (nesting : ℕ) → setting_for ns nesting ≡ moved_setting p (setting_for ms nesting)
    setting_elsewhere nesting = λ j. record {
      name = λ m. (at_back m j).name;
      host = λ m e. use_in (at_back m j).view e;
      imported = λ m i. heading_among (at_back m j).tree.imports i;
      linked = λ m i. linked_moved m i j;
      class = λ m c. class_among (at_back m j).tree.classes c;
      method = λ m c s. method_moved m c s j;
      slot = λ m s. heading_among (at_back m j).tree.methods s;
      params = λ g. slice_get (passings_in (at_back g.home j).tree) g.number;
      nesting = nesting;
    }

    pub codes_elsewhere : (g : Routine) → codes_in (trees_of ns) (moved_routine p g) ≡ codes_in (trees_of ms) g
    codes_elsewhere g =
        ap (λ x. code_or (slice_get (codes_of x) g.number)) (tree_at ns (p.to g.home) ∙ tree_there g.home ∙ sym (tree_at ms g.home))
