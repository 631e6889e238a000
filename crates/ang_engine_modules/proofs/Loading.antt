-- The places of a table, as modules are added, built and cleared.
use Rattle.std.proofs.Common.{◌≡◌, ◌≢◌, ◌⊎◌, inl, inr, ◌+◌, ◌-◌, ◌<◌, ◌^◌, ◌==◌, Bool, true, false, ℕ, zero, suc, List, [], ◌∷◌, ◌++◌, length, refl, sym, ap, subst, ◌∙◌, arith, Option, Some, None}
use Rattle.std.specs.Prelude.{map as list_map, option_map, slice_get, slice_index_or, slice_set, if◌then◌else◌}
use Rattle.std.specs.Option.{option_flatten}
use Rattle.std.proofs.lemmas.List.{length-map, length-append}
use Rattle.std.proofs.lemmas.Slice.Zip.{AllZip-long}
use Rattle.std.proofs.lemmas.Bool.{eqb-true, eqb-false}
use Rattle.std.proofs.lemmas.Option.{slice_get_within}
use Rattle.ang_code.specs.declared.instruction.RoutineCode.{RoutineCode}
use Rattle.ang_meaning.specs.declared.routine.Routine.{Routine}
use Rattle.ang_meaning.specs.declared.routine.Passing.{Passing}
use Rattle.ang_typed.specs.declared.program.Heading.{Heading}
use Rattle.ang_typed.specs.Typed as tree
use Rattle.ang_typed.specs.declared.program.Typed.{Typed}
use Rattle.ang_typed.specs.View.{view_typed}
use Rattle.ang_source.specs.Meaning.{nothing, heading_among, initializers_from, passings_of, passings_in, results_in, routine}
use Rattle.ang_source.specs.Sound.{SoundProgram}
use Rattle.ang_gen.specs.Compiled.{IsCompiled}
use Rattle.ang_vm_stack.specs.declared.table.Table.{Table}
use Rattle.ang_vm_stack.specs.declared.table.ModuleCode.{ModuleCode}
use Rattle.ang_vm_stack.specs.Tables.{module_at as code_at, result_in as result_among, result_of}
use Rattle.ang_engine_modules.specs.declared.modules.LoadedModule.{LoadedModule}
use Rattle.ang_engine_modules.specs.Modules.{Module, unbuilt, module_at, result_in, result_at, link_at, unbound_link, unbound_links, LinkFits, AreLinked, TakesSoMany}
use Rattle.ang_engine_modules.specs.Executed.{initializers_of}
use Rattle.ang_engine_modules.specs.Loaded.{loaded_at, module_of, modules_of, with_link, linked_in, without_links, unbound_in, uses_of, class_of, codes_of, IsCodeOf, IsTableOf, IsLoaded}
use Rattle.ang_engine_modules.specs.Relinked.{bounds_of, IsRelinked, HasLink, HasUnbound}
use Rattle.ang_engine_modules.specs.Numbers.{routines_at}
use Rattle.ang_engine_modules.specs.Trees.{headings_in, classes_from}
use Rattle.ang_engine_modules.proofs.Numbers.{routines_counted}
use Rattle.ang_engine_modules.proofs.Bodies.{gives_as}

-- ---- the code of one place

none_compiled : IsCompiled nothing []
none_compiled = record { bodies = []; lowered = refl; positions = refl; code = tt }

pub blank : (m : ℕ) (c : ModuleCode) → c.name.items ≡ [] → c.bodies.items ≡ [] → c.imports.items ≡ [] → c.entities.items ≡ [] → c.classes.items ≡ [] → c.slots.items ≡ []
    → IsCodeOf m (Some c) unbuilt
blank m c name bodies imports entities classes slots = record {
  name = name;
  entities = entities;
  passings = ap (list_map (λ b. b.params.items)) bodies;
  results = ap (list_map (λ b. b.result)) bodies;
  compiled = subst (IsCompiled nothing) (sym bodies) none_compiled;
  imports = ap (list_map (λ y. y.params.items)) imports;
  links = ap (list_map (λ y. y.bound)) imports;
  classes = ap (list_map class_of) classes;
  slots = ap (list_map (λ y. y.items)) slots;
  sound = record { functions = tt; globals = tt; classes = tt };
}

pub coded : (m : ℕ) (c : ModuleCode) (b : LoadedModule) (codes : List RoutineCode)
    → c.name.items ≡ b.name → c.bodies.items ≡ codes
    → list_map (λ y. y.params.items) c.imports.items ≡ headings_in b.tree.imports → list_map (λ y. y.bound) c.imports.items ≡ list_map (λ h. None) b.tree.imports
    → c.entities.items ≡ uses_of b.view
    → list_map class_of c.classes.items ≡ classes_from m b.tree.classes 0 b.tree.classes → list_map (λ y. y.items) c.slots.items ≡ headings_in b.tree.methods
    → list_map (λ x. x.params.items) codes ≡ passings_in (view_typed b.tree) → list_map (λ x. x.result) codes ≡ results_in (view_typed b.tree) → IsCompiled (view_typed b.tree) codes → SoundProgram b.view (view_typed b.tree)
    → b.links ≡ list_map (λ h. None) b.tree.imports → IsCodeOf m (Some c) (module_of (Some b))
coded m c b codes name bodies imports bound entities classes slots params results compiled sound unbound = record {
  name = name;
  entities = entities;
  passings = ap (list_map (λ x. x.params.items)) bodies ∙ params;
  results = ap (list_map (λ x. x.result)) bodies ∙ results;
  compiled = subst (IsCompiled (view_typed b.tree)) (sym bodies) compiled;
  imports = imports;
  links = bound ∙ sym unbound;
  classes = classes;
  slots = slots;
  sound = sound;
}

-- the same by a tree that is the module's
pub coded_by : (m : ℕ) (c : ModuleCode) (b : LoadedModule) (p : Typed) (codes : List RoutineCode) → p ≡ b.tree
    → c.name.items ≡ b.name → c.bodies.items ≡ codes
    → list_map (λ y. y.params.items) c.imports.items ≡ headings_in p.imports → list_map (λ y. y.bound) c.imports.items ≡ list_map (λ h. None) p.imports
    → c.entities.items ≡ uses_of b.view
    → list_map class_of c.classes.items ≡ classes_from m p.classes 0 p.classes → list_map (λ y. y.items) c.slots.items ≡ headings_in p.methods
    → list_map (λ x. x.params.items) codes ≡ passings_in (view_typed p) → list_map (λ x. x.result) codes ≡ results_in (view_typed p) → IsCompiled (view_typed p) codes → SoundProgram b.view (view_typed b.tree)
    → b.links ≡ list_map (λ h. None) b.tree.imports → IsCodeOf m (Some c) (module_of (Some b))
coded_by m c b p codes same name bodies imports bound entities classes slots params results compiled sound unbound =
    coded m c b codes name bodies
    (subst (λ t. list_map (λ y. y.params.items) c.imports.items ≡ headings_in t.imports) same imports)
    (subst (λ t. list_map (λ y. y.bound) c.imports.items ≡ list_map (λ h. None) t.imports) same bound)
    entities
    (subst (λ t. list_map class_of c.classes.items ≡ classes_from m t.classes 0 t.classes) same classes)
    (subst (λ t. list_map (λ y. y.items) c.slots.items ≡ headings_in t.methods) same slots)
    (subst (λ t. list_map (λ x. x.params.items) codes ≡ passings_in (view_typed t)) same params)
    (subst (λ t. list_map (λ x. x.result) codes ≡ results_in (view_typed t)) same results)
    (subst (λ t. IsCompiled (view_typed t) codes) same compiled)
    sound unbound

-- ---- all places

abbrev pub Places : List ModuleCode → List (Option LoadedModule) → Type 0
Places cs bs = (m : ℕ) → IsCodeOf m (slice_get cs m) (slice_index_or (modules_of bs) m unbuilt)

no_places : Places [] []
no_places m = record {
  name = refl;
  entities = refl;
  passings = refl;
  results = refl;
  compiled = none_compiled;
  imports = refl;
  links = refl;
  classes = refl;
  slots = refl;
  sound = record { functions = tt; globals = tt; classes = tt };
}

-- so of whatever holds of the code in each place and its module
module _ (c : ModuleCode) where
  pushed_at : (P : ℕ → Option ModuleCode → Module → Type 0) (cs : List ModuleCode) (bs : List (Option LoadedModule))
      → ((m : ℕ) → P m (slice_get cs m) (slice_index_or (modules_of bs) m unbuilt)) → length cs ≡ length bs → ((m : ℕ) → P m (Some c) unbuilt)
      → (m : ℕ) → P m (slice_get (cs ++ c ∷ []) m) (slice_index_or (modules_of (bs ++ None ∷ [])) m unbuilt)
  pushed_at P [] [] p e is zero = is zero
  pushed_at P [] [] p e is (suc m) = p (suc m)
  pushed_at P [] (y ∷ bs) p e is m = absurd (omega (arith, e))
  pushed_at P (x ∷ cs) [] p e is m = absurd (omega (arith, e))
  pushed_at P (x ∷ cs) (y ∷ bs) p e is zero = p zero
  pushed_at P (x ∷ cs) (y ∷ bs) p e is (suc m) = pushed_at (λ k. P (suc k)) cs bs (λ k. p (suc k)) (omega (arith, e)) (λ k. is (suc k)) m

  put_at : (b : Option LoadedModule) (P : ℕ → Option ModuleCode → Module → Type 0) (cs : List ModuleCode) (bs : List (Option LoadedModule)) (i : ℕ)
      → ((m : ℕ) → P m (slice_get cs m) (slice_index_or (modules_of bs) m unbuilt)) → length cs ≡ length bs → P i (Some c) (module_of b)
      → (m : ℕ) → P m (slice_get (slice_set cs i c) m) (slice_index_or (modules_of (slice_set bs i b)) m unbuilt)
  put_at b P [] [] i p e is m = p m
  put_at b P [] (y ∷ bs) i p e is m = absurd (omega (arith, e))
  put_at b P (x ∷ cs) [] i p e is m = absurd (omega (arith, e))
  put_at b P (x ∷ cs) (y ∷ bs) zero p e is zero = is
  put_at b P (x ∷ cs) (y ∷ bs) zero p e is (suc m) = p (suc m)
  put_at b P (x ∷ cs) (y ∷ bs) (suc i) p e is zero = p zero
  put_at b P (x ∷ cs) (y ∷ bs) (suc i) p e is (suc m) = put_at b (λ k. P (suc k)) cs bs i (λ k. p (suc k)) (omega (arith, e)) is m

places_pushed : (cs : List ModuleCode) (bs : List (Option LoadedModule)) → Places cs bs → length cs ≡ length bs → (c : ModuleCode) → ((m : ℕ) → IsCodeOf m (Some c) unbuilt)
    → Places (cs ++ c ∷ []) (bs ++ None ∷ [])
places_pushed cs bs p e c is = pushed_at c IsCodeOf cs bs p e is

places_put : (cs : List ModuleCode) (bs : List (Option LoadedModule)) (i : ℕ) → Places cs bs → length cs ≡ length bs → (c : ModuleCode) (b : Option LoadedModule)
    → IsCodeOf i (Some c) (module_of b) → Places (slice_set cs i c) (slice_set bs i b)
places_put cs bs i p e c b is = put_at c b IsCodeOf cs bs i p e is

set_length : {A : Type 0} (xs : List A) (i : ℕ) (x : A) → length (slice_set xs i x) ≡ length xs
set_length [] i x = refl
set_length (y ∷ xs) zero x = refl
set_length (y ∷ xs) (suc i) x = ap suc (set_length xs i x)

-- ---- where imports lead, as places change

linked_none : AreLinked []
linked_none = record { each = λ m i g there. absurd (cc) }

abbrev tree_at : List Module → ℕ → tree.Program
tree_at ms m = (module_at ms m).tree

-- a link fits among modules with the same trees in the two places
fits_same : (ms ns : List Module) (m i : ℕ) (g : Routine) → tree_at ns m ≡ tree_at ms m → tree_at ns g.home ≡ tree_at ms g.home → LinkFits ms m i g → LinkFits ns m i g
fits_same ms ns m i g own other f = record {
  params = f.params;
  declared = ap (λ (p : tree.Program). heading_among p.imports i) own ∙ f.declared;
  function = ap (λ p. slice_get (passings_in p) g.number) other ∙ f.function;
}

-- no import leads to where no module is built
leads_elsewhere : (ms : List Module) (m i k : ℕ) (g : Routine) → AreLinked ms → link_at ms m i ≡ Some g → module_at ms k ≡ unbuilt → g.home ≢ k
leads_elsewhere ms m i k g linked there none e =
    let f = linked.each m i g there in
    let here : None ≡ Some f.params = ap (λ (x : Module). slice_get (passings_in x.tree) g.number) (sym none ∙ ap (module_at ms) (sym e)) ∙ f.function in
    cc

-- imports that are bound to nothing
none_bound : (hs : List Heading) (i : ℕ) → option_flatten (slice_get (list_map {B = Option Routine} (λ h. None) hs) i) ≡ None
none_bound [] i = refl
none_bound (h ∷ hs) zero = refl
none_bound (h ∷ hs) (suc i) = none_bound hs i

pub module_loaded : (bs : List (Option LoadedModule)) (m : ℕ) → module_at (modules_of bs) m ≡ module_of (loaded_at bs m)
module_loaded [] m = refl
module_loaded (b ∷ bs) zero = refl
module_loaded (b ∷ bs) (suc m) = module_loaded bs m

pushed_module : (bs : List (Option LoadedModule)) (m : ℕ) → module_at (modules_of (bs ++ None ∷ [])) m ≡ module_at (modules_of bs) m
pushed_module [] zero = refl
pushed_module [] (suc m) = refl
pushed_module (b ∷ bs) zero = refl
pushed_module (b ∷ bs) (suc m) = pushed_module bs m

other_set : (bs : List (Option LoadedModule)) (i m : ℕ) (b : Option LoadedModule) → m ≢ i → loaded_at (slice_set bs i b) m ≡ loaded_at bs m
other_set [] i m b apart = refl
other_set (x ∷ bs) zero zero b apart = absurd (apart refl)
other_set (x ∷ bs) zero (suc m) b apart = refl
other_set (x ∷ bs) (suc i) zero b apart = refl
other_set (x ∷ bs) (suc i) (suc m) b apart = other_set bs i m b (λ e. apart (ap suc e))

-- a place has what is put there, or there is no such place
own_set : (bs : List (Option LoadedModule)) (i : ℕ) (b : Option LoadedModule) → (loaded_at (slice_set bs i b) i ≡ b) ⊎ ((loaded_at (slice_set bs i b) i ≡ None) × (slice_set bs i b ≡ bs))
own_set [] i b = inr (refl, refl)
own_set (x ∷ bs) zero b = inl refl
own_set (x ∷ bs) (suc i) b = elim (own_set bs i b) [
  | inl e ↦ inl e
  | inr p ↦ inr (p.0, ap (λ l. x ∷ l) p.1)
]

-- the modules in the other places stay
module_stays : (bs : List (Option LoadedModule)) (i m : ℕ) (b : Option LoadedModule) → m ≢ i → module_at (modules_of (slice_set bs i b)) m ≡ module_at (modules_of bs) m
module_stays bs i m b apart = module_loaded (slice_set bs i b) m ∙ ap module_of (other_set bs i m b apart) ∙ sym (module_loaded bs m)

abbrev link_in : Module → ℕ → Option Routine
link_in x i = option_flatten (slice_get x.links i)

linked_pushed : (bs : List (Option LoadedModule)) → AreLinked (modules_of bs) → AreLinked (modules_of (bs ++ None ∷ []))
linked_pushed bs linked = record {
  each = λ m i g there.
      let same = pushed_module bs in
      fits_same (modules_of bs) (modules_of (bs ++ None ∷ [])) m i g (ap (λ (x : Module). x.tree) (same m)) (ap (λ (x : Module). x.tree) (same g.home))
      (linked.each m i g (sym (ap (λ (x : Module). link_in x i) (same m)) ∙ there));
}

-- ---- a module that is built

module _ (bs : List (Option LoadedModule)) (i : ℕ) (b : LoadedModule) (empty : loaded_at bs i ≡ None) (unbound : b.links ≡ list_map (λ h. None) b.tree.imports) (linked : AreLinked (modules_of bs)) where
  abbrev with_it : List (Option LoadedModule)
  with_it = slice_set bs i (Some b)

  put_fits : loaded_at with_it i ≡ Some b → (m j : ℕ) (g : Routine) → link_at (modules_of with_it) m j ≡ Some g → (c : Bool) → (m == i) ≡ c → LinkFits (modules_of with_it) m j g
  put_fits own m j g there true same =
      let here : module_at (modules_of with_it) m ≡ module_of (Some b) = module_loaded with_it m ∙ ap module_of (ap (loaded_at with_it) (eqb-true m i same) ∙ own) in
      let none : None ≡ Some g =
      sym (ap (λ (x : Module). link_in x j) here ∙ ap (λ l. option_flatten (slice_get l j)) unbound ∙ none_bound b.tree.imports j) ∙ there in
      absurd (cc)
  put_fits own m j g there false apart =
      let stays : module_at (modules_of with_it) m ≡ module_at (modules_of bs) m = module_stays bs i m (Some b) (eqb-false m i apart) in
      let old : link_at (modules_of bs) m j ≡ Some g = sym (ap (λ (x : Module). link_in x j) stays) ∙ there in
      let away : g.home ≢ i = leads_elsewhere (modules_of bs) m j i g linked old (module_loaded bs i ∙ ap module_of empty) in
      fits_same (modules_of bs) (modules_of with_it) m j g (ap (λ (x : Module). x.tree) stays) (ap (λ (x : Module). x.tree) (module_stays bs i g.home (Some b) away))
      (linked.each m j g old)

  linked_put : AreLinked (modules_of with_it)
  linked_put = elim (own_set bs i (Some b)) [
    | inl own ↦ record { each = λ m j g there. put_fits own m j g there (m == i) refl }
    | inr p ↦ subst (λ l. AreLinked (modules_of l)) (sym p.1) linked
  ]

-- ---- a module that is not built any more

loaded_mapped : (f : LoadedModule → LoadedModule) (bs : List (Option LoadedModule)) (m : ℕ) → loaded_at (list_map (option_map f) bs) m ≡ option_map f (loaded_at bs m)
loaded_mapped f [] m = refl
loaded_mapped f (b ∷ bs) zero = refl
loaded_mapped f (b ∷ bs) (suc m) = loaded_mapped f bs m

unbound_links_at : (i : ℕ) (ls : List (Option Routine)) (j : ℕ) → option_flatten (slice_get (unbound_links i ls) j) ≡ unbound_link i (option_flatten (slice_get ls j))
unbound_links_at i [] j = refl
unbound_links_at i (l ∷ ls) zero = refl
unbound_links_at i (l ∷ ls) (suc j) = unbound_links_at i ls j

left_if : (g h : Routine) (i : ℕ) (b : Bool) → (h.home == i) ≡ b → (if b then None else Some h) ≡ Some g → (Some h ≡ Some g) × (g.home ≢ i)
left_if g h i true e there = absurd (cc)
left_if g h i false e there =
    let same : h ≡ g = cc in
    (there, λ k. eqb-false h.home i e (ap (λ (r : Routine). r.home) same ∙ k))

left_bound : (i : ℕ) (o : Option Routine) (g : Routine) → unbound_link i o ≡ Some g → (o ≡ Some g) × (g.home ≢ i)
left_bound i None g there = absurd (cc)
left_bound i (Some h) g there = left_if g h i (h.home == i) refl there

links_without : (i : ℕ) (o : Option LoadedModule) → (module_of (option_map (without_links i) o)).links ≡ unbound_links i (module_of o).links
links_without i None = refl
links_without i (Some x) = refl

tree_without : (i : ℕ) (o : Option LoadedModule) → (module_of (option_map (without_links i) o)).tree ≡ (module_of o).tree
tree_without i None = refl
tree_without i (Some x) = refl

module _ (bs : List (Option LoadedModule)) (i : ℕ) (linked : AreLinked (modules_of bs)) where
  abbrev emptied : List (Option LoadedModule)
  emptied = slice_set bs i None

  abbrev cleared : List (Option LoadedModule)
  cleared = unbound_in i emptied

  cleared_module : (m : ℕ) → module_at (modules_of cleared) m ≡ module_of (option_map (without_links i) (loaded_at emptied m))
  cleared_module m = module_loaded cleared m ∙ ap module_of (loaded_mapped (without_links i) emptied m)

  cleared_tree : (m : ℕ) → m ≢ i → tree_at (modules_of cleared) m ≡ tree_at (modules_of bs) m
  cleared_tree m apart =
      ap (λ (x : Module). x.tree) (cleared_module m) ∙ tree_without i (loaded_at emptied m)
      ∙ ap (λ o. (module_of o).tree) (other_set bs i m None apart) ∙ ap (λ (x : Module). x.tree) (sym (module_loaded bs m))

  emptied_link : (m j : ℕ) → link_at (modules_of cleared) m j ≡ unbound_link i (link_in (module_of (loaded_at emptied m)) j)
  emptied_link m j =
      ap (λ (x : Module). link_in x j) (cleared_module m) ∙ ap (λ l. option_flatten (slice_get l j)) (links_without i (loaded_at emptied m))
      ∙ unbound_links_at i (module_of (loaded_at emptied m)).links j

  none_here : loaded_at emptied i ≡ None
  none_here = elim (own_set bs i None) [
    | inl e ↦ e
    | inr p ↦ p.0
  ]

  cleared_fits : (m j : ℕ) (g : Routine) → link_at (modules_of cleared) m j ≡ Some g → (c : Bool) → (m == i) ≡ c → LinkFits (modules_of cleared) m j g
  cleared_fits m j g there true same =
      let left = left_bound i (link_in (module_of (loaded_at emptied m)) j) g (sym (emptied_link m j) ∙ there) in
      let none : None ≡ Some g = sym (ap (λ o. link_in (module_of o) j) (ap (loaded_at emptied) (eqb-true m i same) ∙ none_here)) ∙ left.0 in
      absurd (cc)
  cleared_fits m j g there false apart =
      let left = left_bound i (link_in (module_of (loaded_at emptied m)) j) g (sym (emptied_link m j) ∙ there) in
      let stays : module_of (loaded_at emptied m) ≡ module_at (modules_of bs) m = ap module_of (other_set bs i m None (eqb-false m i apart)) ∙ sym (module_loaded bs m) in
      let old : link_at (modules_of bs) m j ≡ Some g = sym (ap (λ (x : Module). link_in x j) stays) ∙ left.0 in
      fits_same (modules_of bs) (modules_of cleared) m j g (cleared_tree m (eqb-false m i apart)) (cleared_tree g.home left.1) (linked.each m j g old)

  linked_cleared : AreLinked (modules_of cleared)
  linked_cleared = record { each = λ m j g there. cleared_fits m j g there (m == i) refl }

-- ---- an import that leads somewhere else

link_put : (ls : List (Option Routine)) (i j : ℕ) (link : Option Routine) (g : Routine) → option_flatten (slice_get (slice_set ls i link) j) ≡ Some g
    → ((j ≡ i) × (link ≡ Some g)) ⊎ (option_flatten (slice_get ls j) ≡ Some g)
link_put [] i j link g there = absurd (cc)
link_put (l ∷ ls) zero zero link g there = inl (refl, there)
link_put (l ∷ ls) zero (suc j) link g there = inr there
link_put (l ∷ ls) (suc i) zero link g there = inr there
link_put (l ∷ ls) (suc i) (suc j) link g there = elim (link_put ls i j link g there) [
  | inl p ↦ inl (ap suc p.0, p.1)
  | inr e ↦ inr e
]

links_with : (i : ℕ) (link : Option Routine) (o : Option LoadedModule) → (module_of (option_map (with_link i link) o)).links ≡ slice_set (module_of o).links i link
links_with i link None = refl
links_with i link (Some x) = refl

tree_with : (i : ℕ) (link : Option Routine) (o : Option LoadedModule) → (module_of (option_map (with_link i link) o)).tree ≡ (module_of o).tree
tree_with i link None = refl
tree_with i link (Some x) = refl

module _ (bs : List (Option LoadedModule)) (m i : ℕ) (link : Option Routine) (linked : AreLinked (modules_of bs)) (fits : (g : Routine) → link ≡ Some g → LinkFits (modules_of bs) m i g) where
  abbrev other_link : Option LoadedModule
  other_link = option_map (with_link i link) (loaded_at bs m)

  bound_tree : (own : loaded_at (linked_in m i link bs) m ≡ other_link) (k : ℕ) (c : Bool) → (k == m) ≡ c → tree_at (modules_of (linked_in m i link bs)) k ≡ tree_at (modules_of bs) k
  bound_tree own k true same =
      let e : k ≡ m = eqb-true k m same in
      ap (λ (x : Module). x.tree) (module_loaded (linked_in m i link bs) k ∙ ap module_of (ap (loaded_at (linked_in m i link bs)) e ∙ own))
      ∙ tree_with i link (loaded_at bs m) ∙ ap (λ (x : Module). x.tree) (sym (module_loaded bs m) ∙ ap (module_at (modules_of bs)) (sym e))
  bound_tree own k false apart = ap (λ (x : Module). x.tree) (module_stays bs m k other_link (eqb-false k m apart))

  bound_link : (own : loaded_at (linked_in m i link bs) m ≡ other_link) (k j : ℕ) (g : Routine) (c : Bool) → (k == m) ≡ c → link_at (modules_of (linked_in m i link bs)) k j ≡ Some g
      → LinkFits (modules_of bs) k j g
  bound_link own k j g true same there =
      let e : k ≡ m = eqb-true k m same in
      let here : option_flatten (slice_get (slice_set (module_of (loaded_at bs m)).links i link) j) ≡ Some g =
      sym (ap (λ (x : Module). link_in x j) (module_loaded (linked_in m i link bs) k ∙ ap module_of (ap (loaded_at (linked_in m i link bs)) e ∙ own))
      ∙ ap (λ l. option_flatten (slice_get l j)) (links_with i link (loaded_at bs m))) ∙ there in
      subst (λ n. LinkFits (modules_of bs) n j g) (sym e)
      (elim (link_put (module_of (loaded_at bs m)).links i j link g here) [
        | inl p ↦ subst (λ n. LinkFits (modules_of bs) m n g) (sym p.0) (fits g p.1)
        | inr old ↦ linked.each m j g (ap (λ (x : Module). link_in x j) (module_loaded bs m) ∙ old)
      ])
  bound_link own k j g false apart there =
      linked.each k j g (sym (ap (λ (x : Module). link_in x j) (module_stays bs m k other_link (eqb-false k m apart))) ∙ there)

  linked_bound : AreLinked (modules_of (linked_in m i link bs))
  linked_bound = elim (own_set bs m other_link) [
    | inl own ↦ record {
      each = λ k j g there.
          fits_same (modules_of bs) (modules_of (linked_in m i link bs)) k j g (bound_tree own k (k == m) refl) (bound_tree own g.home (g.home == m) refl)
          (bound_link own k j g (k == m) refl there);
    }
    | inr p ↦ subst (λ l. AreLinked (modules_of l)) (sym p.1) linked
  ]

-- ---- code whose imports lead elsewhere

code_relinked : (m : ℕ) (c d : ModuleCode) (x : Module) (ks ls : List (Option Routine)) → IsCodeOf m (Some c) x → IsRelinked c ks d → ks ≡ ls → IsCodeOf m (Some d) (record x { links = ls })
code_relinked m c d x ks ls h r same = record {
  name = r.name ∙ h.name;
  entities = r.entities ∙ h.entities;
  passings = ap (list_map (λ b. b.params.items)) r.bodies ∙ h.passings;
  results = ap (list_map (λ b. b.result)) r.bodies ∙ h.results;
  compiled = subst (IsCompiled x.tree) (sym r.bodies) h.compiled;
  imports = r.params ∙ h.imports;
  links = r.bound ∙ same;
  classes = ap (list_map class_of) r.classes ∙ h.classes;
  slots = ap (list_map (λ y. y.items)) r.slots ∙ h.slots;
  sound = h.sound;
}

code_unbound : (m i : ℕ) (c d : ModuleCode) (o : Option LoadedModule) → IsCodeOf m (Some c) (module_of o) → IsRelinked c (unbound_links i (bounds_of c)) d
    → IsCodeOf m (Some d) (module_of (option_map (without_links i) o))
code_unbound m i c d None h r = code_relinked m c d unbuilt (unbound_links i (bounds_of c)) [] h r (ap (unbound_links i) h.links)
code_unbound m i c d (Some x) h r = code_relinked m c d (module_of (Some x)) (unbound_links i (bounds_of c)) (unbound_links i x.links) h r (ap (unbound_links i) h.links)

code_linked : (m i : ℕ) (link : Option Routine) (c d : ModuleCode) (o : Option LoadedModule) → IsCodeOf m (Some c) (module_of o) → IsRelinked c (slice_set (bounds_of c) i link) d
    → IsCodeOf m (Some d) (module_of (option_map (with_link i link) o))
code_linked m i link c d None h r = code_relinked m c d unbuilt (slice_set (bounds_of c) i link) [] h r (ap (λ l. slice_set l i link) h.links)
code_linked m i link c d (Some x) h r = code_relinked m c d (module_of (Some x)) (slice_set (bounds_of c) i link) (slice_set x.links i link) h r (ap (λ l. slice_set l i link) h.links)

-- all places, in which imports that led to module i are unbound
unbound_at : (i : ℕ) (P : ℕ → Option ModuleCode → Module → Type 0)
    → ((k : ℕ) (c d : ModuleCode) (o : Option LoadedModule) → P k (Some c) (module_of o) → IsRelinked c (unbound_links i (bounds_of c)) d → P k (Some d) (module_of (option_map (without_links i) o)))
    → (cs ds : List ModuleCode) (bs : List (Option LoadedModule)) → ((m : ℕ) → P m (slice_get cs m) (slice_index_or (modules_of bs) m unbuilt)) → length cs ≡ length bs → HasUnbound i cs ds
    → (m : ℕ) → P m (slice_get ds m) (slice_index_or (modules_of (unbound_in i bs)) m unbuilt)
unbound_at i P one [] [] [] p e h m = p m
unbound_at i P one [] [] (b ∷ bs) p e h m = absurd (omega (arith, e))
unbound_at i P one [] (d ∷ ds) bs p e h m = absurd h
unbound_at i P one (c ∷ cs) [] bs p e h m = absurd h
unbound_at i P one (c ∷ cs) (d ∷ ds) [] p e h m = absurd (omega (arith, e))
unbound_at i P one (c ∷ cs) (d ∷ ds) (b ∷ bs) p e h zero = one zero c d b (p zero) h.0
unbound_at i P one (c ∷ cs) (d ∷ ds) (b ∷ bs) p e h (suc m) =
    unbound_at i (λ k. P (suc k)) (λ k. one (suc k)) cs ds bs (λ n. p (suc n)) (omega (arith, e)) h.1 m

places_unbound : (i : ℕ) (cs ds : List ModuleCode) (bs : List (Option LoadedModule)) → Places cs bs → length cs ≡ length bs → HasUnbound i cs ds → Places ds (unbound_in i bs)
places_unbound i cs ds bs p e h = unbound_at i IsCodeOf (λ k c d o. code_unbound k i c d o) cs ds bs p e h

item_there : {A : Type 0} (xs : List A) (n : ℕ) → n < length xs → (x : A) × (slice_get xs n ≡ Some x)
item_there [] n h = absurd (omega (arith, h))
item_there (x ∷ xs) zero h = (x, refl)
item_there (x ∷ xs) (suc n) h = item_there xs n (omega (arith, h))

-- what stands in a place, by two words for it
pub stood_there : {A : Type 0} (P : A → Type 0) (xs : List A) (n : ℕ) (old x : A) → old ≡ slice_index_or xs n old → slice_get xs n ≡ Some x → P old → P x
stood_there P [] n old x stood at p = absurd (cc)
stood_there P (y ∷ xs) zero old x stood at p = let same : y ≡ x = cc in subst P (stood ∙ same) p
stood_there P (y ∷ xs) (suc n) old x stood at p = stood_there P xs n old x stood at p

places_linked : (m i : ℕ) (link : Option Routine) (cs : List ModuleCode) (bs : List (Option LoadedModule)) → Places cs bs → length cs ≡ length bs → m < length cs → (d : ModuleCode)
    → ((c : ModuleCode) → slice_get cs m ≡ Some c → IsRelinked c (slice_set (bounds_of c) i link) d) → Places (slice_set cs m d) (linked_in m i link bs)
places_linked m i link cs bs p e lt d h =
    let c = item_there cs m lt in
    let here : IsCodeOf m (Some c.0) (module_of (loaded_at bs m)) =
    subst (λ o. IsCodeOf m o (module_of (loaded_at bs m))) c.1 (subst (λ x. IsCodeOf m (slice_get cs m) x) (module_loaded bs m) (p m)) in
    places_put cs bs m p e d (option_map (with_link i link) (loaded_at bs m)) (code_linked m i link c.0 d (loaded_at bs m) here (h c.0 c.1))

-- ---- what a model keeps

loaded_by : (t : Table) (cs : List ModuleCode) (bs : List (Option LoadedModule)) → t.modules.items ≡ cs → Places cs bs → AreLinked (modules_of bs) → length cs ≡ length bs → IsLoaded t bs
loaded_by t cs bs same places linked count = record {
  holds = record { each = subst (λ l. Places l bs) (sym same) places; linked = linked };
  same = ap length same ∙ count;
}

pub loaded_none : (t : Table) (bs : List (Option LoadedModule)) → t.modules.items ≡ [] → bs ≡ [] → IsLoaded t bs
loaded_none t bs none empty = subst (IsLoaded t) (sym empty) (loaded_by t [] [] none no_places linked_none refl)

module _ (t t' : Table) (bs bs' : List (Option LoadedModule)) (is : IsLoaded t bs) where
  pub loaded_same : t'.modules.items ≡ t.modules.items → bs' ≡ bs → IsLoaded t' bs'
  loaded_same same kept = subst (IsLoaded t') (sym kept) (loaded_by t' t.modules.items bs same is.holds.each is.holds.linked is.same)

  pub loaded_pushed : (c : ModuleCode) → t'.modules.items ≡ t.modules.items ++ c ∷ [] → bs' ≡ bs ++ None ∷ [] → ((m : ℕ) → IsCodeOf m (Some c) unbuilt) → IsLoaded t' bs'
  loaded_pushed c pushed added is_code =
      let count : length (t.modules.items ++ c ∷ []) ≡ length (bs ++ None ∷ []) = length-append t.modules.items (c ∷ []) ∙ ap (λ n. n + 1) is.same ∙ sym (length-append bs (None ∷ [])) in
      subst (IsLoaded t') (sym added) (loaded_by t' (t.modules.items ++ c ∷ []) (bs ++ None ∷ []) pushed (places_pushed t.modules.items bs is.holds.each is.same c is_code) (linked_pushed bs is.holds.linked) count)

  pub loaded_put : (i : ℕ) (c : ModuleCode) (b : LoadedModule) → t'.modules.items ≡ slice_set t.modules.items i c → bs' ≡ slice_set bs i (Some b) → IsCodeOf i (Some c) (module_of (Some b))
      → loaded_at bs i ≡ None → b.links ≡ list_map (λ h. None) b.tree.imports → IsLoaded t' bs'
  loaded_put i c b put there is_code empty unbound =
      let count : length (slice_set t.modules.items i c) ≡ length (slice_set bs i (Some b)) = set_length t.modules.items i c ∙ is.same ∙ sym (set_length bs i (Some b)) in
      subst (IsLoaded t') (sym there)
      (loaded_by t' (slice_set t.modules.items i c) (slice_set bs i (Some b)) put (places_put t.modules.items bs i is.holds.each is.same c (Some b) is_code)
      (linked_put bs i b empty unbound is.holds.linked) count)

  -- the module is not built any more, and imports that were bound to it are unbound
  pub loaded_cleared : (i : ℕ) (c : ModuleCode) (cs : List ModuleCode) → cs ≡ slice_set t.modules.items i c → IsCodeOf i (Some c) unbuilt → HasUnbound i cs t'.modules.items
      → bs' ≡ unbound_in i (slice_set bs i None) → IsLoaded t' bs'
  loaded_cleared i c cs put is_code unbound there =
      let places : Places cs (slice_set bs i None) = subst (λ l. Places l (slice_set bs i None)) (sym put) (places_put t.modules.items bs i is.holds.each is.same c None is_code) in
      let count : length t'.modules.items ≡ length (unbound_in i (slice_set bs i None)) =
      AllZip-long _ cs t'.modules.items unbound ∙ ap length put ∙ set_length t.modules.items i c ∙ is.same ∙ sym (set_length bs i None)
      ∙ sym (length-map (slice_set bs i None) (option_map (without_links i))) in
      subst (IsLoaded t') (sym there)
      (loaded_by t' t'.modules.items (unbound_in i (slice_set bs i None)) refl (places_unbound i cs t'.modules.items (slice_set bs i None) places (ap length put ∙ set_length t.modules.items i c ∙ is.same ∙ sym (set_length bs i None)) unbound)
      (linked_cleared bs i is.holds.linked) count)

  -- an import leads somewhere else
  pub loaded_linked : (m i : ℕ) (link : Option Routine) → m < length bs → HasLink t.modules.items m i link t'.modules.items → bs' ≡ linked_in m i link bs
      → ((g : Routine) → link ≡ Some g → LinkFits (modules_of bs) m i g) → IsLoaded t' bs'
  loaded_linked m i link within h there fits =
      let count : length (slice_set t.modules.items m h.code) ≡ length (linked_in m i link bs) =
      set_length t.modules.items m h.code ∙ is.same ∙ sym (set_length bs m (option_map (with_link i link) (loaded_at bs m))) in
      subst (IsLoaded t') (sym there)
      (loaded_by t' (slice_set t.modules.items m h.code) (linked_in m i link bs) h.put (places_linked m i link t.modules.items bs is.holds.each is.same (omega (arith, within, is.same)) h.code h.relinked)
      (linked_bound bs m i link is.holds.linked fits) count)

-- ---- the numbers of a module's bodies

result_listed : (cs : List RoutineCode) (n : ℕ) → result_among (slice_get cs n) ≡ option_flatten (slice_get (list_map (λ x. x.result) cs) n)
result_listed [] n = refl
result_listed (c ∷ cs) zero = refl
result_listed (c ∷ cs) (suc n) = result_listed cs n

module _ (t : Table) (ms : List Module) (is : IsTableOf t ms) (m : ℕ) where
  abbrev p : tree.Program
  p = (module_at ms m).tree

  -- the functions and the initializers are all bodies
  pub counted : length (codes_of (code_at t m)) ≡ length p.functions + length (initializers_from 0 p.globals)
  counted =
      let codes = codes_of (code_at t m) in
      let bodies : length codes ≡ length (passings_in p) = sym (length-map codes (λ c. c.params.items)) ∙ ap length (is.each m).passings in
      let parts : length (passings_in p) ≡ length (list_map (λ f. passings_of f.parameters) p.functions) + length (list_map (λ c. []) (initializers_from 0 p.globals)) =
      length-append (list_map (λ f. passings_of f.parameters) p.functions) (list_map (λ c. []) (initializers_from 0 p.globals)) in
      omega (arith, bodies, parts, length-map p.functions (λ f. passings_of f.parameters), length-map {B = List Passing} (initializers_from 0 p.globals) (λ c. []))

  -- those of its initializers go from the number of its functions to that of its bodies
  pub numbered : (first end : ℕ) → first ≡ length p.functions → end ≡ length (codes_of (code_at t m)) → initializers_of m p ≡ routines_at m first (end - first)
  numbered first end functions bodies =
      let count : length (initializers_from 0 p.globals) ≡ end - first = omega (arith, counted, functions, bodies) in
      routines_counted m (length p.functions) (initializers_from 0 p.globals)
      ∙ ap (λ n. routines_at m n (length (initializers_from 0 p.globals))) (sym functions)
      ∙ ap (routines_at m first) count

  -- the code of a function has the type of its value
  pub typed : (n count : ℕ) → TakesSoMany ms m n count → result_of t (routine m n) ≡ result_at ms m n
  typed n count takes =
      result_listed (codes_of (code_at t m)) n
      ∙ ap (λ l. option_flatten (slice_get l n)) (is.each m).results
      ∙ ap option_flatten (gives_as p n takes.function takes.at)
      ∙ sym (ap result_in takes.at)
