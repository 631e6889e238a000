-- What is kept of the programs of modules: each is what some sections build to over a part of one list, and each link is between two sides of one call.
use Rattle.std.proofs.Common.{inl, inr, ◌≡◌, ◌≢◌, ◌<◌, refl, sym, ap, ◌∙◌, subst, arith, ℕ, zero, suc, List, [], ◌∷◌, length, map, Option, Some, None}
use Rattle.std.specs.Prelude.{◌⊎◌, option_map, slice_get, slice_set, slice_index_or}
use Rattle.std.proofs.lemmas.Option.{same_Some}
use Rattle.ang_view.specs.Registration.{RegistrationList}
use Rattle.ang_names_known.specs.declared.names.Names.{Names}
use Rattle.ang_meaning.specs.declared.routine.Routine.{Routine}
use Rattle.ang_source.specs.Meaning.{class_among}
use Rattle.ang_typed.specs.Typed as t
use Rattle.ang_source_typed.specs.Types.{TypedModule}
use Rattle.ang_source_typed.specs.Runs.{IsTypedSetting}
use Rattle.ang_engine_modules.specs.Executed.{setting_for}
use Rattle.ang_engine_modules.specs.World.{Program, ModuleState, ModuleStates, unbound_program, unbound_module, built_in}
use Rattle.ang_engine_modules.specs.Commands.{with_link}
use Rattle.ang_alike.specs.Misfits.{typed_of, typed_modules}
use Rattle.ang_alike.proofs.ByNumber.{at_unbound, set_either}
use Rattle.ang_alike.proofs.Modules.{IsPut, links_put, free_of, flat_unbound}
use Rattle.ang_alike.proofs.TypedPrograms.{IsOwnProgram, program_in, programs_of, link_in, tree_known, leads_there, modules_stand}
use Rattle.ang_check_laws.proofs.SettingsTyped.{settings_typed}
use Rattle.ang_check_laws.proofs.Whole.{program_typed}
use Rattle.ang_alike.proofs.TypedLinks.{IsBound, bound_declared}
use Rattle.ang_alike.proofs.TypedWorlds.{SameClasses}

-- by the numbers of modules
abbrev pub Programs : Type 0
Programs = ℕ → Option Program

pub record AreOwn (L : RegistrationList) (ps : Programs) : Type 0 where
  pub each : (m : ℕ) (p : Program) → ps m ≡ Some p → IsOwnProgram L p
  pub bound : (m i : ℕ) (g : Routine) → link_in (ps m) i ≡ Some g → IsBound (ps m) i (ps g.home) g.number

-- ---- their setting

module _ (L : RegistrationList) (ms : ModuleStates) (own : AreOwn L (programs_of ms)) where
  pub setting_typed : (nesting : ℕ) → IsTypedSetting (setting_for (built_in ms) nesting) (typed_modules ms)
  setting_typed nesting =
      settings_typed program_typed L (setting_for (built_in ms) nesting) (typed_modules ms) (modules_stand ms nesting L own.each) (λ m i g leads.
      let b = own.bound m i g (sym (leads_there ms nesting m i) ∙ leads) in
      bound_declared L ms nesting m i g b (own.each m b.importer b.here) (own.each g.home b.exporter b.there))

-- modules of equal programs, but for links, have the same classes
pub same_classes : (ms ns : ModuleStates) (a b m : ℕ) → typed_modules ns m ≡ typed_modules ms m → SameClasses (setting_for (built_in ms) a) (setting_for (built_in ns) b) m
same_classes ms ns a b m e c =
    ap (λ (p : t.Program). class_among p.classes c) (tree_known ns m ∙ ap (λ (x : TypedModule). x.program) e ∙ sym (tree_known ms m))

-- ---- programs that change

pub own_same : (L : RegistrationList) (ps qs : Programs) → ((m : ℕ) → qs m ≡ ps m) → AreOwn L ps → AreOwn L qs
own_same L ps qs e h = subst (AreOwn L) (λ j. λ m. sym (e m) j) h

-- another program stands there, of the same names
abbrev HasSame : Option Program → Option Program → Type 0
HasSame o x = (p : Program) → o ≡ Some p → (q : Program) × (x ≡ Some q) × (q.names ≡ p.names)

same_itself : (o : Option Program) → HasSame o o
same_itself o = λ p e. (p, e, refl)

bound_still : (o e x y : Option Program) (i n : ℕ) → HasSame o x → HasSame e y → IsBound o i e n → IsBound x i y n
bound_still o e x y i n one other b =
    let p = one b.importer b.here in
    let q = other b.exporter b.there in
    record {
      importer = p.0;
      here = p.1;
      import = b.import;
      declared = ap (λ (ns : Names). slice_get ns.imports i) p.2 ∙ b.declared;
      exporter = q.0;
      there = q.1;
      function = b.function;
      at = ap (λ (ns : Names). slice_get ns.functions n) q.2 ∙ b.at;
      same = b.same;
    }

-- ---- an import is bound or unbound

own_linked : (L : RegistrationList) (index : ℕ) (link : Option Routine) (p : Program) → IsOwnProgram L p → IsOwnProgram L (with_link index link p)
own_linked L index link p h =
    record { sight = h.sight; sections = h.sections; built = h.built; view = h.view; values = h.values; few = h.few; handles = h.handles; within = h.within }

-- in one place at most there is the program with another link
abbrev AreRelinked : Programs → ℕ → Option Program → Programs → Type 0
AreRelinked ps i new qs = (m : ℕ) → (qs m ≡ ps m) ⊎ ((m ≡ i) × (qs m ≡ new))

module _ (L : RegistrationList) (ps qs : Programs) (i index : ℕ) (link : Option Routine) (p : Program) (here : ps i ≡ Some p) (moved : AreRelinked ps i (Some (with_link index link p)) qs)
    (h : AreOwn L ps) (fits : (g : Routine) → link ≡ Some g → IsBound (ps i) index (ps g.home) g.number) where
  new_same : (m : ℕ) → ps m ≡ ps i → qs m ≡ Some (with_link index link p) → HasSame (ps m) (qs m)
  new_same m a b = λ q e. (with_link index link p, b, ap (λ (x : Program). x.names) (same_Some p q (sym here ∙ sym a ∙ e)))

  all_same : (m : ℕ) → HasSame (ps m) (qs m)
  all_same m = elim (moved m) [
    | inl e ↦ λ q at. (q, e ∙ at, refl)
    | inr e ↦ new_same m (ap ps e.0) e.1
  ]

  relinked_each : (m : ℕ) (q : Program) → qs m ≡ Some q → IsOwnProgram L q
  relinked_each m q at = elim (moved m) [
    | inl e ↦ h.each m q (sym e ∙ at)
    | inr e ↦ subst (IsOwnProgram L) (same_Some (with_link index link p) q (sym e.1 ∙ at)) (own_linked L index link p (h.each i p here))
  ]

  put_bound : (k : ℕ) (g : Routine) → IsPut index link k g p.links → IsBound (ps i) k (ps g.home) g.number
  put_bound k g (inl e) = subst (λ j. IsBound (ps i) j (ps g.home) g.number) (sym e.0) (fits g e.1)
  put_bound k g (inr e) = h.bound i k g (ap (λ (o : Option Program). link_in o k) here ∙ e)

  relinked_bound : (m k : ℕ) (g : Routine) → link_in (qs m) k ≡ Some g → IsBound (ps m) k (ps g.home) g.number
  relinked_bound m k g at = elim (moved m) [
    | inl e ↦ h.bound m k g (ap (λ (o : Option Program). link_in o k) (sym e) ∙ at)
    | inr e ↦ subst (λ j. IsBound (ps j) k (ps g.home) g.number) (sym e.0)
        (put_bound k g (links_put p.links index link k g (ap (λ (o : Option Program). link_in o k) (sym e.1) ∙ at)))
  ]

  pub own_relinked : AreOwn L qs
  own_relinked = record {
    each = relinked_each;
    bound = λ m k g at. bound_still (ps m) (ps g.home) (qs m) (qs g.home) k g.number (all_same m) (all_same g.home) (relinked_bound m k g at);
  }

-- ---- a module is built anew, or none stands in its place

own_unbound : (L : RegistrationList) (i : ℕ) (p : Program) → IsOwnProgram L p → IsOwnProgram L (unbound_program i p)
own_unbound L i p h =
    record { sight = h.sight; sections = h.sections; built = h.built; view = h.view; values = h.values; few = h.few; handles = h.handles; within = h.within }

-- in place i there may be another program, and no import of the others leads to it
abbrev AreRebuilt : Programs → ℕ → Option Program → Programs → Type 0
AreRebuilt ps i new qs = (m : ℕ) → (qs m ≡ option_map (unbound_program i) (ps m)) ⊎ ((m ≡ i) × (qs m ≡ new))

module _ (L : RegistrationList) (ps qs : Programs) (i : ℕ) (new : Option Program) (moved : AreRebuilt ps i new qs) (h : AreOwn L ps) (own : (p : Program) → new ≡ Some p → IsOwnProgram L p)
    (nowhere : (k : ℕ) (g : Routine) → link_in new k ≡ Some g → ⊥) where
  unbound_same : (o x : Option Program) → x ≡ option_map (unbound_program i) o → HasSame o x
  unbound_same o x e = λ p at. (unbound_program i p, e ∙ ap (option_map (unbound_program i)) at, refl)

  left_each : (o : Option Program) (q : Program) → ((p : Program) → o ≡ Some p → IsOwnProgram L p) → option_map (unbound_program i) o ≡ Some q → IsOwnProgram L q
  left_each None q k e = absurd (let x : ⊥ = cc in x)
  left_each (Some p) q k e = subst (IsOwnProgram L) (same_Some (unbound_program i p) q e) (own_unbound L i p (k p refl))

  rebuilt_each : (m : ℕ) (q : Program) → qs m ≡ Some q → IsOwnProgram L q
  rebuilt_each m q at = elim (moved m) [
    | inl e ↦ left_each (ps m) q (h.each m) (sym e ∙ at)
    | inr e ↦ own q (sym e.1 ∙ at)
  ]

  -- a link that is left led there before, and to another module
  record IsOld (o : Option Program) (k : ℕ) (g : Routine) : Type 0 where
    leads : link_in o k ≡ Some g
    elsewhere : g.home ≢ i

  old_link : (o : Option Program) (k : ℕ) (g : Routine) → link_in (option_map (unbound_program i) o) k ≡ Some g → IsOld o k g
  old_link None k g e = absurd (let x : ⊥ = cc in x)
  old_link (Some p) k g e =
      let f = free_of i (slice_get p.links k) g (sym (flat_unbound i p.links k) ∙ e) in
      record { leads = f.leads; elsewhere = f.elsewhere }

  others_same : (m : ℕ) → m ≢ i → HasSame (ps m) (qs m)
  others_same m ne = elim (moved m) [
    | inl e ↦ unbound_same (ps m) (qs m) e
    | inr e ↦ absurd (ne e.0)
  ]

  rebuilt_bound : (m k : ℕ) (g : Routine) → link_in (qs m) k ≡ Some g → IsBound (qs m) k (qs g.home) g.number
  rebuilt_bound m k g at = elim (moved m) [
    | inl e ↦
        let old = old_link (ps m) k g (ap (λ (o : Option Program). link_in o k) (sym e) ∙ at) in
        bound_still (ps m) (ps g.home) (qs m) (qs g.home) k g.number (unbound_same (ps m) (qs m) e) (others_same g.home old.elsewhere) (h.bound m k g old.leads)
    | inr e ↦ absurd (nowhere k g (ap (λ (o : Option Program). link_in o k) (sym e.1) ∙ at))
  ]

  pub own_rebuilt : AreOwn L qs
  own_rebuilt = record { each = rebuilt_each; bound = rebuilt_bound }

-- ---- places

-- where an item is put, or what stands there
unbound_in : (i : ℕ) (o : Option ModuleState) → program_in (option_map (unbound_module i) o) ≡ option_map (unbound_program i) (program_in o)
unbound_in i None = refl
unbound_in i (Some m) = refl

-- these modules, with no import that leads to module i, and with this in its place
abbrev pub rebuilt_at : ModuleStates → ℕ → Option ModuleState → List ℕ → ModuleStates
rebuilt_at ms i o order = record { places = slice_set (map (option_map (unbound_module i)) ms.places) i o; order = order }

pub programs_rebuilt : (ms : ModuleStates) (i : ℕ) (o : Option ModuleState) (order : List ℕ) → AreRebuilt (programs_of ms) i (program_in o) (programs_of (rebuilt_at ms i o order))
programs_rebuilt ms i o order m =
    let others : List (Option ModuleState) = map (option_map (unbound_module i)) ms.places in
    elim (set_either others i m o None) [
      | inl e ↦ inl (ap program_in (e ∙ at_unbound ms.places i m) ∙ unbound_in i (slice_index_or ms.places m None))
      | inr e ↦ inr (e.0, ap program_in e.1)
    ]

pub programs_relinked : (ms : ModuleStates) (i : ℕ) (x : ModuleState) (order : List ℕ) → AreRelinked (programs_of ms) i x.program (programs_of (record { places = slice_set ms.places i (Some x); order = order }))
programs_relinked ms i x order m = elim (set_either ms.places i m (Some x) None) [
  | inl e ↦ inl (ap program_in e)
  | inr e ↦ inr (e.0, ap program_in e.1)
]

-- typing knows the same of a module but for its links
typed_unbound : (i : ℕ) (o : Option Program) → typed_of (option_map (unbound_program i) o) ≡ typed_of o
typed_unbound i None = refl
typed_unbound i (Some p) = refl

pub typed_elsewhere : (ms : ModuleStates) (i : ℕ) (o : Option ModuleState) (order : List ℕ) (m : ℕ) → m ≢ i → typed_modules (rebuilt_at ms i o order) m ≡ typed_modules ms m
typed_elsewhere ms i o order m ne = elim (programs_rebuilt ms i o order m) [
  | inl e ↦ ap typed_of e ∙ typed_unbound i (programs_of ms m)
  | inr e ↦ absurd (ne e.0)
]

typed_linked : (index : ℕ) (link : Option Routine) (p : Program) (x o : Option Program) → o ≡ Some p → x ≡ Some (with_link index link p) → typed_of x ≡ typed_of o
typed_linked index link p x o e f = ap typed_of f ∙ sym (ap typed_of e)

pub typed_relinked : (ps qs : Programs) (i index : ℕ) (link : Option Routine) (p : Program) → ps i ≡ Some p → AreRelinked ps i (Some (with_link index link p)) qs → (m : ℕ) → typed_of (qs m) ≡ typed_of (ps m)
typed_relinked ps qs i index link p here moved m = elim (moved m) [
  | inl e ↦ ap typed_of e
  | inr e ↦ typed_linked index link p (qs m) (ps m) (ap ps e.0 ∙ here) e.1
]

pub rebuilt_here : (ms : ModuleStates) (i : ℕ) (o : Option ModuleState) (order : List ℕ) → i < length ms.places → programs_of (rebuilt_at ms i o order) i ≡ program_in o
rebuilt_here ms i o order lt = ap program_in (set_there ms.places i o lt)
  where
    set_there : (xs : List (Option ModuleState)) (k : ℕ) (x : Option ModuleState) → k < length xs → slice_index_or (slice_set (map (option_map (unbound_module i)) xs) k x) k None ≡ x
    set_there [] k x less = absurd (let q : ⊥ = omega (arith, less) in q)
    set_there (y ∷ ys) zero x less = refl
    set_there (y ∷ ys) (suc k) x less = set_there ys k x (omega (arith, less))
