-- What the modules of an engine keep: each program is what some sections are built to, and imports lead where they may.
use Rattle.std.proofs.Common.{inl, inr, ◌≡◌, ◌≢◌, ◌≤◌, ℕ, zero, suc, List, [], ◌∷◌, ◌++◌, length, refl, sym, ap, ◌∙◌, subst, Option, Some, None, map}
use Rattle.std.specs.Prelude.{◌⊎◌, Bool, true, false, ◌==◌, option_map, is_none, position, slice_get, slice_set, slice_index_or, if◌then◌else◌}
use Rattle.std.specs.Option.{option_flatten}
use Rattle.std.proofs.lemmas.Bool.{eqb-false}
use Rattle.ang_view.specs.Registration.{RegistrationList}
use Rattle.ang_view.specs.Values.{TakesValues}
use Rattle.ang_engine_build.specs.Narrowed.{narrowed}
use Rattle.ang_engine_build.proofs.Narrowing.{narrowed_sound}
use Rattle.ang_view.proofs.Seen.{position-passes}
use Rattle.ang_typed.specs.declared.program.Heading.{Heading}
use Rattle.ang_typed.specs.Typed as t
use Rattle.ang_names_known.specs.declared.names.ScriptFunction.{ScriptFunction}
use Rattle.ang_check.specs.Typing.{typed_parameters}
use Rattle.ang_check.specs.Bodies.{import_heading}
use Rattle.ang_check_sound.specs.Checked.{module_in}
use Rattle.ang_meaning.specs.declared.routine.Passing.{Passing}
use Rattle.ang_meaning.specs.declared.routine.Routine.{Routine}
use Rattle.ang_source.specs.Meaning.{nothing, passings_of, passings_in, heading_among, initializers_from, routine}
use Rattle.ang_source.specs.Sound.{SoundProgram}
use Rattle.ang_engine_build.specs.Build.{Compiled, build_of}
use Rattle.ang_engine_build.specs.Named.{HasNamesOf}
use Rattle.ang_engine_build.proofs.Programs.{program-sound, program-named}
use Rattle.ang_engine_modules.specs.Modules.{Module, module_at, link_at, unbound_link, unbound_links, LinkFits, AreLinked}
use Rattle.ang_engine_modules.specs.World.{Program, ModuleState, ModuleStates, module_in as state_in, unbound_program, unbound_module, built_of, built_at, built_in}
use Rattle.ang_engine_modules.specs.Commands.{fresh_module, with_link}
use Rattle.ang_engine_modules.proofs.PlaceLists.{get-map, map-get, get-front}
use Rattle.ang_alike.proofs.ByNumber.{by_number, at_places, at_more, at_unbound, none_empty, end_none}
use Rattle.ang_alike.proofs.Linking.{IsBindable, program_imports, takes_alike}

-- ---- programs

-- it is what some sections are built to, over what a registry showed, of which it keeps what it uses
pub record IsProgram (p : Program) : Type 0 where
  pub sight : RegistrationList
  pub sections : List (List ℕ)
  pub built : build_of sight sections ≡ Compiled (record { names = p.names; tree = p.tree })
  pub view : p.view ≡ narrowed sight p.tree
  pub values : TakesValues sight
  pub few : length sight ≤ 1024

abbrev pub IsBuilt : Option Program → Type 0
IsBuilt None = Unit {0}
IsBuilt (Some p) = IsProgram p

abbrev pub IsPlace : Option ModuleState → Type 0
IsPlace None = Unit {0}
IsPlace (Some m) = IsBuilt m.program

abbrev pub ArePlaces : List (Option ModuleState) → Type 0
ArePlaces [] = Unit {0}
ArePlaces (o ∷ os) = IsPlace o × ArePlaces os

-- all programs are such, and each import leads to a function that takes its arguments so
pub record AreGood (ms : ModuleStates) : Type 0 where
  pub places : ArePlaces ms.places
  pub linked : AreLinked (built_in ms)

-- the same as runs know it: trees are sound over what their modules see
pub record AreSoundModules (ms : List Module) : Type 0 where
  pub each : (m : ℕ) → SoundProgram (module_at ms m).view (module_at ms m).tree
  pub linked : AreLinked ms

-- ---- places

pub place_set : (ps : List (Option ModuleState)) (i : ℕ) (o : Option ModuleState) → ArePlaces ps → IsPlace o → ArePlaces (slice_set ps i o)
place_set [] i o h k = tt
place_set (p ∷ ps) zero o h k = (k, h.1)
place_set (p ∷ ps) (suc i) o h k = (h.0, place_set ps i o h.1 k)

pub place_more : (ps : List (Option ModuleState)) → ArePlaces ps → ArePlaces (ps ++ None ∷ [])
place_more [] h = (tt, tt)
place_more (p ∷ ps) h = (h.0, place_more ps h.1)

program_unbound : (i : ℕ) (o : Option Program) → IsBuilt o → IsBuilt (option_map (unbound_program i) o)
program_unbound i None h = tt
program_unbound i (Some p) h = record { sight = h.sight; sections = h.sections; built = h.built; view = h.view; values = h.values; few = h.few }

place_unbound : (i : ℕ) (o : Option ModuleState) → IsPlace o → IsPlace (option_map (unbound_module i) o)
place_unbound i None h = tt
place_unbound i (Some m) h = program_unbound i m.program h

pub places_unbound : (i : ℕ) (ps : List (Option ModuleState)) → ArePlaces ps → ArePlaces (map (option_map (unbound_module i)) ps)
places_unbound i [] h = tt
places_unbound i (p ∷ ps) h = (place_unbound i p h.0, places_unbound i ps h.1)

place_found : (ps : List (Option ModuleState)) (i : ℕ) → ArePlaces ps → IsPlace (slice_index_or ps i None)
place_found [] i h = tt
place_found (p ∷ ps) zero h = h.0
place_found (p ∷ ps) (suc i) h = place_found ps i h.1

state_built : (o : Option ModuleState) → IsPlace o → IsBuilt (state_in o).program
state_built None h = tt
state_built (Some m) h = h

-- what is built of the module of a number
pub built_found : (ps : List (Option ModuleState)) (i : ℕ) → ArePlaces ps → IsBuilt (state_in (slice_index_or ps i None)).program
built_found ps i h = state_built (slice_index_or ps i None) (place_found ps i h)

-- ---- modules by number

at_other : (ps : List (Option ModuleState)) (i m : ℕ) (o : Option ModuleState) → m ≢ i → slice_index_or (slice_set ps i o) m None ≡ slice_index_or ps m None
at_other [] i m o h = refl
at_other (p ∷ ps) zero zero o h = absurd (h refl)
at_other (p ∷ ps) zero (suc m) o h = refl
at_other (p ∷ ps) (suc i) zero o h = refl
at_other (p ∷ ps) (suc i) (suc m) o h = at_other ps i m o (λ e. h (ap suc e))

-- a place that is there, or none
at_same : (P : Option ModuleState → Type 0) (ps : List (Option ModuleState)) (i : ℕ) (o : Option ModuleState) → P o → P None → P (slice_index_or (slice_set ps i o) i None)
at_same P [] i o h k = k
at_same P (p ∷ ps) zero o h k = h
at_same P (p ∷ ps) (suc i) o h k = at_same P ps i o h k

program_unlinked : (i : ℕ) (name : List ℕ) (o : Option Program) → built_of name (option_map (unbound_program i) o) ≡ record (built_of name o) { links = unbound_links i (built_of name o).links }
program_unlinked i name None = refl
program_unlinked i name (Some p) = refl

built_unbound : (i : ℕ) (o : Option ModuleState) → built_at (option_map (unbound_module i) o) ≡ record (built_at o) { links = unbound_links i (built_at o).links }
built_unbound i None = refl
built_unbound i (Some m) = program_unlinked i m.name m.program

built_state : (o : Option ModuleState) → built_at (Some (state_in o)) ≡ built_at o
built_state None = refl
built_state (Some m) = refl

-- the tree of what is built
pub tree_of : (o : Option ModuleState) (p : Program) → (state_in o).program ≡ Some p → built_at o ≡ record { name = (state_in o).name; view = p.view; tree = p.tree; links = p.links }
tree_of None p e = absurd (let x : ⊥ = cc in x)
tree_of (Some m) p e = ap (built_of m.name) e

-- ---- trees are sound

program_sound : (p : Program) → IsProgram p → SoundProgram p.view p.tree
program_sound p h =
    subst (λ V. SoundProgram V p.tree) (sym h.view)
    (narrowed_sound h.sight p.tree (program-sound h.sight h.sections (record { names = p.names; tree = p.tree }) h.values h.few h.built))

nothing_sound : SoundProgram [] nothing
nothing_sound = record { functions = tt; globals = tt; classes = tt }

built_sound : (name : List ℕ) (o : Option Program) → IsBuilt o → SoundProgram (built_of name o).view (built_of name o).tree
built_sound name None h = nothing_sound
built_sound name (Some p) h = program_sound p h

place_sound : (o : Option ModuleState) → IsPlace o → SoundProgram (built_at o).view (built_at o).tree
place_sound None h = nothing_sound
place_sound (Some m) h = built_sound m.name m.program h

pub modules_sound : (ms : ModuleStates) → AreGood ms → AreSoundModules (built_in ms)
modules_sound ms h = record {
  each = λ m. subst (λ (x : Module). SoundProgram x.view x.tree) (sym (at_places ms.places m)) (place_sound (slice_index_or ms.places m None) (place_found ms.places m h.places));
  linked = h.linked;
}

-- ---- where imports lead

-- A link of the modules after it is one of those before, between modules whose trees stay.
record IsLinkBefore (ms ns : List Module) (m i : ℕ) (g : Routine) : Type 0 where
  before : link_at ms m i ≡ Some g
  importer : (module_at ns m).tree ≡ (module_at ms m).tree
  exporter : (module_at ns g.home).tree ≡ (module_at ms g.home).tree

fits_again : (ms ns : List Module) (m i : ℕ) (g : Routine) → (module_at ns m).tree ≡ (module_at ms m).tree → (module_at ns g.home).tree ≡ (module_at ms g.home).tree → LinkFits ms m i g → LinkFits ns m i g
fits_again ms ns m i g importer exporter f = record {
  params = f.params;
  declared = ap (λ (p : t.Program). heading_among p.imports i) importer ∙ f.declared;
  function = ap (λ (p : t.Program). slice_get (passings_in p) g.number) exporter ∙ f.function;
}

links_before : (ms ns : List Module) → AreLinked ms → ((m i : ℕ) (g : Routine) → link_at ns m i ≡ Some g → IsLinkBefore ms ns m i g) → AreLinked ns
links_before ms ns h k = record {
  each = λ m i g there. let b = k m i g there in fits_again ms ns m i g b.importer b.exporter (h.each m i g b.before);
}

-- by number the modules are the same
same_linked : (ps qs : List (Option ModuleState)) → ((m : ℕ) → built_at (slice_index_or qs m None) ≡ built_at (slice_index_or ps m None)) → AreLinked (map built_at ps) → AreLinked (map built_at qs)
same_linked ps qs same h =
    let at : (m : ℕ) → module_at (map built_at qs) m ≡ module_at (map built_at ps) m = λ m. at_places qs m ∙ same m ∙ sym (at_places ps m) in
    links_before (map built_at ps) (map built_at qs) h (λ m i g there. record {
      before = ap (λ (x : Module). option_flatten (slice_get x.links i)) (sym (at m)) ∙ there;
      importer = ap (λ (x : Module). x.tree) (at m);
      exporter = ap (λ (x : Module). x.tree) (at g.home);
    })

-- ---- a module that is the same as runs know it

set_same : (ps : List (Option ModuleState)) (i : ℕ) (o : Option ModuleState) → built_at o ≡ built_at (slice_index_or ps i None) → (m : ℕ) → built_at (slice_index_or (slice_set ps i o) m None) ≡ built_at (slice_index_or ps m None)
set_same [] i o e m = refl
set_same (p ∷ ps) zero o e zero = e
set_same (p ∷ ps) zero o e (suc m) = refl
set_same (p ∷ ps) (suc i) o e zero = refl
set_same (p ∷ ps) (suc i) o e (suc m) = set_same ps i o e m

pub good_set : (ms : ModuleStates) (i : ℕ) (m : ModuleState) (order : List ℕ) → AreGood ms → IsBuilt m.program → built_at (Some m) ≡ built_at (slice_index_or ms.places i None)
    → AreGood (record { places = slice_set ms.places i (Some m); order = order })
good_set ms i m order h k e = record {
  places = place_set ms.places i (Some m) h.places k;
  linked = same_linked ms.places (slice_set ms.places i (Some m)) (set_same ms.places i (Some m) e) h.linked;
}

-- a module that keeps its program, with its name
pub good_kept : (ms : ModuleStates) (i : ℕ) (m : ModuleState) → AreGood ms → m.name ≡ (state_in (slice_index_or ms.places i None)).name → m.program ≡ (state_in (slice_index_or ms.places i None)).program
    → AreGood (record ms { places = slice_set ms.places i (Some m) })
good_kept ms i m h name program =
    let o = slice_index_or ms.places i None in
    good_set ms i m ms.order h (subst IsBuilt (sym program) (built_found ms.places i h.places))
    (ap (λ l. built_of l m.program) name ∙ ap (built_of (state_in o).name) program ∙ built_state o)

-- a place more
pub good_more : (ms : ModuleStates) → AreGood ms → AreGood (record ms { places = ms.places ++ None ∷ [] })
good_more ms h = record {
  places = place_more ms.places h.places;
  linked = same_linked ms.places (ms.places ++ None ∷ []) (λ m. ap built_at (at_more ms.places m)) h.linked;
}

-- a new module in the first empty place, and in one more
pub good_fresh : (ms : ModuleStates) (name : List ℕ) (mask i : ℕ) (order : List ℕ) → AreGood ms → position is_none ms.places ≡ Some i
    → AreGood (record { places = slice_set ms.places i (Some (fresh_module name mask)); order = order })
good_fresh ms name mask i order h e =
    good_set ms i (fresh_module name mask) order h tt (sym (ap built_at (none_empty (slice_index_or ms.places i None) (position-passes is_none ms.places i None e).1)))

pub good_new : (ms : ModuleStates) (name : List ℕ) (mask : ℕ) (order : List ℕ) → AreGood ms
    → AreGood (record { places = slice_set (ms.places ++ None ∷ []) (length ms.places) (Some (fresh_module name mask)); order = order })
good_new ms name mask order h =
    good_set (record ms { places = ms.places ++ None ∷ [] }) (length ms.places) (fresh_module name mask) order (good_more ms h) tt
    (sym (ap built_at (at_more ms.places (length ms.places) ∙ end_none ms.places)))

-- ---- no import leads to a module any more, and another one stands in its place

pub flat_unbound : (i : ℕ) (ls : List (Option Routine)) (k : ℕ) → option_flatten (slice_get (unbound_links i ls) k) ≡ option_flatten (option_map (unbound_link i) (slice_get ls k))
flat_unbound i [] k = refl
flat_unbound i (l ∷ ls) zero = refl
flat_unbound i (l ∷ ls) (suc k) = flat_unbound i ls k

pub record IsFree (i : ℕ) (o : Option (Option Routine)) (g : Routine) : Type 0 where
  pub leads : option_flatten o ≡ Some g
  pub elsewhere : g.home ≢ i

free_if : (i : ℕ) (f g : Routine) (b : Bool) → (f.home == i) ≡ b → (if b then None else (Some f)) ≡ Some g → IsFree i (Some (Some f)) g
free_if i f g true e h = absurd (let x : ⊥ = cc in x)
free_if i f g false e h = record { leads = h; elsewhere = subst (λ (x : Routine). x.home ≢ i) (let s : f ≡ g = cc in s) (eqb-false f.home i e) }

pub free_of : (i : ℕ) (o : Option (Option Routine)) (g : Routine) → option_flatten (option_map (unbound_link i) o) ≡ Some g → IsFree i o g
free_of i None g h = absurd (let x : ⊥ = cc in x)
free_of i (Some None) g h = absurd (let x : ⊥ = cc in x)
free_of i (Some (Some f)) g h = free_if i f g (f.home == i) refl h

abbrev LeadsNowhere : Option ModuleState → Type 0
LeadsNowhere o = (k : ℕ) → option_flatten (slice_get (built_at o).links k) ≡ None

none_some : {A : Type 0} (o : Option A) (x : A) → o ≡ None → o ≡ Some x → ⊥
none_some o x e f = let y : ⊥ = cc in y

module _ (ps : List (Option ModuleState)) (i : ℕ) (o : Option ModuleState) (none : LeadsNowhere o) (linked : AreLinked (map built_at ps)) where
  abbrev others : List (Option ModuleState)
  others = map (option_map (unbound_module i)) ps

  abbrev behind : List (Option ModuleState)
  behind = slice_set others i o

  other_at : (m : ℕ) → m ≢ i → module_at (map built_at behind) m ≡ record (module_at (map built_at ps) m) { links = unbound_links i (module_at (map built_at ps) m).links }
  other_at m h =
      at_places behind m ∙ ap built_at (at_other others i m o h ∙ at_unbound ps i m) ∙ built_unbound i (slice_index_or ps m None)
      ∙ ap (λ (x : Module). record x { links = unbound_links i x.links }) (sym (at_places ps m))

  own_none : (k : ℕ) → link_at (map built_at behind) i k ≡ None
  own_none k = ap (λ (x : Module). option_flatten (slice_get x.links k)) (at_places behind i) ∙ at_same (λ q. option_flatten (slice_get (built_at q).links k) ≡ None) others i o (none k) refl

  before_at : (m k : ℕ) (g : Routine) → m ≢ i → link_at (map built_at behind) m k ≡ Some g → IsLinkBefore (map built_at ps) (map built_at behind) m k g
  before_at m k g h there =
      let ls = (module_at (map built_at ps) m).links in
      let free = free_of i (slice_get ls k) g (sym (flat_unbound i ls k) ∙ ap (λ (x : Module). option_flatten (slice_get x.links k)) (sym (other_at m h)) ∙ there) in
      record {
        before = free.leads;
        importer = ap (λ (x : Module). x.tree) (other_at m h);
        exporter = ap (λ (x : Module). x.tree) (other_at g.home free.elsewhere);
      }

  pub rebuilt_linked : AreLinked (map built_at behind)
  rebuilt_linked = links_before (map built_at ps) (map built_at behind) linked (λ m k g there.
      by_number m i
      (λ e. absurd (none_some (link_at (map built_at behind) m k) g (subst (λ n. link_at (map built_at behind) n k ≡ None) (sym e) (own_none k)) there))
      (λ h. before_at m k g h there) (m == i) refl)

pub good_rebuilt : (ms : ModuleStates) (i : ℕ) (o : Option ModuleState) (order : List ℕ) → AreGood ms → IsPlace o → ((k : ℕ) → option_flatten (slice_get (built_at o).links k) ≡ None)
    → AreGood (record { places = slice_set (map (option_map (unbound_module i)) ms.places) i o; order = order })
good_rebuilt ms i o order h k none = record {
  places = place_set (map (option_map (unbound_module i)) ms.places) i o (places_unbound i ms.places h.places) k;
  linked = rebuilt_linked ms.places i o none h.linked;
}

pub all_none : {A : Type 0} (xs : List A) (k : ℕ) → ◌≡◌ {A = Option Routine} (option_flatten (slice_get (map (λ x. None) xs) k)) None
all_none [] k = refl
all_none (x ∷ xs) zero = refl
all_none (x ∷ xs) (suc k) = all_none xs k

-- ---- an import of a module leads elsewhere

-- the link that was put, or one that was there
abbrev pub IsPut : ℕ → Option Routine → ℕ → Routine → List (Option Routine) → Type 0
IsPut index link k g ls = ((k ≡ index) × (link ≡ Some g)) ⊎ (option_flatten (slice_get ls k) ≡ Some g)

put_later : (index k : ℕ) (link l : Option Routine) (g : Routine) (ls : List (Option Routine)) → IsPut index link k g ls → IsPut (suc index) link (suc k) g (l ∷ ls)
put_later index k link l g ls (inl e) = inl (ap suc e.0, e.1)
put_later index k link l g ls (inr e) = inr e

pub links_put : (ls : List (Option Routine)) (index : ℕ) (link : Option Routine) (k : ℕ) (g : Routine) → option_flatten (slice_get (slice_set ls index link) k) ≡ Some g → IsPut index link k g ls
links_put [] index link k g e = inr e
links_put (l ∷ ls) zero link zero g e = inl (refl, e)
links_put (l ∷ ls) zero link (suc k) g e = inr e
links_put (l ∷ ls) (suc index) link zero g e = inr e
links_put (l ∷ ls) (suc index) link (suc k) g e = put_later index k link l g ls (links_put ls index link k g e)

-- a module as runs know it, with another link or with none
abbrev IsRelinked : ℕ → Option Routine → Module → Module → Type 0
IsRelinked index link x y = (y.tree ≡ x.tree) × ((k : ℕ) (g : Routine) → option_flatten (slice_get y.links k) ≡ Some g → IsPut index link k g x.links)

-- module n afterwards, where module i has another link
abbrev IsAfterPut : ℕ → ℕ → Option Routine → ℕ → Module → Module → Type 0
IsAfterPut i index link n x y = (y.tree ≡ x.tree)
    × ((k : ℕ) (g : Routine) → option_flatten (slice_get y.links k) ≡ Some g → ((n ≡ i) × ((k ≡ index) × (link ≡ Some g))) ⊎ (option_flatten (slice_get x.links k) ≡ Some g))

unchanged_after : (i index : ℕ) (link : Option Routine) (n : ℕ) (x : Module) → IsAfterPut i index link n x x
unchanged_after i index link n x = (refl, λ k g e. inr e)

put_here : (n index k : ℕ) (link : Option Routine) (g : Routine) (ls : List (Option Routine)) → IsPut index link k g ls → ((n ≡ n) × ((k ≡ index) × (link ≡ Some g))) ⊎ (option_flatten (slice_get ls k) ≡ Some g)
put_here n index k link g ls (inl e) = inl (refl, e)
put_here n index k link g ls (inr e) = inr e

one_further : {B : Type 0} (A : Type 0) (n i : ℕ) → ((n ≡ i) × A) ⊎ B → ((suc n ≡ suc i) × A) ⊎ B
one_further A n i (inl e) = inl (ap suc e.0, e.1)
one_further A n i (inr e) = inr e

module _ (index : ℕ) (link : Option Routine) where
  after_put : (ps : List (Option ModuleState)) (i : ℕ) (o : Option ModuleState) → IsRelinked index link (built_at (slice_index_or ps i None)) (built_at o)
      → (n : ℕ) → IsAfterPut i index link n (built_at (slice_index_or ps n None)) (built_at (slice_index_or (slice_set ps i o) n None))
  after_put [] i o r n = unchanged_after i index link n (built_at None)
  after_put (p ∷ ps) zero o r zero = (r.0, λ k g e. put_here zero index k link g (built_at p).links (r.1 k g e))
  after_put (p ∷ ps) zero o r (suc n) = unchanged_after zero index link (suc n) (built_at (slice_index_or ps n None))
  after_put (p ∷ ps) (suc i) o r zero = unchanged_after (suc i) index link zero (built_at p)
  after_put (p ∷ ps) (suc i) o r (suc n) =
      let h = after_put ps i o r n in
      (h.0, λ k g e. one_further ((k ≡ index) × (link ≡ Some g)) n i (h.1 k g e))

  module _ (ps : List (Option ModuleState)) (i : ℕ) (p : Program) (here : (state_in (slice_index_or ps i None)).program ≡ Some p) where
    abbrev pub relinked : Option ModuleState
    relinked = Some (record (state_in (slice_index_or ps i None)) { program = Some (with_link index link p) })

    was : built_at (slice_index_or ps i None) ≡ record { name = (state_in (slice_index_or ps i None)).name; view = p.view; tree = p.tree; links = p.links }
    was = tree_of (slice_index_or ps i None) p here

    is_relinked : IsRelinked index link (built_at (slice_index_or ps i None)) (built_at relinked)
    is_relinked = (ap (λ (x : Module). x.tree) (sym was), λ k g e. subst (λ (x : Module). IsPut index link k g x.links) (sym was) (links_put p.links index link k g e))

    abbrev after : List Module
    after = map built_at (slice_set ps i relinked)

    module_after : (n : ℕ) → IsAfterPut i index link n (module_at (map built_at ps) n) (module_at after n)
    module_after n =
        subst (λ x. IsAfterPut i index link n x (module_at after n)) (sym (at_places ps n))
        (subst (λ y. IsAfterPut i index link n (built_at (slice_index_or ps n None)) y) (sym (at_places (slice_set ps i relinked) n)) (after_put ps i relinked is_relinked n))

    after_fits : ((g : Routine) → link ≡ Some g → LinkFits (map built_at ps) i index g) → AreLinked (map built_at ps) → (n k : ℕ) (g : Routine)
        → ((n ≡ i) × ((k ≡ index) × (link ≡ Some g))) ⊎ (link_at (map built_at ps) n k ≡ Some g) → LinkFits after n k g
    after_fits fits linked n k g (inl e) =
        fits_again (map built_at ps) after n k g (module_after n).0 (module_after g.home).0
        (subst (λ j. LinkFits (map built_at ps) n j g) (sym e.1.0) (subst (λ j. LinkFits (map built_at ps) j index g) (sym e.0) (fits g e.1.1)))
    after_fits fits linked n k g (inr e) = fits_again (map built_at ps) after n k g (module_after n).0 (module_after g.home).0 (linked.each n k g e)

    pub relinked_linked : ((g : Routine) → link ≡ Some g → LinkFits (map built_at ps) i index g) → AreLinked (map built_at ps) → AreLinked after
    relinked_linked fits linked = record { each = λ n k g there. after_fits fits linked n k g ((module_after n).1 k g there) }

program_relinked : (index : ℕ) (link : Option Routine) (p : Program) → IsProgram p → IsProgram (with_link index link p)
program_relinked index link p h = record { sight = h.sight; sections = h.sections; built = h.built; view = h.view; values = h.values; few = h.few }

-- what is built of the module of a number is such a program
pub program_found : (ps : List (Option ModuleState)) (i : ℕ) (p : Program) → ArePlaces ps → (state_in (slice_index_or ps i None)).program ≡ Some p → IsProgram p
program_found ps i p h here = subst IsBuilt here (built_found ps i h)

pub good_relinked : (ms : ModuleStates) (i index : ℕ) (link : Option Routine) (p : Program) → AreGood ms → (state_in (slice_index_or ms.places i None)).program ≡ Some p
    → ((g : Routine) → link ≡ Some g → LinkFits (built_in ms) i index g)
    → AreGood (record ms { places = slice_set ms.places i (Some (record (state_in (slice_index_or ms.places i None)) { program = Some (with_link index link p) })) })
good_relinked ms i index link p h here fits = record {
  places = place_set ms.places i _ h.places (program_relinked index link p (program_found ms.places i p h.places here));
  linked = relinked_linked index link ms.places i p here fits h.linked;
}

-- ---- a function to which an import can be bound

module _ (ms : List Module) (i j index n : ℕ) (p q : Program) (importer : (module_at ms i).tree ≡ p.tree) (exporter : (module_at ms j).tree ≡ q.tree) (a : IsProgram p) (b : IsProgram q)
    (import : ScriptFunction) (there : slice_get p.names.imports index ≡ Some import) (g : IsBindable import q.names.functions n) where
  abbrev ways_taken : List Passing
  ways_taken = passings_of (typed_parameters import)

  declared_so : heading_among (module_at ms i).tree.imports index ≡ Some ways_taken
  declared_so =
      ap (λ (x : t.Program). heading_among x.imports index) importer
      ∙ ap (λ l. option_map (λ (h : Heading). passings_of h.parameters) (slice_get l index)) (program_imports a.sight a.sections (record { names = p.names; tree = p.tree }) a.built)
      ∙ ap (option_map (λ (h : Heading). passings_of h.parameters)) (get-map import_heading p.names.imports index import there)

  has : HasNamesOf b.sight b.sections (record { names = q.names; tree = q.tree })
  has = program-named b.sight b.sections (record { names = q.names; tree = q.tree }) b.built

  function_so : slice_get (passings_in (module_at ms j).tree) n ≡ Some ways_taken
  function_so =
      let named : slice_get (module_in b.sight q.names).parameters n ≡ Some (typed_parameters g.function) =
      get-front (map typed_parameters q.names.functions) _ n (typed_parameters g.function) (get-map typed_parameters q.names.functions n g.function g.at) in
      let here = map-get (λ (f : t.TypedFunction). f.parameters) q.tree.functions n (typed_parameters g.function) (ap (λ l. slice_get l n) has.names.parameters ∙ named) in
      ap (λ (x : t.Program). slice_get (passings_in x) n) exporter
      ∙ get-front (map (λ (f : t.TypedFunction). passings_of f.parameters) q.tree.functions) (map (λ c. []) (initializers_from 0 q.tree.globals)) n (passings_of here.item.parameters)
      (get-map (λ (f : t.TypedFunction). passings_of f.parameters) q.tree.functions n here.item here.at)
      ∙ ap (λ l. Some (passings_of l)) here.same
      ∙ ap (λ l. Some l) (sym (takes_alike import g.function g.same))

  pub link_fits : LinkFits ms i index (routine j n)
  link_fits = record { params = ways_taken; declared = declared_so; function = function_so }
