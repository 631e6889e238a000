-- Modules by their numbers.
use Rattle.std.proofs.Common.{inl, inr, ◌≡◌, ◌≢◌, ℕ, zero, suc, List, [], ◌∷◌, ◌++◌, length, refl, sym, ap, Option, Some, None, map}
use Rattle.std.specs.Prelude.{◌⊎◌, Bool, true, false, ◌==◌, Result, Ok, Err, option_map, is_none, slice_get, slice_set, slice_index_or, if◌then◌else◌}
use Rattle.std.proofs.lemmas.Bool.{eqb-true, eqb-false}
use Rattle.ang_names_known.specs.declared.names.ScriptFunction.{ScriptFunction}
use Rattle.ang_names_known.specs.Lookup.{same_call}
use Rattle.ang_meaning.specs.declared.routine.Routine.{Routine}
use Rattle.ang_source.specs.Meaning.{nothing, routine}
use Rattle.ang_engine_modules.specs.Modules.{Module, module_at, trees_of}
use Rattle.ang_engine_modules.specs.World.{ModuleState, unbound_module, built_at}
use Rattle.ang_engine_modules.specs.declared.reply.Refusal.{Refusal}
use Rattle.ang_engine_modules.specs.declared.reply.Refusal.TheVariants.{SignatureDiffers}
use Rattle.ang_engine.specs.Step.{link_to, link_to_number}

pub by_number : {A : Type 0} (m i : ℕ) → ((m ≡ i) → A) → ((m ≢ i) → A) → (b : Bool) → (m == i) ≡ b → A
by_number m i f g true e = f (eqb-true m i e)
by_number m i f g false e = g (eqb-false m i e)

-- ---- places

pub at_places : (ps : List (Option ModuleState)) (m : ℕ) → module_at (map built_at ps) m ≡ built_at (slice_index_or ps m None)
at_places [] m = refl
at_places (p ∷ ps) zero = refl
at_places (p ∷ ps) (suc m) = at_places ps m

pub at_more : (ps : List (Option ModuleState)) (m : ℕ) → slice_index_or (ps ++ None ∷ []) m None ≡ slice_index_or ps m None
at_more [] zero = refl
at_more [] (suc m) = refl
at_more (p ∷ ps) zero = refl
at_more (p ∷ ps) (suc m) = at_more ps m

pub at_unbound : (ps : List (Option ModuleState)) (i m : ℕ) → slice_index_or (map (option_map (unbound_module i)) ps) m None ≡ option_map (unbound_module i) (slice_index_or ps m None)
at_unbound [] i m = refl
at_unbound (p ∷ ps) i zero = refl
at_unbound (p ∷ ps) i (suc m) = at_unbound ps i m

pub none_empty : (o : Option ModuleState) → is_none o ≡ true → o ≡ None
none_empty None e = refl
none_empty (Some m) e = absurd (let x : ⊥ = cc in x)

pub end_none : (ps : List (Option ModuleState)) → slice_index_or ps (length ps) None ≡ None
end_none [] = refl
end_none (p ∷ ps) = end_none ps

pub set_either : {A : Type 0} (xs : List A) (i m : ℕ) (x d : A) → (slice_index_or (slice_set xs i x) m d ≡ slice_index_or xs m d) ⊎ ((m ≡ i) × (slice_index_or (slice_set xs i x) m d ≡ x))
set_either [] i m x d = inl refl
set_either (y ∷ ys) zero zero x d = inr (refl, refl)
set_either (y ∷ ys) zero (suc m) x d = inl refl
set_either (y ∷ ys) (suc i) zero x d = inl refl
set_either (y ∷ ys) (suc i) (suc m) x d = elim (set_either ys i m x d) [
  | inl e ↦ inl e
  | inr e ↦ inr (ap suc e.0, e.1)
]

-- ---- what is built there

pub tree_at : (ms : List Module) (m : ℕ) → slice_index_or (trees_of ms) m nothing ≡ (module_at ms m).tree
tree_at [] m = refl
tree_at (x ∷ xs) zero = refl
tree_at (x ∷ xs) (suc m) = tree_at xs m

home_if : (j n : ℕ) (g : Routine) (b : Bool) → ◌≡◌ {A = Result Routine Refusal} (if b then (Ok (routine j n)) else (Err SignatureDiffers)) (Ok g) → g.home ≡ j
home_if j n g true e = let same : routine j n ≡ g = cc in ap (λ (x : Routine). x.home) (sym same)
home_if j n g false e = absurd (let x : ⊥ = cc in x)

home_to : (import : ScriptFunction) (j n : ℕ) (o : Option ScriptFunction) (g : Routine) → link_to import j n o ≡ Ok g → g.home ≡ j
home_to import j n None g e = absurd (let x : ⊥ = cc in x)
home_to import j n (Some f) g e = home_if j n g (same_call import f) e

pub home_number : (import : ScriptFunction) (j : ℕ) (o : Option ℕ) (fs : List ScriptFunction) (g : Routine) → link_to_number import j o fs ≡ Ok g → g.home ≡ j
home_number import j None fs g e = absurd (let x : ⊥ = cc in x)
home_number import j (Some n) fs g e = home_to import j n (slice_get fs n) g e
