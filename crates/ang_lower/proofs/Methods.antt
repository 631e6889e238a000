-- The method that a class has in a slot takes what the methods of the slot take.
use Rattle.std.proofs.Common.{◌≡◌, ℕ, zero, suc, List, [], ◌∷◌, length, refl, sym, ap, ◌∙◌, subst, Option, Some, None}
use Rattle.std.specs.Prelude.{Bool, true, false, cond, find, ◌==◌, option_map, option_and_then, slice_get}
use Rattle.std.specs.Option.{option_or}
use Rattle.std.proofs.lemmas.Bool.{eqb-true}
use Rattle.ang_view.specs.Registration.{RegistrationList}
use Rattle.ang_typed.specs.declared.program.TypedClass.{TypedClass}
use Rattle.ang_typed.specs.Typed as tree
use Rattle.ang_meaning.specs.declared.routine.Routine.{Routine}
use Rattle.ang_meaning.specs.Environment.{Environment}
use Rattle.ang_source.specs.Meaning.{own_body, body_by, routine}
use Rattle.ang_source.specs.Sound.{Module, module_of, IsChosen, AreChosen, SoundClass, SoundClasses, SoundProgram}
use Rattle.ang_lower.specs.Same.{HasProgram}
use Rattle.ang_lower.proofs.Headings.{has_callees}

-- ---- the bodies that a class has itself

row_chosen : (M : Module) (s b : ℕ) (r : ℕ × ℕ) (rows : List (ℕ × ℕ)) (here : Bool) → (r.0 == s) ≡ here → IsChosen M r.0 r.1 → (own_body s rows ≡ Some b → IsChosen M s b)
    → option_map (λ (q : ℕ × ℕ). q.1) (cond here (Some r) (find (λ (q : ℕ × ℕ). q.0 == s) rows)) ≡ Some b → IsChosen M s b
row_chosen M s b r rows true at first rest e =
    let body : r.1 ≡ b = cc in
    subst (λ i. IsChosen M i b) (eqb-true r.0 s at) (subst (λ i. IsChosen M r.0 i) body first)
row_chosen M s b r rows false at first rest e = rest e

own_chosen : (M : Module) (s b : ℕ) (rows : List (ℕ × ℕ)) → AreChosen M rows → own_body s rows ≡ Some b → IsChosen M s b
own_chosen M s b [] h e = absurd (cc)
own_chosen M s b (r ∷ rows) h e = row_chosen M s b r rows (r.0 == s) refl h.0 (own_chosen M s b rows h.1) e

-- ---- and those of the classes above it

abbrev IsSoundClass : Module → Option TypedClass → Type 0
IsSoundClass M None = Unit {0}
IsSoundClass M (Some c) = SoundClass M c

class_at : (M : Module) (cs : List TypedClass) (n : ℕ) → SoundClasses M cs → IsSoundClass M (slice_get cs n)
class_at M [] n h = tt
class_at M (c ∷ cs) zero h = h.0
class_at M (c ∷ cs) (suc n) h = class_at M cs n h.1

base_at : (M : Module) (cs : List TypedClass) (base : Option ℕ) → SoundClasses M cs → IsSoundClass M (option_and_then (slice_get cs) base)
base_at M cs None h = tt
base_at M cs (Some n) h = class_at M cs n h

first_chosen : (M : Module) (s b : ℕ) (x y : Option ℕ) → (x ≡ Some b → IsChosen M s b) → (y ≡ Some b → IsChosen M s b) → option_or x y ≡ Some b → IsChosen M s b
first_chosen M s b None y one other e = other e
first_chosen M s b (Some i) y one other e = one e

body_chosen : (M : Module) (cs : List TypedClass) (s b n : ℕ) (c : Option TypedClass) → SoundClasses M cs → IsSoundClass M c → body_by cs s n c ≡ Some b → IsChosen M s b
body_chosen M cs s b n None h sound e = absurd (cc)
body_chosen M cs s b zero (Some c) h sound e = own_chosen M s b c.chosen sound.chosen e
body_chosen M cs s b (suc n) (Some c) h sound e =
    first_chosen M s b (own_body s c.chosen) (body_by cs s n (option_and_then (slice_get cs) c.base)) (own_chosen M s b c.chosen sound.chosen)
    (body_chosen M cs s b n (option_and_then (slice_get cs) c.base) h (base_at M cs c.base h)) e

-- ---- methods

chosen_of : (M : Module) (m s : ℕ) (g : Routine) (o : Option ℕ) → ((b : ℕ) → o ≡ Some b → IsChosen M s b) → option_map (routine m) o ≡ Some g
    → (b : ℕ) × (routine m b ≡ g) × IsChosen M s b
chosen_of M m s g None h e = absurd (cc)
chosen_of M m s g (Some b) h e = let same : routine m b ≡ g = cc in (b, same, h b refl)

pub methods_fit : (V : RegistrationList) (z : Environment) (m : ℕ) (p : tree.Program) → SoundProgram V p → HasProgram z m p → (n s : ℕ) (g : Routine) → z.method m n s ≡ Some g → z.params g ≡ z.slot m s
methods_fit V z m p sound has n s g there =
    let M = module_of V p in
    let callees = has_callees V z m p has in
    let o = body_by p.classes s (length p.classes) (slice_get p.classes n) in
    let x = chosen_of M m s g o (λ b at. body_chosen M p.classes s b (length p.classes) (slice_get p.classes n) sound.classes (class_at M p.classes n sound.classes) at) (sym (has.methods n s) ∙ there) in
    ap (λ r. z.params r) (sym x.1) ∙ callees.functions x.0 x.2.parameters x.2.body_is ∙ ap Some x.2.alike ∙ sym (callees.methods s x.2.heading x.2.slot_is)
