-- What a body is declared as, case by case.
use Rattle.std.proofs.Common.{◌≡◌, refl, subst, ℕ, ◌≤◌, ◌-◌, ◌==◌, Bool, true, false, List, [], length, Option, Some, None, option_map}
use Rattle.std.specs.Prelude.{nat_le, position, slice_get, if◌then◌else◌}
use Rattle.std.specs.Option.{option_or, option_and_then}
use Rattle.std.proofs.lemmas.Bool.{eqb-true, leb-true}
use Rattle.std.proofs.lemmas.List.Quantifiers.{position-Some}
use Rattle.std.proofs.lemmas.Option.{get_or_from_slice_get}
use Rattle.ang_kinds.specs.declared.place.Place.{Place}
use Rattle.ang_names_known.specs.declared.names.Family.{Family}
use Rattle.ang_names_known.specs.declared.names.ScriptConstructor.{ScriptConstructor}
use Rattle.ang_names_known.specs.declared.names.ScriptFunction.{ScriptFunction}
use Rattle.ang_names_known.specs.declared.names.ScriptGlobal.{ScriptGlobal}
use Rattle.ang_names_known.specs.declared.names.ScriptMethod.{ScriptMethod}
use Rattle.ang_engine_modules.specs.declared.modules.LoadedModule.{LoadedModule}
use Rattle.ang_gen.specs.Initialized.{initialized_from}
use Rattle.ang_engine_modules.specs.Traced.{Frame, function_frame, global_frame, is_number, has_method_body, has_constructor_body, method_of, constructor_of, member_of, has_member, family_frame, member_frame, initializer_frame, frame_in}

-- ---- what an option holds

or_holds : {A : Type 0} (P : A → Type 0) (a b : Option A) → ((x : A) → a ≡ Some x → P x) → ((x : A) → b ≡ Some x → P x)
    → (x : A) → option_or a b ≡ Some x → P x
or_holds P None b h k x e = k x e
or_holds P (Some y) b h k x e = h x e

map_holds : {A B : Type 0} (g : A → B) (P : B → Type 0) (o : Option A) → ((y : A) → o ≡ Some y → P (g y)) → (x : B) → option_map g o ≡ Some x → P x
map_holds g P None h x e = absurd (cc)
map_holds g P (Some y) h x e =
    let same : g y ≡ x = cc in
    subst P same (h y refl)

then_holds : {A B : Type 0} (g : A → Option B) (P : B → Type 0) (o : Option A) → ((y : A) → o ≡ Some y → (x : B) → g y ≡ Some x → P x)
    → (x : B) → option_and_then g o ≡ Some x → P x
then_holds g P None h x e = absurd (cc)
then_holds g P (Some y) h x e = h y refl x e

-- what is found at the first place that passes passes
first_passes : {A : Type 0} (p : A → Bool) (xs : List A) (i : ℕ) (x : A) → position p xs ≡ Some i → slice_get xs i ≡ Some x → p x ≡ true
first_passes p xs i x found at =
    subst (λ y. p y ≡ true) (get_or_from_slice_get xs i x x at) (position-Some p xs i x found).1

-- ---- a module's bodies

number_is : (n : ℕ) (o : Option ℕ) → is_number n o ≡ true → o ≡ Some n
number_is n None e = absurd (cc)
number_is n (Some b) e =
    let same : b ≡ n = eqb-true b n e in
    cc

-- This holds of the place of the name of each body of number n of a module, since it does of each item that can have it.
pub record IsOfEach (P : Place → Type 0) (l : LoadedModule) (n : ℕ) : Type 0 where
  pub function : (g : ScriptFunction) → slice_get l.names.functions n ≡ Some g → P g.place
  pub method : (c m : ℕ) (f : Family) (y : ScriptMethod) → slice_get l.names.families c ≡ Some f → slice_get f.methods m ≡ Some y → y.body ≡ Some n → P y.function.place
  pub constructor : (c m : ℕ) (f : Family) (y : ScriptConstructor) → slice_get l.names.families c ≡ Some f → slice_get f.constructors m ≡ Some y → y.body ≡ n
      → P y.function.place
  pub initializer : (i : ℕ) (g : ScriptGlobal) → length l.tree.functions ≤ n → slice_get l.names.globals i ≡ Some g → P g.place

module _ (P : Place → Type 0) (l : LoadedModule) (n : ℕ) (is : IsOfEach P l n) where
  -- the place of a function, and of a frame
  abbrev Named : ScriptFunction → Type 0
  Named g = P g.place

  abbrev Declared : Frame → Type 0
  Declared f = P f.declared

  method_holds : (c : ℕ) (f : Family) → slice_get l.names.families c ≡ Some f → (g : ScriptFunction) → method_of n f.methods ≡ Some g → Named g
  method_holds c f there =
      then_holds (λ i. option_map (λ (m : ScriptMethod). m.function) (slice_get f.methods i)) Named (position (has_method_body n) f.methods)
      (λ i found. map_holds (λ (m : ScriptMethod). m.function) Named (slice_get f.methods i)
      (λ y at. is.method c i f y there at (number_is n y.body (first_passes (has_method_body n) f.methods i y found at))))

  constructor_holds : (c : ℕ) (f : Family) → slice_get l.names.families c ≡ Some f → (g : ScriptFunction) → constructor_of n f.constructors ≡ Some g → Named g
  constructor_holds c f there =
      then_holds (λ i. option_map (λ (m : ScriptConstructor). m.function) (slice_get f.constructors i)) Named (position (has_constructor_body n) f.constructors)
      (λ i found. map_holds (λ (m : ScriptConstructor). m.function) Named (slice_get f.constructors i)
      (λ y at. is.constructor c i f y there at (eqb-true y.body n (first_passes (has_constructor_body n) f.constructors i y found at))))

  member_holds : (f : Frame) → member_frame l.name n l.names.families ≡ Some f → Declared f
  member_holds =
      then_holds (λ i. option_and_then (family_frame l.name n) (slice_get l.names.families i)) Declared (position (has_member n) l.names.families)
      (λ c found. then_holds (family_frame l.name n) Declared (slice_get l.names.families c)
      (λ f there. map_holds (function_frame l.name f.name) Declared (member_of n f)
      (or_holds Named (method_of n f.methods) (constructor_of n f.constructors) (method_holds c f there) (constructor_holds c f there))))

  numbered_holds : (first : Bool) (numbers : List ℕ) (k : ℕ) → (first ≡ true → length l.tree.functions ≤ n) → (f : Frame)
      → (if first then option_and_then (λ i. option_map (global_frame l.name) (slice_get l.names.globals i)) (slice_get numbers k) else None) ≡ Some f → Declared f
  numbered_holds false numbers k past f e = absurd (cc)
  numbered_holds true numbers k past f e =
      then_holds (λ i. option_map (global_frame l.name) (slice_get l.names.globals i)) Declared (slice_get numbers k)
      (λ i found. map_holds (global_frame l.name) Declared (slice_get l.names.globals i) (λ g at. is.initializer i g (past refl) at)) f e

  initializer_holds : (f : Frame) → initializer_frame l.name (length l.tree.functions) (initialized_from 0 l.tree.globals) n l.names.globals ≡ Some f → Declared f
  initializer_holds f e =
      let first = length l.tree.functions in
      numbered_holds (nat_le first n) (initialized_from 0 l.tree.globals) (n - first) (leb-true first n) f e

  pub frame_holds : (f : Frame) → frame_in l n ≡ Some f → Declared f
  frame_holds =
      or_holds Declared (option_map (function_frame l.name []) (slice_get l.names.functions n)) _
      (map_holds (function_frame l.name []) Declared (slice_get l.names.functions n) is.function)
      (or_holds Declared (member_frame l.name n l.names.families) _ member_holds initializer_holds)
