-- The classes of the resolved tree are sound: each has bodies for its methods' slots, and its base class and what stands above it are there.
use Rattle.std.specs.Prelude.{◌≡◌, ℕ, zero, suc, ◌+◌, ◌≤◌, ◌<◌, ◌==◌, Bool, true, false, ◌||◌, if◌then◌else◌, cond, length, List, [], ◌∷◌, ◌++◌, find, option_map, Option, Some, None, IfSome, slice_get}
use Rattle.std.specs.List.{cons_option, filter_map, list_any, range_with_len}
use Rattle.std.proofs.Common.{refl, ap, sym, subst, arith}
use Rattle.std.proofs.lemmas.Bool.{eqb-true}
use Rattle.ang_tree.specs.Stmt.{Every}
use Rattle.ang_view.specs.Registration.{RegistrationList}
use Rattle.ang_names_known.specs.declared.names.Family.{Family}
use Rattle.ang_names_known.specs.declared.names.ScriptMethod.{ScriptMethod}
use Rattle.ang_names_known.specs.declared.names.Names.{Names}
use Rattle.ang_names_known.specs.declared.names.ScriptFunction.{ScriptFunction}
use Rattle.ang_names_known.specs.Items.{each_after}
use Rattle.ang_names_known.specs.Spaces.{Space}
use Rattle.ang_names_listed.specs.Sources.{Source}
use Rattle.ang_names_graph.specs.Graphs.{leads, numbers_below, above}
use Rattle.ang_names_listed.specs.declared.listed.ListedDeclaration.{ListedDeclaration}
use Rattle.ang_names_listed.specs.Declarations.{Declaring, declarations_of, families_of}
use Rattle.ang_names_classes.specs.Resolved.{space_of_declared}
use Rattle.ang_names_classes.specs.Headings.{signatures_of}
use Rattle.ang_names_classes.specs.Hierarchy.{is_parent, is_base}
use Rattle.ang_names_classes.specs.Resolved.{families_after, functions_in, families_in, names_of}
use Rattle.ang_check.specs.Bodies.{slot_and_body, typed_classes}
use Rattle.ang_source.specs.Sound.{Module, IsChosen, AreChosen, SoundClasses}
use Rattle.ang_check_sound.specs.Checked.{with_this}
use Rattle.ang_check_sound.specs.Built.{IsMethodIn, IsFamilyIn}
use Rattle.ang_check_sound.proofs.Items.{every_joined}

-- ---- numbers below a bound

abbrev AreBelow : ℕ → List ℕ → Type 0
AreBelow n ks = Every (λ k. k < n) ks

range_below : (first count n : ℕ) → first + count ≤ n → AreBelow n (range_with_len first count)
range_below first zero n h = tt
range_below first (suc count) n h = (omega (arith, h), range_below (first + 1) count n (omega (arith, h)))

found_below : (p : ℕ → Bool) (n : ℕ) (ks : List ℕ) → AreBelow n ks → IfSome (find p ks) (λ k. k < n)
found_below p n [] h = tt
found_below p n (k ∷ ks) h = either (p k) h.0 (found_below p n ks h.1)
  where
    either : (b : Bool) → k < n → IfSome (find p ks) (λ j. j < n) → IfSome (cond b (Some k) (find p ks)) (λ j. j < n)
    either true here rest = here
    either false here rest = rest

still_below : (n m : ℕ) (ks : List ℕ) → n ≤ m → AreBelow n ks → AreBelow m ks
still_below n m [] more h = tt
still_below n m (k ∷ ks) more h = (let here : k < n = h.0 in omega (arith, more, here), still_below n m ks more h.1)

numbers_are_below : (p : ℕ → Bool) (n : ℕ) → AreBelow n (numbers_below p n)
numbers_are_below p zero = tt
numbers_are_below p (suc n) =
    every_joined (λ k. k < suc n) (numbers_below p n) (if p n then n ∷ [] else []) (still_below n (suc n) (numbers_below p n) (omega arith) (numbers_are_below p n))
    (last (p n))
  where
    last : (b : Bool) → AreBelow (suc n) (if b then n ∷ [] else [])
    last true = (omega arith, tt)
    last false = tt

below_of : (n k : ℕ) (ks : List ℕ) → AreBelow n ks → list_any (λ j. j == k) ks ≡ true → k < n
below_of n k [] h e = cc
below_of n k (j ∷ ks) h e = by (j == k) refl e h.0 (below_of n k ks h.1)
  where
    by : (b : Bool) → (j == k) ≡ b → (b || list_any (λ i. i == k) ks) ≡ true → j < n → (list_any (λ i. i == k) ks ≡ true → k < n) → k < n
    by true is e here rest = subst (λ i. i < n) (eqb-true j k is) here
    by false is e here rest = rest e

-- ---- what stands above a family of the declarations

-- its base class and all that is above it are among the first n
pub record IsBelow (n : ℕ) (f : Family) : Type 0 where
  pub base : IfSome f.base (λ b. b < n)
  pub above : Every (λ k. k < n) f.above

module _ (E : Space) (families : List Declaring) (all : List (ScriptFunction × Bool)) (functions : ℕ) where
  families_below : (front ds : List Declaring) → Every (IsBelow (length families)) (each_after (families_after E families all functions) front ds)
  unfolding above
  families_below front [] = tt
  families_below front (d ∷ ds) =
      let n = length families in
      let c = length front in (
        record {
          base = found_below (is_base families c) n (range_with_len 0 n) (range_below 0 n n (omega arith));
          above = numbers_are_below (leads (is_parent families) n c) n;
        },
        families_below (front ++ d ∷ []) ds,
      )

  families_counted : (front ds : List Declaring) → length (each_after (families_after E families all functions) front ds) ≡ length ds
  families_counted front [] = refl
  families_counted front (d ∷ ds) = ap suc (families_counted (front ++ d ∷ []) ds)

declared_below : (V : RegistrationList) (ds : List ListedDeclaration) → Every (IsBelow (length (names_of V ds).families)) (names_of V ds).families
unfolding names_of families_in
declared_below V ds =
    let E = space_of_declared V ds in
    let families = families_of ds in
    let all = signatures_of E families in
    let count = length (functions_in E ds) in
    subst (λ n. Every (IsBelow n) (each_after (families_after E families all count) [] families)) (sym (families_counted E families all count [] families))
    (families_below E families all count [] families)

pub all_below : (V : RegistrationList) (names : Names) (sources : List Source) → names ≡ names_of V (declarations_of sources)
    → Every (IsBelow (length names.families)) names.families
all_below V names sources e = subst (λ (n : Names). Every (IsBelow (length n.families)) n.families) (sym e) (declared_below V (declarations_of sources))

-- ---- classes

module _ (M : Module) where
  chosen_body : (c : ℕ) (y : ScriptMethod) (k : ℕ) → IsMethodIn M c y → y.body ≡ Some k → IsChosen M y.slot k
  chosen_body c y k h e = record {
    heading = h.heading;
    slot_is = h.slot_is;
    parameters = with_this (record { family = c; read_only = y.read_only }) y.function;
    body_is = h.body k e;
    alike = sym h.alike;
  }

  one_chosen : (c : ℕ) (y : ScriptMethod) (o : Option ℕ) (rest : List (ℕ × ℕ)) → y.body ≡ o → IsMethodIn M c y → AreChosen M rest
      → AreChosen M (cons_option (option_map (λ k. (y.slot, k)) o) rest)
  one_chosen c y None rest e h r = r
  one_chosen c y (Some k) rest e h r = (chosen_body c y k h e, r)

  all_chosen : (c : ℕ) (ms : List ScriptMethod) → ((m : ℕ) (y : ScriptMethod) → slice_get ms m ≡ Some y → IsMethodIn M c y) → AreChosen M (filter_map slot_and_body ms)
  all_chosen c [] h = tt
  all_chosen c (y ∷ ms) h = one_chosen c y y.body (filter_map slot_and_body ms) refl (h 0 y refl) (all_chosen c ms (λ m x e. h (suc m) x e))

  classes_sound : (first : ℕ) (fs : List Family) → Every (IsBelow M.classes) fs → ((i : ℕ) (f : Family) → slice_get fs i ≡ Some f → IsFamilyIn M (first + i) f)
      → SoundClasses M (typed_classes fs)
  classes_sound first [] b h = tt
  classes_sound first (f ∷ fs) b h = (
    record {
      chosen = all_chosen (first + 0) f.methods (h 0 f refl).methods;
      base = b.0.base;
      above = λ n e. below_of M.classes n f.above b.0.above e;
    },
    classes_sound (suc first) fs b.1
        (λ i g e. let there : first + suc i ≡ suc first + i = omega arith in subst (λ c. IsFamilyIn M c g) there (h (suc i) g e)),
  )

  pub all_classes_sound : (fs : List Family) → Every (IsBelow M.classes) fs → ((c : ℕ) (f : Family) → slice_get fs c ≡ Some f → IsFamilyIn M c f)
      → SoundClasses M (typed_classes fs)
  all_classes_sound fs b h = classes_sound 0 fs b (λ i f e. let same : i ≡ 0 + i = omega arith in subst (λ c. IsFamilyIn M c f) same (h i f e))
