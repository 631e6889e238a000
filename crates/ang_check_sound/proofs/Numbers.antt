-- The bodies of names by number: how many there are, that those of a number are listed, and what holds of each.
use Rattle.std.specs.Prelude.{◌≡◌, ℕ, zero, suc, ◌+◌, ◌==◌, Bool, true, false, ◌||◌, cond, length, List, [], ◌∷◌, ◌++◌, map, option_map, Option, Some, None, slice_get, find, if◌then◌else◌}
use Rattle.std.specs.List.{cons_option, filter_map, flat_map, list_any}
use Rattle.std.proofs.Common.{refl, ap, sym, ◌∙◌, subst, arith, length-append}
use Rattle.std.proofs.lemmas.List.{length-map}
use Rattle.std.proofs.lemmas.List.Folds.{list_any-append}
use Rattle.std.proofs.lemmas.Bool.{eq-eqb}
use Rattle.std.proofs.lemmas.Option.{same_Some}
use Rattle.ang_tree.specs.Stmt.{Every}
use Rattle.ang_names_known.specs.declared.names.ScriptConstructor.{ScriptConstructor}
use Rattle.ang_names_known.specs.declared.names.Family.{Family}
use Rattle.ang_names_known.specs.declared.names.ScriptMethod.{ScriptMethod}
use Rattle.ang_names_known.specs.declared.names.Names.{Names}
use Rattle.ang_names_known.specs.declared.names.ScriptFunction.{ScriptFunction}
use Rattle.ang_names_known.specs.Items.{each_after}
use Rattle.ang_names_known.specs.Spaces.{Space}
use Rattle.ang_names_listed.specs.declared.listed.ListedMember.{ListedMember}
use Rattle.ang_names_listed.specs.declared.listed.MemberKind.{MemberKind}
use Rattle.ang_names_listed.specs.declared.listed.MemberKind.TheVariants as member
use Rattle.ang_names_listed.specs.Declarations.{Declaring}
use Rattle.ang_names_classes.specs.Headings.{heading_of}
use Rattle.ang_names_classes.specs.Resolved.{has_body, with_bodies, body_members, method_with, methods_by, constructors_by, methods_after, constructors_after, families_after, family_with}
use Rattle.ang_check_sound.specs.Checked.{NumberedBody, with_this, method_bodies, constructor_bodies, bodies_of}
use Rattle.ang_check_sound.proofs.Items.{every_joined}

-- the body of a method, where it has one
abbrev pub method_body : ℕ → ScriptMethod → Option NumberedBody
method_body c m = option_map (λ k. (k, with_this (record { family = c; read_only = m.read_only }) m.function)) m.body

abbrev pub constructor_body : ℕ → ScriptConstructor → NumberedBody
constructor_body c k = (k.body, with_this (record { family = c; read_only = false }) k.function)

-- ---- how many there are

module _ (E : Space) (all : List (ScriptFunction × Bool)) (d : Declaring) (first c : ℕ) where
  by_class : (b : Bool) (m : ListedMember) (y : ScriptMethod) (n : ℕ) (ms : List ScriptMethod) (ks : List ScriptConstructor) (others : List ListedMember) → y.body ≡ (if b then Some n else None)
      → length (filter_map (method_body c) ms) + length ks ≡ length others
      → length (filter_map (method_body c) (y ∷ ms)) + length ks ≡ length (cond b (m ∷ others) others)
  by_class true m y n ms ks others e h =
      let one : length (filter_map (method_body c) (y ∷ ms)) ≡ suc (length (filter_map (method_body c) ms)) =
      ap (λ (o : Option ℕ). length (cons_option (option_map (λ k. (k, with_this (record { family = c; read_only = y.read_only }) y.function)) o)
      (filter_map (method_body c) ms))) e in
      let goal : length (filter_map (method_body c) (y ∷ ms)) + length ks ≡ suc (length others) = omega (arith, one, h) in goal
  by_class false m y n ms ks others e h =
      let none : length (filter_map (method_body c) (y ∷ ms)) ≡ length (filter_map (method_body c) ms) =
      ap (λ (o : Option ℕ). length (cons_option (option_map (λ k. (k, with_this (record { family = c; read_only = y.read_only }) y.function)) o)
      (filter_map (method_body c) ms))) e in
      let goal : length (filter_map (method_body c) (y ∷ ms)) + length ks ≡ length others = omega (arith, none, h) in goal

  by_kind : (kind : MemberKind) (m : ListedMember) (n : ℕ) (ms : List ScriptMethod) (ks : List ScriptConstructor) (others : List ListedMember)
      → length (filter_map (method_body c) ms) + length ks ≡ length others
      → length (filter_map (method_body c) (methods_by E all d m n kind ++ ms)) + length (constructors_by E d m n kind ++ ks)
      ≡ length (cond (has_body d.shape.is_class kind) (m ∷ others) others)
  by_kind (member.Field y) m n ms ks others h = h
  by_kind (member.Method y ps a) m n ms ks others h = by_class d.shape.is_class m (method_with all d m n (heading_of E d.origin d.text m.name y ps) a) n ms ks others refl h
  by_kind (member.Constructor ps) m n ms ks others h = let goal : length (filter_map (method_body c) ms) + suc (length ks) ≡ suc (length others) = omega (arith, h) in goal

  members_counted : (before ms : List ListedMember)
      → length (filter_map (method_body c) (each_after (methods_after E all d first) before ms))
      + length (each_after (constructors_after E d first) before ms)
      ≡ length (with_bodies d.shape.is_class ms)
  members_counted before [] = refl
  members_counted before (m ∷ ms) =
      by_kind m.kind m (first + length (with_bodies d.shape.is_class before)) (each_after (methods_after E all d first) (before ++ m ∷ []) ms)
      (each_after (constructors_after E d first) (before ++ m ∷ []) ms) (with_bodies d.shape.is_class ms) (members_counted (before ++ m ∷ []) ms)

abbrev pub bodies_in : List Family → Family → List NumberedBody
bodies_in before f = method_bodies (length before) f ++ constructor_bodies (length before) f

pub bodies_counted : (E : Space) (all : List (ScriptFunction × Bool)) (fs : List Declaring) (n : ℕ) (before : List Family) (front ds : List Declaring)
    → length (each_after bodies_in before (each_after (families_after E fs all n) front ds)) ≡ length (flat_map body_members ds)
bodies_counted E all fs n before front [] = refl
bodies_counted E all fs n before front (d ∷ ds) =
    let f : Family = family_with E fs all (length front) (n + length (flat_map body_members front)) d in
    let c = length before in
    let own = members_counted E all d (n + length (flat_map body_members front)) c [] d.shape.members in
    let same = length-map f.constructors (constructor_body c) in
    let joined = length-append (method_bodies c f) (constructor_bodies c f) in
    let behind = each_after bodies_in (before ++ f ∷ []) (each_after (families_after E fs all n) (front ++ d ∷ []) ds) in
    let here : length (bodies_in before f) ≡ length (body_members d) = joined ∙ ap (λ k. length (method_bodies c f) + k) same ∙ own in
    let rest : length behind ≡ length (flat_map body_members ds) = bodies_counted E all fs n (before ++ f ∷ []) (front ++ d ∷ []) ds in
    let left = length-append (bodies_in before f) behind in
    let right = length-append (body_members d) (flat_map body_members ds) in
    left ∙ ap (λ k. k + length behind) here ∙ ap (λ k. length (body_members d) + k) rest ∙ sym right

-- ---- those of a number

abbrev pub has_number : ℕ → NumberedBody → Bool
has_number k b = b.0 == k

or_right : (a b : Bool) → b ≡ true → (a || b) ≡ true
or_right true b e = refl
or_right false b e = e

or_left : (a b : Bool) → a ≡ true → (a || b) ≡ true
or_left true b e = refl
or_left false b e = cc

same_number : (n : ℕ) → (n == n) ≡ true
same_number n = eq-eqb n n refl

module _ (k : ℕ) where
  in_first : (xs ys : List NumberedBody) → list_any (has_number k) xs ≡ true → list_any (has_number k) (xs ++ ys) ≡ true
  in_first xs ys e = list_any-append (has_number k) xs ys ∙ or_left (list_any (has_number k) xs) (list_any (has_number k) ys) e

  in_last : (xs ys : List NumberedBody) → list_any (has_number k) ys ≡ true → list_any (has_number k) (xs ++ ys) ≡ true
  in_last xs ys e = list_any-append (has_number k) xs ys ∙ or_right (list_any (has_number k) xs) (list_any (has_number k) ys) e

  first_method : (c : ℕ) (y : ScriptMethod) (rest : List NumberedBody) → y.body ≡ Some k → list_any (has_number k) (cons_option (method_body c y) rest) ≡ true
  first_method c y rest e =
      ap (λ (o : Option ℕ). list_any (has_number k) (cons_option (option_map (λ n. (n, with_this (record { family = c; read_only = y.read_only }) y.function)) o) rest)) e
      ∙ or_left (k == k) (list_any (has_number k) rest) (same_number k)

  later_method : (o : Option NumberedBody) (rest : List NumberedBody) → list_any (has_number k) rest ≡ true → list_any (has_number k) (cons_option o rest) ≡ true
  later_method None rest e = e
  later_method (Some b) rest e = or_right (has_number k b) (list_any (has_number k) rest) e

  method_listed : (c : ℕ) (ys : List ScriptMethod) (m : ℕ) (y : ScriptMethod) → slice_get ys m ≡ Some y → y.body ≡ Some k
      → list_any (has_number k) (filter_map (method_body c) ys) ≡ true
  method_listed c [] m y at e = cc
  method_listed c (z ∷ ys) zero y at e =
      first_method c z (filter_map (method_body c) ys) (ap (λ (w : ScriptMethod). w.body) (same_Some z y at) ∙ e)
  method_listed c (z ∷ ys) (suc m) y at e = later_method (method_body c z) (filter_map (method_body c) ys) (method_listed c ys m y at e)

  constructor_listed : (c : ℕ) (ys : List ScriptConstructor) (m : ℕ) (y : ScriptConstructor) → slice_get ys m ≡ Some y → y.body ≡ k
      → list_any (has_number k) (map (constructor_body c) ys) ≡ true
  constructor_listed c [] m y at e = cc
  constructor_listed c (z ∷ ys) zero y at e =
      or_left (z.body == k) (list_any (has_number k) (map (constructor_body c) ys))
      (ap (λ n. n == k) (ap (λ (w : ScriptConstructor). w.body) (same_Some z y at) ∙ e) ∙ same_number k)
  constructor_listed c (z ∷ ys) (suc m) y at e =
      or_right (z.body == k) (list_any (has_number k) (map (constructor_body c) ys)) (constructor_listed c ys m y at e)

  family_listed : (before fs : List Family) (i c : ℕ) (f : Family) → slice_get fs i ≡ Some f → c ≡ length before + i
      → list_any (has_number k) (method_bodies c f ++ constructor_bodies c f) ≡ true → list_any (has_number k) (each_after bodies_in before fs) ≡ true
  family_listed before [] i c f at is e = cc
  family_listed before (g ∷ fs) zero c f at is e =
      let there : c ≡ length before = omega (arith, is) in
      in_first (bodies_in before g) (each_after bodies_in (before ++ g ∷ []) fs)
      (subst (λ (h : Family). list_any (has_number k) (method_bodies (length before) h ++ constructor_bodies (length before) h) ≡ true) (sym (same_Some g f at))
      (subst (λ n. list_any (has_number k) (method_bodies n f ++ constructor_bodies n f) ≡ true) there e))
  family_listed before (g ∷ fs) (suc i) c f at is e =
      let there : c ≡ length (before ++ g ∷ []) + i = omega (arith, is, length-append before (g ∷ [])) in
      in_last (bodies_in before g) (each_after bodies_in (before ++ g ∷ []) fs) (family_listed (before ++ g ∷ []) fs i c f at there e)

pub method_numbered : (names : Names) (k c m : ℕ) (f : Family) (y : ScriptMethod) → slice_get names.families c ≡ Some f → slice_get f.methods m ≡ Some y
    → y.body ≡ Some k → list_any (has_number k) (bodies_of names) ≡ true
method_numbered names k c m f y family method e =
    family_listed k [] names.families c c f family (let same : c ≡ 0 + c = omega arith in same)
    (in_first k (method_bodies c f) (constructor_bodies c f) (method_listed k c f.methods m y method e))

pub constructor_numbered : (names : Names) (k c m : ℕ) (f : Family) (y : ScriptConstructor) → slice_get names.families c ≡ Some f
    → slice_get f.constructors m ≡ Some y → y.body ≡ k → list_any (has_number k) (bodies_of names) ≡ true
constructor_numbered names k c m f y family made e =
    family_listed k [] names.families c c f family (let same : c ≡ 0 + c = omega arith in same)
    (in_last k (method_bodies c f) (constructor_bodies c f) (constructor_listed k c f.constructors m y made e))

-- ---- what holds of each

module _ (Q : NumberedBody → Type 0) where
  one_method : (c : ℕ) (y : ScriptMethod) (o : Option ℕ) (rest : List NumberedBody)
      → ((k : ℕ) → o ≡ Some k → Q (k, with_this (record { family = c; read_only = y.read_only }) y.function)) → Every Q rest
      → Every Q (cons_option (option_map (λ n. (n, with_this (record { family = c; read_only = y.read_only }) y.function)) o) rest)
  one_method c y None rest h r = r
  one_method c y (Some k) rest h r = (h k refl, r)

  each_method : (c : ℕ) (ys : List ScriptMethod)
      → ((m : ℕ) (y : ScriptMethod) → slice_get ys m ≡ Some y → (k : ℕ) → y.body ≡ Some k → Q (k, with_this (record { family = c; read_only = y.read_only }) y.function))
      → Every Q (filter_map (method_body c) ys)
  each_method c [] h = tt
  each_method c (y ∷ ys) h =
      one_method c y y.body (filter_map (method_body c) ys) (λ k e. h 0 y refl k e) (each_method c ys (λ m z e. h (suc m) z e))

  each_constructor : (c : ℕ) (ys : List ScriptConstructor) → ((m : ℕ) (y : ScriptConstructor) → slice_get ys m ≡ Some y → Q (constructor_body c y))
      → Every Q (map (constructor_body c) ys)
  each_constructor c [] h = tt
  each_constructor c (y ∷ ys) h = (h 0 y refl, each_constructor c ys (λ m z e. h (suc m) z e))

  pub record HoldsIn (c : ℕ) (f : Family) : Type 0 where
    pub methods : (m : ℕ) (y : ScriptMethod) → slice_get f.methods m ≡ Some y → (k : ℕ) → y.body ≡ Some k
        → Q (k, with_this (record { family = c; read_only = y.read_only }) y.function)
    pub constructors : (m : ℕ) (y : ScriptConstructor) → slice_get f.constructors m ≡ Some y → Q (constructor_body c y)

  each_family : (before fs : List Family) → ((i : ℕ) (f : Family) → slice_get fs i ≡ Some f → HoldsIn (length before + i) f)
      → Every Q (each_after bodies_in before fs)
  each_family before [] h = tt
  each_family before (f ∷ fs) h =
      let here : length before + 0 ≡ length before = omega arith in
      let own : HoldsIn (length before) f = subst (λ c. HoldsIn c f) here (h 0 f refl) in
      every_joined Q (bodies_in before f) (each_after bodies_in (before ++ f ∷ []) fs)
      (every_joined Q (method_bodies (length before) f) (constructor_bodies (length before) f)
      (each_method (length before) f.methods own.methods) (each_constructor (length before) f.constructors own.constructors))
      (each_family (before ++ f ∷ []) fs
      (λ i g e. let there : length before + suc i ≡ length (before ++ f ∷ []) + i = omega (arith, length-append before (f ∷ [])) in
      subst (λ c. HoldsIn c g) there (h (suc i) g e)))

  pub every_body : (names : Names) → ((c : ℕ) (f : Family) → slice_get names.families c ≡ Some f → HoldsIn c f) → Every Q (bodies_of names)
  every_body names h =
      each_family [] names.families (λ i f e. let same : i ≡ 0 + i = omega arith in subst (λ c. HoldsIn c f) same (h i f e))

-- the first of a number, if one is there
found_by : (p : NumberedBody → Bool) (Q : NumberedBody → Type 0) (x : NumberedBody) (xs : List NumberedBody) (b : Bool) → p x ≡ b
    → (b || list_any p xs) ≡ true → Q x → Every Q xs
    → (list_any p xs ≡ true → (y : NumberedBody) × (find p xs ≡ Some y) × (p y ≡ true) × Q y)
    → (y : NumberedBody) × (cond b (Some x) (find p xs) ≡ Some y) × (p y ≡ true) × Q y
found_by p Q x xs true is e q qs rest = (x, refl, is, q)
found_by p Q x xs false is e q qs rest = rest e

pub found : (p : NumberedBody → Bool) (Q : NumberedBody → Type 0) (xs : List NumberedBody) → list_any p xs ≡ true → Every Q xs
    → (y : NumberedBody) × (find p xs ≡ Some y) × (p y ≡ true) × Q y
found p Q [] e qs = cc
found p Q (x ∷ xs) e qs = found_by p Q x xs (p x) refl e qs.0 qs.1 (λ rest. found p Q xs rest qs.1)
