-- The body of each method and each constructor stands in the module at its number, with its parameters.
use Rattle.std.specs.Prelude.{◌≡◌, ℕ, zero, suc, ◌+◌, ◌<◌, Bool, true, false, cond, length, List, [], ◌∷◌, ◌++◌, map, unwrap_or, option_map, Option, Some, slice_get, if◌then◌else◌, None}
use Rattle.std.specs.List.{flat_map, list_any, range_with_len}
use Rattle.std.proofs.Common.{refl, ap, sym, ◌∙◌, subst, arith, append_assoc, length-append}
use Rattle.std.proofs.lemmas.Bool.{eqb-true}
use Rattle.std.proofs.lemmas.List.{length-map}
use Rattle.std.proofs.lemmas.List.Elements.{filter-append}
use Rattle.std.proofs.lemmas.Option.{same_Some, slice_get_within, slice_get-map}
use Rattle.ang_view.specs.Registration.{RegistrationList}
use Rattle.ang_tree.specs.Stmt.{Every}
use Rattle.ang_typed.specs.declared.program.TypedParameter.{TypedParameter}
use Rattle.ang_names_known.specs.declared.names.ScriptConstructor.{ScriptConstructor}
use Rattle.ang_names_known.specs.declared.names.Family.{Family}
use Rattle.ang_names_known.specs.declared.names.ScriptMethod.{ScriptMethod}
use Rattle.ang_names_known.specs.declared.names.Names.{Names}
use Rattle.ang_names_known.specs.declared.names.ScriptFunction.{ScriptFunction}
use Rattle.ang_names_known.specs.Items.{each_after}
use Rattle.ang_names_known.specs.Spaces.{Space}
use Rattle.ang_names_listed.specs.Sources.{Source}
use Rattle.ang_names_listed.specs.declared.listed.ListedDeclaration.{ListedDeclaration}
use Rattle.ang_names_listed.specs.declared.listed.ListedMember.{ListedMember}
use Rattle.ang_names_listed.specs.declared.listed.MemberKind.{MemberKind}
use Rattle.ang_names_listed.specs.declared.listed.MemberKind.TheVariants as member
use Rattle.ang_names_listed.specs.Declarations.{Declaring, declarations_of, families_of}
use Rattle.ang_names_classes.specs.Resolved.{space_of_declared}
use Rattle.ang_names_classes.specs.Headings.{heading_of, maker_of, signatures_of}
use Rattle.ang_names_classes.specs.Resolved.{has_body, with_bodies, body_members, methods_by, methods_after, constructors_by, constructors_after, families_after, functions_in, families_in, names_of}
use Rattle.ang_check.specs.Typing.{typed_parameters}
use Rattle.ang_check_sound.specs.Checked.{NumberedBody, with_this, bodies_of, body_parameters, module_in}
use Rattle.ang_check_sound.proofs.Items.{every_joined, every_other, every_at, at_front}
use Rattle.ang_check_sound.proofs.Numbers.{bodies_counted, has_number, every_body, found, method_numbered, constructor_numbered}
use Rattle.ang_check_sound.proofs.Parts.{bodies_more}
use Rattle.ang_check_sound.proofs.Places.{at_seam, EachFrom, at_number, in_second}

-- Among bodies of which the first one has this number, number k is one with these parameters.
record Stands (first : ℕ) (bodies : List (List TypedParameter)) (k : ℕ) (ps : List TypedParameter) : Type 0 where
  place : ℕ
  number : k ≡ first + place
  there : slice_get bodies place ≡ Some ps

-- the same among more bodies
stands_among : (first own : ℕ) (front bodies rest : List (List TypedParameter)) (k : ℕ) (ps : List TypedParameter) → own ≡ first + length front
    → Stands own bodies k ps → Stands first (front ++ (bodies ++ rest)) k ps
stands_among first own front bodies rest k ps e s = record {
  place = length front + s.place;
  number = let n : k ≡ own + s.place = s.number in omega (arith, e, n);
  there = in_second front (bodies ++ rest) (length front) s.place ps refl (at_front bodies rest s.place ps s.there);
}

-- a method's body, where it has one, and a constructor's, of family c
abbrev MethodStands : ℕ → List (List TypedParameter) → ℕ → ScriptMethod → Type 0
MethodStands first bodies c y =
    (k : ℕ) → y.body ≡ Some k → Stands first bodies k (with_this (record { family = c; read_only = y.read_only }) y.function)

abbrev ConstructorStands : ℕ → List (List TypedParameter) → ℕ → ScriptConstructor → Type 0
ConstructorStands first bodies c k = Stands first bodies k.body (with_this (record { family = c; read_only = false }) k.function)

record FamilyStands (first : ℕ) (bodies : List (List TypedParameter)) (c : ℕ) (f : Family) : Type 0 where
  methods : Every (MethodStands first bodies c) f.methods
  constructors : Every (ConstructorStands first bodies c) f.constructors

body_by : (b : Bool) (first : ℕ) (bodies : List (List TypedParameter)) (n k : ℕ) (ps : List TypedParameter) → (if b then Some n else None) ≡ Some k → (b ≡ true → Stands first bodies n ps)
    → Stands first bodies k ps
body_by true first bodies n k ps e h = subst (λ i. Stands first bodies i ps) (same_Some n k e) (h refl)
body_by false first bodies n k ps e h = cc

-- ---- the bodies of the declarations

module _ (E : Space) (all : List (ScriptFunction × Bool)) where
  -- the parameters of a member's body
  abbrev behind_this : ℕ → Declaring → ListedMember → MemberKind → List TypedParameter
  behind_this c d m (member.Field y) = []
  behind_this c d m (member.Method y ps a) =
      with_this (record { family = c; read_only = a.read_only }) (heading_of E d.origin d.text m.name y ps)
  behind_this c d m (member.Constructor ps) = with_this (record { family = c; read_only = false }) (maker_of E d.origin d.text m.name ps)

  abbrev bodies_by : ℕ → Declaring → List ListedMember → List (List TypedParameter)
  bodies_by c d ms = map (λ (m : ListedMember). behind_this c d m m.kind) (with_bodies d.shape.is_class ms)

  module _ (c : ℕ) (d : Declaring) (first : ℕ) where
    has_first : (m : ListedMember) (rest : List ListedMember) (b : Bool) → has_body d.shape.is_class m.kind ≡ b → b ≡ true
        → with_bodies d.shape.is_class (m ∷ rest) ≡ m ∷ with_bodies d.shape.is_class rest
    has_first m rest true e h = ap (λ (q : Bool). cond q (m ∷ with_bodies d.shape.is_class rest) (with_bodies d.shape.is_class rest)) e
    has_first m rest false e h = cc

    member_stands : (before : List ListedMember) (m : ListedMember) (rest : List ListedMember) → has_body d.shape.is_class m.kind ≡ true
        → Stands first (bodies_by c d (before ++ m ∷ rest)) (first + length (with_bodies d.shape.is_class before)) (behind_this c d m m.kind)
    member_stands before m rest has =
        let own = with_bodies d.shape.is_class before in
        let later = with_bodies d.shape.is_class rest in
        let split = filter-append (λ (x : ListedMember). has_body d.shape.is_class x.kind) before (m ∷ rest)
        ∙ ap (λ (xs : List ListedMember). own ++ xs) (has_first m rest (has_body d.shape.is_class m.kind) refl has) in
        record {
          place = length own;
          number = refl;
          there = slice_get-map (λ (x : ListedMember). behind_this c d x x.kind) (with_bodies d.shape.is_class (before ++ m ∷ rest)) (length own)
              ∙ ap (option_map (λ (x : ListedMember). behind_this c d x x.kind)) (ap (λ (xs : List ListedMember). slice_get xs (length own)) split ∙ at_seam own m later);
        }

    one_method : (bodies : List (List TypedParameter)) (m : ListedMember) (n : ℕ) (kind : MemberKind)
        → (has_body d.shape.is_class kind ≡ true → Stands first bodies n (behind_this c d m kind)) → Every (MethodStands first bodies c) (methods_by E all d m n kind)
    one_method bodies m n (member.Field y) h = tt
    one_method bodies m n (member.Method y ps a) h =
        (λ k e. body_by d.shape.is_class first bodies n k (behind_this c d m (member.Method y ps a)) e h, tt)
    one_method bodies m n (member.Constructor ps) h = tt

    one_constructor : (bodies : List (List TypedParameter)) (m : ListedMember) (n : ℕ) (kind : MemberKind)
        → (has_body d.shape.is_class kind ≡ true → Stands first bodies n (behind_this c d m kind))
        → Every (ConstructorStands first bodies c) (constructors_by E d m n kind)
    one_constructor bodies m n (member.Field y) h = tt
    one_constructor bodies m n (member.Method y ps a) h = tt
    one_constructor bodies m n (member.Constructor ps) h = (h refl, tt)

    methods_stand : (before rest : List ListedMember)
        → Every (MethodStands first (bodies_by c d (before ++ rest)) c) (each_after (methods_after E all d first) before rest)
    methods_stand before [] = tt
    methods_stand before (m ∷ rest) =
        let bodies = bodies_by c d (before ++ m ∷ rest) in
        let n = first + length (with_bodies d.shape.is_class before) in
        let after = each_after (methods_after E all d first) (before ++ m ∷ []) rest in
        every_joined (MethodStands first bodies c) (methods_by E all d m n m.kind) after (one_method bodies m n m.kind (member_stands before m rest))
        (subst (λ (ms : List ListedMember). Every (MethodStands first (bodies_by c d ms) c) after) (append_assoc before (m ∷ []) rest) (methods_stand (before ++ m ∷ []) rest))

    constructors_stand : (before rest : List ListedMember)
        → Every (ConstructorStands first (bodies_by c d (before ++ rest)) c) (each_after (constructors_after E d first) before rest)
    constructors_stand before [] = tt
    constructors_stand before (m ∷ rest) =
        let bodies = bodies_by c d (before ++ m ∷ rest) in
        let n = first + length (with_bodies d.shape.is_class before) in
        let after = each_after (constructors_after E d first) (before ++ m ∷ []) rest in
        every_joined (ConstructorStands first bodies c) (constructors_by E d m n m.kind) after (one_constructor bodies m n m.kind (member_stands before m rest))
        (subst (λ (ms : List ListedMember). Every (ConstructorStands first (bodies_by c d ms) c) after) (append_assoc before (m ∷ []) rest)
        (constructors_stand (before ++ m ∷ []) rest))

  -- ---- all of them

  module _ (families : List Declaring) (functions : ℕ) where
    abbrev families_from : List Declaring → List Declaring → List Family
    families_from front ds = each_after (families_after E families all functions) front ds

    abbrev bodies_from : List Declaring → List Declaring → List (List TypedParameter)
    bodies_from front ds = each_after (λ (before : List Declaring) (d : Declaring). bodies_by (length before) d d.shape.members) front ds

    families_stand : (whole done : List (List TypedParameter)) (front ds : List Declaring) → whole ≡ done ++ bodies_from front ds
        → length done ≡ length (flat_map body_members front) → EachFrom (FamilyStands functions whole) (length front) (families_from front ds)
    families_stand whole done front [] e count = tt
    families_stand whole done front (d ∷ ds) e count =
        let c = length front in
        let first = functions + length (flat_map body_members front) in
        let own = bodies_by c d d.shape.members in
        let rest = bodies_from (front ++ d ∷ []) ds in
        let start : first ≡ functions + length done = omega (arith, count) in
        let moved : (k : ℕ) (ps : List TypedParameter) → Stands first own k ps → Stands functions whole k ps =
        λ k ps s. subst (λ (bs : List (List TypedParameter)). Stands functions bs k ps) (sym e) (stands_among functions first done own rest k ps start s) in
        let longer : length front + 1 ≡ length (front ++ d ∷ []) = omega (arith, length-append front (d ∷ [])) in
        let many : length own ≡ length (body_members d) = length-map (body_members d) (λ (m : ListedMember). behind_this c d m m.kind) in
        let counted : length (done ++ own) ≡ length (flat_map body_members (front ++ d ∷ [])) =
        let more = bodies_more front d (length (body_members d)) refl in omega (arith, length-append done own, count, many, more) in (
          record {
            methods = every_other (MethodStands first own c) (MethodStands functions whole c) (each_after (methods_after E all d first) [] d.shape.members)
                (λ y s k body. moved k (with_this (record { family = c; read_only = y.read_only }) y.function) (s k body)) (methods_stand c d first [] d.shape.members);
            constructors = every_other (ConstructorStands first own c) (ConstructorStands functions whole c)
                (each_after (constructors_after E d first) [] d.shape.members)
                (λ k s. moved k.body (with_this (record { family = c; read_only = false }) k.function) s) (constructors_stand c d first [] d.shape.members);
          },
          subst (λ n. EachFrom (FamilyStands functions whole) n (families_from (front ++ d ∷ []) ds)) (sym longer)
              (families_stand whole (done ++ own) (front ++ d ∷ []) ds (e ∙ sym (append_assoc done own rest)) counted),
        )

    bodies_number : (front ds : List Declaring) → length (bodies_from front ds) ≡ length (flat_map body_members ds)
    bodies_number front [] = refl
    bodies_number front (d ∷ ds) =
        let own = bodies_by (length front) d d.shape.members in
        let many : length own ≡ length (body_members d) = length-map (body_members d) (λ (m : ListedMember). behind_this (length front) d m m.kind) in
        let rest : length (bodies_from (front ++ d ∷ []) ds) ≡ length (flat_map body_members ds) = bodies_number (front ++ d ∷ []) ds in
        let left = length-append own (bodies_from (front ++ d ∷ []) ds) in
        let right = length-append (body_members d) (flat_map body_members ds) in
        omega (arith, many, rest, left, right)

-- ---- in the module of the names

ranged_at : (g : ℕ → List TypedParameter) (first n i : ℕ) → i < n → slice_get (map g (range_with_len first n)) i ≡ Some (g (first + i))
ranged_at g first zero i h = let no : ⊥ = omega (arith, h) in absurd no
ranged_at g first (suc n) zero h = let same : first ≡ first + 0 = omega arith in ap (λ k. Some (g k)) same
ranged_at g first (suc n) (suc i) h =
    let same : first + 1 + i ≡ first + suc i = omega arith in
    let less : i < n = omega (arith, h) in
    ranged_at g (first + 1) n i less ∙ ap (λ k. Some (g k)) same

module _ (V : RegistrationList) (names : Names) (whole : List (List TypedParameter)) (count : length (bodies_of names) ≡ length whole)
    (stand : EachFrom (FamilyStands (length names.functions) whole) 0 names.families) where
  abbrev IsStanding : NumberedBody → Type 0
  IsStanding b = Stands (length names.functions) whole b.0 b.1

  family_standing : (c : ℕ) (f : Family) → slice_get names.families c ≡ Some f → FamilyStands (length names.functions) whole c f
  family_standing c f e = at_number (FamilyStands (length names.functions) whole) c names.families f stand e

  all_standing : Every IsStanding (bodies_of names)
  all_standing =
      every_body IsStanding names
      (λ c f e. record {
        methods = λ m y at. every_at (MethodStands (length names.functions) whole c) f.methods m y (family_standing c f e).methods at;
        constructors = λ m k at. every_at (ConstructorStands (length names.functions) whole c) f.constructors m k (family_standing c f e).constructors at;
      })

  parameters_of_body : (k : ℕ) (ps : List TypedParameter) → Stands (length names.functions) whole k ps → list_any (has_number k) (bodies_of names) ≡ true
      → body_parameters names k ≡ ps
  parameters_of_body k ps s listed =
      let b = found (has_number k) IsStanding (bodies_of names) listed all_standing in
      let number : b.0.0 ≡ k = eqb-true b.0.0 k b.2 in
      let own : b.0.0 ≡ length names.functions + b.3.place = b.3.number in
      let other : k ≡ length names.functions + s.place = s.number in
      let place : b.3.place ≡ s.place = omega (arith, number, own, other) in
      let there : slice_get whole s.place ≡ Some b.0.1 = subst (λ n. slice_get whole n ≡ Some b.0.1) place b.3.there in
      ap (λ (o : Option NumberedBody). unwrap_or (option_map (λ (x : NumberedBody). x.1) o) []) b.1 ∙ same_Some b.0.1 ps (sym there ∙ s.there)

  body_in_module : (k : ℕ) (ps : List TypedParameter) → Stands (length names.functions) whole k ps → list_any (has_number k) (bodies_of names) ≡ true
      → slice_get (module_in V names).parameters k ≡ Some ps
  body_in_module k ps s listed =
      let within : s.place < length (bodies_of names) =
      let less : s.place < length whole = slice_get_within whole s.place ps s.there in omega (arith, less, count) in
      let number : length names.functions + s.place ≡ k = sym s.number in
      let at : slice_get (map (body_parameters names) (range_with_len (length names.functions) (length (bodies_of names)))) s.place ≡ Some ps =
      ranged_at (body_parameters names) (length names.functions) (length (bodies_of names)) s.place within
      ∙ ap Some (ap (body_parameters names) number ∙ parameters_of_body k ps s listed) in
      subst (λ n. slice_get (module_in V names).parameters n ≡ Some ps) number
      (in_second (map typed_parameters names.functions) _ (length names.functions) s.place ps (length-map names.functions typed_parameters) at)

  method_in : (c m : ℕ) (f : Family) (y : ScriptMethod) (k : ℕ) → slice_get names.families c ≡ Some f → slice_get f.methods m ≡ Some y → y.body ≡ Some k
      → slice_get (module_in V names).parameters k ≡ Some (with_this (record { family = c; read_only = y.read_only }) y.function)
  method_in c m f y k there at e =
      body_in_module k (with_this (record { family = c; read_only = y.read_only }) y.function)
      (every_at (MethodStands (length names.functions) whole c) f.methods m y (family_standing c f there).methods at k e)
      (method_numbered names k c m f y there at e)

  constructor_in : (c m : ℕ) (f : Family) (k : ScriptConstructor) → slice_get names.families c ≡ Some f → slice_get f.constructors m ≡ Some k
      → slice_get (module_in V names).parameters k.body ≡ Some (with_this (record { family = c; read_only = false }) k.function)
  constructor_in c m f k there at =
      body_in_module k.body (with_this (record { family = c; read_only = false }) k.function)
      (every_at (ConstructorStands (length names.functions) whole c) f.constructors m k (family_standing c f there).constructors at)
      (constructor_numbered names k.body c m f k there at refl)

pub record HasBodiesIn (V : RegistrationList) (names : Names) : Type 0 where
  pub methods : (c m : ℕ) (f : Family) (y : ScriptMethod) (k : ℕ) → slice_get names.families c ≡ Some f → slice_get f.methods m ≡ Some y → y.body ≡ Some k
      → slice_get (module_in V names).parameters k ≡ Some (with_this (record { family = c; read_only = y.read_only }) y.function)
  pub constructors : (c m : ℕ) (f : Family) (k : ScriptConstructor) → slice_get names.families c ≡ Some f → slice_get f.constructors m ≡ Some k
      → slice_get (module_in V names).parameters k.body ≡ Some (with_this (record { family = c; read_only = false }) k.function)

bodies_in_module : (V : RegistrationList) (ds : List ListedDeclaration) → HasBodiesIn V (names_of V ds)
unfolding names_of families_in
bodies_in_module V ds =
    let names = names_of V ds in
    let E = space_of_declared V ds in
    let families = families_of ds in
    let all = signatures_of E families in
    let functions = length (functions_in E ds) in
    let whole = bodies_from E all families functions [] families in
    let stand = families_stand E all families functions whole [] [] families refl refl in
    let count = bodies_counted E all families functions [] [] families ∙ sym (bodies_number E all families functions [] families) in
    record { methods = method_in V names whole count stand; constructors = constructor_in V names whole count stand }

pub has_bodies_in : (V : RegistrationList) (names : Names) (sources : List Source) → names ≡ names_of V (declarations_of sources) → HasBodiesIn V names
has_bodies_in V names sources e = subst (HasBodiesIn V) (sym e) (bodies_in_module V (declarations_of sources))
