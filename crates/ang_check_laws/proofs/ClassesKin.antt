-- A base class stands above its class, and what stands in the order of a family is that family or stands above it.
use Rattle.std.specs.Prelude.{ℕ, zero, suc, Bool, true, false, not, ◌≡◌, ◌<◌, ◌==◌, ◌&&◌, ◌⊎◌, List, [], length, Option, Some, None, slice_get}
use Rattle.std.specs.List.{list_any, range_with_len}
use Rattle.std.proofs.Common.{arith, refl, ap, sym, subst, inl, inr, ◌∙◌}
use Rattle.std.proofs.lemmas.Bool.{eqb-true, eq-eqb}
use Rattle.std.proofs.lemmas.Option.{same_Some}
use Rattle.std.proofs.lemmas.List.Folds.{list_any-append}
use Rattle.ang_view.specs.Registration.{RegistrationList}
use Rattle.ang_names_graph.specs.Graphs.{IsWithin, Way, is_near, leads, order_of, ring, rings, some_below}
use Rattle.ang_names_graph.proofs.Closure.{leads_join, least}
use Rattle.ang_names_graph.proofs.Rings.{any_numbers}
use Rattle.ang_names_known.specs.declared.names.Family.{Family}
use Rattle.ang_names_known.specs.declared.names.Names.{Names}
use Rattle.ang_names_known.specs.declared.names.ScriptFunction.{ScriptFunction}
use Rattle.ang_names_known.specs.Items.{each_after}
use Rattle.ang_names_known.specs.Lookup.{is_under}
use Rattle.ang_names_known.specs.Spaces.{Space}
use Rattle.ang_names_listed.specs.declared.listed.ListedDeclaration.{ListedDeclaration}
use Rattle.ang_names_listed.specs.Declarations.{Declaring, families_of}
use Rattle.ang_names_classes.specs.Headings.{signatures_of}
use Rattle.ang_names_classes.specs.Hierarchy.{is_base, is_class_at, is_parent}
use Rattle.ang_names_classes.specs.Resolved.{families_after, families_in, family_with, functions_in, gives_members, names_of, space_of_declared}
use Rattle.ang_check_laws.proofs.ClassesGraph.{or_left, or_right, or_cases, and_parts, some_out, above_in, find_passes, near_up, in_ring}
use Rattle.ang_check_laws.proofs.ClassesDeclared.{parent_there}
use Rattle.ang_check_laws.proofs.ClassesTables.{family_there, family_gone}
use Rattle.ang_check_laws.proofs.Placed.{above_of}

-- ---- what is in the order is near

near_from : (e : ℕ → ℕ → Bool) (n i j : ℕ) → (i == j) ≡ true → is_near e n zero i j ≡ true
unfolding is_near
near_from e n i j h = h

rings_out : (e : ℕ → ℕ → Bool) (n d i k : ℕ) → list_any (λ j. j == k) (rings e n d i) ≡ true → is_near e n d i k ≡ true
rings_out e n zero i k h =
    elim (or_cases (i == k) false h) [ inl same ↦ near_from e n i k same | inr no' ↦ absurd (let x : false ≡ true = no' in cc) ]
rings_out e n (suc d) i k h =
    elim (or_cases (list_any (λ j. j == k) (rings e n d i)) (list_any (λ j. j == k) (ring e n (suc d) i))
    (sym (list_any-append (λ j. j == k) (rings e n d i) (ring e n (suc d) i)) ∙ h)) [
      | inl before ↦ near_up e n d i k (rings_out e n d i k before)
      | inr last ↦
          let found = some_out (λ j. in_ring e n d i j && (j == k)) n (sym (any_numbers (λ j. j == k) (in_ring e n d i) n) ∙ last) in
          let parts = and_parts (in_ring e n d i found.0) (found.0 == k) found.2 in
          let near = (and_parts (is_near e n (suc d) i found.0) (not (is_near e n d i found.0)) parts.0).0 in
          subst (λ j. is_near e n (suc d) i j ≡ true) (eqb-true found.0 k parts.1) near
    ]

pub order_out : (e : ℕ → ℕ → Bool) (n i k : ℕ) → list_any (λ j. j == k) (order_of e n i) ≡ true → is_near e n n i k ≡ true
unfolding order_of
order_out e n i k h = rings_out e n n i k h

near_cases : (e : ℕ → ℕ → Bool) (n d i j : ℕ) → is_near e n (suc d) i j ≡ true
    → (is_near e n d i j ≡ true) ⊎ (some_below (λ k. is_near e n d i k && e k j) n ≡ true)
unfolding is_near
near_cases e n d i j h = or_cases (is_near e n d i j) (some_below (λ k. is_near e n d i k && e k j) n) h

near_same : (e : ℕ → ℕ → Bool) (n i j : ℕ) → is_near e n zero i j ≡ true → (i == j) ≡ true
unfolding is_near
near_same e n i j h = h

-- What is near by some edges is the place itself, or by these among others one leads there.
module _ (e p : ℕ → ℕ → Bool) (n : ℕ) (w : IsWithin p n) (among : (i j : ℕ) → e i j ≡ true → p i j ≡ true) where
  pub near_out : (d i j : ℕ) → is_near e n d i j ≡ true → (i ≡ j) ⊎ (leads p n i j ≡ true)
  near_out zero i j h = inl (eqb-true i j (near_same e n i j h))
  near_out (suc d) i j h =
      elim (near_cases e n d i j h) [
        | inl before ↦ near_out d i j before
        | inr last ↦
            let found = some_out (λ k. is_near e n d i k && e k j) n last in
            let k = found.0 in
            let parts = and_parts (is_near e n d i k) (e k j) found.2 in
            let edge : leads p n k j ≡ true = (least p n w k j).1 (zero, among k j parts.1) in
            elim (near_out d i k parts.0) [
              | inl same ↦ inr (subst (λ x. leads p n x j ≡ true) (sym same) edge)
              | inr over ↦ inr (leads_join p n i k j found.1 over edge)
            ]
      ]

way_within : (p : ℕ → ℕ → Bool) (n : ℕ) → IsWithin p n → (m i j : ℕ) → Way p m i j → j < n
way_within p n w zero i j h = w.below i j h
way_within p n w (suc m) i j h = way_within p n w m h.0 j h.2

led_within : (p : ℕ → ℕ → Bool) (n : ℕ) → IsWithin p n → (i j : ℕ) → leads p n i j ≡ true → j < n
led_within p n w i j over = let way = (least p n w i j).0 over in way_within p n w way.0 i j way.1

-- ---- of the families of a build

all_parents : (ds : List Declaring) → IsWithin (is_parent ds) (length ds)
all_parents ds = record { below = parent_there ds }

members_by : (ds : List Declaring) (b : Bool) (i j : ℕ) → gives_members ds b i j ≡ true → is_parent ds i j ≡ true
members_by ds true i j h = (and_parts (is_parent ds i j) (is_class_at ds j) h).0
members_by ds false i j h = h

module _ (E : Space) (ds : List Declaring) (methods : List (ScriptFunction × Bool)) (functions : ℕ) where
  abbrev families : List Family
  families = each_after (families_after E ds methods functions) [] ds

  -- a family of the names is that of a declaration
  pub record IsDeclaredAt (c : ℕ) (f : Family) : Type 0 where
    pub first : ℕ
    pub declaration : Declaring
    pub is : family_with E ds methods c first declaration ≡ f

  declared_by : (c : ℕ) (f : Family) (o : Option Declaring) → slice_get ds c ≡ o → slice_get families c ≡ Some f → IsDeclaredAt c f
  declared_by c f None is e = absurd (let no' : None ≡ Some f = sym (family_gone E ds methods functions [] ds c is) ∙ e in cc)
  declared_by c f (Some d) is e =
      let found = family_there E ds methods functions [] ds c c d (omega arith) is in
      record { first = found.0; declaration = d; is = same_Some _ f (sym found.1 ∙ e) }

  base_above : (c b : ℕ) (f : Family) → slice_get families c ≡ Some f → f.base ≡ Some b → list_any (λ k. k == b) f.above ≡ true
  base_above c b f e base =
      let h = declared_by c f (slice_get ds c) refl e in
      let edge = (and_parts (is_parent ds c b) (is_class_at ds b)
      (find_passes (is_base ds c) (range_with_len 0 (length ds)) b (ap (λ (x : Family). x.base) h.is ∙ base))).0 in
      sym (ap (λ (x : Family). list_any (λ k. k == b) x.above) h.is)
      ∙ above_in (is_parent ds) (length ds) c b (λ k. k == b) (eq-eqb b b refl) (parent_there ds c b edge)
      ((least (is_parent ds) (length ds) (all_parents ds) c b).1 (zero, edge))

  -- where one is led, that stands above
  led_above : (c k : ℕ) (f : Family) → slice_get families c ≡ Some f → leads (is_parent ds) (length ds) c k ≡ true → k < length ds → is_under families c k ≡ true
  led_above c k f e over lt =
      let h = declared_by c f (slice_get ds c) refl e in
      or_right (c == k) (list_any (λ j. j == k) (above_of (slice_get families c)))
      (ap (λ o. list_any (λ j. j == k) (above_of o)) e
      ∙ sym (ap (λ (x : Family). list_any (λ j. j == k) x.above) h.is)
      ∙ above_in (is_parent ds) (length ds) c k (λ j. j == k) (eq-eqb k k refl) lt over)

  -- what gives members to a family is that family or stands above it
  near_above : (b : Bool) (c k : ℕ) (f : Family) → slice_get families c ≡ Some f → is_near (gives_members ds b) (length ds) (length ds) c k ≡ true
      → is_under families c k ≡ true
  near_above b c k f e near =
      elim (near_out (gives_members ds b) (is_parent ds) (length ds) (all_parents ds) (members_by ds b) (length ds) c k near) [
        | inl same ↦ or_left (c == k) (list_any (λ j. j == k) (above_of (slice_get families c))) (eq-eqb c k same)
        | inr over ↦ led_above c k f e over (led_within (is_parent ds) (length ds) (all_parents ds) c k over)
      ]

  order_above : (c k : ℕ) (f : Family) → slice_get families c ≡ Some f → list_any (λ j. j == k) f.order ≡ true → is_under families c k ≡ true
  order_above c k f e listed =
      let h = declared_by c f (slice_get ds c) refl e in
      let b = (h.declaration).shape.is_class in
      near_above b c k f e (order_out (gives_members ds b) (length ds) c k (ap (λ (x : Family). list_any (λ j. j == k) x.order) h.is ∙ listed))

families_named : (V : RegistrationList) (ds : List ListedDeclaration)
    → (names_of V ds).families ≡ families (space_of_declared V ds) (families_of ds) (signatures_of (space_of_declared V ds) (families_of ds)) (length (functions_in (space_of_declared V ds) ds))
unfolding names_of families_in
families_named V ds = refl

pub bases_above : (V : RegistrationList) (names : Names) (ds : List ListedDeclaration) → names ≡ names_of V ds → (c b : ℕ) (f : Family) → slice_get names.families c ≡ Some f
    → f.base ≡ Some b → list_any (λ k. k == b) f.above ≡ true
bases_above V names ds e c b f there base =
    let E = space_of_declared V ds in
    let same = ap (λ (ns : Names). ns.families) e ∙ families_named V ds in
    base_above E (families_of ds) (signatures_of E (families_of ds)) (length (functions_in E ds)) c b f (sym (ap (λ fs. slice_get fs c) same) ∙ there) base

pub orders_above : (V : RegistrationList) (names : Names) (ds : List ListedDeclaration) → names ≡ names_of V ds → (c k : ℕ) (f : Family) → slice_get names.families c ≡ Some f
    → list_any (λ j. j == k) f.order ≡ true → is_under names.families c k ≡ true
orders_above V names ds e c k f there listed =
    let E = space_of_declared V ds in
    let same = ap (λ (ns : Names). ns.families) e ∙ families_named V ds in
    ap (λ fs. is_under fs c k) same
    ∙ order_above E (families_of ds) (signatures_of E (families_of ds)) (length (functions_in E ds)) c k f (sym (ap (λ fs. slice_get fs c) same) ∙ there) listed

pub bases_near : (V : RegistrationList) (names : Names) (ds : List ListedDeclaration) → names ≡ names_of V ds → (c k : ℕ) (f : Family) → slice_get names.families c ≡ Some f
    → is_near (is_base (families_of ds)) (length (families_of ds)) (length (families_of ds)) c k ≡ true → is_under names.families c k ≡ true
bases_near V names ds e c k f there near =
    let E = space_of_declared V ds in
    let same = ap (λ (ns : Names). ns.families) e ∙ families_named V ds in
    ap (λ fs. is_under fs c k) same
    ∙ near_above E (families_of ds) (signatures_of E (families_of ds)) (length (functions_in E ds)) true c k f (sym (ap (λ fs. slice_get fs c) same) ∙ there) near
