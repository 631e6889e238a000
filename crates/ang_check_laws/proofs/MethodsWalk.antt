-- The body that a class has in the slot of a method of a class above it.
use Rattle.std.specs.Prelude.{ℕ, zero, suc, ◌≡◌, ◌<◌, ◌≤◌, ◌+◌, ◌-◌, ◌==◌, ◌⊎◌, Bool, true, false, ◌&&◌, ◌||◌, if◌then◌else◌, cond, List, [], ◌∷◌, ◌++◌, drop, find, length, option_map, option_and_then, Option, Some, None, slice_get}
use Rattle.std.specs.List.{list_any, filter_map, cons_option}
use Rattle.std.specs.Option.{option_or}
use Rattle.std.proofs.Common.{arith, refl, ap, sym, subst, inl, inr, ◌∙◌}
use Rattle.std.proofs.lemmas.Bool.{eqb-true, eq-eqb}
use Rattle.std.proofs.lemmas.Option.{same_Some, slice_get_within, slice_get-map}
use Rattle.ang_tree.specs.Stmt.{Every}
use Rattle.ang_typed.specs.declared.program.TypedClass.{TypedClass}
use Rattle.ang_names_graph.specs.Graphs.{is_near, order_of, ring, rings, some_below}
use Rattle.ang_names_known.specs.declared.names.Family.{Family}
use Rattle.ang_names_known.specs.declared.names.ScriptFunction.{ScriptFunction}
use Rattle.ang_names_known.specs.declared.names.ScriptMethod.{ScriptMethod}
use Rattle.ang_names_known.specs.Items.{each_after}
use Rattle.ang_names_known.specs.Spaces.{Space}
use Rattle.ang_names_listed.specs.declared.listed.ListedMember.{ListedMember}
use Rattle.ang_names_listed.specs.declared.listed.MemberKind.{MemberKind}
use Rattle.ang_names_listed.specs.declared.listed.MemberKind.TheVariants as member
use Rattle.ang_names_listed.specs.Declarations.{Declaring, declarations_of, families_of}
use Rattle.ang_names_listed.specs.declared.listed.ListedDeclaration.{ListedDeclaration}
use Rattle.ang_names_classes.specs.Headings.{signatures_of}
use Rattle.ang_names_classes.specs.Hierarchy.{is_base, is_class_at, is_parent, names_place}
use Rattle.ang_names_classes.specs.Resolved.{families_after, families_in, family_with, functions_in, space_of_declared, gives_members, methods_after, methods_by, with_bodies}
use Rattle.ang_check.specs.Bodies.{slot_and_body, typed_class, typed_classes}
use Rattle.ang_source.specs.Meaning.{own_body, body_by}
use Rattle.ang_check_sound.proofs.Items.{every_joined}
use Rattle.ang_check_laws.specs.Methods.{BodyIn, ClassesHaveBodies}
use Rattle.ang_check_laws.proofs.MethodsPhases.{overrides}
use Rattle.ang_check_laws.proofs.ClassesGraph.{or_cases, and_parts, some_out, find_only, near_itself, near_up, near_more, near_later, order_has}
use Rattle.ang_check_laws.proofs.ClassesDeclared.{IsAccepted, accepted, parent_there}
use Rattle.ang_check_laws.proofs.ClassesTables.{family_there}
use Rattle.ang_check_laws.proofs.Placed.{is_class_in}

-- ---- steps up

module _ (e : ℕ → ℕ → Bool) where
  -- j is i, or d edges at most lead there
  abbrev pub Up : ℕ → ℕ → ℕ → Type 0
  Up zero i j = i ≡ j
  Up (suc d) i j = (i ≡ j) ⊎ ((k : ℕ) × (e i k ≡ true) × Up d k j)

  pub up_more : (d i j : ℕ) → Up d i j → Up (suc d) i j
  up_more zero i j h = inl h
  up_more (suc d) i j (inl h) = inl h
  up_more (suc d) i j (inr h) = inr (h.0, h.1, up_more d h.0 j h.2)

  up_snoc : (d i k j : ℕ) → Up d i k → e k j ≡ true → Up (suc d) i j
  up_snoc zero i k j h edge = inr (j, subst (λ x. e x j ≡ true) (sym h) edge, refl)
  up_snoc (suc d) i k j (inl h) edge = inr (j, subst (λ x. e x j ≡ true) (sym h) edge, inl refl)
  up_snoc (suc d) i k j (inr h) edge = inr (h.0, h.1, up_snoc d h.0 k j h.2 edge)

  module _ (n : ℕ) where
    near_cases : (d i j : ℕ) → is_near e n (suc d) i j ≡ true → (is_near e n d i j ≡ true) ⊎ (some_below (λ k. is_near e n d i k && e k j) n ≡ true)
    unfolding is_near
    near_cases d i j h = or_cases (is_near e n d i j) (some_below (λ k. is_near e n d i k && e k j) n) h

    near_same : (i j : ℕ) → is_near e n zero i j ≡ true → (i == j) ≡ true
    unfolding is_near
    near_same i j h = h

    pub up_near : (d i j : ℕ) → is_near e n d i j ≡ true → Up d i j
    up_near zero i j h = eqb-true i j (near_same i j h)
    up_near (suc d) i j h =
        elim (near_cases d i j h) [
          | inl before ↦ up_more d i j (up_near d i j before)
          | inr last ↦
              let found = some_out (λ k. is_near e n d i k && e k j) n last in
              let parts = and_parts (is_near e n d i found.0) (e found.0 j) found.2 in
              up_snoc d i found.0 j (up_near d i found.0 parts.0) parts.1
        ]

    near_cons : (d i k j : ℕ) → i < n → e i k ≡ true → is_near e n d k j ≡ true → is_near e n (suc d) i j ≡ true
    near_cons zero i k j lt edge h =
        near_more e n zero i i j lt (near_itself e n i) (subst (λ x. e i x ≡ true) (eqb-true k j (near_same k j h)) edge)
    near_cons (suc d) i k j lt edge h =
        elim (near_cases d k j h) [
          | inl before ↦ near_up e n (suc d) i j (near_cons d i k j lt edge before)
          | inr last ↦
              let found = some_out (λ l. is_near e n d k l && e l j) n last in
              let parts = and_parts (is_near e n d k found.0) (e found.0 j) found.2 in
              near_more e n (suc d) i found.0 j found.1 (near_cons d i k found.0 lt edge parts.0) parts.1
        ]

    pub near_here : (d i j : ℕ) → i ≡ j → is_near e n d i j ≡ true
    near_here zero i j same = subst (λ k. is_near e n zero i k ≡ true) same (near_itself e n i)
    near_here (suc d) i j same = near_up e n d i j (near_here d i j same)

    pub near_of : ((i k : ℕ) → e i k ≡ true → i < n) → (d i j : ℕ) → Up d i j → is_near e n d i j ≡ true
    near_of from zero i j h = near_here zero i j h
    near_of from (suc d) i j (inl h) = near_here (suc d) i j h
    near_of from (suc d) i j (inr h) = near_cons d i h.0 j (from i h.0 h.1) h.1 (near_of from d h.0 j h.2)

    -- what is in the order of a place and is another one is behind it
    order_starts : (d i : ℕ) → (r : List ℕ) × (rings e n d i ≡ i ∷ r)
    order_starts zero i = ([], refl)
    order_starts (suc d) i =
        let r = order_starts d i in (r.0 ++ ring e n (suc d) i, ap (λ xs. xs ++ ring e n (suc d) i) r.1)

    pub in_rest : (i k : ℕ) → (i == k) ≡ false → list_any (λ j. j == k) (order_of e n i) ≡ true → list_any (λ j. j == k) (drop 1 (order_of e n i)) ≡ true
    unfolding order_of
    in_rest i k other h =
        let r = order_starts n i in
        let there : list_any (λ j. j == k) (i ∷ r.0) ≡ true = sym (ap (list_any (λ j. j == k)) r.1) ∙ h in
        ap (λ xs. list_any (λ j. j == k) (drop 1 xs)) r.1 ∙ sym (ap (λ b. b || list_any (λ j. j == k) r.0) other) ∙ there

-- ---- methods with bodies

abbrev pub HasBody : ScriptMethod → Type 0
HasBody y = (k : ℕ) × (y.body ≡ Some k)

abbrev pub at_slot : ℕ → ScriptMethod → Bool
at_slot s y = y.slot == s

abbrev pub body_of : ScriptMethod → Option ℕ
body_of y = y.body

own_step : (s k : ℕ) (y : ScriptMethod) (rows : List (ℕ × ℕ)) (ms : List ScriptMethod) (b : Bool) → own_body s rows ≡ option_and_then body_of (find (at_slot s) ms)
    → y.body ≡ Some k
    → option_map (λ (r : ℕ × ℕ). r.1) (cond b (Some (y.slot, k)) (find (λ (r : ℕ × ℕ). r.0 == s) rows)) ≡ option_and_then body_of (cond b (Some y) (find (at_slot s) ms))
own_step s k y rows ms true h e = sym e
own_step s k y rows ms false h e = h

own_same : (s : ℕ) (ms : List ScriptMethod) → Every HasBody ms → own_body s (filter_map slot_and_body ms) ≡ option_and_then body_of (find (at_slot s) ms)
own_same s [] h = refl
own_same s (y ∷ ms) h =
    ap (λ (o : Option ℕ). own_body s (cons_option (option_map (λ k. (y.slot, k)) o) (filter_map slot_and_body ms))) h.0.1
    ∙ own_step s h.0.0 y (filter_map slot_and_body ms) ms (y.slot == s) (own_same s ms h.1) h.0.1

pub record IsFirstAt (s : ℕ) (ms : List ScriptMethod) (y : ScriptMethod) : Type 0 where
  pub place : ℕ
  pub there : slice_get ms place ≡ Some y
  pub slot : y.slot ≡ s
  pub body : (Every HasBody ms) → HasBody y

first_by : (s : ℕ) (x : ScriptMethod) (ms : List ScriptMethod) (y : ScriptMethod) (b : Bool) → (x.slot == s) ≡ b → cond b (Some x) (find (at_slot s) ms) ≡ Some y
    → (find (at_slot s) ms ≡ Some y → IsFirstAt s ms y) → IsFirstAt s (x ∷ ms) y
first_by s x ms y true is e go =
    let same = same_Some x y e in record {
      place = 0;
      there = ap Some same;
      slot = subst (λ (u : ScriptMethod). u.slot ≡ s) same (eqb-true x.slot s is);
      body = λ h. subst HasBody same h.0;
    }
first_by s x ms y false is e go =
    let r = go e in record { place = suc r.place; there = r.there; slot = r.slot; body = λ h. r.body h.1 }

pub first_at : (s : ℕ) (ms : List ScriptMethod) (y : ScriptMethod) → find (at_slot s) ms ≡ Some y → IsFirstAt s ms y
first_at s [] y e = cc
first_at s (x ∷ ms) y e = first_by s x ms y (x.slot == s) refl e (λ h. first_at s ms y h)

-- Overrides keep results.
abbrev pub KeepsResults : List Family → Type 0
KeepsResults fs = (c d i j : ℕ) (f g : Family) (y x : ScriptMethod) → slice_get fs c ≡ Some f → f.is_class ≡ true → slice_get f.methods i ≡ Some y
    → slice_get fs d ≡ Some g → slice_get g.methods j ≡ Some x → list_any (λ k. k == d) (drop 1 f.order) ≡ true → (x.slot == y.slot) ≡ true
    → x.function.result.ty ≡ y.function.result.ty

-- ---- the body in a slot

class_named : (ds : List Declaring) (o : Option Declaring) → is_class_in o ≡ true → (d : Declaring) × (o ≡ Some d) × (d.shape.is_class ≡ true)
class_named ds None e = cc
class_named ds (Some d) e = (d, refl, e)

parent_named : (ds : List Declaring) (i j : ℕ) (o : Option Declaring) → slice_get ds i ≡ o → names_place ds j o ≡ true → i < length ds
parent_named ds i j None at e = cc
parent_named ds i j (Some d) at e = slice_get_within ds i d at

pub base_from : (ds : List Declaring) (i j : ℕ) → is_base ds i j ≡ true → i < length ds
base_from ds i j e = parent_named ds i j (slice_get ds i) refl (and_parts (is_parent ds i j) (is_class_at ds j) e).0

module _ (E : Space) (ds : List Declaring) (methods : List (ScriptFunction × Bool)) (functions : ℕ) (accepted : IsAccepted E ds) where
  abbrev pub families : List Family
  families = each_after (families_after E ds methods functions) [] ds

  abbrev pub classes : List TypedClass
  classes = typed_classes families

  kind_bodies : (d : Declaring) (m : ListedMember) (n : ℕ) (kind : MemberKind) → d.shape.is_class ≡ true → Every HasBody (methods_by E methods d m n kind)
  kind_bodies d m n (member.Field y) c = tt
  kind_bodies d m n (member.Method y ps a) c = ((n, ap (λ b. if b then Some n else None) c), tt)
  kind_bodies d m n (member.Constructor ps) c = tt

  members_bodies : (d : Declaring) (first : ℕ) (before ms : List ListedMember) → d.shape.is_class ≡ true → Every HasBody (each_after (methods_after E methods d first) before ms)
  members_bodies d first before [] c = tt
  members_bodies d first before (m ∷ ms) c =
      let n = first + length (with_bodies d.shape.is_class before) in
      every_joined HasBody (methods_by E methods d m n m.kind) (each_after (methods_after E methods d first) (before ++ m ∷ []) ms) (kind_bodies d m n m.kind c)
      (members_bodies d first (before ++ m ∷ []) ms c)

  module _ (keeps : KeepsResults families) (top j : ℕ) (g : Family) (x : ScriptMethod) (top_is : slice_get families top ≡ Some g)
      (inner : slice_get g.methods j ≡ Some x) (first : find (at_slot x.slot) g.methods ≡ Some x)
      (below : top < length ds) where
    -- the class of this number has a body in the slot, of a class a steps above it at most
    pub record HasBodyIn (a c : ℕ) : Type 0 where
      pub number : ℕ
      pub chosen : body_by classes x.slot a (slice_get classes c) ≡ Some number
      pub class : ℕ
      pub family : Family
      pub place : ℕ
      pub method : ScriptMethod
      pub there : slice_get families class ≡ Some family
      pub within : slice_get family.methods place ≡ Some method
      pub body : method.body ≡ Some number
      pub slot : method.slot ≡ x.slot
      pub result : x.function.result.ty ≡ method.function.result.ty
      pub over : Up (is_base ds) a c class

    own_first : (a k : ℕ) (row : TypedClass) → own_body x.slot row.chosen ≡ Some k → body_by classes x.slot a (Some row) ≡ Some k
    own_first zero k row e = e
    own_first (suc a) k row e =
        ap (λ o. option_or o (body_by classes x.slot a (option_and_then (slice_get classes) row.base))) e

    up_here : (a c : ℕ) → Up (is_base ds) a c c
    up_here zero c = refl
    up_here (suc a) c = inl refl

    same_by : (a c : ℕ) (d : Declaring) (n : ℕ) (y : ScriptMethod) (b : Bool) → (c == top) ≡ b → a ≤ length ds → d.shape.is_class ≡ true
        → slice_get families c ≡ Some (family_with E ds methods c n d) → find (at_slot x.slot) (family_with E ds methods c n d).methods ≡ Some y
        → Up (is_base ds) a c top → x.function.result.ty ≡ y.function.result.ty
    same_by a c d n y true is le class at found up =
        let f = family_with E ds methods c n d in
        let family : g ≡ f = same_Some g f (sym top_is ∙ ap (slice_get families) (sym (eqb-true c top is)) ∙ at) in
        let same : x ≡ y = same_Some x y (sym first ∙ ap (λ (u : Family). find (at_slot x.slot) u.methods) family ∙ found) in
        ap (λ (u : ScriptMethod). u.function.result.ty) same
    same_by a c d n y false isnt le class at found up =
        let f = family_with E ds methods c n d in
        let h = first_at x.slot f.methods y found in
        let near = near_of (is_base ds) (length ds) (base_from ds) a c top up in
        let far = near_later (is_base ds) (length ds) a (length ds - a) c top near in
        let sum : a + (length ds - a) ≡ length ds = omega (arith, le) in
        let whole = subst (λ k. is_near (is_base ds) (length ds) k c top ≡ true) sum far in
        let listed = in_rest (is_base ds) (length ds) c top isnt (order_has (is_base ds) (length ds) c top below whole) in
        keeps c top h.place j f g y x at class h.there top_is inner
        (ap (λ b. list_any (λ k. k == top) (drop 1 (order_of (gives_members ds b) (length ds) c))) class ∙ listed)
        (eq-eqb x.slot y.slot (sym h.slot))

    -- its own, where it has one
    own_there : (a c : ℕ) (d : Declaring) (n : ℕ) (y : ScriptMethod) → a ≤ length ds → d.shape.is_class ≡ true
        → slice_get families c ≡ Some (family_with E ds methods c n d) → find (at_slot x.slot) (family_with E ds methods c n d).methods ≡ Some y
        → Up (is_base ds) a c top → HasBodyIn a c
    own_there a c d n y le class at found up =
        let f = family_with E ds methods c n d in
        let h = first_at x.slot f.methods y found in
        let all = members_bodies d n [] d.shape.members class in
        let k = h.body all in
        let own = own_same x.slot f.methods all ∙ ap (option_and_then body_of) found ∙ k.1 in
        record {
          number = k.0;
          chosen = ap (body_by classes x.slot a) (slice_get-map typed_class families c ∙ ap (option_map typed_class) at) ∙ own_first a k.0 (typed_class f) own;
          class = c;
          family = f;
          place = h.place;
          method = y;
          there = at;
          within = h.there;
          body = k.1;
          slot = h.slot;
          result = same_by a c d n y (c == top) refl le class at found up;
          over = up_here a c;
        }

    -- or else that of its base class
    inherited : (a c k : ℕ) (d : Declaring) (n : ℕ) → d.shape.is_class ≡ true → slice_get families c ≡ Some (family_with E ds methods c n d)
        → find (at_slot x.slot) (family_with E ds methods c n d).methods ≡ None → is_base ds c k ≡ true → HasBodyIn a k → HasBodyIn (suc a) c
    inherited a c k d n class at none edge r =
        let f = family_with E ds methods c n d in
        let own : own_body x.slot (typed_class f).chosen ≡ None =
        own_same x.slot f.methods (members_bodies d n [] d.shape.members class) ∙ ap (option_and_then body_of) none in
        let lt = parent_there ds c k (and_parts (is_parent ds c k) (is_class_at ds k) edge).0 in
        let base : f.base ≡ Some k = find_only (is_base ds c) 0 (length ds) k edge (λ l q. accepted.one_base c l k q edge) (omega arith) (omega (arith, lt)) in
        let row = slice_get-map typed_class families c ∙ ap (option_map typed_class) at in
        record {
          number = r.number;
          chosen = ap (body_by classes x.slot (suc a)) row ∙ ap (λ o. option_or o (body_by classes x.slot a (option_and_then (slice_get classes) f.base))) own
              ∙ ap (λ o. body_by classes x.slot a (option_and_then (slice_get classes) o)) base ∙ r.chosen;
          class = r.class;
          family = r.family;
          place = r.place;
          method = r.method;
          there = r.there;
          within = r.within;
          body = r.body;
          slot = r.slot;
          result = r.result;
          over = inr (k, edge, r.over);
        }

    -- the method itself is there
    never : (a c : ℕ) (d : Declaring) (n : ℕ) → slice_get families c ≡ Some (family_with E ds methods c n d)
        → find (at_slot x.slot) (family_with E ds methods c n d).methods ≡ None → c ≡ top → HasBodyIn a c
    never a c d n at none same =
        let f = family_with E ds methods c n d in
        let family : g ≡ f = same_Some g f (sym top_is ∙ ap (slice_get families) (sym same) ∙ at) in
        absurd (let no' : None ≡ Some x = sym none ∙ ap (λ (u : Family). find (at_slot x.slot) u.methods) (sym family) ∙ first in cc)

    abbrev Walks : ℕ → Type 0
    Walks a = (c : ℕ) → a ≤ length ds → is_class_at ds c ≡ true → Up (is_base ds) a c top → HasBodyIn a c

    last_by : (c : ℕ) (d : Declaring) (n : ℕ) (o : Option ScriptMethod) → d.shape.is_class ≡ true
        → slice_get families c ≡ Some (family_with E ds methods c n d) → find (at_slot x.slot) (family_with E ds methods c n d).methods ≡ o → zero ≤ length ds
        → c ≡ top → HasBodyIn zero c
    last_by c d n None class at found le up = never zero c d n at found up
    last_by c d n (Some y) class at found le up = own_there zero c d n y le class at found up

    next_by : (a c : ℕ) (d : Declaring) (n : ℕ) (o : Option ScriptMethod) → Walks a → d.shape.is_class ≡ true
        → slice_get families c ≡ Some (family_with E ds methods c n d) → find (at_slot x.slot) (family_with E ds methods c n d).methods ≡ o → suc a ≤ length ds
        → Up (is_base ds) (suc a) c top → HasBodyIn (suc a) c
    next_by a c d n (Some y) go class at found le up = own_there (suc a) c d n y le class at found up
    next_by a c d n None go class at found le (inl same) = never (suc a) c d n at found same
    next_by a c d n None go class at found le (inr up) =
        inherited a c up.0 d n class at found up.1
        (go up.0 (omega (arith, le)) (and_parts (is_parent ds c up.0) (is_class_at ds up.0) up.1).1 up.2)

    pub walk : (a : ℕ) → Walks a
    walk zero c le class up =
        let d = class_named ds (slice_get ds c) class in
        let f = family_there E ds methods functions [] ds c c d.0 (omega arith) d.1 in
        last_by c d.0 f.0 (find (at_slot x.slot) (family_with E ds methods c f.0 d.0).methods) d.2 f.1 refl le up
    walk (suc a) c le class up =
        let d = class_named ds (slice_get ds c) class in
        let f = family_there E ds methods functions [] ds c c d.0 (omega arith) d.1 in
        next_by a c d.0 f.0 (find (at_slot x.slot) (family_with E ds methods c f.0 d.0).methods) (walk a) d.2 f.1 refl le up

-- ---- of a build

bodies_in : (E : Space) (all : List ListedDeclaration) → IsAccepted E (families_of all) → KeepsResults (families_in E all) → (top j c : ℕ) (g : Family) (x : ScriptMethod)
    → slice_get (families_in E all) top ≡ Some g → slice_get g.methods j ≡ Some x → find (at_slot x.slot) g.methods ≡ Some x → top < length (families_of all)
    → is_class_at (families_of all) c ≡ true → is_near (is_base (families_of all)) (length (families_of all)) (length (families_of all)) c top ≡ true
    → BodyIn (families_in E all) (families_of all) x c
unfolding families_in
bodies_in E all accepted keeps top j c g x at inner first below class near =
    let ds = families_of all in
    let h = walk E ds (signatures_of E ds) (length (functions_in E all)) accepted keeps top j g x at inner first below (length ds) c (omega arith) class
    (up_near (is_base ds) (length ds) (length ds) c top near) in record {
      number = h.number;
      chosen = h.chosen;
      class = h.class;
      family = h.family;
      place = h.place;
      method = h.method;
      there = h.there;
      within = h.within;
      body = h.body;
      slot = h.slot;
      result = h.result;
      over = near_of (is_base ds) (length ds) (base_from ds) (length ds) c h.class h.over;
    }

pub bodies : ClassesHaveBodies
bodies V ss e top j c g x at inner first below class near =
    let all = declarations_of ss in
    bodies_in (space_of_declared V all) all (accepted V ss e) (overrides V ss e) top j c g x at inner first below class near
