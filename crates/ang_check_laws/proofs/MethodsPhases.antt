-- Where nothing is refused, overrides keep results and the methods of interfaces are there.
use Rattle.std.specs.Prelude.{ℕ, zero, suc, ◌≡◌, ◌+◌, ◌==◌, Bool, true, false, not, ◌&&◌, ◌||◌, cond, if◌then◌else◌, List, [], ◌∷◌, ◌++◌, drop, filter, find, length, Option, Some, None, option_to_list, slice_get}
use Rattle.std.specs.List.{list_any, flat_map}
use Rattle.std.specs.Option.{option_or}
use Rattle.std.proofs.Common.{arith, refl, ap, sym, subst, inl, inr, ◌∙◌}
use Rattle.std.proofs.lemmas.Bool.{eqb-true}
use Rattle.std.proofs.lemmas.Option.{same_Some}
use Rattle.ang_view.specs.Registration.{RegistrationList}
use Rattle.ang_types.specs.declared.asks.Refused.{Refused}
use Rattle.ang_names_known.specs.declared.names.Family.{Family}
use Rattle.ang_names_known.specs.declared.names.ScriptMethod.{ScriptMethod}
use Rattle.ang_names_known.specs.Items.{is_empty, list_or}
use Rattle.ang_names_known.specs.Lookup.{Numbered, with_family, families_at, same_type}
use Rattle.ang_names_listed.specs.Declarations.{declarations_of}
use Rattle.ang_names_listed.specs.Sources.{Source}
use Rattle.ang_names_classes.specs.Resolved.{families_in, space_of_declared}
use Rattle.ang_names.specs.Phases as phase
use Rattle.ang_names.specs.Phases.{families, first_refusals, refusals, refusals_of}
use Rattle.ang_names.specs.ByNumber.{refused_from}
use Rattle.ang_names.specs.Heirs.{heir_refusal, class_refusal, missing_method, missing_by, of_interfaces, has_public_method, overridden, cannot_override, is_bad_override, method_refusal, field_refusal, first_refused, earlier, is_before}
use Rattle.ang_names.proofs.Few.{family_number}
use Rattle.ang_names.proofs.Numbered.{by_number}
use Rattle.ang_check_sound.proofs.Items.{at_front}
use Rattle.ang_check_sound.proofs.Places.{in_second}
use Rattle.ang_check_laws.specs.Methods.{InterfacesAreMet, OverridesKeepResults}
use Rattle.ang_check_laws.proofs.ClassesGraph.{or_cases, or_left, or_right}
use Rattle.ang_check_laws.proofs.MethodsSlots.{type_is}

-- ---- the phase of heirs passes

both_empty : {A : Type 0} (xs ys : List A) → list_or xs ys ≡ [] → (xs ≡ []) × (ys ≡ [])
both_empty [] ys e = (refl, e)
both_empty (x ∷ xs) ys e = cc

none_given : (o : Option Refused) (rest : List Refused) → option_to_list o ++ rest ≡ [] → (o ≡ None) × (rest ≡ [])
none_given None rest e = (refl, e)
none_given (Some r) rest e = cc

each_passes : (p : ℕ → Family → Option Refused) (fs : List Family) (c k n : ℕ) (f : Family) → refused_from p c fs ≡ [] → c + k ≡ n
    → slice_get fs k ≡ Some f → p n f ≡ None
each_passes p [] c k n f e s there = cc
each_passes p (x ∷ xs) c zero n f e s there =
    let same : c ≡ n = omega (arith, s) in
    subst (λ m. p m f ≡ None) same (subst (λ y. p c y ≡ None) (same_Some x f there) (none_given (p c x) (refused_from p (c + 1) xs) e).0)
each_passes p (x ∷ xs) c (suc k) n f e s there =
    each_passes p xs (c + 1) k n f (none_given (p c x) (refused_from p (c + 1) xs) e).1 (omega (arith, s)) there

heirs_pass : (V : RegistrationList) (ss : List Source) → refusals_of V ss ≡ [] → refusals V (declarations_of ss) phase.Heirs ≡ []
unfolding refusals_of
heirs_pass V ss e =
    let all = declarations_of ss in
    let types = (both_empty (refusals V all phase.Names) (first_refusals V all (phase.Types ∷ phase.Ancestors ∷ phase.Heirs ∷ phase.Cycles ∷ [])) e).1 in
    let later = (both_empty (refusals V all phase.Types) (first_refusals V all (phase.Ancestors ∷ phase.Heirs ∷ phase.Cycles ∷ [])) types).1 in
    let heirs = (both_empty (refusals V all phase.Ancestors) (first_refusals V all (phase.Heirs ∷ phase.Cycles ∷ [])) later).1 in
    (both_empty (refusals V all phase.Heirs) (first_refusals V all (phase.Cycles ∷ [])) heirs).0

heir_passes : (V : RegistrationList) (ss : List Source) → refusals_of V ss ≡ [] → (c : ℕ) (f : Family)
    → slice_get (families_in (space_of_declared V (declarations_of ss)) (declarations_of ss)) c ≡ Some f
    → heir_refusal (families_in (space_of_declared V (declarations_of ss)) (declarations_of ss)) c f ≡ None
heir_passes V ss e c f at =
    let all = declarations_of ss in
    let fs = families V all in
    each_passes (heir_refusal fs) fs 0 c c f
    (by_number (heir_refusal fs) fs all (family_number (space_of_declared V all) all) ∙ heirs_pass V ss e) (omega arith) at

-- ---- what a class that passes has

neither : {A : Type 0} (a b : Option A) → option_or a b ≡ None → (a ≡ None) × (b ≡ None)
neither None b e = (refl, e)
neither (Some x) b e = cc

second_earlier : (a b : Option Refused) → earlier a b ≡ None → b ≡ None
second_earlier None b e = e
second_earlier (Some r) None e = cc
second_earlier (Some r) (Some s) e = by (is_before s.error.place r.error.place) e
  where
    by : (q : Bool) → (if q then Some s else Some r) ≡ None → Some s ≡ None
    by true e = cc
    by false e = cc

class_passes : (fs : List Family) (c : ℕ) (f : Family) → f.is_class ≡ true → heir_refusal fs c f ≡ None
    → (missing_method fs c f ≡ None) × (first_refused (method_refusal fs f) f.methods ≡ None)
unfolding heir_refusal
class_passes fs c f is e =
    let whole : class_refusal fs c f ≡ None = sym (ap (λ b. if b then class_refusal fs c f else None) is) ∙ e in
    let parts = neither (missing_method fs c f) (earlier (first_refused (field_refusal fs f) f.fields) (first_refused (method_refusal fs f) f.methods)) whole in
    (parts.0, second_earlier (first_refused (field_refusal fs f) f.fields) (first_refused (method_refusal fs f) f.methods) parts.1)

one_passes : (p : ScriptMethod → Option Refused) (xs : List ScriptMethod) (i : ℕ) (x : ScriptMethod) → first_refused p xs ≡ None → slice_get xs i ≡ Some x → p x ≡ None
one_passes p [] i x e at = cc
one_passes p (y ∷ xs) zero x e at = subst (λ u. p u ≡ None) (same_Some y x at) (neither (p y) (first_refused p xs) e).0
one_passes p (y ∷ xs) (suc i) x e at = one_passes p xs i x (neither (p y) (first_refused p xs) e).1 at

-- ---- what is among the methods of families

abbrev pub Among : {A : Type 0} → List A → A → Type 0
Among xs x = (i : ℕ) × (slice_get xs i ≡ Some x)

in_front : {A : Type 0} (xs ys : List A) (x : A) → Among xs x → Among (xs ++ ys) x
in_front xs ys x h = (h.0, at_front xs ys h.0 x h.1)

behind : {A : Type 0} (xs ys : List A) (x : A) → Among ys x → Among (xs ++ ys) x
behind xs ys x h = (length xs + h.0, in_second xs ys (length xs) h.0 x refl h.1)

module _ {A : Type 0} (m : Numbered → List A) (fs : List Family) (d : ℕ) (g : Family) (x : A) (at : slice_get fs d ≡ Some g) (own : Among (m (d, g)) x) where
  later_one : (n : ℕ) (o : Option Family) (rest : List Numbered) → Among (flat_map m rest) x → Among (flat_map m (with_family n o rest)) x
  later_one n None rest h = h
  later_one n (Some f) rest h = behind (m (n, f)) (flat_map m rest) x h

  here_one : (n : ℕ) (rest : List Numbered) → n ≡ d → Among (flat_map m (with_family n (slice_get fs n) rest)) x
  here_one n rest is =
      subst (λ k. Among (flat_map m (with_family k (slice_get fs k) rest)) x) (sym is)
      (subst (λ o. Among (flat_map m (with_family d o rest)) x) (sym at) (in_front (m (d, g)) (flat_map m rest) x own))

  pub among_families : (ns : List ℕ) → list_any (λ k. k == d) ns ≡ true → Among (flat_map m (families_at fs ns)) x
  among_families [] h = cc
  among_families (n ∷ ns) h =
      elim (or_cases (n == d) (list_any (λ k. k == d) ns) h) [
        | inl is ↦ here_one n (families_at fs ns) (eqb-true n d is)
        | inr more ↦ later_one n (slice_get fs n) (families_at fs ns) (among_families ns more)
      ]

pub any_at : {A : Type 0} (q : A → Bool) (xs : List A) (i : ℕ) (a : A) → slice_get xs i ≡ Some a → q a ≡ true → list_any q xs ≡ true
any_at q [] i a e h = cc
any_at q (x ∷ xs) zero a e h = or_left (q x) (list_any q xs) (subst (λ y. q y ≡ true) (sym (same_Some x a e)) h)
any_at q (x ∷ xs) (suc i) a e h = or_right (q x) (list_any q xs) (any_at q xs i a e h)

any_kept : {A : Type 0} (q p : A → Bool) (xs : List A) (i : ℕ) (a : A) → slice_get xs i ≡ Some a → p a ≡ true → q a ≡ true → list_any q (filter p xs) ≡ true
any_kept q p [] i a e k h = cc
any_kept q p (x ∷ xs) zero a e k h =
    let is = same_Some x a e in
    ap (λ b. list_any q (if b then x ∷ filter p xs else filter p xs)) (subst (λ y. p y ≡ true) (sym is) k)
    ∙ or_left (q x) (list_any q (filter p xs)) (subst (λ y. q y ≡ true) (sym is) h)
any_kept q p (x ∷ xs) (suc i) a e k h = by (p x) (any_kept q p xs i a e k h)
  where
    by : (b : Bool) → list_any q (filter p xs) ≡ true → list_any q (if b then x ∷ filter p xs else filter p xs) ≡ true
    by true h = or_right (q x) (list_any q (filter p xs)) h
    by false h = h

-- ---- overrides

not_bad : (b : Bool) (r : Refused) → (if b then Some r else None) ≡ None → b ≡ false
not_bad true r e = cc
not_bad false r e = refl

second_false : (a b : Bool) → (a || b) ≡ false → b ≡ false
second_false true b e = cc
second_false false b e = e

not_true : (b : Bool) → (b ≡ true → ⊥) → b ≡ false
not_true true h = absurd (h refl)
not_true false h = refl

kept_result : (a b : Bool) → (a || not b) ≡ false → b ≡ true
kept_result true b e = cc
kept_result false true e = refl
kept_result false false e = cc

pub overrides : OverridesKeepResults
overrides V ss e c d i j f g y x at is own over inner listed same =
    let fs = families_in (space_of_declared V (declarations_of ss)) (declarations_of ss) in
    let passes = one_passes (method_refusal fs f) f.methods i y (class_passes fs c f is (heir_passes V ss e c f at)).1 own in
    let fine = second_false (y.is_override && is_empty (overridden fs f y)) (list_any (cannot_override y) (overridden fs f y)) (not_bad (is_bad_override y (overridden fs f y)) _ passes) in
    let there = among_families (λ (b : Numbered). b.1.methods) fs d g x over (j, inner) (drop 1 f.order) listed in
    let can = not_true (cannot_override y x)
    (λ bad. let no' : false ≡ true = sym fine
    ∙ any_kept (cannot_override y) (λ (u : ScriptMethod). u.slot == y.slot) (flat_map (λ (b : Numbered). b.1.methods) (families_at fs (drop 1 f.order))) there.0 x there.1 same bad in cc) in
    type_is x.function.result.ty y.function.result.ty (kept_result x.is_final (same_type x.function.result.ty y.function.result.ty) can)

-- ---- methods of interfaces

no_missing : (f : Family) (o : Option ScriptMethod) → missing_by f o ≡ None → o ≡ None
no_missing f None e = refl
no_missing f (Some m) e = cc

not_false : (b : Bool) → not b ≡ false → b ≡ true
not_false true e = refl
not_false false e = cc

none_by : (p : ScriptMethod → Bool) (y : ScriptMethod) (xs : List ScriptMethod) (i : ℕ) (x : ScriptMethod) (b : Bool) → p y ≡ b → cond b (Some y) (find p xs) ≡ None
    → slice_get (y ∷ xs) i ≡ Some x → ((k : ℕ) → find p xs ≡ None → slice_get xs k ≡ Some x → p x ≡ false) → p x ≡ false
none_by p y xs i x true is e at go = cc
none_by p y xs zero x false is e at go = subst (λ u. p u ≡ false) (same_Some y x at) is
none_by p y xs (suc i) x false is e at go = go i e at

none_found : (p : ScriptMethod → Bool) (xs : List ScriptMethod) (i : ℕ) (x : ScriptMethod) → find p xs ≡ None → slice_get xs i ≡ Some x → p x ≡ false
none_found p [] i x e at = cc
none_found p (y ∷ xs) i x e at = none_by p y xs i x (p y) refl e at (λ k f h. none_found p xs k x f h)

pub interfaces_met : InterfacesAreMet
interfaces_met V ss e c d j f g x at is over isnt inner listed =
    let fs = families_in (space_of_declared V (declarations_of ss)) (declarations_of ss) in
    let none = no_missing f _ (class_passes fs c f is (heir_passes V ss e c f at)).0 in
    let m : Numbered → List ScriptMethod = λ (u : Numbered). if u.1.is_class then [] else u.1.methods in
    let own : Among (m (d, g)) x = (j, ap (λ b. slice_get (if b then [] else g.methods) j) isnt ∙ inner) in
    let there = among_families m fs d g x over own f.above listed in
    not_false (has_public_method fs c x)
    (none_found (λ (u : ScriptMethod). not (has_public_method fs c u)) (of_interfaces (families_at fs f.above)) there.0 x none there.1)
