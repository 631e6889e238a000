-- No body has the number of a constructor's and of a function or a method.
use Rattle.std.specs.Prelude.{◌≡◌, ℕ, suc, ◌+◌, ◌<◌, ◌==◌, Bool, true, false, Contains, length, List, [], ◌∷◌, option_and_then, Some, slice_get}
use Rattle.std.specs.List.{list_any}
use Rattle.std.proofs.Common.{refl, ap, sym, ◌∙◌, subst, arith}
use Rattle.std.proofs.lemmas.Bool.{eqb-true}
use Rattle.std.proofs.lemmas.Option.{same_Some}
use Rattle.ang_view.specs.Registration.{RegistrationList}
use Rattle.ang_tree.specs.Stmt.{Every}
use Rattle.ang_names_known.specs.declared.names.Family.{Family}
use Rattle.ang_names_known.specs.declared.names.Names.{Names}
use Rattle.ang_names_known.specs.declared.names.ScriptConstructor.{ScriptConstructor}
use Rattle.ang_names_known.specs.declared.names.ScriptMethod.{ScriptMethod}
use Rattle.ang_names_listed.specs.Sources.{Source}
use Rattle.ang_names_listed.specs.Declarations.{declarations_of}
use Rattle.ang_names_classes.specs.Resolved.{names_of}
use Rattle.ang_check.specs.Bodies.{Part, a_function, a_global, a_method, a_constructor, a_default, parts_of}
use Rattle.ang_check_sound.proofs.Items.{every_other}
use Rattle.ang_check_sound.proofs.Members.{number_of, IsMethod, IsConstructor, AreNumbered, IsMethodWritten, IsConstructorWritten}
use Rattle.ang_check_sound.proofs.Parts.{total_of, IsFamilyWritten, HasParts, names_have_parts}
use Rattle.ang_check_sound.proofs.Places.{at_number, all_of_each}
use Rattle.ang_check_laws.specs.Given.{constructs}
use Rattle.ang_check_laws.proofs.Program.{one_of}

each_has : {A : Type 0} (P : A → Type 0) (xs : List A) (x : A) → Every P xs → Contains xs x → P x
each_has P xs x h c = subst P c.2 (all_of_each P xs h c.0 x c.1)

-- which of the bodies of members, in their order, are constructors'
abbrev kinds : List Part → List Bool
kinds [] = []
kinds (a_function n text x b ∷ ps) = kinds ps
kinds (a_global n text y i ∷ ps) = kinds ps
kinds (a_method c k text x b ∷ ps) = false ∷ kinds ps
kinds (a_constructor c k text x own bases u ss close ∷ ps) = true ∷ kinds ps
kinds (a_default c text x bases ∷ ps) = kinds ps

module _ (V : RegistrationList) (names : Names) where
  -- where a member stands among these, before which j stand
  abbrev StandsAt : List Bool → ℕ → Part → Type 0
  StandsAt ks j (a_function n text x b) = Unit {0}
  StandsAt ks j (a_global n text y i) = Unit {0}
  StandsAt ks j (a_method c k text x b) = (q : ℕ) × IsMethod V names (j + q) c k text x × (slice_get ks q ≡ Some false)
  StandsAt ks j (a_constructor c k text x own bases u ss close) = (q : ℕ) × IsConstructor V names (j + q) c k text x × (slice_get ks q ≡ Some true)
  StandsAt ks j (a_default c text x bases) = Unit {0}

  later : (b : Bool) (ks : List Bool) (j : ℕ) (p : Part) → StandsAt ks (j + 1) p → StandsAt (b ∷ ks) j p
  later b ks j (a_function n text x tree) h = tt
  later b ks j (a_global n text y i) h = tt
  later b ks j (a_method c k text x tree) h =
      let q = h.0 in
      let same : j + 1 + q ≡ j + suc q = omega arith in (suc q, subst (λ n. IsMethod V names n c k text x) same h.1, h.2)
  later b ks j (a_constructor c k text x own bases u ss close) h =
      let q = h.0 in
      let same : j + 1 + q ≡ j + suc q = omega arith in (suc q, subst (λ n. IsConstructor V names n c k text x) same h.1, h.2)
  later b ks j (a_default c text x bases) h = tt

  all_stand : (total i g j : ℕ) (ps : List Part) → AreNumbered V names total i g j ps → Every (StandsAt (kinds ps) j) ps
  all_stand total i g j [] h = tt
  all_stand total i g j (a_function n text x b ∷ ps) h = (tt, all_stand total (i + 1) g j ps h.2)
  all_stand total i g j (a_global n text y init ∷ ps) h = (tt, all_stand total i (g + 1) j ps h.2)
  all_stand total i g j (a_method c k text x b ∷ ps) h =
      let first : j ≡ j + 0 = omega arith in (
        (0, subst (λ n. IsMethod V names n c k text x) first h.0, refl),
        every_other (StandsAt (kinds ps) (j + 1)) (StandsAt (false ∷ kinds ps) j) ps (λ p hp. later false (kinds ps) j p hp) (all_stand total i g (j + 1) ps h.1),
      )
  all_stand total i g j (a_constructor c k text x own bases u ss close ∷ ps) h =
      let first : j ≡ j + 0 = omega arith in (
        (0, subst (λ n. IsConstructor V names n c k text x) first h.0, refl),
        every_other (StandsAt (kinds ps) (j + 1)) (StandsAt (true ∷ kinds ps) j) ps (λ p hp. later true (kinds ps) j p hp) (all_stand total i g (j + 1) ps h.1),
      )
  all_stand total i g j (a_default c text x bases ∷ ps) h = (tt, all_stand total i g j ps h.1)

  module _ (sources : List Source) (same : names ≡ names_of V (declarations_of sources)) where
    abbrev has : HasParts V names sources
    has = names_have_parts V names sources same

    abbrev all : List Bool
    all = kinds (parts_of sources)

    stand : Every (StandsAt (kinds (parts_of sources)) 0) (parts_of sources)
    stand = all_stand (total_of sources) 0 0 0 (parts_of sources) has.numbered

    -- the number of a constructor's body, and of a method's
    constructor_number : (c n : ℕ) (f : Family) (y : ScriptConstructor) → slice_get names.families c ≡ Some f → slice_get f.constructors n ≡ Some y
        → (q : ℕ) × (y.body ≡ length names.functions + q) × (slice_get (kinds (parts_of sources)) q ≡ Some true)
    constructor_number c n f y at there =
        let written = at_number (IsFamilyWritten (parts_of sources)) c names.families f has.written at in
        let part = at_number (IsConstructorWritten (parts_of sources) c) n f.constructors y written.constructors there in
        let s = each_has (StandsAt all 0) (parts_of sources) (a_constructor c n part.text part.name part.own part.bases part.super part.tree part.close) stand part.written in
        let is : (s.1).constructor ≡ y =
        same_Some (s.1).constructor y (sym (s.1).there ∙ (ap (option_and_then (λ (g : Family). slice_get g.constructors n)) at ∙ there)) in
        let q = s.0 in
        let number : 0 + q ≡ q = omega arith in
        (q, ap (λ (u : ScriptConstructor). u.body) (sym is) ∙ (s.1).body ∙ ap (λ k. length names.functions + k) number, s.2)

    method_number : (c n k : ℕ) (f : Family) (y : ScriptMethod) → slice_get names.families c ≡ Some f → slice_get f.methods n ≡ Some y → y.body ≡ Some k
        → (q : ℕ) × (k ≡ length names.functions + q) × (slice_get (kinds (parts_of sources)) q ≡ Some false)
    method_number c n k f y at there body =
        let written = at_number (IsFamilyWritten (parts_of sources)) c names.families f has.written at in
        let part = at_number (IsMethodWritten (parts_of sources) c) n f.methods y written.methods there k body in
        let s = each_has (StandsAt all 0) (parts_of sources) (a_method c n part.text part.name part.tree) stand part.written in
        let is : (s.1).method ≡ y = same_Some (s.1).method y (sym (s.1).there ∙ (ap (option_and_then (λ (g : Family). slice_get g.methods n)) at ∙ there)) in
        let q = s.0 in
        let number : 0 + q ≡ q = omega arith in
        let own : number_of V names (0 + q) ≡ k = same_Some (number_of V names (0 + q)) k (sym (s.1).body ∙ ap (λ (u : ScriptMethod). u.body) is ∙ body) in
        (q, sym own ∙ ap (λ j. length names.functions + j) number, s.2)

    -- a body that is a constructor's
    constructed : (k : ℕ) → list_any (constructs k) names.families ≡ true
        → (q : ℕ) × (k ≡ length names.functions + q) × (slice_get (kinds (parts_of sources)) q ≡ Some true)
    constructed k e =
        let family = one_of (constructs k) names.families e in
        let made = one_of (λ (u : ScriptConstructor). u.body == k) (family.1).constructors family.3 in
        let r = constructor_number family.0 made.0 family.1 made.1 family.2 made.2 in
        (r.0, sym (eqb-true (made.1).body k made.3) ∙ r.1, r.2)

    by : (b : Bool) → (b ≡ true → ⊥) → b ≡ false
    by true h = absurd (h refl)
    by false h = refl

    pub no_function : (i : ℕ) → i < length names.functions → list_any (constructs i) names.families ≡ false
    no_function i less =
        by (list_any (constructs i) names.families)
        (λ e. let r = constructed i e in let q = r.0 in let is : i ≡ length names.functions + q = r.1 in let x : ⊥ = omega (arith, less, is) in x)

    pub no_method : (c n k : ℕ) (f : Family) (y : ScriptMethod) → slice_get names.families c ≡ Some f → slice_get f.methods n ≡ Some y → y.body ≡ Some k
        → list_any (constructs k) names.families ≡ false
    no_method c n k f y at there body =
        by (list_any (constructs k) names.families)
        (λ e. let r = constructed k e in
        let s = method_number c n k f y at there body in
        let one = r.0 in
        let other = s.0 in
        let first : k ≡ length names.functions + one = r.1 in
        let second : k ≡ length names.functions + other = s.1 in
        let equal : one ≡ other = omega (arith, first, second) in
        let wrong : Some true ≡ Some false = sym r.2 ∙ ap (slice_get (kinds (parts_of sources))) equal ∙ s.2 in
        let x : ⊥ = cc in x)
