-- No two functions of a build have one heading.
use Rattle.std.proofs.Common.{◌≡◌, ◌≤◌, ℕ, zero, suc, Bool, true, false, ◌&&◌, ◌||◌, cond, List, [], ◌∷◌, ◌++◌, length, Option, Some, None, refl, sym, ap, ◌∙◌}
use Rattle.std.specs.Prelude.{bytes_eq, option_to_list, slice_get}
use Rattle.std.specs.List.{list_any, cons_option, filter_map}
use Rattle.std.proofs.lemmas.List.Folds.{list_any-append}
use Rattle.std.proofs.lemmas.Slice.Eq.{bytes_eq-Decides}
use Rattle.ang_view.specs.Registration.{RegistrationList}
use Rattle.ang_types.specs.declared.asks.Refused.{Refused}
use Rattle.ang_names_known.specs.declared.names.Names.{Names}
use Rattle.ang_names_known.specs.declared.names.ScriptFunction.{ScriptFunction}
use Rattle.ang_names_known.specs.Items.{each_after, list_or}
use Rattle.ang_names_known.specs.Spaces.{Space}
use Rattle.ang_names_listed.specs.Sources.{Source}
use Rattle.ang_names_listed.specs.Spellings.{same_spellings}
use Rattle.ang_names_listed.specs.declared.listed.ListedDeclaration.{ListedDeclaration}
use Rattle.ang_names_listed.specs.declared.listed.Part.{Part}
use Rattle.ang_names_listed.specs.declared.listed.Part.TheVariants as part
use Rattle.ang_names_listed.specs.Declarations.{Declaring, declarations_of, declared_name, families_of}
use Rattle.ang_names_listed.specs.Taken.{excludes, clashes, clashes_with_host, is_taken, is_first_above, name_refusal}
use Rattle.ang_names.specs.Phases as phase
use Rattle.ang_names.specs.Refusals.{parameter_limit, parameters_refusal, parameter_list_refusal, part_refusal, type_refusal, type_refusal_of}
use Rattle.ang_names_listed.specs.declared.role.TypePosition.TheVariants as role
use Rattle.ang_names.specs.Phases.{first_refusals, refusals, refusals_of}
use Rattle.ang_names_classes.specs.Headings.{heading_of as meant_heading}
use Rattle.ang_names_classes.specs.Resolved.{function_by, function_of, names_of, space_of_declared}
use Rattle.ang_engine_call.specs.Headings.{Heading, heading_of}
use Rattle.ang_engine_call.specs.Named.{IsNamedBy, function_named_by}
use Rattle.ang_engine_call.proofs.Found.{found, only}
use Rattle.ang_engine_call.proofs.Spelled.{same_lists, both_none}

-- ---- two declarations

-- A function and one of the same heading, which no phase refuses, can't stand beside each other.
no_clash : (E : Space) (fs : List Declaring) (d x : ListedDeclaration) (p q : Part) (f g : ScriptFunction) → length E.view ≤ 1024
    → (bytes_eq (declared_name x) (declared_name d) && excludes x.text q d.text p) ≡ false → part_refusal E fs d p ≡ None → part_refusal E fs x q ≡ None
    → function_by E d p ≡ Some f → function_by E x q ≡ Some g → heading_of f ≡ heading_of g → ⊥
no_clash E fs d x (part.Family s) q f g small apart a b e h same = cc
no_clash E fs d x (part.Import y ps) q f g small apart a b e h same = cc
no_clash E fs d x (part.Global y) q f g small apart a b e h same = cc
no_clash E fs d x (part.Function y ps) (part.Family s) f g small apart a b e h same = cc
no_clash E fs d x (part.Function y ps) (part.Import z qs) f g small apart a b e h same = cc
no_clash E fs d x (part.Function y ps) (part.Global z) f g small apart a b e h same = cc
no_clash E fs d x (part.Function y ps) (part.Function z qs) f g small apart a b e h same =
    let own : meant_heading E d.origin d.text d.name y ps ≡ f = cc in
    let others : meant_heading E x.origin x.text x.name z qs ≡ g = cc in
    let headings : heading_of (meant_heading E x.origin x.text x.name z qs) ≡ heading_of (meant_heading E d.origin d.text d.name y ps) =
    ap heading_of others ∙ sym same ∙ sym (ap heading_of own) in
    let names : declared_name x ≡ declared_name d = ap (λ (h : Heading). h.name) headings in
    let behind = both_none (type_refusal_of E d.text role.Result y) (parameter_list_refusal E d.text false d.name ps) a in
    let beyond = both_none (type_refusal_of E x.text role.Result z) (parameter_list_refusal E x.text false x.name qs) b in
    let here = both_none (parameter_limit d.text d.name ps) (parameters_refusal E d.text false ps) behind.1 in
    let there = both_none (parameter_limit x.text x.name qs) (parameters_refusal E x.text false qs) beyond.1 in
    let params = same_lists E x.text d.text qs ps small there.1 here.1 (ap (λ (h : Heading). h.params) headings) in
    let name = (bytes_eq-Decides (declared_name x) (declared_name d)).1 names in
    let clash : (bytes_eq (declared_name x) (declared_name d) && same_spellings x.text qs d.text ps) ≡ true = λ i. name i && params i in
    cc

-- ---- what the phases tell

nothing_more : (o : Option Refused) (es : List Refused) → option_to_list o ++ es ≡ [] → (o ≡ None) × (es ≡ [])
nothing_more None es h = (refl, h)
nothing_more (Some e) es h = cc

none_refused : (rs later : List Refused) → list_or rs later ≡ [] → (rs ≡ []) × (later ≡ [])
none_refused [] later h = (refl, h)
none_refused (r ∷ rs) later h = cc

untaken : (b c : Bool) (e g : Refused) → cond b (Some e) (cond c (Some g) None) ≡ None → b ≡ false
untaken true c e g h = cc
untaken false c e g h = refl

left_false : (b c : Bool) → (b || c) ≡ false → b ≡ false
left_false true c h = cc
left_false false c h = refl

right_false : (b c : Bool) → (b || c) ≡ false → c ≡ false
right_false true c h = cc
right_false false c h = h

free_name : (V : RegistrationList) (before : List ListedDeclaration) (x : ListedDeclaration) → name_refusal V before x ≡ None → list_any (clashes x) before ≡ false
unfolding name_refusal is_taken
free_name V before x e =
    left_false (list_any (clashes x) before) (list_any (clashes_with_host x) V) (untaken (list_any (clashes x) before || list_any (clashes_with_host x) V) (is_first_above before x.part) _ _ e)

-- ---- a declaration among those that stand before others

Stands : ListedDeclaration → List ListedDeclaration → Type 0
Stands d before = (x : ListedDeclaration) → list_any (clashes x) before ≡ false → clashes x d ≡ false

stands_last : (d : ListedDeclaration) (before : List ListedDeclaration) → Stands d (before ++ d ∷ [])
unfolding Stands
stands_last d before x e =
    left_false (clashes x d) false (right_false (list_any (clashes x) before) (clashes x d || false) (sym (list_any-append (clashes x) before (d ∷ [])) ∙ e))

stands_more : (d y : ListedDeclaration) (before : List ListedDeclaration) → Stands d before → Stands d (before ++ y ∷ [])
unfolding Stands
stands_more d y before h x e =
    h x (left_false (list_any (clashes x) before) (clashes x y || false) (sym (list_any-append (clashes x) before (y ∷ [])) ∙ e))

stands_apart : (d x : ListedDeclaration) (before : List ListedDeclaration) → Stands d before → list_any (clashes x) before ≡ false → clashes x d ≡ false
unfolding Stands
stands_apart d x before h e = h x e

-- ---- the functions of a list of declarations

at_or_behind : (here : Option ScriptFunction) (rest : List ScriptFunction) (k : ℕ) (g : ScriptFunction) → slice_get (cons_option here rest) k ≡ Some g → (P : Type 0)
    → (here ≡ Some g → P) → ((j : ℕ) → slice_get rest j ≡ Some g → P) → P
at_or_behind None rest k g e P now later = later k e
at_or_behind (Some f) rest zero g e P now later = now e
at_or_behind (Some f) rest (suc k) g e P now later = later k e

-- What the first two phases refuse of a list, after these declarations.
abbrev names_behind : RegistrationList → List ListedDeclaration → List ListedDeclaration → List Refused
names_behind V before xs = each_after (λ before d. option_to_list (name_refusal V before d)) before xs

abbrev types_behind : RegistrationList → List ListedDeclaration → List ListedDeclaration → List ListedDeclaration → List Refused
types_behind V all before xs = each_after (λ before d. option_to_list (type_refusal (space_of_declared V all) all d)) before xs

module _ (V : RegistrationList) (small : length V ≤ 1024) (all : List ListedDeclaration) where
  abbrev E : Space
  E = space_of_declared V all

  -- none after a function has its heading
  apart_from : (d : ListedDeclaration) (f : ScriptFunction) → function_of E d ≡ Some f → type_refusal E all d ≡ None → (before typed xs : List ListedDeclaration) → Stands d before
      → names_behind V before xs ≡ [] → types_behind V all typed xs ≡ [] → (k : ℕ) (g : ScriptFunction) → slice_get (filter_map (function_of E) xs) k ≡ Some g → heading_of f ≡ heading_of g → ⊥
  unfolding function_of type_refusal
  apart_from d f is fine before typed [] stands names types k g at same = cc
  apart_from d f is fine before typed (x ∷ xs) stands names types k g at same =
      let name = nothing_more (name_refusal V before x) (names_behind V (before ++ x ∷ []) xs) names in
      let meant = nothing_more (type_refusal E all x) (types_behind V all (typed ++ x ∷ []) xs) types in
      let free = stands_apart d x before stands (free_name V before x name.0) in
      at_or_behind (function_of E x) (filter_map (function_of E) xs) k g at ⊥
      (λ e. no_clash E (families_of all) d x d.part x.part f g small free fine meant.0 is e same)
      (λ j e. apart_from d f is fine (before ++ x ∷ []) (typed ++ x ∷ []) xs (stands_more d x before stands) name.1 meant.1 j g e same)

  Differ : List ScriptFunction → Type 0
  Differ fs = (n k : ℕ) (f g : ScriptFunction) → slice_get fs n ≡ Some f → slice_get fs k ≡ Some g → heading_of f ≡ heading_of g → n ≡ k

  differ_with : (here : Option ScriptFunction) (rest : List ScriptFunction) → Differ rest
      → ((f : ScriptFunction) → here ≡ Some f → (k : ℕ) (g : ScriptFunction) → slice_get rest k ≡ Some g → heading_of f ≡ heading_of g → ⊥) → Differ (cons_option here rest)
  unfolding Differ
  differ_with None rest h apart n k f g e i same = h n k f g e i same
  differ_with (Some x) rest h apart zero zero f g e i same = refl
  differ_with (Some x) rest h apart zero (suc k) f g e i same = absurd (apart f e k g i same)
  differ_with (Some x) rest h apart (suc n) zero f g e i same = absurd (apart g i n f e (sym same))
  differ_with (Some x) rest h apart (suc n) (suc k) f g e i same = ap suc (h n k f g e i same)

  differ : (before typed ds : List ListedDeclaration) → names_behind V before ds ≡ [] → types_behind V all typed ds ≡ [] → Differ (filter_map (function_of E) ds)
  unfolding Differ
  differ before typed [] names types = λ n k f g e i same. cc
  differ before typed (d ∷ ds) names types =
      let name = nothing_more (name_refusal V before d) (names_behind V (before ++ d ∷ []) ds) names in
      let meant = nothing_more (type_refusal E all d) (types_behind V all (typed ++ d ∷ []) ds) types in
      differ_with (function_of E d) (filter_map (function_of E) ds) (differ (before ++ d ∷ []) (typed ++ d ∷ []) ds name.1 meant.1)
      (λ f is k g at same. apart_from d f is meant.0 (before ++ d ∷ []) (typed ++ d ∷ []) ds (stands_last d before) name.1 meant.1 k g at same)

pub one_heading : (V : RegistrationList) → length V ≤ 1024 → (ss : List Source) → refusals_of V ss ≡ [] → (n k : ℕ) (f g : ScriptFunction)
    → slice_get (names_of V (declarations_of ss)).functions n ≡ Some f → slice_get (names_of V (declarations_of ss)).functions k ≡ Some g → heading_of f ≡ heading_of g → n ≡ k
unfolding refusals_of names_of Differ
one_heading V small ss e =
    let ds = declarations_of ss in
    let later = phase.Types ∷ phase.Ancestors ∷ phase.Heirs ∷ phase.Cycles ∷ [] in
    let names = none_refused (refusals V ds phase.Names) (first_refusals V ds later) e in
    let types = none_refused (refusals V ds phase.Types) (first_refusals V ds (phase.Ancestors ∷ phase.Heirs ∷ phase.Cycles ∷ [])) names.1 in
    differ V small ds [] [] ds names.0 types.0

-- So a text names the function that has the heading, whichever it is.
pub named_by_it : (V : RegistrationList) → length V ≤ 1024 → (ss : List Source) (names : Names) (decl : List ℕ) (n : ℕ) → refusals_of V ss ≡ [] → names ≡ names_of V (declarations_of ss)
    → IsNamedBy V names decl n → function_named_by V names decl ≡ Some n
named_by_it V small ss names decl n e own h = by_number (function_named_by V names decl) refl
  where
    by_number : (r : Option ℕ) → function_named_by V names decl ≡ r → r ≡ Some n
    by_number None r = absurd (only V names decl n r h)
    by_number (Some m) r =
        let first = found V names decl m r in
        let same : Some first.declared ≡ Some h.declared = sym first.has ∙ h.has in
        let declared : first.declared ≡ h.declared = cc in
        let heading = first.same ∙ ap heading_of declared ∙ sym h.same in
        let at = ap (λ (x : Names). slice_get x.functions m) (sym own) ∙ first.at in
        let here = ap (λ (x : Names). slice_get x.functions n) (sym own) ∙ h.at in
        ap Some (one_heading V small ss e m n first.function h.function at here heading)
