-- What is refused of families by their numbers is what is refused of the declarations that declare them.
use Rattle.std.specs.Prelude.{ℕ, suc, ◌≡◌, ◌<◌, ◌≤◌, ◌+◌, ◌*◌, Bool, List, [], ◌∷◌, ◌++◌, length, drop, Option, Some, None, option_to_list, slice_get, get_or, option_and_then}
use Rattle.std.specs.List.{cons_option, filter_map}
use Rattle.std.proofs.Common.{arith, refl, sym, subst, ap, ◌∙◌, length-append}
use Rattle.std.proofs.Math.Seq.{drop-cons}
use Rattle.std.proofs.lemmas.List.{drop_all}
use Rattle.std.proofs.lemmas.List.Elements.{filter_map-append}
use Rattle.std.proofs.lemmas.Option.{slice_get-get_or}
use Rattle.ang_kinds.specs.declared.error.ErrorKind.{ErrorKind}
use Rattle.ang_kinds.specs.declared.error.ErrorKind.TheVariants as kind
use Rattle.ang_types.specs.declared.asks.Refused.{Refused}
use Rattle.ang_view.specs.Registration.{RegistrationList}
use Rattle.ang_names_graph.specs.Tables.{Shows}
use Rattle.ang_names_graph.proofs.Rings.{edge_shown}
use Rattle.ang_names_graph.specs.Graphs.{leads}
use Rattle.ang_names_known.specs.declared.names.Family.{Family}
use Rattle.ang_names_known.specs.Spaces.{Space}
use Rattle.ang_names_known.specs.Items.{each_after, list_or}
use Rattle.ang_names_listed.specs.declared.listed.ListedDeclaration.{ListedDeclaration}
use Rattle.ang_names_listed.specs.declared.listed.Part.{Part}
use Rattle.ang_names_listed.specs.declared.listed.Part.TheVariants as part
use Rattle.ang_names_listed.specs.Declarations.{Declaring, declaring_by, declaring_of, families_of}
use Rattle.ang_names_listed.specs.Taken.{each_refused}
use Rattle.ang_names_classes.specs.declared.tables.Tables.{Tables}
use Rattle.ang_names_classes.specs.Hierarchy.{holds, is_parent}
use Rattle.ang_names_classes.specs.Resolved.{families_in, space_of_declared}
use Rattle.ang_names_classes.specs.Tables.{AreTables}
use Rattle.ang_names.specs.Phases as phase
use Rattle.ang_names.specs.Heirs.{ancestor_refusal, at_name, cycle_refusal, heir_refusal}
use Rattle.ang_names.specs.ByNumber.{heritage_refusals, refused_from, ring_refusal}
use Rattle.ang_names.specs.Phases.{families, first_refusals, of_family, refusals}
use Rattle.ang_names.proofs.Few.{family_number}

-- ---- lists of refusals, of which the first with some counts

pub next_list : {A : Type 0} (found first later : List A) → found ≡ first → found ≡ [] → later ≡ list_or first later
next_list found first later e none = ap (λ xs. list_or xs later) (sym none ∙ e)

last_list : {A : Type 0} (xs : List A) → list_or xs [] ≡ xs
last_list [] = refl
last_list (x ∷ xs) = refl

-- ---- by number

one_split : {A : Type 0} (xs : List A) (n : ℕ) → n < length xs → (x : A) × (slice_get xs n ≡ Some x) × (drop n xs ≡ x ∷ drop (n + 1) xs)
one_split [] n lt = absurd (omega (arith, lt))
one_split (y ∷ ys) n lt =
    let up : suc n ≡ n + 1 = omega arith in
    (get_or (y ∷ ys) n y, slice_get-get_or (y ∷ ys) n y lt, drop-cons (y ∷ ys) n y lt ∙ ap (λ k. get_or (y ∷ ys) n y ∷ drop k (y ∷ ys)) up)

module _ (p : ℕ → Family → Option Refused) (fs : List Family) where
  none_more : (n more : ℕ) → more ≡ 0 → refused_from p n (drop n fs) ≡ refused_from p (n + more) (drop (n + more) fs)
  none_more n more none = let up : n ≡ n + more = omega (arith, none) in ap (λ k. refused_from p k (drop k fs)) up

  -- what is refused of a declaration, and of the families after it
  one_declared : (before : List ListedDeclaration) (d : ListedDeclaration) (q : Part) (n more later : ℕ) (rest : List Refused) → n ≡ length (families_of before)
      → more ≡ length (cons_option (declaring_by d q) []) → length fs ≡ n + more + later → refused_from p (n + more) (drop (n + more) fs) ≡ rest
      → refused_from p n (drop n fs) ≡ option_to_list (of_family p fs before q) ++ rest
  one_declared before d (part.Family s) n more later rest e one l h =
      let lt : n < length fs = omega (arith, one, l) in
      let split = one_split fs n lt in
      let given : option_and_then (p n) (slice_get fs n) ≡ p n split.0 = ap (option_and_then (p n)) split.1 in
      ap (refused_from p n) split.2
      ∙ ap (λ k. option_to_list (p n split.0) ++ refused_from p k (drop k fs)) (ap (λ k. n + k) (sym one))
      ∙ ap (λ r. option_to_list (p n split.0) ++ r) h
      ∙ ap (λ o. option_to_list o ++ rest) (sym given)
      ∙ ap (λ k. option_to_list (option_and_then (p k) (slice_get fs k)) ++ rest) e
  one_declared before d (part.Function y ps) n more later rest e none l h = none_more n more none ∙ h
  one_declared before d (part.Import y ps) n more later rest e none l h = none_more n more none ∙ h
  one_declared before d (part.Global y) n more later rest e none l h = none_more n more none ∙ h

  one_counted : (o : Option Declaring) (rest : List Declaring) → length (cons_option o rest) ≡ length (cons_option o []) + length rest
  one_counted None rest = omega arith
  one_counted (Some d) rest = omega arith

  from_here : (before ds : List ListedDeclaration) (n : ℕ) → n ≡ length (families_of before) → length fs ≡ n + length (families_of ds)
      → refused_from p n (drop n fs) ≡ each_after (λ (front : List ListedDeclaration) (d : ListedDeclaration). option_to_list (of_family p fs front d.part)) before ds
  unfolding families_of
  from_here before [] n e l = ap (refused_from p n) (drop_all n fs (omega (arith, l)))
  from_here before (d ∷ ds) n e l =
      let more = length (cons_option (declaring_of d) []) in
      let rest = length (filter_map declaring_of ds) in
      let c = one_counted (declaring_of d) (filter_map declaring_of ds) in
      let front : n + more ≡ length (filter_map declaring_of (before ++ d ∷ [])) =
      ap (λ k. k + more) e ∙ sym (length-append (filter_map declaring_of before) (cons_option (declaring_of d) [])) ∙ ap length (sym (filter_map-append declaring_of before (d ∷ []))) in
      one_declared before d d.part n more rest _ e refl (omega (arith, l, c)) (from_here (before ++ d ∷ []) ds (n + more) front (omega (arith, l, c)))

none_before : 0 ≡ length (families_of [])
unfolding families_of
none_before = refl

pub by_number : (p : ℕ → Family → Option Refused) (fs : List Family) (all : List ListedDeclaration) → length fs ≡ length (families_of all)
    → refused_from p 0 fs ≡ each_refused (λ before d. of_family p fs before d.part) all
by_number p fs all e = from_here p fs [] all 0 none_before (e ∙ omega arith)

-- what says the same of each family refuses the same
refused_agree : (p q : ℕ → Family → Option Refused) (fs : List Family) (c n : ℕ) → c + length fs ≡ n → ((k : ℕ) (f : Family) → k < n → p k f ≡ q k f)
    → refused_from p c fs ≡ refused_from q c fs
refused_agree p q [] c n e h = refl
refused_agree p q (f ∷ fs) c n e h =
    ap (λ o. option_to_list o ++ refused_from p (c + 1) fs) (h c f (omega (arith, e)))
    ∙ ap (λ r. option_to_list (q c f) ++ r) (refused_agree p q fs (c + 1) n (omega (arith, e)) h)

-- by a table that shows what leads to what
ring_shown : (why : ErrorKind) (t : List Bool) (n : ℕ) (e : ℕ → ℕ → Bool) (fs : List Family) → length fs ≡ n → Shows t n e
    → refused_from (ring_refusal why t (length fs)) 0 fs ≡ refused_from (λ c f. at_name why (e c c) f) 0 fs
ring_shown why t n e fs l s =
    ap (λ k. refused_from (ring_refusal why t k) 0 fs) l
    ∙ refused_agree (ring_refusal why t n) (λ c f. at_name why (e c c) f) fs 0 n (omega (arith, l)) (λ c f lt. ap (λ b. at_name why b f) (edge_shown t n e s c c lt lt))

both_lists : (a b c x y z : List Refused) → a ≡ x → b ≡ y → c ≡ z → list_or a (list_or b c) ≡ list_or x (list_or y (list_or z []))
both_lists a b c x y z e f g =
    ap (λ r. list_or r (list_or b c)) e ∙ ap (λ r. list_or x (list_or r c)) f ∙ ap (λ r. list_or x (list_or y r)) (g ∙ sym (last_list z))

-- by tables of the families, the phases over families refuse this
refused_by : (V : RegistrationList) (all : List ListedDeclaration) (t : Tables) (fs : List Family) → fs ≡ families V all
    → AreTables (space_of_declared V all) (families_of all) t
    → heritage_refusals t.above.items t.reach.items fs ≡ first_refusals V all (phase.Ancestors ∷ phase.Heirs ∷ phase.Cycles ∷ [])
refused_by V all t fs e s =
    let E = space_of_declared V all in
    let ds = families_of all in
    let same = family_number E all in
    subst (λ gs. heritage_refusals t.above.items t.reach.items gs ≡ first_refusals V all (phase.Ancestors ∷ phase.Heirs ∷ phase.Cycles ∷ [])) (sym e)
    (both_lists _ _ _ _ _ _
    (ring_shown kind.BadBase t.above.items (length ds) (leads (is_parent ds) (length ds)) (families V all) same s.above
    ∙ by_number (ancestor_refusal ds) (families V all) all same)
    (by_number (heir_refusal (families V all)) (families V all) all same)
    (ring_shown kind.Cyclic t.reach.items (length ds) (leads (holds E ds) (length ds)) (families V all) same s.reach
    ∙ by_number (cycle_refusal E ds) (families V all) all same))

module _ (V : RegistrationList) (all : List ListedDeclaration) (E : Space) (e : E ≡ space_of_declared V all) where
  -- there are as many as are declared
  many : (fs : List Family) → fs ≡ families_in E all → length fs ≡ length (families_of all)
  many fs h = ap length h ∙ family_number E all

  pub few_families : (fs : List Family) → fs ≡ families_in E all → length (families_of all) ≤ 256 → length fs ≤ 256
  few_families fs h le = subst (λ n. n ≤ 256) (sym (many fs h)) le

  pub table_fits : (fs : List Family) (t : List Bool) (f : ℕ → ℕ → Bool) → fs ≡ families_in E all → Shows t (length (families_of all)) f
      → length t ≡ length fs * length fs
  table_fits fs t f h s = subst (λ n. length t ≡ n * n) (sym (many fs h)) s.size

  pub heritage_refused : (fs : List Family) (t : Tables) → fs ≡ families_in E all → AreTables E (families_of all) t
      → heritage_refusals t.above.items t.reach.items fs ≡ first_refusals V all (phase.Ancestors ∷ phase.Heirs ∷ phase.Cycles ∷ [])
  heritage_refused fs t h s = refused_by V all t fs (h ∙ ap (λ F. families_in F all) e) (subst (λ F. AreTables F (families_of all) t) e s)

-- where the second phase refuses nothing, those after it decide
pub types_passed : (V : RegistrationList) (all : List ListedDeclaration) (found : List Refused) → found ≡ refusals V all phase.Types → found ≡ []
    → first_refusals V all (phase.Ancestors ∷ phase.Heirs ∷ phase.Cycles ∷ []) ≡ first_refusals V all (phase.Types ∷ phase.Ancestors ∷ phase.Heirs ∷ phase.Cycles ∷ [])
types_passed V all found e none = ap (λ rs. list_or rs (first_refusals V all (phase.Ancestors ∷ phase.Heirs ∷ phase.Cycles ∷ []))) (sym none ∙ e)
