-- What asks nothing has no rows, and where a refused declaration asks there are few families.
use Rattle.std.specs.Prelude.{ℕ, suc, ◌≡◌, ◌≢◌, ◌≤◌, Bool, true, false, ◌||◌, ◌++◌, Contains, List, [], ◌∷◌, length, flat_map, is_some, IsSome, Option, Some, None}
use Rattle.std.proofs.Common.{arith, refl, sym, ap, ◌∙◌}
use Rattle.ang_types.specs.declared.asks.Asks.{Asks}
use Rattle.ang_types.specs.declared.asks.Refused.{Refused}
use Rattle.ang_kinds.specs.declared.error.Error.{Error}
use Rattle.ang_view.specs.Registration.{RegistrationList, seen}
use Rattle.ang_names_known.specs.declared.names.Names.{Names}
use Rattle.ang_names_known.specs.Items.{list_or}
use Rattle.ang_names_listed.specs.Declarations.{declarations_of, families_of}
use Rattle.ang_names_listed.specs.Sources.{Source}
use Rattle.ang_names.specs.Phases.{errors_in, refusals_of}
use Rattle.ang_names_classes.specs.Resolved.{names_of}
use Rattle.ang_names.proofs.Few.{asked_families}
use Rattle.ang_check.specs.Bodies.{body_refusals}
use Rattle.ang_check_contest.specs.Scopes.{Scope}
use Rattle.ang_check_denials.specs.Denials.{rows_asked, rows_for}
use Rattle.ang_check.specs.Denials.{AreErrors, denials_of, scope_over, script_refusals, some_ask}

-- ---- a refused use that asks

asks_first : (o : Option Asks) (rest : Bool) → (is_some o || rest) ≡ false → (o ≡ None) × (rest ≡ false)
asks_first None rest e = (refl, e)
asks_first (Some a) rest e = cc

pub no_rows : (R : RegistrationList) (m : ℕ) (s : Scope) (rs : List Refused) → some_ask rs ≡ false → flat_map (rows_for R m s) rs ≡ []
no_rows R m s [] e = refl
no_rows R m s (r ∷ rs) e =
    let parts = asks_first r.asks (some_ask rs) e in
    ap (λ o. rows_asked R m s r o ++ flat_map (rows_for R m s) rs) parts.0 ∙ no_rows R m s rs parts.1

later : (r : Refused) (rs : List Refused) → (q : Refused) × Contains rs q × IsSome q.asks → (q : Refused) × Contains (r ∷ rs) q × IsSome q.asks
later r rs h = (h.0, (suc h.1.0, omega (arith, h.1.1), h.1.2), h.2)

asked_first : (r : Refused) (rs : List Refused) (b : Bool) → is_some r.asks ≡ b → (b || some_ask rs) ≡ true
    → (some_ask rs ≡ true → (q : Refused) × Contains rs q × IsSome q.asks) → (q : Refused) × Contains (r ∷ rs) q × IsSome q.asks
asked_first r rs true e h rest = (r, (0, omega arith, refl), e)
asked_first r rs false e h rest = later r rs (rest h)

one_asks : (rs : List Refused) → some_ask rs ≡ true → (q : Refused) × Contains rs q × IsSome q.asks
one_asks [] e = cc
one_asks (r ∷ rs) e = asked_first r rs (is_some r.asks) refl e (one_asks rs)

pub few_where_asked : (V : RegistrationList) (ss : List Source) (rs : List Refused) → rs ≡ refusals_of V ss → some_ask rs ≡ true
    → length (families_of (declarations_of ss)) ≤ 256
few_where_asked V ss rs e h =
    let q = one_asks (refusals_of V ss) (sym (ap some_ask e) ∙ h) in
    asked_families V ss q.0 q.1 q.2

-- ---- what is refused, by what was answered

first_of_lists : {A : Type 0} (xs ys : List A) → xs ≢ [] → list_or xs ys ≡ xs
first_of_lists [] ys h = absurd (h refl)
first_of_lists (x ∷ xs) ys h = refl

second_of_lists : {A : Type 0} (xs ys : List A) → xs ≡ [] → list_or xs ys ≡ ys
second_of_lists [] ys e = refl
second_of_lists (x ∷ xs) ys e = cc

some_refused : (rs : List Refused) → errors_in rs ≢ [] → rs ≢ []
some_refused [] h = absurd (h refl)
some_refused (r ∷ rs) h = λ e. cc

pub phases_refuse : (V : RegistrationList) (ss : List Source) → errors_in (refusals_of V ss) ≢ [] → script_refusals V ss ≡ refusals_of V ss
unfolding script_refusals
phases_refuse V ss h =
    first_of_lists (refusals_of V ss) (body_refusals V (names_of V (declarations_of ss)) ss) (some_refused (refusals_of V ss) h)

pub bodies_refuse : (V : RegistrationList) (ss : List Source) → refusals_of V ss ≡ [] → script_refusals V ss ≡ body_refusals V (names_of V (declarations_of ss)) ss
unfolding script_refusals
bodies_refuse V ss e = second_of_lists (refusals_of V ss) (body_refusals V (names_of V (declarations_of ss)) ss) e

none_in_errors : (rs : List Refused) → [] ≡ errors_in rs → rs ≡ []
none_in_errors [] e = refl
none_in_errors (r ∷ rs) e = cc

-- where there is no error nothing is refused
no_refusals : (V : RegistrationList) (ss : List Source) (names : Option Names) (es : List Error) → AreErrors V ss names es → es ≡ [] → script_refusals V ss ≡ []
unfolding script_refusals
no_refusals V ss None es h e = absurd (h.1 e)
no_refusals V ss (Some names) es h e =
    second_of_lists (refusals_of V ss) (body_refusals V (names_of V (declarations_of ss)) ss) h.0
    ∙ ap (λ n. body_refusals V n ss) (sym h.1)
    ∙ none_in_errors (body_refusals V names ss) (sym e ∙ h.2)

no_items : {A : Type 0} (xs : List A) → length xs ≡ 0 → xs ≡ []
no_items [] e = refl
no_items (x ∷ xs) e = absurd (omega (arith, e))

pub no_denials : (R : RegistrationList) (m : ℕ) (ss : List Source) (names : Option Names) (es : List Error) → AreErrors (seen R m) ss names es → length es ≡ 0
    → denials_of R m ss ≡ []
unfolding denials_of
no_denials R m ss names es h e = ap (flat_map (rows_for R m (scope_over (seen R m) ss))) (no_refusals (seen R m) ss names es h (no_items es e))

-- ---- the rows over what a registry shows

pub phase_rows : (R : RegistrationList) (m : ℕ) (ss : List Source) (o : Option Names) (es : List Error) (L V : RegistrationList) (k : ℕ)
    → AreErrors (seen R m) ss o es → o ≡ None → L ≡ R → k ≡ m → V ≡ seen R m → flat_map (rows_for L k (scope_over V ss)) (refusals_of V ss) ≡ denials_of R m ss
unfolding denials_of
phase_rows R m ss None es L V k h e list mask view =
    (λ i. flat_map (rows_for (list i) (mask i) (scope_over (view i) ss)) (refusals_of (view i) ss))
    ∙ ap (flat_map (rows_for R m (scope_over (seen R m) ss))) (sym (phases_refuse (seen R m) ss (λ none. h.1 (h.0 ∙ none))))
phase_rows R m ss (Some names) es L V k h e list mask view = cc

pub body_rows : (R : RegistrationList) (m : ℕ) (ss : List Source) (o : Option Names) (names : Names) (es : List Error) (L V : RegistrationList) (k : ℕ)
    → AreErrors (seen R m) ss o es → o ≡ Some names → L ≡ R → k ≡ m → V ≡ seen R m
    → flat_map (rows_for L k (scope_over V ss)) (body_refusals V names ss) ≡ denials_of R m ss
unfolding denials_of
body_rows R m ss None names es L V k h e list mask view = cc
body_rows R m ss (Some own) names es L V k h e list mask view =
    let same : names ≡ own = cc in
    (λ i. flat_map (rows_for (list i) (mask i) (scope_over (view i) ss)) (body_refusals (view i) (same i) ss))
    ∙ ap (λ ns. flat_map (rows_for R m (scope_over (seen R m) ss)) (body_refusals (seen R m) ns ss)) h.1
    ∙ ap (flat_map (rows_for R m (scope_over (seen R m) ss))) (sym (bodies_refuse (seen R m) ss h.0))
