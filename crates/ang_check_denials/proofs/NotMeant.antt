-- An entry that a use can't mean by its arguments alone helps it not, whatever is seen.
use Rattle.std.specs.Prelude.{ℕ, ◌≡◌, ◌≢◌, ◌<◌, ◌≤◌, ◌⊎◌, Bool, true, false, not, ◌&&◌, ◌||◌, if◌then◌else◌, List, [], ◌∷◌, filter, length, option_map, Option, Some, None, slice_index_or}
use Rattle.std.specs.List.{list_any}
use Rattle.std.proofs.Common.{arith, refl, sym, ap, inl, inr, ◌∙◌}
use Rattle.ang_types.specs.declared.arg_type.ArgType.{ArgType}
use Rattle.ang_types.specs.declared.arg_type.ArgType.TheVariants.{Object}
use Rattle.ang_types.specs.declared.asks.Asks.{Asks}
use Rattle.ang_types.specs.declared.asks.Asks.TheVariants as asks
use Rattle.ang_types.specs.declared.asks.Refused.{Refused}
use Rattle.ang_types.specs.declared.candidate.Candidate.{Candidate}
use Rattle.ang_types.specs.Best.{is_best}
use Rattle.ang_types.specs.Overloads.{IsBest}
use Rattle.ang_types.specs.Ranks.{Ancestors}
use Rattle.ang_types.proofs.BestLaws.{is_best-Decides}
use Rattle.ang_view.specs.Hidden.{is_hidden, seen_with}
use Rattle.ang_view.specs.Registration.{RegistrationList, entry_at, seen}
use Rattle.ang_names_known.specs.declared.space.Named.{Named}
use Rattle.ang_names_known.specs.declared.space.Named.TheVariants as named
use Rattle.ang_names_known.specs.Spaces.{family_of_type}
use Rattle.ang_check_contest.specs.declared.host.SeenFunction.{SeenFunction}
use Rattle.ang_check_contest.specs.declared.host.Wanted.{Wanted}
use Rattle.ang_check_contest.specs.declared.host.Wanted.TheVariants as wanted
use Rattle.ang_check_contest.specs.Scopes.{Scope}
use Rattle.ang_check_uses.specs.Uses.{candidates_of, functions_of, host_methods, resolution_of, takes_number}
use Rattle.ang_check_added.specs.Made.{candidate_in, candidate_of, found_in, is_won, made}
use Rattle.ang_check_denials.specs.Added.{adds, call_wins, factories, factory_wins, is_called_by, named_with, wins}
use Rattle.ang_check_denials.specs.Denials.{helps, means_entry, stays}
use Rattle.ang_check_denials.specs.Takers.{can_mean_at}
use Rattle.ang_check_denials.proofs.ByName.{past_helps_not}
use Rattle.ang_check_denials.proofs.Helping.{hidden_unseen, seen_helps_not}
use Rattle.ang_check_added.proofs.Making.{candidate_is_made}
use Rattle.ang_check_denials.proofs.Meaning.{adds_means}

-- ---- one candidate

no_test : (b : Bool) → (b ≡ true → ⊥) → b ≡ false
no_test true h = absurd (h refl)
no_test false h = refl

-- the best of several is the best alone
best_alone : (l : Ancestors) (c : Candidate) (cs : List Candidate) (args : List ArgType) → IsBest l (c ∷ cs) args 0 → IsBest l (c ∷ []) args 0
best_alone l c cs args b = record {
  viable = record { there = omega arith; viable = b.viable.viable };
  better = λ j ne v. absurd (ne (omega (arith, v.there)));
}

not_best : (l : Ancestors) (c : Candidate) (cs : List Candidate) (args : List ArgType) → is_best l (c ∷ []) args 0 ≡ false → is_best l (c ∷ cs) args 0 ≡ false
not_best l c cs args unmeant =
    no_test (is_best l (c ∷ cs) args 0)
    (λ e. let alone : is_best l (c ∷ []) args 0 ≡ true = (is_best-Decides l (c ∷ []) args 0).1 (best_alone l c cs args ((is_best-Decides l (c ∷ cs) args 0).0 e)) in cc)

not_won : (l : Ancestors) (cand : SeenFunction → Candidate) (cs : List Candidate) (args : List ArgType) (o : Option SeenFunction) → is_won l [] args (option_map cand o) ≡ false
    → wins l cand cs args o ≡ false
not_won l cand cs args None unmeant = refl
not_won l cand cs args (Some f) unmeant = not_best l (cand f) cs args unmeant

-- an entry, as what is wanted
not_wanted : (R : RegistrationList) (x : ℕ) (w : Wanted) (l : Ancestors) (cs : List Candidate) (args : List ArgType) → is_won l [] args (slice_index_or (made R) x None) ≡ false
    → wins l (candidate_of w) cs args (found_in R x w) ≡ false
not_wanted R x w l cs args unmeant = not_won l (candidate_of w) cs args (found_in R x w) (by (candidate_in R x w) refl)
  where
    by : (o : Option Candidate) → candidate_in R x w ≡ o → is_won l [] args (candidate_in R x w) ≡ false
    by None e = ap (is_won l [] args) e
    by (Some c) e = ap (is_won l [] args) (e ∙ sym (candidate_is_made R x w c e)) ∙ unmeant

-- ---- one use

not_first : (b c : Bool) → (b || c) ≡ false → b ≡ false
not_first true c e = e
not_first false c e = refl

not_second : (b c : Bool) → (b || c) ≡ false → c ≡ false
not_second true c e = cc
not_second false c e = e

and_nothing : (b c : Bool) → c ≡ false → (b && c) ≡ false
and_nothing true c e = e
and_nothing false c e = refl

module _ (R : RegistrationList) (s : Scope) (name : List ℕ) (x : ℕ) where
  by_family : (args : List ArgType) (n : ℕ) (o : Option ℕ) → is_won s.ancestors [] args (slice_index_or (made R) x None) ≡ false → factory_wins R s args x n o ≡ false
  by_family args n None unmeant = not_wanted R x (wanted.Factory n) s.ancestors (factories s.view n) args unmeant
  by_family args n (Some c) unmeant = refl

  not_called : (args : List ArgType) (t : Named) → (takes_number args || is_won s.ancestors [] args (slice_index_or (made R) x None)) ≡ false → call_wins R s name args x t ≡ false
  not_called args named.Unknown unmeant =
      not_wanted R x (wanted.Function name) s.ancestors (candidates_of (functions_of s name)) args (not_second (takes_number args) (is_won s.ancestors [] args (slice_index_or (made R) x None)) unmeant)
  not_called args (named.Object n) unmeant = by_family args n (family_of_type n) (not_second (takes_number args) (is_won s.ancestors [] args (slice_index_or (made R) x None)) unmeant)
  not_called args (named.Enumeration n) unmeant = and_nothing _ (takes_number args) (not_first (takes_number args) (is_won s.ancestors [] args (slice_index_or (made R) x None)) unmeant)

  not_added : (t : Named) (a : Asks) → can_mean_at R s.ancestors a x ≡ false → adds R s name x t a ≡ false
  not_added t asks.Value unmeant = cc
  not_added t asks.Type unmeant = cc
  not_added t asks.Enumeration unmeant = cc
  not_added t (asks.Call args) unmeant = and_nothing (is_called_by R name x) (call_wins R s name args x t) (not_called args t unmeant)
  not_added t (asks.Make n args) unmeant = not_wanted R x (wanted.Factory n) s.ancestors (factories s.view n) args unmeant
  not_added t (asks.Default n) unmeant = not_wanted R x (wanted.Factory n) s.ancestors (factories s.view n) [] unmeant
  not_added t (asks.Property n) unmeant = cc
  not_added t (asks.Method n c args) unmeant = not_wanted R x (wanted.Method n name) s.ancestors (candidates_of (host_methods s.view n name)) (Object n c ∷ args) unmeant

-- ---- a row of entries

nothing_in : (h t u : Bool) → u ≡ false → (h && (not t && u)) ≡ false
nothing_in true true u e = refl
nothing_in true false u e = e
nothing_in false t u e = refl

module _ (R : RegistrationList) (m : ℕ) (s : Scope) (r : Refused) (a : Asks) (view : s.view ≡ seen R m) where
  helps_not : (x : ℕ) → x < 1024 → can_mean_at R s.ancestors a x ≡ false → helps R m s r a x ≡ false
  helps_not x lt unmeant = by (is_hidden R m x) refl
    where
      by : (h : Bool) → is_hidden R m x ≡ h → helps R m s r a x ≡ false
      by false e = seen_helps_not R m s r a x e
      by true e =
          nothing_in (is_hidden R m x) (stays s r a (entry_at R x)) (means_entry x (resolution_of (record s { view = seen_with R m x }) r.error.name a))
          (sym (adds_means R m s r.error.name x a view lt (hidden_unseen R m x e)) ∙ not_added R s r.error.name x (named_with R m s x r.error.name) a unmeant)

  past_or_there : (x : ℕ) → (length R ≤ x) ⊎ (x < length R)
  past_or_there x = grind arith

  helps_not_at : (x : ℕ) → length R ≤ 1024 → can_mean_at R s.ancestors a x ≡ false → helps R m s r a x ≡ false
  helps_not_at x few unmeant =
      elim (past_or_there x) [
        | inl le ↦ past_helps_not R m s r a x le
        | inr lt ↦ helps_not x (omega (arith, lt, few)) unmeant
      ]

  left_out : (x : ℕ) (rest : List ℕ) → helps R m s r a x ≡ false → filter (helps R m s r a) (x ∷ rest) ≡ filter (helps R m s r a) rest
  left_out x rest e = ap (λ b. if b then x ∷ filter (helps R m s r a) rest else filter (helps R m s r a) rest) e

  pub none_in_row : (row : List ℕ) → length R ≤ 1024 → list_any (can_mean_at R s.ancestors a) row ≡ false → filter (helps R m s r a) row ≡ []
  none_in_row [] few unmeant = refl
  none_in_row (x ∷ rest) few unmeant =
      let here = not_first (can_mean_at R s.ancestors a x) (list_any (can_mean_at R s.ancestors a) rest) unmeant in
      let there = not_second (can_mean_at R s.ancestors a x) (list_any (can_mean_at R s.ancestors a) rest) unmeant in
      left_out x rest (helps_not_at x few here) ∙ none_in_row rest few there
