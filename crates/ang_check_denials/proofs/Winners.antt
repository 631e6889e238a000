-- Sets of the candidates that win.
use Rattle.std.specs.Prelude.{ℕ, ◌≡◌, Bool, true, cond, if◌then◌else◌, filter, List, [], ◌∷◌, Option, Some, None, IfSome, slice_index_or}
use Rattle.std.specs.List.{list_all}
use Rattle.std.proofs.Common.{refl, sym, ap, ◌∙◌}
use Rattle.ang_types.specs.declared.arg_type.ArgType.{ArgType}
use Rattle.ang_types.specs.declared.asks.Asks.{Asks}
use Rattle.ang_types.specs.declared.asks.Refused.{Refused}
use Rattle.ang_types.specs.declared.candidate.Candidate.{Candidate}
use Rattle.ang_types.specs.Ranks.{Ancestors}
use Rattle.ang_view.specs.Registration.{RegistrationList, entry_at}
use Rattle.ang_view.proofs.Lists.{and_gives}
use Rattle.ang_names_known.specs.KindRows.{row_at}
use Rattle.ang_names_known.specs.Kinds.{AreRows, Kind, Rows, Says, numbered}
use Rattle.ang_check_contest.specs.Scopes.{Scope}
use Rattle.ang_check_added.specs.declared.kind_sets.KindSets.{KindSets}
use Rattle.ang_check_added.specs.declared.sets.EntrySet.{EntrySet}
use Rattle.ang_check_added.specs.Made.{is_won, made, params_in, params_made}
use Rattle.ang_check_added.specs.Sets.{AreSets, has, is_winner}
use Rattle.ang_check_added.specs.Verdicts.{Judge}
use Rattle.ang_check_denials.specs.declared.told.Sought.{Sought}
use Rattle.ang_check_denials.specs.Added.{types_of}
use Rattle.ang_check_denials.specs.Denials.{helps}
use Rattle.ang_check_denials.specs.Telling.{AreCandidateSets, AreWinners, chosen, is_sought, rivals_for}
use Rattle.ang_check_denials.proofs.Taking.{says_of_made}
use Rattle.ang_check_denials.proofs.Telling.{none_won, some_won}

-- sets of the rows of all candidates are the candidates' sets
pub sets_tell : (R : RegistrationList) (kinds : List Kind) (rows : Rows) (o : Option KindSets) → AreRows kinds rows (λ t. params_made (made R)) → IfSome o (AreSets rows)
    → IfSome o (AreCandidateSets R kinds)
sets_tell R kinds rows None are is = tt
sets_tell R kinds rows (Some sets) are is = record {
  rows = rows;
  are = is;
  says = λ n. says_of_made 0 kinds rows (made R) n (row_at rows n) are refl;
}

-- a candidate's row wins where the candidate is the best of all
pub winner_is : (l : Ancestors) (cs : List Candidate) (args : List ArgType) (kinds : List Kind) (rows : List (List ℕ)) (ahead : Bool) (row : Option (List ℕ)) (o : Option Candidate)
    → Says 0 kinds row (params_in o) → Judge l (numbered 0 kinds) cs args rows ahead → is_winner rows ahead row ≡ is_won l cs args o
winner_is l cs args kinds rows ahead None o says judge = none_won l cs args kinds None o says refl
winner_is l cs args kinds rows ahead (Some ns) o says judge = some_won l cs args kinds rows ahead (Some ns) ns o says refl judge

-- what tells of any judged candidates tells of these
pub winners_tell : (R : RegistrationList) (kinds : List Kind) (rows : List (List ℕ)) (ahead : Bool) (l : Ancestors) (cs : List Candidate) (args : List ArgType) (o : Option EntrySet)
    → Judge l kinds cs args rows ahead
    → IfSome o (λ w. (ls : Ancestors) (qs : List Candidate) (ts : List ArgType) → Judge ls kinds qs ts rows ahead → AreWinners R ls qs ts w) → IfSome o (AreWinners R l cs args)
winners_tell R kinds rows ahead l cs args None judge tell = tt
winners_tell R kinds rows ahead l cs args (Some w) judge tell = tell l cs args judge

module _ (R : RegistrationList) (m : ℕ) (s : Scope) (r : Refused) (a : Asks) (q : Sought) (set : EntrySet)
    (are : AreWinners R s.ancestors (rivals_for s r.error.name q) (types_of a) set) where
  won_here : (x : ℕ) → is_sought q (entry_at R x) ≡ true → has set.words x ≡ chosen R m s r a q x
  won_here x is =
      let best = is_won s.ancestors (rivals_for s r.error.name q) (types_of a) (slice_index_or (made R) x None) in
      are x ∙ sym (ap (λ b. if b then best else helps R m s r a x) is)

  -- where all of a row are of those of which it is told, those in the set are chosen
  pub won_chosen : (row : List ℕ) → list_all (λ x. is_sought q (entry_at R x)) row ≡ true → filter (has set.words) row ≡ filter (chosen R m s r a q) row
  won_chosen [] all = refl
  won_chosen (x ∷ xs) all =
      let both = and_gives (is_sought q (entry_at R x)) (list_all (λ x. is_sought q (entry_at R x)) xs) all in
      let here = won_here x both.0 in
      let rest = won_chosen xs both.1 in
      λ i. cond (here i) (x ∷ rest i) (rest i)
