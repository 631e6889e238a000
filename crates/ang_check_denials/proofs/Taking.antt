-- What is told of parameters by the numbers of their kinds are the ranks of all arguments.
use Rattle.std.specs.Prelude.{ℕ, zero, suc, ◌≡◌, List, [], ◌∷◌, map, slice_get, slice_index_or, option_map, Option, Some, None}
use Rattle.std.specs.Option.{option_flatten}
use Rattle.std.proofs.Common.{refl, sym, ap, subst, ◌∙◌}
use Rattle.std.proofs.lemmas.Option.{same_Some}
use Rattle.ang_types.specs.declared.arg_type.ArgType.{ArgType}
use Rattle.ang_types.specs.declared.candidate.Candidate.{Candidate}
use Rattle.ang_types.specs.Overloads.{Params}
use Rattle.ang_types.specs.Ranks.{Ancestors}
use Rattle.ang_names_known.specs.KindRows.{row_at}
use Rattle.ang_names_known.specs.Kinds.{AreRows, Kind, Rows, Says, kinds_at, numbered}
use Rattle.ang_names_known.proofs.KeptNumbers.{says_in}
use Rattle.ang_view.specs.Registration.{RegistrationList}
use Rattle.ang_check_contest.specs.declared.host.Wanted.{Wanted}
use Rattle.ang_check_contest.specs.Told.{IsTable, TellsRanks, ranks_at}
use Rattle.ang_check_contest.proofs.ToldLaws.{ranks_told}
use Rattle.ang_check_added.specs.Made.{candidate_in, made, params_in, params_made}
use Rattle.ang_check_added.proofs.Making.{candidate_is_made}

-- ---- a candidate that was made

tells_of_made : (l : Ancestors) (kinds : List Kind) (args : List ArgType) (table : Option (List (List (Option ℕ)))) (row : Option (List ℕ)) (o : Option Candidate) (c : Candidate)
    → IsTable l (numbered 0 kinds) args table → Says 0 kinds row (params_in o) → o ≡ Some c → TellsRanks l c.params args table row
tells_of_made l kinds args None row o c table says is = tt
tells_of_made l kinds args (Some rows) None o c table says is = tt
tells_of_made l kinds args (Some rows) (Some ns) o c table says is =
    let these : kinds_at (numbered 0 kinds) ns ≡ map Some c.params = same_Some (kinds_at (numbered 0 kinds) ns) (map Some c.params) (says ∙ ap (λ q. option_map (map Some) (params_in q)) is) in
    ap (λ rs. ranks_at rs ns) table ∙ ranks_told l (numbered 0 kinds) args ns c.params these

-- what is told of parameters, of a candidate that was made
pub made_tells : (R : RegistrationList) (n : ℕ) (l : Ancestors) (kinds : List Kind) (args : List ArgType) (table : Option (List (List (Option ℕ)))) (row : Option (List ℕ))
    (c : Candidate) (ps : Params) → IsTable l (numbered 0 kinds) args table → Says 0 kinds row (params_in (slice_index_or (made R) n None))
    → slice_index_or (made R) n None ≡ Some c → ps ≡ c.params → TellsRanks l ps args table row
made_tells R n l kinds args table row c ps are says is same =
    subst (λ q. TellsRanks l q args table row) (sym same) (tells_of_made l kinds args table row (slice_index_or (made R) n None) c are says is)

-- and of one that is wanted
pub told_tells : (R : RegistrationList) (n : ℕ) (w : Wanted) (l : Ancestors) (kinds : List Kind) (args : List ArgType) (table : Option (List (List (Option ℕ)))) (row : Option (List ℕ))
    (c : Candidate) (ps : Params) → IsTable l (numbered 0 kinds) args table → Says 0 kinds row (params_in (slice_index_or (made R) n None))
    → candidate_in R n w ≡ Some c → ps ≡ c.params → TellsRanks l ps args table row
told_tells R n w l kinds args table row c ps are says is same = made_tells R n l kinds args table row c ps are says (candidate_is_made R n w c is) same

-- ---- the row of one

flat : (cs : List (Option Candidate)) (n : ℕ) → option_flatten (slice_get (params_made cs) n) ≡ params_in (slice_index_or cs n None)
flat [] zero = refl
flat [] (suc n) = refl
flat (c ∷ cs) zero = refl
flat (c ∷ cs) (suc n) = flat cs n

pub says_of_made : (t : ℕ) (kinds : List Kind) (rows : Rows) (cs : List (Option Candidate)) (n : ℕ) (row : Option (List ℕ)) → AreRows kinds rows (λ t. params_made cs)
    → row ≡ row_at rows n → Says t kinds row (params_in (slice_index_or cs n None))
says_of_made t kinds rows cs n row are is =
    ap (option_map (kinds_at (numbered t kinds))) is
    ∙ says_in (numbered t kinds) rows (params_made cs) n (are t)
    ∙ ap (option_map (map Some)) (flat cs n)
