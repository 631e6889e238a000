-- Ranks that are told are those of the parameters whose kinds the numbers name.
use Rattle.std.proofs.Common.{◌≡◌, ℕ, List, [], ◌∷◌, map, Some, refl, ap, ◌∙◌}
use Rattle.std.specs.Prelude.{slice_get, option_map}
use Rattle.std.proofs.lemmas.Option.{slice_get-map}
use Rattle.ang_types.specs.declared.arg_type.ArgType.{ArgType}
use Rattle.ang_types.specs.Overloads.{Params}
use Rattle.ang_types.specs.Ranks.{Ancestors, argument_rank}
use Rattle.ang_names_known.specs.Kinds.{Kind, kinds_at}
use Rattle.ang_check_contest.specs.Contest.{ranks_of, with_rank}
use Rattle.ang_check_contest.specs.Told.{in_place, rank_in, ranks_at, told_ranks, told_row}

rank_told : (l : Ancestors) (kinds : List Kind) (a : ArgType) (n : ℕ) (p : Kind) → slice_get kinds n ≡ Some p → rank_in (told_row l kinds a) n ≡ argument_rank l p.0 p.1 a
rank_told l kinds a n p e =
    let rank = λ (k : Kind). argument_rank l k.0 k.1 a in
    ap in_place (slice_get-map rank kinds n ∙ ap (option_map rank) e)

pub ranks_told : (l : Ancestors) (kinds : List Kind) (args : List ArgType) (ns : List ℕ) (ps : Params) → kinds_at kinds ns ≡ map Some ps
    → ranks_at (told_ranks l kinds args) ns ≡ ranks_of l ps args
ranks_told l kinds [] [] [] e = refl
ranks_told l kinds [] [] (p ∷ ps) e = cc
ranks_told l kinds [] (n ∷ ns) [] e = cc
ranks_told l kinds [] (n ∷ ns) (p ∷ ps) e = refl
ranks_told l kinds (a ∷ args) [] [] e = refl
ranks_told l kinds (a ∷ args) [] (p ∷ ps) e = cc
ranks_told l kinds (a ∷ args) (n ∷ ns) [] e = cc
ranks_told l kinds (a ∷ args) (n ∷ ns) (p ∷ ps) e =
    let here : slice_get kinds n ≡ Some p = cc in
    let there : kinds_at kinds ns ≡ map Some ps = cc in
    λ i. with_rank (rank_told l kinds a n p here i) (ranks_told l kinds args ns ps there i)
