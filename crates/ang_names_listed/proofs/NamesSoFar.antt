-- What is refused of names, one declaration after the other.
use Rattle.std.specs.Prelude.{ℕ, ◌≡◌, ◌<◌, ◌+◌, List, [], ◌++◌, Option, length, take, drop, get_or, option_to_list}
use Rattle.std.proofs.Common.{sym, ap, append_assoc, ◌∙◌}
use Rattle.ang_types.specs.declared.asks.Refused.{Refused}
use Rattle.ang_view.specs.Registration.{RegistrationList}
use Rattle.ang_names_known.specs.Items.{each_after}
use Rattle.ang_names_known.proofs.Turns.{each_after-turn}
use Rattle.ang_names_listed.specs.declared.listed.ListedDeclaration.{ListedDeclaration}
use Rattle.ang_names_listed.specs.Taken.{name_refusal}

-- what is refused of one name
abbrev refused_name : RegistrationList → List ListedDeclaration → ListedDeclaration → List Refused
refused_name V before d = option_to_list (name_refusal V before d)

pub name_more : (V : RegistrationList) (all : List ListedDeclaration) (i : ℕ) (d : ListedDeclaration) (old new : List Refused) (before : List ListedDeclaration) (r : Option Refused)
    → i < length all → d ≡ get_or all i d → before ≡ take i all → r ≡ name_refusal V before d → new ≡ old ++ option_to_list r
    → each_after (refused_name V) [] all ≡ old ++ each_after (refused_name V) (take i all) (drop i all)
    → each_after (refused_name V) [] all ≡ new ++ each_after (refused_name V) (take (i + 1) all) (drop (i + 1) all)
name_more V all i d old new before r lt is so_far given pushed left =
    let rest = each_after (refused_name V) (take (i + 1) all) (drop (i + 1) all) in
    let more : new ≡ old ++ refused_name V (take i all) (get_or all i d) =
    pushed ∙ ap (λ o. old ++ option_to_list o) given ∙ (λ j. old ++ refused_name V (so_far j) (is j)) in
    left
    ∙ ap (λ rs. old ++ rs) (each_after-turn (refused_name V) all i d lt)
    ∙ sym (append_assoc old (refused_name V (take i all) (get_or all i d)) rest)
    ∙ ap (λ rs. rs ++ rest) (sym more)
