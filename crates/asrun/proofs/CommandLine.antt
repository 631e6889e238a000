-- The values that a command line gives.
use Rattle.std.proofs.Common.{◌≡◌, ◌∙◌, ap, sym, subst, refl, true, List, [], ◌∷◌, ℕ, Option, None, Result, Ok, Err, IsErrAnd, IfErr, is_some, codes}
use Rattle.std.proofs.lemmas.Bool.{and_parts, false≢true}
use Rattle.clap.specs.Words.{HasMatchesOf, first_value, one_text, found_of, is_simple, matches_of, rows_of, first_of, one_of}
use Rattle.clap.specs.Words.{App, takes, kind_of, fault_of, is_simple_and_free, Kinds, FailsBy, HasKind}
use Rattle.clap.specs.declared.error.Error.{Error}
use Rattle.clap.specs.declared.error.kind.ErrorKind.TheVariants.{OutOfMemory, DisplayVersion}
use Rattle.clap.specs.declared.parser.matches.ArgMatches.{ArgMatches}
use Rattle.clap.proofs.OnLiterals.{clap_on_literals}
use Rattle.clap.proofs.WalkLemmas.{first_value-rows, one_text-rows}
use Rattle.asrun_lines.specs.Budget.{budget_given}
use Rattle.asrun.specs.Options.{program, given, flag, is_complete, is_right, AsksVersion, IsVersion}
use Rattle.asrun.specs.declared.command.RunOptions.{RunOptions}

program_simple : is_simple program ≡ true
program_simple = refl

-- the value of an option is the one that the line gives it
pub value_given : (app : App) (words : List (List ℕ)) (m : ArgMatches) (name : List ℕ) → app ≡ program → HasMatchesOf app words m
    → first_value (found_of m) name ≡ given name words
unfolding given
value_given app words m name is h =
    let rows : rows_of (found_of m) ≡ matches_of program words = (h (ap is_simple is ∙ program_simple)).0 ∙ ap (λ a. matches_of a words) is in
    first_value-rows (found_of m) name ∙ ap (first_of name) rows

-- and what a flag is
pub flag_given : (app : App) (words : List (List ℕ)) (m : ArgMatches) (name : List ℕ) → app ≡ program → HasMatchesOf app words m
    → one_text (found_of m) name ≡ flag name words
unfolding flag
flag_given app words m name is h =
    let rows : rows_of (found_of m) ≡ matches_of program words = (h (ap is_simple is ∙ program_simple)).0 ∙ ap (λ a. matches_of a words) is in
    one_text-rows (found_of m) name ∙ ap (one_of name) rows

-- a right line is one that the command line takes
pub right_taken : (app : App) (words : List (List ℕ)) → app ≡ program → is_right words ≡ true → takes app words ≡ true
right_taken app words is right = ap (λ a. takes a words) is ∙ (and_parts (takes program words) _ right).0

-- where a line that is taken is refused for want of memory alone, so is a right one
pub refused_right : {T : Type 0} (r : Result T Error) (e : Error) (app : App) (words : List (List ℕ)) → IsErrAnd r (λ d. d ≡ e) → app ≡ program
    → (takes app words ≡ true → kind_of e ≡ OutOfMemory) → IfErr r (λ d. is_right words ≡ true → kind_of d ≡ OutOfMemory)
refused_right (Ok v) e app words same is passes = tt
refused_right (Err d) e app words same is passes = λ right. ap kind_of same ∙ passes (right_taken app words is right)

-- a right line has options
pub not_right : (app : App) (words : List (List ℕ)) (m : ArgMatches) (r : Option RunOptions) → app ≡ program → HasMatchesOf app words m → r ≡ None
    → is_some r ≡ is_complete (first_value (found_of m) (codes "profile")) (first_value (found_of m) (codes "session")) (budget_given (first_value (found_of m) (codes "budget")))
    → is_right words ≡ true → ⊥
not_right app words m r is h none complete right =
    let profile = value_given app words m (codes "profile") is h in
    let session = value_given app words m (codes "session") is h in
    let budget = value_given app words m (codes "budget") is h in
    let all = ap (λ x. is_complete x (first_value (found_of m) (codes "session")) (budget_given (first_value (found_of m) (codes "budget")))) profile
    ∙ ap (λ x. is_complete (given (codes "profile") words) x (budget_given (first_value (found_of m) (codes "budget")))) session
    ∙ ap (λ x. is_complete (given (codes "profile") words) (given (codes "session") words) (budget_given x)) budget in
    false≢true (sym (ap is_some none) ∙ complete ∙ all ∙ (and_parts (takes program words) _ right).1)

-- ---- the version

program_free : is_simple_and_free program ≡ true
program_free = refl

version_asked : (name : List ℕ) → fault_of program (name ∷ codes "--version" ∷ []) ≡ DisplayVersion ∷ []
unfolding clap_on_literals
version_asked name = refl

-- what is read of a line that asks for the version fails by that
fails_so : {T : Type 0} (r : Result T Error) (app : App) (words : List (List ℕ)) → app ≡ program → AsksVersion words
    → (is_simple_and_free app ≡ true → FailsBy (fault_of app words) r) → FailsBy (DisplayVersion ∷ []) r
fails_so r app words same asks fails =
    subst (λ k. FailsBy k r) (ap (λ a. fault_of a words) same ∙ ap (fault_of program) asks.1 ∙ version_asked asks.0)
    (fails (ap is_simple_and_free same ∙ program_free))

abbrev some_kind : Kinds → Type 0
some_kind [] = ⊥
some_kind (k ∷ ks) = Unit {0}

-- it has no options
pub no_options : {T : Type 0} (v : T) (app : App) (words : List (List ℕ)) → app ≡ program → AsksVersion words
    → (is_simple_and_free app ≡ true → fault_of app words ≡ []) → ⊥
no_options v app words same asks fails = subst some_kind (fails_so (Ok v) app words same asks fails) tt

-- and its error is that
pub version_shown : {T : Type 0} (r : Result T Error) (e : Error) (app : App) (words : List (List ℕ)) → IsErrAnd r (λ d. d ≡ e) → app ≡ program
    → (is_simple_and_free app ≡ true → HasKind (fault_of app words) e) → AsksVersion words → IsErrAnd r IsVersion
version_shown (Ok v) e app words is same fails asks = is
version_shown (Err d) e app words is same fails asks = subst IsVersion (sym is) (fails_so {T = Unit {0}} (Err e) app words same asks fails)
