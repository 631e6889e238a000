-- A candidate that was made for an entry is what is found there, wherever it is wanted.
use Rattle.std.specs.Prelude.{ℕ, zero, suc, ◌≡◌, ◌≤◌, ◌+◌, Bool, true, false, cond, ◌&&◌, List, bytes_eq, map, length, option_map, Option, Some, None, slice_index_or}
use Rattle.std.specs.List.{range_with_len}
use Rattle.std.proofs.Common.{arith, refl, sym, ap, ◌∙◌}
use Rattle.std.proofs.lemmas.Slice.Eq.{bytes_eq-Decides}
use Rattle.ang_kinds.specs.declared.mask.EntityNo.{EntityNo}
use Rattle.ang_types.specs.declared.candidate.Candidate.{Candidate}
use Rattle.ang_view.specs.declared.entry.Entry.{Entry}
use Rattle.ang_view.specs.declared.entry.EntryKind.{EntryKind}
use Rattle.ang_view.specs.declared.entry.EntryKind.TheVariants as entry
use Rattle.ang_view.specs.Named.{is_factory}
use Rattle.ang_view.specs.Registration.{RegistrationList, entry_at, is_function, is_number}
use Rattle.ang_view.proofs.Lists.{and_gives}
use Rattle.ang_check_contest.specs.declared.host.Wanted.{Wanted}
use Rattle.ang_check_contest.specs.declared.host.Wanted.TheVariants as wanted
use Rattle.ang_check_contest.specs.Host.{found, function_of_entry, is_method, wants_in}
use Rattle.ang_check_contest.proofs.Adding.{past_end}
use Rattle.ang_check_added.specs.Made.{candidate_in, candidate_of, factory_in, made, made_as, made_of, method_in}

-- ---- an entry that is wanted

function_made : (R : RegistrationList) (n : ℕ) (name own : List ℕ) (o : Option EntityNo) (k : EntryKind) → is_function k ≡ true → own ≡ name
    → made_as R n own o k ≡ candidate_in R n (wanted.Function name)
function_made R n name own o entry.HostType e f = cc
function_made R n name own o entry.Factory e f = cc
function_made R n name own o entry.Method e f = cc
function_made R n name own o entry.Property e f = cc
function_made R n name own o entry.Function e f = ap (λ t. candidate_in R n (wanted.Function t)) f
function_made R n name own o entry.Global e f = cc
function_made R n name own o entry.Enumeration e f = cc
function_made R n name own o (entry.EnumValue v) e f = cc

factory_owned : (R : RegistrationList) (n k : ℕ) (o : Option EntityNo) → is_number k o ≡ true → factory_in R n o ≡ candidate_in R n (wanted.Factory k)
factory_owned R n k None e = cc
factory_owned R n k (Some j) e = let same : j.0 ≡ k = search (arith, e) in ap (λ i. candidate_in R n (wanted.Factory i)) same

factory_made : (R : RegistrationList) (n k : ℕ) (own : List ℕ) (o : Option EntityNo) (kind : EntryKind) → is_factory kind ≡ true → is_number k o ≡ true
    → made_as R n own o kind ≡ candidate_in R n (wanted.Factory k)
factory_made R n k own o entry.HostType e f = cc
factory_made R n k own o entry.Factory e f = factory_owned R n k o f
factory_made R n k own o entry.Method e f = cc
factory_made R n k own o entry.Property e f = cc
factory_made R n k own o entry.Function e f = cc
factory_made R n k own o entry.Global e f = cc
factory_made R n k own o entry.Enumeration e f = cc
factory_made R n k own o (entry.EnumValue v) e f = cc

method_owned : (R : RegistrationList) (n k : ℕ) (name own : List ℕ) (o : Option EntityNo) → is_number k o ≡ true → own ≡ name
    → method_in R n own o ≡ candidate_in R n (wanted.Method k name)
method_owned R n k name own None e f = cc
method_owned R n k name own (Some j) e f =
    let same : j.0 ≡ k = search (arith, e) in
    ap (λ i. candidate_in R n (wanted.Method i own)) same ∙ ap (λ t. candidate_in R n (wanted.Method k t)) f

method_made : (R : RegistrationList) (n k : ℕ) (name own : List ℕ) (o : Option EntityNo) (kind : EntryKind) → is_method kind ≡ true → is_number k o ≡ true → own ≡ name
    → made_as R n own o kind ≡ candidate_in R n (wanted.Method k name)
method_made R n k name own o entry.HostType e f g = cc
method_made R n k name own o entry.Factory e f g = cc
method_made R n k name own o entry.Method e f g = method_owned R n k name own o f g
method_made R n k name own o entry.Property e f g = cc
method_made R n k name own o entry.Function e f g = cc
method_made R n k name own o entry.Global e f g = cc
method_made R n k name own o entry.Enumeration e f g = cc
method_made R n k name own o (entry.EnumValue v) e f g = cc

made_wanted : (R : RegistrationList) (n : ℕ) (w : Wanted) (o : Option Entry) → wants_in w o ≡ true → made_of R n o ≡ candidate_in R n w
made_wanted R n w None e = cc
made_wanted R n (wanted.Function name) (Some y) e =
    let both = and_gives (is_function y.kind) (bytes_eq y.signature.name name) e in
    function_made R n name y.signature.name y.owner y.kind both.0 ((bytes_eq-Decides y.signature.name name).0 both.1)
made_wanted R n (wanted.Factory k) (Some y) e =
    let both = and_gives (is_factory y.kind) (is_number k y.owner) e in
    factory_made R n k y.signature.name y.owner y.kind both.0 both.1
made_wanted R n (wanted.Method k name) (Some y) e =
    let both = and_gives (is_method y.kind) (is_number k y.owner && bytes_eq y.signature.name name) e in
    let others = and_gives (is_number k y.owner) (bytes_eq y.signature.name name) both.1 in
    method_made R n k name y.signature.name y.owner y.kind both.0 others.0 ((bytes_eq-Decides y.signature.name name).0 others.1)

-- ---- the entry at a place

at_places : (f : ℕ → Option Candidate) (a count n : ℕ) → (count ≤ n → f (a + n) ≡ None) → slice_index_or (map f (range_with_len a count)) n None ≡ f (a + n)
at_places f a zero n h = sym (h (omega arith))
at_places f a (suc count) zero h = let first : a ≡ a + 0 = omega arith in ap f first
at_places f a (suc count) (suc n) h =
    let up : a + 1 + n ≡ a + suc n = omega arith in
    at_places f (a + 1) count n (λ le. ap f up ∙ h (omega (arith, le))) ∙ ap f up

at_made : (R : RegistrationList) (n : ℕ) → slice_index_or (made R) n None ≡ made_of R n (entry_at R n)
unfolding made
at_made R n =
    let f : ℕ → Option Candidate = λ k. made_of R k (entry_at R k) in
    let first : 0 + n ≡ n = omega arith in
    at_places f 0 (length R) n (λ le. ap f first ∙ ap (made_of R n) (past_end R n le)) ∙ ap f first

pub wanted_made : (R : RegistrationList) (n : ℕ) (w : Wanted) (all : List (Option Candidate)) (c : Option Candidate) → all ≡ made R
    → true ≡ wants_in w (entry_at R n) → c ≡ slice_index_or all n None → c ≡ candidate_in R n w
wanted_made R n w all c is wants e = e ∙ ap (λ cs. slice_index_or cs n None) is ∙ at_made R n ∙ made_wanted R n w (entry_at R n) (sym wants)

not_found : (R : RegistrationList) (n : ℕ) (w : Wanted) (o : Option Entry) → wants_in w o ≡ false → found w R n o ≡ None
not_found R n w None e = refl
not_found R n w (Some y) e = ap (λ b. cond b (function_of_entry R n y) None) e

pub unwanted_made : (R : RegistrationList) (n : ℕ) (w : Wanted) → false ≡ wants_in w (entry_at R n) → None ≡ candidate_in R n w
unwanted_made R n w unwanted = sym (ap (option_map (candidate_of w)) (not_found R n w (entry_at R n) (sym unwanted)))

-- what is wanted was made
pub candidate_is_made : (R : RegistrationList) (n : ℕ) (w : Wanted) (c : Candidate) → candidate_in R n w ≡ Some c → slice_index_or (made R) n None ≡ Some c
candidate_is_made R n w c e = by_sight (wants_in w (entry_at R n)) refl
  where
    by_sight : (b : Bool) → wants_in w (entry_at R n) ≡ b → slice_index_or (made R) n None ≡ Some c
    by_sight true wants = at_made R n ∙ made_wanted R n w (entry_at R n) wants ∙ e
    by_sight false wants = let none : None ≡ Some c = unwanted_made R n w (sym wants) ∙ e in cc
