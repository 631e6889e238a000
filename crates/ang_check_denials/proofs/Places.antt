-- The best of some functions is a given one just where it is the best put in front of the others.
use Rattle.std.specs.Prelude.{ℕ, zero, suc, ◌≡◌, ◌≢◌, ◌==◌, ◌+◌, ◌⊎◌, Bool, true, false, nat_lt, IfSome, List, [], ◌∷◌, ◌++◌, length, map, slice_get, option_to_list, Option, Some, None}
use Rattle.std.proofs.Common.{arith, refl, sym, ap, subst, inl, inr, append_assoc, ◌∙◌}
use Rattle.std.proofs.lemmas.List.{map-append}
use Rattle.ang_kinds.specs.declared.error.ErrorKind.{ErrorKind}
use Rattle.ang_types.specs.declared.arg_type.ArgType.{ArgType}
use Rattle.ang_types.specs.declared.candidate.Candidate.{Candidate}
use Rattle.ang_types.specs.declared.candidate.Pick.{Pick}
use Rattle.ang_types.specs.declared.candidate.Pick.TheVariants.{One, NoViable, Ambiguous}
use Rattle.ang_types.specs.Best.{best_of, is_best}
use Rattle.ang_types.specs.Ranks.{Ancestors}
use Rattle.ang_types.proofs.BestLaws.{best_of-says, is_best-Decides}
use Rattle.ang_types.proofs.PlaceLaws.{same_at_its_place}
use Rattle.ang_view.specs.Hidden.{seen_with}
use Rattle.ang_view.specs.Registration.{RegistrationList, entry_at, seen}
use Rattle.ang_check_contest.specs.declared.host.SeenFunction.{SeenFunction}
use Rattle.ang_check_contest.specs.declared.host.Wanted.{Wanted}
use Rattle.ang_check_contest.specs.Added.{added, put_in}
use Rattle.ang_check_contest.specs.Host.{found, host_where}
use Rattle.ang_check_contest.proofs.Adding.{HaveNumbers, host_where-is, numbered, one_added, same_number, scan_n}
use Rattle.ang_check_uses.specs.declared.uses.Callable.{Callable}
use Rattle.ang_check_uses.specs.Uses.{best_of_those, called_at, candidates_of, picked}
use Rattle.ang_check_denials.specs.Added.{wins}
use Rattle.ang_check_denials.specs.Denials.{is_called, means_entry}

-- ---- which one is meant

abbrev pub is_meant : ℕ → Option Callable → Bool
is_meant x None = false
is_meant x (Some c) = is_called x c.called

-- none of these is entry x
abbrev pub Apart : ℕ → List Callable → Type 0
Apart x [] = Unit {0}
Apart x (c ∷ cs) = (is_called x c.called ≡ false) × Apart x cs

pub apart_append : (x : ℕ) (bs cs : List Callable) → Apart x bs → Apart x cs → Apart x (bs ++ cs)
apart_append x [] cs a b = b
apart_append x (c ∷ bs) cs a b = (a.0, apart_append x bs cs a.1 b)

meant_at : (x : ℕ) (o : Option Callable) → means_entry x (called_at o) ≡ is_meant x o
meant_at x None = refl
meant_at x (Some c) = refl

none_has : (x : ℕ) (cs : List Callable) (i : ℕ) → Apart x cs → is_meant x (slice_get cs i) ≡ true → ⊥
none_has x [] i a e = cc
none_has x (c ∷ cs) zero a e = let no' : false ≡ true = sym a.0 ∙ e in cc
none_has x (c ∷ cs) (suc i) a e = none_has x cs i a.1 e

at_its_place : (bs cs : List Callable) (c : Callable) → slice_get (bs ++ c ∷ cs) (length bs) ≡ Some c
at_its_place [] cs c = refl
at_its_place (b ∷ bs) cs c = at_its_place bs cs c

only_there : (x : ℕ) (bs cs : List Callable) (c : Callable) (i : ℕ) → Apart x bs → Apart x cs → is_meant x (slice_get (bs ++ c ∷ cs) i) ≡ true → i ≡ length bs
only_there x [] cs c zero a b e = refl
only_there x [] cs c (suc i) a b e = absurd (none_has x cs i b e)
only_there x (d ∷ bs) cs c zero a b e = let no' : false ≡ true = sym a.0 ∙ e in cc
only_there x (d ∷ bs) cs c (suc i) a b e = ap suc (only_there x bs cs c i a.1 b e)

length-candidates : (cs : List Callable) → length (candidates_of cs) ≡ length cs
length-candidates [] = refl
length-candidates (c ∷ cs) = ap suc (length-candidates cs)

one_picked : (x : ℕ) (k : ErrorKind) (cs : List Callable) (p : Pick) → means_entry x (picked k cs p) ≡ true → (i : ℕ) × (p ≡ One i) × (is_meant x (slice_get cs i) ≡ true)
one_picked x k cs (One i) e = (i, refl, sym (meant_at x (slice_get cs i)) ∙ e)
one_picked x k cs NoViable e = cc
one_picked x k cs Ambiguous e = cc

pub same_truth : (a b : Bool) → (a ≡ true → b ≡ true) → (b ≡ true → a ≡ true) → a ≡ b
same_truth true true f g = refl
same_truth true false f g = let no' : false ≡ true = f refl in cc
same_truth false true f g = let no' : false ≡ true = g refl in cc
same_truth false false f g = refl

false_if_never : (b : Bool) → (b ≡ true → ⊥) → b ≡ false
false_if_never true f = absurd (f refl)
false_if_never false f = refl

module _ (ancestors : Ancestors) (k : ErrorKind) (x : ℕ) (args : List ArgType) where
  pub none_meant : (cs : List Callable) → Apart x cs → means_entry x (best_of_those ancestors k cs args) ≡ false
  unfolding best_of_those
  none_meant cs a =
      false_if_never (means_entry x (picked k cs (best_of ancestors (candidates_of cs) args)))
      (λ e. let w = one_picked x k cs (best_of ancestors (candidates_of cs) args) e in none_has x cs w.0 a w.2)

  module _ (bs cs : List Callable) (c : Callable) where
    abbrev all : List Callable
    all = bs ++ c ∷ cs

    moved : is_best ancestors (candidates_of all) args (length bs) ≡ is_best ancestors (c.candidate ∷ candidates_of (bs ++ cs)) args 0
    moved =
        let candidate : Callable → Candidate = λ (d : Callable). d.candidate in
        let placed : candidates_of all ≡ candidates_of bs ++ c.candidate ∷ candidates_of cs = map-append candidate bs (c ∷ cs) in
        let others : candidates_of (bs ++ cs) ≡ candidates_of bs ++ candidates_of cs = map-append candidate bs cs in
        ap (λ ds. is_best ancestors ds args (length bs)) placed
        ∙ sym (ap (is_best ancestors (candidates_of bs ++ c.candidate ∷ candidates_of cs) args) (length-candidates bs))
        ∙ same_at_its_place ancestors (candidates_of bs) (candidates_of cs) c.candidate args
        ∙ sym (ap (λ ds. is_best ancestors (c.candidate ∷ ds) args 0) others)

    pub one_meant : Apart x bs → Apart x cs → is_called x c.called ≡ true
        → means_entry x (best_of_those ancestors k all args) ≡ is_best ancestors (c.candidate ∷ candidates_of (bs ++ cs)) args 0
    unfolding best_of_those
    one_meant a b own =
        let p : Pick = best_of ancestors (candidates_of all) args in
        same_truth (means_entry x (picked k all p)) (is_best ancestors (c.candidate ∷ candidates_of (bs ++ cs)) args 0)
        (λ e.
        let w = one_picked x k all p e in
        let at : w.0 ≡ length bs = only_there x bs cs c w.0 a b w.2 in
        let best : is_best ancestors (candidates_of all) args w.0 ≡ true =
        (is_best-Decides ancestors (candidates_of all) args w.0).1 (((best_of-says ancestors (candidates_of all) args).one w.0).0 w.1) in
        sym moved ∙ ap (is_best ancestors (candidates_of all) args) (sym at) ∙ best)
        (λ e.
        let best = (is_best-Decides ancestors (candidates_of all) args (length bs)).0 (moved ∙ e) in
        let one : p ≡ One (length bs) = ((best_of-says ancestors (candidates_of all) args).one (length bs)).1 best in
        ap (λ q. means_entry x (picked k all q)) one
        ∙ meant_at x (slice_get all (length bs))
        ∙ ap (is_meant x) (at_its_place bs cs c)
        ∙ own)

-- ---- what the host has

-- none of these has the number
abbrev pub ApartHosts : ℕ → List SeenFunction → Type 0
ApartHosts x [] = Unit {0}
ApartHosts x (g ∷ gs) = (g.entity.0 ≢ x) × ApartHosts x gs

-- where one is put in
record Split (f : SeenFunction) (gs : List SeenFunction) : Type 0 where
  before : List SeenFunction
  after : List SeenFunction
  others : gs ≡ before ++ after
  all : put_in f gs ≡ before ++ f ∷ after

split : (f : SeenFunction) (gs : List SeenFunction) → Split f gs
split f [] = record { before = []; after = []; others = refl; all = refl }
split f (g ∷ gs) = by_test (nat_lt f.entity.0 g.entity.0) (split f gs) refl
  where
    by_test : (b : Bool) → Split f gs → nat_lt f.entity.0 g.entity.0 ≡ b → Split f (g ∷ gs)
    by_test true s e = record { before = []; after = g ∷ gs; others = refl; all = rw e refl }
    by_test false s e = record { before = g ∷ s.before; after = s.after; others = ap (λ r. g ∷ r) s.others; all = rw e (ap (λ r. g ∷ r) s.all) }

apart_parts : (x : ℕ) (bs cs : List SeenFunction) → ApartHosts x (bs ++ cs) → ApartHosts x bs × ApartHosts x cs
apart_parts x [] cs a = (tt, a)
apart_parts x (b ∷ bs) cs a = let r = apart_parts x bs cs a.1 in ((a.0, r.0), r.1)

apart_more : (x n : ℕ) (o : Option SeenFunction) (rest : List SeenFunction) → IfSome o (λ h. h.entity.0 ≡ n) → (o ≡ None ⊎ (n ≢ x)) → ApartHosts x rest → ApartHosts x (option_to_list o ++ rest)
apart_more x n None rest e ne a = a
apart_more x n (Some h) rest e (inl f) a = cc
apart_more x n (Some h) rest e (inr ne) a = (λ g. ne (sym e ∙ g), a)

same_or : (n x : ℕ) → (n ≡ x) ⊎ (n ≢ x)
same_or n x = grind arith

scan_apart : (G : ℕ → Option SeenFunction) (x : ℕ) → HaveNumbers G → G x ≡ None → (n l : ℕ) → ApartHosts x (scan_n G n l)
unfolding scan_n
scan_apart G x b isnt n zero = tt
scan_apart G x b isnt n (suc l) =
    apart_more x n (G n) (scan_n G (n + 1) l) (b n)
    (elim (same_or n x) [ inl e ↦ inl (ap G e ∙ isnt) | inr ne ↦ inr ne ])
    (scan_apart G x b isnt (n + 1) l)

seen_apart : (R : RegistrationList) (m x : ℕ) (w : Wanted) → entry_at (seen R m) x ≡ None → ApartHosts x (host_where w (seen R m))
seen_apart R m x w hidden =
    let S = seen R m in
    subst (ApartHosts x) (sym (host_where-is w S))
    (scan_apart (λ k. found w S k (entry_at S k)) x (λ k. numbered w S k (entry_at S k)) (ap (found w S x) hidden) 0 (length S))

-- ---- functions of the host after others

-- what is called is the function itself
abbrev pub CallsItself : (SeenFunction → Callable) → Type 0
CallsItself conv = (x : ℕ) (f : SeenFunction) → is_called x (conv f).called ≡ (f.entity.0 == x)

abbrev pub HasCandidate : (SeenFunction → Callable) → (SeenFunction → Candidate) → Type 0
HasCandidate conv cand = (f : SeenFunction) → (conv f).candidate ≡ cand f

pub candidates_map : (conv : SeenFunction → Callable) (cand : SeenFunction → Candidate) → HasCandidate conv cand → (fs : List SeenFunction)
    → candidates_of (map conv fs) ≡ map cand fs
candidates_map conv cand h [] = refl
candidates_map conv cand h (f ∷ fs) = let here = h f in let rest = candidates_map conv cand h fs in λ i. here i ∷ rest i

apart_hosts : (conv : SeenFunction → Callable) → CallsItself conv → (x : ℕ) (fs : List SeenFunction) → ApartHosts x fs → Apart x (map conv fs)
apart_hosts conv h x [] a = tt
apart_hosts conv h x (f ∷ fs) a = (h x f ∙ same_number f.entity.0 x a.0, apart_hosts conv h x fs a.1)

is_itself : (n x : ℕ) → n ≡ x → (n == x) ≡ true
is_itself n x e = search (arith, e)

module _ (ancestors : Ancestors) (k : ErrorKind) (conv : SeenFunction → Callable) (cand : SeenFunction → Candidate) (h : CallsItself conv) (c : HasCandidate conv cand) (front : List Callable) (args : List ArgType) where
  by_split : (x : ℕ) (f : SeenFunction) (gs : List SeenFunction) → f.entity.0 ≡ x → Apart x front → ApartHosts x gs → Split f gs
      → means_entry x (best_of_those ancestors k (front ++ map conv (put_in f gs)) args) ≡ is_best ancestors (cand f ∷ candidates_of (front ++ map conv gs)) args 0
  by_split x f gs e a b s =
      let parts = apart_parts x s.before s.after (subst (ApartHosts x) s.others b) in
      let bs : List Callable = front ++ map conv s.before in
      let cs : List Callable = map conv s.after in
      let all : front ++ map conv (put_in f gs) ≡ bs ++ conv f ∷ cs =
      ap (λ r. front ++ map conv r) s.all ∙ ap (λ r. front ++ r) (map-append conv s.before (f ∷ s.after))
      ∙ sym (append_assoc front (map conv s.before) (conv f ∷ cs)) in
      let others : front ++ map conv gs ≡ bs ++ cs =
      ap (λ r. front ++ map conv r) s.others ∙ ap (λ r. front ++ r) (map-append conv s.before s.after)
      ∙ sym (append_assoc front (map conv s.before) cs) in
      let own : is_called x (conv f).called ≡ true = h x f ∙ is_itself f.entity.0 x e in
      ap (λ ds. means_entry x (best_of_those ancestors k ds args)) all
      ∙ one_meant ancestors k x args bs cs (conv f) (apart_append x front (map conv s.before) a (apart_hosts conv h x s.before parts.0)) (apart_hosts conv h x s.after parts.1) own
      ∙ ap (λ d. is_best ancestors (d ∷ candidates_of (bs ++ cs)) args 0) (c f)
      ∙ sym (ap (λ ds. is_best ancestors (cand f ∷ candidates_of ds) args 0) others)

  by_found : (x : ℕ) (o : Option SeenFunction) (gs : List SeenFunction) → IfSome o (λ f. f.entity.0 ≡ x) → Apart x front → ApartHosts x gs
      → means_entry x (best_of_those ancestors k (front ++ map conv (added o gs)) args) ≡ wins ancestors cand (candidates_of (front ++ map conv gs)) args o
  by_found x None gs e a b = none_meant ancestors k x args (front ++ map conv gs) (apart_append x front (map conv gs) a (apart_hosts conv h x gs b))
  by_found x (Some f) gs e a b = by_split x f gs e a b (split f gs)

  -- With a hidden entry added a call means it just where it would be the best beside those that are seen.
  pub means_added : (R : RegistrationList) (m x : ℕ) (w : Wanted) → Apart x front → entry_at (seen R m) x ≡ None
      → means_entry x (best_of_those ancestors k (front ++ map conv (host_where w (seen_with R m x))) args)
      ≡ wins ancestors cand (candidates_of (front ++ map conv (host_where w (seen R m)))) args (found w R x (entry_at R x))
  means_added R m x w a hidden =
      ap (λ gs. means_entry x (best_of_those ancestors k (front ++ map conv gs) args)) (one_added R m x w hidden)
      ∙ by_found x (found w R x (entry_at R x)) (host_where w (seen R m)) (numbered w R x (entry_at R x)) a (seen_apart R m x w hidden)
