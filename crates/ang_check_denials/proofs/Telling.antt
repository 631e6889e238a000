-- Of which entries their rivals alone tell whether they help a use.
use Rattle.std.specs.Prelude.{ℕ, zero, suc, ◌≡◌, ◌<◌, ◌≤◌, ◌+◌, ◌==◌, Bool, true, false, cond, not, ◌&&◌, ◌||◌, if◌then◌else◌, bytes_eq, filter, find, is_some, List, [], ◌∷◌, length, map, option_map, Option, Some, None, slice_index_or}
use Rattle.std.specs.List.{range_with_len}
use Rattle.std.proofs.Common.{arith, refl, sym, ap, subst, ◌∙◌}
use Rattle.std.proofs.lemmas.Option.{same_Some}
use Rattle.ang_kinds.specs.declared.mask.EntityNo.{EntityNo}
use Rattle.ang_types.specs.declared.arg_type.ArgType.{ArgType}
use Rattle.ang_types.specs.declared.asks.Asks.{Asks}
use Rattle.ang_types.specs.declared.asks.Asks.TheVariants as asks
use Rattle.ang_types.specs.declared.asks.Refused.{Refused}
use Rattle.ang_types.specs.declared.candidate.Candidate.{Candidate}
use Rattle.ang_types.specs.Ranks.{Ancestors}
use Rattle.ang_view.specs.declared.entry.Entry.{Entry}
use Rattle.ang_view.specs.declared.entry.EntryKind.{EntryKind}
use Rattle.ang_view.specs.declared.entry.EntryKind.TheVariants as entry
use Rattle.ang_view.specs.Hidden.{is_hidden, is_with, names_entry, numbers_of, seen_with}
use Rattle.ang_view.specs.Named.{is_factory}
use Rattle.ang_view.specs.Registration.{RegistrationList, entry_at, is_function, is_function_named, is_host_type, is_number, is_type, mentions, seen}
use Rattle.ang_view.specs.Types.{is_enumeration_named, is_type_named, type_named}
use Rattle.ang_view.proofs.Lists.{and_gives}
use Rattle.ang_names_known.specs.declared.space.Named.{Named}
use Rattle.ang_names_known.specs.declared.space.Named.TheVariants as named
use Rattle.ang_names_known.specs.Kinds.{Kind, Says, kinds_at, numbered}
use Rattle.ang_names_known.specs.Spaces.{family_of_type}
use Rattle.ang_check_contest.specs.declared.host.Wanted.{Wanted}
use Rattle.ang_check_contest.specs.declared.host.Wanted.TheVariants as wanted
use Rattle.ang_check_contest.specs.declared.rivalry.Rivalry.{Rivalry}
use Rattle.ang_check_contest.specs.Host.{is_method, wants_in}
use Rattle.ang_check_contest.specs.Scopes.{Scope}
use Rattle.ang_check_uses.specs.Uses.{candidates_of, functions_of}
use Rattle.ang_check_added.specs.Verdicts.{Judge, wins_by}
use Rattle.ang_check_denials.specs.declared.told.Sought.{Sought}
use Rattle.ang_check_denials.specs.declared.told.Sought.TheVariants as sought
use Rattle.ang_check_added.specs.Made.{candidate_of, found_in, is_won, made, params_in}
use Rattle.ang_check_denials.specs.Added.{adds, call_wins, candidates_for, factories, factory_wins, family_of_name, is_called_by, is_factory_of, is_joined, is_shown_type, is_type_number, named_with, types_of, wins}
use Rattle.ang_check_denials.specs.Denials.{helps, is_function_entry, is_known, is_taken, stays}
use Rattle.ang_check_denials.specs.Names.{help_row, hidden_named, is_hidden_named, name_meant, name_sought, owner_name, types_named}
use Rattle.ang_check_denials.specs.Others.{AreOthers}
use Rattle.ang_check_denials.specs.Telling.{Tells, called_for, called_rivals, chosen, is_sought, makes, rivals_for, rivals_kept, sought_for}
use Rattle.ang_check_denials.proofs.ByName.{no_factory}
use Rattle.ang_check_denials.proofs.Helping.{helps_is, stays_is}
use Rattle.ang_check_added.proofs.Making.{wanted_made}
use Rattle.ang_check_denials.proofs.Making.{won_as}
use Rattle.ang_check_denials.proofs.Types.{first_type_is, host_type_is, host_type_is_type, nothing_named_is}

-- ---- tests

both_hold : (b c : Bool) → b ≡ true → c ≡ true → (b && c) ≡ true
both_hold true c e f = f
both_hold false c e f = cc

or_first : (b c : Bool) → b ≡ true → (b || c) ≡ true
or_first true c e = refl
or_first false c e = cc

or_second : (b c : Bool) → c ≡ true → (b || c) ≡ true
or_second true c e = refl
or_second false c e = e

is_not : (b : Bool) → not b ≡ true → b ≡ false
is_not true e = cc
is_not false e = refl

is_none : (o : Option ℕ) → not (is_some o) ≡ true → o ≡ None
is_none None e = refl
is_none (Some n) e = cc

no_sought : (q : Sought) → None ≡ Some q → ⊥
no_sought q e = cc

-- what is kept where a test holds
kept_so : (b : Bool) (p q : Sought) → (if b then Some p else None) ≡ Some q → (b ≡ true) × (p ≡ q)
kept_so true p q e = (refl, same_Some p q e)
kept_so false p q e = absurd (no_sought q e)

-- ---- the best of all, by the numbers of its parameters' kinds

no_row : (kinds : List Kind) (ps : List Kind) → None ≡ Some (map Some ps) → ⊥
no_row kinds ps e = cc

pub none_won : (l : Ancestors) (cs : List Candidate) (args : List ArgType) (kinds : List Kind) (row : Option (List ℕ)) (o : Option Candidate)
    → Says 0 kinds row (params_in o) → row ≡ None → false ≡ is_won l cs args o
none_won l cs args kinds row None says is = refl
none_won l cs args kinds row (Some c) says is = absurd (no_row kinds c.params (sym (ap (option_map (kinds_at (numbered 0 kinds))) is) ∙ says))

no_params : (ks : List (Option Kind)) → Some ks ≡ None → ⊥
no_params ks e = cc

pub some_won : (l : Ancestors) (cs : List Candidate) (args : List ArgType) (kinds : List Kind) (rows : List (List ℕ)) (ahead : Bool) (row : Option (List ℕ)) (ns : List ℕ)
    (o : Option Candidate) → Says 0 kinds row (params_in o) → row ≡ Some ns → Judge l (numbered 0 kinds) cs args rows ahead → wins_by rows ns ahead ≡ is_won l cs args o
some_won l cs args kinds rows ahead row ns None says is judge =
    absurd (no_params (kinds_at (numbered 0 kinds) ns) (sym (ap (option_map (kinds_at (numbered 0 kinds))) is) ∙ says))
some_won l cs args kinds rows ahead row ns (Some c) says is judge =
    judge c ns (same_Some (kinds_at (numbered 0 kinds) ns) (map Some c.params) (sym (ap (option_map (kinds_at (numbered 0 kinds))) is) ∙ says))

won_found : (l : Ancestors) (cs : List Candidate) (args : List ArgType) (R : RegistrationList) (x : ℕ) (w : Wanted) → wants_in w (entry_at R x) ≡ true
    → is_won l cs args (slice_index_or (made R) x None) ≡ wins l (candidate_of w) cs args (found_in R x w)
won_found l cs args R x w wants =
    let c = slice_index_or (made R) x None in
    won_as l (candidate_of w) cs args (found_in R x w) c (is_won l cs args c) (wanted_made R x w (made R) c refl (sym wants) refl) refl

-- ---- an entry that is sought is wanted

own_meant : (p : EntryKind → Bool) → p entry.Factory ≡ false → (R : RegistrationList) (y : Entry) (name : List ℕ) → p y.kind ≡ true
    → bytes_eq (name_meant R (Some y)) name ≡ true → bytes_eq y.signature.name name ≡ true
own_meant p f R y name e n =
    ap (λ b. bytes_eq (if b then owner_name R y.owner else y.signature.name) name) (sym (no_factory p f y.kind e)) ∙ n

function_wanted : (R : RegistrationList) (name : List ℕ) (o : Option Entry) → is_sought sought.Functions o ≡ true → bytes_eq (name_meant R o) name ≡ true
    → wants_in (wanted.Function name) o ≡ true
function_wanted R name None e n = cc
function_wanted R name (Some y) e n =
    both_hold (is_function y.kind) (bytes_eq y.signature.name name) e (own_meant is_function refl R y name e n)

factory_wanted : (n : ℕ) (o : Option Entry) → is_sought (sought.Factories n) o ≡ true → wants_in (wanted.Factory n) o ≡ true
factory_wanted n None e = cc
factory_wanted n (Some y) e = e

method_wanted : (R : RegistrationList) (name : List ℕ) (n : ℕ) (o : Option Entry) → is_sought (sought.Methods n) o ≡ true → bytes_eq (name_meant R o) name ≡ true
    → wants_in (wanted.Method n name) o ≡ true
method_wanted R name n None e b = cc
method_wanted R name n (Some y) e b =
    let parts = and_gives (is_method y.kind) (is_number n y.owner) e in
    both_hold (is_method y.kind) (is_number n y.owner && bytes_eq y.signature.name name) parts.0
    (both_hold (is_number n y.owner) (bytes_eq y.signature.name name) parts.1 (own_meant is_method refl R y name parts.0 b))

function_named : (name : List ℕ) (o : Option Entry) → wants_in (wanted.Function name) o ≡ true → is_function_named name o ≡ true
function_named name None e = cc
function_named name (Some y) e = e

function_entry : (o : Option Entry) → is_sought sought.Functions o ≡ true → is_function_entry o ≡ true
function_entry None e = cc
function_entry (Some y) e = e

-- ---- what it is told beside

module _ (R : RegistrationList) (s : Scope) (name : List ℕ) (args : List ArgType) (rivals makers : Rivalry) (joined taken : Bool) (made_type : ℕ) (family : Named) where
  fit_called : (ns : List ℕ) (q : Sought) → called_for R name joined taken made_type family ns ≡ Some q → AreOthers rivals s.ancestors (candidates_of (functions_of s name)) args
      → AreOthers makers s.ancestors (factories s.view made_type) args → AreOthers (called_rivals rivals makers q) s.ancestors (rivals_for s name q) args
  fit_called [] q e these those =
      let is = kept_so (not (is_known family) && (joined || not taken)) sought.Functions q e in
      subst (λ k. AreOthers (called_rivals rivals makers k) s.ancestors (rivals_for s name k) args) is.1 these
  fit_called (n ∷ ns) q e these those =
      let is = kept_so (makes R name taken made_type family n) (sought.Factories n) q e in
      let host = and_gives (not taken && not (is_known family)) (((n == made_type) && not (is_some (family_of_type n))) && is_type_named name (entry_at R n)) is.0 in
      let own = and_gives ((n == made_type) && not (is_some (family_of_type n))) (is_type_named name (entry_at R n)) host.1 in
      let equal = (and_gives (n == made_type) (not (is_some (family_of_type n))) own.0).0 in
      let same : made_type ≡ n = search (arith, equal) in
      subst (λ k. AreOthers (called_rivals rivals makers k) s.ancestors (rivals_for s name k) args) is.1
      (subst (λ k. AreOthers makers s.ancestors (factories s.view k) args) same those)

  pub fit : (ns : List ℕ) (a : Asks) (q : Sought) → sought_for R name joined taken made_type family ns a ≡ Some q → AreOthers rivals s.ancestors (candidates_for s name a) args
      → AreOthers makers s.ancestors (factories s.view made_type) args → AreOthers (rivals_kept rivals makers q a) s.ancestors (rivals_for s name q) args
  fit ns asks.Value q e these those = absurd (no_sought q e)
  fit ns asks.Type q e these those = absurd (no_sought q e)
  fit ns asks.Enumeration q e these those = absurd (no_sought q e)
  fit ns (asks.Call ts) q e these those = fit_called ns q e these those
  fit ns (asks.Make n ts) q e these those =
      let is = kept_so (not taken) (sought.Factories n) q e in
      subst (λ k. AreOthers rivals s.ancestors (rivals_for s name k) args) is.1 these
  fit ns (asks.Default n) q e these those =
      let is = kept_so (not taken) (sought.Factories n) q e in
      subst (λ k. AreOthers rivals s.ancestors (rivals_for s name k) args) is.1 these
  fit ns (asks.Property n) q e these those = absurd (no_sought q e)
  fit ns (asks.Method n c ts) q e these those =
      subst (λ k. AreOthers rivals s.ancestors (rivals_for s name k) args) (same_Some (sought.Methods n) q e) these

-- ---- where the name stays the script's

free_stays : (joined taken f : Bool) → f ≡ true → (joined || not taken) ≡ true → (if joined && f then false else taken) ≡ false
free_stays true taken true e h = refl
free_stays true taken false e h = cc
free_stays false true f e h = cc
free_stays false false f e h = refl

untaken : (b taken : Bool) → taken ≡ false → (if b then false else taken) ≡ false
untaken true taken e = refl
untaken false taken e = e

stays_not : (s : Scope) (r : Refused) (a : Asks) (o : Option Entry) → is_taken s r a ≡ false → stays s r a o ≡ false
stays_not s r a o e =
    let joined = is_joined s r.error.name a in
    stays_is s r a o joined refl ∙ untaken (joined && is_function_entry o) (is_taken s r a) e

-- ---- a factory of the first type of a name

factory_is_no_type : (k : EntryKind) → is_factory k ≡ true → not (is_type k) ≡ true
factory_is_no_type entry.HostType e = cc
factory_is_no_type entry.Factory e = refl
factory_is_no_type entry.Method e = cc
factory_is_no_type entry.Property e = cc
factory_is_no_type entry.Function e = cc
factory_is_no_type entry.Global e = cc
factory_is_no_type entry.Enumeration e = cc
factory_is_no_type (entry.EnumValue v) e = cc

names_it : (a b c d : Bool) → a ≡ true → b ≡ true → c ≡ true → (a && b && (c || d)) ≡ true
names_it true true true d e f g = refl
names_it true true false d e f g = cc
names_it true false c d e f g = cc
names_it false b c d e f g = cc

owner_comes : (n : ℕ) (name : List ℕ) (o p : Option Entry) → wants_in (wanted.Factory n) o ≡ true → is_type_named name p ≡ true → names_entry o n p ≡ true
owner_comes n name None p e f = cc
owner_comes n name (Some y) None e f = cc
owner_comes n name (Some y) (Some t) e f =
    let both = and_gives (is_factory y.kind) (is_number n y.owner) e in
    let host = and_gives (is_host_type t.kind) (bytes_eq t.signature.name name) f in
    names_it (not (is_type y.kind)) (is_type t.kind) (is_number n y.owner) (mentions y.signature t.signature.name)
    (factory_is_no_type y.kind both.0) (host_type_is_type t.kind host.0) both.1

owner_named : (R : RegistrationList) (name : List ℕ) (n : ℕ) (o : Option EntityNo) → is_number n o ≡ true → is_type_named name (entry_at R n) ≡ true
    → is_type_number R name o ≡ true
owner_named R name n None e h = cc
owner_named R name n (Some k) e h = let same : n ≡ k.0 = search (arith, e) in subst (λ j. is_type_named name (entry_at R j) ≡ true) same h

makes_of : (R : RegistrationList) (name : List ℕ) (n : ℕ) (o : Option Entry) → wants_in (wanted.Factory n) o ≡ true → is_type_named name (entry_at R n) ≡ true
    → is_factory_of R name o ≡ true
makes_of R name n None e h = cc
makes_of R name n (Some y) e h =
    let both = and_gives (is_factory y.kind) (is_number n y.owner) e in
    both_hold (is_factory y.kind) (is_type_number R name y.owner) both.0 (owner_named R name n y.owner both.1 h)

module _ (R : RegistrationList) (m : ℕ) (s : Scope) (name : List ℕ) (x n : ℕ) (ns : List ℕ) (t : Named) (are : n ∷ ns ≡ types_named R name) (family : t ≡ family_of_name s name)
    (unknown : is_known t ≡ false) (typed : is_type_named name (entry_at R n) ≡ true) (wants : wants_in (wanted.Factory n) (entry_at R x) ≡ true) where
  type_meant : named.Object n ≡ named_with R m s x name
  type_meant =
      let comes : is_with R x n ≡ true =
      or_second (n == x) (names_entry (entry_at R x) n (entry_at R n)) (owner_comes n name (entry_at R x) (entry_at R n) wants typed) in
      let shown : is_shown_type R (seen R m) name x n ≡ true =
      both_hold (is_type_named name (entry_at R n)) (is_some (entry_at (seen R m) n) || is_with R x n) typed
      (or_second (is_some (entry_at (seen R m) n)) (is_with R x n) comes) in
      let first : Some n ≡ find (is_shown_type R (seen R m) name x) (n ∷ ns) =
      ap (λ b. cond b (Some n) (find (is_shown_type R (seen R m) name x) ns)) (sym shown) in
      host_type_is R m s x name t n family unknown (first ∙ first_type_is R (seen R m) m x name (n ∷ ns) refl are)

  factory_adds : (args : List ArgType) → family_of_type n ≡ None
      → wins s.ancestors (candidate_of (wanted.Factory n)) (factories s.view n) args (found_in R x (wanted.Factory n)) ≡ adds R s name x (named_with R m s x name) (asks.Call args)
  factory_adds args none =
      let called : is_called_by R name x ≡ true =
      or_second (is_function_named name (entry_at R x)) (is_enumeration_named name (entry_at R x) || is_factory_of R name (entry_at R x))
      (or_second (is_enumeration_named name (entry_at R x)) (is_factory_of R name (entry_at R x)) (makes_of R name n (entry_at R x) wants typed)) in
      sym (ap (factory_wins R s args x n) none)
      ∙ ap (call_wins R s name args x) type_meant
      ∙ ap (λ d. d && call_wins R s name args x (named_with R m s x name)) (sym called)

-- ---- a function of a name that is no type's

unknown_calls : (R : RegistrationList) (s : Scope) (name : List ℕ) (x : ℕ) (args : List ArgType) (t : Named) → is_known t ≡ false
    → wins s.ancestors (candidate_of (wanted.Function name)) (candidates_of (functions_of s name)) args (found_in R x (wanted.Function name)) ≡ call_wins R s name args x t
unknown_calls R s name x args named.Unknown e = refl
unknown_calls R s name x args (named.Object n) e = cc
unknown_calls R s name x args (named.Enumeration n) e = cc

function_adds : (R : RegistrationList) (s : Scope) (name : List ℕ) (x : ℕ) (args : List ArgType) (t : Named) → is_known t ≡ false
    → wants_in (wanted.Function name) (entry_at R x) ≡ true
    → wins s.ancestors (candidate_of (wanted.Function name)) (candidates_of (functions_of s name)) args (found_in R x (wanted.Function name)) ≡ adds R s name x t (asks.Call args)
function_adds R s name x args t unknown wants =
    let called : is_called_by R name x ≡ true =
    or_first (is_function_named name (entry_at R x)) (is_enumeration_named name (entry_at R x) || is_factory_of R name (entry_at R x))
    (function_named name (entry_at R x) wants) in
    unknown_calls R s name x args t unknown ∙ ap (λ d. d && call_wins R s name args x t) (sym called)

-- ---- those that are sought

module _ (R : RegistrationList) (m : ℕ) (s : Scope) (r : Refused) (view : s.view ≡ seen R m) (joined taken : Bool) (made_type : ℕ) (family : Named)
    (is_family : family ≡ family_of_name s r.error.name) where
  abbrev name : List ℕ
  name = r.error.name

  -- what is said of one where it is what is wanted, and the use means it where it wins
  one_tells : (a : Asks) (w : Wanted) (cs : List Candidate) (x : ℕ) → x < 1024 → is_hidden R m x ≡ true → stays s r a (entry_at R x) ≡ false
      → wants_in w (entry_at R x) ≡ true
      → wins s.ancestors (candidate_of w) cs (types_of a) (found_in R x w) ≡ adds R s name x (named_with R m s x name) a
      → is_won s.ancestors cs (types_of a) (slice_index_or (made R) x None) ≡ helps R m s r a x
  one_tells a w cs x lt hides free wants adding =
      won_found s.ancestors cs (types_of a) R x w wants ∙ adding ∙ helps_is R m s r a x view lt hides free

  calls_tell : (args : List ArgType) (ns : List ℕ) → ns ≡ types_named R name → joined ≡ is_joined s name (asks.Call args) → taken ≡ is_taken s r (asks.Call args)
      → (q : Sought) → called_for R name joined taken made_type family ns ≡ Some q → Tells R m s r (asks.Call args) q
  calls_tell args [] are j t q e =
      let is = kept_so (not (is_known family) && (joined || not taken)) sought.Functions q e in
      let parts = and_gives (not (is_known family)) (joined || not taken) is.0 in
      let unknown = is_not (is_known family) parts.0 in
      subst (Tells R m s r (asks.Call args)) is.1
      (λ x lt hides seeks.
      let both = and_gives (is_hidden R m x) (bytes_eq (name_meant R (entry_at R x)) name) hides in
      let wants = function_wanted R name (entry_at R x) seeks both.1 in
      let as_type : family ≡ named_with R m s x name = nothing_named_is R s.view m s x name family [] view are is_family refl in
      let free : stays s r (asks.Call args) (entry_at R x) ≡ false =
      stays_is s r (asks.Call args) (entry_at R x) joined j
      ∙ ap (λ b. if joined && is_function_entry (entry_at R x) then false else b) (sym t)
      ∙ free_stays joined taken (is_function_entry (entry_at R x)) (function_entry (entry_at R x) seeks) parts.1 in
      one_tells (asks.Call args) (wanted.Function name) (candidates_of (functions_of s name)) x lt both.0 free wants
      (function_adds R s name x args (named_with R m s x name) (sym (ap is_known as_type) ∙ unknown) wants))
  calls_tell args (n ∷ ns) are j t q e =
      let is = kept_so (makes R name taken made_type family n) (sought.Factories n) q e in
      let host = and_gives (not taken && not (is_known family)) (((n == made_type) && not (is_some (family_of_type n))) && is_type_named name (entry_at R n)) is.0 in
      let script = and_gives (not taken) (not (is_known family)) host.0 in
      let own = and_gives ((n == made_type) && not (is_some (family_of_type n))) (is_type_named name (entry_at R n)) host.1 in
      let none = is_none (family_of_type n) (and_gives (n == made_type) (not (is_some (family_of_type n))) own.0).1 in
      subst (Tells R m s r (asks.Call args)) is.1
      (λ x lt hides seeks.
      let both = and_gives (is_hidden R m x) (bytes_eq (name_meant R (entry_at R x)) name) hides in
      let wants = factory_wanted n (entry_at R x) seeks in
      let free = stays_not s r (asks.Call args) (entry_at R x) (sym t ∙ is_not taken script.0) in
      one_tells (asks.Call args) (wanted.Factory n) (factories s.view n) x lt both.0 free wants
      (factory_adds R m s name x n ns family are is_family (is_not (is_known family) script.1) own.1 wants args none))

  pub tells : (a : Asks) (ns : List ℕ) → ns ≡ types_named R name → joined ≡ is_joined s name a → taken ≡ is_taken s r a
      → (q : Sought) → sought_for R name joined taken made_type family ns a ≡ Some q → Tells R m s r a q
  tells asks.Value ns are j t q e = absurd (no_sought q e)
  tells asks.Type ns are j t q e = absurd (no_sought q e)
  tells asks.Enumeration ns are j t q e = absurd (no_sought q e)
  tells (asks.Call args) ns are j t q e = calls_tell args ns are j t q e
  tells (asks.Make n args) ns are j t q e =
      let is = kept_so (not taken) (sought.Factories n) q e in
      subst (Tells R m s r (asks.Make n args)) is.1
      (λ x lt hides seeks.
      let both = and_gives (is_hidden R m x) _ hides in
      let free = stays_not s r (asks.Make n args) (entry_at R x) (sym t ∙ is_not taken is.0) in
      one_tells (asks.Make n args) (wanted.Factory n) (factories s.view n) x lt both.0 free (factory_wanted n (entry_at R x) seeks) refl)
  tells (asks.Default n) ns are j t q e =
      let is = kept_so (not taken) (sought.Factories n) q e in
      subst (Tells R m s r (asks.Default n)) is.1
      (λ x lt hides seeks.
      let both = and_gives (is_hidden R m x) _ hides in
      let free = stays_not s r (asks.Default n) (entry_at R x) (sym t ∙ is_not taken is.0) in
      one_tells (asks.Default n) (wanted.Factory n) (factories s.view n) x lt both.0 free (factory_wanted n (entry_at R x) seeks) refl)
  tells (asks.Property n) ns are j t q e = absurd (no_sought q e)
  tells (asks.Method n c args) ns are j t q e =
      subst (Tells R m s r (asks.Method n c args)) (same_Some (sought.Methods n) q e)
      (λ x lt hides seeks.
      let both = and_gives (is_hidden R m x) (bytes_eq (name_meant R (entry_at R x)) name) hides in
      one_tells (asks.Method n c args) (wanted.Method n name) (rivals_for s name (sought.Methods n)) x lt both.0 refl
      (method_wanted R name n (entry_at R x) seeks both.1) refl)

-- ---- a row of entries

by_row : (p q : ℕ → Bool) (n : ℕ) (b : Bool) (ks : List ℕ) → (b ≡ true → p n ≡ q n) → filter p ks ≡ filter q ks → filter p (cond b (n ∷ ks) ks) ≡ filter q (cond b (n ∷ ks) ks)
by_row p q n true ks h rest = let here = h refl in λ i. cond (here i) (n ∷ rest i) (rest i)
by_row p q n false ks h rest = rest

same_in_row : (p q in_row : ℕ → Bool) → ((k : ℕ) → k < 1024 → in_row k ≡ true → p k ≡ q k) → (n count : ℕ) → n + count ≤ 1024
    → filter p (filter in_row (range_with_len n count)) ≡ filter q (filter in_row (range_with_len n count))
same_in_row p q in_row h n zero few = refl
same_in_row p q in_row h n (suc count) few =
    by_row p q n (in_row n) (filter in_row (range_with_len (n + 1) count)) (h n (omega (arith, few)))
    (same_in_row p q in_row h (n + 1) count (omega (arith, few)))

by_kind : (b : Bool) (won help : Bool) → (b ≡ true → won ≡ help) → (if b then won else help) ≡ help
by_kind true won help h = h refl
by_kind false won help h = refl

-- What is chosen in the row of a use are all that help.
pub chosen_help : (R : RegistrationList) (m : ℕ) (s : Scope) (r : Refused) (a : Asks) (q : Sought) (row : List ℕ) → Tells R m s r a q → length R ≤ 1024
    → row ≡ help_row R m r.error.name a → filter (chosen R m s r a q) row ≡ filter (helps R m s r a) row
unfolding hidden_named
chosen_help R m s r a q row tell few are =
    let most : 0 + length R ≤ 1024 = omega (arith, few) in
    ap (filter (chosen R m s r a q)) are
    ∙ same_in_row (chosen R m s r a q) (helps R m s r a) (is_hidden_named R m (name_sought R r.error.name a))
    (λ k lt hides. by_kind (is_sought q (entry_at R k)) (is_won s.ancestors (rivals_for s r.error.name q) (types_of a) (slice_index_or (made R) k None)) (helps R m s r a k)
    (tell k lt hides)) 0 (length R) most
    ∙ ap (filter (helps R m s r a)) (sym are)
