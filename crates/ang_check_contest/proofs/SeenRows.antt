-- Rows of what a module sees of the host.
use Rattle.std.proofs.Common.{◌≡◌, ℕ, Bool, true, false, zero, suc, ◌+◌, List, [], ◌∷◌, ◌++◌, map, drop, Option, Some, None, refl, sym, ap, ◌∙◌}
use Rattle.std.specs.Prelude.{slice_get, slice_index_or, is_some, option_map, option_and_then}
use Rattle.std.specs.Option.{option_flatten}
use Rattle.std.proofs.lemmas.List.{append-nil, map-append}
use Rattle.ang_kinds.specs.declared.types.Param.{Param}
use Rattle.ang_kinds.specs.declared.types.Pass.{Pass}
use Rattle.ang_types.specs.declared.arg_type.ArgType.{ArgType}
use Rattle.ang_types.specs.Overloads.{Params}
use Rattle.ang_view.specs.declared.entry.Entry.{Entry}
use Rattle.ang_view.specs.declared.entry.EntryKind.{EntryKind}
use Rattle.ang_view.specs.declared.entry.EntryKind.TheVariants as entry
use Rattle.ang_view.specs.Registration.{RegistrationList, entry_at}
use Rattle.ang_check_contest.specs.Host.{host_parameters, host_type, in_front}
use Rattle.ang_names_known.specs.Kinds.{AreRows, Keeps, Kind, Rows, Says, kinds_at, kinds_of, numbered, receiver, receiver_number, told_of}
use Rattle.ang_check_contest.specs.EntryKinds.{SaysIf, after, entry_params, params_by, receiver_row, row_if, seen_with, view_params}
use Rattle.ang_names_known.specs.KindRows.{row_at}
use Rattle.ang_names_known.proofs.KeptNumbers.{number_pushed, receiver_is, row_pushed, says_in}

-- ---- parameters of which the types are seen

one_behind : {A : Type 0} → (xs : List A) (x : A) (ys : List A) → xs ++ x ∷ ys ≡ (xs ++ x ∷ []) ++ ys
one_behind [] x ys = refl
one_behind (z ∷ xs) x ys = ap (λ r. z ∷ r) (one_behind xs x ys)

seen_more : (so_far : Params) (ty : ArgType) (pass : Pass) (rest : Option Params) → after so_far (in_front (Some ty) pass rest) ≡ after (so_far ++ (ty, pass) ∷ []) rest
seen_more so_far ty pass None = refl
seen_more so_far ty pass (Some ps) = ap Some (one_behind so_far (ty, pass) ps)

-- of the parameters at and after a place the first one's type is seen
pub one_seen : (V : RegistrationList) (so_far : Params) (p : Param) (ps : List Param) (ty : ArgType) → host_type V p.ty ≡ Some ty
    → after so_far (host_parameters V (p ∷ ps)) ≡ after (so_far ++ (ty, p.pass) ∷ []) (host_parameters V ps)
one_seen V so_far p ps ty is =
    ap (λ o. after so_far (in_front o p.pass (host_parameters V ps))) is ∙ seen_more so_far ty p.pass (host_parameters V ps)

-- it is not
pub none_seen : (V : RegistrationList) (so_far : Params) (p : Param) (ps : List Param) → host_type V p.ty ≡ None → after so_far (host_parameters V (p ∷ ps)) ≡ None
none_seen V so_far p ps is = ap (λ o. after so_far (in_front o p.pass (host_parameters V ps))) is

pub all_seen : (V : RegistrationList) (so_far : Params) (ps : List Param) → ps ≡ [] → after so_far (host_parameters V ps) ≡ Some so_far
all_seen V so_far ps none = ap (λ r. after so_far (host_parameters V r)) none ∙ ap Some (append-nil so_far)

-- one number more
pub number_seen : (old new : List Kind) → Keeps old new → (ns : List ℕ) (n : ℕ) (k : Kind) (so_far : Params)
    → kinds_at old ns ≡ map Some so_far → slice_get new n ≡ Some k → kinds_at new (ns ++ n ∷ []) ≡ map Some (so_far ++ k ∷ [])
number_seen old new keeps ns n k so_far e is =
    sym (append-nil (kinds_at new (ns ++ n ∷ [])))
    ∙ number_pushed old new keeps ns n k [] (so_far ++ k ∷ []) (ap (λ r. r ++ Some k ∷ []) e ∙ sym (map-append Some so_far (k ∷ []))) is

-- ---- receivers

-- what stands in front of an entry's parameters
pub record Front (t : ℕ) (kinds : List Kind) (kind : EntryKind) (read_only : Bool) (ns : List ℕ) : Type 0 where
  pub front : Params
  pub says : kinds_at (numbered t kinds) ns ≡ map Some front
  pub all : (o : Option Params) → option_and_then (params_by t kind read_only) o ≡ after front o

pub front_of : (t : ℕ) (kinds : List Kind) (kind : EntryKind) (read_only : Bool) (ns : List ℕ) → Some ns ≡ receiver_row kind read_only → Front t kinds kind read_only ns
front_of t kinds entry.HostType read_only ns e = cc
front_of t kinds entry.Factory read_only ns e = record { front = []; says = let none : ns ≡ [] = cc in ap (kinds_at (numbered t kinds)) none; all = both }
  where
    both : (o : Option Params) → option_and_then (params_by t entry.Factory read_only) o ≡ after [] o
    both None = refl
    both (Some ps) = refl
front_of t kinds entry.Method read_only ns e = record {
  front = receiver t read_only ∷ [];
  says = let one : ns ≡ receiver_number read_only ∷ [] = cc in ap (kinds_at (numbered t kinds)) one ∙ ap (λ o. o ∷ []) (receiver_is t kinds read_only);
  all = both;
}
  where
    both : (o : Option Params) → option_and_then (params_by t entry.Method read_only) o ≡ after (receiver t read_only ∷ []) o
    both None = refl
    both (Some ps) = refl
front_of t kinds entry.Property read_only ns e = cc
front_of t kinds entry.Function read_only ns e = record { front = []; says = let none : ns ≡ [] = cc in ap (kinds_at (numbered t kinds)) none; all = both }
  where
    both : (o : Option Params) → option_and_then (params_by t entry.Function read_only) o ≡ after [] o
    both None = refl
    both (Some ps) = refl
front_of t kinds entry.Global read_only ns e = cc
front_of t kinds entry.Enumeration read_only ns e = cc
front_of t kinds (entry.EnumValue v) read_only ns e = cc

-- what can't be called has no parameters
pub no_front : (t : ℕ) (kind : EntryKind) (read_only : Bool) (o : Option Params) → None ≡ receiver_row kind read_only → option_and_then (params_by t kind read_only) o ≡ None
no_front t entry.HostType read_only None e = refl
no_front t entry.HostType read_only (Some ps) e = refl
no_front t entry.Factory read_only o e = cc
no_front t entry.Method read_only o e = cc
no_front t entry.Property read_only None e = refl
no_front t entry.Property read_only (Some ps) e = refl
no_front t entry.Function read_only o e = cc
no_front t entry.Global read_only None e = refl
no_front t entry.Global read_only (Some ps) e = refl
no_front t entry.Enumeration read_only None e = refl
no_front t entry.Enumeration read_only (Some ps) e = refl
no_front t (entry.EnumValue v) read_only None e = refl
no_front t (entry.EnumValue v) read_only (Some ps) e = refl

-- ---- entries

pub some_there : {A : Type 0} → (o : Option A) → is_some o ≡ true → (x : A) × (o ≡ Some x)
some_there None e = cc
some_there (Some x) e = (x, refl)

-- an entry that can't be called
pub says_none : (V : RegistrationList) (t : ℕ) (x : Entry) (kinds : List Kind) (ns : List ℕ) → None ≡ receiver_row x.kind x.signature.read_only
    → SaysIf false (numbered t kinds) ns (entry_params V t (Some x))
says_none V t x kinds ns none =
    sym (ap (option_map (map Some)) (no_front t x.kind x.signature.read_only (seen_with (host_type V x.signature.result) (host_parameters V x.signature.params)) none))

-- one of which the type of the result is not seen
pub says_unseen : (V : RegistrationList) (t : ℕ) (x : Entry) (kinds : List Kind) (ns : List ℕ) → host_type V x.signature.result ≡ None
    → SaysIf false (numbered t kinds) ns (entry_params V t (Some x))
says_unseen V t x kinds ns none =
    sym (ap (λ o. option_map (map Some) (option_and_then (params_by t x.kind x.signature.read_only) (seen_with o (host_parameters V x.signature.params)))) none)

-- one of which it is
pub says_seen : (V : RegistrationList) (t : ℕ) (x : Entry) (ty : ArgType) (all : Bool) (old kinds : List Kind) (before ns : List ℕ) (f : Front t old x.kind x.signature.read_only before)
    → host_type V x.signature.result ≡ Some ty → SaysIf all (numbered t kinds) ns (after f.front (host_parameters V x.signature.params))
    → SaysIf all (numbered t kinds) ns (entry_params V t (Some x))
says_seen V t x ty all old kinds before ns f is says =
    says
    ∙ ap (option_map (map Some)) (sym (f.all (host_parameters V x.signature.params)))
    ∙ sym (ap (λ o. option_map (map Some) (option_and_then (params_by t x.kind x.signature.read_only) (seen_with o (host_parameters V x.signature.params)))) is)

-- the row of an entry more
entry_added : (old new : List Kind) → Keeps old new → (rows new_rows : Rows) (all : Bool) (ns : List ℕ) (o : Option Params) (rest others : List (Option Params))
    → kinds_of old rows ++ told_of (o ∷ rest) ≡ told_of others → SaysIf all new ns o → new_rows ≡ rows ++ row_if all ns ∷ []
    → kinds_of new new_rows ++ told_of rest ≡ told_of others
entry_added old new keeps rows new_rows all ns o rest others e says pushed =
    ap (λ r. kinds_of new r ++ told_of rest) pushed ∙ row_pushed old new keeps rows (row_if all ns) o (told_of rest) others e says

-- an entry that stands there has its row put in, or none
pub entry_put : (V : RegistrationList) (t : ℕ) (old new : List Kind) → Keeps (numbered t old) (numbered t new) → (rows new_rows : Rows) (all : Bool) (ns : List ℕ) (o : Option Entry) (x : Entry)
    (row : Option (List ℕ)) → o ≡ Some x → SaysIf all (numbered t new) ns (entry_params V t (Some x)) → row ≡ row_if all ns → new_rows ≡ rows ++ row ∷ []
    → (rest others : List (Option Params)) → kinds_of (numbered t old) rows ++ told_of (entry_params V t o ∷ rest) ≡ told_of others
    → kinds_of (numbered t new) new_rows ++ told_of rest ≡ told_of others
entry_put V t old new keeps rows new_rows all ns o x row is says row_is pushed rest others e =
    entry_added (numbered t old) (numbered t new) keeps rows new_rows all ns (entry_params V t o) rest others e
    (says ∙ ap (λ p. option_map (map Some) (entry_params V t p)) (sym is))
    (pushed ∙ ap (λ r. rows ++ r ∷ []) row_is)

params_of_entry : (V W : RegistrationList) (t n : ℕ) → option_flatten (slice_get (map (entry_params V t) W) n) ≡ entry_params V t (slice_index_or W n None)
params_of_entry V [] t zero = refl
params_of_entry V [] t (suc n) = refl
params_of_entry V (x ∷ W) t zero = refl
params_of_entry V (x ∷ W) t (suc n) = params_of_entry V W t n

-- the row at a number is that of the entry there
pub says_of_entry : (V : RegistrationList) (t : ℕ) (kinds : List Kind) (rows : Rows) (n : ℕ) (row : Option (List ℕ)) → AreRows kinds rows (view_params V) → row ≡ row_at rows n
    → Says t kinds row (entry_params V t (entry_at V n))
says_of_entry V t kinds rows n row are is =
    ap (option_map (kinds_at (numbered t kinds))) is
    ∙ says_in (numbered t kinds) rows (view_params V t) n (are t)
    ∙ ap (option_map (map Some)) (params_of_entry V V t n)
