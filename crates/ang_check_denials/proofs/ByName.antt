-- A hidden entry that helps a use stands in the row of the name that the use seeks.
use Rattle.std.specs.Prelude.{ℕ, zero, suc, ◌≡◌, ◌≤◌, ◌<◌, ◌+◌, Bool, true, false, cond, not, ◌&&◌, ◌||◌, if◌then◌else◌, is_some, IfSome, bytes_eq, List, [], ◌∷◌, ◌++◌, filter, length, Option, Some, None}
use Rattle.std.specs.List.{range_with_len}
use Rattle.std.specs.Option.{option_or}
use Rattle.std.proofs.Common.{arith, refl, sym, ap, ◌∙◌}
use Rattle.std.proofs.lemmas.List.{append-nil}
use Rattle.std.proofs.lemmas.Slice.Eq.{bytes_eq-Decides}
use Rattle.ang_index.specs.Rows.{Rows, Puts, items_at}
use Rattle.ang_kinds.specs.declared.mask.EntityNo.{EntityNo}
use Rattle.ang_types.specs.declared.arg_type.ArgType.{ArgType}
use Rattle.ang_types.specs.declared.arg_type.ArgType.TheVariants as type
use Rattle.ang_types.specs.declared.asks.Asks.{Asks}
use Rattle.ang_types.specs.declared.asks.Asks.TheVariants as asks
use Rattle.ang_types.specs.declared.asks.Refused.{Refused}
use Rattle.ang_types.specs.declared.candidate.Candidate.{Candidate}
use Rattle.ang_types.specs.Ranks.{Ancestors}
use Rattle.ang_view.specs.declared.entry.Entry.{Entry}
use Rattle.ang_view.specs.declared.entry.EntryKind.{EntryKind}
use Rattle.ang_view.specs.declared.entry.EntryKind.TheVariants as entry
use Rattle.ang_view.specs.Hidden.{hidden_entry, is_hidden, numbers_of, seen_with}
use Rattle.ang_view.specs.Named.{is_value, is_value_named, values_named, is_factory}
use Rattle.ang_view.specs.Registration.{RegistrationList, entry_at, is_function, is_function_named, is_host_type, is_number, is_type, seen}
use Rattle.ang_view.specs.Types.{is_enumeration, is_enumeration_named, is_type_named}
use Rattle.ang_view.proofs.Lists.{and_gives}
use Rattle.ang_check_contest.specs.declared.host.SeenProperty.{SeenProperty}
use Rattle.ang_check_contest.specs.declared.host.Wanted.TheVariants as wanted
use Rattle.ang_check_contest.specs.declared.host.WantedProperty.{WantedProperty}
use Rattle.ang_check_contest.specs.declared.host.WantedProperty.TheVariants as property
use Rattle.ang_names_known.specs.declared.space.Named.{Named}
use Rattle.ang_check_contest.specs.Added.{added_property}
use Rattle.ang_names_known.specs.Items.{is_empty}
use Rattle.ang_check_contest.specs.Host.{first_found, found, function_of_entry, host_type, is_global, is_method, is_property, is_wanted, is_wanted_property, property_found, property_where, property_with}
use Rattle.ang_check_contest.proofs.Adding.{past_end, same_number}
use Rattle.ang_check_uses.specs.Uses.{candidates_of, host_methods, resolution_of, value_in}
use Rattle.ang_check_contest.specs.Scopes.{Scope}
use Rattle.ang_check_added.specs.Made.{plain, with_receiver}
use Rattle.ang_check_denials.specs.Added.{adds, call_wins, factories, has_global, is_called_by, is_enumeration_number, is_factory_of, is_number_of, is_property_of, is_type_number, is_value_at, named_with, value_wins, wins}
use Rattle.ang_check_denials.specs.Denials.{helps, means_entry, stays}
use Rattle.ang_check_denials.specs.Names.{PutsHidden, help_row, hidden_named, is_a_type_named, is_hidden_named, name_meant, name_sought, own_name, owner_name}
use Rattle.ang_check_denials.proofs.Helping.{entry_at-hidden, helps_is, hidden_unseen, seen_helps_not}
use Rattle.ang_check_added.proofs.Kept.{one_more}
use Rattle.ang_check_denials.proofs.Meaning.{wins_wanted}

-- ---- the name of an entry

pub no_factory : (p : EntryKind → Bool) → p entry.Factory ≡ false → (k : EntryKind) → p k ≡ true → is_factory k ≡ false
no_factory p f entry.HostType e = refl
no_factory p f entry.Factory e = let no' : false ≡ true = sym f ∙ e in cc
no_factory p f entry.Method e = refl
no_factory p f entry.Property e = refl
no_factory p f entry.Function e = refl
no_factory p f entry.Global e = refl
no_factory p f entry.Enumeration e = refl
no_factory p f (entry.EnumValue v) e = refl

-- what is no factory is meant by its own name
own_meant : (p : EntryKind → Bool) → p entry.Factory ≡ false → (R : RegistrationList) (y : Entry) (name : List ℕ)
    → p y.kind ≡ true → bytes_eq y.signature.name name ≡ true → name_meant R (Some y) ≡ name
own_meant p f R y name e n =
    ap (λ b. if b then owner_name R y.owner else y.signature.name) (no_factory p f y.kind e) ∙ (bytes_eq-Decides y.signature.name name).0 n

factory_meant : (R : RegistrationList) (y : Entry) → is_factory y.kind ≡ true → name_meant R (Some y) ≡ owner_name R y.owner
factory_meant R y e = ap (λ b. if b then owner_name R y.owner else y.signature.name) e

function_name : (R : RegistrationList) (name : List ℕ) (o : Option Entry) → is_function_named name o ≡ true → name_meant R o ≡ name
function_name R name None e = cc
function_name R name (Some y) e =
    let both = and_gives (is_function y.kind) (bytes_eq y.signature.name name) e in own_meant is_function refl R y name both.0 both.1

type_name : (R : RegistrationList) (name : List ℕ) (o : Option Entry) → is_a_type_named name o ≡ true → name_meant R o ≡ name
type_name R name None e = cc
type_name R name (Some y) e =
    let both = and_gives (is_type y.kind) (bytes_eq y.signature.name name) e in own_meant is_type refl R y name both.0 both.1

enumeration_name : (R : RegistrationList) (name : List ℕ) (o : Option Entry) → is_enumeration_named name o ≡ true → name_meant R o ≡ name
enumeration_name R name None e = cc
enumeration_name R name (Some y) e =
    let both = and_gives (is_enumeration y.kind) (bytes_eq y.signature.name name) e in own_meant is_enumeration refl R y name both.0 both.1

value_name : (R : RegistrationList) (name : List ℕ) (o : Option Entry) → is_value_named name o ≡ true → name_meant R o ≡ name
value_name R name None e = cc
value_name R name (Some y) e =
    let both = and_gives (is_value y.kind) (bytes_eq y.signature.name name) e in own_meant is_value refl R y name both.0 both.1

type_own_name : (name : List ℕ) (o : Option Entry) → is_type_named name o ≡ true → own_name o ≡ name
type_own_name name None e = cc
type_own_name name (Some t) e = (bytes_eq-Decides t.signature.name name).0 (and_gives (is_host_type t.kind) (bytes_eq t.signature.name name) e).1

owner_of_name : (R : RegistrationList) (name : List ℕ) (o : Option EntityNo) → is_type_number R name o ≡ true → owner_name R o ≡ name
owner_of_name R name None e = cc
owner_of_name R name (Some n) e = type_own_name name (entry_at R n.0) e

factory_name : (R : RegistrationList) (name : List ℕ) (o : Option Entry) → is_factory_of R name o ≡ true → name_meant R o ≡ name
factory_name R name None e = cc
factory_name R name (Some y) e =
    let both = and_gives (is_factory y.kind) (is_type_number R name y.owner) e in factory_meant R y both.0 ∙ owner_of_name R name y.owner both.1

called_name : (R : RegistrationList) (name : List ℕ) (o : Option Entry) (b c d : Bool) → is_function_named name o ≡ b → is_enumeration_named name o ≡ c
    → is_factory_of R name o ≡ d → (b || (c || d)) ≡ true → name_meant R o ≡ name
called_name R name o true c d f g h e = function_name R name o f
called_name R name o false true d f g h e = enumeration_name R name o g
called_name R name o false false true f g h e = factory_name R name o h
called_name R name o false false false f g h e = cc

owner_number : (R : RegistrationList) (n : ℕ) (o : Option EntityNo) → is_number n o ≡ true → owner_name R o ≡ own_name (entry_at R n)
owner_number R n None e = cc
owner_number R n (Some k) e = let same : k.0 ≡ n = search (arith, e) in ap (λ j. own_name (entry_at R j)) same

-- ---- what wins has the name

made_name : (ancestors : Ancestors) (cs : List Candidate) (args : List ArgType) (R : RegistrationList) (x n : ℕ) (o : Option Entry)
    → wins ancestors plain cs args (found (wanted.Factory n) R x o) ≡ true → name_meant R o ≡ own_name (entry_at R n)
made_name ancestors cs args R x n None e = cc
made_name ancestors cs args R x n (Some y) e =
    let both = wins_wanted ancestors plain cs args (is_wanted (wanted.Factory n) y) (function_of_entry R x y) e in
    let parts = and_gives (is_factory y.kind) (is_number n y.owner) both in
    factory_meant R y parts.0 ∙ owner_number R n y.owner parts.1

method_name : (ancestors : Ancestors) (cs : List Candidate) (args : List ArgType) (R : RegistrationList) (name : List ℕ) (x n : ℕ) (o : Option Entry)
    → wins ancestors (with_receiver n) cs args (found (wanted.Method n name) R x o) ≡ true → name_meant R o ≡ name
method_name ancestors cs args R name x n None e = cc
method_name ancestors cs args R name x n (Some y) e =
    let all = wins_wanted ancestors (with_receiver n) cs args (is_wanted (wanted.Method n name) y) (function_of_entry R x y) e in
    let parts = and_gives (is_method y.kind) (is_number n y.owner && bytes_eq y.signature.name name) all in
    let others = and_gives (is_number n y.owner) (bytes_eq y.signature.name name) parts.1 in
    own_meant is_method refl R y name parts.0 others.1

own_wins : (x : ℕ) (o seen : Option SeenProperty) → is_property_of x seen ≡ false → is_property_of x (added_property o seen) ≡ true → is_some o ≡ true
own_wins x None seen f e = let no' : false ≡ true = sym f ∙ e in cc
own_wins x (Some p) seen f e = refl

some_wanted : (b : Bool) (o : Option SeenProperty) → is_some (cond b o None) ≡ true → b ≡ true
some_wanted true o e = refl
some_wanted false o e = cc

global_name : (R : RegistrationList) (name : List ℕ) (x : ℕ) (o : Option Entry) → is_some (property_found (property.Global name) R x o) ≡ true → name_meant R o ≡ name
global_name R name x None e = cc
global_name R name x (Some y) e =
    let both = some_wanted (is_wanted_property (property.Global name) y) (property_with x y (host_type R y.signature.result)) e in
    let parts = and_gives (is_global y.kind) (bytes_eq y.signature.name name) both in
    own_meant is_global refl R y name parts.0 parts.1

-- of a bare name that means an entry, which is a property or a value, the property that is seen is none
bare_name : (R : RegistrationList) (s : Scope) (name : List ℕ) (x : ℕ) (own seen : Option SeenProperty) → own ≡ property_found (property.Global name) R x (entry_at R x)
    → is_property_of x seen ≡ false → value_wins R s name x (added_property own seen) ≡ true → name_meant R (entry_at R x) ≡ name
bare_name R s name x (Some p) seen is f e = global_name R name x (entry_at R x) (ap is_some (sym is))
bare_name R s name x None (Some h) is f e = let no' : false ≡ true = sym f ∙ e in cc
bare_name R s name x None None is f e =
    let both = and_gives (is_value_at name x (entry_at R x)) (is_empty (values_named s.view name)) e in
    value_name R name (entry_at R x) (and_gives (is_value_named name (entry_at R x)) (is_some (value_in x (entry_at R x))) both.0).0

member_name : (R : RegistrationList) (name : List ℕ) (x n : ℕ) (o : Option Entry) → is_some (property_found (property.Member n name) R x o) ≡ true → name_meant R o ≡ name
member_name R name x n None e = cc
member_name R name x n (Some y) e =
    let all = some_wanted (is_wanted_property (property.Member n name) y) (property_with x y (host_type R y.signature.result)) e in
    let parts = and_gives (is_property y.kind) (is_number n y.owner && bytes_eq y.signature.name name) all in
    let others = and_gives (is_number n y.owner) (bytes_eq y.signature.name name) parts.1 in
    own_meant is_property refl R y name parts.0 others.1

-- ---- the property that is seen is no hidden one

numbered : (w : WantedProperty) (V : RegistrationList) (k : ℕ) (o : Option Entry) → IfSome (property_found w V k o) (λ h. h.entity.0 ≡ k)
numbered w V k None = tt
numbered w V k (Some y) = by_test (is_wanted_property w y) (host_type V y.signature.result)
  where
    by_test : (b : Bool) (t : Option ArgType) → IfSome (cond b (property_with k y t) None) (λ h. h.entity.0 ≡ k)
    by_test false t = tt
    by_test true None = tt
    by_test true (Some t) = refl

first_apart : (x n : ℕ) (o r : Option SeenProperty) → IfSome o (λ h. h.entity.0 ≡ n) → (n ≡ x → o ≡ None) → is_property_of x r ≡ false
    → is_property_of x (option_or o r) ≡ false
first_apart x n None r e f rest = rest
first_apart x n (Some p) r e f rest = same_number p.entity.0 x (λ s. let no' : Some p ≡ None = f (sym e ∙ s) in cc)

search_apart : (w : WantedProperty) (V : RegistrationList) (x n : ℕ) (os : RegistrationList) → ((j : ℕ) → n + j ≡ x → entry_at os j ≡ None)
    → is_property_of x (first_found (property_found w V) n os) ≡ false
search_apart w V x n [] h = refl
search_apart w V x n (o ∷ os) h =
    first_apart x n (property_found w V n o) (first_found (property_found w V) (n + 1) os) (numbered w V n o)
    (λ s. let first : n + 0 ≡ x = omega (arith, s) in ap (property_found w V n) (h 0 first))
    (search_apart w V x (n + 1) os (λ j s. let up : n + suc j ≡ x = omega (arith, s) in h (suc j) up))

property_apart : (w : WantedProperty) (V : RegistrationList) (x : ℕ) → entry_at V x ≡ None → is_property_of x (property_where w V) ≡ false
unfolding property_where
property_apart w V x e = search_apart w V x 0 V (λ j s. let same : j ≡ x = omega (arith, s) in ap (entry_at V) same ∙ e)

-- ---- what helps has the name

adds_name : (R : RegistrationList) (m : ℕ) (s : Scope) (name : List ℕ) (x : ℕ) (t : Named) (a : Asks) → s.view ≡ seen R m → entry_at (seen R m) x ≡ None
    → adds R s name x t a ≡ true → name_meant R (entry_at R x) ≡ name_sought R name a
adds_name R m s name x t asks.Value view unseen e =
    let won = (and_gives (not (has_global s.names.globals name)) _ e).1 in
    let apart = ap (λ V. is_property_of x (property_where (property.Global name) V)) view ∙ property_apart (property.Global name) (seen R m) x unseen in
    bare_name R s name x (property_found (property.Global name) R x (entry_at R x)) (property_where (property.Global name) s.view) refl apart won
adds_name R m s name x t asks.Type view unseen e =
    type_name R name (entry_at R x) (and_gives (is_a_type_named name (entry_at R x)) (is_number_of x t) e).0
adds_name R m s name x t asks.Enumeration view unseen e =
    enumeration_name R name (entry_at R x) (and_gives (is_enumeration_named name (entry_at R x)) (is_enumeration_number x t) e).0
adds_name R m s name x t (asks.Call args) view unseen e =
    called_name R name (entry_at R x) (is_function_named name (entry_at R x)) (is_enumeration_named name (entry_at R x)) (is_factory_of R name (entry_at R x)) refl refl refl
    (and_gives (is_called_by R name x) (call_wins R s name args x t) e).0
adds_name R m s name x t (asks.Make n args) view unseen e = made_name s.ancestors (factories s.view n) args R x n (entry_at R x) e
adds_name R m s name x t (asks.Default n) view unseen e = made_name s.ancestors (factories s.view n) [] R x n (entry_at R x) e
adds_name R m s name x t (asks.Property n) view unseen e =
    let apart = ap (λ V. is_property_of x (property_where (property.Member n name) V)) view ∙ property_apart (property.Member n name) (seen R m) x unseen in
    member_name R name x n (entry_at R x)
    (own_wins x (property_found (property.Member n name) R x (entry_at R x)) (property_where (property.Member n name) s.view) apart e)
adds_name R m s name x t (asks.Method n c args) view unseen e =
    method_name s.ancestors (candidates_of (host_methods s.view n name)) (type.Object n c ∷ args) R name x n (entry_at R x) e

not_true : (b : Bool) → not b ≡ true → b ≡ false
not_true true e = cc
not_true false e = refl

-- An entry that helps a use has the name that the use seeks.
pub helps_by_name : (R : RegistrationList) (m : ℕ) (s : Scope) (r : Refused) (a : Asks) (x : ℕ) → s.view ≡ seen R m → x < 1024
    → helps R m s r a x ≡ true → name_meant R (entry_at R x) ≡ name_sought R r.error.name a
helps_by_name R m s r a x view lt e =
    let means = means_entry x (resolution_of (record s { view = seen_with R m x }) r.error.name a) in
    let parts = and_gives (is_hidden R m x) (not (stays s r a (entry_at R x)) && means) e in
    let others = and_gives (not (stays s r a (entry_at R x))) means parts.1 in
    let taken = not_true (stays s r a (entry_at R x)) others.0 in
    adds_name R m s r.error.name x (named_with R m s x r.error.name) a view (hidden_unseen R m x parts.0)
    (helps_is R m s r a x view lt parts.0 taken ∙ e)

both : (b c : Bool) → b ≡ true → c ≡ true → (b && c) ≡ true
both b c e f = cc

hidden_by_name : (R : RegistrationList) (m : ℕ) (s : Scope) (r : Refused) (a : Asks) (x : ℕ) → s.view ≡ seen R m → x < 1024
    → helps R m s r a x ≡ true → is_hidden_named R m (name_sought R r.error.name a) x ≡ true
hidden_by_name R m s r a x view lt e =
    both (is_hidden R m x) (bytes_eq (name_meant R (entry_at R x)) (name_sought R r.error.name a)) (and_gives (is_hidden R m x) _ e).0
    ((bytes_eq-Decides (name_meant R (entry_at R x)) (name_sought R r.error.name a)).1 (helps_by_name R m s r a x view lt e))

-- ---- the row

in_row : (p q : ℕ → Bool) → ((k : ℕ) → k < 1024 → p k ≡ true → q k ≡ true) → (n count : ℕ) → n + count ≤ 1024
    → filter p (filter q (range_with_len n count)) ≡ filter p (range_with_len n count)
in_row p q has n zero few = refl
in_row p q has n (suc count) few =
    one_more p (q n) n (filter q (range_with_len (n + 1) count)) (filter p (range_with_len (n + 1) count))
    (has n (omega (arith, few))) (in_row p q has (n + 1) count (omega (arith, few)))

-- All that help are in the row.
pub row_helps : (R : RegistrationList) (m : ℕ) (s : Scope) (r : Refused) (a : Asks) (row : List ℕ) → s.view ≡ seen R m → length R ≤ 1024
    → row ≡ help_row R m r.error.name a → filter (helps R m s r a) row ≡ filter (helps R m s r a) (numbers_of R)
unfolding hidden_named
row_helps R m s r a row view few e =
    let most : 0 + length R ≤ 1024 = omega (arith, few) in
    ap (filter (helps R m s r a)) e
    ∙ in_row (helps R m s r a) (is_hidden_named R m (name_sought R r.error.name a))
    (λ k lt help. hidden_by_name R m s r a k view lt help) 0 (length R) most

-- ---- an entry more by its name

-- one that is hidden is put in
one_put : (b : Bool) (xs : List ℕ) (x : ℕ) → cond b (xs ++ x ∷ []) xs ≡ xs ++ (if b then x ∷ [] else [])
one_put true xs x = refl
one_put false xs x = sym (append-nil xs)

pub hidden_put : (R : RegistrationList) (m x : ℕ) (own : List ℕ) (old new : Rows ℕ) → true ≡ is_hidden R m x
    → own ≡ name_meant R (entry_at R x) → Puts old new 0 own x → PutsHidden R m x old new
hidden_put R m x own old new hides is puts name =
    puts 0 name
    ∙ one_put (bytes_eq own name) (items_at 0 name old) x
    ∙ (λ i. items_at 0 name old ++ (if hides i && bytes_eq (is i) name then x ∷ [] else []))

-- another one is not
pub seen_not_put : (R : RegistrationList) (m x : ℕ) (rows : Rows ℕ) → false ≡ is_hidden R m x → PutsHidden R m x rows rows
seen_not_put R m x rows hides name =
    sym (append-nil (items_at 0 name rows))
    ∙ (λ i. items_at 0 name rows ++ (if hides i && bytes_eq (name_meant R (entry_at R x)) name then x ∷ [] else []))

-- no entry stands past the end
pub past_helps_not : (R : RegistrationList) (m : ℕ) (s : Scope) (r : Refused) (a : Asks) (x : ℕ) → length R ≤ x → helps R m s r a x ≡ false
past_helps_not R m s r a x le = seen_helps_not R m s r a x (ap is_some (entry_at-hidden R m x ∙ ap (hidden_entry R m) (past_end R x le)))
