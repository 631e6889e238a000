-- What is found among the entries of a name, or among the members or factories of a type, is what is found among all.
use Rattle.std.proofs.Common.{◌≡◌, ℕ, zero, suc, ◌+◌, ◌&&◌, Bool, true, false, cond, List, [], ◌∷◌, ◌++◌, filter, map, length, Option, Some, None, refl, sym, ap, ◌∙◌, bytes_eq}
use Rattle.std.specs.Prelude.{option_to_list}
use Rattle.std.specs.Option.{option_or}
use Rattle.std.specs.List.{range_with_len}
use Rattle.ang_kinds.specs.declared.mask.EntityNo.{EntityNo}
use Rattle.ang_view.specs.declared.entry.Entry.{Entry}
use Rattle.ang_view.specs.declared.entry.EntryKind.{EntryKind}
use Rattle.ang_view.specs.declared.entry.EntryKind.TheVariants as entry
use Rattle.ang_view.specs.Registration.{RegistrationList, entry_at, is_function, is_number}
use Rattle.ang_view.specs.Hidden.{numbers_of}
use Rattle.ang_view.specs.Named.{find, has_name, is_bare, is_member, is_member_kind, makers, makes, owned}
use Rattle.ang_check_contest.specs.declared.host.SeenFunction.{SeenFunction}
use Rattle.ang_check_contest.specs.declared.host.SeenProperty.{SeenProperty}
use Rattle.ang_check_contest.specs.declared.host.Wanted.{Wanted}
use Rattle.ang_check_contest.specs.declared.host.Wanted.TheVariants as wanted
use Rattle.ang_check_contest.specs.declared.host.WantedProperty.{WantedProperty}
use Rattle.ang_check_contest.specs.declared.host.WantedProperty.TheVariants as property
use Rattle.ang_check_contest.specs.Host.{found, function_of_entry, host_type, host_where, is_global, is_method, is_property, is_wanted_property, property_found, property_where, property_with, wants_in}
use Rattle.ang_check_contest.specs.Among.{found_among, property_among}
use Rattle.ang_check_contest.proofs.Adding.{host_where-is, scan_n}
use Rattle.ang_check_contest.proofs.AddingProperties.{first_n, property_where-is}

-- ---- a filter after a wider one

filter_step : (p : ℕ → Bool) (a : ℕ) (b c : Bool) (xs ys : List ℕ) → p a ≡ c → (c ≡ true → b ≡ true) → filter p xs ≡ filter p ys
    → filter p (cond b (a ∷ xs) xs) ≡ cond c (a ∷ filter p ys) (filter p ys)
filter_step p a true c xs ys e h same = λ i. cond (e i) (a ∷ same i) (same i)
filter_step p a false true xs ys e h same = let no' : false ≡ true = h refl in cc
filter_step p a false false xs ys e h same = same

filter_twice : (p q : ℕ → Bool) → ((n : ℕ) → p n ≡ true → q n ≡ true) → (ns : List ℕ) → filter p (filter q ns) ≡ filter p ns
filter_twice p q h [] = refl
filter_twice p q h (n ∷ ns) = filter_step p n (q n) (p n) (filter q ns) ns refl (h n) (filter_twice p q h ns)

-- ---- kinds

function_is_bare : (k : EntryKind) → is_function k ≡ true → is_bare k ≡ true
function_is_bare entry.HostType e = cc
function_is_bare entry.Factory e = cc
function_is_bare entry.Method e = cc
function_is_bare entry.Property e = cc
function_is_bare entry.Function e = refl
function_is_bare entry.Global e = cc
function_is_bare entry.Enumeration e = cc
function_is_bare (entry.EnumValue v) e = cc

global_is_bare : (k : EntryKind) → is_global k ≡ true → is_bare k ≡ true
global_is_bare entry.HostType e = cc
global_is_bare entry.Factory e = cc
global_is_bare entry.Method e = cc
global_is_bare entry.Property e = cc
global_is_bare entry.Function e = cc
global_is_bare entry.Global e = refl
global_is_bare entry.Enumeration e = cc
global_is_bare (entry.EnumValue v) e = cc

method_is_member : (k : EntryKind) → is_method k ≡ true → is_member_kind k ≡ true
method_is_member entry.HostType e = cc
method_is_member entry.Factory e = cc
method_is_member entry.Method e = refl
method_is_member entry.Property e = cc
method_is_member entry.Function e = cc
method_is_member entry.Global e = cc
method_is_member entry.Enumeration e = cc
method_is_member (entry.EnumValue v) e = cc

property_is_member : (k : EntryKind) → is_property k ≡ true → is_member_kind k ≡ true
property_is_member entry.HostType e = cc
property_is_member entry.Factory e = cc
property_is_member entry.Method e = cc
property_is_member entry.Property e = refl
property_is_member entry.Function e = cc
property_is_member entry.Global e = cc
property_is_member entry.Enumeration e = cc
property_is_member (entry.EnumValue v) e = cc

wider : (b c d : Bool) → (b ≡ true → d ≡ true) → (b && c) ≡ true → (d && c) ≡ true
wider true c d h e = rw (h refl) e
wider false c d h e = cc

-- ---- functions

not_found : (w : Wanted) (V : RegistrationList) (n : ℕ) (o : Option Entry) → wants_in w o ≡ false → found w V n o ≡ None
not_found w V n None e = refl
not_found w V n (Some x) e = ap (λ b. cond b (function_of_entry V n x) None) e

abbrev numbered : Wanted → RegistrationList → List ℕ → List SeenFunction
numbered w V [] = []
numbered w V (n ∷ ns) = option_to_list (found w V n (entry_at V n)) ++ numbered w V ns

by_number : (w : Wanted) (V : RegistrationList) (es : List EntityNo) → found_among w V es ≡ numbered w V (map (λ (e : EntityNo). e.0) es)
by_number w V [] = refl
by_number w V (e ∷ es) = ap (λ fs. option_to_list (found w V e.0 (entry_at V e.0)) ++ fs) (by_number w V es)

abbrev wants : Wanted → RegistrationList → ℕ → Bool
wants w V n = wants_in w (entry_at V n)

kept : (w : Wanted) (V : RegistrationList) (n : ℕ) (ns ms : List ℕ) (b : Bool) → wants w V n ≡ b → numbered w V ns ≡ numbered w V ms
    → option_to_list (found w V n (entry_at V n)) ++ numbered w V ns ≡ numbered w V (cond b (n ∷ ms) ms)
kept w V n ns ms true e same = ap (λ fs. option_to_list (found w V n (entry_at V n)) ++ fs) same
kept w V n ns ms false e same = ap (λ o. option_to_list o ++ numbered w V ns) (not_found w V n (entry_at V n) e) ∙ same

among_wanted : (w : Wanted) (V : RegistrationList) (ns : List ℕ) → numbered w V ns ≡ numbered w V (filter (wants w V) ns)
among_wanted w V [] = refl
among_wanted w V (n ∷ ns) = kept w V n ns (filter (wants w V) ns) (wants w V n) refl (among_wanted w V ns)

among_range : (w : Wanted) (V : RegistrationList) (n l : ℕ) → numbered w V (range_with_len n l) ≡ scan_n (λ k. found w V k (entry_at V k)) n l
unfolding scan_n
among_range w V n zero = refl
among_range w V n (suc l) = ap (λ fs. option_to_list (found w V n (entry_at V n)) ++ fs) (among_range w V (n + 1) l)

-- by a filter, whatever was wanted
found_in : (w : Wanted) (V : RegistrationList) (q : ℕ → Bool) (es : List EntityNo) → map (λ (e : EntityNo). e.0) es ≡ filter q (numbers_of V)
    → ((n : ℕ) → wants w V n ≡ true → q n ≡ true) → found_among w V es ≡ host_where w V
found_in w V q es row wide =
    by_number w V es ∙ ap (numbered w V) row
    ∙ among_wanted w V (filter q (numbers_of V)) ∙ ap (numbered w V) (filter_twice (wants w V) q wide (numbers_of V))
    ∙ sym (among_wanted w V (numbers_of V)) ∙ among_range w V 0 (length V) ∙ sym (host_where-is w V)

function_named : (name : List ℕ) (o : Option Entry) → wants_in (wanted.Function name) o ≡ true → has_name name o ≡ true
function_named name None e = cc
function_named name (Some x) e = wider (is_function x.kind) (bytes_eq x.signature.name name) (is_bare x.kind) (function_is_bare x.kind) e

pub functions_in : (V : RegistrationList) (name : List ℕ) (es : List EntityNo) → map (λ (e : EntityNo). e.0) es ≡ find V name
    → found_among (wanted.Function name) V es ≡ host_where (wanted.Function name) V
unfolding find
functions_in V name es row =
    found_in (wanted.Function name) V (λ n. has_name name (entry_at V n)) es row (λ n e. function_named name (entry_at V n) e)

factory_made : (t : ℕ) (o : Option Entry) → wants_in (wanted.Factory t) o ≡ true → makes t o ≡ true
factory_made t None e = cc
factory_made t (Some x) e = e

pub factories_in : (V : RegistrationList) (t : ℕ) (es : List EntityNo) → map (λ (e : EntityNo). e.0) es ≡ makers V t
    → found_among (wanted.Factory t) V es ≡ host_where (wanted.Factory t) V
unfolding makers
factories_in V t es row = found_in (wanted.Factory t) V (λ n. makes t (entry_at V n)) es row (λ n e. factory_made t (entry_at V n) e)

method_owned : (t : ℕ) (name : List ℕ) (o : Option Entry) → wants_in (wanted.Method t name) o ≡ true → is_member t name o ≡ true
method_owned t name None e = cc
method_owned t name (Some x) e =
    wider (is_method x.kind) (is_number t x.owner && bytes_eq x.signature.name name) (is_member_kind x.kind) (method_is_member x.kind) e

pub methods_in : (V : RegistrationList) (t : ℕ) (name : List ℕ) (es : List EntityNo) → map (λ (e : EntityNo). e.0) es ≡ owned V t name
    → found_among (wanted.Method t name) V es ≡ host_where (wanted.Method t name) V
unfolding owned
methods_in V t name es row =
    found_in (wanted.Method t name) V (λ n. is_member t name (entry_at V n)) es row (λ n e. method_owned t name (entry_at V n) e)

-- ---- properties

abbrev wants_property_in : WantedProperty → Option Entry → Bool
wants_property_in w None = false
wants_property_in w (Some x) = is_wanted_property w x

no_property : (w : WantedProperty) (V : RegistrationList) (n : ℕ) (o : Option Entry) → wants_property_in w o ≡ false → property_found w V n o ≡ None
no_property w V n None e = refl
no_property w V n (Some x) e = ap (λ b. cond b (property_with n x (host_type V x.signature.result)) None) e

abbrev properties : WantedProperty → RegistrationList → List ℕ → Option SeenProperty
properties w V [] = None
properties w V (n ∷ ns) = option_or (property_found w V n (entry_at V n)) (properties w V ns)

property_by_number : (w : WantedProperty) (V : RegistrationList) (es : List EntityNo) → property_among w V es ≡ properties w V (map (λ (e : EntityNo). e.0) es)
property_by_number w V [] = refl
property_by_number w V (e ∷ es) = ap (option_or (property_found w V e.0 (entry_at V e.0))) (property_by_number w V es)

abbrev wants_property : WantedProperty → RegistrationList → ℕ → Bool
wants_property w V n = wants_property_in w (entry_at V n)

property_kept : (w : WantedProperty) (V : RegistrationList) (n : ℕ) (ns ms : List ℕ) (b : Bool) → wants_property w V n ≡ b → properties w V ns ≡ properties w V ms
    → option_or (property_found w V n (entry_at V n)) (properties w V ns) ≡ properties w V (cond b (n ∷ ms) ms)
property_kept w V n ns ms true e same = ap (option_or (property_found w V n (entry_at V n))) same
property_kept w V n ns ms false e same = ap (λ o. option_or o (properties w V ns)) (no_property w V n (entry_at V n) e) ∙ same

property_wanted : (w : WantedProperty) (V : RegistrationList) (ns : List ℕ) → properties w V ns ≡ properties w V (filter (wants_property w V) ns)
property_wanted w V [] = refl
property_wanted w V (n ∷ ns) = property_kept w V n ns (filter (wants_property w V) ns) (wants_property w V n) refl (property_wanted w V ns)

property_range : (w : WantedProperty) (V : RegistrationList) (n l : ℕ) → properties w V (range_with_len n l) ≡ first_n (λ k. property_found w V k (entry_at V k)) n l
unfolding first_n
property_range w V n zero = refl
property_range w V n (suc l) = ap (option_or (property_found w V n (entry_at V n))) (property_range w V (n + 1) l)

property_named : (w : WantedProperty) (V : RegistrationList) (q : ℕ → Bool) (es : List EntityNo) → map (λ (e : EntityNo). e.0) es ≡ filter q (numbers_of V)
    → ((n : ℕ) → wants_property w V n ≡ true → q n ≡ true) → property_among w V es ≡ property_where w V
property_named w V q es row wide =
    property_by_number w V es ∙ ap (properties w V) row
    ∙ property_wanted w V (filter q (numbers_of V)) ∙ ap (properties w V) (filter_twice (wants_property w V) q wide (numbers_of V))
    ∙ sym (property_wanted w V (numbers_of V)) ∙ property_range w V 0 (length V) ∙ sym (property_where-is w V)

global_named : (name : List ℕ) (o : Option Entry) → wants_property_in (property.Global name) o ≡ true → has_name name o ≡ true
global_named name None e = cc
global_named name (Some x) e = wider (is_global x.kind) (bytes_eq x.signature.name name) (is_bare x.kind) (global_is_bare x.kind) e

pub global_in : (V : RegistrationList) (name : List ℕ) (es : List EntityNo) → map (λ (e : EntityNo). e.0) es ≡ find V name
    → property_among (property.Global name) V es ≡ property_where (property.Global name) V
unfolding find
global_in V name es row =
    property_named (property.Global name) V (λ n. has_name name (entry_at V n)) es row (λ n e. global_named name (entry_at V n) e)

member_owned : (t : ℕ) (name : List ℕ) (o : Option Entry) → wants_property_in (property.Member t name) o ≡ true → is_member t name o ≡ true
member_owned t name None e = cc
member_owned t name (Some x) e =
    wider (is_property x.kind) (is_number t x.owner && bytes_eq x.signature.name name) (is_member_kind x.kind) (property_is_member x.kind) e

pub member_in : (V : RegistrationList) (t : ℕ) (name : List ℕ) (es : List EntityNo) → map (λ (e : EntityNo). e.0) es ≡ owned V t name
    → property_among (property.Member t name) V es ≡ property_where (property.Member t name) V
unfolding owned
member_in V t name es row =
    property_named (property.Member t name) V (λ n. is_member t name (entry_at V n)) es row (λ n e. member_owned t name (entry_at V n) e)
