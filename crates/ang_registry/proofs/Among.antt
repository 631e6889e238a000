-- All that a registration is compared with stands among the entries of its name or type, and of its types' names.
use Rattle.std.proofs.Common.{◌≡◌, ℕ, ℤ, ◌==◌, Bool, true, false, not, ◌&&◌, ◌||◌, List, [], ◌∷◌, map, Option, Some, None, refl, sym, ap, ◌∙◌, bytes_eq}
use Rattle.std.specs.List.{list_any}
use Rattle.std.specs.Cmp.Lexicographic.{nat_list_eq_equiv}
use Rattle.ang_kinds.specs.declared.mask.EntityNo.{EntityNo}
use Rattle.ang_kinds.specs.declared.types.Param.{Param}
use Rattle.ang_kinds.specs.declared.types.Signature.{Signature}
use Rattle.ang_kinds.specs.declared.types.TypeRef.{TypeRef}
use Rattle.ang_kinds.specs.declared.types.TypeRef.TheVariants as ref
use Rattle.ang_view.specs.declared.entry.Entry.{Entry}
use Rattle.ang_view.specs.declared.entry.EntryKind.{EntryKind}
use Rattle.ang_view.specs.declared.entry.EntryKind.TheVariants as entry
use Rattle.ang_view.specs.Hidden.{numbers_of}
use Rattle.ang_view.specs.Named.{find, has_name, is_bare, is_factory, is_member, is_member_kind, is_value, makers, makes, owned}
use Rattle.ang_view.specs.Registration.{RegistrationList, entry_at, is_number, is_spelled_with, is_host_type}
use Rattle.ang_view.proofs.Among.{among, no_number}
use Rattle.ang_view.proofs.Lists.{and_gives, and_from}
use Rattle.ang_registry.specs.Among.{is_spelled_foreign, rivals, spelled}
use Rattle.ang_registry.specs.Overloads.{clashes, excludes_function, excludes_method, is_member_name, is_taken, same_name, same_owner, same_parameters}
use Rattle.ang_registry.specs.Types.{is_foreign}

-- ---- what can take a name

excludes_is_bare : (k : EntryKind) (x s : Signature) → excludes_function k x s ≡ true → is_bare k ≡ true
excludes_is_bare entry.HostType x s e = refl
excludes_is_bare entry.Factory x s e = cc
excludes_is_bare entry.Method x s e = cc
excludes_is_bare entry.Property x s e = cc
excludes_is_bare entry.Function x s e = refl
excludes_is_bare entry.Global x s e = refl
excludes_is_bare entry.Enumeration x s e = refl
excludes_is_bare (entry.EnumValue v) x s e = cc

excludes_is_member : (k : EntryKind) (x s : Signature) → excludes_method k x s ≡ true → is_member_kind k ≡ true
excludes_is_member entry.HostType x s e = cc
excludes_is_member entry.Factory x s e = cc
excludes_is_member entry.Method x s e = refl
excludes_is_member entry.Property x s e = refl
excludes_is_member entry.Function x s e = cc
excludes_is_member entry.Global x s e = cc
excludes_is_member entry.Enumeration x s e = cc
excludes_is_member (entry.EnumValue v) x s e = cc

member_is_member : (k : EntryKind) → is_member_name k ≡ true → is_member_kind k ≡ true
member_is_member entry.HostType e = cc
member_is_member entry.Factory e = cc
member_is_member entry.Method e = refl
member_is_member entry.Property e = refl
member_is_member entry.Function e = cc
member_is_member entry.Global e = cc
member_is_member entry.Enumeration e = cc
member_is_member (entry.EnumValue v) e = cc

value_is_member : (k : EntryKind) → is_value k ≡ true → is_member_kind k ≡ true
value_is_member entry.HostType e = cc
value_is_member entry.Factory e = cc
value_is_member entry.Method e = cc
value_is_member entry.Property e = cc
value_is_member entry.Function e = cc
value_is_member entry.Global e = cc
value_is_member entry.Enumeration e = cc
value_is_member (entry.EnumValue v) e = refl

own_number : (t : EntityNo) (owner : Option EntityNo) → same_owner owner (Some t) ≡ true → is_number t.0 owner ≡ true
own_number t None e = cc
own_number t (Some o) e = e

no_owner : (owner : Option EntityNo) → same_owner owner None ≡ true → false ≡ true
no_owner None e = e
no_owner (Some o) e = e

type_named : (owner : Option EntityNo) (s : Signature) (o : Option Entry) → clashes entry.HostType owner s o ≡ true → has_name s.name o ≡ true
type_named owner s None e = cc
type_named owner s (Some x) e = e

global_named : (owner : Option EntityNo) (s : Signature) (o : Option Entry) → clashes entry.Global owner s o ≡ true → has_name s.name o ≡ true
global_named owner s None e = cc
global_named owner s (Some x) e = e

enumeration_named : (owner : Option EntityNo) (s : Signature) (o : Option Entry) → clashes entry.Enumeration owner s o ≡ true → has_name s.name o ≡ true
enumeration_named owner s None e = cc
enumeration_named owner s (Some x) e = e

function_named : (owner : Option EntityNo) (s : Signature) (o : Option Entry) → clashes entry.Function owner s o ≡ true → has_name s.name o ≡ true
function_named owner s None e = cc
function_named owner s (Some x) e =
    let r = and_gives (same_name x.signature s) (excludes_function x.kind x.signature s) e in
    and_from (is_bare x.kind) (same_name x.signature s) (excludes_is_bare x.kind x.signature s r.1) r.0

method_owned : (t : EntityNo) (s : Signature) (o : Option Entry) → clashes entry.Method (Some t) s o ≡ true → is_member t.0 s.name o ≡ true
method_owned t s None e = cc
method_owned t s (Some x) e =
    let r = and_gives (same_owner x.owner (Some t) && same_name x.signature s) (excludes_method x.kind x.signature s) e in
    let two = and_gives (same_owner x.owner (Some t)) (same_name x.signature s) r.0 in
    and_from (is_member_kind x.kind) (is_number t.0 x.owner && same_name x.signature s) (excludes_is_member x.kind x.signature s r.1)
    (and_from (is_number t.0 x.owner) (same_name x.signature s) (own_number t x.owner two.0) two.1)

property_owned : (t : EntityNo) (s : Signature) (o : Option Entry) → clashes entry.Property (Some t) s o ≡ true → is_member t.0 s.name o ≡ true
property_owned t s None e = cc
property_owned t s (Some x) e =
    let r = and_gives (is_member_name x.kind && same_owner x.owner (Some t)) (same_name x.signature s) e in
    let two = and_gives (is_member_name x.kind) (same_owner x.owner (Some t)) r.0 in
    and_from (is_member_kind x.kind) (is_number t.0 x.owner && same_name x.signature s) (member_is_member x.kind two.0)
    (and_from (is_number t.0 x.owner) (same_name x.signature s) (own_number t x.owner two.1) r.1)

value_owned : (v : ℤ) (t : EntityNo) (s : Signature) (o : Option Entry) → clashes (entry.EnumValue v) (Some t) s o ≡ true → is_member t.0 s.name o ≡ true
value_owned v t s None e = cc
value_owned v t s (Some x) e =
    let r = and_gives (is_value x.kind && same_owner x.owner (Some t)) (same_name x.signature s) e in
    let two = and_gives (is_value x.kind) (same_owner x.owner (Some t)) r.0 in
    and_from (is_member_kind x.kind) (is_number t.0 x.owner && same_name x.signature s) (value_is_member x.kind two.0)
    (and_from (is_number t.0 x.owner) (same_name x.signature s) (own_number t x.owner two.1) r.1)

factory_made : (t : EntityNo) (s : Signature) (o : Option Entry) → clashes entry.Factory (Some t) s o ≡ true → makes t.0 o ≡ true
factory_made t s None e = cc
factory_made t s (Some x) e =
    let r = and_gives (is_factory x.kind && same_owner x.owner (Some t)) (same_parameters x.signature.params s.params) e in
    let two = and_gives (is_factory x.kind) (same_owner x.owner (Some t)) r.0 in
    and_from (is_factory x.kind) (is_number t.0 x.owner) two.0 (own_number t x.owner two.1)

no_method : (s : Signature) (o : Option Entry) → clashes entry.Method None s o ≡ true → false ≡ true
no_method s None e = e
no_method s (Some x) e =
    no_owner x.owner (and_gives (same_owner x.owner None) (same_name x.signature s) (and_gives (same_owner x.owner None && same_name x.signature s) (excludes_method x.kind x.signature s) e).0).0

no_property : (s : Signature) (o : Option Entry) → clashes entry.Property None s o ≡ true → false ≡ true
no_property s None e = e
no_property s (Some x) e =
    no_owner x.owner (and_gives (is_member_name x.kind) (same_owner x.owner None) (and_gives (is_member_name x.kind && same_owner x.owner None) (same_name x.signature s) e).0).1

no_value : (v : ℤ) (s : Signature) (o : Option Entry) → clashes (entry.EnumValue v) None s o ≡ true → false ≡ true
no_value v s None e = e
no_value v s (Some x) e =
    no_owner x.owner (and_gives (is_value x.kind) (same_owner x.owner None) (and_gives (is_value x.kind && same_owner x.owner None) (same_name x.signature s) e).0).1

no_factory : (s : Signature) (o : Option Entry) → clashes entry.Factory None s o ≡ true → false ≡ true
no_factory s None e = e
no_factory s (Some x) e =
    no_owner x.owner (and_gives (is_factory x.kind) (same_owner x.owner None) (and_gives (is_factory x.kind && same_owner x.owner None) (same_parameters x.signature.params s.params) e).0).1

pub taken_among : (V : RegistrationList) (kind : EntryKind) (owner : Option EntityNo) (s : Signature) (es : List EntityNo)
    → map (λ (e : EntityNo). e.0) es ≡ rivals V kind owner s.name → list_any (λ (e : EntityNo). clashes kind owner s (entry_at V e.0)) es ≡ is_taken V kind owner s
unfolding is_taken find owned makers
taken_among V entry.HostType owner s es row = among (clashes entry.HostType owner s) (has_name s.name) (type_named owner s) V es row
taken_among V entry.Factory None s es row = among (clashes entry.Factory None s) (λ o. false) (no_factory s) V es (row ∙ no_number (numbers_of V))
taken_among V entry.Factory (Some t) s es row = among (clashes entry.Factory (Some t) s) (makes t.0) (factory_made t s) V es row
taken_among V entry.Method None s es row = among (clashes entry.Method None s) (λ o. false) (no_method s) V es (row ∙ no_number (numbers_of V))
taken_among V entry.Method (Some t) s es row = among (clashes entry.Method (Some t) s) (is_member t.0 s.name) (method_owned t s) V es row
taken_among V entry.Property None s es row = among (clashes entry.Property None s) (λ o. false) (no_property s) V es (row ∙ no_number (numbers_of V))
taken_among V entry.Property (Some t) s es row = among (clashes entry.Property (Some t) s) (is_member t.0 s.name) (property_owned t s) V es row
taken_among V entry.Function owner s es row = among (clashes entry.Function owner s) (has_name s.name) (function_named owner s) V es row
taken_among V entry.Global owner s es row = among (clashes entry.Global owner s) (has_name s.name) (global_named owner s) V es row
taken_among V entry.Enumeration owner s es row = among (clashes entry.Enumeration owner s) (has_name s.name) (enumeration_named owner s) V es row
taken_among V (entry.EnumValue v) None s es row = among (clashes (entry.EnumValue v) None s) (λ o. false) (no_value v s) V es (row ∙ no_number (numbers_of V))
taken_among V (entry.EnumValue v) (Some t) s es row = among (clashes (entry.EnumValue v) (Some t) s) (is_member t.0 s.name) (value_owned v t s) V es row

-- ---- types of another driver

type_is_bare : (k : EntryKind) → is_host_type k ≡ true → is_bare k ≡ true
type_is_bare entry.HostType e = refl
type_is_bare entry.Factory e = cc
type_is_bare entry.Method e = cc
type_is_bare entry.Property e = cc
type_is_bare entry.Function e = cc
type_is_bare entry.Global e = cc
type_is_bare entry.Enumeration e = cc
type_is_bare (entry.EnumValue v) e = cc

no_spelling : (driver : ℕ) (ty : TypeRef) → ((name : List ℕ) → is_spelled_with name ty ≡ true → false ≡ true) → (o : Option Entry) → is_spelled_foreign driver ty o ≡ true → false ≡ true
no_spelling driver ty unspelled None e = e
no_spelling driver ty unspelled (Some t) e =
    unspelled t.signature.name (and_gives (is_host_type t.kind) (is_spelled_with t.signature.name ty) (and_gives (is_host_type t.kind && is_spelled_with t.signature.name ty) (not (t.driver == driver)) e).0).1

spelled_named : (driver : ℕ) (name : List ℕ) (ty : TypeRef) → ((own : List ℕ) → is_spelled_with own ty ≡ true → bytes_eq name own ≡ true)
    → (o : Option Entry) → is_spelled_foreign driver ty o ≡ true → has_name name o ≡ true
spelled_named driver name ty is None e = cc
spelled_named driver name ty is (Some t) e =
    let r = and_gives (is_host_type t.kind) (is_spelled_with t.signature.name ty) (and_gives (is_host_type t.kind && is_spelled_with t.signature.name ty) (not (t.driver == driver)) e).0 in
    and_from (is_bare t.kind) (bytes_eq t.signature.name name) (type_is_bare t.kind r.0) (nat_list_eq_equiv.symm t.signature.name name ∙ is t.signature.name r.1)

pub foreign_spelled : (V : RegistrationList) (ty : TypeRef) (driver : ℕ) (es : List EntityNo) → map (λ (e : EntityNo). e.0) es ≡ spelled V ty
    → list_any (λ (e : EntityNo). is_spelled_foreign driver ty (entry_at V e.0)) es ≡ list_any (is_spelled_foreign driver ty) V
unfolding find
foreign_spelled V ref.Void driver es row =
    among (is_spelled_foreign driver ref.Void) (λ o. false) (no_spelling driver ref.Void (λ name e. e)) V es (row ∙ no_number (numbers_of V))
foreign_spelled V (ref.Plain p) driver es row =
    among (is_spelled_foreign driver (ref.Plain p)) (λ o. false) (no_spelling driver (ref.Plain p) (λ name e. e)) V es (row ∙ no_number (numbers_of V))
foreign_spelled V (ref.Enumeration name) driver es row =
    among (is_spelled_foreign driver (ref.Enumeration name)) (has_name name) (spelled_named driver name (ref.Enumeration name) (λ own e. e)) V es row
foreign_spelled V (ref.Object name s o h) driver es row =
    among (is_spelled_foreign driver (ref.Object name s o h)) (has_name name) (spelled_named driver name (ref.Object name s o h) (λ own e. e)) V es row

-- ---- a test of the result and of each parameter

or_four : (a b c d : Bool) → ((a || b) || (c || d)) ≡ ((a || c) || (b || d))
or_four true b c d = refl
or_four false true true d = refl
or_four false true false d = refl
or_four false false true d = refl
or_four false false false d = refl

any_or : {A : Type 0} (f g : A → Bool) (xs : List A) → list_any (λ x. f x || g x) xs ≡ (list_any f xs || list_any g xs)
any_or f g [] = refl
any_or f g (x ∷ xs) = ap (λ r. (f x || g x) || r) (any_or f g xs) ∙ or_four (f x) (g x) (list_any f xs) (list_any g xs)

any_none : {A : Type 0} (xs : List A) → list_any (λ x. false) xs ≡ false
any_none [] = refl
any_none (x ∷ xs) = any_none xs

any_swapped : {A B : Type 0} (h : A → B → Bool) (xs : List A) (ys : List B) → list_any (λ y. list_any (λ x. h x y) xs) ys ≡ list_any (λ x. list_any (h x) ys) xs
any_swapped h xs [] = sym (any_none xs)
any_swapped h xs (y ∷ ys) = ap (λ r. list_any (λ x. h x y) xs || r) (any_swapped h xs ys) ∙ sym (any_or (λ x. h x y) (λ x. list_any (h x) ys) xs)

and_or : (a x y c : Bool) → ((a && (x || y)) && c) ≡ (((a && x) && c) || ((a && y) && c))
and_or false x y c = refl
and_or true true y true = refl
and_or true true true false = refl
and_or true true false false = refl
and_or true false y c = refl

any_and : {A : Type 0} (a c : Bool) (g : A → Bool) (xs : List A) → ((a && list_any g xs) && c) ≡ list_any (λ x. (a && g x) && c) xs
any_and true c g [] = refl
any_and false c g [] = refl
any_and a c g (x ∷ xs) = and_or a (g x) (list_any g xs) c ∙ ap (λ r. ((a && g x) && c) || r) (any_and a c g xs)

foreign_split : (s : Signature) (driver : ℕ) (o : Option Entry) → is_foreign s driver o ≡ (is_spelled_foreign driver s.result o || list_any (λ (p : Param). is_spelled_foreign driver p.ty o) s.params)
foreign_split s driver None = sym (any_none s.params)
foreign_split s driver (Some t) =
    let name = t.signature.name in
    let other = not (t.driver == driver) in
    and_or (is_host_type t.kind) (is_spelled_with name s.result) (list_any (λ (p : Param). is_spelled_with name p.ty) s.params) other
    ∙ ap (λ r. ((is_host_type t.kind && is_spelled_with name s.result) && other) || r) (any_and (is_host_type t.kind) other (λ (p : Param). is_spelled_with name p.ty) s.params)

pub foreign_named : (V : RegistrationList) (s : Signature) (driver : ℕ)
    → (list_any (is_spelled_foreign driver s.result) V || list_any (λ (p : Param). list_any (is_spelled_foreign driver p.ty) V) s.params) ≡ list_any (is_foreign s driver) V
foreign_named V s driver =
    ap (λ r. list_any (is_spelled_foreign driver s.result) V || r) (sym (any_swapped (λ (p : Param) o. is_spelled_foreign driver p.ty o) s.params V))
    ∙ sym (any_or (is_spelled_foreign driver s.result) (λ o. list_any (λ (p : Param). is_spelled_foreign driver p.ty o) s.params) V)
    ∙ sym (λ i. list_any (λ o. foreign_split s driver o i) V)

pub or_first : (a b : Bool) → a ≡ true → a ≡ (a || b)
or_first true b e = refl
or_first false b e = cc

pub or_second : (a b : Bool) → a ≡ false → b ≡ (a || b)
or_second true b e = cc
or_second false b e = refl
