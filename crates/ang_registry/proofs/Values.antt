-- Lists that registrations made take values alone, and so does what a mask sees of them.
use Rattle.std.specs.Prelude.{◌≡◌, ℕ, ℤ, ◌≤◌, Bool, true, false, not, ◌&&◌, ◌||◌, is_none, is_some, if◌then◌else◌, length, List, [], ◌∷◌, ◌++◌, map, Option, Some, None, Result, Ok, Err, IfOk}
use Rattle.std.proofs.Common.{refl, ap, sym, ◌∙◌, subst}
use Rattle.std.proofs.lemmas.List.{length-map}
use Rattle.ang_kinds.specs.declared.types.Param.{Param}
use Rattle.ang_kinds.specs.declared.types.Signature.{Signature}
use Rattle.ang_kinds.specs.declared.types.TypeRef.{TypeRef}
use Rattle.ang_kinds.specs.declared.types.TypeRef.TheVariants as ref
use Rattle.ang_lex.specs.declared.token.Token.{Token}
use Rattle.ang_lex.specs.declared.token.TokenKind.{TokenKind}
use Rattle.ang_lex.specs.declared.token.TokenKind.TheVariants as k
use Rattle.ang_lex.specs.declared.error.LexError.{LexError}
use Rattle.ang_lex.specs.Tokens.{tokens_of}
use Rattle.ang_lex.specs.Spelling.{is_identifier}
use Rattle.ang_parse_read.specs.Law.{all_of}
use Rattle.ang_parse_read.specs.Read.{Outcome, Parser}
use Rattle.ang_decl.specs.declared.error.DeclError.{DeclError}
use Rattle.ang_decl.specs.declared.error.DeclError.TheVariants.{Syntax, Unsupported}
use Rattle.ang_decl.specs.declared.tree.HostHandle.{HostHandle}
use Rattle.ang_decl.specs.declared.tree.HostParameter.{HostParameter}
use Rattle.ang_decl.specs.declared.tree.HostProperty.{HostProperty}
use Rattle.ang_decl.specs.declared.tree.HostType.{HostType}
use Rattle.ang_decl.specs.Parsed as text
use Rattle.ang_decl.specs.Parsed.{judged, judged_tokens}
use Rattle.ang_decl.specs.Read.{a_function, a_property}
use Rattle.ang_decl.specs.Signatures.{is_value_kind, is_function_left_out, is_factory_left_out, is_property_left_out, shape_of, type_by, param_of, function_signature, property_signature}
use Rattle.ang_view.specs.declared.entry.Entry.{Entry}
use Rattle.ang_view.specs.declared.entry.EntryKind.{EntryKind}
use Rattle.ang_view.specs.declared.entry.EntryKind.TheVariants as entry
use Rattle.ang_registry.specs.Declarations.{signature_in, declared_function, declared_method, declared_factory, declared_property, declared_type, type_signature}
use Rattle.ang_view.specs.Registration.{RegistrationList, is_seen, seen_entry, seen}
use Rattle.ang_view.specs.Types.{type_named}
use Rattle.ang_view.specs.Values.{AreValues, IsPrimitive, IsProperty, IsOfKind, SignatureTakesValues, EntryTakesValues, TakesValues}
use Rattle.ang_registry.specs.Overloads.{is_handle}
use Rattle.ang_registry.specs.Types.{has_enumeration, settled_type, settled_param, settled_signature, settled, is_misused_type, is_misused, is_known, names_unknown}
use Rattle.ang_registry.specs.Written.{IsValueType, IsWrittenProperty, IsWrittenOf, WritesValues, DeclaresWritten}

-- a view has no more declarations than the list
seen_values : (list : RegistrationList) (m : ℕ) (x : Option Entry) → EntryTakesValues x → EntryTakesValues (seen_entry list m x)
seen_values list m None h = tt
seen_values list m (Some x) h = seen_value (is_seen list m x)
  where
    seen_value : (b : Bool) → EntryTakesValues (if b then Some x else None)
    seen_value true = h
    seen_value false = tt

seen_all : (list : RegistrationList) (m : ℕ) (xs : RegistrationList) → TakesValues xs → TakesValues (map (seen_entry list m) xs)
seen_all list m [] h = tt
seen_all list m (x ∷ xs) h = (seen_values list m x h.0, seen_all list m xs h.1)

pub seen_takes : (list : RegistrationList) (m : ℕ) → TakesValues list → TakesValues (seen list m)
unfolding seen
seen_takes list m h = seen_all list m list h

-- ---- one more

pub last_takes : (xs : RegistrationList) (x : Option Entry) → TakesValues xs → EntryTakesValues x → TakesValues (xs ++ x ∷ [])
last_takes [] x h k = (k, tt)
last_takes (y ∷ ys) x h k = (h.0, last_takes ys x h.1 k)

-- ---- what is declared

params_values : (text : List ℕ) (ps : List HostParameter) → AreValues (map (param_of text) ps)
params_values text [] = tt
params_values text (p ∷ ps) = ((λ e. cc), params_values text ps)

-- what was read and judged has what each signature has that is not left out
judged_has : {A : Type 0} (P : Signature → Type 0) (form left_out : A → Bool) (signature : A → Signature) (o : Outcome A)
    → ((a : A) → left_out a ≡ false → P (signature a)) → IfOk (judged form left_out signature o) P
judged_has P form left_out signature (Err f) g = tt
judged_has P form left_out signature (Ok p) g = by (form p.0) (left_out p.0) refl
  where
    by : (b c : Bool) → left_out p.0 ≡ c → IfOk (if b then (if c then Err Unsupported else Ok (signature p.0)) else Err Syntax) P
    by true true e = tt
    by true false e = g p.0 e
    by false c e = tt

tokens_have : {A : Type 0} (P : Signature → Type 0) (reader : ℕ → Parser A) (form left_out : A → Bool) (signature : A → Signature)
    (ts : Result (List Token) LexError) → ((a : A) → left_out a ≡ false → P (signature a)) → IfOk (judged_tokens reader form left_out signature ts) P
tokens_have P reader form left_out signature (Err e) g = tt
tokens_have P reader form left_out signature (Ok ts) g = judged_has P form left_out signature (all_of reader ts) g

signature_declares : (kind : EntryKind) (s : Result Signature DeclError) → IfOk s (WritesValues kind) → DeclaresWritten kind (signature_in s)
signature_declares kind (Ok s) h = h
signature_declares kind (Err e) h = tt

function_declares : (decl : List ℕ) → DeclaresWritten entry.Function (declared_function decl)
unfolding text.declared_function
function_declares decl = signature_declares entry.Function (text.declared_function decl)
    (tokens_have (WritesValues entry.Function) a_function text.is_function_form is_function_left_out (function_signature decl) (tokens_of 0 decl)
    (λ f e. record { params = params_values decl f.parameters.items; of_kind = tt }))

method_declares : (decl : List ℕ) → DeclaresWritten entry.Method (declared_method decl)
unfolding text.declared_method
method_declares decl = signature_declares entry.Method (text.declared_method decl)
    (tokens_have (WritesValues entry.Method) a_function text.of_any_form is_function_left_out (function_signature decl) (tokens_of 0 decl)
    (λ f e. record { params = params_values decl f.parameters.items; of_kind = tt }))

factory_declares : (decl : List ℕ) → DeclaresWritten entry.Factory (declared_factory decl)
unfolding text.declared_factory
factory_declares decl = signature_declares entry.Factory (text.declared_factory decl)
    (tokens_have (WritesValues entry.Factory) a_function text.is_factory_form is_factory_left_out (function_signature decl) (tokens_of 0 decl)
    (λ f e. record { params = params_values decl f.parameters.items; of_kind = tt }))

-- a property's type is primitive or a bare name, as it is not left out
no_handle : (h : Option HostHandle) → not (is_none h) ≡ false → is_handle (shape_of h) ≡ false
no_handle None e = refl
no_handle (Some h) e = cc

type_value : (text : List ℕ) (y : HostType) (kind : TokenKind) → not (is_value_kind kind && is_none y.handle) ≡ false → IsValueType (type_by text y kind)
type_value text y (k.Primitive p) e = tt
type_value text y k.Name e = no_handle y.handle e
type_value text y _ e = absurd cc

property_value : (decl : List ℕ) (p : HostProperty) → is_property_left_out p ≡ false → IsValueType (property_signature decl p).result
property_value decl p e = type_value decl p.declared_type p.declared_type.name.kind e

property_formed : (decl : List ℕ) (p : HostProperty) → is_property_left_out p ≡ false → IsWrittenProperty (property_signature decl p)
property_formed decl p e = record { takes_nothing = refl; value = property_value decl p e }

-- both kinds of properties are declared so
property_declares : (kind : EntryKind) → ((s : Signature) → IsWrittenProperty s → IsWrittenOf kind s) → (decl : List ℕ) → DeclaresWritten kind (declared_property decl)
unfolding text.declared_property
property_declares kind formed decl = signature_declares kind (text.declared_property decl)
    (tokens_have (WritesValues kind) (λ n. a_property) text.of_any_form is_property_left_out (property_signature decl) (tokens_of 0 decl)
    (λ p e. record { params = tt; of_kind = formed (property_signature decl p) (property_formed decl p e) }))

-- a name alone
name_declares : (kind : EntryKind) (name : List ℕ) → IsWrittenOf kind (type_signature name) → DeclaresWritten kind (declared_type name)
name_declares kind name h = by (is_identifier name)
  where
    by : (b : Bool) → DeclaresWritten kind (if b then Some (type_signature name) else None)
    by true = record { params = tt; of_kind = h }
    by false = tt

pub function_values : (decl : List ℕ) (d : Option Signature) → d ≡ declared_function decl → DeclaresWritten entry.Function d
function_values decl d e = subst (DeclaresWritten entry.Function) (sym e) (function_declares decl)

pub method_values : (decl : List ℕ) (d : Option Signature) → d ≡ declared_method decl → DeclaresWritten entry.Method d
method_values decl d e = subst (DeclaresWritten entry.Method) (sym e) (method_declares decl)

pub factory_values : (decl : List ℕ) (d : Option Signature) → d ≡ declared_factory decl → DeclaresWritten entry.Factory d
factory_values decl d e = subst (DeclaresWritten entry.Factory) (sym e) (factory_declares decl)

pub property_values : (decl : List ℕ) (d : Option Signature) → d ≡ declared_property decl → DeclaresWritten entry.Property d
property_values decl d e = subst (DeclaresWritten entry.Property) (sym e) (property_declares entry.Property (λ s h. h) decl)

pub global_values : (decl : List ℕ) (d : Option Signature) → d ≡ declared_property decl → DeclaresWritten entry.Global d
global_values decl d e = subst (DeclaresWritten entry.Global) (sym e) (property_declares entry.Global (λ s h. h) decl)

pub type_values : (decl : List ℕ) (d : Option Signature) → d ≡ declared_type decl → DeclaresWritten entry.HostType d
type_values decl d e = subst (DeclaresWritten entry.HostType) (sym e) (name_declares entry.HostType decl tt)

pub enumeration_values : (decl : List ℕ) (d : Option Signature) → d ≡ declared_type decl → DeclaresWritten entry.Enumeration d
enumeration_values decl d e = subst (DeclaresWritten entry.Enumeration) (sym e) (name_declares entry.Enumeration decl tt)

pub enum_value_values : (v : ℤ) (decl : List ℕ) (d : Option Signature) → d ≡ declared_type decl → DeclaresWritten (entry.EnumValue v) d
enum_value_values v decl d e = subst (DeclaresWritten (entry.EnumValue v)) (sym e) (name_declares (entry.EnumValue v) decl tt)

-- ---- what is settled over the list

settled_params : (list : RegistrationList) (ps : List Param) → AreValues ps → AreValues (map (settled_param list) ps)
settled_params list [] h = tt
settled_params list (p ∷ ps) h = (h.0, settled_params list ps h.1)

settled_value : (list : RegistrationList) (ty : TypeRef) → IsValueType ty → IsValueType (settled_type list ty)
settled_value list ref.Void h = h
settled_value list (ref.Plain p) h = tt
settled_value list (ref.Enumeration n) h = tt
settled_value list (ref.Object n s o g) h = by (not (is_handle s) && has_enumeration list n)
  where
    by : (b : Bool) → IsValueType (if b then ref.Enumeration n else ref.Object n s o g)
    by true = tt
    by false = h

settled_property : (list : RegistrationList) (s : Signature) → IsWrittenProperty s → IsWrittenProperty (settled_signature list s)
settled_property list s h = record { takes_nothing = ap (map (settled_param list)) h.takes_nothing; value = settled_value list s.result h.value }

settled_of : (list : RegistrationList) (kind : EntryKind) (s : Signature) → IsWrittenOf kind s → IsWrittenOf kind (settled_signature list s)
settled_of list entry.HostType s h = tt
settled_of list entry.Factory s h = tt
settled_of list entry.Method s h = tt
settled_of list entry.Property s h = settled_property list s h
settled_of list entry.Function s h = tt
settled_of list entry.Global s h = settled_property list s h
settled_of list entry.Enumeration s h = tt
settled_of list (entry.EnumValue v) s h = tt

settled_writes : (list : RegistrationList) (kind : EntryKind) (d : Option Signature) → DeclaresWritten kind d → DeclaresWritten kind (settled list d)
settled_writes list kind None h = tt
settled_writes list kind (Some s) h = record { params = settled_params list s.params h.params; of_kind = settled_of list kind s h.of_kind }

pub settled_values : (list : RegistrationList) (kind : EntryKind) (d s : Option Signature) → s ≡ settled list d → DeclaresWritten kind d → DeclaresWritten kind s
settled_values list kind d s e h = subst (DeclaresWritten kind) (sym e) (settled_writes list kind d h)

-- ---- what is neither misused nor unknown

not_and : (a b : Bool) → not (a && b) ≡ false → a ≡ true
not_and true b e = refl
not_and false b e = cc

or_left : (a b : Bool) → (a || b) ≡ false → a ≡ false
or_left true b e = cc
or_left false b e = refl

bare_unknown : (h b : Bool) (o : Bool) → h ≡ false → (if h then b else o) ≡ false → o ≡ true → ⊥
bare_unknown true b o h u k = cc
bare_unknown false b o h u k = cc

value_primitive : (list : RegistrationList) (ty : TypeRef) → IsValueType ty → is_misused_type list ty ≡ false → is_known list ty ≡ true → IsPrimitive ty
value_primitive list ref.Void h u k = h
value_primitive list (ref.Plain p) h u k = tt
value_primitive list (ref.Enumeration n) h u k = tt
value_primitive list (ref.Object n s o g) h u k = bare_unknown (is_handle s) (has_enumeration list n) (is_some (type_named list n)) h u k

known_property : (list : RegistrationList) (s : Signature) → IsWrittenProperty s → is_misused list s ≡ false → names_unknown list s ≡ false → IsProperty s
unfolding is_misused names_unknown
known_property list s h u k = record {
  takes_nothing = h.takes_nothing;
  primitive = value_primitive list s.result h.value (or_left _ _ u) (not_and _ _ k);
}

known_of : (list : RegistrationList) (kind : EntryKind) (s : Signature) → IsWrittenOf kind s → is_misused list s ≡ false → names_unknown list s ≡ false → IsOfKind kind s
known_of list entry.HostType s h u k = tt
known_of list entry.Factory s h u k = tt
known_of list entry.Method s h u k = tt
known_of list entry.Property s h u k = known_property list s h u k
known_of list entry.Function s h u k = tt
known_of list entry.Global s h u k = known_property list s h u k
known_of list entry.Enumeration s h u k = tt
known_of list (entry.EnumValue v) s h u k = tt

pub written_takes : (list : RegistrationList) (kind : EntryKind) (s : Signature) → WritesValues kind s → is_misused list s ≡ false → names_unknown list s ≡ false
    → SignatureTakesValues kind s
written_takes list kind s h u k = record { params = h.params; of_kind = known_of list kind s h.of_kind u k }

pub view_values : {E : Type 0} (list : RegistrationList) (m : ℕ) (r : Result RegistrationList E) → TakesValues list
    → IfOk r (λ view. view ≡ seen list m) → IfOk r (λ view. TakesValues view)
view_values list m (Ok view) h e = subst TakesValues (sym e) (seen_takes list m h)
view_values list m (Err why) h e = tt

pub view_few : {E : Type 0} (list : RegistrationList) (m : ℕ) (r : Result RegistrationList E) → length list ≤ 1024
    → IfOk r (λ view. view ≡ seen list m) → IfOk r (λ view. length view ≤ 1024)
unfolding seen
view_few list m (Ok view) h e = subst (λ n. n ≤ 1024) (sym (ap length e ∙ length-map list (seen_entry list m))) h
view_few list m (Err why) h e = tt
