-- Each list that a registry makes has one type or enumeration of a name, and values under the masks of their enumerations.
use Rattle.std.specs.Prelude.{◌≡◌, ◌+◌, ◌<◌, ◌==◌, ℕ, ℤ, zero, suc, Bool, true, false, ◌||◌, cond, length, List, [], ◌∷◌, ◌++◌, Option, Some, None}
use Rattle.std.specs.List.{list_any}
use Rattle.std.proofs.Common.{arith, refl, ap, sym, subst, ◌∙◌, ◌⊎◌, inl, inr}
use Rattle.std.proofs.lemmas.List.{length-append}
use Rattle.std.proofs.lemmas.Slice.Eq.{bytes_eq-Decides}
use Rattle.ang_kinds.specs.declared.mask.EntityNo.{EntityNo}
use Rattle.ang_kinds.specs.declared.types.Signature.{Signature}
use Rattle.ang_lex.specs.Spelling.{is_identifier}
use Rattle.ang_view.specs.declared.entry.Entry.{Entry}
use Rattle.ang_view.specs.declared.entry.EntryKind.{EntryKind}
use Rattle.ang_view.specs.declared.entry.EntryKind.TheVariants as entry
use Rattle.ang_view.specs.declared.group.Group.{Group}
use Rattle.ang_view.specs.Groups.{group_named, left_outside}
use Rattle.ang_view.specs.Named.{is_bare, is_value}
use Rattle.ang_view.specs.Only.{only, IsWithin}
use Rattle.ang_view.specs.Registration.{RegistrationList, entry_at, is_type, mentions}
use Rattle.ang_view.specs.Types.{enumeration_named, is_enumeration_named, number_at, type_named}
use Rattle.ang_view.proofs.Keeping.{length-only, only_within}
use Rattle.ang_view.proofs.Seen.{position-passes}
use Rattle.ang_registry.specs.declared.error.RegError.{RegError}
use Rattle.ang_registry.specs.declared.error.RegError.TheVariants as error
use Rattle.ang_registry.specs.Declarations.{declared_factory, declared_function, declared_method, declared_property, declared_type, type_signature}
use Rattle.ang_registry.specs.Groups.{refusal_of_begin, refusal_of_end, refusal_of_removal, where_found, with_ended, with_opened, without}
use Rattle.ang_registry.specs.Overloads.{clashes, is_taken}
use Rattle.ang_registry.specs.Refusals.{is_over_limit, refusal_of_blank, refusal_of_enumeration, refusal_of_factory, refusal_of_function, refusal_of_global, refusal_of_method, refusal_of_own, refusal_of_property, refusal_of_type, refusal_of_value, with_blank, with_entry_in, with_enumeration, with_factory, with_function, with_global, with_method, with_own, with_property, with_type, with_value, with_value_at}
use Rattle.ang_registry.specs.Registrations.{Registrations, grouped}
use Rattle.ang_registry.specs.Types.{is_misused, is_wrong_driver, mask_at, mask_by, names_unknown, settled}
use Rattle.ang_check_laws.specs.Beyond.{IsRegistered}
use Rattle.ang_check_laws.specs.Registered.{RegistryCall, set_default_mask, type_, factory, method, property, function, global_property, enum_, enum_value, blank, begin_group, end_group, remove_group, close, where_accepted, after_call, after_calls, nothing}

-- ---- a list, and one with an entry more

-- and a value's enumeration stands in the list, or stood there
record IsMade (R : RegistrationList) : Type 0 where
  registered : IsRegistered R
  within : (n k : ℕ) (x : Entry) → entry_at R n ≡ Some x → is_value x.kind ≡ true → x.owner ≡ Some (record { 0 = k }) → k < length R

-- what an entry has to be to join the list
record IsFresh (R : RegistrationList) (x : Entry) : Type 0 where
  types : is_type x.kind ≡ true → (k : ℕ) (y : Entry) → entry_at R k ≡ Some y → is_type y.kind ≡ true → y.signature.name ≡ x.signature.name → ⊥
  values : is_value x.kind ≡ true → (name : List ℕ) → mentions x.signature name ≡ false
  masks : is_value x.kind ≡ true → (k : ℕ) → x.owner ≡ Some (record { 0 = k }) → (y : Entry) → entry_at R k ≡ Some y → x.mask ≡ y.mask
  within : is_value x.kind ≡ true → (k : ℕ) → x.owner ≡ Some (record { 0 = k }) → k < length R

later : (R : RegistrationList) (o q : Option Entry) (n : ℕ) (x : Entry) → (entry_at R n ≡ Some x) ⊎ ((n ≡ length R) × (o ≡ Some x))
    → (entry_at (q ∷ R) (suc n) ≡ Some x) ⊎ ((suc n ≡ suc (length R)) × (o ≡ Some x))
later R o q n x (inl e) = inl e
later R o q n x (inr e) = inr (ap suc e.0, e.1)

-- what stands in a list with one more is of the list, or is that one
old_or_new : (R : RegistrationList) (o : Option Entry) (n : ℕ) (x : Entry) → entry_at (R ++ o ∷ []) n ≡ Some x
    → (entry_at R n ≡ Some x) ⊎ ((n ≡ length R) × (o ≡ Some x))
old_or_new [] o zero x e = inr (refl, e)
old_or_new [] o (suc n) x e = cc
old_or_new (q ∷ R) o zero x e = inl e
old_or_new (q ∷ R) o (suc n) x e = later R o q n x (old_or_new R o n x e)

one_longer : (R : RegistrationList) (o : Option Entry) → length (R ++ o ∷ []) ≡ length R + 1
one_longer R o = length-append R (o ∷ [])

module _ (R : RegistrationList) (o : Option Entry) (made : IsMade R) (fresh : (x : Entry) → o ≡ Some x → IsFresh R x) where
  abbrev Stands : ℕ → Entry → Type 0
  Stands n x = (entry_at R n ≡ Some x) ⊎ ((n ≡ length R) × (o ≡ Some x))

  types_by : (j k : ℕ) (x y : Entry) → Stands j x → Stands k y → is_type x.kind ≡ true → is_type y.kind ≡ true → x.signature.name ≡ y.signature.name → j ≡ k
  types_by j k x y (inl e) (inl f) a b same = made.registered.types j k x y e f a b same
  types_by j k x y (inl e) (inr f) a b same = absurd ((fresh y f.1).types b j x e a same)
  types_by j k x y (inr e) (inl f) a b same = absurd ((fresh x e.1).types a k y f b (sym same))
  types_by j k x y (inr e) (inr f) a b same = e.0 ∙ sym f.0

  values_by : (n : ℕ) (x : Entry) → Stands n x → is_value x.kind ≡ true → (name : List ℕ) → mentions x.signature name ≡ false
  values_by n x (inl e) v name = made.registered.values n x e v name
  values_by n x (inr e) v name = (fresh x e.1).values v name

  masks_by : (n k : ℕ) (x y : Entry) → Stands n x → Stands k y → is_value x.kind ≡ true → x.owner ≡ Some (record { 0 = k }) → x.mask ≡ y.mask
  masks_by n k x y (inl e) (inl f) v own = made.registered.masks n k x y e v own f
  masks_by n k x y (inl e) (inr f) v own =
      let lt = made.within n k x e v own in let at = f.0 in absurd (omega (arith, lt, at))
  masks_by n k x y (inr e) (inl f) v own = (fresh x e.1).masks v k own y f
  masks_by n k x y (inr e) (inr f) v own =
      let lt = (fresh x e.1).within v k own in let at = f.0 in absurd (omega (arith, lt, at))

  within_by : (n k : ℕ) (x : Entry) → Stands n x → is_value x.kind ≡ true → x.owner ≡ Some (record { 0 = k }) → k < length (R ++ o ∷ [])
  within_by n k x (inl e) v own = let lt = made.within n k x e v own in let more = one_longer R o in omega (arith, lt, more)
  within_by n k x (inr e) v own = let lt = (fresh x e.1).within v k own in let more = one_longer R o in omega (arith, lt, more)

  with_one_more : IsMade (R ++ o ∷ [])
  with_one_more = record {
    registered = record {
      types = λ j k x y e f. types_by j k x y (old_or_new R o j x e) (old_or_new R o k y f);
      values = λ n x e. values_by n x (old_or_new R o n x e);
      masks = λ n k x y e v own f. masks_by n k x y (old_or_new R o n x e) (old_or_new R o k y f) v own;
    };
    within = λ n k x e. within_by n k x (old_or_new R o n x e);
  }

-- what is left of a list
left_of : (R W : RegistrationList) → IsMade R → IsWithin W R → length W ≡ length R → IsMade W
left_of R W made part many = record {
  registered = record {
    types = λ j k x y e f. made.registered.types j k x y (part j x e) (part k y f);
    values = λ n x e. made.registered.values n x (part n x e);
    masks = λ n k x y e v own f. made.registered.masks n k x y (part n x e) v own (part k y f);
  };
  within = λ n k x e v own. let lt = made.within n k x (part n x e) v own in omega (arith, lt, many);
}

-- ---- an entry of each kind

is_other : (R : RegistrationList) (x : Entry) → is_type x.kind ≡ false → is_value x.kind ≡ false → IsFresh R x
is_other R x a b = record {
  types = λ e. let no' : false ≡ true = sym a ∙ e in cc;
  values = λ e. let no' : false ≡ true = sym b ∙ e in cc;
  masks = λ e. let no' : false ≡ true = sym b ∙ e in cc;
  within = λ e. let no' : false ≡ true = sym b ∙ e in cc;
}

type_is_no_value : (k : EntryKind) → is_type k ≡ true → is_value k ≡ false
type_is_no_value entry.HostType e = refl
type_is_no_value entry.Factory e = cc
type_is_no_value entry.Method e = cc
type_is_no_value entry.Property e = cc
type_is_no_value entry.Function e = cc
type_is_no_value entry.Global e = cc
type_is_no_value entry.Enumeration e = refl
type_is_no_value (entry.EnumValue v) e = cc

type_is_bare : (k : EntryKind) → is_type k ≡ true → is_bare k ≡ true
type_is_bare entry.HostType e = refl
type_is_bare entry.Factory e = cc
type_is_bare entry.Method e = cc
type_is_bare entry.Property e = cc
type_is_bare entry.Function e = cc
type_is_bare entry.Global e = cc
type_is_bare entry.Enumeration e = refl
type_is_bare (entry.EnumValue v) e = cc

either_none : (a b : Bool) → (a || b) ≡ false → (a ≡ false) × (b ≡ false)
either_none true b e = cc
either_none false b e = (refl, e)

none_of : (p : Option Entry → Bool) (R : RegistrationList) → p None ≡ false → list_any p R ≡ false → (k : ℕ) → p (entry_at R k) ≡ false
none_of p [] off e k = off
none_of p (y ∷ ys) off e zero = (either_none (p y) _ e).0
none_of p (y ∷ ys) off e (suc k) = none_of p ys off (either_none (p y) _ e).1 k

-- a type clashes with each type and enumeration of its name
clashing : (kind : EntryKind) (s : Signature) (y : Entry) → is_type kind ≡ true → is_type y.kind ≡ true → y.signature.name ≡ s.name
    → clashes kind None s (Some y) ≡ true
clashing entry.HostType s y t u same =
    let bare = type_is_bare y.kind u in let equal = (bytes_eq-Decides y.signature.name s.name).1 same in rw (bare, equal) refl
clashing entry.Factory s y t u same = cc
clashing entry.Method s y t u same = cc
clashing entry.Property s y t u same = cc
clashing entry.Function s y t u same = cc
clashing entry.Global s y t u same = cc
clashing entry.Enumeration s y t u same =
    let bare = type_is_bare y.kind u in let equal = (bytes_eq-Decides y.signature.name s.name).1 same in rw (bare, equal) refl
clashing (entry.EnumValue v) s y t u same = cc

free_name : (R : RegistrationList) (kind : EntryKind) (s : Signature) → is_taken R kind None s ≡ false → is_type kind ≡ true
    → (k : ℕ) (y : Entry) → entry_at R k ≡ Some y → is_type y.kind ≡ true → y.signature.name ≡ s.name → ⊥
unfolding is_taken
free_name R kind s off t k y e u same =
    let at : clashes kind None s (entry_at R k) ≡ false = none_of (clashes kind None s) R refl off k in
    let no' : true ≡ false = sym (clashing kind s y t u same) ∙ ap (clashes kind None s) (sym e) ∙ at in cc

skipped : (b : Bool) (why : RegError) (rest : Option RegError) → cond b (Some why) rest ≡ None → (b ≡ false) × (rest ≡ None)
skipped true why rest e = cc
skipped false why rest e = (refl, e)

not_taken : (kind : EntryKind) (r : Registrations) (driver : ℕ) (s : Signature) → refusal_of_own kind r driver (Some s) ≡ None
    → is_taken r.entries kind None s ≡ false
unfolding refusal_of_own
not_taken kind r driver s e =
    let taken = is_taken r.entries kind None s in
    let foreign = is_wrong_driver r.entries kind driver s in
    let unknown = names_unknown r.entries s in
    let misused = is_misused r.entries s in
    let last = cond taken (Some error.Duplicate) None in
    let fifth = cond foreign (Some error.WrongDriver) last in
    let fourth = cond unknown (Some error.UnknownType) fifth in
    let third = cond misused (Some error.BadDeclaration) fourth in
    let second = cond (r.default_mask.0 == 0) (Some error.EmptyMask) third in
    let a = (skipped (is_over_limit r.entries (Some s)) error.Limit second e).1 in
    let b = (skipped (r.default_mask.0 == 0) error.EmptyMask third a).1 in
    let c = (skipped misused error.BadDeclaration fourth b).1 in
    let d = (skipped unknown error.UnknownType fifth c).1 in
    let f = (skipped foreign error.WrongDriver last d).1 in
    (skipped taken error.Duplicate None f).0

same_some : (x y : Entry) → Some x ≡ Some y → x ≡ y
same_some x y e = cc

own_made : (kind : EntryKind) (r : Registrations) (driver f : ℕ) (d : Option Signature) → is_value kind ≡ false → IsMade r.entries
    → refusal_of_own kind r driver d ≡ None → IsMade (with_own kind r driver f d).entries
own_made kind r driver f None v made e = made
own_made kind r driver f (Some s) v made e =
    let x : Entry = record { kind = kind; owner = None; driver = driver; f = f; signature = s; mask = r.default_mask } in
    let fresh : IsFresh r.entries x = record {
      types = λ t. free_name r.entries kind s (not_taken kind r driver s e) t;
      values = λ t. let no' : false ≡ true = sym v ∙ t in cc;
      masks = λ t. let no' : false ≡ true = sym v ∙ t in cc;
      within = λ t. let no' : false ≡ true = sym v ∙ t in cc;
    } in
    with_one_more r.entries (Some x) made (λ y same. subst (IsFresh r.entries) (same_some x y same) fresh)

member_made : (kind : EntryKind) (r : Registrations) (place : Option ℕ) (f : ℕ) (d : Option Signature) → is_type kind ≡ false → is_value kind ≡ false
    → IsMade r.entries → IsMade (with_entry_in kind r place f d).entries
member_made kind r place f None t v made = made
member_made kind r place f (Some s) t v made =
    with_one_more r.entries _ made
    (λ y same. let of_kind : y.kind ≡ kind = same_kind _ y same in is_other r.entries y (ap is_type of_kind ∙ t) (ap is_value of_kind ∙ v))
  where
    same_kind : (x y : Entry) → Some x ≡ Some y → y.kind ≡ x.kind
    same_kind x y e = ap (λ (z : Entry). z.kind) (sym (same_some x y e))

-- ---- a value of an enumeration

number_in : Option EntityNo → ℕ
number_in None = 0
number_in (Some e) = e.0

same_number : (n k : ℕ) → number_at (Some n) ≡ Some (record { 0 = k }) → n ≡ k
unfolding number_in
same_number n k e = ap number_in e

value_fresh : (R : RegistrationList) (value : ℤ) (place : Option ℕ) (name : List ℕ) → ((n : ℕ) → place ≡ Some n → n < length R)
    → IsFresh R (record { kind = entry.EnumValue value; owner = number_at place; driver = 0; f = 0; signature = type_signature name; mask = mask_at R place })
value_fresh R value None name lt = record {
  types = λ t. cc;
  values = λ v other. refl;
  masks = λ v k own. cc;
  within = λ v k own. cc;
}
value_fresh R value (Some n) name lt = record {
  types = λ t. cc;
  values = λ v other. refl;
  masks = λ v k own y e. ap mask_by (ap (entry_at R) (same_number n k own) ∙ e);
  within = λ v k own. subst (λ j. j < length R) (same_number n k own) (lt n refl);
}

value_made : (r : Registrations) (value : ℤ) (place : Option ℕ) (name : List ℕ) (b : Bool) → ((n : ℕ) → place ≡ Some n → n < length r.entries)
    → IsMade r.entries → IsMade (with_value_at value r place (cond b (Some (type_signature name)) None)).entries
value_made r value place name true lt made =
    with_one_more r.entries _ made (λ y same. subst (IsFresh r.entries) (same_some _ y same) (value_fresh r.entries value place name lt))
value_made r value place name false lt made = made

inside : (R : RegistrationList) (name : List ℕ) (n : ℕ) → enumeration_named R name ≡ Some n → n < length R
unfolding enumeration_named
inside R name n e = (position-passes (is_enumeration_named name) R n None e).0

-- ---- each call

accepted_made : {E : Type 0} (o : Option E) (new old : Registrations) → IsMade old.entries → (o ≡ None → IsMade new.entries)
    → IsMade (where_accepted o new old).entries
accepted_made None new old made h = h refl
accepted_made (Some why) new old made h = made

removed_made : (r : Registrations) (g : Option Group) → IsMade r.entries → IsMade (where_found r g).entries
removed_made r None made = made
removed_made r (Some g) made =
    let keep : ℕ → Bool = left_outside g in
    left_of r.entries (only keep r.entries) made (only_within keep r.entries) (length-only keep r.entries)

ended_made : (r : Registrations) (b : Bool) → IsMade r.entries → IsMade (cond b (with_ended r) r).entries
ended_made r true made = made
ended_made r false made = made

call_made : (r : Registrations) (c : RegistryCall) → IsMade r.entries → IsMade (after_call r c).entries
call_made r (set_default_mask mask) made = made
call_made r (type_ name driver) made =
    let d = declared_type name in
    accepted_made (refusal_of_type r driver d) (with_type r driver d) r made (λ e. own_made entry.HostType r driver 0 (settled r.entries d) refl made e)
call_made r (factory name f text) made =
    let d = declared_factory text in
    accepted_made (refusal_of_factory r name d) (with_factory r name f d) r made
    (λ e. member_made entry.Factory r (type_named r.entries name) f (settled r.entries d) refl refl made)
call_made r (method name f text) made =
    let d = declared_method text in
    accepted_made (refusal_of_method r name d) (with_method r name f d) r made
    (λ e. member_made entry.Method r (type_named r.entries name) f (settled r.entries d) refl refl made)
call_made r (property name f text) made =
    let d = declared_property text in
    accepted_made (refusal_of_property r name d) (with_property r name f d) r made
    (λ e. member_made entry.Property r (type_named r.entries name) f (settled r.entries d) refl refl made)
call_made r (function driver f text) made =
    let d = declared_function text in
    accepted_made (refusal_of_function r driver d) (with_function r driver f d) r made
    (λ e. own_made entry.Function r driver f (settled r.entries d) refl made e)
call_made r (global_property driver f text) made =
    let d = declared_property text in
    accepted_made (refusal_of_global r driver d) (with_global r driver f d) r made
    (λ e. own_made entry.Global r driver f (settled r.entries d) refl made e)
call_made r (enum_ name) made =
    let d = declared_type name in
    accepted_made (refusal_of_enumeration r d) (with_enumeration r d) r made (λ e. own_made entry.Enumeration r 0 0 (settled r.entries d) refl made e)
call_made r (enum_value enumeration name value) made =
    let d = declared_type name in
    accepted_made (refusal_of_value r enumeration value d) (with_value r enumeration value d) r made
    (λ e. value_made r value (enumeration_named r.entries enumeration) name (is_identifier name) (inside r.entries enumeration) made)
call_made r blank made =
    accepted_made (refusal_of_blank r) (with_blank r) r made (λ e. with_one_more r.entries None made (λ x no'. cc))
call_made r (begin_group name) made = accepted_made (refusal_of_begin r name) (with_opened r name) r made (λ e. made)
call_made r end_group made = accepted_made (refusal_of_end r) (with_ended r) r made (λ e. made)
call_made r (remove_group name) made =
    accepted_made (refusal_of_removal r name) (without r name) r made (λ e. removed_made r (group_named name (grouped r)) made)
call_made r close made = ended_made r r.is_open made

calls_made : (r : Registrations) (cs : List RegistryCall) → IsMade r.entries → IsMade (after_calls r cs).entries
calls_made r [] made = made
calls_made r (c ∷ cs) made = calls_made (after_call r c) cs (call_made r c made)

nothing_made : IsMade []
nothing_made = record {
  registered = record {
    types = λ j k x y e. cc;
    values = λ n x e. cc;
    masks = λ n k x y e. cc;
  };
  within = λ n k x e. cc;
}

pub each_registered : (cs : List RegistryCall) → IsRegistered (after_calls nothing cs).entries
each_registered cs = (calls_made nothing cs nothing_made).registered
