-- Methods of the families of some numbers, in their order.
use Rattle.std.specs.Prelude.{ℕ, ◌≡◌, ◌==◌, ◌<◌, ◌+◌, Bool, true, false, not, ◌&&◌, ◌||◌, if◌then◌else◌, List, [], ◌∷◌, ◌++◌, drop, filter, find, get_or, length, map, Option, Some, None, option_map, slice_get}
use Rattle.std.specs.List.{flat_map, list_any}
use Rattle.std.specs.Option.{option_or}
use Rattle.std.proofs.Common.{refl, sym, ap, ◌∙◌}
use Rattle.std.proofs.lemmas.List.{drop_more}
use Rattle.std.proofs.lemmas.List.Folds.{find-append, list_any-append}
use Rattle.ang_names_known.specs.declared.names.Family.{Family}
use Rattle.ang_names_known.specs.declared.names.ScriptMethod.{ScriptMethod}
use Rattle.ang_names_known.specs.Items.{is_empty}
use Rattle.ang_names_known.specs.Lookup as lookup
use Rattle.ang_names_known.specs.Lookup.{Numbered, FoundMethod, families_at, kin_of, method_in_slot, methods_of, stands_in, with_family}
use Rattle.ang_names.specs.Heirs.{cannot_override, of_interfaces, in_slot}
use Rattle.ang_names.specs.ByNumber.{interface_methods, interface_methods_at, methods_at, methods_in}

-- ---- the first that passes

pub first_append : {A : Type 0} (p : A → Bool) (xs ys : List A) → find p (xs ++ ys) ≡ option_or (find p xs) (find p ys)
first_append p xs ys = find-append p xs ys

-- of the lists that some numbers have, from a number on
pub first_from : {A : Type 0} (p : A → Bool) (f : ℕ → List A) (ns : List ℕ) (i : ℕ) → i < length ns
    → find p (flat_map f (drop i ns)) ≡ option_or (find p (f (get_or ns i 0))) (find p (flat_map f (drop (i + 1) ns)))
first_from p f ns i lt =
    ap (λ ms. find p (flat_map f ms)) (drop_more ns i 0 lt) ∙ first_append p (f (get_or ns i 0)) (flat_map f (drop (i + 1) ns))

-- ---- families of some numbers

one_family : (n : ℕ) (o : Option Family) (rest : List Numbered)
    → flat_map (λ (b : Numbered). b.1.methods) (with_family n o rest) ≡ methods_in o ++ flat_map (λ (b : Numbered). b.1.methods) rest
one_family n None rest = refl
one_family n (Some f) rest = refl

pub methods_known : (fs : List Family) (ns : List ℕ) → flat_map (λ (b : Numbered). b.1.methods) (families_at fs ns) ≡ methods_at fs ns
methods_known fs [] = refl
methods_known fs (n ∷ ns) =
    one_family n (slice_get fs n) (families_at fs ns) ∙ ap (λ ms. methods_in (slice_get fs n) ++ ms) (methods_known fs ns)

one_interface : (n : ℕ) (o : Option Family) (rest : List Numbered) → of_interfaces (with_family n o rest) ≡ interface_methods o ++ of_interfaces rest
one_interface n None rest = refl
one_interface n (Some f) rest = refl

pub interfaces_at : (fs : List Family) (ns : List ℕ) → of_interfaces (families_at fs ns) ≡ interface_methods_at fs ns
interfaces_at fs [] = refl
interfaces_at fs (n ∷ ns) =
    one_interface n (slice_get fs n) (families_at fs ns) ∙ ap (λ ms. interface_methods (slice_get fs n) ++ ms) (interfaces_at fs ns)

-- ---- the method in a slot

found_if : (b : Bool) (n : ℕ) (m : ScriptMethod) (o : Option FoundMethod) (p : Option ScriptMethod) → p ≡ option_map (λ (x : FoundMethod). x.method) o
    → (if b then Some m else p) ≡ option_map (λ (x : FoundMethod). x.method) (if b then Some (record { owner = n; method = m }) else o)
found_if true n m o p h = refl
found_if false n m o p h = h

found_in : (slot n : ℕ) (ms : List ScriptMethod)
    → find (λ (m : ScriptMethod). m.slot == slot) ms ≡ option_map (λ (x : FoundMethod). x.method) (find (stands_in slot) (map (λ (x : ScriptMethod). record { owner = n; method = x }) ms))
found_in slot n [] = refl
found_in slot n (m ∷ ms) = found_if (m.slot == slot) n m (find (stands_in slot) (map (λ (x : ScriptMethod). record { owner = n; method = x }) ms)) _ (found_in slot n ms)

found_or : (o p : Option FoundMethod) (a b : Option ScriptMethod) → a ≡ option_map (λ (x : FoundMethod). x.method) o → b ≡ option_map (λ (x : FoundMethod). x.method) p
    → option_or a b ≡ option_map (λ (x : FoundMethod). x.method) (option_or o p)
found_or None p a b h k = ap (λ x. option_or x b) h ∙ k
found_or (Some x) p a b h k = ap (λ y. option_or y b) h

found_of : (slot : ℕ) (fs : List Numbered)
    → find (λ (m : ScriptMethod). m.slot == slot) (flat_map (λ (b : Numbered). b.1.methods) fs)
    ≡ option_map (λ (x : FoundMethod). x.method) (find (stands_in slot) (flat_map lookup.methods_in fs))
found_of slot [] = refl
found_of slot (f ∷ fs) =
    find-append (λ (m : ScriptMethod). m.slot == slot) f.1.methods (flat_map (λ (b : Numbered). b.1.methods) fs)
    ∙ found_or (find (stands_in slot) (lookup.methods_in f)) (find (stands_in slot) (flat_map lookup.methods_in fs)) _ _ (found_in slot f.0 f.1.methods) (found_of slot fs)
    ∙ ap (option_map (λ (x : FoundMethod). x.method)) (sym (find-append (stands_in slot) (lookup.methods_in f) (flat_map lookup.methods_in fs)))

pub slot_known : (fs : List Family) (c slot : ℕ) (ns : List ℕ) → families_at fs ns ≡ kin_of fs c
    → find (λ (m : ScriptMethod). m.slot == slot) (methods_at fs ns) ≡ option_map (λ (x : FoundMethod). x.method) (method_in_slot fs c slot)
unfolding method_in_slot methods_of
slot_known fs c slot ns h =
    ap (find (λ (m : ScriptMethod). m.slot == slot)) (sym (methods_known fs ns)) ∙ found_of slot (families_at fs ns)
    ∙ ap (λ ks. option_map (λ (x : FoundMethod). x.method) (find (stands_in slot) (flat_map lookup.methods_in ks))) h

-- ---- what is inherited in a slot

any_in_lists : {A : Type 0} (p : A → Bool) (f : ℕ → List A) (ns : List ℕ) → list_any p (flat_map f ns) ≡ list_any (λ n. list_any p (f n)) ns
any_in_lists p f [] = refl
any_in_lists p f (n ∷ ns) = list_any-append p (f n) (flat_map f ns) ∙ ap (λ b. list_any p (f n) || b) (any_in_lists p f ns)

none_kept : {A : Type 0} (b any : Bool) (x : A) (kept : List A) → is_empty kept ≡ not any → is_empty (if b then x ∷ kept else kept) ≡ not (b || any)
none_kept true any x kept h = refl
none_kept false any x kept h = h

none_filtered : {A : Type 0} (p : A → Bool) (xs : List A) → is_empty (filter p xs) ≡ not (list_any p xs)
none_filtered p [] = refl
none_filtered p (x ∷ xs) = none_kept (p x) (list_any p xs) x (filter p xs) (none_filtered p xs)

any_kept : {A : Type 0} (b any : Bool) (q : A → Bool) (x : A) (kept : List A) → list_any q kept ≡ any → list_any q (if b then x ∷ kept else kept) ≡ ((b && q x) || any)
any_kept true any q x kept h = ap (λ c. q x || c) h
any_kept false any q x kept h = h

any_filtered : {A : Type 0} (p q : A → Bool) (xs : List A) → list_any q (filter p xs) ≡ list_any (λ x. p x && q x) xs
any_filtered p q [] = refl
any_filtered p q (x ∷ xs) = any_kept (p x) (list_any (λ y. p y && q y) xs) q x (filter p xs) (any_filtered p q xs)

pub none_in_slot : (fs : List Family) (ns : List ℕ) (slot : ℕ)
    → is_empty (in_slot slot (methods_at fs ns)) ≡ not (list_any (λ n. list_any (λ (x : ScriptMethod). x.slot == slot) (methods_in (slice_get fs n))) ns)
none_in_slot fs ns slot =
    none_filtered (λ (x : ScriptMethod). x.slot == slot) (methods_at fs ns)
    ∙ ap not (any_in_lists (λ (x : ScriptMethod). x.slot == slot) (λ n. methods_in (slice_get fs n)) ns)

pub refused_in_slot : (fs : List Family) (ns : List ℕ) (m : ScriptMethod)
    → list_any (cannot_override m) (in_slot m.slot (methods_at fs ns))
    ≡ list_any (λ n. list_any (λ (x : ScriptMethod). x.slot == m.slot && cannot_override m x) (methods_in (slice_get fs n))) ns
refused_in_slot fs ns m =
    any_filtered (λ (x : ScriptMethod). x.slot == m.slot) (cannot_override m) (methods_at fs ns)
    ∙ any_in_lists (λ (x : ScriptMethod). x.slot == m.slot && cannot_override m x) (λ n. methods_in (slice_get fs n)) ns
