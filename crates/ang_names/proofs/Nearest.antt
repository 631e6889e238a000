-- The nearest of the families from which one has methods, by the slots of these.
use Rattle.std.specs.Prelude.{ℕ, ◌≡◌, ◌==◌, ◌<◌, ◌≤◌, ◌+◌, Bool, true, false, not, ◌||◌, if◌then◌else◌, List, [], ◌∷◌, ◌++◌, drop, find, get_or, length, Option, Some, None, slice_get}
use Rattle.std.specs.List.{list_any}
use Rattle.std.specs.Option.{option_or}
use Rattle.std.proofs.Common.{refl, sym, ap, ◌∙◌}
use Rattle.std.proofs.lemmas.List.{drop_all, drop_more}
use Rattle.std.proofs.lemmas.Option.{get_or_from_slice_get, none-some, slice_get_within}
use Rattle.ang_names_known.specs.declared.names.Family.{Family}
use Rattle.ang_names_known.specs.declared.names.ScriptMethod.{ScriptMethod}
use Rattle.ang_names_known.specs.Items.{is_empty}
use Rattle.ang_names_known.specs.Lookup.{families_at, kin_of}
use Rattle.ang_names.specs.ByNumber.{interface_methods, interface_methods_at, methods_at, methods_in}
use Rattle.ang_names.specs.Heirs.{missing_among, missing_by, missing_method}
use Rattle.ang_names.specs.Rows.{HasNearest, first_with_slot, has_slot, noted_at, noted_method}
use Rattle.ang_names.proofs.Inherited.{first_append, interfaces_at, slot_known}

-- ---- a number is noted at the slots of methods, and numbers of families at those of theirs

or_none : {A : Type 0} (o : Option A) → o ≡ option_or o None
or_none None = refl
or_none (Some x) = refl

or_number : (o : Option ℕ) (n : ℕ) (a b : Bool)
    → option_or o (if a || b then Some n else None) ≡ option_or (option_or o (if a then Some n else None)) (if b then Some n else None)
or_number (Some k) n a b = refl
or_number None n true b = refl
or_number None n false b = refl

or_first : (o : Option ℕ) (n : ℕ) (b : Bool) (later : Option ℕ)
    → option_or o (if b then Some n else later) ≡ option_or (option_or o (if b then Some n else None)) later
or_first (Some k) n b later = refl
or_first None n true later = refl
or_first None n false later = refl

-- what is noted once these methods are gone through
abbrev pub after_methods : List (Option ℕ) → ℕ → List ScriptMethod → ℕ → Option ℕ
after_methods t n ms s = option_or (noted_at t s) (if list_any (λ (m : ScriptMethod). m.slot == s) ms then Some n else None)

-- what is noted once these families are gone through
abbrev pub after_families : List Family → List (Option ℕ) → List ℕ → ℕ → Option ℕ
after_families fs t ns s = option_or (noted_at t s) (first_with_slot fs s ns)

pub methods_more : (t u : List (Option ℕ)) (n s : ℕ) (ms : List ScriptMethod) (m : ScriptMethod) (i : ℕ) → i < length ms → m ≡ get_or ms i m
    → noted_at u s ≡ option_or (noted_at t s) (if m.slot == s then Some n else None)
    → after_methods t n (drop i ms) s ≡ after_methods u n (drop (i + 1) ms) s
methods_more t u n s ms m i lt is put =
    let later : List ScriptMethod = drop (i + 1) ms in
    let any : Bool = list_any (λ (y : ScriptMethod). y.slot == s) later in
    ap (λ ys. after_methods t n ys s) (drop_more ms i m lt)
    ∙ ap (λ y. after_methods t n (y ∷ later) s) (sym is)
    ∙ or_number (noted_at t s) n (m.slot == s) any
    ∙ ap (λ o. option_or o (if any then Some n else None)) (sym put)

pub methods_done : (t u : List (Option ℕ)) (n s : ℕ) (ms : List ScriptMethod) (i : ℕ) → length ms ≤ i
    → after_methods t n ms s ≡ after_methods u n (drop i ms) s → noted_at u s ≡ after_methods t n ms s
methods_done t u n s ms i over so_far =
    sym (so_far ∙ ap (λ ys. after_methods u n ys s) (drop_all i ms over) ∙ sym (or_none (noted_at u s)))

pub families_more : (fs : List Family) (t u : List (Option ℕ)) (ns : List ℕ) (i s : ℕ) → i < length ns
    → noted_at u s ≡ option_or (noted_at t s) (if has_slot fs s (get_or ns i 0) then Some (get_or ns i 0) else None)
    → after_families fs t (drop i ns) s ≡ after_families fs u (drop (i + 1) ns) s
families_more fs t u ns i s lt put =
    let n : ℕ = get_or ns i 0 in
    let later : Option ℕ = first_with_slot fs s (drop (i + 1) ns) in
    ap (λ ys. after_families fs t ys s) (drop_more ns i 0 lt)
    ∙ or_first (noted_at t s) n (has_slot fs s n) later
    ∙ ap (λ o. option_or o later) (sym put)

pub families_done : (fs : List Family) (t u : List (Option ℕ)) (ns : List ℕ) (i s : ℕ) → length ns ≤ i
    → after_families fs t ns s ≡ after_families fs u (drop i ns) s → noted_at u s ≡ after_families fs t ns s
families_done fs t u ns i s over so_far =
    sym (so_far ∙ ap (λ ys. after_families fs u ys s) (drop_all i ns over) ∙ sym (or_none (noted_at u s)))

-- ---- the nearest

any_found : {A : Type 0} (p : A → Bool) (xs : List A) (later : Option A)
    → option_or (find p xs) later ≡ (if list_any p xs then find p xs else later)
any_found p [] later = refl
any_found {A = A} p (x ∷ xs) later = by (p x) (any_found p xs later)
  where
    by : (b : Bool) → option_or (find p xs) later ≡ (if list_any p xs then find p xs else later)
        → option_or (if b then Some x else find p xs) later ≡ (if b || list_any p xs then (if b then Some x else find p xs) else later)
    by true h = refl
    by false h = h

noted_if : (fs : List Family) (slot n : ℕ) (b : Bool) (o : Option ℕ)
    → noted_method fs slot (if b then Some n else o) ≡ (if b then noted_method fs slot (Some n) else noted_method fs slot o)
noted_if fs slot n true o = refl
noted_if fs slot n false o = refl

nearest_of : (fs : List Family) (slot : ℕ) (ns : List ℕ)
    → noted_method fs slot (first_with_slot fs slot ns) ≡ find (λ (m : ScriptMethod). m.slot == slot) (methods_at fs ns)
nearest_of fs slot [] = refl
nearest_of fs slot (n ∷ ns) =
    let p : ScriptMethod → Bool = λ m. m.slot == slot in
    let own : List ScriptMethod = methods_in (slice_get fs n) in
    noted_if fs slot n (has_slot fs slot n) (first_with_slot fs slot ns)
    ∙ ap (λ o. if has_slot fs slot n then noted_method fs slot (Some n) else o) (nearest_of fs slot ns)
    ∙ sym (any_found p own (find p (methods_at fs ns)))
    ∙ sym (first_append p own (methods_at fs ns))

pub nearest_known : (fs : List Family) (c : ℕ) (ns : List ℕ) (t : List (Option ℕ)) → families_at fs ns ≡ kin_of fs c
    → ((slot : ℕ) → slot < length t → noted_at t slot ≡ first_with_slot fs slot ns) → HasNearest fs c t
nearest_known fs c ns t are has = record {
  nearest = λ slot o here.
      let noted : o ≡ first_with_slot fs slot ns = sym (get_or_from_slice_get t slot o None here) ∙ has slot (slice_get_within t slot o here) in
      ap (noted_method fs slot) noted ∙ nearest_of fs slot ns ∙ slot_known fs c slot ns are;
}

-- a table without entries says nothing
pub no_entries : (fs : List Family) (c : ℕ) → HasNearest fs c []
no_entries fs c = record { nearest = λ slot o here. absurd (none-some o here) }

-- ---- nothing is asked for

none_more : {A : Type 0} (xs ys : List A) (any : Bool) → (not (is_empty xs) || any) ≡ false → (any ≡ false → ys ≡ []) → xs ++ ys ≡ []
none_more [] ys any e h = h e
none_more (x ∷ xs) ys any e h = cc

pub none_asked : (fs : List Family) (ns : List ℕ) → list_any (λ n. not (is_empty (interface_methods (slice_get fs n)))) ns ≡ false → interface_methods_at fs ns ≡ []
none_asked fs [] e = refl
none_asked fs (n ∷ ns) e =
    none_more (interface_methods (slice_get fs n)) (interface_methods_at fs ns) (list_any (λ k. not (is_empty (interface_methods (slice_get fs k)))) ns) e
    (none_asked fs ns)

pub none_missing : (fs gs : List Family) (c : ℕ) (f : Family) (ns : List ℕ) (asks : Bool) → gs ≡ fs → ns ≡ f.above
    → asks ≡ list_any (λ n. not (is_empty (interface_methods (slice_get gs n)))) ns → asks ≡ false → None ≡ missing_method fs c f
none_missing fs gs c f ns asks same above is none =
    let all : list_any (λ n. not (is_empty (interface_methods (slice_get fs n)))) f.above ≡ false =
    sym (is ∙ (λ i. list_any (λ n. not (is_empty (interface_methods (slice_get (same i) n)))) (above i))) ∙ none in
    sym (ap (λ ms. missing_by f (missing_among fs c ms)) (interfaces_at fs f.above ∙ none_asked fs f.above all))
