-- Of the methods of a name those in front of which none of their slot stands, one after the other.
use Rattle.std.specs.Prelude.{ℕ, ◌+◌, ◌<◌, ◌≤◌, ◌≡◌, ◌==◌, Bool, true, false, ◌||◌, List, [], ◌∷◌, ◌++◌, map, filter, length, take, drop, Option, Some, None, option_map, option_to_list, slice_get, cond}
use Rattle.std.specs.List.{list_any, flat_map}
use Rattle.std.proofs.Common.{refl, ap, sym, arith, get_or, append_assoc, ◌∙◌}
use Rattle.std.proofs.lemmas.List.{append-nil, drop_all, drop-append-le, length-append, take_more, take-append-drop}
use Rattle.std.proofs.lemmas.List.Elements.{filter-append}
use Rattle.std.proofs.lemmas.List.Folds.{list_any-append}
use Rattle.ang_names_known.specs.declared.names.Family.{Family}
use Rattle.ang_names_known.specs.declared.names.ScriptMethod.{ScriptMethod}
use Rattle.ang_names_known.specs.Items.{each_after}
use Rattle.ang_names_known.specs.Lookup.{FoundMethod, with_family, families_at, methods_in, stands_in, is_named, if_nearest}
use Rattle.ang_names_known.specs.Nearest.{at_places, methods_declared, of_owner, named_among, nearest_at}

-- ---- the nearest of some

abbrev pub nearest : List FoundMethod → List FoundMethod
nearest xs = each_after if_nearest [] xs

after_more : (b xs : List FoundMethod) (x : FoundMethod) → each_after if_nearest b (xs ++ x ∷ []) ≡ each_after if_nearest b xs ++ if_nearest (b ++ xs) x
after_more b [] x = append-nil (if_nearest b x) ∙ ap (λ c. if_nearest c x) (sym (append-nil b))
after_more b (y ∷ xs) x =
    ap (λ r. if_nearest b y ++ r) (after_more (b ++ y ∷ []) xs x ∙ ap (λ c. each_after if_nearest (b ++ y ∷ []) xs ++ if_nearest c x) (append_assoc (b) (y ∷ []) (xs)))
    ∙ sym (append_assoc (if_nearest b y) (each_after if_nearest (b ++ y ∷ []) xs) (if_nearest (b ++ y ∷ xs) x))

or_assoc : (a b c : Bool) → (a || (b || c)) ≡ ((a || b) || c)
or_assoc true b c = refl
or_assoc false b c = refl

same_slot : (m n : ℕ) → (m == n) ≡ true → m ≡ n
same_slot m n e = search (arith, e)

or_true : (a b : Bool) → a ≡ true → a ≡ (a || b)
or_true true b e = refl
or_true false b e = cc

-- a method that is left out has one of its slot in front of it
left_out : (s : ℕ) (b : List FoundMethod) (x : FoundMethod) → (list_any (stands_in s) b || list_any (stands_in s) (if_nearest b x)) ≡ (list_any (stands_in s) b || stands_in s x)
left_out s b x = by_slot (list_any (stands_in x.method.slot) b) refl (stands_in s x) refl
  where
    one : (t : Bool) → (t || false) ≡ t
    one true = refl
    one false = refl

    by_slot : (t : Bool) → list_any (stands_in x.method.slot) b ≡ t → (u : Bool) → stands_in s x ≡ u
        → (list_any (stands_in s) b || list_any (stands_in s) (cond t [] (x ∷ []))) ≡ (list_any (stands_in s) b || stands_in s x)
    by_slot false e u f = ap (λ r. list_any (stands_in s) b || r) (one (stands_in s x))
    by_slot true e false f = ap (λ r. list_any (stands_in s) b || r) (sym f)
    by_slot true e true f =
        let is : x.method.slot ≡ s = same_slot x.method.slot s f in
        let there : list_any (stands_in s) b ≡ true = ap (λ k. list_any (stands_in k) b) (sym is) ∙ e in
        one (list_any (stands_in s) b) ∙ or_true (list_any (stands_in s) b) (stands_in s x) there

-- a slot stands among the nearest where it stands among all
any_nearest : (s : ℕ) (b xs : List FoundMethod)
    → (list_any (stands_in s) b || list_any (stands_in s) (each_after if_nearest b xs)) ≡ (list_any (stands_in s) b || list_any (stands_in s) xs)
any_nearest s b [] = refl
any_nearest s b (x ∷ xs) =
    let A : Bool = list_any (stands_in s) b in
    let N : Bool = list_any (stands_in s) (if_nearest b x) in
    let E : Bool = list_any (stands_in s) (each_after if_nearest (b ++ x ∷ []) xs) in
    let P : Bool = stands_in s x in
    let R : Bool = list_any (stands_in s) xs in
    let front : list_any (stands_in s) (b ++ x ∷ []) ≡ (A || P) = list_any-append (stands_in s) b (x ∷ []) ∙ ap (λ r. A || r) (last P) in
    ap (λ r. A || r) (list_any-append (stands_in s) (if_nearest b x) (each_after if_nearest (b ++ x ∷ []) xs))
    ∙ or_assoc A N E
    ∙ ap (λ r. r || E) (left_out s b x)
    ∙ ap (λ r. r || E) (sym front)
    ∙ any_nearest s (b ++ x ∷ []) xs
    ∙ ap (λ r. r || R) front
    ∙ sym (or_assoc A P R)
  where
    last : (t : Bool) → (t || false) ≡ t
    last true = refl
    last false = refl

any_in_nearest : (s : ℕ) (xs : List FoundMethod) → list_any (stands_in s) (nearest xs) ≡ list_any (stands_in s) xs
any_in_nearest s xs = any_nearest s [] xs

-- one method more
pub one_more : (before old new : List FoundMethod) (o : Option FoundMethod) → old ≡ nearest before → new ≡ old ++ nearest_at old o → new ≡ nearest (before ++ option_to_list o)
one_more before old new None so_far pushed = pushed ∙ append-nil old ∙ so_far ∙ ap nearest (sym (append-nil before))
one_more before old new (Some x) so_far pushed =
    pushed ∙ ap (λ o. o ++ if_nearest o x) so_far
    ∙ ap (λ t. nearest before ++ cond t [] (x ∷ [])) (any_in_nearest x.method.slot before)
    ∙ sym (after_more [] before x)

-- ---- a loop over the places of methods of a family

at_places-append : (n : ℕ) (ms : List ScriptMethod) (ps qs : List ℕ) → at_places n ms (ps ++ qs) ≡ at_places n ms ps ++ at_places n ms qs
at_places-append n ms [] qs = refl
at_places-append n ms (p ∷ ps) qs =
    let own : List FoundMethod = option_to_list (option_map (of_owner n) (slice_get ms p)) in
    ap (λ r. own ++ r) (at_places-append n ms ps qs) ∙ sym (append_assoc own (at_places n ms ps) (at_places n ms qs))

pub place_more : (before : List FoundMethod) (n : ℕ) (ms : List ScriptMethod) (ps : List ℕ) (i : ℕ) (o : Option FoundMethod) (old new : List FoundMethod)
    → i < length ps → o ≡ option_map (of_owner n) (slice_get ms (get_or ps i 0)) → old ≡ nearest (before ++ at_places n ms (take i ps)) → new ≡ old ++ nearest_at old o
    → new ≡ nearest (before ++ at_places n ms (take (i + 1) ps))
place_more before n ms ps i o old new lt is so_far pushed =
    let front : List FoundMethod = before ++ at_places n ms (take i ps) in
    let own : List FoundMethod = option_to_list (option_map (of_owner n) (slice_get ms (get_or ps i 0))) in
    one_more front old new o so_far pushed
    ∙ ap (λ r. nearest (front ++ option_to_list r)) is
    ∙ ap nearest (append_assoc before (at_places n ms (take i ps)) own)
    ∙ ap (λ r. nearest (before ++ (at_places n ms (take i ps) ++ r))) (sym (append-nil own))
    ∙ ap (λ r. nearest (before ++ r)) (sym (at_places-append n ms (take i ps) (get_or ps i 0 ∷ [])))
    ∙ ap (λ r. nearest (before ++ at_places n ms r)) (sym (take_more ps i 0 lt))

-- ---- slots of those after the first eight

pub any_of_both : (slot : ℕ) (found : List FoundMethod) (few behind : Bool) → few ≡ list_any (stands_in slot) (take 8 found) → behind ≡ list_any (stands_in slot) (drop 8 found)
    → (few || behind) ≡ list_any (stands_in slot) found
any_of_both slot found few behind is others =
    (λ i. is i || others i)
    ∙ sym (list_any-append (stands_in slot) (take 8 found) (drop 8 found))
    ∙ ap (list_any (stands_in slot)) (take-append-drop 8 found)

-- a method is one of the first eight
pub slots_stay : (found new : List FoundMethod) (x : FoundMethod) (slot : ℕ) (b : Bool) → length found < 8 → new ≡ found ++ x ∷ []
    → b ≡ list_any (stands_in slot) (drop 8 found) → b ≡ list_any (stands_in slot) (drop 8 new)
slots_stay found new x slot b few is has =
    let many : length (found ++ x ∷ []) ≡ length found + 1 = length-append found (x ∷ []) in
    let inside : length found ≤ 8 = omega arith in
    let all : length (found ++ x ∷ []) ≤ 8 = omega (arith, many) in
    has ∙ ap (list_any (stands_in slot)) (drop_all 8 found inside ∙ sym (drop_all 8 (found ++ x ∷ []) all) ∙ ap (drop 8) (sym is))

or_turned : (a b : Bool) → cond b true a ≡ (a || (b || false))
or_turned true true = refl
or_turned true false = refl
or_turned false true = refl
or_turned false false = refl

-- a method after them, with its slot
pub slot_more : (found new : List FoundMethod) (x : FoundMethod) (slot : ℕ) (old b : Bool) → 8 ≤ length found → new ≡ found ++ x ∷ []
    → b ≡ cond (x.method.slot == slot) true old → old ≡ list_any (stands_in slot) (drop 8 found)
    → b ≡ list_any (stands_in slot) (drop 8 new)
slot_more found new x slot old b many is put has =
    put ∙ ap (λ t. cond (x.method.slot == slot) true t) has
    ∙ or_turned (list_any (stands_in slot) (drop 8 found)) (x.method.slot == slot)
    ∙ sym (list_any-append (stands_in slot) (drop 8 found) (x ∷ []))
    ∙ ap (list_any (stands_in slot)) (sym (drop-append-le 8 found (x ∷ []) many) ∙ ap (drop 8) (sym is))

-- ---- a loop over families

abbrev pub methods_at : List Family → List ℕ → List FoundMethod
methods_at fs ns = flat_map methods_in (families_at fs ns)

methods_at-cons : (fs : List Family) (n : ℕ) (ns : List ℕ) → methods_at fs (n ∷ ns) ≡ map (of_owner n) (methods_declared (slice_get fs n)) ++ methods_at fs ns
methods_at-cons fs n ns = by_family (slice_get fs n)
  where
    by_family : (o : Option Family) → flat_map methods_in (with_family n o (families_at fs ns)) ≡ map (of_owner n) (methods_declared o) ++ methods_at fs ns
    by_family None = refl
    by_family (Some f) = refl

methods_at-append : (fs : List Family) (ns ms : List ℕ) → methods_at fs (ns ++ ms) ≡ methods_at fs ns ++ methods_at fs ms
methods_at-append fs [] ms = refl
methods_at-append fs (n ∷ ns) ms =
    let own : List FoundMethod = map (of_owner n) (methods_declared (slice_get fs n)) in
    methods_at-cons fs n (ns ++ ms)
    ∙ ap (λ r. own ++ r) (methods_at-append fs ns ms)
    ∙ sym (append_assoc own (methods_at fs ns) (methods_at fs ms))
    ∙ ap (λ r. r ++ methods_at fs ms) (sym (methods_at-cons fs n ns))

pub family_more : (fs : List Family) (name : List ℕ) (order : List ℕ) (i : ℕ) → i < length order
    → filter (is_named name) (methods_at fs (take i order)) ++ named_among name (get_or order i 0) (methods_declared (slice_get fs (get_or order i 0)))
    ≡ filter (is_named name) (methods_at fs (take (i + 1) order))
family_more fs name order i lt =
    let n : ℕ = get_or order i 0 in
    let own : List FoundMethod = map (of_owner n) (methods_declared (slice_get fs n)) in
    sym (filter-append (is_named name) (methods_at fs (take i order)) own)
    ∙ ap (λ r. filter (is_named name) (methods_at fs (take i order) ++ r)) (sym (append-nil own) ∙ sym (methods_at-cons fs n []))
    ∙ ap (filter (is_named name)) (sym (methods_at-append fs (take i order) (n ∷ [])))
    ∙ ap (λ ns. filter (is_named name) (methods_at fs ns)) (sym (take_more order i 0 lt))
