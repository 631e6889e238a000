-- How the slots of script objects change as objects are made, changed and given up.
use Rattle.std.specs.Prelude.{ℕ, zero, suc, ◌+◌, ◌≡◌, ◌⊎◌, Bool, true, false, cond, not, T, ◌&&◌, List, [], ◌∷◌, length, Option, Some, None, slice_set}
use Rattle.std.specs.Ordering.{nat_cmp, is_lt, is_eq, eq_by_cmp}
use Rattle.std.specs.declared.cmp.Ordering.TheVariants.{Less, Equal, Greater}
use Rattle.std.specs.FinMap.Entries.{by_order, put, where_key, find, below_all, is_sorted, same_entries, is_sorted-where_key, find-where_key}
use Rattle.std.specs.Cmp.{eq_by_cmp_equiv}
use Rattle.std.specs.FinMap as map
use Rattle.std.specs.FinMap.{entries_sorted, entries-insert, get-entries, get-remove, nat_cmp-IsAntisymmetric}
use Rattle.std.proofs.lemmas.Cmp.{nat_cmp_total}
use Rattle.std.proofs.lemmas.List.{length-set}
use Rattle.std.proofs.Common.{refl, sym, ◌∙◌, ap, subst, arith, inl, inr}
use Rattle.std.proofs.lemmas.Bool.{eq-eqb}
use Rattle.ang_host.proofs.Steps.{same_test}
use Rattle.ang_meaning.specs.World.{ScriptRecord, ScriptObjects, Lowered, Gone, Kept, one_less, lowered_at, script_lowered, raised_at, script_raised}
use Rattle.ang_meaning.specs.declared.slot.Slot.{Slot}
use Rattle.ang_meaning.specs.Perform.{with_field}
use Rattle.ang_meaning.specs.Slots.{slots_at, slots_listed, slots_of}

-- what is found takes
abbrev pub held : Option ScriptRecord → ℕ
held None = 0
held (Some o) = slots_at o

fst : (a b : Bool) → T (a && b) → T a
fst true b p = tt
fst false b p = p

snd : (a b : Bool) → T (a && b) → T b
snd true b p = p
snd false b p = absurd p

lesser : (a b : ℕ) → T (is_lt (nat_cmp a b)) → nat_cmp a b ≡ Less
lesser a b p = by_case (nat_cmp a b) p
  where
    by_case : (o : _) → T (is_lt o) → o ≡ Less
    by_case Less q = refl
    by_case Equal q = absurd q
    by_case Greater q = absurd q

missing : (q : ℕ) (es : List (ℕ × ScriptRecord)) → T (below_all nat_cmp q es) → find nat_cmp q es ≡ None
missing q [] h = refl
missing q (e ∷ es) h = ap (λ r. cond (is_eq r) (Some e.1) (find nat_cmp q es)) (lesser q e.0 (fst _ _ h)) ∙ missing q es (snd _ _ h)

below : (x y : ℕ) (es : List (ℕ × ScriptRecord)) → nat_cmp x y ≡ Less → T (below_all nat_cmp y es) → T (below_all nat_cmp x es)
below x y [] p h = tt
below x y (e ∷ es) p h =
    both _ _ (subst (λ r. T (is_lt r)) (sym (nat_cmp_total.trans x y e.0 p (lesser y e.0 (fst _ _ h)))) tt) (below x y es p (snd _ _ h))
  where
    both : (a b : Bool) → T a → T b → T (a && b)
    both true b p q = q
    both false b p q = p

tied : (x y : ℕ) (es : List (ℕ × ScriptRecord)) → nat_cmp x y ≡ Equal → T (below_all nat_cmp y es) → T (below_all nat_cmp x es)
tied x y [] p h = tt
tied x y (e ∷ es) p h =
    both _ _ (subst (λ r. T (is_lt r)) (sym (nat_cmp_total.congr x y e.0 p)) (fst _ _ h)) (tied x y es p (snd _ _ h))
  where
    both : (a b : Bool) → T a → T b → T (a && b)
    both true b p q = q
    both false b p q = p

-- an object in its place in a list: what was there goes
put_slots : (k : ℕ) (v : ScriptRecord) (es : List (ℕ × ScriptRecord)) → T (is_sorted nat_cmp es)
    → slots_listed (put nat_cmp k v es) + held (find nat_cmp k es) ≡ slots_listed es + slots_at v
put_slots k v [] h = omega arith
put_slots k v (e ∷ es) h =
    elim (nat_cmp k e.0) as (λ r. nat_cmp k e.0 ≡ r
    → slots_listed (by_order r ((k, v) ∷ e ∷ es) ((e.0, v) ∷ es) (e ∷ put nat_cmp k v es)) + held (cond (is_eq r) (Some e.1) (find nat_cmp k es))
    ≡ slots_at e.1 + slots_listed es + slots_at v) [
      | Less ↦ λ p. let none = ap held (missing k es (below k e.0 es p (fst _ _ h))) in omega (arith, none)
      | Equal ↦ λ p. omega arith
      | Greater ↦ λ p. let rest = put_slots k v es (snd _ _ h) in omega (arith, rest)
    ] refl

-- a list without one object
without_slots : (k : ℕ) (es : List (ℕ × ScriptRecord)) → T (is_sorted nat_cmp es)
    → slots_listed (where_key nat_cmp (λ x. not (eq_by_cmp nat_cmp k x)) es) + held (find nat_cmp k es) ≡ slots_listed es
without_slots k [] h = refl
without_slots k (e ∷ es) h =
    let left = where_key nat_cmp (λ x. not (eq_by_cmp nat_cmp k x)) es in
    let rest = without_slots k es (snd _ _ h) in
    elim (nat_cmp k e.0) as (λ r. nat_cmp k e.0 ≡ r
    → slots_listed (cond (not (is_eq r)) (e ∷ left) left) + held (cond (is_eq r) (Some e.1) (find nat_cmp k es)) ≡ slots_at e.1 + slots_listed es) [
      | Less ↦ λ p. omega (arith, rest)
      | Equal ↦ λ p. let none = ap held (missing k es (tied k e.0 es p (fst _ _ h))) in omega (arith, rest, none)
      | Greater ↦ λ p. omega (arith, rest)
    ] refl

-- ---- the same of objects by number

pub insert_slots : (os : ScriptObjects) (k : ℕ) (v : ScriptRecord) → slots_of (map.insert os k v) + held (map.get os k) ≡ slots_of os + slots_at v
unfolding slots_of
insert_slots os k v =
    let put = put_slots k v (map.entries os) (entries_sorted os) in
    let listed = ap slots_listed (entries-insert nat_cmp_total os k v) in
    let found = ap held (get-entries os k) in
    omega (arith, put, listed, found)

turned : (b : Bool) (x : Option ScriptRecord) → cond b None x ≡ cond (not b) x None
turned true x = refl
turned false x = refl

entries-removed : (os : ScriptObjects) (k : ℕ) → map.entries (map.remove os k) ≡ where_key nat_cmp (λ x. not (eq_by_cmp nat_cmp k x)) (map.entries os)
entries-removed os k =
    let p = λ (x : ℕ). not (eq_by_cmp nat_cmp k x) in
    same_entries nat_cmp nat_cmp_total nat_cmp-IsAntisymmetric _ _ (entries_sorted (map.remove os k)) (is_sorted-where_key nat_cmp p (map.entries os) (entries_sorted os))
    (λ q. sym (get-entries (map.remove os k) q) ∙ get-remove nat_cmp_total os k q
    ∙ ap (cond (eq_by_cmp nat_cmp q k) None) (get-entries os q)
    ∙ ap (λ b. cond b None (find nat_cmp q (map.entries os))) (sym ((eq_by_cmp_equiv nat_cmp_total).symm k q))
    ∙ turned (eq_by_cmp nat_cmp k q) (find nat_cmp q (map.entries os))
    ∙ sym (find-where_key nat_cmp p q (λ x t. ap p (sym (nat_cmp-IsAntisymmetric q x t))) (map.entries os)))

pub remove_slots : (os : ScriptObjects) (k : ℕ) → slots_of (map.remove os k) + held (map.get os k) ≡ slots_of os
unfolding slots_of
remove_slots os k =
    let gone = without_slots k (map.entries os) (entries_sorted os) in
    let listed = ap slots_listed (entries-removed os k) in
    let found = ap held (get-entries os k) in
    omega (arith, gone, listed, found)

same_record : (os : ScriptObjects) (k : ℕ) (o p : ScriptRecord) → map.get os k ≡ Some o → length p.fields ≡ length o.fields → slots_of (map.insert os k p) ≡ slots_of os
same_record os k o p g e =
    let put = insert_slots os k p in
    let found = ap held g in
    omega (arith, put, found, e)

pub raised_slots : (k : ℕ) (os : ScriptObjects) → slots_of (script_raised k os) ≡ slots_of os
unfolding script_raised
raised_slots k os = elim (map.get os k) as (λ r. map.get os k ≡ r → slots_of (raised_at k r os) ≡ slots_of os) [
  | None ↦ λ g. refl
  | Some o ↦ λ g. same_record os k o (record o { count = suc o.count }) g refl
] refl

-- what is left, with the object that ended
abbrev left : Lowered → ℕ
left (Gone fs os) = slots_of os + (1 + length fs)
left (Kept os) = slots_of os

left_at : (k : ℕ) (os : ScriptObjects) (o : ScriptRecord) (c : ℕ) → map.get os k ≡ Some o → left (one_less k o c os) ≡ slots_of os
left_at k os o zero g = let gone = remove_slots os k in let found = ap held g in omega (arith, gone, found)
left_at k os o (suc zero) g = let gone = remove_slots os k in let found = ap held g in omega (arith, gone, found)
left_at k os o (suc (suc c)) g = same_record os k o (record o { count = suc c }) g refl

lowered_left : (k : ℕ) (os : ScriptObjects) → left (script_lowered k os) ≡ slots_of os
unfolding script_lowered
lowered_left k os = elim (map.get os k) as (λ r. map.get os k ≡ r → left (lowered_at k r os) ≡ slots_of os) [
  | None ↦ λ g. refl
  | Some o ↦ λ g. left_at k os o o.count g
] refl

pub gone_slots : (k : ℕ) (fs : List Slot) (os us : ScriptObjects) → script_lowered k os ≡ Gone fs us → slots_of us + (1 + length fs) ≡ slots_of os
gone_slots k fs os us e = sym (ap left e) ∙ lowered_left k os

pub kept_slots : (k : ℕ) (os us : ScriptObjects) → script_lowered k os ≡ Kept us → slots_of us ≡ slots_of os
kept_slots k os us e = sym (ap left e) ∙ lowered_left k os

pub field_slots : (n i : ℕ) (v : Slot) (os : ScriptObjects) → slots_of (with_field n (map.get os n) i v os) ≡ slots_of os
field_slots n i v os = elim (map.get os n) as (λ r. map.get os n ≡ r → slots_of (with_field n r i v os) ≡ slots_of os) [
  | None ↦ λ g. refl
  | Some o ↦ λ g. same_record os n o (record o { fields = slice_set o.fields i v }) g (length-set o.fields i v)
] refl

pub made_slots : (os : ScriptObjects) (n : ℕ) (o : ScriptRecord) → map.get os n ≡ None → slots_of (map.insert os n o) ≡ slots_of os + slots_at o
made_slots os n o g =
    let put = insert_slots os n o in
    let found = ap held g in
    omega (arith, put, found)

none_listed : (es : List (ℕ × ScriptRecord)) → length es ≡ 0 → slots_listed es ≡ 0
none_listed [] e = refl
none_listed (x ∷ es) e = absurd (omega (arith, e))

pub slots_of_none : (os : ScriptObjects) → map.len os ≡ 0 → slots_of os ≡ 0
unfolding slots_of
slots_of_none os e = none_listed (map.entries os) (sym (map.len-entries os) ∙ e)

pub empty_slots : slots_of map.empty ≡ 0
empty_slots = slots_of_none map.empty (map.len-empty nat_cmp ScriptRecord)

-- a table is empty, or has a first object
first_listed : (os : ScriptObjects) (es : List (ℕ × ScriptRecord)) → map.entries os ≡ es → (map.len os ≡ 0) ⊎ ((n : ℕ) × (o : ScriptRecord) × (map.get os n ≡ Some o))
first_listed os [] e = inl (map.len-entries os ∙ ap length e)
first_listed os (x ∷ es) e =
    let t : is_eq (nat_cmp x.0 x.0) ≡ true = same_test x.0 x.0 ∙ eq-eqb x.0 x.0 refl in
    inr (x.0, x.1, get-entries os x.0 ∙ ap (find nat_cmp x.0) e ∙ ap (λ b. cond b (Some x.1) (find nat_cmp x.0 es)) t)

pub first_of_slots : (os : ScriptObjects) → (map.len os ≡ 0) ⊎ ((n : ℕ) × (o : ScriptRecord) × (map.get os n ≡ Some o))
first_of_slots os = first_listed os (map.entries os) refl

pub number_slots : (b : Bool) (os us : ScriptObjects) (n i : ℕ) (v : Slot) → (b ≡ true → us ≡ with_field n (map.get os n) i v os) → (b ≡ false → us ≡ os) → slots_of us ≡ slots_of os
number_slots true os us n i v put kept = ap slots_of (put refl) ∙ field_slots n i v os
number_slots false os us n i v put kept = ap slots_of (kept refl)
