-- Permutations of the numbers of script objects, and what they leave as it is.
use Rattle.std.proofs.Common.{◌≡◌, ℕ, zero, suc, ◌+◌, ◌<◌, ◌≤◌, inl, inr, List, [], ◌∷◌, Option, Some, None, refl, sym, ap, ◌∙◌, arith}
use Rattle.std.specs.Prelude.{◌⊎◌, ◌-◌, Bool, true, false, cond, nat_eq, is_some}
use Rattle.std.specs.FinMap as map
use Rattle.std.specs.FinMap.{len-insert, len-remove}
use Rattle.std.proofs.lemmas.Cmp.{nat_cmp_total}
use Rattle.std.proofs.lemmas.Bool.{eq-eqb, eqb-true}
use Rattle.std.proofs.lemmas.List.{length-map}
use Rattle.ang_meaning.specs.declared.slot.Slot.{Slot}
use Rattle.ang_meaning.specs.declared.slot.Slot.TheVariants.{Bits, Script, Host}
use Rattle.ang_meaning.specs.World.{World, ScriptRecord, ScriptObjects}
use Rattle.ang_meaning.specs.Counting.{Thing, how_many, in_lists, count_of_object, count_in, IsCounted}
use Rattle.ang_meaning.specs.Alike.{Renaming, renamed, renamed_all, renamed_lists, renamed_record, Tables}
use Rattle.ang_meaning.proofs.Counting.{HasObject}
use Rattle.ang_meaning.proofs.Tables.{get_inserted, get_without, sum-bound, len_gone}
use Rattle.ang_meaning.proofs.Counted.{there_of}
use Rattle.ang_meaning.proofs.Matching.{AlikeUpTo}
use Rattle.ang_meaning.specs.Slots.{slots_of}
use Rattle.ang_meaning.proofs.Slots.{held, remove_slots, slots_of_none, first_of_slots}

-- ---- numbers

to_eq_by : (r : Renaming) (n k : ℕ) (b c : Bool) → nat_eq n k ≡ b → nat_eq (r.to n) (r.to k) ≡ c → c ≡ b
to_eq_by r n k true true s t = refl
to_eq_by r n k true false s t = sym t ∙ eq-eqb (r.to n) (r.to k) (ap (λ x. r.to x) (eqb-true n k s))
to_eq_by r n k false false s t = refl
to_eq_by r n k false true s t = sym (eq-eqb n k (sym (r.there n) ∙ ap (λ x. r.from x) (eqb-true (r.to n) (r.to k) t) ∙ r.there k)) ∙ s

pub to_eq : (r : Renaming) (n k : ℕ) → nat_eq (r.to n) (r.to k) ≡ nat_eq n k
to_eq r n k = to_eq_by r n k (nat_eq n k) (nat_eq (r.to n) (r.to k)) refl refl

-- two numbers change places
abbrev pub swap : ℕ → ℕ → ℕ → ℕ
swap a b x = cond (nat_eq a x) b (cond (nat_eq b x) a x)

swap_first : (a b : ℕ) → swap a b a ≡ b
swap_first a b = ap (λ c. cond c b (cond (nat_eq b a) a a)) (eq-eqb a a refl)

swap_second_by : (a b : ℕ) (c : Bool) → nat_eq a b ≡ c → cond c b (cond (nat_eq b b) a b) ≡ a
swap_second_by a b true t = sym (eqb-true a b t)
swap_second_by a b false t = ap (λ c. cond c a b) (eq-eqb b b refl)

swap_second : (a b : ℕ) → swap a b b ≡ a
swap_second a b = swap_second_by a b (nat_eq a b) refl

swap_twice_by : (a b x : ℕ) (p q : Bool) → nat_eq a x ≡ p → nat_eq b x ≡ q → swap a b (cond p b (cond q a x)) ≡ x
swap_twice_by a b x true q s t = swap_second a b ∙ eqb-true a x s
swap_twice_by a b x false true s t = swap_first a b ∙ eqb-true b x t
swap_twice_by a b x false false s t = ap (λ c. cond c b (cond (nat_eq b x) a x)) s ∙ ap (λ c. cond c a x) t

pub swap_twice : (a b x : ℕ) → swap a b (swap a b x) ≡ x
swap_twice a b x = swap_twice_by a b x (nat_eq a x) (nat_eq b x) refl refl

-- the new numbers a and b change places
abbrev pub swapped : Renaming → ℕ → ℕ → Renaming
swapped r a b = record {
  to = λ n. swap a b (r.to n);
  from = λ n. r.from (swap a b n);
  there = λ n. ap (λ x. r.from x) (swap_twice a b (r.to n)) ∙ r.there n;
  back = λ n. ap (λ x. swap a b x) (r.back (swap a b n)) ∙ swap_twice a b n;
}

pub swapped_at : (r : Renaming) (n b : ℕ) → (swapped r (r.to n) b).to n ≡ b
swapped_at r n b = swap_first (r.to n) b

get_swapped_by : (ps : ScriptObjects) (a b x : ℕ) (p q : Bool) → nat_eq a x ≡ p → nat_eq b x ≡ q → map.get ps a ≡ None → map.get ps b ≡ None → map.get ps (cond p b (cond q a x)) ≡ map.get ps x
get_swapped_by ps a b x true q s t g h = h ∙ sym (ap (map.get ps) (sym (eqb-true a x s)) ∙ g)
get_swapped_by ps a b x false true s t g h = g ∙ sym (ap (map.get ps) (sym (eqb-true b x t)) ∙ h)
get_swapped_by ps a b x false false s t g h = refl

get_swapped : (ps : ScriptObjects) (a b x : ℕ) → map.get ps a ≡ None → map.get ps b ≡ None → map.get ps (swap a b x) ≡ map.get ps x
get_swapped ps a b x g h = get_swapped_by ps a b x (nat_eq a x) (nat_eq b x) refl refl g h

-- what is there keeps its number
swap_live_by : (ps : ScriptObjects) (a b x : ℕ) (o : ScriptRecord) (p q : Bool) → nat_eq a x ≡ p → nat_eq b x ≡ q → map.get ps a ≡ None → map.get ps b ≡ None → map.get ps x ≡ Some o → cond p b (cond q a x) ≡ x
swap_live_by ps a b x o true q s t g h e = absurd (let z : Some o ≡ None = sym e ∙ ap (map.get ps) (sym (eqb-true a x s)) ∙ g in let y : ⊥ = cc in y)
swap_live_by ps a b x o false true s t g h e = absurd (let z : Some o ≡ None = sym e ∙ ap (map.get ps) (sym (eqb-true b x t)) ∙ h in let y : ⊥ = cc in y)
swap_live_by ps a b x o false false s t g h e = refl

-- both name each object of the table alike
pub record Agrees (r q : Renaming) (os : ScriptObjects) : Type 0 where
  pub same : (n : ℕ) (o : ScriptRecord) → map.get os n ≡ Some o → q.to n ≡ r.to n

-- two new numbers that are free change places
swapped_agrees : (r : Renaming) (os ps : ScriptObjects) (a b : ℕ) → Tables r os ps → map.get ps a ≡ None → map.get ps b ≡ None → Agrees r (swapped r a b) os
swapped_agrees r os ps a b t g h = record {
  same = λ n o e. swap_live_by ps a b (r.to n) (record o { fields = renamed_all r o.fields }) (nat_eq a (r.to n)) (nat_eq b (r.to n)) refl refl g h (t.has n ∙ ap (renamed_record r) e);
}

-- ---- lists of slots

some_counted : (o : Option ScriptRecord) → 0 < count_of_object o → (p : ScriptRecord) × (o ≡ Some p)
some_counted None h = absurd (omega (arith, h))
some_counted (Some p) h = (p, refl)

renamed_same : (r q : Renaming) (v : Slot) (w : World) → Agrees r q w.objects → HasObject v w.objects → renamed q v ≡ renamed r v
renamed_same r q (Bits n) w a k = refl
renamed_same r q (Script None) w a k = refl
renamed_same r q (Script (Some n)) w a k = let s = some_counted (map.get w.objects n) k in ap (λ j. Script (Some j)) (a.same n s.0 s.1)
renamed_same r q (Host d k) w a h = refl

cons_same : {A : Type 0} (x y : A) (xs ys : List A) → x ≡ y → xs ≡ ys → x ∷ xs ≡ y ∷ ys
cons_same x y xs ys e f = ap (λ a. a ∷ xs) e ∙ ap (λ l. y ∷ l) f

pub all_same : (r q : Renaming) (vs : List Slot) (w : World) → Agrees r q w.objects → ((x : Thing) → how_many x vs ≤ count_in x w) → renamed_all q vs ≡ renamed_all r vs
all_same r q [] w a h = refl
all_same r q (v ∷ vs) w a h =
    cons_same (renamed q v) (renamed r v) (renamed_all q vs) (renamed_all r vs) (renamed_same r q v w a ((there_of v w (λ x. omega (arith, h x))).0))
    (all_same r q vs w a (λ x. omega (arith, h x)))

lists_same : (r q : Renaming) (ls : List (List Slot)) (w : World) → Agrees r q w.objects → ((x : Thing) → in_lists x ls ≤ count_in x w) → renamed_lists q ls ≡ renamed_lists r ls
lists_same r q [] w a h = refl
lists_same r q (l ∷ ls) w a h =
    cons_same (renamed_all q l) (renamed_all r l) (renamed_lists q ls) (renamed_lists r ls) (all_same r q l w a (λ x. omega (arith, h x))) (lists_same r q ls w a (λ x. omega (arith, h x)))

-- where the counts are those of the places, another renaming that agrees does as well
pub stack_same : (r q : Renaming) (s : List Slot) (w : World) → Agrees r q w.objects → IsCounted s w → renamed_all q s ≡ renamed_all r s
stack_same r q s w a p = all_same r q s w a (λ x. omega (arith, p.counts.counts x))

globals_same : (r q : Renaming) (s : List Slot) (w : World) → Agrees r q w.objects → IsCounted s w → renamed_lists q w.globals ≡ renamed_lists r w.globals
globals_same r q s w a p = lists_same r q w.globals w a (λ x. omega (arith, p.counts.counts x))

record_same : (r q : Renaming) (s : List Slot) (w : World) (n : ℕ) (o : Option ScriptRecord) → map.get w.objects n ≡ o → Agrees r q w.objects → IsCounted s w → renamed_record q o ≡ renamed_record r o
record_same r q s w n None g a p = refl
record_same r q s w n (Some o) g a p =
    ap (λ l. Some (record o { fields = l })) (all_same r q o.fields w a (λ x. omega (arith, p.counts.counts x, sum-bound (λ c. how_many x c.fields) w.objects n o g)))

pub swapped_alike : (apart : Type 0) (r : Renaming) (a b : ℕ) (s : List Slot) (v w : World) → map.get w.objects a ≡ None → map.get w.objects b ≡ None → IsCounted s v → AlikeUpTo apart r v w
    → AlikeUpTo apart (swapped r a b) v w × (renamed_all (swapped r a b) s ≡ renamed_all r s)
swapped_alike apart r a b s v w g h c p =
    let q = swapped r a b in
    let agrees = swapped_agrees r v.objects w.objects a b p.objects g h in (
      record {
        objects = record {
          has = λ n. get_swapped w.objects a b (r.to n) g h ∙ p.objects.has n ∙ sym (record_same r q s v n (map.get v.objects n) refl agrees c);
          size = p.objects.size;
        };
        hosts = p.hosts;
        globals = p.globals ∙ sym (globals_same r q s v agrees c);
        events = p.events;
        reserved = p.reserved;
        spent = p.spent;
        bounds = p.bounds;
        inputs = p.inputs;
      },
      stack_same r q s v agrees c,
    )

-- ---- tables

some_renamed : (r : Renaming) (o : Option ScriptRecord) → is_some (renamed_record r o) ≡ is_some o
some_renamed r None = refl
some_renamed r (Some o) = refl

if_renamed : (r : Renaming) (b : Bool) (o p : Option ScriptRecord) → cond b (renamed_record r o) (renamed_record r p) ≡ renamed_record r (cond b o p)
if_renamed r true o p = refl
if_renamed r false o p = refl

pub tables_insert : (r : Renaming) (os ps : ScriptObjects) (n : ℕ) (o : ScriptRecord) → Tables r os ps → Tables r (map.insert os n o) (map.insert ps (r.to n) (record o { fields = renamed_all r o.fields }))
tables_insert r os ps n o t =
    let u : ScriptRecord = record o { fields = renamed_all r o.fields } in
    record {
      has = λ k. get_inserted ps (r.to n) (r.to k) u ∙ ap (λ b. cond b (Some u) (map.get ps (r.to k))) (to_eq r n k) ∙ ap (λ c. cond (nat_eq n k) (Some u) c) (t.has k)
          ∙ if_renamed r (nat_eq n k) (Some o) (map.get os k) ∙ ap (renamed_record r) (sym (get_inserted os n k o));
      size = len-insert nat_cmp_total ps (r.to n) u
          ∙ ap (λ c. cond c (map.len ps) (map.len ps + 1)) (ap (λ c. is_some c) (t.has n) ∙ some_renamed r (map.get os n))
          ∙ ap (λ l. cond (is_some (map.get os n)) l (l + 1)) t.size
          ∙ sym (len-insert nat_cmp_total os n o);
    }

pub tables_remove : (r : Renaming) (os ps : ScriptObjects) (n : ℕ) → Tables r os ps → Tables r (map.remove os n) (map.remove ps (r.to n))
tables_remove r os ps n t = record {
  has = λ k. get_without ps (r.to n) (r.to k) ∙ ap (λ b. cond b None (map.get ps (r.to k))) (to_eq r n k) ∙ ap (λ c. cond (nat_eq n k) None c) (t.has k)
      ∙ if_renamed r (nat_eq n k) None (map.get os k) ∙ ap (renamed_record r) (sym (get_without os n k));
  size = len-remove nat_cmp_total ps (r.to n)
      ∙ ap (λ c. cond c (map.len ps - 1) (map.len ps)) (ap (λ c. is_some c) (t.has n) ∙ some_renamed r (map.get os n))
      ∙ ap (λ l. cond (is_some (map.get os n)) (l - 1) l) t.size
      ∙ sym (len-remove nat_cmp_total os n);
}

-- ---- slots

renamed_held : (r : Renaming) (o : Option ScriptRecord) → held (renamed_record r o) ≡ held o
renamed_held r None = refl
renamed_held r (Some o) = omega (arith, length-map o.fields (renamed r))

-- without the first object of both
slots_by : (r : Renaming) (k : ℕ) (os ps : ScriptObjects) → map.len os ≤ suc k → Tables r os ps → ((os ps : ScriptObjects) → map.len os ≤ k → Tables r os ps → slots_of ps ≡ slots_of os)
    → (map.len os ≡ 0) ⊎ ((n : ℕ) × (o : ScriptRecord) × (map.get os n ≡ Some o)) → slots_of ps ≡ slots_of os
slots_by r k os ps le t ih (inl e) = slots_of_none ps (t.size ∙ e) ∙ sym (slots_of_none os e)
slots_by r k os ps le t ih (inr x) =
    let n = x.0 in
    let rest = ih (map.remove os n) (map.remove ps (r.to n)) (omega (arith, le, len_gone os n x.1 x.2)) (tables_remove r os ps n t) in
    let here = remove_slots os n in
    let there = remove_slots ps (r.to n) in
    let same = ap held (t.has n) ∙ renamed_held r (map.get os n) in
    omega (arith, rest, here, there, same)

slots_from : (r : Renaming) (k : ℕ) (os ps : ScriptObjects) → map.len os ≤ k → Tables r os ps → slots_of ps ≡ slots_of os
slots_from r zero os ps le t =
    let none : map.len os ≡ 0 = omega (arith, le) in
    slots_of_none ps (t.size ∙ none) ∙ sym (slots_of_none os none)
slots_from r (suc k) os ps le t = slots_by r k os ps le t (slots_from r k) (first_of_slots os)

-- objects under other numbers take as many slots
pub slots_alike : (r : Renaming) (os ps : ScriptObjects) → Tables r os ps → slots_of ps ≡ slots_of os
slots_alike r os ps t = slots_from r (map.len os) os ps (omega arith) t
