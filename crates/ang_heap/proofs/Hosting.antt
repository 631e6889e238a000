-- Host objects held and given up, over plain lists of members.
use Rattle.std.specs.Prelude.{ℕ, zero, suc, ◌+◌, ◌-◌, ◌≡◌, ◌≢◌, ◌<◌, ◌≤◌, Bool, true, false, cond, nat_eq, List, [], ◌∷◌, ◌++◌, Option, Some, None, length, map as list_map, slice_set, is_some}
use Rattle.std.specs.Ordering.{nat_cmp}
use Rattle.std.specs.FinMap as map
use Rattle.std.specs.FinMap.{get-empty, len-empty, len-insert, len-remove, empty_of_len}
use Rattle.std.proofs.lemmas.Cmp.{nat_cmp_total}
use Rattle.std.proofs.Common.{refl, sym, ◌∙◌, ap, subst, arith, inl, inr, get_or-set_other, append-nil, append_assoc}
use Rattle.std.specs.declared.alloc.Global.{Global}
use Rattle.std.specs.declared.dyn_box.DynBox.{DynBox}
use Rattle.std.proofs.lemmas.List.{length-map, length-set, set-get_or}
use Rattle.std.proofs.lemmas.Bool.{cases_eq, eqb-true}
use Rattle.ang_host.specs.declared.event.Role.{Role}
use Rattle.ang_host.specs.declared.event.HostEvent.{HostEvent}
use Rattle.ang_host.specs.declared.event.HostEvent.TheVariants.{Ended}
use Rattle.ang_host.specs.declared.answer.Answer.{Answer}
use Rattle.ang_host.specs.declared.answer.Made.{Made}
use Rattle.ang_host.specs.declared.answer.Made.TheVariants.{Key as MadeKey, Nothing as MadeNothing, Fault as MadeFault, Memory as MadeMemory, Full as MadeFull}
use Rattle.ang_host.specs.State.{State, Ask, count_of, count_at}
use Rattle.ang_host.specs.Laws.{Fits, IsFull, IsSound, Adds, Makes, Releases, Answered, WasMade, WasAdded, WasReleased}
use Rattle.ang_host.specs.Meanings.{Meanings, state_in}
use Rattle.ang_host.specs.Members.{nothing, state_at, rule_at, OneMoved}
use Rattle.ang_host.specs.Events.{ends}
use Rattle.ang_host.proofs.Counts.{Answers-counts}
use Rattle.ang_host.proofs.Events.{AllFollow-none, AllFollow-join}
use Rattle.ang_meaning.specs.declared.slot.Slot.{Slot}
use Rattle.ang_meaning.specs.declared.slot.Slot.TheVariants.{Host}
use Rattle.ang_meaning.specs.World.{Bounds, ScriptObjects, HostCounts, Input, host_put, host_raised, give}
use Rattle.ang_meaning.specs.Counting.{counts_by}
use Rattle.ang_meaning.proofs.Driving.{counts_put, counts_added, counts_made, world_released, in_list_of}
use Rattle.ang_heap.specs.Parts.{world_by, live_in, AreReady, PartsMove}

-- one where it is so
abbrev pub one_if : Bool → ℕ
one_if b = cond b 1 0

-- ---- live objects

has_key : (o : Option ℕ) (n : ℕ) → o ≡ Some n → o ≡ None → ⊥
has_key o n p q = let x : None ≡ Some n = sym q ∙ p in cc

some_len : (m : map.FinMap nat_cmp ℕ) (k n : ℕ) → map.get m k ≡ Some n → 0 < map.len m
some_len m k n g =
    elim (cases_eq (map.len m) 0) [
      | inl e ↦ absurd (has_key (map.get m k) n g (ap (λ x. map.get x k) (empty_of_len m e) ∙ get-empty nat_cmp k))
      | inr ne ↦ omega (arith, ne)
    ]

len_gone : (m : map.FinMap nat_cmp ℕ) (k n : ℕ) → map.get m k ≡ Some n → map.len (map.remove m k) + 1 ≡ map.len m
len_gone m k n g =
    let e : map.len (map.remove m k) ≡ map.len m - 1 = len-remove nat_cmp_total m k ∙ ap (λ o. cond (is_some o) (map.len m - 1) (map.len m)) g in
    omega (arith, e, some_len m k n g)

len_over : (m : map.FinMap nat_cmp ℕ) (k n v : ℕ) → map.get m k ≡ Some n → map.len (map.insert m k v) ≡ map.len m
len_over m k n v g = len-insert nat_cmp_total m k v ∙ ap (λ o. cond (is_some o) (map.len m) (map.len m + 1)) g

live_set : (ss : List State) (i : ℕ) (t : State) → i < length ss → live_in (slice_set ss i t) + map.len (state_at ss i).counts ≡ live_in ss + map.len t.counts
live_set [] i t lt = absurd (omega (arith, lt))
live_set (s ∷ ss) zero t lt = omega arith
live_set (s ∷ ss) (suc i) t lt = omega (arith, live_set ss i t (omega (arith, lt)))

live_at : (ss : List State) (i : ℕ) → map.len (state_at ss i).counts ≤ live_in ss
live_at [] i = omega (arith, len-empty nat_cmp ℕ)
live_at (s ∷ ss) zero = omega arith
live_at (s ∷ ss) (suc i) = omega (arith, live_at ss i)

pub in_list : {B : Type 0} (st : B → State) (xs : List B) (i k : ℕ) → 0 < count_at (state_at (list_map st xs) i).counts k → i < length xs
in_list st xs i k h = subst (λ n. i < n) (length-map xs st) (in_list_of (list_map st xs) i k h)

counted_key : (o : Option ℕ) → 0 < count_of o → (n : ℕ) × (o ≡ Some n)
counted_key None h = absurd (omega (arith, h))
counted_key (Some n) h = (n, refl)

pub counted_live : (ss : List State) (i k : ℕ) → 0 < count_at (state_at ss i).counts k → 0 < live_in ss
counted_live ss i k h =
    let found = counted_key (map.get (state_at ss i).counts k) h in
    omega (arith, some_len (state_at ss i).counts k found.0 found.1, live_at ss i)

pub room_left : (ss : List State) (len capacity i k : ℕ) → AreReady ss len capacity → 0 < count_at (state_at ss i).counts k → len < capacity
room_left ss len capacity i k r h = omega (arith, r.room, counted_live ss i k h)

-- ---- one driver moved

module _ {B V : Type 0} (st : B → State) (kind : B → V) (rule : V → Fits) (xs ys : List B) (i : ℕ) (R : Fits → State → State → Type 0) (one : OneMoved st kind rule xs i R ys) where
  others_same : (j : ℕ) → j ≢ i → state_at (list_map st ys) j ≡ state_at (list_map st xs) j
  others_same j ne = ap (λ ss. state_at ss j) one.others ∙ get_or-set_other (list_map st xs) i j (state_at (list_map st ys) i) nothing ne

  states_length : length (list_map st ys) ≡ length (list_map st xs)
  states_length = ap length one.others ∙ length-set (list_map st xs) i (state_at (list_map st ys) i)

  each_sound : IsSound (state_at (list_map st ys) i) → ((j : ℕ) → j < length (list_map st xs) → IsSound (state_at (list_map st xs) j))
      → (j : ℕ) → j < length (list_map st ys) → IsSound (state_at (list_map st ys) j)
  each_sound new old j lt =
      elim (cases_eq j i) [
        | inl e ↦ subst (λ k. IsSound (state_at (list_map st ys) k)) (sym e) new
        | inr ne ↦ subst IsSound (sym (others_same j ne)) (old j (subst (λ n. j < n) states_length lt))
      ]

  live_moved : live_in (list_map st ys) + map.len (state_at (list_map st xs) i).counts ≡ live_in (list_map st xs) + map.len (state_at (list_map st ys) i).counts
  live_moved =
      let lt : i < length (list_map st xs) = subst (λ n. i < n) (sym (length-map xs st)) one.in_list in
      ap (λ ss. live_in ss + map.len (state_at (list_map st xs) i).counts) one.others ∙ live_set (list_map st xs) i (state_at (list_map st ys) i) lt

-- ---- one reference less

ends_listed : (es : List HostEvent) (d k : ℕ) (b : Bool) → cond b (es ++ Ended d k ∷ []) es ≡ es ++ ends d k b
ends_listed es d k true = refl
ends_listed es d k false = sym (append-nil es)

released_len : (fits : Fits) (s t : State) (k : ℕ) (b : Bool) → Releases fits s k b t → map.len t.counts + one_if b ≡ map.len s.counts
released_len fits s t k true h = ap (λ m. map.len m + 1) h.1 ∙ len_gone s.counts k 1 h.0
released_len fits s t k false h = let e : map.len t.counts ≡ map.len s.counts = ap map.len h.2 ∙ len_over s.counts k (h.0 + 2) (h.0 + 1) h.1 in omega (arith, e)

pub ends_length : (d k : ℕ) (b : Bool) → length (ends d k b) ≡ one_if b
ends_length d k true = refl
ends_length d k false = refl

module _ {B V : Type 0} (st : B → State) (kind : B → V) (rule : V → Fits) (xs ys : List B) (d k : ℕ) (b : Bool) (one : OneMoved st kind rule xs d (λ f s t. WasReleased f s k b t) ys) where
  pub release_gives : (os : ScriptObjects) (gs : List (List Slot)) (es : List HostEvent) (n : ℕ) (sp : Bool) (bounds : Bounds) (is : List Input)
      → give (Host d (Some k)) (world_by os (counts_by (list_map st xs)) gs es n sp bounds is) ≡ world_by os (counts_by (list_map st ys)) gs (es ++ ends d k b) n sp bounds is
  release_gives os gs es n sp bounds is =
      world_released (rule_at (list_map rule (list_map kind xs)) d) (list_map st xs) (list_map st ys) d k b (world_by os (counts_by (list_map st xs)) gs es n sp bounds is) refl one.others one.moved.moved
      ∙ ap (λ l. world_by os (counts_by (list_map st ys)) gs l n sp bounds is) (ends_listed es d k b)

  gone : map.len (state_at (list_map st ys) d).counts + one_if b ≡ map.len (state_at (list_map st xs) d).counts
  gone = released_len (rule_at (list_map rule (list_map kind xs)) d) (state_at (list_map st xs) d) (state_at (list_map st ys) d) k b one.moved.moved

  pub release_level : (len len' : ℕ) → len' ≡ len + length (ends d k b) → len' + live_in (list_map st ys) ≡ len + live_in (list_map st xs)
  release_level len len' e = omega (arith, gone, live_moved st kind rule xs ys d _ one, ends_length d k b, e)

  pub release_fewer : live_in (list_map st ys) ≤ live_in (list_map st xs)
  release_fewer = omega (arith, gone, live_moved st kind rule xs ys d _ one)

  pub release_ready : (len capacity len' capacity' : ℕ) → AreReady (list_map st xs) len capacity → len' ≡ len + length (ends d k b) → capacity' ≡ capacity → AreReady (list_map st ys) len' capacity'
  release_ready len capacity len' capacity' r el ec = record {
    sound = each_sound st kind rule xs ys d _ one one.moved.sound r.sound;
    room = omega (arith, r.room, release_level len len' el, ec);
  }

-- ---- one reference more

added_len : (s t : State) (k : ℕ) (b : Bool) → Adds s k b t → map.len t.counts ≡ map.len s.counts
added_len s t k true h = ap map.len h.2 ∙ len_over s.counts k h.0 (h.0 + 1) h.1
added_len s t k false h = ap (λ x. map.len x.counts) h.0

same_at : (b : Bool) (d e : ℕ) (hs : HostCounts) → nat_eq d e ≡ b → cond b (hs d) (hs e) ≡ hs e
same_at true d e hs t = ap hs (eqb-true d e t)
same_at false d e hs t = refl

same_put : (d : ℕ) (hs : HostCounts) → host_put d (hs d) hs ≡ hs
same_put d hs = λ j e. same_at (nat_eq d e) d e hs refl j

module _ {B V : Type 0} (st : B → State) (kind : B → V) (rule : V → Fits) (xs ys : List B) (d k : ℕ) where
  pub add_counts : (b : Bool) → OneMoved st kind rule xs d (λ f s t. WasAdded s k b t) ys
      → counts_by (list_map st ys) ≡ cond b (host_raised d k (counts_by (list_map st xs))) (counts_by (list_map st xs))
  add_counts true one = counts_added (list_map st xs) (list_map st ys) d k one.others one.moved.moved
  add_counts false one =
      counts_put (list_map st xs) (list_map st ys) d (state_at (list_map st xs) d).counts one.others (ap (λ x. x.counts) one.moved.moved.0) ∙ same_put d (counts_by (list_map st xs))

  -- it was refused where a tally has run out
  pub add_full : (b : Bool) → OneMoved st kind rule xs d (λ f s t. WasAdded s k b t) ys → b ≡ false → IsFull (state_at (list_map st xs) d)
  add_full true one e = absurd (let x : ⊥ = cc in x)
  add_full false one e = one.moved.moved.1

  pub add_unchanged : (b : Bool) → OneMoved st kind rule xs d (λ f s t. WasAdded s k b t) ys → b ≡ false → list_map st ys ≡ list_map st xs
  add_unchanged true one e = absurd (let x : ⊥ = cc in x)
  add_unchanged false one e = one.others ∙ ap (slice_set (list_map st xs) d) one.moved.moved.0 ∙ set-get_or (list_map st xs) d nothing

  pub add_live : (b : Bool) → OneMoved st kind rule xs d (λ f s t. WasAdded s k b t) ys → live_in (list_map st ys) ≡ live_in (list_map st xs)
  add_live b one =
      omega (arith, added_len (state_at (list_map st xs) d) (state_at (list_map st ys) d) k b one.moved.moved, live_moved st kind rule xs ys d _ one)

  pub add_ready : (b : Bool) → OneMoved st kind rule xs d (λ f s t. WasAdded s k b t) ys → (len capacity : ℕ) → AreReady (list_map st xs) len capacity → AreReady (list_map st ys) len capacity
  add_ready b one len capacity r = record { sound = each_sound st kind rule xs ys d _ one one.moved.sound r.sound; room = omega (arith, r.room, add_live b one) }

-- ---- a host call that makes nothing

module _ {B V : Type 0} (st : B → State) (kind : B → V) (rule : V → Fits) (xs ys : List B) (d : ℕ) (ask : Ask) (r : Answer) (one : OneMoved st kind rule xs d (λ f s t. Answered f s ask r t) ys) where
  same_counts : (state_at (list_map st ys) d).counts ≡ (state_at (list_map st xs) d).counts
  same_counts = Answers-counts (rule_at (list_map rule (list_map kind xs)) d) (state_at (list_map st xs) d) (state_at (list_map st ys) d) ask r one.moved.moved

  pub answer_counts : counts_by (list_map st ys) ≡ counts_by (list_map st xs)
  answer_counts = counts_put (list_map st xs) (list_map st ys) d (state_at (list_map st xs) d).counts one.others same_counts ∙ same_put d (counts_by (list_map st xs))

  pub answer_live : live_in (list_map st ys) ≡ live_in (list_map st xs)
  answer_live = omega (arith, ap map.len same_counts, live_moved st kind rule xs ys d _ one)

  pub answer_ready : (len capacity len' capacity' : ℕ) → AreReady (list_map st xs) len capacity → len' + live_in (list_map st xs) ≤ capacity' → AreReady (list_map st ys) len' capacity'
  answer_ready len capacity len' capacity' ready room = record { sound = each_sound st kind rule xs ys d _ one one.moved.sound ready.sound; room = omega (arith, room, answer_live) }

  pub answer_length : length ys ≡ length xs
  answer_length = sym (length-map ys st) ∙ states_length st kind rule xs ys d _ one ∙ length-map xs st

-- ---- a host call that may make an object

-- the counts of driver d once it has answered so
abbrev pub made_by : Made → ℕ → HostCounts → HostCounts
made_by (MadeKey k) d hs = host_raised d k hs
made_by MadeNothing d hs = hs
made_by (MadeFault n) d hs = hs
made_by MadeMemory d hs = hs
made_by MadeFull d hs = hs

-- how many objects it made
abbrev pub born : Made → ℕ
born (MadeKey k) = 1
born MadeNothing = 0
born (MadeFault n) = 0
born MadeMemory = 0
born MadeFull = 0

len_new : (m : map.FinMap nat_cmp ℕ) (k v : ℕ) → map.get m k ≡ None → map.len (map.insert m k v) ≡ map.len m + 1
len_new m k v g = len-insert nat_cmp_total m k v ∙ ap (λ o. cond (is_some o) (map.len m) (map.len m + 1)) g

made_len : (fits : Fits) (s t : State) (q : Ask) (r : Made) → Makes fits s q r t → map.len t.counts ≡ map.len s.counts + born r
made_len fits s t q (MadeKey k) h = ap map.len h.1 ∙ len_new s.counts k 1 h.0
made_len fits s t q MadeNothing h = let e = ap map.len h.0 in omega (arith, e)
made_len fits s t q (MadeFault n) h = let e = ap map.len h.0 in omega (arith, e)
made_len fits s t q MadeMemory h = let e = ap map.len h.0 in omega (arith, e)
made_len fits s t q MadeFull h = let e = ap (λ x. map.len x.counts) h.0 in omega (arith, e)

module _ {B V : Type 0} (st : B → State) (kind : B → V) (rule : V → Fits) (xs ys : List B) (d : ℕ) (ask : Ask) where
  kept_counts : (r : Made) (one : OneMoved st kind rule xs d (λ f s t. WasMade f s ask r t) ys) → (state_at (list_map st ys) d).counts ≡ (state_at (list_map st xs) d).counts
      → counts_by (list_map st ys) ≡ counts_by (list_map st xs)
  kept_counts r one e = counts_put (list_map st xs) (list_map st ys) d (state_at (list_map st xs) d).counts one.others e ∙ same_put d (counts_by (list_map st xs))

  pub made_counts : (r : Made) → OneMoved st kind rule xs d (λ f s t. WasMade f s ask r t) ys → counts_by (list_map st ys) ≡ made_by r d (counts_by (list_map st xs))
  made_counts (MadeKey k) one = counts_made (rule_at (list_map rule (list_map kind xs)) d) (list_map st xs) (list_map st ys) d k ask one.others one.moved.moved
  made_counts MadeNothing one = kept_counts MadeNothing one one.moved.moved.0
  made_counts (MadeFault n) one = kept_counts (MadeFault n) one one.moved.moved.0
  made_counts MadeMemory one = kept_counts MadeMemory one one.moved.moved.0
  made_counts MadeFull one = kept_counts MadeFull one (ap (λ x. x.counts) one.moved.moved.0)

  pub made_live : (r : Made) → OneMoved st kind rule xs d (λ f s t. WasMade f s ask r t) ys → live_in (list_map st ys) ≡ live_in (list_map st xs) + born r
  made_live r one =
      let more = made_len (rule_at (list_map rule (list_map kind xs)) d) (state_at (list_map st xs) d) (state_at (list_map st ys) d) ask r one.moved.moved in
      omega (arith, more, live_moved st kind rule xs ys d _ one)

  pub made_ready : (r : Made) → OneMoved st kind rule xs d (λ f s t. WasMade f s ask r t) ys → (len capacity len' capacity' : ℕ) → AreReady (list_map st xs) len capacity
      → len' + (live_in (list_map st xs) + born r) ≤ capacity' → AreReady (list_map st ys) len' capacity'
  made_ready r one len capacity len' capacity' ready room =
      record { sound = each_sound st kind rule xs ys d _ one one.moved.sound ready.sound; room = omega (arith, room, made_live r one) }

-- ---- events that are followed

pub parts_none : {V : Type 0} {P : V → Type 0} (m : Meanings P) (roles : List Role) (xs : List (DynBox V Global P)) (es : List HostEvent) → PartsMove m roles xs es xs es
parts_none m roles xs es = record { more = []; events = sym (append-nil es); follow = AllFollow-none (λ b. state_in m b) (λ b. b.vtable) (λ v. (m v).meaning.fits) roles xs }

pub parts_join : {V : Type 0} {P : V → Type 0} (m : Meanings P) (roles : List Role) (xs ys zs : List (DynBox V Global P)) (es fs gs : List HostEvent)
    → PartsMove m roles xs es ys fs → PartsMove m roles ys fs zs gs → PartsMove m roles xs es zs gs
parts_join m roles xs ys zs es fs gs p q = record {
  more = p.more ++ q.more;
  events = q.events ∙ ap (λ l. l ++ q.more) p.events ∙ append_assoc es p.more q.more;
  follow = AllFollow-join (λ b. state_in m b) (λ b. b.vtable) (λ v. (m v).meaning.fits) roles xs ys zs p.more q.more p.follow q.follow;
}
