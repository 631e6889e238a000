-- Counts that agree with the places that hold keys, over calls that change them.
use Rattle.std.specs.Prelude.{ℕ, ◌+◌, ◌≡◌, ◌≢◌, ◌<◌, ◌≤◌, Bool, true, false, cond, nat_eq, ◌&&◌, List, All, [], ◌∷◌, ◌++◌, length, count_by, map as list_map, slice_index_or}
use Rattle.std.proofs.Common.{refl, sym, ◌∙◌, ap, subst, arith, inl, inr, get_or-set_other}
use Rattle.std.proofs.lemmas.List.{length-map, length-set, length_push, get_or_push, get_or_append_left}
use Rattle.std.proofs.lemmas.List.Elements.{All-push, All-nil}
use Rattle.std.proofs.lemmas.List.Sorted.{All-permutation, sum_by-IsPermutation}
use Rattle.std.specs.List.Sorted.{IsPermutation}
use Rattle.std.specs.Ordering.{nat_cmp}
use Rattle.std.specs.FinMap as map
use Rattle.std.specs.FinMap.{get-empty}
use Rattle.std.proofs.lemmas.Bool.{cases_eq, eq-eqb, ne_eqb}
use Rattle.ang_host.specs.declared.answer.Made.{Made}
use Rattle.ang_host.specs.declared.answer.Made.TheVariants.{Key as MadeKey}
use Rattle.ang_host.specs.declared.answer.Answer.{Answer}
use Rattle.ang_host.specs.State.{State, Ask, count_at, count_of}
use Rattle.ang_host.specs.Laws.{Fits, IsLive, IsSound, WasAdded, WasReleased, WasMade, Answered}
use Rattle.ang_host.specs.Members.{nothing, state_at, rule_at, OneMoved, AreFresh}
use Rattle.ang_host.specs.Counts.{holds, Agrees, IsBalanced}
use Rattle.ang_host.proofs.Counts.{one_if, Adds-count, Releases-count, Makes-count, Makes-counts, Answers-counts, IsLive-held, IsBalanced-none}
use Rattle.std.proofs.lemmas.List.Sums.{sum_by-append, get_or-le-sum_by}

count_push : {P : Type 0} (test : P → Bool) (xs : List P) (y : P) → count_by test (xs ++ y ∷ []) ≡ count_by test xs + one_if (test y)
count_push test xs y = omega (arith, sum_by-append (λ x. cond (test x) 1 0) xs (y ∷ []))

module _ {B V : Type 0} (st : B → State) (kind : B → V) (rule : V → Fits) (xs ys : List B) (i : ℕ) (R : Fits → State → State → Type 0) (one : OneMoved st kind rule xs i R ys) where
  -- what is not the i-th has its state
  others_same : (j : ℕ) → j ≢ i → state_at (list_map st ys) j ≡ state_at (list_map st xs) j
  others_same j ne = ap (λ ss. state_at ss j) one.others ∙ get_or-set_other (list_map st xs) i j (state_at (list_map st ys) i) nothing ne

  states_length : length (list_map st ys) ≡ length (list_map st xs)
  states_length = ap length one.others ∙ length-set (list_map st xs) i (state_at (list_map st ys) i)

  pub members_length : length ys ≡ length xs
  members_length = sym (length-map ys st) ∙ states_length ∙ length-map xs st

  within_still : {P : Type 0} (d : P → ℕ) (ps : List P) → All (λ p. d p < length (list_map st xs)) ps → All (λ p. d p < length (list_map st ys)) ps
  within_still d ps = subst (λ n. All (λ p. d p < n) ps) (sym states_length)

  at_still : i < length (list_map st ys)
  at_still = subst (λ n. i < n) (sym (states_length ∙ length-map xs st)) one.in_list

  -- a fact of each state, and of the i-th anew
  each_sound : IsSound (state_at (list_map st ys) i) → ((j : ℕ) → j < length (list_map st xs) → IsSound (state_at (list_map st xs) j))
      → (j : ℕ) → j < length (list_map st ys) → IsSound (state_at (list_map st ys) j)
  each_sound new old j lt =
      elim (cases_eq j i) [
        | inl e ↦ subst (λ k. IsSound (state_at (list_map st ys) k)) (sym e) new
        | inr ne ↦ subst IsSound (sym (others_same j ne)) (old j (subst (λ n. j < n) states_length lt))
      ]

  -- counts that change at the key k of the i-th alone
  each_count : (k : ℕ) (of : (j q : ℕ) → Bool → Type 0)
      → ((j q : ℕ) → j ≡ i → of j q (nat_eq k q)) → ((j q : ℕ) → j ≢ i → of j q false)
      → (j q : ℕ) → of j q (nat_eq i j && nat_eq k q)
  each_count k of at_i elsewhere j q =
      elim (cases_eq j i) [
        | inl e ↦ subst (λ b. of j q (b && nat_eq k q)) (sym (eq-eqb i j (sym e))) (at_i j q e)
        | inr ne ↦ subst (λ b. of j q (b && nat_eq k q)) (sym (ne_eqb i j (λ x. ne (sym x)))) (elsewhere j q ne)
      ]

pub Agrees-released : {B V P : Type 0} (st : B → State) (kind : B → V) (rule : V → Fits) (xs ys : List B) (d key : P → ℕ) (ps : List P) (p : P) (b : Bool)
    → Agrees d key (ps ++ p ∷ []) (list_map st xs) → OneMoved st kind rule xs (d p) (λ f s t. WasReleased f s (key p) b t) ys
    → Agrees d key ps (list_map st ys)
Agrees-released st kind rule xs ys d key ps p b a one =
    record {
      within = within_still st kind rule xs ys (d p) _ one d ps
          (λ i x lt. subst (λ q. d q < length (list_map st xs)) (get_or_append_left ps (p ∷ []) x i lt) (a.within i x (omega (arith, lt, length_push ps p))));
      counts = λ j q lt.
          let r : count_at (state_at (list_map st ys) j).counts q + one_if (holds d key j q p) ≡ count_at (state_at (list_map st xs) j).counts q =
          each_count st kind rule xs ys (d p) _ one (key p)
          (λ j q c. count_at (state_at (list_map st ys) j).counts q + one_if c ≡ count_at (state_at (list_map st xs) j).counts q)
          (λ j q e. subst (λ i. count_at (state_at (list_map st ys) i).counts q + one_if (nat_eq (key p) q) ≡ count_at (state_at (list_map st xs) i).counts q) (sym e)
          (Releases-count (rule_at (list_map rule (list_map kind xs)) (d p)) (state_at (list_map st xs) (d p)) (state_at (list_map st ys) (d p)) (key p) b one.moved.moved q))
          (λ j q ne. let e : count_at (state_at (list_map st ys) j).counts q ≡ count_at (state_at (list_map st xs) j).counts q = ap (λ s. count_at s.counts q) (others_same st kind rule xs ys (d p) _ one j ne) in omega arith) j q in
          omega (arith, r, a.counts j q (subst (λ n. j < n) (states_length st kind rule xs ys (d p) _ one) lt), count_push (holds d key j q) ps p);
      sound = each_sound st kind rule xs ys (d p) _ one one.moved.sound a.sound;
    }

pub Agrees-added : {B V P : Type 0} (st : B → State) (kind : B → V) (rule : V → Fits) (xs ys : List B) (d key : P → ℕ) (ps : List P) (p : P)
    → Agrees d key ps (list_map st xs) → OneMoved st kind rule xs (d p) (λ f s t. WasAdded s (key p) true t) ys
    → Agrees d key (ps ++ p ∷ []) (list_map st ys)
Agrees-added st kind rule xs ys d key ps p a one =
    record {
      within = All-push (λ p. d p < length (list_map st ys)) ps p (within_still st kind rule xs ys (d p) _ one d ps a.within) (at_still st kind rule xs ys (d p) _ one);
      counts = λ j q lt.
          let r : count_at (state_at (list_map st ys) j).counts q ≡ count_at (state_at (list_map st xs) j).counts q + one_if (holds d key j q p) =
          each_count st kind rule xs ys (d p) _ one (key p)
          (λ j q c. count_at (state_at (list_map st ys) j).counts q ≡ count_at (state_at (list_map st xs) j).counts q + one_if c)
          (λ j q e. subst (λ i. count_at (state_at (list_map st ys) i).counts q ≡ count_at (state_at (list_map st xs) i).counts q + one_if (nat_eq (key p) q)) (sym e)
          (Adds-count (state_at (list_map st xs) (d p)) (state_at (list_map st ys) (d p)) (key p) one.moved.moved q))
          (λ j q ne. let e : count_at (state_at (list_map st ys) j).counts q ≡ count_at (state_at (list_map st xs) j).counts q = ap (λ s. count_at s.counts q) (others_same st kind rule xs ys (d p) _ one j ne) in omega arith) j q in
          omega (arith, r, a.counts j q (subst (λ n. j < n) (states_length st kind rule xs ys (d p) _ one) lt), count_push (holds d key j q) ps p);
      sound = each_sound st kind rule xs ys (d p) _ one one.moved.sound a.sound;
    }

-- what a place holds is live
pub Agrees-live : {P : Type 0} (d key : P → ℕ) (ps : List P) (ss : List State) (j : ℕ) (p : P)
    → Agrees d key ps ss → j < length ps → p ≡ slice_index_or ps j p → IsLive (state_at ss (d p)) (key p)
Agrees-live d key ps ss j p a lt is =
    let listed : d p < length ss = subst (λ q. d q < length ss) (sym is) (a.within j p lt) in
    let test : holds d key (d p) (key p) p ≡ true = ap (λ b. b && nat_eq (key p) (key p)) (eq-eqb (d p) (d p) refl) ∙ eq-eqb (key p) (key p) refl in
    let some : cond (holds d key (d p) (key p) (slice_index_or ps j p)) 1 0 ≤ count_by (holds d key (d p) (key p)) ps = get_or-le-sum_by (λ x. cond (holds d key (d p) (key p) x) 1 0) ps j p lt in
    let one : one_if (holds d key (d p) (key p) (slice_index_or ps j p)) ≡ 1 = ap (λ x. one_if (holds d key (d p) (key p) x)) (sym is) ∙ ap one_if test in
    IsLive-held (state_at ss (d p)) (key p) (omega (arith, some, one, a.counts (d p) (key p) listed))

-- with no place, each driver is balanced
pub Agrees-none : {P : Type 0} (d key : P → ℕ) (ss : List State) → Agrees d key [] ss → (i : ℕ) → i < length ss → IsBalanced (state_at ss i)
Agrees-none d key ss a i lt = IsBalanced-none (state_at ss i) (a.sound i lt) (λ k. a.counts i k lt)

-- what the last place holds is live
pub Agrees-live_last : {P : Type 0} (d key : P → ℕ) (ps : List P) (ss : List State) (p : P)
    → Agrees d key (ps ++ p ∷ []) ss → IsLive (state_at ss (d p)) (key p)
Agrees-live_last d key ps ss p a =
    Agrees-live d key (ps ++ p ∷ []) ss (length ps) p a (omega (arith, length_push ps p)) (sym (get_or_push ps p p (length ps) refl))

-- the order of the places does not matter
pub Agrees-permuted : {P : Type 0} (d key : P → ℕ) (ps qs : List P) (ss : List State) → IsPermutation ps qs → Agrees d key ps ss → Agrees d key qs ss
Agrees-permuted d key ps qs ss perm a =
    record {
      within = All-permutation (λ p. d p < length ss) ps qs perm a.within;
      counts = λ i k lt. a.counts i k lt ∙ sym (sum_by-IsPermutation (λ x. cond (holds d key i k x) 1 0) ps qs perm);
      sound = a.sound;
    }

pub Agrees-all_given : {P : Type 0} (d key : P → ℕ) (ps : List P) (ss : List State) → length ps ≡ 0 → Agrees d key ps ss → (i : ℕ) → i < length ss → IsBalanced (state_at ss i)
Agrees-all_given d key [] ss e a i lt = Agrees-none d key ss a i lt
Agrees-all_given d key (p ∷ ps) ss e a i lt = absurd (omega (arith, e))

pub Agrees-made : {B V P : Type 0} (st : B → State) (kind : B → V) (rule : V → Fits) (xs ys : List B) (d key : P → ℕ) (ps : List P) (p : P) (ask : Ask)
    → Agrees d key ps (list_map st xs) → OneMoved st kind rule xs (d p) (λ f s t. WasMade f s ask (MadeKey (key p)) t) ys
    → Agrees d key (ps ++ p ∷ []) (list_map st ys)
Agrees-made st kind rule xs ys d key ps p ask a one =
    record {
      within = All-push (λ p. d p < length (list_map st ys)) ps p (within_still st kind rule xs ys (d p) _ one d ps a.within) (at_still st kind rule xs ys (d p) _ one);
      counts = λ j q lt.
          let r : count_at (state_at (list_map st ys) j).counts q ≡ count_at (state_at (list_map st xs) j).counts q + one_if (holds d key j q p) =
          each_count st kind rule xs ys (d p) _ one (key p)
          (λ j q c. count_at (state_at (list_map st ys) j).counts q ≡ count_at (state_at (list_map st xs) j).counts q + one_if c)
          (λ j q e. subst (λ i. count_at (state_at (list_map st ys) i).counts q ≡ count_at (state_at (list_map st xs) i).counts q + one_if (nat_eq (key p) q)) (sym e)
          (Makes-count (rule_at (list_map rule (list_map kind xs)) (d p)) (state_at (list_map st xs) (d p)) (state_at (list_map st ys) (d p)) ask (key p) one.moved.moved q))
          (λ j q ne. let e : count_at (state_at (list_map st ys) j).counts q ≡ count_at (state_at (list_map st xs) j).counts q = ap (λ s. count_at s.counts q) (others_same st kind rule xs ys (d p) _ one j ne) in omega arith) j q in
          omega (arith, r, a.counts j q (subst (λ n. j < n) (states_length st kind rule xs ys (d p) _ one) lt), count_push (holds d key j q) ps p);
      sound = each_sound st kind rule xs ys (d p) _ one one.moved.sound a.sound;
    }

-- a call, read or write keeps the agreement
pub Agrees-answered : {B V P : Type 0} (st : B → State) (kind : B → V) (rule : V → Fits) (xs ys : List B) (d key : P → ℕ) (ps : List P) (i : ℕ) (ask : Ask) (r : Answer)
    → Agrees d key ps (list_map st xs) → OneMoved st kind rule xs i (λ f s t. Answered f s ask r t) ys
    → Agrees d key ps (list_map st ys)
Agrees-answered st kind rule xs ys d key ps i ask r a one =
    record {
      within = within_still st kind rule xs ys i _ one d ps a.within;
      counts = λ j q lt.
          let same : count_at (state_at (list_map st ys) j).counts q ≡ count_at (state_at (list_map st xs) j).counts q =
          elim (cases_eq j i) [
            | inl e ↦ subst (λ k. count_at (state_at (list_map st ys) k).counts q ≡ count_at (state_at (list_map st xs) k).counts q) (sym e)
                (ap (λ m. count_at m q) (Answers-counts (rule_at (list_map rule (list_map kind xs)) i) (state_at (list_map st xs) i) (state_at (list_map st ys) i) ask r one.moved.moved))
            | inr ne ↦ ap (λ s. count_at s.counts q) (others_same st kind rule xs ys i _ one j ne)
          ] in
          same ∙ a.counts j q (subst (λ n. j < n) (states_length st kind rule xs ys i _ one) lt);
      sound = each_sound st kind rule xs ys i _ one one.moved.sound a.sound;
    }

-- fresh drivers agree with no places
pub Agrees-fresh : {P : Type 0} (d key : P → ℕ) (ss : List State) → AreFresh ss → Agrees d key [] ss
Agrees-fresh d key ss f =
    record {
      within = All-nil (λ p. d p < length ss);
      counts = λ i k lt. ap (λ m. count_at m k) (f.idle i lt) ∙ ap count_of (get-empty nat_cmp k);
      sound = f.sound;
    }

-- where nothing is held, a call, read or write leaves nothing alive
pub AreFresh-answered : {B V : Type 0} (st : B → State) (kind : B → V) (rule : V → Fits) (xs ys : List B) (i : ℕ) (ask : Ask) (r : Answer)
    → AreFresh (list_map st xs) → OneMoved st kind rule xs i (λ f s t. Answered f s ask r t) ys → AreFresh (list_map st ys)
AreFresh-answered st kind rule xs ys i ask r f one =
    record {
      idle = λ j lt. elim (cases_eq j i) [
        | inl e ↦ subst (λ k. (state_at (list_map st ys) k).counts ≡ map.empty) (sym e)
            (Answers-counts (rule_at (list_map rule (list_map kind xs)) i) (state_at (list_map st xs) i) (state_at (list_map st ys) i) ask r one.moved.moved
            ∙ f.idle i (subst (λ n. i < n) (sym (length-map xs st)) one.in_list))
        | inr ne ↦ ap (λ s. s.counts) (others_same st kind rule xs ys i _ one j ne)
            ∙ f.idle j (subst (λ n. j < n) (states_length st kind rule xs ys i _ one) lt)
      ];
      sound = each_sound st kind rule xs ys i _ one one.moved.sound f.sound;
    }

-- fresh drivers are balanced
pub AreFresh-balanced : (ss : List State) → AreFresh ss → (i : ℕ) → i < length ss → IsBalanced (state_at ss i)
AreFresh-balanced ss f i lt =
    IsBalanced-none (state_at ss i) (f.sound i lt) (λ k. ap (λ m. count_at m k) (f.idle i lt) ∙ ap count_of (get-empty nat_cmp k))

-- a call that changes no count keeps the agreement
pub Agrees-kept : {B V P : Type 0} (st : B → State) (kind : B → V) (rule : V → Fits) (xs ys : List B) (d key : P → ℕ) (ps : List P) (i : ℕ) (R : Fits → State → State → Type 0)
    → Agrees d key ps (list_map st xs) → OneMoved st kind rule xs i R ys
    → (state_at (list_map st ys) i).counts ≡ (state_at (list_map st xs) i).counts → IsSound (state_at (list_map st ys) i)
    → Agrees d key ps (list_map st ys)
Agrees-kept st kind rule xs ys d key ps i R a one kept sound =
    record {
      within = within_still st kind rule xs ys i R one d ps a.within;
      counts = λ j q lt.
          let same : count_at (state_at (list_map st ys) j).counts q ≡ count_at (state_at (list_map st xs) j).counts q =
          elim (cases_eq j i) [
            | inl e ↦ subst (λ k. count_at (state_at (list_map st ys) k).counts q ≡ count_at (state_at (list_map st xs) k).counts q) (sym e)
                (ap (λ m. count_at m q) kept)
            | inr ne ↦ ap (λ s. count_at s.counts q) (others_same st kind rule xs ys i R one j ne)
          ] in
          same ∙ a.counts j q (subst (λ n. j < n) (states_length st kind rule xs ys i R one) lt);
      sound = each_sound st kind rule xs ys i R one sound a.sound;
    }

-- a reference that was not added
pub Agrees-not_added : {B V P : Type 0} (st : B → State) (kind : B → V) (rule : V → Fits) (xs ys : List B) (d key : P → ℕ) (ps : List P) (i k : ℕ)
    → Agrees d key ps (list_map st xs) → OneMoved st kind rule xs i (λ f s t. WasAdded s k false t) ys
    → Agrees d key ps (list_map st ys)
Agrees-not_added st kind rule xs ys d key ps i k a one =
    Agrees-kept st kind rule xs ys d key ps i _ a one (ap (λ s. s.counts) one.moved.moved.0) one.moved.sound

-- a making that answered no key
pub Agrees-not_made : {B V P : Type 0} (st : B → State) (kind : B → V) (rule : V → Fits) (xs ys : List B) (d key : P → ℕ) (ps : List P) (i : ℕ) (ask : Ask) (r : Made)
    → ((k : ℕ) → r ≡ MadeKey k → ⊥) → Agrees d key ps (list_map st xs) → OneMoved st kind rule xs i (λ f s t. WasMade f s ask r t) ys
    → Agrees d key ps (list_map st ys)
Agrees-not_made st kind rule xs ys d key ps i ask r none a one =
    Agrees-kept st kind rule xs ys d key ps i _ a one
    (Makes-counts (rule_at (list_map rule (list_map kind xs)) i) (state_at (list_map st xs) i) (state_at (list_map st ys) i) ask r none one.moved.moved)
    one.moved.sound
