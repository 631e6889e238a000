-- Each call of the keys, with what was said over the streams, is the law of the driver's call.
use Rattle.std.specs.Prelude.{ℕ, ◌+◌, ◌≡◌, Bool, true, false, is_some, if◌then◌else◌, List, [], ◌∷◌, Option, Some, None}
use Rattle.std.specs.Ordering.{nat_cmp}
use Rattle.std.specs.FinMap as map
use Rattle.std.proofs.Common.{refl, sym, ◌∙◌, ap, subst, inl, inr}
use Rattle.ang_kinds.specs.declared.value.Value.{Value}
use Rattle.ang_kinds.specs.declared.value.Value.TheVariants as value
use Rattle.ang_host.specs.declared.answer.Made.{Made}
use Rattle.ang_host.specs.declared.answer.Made.TheVariants as made
use Rattle.ang_host.specs.declared.answer.Answer.{Answer}
use Rattle.ang_host.specs.declared.answer.Answer.TheVariants as answer
use Rattle.ang_host.specs.declared.answer.HostReply.{HostReply}
use Rattle.ang_host.specs.declared.answer.HostReply.TheVariants.{Making, Asking}
use Rattle.ang_host.specs.State.{State, Tally, Ask, make, end}
use Rattle.ang_host.specs.Laws.{Fits, IsLive, IsSound, IsAsked, Answers, Answered, WasMade, WasAdded, WasReleased, IsIdleTest, IsLiveAnswer, one_asked}
use Rattle.ang_remote.specs.Asks.{ask_text, is_posted}
use Rattle.ang_remote.specs.Ledger.{Live, Ledger, IsHeld, Asks, Inserts, AddsOne, ReleasesOne}
use Rattle.ang_remote.specs.KeysLedger.{ledger}
use Rattle.ang_remote.specs.Wires.{Wire, core_of, is_live, given_of, answer_of, made_of, IsMaking, MakesKey, IsExchanged, AnswerMoves, MakingMoves, WireMoves, RemoteFits}
use Rattle.ang_remote.specs.declared.answers.Said.{Said}
use Rattle.ang_remote.specs.declared.answers.Said.TheVariants as said
use Rattle.ang_remote.specs.declared.keys.Keys.{Keys}
use Rattle.ang_remote.proofs.Holding.{there_by_key}

-- a driver's number, and the functions that it is posted
abbrev pub Own : Type 0
Own = ℕ × List ℕ

-- the wire and the state of a driver
abbrev pub wire : Own → Ledger → Option (List ℕ) → Option (List ℕ) → Wire
wire n l w u = record { number = n.0; posted = n.1; live = l.live; written = w; unread = u }

abbrev pub at : Own → Ledger → Option (List ℕ) → Option (List ℕ) → State
at n l w u = record { counts = l.counts; core = core_of (wire n l w u); tally = l.tally }

pub sound_of : (k : Keys) (n : Own) (w u : Option (List ℕ)) → IsSound (at n (ledger k) w u)
sound_of k n w u = record { sums = k.sums; positive = k.positive }

-- one key made more
abbrev one_made : Tally → Tally
one_made t = record t { made = t.made + 1 }

-- ---- live keys

some_of : (o : Option ℕ) → is_some o ≡ true → (n : ℕ) × (o ≡ Some n)
some_of None e = absurd (let x : ⊥ = cc in x)
some_of (Some n) e = (n, refl)

held_of : (k : Keys) (q : ℕ) → is_live (ledger k).live q ≡ true → IsHeld (ledger k) q
held_of k q e =
    some_of (map.get (ledger k).counts q)
    (there_by_key (λ (n : ℕ). n) k.live.entries q ∙ sym (there_by_key (λ (n : ℕ). true) k.live.entries q) ∙ e)

-- a key that is answered is live
chosen : (t : State) (k : ℕ) (b : Bool) → (b ≡ true → IsLive t k)
    → IsLiveAnswer t (if b then answer.Gave (value.Key (Some k)) else answer.Fault 4294967286)
chosen t k true h = h refl
chosen t k false h = tt

given_live : (live : Live) (t : State) (v : Value) → ((k : ℕ) → is_live live k ≡ true → IsLive t k) → IsLiveAnswer t (given_of live v)
given_live live t (value.Int n) h = tt
given_live live t (value.Uint n) h = tt
given_live live t (value.Bool b) h = tt
given_live live t (value.Key None) h = tt
given_live live t (value.Key (Some k)) h = chosen t k (is_live live k) (h k)

answer_live : (live : Live) (t : State) (s : Said) → ((k : ℕ) → is_live live k ≡ true → IsLive t k) → IsLiveAnswer t (answer_of live s)
answer_live live t said.Void h = tt
answer_live live t (said.Gave v) h = given_live live t v h
answer_live live t (said.Made k) h = tt
answer_live live t said.Nothing h = tt
answer_live live t (said.Fault n) h = tt
answer_live live t said.Memory h = tt

-- ---- answers that are not for want of a tally

abbrev IsNotFull : Answer → Type 0
IsNotFull answer.Void = Unit {0}
IsNotFull (answer.Gave v) = Unit {0}
IsNotFull (answer.Fault n) = Unit {0}
IsNotFull answer.Memory = Unit {0}
IsNotFull answer.Full = ⊥

not_full : (fits : Fits) (s : State) (a : Ask) (r : Answer) (t : State) → IsNotFull r → IsAsked fits s a (Asking r) t → Answers fits s a r t
not_full fits s a answer.Void t p h = h
not_full fits s a (answer.Gave v) t p h = h
not_full fits s a (answer.Fault n) t p h = h
not_full fits s a answer.Memory t p h = h
not_full fits s a answer.Full t p h = absurd p

chosen_not : (k : ℕ) (b : Bool) → IsNotFull (if b then answer.Gave (value.Key (Some k)) else answer.Fault 4294967286)
chosen_not k true = tt
chosen_not k false = tt

given_not : (live : Live) (v : Value) → IsNotFull (given_of live v)
given_not live (value.Int n) = tt
given_not live (value.Uint n) = tt
given_not live (value.Bool b) = tt
given_not live (value.Key None) = tt
given_not live (value.Key (Some k)) = chosen_not k (is_live live k)

answer_not : (live : Live) (s : Said) → IsNotFull (answer_of live s)
answer_not live said.Void = tt
answer_not live (said.Gave v) = given_not live v
answer_not live (said.Made k) = tt
answer_not live said.Nothing = tt
answer_not live (said.Fault n) = tt
answer_not live said.Memory = tt

-- ---- the laws. Before is the ledger k, after the counted host call l, and at the end m.

module _ (n : Own) (k l : Keys) (w w2 u u2 : Option (List ℕ)) (asks : Asks (ledger k) true (ledger l)) where
  counts_same : (ledger l).counts ≡ (ledger k).counts
  counts_same = ap (λ x. x.counts) asks

  live_same : (ledger l).live ≡ (ledger k).live
  live_same = ap (λ x. x.live) asks

  tally_one : (ledger l).tally ≡ one_asked (ledger k).tally
  tally_one = ap (λ x. x.tally) asks

  answer_fits : (a : Ask) (s : Said) → IsExchanged (ask_text n.0 n.1 a) w w2 u u2 s (is_posted n.1 a)
      → ((x y : Wire) (r : HostReply) → AnswerMoves x a r y → WireMoves x a r y)
      → RemoteFits (core_of (wire n (ledger k) w u)) a (Asking (answer_of (ledger l).live s)) (core_of (wire n (ledger l) w2 u2))
  answer_fits a s exchanged moves = (
    wire n (ledger k) w u,
    wire n (ledger l) w2 u2,
    refl,
    refl,
    moves _ _ _ (s, (refl, refl, exchanged), ap (λ v. Asking (answer_of v s)) live_same, live_same),
  )

  -- a host call that is answered
  pub answered : (a : Ask) (s : Said) (r : Answer) → IsExchanged (ask_text n.0 n.1 a) w w2 u u2 s (is_posted n.1 a) → r ≡ answer_of (ledger l).live s
      → ((x y : Wire) (q : HostReply) → AnswerMoves x a q y → WireMoves x a q y)
      → Answered RemoteFits (at n (ledger k) w u) a r (at n (ledger l) w2 u2)
  answered a s r exchanged e moves = subst (λ q. Answered RemoteFits (at n (ledger k) w u) a q (at n (ledger l) w2 u2)) (sym e) (record {
    moved =
        not_full RemoteFits (at n (ledger k) w u) a (answer_of (ledger l).live s) (at n (ledger l) w2 u2) (answer_not (ledger l).live s)
        (counts_same, tally_one, answer_fits a s exchanged moves);
    live = answer_live (ledger l).live (at n (ledger l) w2 u2) s (held_of l);
    sound = sound_of l n w2 u2;
  })

  -- what a making comes to that makes no key
  made_none : (f : ℕ) (args : List Value) (s : Said) (r : Made) (m : Keys) → IsExchanged (ask_text n.0 n.1 (make f args)) w w2 u u2 s false
      → IsMaking (ledger l).live s r → ledger m ≡ ledger l → ((ledger l).live ≡ (ledger k).live → MakingMoves (wire n (ledger k) w u) (make f args) (Making r) (wire n (ledger m) w2 u2))
      → IsAsked RemoteFits (at n (ledger k) w u) (make f args) (Making r) (at n (ledger m) w2 u2)
  made_none f args s r m exchanged making same moves = (
    ap (λ x. x.counts) same ∙ counts_same,
    ap (λ x. x.tally) same ∙ tally_one,
    (wire n (ledger k) w u, wire n (ledger m) w2 u2, refl, refl, moves live_same),
  )

  making_before : (s : Said) (r : Made) → IsMaking (ledger l).live s r → IsMaking (ledger k).live s r
  making_before s r h = subst (λ v. IsMaking v s r) live_same h

  live_kept : (m : Keys) → ledger m ≡ ledger l → (ledger m).live ≡ (ledger k).live
  live_kept m same = ap (λ x. x.live) same ∙ live_same

  -- a host call for an object
  pub was_made : (f : ℕ) (args : List Value) (s : Said) (r : Made) (m : Keys) → IsExchanged (ask_text n.0 n.1 (make f args)) w w2 u u2 s false → MakesKey (ledger l) s r (ledger m)
      → WasMade RemoteFits (at n (ledger k) w u) (make f args) r (at n (ledger m) w2 u2)
  was_made f args s (made.Key q) m exchanged h = record {
    moved = (
      sym (ap (λ x. map.get x q) counts_same) ∙ h.1,
      h.2.counts ∙ ap (λ x. map.insert x q 1) counts_same,
      h.2.tally ∙ ap one_made tally_one,
      (
        wire n (ledger k) w u,
        wire n (ledger m) w2 u2,
        refl,
        refl,
        (s, made.Key q, (refl, refl, exchanged), making_before s (made.Key q) (inl (sym h.0)), refl, h.2.live ∙ ap (λ v. map.insert v q true) live_same),
      ),
    );
    sound = sound_of m n w2 u2;
  }
  was_made f args s made.Nothing m exchanged h = record {
    moved =
        made_none f args s made.Nothing m exchanged (inl (sym h.0)) h.1
        (λ e. (s, made.Nothing, (refl, refl, exchanged), making_before s made.Nothing (inl (sym h.0)), refl, live_kept m h.1));
    sound = sound_of m n w2 u2;
  }
  was_made f args s (made.Fault q) m exchanged h = record {
    moved =
        made_none f args s (made.Fault q) m exchanged (inl (sym h.0)) h.1
        (λ e. (s, made.Fault q, (refl, refl, exchanged), making_before s (made.Fault q) (inl (sym h.0)), refl, live_kept m h.1));
    sound = sound_of m n w2 u2;
  }
  was_made f args s made.Memory m exchanged h = record {
    moved =
        made_none f args s made.Memory m exchanged h.0 h.1
        (λ e. (s, made.Memory, (refl, refl, exchanged), making_before s made.Memory h.0, refl, live_kept m h.1));
    sound = sound_of m n w2 u2;
  }
  was_made f args s made.Full m exchanged h = absurd h

-- ---- what needs no host call

module _ (n : Own) (k m : Keys) (w u : Option (List ℕ)) where
  pub full_answer : (a : Ask) → Asks (ledger k) false (ledger m) → Answered RemoteFits (at n (ledger k) w u) a answer.Full (at n (ledger m) w u)
  full_answer a h = record {
    moved = (ap (λ l. at n l w u) h.0, inl h.1);
    live = tt;
    sound = sound_of m n w u;
  }

  pub full_making : (a : Ask) → Asks (ledger k) false (ledger m) → WasMade RemoteFits (at n (ledger k) w u) a made.Full (at n (ledger m) w u)
  full_making a h = record { moved = (ap (λ l. at n l w u) h.0, inl h.1); sound = sound_of m n w u }

  pub added : (q : ℕ) (r : Bool) → AddsOne (ledger k) q r (ledger m) → WasAdded (at n (ledger k) w u) q r (at n (ledger m) w u)
  added q true h = record {
    moved = (h.0, h.1, h.2, ap (λ v. core_of (record { number = n.0; posted = n.1; live = v; written = w; unread = u })) h.3, h.4);
    sound = sound_of m n w u;
  }
  added q false h = record { moved = (ap (λ l. at n l w u) h.0, inr (inr h.1)); sound = sound_of m n w u }

  pub released : (q : ℕ) (r : Bool) → ReleasesOne (ledger k) q r (ledger m) → WasReleased RemoteFits (at n (ledger k) w u) q r (at n (ledger m) w u)
  released q true h = record {
    moved = (
      h.0,
      h.1,
      h.3,
      (wire n (ledger k) w u, wire n (ledger m) w u, refl, refl, (refl, ap (λ v. record { number = n.0; posted = n.1; live = v; written = w; unread = u }) h.2)),
    );
    sound = sound_of m n w u;
  }
  released q false h = record {
    moved = (h.0, h.1, h.2, ap (λ v. core_of (record { number = n.0; posted = n.1; live = v; written = w; unread = u })) h.3, h.4);
    sound = sound_of m n w u;
  }

-- ---- the same where the driver's own fields are those that they were

pub answered_by : (n n2 : Own) (k l0 l : Keys) (w w2 u u2 : Option (List ℕ)) → n2 ≡ n → l ≡ l0 → Asks (ledger k) true (ledger l0) → (a : Ask) (s : Said) (r : Answer)
    → IsExchanged (ask_text n.0 n.1 a) w w2 u u2 s (is_posted n.1 a) → r ≡ answer_of (ledger l).live s → ((x y : Wire) (q : HostReply) → AnswerMoves x a q y → WireMoves x a q y)
    → Answered RemoteFits (at n (ledger k) w u) a r (at n2 (ledger l) w2 u2)
answered_by n n2 k l0 l w w2 u u2 same_n same_k asks a s r exchanged e moves =
    subst (λ p. Answered RemoteFits (at n (ledger k) w u) a r (at p (ledger l) w2 u2)) (sym same_n)
    (answered n k l w w2 u u2 (subst (λ x. Asks (ledger k) true (ledger x)) (sym same_k) asks) a s r exchanged e moves)

pub made_by : (n n2 : Own) (k l0 l m : Keys) (w w2 u u2 : Option (List ℕ)) → n2 ≡ n → l ≡ l0 → Asks (ledger k) true (ledger l0) → (f : ℕ) (args : List Value) (s : Said) (r : Made)
    → IsExchanged (ask_text n.0 n.1 (make f args)) w w2 u u2 s false → MakesKey (ledger l) s r (ledger m)
    → WasMade RemoteFits (at n (ledger k) w u) (make f args) r (at n2 (ledger m) w2 u2)
made_by n n2 k l0 l m w w2 u u2 same_n same_k asks f args s r exchanged h =
    subst (λ p. WasMade RemoteFits (at n (ledger k) w u) (make f args) r (at p (ledger m) w2 u2)) (sym same_n)
    (was_made n k l w w2 u u2 (subst (λ x. Asks (ledger k) true (ledger x)) (sym same_k) asks) f args s r m exchanged h)
