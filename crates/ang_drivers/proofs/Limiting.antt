-- A driver keeps its laws behind a limit.
use Rattle.std.specs.Prelude.{ℕ, ◌+◌, ◌-◌, ◌≡◌, ◌≢◌, ◌^◌, Bool, cond, List, [], ◌∷◌, Option, Some, None}
use Rattle.std.proofs.Common.{refl, sym, ◌∙◌, ap, subst, arith, inl, inr}
use Rattle.std.proofs.lemmas.Bool.{eq-eqb, ne_eqb}
use Rattle.ang_kinds.specs.declared.value.Value.{Value}
use Rattle.ang_kinds.specs.declared.value.Value.TheVariants.{Int, Uint, Bool as Truth, Key as KeyValue}
use Rattle.ang_host.specs.declared.answer.Made.{Made}
use Rattle.ang_host.specs.declared.answer.Made.TheVariants.{Key as MadeKey, Nothing, Fault as MadeFault, Memory as MadeMemory, Full as MadeFull}
use Rattle.ang_host.specs.declared.answer.Answer.{Answer}
use Rattle.ang_host.specs.declared.answer.Answer.TheVariants.{Void, Gave, Fault, Memory, Full}
use Rattle.ang_host.specs.declared.answer.HostReply.{HostReply}
use Rattle.ang_host.specs.declared.answer.HostReply.TheVariants.{Making, Asking}
use Rattle.ang_host.specs.State.{State, Tally, Ask, make, call, read, write}
use Rattle.ang_host.specs.Events.{is_full}
use Rattle.ang_host.specs.Laws.{Fits, IsLiveAnswer, IsLiveValue, AreLive, IsSound, IsFull, IsAsked, Answers, Makes, Answered, WasMade}
use Rattle.ang_drivers.specs.declared.limited.CallLimit.{CallLimit}
use Rattle.ang_drivers.specs.Limited.{limited_core, limited_over, IsWithin, refusal, left_after, CountedFits, InsideFits, LimitedFits}

module _ (l : CallLimit) (left asked : ℕ) where
  sound_over : (s : State) → IsSound s → IsSound (limited_over l left asked s)
  sound_over s h = record { sums = h.sums; positive = h.positive }

  live_over : (s : State) (r : Answer) → IsLiveAnswer s r → IsLiveAnswer (limited_over l left asked s) r
  live_over s Void h = tt
  live_over s (Gave (Int z)) h = tt
  live_over s (Gave (Uint m)) h = tt
  live_over s (Gave (Truth b)) h = tt
  live_over s (Gave (KeyValue None)) h = tt
  live_over s (Gave (KeyValue (Some k))) h = h
  live_over s (Fault m) h = tt
  live_over s Memory h = tt
  live_over s Full h = tt

  -- ---- a key that is live outside is live inside

  inside_value : (s : State) (v : Value) → IsLiveValue (limited_over l left asked s) v → IsLiveValue s v
  inside_value s (Int z) h = tt
  inside_value s (Uint m) h = tt
  inside_value s (Truth b) h = tt
  inside_value s (KeyValue None) h = tt
  inside_value s (KeyValue (Some k)) h = h

  pub inside_args : (s : State) (vs : List Value) → AreLive (limited_over l left asked s) vs → AreLive s vs
  inside_args s [] h = tt
  inside_args s (v ∷ vs) h = (inside_value s v h.0, inside_args s vs h.1)

  -- a tally that is full inside is full outside, since no host call reaches the driver inside uncounted
  full_over : (s : State) → IsWithin s asked → IsFull s → IsFull (limited_over l left asked s)
  full_over s w (inl e) = inl (omega (arith, e, w.few, w.reached))
  full_over s w (inr e) = inr e

-- ---- a host call that is counted

-- what was asked is a host call other than a reset
pub record IsCounted (l : CallLimit) (a : Ask) : Type 1 where
  pub moves : (fits : Fits) (left : ℕ) (x : List ℕ) (r : HostReply) (y : List ℕ) → CountedFits fits l left x a r y → InsideFits fits l left x a r y
  pub one_fewer : (left : ℕ) → left_after l left a ≡ left - 1

pub make_counted : (l : CallLimit) (f : ℕ) (args : List Value) → IsCounted l (make f args)
make_counted l f args = record { moves = λ fits left x r y h. h; one_fewer = λ left. refl }

pub read_counted : (l : CallLimit) (f : ℕ) (o : Option ℕ) → IsCounted l (read f o)
read_counted l f o = record { moves = λ fits left x r y h. h; one_fewer = λ left. refl }

pub write_counted : (l : CallLimit) (f : ℕ) (o : Option ℕ) (v : Value) → IsCounted l (write f o v)
write_counted l f o v = record { moves = λ fits left x r y h. h; one_fewer = λ left. refl }

pub call_counted : (l : CallLimit) (f : ℕ) (o : Option ℕ) (args : List Value) → f ≢ l.reset → IsCounted l (call f o args)
call_counted l f o args other = record {
  moves = λ fits left x r y h. inr (other, h);
  one_fewer = λ left. ap (λ b. cond b l.calls (left - 1)) (ne_eqb f l.reset other);
}

over_same : (s : State) (l m : CallLimit) (left n asked k : ℕ) → m ≡ l → n ≡ left → k ≡ asked → limited_over l left asked s ≡ limited_over m n k s
over_same s l m left n asked k p q e = λ j. limited_over (sym p j) (sym q j) (sym e j) s

module _ (fits : Fits) (l : CallLimit) (left asked : ℕ) (s t : State) (a : Ask) (counted : IsCounted l a) where
  -- ---- the driver inside is asked

  module _ (some_left : left ≢ 0) (w : IsWithin s asked) where
    moves_over : (r : HostReply) → fits s.core a r t.core → LimitedFits fits (limited_core l left s.core) a r (limited_core l (left - 1) t.core)
    moves_over r h = (
      l,
      left,
      s.core,
      t.core,
      refl,
      ap (λ n. limited_core l n t.core) (sym (counted.one_fewer left)),
      counted.moves fits left s.core r t.core (inr (some_left, h)),
    )

    asked_over : (r : HostReply) → IsAsked fits s a r t → IsAsked (LimitedFits fits) (limited_over l left asked s) a r (limited_over l (left - 1) (asked + 1) t)
    asked_over r h = (h.0, ap (λ (y : Tally). record y { asked = asked + 1 }) h.1, moves_over r h.2)

    -- the state after: nothing is counted where the driver inside was full
    abbrev after : Bool → State
    after b = limited_over l (cond b left (left - 1)) (cond b asked (asked + 1)) t

    answers_over : (r : Answer) → Answers fits s a r t → Answers (LimitedFits fits) (limited_over l left asked s) a r (after (is_full (Asking r)))
    answers_over Void h = asked_over (Asking Void) h
    answers_over (Gave v) h = asked_over (Asking (Gave v)) h
    answers_over (Fault m) h = asked_over (Asking (Fault m)) h
    answers_over Memory h = asked_over (Asking Memory) h
    answers_over Full h = (ap (limited_over l left asked) h.0, full_over l left asked s w h.1)

    makes_over : (r : Made) → Makes fits s a r t → Makes (LimitedFits fits) (limited_over l left asked s) a r (after (is_full (Making r)))
    makes_over (MadeKey k) h = (h.0, h.1, ap (λ (y : Tally). record y { asked = asked + 1 }) h.2, moves_over (Making (MadeKey k)) h.3)
    makes_over Nothing h = asked_over (Making Nothing) h
    makes_over (MadeFault m) h = asked_over (Making (MadeFault m)) h
    makes_over MadeMemory h = asked_over (Making MadeMemory) h
    makes_over MadeFull h = (ap (limited_over l left asked) h.0, full_over l left asked s w h.1)

    module _ (m : CallLimit) (n k : ℕ) (b : Bool) (same : m ≡ l) (fewer : n ≡ cond b left (left - 1)) (more : k ≡ cond b asked (asked + 1)) where
      pub answered_over : (r : Answer) → b ≡ is_full (Asking r) → Answered fits s a r t
          → Answered (LimitedFits fits) (limited_over l left asked s) a r (limited_over m n k t)
      answered_over r e h =
          let q : after (is_full (Asking r)) ≡ limited_over m n k t = ap after (sym e) ∙ over_same t l m _ n _ k same fewer more in
          record {
            moved = subst (λ u. Answers (LimitedFits fits) (limited_over l left asked s) a r u) q (answers_over r h.moved);
            live = live_over m n k t r h.live;
            sound = sound_over m n k t h.sound;
          }

      pub made_over : (r : Made) → b ≡ is_full (Making r) → WasMade fits s a r t
          → WasMade (LimitedFits fits) (limited_over l left asked s) a r (limited_over m n k t)
      made_over r e h =
          let q : after (is_full (Making r)) ≡ limited_over m n k t = ap after (sym e) ∙ over_same t l m _ n _ k same fewer more in
          record {
            moved = subst (λ u. Makes (LimitedFits fits) (limited_over l left asked s) a r u) q (makes_over r h.moved);
            sound = sound_over m n k t h.sound;
          }

-- ---- the driver inside is not asked

module _ (fits : Fits) (l : CallLimit) (left asked : ℕ) (s : State) (a : Ask) (w : IsWithin s asked) where
  pub answered_full : asked ≡ 2 ^ 63 - 1 → Answered (LimitedFits fits) (limited_over l left asked s) a Full (limited_over l left asked s)
  answered_full e = record { moved = (refl, inl e); live = tt; sound = sound_over l left asked s w.sound }

  pub made_full : asked ≡ 2 ^ 63 - 1 → WasMade (LimitedFits fits) (limited_over l left asked s) a MadeFull (limited_over l left asked s)
  made_full e = record { moved = (refl, inl e); sound = sound_over l left asked s w.sound }

  module _ (counted : IsCounted l a) (none_left : left ≡ 0) where
    refused : (r : HostReply) → r ≡ refusal l a → IsAsked (LimitedFits fits) (limited_over l left asked s) a r (limited_over l left (asked + 1) s)
    refused r e = (
      refl,
      refl,
      (
        l,
        left,
        s.core,
        s.core,
        refl,
        ap (λ n. limited_core l n s.core) (omega (arith, none_left, counted.one_fewer left)),
        counted.moves fits left s.core r s.core (inl (none_left, e, refl)),
      ),
    )

    pub answered_refused : (n : ℕ) → n ≡ l.fault → Asking (Fault l.fault) ≡ refusal l a
        → Answered (LimitedFits fits) (limited_over l left asked s) a (Fault n) (limited_over l left (asked + 1) s)
    answered_refused n q e = record {
      moved = refused (Asking (Fault n)) (ap (λ m. Asking (Fault m)) q ∙ e);
      live = tt;
      sound = sound_over l left (asked + 1) s w.sound;
    }

    pub made_refused : (n : ℕ) → n ≡ l.fault → Making (MadeFault l.fault) ≡ refusal l a
        → WasMade (LimitedFits fits) (limited_over l left asked s) a (MadeFault n) (limited_over l left (asked + 1) s)
    made_refused n q e = record {
      moved = refused (Making (MadeFault n)) (ap (λ m. Making (MadeFault m)) q ∙ e);
      sound = sound_over l left (asked + 1) s w.sound;
    }

-- the count begins anew
pub answered_reset : (fits : Fits) (l : CallLimit) (left asked : ℕ) (s : State) (f : ℕ) (o : Option ℕ) (args : List Value)
    → IsWithin s asked → f ≡ l.reset
    → Answered (LimitedFits fits) (limited_over l left asked s) (call f o args) Void (limited_over l l.calls (asked + 1) s)
answered_reset fits l left asked s f o args w e = record {
  moved = (
    refl,
    refl,
    (
      l,
      left,
      s.core,
      s.core,
      refl,
      ap (λ b. limited_core l (cond b l.calls (left - 1)) s.core) (sym (eq-eqb f l.reset e)),
      inl (e, refl, refl),
    ),
  );
  live = tt;
  sound = sound_over l l.calls (asked + 1) s w.sound;
}
