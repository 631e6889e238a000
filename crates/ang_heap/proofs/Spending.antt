-- That a tally has run out stays so, since no tally of a driver falls.
use Rattle.std.proofs.Common.{◌≡◌, ℕ, ◌<◌, ◌≤◌, inl, inr, List, length, sym, ap, subst, ◌∙◌, arith}
use Rattle.std.specs.Prelude.{◌≢◌, map as list_map}
use Rattle.std.proofs.lemmas.Bool.{cases_eq}
use Rattle.std.proofs.lemmas.List.{length-set}
use Rattle.std.proofs.Common.{get_or-set_other}
use Rattle.ang_host.specs.declared.event.HostEvent.{HostEvent}
use Rattle.ang_host.specs.declared.event.Role.{Role}
use Rattle.ang_host.specs.declared.answer.Answer.{Answer}
use Rattle.ang_host.specs.declared.answer.Answer.TheVariants.{Void, Gave, Fault, Memory, Full}
use Rattle.ang_host.specs.declared.answer.Made.{Made}
use Rattle.ang_host.specs.declared.answer.Made.TheVariants.{Key as MadeKey, Nothing as MadeNothing, Fault as MadeFault, Memory as MadeMemory, Full as MadeFull}
use Rattle.ang_host.specs.State.{State, Tally, Ask}
use Rattle.ang_host.specs.Laws.{Fits, IsFull, Answers, Makes, Answered, WasMade, one_asked}
use Rattle.ang_host.specs.Members.{nothing, state_at, rule_at, OneMoved}
use Rattle.ang_host.specs.Events.{HasRunOut, AllFollow}
use Rattle.ang_heap.specs.Parts.{SomeRanOut}

pub record Grows (s t : Tally) : Type 0 where
  pub asked : s.asked ≤ t.asked
  pub made : s.made ≤ t.made
  pub added : s.added ≤ t.added

stays : (s t : Tally) → Grows s t → HasRunOut s → HasRunOut t
stays s t g (inl a) = inl (let b = g.asked in omega (arith, a, b))
stays s t g (inr (inl a)) = inr (inl (let b = g.made in omega (arith, a, b)))
stays s t g (inr (inr a)) = inr (inr (let b = g.added in omega (arith, a, b)))

full_out : (s : State) → IsFull s → HasRunOut s.tally
full_out s (inl e) = inl (omega (arith, e))
full_out s (inr (inl e)) = inr (inl (omega (arith, e)))
full_out s (inr (inr e)) = inr (inr (omega (arith, e)))

pub ran_out_at : (ss : List State) (i : ℕ) → i < length ss → IsFull (state_at ss i) → SomeRanOut ss
ran_out_at ss i lt f = (i, lt, full_out (state_at ss i) f)

-- over what is listed
pub ran_out_along : {B V : Type 0} (st : B → State) (kind : B → V) (rule : V → Fits) (roles : List Role) (xs : List B) (es : List HostEvent) (ys : List B)
    → AllFollow st kind rule roles xs es ys → SomeRanOut (list_map st xs) → SomeRanOut (list_map st ys)
ran_out_along st kind rule roles xs es ys p r =
    let f = p.follow.each r.0 r.1 in (
      r.0,
      subst (λ n. r.0 < n) (sym p.follow.same_length) r.1,
      stays (state_at (list_map st xs) r.0).tally (state_at (list_map st ys) r.0).tally (record { asked = omega (arith, f.asked); made = f.made; added = f.added }) r.2,
    )

-- ---- one driver moved

same_grows : (s t : Tally) → t ≡ s → Grows s t
same_grows s t e = record {
  asked = let a = ap (λ (x : Tally). x.asked) e in omega (arith, a);
  made = let a = ap (λ (x : Tally). x.made) e in omega (arith, a);
  added = let a = ap (λ (x : Tally). x.added) e in omega (arith, a);
}

asked_grows : (s t : Tally) → t ≡ one_asked s → Grows s t
asked_grows s t e = record {
  asked = let a = ap (λ (x : Tally). x.asked) e in omega (arith, a);
  made = let a = ap (λ (x : Tally). x.made) e in omega (arith, a);
  added = let a = ap (λ (x : Tally). x.added) e in omega (arith, a);
}

pub answers_grow : (f : Fits) (s t : State) (a : Ask) (r : Answer) → Answers f s a r t → Grows s.tally t.tally
answers_grow f s t a Full h = same_grows s.tally t.tally (ap (λ (x : State). x.tally) h.0)
answers_grow f s t a Void h = asked_grows s.tally t.tally h.1
answers_grow f s t a (Gave v) h = asked_grows s.tally t.tally h.1
answers_grow f s t a (Fault n) h = asked_grows s.tally t.tally h.1
answers_grow f s t a Memory h = asked_grows s.tally t.tally h.1

pub makes_grow : (f : Fits) (s t : State) (a : Ask) (r : Made) → Makes f s a r t → Grows s.tally t.tally
makes_grow f s t a MadeFull h = same_grows s.tally t.tally (ap (λ (x : State). x.tally) h.0)
makes_grow f s t a (MadeKey k) h =
    let e = h.2 in
    record {
      asked = let x = ap (λ (y : Tally). y.asked) e in omega (arith, x);
      made = let x = ap (λ (y : Tally). y.made) e in omega (arith, x);
      added = let x = ap (λ (y : Tally). y.added) e in omega (arith, x);
    }
makes_grow f s t a MadeNothing h = asked_grows s.tally t.tally h.1
makes_grow f s t a (MadeFault n) h = asked_grows s.tally t.tally h.1
makes_grow f s t a MadeMemory h = asked_grows s.tally t.tally h.1

module _ {B V : Type 0} (st : B → State) (kind : B → V) (rule : V → Fits) (xs ys : List B) (d : ℕ) (R : Fits → State → State → Type 0) (one : OneMoved st kind rule xs d R ys)
    (grows : R (rule_at (list_map rule (list_map kind xs)) d) (state_at (list_map st xs) d) (state_at (list_map st ys) d) → Grows (state_at (list_map st xs) d).tally (state_at (list_map st ys) d).tally) where
  same_length : length (list_map st ys) ≡ length (list_map st xs)
  same_length = ap length one.others ∙ length-set (list_map st xs) d (state_at (list_map st ys) d)

  other_same : (j : ℕ) → j ≢ d → state_at (list_map st ys) j ≡ state_at (list_map st xs) j
  other_same j ne = ap (λ ss. state_at ss j) one.others ∙ get_or-set_other (list_map st xs) d j (state_at (list_map st ys) d) nothing ne

  still_out : (j : ℕ) → HasRunOut (state_at (list_map st xs) j).tally → HasRunOut (state_at (list_map st ys) j).tally
  still_out j h =
      elim (cases_eq j d) [
        | inl e ↦ subst (λ k. HasRunOut (state_at (list_map st ys) k).tally) (sym e)
            (stays (state_at (list_map st xs) d).tally (state_at (list_map st ys) d).tally (grows one.moved) (subst (λ k. HasRunOut (state_at (list_map st xs) k).tally) e h))
        | inr ne ↦ subst (λ (s : State). HasRunOut s.tally) (sym (other_same j ne)) h
      ]

  pub ran_out_moved : SomeRanOut (list_map st xs) → SomeRanOut (list_map st ys)
  ran_out_moved r = (r.0, subst (λ n. r.0 < n) (sym same_length) r.1, still_out r.0 r.2)

-- a driver answered, or made an object
module _ {B V : Type 0} (st : B → State) (kind : B → V) (rule : V → Fits) (xs ys : List B) (d : ℕ) (ask : Ask) where
  pub answered_out : (r : Answer) → OneMoved st kind rule xs d (λ f s t. Answered f s ask r t) ys → SomeRanOut (list_map st xs) → SomeRanOut (list_map st ys)
  answered_out r one = ran_out_moved st kind rule xs ys d (λ f s t. Answered f s ask r t) one
      (λ q. answers_grow (rule_at (list_map rule (list_map kind xs)) d) (state_at (list_map st xs) d) (state_at (list_map st ys) d) ask r q.moved)

  pub made_out : (r : Made) → OneMoved st kind rule xs d (λ f s t. WasMade f s ask r t) ys → SomeRanOut (list_map st xs) → SomeRanOut (list_map st ys)
  made_out r one = ran_out_moved st kind rule xs ys d (λ f s t. WasMade f s ask r t) one
      (λ q. makes_grow (rule_at (list_map rule (list_map kind xs)) d) (state_at (list_map st xs) d) (state_at (list_map st ys) d) ask r q.moved)
