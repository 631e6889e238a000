-- Each answer of a driver of lists meets the law of its call.
use Rattle.std.specs.Prelude.{ℕ, ℤ, ◌≡◌, Bool, true, false, cond, List, [], Option, Some, None}
use Rattle.std.proofs.Common.{refl, sym, ap, subst, inl, inr}
use Rattle.ang_kinds.specs.declared.value.Value.{Value}
use Rattle.ang_host.specs.declared.answer.Made.{Made}
use Rattle.ang_host.specs.declared.answer.Made.TheVariants.{Fault as MadeFault}
use Rattle.ang_host.specs.declared.answer.Answer.{Answer}
use Rattle.ang_host.specs.declared.answer.Answer.TheVariants.{Void, Gave, Fault, Memory, Full}
use Rattle.ang_host.specs.declared.answer.HostReply.TheVariants.{Making}
use Rattle.ang_host.specs.State.{State, make, call, read, write}
use Rattle.ang_host.specs.Laws.{IsSound, Answered, WasMade, WasReleased}
use Rattle.ang_drivers.specs.declared.numbers.ListCall.{ListCall}
use Rattle.ang_drivers.specs.declared.numbers.ListCall.TheVariants.{Push, Get, Set, Length, Remove, Clear, Unknown}
use Rattle.ang_drivers.specs.Plain.{IsPlain}
use Rattle.ang_drivers.specs.Objects.{Ledger, Asks, MakesOne, ReleasesOne}
use Rattle.ang_drivers.specs.Tables.{state_of, CoreFits, MakesValue, is_bare_making}
use Rattle.ang_drivers.specs.Bounded.{bounded_over, ChangesOne}
use Rattle.ang_drivers.specs.IntList.{list_code, list_call, place, number_at, told, Sets, Removes, ListDoes, ListMoves, ListFits}
use Rattle.ang_drivers.proofs.ConsoleLaws.{live_plain}
use Rattle.ang_drivers.proofs.Moving.{IsNotFull, answered, made_value, made_fault, released, revalued, kept}
use Rattle.ang_drivers.proofs.Bounding.{answered_over, made_over, released_over}

not_full_plain : (a : Answer) → IsPlain a → IsNotFull a
not_full_plain Void p = tt
not_full_plain (Gave v) p = tt
not_full_plain (Fault n) p = tt
not_full_plain Memory p = tt
not_full_plain Full p = absurd p

-- ---- a list answers no key

told_plain : (z : Option ℤ) → IsPlain (told z)
told_plain None = tt
told_plain (Some z) = tt

sets_plain : (xs : List ℤ) (i : Option ℕ) (z : ℤ) (a : Answer) (ys : List ℤ) → Sets xs i z a ys → IsPlain a
sets_plain xs None z a ys h = subst IsPlain (sym h.0) tt
sets_plain xs (Some i) z a ys h = subst IsPlain (sym h.0) tt

removes_plain : (xs : List ℤ) (i : Option ℕ) (a : Answer) (ys : List ℤ) → Removes xs i a ys → IsPlain a
removes_plain xs None a ys h = subst IsPlain (sym h.0) tt
removes_plain xs (Some i) a ys h = subst IsPlain (sym h.0) tt

does_plain : (bound : ℕ) (xs : List ℤ) (m : ListCall) (a : Answer) (ys : List ℤ) → ListDoes bound xs m a ys → IsPlain a
does_plain bound xs (Push z) a ys (inl h) = subst IsPlain (sym h.0) tt
does_plain bound xs (Push z) a ys (inr h) = subst IsPlain (sym h.0) tt
does_plain bound xs (Get i) a ys h = subst IsPlain (sym h.0) (told_plain (number_at xs i))
does_plain bound xs (Set i z) a ys h = sets_plain xs (place xs i) z a ys h
does_plain bound xs Length a ys h = subst IsPlain (sym h.0) tt
does_plain bound xs (Remove i) a ys h = removes_plain xs (place xs i) a ys h
does_plain bound xs Clear a ys h = subst IsPlain (sym h.0) tt
does_plain bound xs Unknown a ys h = subst IsPlain (sym h.0) tt

-- ---- the laws

abbrev over : ℕ → Ledger (List ℤ) → State
over bound s = bounded_over bound (state_of list_code s)

module _ (bound : ℕ) (s t : Ledger (List ℤ)) (q : Asks s true t) where
  -- a call of a list; the bound stays
  pub list_answers : (u : Ledger (List ℤ)) (n f k : ℕ) (o : Option ℕ) (args : List Value) (m : ListCall) (r : Answer) → n ≡ bound → o ≡ Some k → m ≡ list_call f args
      → ChangesOne t k (λ xs ys. ListDoes bound xs m r ys) u → IsSound (state_of list_code u)
      → Answered ListFits (over bound s) (call f o args) r (over n u)
  list_answers u n f k o args m r e p read_as done sound =
      let h : ChangesOne t k (λ xs ys. ListDoes bound xs (list_call f args) r ys) u = subst (λ l. ChangesOne t k (λ xs ys. ListDoes bound xs l r ys) u) read_as done in
      let plain = does_plain bound h.0 (list_call f args) r h.1 h.3 in
      let law : Answered ListFits (over bound s) (call f (Some k) args) r (over bound u) =
      answered_over (λ b. CoreFits list_code (ListMoves b)) bound (state_of list_code s) (state_of list_code u) (call f (Some k) args) r
      (answered list_code (ListMoves bound) s t u (call f (Some k) args) r q (revalued t u k h.1 h.4) (not_full_plain r plain)
      (h.0, h.1, r, h.2, h.3, refl, ap (λ x. x.table) h.4) (live_plain (state_of list_code u) r plain) sound) in
      subst (λ x. Answered ListFits (over bound s) (call f x args) r (over n u)) (sym p)
      (subst (λ b. Answered ListFits (over bound s) (call f (Some k) args) r (over b u)) (sym e) law)

  -- what no list does
  pub calls_nothing : (f : ℕ) (o : Option ℕ) (args : List Value) → o ≡ None → IsSound (state_of list_code t)
      → Answered ListFits (over bound s) (call f o args) (Fault 1) (over bound t)
  calls_nothing f o args p sound =
      subst (λ x. Answered ListFits (over bound s) (call f x args) (Fault 1) (over bound t)) (sym p)
      (answered_over (λ b. CoreFits list_code (ListMoves b)) bound (state_of list_code s) (state_of list_code t) (call f None args) (Fault 1)
      (answered list_code (ListMoves bound) s t t (call f None args) (Fault 1) q (kept t) tt (refl, refl) tt sound))

  pub reads_nothing : (f : ℕ) (o : Option ℕ) → IsSound (state_of list_code t) → Answered ListFits (over bound s) (read f o) (Fault 1) (over bound t)
  reads_nothing f o sound =
      answered_over (λ b. CoreFits list_code (ListMoves b)) bound (state_of list_code s) (state_of list_code t) (read f o) (Fault 1)
      (answered list_code (ListMoves bound) s t t (read f o) (Fault 1) q (kept t) tt (refl, refl) tt sound)

  pub writes_nothing : (f : ℕ) (o : Option ℕ) (v : Value) → IsSound (state_of list_code t) → Answered ListFits (over bound s) (write f o v) (Fault 1) (over bound t)
  writes_nothing f o v sound =
      answered_over (λ b. CoreFits list_code (ListMoves b)) bound (state_of list_code s) (state_of list_code t) (write f o v) (Fault 1)
      (answered list_code (ListMoves bound) s t t (write f o v) (Fault 1) q (kept t) tt (refl, refl) tt sound)

  -- an empty list is made
  pub makes_list : (u : Ledger (List ℤ)) (f : ℕ) (args : List Value) (r : Made) → is_bare_making f args ≡ true → MakesOne t [] r u → IsSound (state_of list_code u)
      → WasMade ListFits (over bound s) (make f args) r (over bound u)
  makes_list u f args r e h sound =
      made_over (λ b. CoreFits list_code (ListMoves b)) bound (state_of list_code s) (state_of list_code u) (make f args) r
      (made_value list_code (ListMoves bound) s t u (make f args) [] r q h
      (λ a y m. subst (λ b. MakesValue t.table (cond b (Some []) None) a y) (sym e) m) sound)

  pub makes_nothing : (f : ℕ) (args : List Value) → is_bare_making f args ≡ false → IsSound (state_of list_code t)
      → WasMade ListFits (over bound s) (make f args) (MadeFault 1) (over bound t)
  makes_nothing f args e sound =
      made_over (λ b. CoreFits list_code (ListMoves b)) bound (state_of list_code s) (state_of list_code t) (make f args) (MadeFault 1)
      (made_fault list_code (ListMoves bound) s t (make f args) 1 q
      (subst (λ b. MakesValue t.table (cond b (Some []) None) (Making (MadeFault 1)) t.table) (sym e) (refl, refl)) sound)

pub releases_list : (bound : ℕ) (s t : Ledger (List ℤ)) (k : ℕ) (r : Bool) → ReleasesOne s k r t → IsSound (state_of list_code t)
    → WasReleased ListFits (over bound s) k r (over bound t)
releases_list bound s t k r h sound =
    released_over (λ b. CoreFits list_code (ListMoves b)) bound (state_of list_code s) (state_of list_code t) k r
    (released list_code (ListMoves bound) s t k r h (refl, refl) sound)
