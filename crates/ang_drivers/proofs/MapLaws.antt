-- Each answer of a driver of maps meets the law of its call.
use Rattle.std.specs.Prelude.{ℕ, ℤ, ◌≡◌, Bool, true, false, cond, List, [], Option, Some, None}
use Rattle.std.specs.Option.{option_map}
use Rattle.std.specs.Ordering.{int_cmp}
use Rattle.std.specs.FinMap.{find}
use Rattle.std.proofs.Common.{refl, sym, ap, subst, inl, inr}
use Rattle.ang_kinds.specs.declared.value.Value.{Value}
use Rattle.ang_host.specs.declared.answer.Made.{Made}
use Rattle.ang_host.specs.declared.answer.Made.TheVariants.{Fault as MadeFault}
use Rattle.ang_host.specs.declared.answer.Answer.{Answer}
use Rattle.ang_host.specs.declared.answer.Answer.TheVariants.{Void, Gave, Fault, Memory, Full}
use Rattle.ang_host.specs.declared.answer.HostReply.TheVariants.{Making}
use Rattle.ang_host.specs.State.{State, make, call, read, write}
use Rattle.ang_host.specs.Laws.{IsSound, Answered, WasMade, WasReleased}
use Rattle.ang_drivers.specs.declared.pairs.MapCall.{MapCall}
use Rattle.ang_drivers.specs.declared.pairs.MapCall.TheVariants.{Contains, Get, Set, Length, Remove, Clear, Key, Unknown}
use Rattle.ang_drivers.specs.Plain.{IsPlain}
use Rattle.ang_drivers.specs.Objects.{Ledger, Asks, MakesOne, ReleasesOne}
use Rattle.ang_drivers.specs.Tables.{state_of, CoreFits, MakesValue, is_bare_making}
use Rattle.ang_drivers.specs.Bounded.{bounded_over, ChangesOne}
use Rattle.ang_drivers.specs.IntList.{told}
use Rattle.ang_drivers.specs.IntMap.{Pairs, map_code, map_call, pair_at, told_of, Sets, MapDoes, MapMoves, MapFits}
use Rattle.ang_drivers.proofs.ConsoleLaws.{live_plain}
use Rattle.ang_drivers.proofs.Moving.{IsNotFull, answered, made_value, made_fault, released, revalued, kept}
use Rattle.ang_drivers.proofs.Bounding.{answered_over, made_over, released_over}

not_full_plain : (a : Answer) → IsPlain a → IsNotFull a
not_full_plain Void p = tt
not_full_plain (Gave v) p = tt
not_full_plain (Fault n) p = tt
not_full_plain Memory p = tt
not_full_plain Full p = absurd p

-- ---- a map answers no key of an object

told_plain : (z : Option ℤ) → IsPlain (told z)
told_plain None = tt
told_plain (Some z) = tt

told_of_plain : (z : Option ℤ) → IsPlain (told_of z)
told_of_plain None = tt
told_of_plain (Some z) = tt

sets_plain : (bound : ℕ) (es : Pairs) (k z : ℤ) (a : Answer) (ns : Pairs) → Sets bound es k z a ns → IsPlain a
sets_plain bound es k z a ns (inl h) = subst IsPlain (sym h.0) tt
sets_plain bound es k z a ns (inr h) = subst IsPlain (sym h.0) tt

does_plain : (bound : ℕ) (es : Pairs) (m : MapCall) (a : Answer) (ns : Pairs) → MapDoes bound es m a ns → IsPlain a
does_plain bound es (Contains k) a ns h = subst IsPlain (sym h.0) tt
does_plain bound es (Get k) a ns h = subst IsPlain (sym h.0) (told_of_plain (find int_cmp k es))
does_plain bound es (Set k z) a ns h = sets_plain bound es k z a ns h
does_plain bound es Length a ns h = subst IsPlain (sym h.0) tt
does_plain bound es (Remove k) a ns h = subst IsPlain (sym h.0) tt
does_plain bound es Clear a ns h = subst IsPlain (sym h.0) tt
does_plain bound es (Key i) a ns h = subst IsPlain (sym h.0) (told_plain (option_map (λ e. e.0) (pair_at es i)))
does_plain bound es Unknown a ns h = subst IsPlain (sym h.0) tt

-- ---- the laws

abbrev over : ℕ → Ledger Pairs → State
over bound s = bounded_over bound (state_of map_code s)

module _ (bound : ℕ) (s t : Ledger Pairs) (q : Asks s true t) where
  -- a call of a map; the bound stays
  pub map_answers : (u : Ledger Pairs) (n f k : ℕ) (o : Option ℕ) (args : List Value) (m : MapCall) (r : Answer) → n ≡ bound → o ≡ Some k → m ≡ map_call f args
      → ChangesOne t k (λ es ns. MapDoes bound es m r ns) u → IsSound (state_of map_code u)
      → Answered MapFits (over bound s) (call f o args) r (over n u)
  map_answers u n f k o args m r e p read_as done sound =
      let h : ChangesOne t k (λ es ns. MapDoes bound es (map_call f args) r ns) u = subst (λ l. ChangesOne t k (λ es ns. MapDoes bound es l r ns) u) read_as done in
      let plain = does_plain bound h.0 (map_call f args) r h.1 h.3 in
      let law : Answered MapFits (over bound s) (call f (Some k) args) r (over bound u) =
      answered_over (λ b. CoreFits map_code (MapMoves b)) bound (state_of map_code s) (state_of map_code u) (call f (Some k) args) r
      (answered map_code (MapMoves bound) s t u (call f (Some k) args) r q (revalued t u k h.1 h.4) (not_full_plain r plain)
      (h.0, h.1, r, h.2, h.3, refl, ap (λ x. x.table) h.4) (live_plain (state_of map_code u) r plain) sound) in
      subst (λ x. Answered MapFits (over bound s) (call f x args) r (over n u)) (sym p)
      (subst (λ b. Answered MapFits (over bound s) (call f (Some k) args) r (over b u)) (sym e) law)

  -- what no map does
  pub calls_nothing : (f : ℕ) (o : Option ℕ) (args : List Value) → o ≡ None → IsSound (state_of map_code t)
      → Answered MapFits (over bound s) (call f o args) (Fault 1) (over bound t)
  calls_nothing f o args p sound =
      subst (λ x. Answered MapFits (over bound s) (call f x args) (Fault 1) (over bound t)) (sym p)
      (answered_over (λ b. CoreFits map_code (MapMoves b)) bound (state_of map_code s) (state_of map_code t) (call f None args) (Fault 1)
      (answered map_code (MapMoves bound) s t t (call f None args) (Fault 1) q (kept t) tt (refl, refl) tt sound))

  pub reads_nothing : (f : ℕ) (o : Option ℕ) → IsSound (state_of map_code t) → Answered MapFits (over bound s) (read f o) (Fault 1) (over bound t)
  reads_nothing f o sound =
      answered_over (λ b. CoreFits map_code (MapMoves b)) bound (state_of map_code s) (state_of map_code t) (read f o) (Fault 1)
      (answered map_code (MapMoves bound) s t t (read f o) (Fault 1) q (kept t) tt (refl, refl) tt sound)

  pub writes_nothing : (f : ℕ) (o : Option ℕ) (v : Value) → IsSound (state_of map_code t) → Answered MapFits (over bound s) (write f o v) (Fault 1) (over bound t)
  writes_nothing f o v sound =
      answered_over (λ b. CoreFits map_code (MapMoves b)) bound (state_of map_code s) (state_of map_code t) (write f o v) (Fault 1)
      (answered map_code (MapMoves bound) s t t (write f o v) (Fault 1) q (kept t) tt (refl, refl) tt sound)

  -- an empty map is made
  pub makes_map : (u : Ledger Pairs) (f : ℕ) (args : List Value) (r : Made) → is_bare_making f args ≡ true → MakesOne t [] r u → IsSound (state_of map_code u)
      → WasMade MapFits (over bound s) (make f args) r (over bound u)
  makes_map u f args r e h sound =
      made_over (λ b. CoreFits map_code (MapMoves b)) bound (state_of map_code s) (state_of map_code u) (make f args) r
      (made_value map_code (MapMoves bound) s t u (make f args) [] r q h
      (λ a y m. subst (λ b. MakesValue t.table (cond b (Some []) None) a y) (sym e) m) sound)

  pub makes_nothing : (f : ℕ) (args : List Value) → is_bare_making f args ≡ false → IsSound (state_of map_code t)
      → WasMade MapFits (over bound s) (make f args) (MadeFault 1) (over bound t)
  makes_nothing f args e sound =
      made_over (λ b. CoreFits map_code (MapMoves b)) bound (state_of map_code s) (state_of map_code t) (make f args) (MadeFault 1)
      (made_fault map_code (MapMoves bound) s t (make f args) 1 q
      (subst (λ b. MakesValue t.table (cond b (Some []) None) (Making (MadeFault 1)) t.table) (sym e) (refl, refl)) sound)

pub releases_map : (bound : ℕ) (s t : Ledger Pairs) (k : ℕ) (r : Bool) → ReleasesOne s k r t → IsSound (state_of map_code t)
    → WasReleased MapFits (over bound s) k r (over bound t)
releases_map bound s t k r h sound =
    released_over (λ b. CoreFits map_code (MapMoves b)) bound (state_of map_code s) (state_of map_code t) k r
    (released map_code (MapMoves bound) s t k r h (refl, refl) sound)
