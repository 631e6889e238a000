-- The initializers of typed programs, one after the other, meet no misfit.
use Rattle.std.proofs.Common.{◌≡◌, ℕ, zero, suc, ◌+◌, List, [], ◌∷◌, ◌++◌, Option, Some, None, refl, sym, ap, ◌∙◌, subst, arith, unwrap_or}
use Rattle.std.specs.Prelude.{map as list_map, slice_get}
use Rattle.ang_typed.specs.Typed as t
use Rattle.ang_meaning.specs.declared.routine.Routine.{Routine}
use Rattle.ang_meaning.specs.declared.slot.Slot.{Slot}
use Rattle.ang_meaning.specs.declared.slot.Slot.TheVariants.{Bits}
use Rattle.ang_meaning.specs.World.{World, give}
use Rattle.ang_meaning.specs.Environment.{Environment}
use Rattle.ang_meaning.specs.Bodies.{then_initialized}
use Rattle.ang_meaning.specs.Results.{Reply, Yields, Raises}
use Rattle.ang_meaning.proofs.Counting.{bits_name_none}
use Rattle.ang_meaning.proofs.Counted.{counted_as}
use Rattle.ang_source.specs.Meaning.{Code, of_function, of_global, code_or, passings_of, initializer_of, initializers_from, initialized, initialized_all}
use Rattle.ang_source_typed.specs.Types.{Number, Modules, IsGood, slot_type, global_types}
use Rattle.ang_source_typed.specs.TypedProgram.{Types, TypesOption}
use Rattle.ang_source_typed.specs.Runs.{IsTypedSetting, sources, IsInitializer, AreInitializers, initializer_signature, IsGoodReply, InitializersMeetNoMisfit}
use Rattle.ang_source_typed.specs.Guarded.{Guard, misfits}
use Rattle.ang_source_typed.specs.Guarded as guarded
use Rattle.ang_source_typed.proofs.Ends.{Good, give_good}
use Rattle.ang_source_typed.proofs.Targets.{IsGoodCall}
use Rattle.ang_source_typed.proofs.Bodies.{get_map, HasBody, TypedCode, begun_good, start_good}

-- ---- where an initializer stands

-- the global that a body stores into, and its value
abbrev global_in : Code → ℕ
global_in (of_function ss) = 0
global_in (of_global g e) = g

abbrev value_in : t.Expr → Code → t.Expr
value_in d (of_function ss) = d
value_in d (of_global g e) = e

at_head : {Res : Type 0} → (k n x : ℕ) (e : t.Expr) (o : Option t.Expr) (rest : List Code) → slice_get (initializer_of k o ++ rest) n ≡ Some (of_global x e) → (o ≡ Some e → k ≡ x → Res)
    → ((i : ℕ) → slice_get rest i ≡ Some (of_global x e) → Res) → Res
at_head k n x e None rest h head tail = tail n h
at_head k zero x e (Some d) rest h head tail =
    let s : of_global k d ≡ of_global x e = ap (λ c. unwrap_or c (of_global k d)) h in head (ap (λ c. Some (value_in d c)) s) (ap global_in s)
at_head k (suc n) x e (Some d) rest h head tail = tail n h

-- an initializer is that of a global
record OfGlobal (gs : List t.Global) (k x : ℕ) (e : t.Expr) : Type 0 where
  place : ℕ
  global : t.Global
  there : slice_get gs place ≡ Some global
  number : k + place ≡ x
  value : global.initializer ≡ Some e

of_globals : (gs : List t.Global) (k n x : ℕ) (e : t.Expr) → slice_get (initializers_from k gs) n ≡ Some (of_global x e) → OfGlobal gs k x e
of_globals [] k n x e h = absurd (let q : ⊥ = cc in q)
of_globals (g ∷ gs) k n x e h =
    at_head k n x e g.initializer (initializers_from (suc k) gs) h (λ a b. record { place = 0; global = g; there = refl; number = omega (arith, b); value = a })
    (λ i q. let r = of_globals gs (suc k) i x e q in record { place = suc r.place; global = r.global; there = r.there; number = omega (arith, r.number); value = r.value })

-- the functions before it have other bodies
record AfterFunctions (fs : List t.TypedFunction) (gs : List t.Global) (n x : ℕ) (e : t.Expr) : Type 0 where
  passings : slice_get (list_map (λ (f : t.TypedFunction). passings_of f.parameters) fs ++ list_map (λ c. []) (initializers_from 0 gs)) n ≡ Some []
  global : OfGlobal gs 0 x e

after_functions : (fs : List t.TypedFunction) (gs : List t.Global) (n x : ℕ) (e : t.Expr)
    → slice_get (list_map (λ (f : t.TypedFunction). of_function f.body) fs ++ initializers_from 0 gs) n ≡ Some (of_global x e) → AfterFunctions fs gs n x e
after_functions [] gs n x e h = record { passings = get_map (λ c. []) (initializers_from 0 gs) n (of_global x e) h; global = of_globals gs 0 n x e h }
after_functions (f ∷ fs) gs zero x e h = absurd (let q : ⊥ = cc in q)
after_functions (f ∷ fs) gs (suc n) x e h = let r = after_functions fs gs n x e h in record { passings = r.passings; global = r.global }

module _ (z : Environment) (ms : Modules) (setting : IsTypedSetting z ms) where
  initializer_body : (g : Routine) → IsInitializer ms g → HasBody z ms setting g initializer_signature
  initializer_body g is =
      let m = g.home in
      let p = (ms m).program in
      let r = after_functions p.functions p.globals g.number is.global is.value is.there in
      let o = r.global in
      let ty = slot_type (ms m).view m o.global.ty in
      let at : slice_get (global_types ms m) is.global ≡ Some ty =
      subst (λ i. slice_get (global_types ms m) i ≡ Some ty) (let q : o.place ≡ is.global = omega (arith, o.number) in q)
      (get_map (λ (x : t.Global). slot_type (ms m).view m x.ty) p.globals o.place o.global o.there) in
      let typed : Types z ms m [] ty is.value = subst (TypesOption z ms m [] ty) o.value ((setting.programs m).globals o.place o.global o.there) in
      record {
        passings = (setting.trees m).bodies g.number ∙ r.passings;
        typed = subst (λ x. TypedCode z ms setting m initializer_signature (code_or x)) (sym is.there) (ty, at, typed, refl);
      }

  -- ---- one after the other

  module _ (y : Guard) where
    number_left : (w : World) → IsGood z ms [] [] w → IsGood z ms (Number ∷ []) (Bits 0 ∷ []) w
    number_left w g = record { own = g.own; places = (tt, tt); world = g.world; counted = counted_as [] (Bits 0 ∷ []) w (λ x. omega (arith, bits_name_none 0 x)) g.counted }

    nothing_left : (outs : List Slot) (w : World) → Good z ms [] [] outs [] w → IsGood z ms [] [] w
    nothing_left [] w g = record { own = g.own; places = tt; world = g.world; counted = g.counted }
    nothing_left (v ∷ outs) w g = absurd g.locals_typed

    next_good : (T : ℕ) (r other : Reply) (go go' : ℕ → World → Reply) → IsGoodCall z ms T initializer_signature [] [] r → (other ≡ r)
        → ((n : ℕ) (w : World) → IsGood z ms [] [] w → (go' n w ≡ go n w) × IsGoodReply z ms initializer_signature (go n w))
        → (then_initialized other go' ≡ then_initialized r go) × IsGoodReply z ms initializer_signature (then_initialized r go)
    next_good T (Yields v outs n w) other go go' h e k =
        let q = k n (give v w) (nothing_left outs (give v w) (give_good z ms [] [] outs [] Number v w h.1)) in (ap (λ x. then_initialized x go') e ∙ q.0, q.1)
    next_good T (Raises f w) other go go' h e k = (ap (λ x. then_initialized x go') e, record { own = h.own; places = tt; world = h.world; counted = h.counted })

    all_good : (gs : List Routine) (ticks : ℕ) (w : World) → AreInitializers ms gs → IsGood z ms [] [] w
        → (guarded.initialized_all (misfits y) z (sources ms) gs ticks w ≡ initialized_all z (sources ms) gs ticks w)
        × IsGoodReply z ms initializer_signature (initialized_all z (sources ms) gs ticks w)
    all_good [] ticks w h g = (refl, number_left w g)
    all_good (x ∷ gs) ticks w h g =
        let q = begun_good z ms setting y ticks x initializer_signature [] w (initializer_body x h.0) (start_good z ms setting y [] [] w g) in
        next_good ticks (initialized z (sources ms) ticks x w) (guarded.initialized (misfits y) z (sources ms) ticks x w) (λ n u. initialized_all z (sources ms) gs n u)
        (λ n u. guarded.initialized_all (misfits y) z (sources ms) gs n u) q.0 q.1 (λ n u k. all_good gs n u h.1 k)

pub initializers_meet_no_misfit : InitializersMeetNoMisfit
initializers_meet_no_misfit z ms y setting gs ticks w h g = all_good z ms setting y gs ticks w h g
