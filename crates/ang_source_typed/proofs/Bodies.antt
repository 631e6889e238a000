-- Whole bodies and calls: by the ticks that are left, each call of a typed program meets no misfit.
use Rattle.std.proofs.Common.{◌≡◌, ℕ, zero, suc, ◌<◌, ◌≤◌, List, [], ◌∷◌, ◌++◌, length, Option, Some, None, refl, sym, ap, ◌∙◌, subst, arith, unwrap_or}
use Rattle.std.specs.Prelude.{Bool, true, false, cond, is_some, option_map, ◌≢◌, ◌-◌, map as list_map, reverse, slice_get, slice_index_or}
use Rattle.std.specs.FinMap as map
use mathlib.Core.List.{reverse_aux}
use Rattle.std.proofs.lemmas.List.{take_all}
use Rattle.std.proofs.lemmas.Grind.{reverse_onto}
use Rattle.ang_kinds.specs.declared.fault.Fault.TheVariants.{Null, Budget, Depth, Memory}
use Rattle.ang_typed.specs.declared.expression.TypedCallee.{TypedCallee}
use Rattle.ang_typed.specs.declared.expression.TypedCallee.TheVariants as callee
use Rattle.ang_typed.specs.declared.expression.TypedVariable.TheVariants as variable
use Rattle.ang_typed.specs.declared.program.Heading.{Heading}
use Rattle.ang_typed.specs.declared.program.TypedParameter.{TypedParameter}
use Rattle.ang_typed.specs.Typed as t
use Rattle.ang_meaning.specs.declared.routine.Routine.{Routine}
use Rattle.ang_meaning.specs.declared.routine.Passing.{Passing}
use Rattle.ang_meaning.specs.declared.routine.Passing.TheVariants.{In, Out, Object}
use Rattle.ang_meaning.specs.declared.slot.Slot.{Slot}
use Rattle.ang_meaning.specs.declared.slot.Slot.TheVariants.{Bits, Script, Host}
use Rattle.ang_meaning.specs.World.{World, ScriptRecord, Tried, Yes, No, memory_step, or_else, give, give_all}
use Rattle.ang_meaning.specs.Environment.{Environment, Found, Enters, Misses, bound, has_objects, params_in, params_of, receiver_in, method_of, virtual_of, target}
use Rattle.ang_meaning.specs.Bodies.{Callees}
use Rattle.ang_meaning.specs.Results.{Ran, Went, Returned, Halted, Broken, Continued, Reply, Yields, Raises, Calls, give_some, drop_some, outs_of, give_others, yielded, finished, may_nest, entered, found_entered, enter}
use Rattle.ang_meaning.specs.Counting.{Thing, names, how_many}
use Rattle.ang_meaning.proofs.Counting.{HasObject, many_append, bits_name_none}
use Rattle.ang_meaning.proofs.Counted.{TriedCounted, counted_as, counted_there, memory_counted}
use Rattle.ang_source.specs.Meaning.{Passes, Code, of_function, of_global, codes_of, code_or, passing_of, passings_of, initializers_from, routine, callee_of, stored, evaluate, run_code, body_at, pass_at, begun, called_with}
use Rattle.ang_source_typed.specs.Types.{SlotType, Number, Key, Family, Modules, IsUnder, HasType, AllTyped, IsGood, global_types}
use Rattle.ang_source_typed.specs.TypedProgram.{Parameter, Signature, types_of, passings_among, parameter_of, AreClasses, HasSignature, IsSignature, IsConstructorSignature, constructor_signature, IsImport, IsMethod, IsCallee, Types, TypesOption, TypesEach, TypesStatements, TypesBody}
use Rattle.ang_source_typed.specs.Paths.{some_ends, some_breaks}
use Rattle.ang_source_typed.specs.Runs.{IsTypedSetting, sources, out_by, out_types, initializer_signature, IsGoodReply, CallsMeetNoMisfit}
use Rattle.ang_source_typed.specs.Guarded.{Guard, has_method_at, has_method, finds, misfits}
use Rattle.ang_source_typed.specs.Guarded as guarded
use Rattle.ang_source_typed.proofs.Values.{TriedLeads, memory_leads, moves_of, typed_length}
use Rattle.ang_source_typed.proofs.Operations.{here_at}
use Rattle.ang_source_typed.proofs.Ends.{Good, At, guard_passes, moved_good, give_good, push_number}
use Rattle.ang_source_typed.proofs.Targets.{IsGoodCall}
use Rattle.ang_source_typed.proofs.Variables.{stored_good}
use Rattle.ang_source_typed.proofs.Expressions.{CallsAreGood, typed_good}
use Rattle.ang_source_typed.proofs.Statements.{IsGoodRun, RunsWell, PassesAreGood, pop_good, dropped_good, value_good, endless, body_block_good, pass_good}

-- ---- a body's end

module _ (z : Environment) (ms : Modules) where
  all_given : (types below : List SlotType) (ls under : List Slot) (w : World) → Good z ms types below ls under w → Good z ms [] below [] under (give_all ls w)
  all_given [] below [] under w g = g
  all_given [] below (v ∷ ls) under w g = absurd g.locals_typed
  all_given (s ∷ types) below [] under w g = absurd g.locals_typed
  all_given (s ∷ types) below (v ∷ ls) under w g = all_given types below ls under (give v w) (pop_good z ms s types below v ls under w g)

  -- the innermost local lies below the others
  under_good : (ty : SlotType) (types below : List SlotType) (v : Slot) (ls under : List Slot) (w : World) → Good z ms (ty ∷ types) below (v ∷ ls) under w → Good z ms types (ty ∷ below) ls (v ∷ under) w
  under_good ty types below v ls under w g = record {
    own = g.own;
    locals_typed = g.locals_typed.1;
    under_typed = (g.locals_typed.0, g.under_typed);
    world = g.world;
    counted = counted_as (v ∷ (ls ++ under)) (ls ++ (v ∷ under)) w (λ x. omega (arith, many_append x ls under, many_append x ls (v ∷ under))) g.counted;
  }

  over_good : (ty : SlotType) (types below : List SlotType) (v : Slot) (ls under : List Slot) (w : World) → Good z ms types (ty ∷ below) ls (v ∷ under) w → Good z ms (ty ∷ types) below (v ∷ ls) under w
  over_good ty types below v ls under w g = record {
    own = g.own;
    locals_typed = (g.under_typed.0, g.locals_typed);
    under_typed = g.under_typed.1;
    world = g.world;
    counted = counted_as (ls ++ (v ∷ under)) (v ∷ (ls ++ under)) w (λ x. omega (arith, many_append x ls under, many_append x ls (v ∷ under))) g.counted;
  }

  -- the `&out` parameters keep their values, and the others give up theirs
  abbrev OutsGood : List Parameter → Type 0
  OutsGood ps = (below : List SlotType) (vs under : List Slot) (w : World) → Good z ms (types_of ps) below vs under w
      → Good z ms (out_types ps) below (outs_of (passings_among ps) vs) under (give_others (passings_among ps) vs w)

  outs_step : (q : Passing) (ty : SlotType) (ps : List Parameter) → OutsGood ps → (below : List SlotType) (v : Slot) (vs under : List Slot) (w : World) → Good z ms (ty ∷ types_of ps) below (v ∷ vs) under w
      → Good z ms (out_by q ty (out_types ps)) below (outs_of (q ∷ passings_among ps) (v ∷ vs)) under (give_others (q ∷ passings_among ps) (v ∷ vs) w)
  outs_step In ty ps k below v vs under w g = k below vs under (give v w) (pop_good z ms ty (types_of ps) below v vs under w g)
  outs_step Object ty ps k below v vs under w g = k below vs under (give v w) (pop_good z ms ty (types_of ps) below v vs under w g)
  outs_step Out ty ps k below v vs under w g =
      over_good ty (out_types ps) below v (outs_of (passings_among ps) vs) under (give_others (passings_among ps) vs w) (k (ty ∷ below) vs (v ∷ under) w (under_good ty (types_of ps) below v vs under w g))

  outs_good : (ps : List Parameter) → OutsGood ps
  outs_good [] below [] under w g = g
  outs_good [] below (v ∷ vs) under w g = absurd g.locals_typed
  outs_good (p ∷ ps) below [] under w g = absurd g.locals_typed
  outs_good (p ∷ ps) below (v ∷ vs) under w g = outs_step p.passing p.type ps (outs_good ps) below v vs under w g

as_many : (ps : List Parameter) → length (passings_among ps) ≡ length (types_of ps)
as_many [] = refl
as_many (p ∷ ps) = ap suc (as_many ps)

-- only a body that gives a number may end without a `return`
result_number : (s : SlotType) (ended : Bool) → (s ≢ Number → ended ≡ true) → ended ≡ false → Number ≡ s
result_number Number ended h e = refl
result_number (Key d) ended h e = absurd (let x : ended ≡ true = h (λ q. let y : ⊥ = cc in y) in let y : true ≡ false = sym x ∙ e in let w : ⊥ = cc in w)
result_number (Family m c) ended h e = absurd (let x : ended ≡ true = h (λ q. let y : ⊥ = cc in y) in let y : true ≡ false = sym x ∙ e in let w : ⊥ = cc in w)

module _ (z : Environment) (ms : Modules) (T : ℕ) where
  yielded_good : (s : Signature) (extra below : List SlotType) (v : Slot) (ls under : List Slot) (n : ℕ) (w : World) → At z ms T n (extra ++ types_of s.params) (s.result ∷ below) ls (v ∷ under) w
      → IsGoodCall z ms T s below under (yielded (passings_among s.params) v ls n w)
  yielded_good s extra below v ls under n w g =
      let k = length (passings_among s.params) in (
        g.0,
        outs_good z ms s.params (s.result ∷ below) (drop_some (length ls - k) ls) (v ∷ under) (give_some (length ls - k) ls w)
            (dropped_good z ms extra (types_of s.params) (s.result ∷ below) k ls (v ∷ under) w (as_many s.params) g.1),
      )

  finished_good : (s : Signature) (ended breaking : Bool) (below : List SlotType) (under : List Slot) (r : Ran) → (s.result ≢ Number → ended ≡ true)
      → IsGoodRun z ms T false ended breaking s.result (types_of s.params) (types_of s.params) below under r → IsGoodCall z ms T s below under (finished (passings_among s.params) r)
  finished_good s ended breaking below under (Went ls n w) e h =
      yielded_good s [] below (Bits 0) ls under n w
      (h.1.0, subst (λ x. Good z ms (types_of s.params) (x ∷ below) ls (Bits 0 ∷ under) w) (result_number s.result ended e h.0) (push_number z ms 0 (types_of s.params) below ls under w h.1.1))
  finished_good s ended breaking below under (Returned v ls n w) e h = yielded_good s h.0 below v ls under n w h.1
  finished_good s ended breaking below under (Halted f ls w) e h = all_given z ms (h.0 ++ types_of s.params) below ls under w h.1
  finished_good s ended breaking below under (Broken ls n w) e h = absurd (let q = h.0 in let x : ⊥ = cc in x)
  finished_good s ended breaking below under (Continued ls n w) e h = absurd (let q = h.0 in let x : ⊥ = cc in x)

  abbrev pub BothCall : Signature → List SlotType → List Slot → (r other : Reply) → Type 0
  BothCall s below under r other = IsGoodCall z ms T s below under r × (other ≡ r)

  -- ---- what stands before a body

  if_good : (b : Bool) (s : Signature) (below : List SlotType) (under : List Slot) (r other r' : Reply) → BothCall s below under r other → IsGoodCall z ms T s below under r'
      → BothCall s below under (cond b r r') (cond b other r')
  if_good true s below under r other r' h k = h
  if_good false s below under r other r' h k = (k, refl)

  memory_good : (s : Signature) (below : List SlotType) (vs under : List Slot) (w : World) (o : Tried) (go go' : World → Reply) → Good z ms (types_of s.params) below vs under w → TriedLeads w o
      → TriedCounted (vs ++ under) (vs ++ under) o → ((u : World) → Good z ms (types_of s.params) below vs under u → BothCall s below under (go u) (go' u))
      → BothCall s below under (or_else o (λ u. Raises Memory (give_all vs u)) go) (or_else o (λ u. Raises Memory (give_all vs u)) go')
  memory_good s below vs under w (No u) go go' g k p next =
      (all_given z ms (types_of s.params) below vs under u (moved_good z ms g.own (types_of s.params) below vs under w u g.locals_typed g.under_typed (moves_of z ms g.own w u g.world k) p), refl)
  memory_good s below vs under w (Yes u) go go' g k p next =
      next u (moved_good z ms g.own (types_of s.params) below vs under w u g.locals_typed g.under_typed (moves_of z ms g.own w u g.world k) p)

  -- of a body with fewer ticks
  abbrev BodyGood : Signature → List SlotType → List Slot → List Slot → ℕ → (World → Reply) → (World → Reply) → Type 0
  BodyGood s below vs under n go go' = (w : World) → At z ms n n (types_of s.params) below vs under w → IsGoodCall z ms n s below under (go w) × (go' w ≡ go w)

  fewer_good : (s : Signature) (below : List SlotType) (under : List Slot) (n : ℕ) (r : Reply) → n ≤ T → IsGoodCall z ms n s below under r → IsGoodCall z ms T s below under r
  fewer_good s below under n (Yields v outs k w) e h = (omega (arith, h.0, e), h.1)
  fewer_good s below under n (Raises f w) e h = h

  entered_good : (body other : Calls) (d : ℕ) (g : Routine) (s : Signature) (below : List SlotType) (vs under : List Slot) (n : ℕ) (w : World) → At z ms T n (types_of s.params) below vs under w
      → ((k : ℕ) → suc k ≤ T → BodyGood s below vs under k (λ u. body g vs k u) (λ u. other g vs k u)) → BothCall s below under (entered z body d g vs n w) (entered z other d g vs n w)
  entered_good body other d g s below vs under zero w a k =
      let given = all_given z ms (types_of s.params) below vs under w a.1 in
      if_good (has_objects (params_of z g) vs) s below under _ _ (Raises Null (give_all vs w)) (if_good (may_nest z d) s below under (Raises Budget (give_all vs w)) (Raises Budget (give_all vs w)) (Raises Depth (give_all vs w)) (given, refl) given) given
  entered_good body other d g s below vs under (suc n) w a k =
      let given = all_given z ms (types_of s.params) below vs under w a.1 in
      let go : World → Reply = λ u. body g vs n u in
      let go' : World → Reply = λ u. other g vs n u in
      let le : n ≤ T = omega (arith, a.0) in
      let r = memory_good s below vs under w (memory_step w) go go' a.1 (memory_leads w) (memory_counted (vs ++ under) w (a.1).counted)
      (λ u g'. let q = k n a.0 u (omega arith, g') in (fewer_good s below under n (go u) le q.0, q.1)) in
      if_good (has_objects (params_of z g) vs) s below under _ _ (Raises Null (give_all vs w))
      (if_good (may_nest z d) s below under (or_else (memory_step w) (λ u. Raises Memory (give_all vs u)) go) (or_else (memory_step w) (λ u. Raises Memory (give_all vs u)) go') (Raises Depth (give_all vs w)) r given) given

-- ---- a method's receiver, which is the last of its values

abbrev with_last : List Parameter → Passing → SlotType → List Parameter
with_last others passing ty = others ++ (record { passing = passing; type = ty } ∷ [])

abbrev last_slot : List Parameter → List Slot → Slot
last_slot [] [] = Bits 0
last_slot [] (v ∷ vs) = v
last_slot (q ∷ others) [] = Bits 0
last_slot (q ∷ others) (v ∷ vs) = last_slot others vs

last_held : (x : Thing) (others : List Parameter) (vs : List Slot) → names x (last_slot others vs) ≤ how_many x vs
last_held x [] [] = omega (arith, bits_name_none 0 x)
last_held x [] (v ∷ vs) = omega arith
last_held x (q ∷ others) [] = omega (arith, bits_name_none 0 x)
last_held x (q ∷ others) (v ∷ vs) = omega (arith, last_held x others vs)

-- how many there are before it, and that it stands there
record LastAt (others : List Parameter) (passing : Passing) (ty : SlotType) (vs : List Slot) : Type 0 where
  before : ℕ
  many : length (passings_among (with_last others passing ty)) ≡ suc before
  at : slice_index_or vs before (Bits 0) ≡ last_slot others vs

last_at : (others : List Parameter) (passing : Passing) (ty : SlotType) (vs : List Slot) → LastAt others passing ty vs
last_at [] passing ty [] = record { before = 0; many = refl; at = refl }
last_at [] passing ty (v ∷ vs) = record { before = 0; many = refl; at = refl }
last_at (q ∷ others) passing ty [] = let r = last_at others passing ty [] in record { before = suc r.before; many = ap suc r.many; at = refl }
last_at (q ∷ others) passing ty (v ∷ vs) = let r = last_at others passing ty vs in record { before = suc r.before; many = ap suc r.many; at = r.at }

same_out : (q : Passing) (a b : SlotType) → q ≢ Out → out_by q a [] ≡ out_by q b []
same_out In a b h = refl
same_out Out a b h = absurd (h refl)
same_out Object a b h = refl

same_outs : (others : List Parameter) (q : Passing) (a b : SlotType) → q ≢ Out → out_types (with_last others q a) ≡ out_types (with_last others q b)
same_outs [] q a b h = same_out q a b h
same_outs (p ∷ others) q a b h = ap (out_by p.passing p.type) (same_outs others q a b h)

module _ (z : Environment) (ms : Modules) (own : ℕ → ℕ) (w : World) where
  last_typed : (others : List Parameter) (q : Passing) (a : SlotType) (vs : List Slot) → AllTyped z ms own w.objects (types_of (with_last others q a)) vs → HasType z ms own w.objects a (last_slot others vs)
  last_typed [] q a [] h = absurd h
  last_typed [] q a (v ∷ vs) h = h.0
  last_typed (p ∷ others) q a [] h = absurd h
  last_typed (p ∷ others) q a (v ∷ vs) h = last_typed others q a vs h.1

  retyped : (others : List Parameter) (q : Passing) (a b : SlotType) (vs : List Slot) → AllTyped z ms own w.objects (types_of (with_last others q a)) vs → HasType z ms own w.objects b (last_slot others vs)
      → AllTyped z ms own w.objects (types_of (with_last others q b)) vs
  retyped [] q a b [] h k = absurd h
  retyped [] q a b (v ∷ vs) h k = (k, h.1)
  retyped (p ∷ others) q a b [] h k = absurd h
  retyped (p ∷ others) q a b (v ∷ vs) h k = (h.0, retyped others q a b vs h.1 k)

-- ---- bodies by their numbers

pub get_front : {A : Type 0} → (xs ys : List A) (k : ℕ) (x : A) → slice_get xs k ≡ Some x → slice_get (xs ++ ys) k ≡ Some x
get_front [] ys k x h = absurd (let q : ⊥ = cc in q)
get_front (v ∷ xs) ys zero x h = h
get_front (v ∷ xs) ys (suc k) x h = get_front xs ys k x h

pub get_map : {A B : Type 0} → (f : A → B) (xs : List A) (k : ℕ) (x : A) → slice_get xs k ≡ Some x → slice_get (list_map f xs) k ≡ Some (f x)
get_map f [] k x h = absurd (let q : ⊥ = cc in q)
get_map f (v ∷ xs) zero x h = ap (option_map f) h
get_map f (v ∷ xs) (suc k) x h = get_map f xs k x h

passings_turned : (a b : List Parameter) → passings_among (reverse_aux a b) ≡ reverse_aux (passings_among a) (passings_among b)
passings_turned [] b = refl
passings_turned (p ∷ a) b = passings_turned a (p ∷ b)

passings_both : (a b : List Parameter) → passings_among (a ++ b) ≡ passings_among a ++ passings_among b
passings_both [] b = refl
passings_both (p ∷ a) b = ap (λ x. p.passing ∷ x) (passings_both a b)

module _ (z : Environment) (ms : Modules) (setting : IsTypedSetting z ms) where
  abbrev classes : (k : ℕ) → AreClasses z ms k
  classes = λ k. (setting.programs k).classes

  passings_mapped : (m : ℕ) (ps : List TypedParameter) → passings_among (list_map (parameter_of z ms m) ps) ≡ list_map (λ p. passing_of p) ps
  passings_mapped m [] = refl
  passings_mapped m (p ∷ ps) = ap (λ x. passing_of p ∷ x) (passings_mapped m ps)

  passings_declared : (m : ℕ) (ps : List TypedParameter) → passings_among (reverse (list_map (parameter_of z ms m) ps)) ≡ passings_of ps
  passings_declared m ps = passings_turned (list_map (parameter_of z ms m) ps) [] ∙ ap reverse (passings_mapped m ps)

  constructor_passings : (m c d : ℕ) (this : TypedParameter) (ps : List TypedParameter)
      → passings_among (constructor_signature z ms m this ps c).params ≡ passings_of (this ∷ ps)
  constructor_passings m c d this ps =
      passings_both (reverse (list_map (parameter_of z ms m) ps)) (record { passing = passing_of this; type = Family m c } ∷ [])
      ∙ ap (λ x. x ++ (passing_of this ∷ [])) (passings_declared m ps) ∙ sym (reverse_onto (list_map (λ p. passing_of p) ps) (passing_of this) [])

  of_constructor : (m : ℕ) (ps : List TypedParameter) (s : Signature) → IsConstructorSignature z ms m ps s → passings_among s.params ≡ passings_of ps
  of_constructor m [] s h = absurd h
  of_constructor m (this ∷ ps) s h = ap (λ (q : Signature). passings_among q.params) h.4 ∙ constructor_passings m h.0 h.1 this ps

  signature_passings : (m : ℕ) (b : Bool) (f : t.TypedFunction) (s : Signature) → IsSignature z ms m b f s → passings_among s.params ≡ passings_of f.parameters
  signature_passings m false f s h = ap (λ (q : Signature). passings_among q.params) h ∙ passings_declared m f.parameters
  signature_passings m true f s h = of_constructor m f.parameters s h

  -- a body that is typed, with its parameters
  abbrev pub TypedCode : ℕ → Signature → Code → Type 0
  TypedCode m s (of_function ss) = TypesBody z ms m s ss
  TypedCode m s (of_global x e) = (ty : SlotType) × (slice_get (global_types ms m) x ≡ Some ty) × Types z ms m [] ty e × (s ≡ initializer_signature)

  pub record HasBody (g : Routine) (s : Signature) : Type 0 where
    pub passings : z.params g ≡ Some (passings_among s.params)
    pub typed : TypedCode g.home s (sources ms g)

  function_body : (g : Routine) (s : Signature) → HasSignature z ms g.home g.number s → HasBody g s
  function_body g s h =
      let p = (ms g.home).program in
      let code : slice_get (codes_of p) g.number ≡ Some (of_function h.function.body) =
      get_front (list_map (λ (f : t.TypedFunction). of_function f.body) p.functions) (initializers_from 0 p.globals) g.number (of_function h.function.body)
      (get_map (λ (f : t.TypedFunction). of_function f.body) p.functions g.number h.function h.there) in
      record {
        passings = (setting.trees g.home).bodies g.number
            ∙ get_front (list_map (λ (f : t.TypedFunction). passings_of f.parameters) p.functions) (list_map (λ c. []) (initializers_from 0 p.globals)) g.number (passings_of h.function.parameters)
            (get_map (λ (f : t.TypedFunction). passings_of f.parameters) p.functions g.number h.function h.there)
            ∙ ap Some (sym (signature_passings g.home ((ms g.home).is_constructor g.number) h.function s h.signature));
        typed = subst (λ x. TypedCode g.home s (code_or x)) (sym code) ((setting.programs g.home).functions g.number s h);
      }

  -- ---- what a callee is

  -- the function that is found takes what the call gives, and gives what is wanted
  record Suits (s : Signature) (below : List SlotType) (vs under : List Slot) (w : World) (g : Routine) : Type 0 where
    own : Signature
    body : HasBody g own
    takes : Good z ms (types_of own.params) below vs under w
    outs : out_types own.params ≡ out_types s.params
    result : own.result ≡ s.result

  abbrev FoundGood : Signature → List SlotType → List Slot → List Slot → World → Found → Type 0
  FoundGood s below vs under w (Enters g) = Suits s below vs under w g
  FoundGood s below vs under w (Misses f) = Unit {0}

  itself : (s : Signature) (below : List SlotType) (vs under : List Slot) (w : World) (g : Routine) → HasSignature z ms g.home g.number s → Good z ms (types_of s.params) below vs under w
      → Suits s below vs under w g
  itself s below vs under w g h k = record { own = s; body = function_body g s h; takes = k; outs = refl; result = refl }

  linked_good : (m i : ℕ) (s : Signature) (below : List SlotType) (vs under : List Slot) (w : World) (o : Option Routine) → z.linked m i ≡ o → IsImport z ms m i s → Good z ms (types_of s.params) below vs under w
      → FoundGood s below vs under w (bound o)
  linked_good m i s below vs under w None e h k = tt
  linked_good m i s below vs under w (Some g) e h k = itself s below vs under w g (setting.links m i g s e h) k

  module _ (m slot : ℕ) (s : Signature) (below : List SlotType) (vs under : List Slot) (w : World) (is : IsMethod z ms m slot s) (g : Good z ms (types_of s.params) below vs under w) where
    object_good : (n : ℕ) (o : ScriptRecord) → map.get w.objects n ≡ Some o → Script (Some n) ≡ last_slot is.others vs
        → AllTyped z ms g.own w.objects (types_of (with_last is.others is.passing (Family m is.family))) vs → HasType z ms g.own w.objects (Family m is.family) (Script (Some n))
        → (has_method z m slot (Script (Some n)) w ≡ true) × FoundGood s below vs under w (virtual_of z m slot (Script (Some n)) w)
    object_good n o e last typed h =
        let mine = h o e in
        let made : (ms m).is_class o.class ≡ true = subst (λ k. (ms k).is_class o.class ≡ true) mine.0 (g.world.objects n o e).made in
        let found = is.body o.class made mine.1 in
        let k = found.0 in
        let d = found.1 in
        let other : Signature = record { params = with_last is.others is.passing (Family m d); result = s.result } in
        let value : HasType z ms g.own w.objects (Family m d) (Script (Some n)) = λ p q.
        (mine.0, subst (λ (x : ScriptRecord). IsUnder z ms m x.class d) (ap (λ x. unwrap_or x o) (sym e ∙ q)) found.3) in
        let suits : Suits s below vs under w (routine m k) = record {
          own = other;
          body = function_body (routine m k) other found.4;
          takes = record {
            own = g.own;
            locals_typed = retyped z ms g.own w is.others is.passing (Family m is.family) (Family m d) vs typed (subst (HasType z ms g.own w.objects (Family m d)) last value);
            under_typed = g.under_typed;
            world = g.world;
            counted = g.counted;
          };
          outs = same_outs is.others is.passing (Family m d) (Family m is.family) is.taken ∙ ap out_types (sym is.params);
          result = refl;
        } in
        let enters : virtual_of z m slot (Script (Some n)) w ≡ Enters (routine m k) = ap (method_of z m slot) e ∙ ap bound found.2 in (
          ap (has_method_at z m slot) e ∙ ap is_some found.2,
          subst (FoundGood s below vs under w) (sym enters) suits,
        )

    receiver_good : (v : Slot) → v ≡ last_slot is.others vs → AllTyped z ms g.own w.objects (types_of (with_last is.others is.passing (Family m is.family))) vs
        → HasType z ms g.own w.objects (Family m is.family) v → HasObject v w.objects → (has_method z m slot v w ≡ true) × FoundGood s below vs under w (virtual_of z m slot v w)
    receiver_good (Bits n) last typed h there = absurd h
    receiver_good (Script None) last typed h there = (refl, tt)
    receiver_good (Script (Some n)) last typed h there = let o = here_at (map.get w.objects n) there in object_good n o.0 o.1 last typed h
    receiver_good (Host d k) last typed h there = absurd h

    method_good : (v : Slot) → v ≡ last_slot is.others vs → (has_method z m slot v w ≡ true) × FoundGood s below vs under w (virtual_of z m slot v w)
    method_good v e =
        let typed : AllTyped z ms g.own w.objects (types_of (with_last is.others is.passing (Family m is.family))) vs =
        subst (λ x. AllTyped z ms g.own w.objects (types_of x) vs) is.params g.locals_typed in
        let last : HasType z ms g.own w.objects (Family m is.family) v =
        subst (HasType z ms g.own w.objects (Family m is.family)) (sym e) (last_typed z ms g.own w is.others is.passing (Family m is.family) vs typed) in
        let held : (x : Thing) → names x v ≤ how_many x (vs ++ under) = λ x.
        let below_it : names x v ≤ how_many x vs = subst (λ q. names x q ≤ how_many x vs) (sym e) (last_held x is.others vs) in omega (arith, below_it, many_append x vs under) in
        receiver_good v e typed last (counted_there v (vs ++ under) w held g.counted).0

    -- the receiver is the last of the values
    receiver_is : receiver_in (params_in (z.slot m slot)) vs ≡ last_slot is.others vs
    receiver_is =
        let heading : z.slot m slot ≡ Some (passings_among s.params) =
        (setting.trees m).slots slot ∙ ap (option_map (λ (h : Heading). passings_of h.parameters)) is.there ∙ ap Some is.takes in
        let l = last_at is.others is.passing (Family m is.family) vs in
        let many : length (passings_among s.params) ≡ suc l.before = ap (λ x. length (passings_among x)) is.params ∙ l.many in
        let all : length vs ≤ length (passings_among s.params) = omega (arith, as_many s.params, typed_length z ms g.own w.objects (types_of s.params) vs g.locals_typed) in
        let place : length (passings_among s.params) - 1 ≡ l.before = omega (arith, many) in
        ap (λ x. receiver_in (params_in x) vs) heading
        ∙ ap (λ x. slice_index_or x (length (passings_among s.params) - 1) (Bits 0)) (take_all (length (passings_among s.params)) vs all)
        ∙ ap (λ i. slice_index_or vs i (Bits 0)) place ∙ l.at

  target_good : (m : ℕ) (f : TypedCallee) (s : Signature) (below : List SlotType) (vs under : List Slot) (w : World) → IsCallee z ms m f s → Good z ms (types_of s.params) below vs under w
      → (finds z m (callee_of f) vs w ≡ true) × FoundGood s below vs under w (target z m (callee_of f) vs w)
  unfolding target
  target_good m (callee.Own k) s below vs under w h g = (refl, itself s below vs under w (routine m k) h g)
  target_good m (callee.Import i) s below vs under w h g = (refl, linked_good m i s below vs under w (z.linked m i) refl h g)
  target_good m (callee.Chosen slot) s below vs under w h g = method_good m slot s below vs under w h g (receiver_in (params_in (z.slot m slot)) vs) (receiver_is m slot s below vs under w h g)

  -- ---- calls

  recalled : (T : ℕ) (s own : Signature) (below : List SlotType) (under : List Slot) (r : Reply) → out_types own.params ≡ out_types s.params → own.result ≡ s.result → IsGoodCall z ms T own below under r
      → IsGoodCall z ms T s below under r
  recalled T s own below under (Yields v outs n w) e k h =
      (h.0, subst (λ x. Good z ms x (s.result ∷ below) outs (v ∷ under) w) e (subst (λ x. Good z ms (out_types own.params) (x ∷ below) outs (v ∷ under) w) k h.1))
  recalled T s own below under (Raises f w) e k h = h

  -- what bodies with fewer ticks than T do
  abbrev BodiesGood : ℕ → Calls → Calls → Type 0
  BodiesGood T body other = (n : ℕ) → suc n ≤ T → (g : Routine) (s : Signature) → HasBody g s → (below : List SlotType) (vs under : List Slot) (w : World) → At z ms n n (types_of s.params) below vs under w
      → IsGoodCall z ms n s below under (body g vs n w) × (other g vs n w ≡ body g vs n w)

  found_good : (T : ℕ) (body other : Calls) (d : ℕ) (s : Signature) (below : List SlotType) (vs under : List Slot) (n : ℕ) (w : World) (x : Found) → BodiesGood T body other → n ≤ T
      → FoundGood s below vs under w x → Good z ms (types_of s.params) below vs under w → BothCall z ms T s below under (found_entered z body d x vs n w) (found_entered z other d x vs n w)
  found_good T body other d s below vs under n w (Enters g) k e f h =
      let q = entered_good z ms T body other d g f.own below vs under n w (e, f.takes) (λ i le u a. k i le g f.own f.body below vs under u a) in
      (recalled T s f.own below under (entered z body d g vs n w) f.outs f.result q.0, q.1)
  found_good T body other d s below vs under n w (Misses x) k e f h = (all_given z ms (types_of s.params) below vs under w h, refl)

  calls_good : (T m d : ℕ) (y : Guard) (body other : Calls) → BodiesGood T body other → CallsAreGood z ms T m classes (setting.trees m) y (guarded.enter (misfits y) z other d m) (enter z body d m)
  calls_good T m d y body other k = record {
    each = λ f s is vs under below n w a.
        let r = target_good m f s below vs under w is a.1 in
        let q = found_good T body other d s below vs under n w (target z m (callee_of f) vs w) k a.0 r.1 a.1 in
        (q.0, guard_passes y (finds z m (callee_of f) vs w) (found_entered z other d (target z m (callee_of f) vs w) vs n w) (λ x. Raises x (give_all vs w)) r.0 ∙ q.1);
  }

  -- ---- bodies by the ticks that are left

  module _ (T m : ℕ) (y : Guard) (by calls : Callees) (are_good : CallsAreGood z ms T m classes (setting.trees m) y by calls) (other passes : Passes) (passes_good : PassesAreGood z ms T m y other passes) where
    global_good : (x : ℕ) (e : t.Expr) (ty : SlotType) (below : List SlotType) (vs under : List Slot) (n : ℕ) (w : World) → slice_get (global_types ms m) x ≡ Some ty → Types z ms m [] ty e
        → At z ms T n [] below vs under w
        → BothCall z ms T initializer_signature below under (finished [] (run_code z m calls passes (of_global x e) vs n w)) (finished [] (guarded.run_code (misfits y) z m by other (of_global x e) vs n w))
    global_good x e ty below vs under n w there typed a =
        let value = typed_good z ms T m classes (setting.trees m) y by calls are_good e ty [] below vs under n w typed a in
        let put = stored_good z ms T m classes y (variable.Global x) ty [] below vs under (evaluate z m calls e vs n w) (guarded.evaluate (misfits y) z m by e vs n w)
        (typed_length z ms (a.1).own w.objects [] vs (a.1).locals_typed) there tt value in
        let done = value_good z ms T y false false false Number ty [] [] below under (stored z m (variable.Global x) vs (evaluate z m calls e vs n w))
        (guarded.stored (misfits y) z m (variable.Global x) vs (guarded.evaluate (misfits y) z m by e vs n w)) (λ v ls' n' w'. Went ls' n' (give v w')) (λ v ls' n' w'. Went ls' n' (give v w')) put.0 put.1
        (λ v ls' n' w' g'. ((refl, (g'.0, give_good z ms [] below ls' under ty v w' g'.1)), refl)) in
        (finished_good z ms T initializer_signature false false below under (run_code z m calls passes (of_global x e) vs n w) (λ other_type. absurd (other_type refl)) done.0, ap (finished []) done.1)

    code_good : (x : Code) (s : Signature) → TypedCode m s x → (below : List SlotType) (vs under : List Slot) (n : ℕ) (w : World) → At z ms T n (types_of s.params) below vs under w
        → BothCall z ms T s below under (finished (passings_among s.params) (run_code z m calls passes x vs n w)) (finished (passings_among s.params) (guarded.run_code (misfits y) z m by other x vs n w))
    code_good (of_function ss) s h below vs under n w a =
        let q = body_block_good z ms T m classes (setting.trees m) y by calls are_good other passes passes_good false s.result ss (types_of s.params) below under h.statements vs n w a in
        (finished_good z ms T s (some_ends ss) (some_breaks ss) below under (run_code z m calls passes (of_function ss) vs n w) h.ends q.0, ap (finished (passings_among s.params)) q.1)
    code_good (of_global x e) s h below vs under n w a =
        let at_init : At z ms T n [] below vs under w = subst (λ (q : Signature). At z ms T n (types_of q.params) below vs under w) h.3 a in
        subst (λ (q : Signature). BothCall z ms T q below under (finished (passings_among q.params) (run_code z m calls passes (of_global x e) vs n w)) (finished (passings_among q.params) (guarded.run_code (misfits y) z m by other (of_global x e) vs n w)))
        (sym h.3) (global_good x e h.0 below vs under n w h.1 h.2 at_init)

  module _ (y : Guard) where
    mutual
      bodies_good : (fuel d T : ℕ) → T < fuel → (g : Routine) (s : Signature) → HasBody g s → (below : List SlotType) (vs under : List Slot) (n : ℕ) (w : World) → At z ms T n (types_of s.params) below vs under w
          → BothCall z ms T s below under (body_at z (sources ms) fuel d g vs n w) (guarded.body_at (misfits y) z (sources ms) fuel d g vs n w)
      bodies_good zero d T lt g s h below vs under n w a = absurd (omega (arith, lt))
      bodies_good (suc fuel) d T lt g s h below vs under n w a =
          let m = g.home in
          let body = body_at z (sources ms) fuel (suc d) in
          let other = guarded.body_at (misfits y) z (sources ms) fuel (suc d) in
          let k : BodiesGood T body other = λ i le g' s' h' below' vs' under' w' a'. bodies_good fuel (suc d) i (omega (arith, le, lt)) g' s' h' below' vs' under' i w' a' in
          let less : T - 1 ≤ fuel - 1 = omega (arith, lt) in
          let q = code_good T m y (guarded.enter (misfits y) z other d m) (enter z body d m) (calls_good T m d y body other k) (guarded.pass_at (misfits y) z (sources ms) fuel d m) (pass_at z (sources ms) fuel d m)
          (record { each = λ e ss steps result locals below' under' p b c. passes_fuel fuel d m (T - 1) less e ss steps result locals below' under' p b c }) (sources ms g) s h.typed below vs under n w a in
          subst (λ ps. BothCall z ms T s below under (finished ps (run_code z m (enter z body d m) (pass_at z (sources ms) fuel d m) (sources ms g) vs n w))
          (finished ps (guarded.run_code (misfits y) z m (guarded.enter (misfits y) z other d m) (guarded.pass_at (misfits y) z (sources ms) fuel d m) (sources ms g) vs n w))) (sym (ap params_in h.passings)) q

      passes_fuel : (fuel d m P : ℕ) → P ≤ fuel - 1 → (e : Option t.Expr) (ss : t.Stmts) (steps : List t.Expr) (result : SlotType) (locals below : List SlotType) (under : List Slot) → TypesOption z ms m locals Number e
          → TypesStatements z ms m result true locals ss → TypesEach z ms m locals steps
          → RunsWell z ms P false (endless e ss) false result locals locals locals below under (pass_at z (sources ms) fuel d m e ss steps) (guarded.pass_at (misfits y) z (sources ms) fuel d m e ss steps)
      passes_fuel zero d m P le e ss steps result locals below under p b c = λ ls n w a. (([], a.1), refl)
      passes_fuel (suc fuel) d m P le e ss steps result locals below under p b c =
          let body = body_at z (sources ms) fuel (suc d) in
          let other = guarded.body_at (misfits y) z (sources ms) fuel (suc d) in
          let k : BodiesGood P body other = λ i lt g' s' h' below' vs' under' w' a'. bodies_good fuel (suc d) i (omega (arith, le, lt)) g' s' h' below' vs' under' i w' a' in
          let less : P - 1 ≤ fuel - 1 = omega (arith, le) in
          pass_good z ms P m classes (setting.trees m) y (guarded.enter (misfits y) z other d m) (enter z body d m) (calls_good P m d y body other k) (guarded.pass_at (misfits y) z (sources ms) fuel d m) (pass_at z (sources ms) fuel d m)
          (record { each = λ e' ss' steps' result' locals' below' under' p' b' c'. passes_fuel fuel d m (P - 1) less e' ss' steps' result' locals' below' under' p' b' c' }) e ss steps result locals below under p b c

    -- ---- whole runs

    pub start_good : (types : List SlotType) (vs : List Slot) (w : World) → IsGood z ms types vs w → Good z ms types [] vs [] w
    start_good types vs w g = record {
      own = g.own;
      locals_typed = g.places;
      under_typed = tt;
      world = g.world;
      counted = counted_as vs (vs ++ []) w (λ x. omega (arith, many_append x vs [])) g.counted;
    }

    reply_good : (T : ℕ) (s : Signature) (r : Reply) → IsGoodCall z ms T s [] [] r → IsGoodReply z ms s r
    reply_good T s (Yields v outs n w) h = let g = h.1 in record {
      own = g.own;
      places = (g.under_typed.0, g.locals_typed);
      world = g.world;
      counted = counted_as (outs ++ (v ∷ [])) (v ∷ outs) w (λ x. omega (arith, many_append x outs (v ∷ []))) g.counted;
    }
    reply_good T s (Raises f w) g = record { own = g.own; places = tt; world = g.world; counted = g.counted }

    pub begun_good : (n : ℕ) (g : Routine) (s : Signature) (vs : List Slot) (w : World) → HasBody g s → Good z ms (types_of s.params) [] vs [] w
        → BothCall z ms n s [] [] (begun z (sources ms) g vs n w) (guarded.begun (misfits y) z (sources ms) g vs n w)
    begun_good n g s vs w h a =
        memory_good z ms n s [] vs [] w (memory_step w) (λ u. body_at z (sources ms) (suc n) 0 g vs n u) (λ u. guarded.body_at (misfits y) z (sources ms) (suc n) 0 g vs n u) a (memory_leads w)
        (memory_counted (vs ++ []) w a.counted) (λ u k. bodies_good (suc n) 0 n (omega arith) g s h [] vs [] n u (omega arith, k))

    called_good : (budget : ℕ) (g : Routine) (s : Signature) (vs : List Slot) (w : World) → HasBody g s → Good z ms (types_of s.params) [] vs [] w
        → (guarded.called_with (misfits y) z (sources ms) budget g vs w ≡ called_with z (sources ms) budget g vs w) × IsGoodReply z ms s (called_with z (sources ms) budget g vs w)
    called_good zero g s vs w h a = (refl, reply_good 0 s (Raises Budget (give_all vs w)) (all_given z ms (types_of s.params) [] vs [] w a))
    called_good (suc n) g s vs w h a = let q = begun_good n g s vs w h a in (q.1, reply_good n s (begun z (sources ms) g vs n w) q.0)

pub calls_meet_no_misfit : CallsMeetNoMisfit
calls_meet_no_misfit z ms y setting budget g s vs w h a = called_good z ms setting y budget g s vs w (function_body z ms setting g s h) (start_good z ms setting y (types_of s.params) vs w a)
