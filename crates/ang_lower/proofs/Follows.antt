-- A lowered body ends as its source does: by induction on the ticks that are left.
use Rattle.std.proofs.Common.{◌≡◌, ℕ, zero, suc, ◌+◌, List, [], ◌∷◌, length, refl, sym, ap, ◌∙◌, arith, Some, map}
use Rattle.std.specs.Prelude.{if◌then◌else◌, false}
use Rattle.std.proofs.lemmas.List.{length-map, length-reverse}
use Rattle.ang_kinds.specs.declared.fault.Fault.TheVariants.{Null, Budget, Depth, Memory}
use Rattle.ang_typed.specs.declared.expression.TypedVariable.TheVariants as variable
use Rattle.ang_typed.specs.declared.program.TypedParameter.{TypedParameter}
use Rattle.ang_meaning.specs.declared.slot.Slot.{Slot}
use Rattle.ang_meaning.specs.declared.routine.Routine.{Routine}
use Rattle.ang_meaning.specs.declared.routine.Passing.{Passing}
use Rattle.ang_meaning.specs.World.{World, or_else, give, give_all, memory_step}
use Rattle.ang_meaning.specs.Environment.{Environment, Found, Enters, Misses, target, has_objects, params_of}
use Rattle.ang_meaning.specs.Results.{Went, Reply, Yields, Raises, Calls, ticked, with_value, finished, may_nest, entered, found_entered, enter}
use Rattle.ang_core.specs.Meaning.{Bodies}
use Rattle.ang_core.specs.Meaning as core
use Rattle.ang_core.specs.Sound.{LinksFit}
use Rattle.ang_meaning.specs.Bodies.{Callees, then_initialized}
use Rattle.ang_source.specs.Meaning.{Code, of_function, of_global, Codes, callee_of, evaluate, run_code, passing_of, passings_of}
use Rattle.ang_source.specs.Meaning as source
use Rattle.ang_source.specs.Sound.{Module, declared_by}
use Rattle.ang_lower.specs.LoweredExpr as low
use Rattle.ang_lower.specs.Lowered.{lowered_all, lowered_code}
use Rattle.ang_lower.specs.Same.{SoundCode, AreLowered, MeansSame, AllMeanSame, TakeNothing}
use Rattle.ang_lower.proofs.PlainMeaning as plain
use Rattle.ang_lower.proofs.PlainMeaning.{run, plain_of, body_is}
use Rattle.ang_lower.proofs.Callees.{takes}
use Rattle.ang_lower.proofs.Values.{CalleesAgree, stored_same, value_same}
use Rattle.ang_lower.proofs.Turns.{PassesAgree, block_same, statements_same, pass_same}

pub passings_count : (ps : List TypedParameter) → length (passings_of ps) ≡ length ps
passings_count ps = length-reverse (map (λ p. passing_of p) ps) ∙ length-map ps (λ p. passing_of p)

-- what stands before a body, where the bodies do the same
entered_same : (z : Environment) (b b' : Calls) (d : ℕ) (g : Routine) (vs : List Slot) (t : ℕ) (w : World) → ((t' : ℕ) (w' : World) → b g vs t' w' ≡ b' g vs t' w') → entered z b d g vs t w ≡ entered z b' d g vs t w
entered_same z b b' d g vs t w h =
    λ j. if has_objects (params_of z g) vs
    then (if may_nest z d
    then (ticked t (Raises Budget (give_all vs w)) (λ t'. or_else (memory_step w) (λ w'. Raises Memory (give_all vs w')) (λ w'. h t' w' j)))
    else (Raises Depth (give_all vs w)))
    else (Raises Null (give_all vs w))

-- a whole body
code_same : (z : Environment) (m : ℕ) (M : Module) (k k' : Callees) (callees : CalleesAgree M k k') (p : plain.Passes) (p' : source.Passes) (passes : PassesAgree M p p')
    (x : Code) (n : ℕ) (ls : List Slot) (t : ℕ) (w : World) → length ls ≡ n → SoundCode M n x → run z m k p (lowered_code n x) ls t w ≡ run_code z m k' p' x ls t w
code_same z m M k k' callees p p' passes (of_function ss) n ls t w l h =
    (block_same z m M k k' callees p p' passes n (declared_by ss + n) (lowered_all n ss) (source.run_all z m k' p' ss) ls t w l (omega arith)
    (statements_same z m M k k' callees p p' passes ss false n ls t w l h)).same
code_same z m M k k' callees p p' passes (of_global g e) n ls t w l h =
    ap (λ y. with_value y (λ v ls' t' w'. Went ls' t' (give v w')))
    (stored_same z m k k' n (variable.Global g) (low.lowered n e) (evaluate z m k' e ls t w) ls t w l (value_same z m M k k' callees e n ls t w l h.1)).same

-- a call, where what it enters does the same
found_same : (z : Environment) (b b' : Calls) (d : ℕ) (f : Found) (vs : List Slot) (t : ℕ) (w : World) → ((g : Routine) → f ≡ Enters g → (t' : ℕ) (w' : World) → b g vs t' w' ≡ b' g vs t' w')
    → found_entered z b d f vs t w ≡ found_entered z b' d f vs t w
found_same z b b' d (Enters g) vs t w h = entered_same z b b' d g vs t w (h g refl)
found_same z b b' d (Misses x) vs t w h = refl

-- ---- all modules: an import leads from one to another

module _ (z : Environment) (M : ℕ → Module) (bodies : Bodies) (codes : Codes) (are : (m : ℕ) → AreLowered z m (M m) bodies codes) (links : LinksFit z) where
  record Follows (n : ℕ) : Type 0 where
    bodies_go : (d : ℕ) (g : Routine) (ps : List Passing) (vs : List Slot) (t : ℕ) (w : World) → z.params g ≡ Some ps → length ps ≡ length vs
        → plain.body_at z (plain_of bodies) n d g vs t w ≡ source.body_at z codes n d g vs t w
    passes_go : (d m : ℕ) → PassesAgree (M m) (plain.pass_at z (plain_of bodies) n d m) (source.pass_at z codes n d m)

  callees_at : (n d m : ℕ) → Follows n → CalleesAgree (M m) (enter z (plain.body_at z (plain_of bodies) n (suc d)) d m) (enter z (source.body_at z codes n (suc d)) d m)
  callees_at n d m under f ps vs t w at count =
      found_same z (plain.body_at z (plain_of bodies) n (suc d)) (source.body_at z codes n (suc d)) d (target z m (callee_of f) vs w) vs t w
      (λ g e t' w'. under.bodies_go (suc d) g (passings_of ps) vs t' w' (takes z m (M m) (are m).callees links f ps at g vs w e) (passings_count ps ∙ sym count))

  follows : (n : ℕ) → Follows n
  follows zero = record { bodies_go = λ d g ps vs t w known count. refl; passes_go = λ d m n e ss steps ls t w l h. record { same = refl; keeps = tt } }
  follows (suc n) =
      let under = follows n in
      record {
        bodies_go = λ d g ps vs t w known count.
            let m = g.home in
            let calls = enter z (plain.body_at z (plain_of bodies) n (suc d)) d m in
            let passes = plain.pass_at z (plain_of bodies) n d m in
            ap (λ s. finished (params_of z g) (run z m calls passes s vs t w)) ((are m).lowered g.number ps known).same
            ∙ ap (λ r. finished (params_of z g) r)
            (code_same z m (M m) calls (enter z (source.body_at z codes n (suc d)) d m) (callees_at n d m under) passes (source.pass_at z codes n d m) (under.passes_go d m)
            (codes g) (length ps) vs t w (sym count) ((are m).sound g.number ps known));
        passes_go = λ d m i e ss steps ls t w l h.
            pass_same z m (M m) (enter z (plain.body_at z (plain_of bodies) n (suc d)) d m) (enter z (source.body_at z codes n (suc d)) d m) (callees_at n d m under)
            (plain.pass_at z (plain_of bodies) n d m) (source.pass_at z codes n d m) (under.passes_go d m) i e ss steps ls t w l h;
      }

  begun_same : (g : Routine) (ps : List Passing) (vs : List Slot) (t : ℕ) (w : World) → z.params g ≡ Some ps → length ps ≡ length vs → core.begun z bodies g vs t w ≡ source.begun z codes g vs t w
  begun_same g ps vs t w known count =
      let at_body : (w' : World) → core.body_at z bodies (suc t) 0 g vs t w' ≡ source.body_at z codes (suc t) 0 g vs t w' =
      λ w'. body_is z bodies (suc t) 0 g vs t w' ∙ (follows (suc t)).bodies_go 0 g ps vs t w' known count in
      λ j. or_else (memory_step w) (λ w'. Raises Memory (give_all vs w')) (λ w'. at_body w' j)

  pub everywhere : (g : Routine) → MeansSame z bodies codes g
  everywhere g = record {
    calls = λ budget ps vs w known count. λ j. ticked budget (Raises Budget (give_all vs w)) (λ t. begun_same g ps vs t w known count j);
    initializers = λ t w known. begun_same g [] [] t w known refl;
  }

-- ---- initializers in turn

after_one : (r : Reply) (go go' : ℕ → World → Reply) → ((t : ℕ) (w : World) → go t w ≡ go' t w) → then_initialized r go ≡ then_initialized r go'
after_one (Yields v outs t w) go go' h = h t (give v w)
after_one (Raises f w) go go' h = refl

pub all_same : (z : Environment) (bodies : Bodies) (codes : Codes) (gs : List Routine) (t : ℕ) (w : World) → AllMeanSame z bodies codes gs → core.initialized_all z bodies gs t w ≡ source.initialized_all z codes gs t w
all_same z bodies codes [] t w h = refl
all_same z bodies codes (g ∷ gs) t w h =
    ap (λ r. then_initialized r (λ t' w'. core.initialized_all z bodies gs t' w')) (h.1.initializers t w h.0)
    ∙ after_one (source.initialized z codes t g w) _ _ (λ t' w'. all_same z bodies codes gs t' w' h.2)

-- ---- a build's initializers

module _ (z : Environment) (M : ℕ → Module) (bodies : Bodies) (codes : Codes) (are : (m : ℕ) → AreLowered z m (M m) bodies codes) (links : LinksFit z) where
  all_mean : (gs : List Routine) → TakeNothing z gs → AllMeanSame z bodies codes gs
  all_mean [] h = tt
  all_mean (g ∷ gs) h = (h.0, everywhere z M bodies codes are links g, all_mean gs h.1)

  pub builds_same : (gs : List Routine) (t : ℕ) (w : World) → TakeNothing z gs → core.initialized_all z bodies gs t w ≡ source.initialized_all z codes gs t w
  builds_same gs t w h = all_same z bodies codes gs t w (all_mean gs h)
