-- What sources do is the same in two worlds that are alike: what they are lowered to does so, and means what they mean.
use Rattle.std.proofs.Common.{◌≡◌, ◌<◌, ◌≤◌, ◌+◌, ℕ, zero, suc, inl, inr, List, [], ◌∷◌, ◌++◌, length, refl, sym, ap, ◌∙◌, subst, arith, Option, Some, None, map}
use Rattle.std.specs.Prelude.{false, if◌then◌else◌, slice_get}
use Rattle.ang_kinds.specs.declared.fault.Fault.TheVariants.{Null, Budget, Depth, Memory}
use Rattle.ang_view.specs.Registration.{RegistrationList}
use Rattle.ang_typed.specs.declared.expression.TypedVariable.TheVariants as variable
use Rattle.ang_typed.specs.Typed as tree
use Rattle.ang_meaning.specs.declared.slot.Slot.{Slot}
use Rattle.ang_meaning.specs.declared.slot.Slot.TheVariants.{Bits}
use Rattle.ang_meaning.specs.declared.routine.Routine.{Routine}
use Rattle.ang_meaning.specs.declared.routine.Passing.{Passing}
use Rattle.ang_meaning.specs.World.{World, or_else, give, give_all, memory_step}
use Rattle.ang_meaning.specs.Environment.{Environment, Found, Enters, Misses, target, has_objects, params_of, params_in}
use Rattle.ang_meaning.specs.Results.{Went, Reply, Yields, Raises, Calls, ticked, with_value, finished, may_nest, entered, found_entered, enter}
use Rattle.ang_meaning.specs.Counting.{IsCounted}
use Rattle.ang_meaning.specs.Alike.{Renaming, renamed, renamed_all}
use Rattle.ang_meaning.proofs.Counted.{give_counted}
use Rattle.ang_meaning.proofs.Counting.{bits_name_none}
use Rattle.ang_meaning.proofs.Operating.{push_none}
use Rattle.ang_meaning.proofs.AlikeWorlds.{three, give_alike}
use Rattle.ang_meaning.proofs.Matching.{AlikeUpTo, alike_of, alike_by}
use Rattle.ang_code_laws.proofs.Counting.{nothing_below}
use Rattle.ang_core.specs.Sound.{out_count}
use Rattle.ang_meaning.specs.Bodies.{Callees, then_initialized}
use Rattle.ang_source.specs.Meaning.{Code, of_function, of_global, Codes, callee_of, evaluate, run_code, passings_of, passings_in, codes_of, initializer_of, initializers_from}
use Rattle.ang_source.specs.Meaning as source
use Rattle.ang_source.specs.Sound.{Module, module_of, declared_by, SoundOption, SoundStatements, SoundFunctions, SoundGlobals, SoundProgram}
use Rattle.ang_lower.specs.LoweredExpr as low
use Rattle.ang_lower.specs.Lowered.{lowered_all, lowered_code}
use Rattle.ang_lower.specs.Same.{SoundCode, TakeNothing}
use Rattle.ang_lower.proofs.PlainMeaning as plain
use Rattle.ang_lower.proofs.PlainMeaning.{PlainBodies, run}
use Rattle.ang_lower.proofs.PlainSound.{IsSoundStmt}
use Rattle.ang_lower.proofs.Callees.{takes}
use Rattle.ang_lower.proofs.Headings.{has_callees}
use Rattle.ang_lower.proofs.Values.{CalleesAgree, stored_same, value_same}
use Rattle.ang_lower.proofs.Turns.{PassesAgree, block_same, statements_same, pass_same}
use Rattle.ang_lower.proofs.Follows.{passings_count}
use Rattle.ang_lower.proofs.Sounds.{code_sound}
use Rattle.ang_alike.specs.SourcesAlike.{turned_reply, reply_world, RepliesAlike, AreAlikeInRuns, AreSoundSources}
use Rattle.ang_alike.proofs.Renamed.{many_renamed}
use Rattle.ang_alike.proofs.Calls.{reply_stack, ReplyKeeps, ReplyLeaves, ReplyAlike, reply_on, reply_most}
use Rattle.ang_alike.proofs.Bodies.{all_go, framed_alike, tick_alike}

-- ---- the code of a body by its number

-- code of bodies, which is sound with parameters that are taken so
abbrev AllSound : Module → List (List Passing) → List Code → Type 0
AllSound M [] [] = Unit {0}
AllSound M [] (x ∷ xs) = ⊥
AllSound M (ps ∷ pss) [] = ⊥
AllSound M (ps ∷ pss) (x ∷ xs) = SoundCode M (length ps) x × AllSound M pss xs

functions_sound : (M : Module) (fs : List tree.TypedFunction) (pss : List (List Passing)) (xs : List Code) → SoundFunctions M fs → AllSound M pss xs
    → AllSound M (map (λ f. passings_of f.parameters) fs ++ pss) (map (λ f. of_function f.body) fs ++ xs)
functions_sound M [] pss xs h k = k
functions_sound M (f ∷ fs) pss xs h k =
    (subst (λ n. SoundStatements M false n f.body) (sym (passings_count f.parameters)) h.0, functions_sound M fs pss xs h.1 k)

one_sound : (M : Module) (g : ℕ) (i : Option tree.Expr) (xs : List Code) → SoundOption M 0 i → g < M.globals → AllSound M (map (λ x. []) xs) xs
    → AllSound M (map (λ x. []) (initializer_of g i ++ xs)) (initializer_of g i ++ xs)
one_sound M g None xs h lt k = k
one_sound M g (Some e) xs h lt k = ((lt, h), k)

globals_sound : (M : Module) (gs : List tree.Global) (g : ℕ) → SoundGlobals M gs → g + length gs ≤ M.globals → AllSound M (map (λ x. []) (initializers_from g gs)) (initializers_from g gs)
globals_sound M [] g h le = tt
globals_sound M (x ∷ gs) g h le = one_sound M g x.initializer (initializers_from (suc g) gs) h.0 (omega (arith, le)) (globals_sound M gs (suc g) h.1 (omega (arith, le)))

module_sound : (V : RegistrationList) (p : tree.Program) → SoundProgram V p → AllSound (module_of V p) (passings_in p) (codes_of p)
module_sound V p h =
    let M = module_of V p in
    functions_sound M p.functions (map (λ x. []) (initializers_from 0 p.globals)) (initializers_from 0 p.globals) h.functions (globals_sound M p.globals 0 h.globals (omega arith))

record CodeAt (M : Module) (xs : List Code) (k : ℕ) (ps : List Passing) : Type 0 where
  code : Code
  at : slice_get xs k ≡ Some code
  sound : SoundCode M (length ps) code

code_at : (M : Module) (pss : List (List Passing)) (xs : List Code) (k : ℕ) (ps : List Passing) → AllSound M pss xs → slice_get pss k ≡ Some ps → CodeAt M xs k ps
code_at M [] [] k ps h e = absurd (let x : ⊥ = cc in x)
code_at M [] (x ∷ xs) k ps h e = absurd h
code_at M (q ∷ pss) [] k ps h e = absurd h
code_at M (q ∷ pss) (x ∷ xs) zero ps h e =
    let same : q ≡ ps = cc in
    record { code = x; at = refl; sound = subst (λ l. SoundCode M (length l) x) same h.0 }
code_at M (q ∷ pss) (x ∷ xs) (suc k) ps h e = let r = code_at M pss xs k ps h.1 e in record { code = r.code; at = r.at; sound = r.sound }

-- ---- what is lowered means the same

-- what stands before a body, where the bodies do the same
entered_same : (z : Environment) (b b' : Calls) (d : ℕ) (g : Routine) (vs : List Slot) (t : ℕ) (w : World) → ((t' : ℕ) (w' : World) → b g vs t' w' ≡ b' g vs t' w') → entered z b d g vs t w ≡ entered z b' d g vs t w
entered_same z b b' d g vs t w h =
    λ j. if has_objects (params_of z g) vs
    then (if may_nest z d
    then (ticked t (Raises Budget (give_all vs w)) (λ t'. or_else (memory_step w) (λ w'. Raises Memory (give_all vs w')) (λ w'. h t' w' j)))
    else (Raises Depth (give_all vs w)))
    else (Raises Null (give_all vs w))

found_same : (z : Environment) (b b' : Calls) (d : ℕ) (f : Found) (vs : List Slot) (t : ℕ) (w : World) → ((g : Routine) → f ≡ Enters g → (t' : ℕ) (w' : World) → b g vs t' w' ≡ b' g vs t' w')
    → found_entered z b d f vs t w ≡ found_entered z b' d f vs t w
found_same z b b' d (Enters g) vs t w h = entered_same z b b' d g vs t w (h g refl)
found_same z b b' d (Misses x) vs t w h = refl

-- a whole body
code_same : (z : Environment) (m : ℕ) (M : Module) (k : Callees) (k' : Callees) (callees : CalleesAgree M k k') (p : plain.Passes) (p' : source.Passes) (passes : PassesAgree M p p')
    (x : Code) (n : ℕ) (ls : List Slot) (t : ℕ) (w : World) → length ls ≡ n → SoundCode M n x → run z m k p (lowered_code n x) ls t w ≡ run_code z m k' p' x ls t w
code_same z m M k k' callees p p' passes (of_function ss) n ls t w l h =
    (block_same z m M k k' callees p p' passes n (declared_by ss + n) (lowered_all n ss) (source.run_all z m k' p' ss) ls t w l (omega arith)
    (statements_same z m M k k' callees p p' passes ss false n ls t w l h)).same
code_same z m M k k' callees p p' passes (of_global g e) n ls t w l h =
    ap (λ y. with_value y (λ v ls' t' w'. Went ls' t' (give v w')))
    (stored_same z m k k' n (variable.Global g) (low.lowered n e) (evaluate z m k' e ls t w) ls t w l (value_same z m M k k' callees e n ls t w l h.1)).same

module _ (z : Environment) (V : ℕ → RegistrationList) (program : ℕ → tree.Program) (codes : Codes) (are : AreSoundSources z V program codes) where
  abbrev M : ℕ → Module
  M m = module_of (V m) (program m)

  -- the bodies that sources are lowered to
  abbrev lowered_bodies : PlainBodies
  lowered_bodies g = lowered_code (length (params_of z g)) (codes g)

  sound_code : (g : Routine) (ps : List Passing) → z.params g ≡ Some ps → SoundCode (M g.home) (length ps) (codes g)
  sound_code g ps known =
      let m = g.home in
      let c = code_at (M m) (passings_in (program m)) (codes_of (program m)) g.number ps (module_sound (V m) (program m) (are.sound m)) (sym ((are.has m).bodies g.number) ∙ known) in
      subst (λ x. SoundCode (M m) (length ps) x) (sym ((are.coded m).each g.number c.code c.at)) c.sound

  sound_body : (g : Routine) (ps : List Passing) → z.params g ≡ Some ps → IsSoundStmt z g.home false (length ps) (lowered_bodies g)
  sound_body g ps known =
      let m = g.home in
      subst (λ l. IsSoundStmt z m false (length ps) (lowered_code (length l) (codes g))) (sym (ap params_in known))
      (code_sound z m (M m) (has_callees (V m) z m (program m) (are.has m)) (are.sees m) (codes g) (length ps) (sound_code g ps known))

  record Follows (n : ℕ) : Type 0 where
    bodies_go : (d : ℕ) (g : Routine) (ps : List Passing) (vs : List Slot) (t : ℕ) (w : World) → z.params g ≡ Some ps → length ps ≡ length vs
        → plain.body_at z lowered_bodies n d g vs t w ≡ source.body_at z codes n d g vs t w
    passes_go : (d m : ℕ) → PassesAgree (M m) (plain.pass_at z lowered_bodies n d m) (source.pass_at z codes n d m)

  callees_at : (n d m : ℕ) → Follows n → CalleesAgree (M m) (enter z (plain.body_at z lowered_bodies n (suc d)) d m) (enter z (source.body_at z codes n (suc d)) d m)
  callees_at n d m under f ps vs t w at count =
      found_same z (plain.body_at z lowered_bodies n (suc d)) (source.body_at z codes n (suc d)) d (target z m (callee_of f) vs w) vs t w
      (λ g e t' w'. under.bodies_go (suc d) g (passings_of ps) vs t' w' (takes z m (M m) (has_callees (V m) z m (program m) (are.has m)) are.links f ps at g vs w e) (passings_count ps ∙ sym count))

  follows : (n : ℕ) → Follows n
  follows zero = record { bodies_go = λ d g ps vs t w known count. refl; passes_go = λ d m n e ss steps ls t w l h. record { same = refl; keeps = tt } }
  follows (suc n) =
      let under = follows n in
      record {
        bodies_go = λ d g ps vs t w known count.
            let m = g.home in
            let calls = enter z (plain.body_at z lowered_bodies n (suc d)) d m in
            let passes = plain.pass_at z lowered_bodies n d m in
            ap (λ l. finished (params_of z g) (run z m calls passes (lowered_code (length l) (codes g)) vs t w)) (ap params_in known)
            ∙ ap (λ r. finished (params_of z g) r)
            (code_same z m (M m) calls (enter z (source.body_at z codes n (suc d)) d m) (callees_at n d m under) passes (source.pass_at z codes n d m) (under.passes_go d m)
            (codes g) (length ps) vs t w (sym count) (sound_code g ps known));
        passes_go = λ d m i e ss steps ls t w l h.
            pass_same z m (M m) (enter z (plain.body_at z lowered_bodies n (suc d)) d m) (enter z (source.body_at z codes n (suc d)) d m) (callees_at n d m under)
            (plain.pass_at z lowered_bodies n d m) (source.pass_at z codes n d m) (under.passes_go d m) i e ss steps ls t w l h;
      }

  -- ---- runs

  module _ (apart : Type 0) where
    body_alike : (t : ℕ) (g : Routine) (ps : List Passing) (vs : List Slot) (r : Renaming) (v w : World) → z.params g ≡ Some ps → length ps ≡ length vs → IsCounted (vs ++ []) v → AlikeUpTo apart r v w
        → ReplyAlike apart t (out_count ps) r [] (source.body_at z codes (suc t) 0 g vs t v) (source.body_at z codes (suc t) 0 g (renamed_all r vs) t w)
    body_alike t g ps vs r v w known count p h =
        let f = follows (suc t) in
        subst (λ o. ReplyAlike apart t (out_count ps) r [] o (source.body_at z codes (suc t) 0 g (renamed_all r vs) t w)) (f.bodies_go 0 g ps vs t v known count)
        (subst (λ o. ReplyAlike apart t (out_count ps) r [] (plain.body_at z lowered_bodies (suc t) 0 g vs t v) o) (f.bodies_go 0 g ps (renamed_all r vs) t w known (count ∙ sym (many_renamed r vs)))
        ((all_go apart z lowered_bodies sound_body are.links (suc t)).bodies_go t (omega arith) 0 g ps r [] vs t v w known count (omega arith) p h))

    begun_alike : (t : ℕ) (g : Routine) (ps : List Passing) (vs : List Slot) (r : Renaming) (v w : World) → z.params g ≡ Some ps → length ps ≡ length vs → IsCounted (vs ++ []) v → AlikeUpTo apart r v w
        → ReplyAlike apart t (out_count ps) r [] (source.begun z codes g vs t v) (source.begun z codes g (renamed_all r vs) t w)
    begun_alike t g ps vs r v w known count p h =
        framed_alike apart t (out_count ps) r [] vs (λ u. source.body_at z codes (suc t) 0 g vs t u) (λ u. source.body_at z codes (suc t) 0 g (renamed_all r vs) t u) v w p h
        (λ v' w' p' h'. body_alike t g ps vs r v' w' known count p' h')

    pub call_alike : (budget : ℕ) (g : Routine) (ps : List Passing) (vs : List Slot) (r : Renaming) (v w : World) → z.params g ≡ Some ps → length ps ≡ length vs → IsCounted vs v → AlikeUpTo apart r v w
        → ReplyAlike apart budget (out_count ps) r [] (source.called_with z codes budget g vs v) (source.called_with z codes budget g (renamed_all r vs) w)
    call_alike budget g ps vs r v w known count p h =
        let below : IsCounted (vs ++ []) v = nothing_below vs v p in
        tick_alike apart budget (out_count ps) r [] vs budget (λ t. source.begun z codes g vs t v) (λ t. source.begun z codes g (renamed_all r vs) t w) v w (omega arith) below h
        (λ t lt. reply_most apart t budget (out_count ps) r [] (source.begun z codes g vs t v) (source.begun z codes g (renamed_all r vs) t w) (omega (arith, lt)) (begun_alike t g ps vs r v w known count below h))

    -- ---- initializers in turn

    next_leaves : (go : ℕ → World → Reply) (o : Reply) → ReplyLeaves apart o → ReplyLeaves apart (then_initialized o go)
    next_leaves go (Yields x outs t v) h = absurd h
    next_leaves go (Raises f v) h = h

    next_same : (most : ℕ) (r : Renaming) (go : ℕ → World → Reply) (o : Reply) (w : World) → ReplyKeeps most 0 o → IsCounted (reply_stack o ++ []) (reply_world o) → AlikeUpTo apart r (reply_world o) w
        → ((t : ℕ) (v w : World) → t ≤ most → IsCounted [] v → AlikeUpTo apart r v w → ReplyAlike apart most 0 r [] (go t v) (go t w))
        → ReplyAlike apart most 0 r [] (then_initialized o go) (then_initialized (turned_reply r w o) go)
    next_same most r go (Yields x [] t v) w many p h next = next t (give x v) (give (renamed r x) w) many.1 (give_counted x [] v p) (give_alike apart r x v w h)
    next_same most r go (Yields x (y ∷ outs) t v) w many p h next = absurd (let e : ⊥ = omega (arith, many.0) in e)
    next_same most r go (Raises f v) w many p h next = inl (record { by = r; other = w; kept = refl; same = refl; counted = p; alike = h; keeps = tt })

    pub all_alike : (gs : List Routine) (most t : ℕ) (r : Renaming) (v w : World) → t ≤ most → TakeNothing z gs → IsCounted [] v → AlikeUpTo apart r v w
        → ReplyAlike apart most 0 r [] (source.initialized_all z codes gs t v) (source.initialized_all z codes gs t w)
    all_alike [] most t r v w le none p h = inl (record {
      by = r;
      other = w;
      kept = refl;
      same = refl;
      counted = push_none (Bits 0) [] v (bits_name_none 0) p;
      alike = h;
      keeps = (refl, le);
    })
    all_alike (g ∷ gs) most t r v w le none p h =
        let go : ℕ → World → Reply = λ t' w'. source.initialized_all z codes gs t' w' in
        let one = source.initialized z codes t g v in
        let two = source.initialized z codes t g w in
        three (λ m. reply_on apart most 0 m.by r [] (then_initialized one go) (then_initialized two go) refl
        (subst (λ e. ReplyAlike apart most 0 m.by [] (then_initialized one go) (then_initialized e go)) (sym m.same)
        (next_same most m.by go one m.other m.keeps m.counted m.alike (λ t' v' w' le' p' h'. all_alike gs most t' m.by v' w' le' none.1 p' h'))))
        (λ l. inr (inl (next_leaves go one l))) (λ l. inr (inr (next_leaves go two l)))
        (reply_most apart t most 0 r [] one two le (begun_alike t g [] [] r v w none.0 refl p h))

-- ---- the law

no_leaving : (o : Reply) → ReplyLeaves ⊥ o → ⊥
no_leaving (Yields x outs t v) h = h
no_leaving (Raises f v) h = h.0

replies_by : (most k : ℕ) (r : Renaming) (o p : Reply) → ReplyAlike ⊥ most k r [] o p → RepliesAlike o p
replies_by most k r o p h =
    three (λ m. record { by = m.by; world = m.other; same = m.same; alike = alike_by m.by (reply_world o) m.other m.alike }) (λ l. absurd (no_leaving o l)) (λ l. absurd (no_leaving p l)) h

pub sources_alike : (z : Environment) (view : ℕ → RegistrationList) (program : ℕ → tree.Program) (codes : Codes) → AreSoundSources z view program codes → AreAlikeInRuns z codes
sources_alike z view program codes are = record {
  calls = λ budget g ps vs r v w known count p h. replies_by budget (out_count ps) r _ _ (call_alike z view program codes are ⊥ budget g ps vs r v w known count p (alike_of r v w h));
  initializers = λ gs budget r v w none p h. replies_by budget 0 r _ _ (all_alike z view program codes are ⊥ gs budget budget r v w (omega arith) none p (alike_of r v w h));
}
