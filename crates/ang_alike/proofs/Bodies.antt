-- Bodies come to the same in two worlds that are alike: by induction on the ticks that are left.
use Rattle.std.proofs.Common.{◌≡◌, ◌≤◌, ◌<◌, ◌+◌, ℕ, zero, suc, inl, inr, List, ◌++◌, length, refl, sym, ap, ◌∙◌, subst, arith, Some}
use Rattle.std.specs.Prelude.{Bool, true, false, if◌then◌else◌}
use Rattle.ang_kinds.specs.declared.fault.Fault.{Fault}
use Rattle.ang_kinds.specs.declared.fault.Fault.TheVariants.{Null as NullFault, Budget, Depth, Memory}
use Rattle.ang_meaning.specs.declared.slot.Slot.{Slot}
use Rattle.ang_meaning.specs.declared.routine.Routine.{Routine}
use Rattle.ang_meaning.specs.declared.routine.Passing.{Passing}
use Rattle.ang_meaning.specs.World.{World, Tried, Yes, No, or_else, give_all, memory_step}
use Rattle.ang_meaning.specs.Environment.{Environment, Found, Enters, Misses, target, has_objects, params_of, params_in}
use Rattle.ang_meaning.specs.Results.{Reply, Raises, Calls, ticked, finished, may_nest, entered, found_entered, enter}
use Rattle.ang_meaning.specs.Counting.{IsCounted}
use Rattle.ang_meaning.specs.Alike.{Renaming, renamed_all}
use Rattle.ang_meaning.proofs.Counted.{TriedCounted, memory_counted, give_all_counted}
use Rattle.ang_meaning.proofs.AlikeWorlds.{three, TriedLeaves, TriedSame, memory_alike, give_all_alike}
use Rattle.ang_meaning.proofs.Matching.{AlikeUpTo}
use Rattle.ang_core.specs.Sound.{LinksFit, out_count}
use Rattle.ang_gen.proofs.Leads.{leads}
use Rattle.ang_lower.specs.ExprTree as c
use Rattle.ang_lower.specs.Tree as stmt
use Rattle.ang_lower.proofs.PlainMeaning.{PlainBodies, run, body_at, pass_at}
use Rattle.ang_lower.proofs.PlainSound.{leaves, IsSound, IsSoundStmt}
use Rattle.ang_alike.proofs.Renamed.{objects_renamed, target_renamed, more_given}
use Rattle.ang_alike.proofs.Calls.{ReplyLeaves, ReplyAlike, raised_alike, CallsGo, reply_most}
use Rattle.ang_alike.proofs.BodyRuns.{PassesGo, RunGoes, run_alike, pass_alike, finished_alike, ran_most}

module _ (apart : Type 0) (most : ℕ) where
  -- a fault that gives up the arguments
  given_alike : (k : ℕ) (r : Renaming) (below vs : List Slot) (f : Fault) (v w : World) → IsCounted (vs ++ below) v → AlikeUpTo apart r v w
      → ReplyAlike apart most k r below (Raises f (give_all vs v)) (Raises f (give_all (renamed_all r vs) w))
  given_alike k r below vs f v w p h = raised_alike apart most k r below f (give_all vs v) (give_all (renamed_all r vs) w) (give_all_counted vs below v p) (give_all_alike apart r vs v w h)

  -- ---- memory for a frame

  framed_same : (k : ℕ) (r : Renaming) (below vs : List Slot) (go on : World → Reply) (o p : Tried) → TriedCounted (vs ++ below) (vs ++ below) o → TriedSame apart r o p
      → ((v w : World) → IsCounted (vs ++ below) v → AlikeUpTo apart r v w → ReplyAlike apart most k r below (go v) (on w))
      → ReplyAlike apart most k r below (or_else o (λ u. Raises Memory (give_all vs u)) go) (or_else p (λ u. Raises Memory (give_all (renamed_all r vs) u)) on)
  framed_same k r below vs go on (Yes v) (Yes w) c h next = next v w c h
  framed_same k r below vs go on (Yes v) (No w) c h next = absurd h
  framed_same k r below vs go on (No v) (Yes w) c h next = absurd h
  framed_same k r below vs go on (No v) (No w) c h next = given_alike k r below vs Memory v w c h

  framed_leaves : (vs : List Slot) (go : World → Reply) (o : Tried) → TriedLeaves apart o → ReplyLeaves apart (or_else o (λ u. Raises Memory (give_all vs u)) go)
  framed_leaves vs go (Yes w) h = absurd h
  framed_leaves vs go (No w) h = (h.0, more_given vs w h.1)

  pub framed_alike : (k : ℕ) (r : Renaming) (below vs : List Slot) (go on : World → Reply) (v w : World) → IsCounted (vs ++ below) v → AlikeUpTo apart r v w
      → ((v w : World) → IsCounted (vs ++ below) v → AlikeUpTo apart r v w → ReplyAlike apart most k r below (go v) (on w))
      → ReplyAlike apart most k r below (or_else (memory_step v) (λ u. Raises Memory (give_all vs u)) go) (or_else (memory_step w) (λ u. Raises Memory (give_all (renamed_all r vs) u)) on)
  framed_alike k r below vs go on v w p h next =
      three (λ m. framed_same k r below vs go on (memory_step v) (memory_step w) (memory_counted (vs ++ below) v p) m next)
      (λ l. inr (inl (framed_leaves vs go (memory_step v) l))) (λ l. inr (inr (framed_leaves (renamed_all r vs) on (memory_step w) l))) (memory_alike apart r v w h)

  pub tick_alike : (k : ℕ) (r : Renaming) (below vs : List Slot) (t : ℕ) (go on : ℕ → Reply) (v w : World) → t ≤ most → IsCounted (vs ++ below) v → AlikeUpTo apart r v w → ((t : ℕ) → t < most → ReplyAlike apart most k r below (go t) (on t))
      → ReplyAlike apart most k r below (ticked t (Raises Budget (give_all vs v)) go) (ticked t (Raises Budget (give_all (renamed_all r vs) w)) on)
  tick_alike k r below vs zero go on v w le p h next = given_alike k r below vs Budget v w p h
  tick_alike k r below vs (suc t) go on v w le p h next = next t (omega (arith, le))

  -- ---- what stands before a body

  -- a body that takes these
  abbrev BodyGoes : Calls → Routine → ℕ → List Slot → List Slot → Type 0
  BodyGoes body g k below vs = (r : Renaming) (t : ℕ) (v w : World) → t < most → IsCounted (vs ++ below) v → AlikeUpTo apart r v w → ReplyAlike apart most k r below (body g vs t v) (body g (renamed_all r vs) t w)

  tests_alike : (objects nest : Bool) (k : ℕ) (r : Renaming) (below vs : List Slot) (body : Calls) (g : Routine) (t : ℕ) (v w : World) → t ≤ most → IsCounted (vs ++ below) v → AlikeUpTo apart r v w → BodyGoes body g k below vs
      → ReplyAlike apart most k r below
      (if objects then (if nest then (ticked t (Raises Budget (give_all vs v)) (λ t'. or_else (memory_step v) (λ u. Raises Memory (give_all vs u)) (λ u. body g vs t' u))) else (Raises Depth (give_all vs v))) else (Raises NullFault (give_all vs v)))
      (if objects then (if nest then (ticked t (Raises Budget (give_all (renamed_all r vs) w)) (λ t'. or_else (memory_step w) (λ u. Raises Memory (give_all (renamed_all r vs) u)) (λ u. body g (renamed_all r vs) t' u))) else (Raises Depth (give_all (renamed_all r vs) w))) else (Raises NullFault (give_all (renamed_all r vs) w)))
  tests_alike false nest k r below vs body g t v w le p h go = given_alike k r below vs NullFault v w p h
  tests_alike true false k r below vs body g t v w le p h go = given_alike k r below vs Depth v w p h
  tests_alike true true k r below vs body g t v w le p h go =
      tick_alike k r below vs t _ _ v w le p h (λ t' lt. framed_alike k r below vs (λ u. body g vs t' u) (λ u. body g (renamed_all r vs) t' u) v w p h (λ v' w' p' h'. go r t' v' w' lt p' h'))

  entered_alike : (z : Environment) (k d : ℕ) (r : Renaming) (below vs : List Slot) (body : Calls) (g : Routine) (t : ℕ) (v w : World) → t ≤ most → IsCounted (vs ++ below) v → AlikeUpTo apart r v w → BodyGoes body g k below vs
      → ReplyAlike apart most k r below (entered z body d g vs t v) (entered z body d g (renamed_all r vs) t w)
  entered_alike z k d r below vs body g t v w le p h go =
      subst (λ b. ReplyAlike apart most k r below (entered z body d g vs t v)
      (if b then (if may_nest z d then (ticked t (Raises Budget (give_all (renamed_all r vs) w)) (λ t'. or_else (memory_step w) (λ u. Raises Memory (give_all (renamed_all r vs) u)) (λ u. body g (renamed_all r vs) t' u))) else (Raises Depth (give_all (renamed_all r vs) w))) else (Raises NullFault (give_all (renamed_all r vs) w))))
      (sym (objects_renamed r (params_of z g) vs))
      (tests_alike (has_objects (params_of z g) vs) (may_nest z d) k r below vs body g t v w le p h go)

  found_alike : (z : Environment) (k d : ℕ) (r : Renaming) (below vs : List Slot) (body : Calls) (o : Found) (t : ℕ) (v w : World) → t ≤ most → IsCounted (vs ++ below) v → AlikeUpTo apart r v w
      → ((g : Routine) → o ≡ Enters g → BodyGoes body g k below vs) → ReplyAlike apart most k r below (found_entered z body d o vs t v) (found_entered z body d o (renamed_all r vs) t w)
  found_alike z k d r below vs body (Enters g) t v w le p h go = entered_alike z k d r below vs body g t v w le p h (go g refl)
  found_alike z k d r below vs body (Misses f) t v w le p h go = given_alike k r below vs f v w p h

-- ---- bodies

module _ (apart : Type 0) (z : Environment) (bodies : PlainBodies) (sound : (g : Routine) (ps : List Passing) → z.params g ≡ Some ps → IsSoundStmt z g.home false (length ps) (bodies g)) (links : LinksFit z) where
  pub record Goes (n : ℕ) : Type 0 where
    pub bodies_go : (most : ℕ) → most < n → (d : ℕ) (g : Routine) (ps : List Passing) (r : Renaming) (below vs : List Slot) (t : ℕ) (v w : World) → z.params g ≡ Some ps → length ps ≡ length vs → t ≤ most
        → IsCounted (vs ++ below) v → AlikeUpTo apart r v w → ReplyAlike apart most (out_count ps) r below (body_at z bodies n d g vs t v) (body_at z bodies n d g (renamed_all r vs) t w)
    pub passes_go : (most : ℕ) → most < n → (d m : ℕ) (e : c.Expr) (s step : stmt.Stmt) (j : ℕ) (below : List Slot) → IsSound z m j e → IsSoundStmt z m true j s → IsSoundStmt z m false j step
        → RunGoes apart most j j below (pass_at z bodies n d m e s step)

  calls_at : (n most d m : ℕ) → most ≤ n → Goes n → CallsGo apart most z m (enter z (body_at z bodies n (suc d)) d m)
  calls_at n most d m le under f args outs r below vs t v w fits count ticks p h =
      let body = body_at z bodies n (suc d) in
      subst (λ o. ReplyAlike apart most outs r below (enter z body d m f vs t v) (found_entered z body d o (renamed_all r vs) t w)) (sym (target_renamed r apart v w h z m f vs))
      (found_alike apart most z outs d r below vs body (target z m f vs v) t v w ticks p h
      (λ g e r' t' v' w' lt p' h'.
      let takes = leads z m f args outs links fits g vs v e in
      reply_most apart t' most outs r' below (body g vs t' v') (body g (renamed_all r' vs) t' w') (omega (arith, lt))
      (subst (λ k. ReplyAlike apart t' k r' below (body g vs t' v') (body g (renamed_all r' vs) t' w')) takes.given
      (under.bodies_go t' (omega (arith, lt, le)) (suc d) g takes.params r' below vs t' v' w' takes.known (takes.count ∙ sym count) (omega arith) p' h'))))

  passes_at : (n most d m : ℕ) → most ≤ n → Goes n → PassesGo apart most z m (pass_at z bodies n d m)
  passes_at n most d m le under e s step j below se ss sstep r ls t v w many p h =
      ran_most apart t most j j r below (pass_at z bodies n d m e s step ls t v) (pass_at z bodies n d m e s step (renamed_all r ls) t w) (omega (arith, many.1))
      (under.passes_go t (omega (arith, many.1, le)) d m e s step j below se ss sstep r ls t v w (many.0, omega arith) p h)

  pub all_go : (n : ℕ) → Goes n
  all_go zero = record {
    bodies_go = λ most lt d g ps r below vs t v w known count ticks p h. absurd (let x : ⊥ = omega (arith, lt) in x);
    passes_go = λ most lt d m e s step j below se ss sstep r ls t v w many p h. absurd (let x : ⊥ = omega (arith, lt) in x);
  }
  all_go (suc n) =
      let under = all_go n in
      record {
        bodies_go = λ most lt d g ps r below vs t v w known count ticks p h.
            let m = g.home in
            let calls = enter z (body_at z bodies n (suc d)) d m in
            let passes = pass_at z bodies n d m in
            let le : most ≤ n = omega (arith, lt) in
            let e : params_of z g ≡ ps = ap params_in known in
            subst (λ l. ReplyAlike apart most (out_count ps) r below (finished l (run z m calls passes (bodies g) vs t v)) (finished l (run z m calls passes (bodies g) (renamed_all r vs) t w))) (sym e)
            (finished_alike apart most ps (leaves (bodies g) + length ps) r below (run z m calls passes (bodies g) vs t v) (run z m calls passes (bodies g) (renamed_all r vs) t w) (omega arith)
            (run_alike apart most z m calls (calls_at n most d m le under) passes (passes_at n most d m le under) (bodies g) false (length ps) below (sound g ps known) r vs t v w (sym count, ticks) p h));
        passes_go = λ most lt d m.
            let le : most ≤ n = omega (arith, lt) in
            pass_alike apart most z m (enter z (body_at z bodies n (suc d)) d m) (calls_at n most d m le under) (pass_at z bodies n d m) (passes_at n most d m le under);
      }
