-- Each step of two runs that are alike leaves them so, or one of them was refused for an input of another sort.
use Rattle.std.proofs.Common.{◌≡◌, ℕ, zero, suc, ◌+◌, inl, inr, List, [], ◌∷◌, ◌++◌, length, Option, Some, None, refl, sym, ap, ◌∙◌, subst}
use Rattle.std.specs.Prelude.{◌⊎◌, Bool, true, false, cond, ◌&&◌, not, ltb, leb, slice_get, ◌-◌, take, slice_index_or}
use Rattle.std.specs.FinMap as map
use Rattle.std.proofs.lemmas.List.{length-map, map-append, take-map}
use Rattle.std.proofs.Math.ListN.{get_or-map}
use Rattle.ang_kinds.specs.declared.primitive.Primitive.{Primitive}
use Rattle.ang_kinds.specs.declared.fault.Fault.{Fault}
use Rattle.ang_kinds.specs.declared.fault.Fault.TheVariants.{Null as NullFault, Budget, Depth, Memory, Tally}
use Rattle.ang_meaning.specs.declared.slot.Slot.{Slot}
use Rattle.ang_meaning.specs.declared.slot.Slot.TheVariants.{Bits, Script, Host}
use Rattle.ang_meaning.specs.declared.routine.Routine.{Routine}
use Rattle.ang_meaning.specs.declared.routine.Callee.{Callee}
use Rattle.ang_meaning.specs.declared.routine.Callee.TheVariants.{Own, Import, Virtual}
use Rattle.ang_meaning.specs.declared.routine.Passing.{Passing}
use Rattle.ang_meaning.specs.declared.routine.Passing.TheVariants.{In, Out, Object}
use Rattle.ang_meaning.specs.Numbers.{Changed, Into, Never}
use Rattle.ang_meaning.specs.World.{World, ScriptRecord, Tried, Yes, No, hold, give, give_all, memory_step, or_else}
use Rattle.ang_meaning.specs.Environment.{Environment, Found, Enters, Misses, method_of, virtual_of, params_in, receiver_in, target, is_null, has_objects, params_of, is_fit}
use Rattle.ang_meaning.specs.Hosts.{Done, Fine, Fails}
use Rattle.ang_meaning.specs.Perform.{perform, operands, change_of, global_or, global_put, member_or, member_put}
use Rattle.ang_meaning.specs.Results.{local_at, local_set, drop_some, give_some, give_back, at_zero, on_test, ticked, brought, outs_of, give_others, may_nest}
use Rattle.ang_meaning.specs.Counting.{IsCounted}
use Rattle.ang_meaning.specs.Alike.{Renaming, renamed, renamed_all, renamed_record}
use Rattle.ang_meaning.proofs.Moving.{give_all_moves}
use Rattle.ang_meaning.proofs.AlikeWorlds.{three, HasMore, TriedLeaves, DoneLeaves, TriedSame, DoneSame, TriedAlike, DoneAlike, memory_alike, hold_alike, give_alike, give_all_alike, global_renamed, put_alike, member_renamed, member_alike}
use Rattle.ang_meaning.proofs.AlikeOperations.{null_renamed, change_renamed, perform_alike}
use Rattle.ang_code.specs.declared.instruction.Frame.{Frame}
use Rattle.ang_code.specs.declared.instruction.Instruction.{Instruction}
use Rattle.ang_code.specs.declared.instruction.Instruction.TheVariants.{PushBits, PushNull, Load, Store, Update, Apply, Drop, Leave, JumpIfFalse, Jump, Tick, LoopBack, Enter, Swap, SwapGlobal, SwapField, DropUnder, Return}
use Rattle.ang_code.specs.Machine.{Texts, Config, At, Over, Finished, Faulted, Stuck, fault, roomy, within, enough, on_top, did, changed_into, back, begins, enters, found_enters, act, step, steps, take_some, call_begins, initializer_begins}
use Rattle.ang_code_laws.specs.Alike.{turned, WorldAlike, ConfigsAlike, StepsAlike}
use Rattle.ang_code_laws.specs.Counting.{CountedAt}
use Rattle.ang_code_laws.proofs.Counting.{step_counted}
use Rattle.ang_meaning.proofs.Matching.{AlikeUpTo, alike_of, alike_by}

-- ---- parts of the stack

abbrev pub WorldUpTo : Type 0 → Renaming → Config → World → Type 0
WorldUpTo apart r (At f pc room s fr t v) w = AlikeUpTo apart r v w
WorldUpTo apart r (Over (Finished x t v)) w = AlikeUpTo apart r v w
WorldUpTo apart r (Over (Faulted x v)) w = AlikeUpTo apart r v w
WorldUpTo apart r (Over Stuck) w = Unit {0}

-- the second configuration is the first one renamed, told inputs that may be apart
pub record ConfigsUpTo (apart : Type 0) (c d : Config) : Type 0 where
  pub by : Renaming
  pub world : World
  pub same : d ≡ turned by world c
  pub alike : WorldUpTo apart by c world

module _ (r : Renaming) where
  many_renamed : (s : List Slot) → length (renamed_all r s) ≡ length s
  many_renamed s = length-map s (renamed r)

  at_renamed : (s : List Slot) (d : ℕ) → local_at (renamed_all r s) d ≡ renamed r (local_at s d)
  at_renamed [] d = refl
  at_renamed (v ∷ s) zero = refl
  at_renamed (v ∷ s) (suc d) = at_renamed s d

  set_renamed : (s : List Slot) (d : ℕ) (x : Slot) → local_set (renamed_all r s) d (renamed r x) ≡ renamed_all r (local_set s d x)
  set_renamed [] d x = refl
  set_renamed (v ∷ s) zero x = refl
  set_renamed (v ∷ s) (suc d) x = ap (λ l. renamed r v ∷ l) (set_renamed s d x)

  take_renamed : (n : ℕ) (s : List Slot) → take_some n (renamed_all r s) ≡ renamed_all r (take_some n s)
  take_renamed zero s = refl
  take_renamed (suc n) [] = refl
  take_renamed (suc n) (v ∷ s) = ap (λ l. renamed r v ∷ l) (take_renamed n s)

  drop_renamed : (n : ℕ) (s : List Slot) → drop_some n (renamed_all r s) ≡ renamed_all r (drop_some n s)
  drop_renamed zero s = refl
  drop_renamed (suc n) [] = refl
  drop_renamed (suc n) (v ∷ s) = drop_renamed n s

  outs_renamed : (ps : List Passing) (s : List Slot) → outs_of ps (renamed_all r s) ≡ renamed_all r (outs_of ps s)
  outs_renamed [] s = refl
  outs_renamed (p ∷ ps) [] = refl
  outs_renamed (In ∷ ps) (v ∷ s) = outs_renamed ps s
  outs_renamed (Object ∷ ps) (v ∷ s) = outs_renamed ps s
  outs_renamed (Out ∷ ps) (v ∷ s) = ap (λ l. renamed r v ∷ l) (outs_renamed ps s)

  objects_renamed : (ps : List Passing) (s : List Slot) → has_objects ps (renamed_all r s) ≡ has_objects ps s
  objects_renamed [] s = refl
  objects_renamed (p ∷ ps) [] = refl
  objects_renamed (In ∷ ps) (v ∷ s) = objects_renamed ps s
  objects_renamed (Out ∷ ps) (v ∷ s) = objects_renamed ps s
  objects_renamed (Object ∷ ps) (v ∷ s) = ap (λ b. not b && has_objects ps (renamed_all r s)) (null_renamed r v) ∙ ap (λ b. not (is_null v) && b) (objects_renamed ps s)

  brought_renamed : (to : Option Primitive) (x : Slot) → brought to (renamed r x) ≡ renamed r (brought to x)
  unfolding brought
  brought_renamed None x = refl
  brought_renamed (Some p) (Bits n) = refl
  brought_renamed (Some p) (Script k) = refl
  brought_renamed (Some p) (Host d k) = refl

  receiver_renamed : (ps : List Passing) (s : List Slot) → receiver_in ps (renamed_all r s) ≡ renamed r (receiver_in ps s)
  receiver_renamed ps s =
      ap (λ l. slice_index_or l (length ps - 1) (Bits 0)) (take-map (renamed r) (length ps) s) ∙ get_or-map (renamed r) (take (length ps) s) (length ps - 1) (Bits 0)

  method_renamed : (z : Environment) (m k : ℕ) (o : Option ScriptRecord) → method_of z m k (renamed_record r o) ≡ method_of z m k o
  method_renamed z m k None = refl
  method_renamed z m k (Some o) = refl

  module _ (apart : Type 0) (v w : World) (h : AlikeUpTo apart r v w) where
    virtual_renamed : (z : Environment) (m k : ℕ) (x : Slot) → virtual_of z m k (renamed r x) w ≡ virtual_of z m k x v
    virtual_renamed z m k (Bits n) = refl
    virtual_renamed z m k (Script None) = refl
    virtual_renamed z m k (Script (Some n)) = ap (method_of z m k) (h.objects.has n) ∙ method_renamed z m k (map.get v.objects n)
    virtual_renamed z m k (Host d j) = refl

    target_renamed : (z : Environment) (m : ℕ) (c : Callee) (s : List Slot) → target z m c (renamed_all r s) w ≡ target z m c s v
    unfolding target
    target_renamed z m (Own g) s = refl
    target_renamed z m (Import i) s = refl
    target_renamed z m (Virtual k) s =
        ap (λ x. virtual_of z m k x w) (receiver_renamed (params_in (z.slot m k)) s) ∙ virtual_renamed z m k (receiver_in (params_in (z.slot m k)) s)

module _ (apart : Type 0) where
  -- ---- given up

  more_given : (s : List Slot) (w : World) → HasMore w → HasMore (give_all s w)
  more_given s w h = record { first = h.first; rest = h.rest; inputs = sym (give_all_moves s w).inputs ∙ h.inputs }

  some_alike : (r : Renaming) (n : ℕ) (s : List Slot) (v w : World) → AlikeUpTo apart r v w → AlikeUpTo apart r (give_some n s v) (give_some n (renamed_all r s) w)
  some_alike r zero s v w h = h
  some_alike r (suc n) [] v w h = h
  some_alike r (suc n) (x ∷ s) v w h = some_alike r n s (give x v) (give (renamed r x) w) (give_alike apart r x v w h)

  pub back_alike : (r : Renaming) (s : List Slot) (v w : World) → AlikeUpTo apart r v w → AlikeUpTo apart r (give_back s v) (give_back (renamed_all r s) w)
  back_alike r [] v w h = h
  back_alike r (x ∷ s) v w h = give_alike apart r x (give_back s v) (give_back (renamed_all r s) w) (back_alike r s v w h)

  others_alike : (r : Renaming) (ps : List Passing) (s : List Slot) (v w : World) → AlikeUpTo apart r v w → AlikeUpTo apart r (give_others ps s v) (give_others ps (renamed_all r s) w)
  others_alike r [] s v w h = h
  others_alike r (p ∷ ps) [] v w h = h
  others_alike r (In ∷ ps) (x ∷ s) v w h = others_alike r ps s (give x v) (give (renamed r x) w) (give_alike apart r x v w h)
  others_alike r (Object ∷ ps) (x ∷ s) v w h = others_alike r ps s (give x v) (give (renamed r x) w) (give_alike apart r x v w h)
  others_alike r (Out ∷ ps) (x ∷ s) v w h = others_alike r ps s v w h

  -- ---- configurations

  -- a run that was refused for an input of another sort
  abbrev pub RunLeaves : Config → Type 0
  RunLeaves (At f pc room s fr t w) = ⊥
  RunLeaves (Over (Finished x t w)) = ⊥
  RunLeaves (Over (Faulted x w)) = apart × HasMore w
  RunLeaves (Over Stuck) = ⊥

  abbrev pub RunsAlike : Config → Config → Type 0
  RunsAlike c d = ConfigsUpTo apart c d ⊎ (RunLeaves c ⊎ RunLeaves d)

  module _ (r : Renaming) (v w : World) (h : AlikeUpTo apart r v w) where
    at_alike : (f : Routine) (pc room : ℕ) (s t : List Slot) (fr : List Frame) (k : ℕ) → t ≡ renamed_all r s → RunsAlike (At f pc room s fr k v) (At f pc room t fr k w)
    at_alike f pc room s t fr k e = inl (record { by = r; world = w; same = ap (λ l. At f pc room l fr k w) e; alike = h })

    fault_same : (x : Fault) (s : List Slot) → RunsAlike (fault x s v) (fault x (renamed_all r s) w)
    fault_same x s = inl (record { by = r; world = give_all (renamed_all r s) w; same = refl; alike = give_all_alike apart r s v w h })

  -- what stands in front of a step
  module _ (r : Renaming) (w : World) where
    stuck_alike : RunsAlike (Over Stuck) (Over Stuck)
    stuck_alike = inl (record { by = r; world = w; same = refl; alike = tt })

    if_alike : (b : Bool) (c d : Config) → RunsAlike c d → RunsAlike (cond b c (Over Stuck)) (cond b d (Over Stuck))
    if_alike true c d h = h
    if_alike false c d h = stuck_alike

    roomy_alike : (room : ℕ) (s t : List Slot) (c d : Config) → length t ≡ length s → RunsAlike c d → RunsAlike (roomy room s c) (roomy room t d)
    roomy_alike room s t c d e h = subst (λ n. RunsAlike (roomy room s c) (cond (ltb n room) d (Over Stuck))) (sym e) (if_alike (ltb (length s) room) c d h)

    within_alike : (k : ℕ) (s t : List Slot) (c d : Config) → length t ≡ length s → RunsAlike c d → RunsAlike (within k s c) (within k t d)
    within_alike k s t c d e h = subst (λ n. RunsAlike (within k s c) (cond (ltb k n) d (Over Stuck))) (sym e) (if_alike (ltb k (length s)) c d h)

    enough_alike : (k : ℕ) (s t : List Slot) (c d : Config) → length t ≡ length s → RunsAlike c d → RunsAlike (enough k s c) (enough k t d)
    enough_alike k s t c d e h = subst (λ n. RunsAlike (enough k s c) (cond (leb k n) d (Over Stuck))) (sym e) (if_alike (leb k (length s)) c d h)

    top_alike : (s : List Slot) (go onward : Slot → List Slot → Config) → ((x : Slot) (t : List Slot) → RunsAlike (go x t) (onward (renamed r x) (renamed_all r t))) → RunsAlike (on_top s go) (on_top (renamed_all r s) onward)
    top_alike [] go onward h = stuck_alike
    top_alike (x ∷ s) go onward h = h x s

  -- what may be refused
  else_same : (r : Renaming) (x : Fault) (s : List Slot) (o p : Tried) (go onward : World → Config) → TriedSame apart r o p → ((v w : World) → AlikeUpTo apart r v w → RunsAlike (go v) (onward w))
      → RunsAlike (or_else o (λ v. fault x s v) go) (or_else p (λ w. fault x (renamed_all r s) w) onward)
  else_same r x s (Yes v) (Yes w) go onward h k = k v w h
  else_same r x s (Yes v) (No w) go onward h k = absurd h
  else_same r x s (No v) (Yes w) go onward h k = absurd h
  else_same r x s (No v) (No w) go onward h k = fault_same r v w h x s

  else_leaves : (x : Fault) (s : List Slot) (o : Tried) (go : World → Config) → TriedLeaves apart o → RunLeaves (or_else o (λ w. fault x s w) go)
  else_leaves x s (Yes w) go h = absurd h
  else_leaves x s (No w) go h = (h.0, more_given s w h.1)

  else_alike : (r : Renaming) (x : Fault) (s : List Slot) (o p : Tried) (go onward : World → Config) → TriedAlike apart r o p → ((v w : World) → AlikeUpTo apart r v w → RunsAlike (go v) (onward w))
      → RunsAlike (or_else o (λ v. fault x s v) go) (or_else p (λ w. fault x (renamed_all r s) w) onward)
  else_alike r x s o p go onward h k =
      three (λ t. else_same r x s o p go onward t k) (λ l. inr (inl (else_leaves x s o go l))) (λ l. inr (inr (else_leaves x (renamed_all r s) p onward l))) h

  did_same : (r : Renaming) (o p : Done) (s : List Slot) (go onward : Slot → World → Config) → DoneSame apart r o p → ((x : Slot) (v w : World) → AlikeUpTo apart r v w → RunsAlike (go x v) (onward (renamed r x) w))
      → RunsAlike (did o s go) (did p (renamed_all r s) onward)
  did_same r (Fine x v) (Fine y w) s go onward h k = subst (λ q. RunsAlike (go x v) (onward q w)) (sym h.0) (k x v w h.1)
  did_same r (Fine x v) (Fails g w) s go onward h k = absurd h
  did_same r (Fails f v) (Fine y w) s go onward h k = absurd h
  did_same r (Fails f v) (Fails g w) s go onward h k = subst (λ q. RunsAlike (fault f s v) (fault q (renamed_all r s) w)) (sym h.0) (fault_same r v w h.1 f s)

  did_leaves : (o : Done) (s : List Slot) (go : Slot → World → Config) → DoneLeaves apart o → RunLeaves (did o s go)
  did_leaves (Fine x w) s go h = absurd h
  did_leaves (Fails f w) s go h = (h.0, more_given s w h.1)

  did_alike : (r : Renaming) (o p : Done) (s : List Slot) (go onward : Slot → World → Config) → DoneAlike apart r o p → ((x : Slot) (v w : World) → AlikeUpTo apart r v w → RunsAlike (go x v) (onward (renamed r x) w))
      → RunsAlike (did o s go) (did p (renamed_all r s) onward)
  did_alike r o p s go onward h k = three (λ t. did_same r o p s go onward t k) (λ l. inr (inl (did_leaves o s go l))) (λ l. inr (inr (did_leaves p (renamed_all r s) onward l))) h

  module _ (r : Renaming) (v w : World) (h : AlikeUpTo apart r v w) where
    changed_alike : (o : Changed) (s : List Slot) (go onward : ℕ → ℕ → Config) → ((a b : ℕ) → RunsAlike (go a b) (onward a b)) → RunsAlike (changed_into o s v go) (changed_into o (renamed_all r s) w onward)
    changed_alike (Into a b) s go onward k = k a b
    changed_alike (Never x) s go onward k = fault_same r v w h x s

    zero_alike : (n : ℕ) (a b c d : Config) → RunsAlike a c → RunsAlike b d → RunsAlike (at_zero n a b) (at_zero n c d)
    zero_alike zero a b c d f g = f
    zero_alike (suc n) a b c d f g = g

    test_alike : (x : Slot) (bad off on bad' off' on' : Config) → RunsAlike bad bad' → RunsAlike off off' → RunsAlike on on' → RunsAlike (on_test x bad off on) (on_test (renamed r x) bad' off' on')
    test_alike (Bits n) bad off on bad' off' on' a b c = zero_alike n off on off' on' b c
    test_alike (Script k) bad off on bad' off' on' a b c = a
    test_alike (Host d k) bad off on bad' off' on' a b c = a

    tick_alike : (t : ℕ) (s : List Slot) (go onward : ℕ → Config) → ((k : ℕ) → RunsAlike (go k) (onward k)) → RunsAlike (ticked t (fault Budget s v) go) (ticked t (fault Budget (renamed_all r s) w) onward)
    tick_alike zero s go onward k = fault_same r v w h Budget s
    tick_alike (suc t) s go onward k = k t

    module _ (z : Environment) (code : Texts) where
      pub begins_alike : (g : Routine) (s : List Slot) (fr : List Frame) (t : ℕ) → RunsAlike (begins code g s fr t v) (begins code g (renamed_all r s) fr t w)
      begins_alike g s fr t =
          else_alike r Memory s (memory_step v) (memory_step w) _ _ (memory_alike apart r v w h)
          (λ v' w' k. inl (record { by = r; world = w'; same = ap (λ n. At g 0 (n + code.height g) (renamed_all r s) fr t w') (many_renamed r s); alike = k }))

      nests_alike : (g : Routine) (s : List Slot) (fr : List Frame) (here : Frame) (t : ℕ) (objects nest : Bool)
          → RunsAlike (cond objects (cond nest (ticked t (fault Budget s v) (λ t'. begins code g s (here ∷ fr) t' v)) (fault Depth s v)) (fault NullFault s v))
          (cond objects (cond nest (ticked t (fault Budget (renamed_all r s) w) (λ t'. begins code g (renamed_all r s) (here ∷ fr) t' w)) (fault Depth (renamed_all r s) w)) (fault NullFault (renamed_all r s) w))
      nests_alike g s fr here t false nest = fault_same r v w h NullFault s
      nests_alike g s fr here t true false = fault_same r v w h Depth s
      nests_alike g s fr here t true true = tick_alike t s _ _ (λ t'. begins_alike g s (here ∷ fr) t')

      enters_alike : (g : Routine) (s : List Slot) (fr : List Frame) (here : Frame) (t : ℕ) → RunsAlike (enters z code g s fr here t v) (enters z code g (renamed_all r s) fr here t w)
      enters_alike g s fr here t =
          let us = renamed_all r s in
          enough_alike r w (length (params_of z g)) s us _ _ (many_renamed r s)
          (subst (λ b. RunsAlike (cond (has_objects (params_of z g) s) (cond (may_nest z (length fr)) (ticked t (fault Budget s v) (λ t'. begins code g s (here ∷ fr) t' v)) (fault Depth s v)) (fault NullFault s v))
          (cond b (cond (may_nest z (length fr)) (ticked t (fault Budget us w) (λ t'. begins code g us (here ∷ fr) t' w)) (fault Depth us w)) (fault NullFault us w)))
          (sym (objects_renamed r (params_of z g) s)) (nests_alike g s fr here t (has_objects (params_of z g) s) (may_nest z (length fr))))

      found_alike : (o : Found) (s : List Slot) (fr : List Frame) (here : Frame) (t : ℕ) → RunsAlike (found_enters z code o s fr here t v) (found_enters z code o (renamed_all r s) fr here t w)
      found_alike (Misses x) s fr here t = fault_same r v w h x s
      found_alike (Enters g) s fr here t = enters_alike g s fr here t

    back_by : (fr : List Frame) (x : Slot) (outs s us : List Slot) (t : ℕ) → us ≡ renamed_all r (outs ++ s)
        → RunsAlike (back fr x outs s t v) (back fr (renamed r x) (renamed_all r outs) (renamed_all r s) t w)
    back_by [] x outs s us t e =
        inl (record {
          by = r;
          world = give_all (renamed_all r (outs ++ s)) w;
          same = ap (λ l. Over (Finished (renamed r x) t (give_all l w))) (sym (map-append (renamed r) outs s));
          alike = give_all_alike apart r (outs ++ s) v w h;
        })
    back_by (c ∷ fr) x outs s us t e =
        let join : renamed_all r outs ++ renamed_all r s ≡ renamed_all r (outs ++ s) = sym (map-append (renamed r) outs s) in
        roomy_alike r w c.room (outs ++ s) (renamed_all r outs ++ renamed_all r s) _ _ (ap length join ∙ many_renamed r (outs ++ s))
        (at_alike r v w h c.of c.at c.room (x ∷ (outs ++ s)) (renamed r x ∷ (renamed_all r outs ++ renamed_all r s)) fr t (ap (λ l. renamed r x ∷ l) join))

  -- ---- one instruction

  module _ (z : Environment) (code : Texts) where
    act_alike : (i : Instruction) (f : Routine) (pc room : ℕ) (s : List Slot) (fr : List Frame) (t : ℕ) (r : Renaming) (v w : World) → IsCounted s v → AlikeUpTo apart r v w
        → RunsAlike (act z code (Some i) f pc room s fr t v) (act z code (Some i) f pc room (renamed_all r s) fr t w)
    act_alike (PushBits n) f pc room s fr t r v w p h = roomy_alike r w room s (renamed_all r s) _ _ (many_renamed r s) (at_alike r v w h f (pc + 1) room (Bits n ∷ s) _ fr t refl)
    act_alike PushNull f pc room s fr t r v w p h = roomy_alike r w room s (renamed_all r s) _ _ (many_renamed r s) (at_alike r v w h f (pc + 1) room (Script None ∷ s) _ fr t refl)
    act_alike (Load d) f pc room s fr t r v w p h =
        let us = renamed_all r s in
        within_alike r w d s us _ _ (many_renamed r s) (roomy_alike r w room s us _ _ (many_renamed r s)
        (subst (λ x. RunsAlike (or_else (hold (local_at s d) v) (λ w'. fault Tally s w') (λ w'. At f (pc + 1) room (local_at s d ∷ s) fr t w'))
        (or_else (hold x w) (λ w'. fault Tally us w') (λ w'. At f (pc + 1) room (x ∷ us) fr t w'))) (sym (at_renamed r s d))
        (else_alike r Tally s _ _ _ _ (hold_alike apart r (local_at s d) v w h) (λ v' w' k. at_alike r v' w' k f (pc + 1) room (local_at s d ∷ s) _ fr t refl))))
    act_alike (Store d) f pc room s fr t r v w p h =
        top_alike r w s _ _ (λ x u. within_alike r w d u (renamed_all r u) _ _ (many_renamed r u)
        (else_alike r Tally (x ∷ u) _ _ _ _ (hold_alike apart r x v w h)
        (λ v' w' k. subst (λ y. RunsAlike (At f (pc + 1) room (x ∷ local_set u d x) fr t (give (local_at u d) v')) (At f (pc + 1) room (renamed r x ∷ local_set (renamed_all r u) d (renamed r x)) fr t (give y w')))
        (sym (at_renamed r u d))
        (at_alike r _ _ (give_alike apart r (local_at u d) v' w' k) f (pc + 1) room (x ∷ local_set u d x) _ fr t (ap (λ l. renamed r x ∷ l) (set_renamed r u d x))))))
    act_alike (Update by d) f pc room s fr t r v w p h =
        top_alike r w s _ _ (λ x u. within_alike r w d u (renamed_all r u) _ _ (many_renamed r u)
        (subst (λ o. RunsAlike (changed_into (change_of by (local_at u d) x) (x ∷ u) v (λ stored given. At f (pc + 1) room (Bits given ∷ local_set u d (Bits stored)) fr t v))
        (changed_into o (renamed_all r (x ∷ u)) w (λ stored given. At f (pc + 1) room (Bits given ∷ local_set (renamed_all r u) d (Bits stored)) fr t w)))
        (sym (ap (λ y. change_of by y (renamed r x)) (at_renamed r u d) ∙ change_renamed r by (local_at u d) x))
        (changed_alike r v w h (change_of by (local_at u d) x) (x ∷ u) _ _
        (λ a b. at_alike r v w h f (pc + 1) room (Bits b ∷ local_set u d (Bits a)) _ fr t (ap (λ l. Bits b ∷ l) (set_renamed r u d (Bits a)))))))
    act_alike (Apply o) f pc room s fr t r v w p h =
        let n = operands z f.home o in
        let us = renamed_all r s in
        let x = perform_alike apart r z f.home s v w p h o (take_some n s) in
        if_alike r w (is_fit z f.home o) _ _ (enough_alike r w n s us _ _ (many_renamed r s)
        (roomy_alike r w room (drop_some n s) (drop_some n us) _ _ (ap length (drop_renamed r n s) ∙ many_renamed r (drop_some n s))
        (subst (λ l. RunsAlike (did (perform z f.home o (take_some n s) v) s (λ y v'. At f (pc + 1) room (y ∷ drop_some n s) fr t v'))
        (did (perform z f.home o l w) us (λ y w'. At f (pc + 1) room (y ∷ drop_some n us) fr t w'))) (sym (take_renamed r n s))
        (subst (λ l. RunsAlike (did (perform z f.home o (take_some n s) v) s (λ y v'. At f (pc + 1) room (y ∷ drop_some n s) fr t v'))
        (did (perform z f.home o (renamed_all r (take_some n s)) w) l (λ y w'. At f (pc + 1) room (y ∷ drop_some n l) fr t w'))) x.same
        (did_alike x.by _ _ s _ _ x.done
        (λ y v' w' k. at_alike x.by v' w' k f (pc + 1) room (y ∷ drop_some n s) _ fr t (ap (λ l. renamed x.by y ∷ l) (drop_renamed x.by n s))))))))
    act_alike Drop f pc room s fr t r v w p h = top_alike r w s _ _ (λ x u. at_alike r _ _ (give_alike apart r x v w h) f (pc + 1) room u _ fr t refl)
    act_alike (Leave n) f pc room s fr t r v w p h =
        enough_alike r w n s (renamed_all r s) _ _ (many_renamed r s) (at_alike r _ _ (some_alike r n s v w h) f (pc + 1) room (drop_some n s) _ fr t (drop_renamed r n s))
    act_alike (JumpIfFalse n) f pc room s fr t r v w p h =
        top_alike r w s _ _ (λ x u. test_alike r v w h x _ _ _ _ _ _ (fault_same r v w h NullFault (x ∷ u)) (at_alike r v w h f (pc + 1 + n) room u _ fr t refl) (at_alike r v w h f (pc + 1) room u _ fr t refl))
    act_alike (Jump n) f pc room s fr t r v w p h = at_alike r v w h f (pc + 1 + n) room s _ fr t refl
    act_alike Tick f pc room s fr t r v w p h = tick_alike r v w h t s _ _ (λ k. at_alike r v w h f (pc + 1) room s _ fr k refl)
    act_alike (LoopBack n) f pc room s fr t r v w p h = tick_alike r v w h t s _ _ (λ k. at_alike r v w h f _ room s _ fr k refl)
    act_alike (Enter c) f pc room s fr t r v w p h =
        let here : Frame = record { of = f; at = pc + 1; room = room } in
        subst (λ o. RunsAlike (found_enters z code (target z f.home c s v) s fr here t v) (found_enters z code o (renamed_all r s) fr here t w)) (sym (target_renamed r apart v w h z f.home c s))
        (found_alike r v w h z code (target z f.home c s v) s fr here t)
    act_alike (Swap to under d) f pc room s fr t r v w p h =
        let us = renamed_all r s in
        within_alike r w under s us _ _ (many_renamed r s) (within_alike r w d s us _ _ (many_renamed r s)
        (at_alike r v w h f (pc + 1) room (local_set (local_set s under (local_at s d)) d (brought to (local_at s under))) _ fr t
        (ap (λ x. local_set (local_set us under x) d (brought to (local_at us under))) (at_renamed r s d)
        ∙ ap (λ x. local_set (local_set us under (renamed r (local_at s d))) d (brought to x)) (at_renamed r s under)
        ∙ ap (λ x. local_set (local_set us under (renamed r (local_at s d))) d x) (brought_renamed r to (local_at s under))
        ∙ ap (λ l. local_set l d (renamed r (brought to (local_at s under)))) (set_renamed r s under (local_at s d))
        ∙ set_renamed r (local_set s under (local_at s d)) d (brought to (local_at s under)))))
    act_alike (SwapGlobal to under g) f pc room s fr t r v w p h =
        let us = renamed_all r s in
        let x = brought to (local_at s under) in
        within_alike r w under s us _ _ (many_renamed r s)
        (subst (λ y. RunsAlike (At f (pc + 1) room (local_set s under (global_or f.home g x v)) fr t (global_put f.home g x v))
        (At f (pc + 1) room (local_set us under (global_or f.home g y w)) fr t (global_put f.home g y w)))
        (sym (ap (brought to) (at_renamed r s under) ∙ brought_renamed r to (local_at s under)))
        (at_alike r _ _ (put_alike apart r f.home g x v w h) f (pc + 1) room (local_set s under (global_or f.home g x v)) _ fr t
        (ap (λ y. local_set us under y) (global_renamed apart r f.home g x v w h) ∙ set_renamed r s under (global_or f.home g x v))))
    act_alike (SwapField to under d i) f pc room s fr t r v w p h =
        let us = renamed_all r s in
        let x = brought to (local_at s under) in
        let o = local_at s d in
        within_alike r w under s us _ _ (many_renamed r s) (within_alike r w d s us _ _ (many_renamed r s)
        (subst (λ y. RunsAlike (At f (pc + 1) room (local_set s under (member_or i o x v)) fr t (member_put i o x v))
        (At f (pc + 1) room (local_set us under (member_or i (local_at us d) y w)) fr t (member_put i (local_at us d) y w)))
        (sym (ap (brought to) (at_renamed r s under) ∙ brought_renamed r to (local_at s under)))
        (subst (λ q. RunsAlike (At f (pc + 1) room (local_set s under (member_or i o x v)) fr t (member_put i o x v))
        (At f (pc + 1) room (local_set us under (member_or i q (renamed r x) w)) fr t (member_put i q (renamed r x) w)))
        (sym (at_renamed r s d))
        (at_alike r _ _ (member_alike apart r i o x v w h) f (pc + 1) room (local_set s under (member_or i o x v)) _ fr t
        (ap (λ y. local_set us under y) (member_renamed apart r i o x v w h) ∙ set_renamed r s under (member_or i o x v))))))
    act_alike (DropUnder n) f pc room s fr t r v w p h =
        top_alike r w s _ _ (λ x u. enough_alike r w n u (renamed_all r u) _ _ (many_renamed r u)
        (subst (λ l. RunsAlike (At f (pc + 1) room (x ∷ drop_some n u) fr t (give_back (take_some n u) v)) (At f (pc + 1) room (renamed r x ∷ drop_some n (renamed_all r u)) fr t (give_back l w))) (sym (take_renamed r n u))
        (at_alike r _ _ (back_alike r (take_some n u) v w h) f (pc + 1) room (x ∷ drop_some n u) _ fr t (ap (λ l. renamed r x ∷ l) (drop_renamed r n u)))))
    act_alike (Return n) f pc room s fr t r v w p h =
        let ps = params_of z f in
        top_alike r w s _ _ (λ x u.
        let us = renamed_all r u in
        let k = drop_some n u in
        let v1 = give_others ps k (give_some n u v) in
        let w0 = give_some n us w in
        enough_alike r w (n + length ps) u us _ _ (many_renamed r u)
        (subst (λ l. RunsAlike (back fr x (outs_of ps k) (drop_some (length ps) k) t v1) (back fr (renamed r x) (outs_of ps l) (drop_some (length ps) l) t (give_others ps l w0))) (sym (drop_renamed r n u))
        (subst (λ l. RunsAlike (back fr x (outs_of ps k) (drop_some (length ps) k) t v1) (back fr (renamed r x) l (drop_some (length ps) (renamed_all r k)) t (give_others ps (renamed_all r k) w0))) (sym (outs_renamed r ps k))
        (subst (λ l. RunsAlike (back fr x (outs_of ps k) (drop_some (length ps) k) t v1) (back fr (renamed r x) (renamed_all r (outs_of ps k)) l t (give_others ps (renamed_all r k) w0))) (sym (drop_renamed r (length ps) k))
        (back_by r v1 (give_others ps (renamed_all r k) w0) (others_alike r ps k _ _ (some_alike r n u v w h)) fr x (outs_of ps k) (drop_some (length ps) k) _ t refl)))))

    fetched_alike : (o : Option Instruction) (f : Routine) (pc room : ℕ) (s : List Slot) (fr : List Frame) (t : ℕ) (r : Renaming) (v w : World) → IsCounted s v → AlikeUpTo apart r v w
        → RunsAlike (act z code o f pc room s fr t v) (act z code o f pc room (renamed_all r s) fr t w)
    fetched_alike None f pc room s fr t r v w p h = stuck_alike r w
    fetched_alike (Some i) f pc room s fr t r v w p h = act_alike i f pc room s fr t r v w p h

    turned_alike : (r : Renaming) (w : World) (c : Config) → CountedAt c → WorldUpTo apart r c w → RunsAlike (step z code c) (step z code (turned r w c))
    turned_alike r w (At f pc room s fr t v) p h = fetched_alike (slice_get (code.text f) pc) f pc room s fr t r v w p h
    turned_alike r w (Over (Finished x t v)) p h = inl (record { by = r; world = w; same = refl; alike = h })
    turned_alike r w (Over (Faulted x v)) p h = inl (record { by = r; world = w; same = refl; alike = h })
    turned_alike r w (Over Stuck) p h = stuck_alike r w

    leaves_still : (c : Config) → RunLeaves c → RunLeaves (step z code c)
    leaves_still (At f pc room s fr t w) h = absurd h
    leaves_still (Over (Finished x t w)) h = absurd h
    leaves_still (Over (Faulted x w)) h = h
    leaves_still (Over Stuck) h = absurd h

    step_alike : (c d : Config) → CountedAt c → RunsAlike c d → RunsAlike (step z code c) (step z code d)
    step_alike c d p h =
        three (λ m. subst (λ e. RunsAlike (step z code c) (step z code e)) (sym m.same) (turned_alike m.by m.world c p m.alike)) (λ l. inr (inl (leaves_still c l)))
        (λ l. inr (inr (leaves_still d l))) h

    pub steps_alike : (n : ℕ) (c d : Config) → CountedAt c → RunsAlike c d → RunsAlike (steps z code n c) (steps z code n d)
    steps_alike zero c d p h = h
    steps_alike (suc n) c d p h = steps_alike n (step z code c) (step z code d) (step_counted z code c p) (step_alike c d p h)

    pub call_alike : (budget : ℕ) (g : Routine) (vs : List Slot) (r : Renaming) (v w : World) → AlikeUpTo apart r v w → RunsAlike (call_begins z code budget g vs v) (call_begins z code budget g (renamed_all r vs) w)
    call_alike budget g vs r v w h = tick_alike r v w h budget vs _ _ (λ t. begins_alike r v w h z code g vs [] t)

    pub initializer_alike : (t : ℕ) (g : Routine) (r : Renaming) (v w : World) → AlikeUpTo apart r v w → RunsAlike (initializer_begins z code t g v) (initializer_begins z code t g w)
    initializer_alike t g r v w h = begins_alike r v w h z code g [] [] t

-- where none is told of another sort
no_leaving : (c : Config) → RunLeaves ⊥ c → ⊥
no_leaving (At f pc room s fr t w) h = h
no_leaving (Over (Finished x t w)) h = h
no_leaving (Over (Faulted x w)) h = h.0
no_leaving (Over Stuck) h = h

pub alike_only : (c d : Config) → RunsAlike ⊥ c d → ConfigsUpTo ⊥ c d
alike_only c d h = three (λ m. m) (λ l. absurd (no_leaving c l)) (λ l. absurd (no_leaving d l)) h

world_of : (r : Renaming) (c : Config) (w : World) → WorldAlike r c w → WorldUpTo ⊥ r c w
world_of r (At f pc room s fr t v) w h = alike_of r v w h
world_of r (Over (Finished x t v)) w h = alike_of r v w h
world_of r (Over (Faulted x v)) w h = alike_of r v w h
world_of r (Over Stuck) w h = h

world_by : (r : Renaming) (c : Config) (w : World) → WorldUpTo ⊥ r c w → WorldAlike r c w
world_by r (At f pc room s fr t v) w h = alike_by r v w h
world_by r (Over (Finished x t v)) w h = alike_by r v w h
world_by r (Over (Faulted x v)) w h = alike_by r v w h
world_by r (Over Stuck) w h = h

configs_of : (c d : Config) → ConfigsAlike c d → ConfigsUpTo ⊥ c d
configs_of c d h = record { by = h.by; world = h.world; same = h.same; alike = world_of h.by c h.world h.alike }

configs_by : (c d : Config) → ConfigsUpTo ⊥ c d → ConfigsAlike c d
configs_by c d h = record { by = h.by; world = h.world; same = h.same; alike = world_by h.by c h.world h.alike }

pub all_steps_alike : StepsAlike
all_steps_alike z code n c d p h =
    configs_by (steps z code n c) (steps z code n d) (alike_only (steps z code n c) (steps z code n d) (steps_alike ⊥ z code n c d p (inl (configs_of c d h))))
