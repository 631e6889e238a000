-- A run of whatever script leaves the modules as many globals as they had.
use Rattle.std.proofs.Common.{◌≡◌, refl, ap, arith, ℕ, zero, suc, Bool, true, false, List, [], ◌∷◌, length, Option, Some, None}
use Rattle.std.specs.Prelude.{◌-◌, if◌then◌else◌}
use Rattle.std.proofs.lemmas.List.{length-map}
use Rattle.ang_types.specs.declared.arg_type.ArgType.{ArgType}
use Rattle.ang_typed.specs.declared.expression.TypedVariable.{TypedVariable}
use Rattle.ang_typed.specs.declared.expression.TypedVariable.TheVariants as variable
use Rattle.ang_typed.specs.declared.expression.TypedMember.{TypedMember}
use Rattle.ang_typed.specs.declared.expression.TypedMember.TheVariants as member
use Rattle.ang_typed.specs.Typed as t
use Rattle.ang_meaning.specs.declared.slot.Slot.{Slot}
use Rattle.ang_meaning.specs.declared.slot.Slot.TheVariants.{Bits, Script, Host}
use Rattle.ang_meaning.specs.declared.operation.Operation.{Operation}
use Rattle.ang_meaning.specs.declared.operation.Operation.TheVariants.{Binary, Compare, Convert, Negate, Complement, Not, Same, GlobalGet, GlobalSet, GlobalChange, Ask, Read, Write, Alter, Make, FieldGet, FieldSet, FieldChange, Cast}
use Rattle.ang_meaning.specs.declared.operation.Update.{Update}
use Rattle.ang_meaning.specs.declared.routine.Routine.{Routine}
use Rattle.ang_meaning.specs.declared.routine.Callee.{Callee}
use Rattle.ang_meaning.specs.declared.routine.Callee.TheVariants.{Own}
use Rattle.ang_meaning.specs.declared.routine.Passing.{Passing}
use Rattle.ang_meaning.specs.declared.routine.Spot.{Spot}
use Rattle.ang_meaning.specs.declared.routine.Spot.TheVariants as spot
use Rattle.ang_meaning.specs.declared.routine.Target.{Target}
use Rattle.ang_kinds.specs.Primitives.{is_signed}
use Rattle.ang_meaning.specs.Numbers.{Changed, Into, Never}
use Rattle.ang_meaning.specs.World.{World, Tried, Yes, No, or_else, hold, give, memory_step}
use Rattle.ang_meaning.specs.Environment.{Environment, Found, Enters, Misses, target, has_objects, params_of}
use Rattle.ang_meaning.specs.Hosts.{Done, Fine, Fails}
use Rattle.ang_meaning.specs.Perform.{perform, change_of}
use Rattle.ang_meaning.specs.Bodies.{Callees, then_initialized}
use Rattle.ang_meaning.specs.Results.{Evaluated, Gave, Failed, Gathered, Ready, Broke, Ran, Went, Returned, Halted, Broken, Continued, Reply, Yields, Raises, Calls, local_at, drop_some, give_some, at_zero, on_test, ticked, loaded, performed, applied, assigned, altered_by, altered, chosen, then_rest, brought, trade, settled, replied, called, leave, with_value, then_run, caught, yielded, finished, may_nest, entered, found_entered, enter}
use Rattle.ang_source.specs.Meaning.{Passes, Code, of_function, of_global, Codes, callee_of, compound_of, step_of, one, two, this_of, targets_of, stored, discarded, branched, in_block, tested, read_variable, read_member, member_stored, changed_by, member_changed, evaluate, evaluate_all, evaluate_argument, begin_local, evaluate_or, run_locals, run_steps, run, run_all, pass_of, run_code, body_at, pass_at, begun, called_with, initialized, initialized_all}
use Rattle.ang_code_laws.specs.Globals.{globals_of_each}
use Rattle.ang_code_laws.proofs.Worlds.{Has, give_has, give_all_has, give_some_has, give_back_has, give_others_has, put_has, member_has, TriedHas, memory_has, hold_has}
use Rattle.ang_code_laws.proofs.Operations.{DoneHas, perform_has}
use Rattle.ang_engine_modules.specs.Ends.{end_of}

module _ (ns : List ℕ) where
  -- the modules have these numbers of globals at the end
  abbrev IsEnd : Evaluated → Type 0
  IsEnd (Gave v ls n w) = Has ns w
  IsEnd (Failed f ls w) = Has ns w

  abbrev AreEnds : Gathered → Type 0
  AreEnds (Ready vs ls n w) = Has ns w
  AreEnds (Broke f ls w) = Has ns w

  abbrev IsRan : Ran → Type 0
  IsRan (Went ls n w) = Has ns w
  IsRan (Returned v ls n w) = Has ns w
  IsRan (Halted f ls w) = Has ns w
  IsRan (Broken ls n w) = Has ns w
  IsRan (Continued ls n w) = Has ns w

  abbrev IsReply : Reply → Type 0
  IsReply (Yields v outs n w) = Has ns w
  IsReply (Raises f w) = Has ns w

  abbrev Go : Type 0
  Go = List Slot → ℕ → World → Evaluated

  abbrev Stays : Go → Type 0
  Stays go = (ls : List Slot) (n : ℕ) (w : World) → Has ns w → IsEnd (go ls n w)

  abbrev GoOn : Type 0
  GoOn = List Slot → ℕ → World → Ran

  abbrev GoesOn : GoOn → Type 0
  GoesOn go = (ls : List Slot) (n : ℕ) (w : World) → Has ns w → IsRan (go ls n w)

  -- ---- expressions

  tried_end : (o : Tried) (out go : World → Evaluated) → TriedHas ns o → ((w : World) → Has ns w → IsEnd (out w)) → ((w : World) → Has ns w → IsEnd (go w)) → IsEnd (or_else o out go)
  tried_end (No w) out go p h k = h w p
  tried_end (Yes w) out go p h k = k w p

  loaded_end : (v : Slot) (ls : List Slot) (n : ℕ) (w : World) → Has ns w → IsEnd (loaded v ls n w)
  loaded_end v ls n w p = tried_end (hold v w) _ _ (hold_has ns v w p) (λ u q. q) (λ u q. q)

  performed_end : (d : Done) (vs ls : List Slot) (n : ℕ) → DoneHas ns d → IsEnd (performed d vs ls n)
  performed_end (Fine v w) vs ls n p = p
  performed_end (Fails f w) vs ls n p = give_all_has ns vs w p

  applied_end : (z : Environment) (m : ℕ) (o : Operation) (g : Gathered) → AreEnds g → IsEnd (applied (perform z m o) g)
  applied_end z m o (Ready vs ls n w) p = performed_end (perform z m o vs w) vs ls n (perform_has ns z m o vs w p)
  applied_end z m o (Broke f ls w) p = p

  assigned_end : (i : ℕ) (e : Evaluated) → IsEnd e → IsEnd (assigned i e)
  assigned_end i (Gave v ls n w) p = tried_end (hold v w) _ _ (hold_has ns v w p) (λ u q. give_has ns v u q) (λ u q. give_has ns (local_at ls i) u q)
  assigned_end i (Failed f ls w) p = p

  altered_by_end : (i : ℕ) (c : Changed) (v : Slot) (ls : List Slot) (n : ℕ) (w : World) → Has ns w → IsEnd (altered_by i c v ls n w)
  altered_by_end i (Into a b) v ls n w p = p
  altered_by_end i (Never f) v ls n w p = give_has ns v w p

  altered_end : (i : ℕ) (c : Update) (e : Evaluated) → IsEnd e → IsEnd (altered i c e)
  altered_end i c (Gave v ls n w) p = altered_by_end i (change_of c (local_at ls i) v) v ls n w p
  altered_end i c (Failed f ls w) p = p

  zero_end : (k : ℕ) (a b : Evaluated) → IsEnd a → IsEnd b → IsEnd (at_zero k a b)
  zero_end zero a b h k = h
  zero_end (suc n) a b h k = k

  chosen_by : (v : Slot) (bad off on : Evaluated) → IsEnd bad → IsEnd off → IsEnd on → IsEnd (on_test v bad off on)
  chosen_by (Bits k) bad off on h p q = zero_end k off on p q
  chosen_by (Script k) bad off on h p q = h
  chosen_by (Host d k) bad off on h p q = h

  chosen_end : (e : Evaluated) (go other : Go) → IsEnd e → Stays go → Stays other → IsEnd (chosen e go other)
  chosen_end (Gave v ls n w) go other p h k = chosen_by v _ _ _ (give_has ns v w p) (k ls n w p) (h ls n w p)
  chosen_end (Failed f ls w) go other p h k = p

  rest_ends : (vs : List Slot) (e : Evaluated) (go : Slot → List Slot → ℕ → World → Gathered) → IsEnd e → ((v : Slot) (ls : List Slot) (n : ℕ) (w : World) → Has ns w → AreEnds (go v ls n w))
      → AreEnds (then_rest vs e go)
  rest_ends vs (Gave v ls n w) go p h = h v ls n w p
  rest_ends vs (Failed f ls w) go p h = give_all_has ns vs w p

  one_ends : (e : Evaluated) → IsEnd e → AreEnds (one e)
  one_ends e p = rest_ends [] e _ p (λ v ls n w q. q)

  two_end : (e : Evaluated) (go : Go) → IsEnd e → Stays go → AreEnds (two e go)
  two_end e go p h = rest_ends [] e _ p (λ v ls n w q. rest_ends (v ∷ []) (go ls n w) _ (h ls n w q) (λ u ls' n' w' r. r))

  traded_has : (m : ℕ) (s : Spot) (v : Slot) (ls : List Slot) (w : World) → Has ns w → Has ns (trade m s v ls w).world
  traded_has m (spot.Local i) v ls w p = p
  traded_has m (spot.Global g) v ls w p = put_has ns m g v w p
  traded_has m (spot.Field o i) v ls w p = member_has ns i (local_at ls o) v w p

  settled_has : (m : ℕ) (xs : List Target) (outs ls : List Slot) (w : World) → Has ns w → Has ns (settled m xs outs ls w).world
  settled_has m [] outs ls w p = p
  settled_has m (x ∷ xs) [] ls w p = p
  settled_has m (x ∷ xs) (v ∷ outs) ls w p =
      let r = settled m xs outs ls w in traded_has m x.spot (brought x.to v) r.locals r.world (settled_has m xs outs ls w p)

  replied_end : (m : ℕ) (xs : List Target) (r : Reply) (ls : List Slot) → IsReply r → IsEnd (replied m xs r ls)
  replied_end m xs (Yields v outs n w) ls p = let r = settled m xs outs ls w in give_back_has ns r.olds r.world (settled_has m xs outs ls w p)
  replied_end m xs (Raises f w) ls p = p

  called_end : (m : ℕ) (call : List Slot → ℕ → World → Reply) (xs : List Target) (g : Gathered) → ((vs : List Slot) (n : ℕ) (w : World) → Has ns w → IsReply (call vs n w)) → AreEnds g
      → IsEnd (called m call xs g)
  called_end m call xs (Ready vs ls n w) h p = replied_end m xs (call vs n w) ls (h vs n w p)
  called_end m call xs (Broke f ls w) h p = p

  -- ---- statements

  valued : (e : Evaluated) (go : Slot → List Slot → ℕ → World → Ran) → IsEnd e → ((v : Slot) (ls : List Slot) (n : ℕ) (w : World) → Has ns w → IsRan (go v ls n w)) → IsRan (with_value e go)
  valued (Gave v ls n w) go p h = h v ls n w p
  valued (Failed f ls w) go p h = p

  went_on : (r : Ran) (go : GoOn) → IsRan r → GoesOn go → IsRan (then_run r go)
  went_on (Went ls n w) go p h = h ls n w p
  went_on (Returned v ls n w) go p h = p
  went_on (Halted f ls w) go p h = p
  went_on (Broken ls n w) go p h = p
  went_on (Continued ls n w) go p h = p

  left_block : (k : ℕ) (r : Ran) → IsRan r → IsRan (leave k r)
  left_block k (Went ls n w) p = give_some_has ns (length ls - k) ls w p
  left_block k (Returned v ls n w) p = give_some_has ns (length ls - k) ls w p
  left_block k (Halted f ls w) p = give_some_has ns (length ls - k) ls w p
  left_block k (Broken ls n w) p = give_some_has ns (length ls - k) ls w p
  left_block k (Continued ls n w) p = give_some_has ns (length ls - k) ls w p

  caught_ran : (k : ℕ) (r : Ran) (go : GoOn) → IsRan r → GoesOn go → IsRan (caught k r go)
  caught_ran k (Went ls n w) go p h = h _ n _ (give_some_has ns (length ls - k) ls w p)
  caught_ran k (Continued ls n w) go p h = h _ n _ (give_some_has ns (length ls - k) ls w p)
  caught_ran k (Broken ls n w) go p h = give_some_has ns (length ls - k) ls w p
  caught_ran k (Returned v ls n w) go p h = give_some_has ns (length ls - k) ls w p
  caught_ran k (Halted f ls w) go p h = give_some_has ns (length ls - k) ls w p

  discarded_ran : (e : Evaluated) → IsEnd e → IsRan (discarded e)
  discarded_ran e p = valued e _ p (λ v ls n w q. give_has ns v w q)

  zero_ran : (k : ℕ) (a b : Ran) → IsRan a → IsRan b → IsRan (at_zero k a b)
  zero_ran zero a b h k = h
  zero_ran (suc n) a b h k = k

  branched_by : (v : Slot) (bad off on : Ran) → IsRan bad → IsRan off → IsRan on → IsRan (on_test v bad off on)
  branched_by (Bits k) bad off on h p q = zero_ran k off on p q
  branched_by (Script k) bad off on h p q = h
  branched_by (Host d k) bad off on h p q = h

  branched_ran : (e : Evaluated) (go other : GoOn) → IsEnd e → GoesOn go → GoesOn other → IsRan (branched e go other)
  branched_ran e go other p h k = valued e _ p (λ v ls n w q. branched_by v _ _ _ (give_has ns v w q) (k ls n w q) (h ls n w q))

  tested_ran : (go : GoOn) (ls : List Slot) (n : ℕ) (w : World) → GoesOn go → Has ns w → IsRan (tested go ls n w)
  tested_ran go ls zero w h p = p
  tested_ran go ls (suc n) w h p = h ls n w p

  -- ---- calls

  yielded_reply : (ps : List Passing) (v : Slot) (ls : List Slot) (n : ℕ) (w : World) → Has ns w → IsReply (yielded ps v ls n w)
  yielded_reply ps v ls n w p =
      let k = length ls - length ps in give_others_has ns ps (drop_some k ls) (give_some k ls w) (give_some_has ns k ls w p)

  finished_reply : (ps : List Passing) (r : Ran) → IsRan r → IsReply (finished ps r)
  finished_reply ps (Went ls n w) p = yielded_reply ps (Bits 0) ls n w p
  finished_reply ps (Returned v ls n w) p = yielded_reply ps v ls n w p
  finished_reply ps (Halted f ls w) p = give_all_has ns ls w p
  finished_reply ps (Broken ls n w) p = yielded_reply ps (Bits 0) ls n w p
  finished_reply ps (Continued ls n w) p = yielded_reply ps (Bits 0) ls n w p

  tried_reply : (o : Tried) (out go : World → Reply) → TriedHas ns o → ((w : World) → Has ns w → IsReply (out w)) → ((w : World) → Has ns w → IsReply (go w)) → IsReply (or_else o out go)
  tried_reply (No w) out go p h k = h w p
  tried_reply (Yes w) out go p h k = k w p

  ticked_reply : (n : ℕ) (out : Reply) (go : ℕ → Reply) → IsReply out → ((k : ℕ) → IsReply (go k)) → IsReply (ticked n out go)
  ticked_reply zero out go p h = p
  ticked_reply (suc n) out go p h = h n

  if_reply : (b : Bool) (a c : Reply) → IsReply a → IsReply c → IsReply (if b then a else c)
  if_reply true a c p q = p
  if_reply false a c p q = q

  abbrev AllReply : Calls → Type 0
  AllReply body = (g : Routine) (vs : List Slot) (n : ℕ) (w : World) → Has ns w → IsReply (body g vs n w)

  entered_reply : (z : Environment) (body : Calls) (d : ℕ) (g : Routine) (vs : List Slot) (n : ℕ) (w : World) → AllReply body → Has ns w → IsReply (entered z body d g vs n w)
  entered_reply z body d g vs n w h p =
      if_reply (has_objects (params_of z g) vs) _ _
      (if_reply (may_nest z d) _ _
      (ticked_reply n _ _ (give_all_has ns vs w p) (λ k. tried_reply (memory_step w) _ _ (memory_has ns w p) (λ u q. give_all_has ns vs u q) (λ u q. h g vs k u q))) (give_all_has ns vs w p))
      (give_all_has ns vs w p)

  found_reply : (z : Environment) (body : Calls) (d : ℕ) (o : Found) (vs : List Slot) (n : ℕ) (w : World) → AllReply body → Has ns w → IsReply (found_entered z body d o vs n w)
  found_reply z body d (Enters g) vs n w h p = entered_reply z body d g vs n w h p
  found_reply z body d (Misses f) vs n w h p = give_all_has ns vs w p

  enter_reply : (z : Environment) (body : Calls) (d m : ℕ) (c : Callee) (vs : List Slot) (n : ℕ) (w : World) → AllReply body → Has ns w → IsReply (enter z body d m c vs n w)
  enter_reply z body d m c vs n w h p = found_reply z body d (target z m c vs w) vs n w h p

  -- ---- a script in module m, over calls that are so

  module _ (z : Environment) (m : ℕ) (calls : Callees) (reply : (c : Callee) (vs : List Slot) (n : ℕ) (w : World) → Has ns w → IsReply (calls c vs n w)) where
    this_end : (ls : List Slot) (n : ℕ) (w : World) → Has ns w → IsEnd (this_of ls n w)
    this_end ls n w p = loaded_end _ ls n w p

    read_end : (x : TypedVariable) (ls : List Slot) (n : ℕ) (w : World) → Has ns w → IsEnd (read_variable z m x ls n w)
    read_end (variable.Local i) ls n w p = loaded_end _ ls n w p
    read_end (variable.Global g) ls n w p = applied_end z m (GlobalGet g) (Ready [] ls n w) p
    read_end (variable.Property h) ls n w p = applied_end z m (Read h.entity) (Ready [] ls n w) p
    read_end (variable.Field i) ls n w p = applied_end z m (FieldGet i) (one (this_of ls n w)) (one_ends (this_of ls n w) (this_end ls n w p))

    member_read_end : (x : TypedMember) (e : Evaluated) → IsEnd e → IsEnd (read_member z m x e)
    member_read_end (member.Field i) e p = applied_end z m (FieldGet i) (one e) (one_ends e p)
    member_read_end (member.Property h) e p = applied_end z m (Read h.entity) (one e) (one_ends e p)

    stored_end : (x : TypedVariable) (ls : List Slot) (e : Evaluated) → IsEnd e → IsEnd (stored z m x ls e)
    stored_end (variable.Local i) ls e p = assigned_end _ e p
    stored_end (variable.Global g) ls e p = applied_end z m (GlobalSet g) (one e) (one_ends e p)
    stored_end (variable.Property h) ls e p = applied_end z m (Write h.entity) (one e) (one_ends e p)
    stored_end (variable.Field i) ls e p = applied_end z m (FieldSet i) (two e this_of) (two_end e this_of p this_end)

    member_stored_end : (x : TypedMember) (e : Evaluated) (object : Go) → IsEnd e → Stays object → IsEnd (member_stored z m x e object)
    member_stored_end (member.Field i) e object p h = applied_end z m (FieldSet i) (two e object) (two_end e object p h)
    member_stored_end (member.Property k) e object p h = applied_end z m (Write k.entity) (two e object) (two_end e object p h)

    changed_end : (x : TypedVariable) (ls : List Slot) (c : Update) (e : Evaluated) → IsEnd e → IsEnd (changed_by z m x ls c e)
    changed_end (variable.Local i) ls c e p = altered_end _ c e p
    changed_end (variable.Global g) ls c e p = applied_end z m (GlobalChange c g) (one e) (one_ends e p)
    changed_end (variable.Property h) ls c e p = applied_end z m (Alter h.entity c) (one e) (one_ends e p)
    changed_end (variable.Field i) ls c e p = applied_end z m (FieldChange c i) (two e this_of) (two_end e this_of p this_end)

    member_changed_end : (x : TypedMember) (c : Update) (e : Evaluated) (object : Go) → IsEnd e → Stays object → IsEnd (member_changed z m x c e object)
    member_changed_end (member.Field i) c e object p h = applied_end z m (FieldChange c i) (two e object) (two_end e object p h)
    member_changed_end (member.Property k) c e object p h = applied_end z m (Alter k.entity c) (two e object) (two_end e object p h)

    mutual
      eval_end : (e : t.Expr) (ls : List Slot) (n : ℕ) (w : World) → Has ns w → IsEnd (evaluate z m calls e ls n w)
      eval_end (t.number ty k) ls n w p = p
      eval_end (t.truth b) ls n w p = p
      eval_end (t.read (t.named x) ty) ls n w p = read_end x ls n w p
      eval_end (t.read (t.member_of o a) ty) ls n w p = member_read_end a (evaluate z m calls o ls n w) (eval_end o ls n w p)
      eval_end t.null ls n w p = p
      eval_end (t.convert from to e) ls n w p = applied_end z m (Convert to) (one (evaluate z m calls e ls n w)) (one_ends (evaluate z m calls e ls n w) (eval_end e ls n w p))
      eval_end (t.negate ty e) ls n w p = applied_end z m (Negate ty) (one (evaluate z m calls e ls n w)) (one_ends (evaluate z m calls e ls n w) (eval_end e ls n w p))
      eval_end (t.complement ty e) ls n w p = applied_end z m (Complement ty) (one (evaluate z m calls e ls n w)) (one_ends (evaluate z m calls e ls n w) (eval_end e ls n w p))
      eval_end (t.not e) ls n w p = applied_end z m Not (one (evaluate z m calls e ls n w)) (one_ends (evaluate z m calls e ls n w) (eval_end e ls n w p))
      eval_end (t.operate op ty l r) ls n w p =
          applied_end z m (Binary op ty) (two (evaluate z m calls l ls n w) (evaluate z m calls r)) (two_end (evaluate z m calls l ls n w) (evaluate z m calls r) (eval_end l ls n w p) (λ ls' n' w' q. eval_end r ls' n' w' q))
      eval_end (t.compare op ty l r) ls n w p =
          applied_end z m (Compare op (is_signed ty)) (two (evaluate z m calls l ls n w) (evaluate z m calls r))
          (two_end (evaluate z m calls l ls n w) (evaluate z m calls r) (eval_end l ls n w p) (λ ls' n' w' q. eval_end r ls' n' w' q))
      eval_end (t.and l r) ls n w p = chosen_end (evaluate z m calls l ls n w) (evaluate z m calls r) _ (eval_end l ls n w p) (λ ls' n' w' q. eval_end r ls' n' w' q) (λ ls' n' w' q. q)
      eval_end (t.or l r) ls n w p = chosen_end (evaluate z m calls l ls n w) _ (evaluate z m calls r) (eval_end l ls n w p) (λ ls' n' w' q. q) (λ ls' n' w' q. eval_end r ls' n' w' q)
      eval_end (t.choose a l r) ls n w p =
          chosen_end (evaluate z m calls a ls n w) (evaluate z m calls l) (evaluate z m calls r) (eval_end a ls n w p) (λ ls' n' w' q. eval_end l ls' n' w' q) (λ ls' n' w' q. eval_end r ls' n' w' q)
      eval_end (t.same l r) ls n w p =
          applied_end z m Same (two (evaluate z m calls l ls n w) (evaluate z m calls r)) (two_end (evaluate z m calls l ls n w) (evaluate z m calls r) (eval_end l ls n w p) (λ ls' n' w' q. eval_end r ls' n' w' q))
      eval_end (t.naming x e) ls n w p = eval_end e ls n w p
      eval_end (t.cast k e) ls n w p = applied_end z m (Cast k) (one (evaluate z m calls e ls n w)) (one_ends (evaluate z m calls e ls n w) (eval_end e ls n w p))
      eval_end (t.make k None args) ls n w p = applied_end z m (Make k) (Ready [] ls n w) p
      eval_end (t.make k (Some f) args) ls n w p =
          called_end m (calls (Own f)) (targets_of ls args) _ (reply (Own f))
          (rest_ends [] (applied (perform z m (Make k)) (Ready [] ls n w)) _ (applied_end z m (Make k) (Ready [] ls n w) p) (λ o ls' n' w' q. all_end args (o ∷ []) ls' n' w' q))
      eval_end (t.assign (t.named x) ty e) ls n w p = stored_end x ls (evaluate z m calls e ls n w) (eval_end e ls n w p)
      eval_end (t.assign (t.member_of o a) ty e) ls n w p =
          member_stored_end a (evaluate z m calls e ls n w) (evaluate z m calls o) (eval_end e ls n w p) (λ ls' n' w' q. eval_end o ls' n' w' q)
      eval_end (t.compound (t.named x) ty op at e) ls n w p = changed_end x ls (compound_of ty op at) (evaluate z m calls e ls n w) (eval_end e ls n w p)
      eval_end (t.compound (t.member_of o a) ty op at e) ls n w p =
          member_changed_end a (compound_of ty op at) (evaluate z m calls e ls n w) (evaluate z m calls o) (eval_end e ls n w p) (λ ls' n' w' q. eval_end o ls' n' w' q)
      eval_end (t.step (t.named x) ty kind) ls n w p = changed_end x ls (step_of ty kind) (Gave (Bits 1) ls n w) p
      eval_end (t.step (t.member_of o a) ty kind) ls n w p =
          member_changed_end a (step_of ty kind) (Gave (Bits 1) ls n w) (evaluate z m calls o) p (λ ls' n' w' q. eval_end o ls' n' w' q)
      eval_end (t.call f ty args) ls n w p =
          called_end m (calls (callee_of f)) (targets_of ls args) (evaluate_all z m calls args [] ls n w) (reply (callee_of f)) (all_end args [] ls n w p)
      eval_end (t.host_call h ty args) ls n w p = applied_end z m (Ask h.entity) (evaluate_all z m calls args [] ls n w) (all_end args [] ls n w p)

      all_end : (args : t.Args) (vs ls : List Slot) (n : ℕ) (w : World) → Has ns w → AreEnds (evaluate_all z m calls args vs ls n w)
      all_end t.none vs ls n w p = p
      all_end (t.more a args) vs ls n w p = rest_ends vs (evaluate_argument z m calls a ls n w) _ (argument_end a ls n w p) (λ v ls' n' w' q. all_end args (v ∷ vs) ls' n' w' q)

      argument_end : (a : t.Arg) (ls : List Slot) (n : ℕ) (w : World) → Has ns w → IsEnd (evaluate_argument z m calls a ls n w)
      argument_end (t.by_value ty e) ls n w p = eval_end e ls n w p
      argument_end (t.out x from to) ls n w p = p

    begin_end : (ty : ArgType) (e : Option t.Expr) (ls : List Slot) (n : ℕ) (w : World) → Has ns w → IsEnd (begin_local z m calls ty e ls n w)
    begin_end ty None ls n w p = p
    begin_end ty (Some e) ls n w p = eval_end e ls n w p

    option_end : (k : ℕ) (e : Option t.Expr) (ls : List Slot) (n : ℕ) (w : World) → Has ns w → IsEnd (evaluate_or z m calls k e ls n w)
    option_end k None ls n w p = p
    option_end k (Some e) ls n w p = eval_end e ls n w p

    locals_ran : (locals : List t.Local) (ls : List Slot) (n : ℕ) (w : World) → Has ns w → IsRan (run_locals z m calls locals ls n w)
    locals_ran [] ls n w p = p
    locals_ran (l ∷ rest) ls n w p = valued (begin_local z m calls l.ty l.initializer ls n w) _ (begin_end l.ty l.initializer ls n w p) (λ v ls' n' w' q. locals_ran rest (v ∷ ls') n' w' q)

    steps_ran : (es : List t.Expr) (ls : List Slot) (n : ℕ) (w : World) → Has ns w → IsRan (run_steps z m calls es ls n w)
    steps_ran [] ls n w p = p
    steps_ran (e ∷ es) ls n w p =
        went_on (discarded (evaluate z m calls e ls n w)) (run_steps z m calls es) (discarded_ran (evaluate z m calls e ls n w) (eval_end e ls n w p)) (λ ls' n' w' q. steps_ran es ls' n' w' q)

    module _ (passes : Passes) (passed : (e : Option t.Expr) (ss : t.Stmts) (steps : List t.Expr) (ls : List Slot) (n : ℕ) (w : World) → Has ns w → IsRan (passes e ss steps ls n w)) where
      mutual
        run_ran : (s : t.Stmt) (ls : List Slot) (n : ℕ) (w : World) → Has ns w → IsRan (run z m calls passes s ls n w)
        run_ran (t.block ss) ls n w p = left_block (length ls) (run_all z m calls passes ss ls n w) (all_ran ss ls n w p)
        run_ran (t.locals locals) ls n w p = locals_ran locals ls n w p
        run_ran (t.expression None) ls n w p = p
        run_ran (t.expression (Some e)) ls n w p = discarded_ran (evaluate z m calls e ls n w) (eval_end e ls n w p)
        run_ran t.break ls n w p = p
        run_ran t.continue ls n w p = p
        run_ran (t.return e) ls n w p = valued (evaluate_or z m calls 0 e ls n w) _ (option_end 0 e ls n w p) (λ v ls' n' w' q. q)
        run_ran (t.either e ss otherwise) ls n w p =
            branched_ran (evaluate z m calls e ls n w) (in_block (run_all z m calls passes ss)) (in_block (run_all z m calls passes otherwise)) (eval_end e ls n w p)
            (λ ls' n' w' q. left_block (length ls') (run_all z m calls passes ss ls' n' w') (all_ran ss ls' n' w' q))
            (λ ls' n' w' q. left_block (length ls') (run_all z m calls passes otherwise ls' n' w') (all_ran otherwise ls' n' w' q))
        run_ran (t.while e ss) ls n w p = tested_ran (passes (Some e) ss []) ls n w (passed (Some e) ss []) p
        run_ran (t.do_while ss e) ls n w p =
            caught_ran (length ls) (run_all z m calls passes ss ls n w) (tested (passes (Some e) ss [])) (all_ran ss ls n w p)
            (λ ls' n' w' q. tested_ran (passes (Some e) ss []) ls' n' w' (passed (Some e) ss []) q)
        run_ran (t.for start e steps ss) ls n w p =
            left_block (length ls) (then_run (run_all z m calls passes start ls n w) (tested (passes e ss steps)))
            (went_on (run_all z m calls passes start ls n w) (tested (passes e ss steps)) (all_ran start ls n w p)
            (λ ls' n' w' q. tested_ran (passes e ss steps) ls' n' w' (passed e ss steps) q))

        all_ran : (ss : t.Stmts) (ls : List Slot) (n : ℕ) (w : World) → Has ns w → IsRan (run_all z m calls passes ss ls n w)
        all_ran t.end ls n w p = p
        all_ran (t.then s ss) ls n w p = went_on (run z m calls passes s ls n w) (run_all z m calls passes ss) (run_ran s ls n w p) (λ ls' n' w' q. all_ran ss ls' n' w' q)

      pass_ran : (e : Option t.Expr) (ss : t.Stmts) (steps : List t.Expr) (ls : List Slot) (n : ℕ) (w : World) → Has ns w → IsRan (pass_of z m calls passes e ss steps ls n w)
      pass_ran e ss steps ls n w p =
          branched_ran (evaluate_or z m calls 1 e ls n w) _ _ (option_end 1 e ls n w p)
          (λ ls' n' w' q. caught_ran (length ls') (run_all z m calls passes ss ls' n' w') _ (all_ran ss ls' n' w' q)
          (λ l2 n2 w2 r. went_on (run_steps z m calls steps l2 n2 w2) (tested (passes e ss steps)) (steps_ran steps l2 n2 w2 r)
          (λ l3 n3 w3 s. tested_ran (passes e ss steps) l3 n3 w3 (passed e ss steps) s)))
          (λ ls' n' w' q. q)

      code_ran : (x : Code) (ls : List Slot) (n : ℕ) (w : World) → Has ns w → IsRan (run_code z m calls passes x ls n w)
      code_ran (of_function ss) ls n w p = left_block (length ls) (run_all z m calls passes ss ls n w) (all_ran ss ls n w p)
      code_ran (of_global g e) ls n w p =
          discarded_ran (stored z m (variable.Global g) ls (evaluate z m calls e ls n w)) (stored_end (variable.Global g) ls (evaluate z m calls e ls n w) (eval_end e ls n w p))

  -- ---- bodies

  module _ (z : Environment) (codes : Codes) where
    mutual
      body_reply : (fuel d : ℕ) (g : Routine) (vs : List Slot) (n : ℕ) (w : World) → Has ns w → IsReply (body_at z codes fuel d g vs n w)
      body_reply zero d g vs n w p = p
      body_reply (suc fuel) d g vs n w p =
          let calls = enter z (body_at z codes fuel (suc d)) d g.home in
          finished_reply (params_of z g) (run_code z g.home calls (pass_at z codes fuel d g.home) (codes g) vs n w)
          (code_ran z g.home calls (λ c us k u q. enter_reply z (body_at z codes fuel (suc d)) d g.home c us k u (body_reply fuel (suc d)) q) (pass_at z codes fuel d g.home)
          (passes_ran fuel d g.home) (codes g) vs n w p)

      passes_ran : (fuel d m : ℕ) (e : Option t.Expr) (ss : t.Stmts) (steps : List t.Expr) (ls : List Slot) (n : ℕ) (w : World) → Has ns w → IsRan (pass_at z codes fuel d m e ss steps ls n w)
      passes_ran zero d m e ss steps ls n w p = p
      passes_ran (suc fuel) d m e ss steps ls n w p =
          let calls = enter z (body_at z codes fuel (suc d)) d m in
          pass_ran z m calls (λ c us k u q. enter_reply z (body_at z codes fuel (suc d)) d m c us k u (body_reply fuel (suc d)) q) (pass_at z codes fuel d m) (passes_ran fuel d m) e ss steps ls n w p

    begun_reply : (g : Routine) (vs : List Slot) (n : ℕ) (w : World) → Has ns w → IsReply (begun z codes g vs n w)
    begun_reply g vs n w p = tried_reply (memory_step w) _ _ (memory_has ns w p) (λ u q. give_all_has ns vs u q) (λ u q. body_reply (suc n) 0 g vs n u q)

    called_reply : (budget : ℕ) (g : Routine) (vs : List Slot) (w : World) → Has ns w → IsReply (called_with z codes budget g vs w)
    called_reply budget g vs w p = ticked_reply budget _ _ (give_all_has ns vs w p) (λ n. begun_reply g vs n w p)

    next_reply : (r : Reply) (go : ℕ → World → Reply) → IsReply r → ((n : ℕ) (w : World) → Has ns w → IsReply (go n w)) → IsReply (then_initialized r go)
    next_reply (Yields v outs n w) go p h = h n (give v w) (give_has ns v w p)
    next_reply (Raises f w) go p h = p

    all_reply : (gs : List Routine) (n : ℕ) (w : World) → Has ns w → IsReply (initialized_all z codes gs n w)
    all_reply [] n w p = p
    all_reply (g ∷ gs) n w p = next_reply (initialized z codes n g w) _ (begun_reply g [] n w p) (λ k u q. all_reply gs k u q)

  end_has : (r : Reply) → IsReply r → Has ns (end_of r).world
  end_has (Yields v outs n w) p = give_has ns v _ (give_all_has ns outs w p)
  end_has (Raises f w) p = p

-- ---- how many lists there are

-- two worlds have as many lists of globals
abbrev pub SameLists : World → World → Type 0
SameLists w u = length u.globals ≡ length w.globals

lists_of : (w u : World) → globals_of_each u ≡ globals_of_each w → SameLists w u
lists_of w u e =
    let a : length (globals_of_each u) ≡ length u.globals = length-map u.globals length in
    let b : length (globals_of_each w) ≡ length w.globals = length-map w.globals length in
    sym_join (length u.globals) (length w.globals) (length (globals_of_each u)) (length (globals_of_each w)) a b (ap length e)
  where
    sym_join : (a b c d : ℕ) → c ≡ a → d ≡ b → c ≡ d → a ≡ b
    sym_join a b c d p q r = omega (arith, p, q, r)

pub call_lengths : (z : Environment) (codes : Codes) (budget : ℕ) (g : Routine) (vs : List Slot) (w : World) → globals_of_each (end_of (called_with z codes budget g vs w)).world ≡ globals_of_each w
call_lengths z codes budget g vs w = let r = called_with z codes budget g vs w in end_has (globals_of_each w) r (called_reply (globals_of_each w) z codes budget g vs w refl)

pub initialized_lengths : (z : Environment) (codes : Codes) (gs : List Routine) (ticks : ℕ) (w : World) → globals_of_each (end_of (initialized_all z codes gs ticks w)).world ≡ globals_of_each w
initialized_lengths z codes gs ticks w = let r = initialized_all z codes gs ticks w in end_has (globals_of_each w) r (all_reply (globals_of_each w) z codes gs ticks w refl)

pub call_lists : (z : Environment) (codes : Codes) (budget : ℕ) (g : Routine) (vs : List Slot) (w : World) → SameLists w (end_of (called_with z codes budget g vs w)).world
call_lists z codes budget g vs w =
    lists_of w (end_of (called_with z codes budget g vs w)).world (call_lengths z codes budget g vs w)

pub initialized_lists : (z : Environment) (codes : Codes) (gs : List Routine) (ticks : ℕ) (w : World) → SameLists w (end_of (initialized_all z codes gs ticks w)).world
initialized_lists z codes gs ticks w =
    lists_of w (end_of (initialized_all z codes gs ticks w)).world (initialized_lengths z codes gs ticks w)
