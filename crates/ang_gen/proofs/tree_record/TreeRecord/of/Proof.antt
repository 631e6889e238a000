-- `of` makes a value of no bytes, at the tree that is lent.
use Rattle.std.proofs.Common.{ℕ, List, [], ◌∷◌, refl}
use seplogic.Ra.Ura.{Ura}
use mir.Syntax.{named}
use mir.Val.{Val, vptr, vstruct, vcons, vnil}
use base.Logic.{SProp, ent, emp, via, fst∗}
use base.Fml.{Lft, Share, ftrue, flft}
use prog.Memory.{Memory}
use prog.Routine.{Routine}
use prog.Wp.{Calls, Loops, WpFn, Tables}
use types.Logic.{Logic}
use contract.Monad.{Fun}
use contract.Running.{tables, tables_of}
use sound.WpLaws.{WpFn-mono}
use types.Kit.{‵, ◌⊛◌, raw, ◌$◌, ◌∵◌, !, qed, keep, drop, move, join, split, fsplit, suffices, done}
use types.Run.{no_more, and_then, returns, enter}
use types.Part.{agg}
use types.ByLocal.{alloc_all, pass_all, free_all, look_at, get, sets}
use denote.RattleType.{owns}
use denote.Ref.{Bor, ShrRef, shr_vals, shr_Tells}
use denote.Exit.{yes}
use denote.Shadow.{pure_i}
use denote.Signature.{plain}
use denote.Steps.{nothing}
use denote.Triple.Entry.{on_entry}
use denote.Triple.Spec.{Meets, triple_of}
use denote.Triple.Table.{entered}
use denote.Triple.Walked.{says, Stays, stay_none_ref, Goes-none_ref, walk_of, AllGo, Walks, ends_at, walked, walk_Meets}
use Rattle.ang_typed.specs.declared.program.Typed.{Typed}
use Rattle.ang_typed.specs.contracts.program.Typed as P
use Rattle.ang_gen.specs.declared.tree_record.TreeRecord.{TreeRecord}
use Rattle.ang_gen.specs.contracts.tree_record.TreeRecord as T
use Rattle.ang_gen.specs.contracts.tree_record.TreeRecord.of.Key.{name as #it}
use Rattle.ang_gen.specs.contracts.tree_record.TreeRecord.of as it
use Rattle.ang_gen.proofs.tree_record.TreeRecord.of.Statement as stated
use Rattle.ang_gen.proofs.tree_record.TreeRecord.of.Code as code

abbrev v : Val
v = vstruct (vcons (vstruct vnil) vnil)

abbrev stayed : Stays (it.ended).signature.params (it.ended).kept
stayed = (stay_none_ref (0 ∷ []) tt (plain (λ _. P.the_row)) yes, tt)

module _ {M : Type 1} {𝓤 : Ura M} (𝓛 : Logic 𝓤) (at_mem : Memory → SProp 𝓤) (run : Routine → Fun 𝓤) (κ : Lft) (q : Share) (d : Bor Typed) where
  open 𝓛 use {H, A}

  abbrev r : TreeRecord
  r = record { marker = record {}; tree = d.now }

  abbrev x : Bor Typed × Unit {0}
  x = (d, tt)

  abbrev at : List Val × Unit {0}
  at = (vptr d.ref_ptr.0 d.ref_ptr.1 ∷ [], tt)

  abbrev Post : Val → SProp 𝓤
  Post = (walk_of 𝓛 it.ended stayed (it.clauses 𝓛 at_mem run)).post (((κ, tt), (q, tt), tt, x, at), tt)

  module _ (C : Calls 𝓤 H) (Λ : Loops 𝓤 H) where
    walk : ent 𝓤 (on_entry 𝓛 it.signature (κ, tt) (q, tt) x at) (WpFn 𝓤 H C Λ code.function (vptr d.ref_ptr.0 d.ref_ptr.1 ∷ []) Post)
    walk =
        qed 𝓛 ((‵ (flft κ q) ⊛ ‵ ftrue) ∷ ‵ (owns (ShrRef (named 0) κ P.the_row ∷ []) x at) ∷ []) ∵
        enter ! C Λ code.function (vptr d.ref_ptr.0 d.ref_ptr.1 ∷ []) _ $
        alloc_all ! (λ l. pass_all ! refl ((tt, tt), tt) $
        sets ! (agg ! (no_more !)) refl (tt, tt) $ sets ! (agg ! (and_then ! (get ! refl) (no_more !))) refl (tt, (tt, tt)) $
        returns ! (look_at ! 0 refl) $ free_all ! refl $
        pure_i ! ((T.the_row).own_val r (v ∷ [])) ((λ vss. (tt, ((λ uss. (tt, tt)), tt))), tt) (((vstruct vnil ∷ [], tt), (refl, ((tt, (refl, tt)), tt))), tt) $
        suffices ! _ (ends_at 𝓛 it.ended stayed (it.clauses 𝓛 at_mem run) (((κ, tt), (q, tt), tt, x, at), tt) v r (tt, tt) (tt, tt)) $ says ! refl $
        move ! (1 ∷ 2 ∷ []) $ done !)

module _ {M : Type 1} {𝓤 : Ura M} (𝓛 : Logic 𝓤) (at_mem : Memory → SProp 𝓤) (run : Routine → Fun 𝓤) where
  open 𝓛 use {H}

  walks : (C : Calls 𝓤 H) (Λ : Loops 𝓤 H) → Walks 𝓛 it.ended stayed (WpFn 𝓤 H C Λ code.function) (it.clauses 𝓛 at_mem run)
  walks C Λ = walked 𝓛 it.ended stayed (it.clauses 𝓛 at_mem run) (WpFn 𝓤 H C Λ code.function)
      (λ κs. (shr_vals, tt))
      (λ κs. (shr_Tells (named 0) κs.0 P.the_row, tt))
      (λ κs qs bounds a _ are. via 𝓤 _ (fst∗ 𝓤 _ (emp 𝓤)) (walk 𝓛 at_mem run κs.0 qs.0 a.0 C Λ))

  goes : AllGo 𝓛 1 (it.signature).params (it.ended).kept stayed
  goes = (Goes-none_ref 𝓛 1 (0 ∷ []) tt (plain (λ _. P.the_row)) yes, tt)

meets : {M : Type 1} {𝓤 : Ura M} (𝓛 : Logic 𝓤) → (at_mem : Memory → SProp 𝓤) (run : Routine → Fun 𝓤) (𝓣 : Tables 𝓤 𝓛.H)
    → Meets 𝓛 it.signature (WpFn 𝓤 𝓛.H 𝓣.C 𝓣.Λ code.function) (it.spec 𝓛 at_mem run)
meets {𝓤 = 𝓤} 𝓛 at_mem run 𝓣 = walk_Meets 𝓛 it.ended stayed (goes 𝓛 at_mem run) (it.clauses 𝓛 at_mem run) (WpFn 𝓤 𝓛.H 𝓣.C 𝓣.Λ code.function) (WpFn-mono 𝓤 𝓛.H 𝓛.laws 𝓣 code.function) (walks 𝓛 at_mem run 𝓣.C 𝓣.Λ)

pub of_spec : {M : Type 1} → stated.statement M
unfolding tables_of
of_spec 𝓤 𝓛 𝓜 𝓡 wired =
    entered 𝓤 𝓛.H (triple_of 𝓛 it.signature (it.spec 𝓛 𝓜.mem 𝓡.returns))
    (tables 𝓤 𝓛.H 𝓜 𝓡 𝓡.env).C (tables 𝓤 𝓛.H 𝓜 𝓡 𝓡.env).Λ #it code.function (code.unfolded 𝓤 𝓛.H 𝓜 𝓡 wired)
    (meets 𝓛 𝓜.mem 𝓡.returns (tables_of 𝓤 𝓛.H 𝓜 (tables 𝓤 𝓛.H 𝓜 𝓡 𝓡.env)))
