-- Where a sound call leads.
use Rattle.std.specs.FinMap as map
use Rattle.ang_meaning.specs.declared.slot.Slot.TheVariants.{Bits, Script, Host}
use Rattle.std.specs.Prelude.{◌-◌, slice_index_or}
use Rattle.std.proofs.lemmas.List.{take-append-le}
use Rattle.std.proofs.Common.{◌≡◌, ℕ, List, ◌++◌, arith, length, Option, Some, None, refl, ap, ◌∙◌, subst}
use Rattle.ang_meaning.specs.declared.slot.Slot.{Slot}
use Rattle.ang_meaning.specs.declared.routine.Routine.{Routine}
use Rattle.ang_meaning.specs.declared.routine.Callee.{Callee}
use Rattle.ang_meaning.specs.declared.routine.Callee.TheVariants.{Own, Import, Virtual}
use Rattle.ang_meaning.specs.declared.routine.Passing.{Passing}
use Rattle.ang_meaning.specs.World.{World, ScriptRecord}
use Rattle.ang_meaning.specs.Environment.{Environment, Enters, bound, target, receiver_in, params_in, virtual_of, method_of}
use Rattle.ang_core.specs.Sound.{out_count, Takes, Fits, LinksFit}

receiver_front : (ps : List Passing) (vs rest : List Slot) → length ps ≡ length vs → receiver_in ps (vs ++ rest) ≡ receiver_in ps vs
receiver_front ps vs rest e = ap (λ l. slice_index_or l (length ps - 1) (Bits 0)) (take-append-le (length ps) vs rest (omega (arith, e)))

-- what lies below the arguments makes no difference
pub target_front : (z : Environment) (m : ℕ) (f : Callee) (outs : ℕ) (vs rest : List Slot) (w : World) → Fits z m f (length vs) outs → target z m f (vs ++ rest) w ≡ target z m f vs w
unfolding target
target_front z m (Own g) outs vs rest w fit = refl
target_front z m (Import i) outs vs rest w fit = refl
target_front z m (Virtual s) outs vs rest w fit =
    ap (λ v. virtual_of z m s v w) (receiver_front (params_in (z.slot m s)) vs rest (ap (λ o. length (params_in o)) fit.1 ∙ fit.2))

same_routine : (r g : Routine) → Enters r ≡ Enters g → r ≡ g
same_routine r g e = cc

import_leads : (z : Environment) (m i args outs : ℕ) (ps : List Passing) (g : Routine) (o : Option Routine) → LinksFit z → z.imported m i ≡ Some ps → length ps ≡ args → out_count ps ≡ outs → z.linked m i ≡ o → bound o ≡ Enters g → Takes z g args outs
import_leads z m i args outs ps g None links known count given is e = absurd (cc)
import_leads z m i args outs ps g (Some r) links known count given is e =
    let here : r ≡ g = same_routine r g e in
    record { params = ps; known = links.same m i g (is ∙ ap Some here) ∙ known; count = count; given = given }

slot_leads : (z : Environment) (m c s args outs : ℕ) (ps : List Passing) (g : Routine) (o : Option Routine) → LinksFit z → z.slot m s ≡ Some ps → length ps ≡ args → out_count ps ≡ outs → z.method m c s ≡ o → bound o ≡ Enters g → Takes z g args outs
slot_leads z m c s args outs ps g None links known count given is e = absurd (cc)
slot_leads z m c s args outs ps g (Some r) links known count given is e =
    let here : r ≡ g = same_routine r g e in
    record { params = ps; known = links.methods m c s g (is ∙ ap Some here) ∙ known; count = count; given = given }

method_leads : (z : Environment) (m s args outs : ℕ) (ps : List Passing) (g : Routine) (o : Option ScriptRecord) → LinksFit z → z.slot m s ≡ Some ps → length ps ≡ args → out_count ps ≡ outs → method_of z m s o ≡ Enters g → Takes z g args outs
method_leads z m s args outs ps g None links known count given e = absurd (cc)
method_leads z m s args outs ps g (Some o) links known count given e = slot_leads z m o.class s args outs ps g (z.method m o.class s) links known count given refl e

virtual_leads : (z : Environment) (m s args outs : ℕ) (ps : List Passing) (g : Routine) → LinksFit z → z.slot m s ≡ Some ps → length ps ≡ args → out_count ps ≡ outs → (v : Slot) (w : World) → virtual_of z m s v w ≡ Enters g → Takes z g args outs
virtual_leads z m s args outs ps g links known count given (Bits n) w e = absurd (cc)
virtual_leads z m s args outs ps g links known count given (Script None) w e = absurd (cc)
virtual_leads z m s args outs ps g links known count given (Script (Some n)) w e = method_leads z m s args outs ps g (map.get w.objects n) links known count given e
virtual_leads z m s args outs ps g links known count given (Host d k) w e = absurd (cc)

pub leads : (z : Environment) (m : ℕ) (f : Callee) (args outs : ℕ) → LinksFit z → Fits z m f args outs → (g : Routine) (vs : List Slot) (w : World) → target z m f vs w ≡ Enters g → Takes z g args outs
unfolding target
leads z m (Own n) args outs links fit g vs w e = subst (λ r. Takes z r args outs) (same_routine (record { home = m; number = n }) g e) fit
leads z m (Import i) args outs links fit g vs w e = import_leads z m i args outs fit.0 g (z.linked m i) links fit.1 fit.2 fit.3 refl e
leads z m (Virtual s) args outs links fit g vs w e =
    virtual_leads z m s args outs fit.0 g links fit.1 fit.2 fit.3 (receiver_in (params_in (z.slot m s)) vs) w e
