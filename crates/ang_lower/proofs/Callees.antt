-- What a call enters takes what the module says of what it calls: a function by its own parameters, an import by what it declares, a method by its slot.
use Rattle.std.specs.FinMap as map
use Rattle.std.proofs.Common.{◌≡◌, ℕ, List, Option, Some, None, refl, sym, ap, ◌∙◌}
use Rattle.ang_typed.specs.declared.expression.TypedCallee as typed
use Rattle.ang_typed.specs.declared.expression.TypedCallee.TheVariants as callee
use Rattle.ang_typed.specs.declared.program.TypedParameter.{TypedParameter}
use Rattle.ang_meaning.specs.declared.slot.Slot.{Slot}
use Rattle.ang_meaning.specs.declared.slot.Slot.TheVariants.{Bits, Script, Host}
use Rattle.ang_meaning.specs.declared.routine.Routine.{Routine}
use Rattle.ang_meaning.specs.declared.routine.Passing.{Passing}
use Rattle.ang_meaning.specs.World.{World, ScriptRecord}
use Rattle.ang_meaning.specs.Environment.{Environment, Enters, bound, target, receiver_in, params_in, virtual_of, method_of}
use Rattle.ang_core.specs.Sound.{LinksFit}
use Rattle.ang_source.specs.Meaning.{callee_of, passings_of, routine}
use Rattle.ang_source.specs.Sound.{Module, parameters_of}
use Rattle.ang_lower.specs.Same.{HasCallees}

same_routine : (r g : Routine) → Enters r ≡ Enters g → r ≡ g
same_routine r g e = cc

import_takes : (z : Environment) (m i : ℕ) (ps : List Passing) (g : Routine) (o : Option Routine) → LinksFit z → z.imported m i ≡ Some ps → z.linked m i ≡ o → bound o ≡ Enters g
    → z.params g ≡ Some ps
import_takes z m i ps g None links known is e = absurd (cc)
import_takes z m i ps g (Some r) links known is e = links.same m i g (is ∙ ap Some (same_routine r g e)) ∙ known

slot_takes : (z : Environment) (m n s : ℕ) (ps : List Passing) (g : Routine) (o : Option Routine) → LinksFit z → z.slot m s ≡ Some ps → z.method m n s ≡ o → bound o ≡ Enters g
    → z.params g ≡ Some ps
slot_takes z m n s ps g None links known is e = absurd (cc)
slot_takes z m n s ps g (Some r) links known is e = links.methods m n s g (is ∙ ap Some (same_routine r g e)) ∙ known

method_takes : (z : Environment) (m s : ℕ) (ps : List Passing) (g : Routine) (o : Option ScriptRecord) → LinksFit z → z.slot m s ≡ Some ps → method_of z m s o ≡ Enters g → z.params g ≡ Some ps
method_takes z m s ps g None links known e = absurd (cc)
method_takes z m s ps g (Some o) links known e = slot_takes z m o.class s ps g (z.method m o.class s) links known refl e

virtual_takes : (z : Environment) (m s : ℕ) (ps : List Passing) (g : Routine) → LinksFit z → z.slot m s ≡ Some ps → (v : Slot) (w : World) → virtual_of z m s v w ≡ Enters g → z.params g ≡ Some ps
virtual_takes z m s ps g links known (Bits n) w e = absurd (cc)
virtual_takes z m s ps g links known (Script None) w e = absurd (cc)
virtual_takes z m s ps g links known (Script (Some n)) w e = method_takes z m s ps g (map.get w.objects n) links known e
virtual_takes z m s ps g links known (Host d k) w e = absurd (cc)

pub takes : (z : Environment) (m : ℕ) (M : Module) → HasCallees z m M → LinksFit z → (f : typed.TypedCallee) (ps : List TypedParameter) → parameters_of M f ≡ Some ps
    → (g : Routine) (vs : List Slot) (w : World) → target z m (callee_of f) vs w ≡ Enters g → z.params g ≡ Some (passings_of ps)
unfolding target
takes z m M has links (callee.Own k) ps at g vs w e = ap (λ r. z.params r) (sym (same_routine (routine m k) g e)) ∙ has.functions k ps at
takes z m M has links (callee.Import i) ps at g vs w e = import_takes z m i (passings_of ps) g (z.linked m i) links (has.imports i ps at) refl e
takes z m M has links (callee.Chosen s) ps at g vs w e =
    virtual_takes z m s (passings_of ps) g links (has.methods s ps at) (receiver_in (params_in (z.slot m s)) vs) w e
