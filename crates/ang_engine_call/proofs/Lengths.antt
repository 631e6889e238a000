-- Values that are not as many as the parameters.
use Rattle.std.proofs.Common.{◌≡◌, ◌≢◌, List, [], ◌∷◌, length, Option, Some, None, refl, ap, ◌∙◌, arith}
use Rattle.ang_kinds.specs.declared.value.Value.{Value}
use Rattle.ang_meaning.specs.declared.slot.Slot.{Slot}
use Rattle.ang_names_known.specs.declared.names.ScriptParameter.{ScriptParameter}
use Rattle.ang_engine_call.specs.Calls.{argument_of, in_front, arguments_for}

in_front-none : (x : Option Slot) → in_front x None ≡ None
in_front-none None = refl
in_front-none (Some x) = refl

pub arguments_for-none : (ps : List ScriptParameter) (vs : List Value) → length vs ≢ length ps → arguments_for ps vs ≡ None
arguments_for-none [] [] h = absurd (h refl)
arguments_for-none [] (v ∷ vs) h = refl
arguments_for-none (p ∷ ps) [] h = refl
arguments_for-none (p ∷ ps) (v ∷ vs) h =
    ap (in_front (argument_of p v)) (arguments_for-none ps vs (omega arith)) ∙ in_front-none (argument_of p v)
