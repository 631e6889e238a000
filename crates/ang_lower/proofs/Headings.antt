-- What a setting has of a module's tree is what the module calls.
use Rattle.std.proofs.Common.{◌≡◌, ℕ, zero, suc, ◌<◌, List, [], ◌∷◌, ◌++◌, length, refl, ap, ◌∙◌, arith, Some, map}
use Rattle.std.specs.Prelude.{true, is_some, option_map, slice_get}
use Rattle.ang_view.specs.Registration.{RegistrationList}
use Rattle.ang_typed.specs.declared.program.TypedClass.{TypedClass}
use Rattle.ang_typed.specs.declared.program.Heading.{Heading}
use Rattle.ang_typed.specs.declared.program.TypedParameter.{TypedParameter}
use Rattle.ang_typed.specs.Typed as tree
use Rattle.ang_meaning.specs.declared.routine.Passing.{Passing}
use Rattle.ang_meaning.specs.Environment.{Environment}
use Rattle.ang_source.specs.Meaning.{passings_of, initializers_from, heading_among, class_of}
use Rattle.ang_source.specs.Sound.{module_of}
use Rattle.ang_lower.specs.Same.{HasCallees, HasProgram}

passings_at : (fs : List tree.TypedFunction) (rest : List (List Passing)) (f : ℕ) (ps : List TypedParameter) → slice_get (map (λ x. x.parameters) fs) f ≡ Some ps
    → slice_get (map (λ x. passings_of x.parameters) fs ++ rest) f ≡ Some (passings_of ps)
passings_at [] rest f ps e = absurd (cc)
passings_at (x ∷ fs) rest zero ps e = let same : x.parameters ≡ ps = cc in ap (λ qs. Some (passings_of qs)) same
passings_at (x ∷ fs) rest (suc f) ps e = passings_at fs rest f ps e

heading_at : (hs : List Heading) (i : ℕ) (ps : List TypedParameter) → slice_get (map (λ h. h.parameters) hs) i ≡ Some ps → heading_among hs i ≡ Some (passings_of ps)
heading_at [] i ps e = absurd (cc)
heading_at (h ∷ hs) zero ps e = let same : h.parameters ≡ ps = cc in ap (λ qs. Some (passings_of qs)) same
heading_at (h ∷ hs) (suc i) ps e = heading_at hs i ps e

class_there : (all : List TypedClass) (k : ℕ) (cs : List TypedClass) (n : ℕ) → n < length cs → is_some (option_map (class_of all k) (slice_get cs n)) ≡ true
class_there all k [] n lt = absurd (omega arith)
class_there all k (c ∷ cs) zero lt = refl
class_there all k (c ∷ cs) (suc n) lt = class_there all k cs n (omega arith)

pub has_callees : (V : RegistrationList) (z : Environment) (m : ℕ) (p : tree.Program) → HasProgram z m p → HasCallees z m (module_of V p)
has_callees V z m p has = record {
  functions = λ f ps there. has.bodies f ∙ passings_at p.functions (map (λ x. []) (initializers_from 0 p.globals)) f ps there;
  imports = λ i ps there. has.imports i ∙ heading_at p.imports i ps there;
  methods = λ s ps there. has.slots s ∙ heading_at p.methods s ps there;
  classes = λ n lt. ap is_some (has.classes n) ∙ class_there p.classes n p.classes n lt;
}
