-- Compiled modules behave as their sources: a code is that of its body, which means what its source means.
use Rattle.std.proofs.Common.{◌≡◌, ◌≢◌, ℕ, zero, suc, ◌+◌, ◌<◌, ◌^◌, List, [], ◌∷◌, length, Some, None, refl, sym, ap, ◌∙◌, subst, map}
use Rattle.std.specs.Prelude.{Bool, true, false, ◌==◌, slice_get}
use Rattle.std.specs.List.{AllZip}
use Rattle.std.proofs.lemmas.Bool.{eqb-true, eqb-false}
use Rattle.std.specs.declared.vec.Vec.{Vec}
use Rattle.std.specs.declared.alloc.Global.{Global}
use Rattle.ang_view.specs.Registration.{RegistrationList}
use Rattle.ang_typed.specs.Typed as tree
use Rattle.ang_meaning.specs.declared.routine.Routine.{Routine}
use Rattle.ang_meaning.specs.declared.routine.Passing.{Passing}
use Rattle.ang_meaning.specs.Environment.{Environment}
use Rattle.ang_meaning.specs.Results.{Reply, Yields, Raises}
use Rattle.ang_core.specs.declared.tree.CoreBody.{CoreBody}
use Rattle.ang_core.specs.Meaning.{Bodies}
use Rattle.ang_core.specs.Sound.{LinksFit, AreSound}
use Rattle.ang_code.specs.declared.instruction.RoutineCode.{RoutineCode}
use Rattle.ang_code.specs.Machine.{Texts, Config, Over, Stuck, steps, call_begins, initializer_begins}
use Rattle.ang_code.proofs.Steps.{one_end}
use Rattle.ang_gen.specs.Code.{body_code}
use Rattle.ang_gen.specs.Heights.{BelowBody}
use Rattle.ang_gen.specs.BodyBehaves.{outcome_of, IsCode}
use Rattle.ang_gen.proofs.Bodies.{behaves}
use Rattle.ang_source.specs.Meaning.{Codes, code_or, passings_in, results_in, called_with, initialized}
use Rattle.ang_source.specs.Sound.{module_of}
use Rattle.ang_lower.specs.Same.{AreBodies, AreLowered, MeansSame}
use Rattle.ang_lower.proofs.Follows.{everywhere}
use Rattle.ang_lower.proofs.Methods.{methods_fit}
use Rattle.ang_lower.proofs.Modules.{params_are, results_are, lowers_program, keeps_sound, sound_together}
use Rattle.ang_gen.specs.Programs.{IsBodyCode, items_in, statement_in, text_in, height_in, texts_of}
use Rattle.ang_gen.specs.Compiled.{IsCompiled}
use Rattle.ang_gen.specs.Behaves.{HasCodes, IsModule, RunsCode, sources_of, BehavesAsSource, MeansProgram, NeverStuck}

-- ---- the codes of one module

-- codes take their arguments as their bodies do
params_same : (bs : List CoreBody) (cs : List RoutineCode) → AllZip IsBodyCode bs cs → map (λ c. c.params.items) cs ≡ map (λ b. b.params.items) bs
params_same [] [] all = refl
params_same [] (c ∷ cs) all = absurd all
params_same (b ∷ bs) [] all = absurd all
params_same (b ∷ bs) (c ∷ cs) all = ap (λ l. l ∷ map (λ x. x.params.items) cs) all.0.params ∙ ap (λ ls. b.params.items ∷ ls) (params_same bs cs all.1)

pub takes : (p : tree.Program) (codes : List RoutineCode) → IsCompiled p codes → map (λ c. c.params.items) codes ≡ passings_in p
takes p codes is = params_same is.bodies codes is.code ∙ params_are p is.bodies is.lowered

-- and their values are of the types of their bodies'
results_same : (bs : List CoreBody) (cs : List RoutineCode) → AllZip IsBodyCode bs cs → map (λ c. c.result) cs ≡ map (λ b. b.result) bs
results_same [] [] all = refl
results_same [] (c ∷ cs) all = absurd all
results_same (b ∷ bs) [] all = absurd all
results_same (b ∷ bs) (c ∷ cs) all = ap (λ l. l ∷ map (λ x. x.result) cs) all.0.result ∙ ap (λ ls. b.result ∷ ls) (results_same bs cs all.1)

pub gives : (p : tree.Program) (codes : List RoutineCode) → IsCompiled p codes → map (λ c. c.result) codes ≡ results_in p
gives p codes is = results_same is.bodies codes is.code ∙ results_are p is.bodies is.lowered

-- a body that takes these arguments, with its code
record CodeAt (bs : List CoreBody) (cs : List RoutineCode) (k : ℕ) (ps : List Passing) : Type 0 where
  body : CoreBody
  body_at : slice_get bs k ≡ Some body
  code : RoutineCode
  code_at : slice_get cs k ≡ Some code
  is : IsBodyCode body code
  params : body.params.items ≡ ps

found : (bs : List CoreBody) (cs : List RoutineCode) (k : ℕ) (ps : List Passing) → AllZip IsBodyCode bs cs → slice_get (map (λ b. b.params.items) bs) k ≡ Some ps → CodeAt bs cs k ps
found [] cs k ps all e = absurd (cc)
found (b ∷ bs) [] k ps all e = absurd all
found (b ∷ bs) (c ∷ cs) zero ps all e =
    let same : b.params.items ≡ ps = cc in
    record { body = b; body_at = refl; code = c; code_at = refl; is = all.0; params = same }
found (b ∷ bs) (c ∷ cs) (suc k) ps all e =
    let r = found bs cs k ps all.1 e in
    record { body = r.body; body_at = r.body_at; code = r.code; code_at = r.code_at; is = r.is; params = r.params }

-- the texts of several modules
pub texts_there : (modules : List (Vec RoutineCode Global)) (m : ℕ) (codes : Vec RoutineCode Global) → slice_get modules m ≡ Some codes → HasCodes m codes.items (texts_of modules)
texts_there modules m codes there = record {
  text = λ k c at. ap (λ o. text_in (slice_get (items_in o) k)) there ∙ ap text_in at;
  height = λ k c at. ap (λ o. height_in (slice_get (items_in o) k)) there ∙ ap height_in at;
}

-- ---- all modules

module _ (z : Environment) (V : ℕ → RegistrationList) (program : ℕ → tree.Program) (code : Texts) (ms : (m : ℕ) → IsModule z m (V m) (program m) code) (links : LinksFit z) where
  -- the core bodies of all modules
  abbrev bodies : Bodies
  bodies g = statement_in (slice_get (ms g.home).compiled.bodies g.number)

  are_bodies : (m : ℕ) → AreBodies m (ms m).compiled.bodies bodies
  are_bodies m = record { each = λ k b there. ap statement_in there }

  code_of : (g : Routine) (ps : List Passing) → z.params g ≡ Some ps → CodeAt (ms g.home).compiled.bodies (ms g.home).codes g.number ps
  code_of g ps known =
      let x = ms g.home in
      found x.compiled.bodies x.codes g.number ps x.compiled.code
      (ap (λ l. slice_get l g.number) (params_are (program g.home) x.compiled.bodies x.compiled.lowered) ∙ sym (x.program.bodies g.number) ∙ known)

  is_code : IsCode z bodies code
  is_code = record {
    text = λ g ps known.
        let x = ms g.home in
        let a = code_of g ps known in
        x.texts.text g.number a.code a.code_at ∙ a.is.text ∙ ap (λ l. body_code (length l) a.body.statement) a.params
        ∙ ap (λ s. body_code (length ps) s) (sym (ap statement_in a.body_at));
    room = λ g ps known.
        let x = ms g.home in
        let a = code_of g ps known in
        let own : BelowBody (length ps + a.code.height) (length ps) a.body.statement =
        subst (λ l. BelowBody (length l + a.code.height) (length l) a.body.statement) a.params a.is.height.enough in
        let here : BelowBody (length ps + a.code.height) (length ps) (bodies g) =
        subst (λ s. BelowBody (length ps + a.code.height) (length ps) s) (sym (ap statement_in a.body_at)) own in
        subst (λ h. BelowBody (length ps + h) (length ps) (bodies g)) (sym (x.texts.height g.number a.code a.code_at)) here;
    counted = λ g ps known.
        let x = ms g.home in
        let a = code_of g ps known in
        let own : length ps + a.code.height < 2 ^ 64 = subst (λ l. length l + a.code.height < 2 ^ 64) a.params a.is.counted in
        subst (λ h. length ps + h < 2 ^ 64) (sym (x.texts.height g.number a.code a.code_at)) own;
  }

  are_sound : AreSound z bodies
  are_sound = sound_together z bodies
      (λ m. (keeps_sound (program m) (ms m).compiled.bodies (ms m).compiled.lowered).sound (V m) z m bodies (ms m).sound (ms m).view (ms m).program (are_bodies m))
      links

  are_lowered : (m : ℕ) → AreLowered z m (module_of (V m) (program m)) bodies (sources_of program)
  are_lowered m =
      let x = ms m in
      (lowers_program (program m) x.compiled.bodies x.compiled.lowered).lowered (V m) z m bodies (sources_of program) x.sound x.program (are_bodies m)
      (record { each = λ k c there. ap code_or there })

  bodies_mean : (g : Routine) → MeansSame z bodies (sources_of program) g
  bodies_mean g = everywhere z (λ m. module_of (V m) (program m)) bodies (sources_of program) are_lowered links g

  pub behaves_as_source : BehavesAsSource z (sources_of program) code
  behaves_as_source =
      let b = behaves z bodies code are_sound is_code in
      record {
        calls = λ budget g ps vs w known count.
            let p = b.calls budget g ps vs w known count in
            (p.0, p.1 ∙ ap (λ r. Over (outcome_of r)) ((bodies_mean g).calls budget ps vs w known count));
        initializers = λ ticks g w known.
            let p = b.initializers ticks g w known in
            (p.0, p.1 ∙ ap (λ r. Over (outcome_of r)) ((bodies_mean g).initializers ticks w known));
      }

-- ---- one module among others

module _ (p : tree.Program) (codes : List RoutineCode) (compiled : IsCompiled p codes) where
  module _ (z : Environment) (V : ℕ → RegistrationList) (program : ℕ → tree.Program) (code : Texts) (m : ℕ) (same : program m ≡ p) (own : IsModule z m (V m) p code)
      (others : (k : ℕ) → k ≢ m → IsModule z k (V k) (program k) code) where
    module_by : (k : ℕ) (b : Bool) → (k == m) ≡ b → IsModule z k (V k) (program k) code
    module_by k true e = subst (λ i. IsModule z i (V i) (program i) code) (sym (eqb-true k m e)) (subst (λ q. IsModule z m (V m) q code) (sym same) own)
    module_by k false e = others k (eqb-false k m e)

    all_modules : (k : ℕ) → IsModule z k (V k) (program k) code
    all_modules k = module_by k (k == m) refl

  pub means : MeansProgram p codes
  means = record {
    behaves = λ z V program code m same sound view has texts others links.
        behaves_as_source z V program code
        (all_modules z V program code m same (record { sound = sound; view = view; program = has; codes = codes; compiled = compiled; texts = texts }) others) links;
  }

-- ---- where no import is bound

-- methods fit their slots
pub modules_fit : (z : Environment) (V : ℕ → RegistrationList) (program : ℕ → tree.Program) (code : Texts) → ((m : ℕ) → IsModule z m (V m) (program m) code)
    → ((m i : ℕ) → z.linked m i ≡ None) → LinksFit z
modules_fit z V program code ms none = record {
  same = λ m i g there. let e : None ≡ Some g = sym (none m i) ∙ there in absurd (cc);
  methods = λ m c s g there. methods_fit (V m) z m (program m) (ms m).sound (ms m).program c s g there;
}

-- ---- never stuck

-- an end that a reply is
not_stuck : (r : Reply) → Over (outcome_of r) ≢ Over Stuck
not_stuck (Yields v outs t w) e = absurd (cc)
not_stuck (Raises x w) e = absurd (cc)

never : (z : Environment) (code : Texts) (m n : ℕ) (c : Config) (r : Reply) → steps z code m c ≡ Over (outcome_of r) → steps z code n c ≢ Over Stuck
never z code m n c r e h = not_stuck r (one_end z code m n c (outcome_of r) Stuck e h)

pub never_stuck : (z : Environment) (sources : Codes) (code : Texts) → BehavesAsSource z sources code → NeverStuck z code
never_stuck z sources code b = record {
  calls = λ budget g ps vs w known count n.
      let p = b.calls budget g ps vs w known count in
      never z code p.0 n (call_begins z code budget g vs w) (called_with z sources budget g vs w) p.1;
  initializers = λ ticks g w known n.
      let p = b.initializers ticks g w known in
      never z code p.0 n (initializer_begins z code ticks g w) (initialized z sources ticks g w) p.1;
}

-- nor is well-formed code
pub none_lost : (z : Environment) (codes : ℕ → List RoutineCode) (code : Texts) → ((m : ℕ) → RunsCode z m (codes m) code) → LinksFit z → NeverStuck z code
none_lost z codes code runs links =
    never_stuck z (sources_of (λ m. (runs m).well_formed.program)) code
    (behaves_as_source z (λ m. (runs m).well_formed.view) (λ m. (runs m).well_formed.program) code
    (λ m.
    let r = runs m in
    record { sound = r.well_formed.sound; view = r.view; program = r.program; codes = codes m; compiled = r.well_formed.compiled; texts = r.texts }) links)
