-- The bodies of a module are lowered from its code, which is sound.
use Rattle.std.proofs.Common.{◌≡◌, ℕ, zero, suc, ◌+◌, ◌<◌, ◌≤◌, List, [], ◌∷◌, ◌++◌, length, refl, sym, ap, ◌∙◌, subst, arith, Option, Some, None, map}
use Rattle.std.specs.Prelude.{false, slice_get}
use Rattle.std.proofs.lemmas.Option.{get_or_from_slice_get}
use Rattle.ang_kinds.specs.declared.primitive.Primitive.{Primitive}
use Rattle.ang_view.specs.Registration.{RegistrationList}
use Rattle.ang_typed.specs.Typed as tree
use Rattle.ang_meaning.specs.declared.routine.Passing.{Passing}
use Rattle.ang_meaning.specs.Environment.{Environment}
use Rattle.ang_core.specs.declared.tree.CoreBody.{CoreBody}
use Rattle.ang_core.specs.Meaning.{Bodies}
use Rattle.ang_core.specs.Sound.{LinksFit, AreSound}
use Rattle.ang_source.specs.Meaning.{Code, of_function, Codes, passings_of, codes_of, codes_in, code_or, passings_in, results_in, initializer_of, initializers_from, nothing, routine}
use Rattle.ang_types.specs.ArgTypes.{primitive_of}
use Rattle.ang_source.specs.Sound.{Module, module_of, SoundOption, SoundStatements, SoundFunctions, SoundGlobals, SoundProgram}
use Rattle.ang_lower.specs.Tree as stmt
use Rattle.ang_lower.specs.Plain.{plain_stmt, plain_body}
use Rattle.ang_lower.specs.Lowered.{lowered_code, lowered_function, lowered_initializer, lowered_globals, lowered_module}
use Rattle.ang_source.specs.Hosts.{HasView}
use Rattle.ang_lower.specs.Same.{SoundCode, AreLowered, AreSoundIn, HasProgram, AreBodies, AreCodes, LowersProgram, KeepsSound}
use Rattle.ang_lower.proofs.PlainSound.{IsSoundStmt, statement_is}
use Rattle.ang_lower.proofs.Headings.{has_callees}
use Rattle.ang_lower.proofs.Follows.{passings_count}
use Rattle.ang_lower.proofs.Sounds.{code_sound}

-- each body with its code and how its parameters take their arguments
abbrev pub AllFit : Module → List (List Passing) → List Code → List stmt.Whole → Type 0
AllFit M [] [] [] = Unit {0}
AllFit M [] [] (b ∷ bs) = ⊥
AllFit M [] (x ∷ xs) bs = ⊥
AllFit M (ps ∷ pss) [] bs = ⊥
AllFit M (ps ∷ pss) (x ∷ xs) [] = ⊥
AllFit M (ps ∷ pss) (x ∷ xs) (b ∷ bs) = (b.statement ≡ lowered_code (length ps) x) × SoundCode M (length ps) x × AllFit M pss xs bs

functions_fit : (M : Module) (fs : List tree.TypedFunction) (pss : List (List Passing)) (xs : List Code) (bs : List stmt.Whole) → SoundFunctions M fs → AllFit M pss xs bs
    → AllFit M (map (λ f. passings_of f.parameters) fs ++ pss) (map (λ f. of_function f.body) fs ++ xs) (map lowered_function fs ++ bs)
functions_fit M [] pss xs bs h k = k
functions_fit M (f ∷ fs) pss xs bs h k =
    let e = passings_count f.parameters in
    (ap (λ n. lowered_code n (of_function f.body)) (sym e), subst (λ n. SoundStatements M false n f.body) (sym e) h.0, functions_fit M fs pss xs bs h.1 k)

one_fits : (M : Module) (g : ℕ) (i : Option tree.Expr) (xs : List Code) (bs : List stmt.Whole) → SoundOption M 0 i → g < M.globals → AllFit M (map (λ x. []) xs) xs bs
    → AllFit M (map (λ x. []) (initializer_of g i ++ xs)) (initializer_of g i ++ xs) (lowered_initializer g i ++ bs)
one_fits M g None xs bs h lt k = k
one_fits M g (Some e) xs bs h lt k = (refl, (lt, h), k)

globals_fit : (M : Module) (gs : List tree.Global) (g : ℕ) → SoundGlobals M gs → g + length gs ≤ M.globals → AllFit M (map (λ x. []) (initializers_from g gs)) (initializers_from g gs) (lowered_globals g gs)
globals_fit M [] g h le = tt
globals_fit M (x ∷ gs) g h le = one_fits M g x.initializer (initializers_from (suc g) gs) (lowered_globals (suc g) gs) h.0 (omega (arith, le)) (globals_fit M gs (suc g) h.1 (omega (arith, le)))

module_fits : (V : RegistrationList) (p : tree.Program) → SoundProgram V p → AllFit (module_of V p) (passings_in p) (codes_of p) (lowered_module p)
module_fits V p h =
    let M = module_of V p in
    functions_fit M p.functions (map (λ x. []) (initializers_from 0 p.globals)) (initializers_from 0 p.globals) (lowered_globals 0 p.globals) h.functions
    (globals_fit M p.globals 0 h.globals (omega arith))

-- ---- a body by its number

record FitAt (M : Module) (xs : List Code) (bs : List stmt.Whole) (k : ℕ) (ps : List Passing) : Type 0 where
  code : Code
  code_at : slice_get xs k ≡ Some code
  body : stmt.Whole
  body_at : slice_get bs k ≡ Some body
  same : body.statement ≡ lowered_code (length ps) code
  sound : SoundCode M (length ps) code

fit_at : (M : Module) (pss : List (List Passing)) (xs : List Code) (bs : List stmt.Whole) (k : ℕ) (ps : List Passing) → AllFit M pss xs bs → slice_get pss k ≡ Some ps → FitAt M xs bs k ps
fit_at M [] [] [] k ps h e = absurd (cc)
fit_at M [] [] (b ∷ bs) k ps h e = absurd h
fit_at M [] (x ∷ xs) bs k ps h e = absurd h
fit_at M (q ∷ pss) [] bs k ps h e = absurd h
fit_at M (q ∷ pss) (x ∷ xs) [] k ps h e = absurd h
fit_at M (q ∷ pss) (x ∷ xs) (b ∷ bs) zero ps h e =
    let same : q ≡ ps = cc in
    record { code = x; code_at = refl; body = b; body_at = refl; same = h.0 ∙ ap (λ r. lowered_code (length r) x) same; sound = subst (λ r. SoundCode M (length r) x) same h.1 }
fit_at M (q ∷ pss) (x ∷ xs) (b ∷ bs) (suc k) ps h e =
    let r = fit_at M pss xs bs k ps h.2 e in
    record { code = r.code; code_at = r.code_at; body = r.body; body_at = r.body_at; same = r.same; sound = r.sound }

record PlainAt (bs : List CoreBody) (k : ℕ) (x : stmt.Whole) : Type 0 where
  body : CoreBody
  body_at : slice_get bs k ≡ Some body
  same : plain_body body ≡ x

plain_at : (bs : List CoreBody) (k : ℕ) (x : stmt.Whole) → slice_get (map plain_body bs) k ≡ Some x → PlainAt bs k x
plain_at [] k x e = absurd (cc)
plain_at (b ∷ bs) zero x e = record { body = b; body_at = refl; same = let s : plain_body b ≡ x = cc in s }
plain_at (b ∷ bs) (suc k) x e = let r = plain_at bs k x e in record { body = r.body; body_at = r.body_at; same = r.same }

-- ---- modules

module _ (p : tree.Program) (bs : List CoreBody) (exact : map plain_body bs ≡ lowered_module p) where
  module _ (V : RegistrationList) (z : Environment) (m : ℕ) (bodies : Bodies) (codes : Codes) (sound : SoundProgram V p) (has : HasProgram z m p) (are : AreBodies m bs bodies) (code : AreCodes m p codes) where
    at : (k : ℕ) (ps : List Passing) → z.params (routine m k) ≡ Some ps → FitAt (module_of V p) (codes_of p) (lowered_module p) k ps
    at k ps known = fit_at (module_of V p) (passings_in p) (codes_of p) (lowered_module p) k ps (module_fits V p sound) (sym (has.bodies k) ∙ known)

    are_lowered : AreLowered z m (module_of V p) bodies codes
    are_lowered = record {
      callees = has_callees V z m p has;
      lowered = λ k ps known.
          let f = at k ps known in
          let b = plain_at bs k f.body (ap (λ l. slice_get l k) exact ∙ f.body_at) in
          record { same = ap plain_stmt (are.each k b.body b.body_at) ∙ ap (λ x. x.statement) b.same ∙ f.same ∙ ap (λ x. lowered_code (length ps) x) (sym (code.each k f.code f.code_at)) };
      sound = λ k ps known.
          let f = at k ps known in
          subst (λ x. SoundCode (module_of V p) (length ps) x) (sym (code.each k f.code f.code_at)) f.sound;
    }

  pub lowers_program : LowersProgram p bs
  lowers_program = record { lowered = λ V z m bodies codes sound has are code. are_lowered V z m bodies codes sound has are code }

-- the bodies of a module that are lowered from sound code
pub sound_in : (z : Environment) (m : ℕ) (M : Module) (bodies : Bodies) (codes : Codes) → AreLowered z m M bodies codes → HasView z m M.view → AreSoundIn z m bodies
sound_in z m M bodies codes are view = record {
  each = λ k ps known.
      statement_is z m false (length ps) (bodies (routine m k))
      (subst (λ s. IsSoundStmt z m false (length ps) s) (sym (are.lowered k ps known).same) (code_sound z m M are.callees view (codes (routine m k)) (length ps) (are.sound k ps known)));
}

-- the code of a program under whatever number
alone : tree.Program → Codes
alone p g = code_or (slice_get (codes_of p) g.number)

pub keeps_sound : (p : tree.Program) (bs : List CoreBody) → map plain_body bs ≡ lowered_module p → KeepsSound p bs
unfolding alone
keeps_sound p bs exact = record {
  sound = λ V z m bodies sound view has are.
      sound_in z m (module_of V p) bodies (alone p) (are_lowered p bs exact V z m bodies (alone p) sound has are (record { each = λ k x there. ap code_or there })) view;
}

pub sound_together : (z : Environment) (bodies : Bodies) → ((m : ℕ) → AreSoundIn z m bodies) → LinksFit z → AreSound z bodies
sound_together z bodies each links = record { each = λ g ps known. (each g.home).each g.number ps known; links = links }

pub codes_there : (ps : List tree.Program) (m : ℕ) (p : tree.Program) → slice_get ps m ≡ Some p → AreCodes m p (codes_in ps)
codes_there ps m p there = record { each = λ k x at. ap (λ q. code_or (slice_get (codes_of q) k)) (get_or_from_slice_get ps m p nothing there) ∙ ap code_or at }

-- ---- parameters

one_takes_none : (g : ℕ) (i : Option tree.Expr) (bs : List stmt.Whole) (xs : List Code) → map (λ b. b.params) bs ≡ map (λ x. []) xs
    → map (λ b. b.params) (lowered_initializer g i ++ bs) ≡ map (λ x. []) (initializer_of g i ++ xs)
one_takes_none g None bs xs e = e
one_takes_none g (Some i) bs xs e = ap (λ l. [] ∷ l) e

globals_take_none : (gs : List tree.Global) (g : ℕ) → map (λ b. b.params) (lowered_globals g gs) ≡ map (λ x. []) (initializers_from g gs)
globals_take_none [] g = refl
globals_take_none (x ∷ gs) g = one_takes_none g x.initializer (lowered_globals (suc g) gs) (initializers_from (suc g) gs) (globals_take_none gs (suc g))

functions_take : (fs : List tree.TypedFunction) (bs : List stmt.Whole) (rest : List (List Passing)) → map (λ b. b.params) bs ≡ rest
    → map (λ b. b.params) (map lowered_function fs ++ bs) ≡ map (λ f. passings_of f.parameters) fs ++ rest
functions_take [] bs rest e = e
functions_take (f ∷ fs) bs rest e = ap (λ l. passings_of f.parameters ∷ l) (functions_take fs bs rest e)

params_of_plain : (bs : List CoreBody) → map (λ b. b.params.items) bs ≡ map (λ b. b.params) (map plain_body bs)
params_of_plain [] = refl
params_of_plain (b ∷ bs) = ap (λ l. b.params.items ∷ l) (params_of_plain bs)

-- the bodies' parameters are those of the program
pub params_are : (p : tree.Program) (bs : List CoreBody) → map plain_body bs ≡ lowered_module p → map (λ b. b.params.items) bs ≡ passings_in p
params_are p bs exact =
    params_of_plain bs ∙ ap (λ l. map (λ b. b.params) l) exact
    ∙ functions_take p.functions (lowered_globals 0 p.globals) (map (λ x. []) (initializers_from 0 p.globals)) (globals_take_none p.globals 0)

-- ---- results

one_gives_none : (g : ℕ) (i : Option tree.Expr) (bs : List stmt.Whole) (xs : List Code) → map (λ b. b.result) bs ≡ map {B = Option Primitive} (λ x. None) xs
    → map (λ b. b.result) (lowered_initializer g i ++ bs) ≡ map {B = Option Primitive} (λ x. None) (initializer_of g i ++ xs)
one_gives_none g None bs xs e = e
one_gives_none g (Some i) bs xs e = ap (λ l. None ∷ l) e

globals_give_none : (gs : List tree.Global) (g : ℕ) → map (λ b. b.result) (lowered_globals g gs) ≡ map {B = Option Primitive} (λ x. None) (initializers_from g gs)
globals_give_none [] g = refl
globals_give_none (x ∷ gs) g = one_gives_none g x.initializer (lowered_globals (suc g) gs) (initializers_from (suc g) gs) (globals_give_none gs (suc g))

functions_give : (fs : List tree.TypedFunction) (bs : List stmt.Whole) (rest : List (Option Primitive)) → map (λ b. b.result) bs ≡ rest
    → map (λ b. b.result) (map lowered_function fs ++ bs) ≡ map (λ f. primitive_of f.result) fs ++ rest
functions_give [] bs rest e = e
functions_give (f ∷ fs) bs rest e = ap (λ l. primitive_of f.result ∷ l) (functions_give fs bs rest e)

results_of_plain : (bs : List CoreBody) → map (λ b. b.result) bs ≡ map (λ b. b.result) (map plain_body bs)
results_of_plain [] = refl
results_of_plain (b ∷ bs) = ap (λ l. b.result ∷ l) (results_of_plain bs)

-- the bodies' values are of the types of the program
pub results_are : (p : tree.Program) (bs : List CoreBody) → map plain_body bs ≡ lowered_module p → map (λ b. b.result) bs ≡ results_in p
results_are p bs exact =
    results_of_plain bs ∙ ap (λ l. map (λ b. b.result) l) exact
    ∙ functions_give p.functions (lowered_globals 0 p.globals) (map (λ x. None) (initializers_from 0 p.globals)) (globals_give_none p.globals 0)
