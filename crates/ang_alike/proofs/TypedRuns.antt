-- Runs of typed modules meet no misfit, and leave all places typed.
use Rattle.std.proofs.Common.{◌≡◌, ◌+◌, true, refl, sym, ap, ◌∙◌, subst, arith, ℕ, suc, List, [], ◌∷◌, ◌++◌, length, reverse, map, append_assoc, Option, Some, None}
use Rattle.std.specs.Prelude.{IsSome, IfOk, slice_get}
use Rattle.std.proofs.lemmas.List.{length-map, length-append, length-reverse, reverse-append}
use Rattle.ang_kinds.specs.declared.primitive.Primitive.{Primitive}
use Rattle.ang_kinds.specs.declared.value.Value.{Value}
use Rattle.ang_tree.specs.Stmt.{Every}
use Rattle.ang_view.specs.Registration.{RegistrationList}
use Rattle.ang_types.specs.declared.arg_type.ArgType.{ArgType}
use Rattle.ang_types.specs.declared.arg_type.ArgType.TheVariants as type
use Rattle.ang_types.specs.ArgTypes.{primitive_of}
use Rattle.ang_typed.specs.Typed as t
use Rattle.ang_names_known.specs.declared.names.ScriptFunction.{ScriptFunction}
use Rattle.ang_names_known.specs.declared.names.ScriptParameter.{ScriptParameter}
use Rattle.ang_check.specs.Typing.{typed_parameter, typed_parameters}
use Rattle.ang_meaning.specs.declared.slot.Slot.{Slot}
use Rattle.ang_meaning.specs.declared.slot.Slot.TheVariants.{Bits, Script, Host}
use Rattle.ang_meaning.specs.declared.routine.Routine.{Routine}
use Rattle.ang_meaning.specs.World.{World, ScriptObjects, give, give_all}
use Rattle.ang_meaning.specs.Environment.{Environment}
use Rattle.ang_meaning.specs.Results.{Reply, Yields, Raises}
use Rattle.ang_meaning.specs.Counting.{IsCounted}
use Rattle.ang_meaning.proofs.Counting.{many_append}
use Rattle.ang_meaning.proofs.Counted.{counted_as, give_counted, give_all_under}
use Rattle.ang_source.specs.Meaning.{Code, of_function, of_global, Codes, codes_of, codes_in, code_or, initializer_of, initializers_from, routine, called_with, initialized_all}
use Rattle.ang_source_typed.specs.Types.{SlotType, Number, Modules, Owners, HasType, AllTyped, IsGood, slot_type}
use Rattle.ang_source_typed.specs.TypedProgram.{Parameter, Signature, types_of, parameter_of, signature_of, HasSignature}
use Rattle.ang_source_typed.specs.Runs.{IsTypedSetting, sources, AreInitializers, IsGoodReply, initializer_signature}
use Rattle.ang_source_typed.specs.Guarded.{Guard, misfits, is_number}
use Rattle.ang_source_typed.specs.Guarded as guarded
use Rattle.ang_source_typed.proofs.Values.{Leads, leads_then, leads_world, give_leads, give_all_leads}
use Rattle.ang_source_typed.proofs.Bodies.{calls_meet_no_misfit}
use Rattle.ang_source_typed.proofs.Initializers.{initializers_meet_no_misfit}
use Rattle.ang_engine_call.specs.Calls.{plain_slot, argument_of, arguments_for, arguments_of, in_front}
use Rattle.ang_engine_modules.specs.Modules.{module_at, trees_of}
use Rattle.ang_engine_modules.specs.Executed.{setting_for, routines_from, initializers_of}
use Rattle.ang_engine_modules.specs.Executed as executed
use Rattle.ang_engine_modules.specs.Ends.{end_of}
use Rattle.ang_engine_modules.specs.World.{Program, ModuleStates, built_in}
use Rattle.ang_alike.specs.Misfits.{typed_modules}
use Rattle.ang_alike.specs.Misfits as misfit
use Rattle.ang_alike.proofs.Fitting.{AreNumbers, arguments_are, turned_numbers, numbers_counted}
use Rattle.ang_alike.proofs.ByNumber.{tree_at}
use Rattle.ang_alike.proofs.TypedPrograms.{IsOwnProgram, programs_of, tree_known}
use Rattle.ang_alike.proofs.TypedLinks.{function_signed}

-- ---- the bodies of modules

sources_at : (ms : ModuleStates) (g : Routine) → sources (typed_modules ms) g ≡ codes_in (trees_of (built_in ms)) g
sources_at ms g = ap (λ (p : t.Program). code_or (slice_get (codes_of p) g.number)) (sym (tree_at (built_in ms) g.home ∙ tree_known ms g.home))

sources_are : (ms : ModuleStates) → sources (typed_modules ms) ≡ codes_in (trees_of (built_in ms))
sources_are ms = λ j. λ g. sources_at ms g j

-- ---- what an end leaves

pub end_good : (z : Environment) (ms : Modules) (s : Signature) (o : Reply) → IsGoodReply z ms s o → IsGood z ms [] [] (end_of o).world
end_good z ms s (Yields v outs t w) g =
    let rest : World = give_all outs w in
    let leads : Leads w (give v rest) = leads_then w rest (give v rest) (give_all_leads outs w) (give_leads v rest) in
    let all : IsCounted (v ∷ (outs ++ [])) w = counted_as (v ∷ outs) (v ∷ (outs ++ [])) w (λ x. omega (arith, many_append x outs [])) g.counted in
    record { own = g.own; places = tt; world = leads_world z ms g.own w (give v rest) leads g.world; counted = give_counted v [] rest (give_all_under v outs [] w all) }
end_good z ms s (Raises f w) g = g

is_typed_number : (z : Environment) (ms : Modules) (own : Owners) (os : ScriptObjects) (v : Slot) → HasType z ms own os Number v → is_number v ≡ true
is_typed_number z ms own os (Bits n) h = refl
is_typed_number z ms own os (Script k) h = absurd h
is_typed_number z ms own os (Host d k) h = absurd h

end_number : (z : Environment) (ms : Modules) (s : Signature) (o : Reply) → IsGoodReply z ms s o → s.result ≡ Number → IfOk (end_of o).result (λ v. is_number v ≡ true)
end_number z ms s (Yields v outs t w) g e = is_typed_number z ms g.own w.objects v (subst (λ (ty : SlotType). HasType z ms g.own w.objects ty v) e g.places.0)
end_number z ms s (Raises f w) g e = tt

-- ---- arguments from outside are numbers, and so are the parameters that take them

every_more : {A : Type 0} (P : A → Type 0) (xs : List A) (x : A) → Every P xs → P x → Every P (xs ++ x ∷ [])
every_more P [] x h k = (k, tt)
every_more P (y ∷ ys) x h k = (h.0, every_more P ys x h.1 k)

every_turned : {A : Type 0} (P : A → Type 0) (xs : List A) → Every P xs → Every P (reverse xs)
every_turned P [] h = tt
every_turned P (x ∷ xs) h = subst (Every P) (sym (reverse-append (x ∷ []) xs)) (every_more P (reverse xs) x (every_turned P xs h.1) h.0)

plain_front : (o : Option Primitive) (v : Value) (rest : Option (List Slot)) (slots : List Slot) → in_front (plain_slot o v) rest ≡ Some slots → IsSome o
plain_front None v rest slots e = absurd (let q : ⊥ = cc in q)
plain_front (Some p) v rest slots e = refl

rest_of : (o : Option Slot) (rest : Option (List Slot)) (slots : List Slot) → in_front o rest ≡ Some slots → (xs : List Slot) × (rest ≡ Some xs)
rest_of None rest slots e = absurd (let q : ⊥ = cc in q)
rest_of (Some s) None slots e = absurd (let q : ⊥ = cc in q)
rest_of (Some s) (Some xs) slots e = (xs, refl)

all_plain : (ps : List ScriptParameter) (vs : List Value) (slots : List Slot) → arguments_for ps vs ≡ Some slots → Every (λ (p : ScriptParameter). IsSome (primitive_of p.written.ty)) ps
all_plain [] vs slots e = tt
all_plain (p ∷ ps) [] slots e = absurd (let q : ⊥ = cc in q)
all_plain (p ∷ ps) (v ∷ vs) slots e =
    let rest = rest_of (argument_of p v) (arguments_for ps vs) slots e in
    (plain_front (primitive_of p.written.ty) v (arguments_for ps vs) slots e, all_plain ps vs rest.0 rest.1)

plain_are : (f : ScriptFunction) (vs : List Value) (slots : List Slot) → arguments_of f vs ≡ Some slots → Every (λ (p : ScriptParameter). IsSome (primitive_of p.written.ty)) f.params
unfolding arguments_of
plain_are f vs slots e = all_plain f.params vs slots e

pub plain_type : (V : RegistrationList) (m : ℕ) (ty : ArgType) → IsSome (primitive_of ty) → slot_type V m ty ≡ Number
plain_type V m type.Void h = refl
plain_type V m type.Null h = absurd (let q : ⊥ = cc in q)
plain_type V m (type.Plain p) h = refl
plain_type V m (type.Enumeration n) h = refl
plain_type V m (type.Object n c) h = absurd (let q : ⊥ = cc in q)
plain_type V m (type.Handle n c) h = absurd (let q : ⊥ = cc in q)

abbrev AreNumberTypes : List Parameter → Type 0
AreNumberTypes qs = Every (λ (q : Parameter). q.type ≡ Number) qs

module _ (z : Environment) (ms : Modules) where
  plain_parameters : (m : ℕ) (ps : List ScriptParameter) → Every (λ (p : ScriptParameter). IsSome (primitive_of p.written.ty)) ps → AreNumberTypes (map (parameter_of z ms m) (map typed_parameter ps))
  plain_parameters m [] h = tt
  plain_parameters m (p ∷ ps) h = (plain_type (ms m).view m p.written.ty h.0, plain_parameters m ps h.1)

  numbers_typed : (own : Owners) (w : World) (qs : List Parameter) (vs : List Slot) → AreNumberTypes qs → AreNumbers vs → length qs ≡ length vs → AllTyped z ms own w.objects (types_of qs) vs
  numbers_typed own w [] [] h k e = tt
  numbers_typed own w [] (v ∷ vs) h k e = absurd (omega (arith, e))
  numbers_typed own w (q ∷ qs) [] h k e = absurd (omega (arith, e))
  numbers_typed own w (q ∷ qs) (v ∷ vs) h k e =
      let number : HasType z ms own w.objects Number v = subst (HasType z ms own w.objects Number) (sym k.0.1) tt in
      (subst (λ (ty : SlotType). HasType z ms own w.objects ty v) (sym h.0) number, numbers_typed own w qs vs h.1 k.1 (omega (arith, e)))

  pub arguments_good : (m : ℕ) (f : ScriptFunction) (vs : List Value) (slots : List Slot) (w : World) → arguments_of f vs ≡ Some slots → IsGood z ms [] [] w
      → IsGood z ms (types_of (signature_of z ms m (typed_parameters f) f.result.ty).params) (reverse slots) w
  arguments_good m f vs slots w e g =
      let are = arguments_are f vs slots e in
      let qs = map (parameter_of z ms m) (typed_parameters f) in
      let numbers = turned_numbers slots are.numbers in
      let count : length (reverse qs) ≡ length (reverse slots) =
      length-reverse qs ∙ length-map (typed_parameters f) (parameter_of z ms m) ∙ length-map f.params typed_parameter ∙ sym are.count ∙ sym (length-reverse slots) in
      record {
        own = g.own;
        places =
            numbers_typed g.own w (reverse qs) (reverse slots) (every_turned (λ (q : Parameter). q.type ≡ Number) qs (plain_parameters m f.params (plain_are f vs slots e))) numbers count;
        world = g.world;
        counted = numbers_counted (reverse slots) w numbers g.counted;
      }

-- ---- initializers

abbrev IsGlobalCode : Code → Type 0
IsGlobalCode (of_function ss) = ⊥
IsGlobalCode (of_global g e) = Unit {0}

first_code : (k : ℕ) (o : Option t.Expr) (rest : List Code) → Every IsGlobalCode rest → Every IsGlobalCode (initializer_of k o ++ rest)
first_code k None rest h = h
first_code k (Some e) rest h = (tt, h)

all_codes : (k : ℕ) (gs : List t.Global) → Every IsGlobalCode (initializers_from k gs)
all_codes k [] = tt
all_codes k (g ∷ gs) = first_code k g.initializer (initializers_from (suc k) gs) (all_codes (suc k) gs)

behind_front : (front rest : List Code) (c : Code) → slice_get (front ++ c ∷ rest) (length front) ≡ Some c
behind_front [] rest c = refl
behind_front (x ∷ front) rest c = behind_front front rest c

are_initializers : (T : Modules) (m : ℕ) (front cs : List Code) (n : ℕ) → n ≡ length front → Every IsGlobalCode cs → codes_of (T m).program ≡ front ++ cs → AreInitializers T (routines_from m n cs)
are_initializers T m front [] n count h e = tt
are_initializers T m front (of_function ss ∷ cs) n count h e = absurd h.0
are_initializers T m front (of_global g x ∷ cs) n count h e =
    let there : slice_get (codes_of (T m).program) n ≡ Some (of_global g x) =
    ap (λ (l : List Code). slice_get l n) e ∙ ap (slice_get (front ++ of_global g x ∷ cs)) count ∙ behind_front front cs (of_global g x) in
    let longer : length (front ++ of_global g x ∷ []) ≡ suc (length front) = length-append front (of_global g x ∷ []) ∙ (let s : length front + 1 ≡ suc (length front) = omega arith in s) in (
      record { global = g; value = x; there = there },
      are_initializers T m (front ++ of_global g x ∷ []) cs (suc n) (ap suc count ∙ sym longer) h.1 (e ∙ sym (append_assoc front (of_global g x ∷ []) cs)),
    )

own_initializers : (ms : ModuleStates) (m : ℕ) → AreInitializers (typed_modules ms) (initializers_of m (module_at (built_in ms) m).tree)
own_initializers ms m =
    let p : t.Program = (module_at (built_in ms) m).tree in
    let front : List Code = map (λ (f : t.TypedFunction). of_function f.body) p.functions in
    are_initializers (typed_modules ms) m front (initializers_from 0 p.globals) (length p.functions) (sym (length-map p.functions (λ (f : t.TypedFunction). of_function f.body)))
    (all_codes 0 p.globals) (ap codes_of (sym (tree_known ms m)))

-- ---- runs

-- the guarded run is the run, its value is of this signature's result, and all that it leaves is typed
pub record GoesWell (z : Environment) (ms : Modules) (s : Signature) (guarded_run run : Reply) : Type 0 where
  pub same : guarded_run ≡ run
  pub number : s.result ≡ Number → IfOk (end_of run).result (λ v. is_number v ≡ true)
  pub good : IsGood z ms [] [] (end_of run).world

module _ (y : Guard) (ms : ModuleStates) where
  abbrev T : Modules
  T = typed_modules ms

  called_by : (z : Environment) (codes : Codes) → sources T ≡ codes → IsTypedSetting z T → (budget : ℕ) (g : Routine) (s : Signature) (vs : List Slot) (w : World)
      → HasSignature z T g.home g.number s → IsGood z T (types_of s.params) vs w → GoesWell z T s (guarded.called_with (misfits y) z codes budget g vs w) (called_with z codes budget g vs w)
  called_by z codes e setting budget g s vs w signed good =
      let r = calls_meet_no_misfit z T y setting budget g s vs w signed good in
      subst (λ (c : Codes). GoesWell z T s (guarded.called_with (misfits y) z c budget g vs w) (called_with z c budget g vs w)) e
      (record {
        same = r.0;
        number = end_number z T s (called_with z (sources T) budget g vs w) r.1;
        good = end_good z T s (called_with z (sources T) budget g vs w) r.1;
      })

  pub call_goes : (L : RegistrationList) (budget m n : ℕ) (p : Program) (f : ScriptFunction) (args : List Value) (slots : List Slot) (w : World) → programs_of ms m ≡ Some p → IsOwnProgram L p
      → slice_get p.names.functions n ≡ Some f → arguments_of f args ≡ Some slots → IsTypedSetting (setting_for (built_in ms) 200) T → IsGood (setting_for (built_in ms) 200) T [] [] w
      → GoesWell (setting_for (built_in ms) 200) T (signature_of (setting_for (built_in ms) 200) T m (typed_parameters f) f.result.ty)
      (misfit.call_of y (built_in ms) budget m n slots w) (executed.call_of (built_in ms) budget m n slots w)
  call_goes L budget m n p f args slots w here own at chosen setting good =
      let z = setting_for (built_in ms) 200 in
      called_by z (codes_in (trees_of (built_in ms))) (sources_are ms) setting budget (routine m n) (signature_of z T m (typed_parameters f) f.result.ty) (reverse slots) w
      (function_signed L ms 200 m n p f here own at) (arguments_good z T m f args slots w chosen good)

  initialized_by : (z : Environment) (codes : Codes) → sources T ≡ codes → IsTypedSetting z T → (gs : List Routine) (ticks : ℕ) (w : World) → AreInitializers T gs → IsGood z T [] [] w
      → GoesWell z T initializer_signature (guarded.initialized_all (misfits y) z codes gs ticks w) (initialized_all z codes gs ticks w)
  initialized_by z codes e setting gs ticks w are good =
      let r = initializers_meet_no_misfit z T y setting gs ticks w are good in
      subst (λ (c : Codes). GoesWell z T initializer_signature (guarded.initialized_all (misfits y) z c gs ticks w) (initialized_all z c gs ticks w)) e
      (record {
        same = r.0;
        number = end_number z T initializer_signature (initialized_all z (sources T) gs ticks w) r.1;
        good = end_good z T initializer_signature (initialized_all z (sources T) gs ticks w) r.1;
      })

  pub initialization_goes : (budget m : ℕ) (w : World) → IsTypedSetting (setting_for (built_in ms) 201) T → IsGood (setting_for (built_in ms) 201) T [] [] w
      → GoesWell (setting_for (built_in ms) 201) T initializer_signature (misfit.initialization_of y (built_in ms) budget m w) (executed.initialization_of (built_in ms) budget m w)
  initialization_goes budget m w setting good =
      initialized_by (setting_for (built_in ms) 201) (codes_in (trees_of (built_in ms))) (sources_are ms) setting (initializers_of m (module_at (built_in ms) m).tree) budget w (own_initializers ms m) good
