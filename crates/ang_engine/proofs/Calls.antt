-- How a call leads to its reply.
use Rattle.std.proofs.Common.{◌≡◌, refl, ap, sym, ◌∙◌, subst, ℕ, zero, suc, Bool, true, false, List, [], ◌∷◌, ◌++◌, length, take, arith, Option, Some, None, map}
use Rattle.std.specs.Prelude.{Result, Ok, Err, reverse, slice_get, if◌then◌else◌}
use Rattle.std.proofs.lemmas.List.{length-map, reverse-append}
use Rattle.ang_kinds.specs.declared.fault.Fault.{Fault}
use Rattle.ang_kinds.specs.declared.primitive.Primitive.{Primitive}
use Rattle.ang_kinds.specs.declared.primitive.Primitive.TheVariants.{I8, I16, I32, I64, U8, U16, U32, U64, Bool as TruthType}
use Rattle.ang_kinds.specs.declared.value.Value.{Value}
use Rattle.ang_kinds.specs.declared.value.Value.TheVariants.{Int, Uint, Bool as Truth, Key}
use Rattle.ang_view.specs.Registration.{RegistrationList}
use Rattle.ang_typed.specs.declared.program.TypedParameter.{TypedParameter}
use Rattle.ang_typed.specs.Typed as t
use Rattle.ang_names_known.specs.declared.names.Names.{Names}
use Rattle.ang_names_known.specs.declared.names.ScriptFunction.{ScriptFunction}
use Rattle.ang_names_known.specs.declared.names.ScriptParameter.{ScriptParameter}
use Rattle.ang_names_listed.specs.Sources.{Source}
use Rattle.ang_check.specs.Typing.{typed_parameter, typed_parameters}
use Rattle.ang_check_sound.specs.Checked.{HasNames, module_in}
use Rattle.ang_meaning.specs.declared.slot.Slot.{Slot}
use Rattle.ang_meaning.specs.declared.slot.Slot.TheVariants.{Bits}
use Rattle.ang_meaning.specs.declared.host.HostValueType.TheVariants.{Plain as PlainType}
use Rattle.ang_meaning.specs.Hosts.{if_within, slot_of}
use Rattle.ang_meaning.specs.Counting.{Thing, names as names_in, how_many}
use Rattle.ang_meaning.specs.World.{Input, World as RunWorld, with_inputs}
use Rattle.ang_meaning.specs.Told.{answers_told, answers_listed}
use Rattle.ang_meaning.proofs.Counting.{many_append, bits_name_none}
use Rattle.ang_code.specs.Values.{answer_of}
use Rattle.ang_engine_call.specs.Calls.{is_callable, result_of, plain_slot, arguments_of, arguments_for, argument_of, in_front}
use Rattle.ang_types.specs.ArgTypes.{primitive_of}
use Rattle.ang_engine_modules.specs.Modules.{Module, module_at, result_in, TakesSoMany}
use Rattle.ang_engine_modules.specs.Executed.{call_of}
use Rattle.ang_engine_modules.specs.Ends.{end_of}
use Rattle.ang_engine.specs.declared.calling.ChosenCall.{ChosenCall}
use Rattle.ang_engine_modules.proofs.PlaceLists.{get-map, map-get, get-front}
use Rattle.ang_engine_modules.specs.declared.reply.Outcome.{Outcome}
use Rattle.ang_engine_modules.specs.declared.reply.Refusal.TheVariants.{NotCallable}
use Rattle.ang_engine_modules.specs.World.{Program, World, built_in, running, left_to}
use Rattle.ang_engine.specs.Step.{Choice, Chosen, Not, fault_told}
use Rattle.ang_engine.specs.Step.{of_function, with_arguments, Leads, call_chosen, call_ended, called}
use Rattle.ang_engine_modules.specs.Commands.{reply_of}
use Rattle.ang_engine.specs.Outcomes.{NameNothing, HasCalled, IsTyped, outcome_as, outcome_by}
use Rattle.ang_engine.proofs.Leading.{told_by, fault_in}

-- ---- the function of a call

pub chosen-found : (n : ℕ) (f : ScriptFunction) (vs : List Value) (slots : List Slot) → is_callable f ≡ true → arguments_of f vs ≡ Some slots
    → of_function n (Some f) vs ≡ Chosen n f slots
chosen-found n f vs slots c a = ap (λ b. if b then (with_arguments n f (arguments_of f vs)) else (Not NotCallable)) c ∙ ap (with_arguments n f) a

-- a choice of a function is one of the list, with an argument for each parameter
pub record IsOneOf (fs : List ScriptFunction) (n : ℕ) (f : ScriptFunction) (slots : List Slot) : Type 0 where
  pub at : slice_get fs n ≡ Some f
  pub count : length slots ≡ length f.params

in_front-length : (x : Option Slot) (rest : Option (List Slot)) (slots : List Slot) (n : ℕ) → ((xs : List Slot) → rest ≡ Some xs → length xs ≡ n)
    → in_front x rest ≡ Some slots → length slots ≡ suc n
in_front-length None rest slots n h e = cc
in_front-length (Some x) None slots n h e = cc
in_front-length (Some x) (Some xs) slots n h e =
    let same : x ∷ xs ≡ slots = cc in
    ap length (sym same) ∙ ap suc (h xs refl)

arguments_for-length : (ps : List ScriptParameter) (vs : List Value) (slots : List Slot) → arguments_for ps vs ≡ Some slots → length slots ≡ length ps
arguments_for-length [] [] slots e = let same : [] ≡ slots = cc in ap length (sym same)
arguments_for-length [] (v ∷ vs) slots e = cc
arguments_for-length (p ∷ ps) [] slots e = cc
arguments_for-length (p ∷ ps) (v ∷ vs) slots e =
    in_front-length (argument_of p v) (arguments_for ps vs) slots (length ps) (λ xs h. arguments_for-length ps vs xs h) e

arguments_of-length : (f : ScriptFunction) (vs : List Value) (slots : List Slot) → arguments_of f vs ≡ Some slots → length slots ≡ length f.params
unfolding arguments_of
arguments_of-length f vs slots e = arguments_for-length f.params vs slots e

-- the parts of a choice
record AreSame (n k : ℕ) (f g : ScriptFunction) (xs ys : List Slot) : Type 0 where
  number : n ≡ k
  function : f ≡ g
  slots : xs ≡ ys

same-parts : (n k : ℕ) (f g : ScriptFunction) (xs ys : List Slot) → Chosen n f xs ≡ Chosen k g ys → AreSame n k f g xs ys
same-parts n k f g xs ys e = record { number = cc; function = cc; slots = cc }

with_arguments-one : (fs : List ScriptFunction) (m : ℕ) (g : ScriptFunction) (o : Option (List Slot)) (n : ℕ) (f : ScriptFunction) (slots : List Slot)
    → slice_get fs m ≡ Some g → ((xs : List Slot) → o ≡ Some xs → length xs ≡ length g.params) → with_arguments m g o ≡ Chosen n f slots → IsOneOf fs n f slots
with_arguments-one fs m g None n f slots at count e = cc
with_arguments-one fs m g (Some xs) n f slots at count e =
    let s = same-parts m n g f xs slots e in
    record {
      at = subst (λ k. slice_get fs k ≡ Some f) s.number (at ∙ ap (λ x. Some x) s.function);
      count = ap length (sym s.slots) ∙ count xs refl ∙ ap (λ x. length x.params) s.function;
    }

callable-one : (b : Bool) (fs : List ScriptFunction) (m : ℕ) (g : ScriptFunction) (o : Option (List Slot)) (n : ℕ) (f : ScriptFunction) (slots : List Slot)
    → slice_get fs m ≡ Some g → ((xs : List Slot) → o ≡ Some xs → length xs ≡ length g.params)
    → (if b then (with_arguments m g o) else (Not NotCallable)) ≡ Chosen n f slots → IsOneOf fs n f slots
callable-one true fs m g o n f slots at count e = with_arguments-one fs m g o n f slots at count e
callable-one false fs m g o n f slots at count e = cc

of_function-one : (fs : List ScriptFunction) (m : ℕ) (g : Option ScriptFunction) (vs : List Value) (n : ℕ) (f : ScriptFunction) (slots : List Slot)
    → slice_get fs m ≡ g → of_function m g vs ≡ Chosen n f slots → IsOneOf fs n f slots
of_function-one fs m None vs n f slots at e = cc
of_function-one fs m (Some g) vs n f slots at e =
    callable-one (is_callable g) fs m g (arguments_of g vs) n f slots at (λ xs h. arguments_of-length g vs xs h) e

-- so is one by a number of the list
pub number-one : (fs : List ScriptFunction) (m : ℕ) (vs : List Value) (n : ℕ) (f : ScriptFunction) (slots : List Slot)
    → of_function m (slice_get fs m) vs ≡ Chosen n f slots → IsOneOf fs n f slots
number-one fs m vs n f slots e = of_function-one fs m (slice_get fs m) vs n f slots refl e

-- ---- its arguments, which name no object

bits_plain : (n : ℕ) (s : Slot) (x : Thing) → Some (Bits n) ≡ Some s → names_in x s ≡ 0
bits_plain n s x e =
    let same : Bits n ≡ s = cc in
    ap (names_in x) (sym same) ∙ bits_name_none n x

within_plain : (b : Bool) (n : ℕ) (s : Slot) (x : Thing) → if_within b n ≡ Some s → names_in x s ≡ 0
within_plain true n s x e = bits_plain n s x e
within_plain false n s x e = cc

slot_plain : (p : Primitive) (v : Value) (s : Slot) (x : Thing) → slot_of 0 (PlainType p) v ≡ Some s → names_in x s ≡ 0
unfolding slot_of
slot_plain p (Int z) s x e = within_plain _ _ s x e
slot_plain p (Uint n) s x e = within_plain _ _ s x e
slot_plain I8 (Truth b) s x e = cc
slot_plain I16 (Truth b) s x e = cc
slot_plain I32 (Truth b) s x e = cc
slot_plain I64 (Truth b) s x e = cc
slot_plain U8 (Truth b) s x e = cc
slot_plain U16 (Truth b) s x e = cc
slot_plain U32 (Truth b) s x e = cc
slot_plain U64 (Truth b) s x e = cc
slot_plain TruthType (Truth b) s x e = bits_plain _ s x e
slot_plain p (Key k) s x e = cc

plain_plain : (o : Option Primitive) (v : Value) (s : Slot) (x : Thing) → plain_slot o v ≡ Some s → names_in x s ≡ 0
plain_plain None v s x e = cc
plain_plain (Some p) v s x e = slot_plain p v s x e

in_front-plain : (o : Option Slot) (rest : Option (List Slot)) (slots : List Slot) (x : Thing) → ((s : Slot) → o ≡ Some s → names_in x s ≡ 0)
    → ((xs : List Slot) → rest ≡ Some xs → how_many x xs ≡ 0) → in_front o rest ≡ Some slots → how_many x slots ≡ 0
in_front-plain None rest slots x h k e = cc
in_front-plain (Some s) None slots x h k e = cc
in_front-plain (Some s) (Some xs) slots x h k e =
    let same : s ∷ xs ≡ slots = cc in
    omega (arith, ap (how_many x) (sym same), h s refl, k xs refl)

arguments_for-plain : (ps : List ScriptParameter) (vs : List Value) (slots : List Slot) (x : Thing) → arguments_for ps vs ≡ Some slots → how_many x slots ≡ 0
arguments_for-plain [] [] slots x e = let same : [] ≡ slots = cc in ap (how_many x) (sym same)
arguments_for-plain [] (v ∷ vs) slots x e = cc
arguments_for-plain (p ∷ ps) [] slots x e = cc
arguments_for-plain (p ∷ ps) (v ∷ vs) slots x e =
    in_front-plain (argument_of p v) (arguments_for ps vs) slots x (λ s h. plain_plain (primitive_of p.written.ty) v s x h) (λ xs h. arguments_for-plain ps vs xs x h) e

pub arguments-plain : (f : ScriptFunction) (vs : List Value) (slots : List Slot) → arguments_of f vs ≡ Some slots → NameNothing slots
unfolding arguments_of
arguments-plain f vs slots e = λ x. arguments_for-plain f.params vs slots x e

many_reverse : (x : Thing) (vs : List Slot) → how_many x (reverse vs) ≡ how_many x vs
many_reverse x [] = refl
many_reverse x (v ∷ vs) = omega (arith, ap (how_many x) (reverse-append (v ∷ []) vs), many_append x (reverse vs) (v ∷ []), many_reverse x vs)

pub reverse-plain : (vs : List Slot) → NameNothing vs → NameNothing (reverse vs)
reverse-plain vs h = λ x. many_reverse x vs ∙ h x

-- ---- its parameters in the tree

-- a function of the names takes as many arguments in the tree
pub takes-named : (V : RegistrationList) (names : Names) (ss : List Source) (ms : List Module) (m n : ℕ) (f : ScriptFunction) (slots : List Slot)
    → HasNames V names ss (module_at ms m).tree → IsOneOf names.functions n f slots → TakesSoMany ms m n (length slots)
takes-named V names ss ms m n f slots has one =
    let ps : List TypedParameter = typed_parameters f in
    let named : slice_get (module_in V names).parameters n ≡ Some ps = get-front (map typed_parameters names.functions) _ n ps (get-map typed_parameters names.functions n f one.at) in
    let here = map-get (λ (g : t.TypedFunction). g.parameters) (module_at ms m).tree.functions n ps (ap (λ xs. slice_get xs n) has.parameters ∙ named) in
    record {
      function = here.item;
      at = here.at;
      params = ap length here.same ∙ length-map f.params typed_parameter ∙ sym one.count;
    }

taken-at : {A : Type 0} (n k : ℕ) (xs : List A) (x : A) → slice_get (take n xs) k ≡ Some x → slice_get xs k ≡ Some x
taken-at zero k xs x e = absurd (cc)
taken-at (suc n) k [] x e = absurd (cc)
taken-at (suc n) zero (y ∷ xs) x e = e
taken-at (suc n) (suc k) (y ∷ xs) x e = taken-at n k xs x e

-- and gives a value of the same type there
pub typed-named : (V : RegistrationList) (names : Names) (ss : List Source) (ms : List Module) (m n : ℕ) (f : ScriptFunction)
    → HasNames V names ss (module_at ms m).tree → slice_get names.functions n ≡ Some f → IsTyped ms names m n
typed-named V names ss ms m n f has at =
    let named : slice_get (map (λ (h : ScriptFunction). h.result.ty) names.functions) n ≡ Some f.result.ty = get-map (λ (h : ScriptFunction). h.result.ty) names.functions n f at in
    let front : slice_get (take (length names.functions) (map (λ (g : t.TypedFunction). g.result) (module_at ms m).tree.functions)) n ≡ Some f.result.ty =
    ap (λ xs. slice_get xs n) has.results ∙ named in
    let here = map-get (λ (g : t.TypedFunction). g.result) (module_at ms m).tree.functions n f.result.ty
    (taken-at (length names.functions) n (map (λ (g : t.TypedFunction). g.result) (module_at ms m).tree.functions) f.result.ty front) in
    record {
      function = f;
      at = at;
      result = ap result_in here.at ∙ ap primitive_of here.same;
    }

-- ---- its run

-- the outcome of a call whose value is of the type of the function
outcome-of : (f : ScriptFunction) (r : Result Slot Fault) → outcome_as (answer_of (primitive_of f.result.ty) r) ≡ outcome_by f r
unfolding result_of
outcome-of f (Ok v) = refl
outcome-of f (Err fault) = refl

pub answered-by : (type : Option Primitive) (f : ScriptFunction) (r : Result Slot Fault) → type ≡ primitive_of f.result.ty → outcome_as (answer_of type r) ≡ outcome_by f r
answered-by type f r e = ap (λ o. outcome_as (answer_of o r)) e ∙ outcome-of f r

called-so : (f : ScriptFunction) (r : Result Slot Fault) (x : RunWorld) (w : World) (rest : List Input)
    → called r (with_inputs rest x) w f ≡ record { reply = reply_of (outcome_by f r) x.events []; world = left_to w.modules x; left = rest }
called-so f (Ok v) x w rest = refl
called-so f (Err fault) x w rest = refl

called-fault : (f : ScriptFunction) (r : Result Slot Fault) → fault_in r ≡ fault_told (outcome_by f r)
called-fault f (Ok v) = refl
called-fault f (Err fault) = refl

same_function : (o : Option ScriptFunction) (f g : ScriptFunction) → o ≡ Some f → o ≡ Some g → f ≡ g
same_function o f g e h = cc

pub call-run : (p : Program) (ms : List Module) (q : Choice) (home budget : ℕ) (c : ChosenCall) (f : ScriptFunction) (outcome : Outcome) (w v : World) (u x : RunWorld)
    → built_in w.modules ≡ ms → u.events ≡ [] → ((is : List Input) → running w is ≡ with_inputs is u) → left_to w.modules x ≡ v → q ≡ Chosen c.number f c.args.items → slice_get p.names.functions c.number ≡ Some f → HasCalled ms p.names home budget c u outcome x
    → Leads (call_chosen q w home budget) (reply_of outcome x.events []) v
call-run p ms q home budget c f outcome w v u x built first begins leaves choice at h =
    let same : h.function ≡ f = same_function (slice_get p.names.functions c.number) h.function f h.at at in
    let ended : outcome_by f h.value ≡ outcome = ap (λ g. outcome_by g h.value) (sym same) ∙ sym h.ended in
    record {
      used = h.ends.used;
      tells = λ rest.
          ap (λ y. call_chosen y w home budget (h.ends.used ++ rest)) choice
          ∙ ap (λ y. Some (call_ended (end_of (call_of y budget home c.number c.args.items (running w (h.ends.used ++ rest)))) w f)) built
          ∙ ap (λ r. Some (call_ended (end_of (call_of ms budget home c.number c.args.items r)) w f)) (begins (h.ends.used ++ rest))
          ∙ ap (λ e. Some (call_ended e w f)) (h.ends.ends rest)
          ∙ ap Some (called-so f h.value x w rest)
          ∙ ap (λ o. Some (record { reply = reply_of o x.events []; world = left_to w.modules x; left = rest })) ended
          ∙ ap (λ z. Some (record { reply = reply_of outcome x.events []; world = z; left = rest })) leaves;
      told = told_by h.value h.ends.used outcome (called-fault f h.value ∙ ap fault_told ended) h.ends.told;
      answers = sym (ap (λ es. answers_listed es ++ answers_told h.ends.used) first) ∙ sym h.ends.answers;
    }
