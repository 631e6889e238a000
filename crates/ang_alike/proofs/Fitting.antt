-- What a binding and a call choose fits the modules.
use Rattle.std.proofs.Common.{◌≡◌, ◌≤◌, ℕ, suc, List, [], ◌∷◌, ◌++◌, length, reverse, refl, sym, ap, ◌∙◌, subst, arith, Option, Some, None, map}
use Rattle.std.specs.Prelude.{Bool, true, false, Ok, option_map, slice_get, slice_index_or, if◌then◌else◌}
use Rattle.std.proofs.lemmas.List.{length-map, reverse-append}
use Rattle.ang_kinds.specs.declared.primitive.Primitive.{Primitive}
use Rattle.ang_kinds.specs.declared.primitive.Primitive.TheVariants.{I8, I16, I32, I64, U8, U16, U32, U64, Bool as TruthType}
use Rattle.ang_kinds.specs.declared.value.Value.{Value}
use Rattle.ang_kinds.specs.declared.value.Value.TheVariants.{Int, Uint, Bool as Truth, Key}
use Rattle.ang_view.specs.Registration.{RegistrationList, seen}
use Rattle.ang_view.specs.Values.{TakesValues}
use Rattle.ang_view.proofs.Seen.{length-seen}
use Rattle.ang_registry.proofs.Values.{seen_takes}
use Rattle.ang_typed.specs.declared.program.TypedParameter.{TypedParameter}
use Rattle.ang_typed.specs.Typed as t
use Rattle.ang_names_known.specs.declared.names.ScriptFunction.{ScriptFunction}
use Rattle.ang_names_known.specs.declared.names.ScriptParameter.{ScriptParameter}
use Rattle.ang_check.specs.Typing.{typed_parameter, typed_parameters}
use Rattle.ang_check_sound.specs.Checked.{module_in}
use Rattle.ang_meaning.specs.declared.host.HostValueType.TheVariants.{Plain as PlainType}
use Rattle.ang_meaning.specs.declared.slot.Slot.{Slot}
use Rattle.ang_meaning.specs.declared.slot.Slot.TheVariants.{Bits}
use Rattle.ang_meaning.specs.declared.routine.Routine.{Routine}
use Rattle.ang_meaning.specs.Hosts.{if_within, slot_of, value_of}
use Rattle.ang_meaning.specs.World.{World as RunWorld}
use Rattle.ang_meaning.specs.Counting.{IsCounted}
use Rattle.ang_meaning.specs.Alike.{Renaming, renamed, renamed_all}
use Rattle.ang_meaning.proofs.Counting.{bits_name_none}
use Rattle.ang_meaning.proofs.Operating.{push_none}
use Rattle.ang_meaning.proofs.AlikeOperations.{value_renamed}
use Rattle.ang_source.specs.Meaning.{routine}
use Rattle.ang_engine_build.specs.Named.{HasNamesOf}
use Rattle.ang_engine_build.proofs.Programs.{program-named}
use Rattle.ang_engine_call.specs.Calls.{is_callable, plain_slot, arguments_of, arguments_for, argument_of, in_front, result_of}
use Rattle.ang_types.specs.ArgTypes.{primitive_of}
use Rattle.ang_engine_call.specs.Named.{function_named_by}
use Rattle.ang_engine_modules.specs.Modules.{Module, module_at, LinkFits, TakesSoMany}
use Rattle.ang_engine_modules.specs.declared.reply.Refusal.TheVariants.{NotCallable}
use Rattle.ang_engine_modules.specs.World.{Program, ModuleStates, module_in as state_in, built_in}
use Rattle.ang_engine_modules.proofs.PlaceLists.{get-map, map-get, get-front}
use Rattle.ang_engine.specs.Step.{link_of, Chosen, Not, with_arguments, of_function, of_number, choice_of}
use Rattle.ang_alike.proofs.Linking.{bindable}
use Rattle.ang_alike.proofs.ByNumber.{at_places, home_number}
use Rattle.ang_alike.proofs.Modules.{AreGood, tree_of, program_found, link_fits}

-- ---- what a registry shows

pub seen_values : (R : RegistrationList) (m : ℕ) → TakesValues R → TakesValues (seen R m)
seen_values R m h = seen_takes R m h

pub seen_few : (R : RegistrationList) (m : ℕ) → length R ≤ 1024 → length (seen R m) ≤ 1024
seen_few R m h = omega (arith, h, length-seen R m)

-- ---- modules by number

module_tree : (ms : ModuleStates) (i : ℕ) (p : Program) → (state_in (slice_index_or ms.places i None)).program ≡ Some p → (module_at (built_in ms) i).tree ≡ p.tree
module_tree ms i p here = ap (λ (x : Module). x.tree) (at_places ms.places i ∙ tree_of (slice_index_or ms.places i None) p here)

-- ---- a binding

pub bound_fits : (ms : ModuleStates) → AreGood ms → (i j index : ℕ) (p q : Program) (decl : List ℕ) (o : Option ScriptFunction) (g : Routine)
    → (state_in (slice_index_or ms.places i None)).program ≡ Some p → (state_in (slice_index_or ms.places j None)).program ≡ Some q → slice_get p.names.imports index ≡ o → link_of o j q decl ≡ Ok g
    → LinkFits (built_in ms) i index g
bound_fits ms good i j index p q decl None g here there import e = absurd (let x : ⊥ = cc in x)
bound_fits ms good i j index p q decl (Some f) g here there import e =
    let home : g.home ≡ j = home_number f j (function_named_by q.view q.names decl) q.names.functions g e in
    let same : g ≡ routine j g.number = ap (λ h. routine h g.number) home in
    subst (λ x. LinkFits (built_in ms) i index x) (sym same)
    (link_fits (built_in ms) i j index g.number p q (module_tree ms i p here) (module_tree ms j q there) (program_found ms.places i p good.places here) (program_found ms.places j q good.places there)
    f import (bindable f j g.number q decl (e ∙ ap (λ x. Ok x) same)))

-- ---- a call

-- a choice is a function of the list, with values for its parameters
pub record IsChoice (fs : List ScriptFunction) (n : ℕ) (f : ScriptFunction) (args : List Value) (slots : List Slot) : Type 0 where
  pub at : slice_get fs n ≡ Some f
  pub arguments : arguments_of f args ≡ Some slots

record AreSame (n k : ℕ) (f g : ScriptFunction) (xs ys : List Slot) : Type 0 where
  number : n ≡ k
  function : f ≡ g
  slots : xs ≡ ys

same_parts : (n k : ℕ) (f g : ScriptFunction) (xs ys : List Slot) → Chosen n f xs ≡ Chosen k g ys → AreSame n k f g xs ys
same_parts n k f g xs ys e = record { number = cc; function = cc; slots = cc }

with_arguments_is : (fs : List ScriptFunction) (m : ℕ) (g : ScriptFunction) (args : List Value) (o : Option (List Slot)) (n : ℕ) (f : ScriptFunction) (slots : List Slot)
    → slice_get fs m ≡ Some g → arguments_of g args ≡ o → with_arguments m g o ≡ Chosen n f slots → IsChoice fs n f args slots
with_arguments_is fs m g args None n f slots at a e = absurd (let x : ⊥ = cc in x)
with_arguments_is fs m g args (Some xs) n f slots at a e =
    let s = same_parts m n g f xs slots e in
    record {
      at = subst (λ k. slice_get fs k ≡ Some f) s.number (at ∙ ap (λ x. Some x) s.function);
      arguments = subst (λ x. arguments_of x args ≡ Some slots) s.function (a ∙ ap (λ x. Some x) s.slots);
    }

callable_is : (b : Bool) (fs : List ScriptFunction) (m : ℕ) (g : ScriptFunction) (args : List Value) (n : ℕ) (f : ScriptFunction) (slots : List Slot)
    → slice_get fs m ≡ Some g → (if b then (with_arguments m g (arguments_of g args)) else (Not NotCallable)) ≡ Chosen n f slots → IsChoice fs n f args slots
callable_is true fs m g args n f slots at e = with_arguments_is fs m g args (arguments_of g args) n f slots at refl e
callable_is false fs m g args n f slots at e = absurd (let x : ⊥ = cc in x)

function_is : (fs : List ScriptFunction) (m : ℕ) (o : Option ScriptFunction) (args : List Value) (n : ℕ) (f : ScriptFunction) (slots : List Slot)
    → slice_get fs m ≡ o → of_function m o args ≡ Chosen n f slots → IsChoice fs n f args slots
function_is fs m None args n f slots at e = absurd (let x : ⊥ = cc in x)
function_is fs m (Some g) args n f slots at e = callable_is (is_callable g) fs m g args n f slots at e

pub number_is : (o : Option ℕ) (fs : List ScriptFunction) (args : List Value) (n : ℕ) (f : ScriptFunction) (slots : List Slot) → of_number o fs args ≡ Chosen n f slots → IsChoice fs n f args slots
number_is None fs args n f slots e = absurd (let x : ⊥ = cc in x)
number_is (Some m) fs args n f slots e = function_is fs m (slice_get fs m) args n f slots refl e

-- ---- its arguments are numbers

abbrev pub AreNumbers : List Slot → Type 0
AreNumbers [] = Unit {0}
AreNumbers (x ∷ xs) = ((n : ℕ) × (x ≡ Bits n)) × AreNumbers xs

a_number : (n : ℕ) (s : Slot) → Some (Bits n) ≡ Some s → (k : ℕ) × (s ≡ Bits k)
a_number n s e = (n, let same : s ≡ Bits n = cc in same)

within_number : (b : Bool) (n : ℕ) (s : Slot) → if_within b n ≡ Some s → (k : ℕ) × (s ≡ Bits k)
within_number true n s e = a_number n s e
within_number false n s e = absurd (let x : ⊥ = cc in x)

slot_number : (p : Primitive) (v : Value) (s : Slot) → slot_of 0 (PlainType p) v ≡ Some s → (k : ℕ) × (s ≡ Bits k)
unfolding slot_of
slot_number p (Int z) s e = within_number _ _ s e
slot_number p (Uint n) s e = within_number _ _ s e
slot_number I8 (Truth b) s e = absurd (let x : ⊥ = cc in x)
slot_number I16 (Truth b) s e = absurd (let x : ⊥ = cc in x)
slot_number I32 (Truth b) s e = absurd (let x : ⊥ = cc in x)
slot_number I64 (Truth b) s e = absurd (let x : ⊥ = cc in x)
slot_number U8 (Truth b) s e = absurd (let x : ⊥ = cc in x)
slot_number U16 (Truth b) s e = absurd (let x : ⊥ = cc in x)
slot_number U32 (Truth b) s e = absurd (let x : ⊥ = cc in x)
slot_number U64 (Truth b) s e = absurd (let x : ⊥ = cc in x)
slot_number TruthType (Truth b) s e = a_number _ s e
slot_number p (Key k) s e = absurd (let x : ⊥ = cc in x)

plain_number : (o : Option Primitive) (v : Value) (s : Slot) → plain_slot o v ≡ Some s → (k : ℕ) × (s ≡ Bits k)
plain_number None v s e = absurd (let x : ⊥ = cc in x)
plain_number (Some p) v s e = slot_number p v s e

-- as many numbers as there are parameters
pub record AreFor (ps : List ScriptParameter) (slots : List Slot) : Type 0 where
  pub count : length slots ≡ length ps
  pub numbers : AreNumbers slots

none_for : (slots : List Slot) → [] ≡ slots → AreFor [] slots
none_for slots e = subst (λ l. AreFor [] l) e (record { count = refl; numbers = tt })

front_for : (p : ScriptParameter) (ps : List ScriptParameter) (o : Option Slot) (rest : Option (List Slot)) (slots : List Slot) → ((s : Slot) → o ≡ Some s → (k : ℕ) × (s ≡ Bits k))
    → ((xs : List Slot) → rest ≡ Some xs → AreFor ps xs) → in_front o rest ≡ Some slots → AreFor (p ∷ ps) slots
front_for p ps None rest slots h k e = absurd (let x : ⊥ = cc in x)
front_for p ps (Some s) None slots h k e = absurd (let x : ⊥ = cc in x)
front_for p ps (Some s) (Some xs) slots h k e =
    let same : s ∷ xs ≡ slots = cc in
    let rest = k xs refl in
    subst (λ l. AreFor (p ∷ ps) l) same (record { count = ap suc rest.count; numbers = (h s refl, rest.numbers) })

all_for : (ps : List ScriptParameter) (vs : List Value) (slots : List Slot) → arguments_for ps vs ≡ Some slots → AreFor ps slots
all_for [] [] slots e = none_for slots (let same : [] ≡ slots = cc in same)
all_for [] (v ∷ vs) slots e = absurd (let x : ⊥ = cc in x)
all_for (p ∷ ps) [] slots e = absurd (let x : ⊥ = cc in x)
all_for (p ∷ ps) (v ∷ vs) slots e =
    front_for p ps (argument_of p v) (arguments_for ps vs) slots (λ s h. plain_number (primitive_of p.written.ty) v s h) (λ xs h. all_for ps vs xs h) e

pub arguments_are : (f : ScriptFunction) (vs : List Value) (slots : List Slot) → arguments_of f vs ≡ Some slots → AreFor f.params slots
unfolding arguments_of
arguments_are f vs slots e = all_for f.params vs slots e

more_numbers : (xs : List Slot) (n : ℕ) → AreNumbers xs → AreNumbers (xs ++ Bits n ∷ [])
more_numbers [] n h = ((n, refl), tt)
more_numbers (x ∷ xs) n h = (h.0, more_numbers xs n h.1)

pub turned_numbers : (xs : List Slot) → AreNumbers xs → AreNumbers (reverse xs)
turned_numbers [] h = tt
turned_numbers (x ∷ xs) h =
    subst AreNumbers (sym (reverse-append (x ∷ []) xs)) (subst (λ y. AreNumbers (reverse xs ++ y ∷ [])) (sym h.0.1) (more_numbers (reverse xs) h.0.0 (turned_numbers xs h.1)))

numbers_renamed : (r : Renaming) (xs : List Slot) → AreNumbers xs → renamed_all r xs ≡ xs
numbers_renamed r [] h = refl
numbers_renamed r (x ∷ xs) h =
    let same : renamed r x ≡ x = ap (renamed r) h.0.1 ∙ sym h.0.1 in
    ap (λ y. y ∷ renamed_all r xs) same ∙ ap (λ l. x ∷ l) (numbers_renamed r xs h.1)

pub numbers_counted : (xs : List Slot) (v : RunWorld) → AreNumbers xs → IsCounted [] v → IsCounted xs v
numbers_counted [] v h p = p
numbers_counted (x ∷ xs) v h p = subst (λ y. IsCounted (y ∷ xs) v) (sym h.0.1) (push_none (Bits h.0.0) xs v (bits_name_none h.0.0) (numbers_counted xs v h.1 p))

pub record Fits (ms : List Module) (i n : ℕ) (slots : List Slot) : Type 0 where
  pub takes : TakesSoMany ms i n (length slots)
  pub plain : (r : Renaming) → renamed_all r (reverse slots) ≡ reverse slots
  pub counted : (v : RunWorld) → IsCounted [] v → IsCounted (reverse slots) v

pub chosen_fits : (ms : ModuleStates) → AreGood ms → (i : ℕ) (p : Program) (decl : List ℕ) (args : List Value) (n : ℕ) (f : ScriptFunction) (slots : List Slot)
    → (state_in (slice_index_or ms.places i None)).program ≡ Some p → choice_of p decl args ≡ Chosen n f slots → Fits (built_in ms) i n slots
chosen_fits ms good i p decl args n f slots here e =
    let one = number_is (function_named_by p.view p.names decl) p.names.functions args n f slots e in
    let are = arguments_are f args slots one.arguments in
    let numbers = turned_numbers slots are.numbers in
    let a = program_found ms.places i p good.places here in
    let has : HasNamesOf a.sight a.sections (record { names = p.names; tree = p.tree }) = program-named a.sight a.sections (record { names = p.names; tree = p.tree }) a.built in
    let ps : List TypedParameter = typed_parameters f in
    let named : slice_get (module_in a.sight p.names).parameters n ≡ Some ps = get-front (map typed_parameters p.names.functions) _ n ps (get-map typed_parameters p.names.functions n f one.at) in
    let found = map-get (λ (g : t.TypedFunction). g.parameters) p.tree.functions n ps (ap (λ xs. slice_get xs n) has.names.parameters ∙ named) in
    record {
      takes = record {
        function = found.item;
        at = ap (λ (x : t.Program). slice_get x.functions n) (module_tree ms i p here) ∙ found.at;
        params = ap length found.same ∙ length-map f.params typed_parameter ∙ sym are.count;
      };
      plain = λ r. numbers_renamed r (reverse slots) numbers;
      counted = λ v p'. numbers_counted (reverse slots) v numbers p';
    }

-- ---- its value

result_by : (r : Renaming) (o : Option Primitive) (x : Slot) → option_map (λ p. value_of 0 (PlainType p) (renamed r x)) o ≡ option_map (λ p. value_of 0 (PlainType p) x) o
result_by r None x = refl
result_by r (Some p) x = ap (λ v. Some v) (value_renamed r 0 (PlainType p) x)

pub result_renamed : (r : Renaming) (f : ScriptFunction) (x : Slot) → result_of f (renamed r x) ≡ result_of f x
unfolding result_of
result_renamed r f x = result_by r (primitive_of f.result.ty) x
