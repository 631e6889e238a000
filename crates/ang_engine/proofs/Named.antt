-- A call on the module of a name.
use Rattle.std.proofs.Common.{◌≡◌, ◌≤◌, refl, ap, sym, ◌∙◌, subst, inl, inr, ◌⊎◌, ℕ, zero, suc, Bool, true, false, List, [], ◌∷◌, length, Option, Some, None, option_map}
use Rattle.std.specs.Prelude.{Result, Ok, Err, IsSome, if◌then◌else◌, slice_get, slice_index_or}
use Rattle.std.specs.List.{AllZip}
use Rattle.std.proofs.lemmas.Option.{none-some, same_Some}
use Rattle.ang_kinds.specs.declared.value.Value.{Value}
use Rattle.ang_host.specs.declared.event.HostEvent.{HostEvent}
use Rattle.ang_view.specs.Registration.{RegistrationList}
use Rattle.ang_typed.specs.Typed as t
use Rattle.ang_typed.specs.View.{view_typed}
use Rattle.ang_names_listed.specs.Sources.{Source}
use Rattle.ang_check_sound.specs.Checked.{HasNames}
use Rattle.ang_meaning.specs.World.{Input}
use Rattle.ang_engine_build.proofs.Programs.{program-families, program-named}
use Rattle.ang_engine_modules.specs.declared.modules.LoadedModule.{LoadedModule}
use Rattle.ang_engine_modules.specs.Loaded.{module_of, modules_of}
use Rattle.ang_engine_modules.specs.Modules.{module_at as run_module_at, TakesSoMany}
use Rattle.ang_engine.specs.declared.calling.ChosenCall.{ChosenCall}
use Rattle.ang_engine_modules.specs.declared.module.Module.{Module}
use Rattle.ang_engine_modules.specs.declared.reply.Outcome.{Outcome}
use Rattle.ang_engine_modules.specs.declared.reply.Refusal.{Refusal}
use Rattle.ang_engine_modules.specs.declared.reply.Refusal.TheVariants.{NotBuilt, BadBudget, NoFunction, Memory}
use Rattle.ang_engine_modules.specs.World.{Program, World, module_named, module_in, module_at}
use Rattle.ang_engine_modules.specs.States.{program_in, place_of, places_of}
use Rattle.ang_engine_modules.proofs.Worlds.{places_at}
use Rattle.ang_engine.specs.Engines.{resolved_in}
use Rattle.ang_engine.specs.Sound.{IsBuiltBy, IsSoundPlace}
use Rattle.ang_engine.specs.Step.{Choice, choice_of, of_function, of_number, call, call_chosen, call_program, is_budget}
use Rattle.ang_engine.specs.Prepared.{call_by_number, calling_number}
use Rattle.ang_engine_call.specs.Named.{function_named_by}
use Rattle.ang_engine_modules.specs.Commands.{Stepped, refused}
use Rattle.ang_engine_modules.specs.Outcomes.{IsRefused}
use Rattle.ang_engine.specs.Outcomes.{IsChosen, IsTyped, IsCalled, calling}
use Rattle.ang_engine.proofs.Calls.{number-one, takes-named, typed-named}
use Rattle.ang_engine_modules.proofs.Finding.{on_module-found}
use Rattle.ang_engine.proofs.Leading.{leads-same}

-- what a module of the list has
program_of_place : (m : Option Module) (l : Option LoadedModule) → IsSome m → (module_in (place_of m l)).program ≡ option_map program_in l
program_of_place None l there = absurd (cc)
program_of_place (Some m) l there = refl

pub program_there : (ms : List (Option Module)) (ls : List (Option LoadedModule)) (i : ℕ) (o : Option LoadedModule) → IsSome (slice_index_or ms i None) → o ≡ slice_index_or ls i None
    → (module_in (slice_index_or (places_of ms ls) i None)).program ≡ option_map program_in o
program_there ms ls i o there e =
    ap (λ p. (module_in p).program) (places_at ms ls i) ∙ program_of_place (slice_index_or ms i None) (slice_index_or ls i None) there ∙ ap (option_map program_in) (sym e)

-- a tree has what the names of a loaded module declare
abbrev AreNamed : LoadedModule → t.Program → Type 0
AreNamed l p = (V : RegistrationList) × (ss : List Source) × HasNames V l.names ss p

loaded_named : (R : RegistrationList) (m : Option Module) (o : Option LoadedModule) (l : LoadedModule) → IsSoundPlace R m o → Some l ≡ o → AreNamed l (module_of o).tree
loaded_named R None None l h e = absurd (none-some l (sym e))
loaded_named R None (Some k) l h e = absurd h
loaded_named R (Some m) None l h e = absurd (none-some l (sym e))
loaded_named R (Some m) (Some k) l h e =
    let same : k ≡ l = same_Some k l (sym e) in
    let named = program-named h.sight h.sections (resolved_in k) h.built in
    subst (λ x. AreNamed x (view_typed k.tree)) same (h.sight, named.sources, named.names)

there_named : (R : RegistrationList) (ms : List (Option Module)) (ls : List (Option LoadedModule)) (i : ℕ) (l : LoadedModule) → AllZip (IsSoundPlace R) ms ls → Some l ≡ slice_index_or ls i None
    → AreNamed l (run_module_at (modules_of ls) i).tree
there_named R [] [] i l h e = absurd (none-some l (sym e))
there_named R [] (k ∷ ls) i l h e = absurd h
there_named R (m ∷ ms) [] i l h e = absurd h
there_named R (m ∷ ms) (k ∷ ls) zero l h e = loaded_named R m k l h.0 e
there_named R (m ∷ ms) (k ∷ ls) (suc i) l h e = there_named R ms ls i l h.1 e

-- what a module that is loaded was built to
pub record IsBuiltAt (R : RegistrationList) (l : LoadedModule) : Type 0 where
  pub own : List ℕ
  pub mask : ℕ
  pub built : IsBuiltBy R own mask l

built_one : (R : RegistrationList) (m : Option Module) (o : Option LoadedModule) (l : LoadedModule) → IsSoundPlace R m o → Some l ≡ o → IsBuiltAt R l
built_one R None None l h e = absurd (none-some l (sym e))
built_one R None (Some k) l h e = absurd h
built_one R (Some m) None l h e = absurd (none-some l (sym e))
built_one R (Some m) (Some k) l h e =
    let same : k ≡ l = same_Some k l (sym e) in
    record { own = m.name; mask = m.built_mask.0; built = subst (λ x. IsBuiltBy R m.name m.built_mask.0 x) same h }

pub built_there : (R : RegistrationList) (ms : List (Option Module)) (ls : List (Option LoadedModule)) (i : ℕ) (l : LoadedModule) → AllZip (IsSoundPlace R) ms ls → Some l ≡ slice_index_or ls i None
    → IsBuiltAt R l
built_there R [] [] i l h e = absurd (none-some l (sym e))
built_there R [] (k ∷ ls) i l h e = absurd h
built_there R (m ∷ ms) [] i l h e = absurd h
built_there R (m ∷ ms) (k ∷ ls) zero l h e = built_one R m k l h.0 e
built_there R (m ∷ ms) (k ∷ ls) (suc i) l h e = built_there R ms ls i l h.1 e

-- its classes and interfaces are few
pub few_families : (R : RegistrationList) (ms : List (Option Module)) (ls : List (Option LoadedModule)) (i : ℕ) (l : LoadedModule) → AllZip (IsSoundPlace R) ms ls → Some l ≡ slice_index_or ls i None
    → length l.names.families ≤ 256
few_families R ms ls i l h e =
    let b = (built_there R ms ls i l h e).built in
    (program-families b.sight b.sections (resolved_in l) b.built).few

-- a function that was chosen takes the arguments that were chosen
pub takes_chosen : (R : RegistrationList) (ms : List (Option Module)) (ls : List (Option LoadedModule)) (i : ℕ) (l : LoadedModule) (n : ℕ) (vs : List Value) (c : ChosenCall)
    → AllZip (IsSoundPlace R) ms ls → Some l ≡ slice_index_or ls i None → IsChosen (Ok c) (of_function n (slice_get l.names.functions n) vs)
    → TakesSoMany (modules_of ls) i c.number (length c.args.items)
takes_chosen R ms ls i l n vs c h e chosen =
    let named = there_named R ms ls i l h e in
    takes-named named.0 l.names named.1 (modules_of ls) i c.number chosen.0 c.args.items named.2 (number-one l.names.functions n vs c.number chosen.0 c.args.items chosen.1)

-- and its value is of the type that the names say
pub typed_chosen : (R : RegistrationList) (ms : List (Option Module)) (ls : List (Option LoadedModule)) (i : ℕ) (l : LoadedModule) (n : ℕ) (vs : List Value) (c : ChosenCall)
    → AllZip (IsSoundPlace R) ms ls → Some l ≡ slice_index_or ls i None → IsChosen (Ok c) (of_function n (slice_get l.names.functions n) vs)
    → IsTyped (modules_of ls) l.names i c.number
typed_chosen R ms ls i l n vs c h e chosen =
    let named = there_named R ms ls i l h e in
    typed-named named.0 l.names named.1 (modules_of ls) i c.number chosen.0 named.2 (number-one l.names.functions n vs c.number chosen.0 c.args.items chosen.1).at

-- no function was chosen
pub chosen_refused : (why : Refusal) (q : Choice) (w : World) (i budget : ℕ) → IsChosen (Err why) q → IsRefused why (call_chosen q w i budget) w w
chosen_refused why q w i budget (inl memory) = (inl memory, refl)
chosen_refused why q w i budget (inr so) = (inr (λ rest. ap (λ x. call_chosen x w i budget rest) so), refl)

module _ (w : World) (name decl : List ℕ) (args : List Value) (budget i : ℕ) (found : Some i ≡ module_named name w) where
  pub calling-unbuilt : (rest : List Input) → (module_at w i).program ≡ None → calling name decl args budget w rest ≡ refused NotBuilt w rest
  calling-unbuilt rest none =
      on_module-found name w i rest (call decl args budget w) found ∙ ap (λ o. call_program o decl args budget w i rest) none

  calling-program : (p : Program) (b : Bool) (rest : List Input) → (module_at w i).program ≡ Some p → is_budget budget ≡ b
      → calling name decl args budget w rest ≡ (if b then (call_chosen (choice_of p decl args) w i budget rest) else (refused BadBudget w rest))
  calling-program p b rest built may =
      on_module-found name w i rest (call decl args budget w) found
      ∙ ap (λ o. call_program o decl args budget w i rest) built
      ∙ ap (λ x. if x then (call_chosen (choice_of p decl args) w i budget rest) else (refused BadBudget w rest)) may

  pub calling-unbudgeted : (p : Program) (rest : List Input) → (module_at w i).program ≡ Some p → is_budget budget ≡ false
      → calling name decl args budget w rest ≡ refused BadBudget w rest
  calling-unbudgeted p rest built may = calling-program p false rest built may

-- the same step by other words
called-same : (go to : List Input → Option Stepped) (r : Result Outcome Refusal) (es : List HostEvent) (w v : World) → ((rest : List Input) → to rest ≡ go rest) → IsCalled r es go w v → IsCalled r es to w v
called-same go to (Ok outcome) es w v h l = leads-same go to _ v v h refl l
called-same go to (Err why) es w v h (inl memory, same) = (inl memory, same)
called-same go to (Err why) es w v h (inr so, same) = (inr (λ rest. h rest ∙ so rest), same)

-- ---- a call by the function's number

-- nothing is built in a place that has no code
none_there : (m : Option Module) → (module_in (place_of m None)).program ≡ None
none_there None = refl
none_there (Some m) = refl

pub program_none : (ms : List (Option Module)) (ls : List (Option LoadedModule)) (i : ℕ) → None ≡ slice_index_or ls i None → (module_in (slice_index_or (places_of ms ls) i None)).program ≡ None
program_none ms ls i e =
    ap (λ p. (module_in p).program) (places_at ms ls i) ∙ ap (λ o. (module_in (place_of (slice_index_or ms i None) o)).program) (sym e) ∙ none_there (slice_index_or ms i None)

-- and what has code has a module
loaded_one : (R : RegistrationList) (m : Option Module) (o : Option LoadedModule) (l : LoadedModule) → IsSoundPlace R m o → Some l ≡ o → IsSome m
loaded_one R None None l h e = cc
loaded_one R None (Some k) l h e = absurd h
loaded_one R (Some m) o l h e = refl

pub there_loaded : (R : RegistrationList) (ms : List (Option Module)) (ls : List (Option LoadedModule)) (i : ℕ) (l : LoadedModule) → AllZip (IsSoundPlace R) ms ls → Some l ≡ slice_index_or ls i None
    → IsSome (slice_index_or ms i None)
there_loaded R [] [] i l h e = cc
there_loaded R [] (k ∷ ls) i l h e = absurd h
there_loaded R (m ∷ ms) [] i l h e = absurd h
there_loaded R (m ∷ ms) (k ∷ ls) zero l h e = loaded_one R m k l h.0 e
there_loaded R (m ∷ ms) (k ∷ ls) (suc i) l h e = there_loaded R ms ls i l h.1 e

module _ (w : World) (i n : ℕ) (args : List Value) (budget : ℕ) where
  pub numbered-unbuilt : (rest : List Input) → (module_at w i).program ≡ None → calling_number i n args budget w rest ≡ refused NotBuilt w rest
  numbered-unbuilt rest none = ap (λ o. call_by_number o n args budget w i rest) none

  pub numbered-built : (p : Program) (r : Result Outcome Refusal) (es : List HostEvent) (v : World) → (module_at w i).program ≡ Some p
      → IsCalled r es (call_chosen (of_function n (slice_get p.names.functions n) args) w i budget) w v → IsCalled r es (calling_number i n args budget w) w v
  numbered-built p r es v built h =
      called-same (call_chosen (of_function n (slice_get p.names.functions n) args) w i budget) (calling_number i n args budget w) r es w v
      (λ rest. ap (λ o. call_by_number o n args budget w i rest) built) h

module _ (w : World) (name decl : List ℕ) (args : List Value) (budget i : ℕ) (found : Some i ≡ module_named name w) (p : Program) (built : (module_at w i).program ≡ Some p)
    (may : is_budget budget ≡ true) where
  -- a call by a text that names the function of this number
  pub called-number : (n : ℕ) (r : Result Outcome Refusal) (es : List HostEvent) (v : World) → function_named_by p.view p.names decl ≡ Some n
      → IsCalled r es (calling_number i n args budget w) w v → IsCalled r es (calling name decl args budget w) w v
  called-number n r es v named h =
      called-same (calling_number i n args budget w) (calling name decl args budget w) r es w v
      (λ rest.
      calling-program w name decl args budget i found p true rest built may
      ∙ ap (λ o. call_chosen (of_number o p.names.functions args) w i budget rest) named
      ∙ ap (λ o. call_by_number o n args budget w i rest) (sym built)) h

  -- by one that names none, or for want of memory
  pub called-none : (why : Refusal) (es : List HostEvent) → (why ≡ Memory) ⊎ ((why ≡ NoFunction) × (function_named_by p.view p.names decl ≡ None))
      → IsCalled (Err why) es (calling name decl args budget w) w w
  called-none why es (inl memory) = (inl memory, refl)
  called-none why es (inr none) = (
    inr (λ rest.
        calling-program w name decl args budget i found p true rest built may
        ∙ ap (λ o. call_chosen (of_number o p.names.functions args) w i budget rest) none.1
        ∙ ap (λ q. refused q w rest) (sym none.0)),
    refl,
  )
