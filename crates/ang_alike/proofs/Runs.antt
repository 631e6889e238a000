-- Runs of built modules come to the same in two worlds that are alike.
use Rattle.std.proofs.Common.{◌≡◌, ◌<◌, ◌+◌, ℕ, zero, suc, inl, inr, List, [], ◌∷◌, ◌++◌, length, reverse, refl, sym, ap, ◌∙◌, subst, arith, Option, Some, map}
use Rattle.std.specs.Prelude.{◌⊎◌, Result, Ok, Err, slice_get, slice_index_or}
use Rattle.std.proofs.lemmas.List.{length-reverse}
use Rattle.ang_kinds.specs.declared.fault.Fault.{Fault}
use Rattle.ang_typed.specs.Typed as t
use Rattle.ang_meaning.specs.declared.slot.Slot.{Slot}
use Rattle.ang_meaning.specs.declared.routine.Passing.{Passing}
use Rattle.ang_meaning.specs.World.{World, give_all}
use Rattle.ang_meaning.specs.Environment.{Environment}
use Rattle.ang_meaning.specs.Results.{Reply, Yields, Raises}
use Rattle.ang_meaning.specs.Counting.{IsCounted}
use Rattle.ang_meaning.specs.Alike.{Renaming, renamed, renamed_all}
use Rattle.ang_meaning.proofs.Counted.{give_counted, give_all_under}
use Rattle.ang_meaning.proofs.AlikeWorlds.{three, HasMore, give_alike, give_all_alike}
use Rattle.ang_meaning.proofs.Matching.{AlikeUpTo}
use Rattle.ang_core.specs.Sound.{LinksFit, out_count}
use Rattle.ang_source.specs.Meaning.{Code, nothing, codes_in, code_or, passings_of, initializers_from, routine, called_with}
use Rattle.ang_source.specs.Sound.{SoundProgram}
use Rattle.ang_lower.specs.Same.{HasProgram, TakeNothing}
use Rattle.ang_lower.proofs.Follows.{passings_count}
use Rattle.ang_lower.proofs.Methods.{methods_fit}
use Rattle.ang_alike.specs.SourcesAlike.{turned_reply, reply_world, AreSoundSources}
use Rattle.ang_alike.proofs.Calls.{reply_stack, ReplyLeaves, ReplyAlike}
use Rattle.ang_alike.proofs.Sources.{call_alike, all_alike}
use Rattle.ang_engine_modules.specs.Modules.{Module, module_at, trees_of, TakesSoMany}
use Rattle.ang_engine_modules.specs.Executed.{setting_for, call_of, routines_from, initializers_of, initialization_of}
use Rattle.ang_engine_modules.specs.Ends.{Ended, end_of}
use Rattle.ang_alike.proofs.ByNumber.{tree_at}
use Rattle.ang_alike.proofs.Modules.{AreSoundModules}

-- ---- sources of modules

module _ (ms : List Module) (are : AreSoundModules ms) (nesting : ℕ) where
  abbrev z : Environment
  z = setting_for ms nesting

  has_program : (m : ℕ) → HasProgram z m (module_at ms m).tree
  has_program m = record { bodies = λ k. refl; imports = λ i. refl; slots = λ s. refl; classes = λ n. refl; methods = λ n s. refl }

  links_fit : LinksFit z
  links_fit = record {
    same = λ m i g there. let f = are.linked.each m i g there in f.function ∙ sym f.declared;
    methods = λ m c s g there. methods_fit (module_at ms m).view z m (module_at ms m).tree (are.each m) (has_program m) c s g there;
  }

  pub sources_sound : AreSoundSources z (λ m. (module_at ms m).view) (λ m. slice_index_or (trees_of ms) m nothing) (codes_in (trees_of ms))
  sources_sound = record {
    sound = λ m. subst (λ p. SoundProgram (module_at ms m).view p) (sym (tree_at ms m)) (are.each m);
    sees = λ m. record { each = λ e. refl };
    has = λ m. subst (λ p. HasProgram z m p) (sym (tree_at ms m)) (has_program m);
    coded = λ m. record { each = λ k x at. ap code_or at };
    links = links_fit;
  }

-- ---- how a module's bodies take their arguments

function_at : (fs : List t.TypedFunction) (qs : List (List Passing)) (n : ℕ) (f : t.TypedFunction) → slice_get fs n ≡ Some f → slice_get (map (λ (h : t.TypedFunction). passings_of h.parameters) fs ++ qs) n ≡ Some (passings_of f.parameters)
function_at [] qs n f at = absurd (let x : ⊥ = cc in x)
function_at (g ∷ fs) qs zero f at = let same : g ≡ f = cc in ap (λ (h : t.TypedFunction). Some (passings_of h.parameters)) same
function_at (g ∷ fs) qs (suc n) f at = function_at fs qs n f at

behind_at : (fs : List t.TypedFunction) (qs : List (List Passing)) (k : ℕ) → slice_get (map (λ (h : t.TypedFunction). passings_of h.parameters) fs ++ qs) (length fs + k) ≡ slice_get qs k
behind_at [] qs k = ap (slice_get qs) (let e : 0 + k ≡ k = omega arith in e)
behind_at (f ∷ fs) qs k =
    let e : suc (length fs) + k ≡ suc (length fs + k) = omega arith in
    ap (slice_get (map (λ (h : t.TypedFunction). passings_of h.parameters) (f ∷ fs) ++ qs)) e ∙ behind_at fs qs k

none_at : (cs : List Code) (k : ℕ) → k < length cs → ◌≡◌ {A = Option (List Passing)} (slice_get (map (λ c. []) cs) k) (Some [])
none_at [] k lt = absurd (let x : ⊥ = omega (arith, lt) in x)
none_at (c ∷ cs) zero lt = refl
none_at (c ∷ cs) (suc k) lt = none_at cs k (omega (arith, lt))

take_none : (z : Environment) (m n : ℕ) (cs : List Code) → ((k : ℕ) → k < length cs → z.params (routine m (n + k)) ≡ Some []) → TakeNothing z (routines_from m n cs)
take_none z m n [] h = tt
take_none z m n (c ∷ cs) h =
    let first : n + 0 ≡ n = omega arith in (
      subst (λ i. z.params (routine m i) ≡ Some []) first (h 0 (omega arith)),
      take_none z m (suc n) cs (λ k lt. let e : n + suc k ≡ suc n + k = omega arith in subst (λ i. z.params (routine m i) ≡ Some []) e (h (suc k) (omega (arith, lt)))),
    )

initializers_take : (ms : List Module) (nesting m : ℕ) → TakeNothing (setting_for ms nesting) (initializers_of m (module_at ms m).tree)
initializers_take ms nesting m =
    let p = (module_at ms m).tree in
    let cs = initializers_from 0 p.globals in
    take_none (setting_for ms nesting) m (length p.functions) cs (λ k lt. behind_at p.functions (map (λ c. []) cs) k ∙ none_at cs k lt)

-- ---- how a run ended

abbrev pub turned_result : Renaming → Result Slot Fault → Result Slot Fault
turned_result r (Ok x) = Ok (renamed r x)
turned_result r (Err f) = Err f

pub record EndSame (apart : Type 0) (e f : Ended) : Type 0 where
  pub by : Renaming
  pub result : f.result ≡ turned_result by e.result
  pub counted : IsCounted [] e.world
  pub alike : AlikeUpTo apart by e.world f.world

-- refused for an input of another sort, which is left
abbrev pub EndLeaves : Type 0 → Ended → Type 0
EndLeaves apart e = apart × HasMore e.world

abbrev pub EndAlike : Type 0 → Ended → Ended → Type 0
EndAlike apart e f = EndSame apart e f ⊎ (EndLeaves apart e ⊎ EndLeaves apart f)

module _ (apart : Type 0) where
  end_same : (r : Renaming) (o : Reply) (w : World) → IsCounted (reply_stack o ++ []) (reply_world o) → AlikeUpTo apart r (reply_world o) w → EndSame apart (end_of o) (end_of (turned_reply r w o))
  end_same r (Yields x outs t v) w p h = record {
    by = r;
    result = refl;
    counted = give_counted x [] (give_all outs v) (give_all_under x outs [] v p);
    alike = give_alike apart r x (give_all outs v) (give_all (renamed_all r outs) w) (give_all_alike apart r outs v w h);
  }
  end_same r (Raises f v) w p h = record { by = r; result = refl; counted = p; alike = h }

  end_leaves : (o : Reply) → ReplyLeaves apart o → EndLeaves apart (end_of o)
  end_leaves (Yields x outs t v) h = absurd h
  end_leaves (Raises f v) h = h

  end_alike : (most k : ℕ) (r : Renaming) (o p : Reply) → ReplyAlike apart most k r [] o p → EndAlike apart (end_of o) (end_of p)
  end_alike most k r o p h =
      three (λ m. inl (subst (λ q. EndSame apart (end_of o) (end_of q)) (sym m.same) (end_same m.by o m.other m.counted m.alike))) (λ l. inr (inl (end_leaves o l))) (λ l. inr (inr (end_leaves p l))) h

  module _ (ms : List Module) (are : AreSoundModules ms) where
    -- a call with arguments that name no object
    pub called_alike : (budget m n : ℕ) (args : List Slot) (r : Renaming) (v w : World) → TakesSoMany ms m n (length args) → renamed_all r (reverse args) ≡ reverse args → IsCounted (reverse args) v → AlikeUpTo apart r v w
        → EndAlike apart (end_of (call_of ms budget m n args v)) (end_of (call_of ms budget m n args w))
    called_alike budget m n args r v w takes plain p h =
        let z = setting_for ms 200 in
        let ps = passings_of takes.function.parameters in
        let known : z.params (routine m n) ≡ Some ps = function_at (module_at ms m).tree.functions _ n takes.function takes.at in
        let count : length ps ≡ length (reverse args) = passings_count takes.function.parameters ∙ takes.params ∙ sym (length-reverse args) in
        end_alike budget (out_count ps) r (call_of ms budget m n args v) (call_of ms budget m n args w)
        (subst (λ l. ReplyAlike apart budget (out_count ps) r [] (call_of ms budget m n args v) (called_with z (codes_in (trees_of ms)) budget (routine m n) l w)) plain
        (call_alike z _ _ (codes_in (trees_of ms)) (sources_sound ms are 200) apart budget (routine m n) ps (reverse args) r v w known count p h))

    pub initialized_alike : (budget m : ℕ) (r : Renaming) (v w : World) → IsCounted [] v → AlikeUpTo apart r v w
        → EndAlike apart (end_of (initialization_of ms budget m v)) (end_of (initialization_of ms budget m w))
    initialized_alike budget m r v w p h =
        end_alike budget 0 r (initialization_of ms budget m v) (initialization_of ms budget m w)
        (all_alike (setting_for ms 201) _ _ (codes_in (trees_of ms)) (sources_sound ms are 201) apart (initializers_of m (module_at ms m).tree) budget budget r v w (omega arith) (initializers_take ms 201 m) p h)
