-- A command does the same where its runs are guarded, and leaves all typed.
use Rattle.std.proofs.Common.{inl, inr, ◌≡◌, ◌≢◌, ◌≤◌, ◌<◌, ◌+◌, refl, sym, ap, ◌∙◌, subst, arith, ℕ, zero, suc, Bool, true, false, List, [], ◌∷◌, ◌++◌, length, reverse, map, Option, Some, None}
use Rattle.std.specs.Prelude.{IfSome, IfOk, IsSome, Result, Ok, Err, nat_le, is_none, option_map, position, slice_get, slice_set, slice_index_or, if◌then◌else◌}
use Rattle.std.proofs.lemmas.List.{length-append, length-map}
use Rattle.std.proofs.lemmas.Option.{same_Some}
use Rattle.ang_kinds.specs.declared.error.Denial.{Denial}
use Rattle.ang_kinds.specs.declared.fault.Fault.{Fault}
use Rattle.ang_kinds.specs.declared.primitive.Primitive.{Primitive}
use Rattle.ang_kinds.specs.declared.value.Value.{Value}
use Rattle.ang_lex.specs.Spelling.{is_identifier}
use Rattle.ang_view.specs.Only.{IsWithin}
use Rattle.ang_view.specs.Registration.{RegistrationList}
use Rattle.ang_view.specs.Values.{TakesValues}
use Rattle.ang_view.proofs.Seen.{position-passes}
use Rattle.ang_types.specs.ArgTypes.{primitive_of}
use Rattle.ang_typed.specs.Typed as t
use Rattle.ang_names_known.specs.declared.names.ScriptFunction.{ScriptFunction}
use Rattle.ang_meaning.specs.declared.slot.Slot.{Slot}
use Rattle.ang_meaning.specs.declared.routine.Routine.{Routine}
use Rattle.ang_meaning.specs.World.{Input, World as RunWorld}
use Rattle.ang_meaning.specs.Environment.{Environment}
use Rattle.ang_source.specs.Meaning.{codes_in, routine}
use Rattle.ang_source_typed.specs.Types.{Modules, AllTyped, IsGood, slot_type, global_types}
use Rattle.ang_source_typed.specs.Guarded.{Guard, is_number}
use Rattle.ang_source_typed.proofs.Ends.{guard_passes}
use Rattle.ang_check_laws.specs.Owned.{AreOwned}
use Rattle.ang_engine_build.specs.Build.{Resolved, Compiled}
use Rattle.ang_engine_call.specs.Named.{function_named_by}
use Rattle.ang_engine_modules.specs.Executed as executed
use Rattle.ang_engine_modules.specs.Executed.{setting_for, first_globals, initializers_of}
use Rattle.ang_engine_modules.specs.Modules.{module_at as built_module, trees_of}
use Rattle.ang_engine_modules.specs.Ends.{Ended, end_of}
use Rattle.ang_engine_modules.specs.declared.reply.Refusal.{Refusal}
use Rattle.ang_engine_modules.specs.World.{Program, ModuleState, ModuleStates, World, module_named, module_at, placed, all_unbound_from, unbound_module, built_in, running, left_to, globals_ended}
use Rattle.ang_engine_modules.specs.Commands.{with_link, Stepped, refused, fresh_module, with_place, with_module, in_place, empty_place, where_free, added_module, set_mask, or_limit, add_section, unbind_import, unbind_program, on_module, on_both, most_modules}
use Rattle.ang_engine.specs.Step.{is_budget, emptied, program_over, with_program, globals_begun, initialized, started, after_build, link_of, bound, bind_programs, bind, Choice, Chosen, Not, choice_of, called, call_chosen, call_program}
use Rattle.ang_alike.specs.Misfits.{typed_of, typed_modules, is_result}
use Rattle.ang_alike.specs.Misfits as misfit
use Rattle.ang_alike.proofs.Linking.{bindable}
use Rattle.ang_alike.proofs.ByNumber.{at_more, none_empty, end_none, home_number, set_either}
use Rattle.ang_alike.proofs.Fitting.{number_is}
use Rattle.ang_engine_modules.proofs.PlaceLists.{set_length}
use Rattle.ang_alike.proofs.Globals.{back_globals, begun_counted, place_counted}
use Rattle.ang_alike.proofs.Modules.{all_none}
use Rattle.ang_alike.proofs.TypedPrograms.{IsOwnProgram, program_in, programs_of, link_in}
use Rattle.ang_alike.proofs.TypedLinks.{IsBound}
use Rattle.ang_alike.proofs.TypedModules.{AreOwn, setting_typed, same_classes, own_same, own_relinked, own_rebuilt, rebuilt_at, programs_rebuilt, programs_relinked, typed_elsewhere, typed_relinked, rebuilt_here}
use Rattle.ang_alike.proofs.TypedWorlds.{globals_in, good_again, IsLeft, ended_left, emptied_good, begun_good}
use Rattle.ang_alike.proofs.TypedRuns.{plain_type, call_goes, initialization_goes}
use Rattle.ang_alike.proofs.ListsStay.{call_lists, initialized_lists}

-- ---- what holds between commands

abbrev pub setting_at : ModuleStates → ℕ → Environment
setting_at ms nesting = setting_for (built_in ms) nesting

-- The modules are typed, and so is this world beside them, which has a list of globals for each place of a module.
pub record IsBetween (L : RegistrationList) (w : World) : Type 0 where
  pub own : AreOwn L (programs_of w.modules)
  pub lists : length w.globals ≡ length w.modules.places
  pub good : IsGood (setting_at w.modules 0) (typed_modules w.modules) [] [] (running w [])

-- a registry's list, or what is left of it
pub record IsPart (L R : RegistrationList) : Type 0 where
  pub values : TakesValues R
  pub few : length R ≤ 1024
  pub owned : AreOwned R
  pub within : IsWithin R L

-- What a command comes to; where its runs are guarded it comes to the same.
pub record Stays (L : RegistrationList) (guarded o : Option Stepped) : Type 0 where
  pub same : guarded ≡ o
  pub leaves : IfSome o (λ (s : Stepped). IsBetween L s.world)

pub as_is : (L : RegistrationList) (o : Option Stepped) → IfSome o (λ (s : Stepped). IsBetween L s.world) → Stays L o o
as_is L o h = record { same = refl; leaves = h }

-- ---- worlds that differ in what typing does not see

-- in another setting of the same modules
pub good_nested : (ms : ModuleStates) (a b : ℕ) (w : RunWorld) → IsGood (setting_at ms a) (typed_modules ms) [] [] w → IsGood (setting_at ms b) (typed_modules ms) [] [] w
good_nested ms a b w g = good_again (setting_at ms a) (setting_at ms b) (typed_modules ms) (typed_modules ms) w (λ m. same_classes ms ms a b m refl) (λ m. refl) g

-- beside other modules of the same programs
good_beside : (ms ns : ModuleStates) (w : RunWorld) → ((m : ℕ) → typed_modules ns m ≡ typed_modules ms m) → IsGood (setting_at ms 0) (typed_modules ms) [] [] w
    → IsGood (setting_at ns 0) (typed_modules ns) [] [] w
good_beside ms ns w e g = good_again (setting_at ms 0) (setting_at ns 0) (typed_modules ms) (typed_modules ns) w (λ m. same_classes ms ns 0 0 m (e m)) e g

-- what a run has left
pub good_running : (z : Environment) (ms : Modules) (modules : ModuleStates) (w : RunWorld) (inputs : List Input) → IsGood z ms [] [] w → IsGood z ms [] [] (running (left_to modules w) inputs)
good_running z ms modules w inputs g =
    record { own = g.own; places = tt; world = record { objects = g.world.objects; globals = g.world.globals }; counted = g.counted }

-- the world of a run that begins with these inputs
pub good_told : (z : Environment) (ms : Modules) (w : World) (is js : List Input) → IsGood z ms [] [] (running w is) → IsGood z ms [] [] (running w js)
good_told z ms w is js g = record { own = g.own; places = tt; world = record { objects = g.world.objects; globals = g.world.globals }; counted = g.counted }

-- as many lists of globals
ended_lists : (i : ℕ) (w : RunWorld) → length (globals_ended i w).globals ≡ length w.globals
ended_lists i w = ap length (back_globals (slice_index_or w.globals i []) (record w { globals = slice_set w.globals i [] })) ∙ set_length w.globals i []

-- as many places
rebuilt_long : (ms : ModuleStates) (i : ℕ) (o : Option ModuleState) (order : List ℕ) → length (rebuilt_at ms i o order).places ≡ length ms.places
rebuilt_long ms i o order =
    let others : List (Option ModuleState) = map (option_map (unbound_module i)) ms.places in set_length others i o ∙ length-map ms.places (option_map (unbound_module i))

-- ---- a call's value

number_wanted : (o : Option Primitive) (v : Slot) → (IsSome o → is_number v ≡ true) → is_result o v ≡ true
number_wanted None v h = refl
number_wanted (Some p) v h = h refl

-- where it is a number if its function's result is one, the guard changes nothing
called_same : (y : Guard) (r : Result Slot Fault) (v : RunWorld) (w : World) (f : ScriptFunction)
    → (IsSome (primitive_of f.result.ty) → IfOk r (λ x. is_number x ≡ true)) → misfit.called y r v w f ≡ called r v w f
called_same y (Ok x) v w f h =
    let o = primitive_of f.result.ty in guard_passes y (is_result o x) (called (Ok x) v w f) (λ fault. called (Err fault) v w f) (number_wanted o x h)
called_same y (Err fault) v w f h = refl

-- ---- modules that change alone

module _ (L : RegistrationList) where
  -- programs are the same
  kept_programs : (w : World) (ns : ModuleStates) → ((m : ℕ) → programs_of ns m ≡ programs_of w.modules m) → length ns.places ≡ length w.modules.places → IsBetween L w
      → IsBetween L (record w { modules = ns })
  kept_programs w ns e count h = record {
    own = own_same L (programs_of w.modules) (programs_of ns) e h.own;
    lists = h.lists ∙ sym count;
    good =
        let g = good_beside w.modules ns (running w []) (λ m. ap typed_of (e m)) h.good in
        record { own = g.own; places = tt; world = record { objects = g.world.objects; globals = g.world.globals }; counted = g.counted };
  }

  -- one has other links
  relinked_between : (w : World) (i index : ℕ) (link : Option Routine) (p : Program) → (module_at w i).program ≡ Some p
      → ((g : Routine) → link ≡ Some g → IsBound (programs_of w.modules i) index (programs_of w.modules g.home) g.number) → IsBetween L w
      → IsBetween L (record w { modules = placed w i (record (module_at w i) { program = Some (with_link index link p) }) })
  relinked_between w i index link p here fits h =
      let x : ModuleState = record (module_at w i) { program = Some (with_link index link p) } in
      let ns : ModuleStates = placed w i x in
      let moved = programs_relinked w.modules i x w.modules.order in
      record {
        own = own_relinked L (programs_of w.modules) (programs_of ns) i index link p here moved h.own fits;
        lists = h.lists ∙ sym (set_length w.modules.places i (Some x));
        good =
            let g = good_beside w.modules ns (running w []) (typed_relinked (programs_of w.modules) (programs_of ns) i index link p here moved) h.good in
            record { own = g.own; places = tt; world = record { objects = g.world.objects; globals = g.world.globals }; counted = g.counted };
      }

  stays_refused : (why : Refusal) (w : World) (inputs : List Input) → IsBetween L w → Stays L (refused why w inputs) (refused why w inputs)
  stays_refused why w inputs h = as_is L _ h

  pub stays_if : (b : Bool) (o p q s : Option Stepped) → Stays L o p → Stays L q s → Stays L (if b then o else q) (if b then p else s)
  stays_if true o p q s h k = h
  stays_if false o p q s h k = k

  pub stays_on : (w : World) (inputs : List Input) (o : Option ℕ) (go on : ℕ → ModuleState → List Input → Option Stepped) → IsBetween L w
      → ((i : ℕ) → o ≡ Some i → Stays L (go i (module_at w i) inputs) (on i (module_at w i) inputs)) → Stays L (on_module o w inputs go) (on_module o w inputs on)
  stays_on w inputs None go on h k = as_is L _ h
  stays_on w inputs (Some i) go on h k = k i refl

  -- ---- NewModule

  same_set : (ps : List (Option ModuleState)) (i : ℕ) (x : ModuleState) → x.program ≡ None → program_in (slice_index_or ps i None) ≡ None → (m : ℕ)
      → program_in (slice_index_or (slice_set ps i (Some x)) m None) ≡ program_in (slice_index_or ps m None)
  same_set ps i x none was m = elim (set_either ps i m (Some x) None) [
    | inl e ↦ ap program_in e
    | inr e ↦ ap program_in e.1 ∙ none ∙ sym (ap (λ k. program_in (slice_index_or ps k None)) e.0 ∙ was)
  ]

  more_place : (w : World) → IsBetween L w → IsBetween L (with_place w)
  more_place w h =
      let ns : ModuleStates = record w.modules { places = w.modules.places ++ None ∷ [] } in
      let e : (m : ℕ) → programs_of ns m ≡ programs_of w.modules m = λ m. ap program_in (at_more w.modules.places m) in
      let g = good_beside w.modules ns (running w []) (λ m. ap typed_of (e m)) h.good in
      let more : (m : ℕ) → slice_index_or (w.globals ++ [] ∷ []) m [] ≡ slice_index_or w.globals m [] = lists_more w.globals in
      record {
        own = own_same L (programs_of w.modules) (programs_of ns) e h.own;
        lists = length-append w.globals ([] ∷ []) ∙ ap (λ n. n + 1) h.lists ∙ sym (length-append w.modules.places (None ∷ []));
        good = record {
          own = g.own;
          places = tt;
          world = record {
            objects = g.world.objects;
            globals = λ m.
                subst (λ (vs : List Slot). AllTyped (setting_at ns 0) (typed_modules ns) g.own w.objects (global_types (typed_modules ns) m) vs) (sym (more m)) (g.world.globals m);
          };
          counted = place_counted (running w []) g.counted;
        };
      }
    where
      lists_more : (gs : List (List Slot)) (m : ℕ) → slice_index_or (gs ++ [] ∷ []) m [] ≡ slice_index_or gs m []
      lists_more [] zero = refl
      lists_more [] (suc m) = refl
      lists_more (l ∷ ls) zero = refl
      lists_more (l ∷ ls) (suc m) = lists_more ls m

  new_placed : (w : World) (name : List ℕ) (mask i : ℕ) → program_in (slice_index_or w.modules.places i None) ≡ None → IsBetween L w → IsBetween L (with_module i (fresh_module name mask) w)
  new_placed w name mask i was h =
      kept_programs w (record (placed w i (fresh_module name mask)) { order = w.modules.order ++ i ∷ [] }) (same_set w.modules.places i (fresh_module name mask) refl was)
      (set_length w.modules.places i (Some (fresh_module name mask))) h

  new_in : (w : World) (inputs : List Input) (name : List ℕ) (mask : ℕ) (o : Option ℕ) → position is_none w.modules.places ≡ o → IsBetween L w
      → Stays L (in_place o (fresh_module name mask) w inputs) (in_place o (fresh_module name mask) w inputs)
  new_in w inputs name mask (Some i) e h =
      let empty : slice_index_or w.modules.places i None ≡ None = none_empty (slice_index_or w.modules.places i None) (position-passes is_none w.modules.places i None e).1 in
      as_is L _ (new_placed w name mask i (ap program_in empty) h)
  new_in w inputs name mask None e h =
      let places = w.modules.places in
      let empty : slice_index_or (places ++ None ∷ []) (length places) None ≡ None = at_more places (length places) ∙ end_none places in
      stays_if (nat_le most_modules (length places)) _ _ _ _ (as_is L _ h) (as_is L _ (new_placed (with_place w) name mask (length places) (ap program_in empty) (more_place w h)))

  new_free : (w : World) (inputs : List Input) (name : List ℕ) (mask : ℕ) (o : Option ℕ) → IsBetween L w → Stays L (where_free o name mask w inputs) (where_free o name mask w inputs)
  new_free w inputs name mask (Some i) h = as_is L _ h
  new_free w inputs name mask None h = new_in w inputs name mask (empty_place w) refl h

  pub new_stays : (w : World) (inputs : List Input) (name : List ℕ) (mask : ℕ) → IsBetween L w → Stays L (added_module name mask w inputs) (added_module name mask w inputs)
  new_stays w inputs name mask h = stays_if (is_identifier name) _ _ _ _ (new_free w inputs name mask (module_named name w) h) (as_is L _ h)

  -- ---- SetMask, AddSection

  -- a module that keeps its program
  kept_set : (w : World) (i : ℕ) (x : ModuleState) → x.program ≡ (module_at w i).program → IsBetween L w → IsBetween L (record w { modules = placed w i x })
  kept_set w i x same h =
      kept_programs w (placed w i x) (λ m. elim (programs_relinked w.modules i x w.modules.order m) [
        | inl e ↦ e
        | inr e ↦ e.1 ∙ same ∙ ap (programs_of w.modules) (sym e.0)
      ]) (set_length w.modules.places i (Some x)) h

  pub mask_stays : (w : World) (inputs : List Input) (mask i : ℕ) → IsBetween L w → Stays L (set_mask mask w i (module_at w i) inputs) (set_mask mask w i (module_at w i) inputs)
  mask_stays w inputs mask i h = as_is L _ (kept_set w i (record (module_at w i) { mask = mask }) refl h)

  section_by : (b : Bool) (w : World) (inputs : List Input) (i : ℕ) (x : ModuleState) → x.program ≡ (module_at w i).program → IsBetween L w
      → Stays L (or_limit (if b then None else (Some x)) w i inputs) (or_limit (if b then None else (Some x)) w i inputs)
  section_by true w inputs i x e h = as_is L _ h
  section_by false w inputs i x e h = as_is L _ (kept_set w i x e h)

  pub section_stays : (w : World) (inputs : List Input) (text : List ℕ) (i : ℕ) → IsBetween L w → Stays L (add_section text w i (module_at w i) inputs) (add_section text w i (module_at w i) inputs)
  section_stays w inputs text i h =
      section_by _ w inputs i (record (module_at w i) { sections = (module_at w i).sections ++ text ∷ [] }) refl h

  -- ---- Unbind, Bind

  unbound_by : (w : World) (inputs : List Input) (i index : ℕ) (p : Program) (o : Option ScriptFunction) → (module_at w i).program ≡ Some p → IsBetween L w
      → Stays L (unbind_import o w i (module_at w i) p index inputs) (unbind_import o w i (module_at w i) p index inputs)
  unbound_by w inputs i index p None here h = as_is L _ h
  unbound_by w inputs i index p (Some import) here h = as_is L _ (relinked_between w i index None p here (λ g e. absurd (let x : ⊥ = cc in x)) h)

  pub unbind_by : (w : World) (inputs : List Input) (i index : ℕ) (o : Option Program) → (module_at w i).program ≡ o → IsBetween L w
      → Stays L (unbind_program o index w i (module_at w i) inputs) (unbind_program o index w i (module_at w i) inputs)
  unbind_by w inputs i index None here h = as_is L _ h
  unbind_by w inputs i index (Some p) here h = unbound_by w inputs i index p (slice_get p.names.imports index) here h

  -- what a binding chooses is the other side of one call
  chosen_bound : (w : World) (i j index : ℕ) (p q : Program) (decl : List ℕ) (o : Option ScriptFunction) (g : Routine) → (module_at w i).program ≡ Some p → (module_at w j).program ≡ Some q
      → slice_get p.names.imports index ≡ o → link_of o j q decl ≡ Ok g → IsBound (programs_of w.modules i) index (programs_of w.modules g.home) g.number
  chosen_bound w i j index p q decl None g here there declared e = absurd (let x : ⊥ = cc in x)
  chosen_bound w i j index p q decl (Some f) g here there declared e =
      let home : g.home ≡ j = home_number f j (function_named_by q.view q.names decl) q.names.functions g e in
      let same : g ≡ routine j g.number = ap (λ h. routine h g.number) home in
      let b = bindable f j g.number q decl (e ∙ ap (λ x. Ok x) same) in
      record {
        importer = p;
        here = here;
        import = f;
        declared = declared;
        exporter = q;
        there = ap (programs_of w.modules) home ∙ there;
        function = b.function;
        at = b.at;
        same = b.same;
      }

  bound_by : (w : World) (inputs : List Input) (i j index : ℕ) (p q : Program) (decl : List ℕ) (o : Option ScriptFunction) (x : Result Routine Refusal) → (module_at w i).program ≡ Some p
      → (module_at w j).program ≡ Some q → slice_get p.names.imports index ≡ o → link_of o j q decl ≡ x → IsBetween L w
      → Stays L (bound x w i (module_at w i) p index inputs) (bound x w i (module_at w i) p index inputs)
  bound_by w inputs i j index p q decl o (Err why) here there declared e h = as_is L _ h
  bound_by w inputs i j index p q decl o (Ok g) here there declared e h =
      let chosen = chosen_bound w i j index p q decl o g here there declared e in
      as_is L _ (relinked_between w i index (Some g) p here
      (λ f s. subst (λ (k : Routine). IsBound (programs_of w.modules i) index (programs_of w.modules k.home) k.number) (same_Some g f s) chosen) h)

  bind_by : (w : World) (inputs : List Input) (i j index : ℕ) (decl : List ℕ) (o n : Option Program) → (module_at w i).program ≡ o → (module_at w j).program ≡ n → IsBetween L w
      → Stays L (bind_programs o n index decl w i (module_at w i) j inputs) (bind_programs o n index decl w i (module_at w i) j inputs)
  bind_by w inputs i j index decl None n here there h = as_is L _ h
  bind_by w inputs i j index decl (Some p) None here there h = as_is L _ h
  bind_by w inputs i j index decl (Some p) (Some q) here there h =
      bound_by w inputs i j index p q decl (slice_get p.names.imports index) (link_of (slice_get p.names.imports index) j q decl) here there refl refl h

  pub both_stay : (w : World) (inputs : List Input) (o n : Option ℕ) (index : ℕ) (decl : List ℕ) → IsBetween L w → Stays L (on_both o n w inputs (bind index decl w)) (on_both o n w inputs (bind index decl w))
  both_stay w inputs None n index decl h = as_is L _ h
  both_stay w inputs (Some i) None index decl h = as_is L _ h
  both_stay w inputs (Some i) (Some j) index decl h = bind_by w inputs i j index decl (module_at w i).program (module_at w j).program refl refl h

  -- ---- Discard, and builds that come to no program

  -- module i is gone, or emptied, and its globals have ended
  pub gone_between : (w : World) (i : ℕ) (o : Option ModuleState) (order : List ℕ) (inputs : List Input) → i < length w.modules.places → program_in o ≡ None → IsBetween L w
      → IsBetween L (left_to (rebuilt_at w.modules i o order) (globals_ended i (running w inputs)))
  gone_between w i o order inputs there none h =
      let ms = w.modules in
      let ns = rebuilt_at ms i o order in
      let z = setting_at ms 0 in
      let left = ended_left z (typed_modules ms) i (running w inputs) (good_told z (typed_modules ms) w [] inputs h.good) in
      let same : (m : ℕ) → m ≢ i → typed_modules ns m ≡ typed_modules ms m = typed_elsewhere ms i o order in
      let empty : globals_in (typed_modules ns i) i ≡ [] = ap (λ (x : Option Program). globals_in (typed_of x) i) (rebuilt_here ms i o order there ∙ none) in
      let good = emptied_good z (setting_at ns 0) (typed_modules ms) (typed_modules ns) i (globals_ended i (running w inputs)) left (λ m ne. same_classes ms ns 0 0 m (same m ne)) same empty in
      record {
        own = own_rebuilt L (programs_of ms) (programs_of ns) i (program_in o) (programs_rebuilt ms i o order) h.own
            (λ p e. absurd (let s : None ≡ Some p = sym none ∙ e in let x : ⊥ = cc in x))
            (λ k g e. absurd (let s : None ≡ Some g = ap (λ (x : Option Program). link_in x k) (sym none) ∙ e in let x : ⊥ = cc in x));
        lists = ended_lists i (running w inputs) ∙ h.lists ∙ sym (rebuilt_long ms i o order);
        good = good_running (setting_at ns 0) (typed_modules ns) ns (globals_ended i (running w inputs)) [] good;
      }

  -- ---- Call

  chosen_stays : (y : Guard) (w : World) (inputs : List Input) (i budget : ℕ) (p : Program) (decl : List ℕ) (args : List Value) (c : Choice) → (module_at w i).program ≡ Some p
      → choice_of p decl args ≡ c → IsBetween L w → Stays L (misfit.call_chosen y c w i budget inputs) (call_chosen c w i budget inputs)
  chosen_stays y w inputs i budget p decl args (Not why) here e h = as_is L _ h
  chosen_stays y w inputs i budget p decl args (Chosen n f slots) here e h =
      let ms = w.modules in
      let one = number_is (function_named_by p.view p.names decl) p.names.functions args n f slots e in
      let before = running w inputs in
      let good : IsGood (setting_at ms 200) (typed_modules ms) [] [] before = good_nested ms 0 200 before (good_told (setting_at ms 0) (typed_modules ms) w [] inputs h.good) in
      let goes = call_goes y ms L budget i n p f args slots before here (h.own.each i p here) one.at one.arguments (setting_typed L ms h.own 200) good in
      let e : Ended = end_of (executed.call_of (built_in ms) budget i n slots before) in
      let long : length e.world.globals ≡ length w.globals = call_lists (setting_at ms 200) (codes_in (trees_of (built_in ms))) budget (routine i n) (reverse slots) before in
      let kept = called_same y e.result e.world w f (λ q. goes.number (plain_type (typed_modules ms i).view i f.result.ty q)) in
      record { same = ap (λ r. Some (misfit.call_ended y (end_of r) w f)) goes.same ∙ ap (λ s. Some s) kept; leaves = call_leaves e.result e.world w f h long goes.good }
    where
      call_leaves : (r : Result Slot Fault) (v : RunWorld) (x : World) (g : ScriptFunction) → IsBetween L x → length v.globals ≡ length x.globals
          → IsGood (setting_at x.modules 200) (typed_modules x.modules) [] [] v → IsBetween L (called r v x g).world
      call_leaves (Ok a) v x g k long good = record { own = k.own; lists = long ∙ k.lists; good = good_running (setting_at x.modules 0) (typed_modules x.modules) x.modules v [] (good_nested x.modules 200 0 v good) }
      call_leaves (Err a) v x g k long good = record { own = k.own; lists = long ∙ k.lists; good = good_running (setting_at x.modules 0) (typed_modules x.modules) x.modules v [] (good_nested x.modules 200 0 v good) }

  pub call_by : (y : Guard) (w : World) (inputs : List Input) (i budget : ℕ) (decl : List ℕ) (args : List Value) (o : Option Program) → (module_at w i).program ≡ o → IsBetween L w
      → Stays L (misfit.call_program y o decl args budget w i inputs) (call_program o decl args budget w i inputs)
  call_by y w inputs i budget decl args None here h = as_is L _ h
  call_by y w inputs i budget decl args (Some p) here h =
      stays_if (is_budget budget) _ _ _ _ (chosen_stays y w inputs i budget p decl args (choice_of p decl args) here refl h) (as_is L _ h)

  -- ---- Build

  -- Module i has this program now, and the others are those before.
  module _ (w : World) (h : IsBetween L w) (i : ℕ) (there : i < length w.modules.places) (V : RegistrationList) (q : Resolved)
      (own : IsOwnProgram L (program_over V q)) (inputs : List Input) where
    abbrev ms : ModuleStates
    ms = w.modules

    abbrev p : Program
    p = program_over V q

    abbrev built : ModuleState
    built = with_program p (module_at w i)

    abbrev ns : ModuleStates
    ns = rebuilt_at ms i (Some built) ms.order

    abbrev ended : RunWorld
    ended = globals_ended i (running w inputs)

    abbrev before : RunWorld
    before = globals_begun i p ended

    nowhere : (k : ℕ) (g : Routine) → link_in (Some p) k ≡ Some g → ⊥
    nowhere k g e = let s : None ≡ Some g = sym (all_none q.tree.imports k) ∙ e in let x : ⊥ = cc in x

    owned : AreOwn L (programs_of ns)
    owned =
        own_rebuilt L (programs_of ms) (programs_of ns) i (Some p) (programs_rebuilt ms i (Some built) ms.order) h.own
        (λ r e. subst (IsOwnProgram L) (same_Some p r e) own) nowhere

    left : IsLeft (setting_at ms 0) (typed_modules ms) i ended
    left = ended_left (setting_at ms 0) (typed_modules ms) i (running w inputs) (good_told (setting_at ms 0) (typed_modules ms) w [] inputs h.good)

    begins : IsGood (setting_at ns 201) (typed_modules ns) [] [] before
    begins =
        let same : (m : ℕ) → m ≢ i → typed_modules ns m ≡ typed_modules ms m = typed_elsewhere ms i (Some built) ms.order in
        let still : length ended.globals ≡ length w.globals = ended_lists i (running w inputs) in
        let long : i < length ended.globals = omega (arith, there, h.lists, still) in
        let types : globals_in (typed_modules ns i) i ≡ map (λ (g : t.Global). slot_type p.view i g.ty) p.tree.globals =
        ap (λ (x : Option Program). globals_in (typed_of x) i) (rebuilt_here ms i (Some built) ms.order there) in
        begun_good (setting_at ms 0) (setting_at ns 201) (typed_modules ms) (typed_modules ns) i ended left (λ m ne. same_classes ms ns 0 201 m (same m ne)) same p.tree p.view types
        (put_there ended.globals i (first_globals p.tree) long) (begun_counted i p ended left.none left.counted)
      where
        put_there : (xs : List (List Slot)) (k : ℕ) (x : List Slot) → k < length xs → slice_index_or (slice_set xs k x) k [] ≡ x
        put_there [] k x less = absurd (let e : ⊥ = omega (arith, less) in e)
        put_there (y ∷ ys) zero x less = refl
        put_there (y ∷ ys) (suc k) x less = put_there ys k x (omega (arith, less))

    emptied_between : (order : List ℕ) (v : RunWorld) → length v.globals ≡ length w.globals → IsGood (setting_at ns 0) (typed_modules ns) [] [] v
        → IsBetween L (left_to (rebuilt_at ms i (Some (emptied (module_at w i))) order) (globals_ended i v))
    emptied_between order v long good =
        let os = rebuilt_at ms i (Some (emptied (module_at w i))) order in
        let last = ended_left (setting_at ns 0) (typed_modules ns) i v good in
        let same : (m : ℕ) → m ≢ i → typed_modules os m ≡ typed_modules ns m =
        λ m ne. typed_elsewhere ms i (Some (emptied (module_at w i))) order m ne ∙ sym (typed_elsewhere ms i (Some built) ms.order m ne) in
        let empty : globals_in (typed_modules os i) i ≡ [] =
        ap (λ (x : Option Program). globals_in (typed_of x) i) (rebuilt_here ms i (Some (emptied (module_at w i))) order there) in
        let all = emptied_good (setting_at ns 0) (setting_at os 0) (typed_modules ns) (typed_modules os) i (globals_ended i v) last (λ m ne. same_classes ns os 0 0 m (same m ne)) same empty in
        record {
          own = own_rebuilt L (programs_of ms) (programs_of os) i None (programs_rebuilt ms i (Some (emptied (module_at w i))) order) h.own
              (λ r e. absurd (let s : None ≡ Some r = e in let x : ⊥ = cc in x)) (λ k g e. absurd (let s : None ≡ Some g = e in let x : ⊥ = cc in x));
          lists = ended_lists i v ∙ long ∙ h.lists ∙ sym (rebuilt_long ms i (Some (emptied (module_at w i))) order);
          good = good_running (setting_at os 0) (typed_modules os) os (globals_ended i v) [] all;
        }

    initialized_leaves : (r : Result Slot Fault) (v : RunWorld) → length v.globals ≡ length w.globals → IsGood (setting_at ns 0) (typed_modules ns) [] [] v
        → IsBetween L (initialized r v (all_unbound_from i w) i (module_at w i) p).world
    initialized_leaves (Ok a) v long good = record { own = owned; lists = long ∙ h.lists ∙ sym (rebuilt_long ms i (Some built) ms.order); good = good_running (setting_at ns 0) (typed_modules ns) ns v [] good }
    initialized_leaves (Err a) v long good = emptied_between ms.order v long good

    pub compiled_stays : (y : Guard) (ds : List Denial) (budget : ℕ)
        → Stays L (Some (misfit.after_build y V ds (Compiled q) (all_unbound_from i w) i (module_at w i) budget ended)) (Some (after_build V ds (Compiled q) (all_unbound_from i w) i (module_at w i) budget ended))
    compiled_stays y ds budget =
        let goes = initialization_goes y ns budget i before (setting_typed L ns owned 201) begins in
        let e : Ended = end_of (executed.initialization_of (built_in ns) budget i before) in
        let ran : length e.world.globals ≡ length before.globals =
        initialized_lists (setting_at ns 201) (codes_in (trees_of (built_in ns))) (initializers_of i (built_module (built_in ns) i).tree) budget before in
        let long : length e.world.globals ≡ length w.globals = ran ∙ set_length ended.globals i (first_globals p.tree) ∙ ended_lists i (running w inputs) in
        record {
          same = ap (λ r. Some (started (end_of r) (all_unbound_from i w) i (module_at w i) p)) goes.same;
          leaves = initialized_leaves e.result e.world long (good_nested ns 201 0 e.world goes.good);
        }
