-- Where the guard of misfits does what the meaning says, a command whose runs are guarded is the command.
use Rattle.std.proofs.Common.{◌≡◌, refl, ap, ◌∙◌, ℕ, Bool, true, false, List, [], ◌∷◌, reverse, Option, Some, None}
use Rattle.std.specs.Prelude.{Result, Ok, Err, if◌then◌else◌}
use Rattle.ang_kinds.specs.declared.error.Denial.{Denial}
use Rattle.ang_kinds.specs.declared.fault.Fault.{Fault}
use Rattle.ang_kinds.specs.declared.value.Value.{Value}
use Rattle.ang_view.specs.Groups.{Grouped}
use Rattle.ang_view.specs.Registration.{RegistrationList, seen}
use Rattle.ang_names_known.specs.declared.names.ScriptFunction.{ScriptFunction}
use Rattle.ang_meaning.specs.declared.slot.Slot.{Slot}
use Rattle.ang_meaning.specs.World.{Input, Room, Said, Tallied, Fresh, World as RunWorld}
use Rattle.ang_source.specs.Meaning.{codes_in, routine}
use Rattle.ang_source_typed.specs.Guarded.{AsMeant}
use Rattle.ang_source_typed.proofs.AsMeant.{calls_are_as_meant, initializers_are_as_meant}
use Rattle.ang_engine_build.specs.Build.{Built, Errors, Compiled, build_of, denials_in}
use Rattle.ang_engine_modules.specs.declared.command.Command.{Command}
use Rattle.ang_engine_modules.specs.declared.command.Command.TheVariants.{NewModule, SetMask, AddSection, Build, Bind, Unbind, Call, Discard, RemoveGroup}
use Rattle.ang_engine_modules.specs.Executed.{setting_for, call_of, initializers_of}
use Rattle.ang_engine_modules.specs.Modules.{module_at as built_module, trees_of}
use Rattle.ang_engine_modules.specs.Ends.{Ended, end_of}
use Rattle.ang_engine_modules.specs.World.{Program, ModuleState, World, module_named, module_at, placed, all_unbound_from, built_in, running, globals_ended}
use Rattle.ang_engine_modules.specs.Commands.{Stepped, on_module}
use Rattle.ang_engine.specs.Step.{is_budget, program_over, with_program, globals_begun, started, Choice, Chosen, Not, choice_of, called, call_chosen, call_program, after_build, build, build_within, call, judged, granted, step}
use Rattle.ang_alike.specs.Misfits.{GuardsChangeNothing}
use Rattle.ang_alike.specs.Misfits as misfit

same_if : (b : Bool) (o p q : Option Stepped) → o ≡ p → (if b then o else q) ≡ (if b then p else q)
same_if true o p q e = e
same_if false o p q e = refl

same_on : (w : World) (inputs : List Input) (o : Option ℕ) (go on : ℕ → ModuleState → List Input → Option Stepped)
    → ((i : ℕ) → go i (module_at w i) inputs ≡ on i (module_at w i) inputs) → on_module o w inputs go ≡ on_module o w inputs on
same_on w inputs None go on e = refl
same_on w inputs (Some i) go on e = e i

called_same : (r : Result Slot Fault) (v : RunWorld) (w : World) (f : ScriptFunction) → misfit.called AsMeant r v w f ≡ called r v w f
called_same (Ok x) v w f = refl
called_same (Err fault) v w f = refl

chosen_same : (w : World) (inputs : List Input) (i budget : ℕ) (c : Choice) → misfit.call_chosen AsMeant c w i budget inputs ≡ call_chosen c w i budget inputs
chosen_same w inputs i budget (Not why) = refl
chosen_same w inputs i budget (Chosen n f slots) =
    let ms = built_in w.modules in
    let e : Ended = end_of (call_of ms budget i n slots (running w inputs)) in
    ap (λ r. Some (misfit.call_ended AsMeant (end_of r) w f))
    (calls_are_as_meant (setting_for ms 200) (codes_in (trees_of ms)) budget (routine i n) (reverse slots) (running w inputs))
    ∙ ap (λ s. Some s) (called_same e.result e.world w f)

call_same : (w : World) (inputs : List Input) (i budget : ℕ) (decl : List ℕ) (args : List Value) (o : Option Program)
    → misfit.call_program AsMeant o decl args budget w i inputs ≡ call_program o decl args budget w i inputs
call_same w inputs i budget decl args None = refl
call_same w inputs i budget decl args (Some p) = same_if (is_budget budget) _ _ _ (chosen_same w inputs i budget (choice_of p decl args))

built_same : (V : RegistrationList) (ds : List Denial) (c : Built) (w : World) (i : ℕ) (m : ModuleState) (budget : ℕ) (r : RunWorld)
    → misfit.after_build AsMeant V ds c w i m budget r ≡ after_build V ds c w i m budget r
built_same V ds (Errors es) w i m budget r = refl
built_same V ds (Compiled q) w i m budget r =
    let p = program_over V q in
    let ms = built_in (placed w i (with_program p m)) in
    ap (λ r. started (end_of r) w i m p)
    (initializers_are_as_meant (setting_for ms 201) (codes_in (trees_of ms)) (initializers_of i (built_module ms i).tree) budget (globals_begun i p r))

build_same : (R : RegistrationList) (w : World) (i : ℕ) (m : ModuleState) (budget : ℕ) (inputs : List Input)
    → misfit.build AsMeant R w i m budget inputs ≡ build R w i m budget inputs
build_same R w i m budget [] = refl
build_same R w i m budget (Said x ∷ is) = refl
build_same R w i m budget (Tallied x ∷ is) = refl
build_same R w i m budget (Fresh x ∷ is) = refl
build_same R w i m budget (Room false ∷ is) = refl
build_same R w i m budget (Room true ∷ is) =
    ap (λ s. Some s)
    (built_same (seen R m.mask) (denials_in R m.mask m.sections) (build_of (seen R m.mask) m.sections) (all_unbound_from i w) i m budget (globals_ended i (running w is)))

judged_same : (R : Grouped) (w : World) (c : Command) (inputs : List Input) → misfit.judged AsMeant R w c inputs ≡ judged R w c inputs
judged_same R w (NewModule name mask) inputs = refl
judged_same R w (SetMask name mask) inputs = refl
judged_same R w (AddSection name text) inputs = refl
judged_same R w (Build name budget) inputs =
    same_on w inputs (module_named name w) (misfit.build_within AsMeant budget R.entries w) (build_within budget R.entries w)
    (λ i. same_if (is_budget budget) _ _ _ (build_same R.entries w i (module_at w i) budget inputs))
judged_same R w (Bind name index exporter decl) inputs = refl
judged_same R w (Unbind name index) inputs = refl
judged_same R w (Call name decl args budget) inputs =
    same_on w inputs (module_named name w) (misfit.call AsMeant decl args budget w) (call decl args budget w)
    (λ i. call_same w inputs i budget decl args (module_at w i).program)
judged_same R w (Discard name) inputs = refl
judged_same R w (RemoveGroup name) inputs = refl

granted_same : (R : Grouped) (w : World) (c : Command) (inputs : List Input) → misfit.granted AsMeant R w c inputs ≡ granted R w c inputs
granted_same R w c [] = refl
granted_same R w c (Said x ∷ is) = refl
granted_same R w c (Tallied x ∷ is) = refl
granted_same R w c (Fresh x ∷ is) = refl
granted_same R w c (Room true ∷ is) = judged_same R w c is
granted_same R w c (Room false ∷ is) = refl

pub guards_change_nothing : GuardsChangeNothing
guards_change_nothing R w (NewModule name mask) inputs = granted_same R w (NewModule name mask) inputs
guards_change_nothing R w (SetMask name mask) inputs = judged_same R w (SetMask name mask) inputs
guards_change_nothing R w (AddSection name text) inputs = granted_same R w (AddSection name text) inputs
guards_change_nothing R w (Build name budget) inputs = granted_same R w (Build name budget) inputs
guards_change_nothing R w (Bind name index exporter decl) inputs = granted_same R w (Bind name index exporter decl) inputs
guards_change_nothing R w (Unbind name index) inputs = judged_same R w (Unbind name index) inputs
guards_change_nothing R w (Call name decl args budget) inputs = granted_same R w (Call name decl args budget) inputs
guards_change_nothing R w (Discard name) inputs = granted_same R w (Discard name) inputs
guards_change_nothing R w (RemoveGroup name) inputs = judged_same R w (RemoveGroup name) inputs
