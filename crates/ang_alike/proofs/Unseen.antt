-- A command over two lists that show the same to the mask with which it builds does the same, apart from denials.
use Rattle.std.proofs.Common.{◌≡◌, ℕ, List, [], ◌∷◌, refl, ap, ◌∙◌, Option, Some, None}
use Rattle.std.specs.Prelude.{Bool, true, false, option_map, if◌then◌else◌}
use Rattle.ang_kinds.specs.declared.error.Denial.{Denial}
use Rattle.ang_view.specs.Groups.{Grouped}
use Rattle.ang_view.specs.Registration.{RegistrationList, seen}
use Rattle.ang_meaning.specs.World.{Input, Room, Said, Tallied, Fresh, World as RunWorld}
use Rattle.ang_engine_build.specs.Build.{Built, Errors, Compiled, build_of, denials_in}
use Rattle.ang_engine_modules.specs.declared.command.Command.{Command}
use Rattle.ang_engine_modules.specs.declared.command.Command.TheVariants.{NewModule, SetMask, AddSection, Build, Bind, Unbind, Call, Discard, RemoveGroup}
use Rattle.ang_engine_modules.specs.World.{ModuleState, World, module_named, module_at, all_unbound_from, running, globals_ended}
use Rattle.ang_engine_modules.specs.Commands.{Stepped, refused, on_module}
use Rattle.ang_engine_modules.specs.declared.reply.Refusal.TheVariants.{BadBudget}
use Rattle.ang_engine.specs.Groups.{Removal, Removed, NoGroup, InUse, removal, removing}
use Rattle.ang_engine.specs.Step.{is_budget, after_build, build, build_within, judged, granted, step}
use Rattle.ang_alike.specs.Alike.{SeesSame, common, undenied}

-- what a command leaves, without its denials
abbrev pub bare : Stepped → Stepped
bare s = record s { reply = undenied s.reply }

after_bare : (V : RegistrationList) (ds es : List Denial) (b : Built) (w : World) (i : ℕ) (m : ModuleState) (budget : ℕ) (r : RunWorld) → bare (after_build V ds b w i m budget r) ≡ bare (after_build V es b w i m budget r)
after_bare V ds es (Errors xs) w i m budget r = refl
after_bare V ds es (Compiled q) w i m budget r = refl

module _ (R S : RegistrationList) (w : World) where
  build_same : (i budget : ℕ) (m : ModuleState) → seen R m.mask ≡ seen S m.mask → (is : List Input) → option_map bare (build R w i m budget is) ≡ option_map bare (build S w i m budget is)
  build_same i budget m e [] = refl
  build_same i budget m e (Said x ∷ is) = refl
  build_same i budget m e (Tallied x ∷ is) = refl
  build_same i budget m e (Fresh x ∷ is) = refl
  build_same i budget m e (Room false ∷ is) = refl
  build_same i budget m e (Room true ∷ is) =
      let ends = globals_ended i (running w is) in
      ap (λ V. Some (bare (after_build V (denials_in R m.mask m.sections) (build_of V m.sections) (all_unbound_from i w) i m budget ends))) e
      ∙ ap (λ s. Some s) (after_bare (seen S m.mask) (denials_in R m.mask m.sections) (denials_in S m.mask m.sections) (build_of (seen S m.mask) m.sections) (all_unbound_from i w) i m budget ends)

  within_same : (b : Bool) (i budget : ℕ) (m : ModuleState) (is : List Input) → (b ≡ true → seen R m.mask ≡ seen S m.mask)
      → option_map bare (if b then (build R w i m budget is) else (refused BadBudget w is)) ≡ option_map bare (if b then (build S w i m budget is) else (refused BadBudget w is))
  within_same true i budget m is h = build_same i budget m (h refl) is
  within_same false i budget m is h = refl

  builds_same : (name : List ℕ) (budget : ℕ) (o : Option ℕ) (is : List Input) → ((i : ℕ) → o ≡ Some i → is_budget budget ≡ true → seen R (module_at w i).mask ≡ seen S (module_at w i).mask)
      → option_map bare (on_module o w is (build_within budget R w)) ≡ option_map bare (on_module o w is (build_within budget S w))
  builds_same name budget None is h = refl
  builds_same name budget (Some i) is h = within_same (is_budget budget) i budget (module_at w i) is (h i refl)

-- the same with what both lists have in common of the reply
abbrev pub common_step : Command → Stepped → Stepped
common_step c s = record s { reply = common c s.reply }

removing_same : (name : List ℕ) (x y : Removal) (w : World) (is : List Input) → option_map (common_step (RemoveGroup name)) (removing x w is) ≡ option_map (common_step (RemoveGroup name)) (removing y w is)
removing_same name (Removed r) (Removed s) w is = refl
removing_same name (Removed r) NoGroup w is = refl
removing_same name (Removed r) InUse w is = refl
removing_same name NoGroup (Removed s) w is = refl
removing_same name NoGroup NoGroup w is = refl
removing_same name NoGroup InUse w is = refl
removing_same name InUse (Removed s) w is = refl
removing_same name InUse NoGroup w is = refl
removing_same name InUse InUse w is = refl

module _ (R S : Grouped) (w : World) where
  granted_same : (c : Command) (f : Stepped → Stepped) → ((is : List Input) → option_map f (judged R w c is) ≡ option_map f (judged S w c is)) → (is : List Input) → option_map f (granted R w c is) ≡ option_map f (granted S w c is)
  granted_same c f h [] = refl
  granted_same c f h (Said x ∷ is) = refl
  granted_same c f h (Tallied x ∷ is) = refl
  granted_same c f h (Fresh x ∷ is) = refl
  granted_same c f h (Room true ∷ is) = h is
  granted_same c f h (Room false ∷ is) = refl

  pub hidden_same : (c : Command) → SeesSame R S w c → (is : List Input) → option_map (common_step c) (step R w c is) ≡ option_map (common_step c) (step S w c is)
  hidden_same (NewModule name mask) h is = granted_same (NewModule name mask) (common_step (NewModule name mask)) (λ js. refl) is
  hidden_same (SetMask name mask) h is = refl
  hidden_same (AddSection name text) h is = granted_same (AddSection name text) (common_step (AddSection name text)) (λ js. refl) is
  hidden_same (Build name budget) h is = granted_same (Build name budget) bare (λ js. builds_same R.entries S.entries w name budget (module_named name w) js h) is
  hidden_same (Bind name index exporter decl) h is = granted_same (Bind name index exporter decl) (common_step (Bind name index exporter decl)) (λ js. refl) is
  hidden_same (Unbind name index) h is = refl
  hidden_same (Call name decl args budget) h is = granted_same (Call name decl args budget) (common_step (Call name decl args budget)) (λ js. refl) is
  hidden_same (Discard name) h is = granted_same (Discard name) (common_step (Discard name)) (λ js. refl) is
  hidden_same (RemoveGroup name) h is = removing_same name (removal name R w.modules) (removal name S w.modules) w is
