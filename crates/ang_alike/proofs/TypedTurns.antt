-- Commands in turn over a registry's list meet no misfit, and leave all typed.
use Rattle.std.proofs.Common.{◌≡◌, ◌≤◌, ◌<◌, ◌==◌, ◌||◌, refl, sym, ap, ◌∙◌, subst, ℕ, Bool, true, false, List, [], ◌∷◌, ◌++◌, length, Option, Some, None}
use Rattle.std.specs.Prelude.{IfSome, filter, not, if◌then◌else◌}
use Rattle.std.specs.Ordering.{nat_cmp}
use Rattle.std.specs.FinMap as finmap
use Rattle.std.specs.FinMap.{get-empty}
use Rattle.std.proofs.lemmas.List.Quantifiers.{position-Some}
use Rattle.ang_view.specs.declared.entry.Entry.{Entry}
use Rattle.ang_view.specs.declared.group.Group.{Group}
use Rattle.ang_view.specs.Groups.{Grouped, group_named, is_named_outside, left_outside, without_group}
use Rattle.ang_view.specs.Only.{IsWithin}
use Rattle.ang_view.specs.Registration.{RegistrationList, entry_at, is_seen, seen, seen_entry}
use Rattle.ang_view.proofs.Grouping.{names_left}
use Rattle.ang_view.proofs.Keeping.{length-only, only_values, only_within}
use Rattle.ang_view.proofs.Seen.{entry_at-seen}
use Rattle.ang_host.specs.State.{count_of}
use Rattle.ang_meaning.specs.World.{Bounds, Input, Room, Said, Tallied, Fresh, ScriptRecord}
use Rattle.ang_meaning.proofs.Roots.{nothing_counted}
use Rattle.ang_source_typed.specs.Guarded.{Guard, AsMeant}
use Rattle.ang_check_laws.specs.Registered.{RegistryCall}
use Rattle.ang_check_laws.proofs.RegistryOwn.{handles_own, kept_owned, registries_owned, seen_owned}
use Rattle.ang_check_laws.proofs.RegistryValues.{registries_take}
use Rattle.ang_engine_build.specs.Build.{Built, Errors, Compiled, build_of, denials_in}
use Rattle.ang_engine_modules.specs.declared.command.Command.{Command}
use Rattle.ang_engine_modules.specs.declared.command.Command.TheVariants.{NewModule, SetMask, AddSection, Build, Bind, Unbind, Call, Discard, RemoveGroup}
use Rattle.ang_engine_modules.specs.declared.reply.Reply.{Reply}
use Rattle.ang_engine_modules.specs.World.{ModuleState, ModuleStates, World, no_modules, bounded_by, has_name, module_named, module_at, all_unbound_from, running, globals_ended}
use Rattle.ang_engine_modules.specs.Commands.{Stepped, set_mask, add_section, unbind, discard}
use Rattle.ang_engine.specs.Groups as Groups
use Rattle.ang_engine.specs.Groups.{InUse, Removal, Removed, is_used, list_of, removal, removal_of, removing}
use Rattle.ang_engine.specs.Step.{Takes, is_budget, emptied, program_over, after_build, build, build_within, call, judged, granted, step, list_after}
use Rattle.ang_alike.specs.Alike.{BoundedCommand, InTurn}
use Rattle.ang_alike.specs.Misfits.{typed_modules, list_of as list_in, IsTypedBetween, GuardedTakes, MisfitsDoNotMatter, AllStayTyped}
use Rattle.ang_alike.specs.Misfits as misfit
use Rattle.ang_alike.proofs.Fitting.{seen_values, seen_few}
use Rattle.ang_alike.proofs.TypedPrograms.{IsOwnProgram}
use Rattle.ang_alike.proofs.TypedModules.{setting_typed}
use Rattle.ang_alike.proofs.TypedSteps.{IsBetween, IsPart, Stays, as_is, setting_at, good_nested, good_told, stays_if, stays_on, new_stays, mask_stays, section_stays, unbind_by, both_stay, gone_between, call_by, compiled_stays}

-- ---- what is left of a registry's list

shown : (b : Bool) (x y : Entry) → (if b then Some x else None) ≡ Some y → Some x ≡ Some y
shown true x y e = e
shown false x y e = absurd (let q : ⊥ = cc in q)

registered_by : (R : RegistrationList) (m : ℕ) (o : Option Entry) (y : Entry) → seen_entry R m o ≡ Some y → o ≡ Some y
registered_by R m None y e = absurd (let q : ⊥ = cc in q)
registered_by R m (Some x) y e = shown (is_seen R m x) x y e

seen_within : (R : RegistrationList) (m : ℕ) → IsWithin (seen R m) R
seen_within R m n x e = registered_by R m (entry_at R n) x (sym (entry_at-seen R m n) ∙ e)

part_by : (L : RegistrationList) (R : Grouped) (g : Group) (ms : ModuleStates) (named : Bool) → is_named_outside R.entries g ≡ named → (used : Bool) → IsPart L R.entries
    → IsPart L (list_of R (if named || used then InUse else Removed (without_group g R))).entries
part_by L R g ms true e used h = h
part_by L R g ms false e true h = h
part_by L R g ms false e false h = record {
  values = only_values (left_outside g) R.entries h.values;
  few = subst (λ k. k ≤ 1024) (sym (length-only (left_outside g) R.entries)) h.few;
  owned = kept_owned R.entries (left_outside g) (names_left R.entries g e) h.owned;
  within = λ n x at. h.within n x (only_within (left_outside g) R.entries n x at);
}

part_left : (L : RegistrationList) (R : Grouped) (o : Option Group) (ms : ModuleStates) → IsPart L R.entries → IsPart L (list_of R (removal_of o R ms)).entries
part_left L R None ms h = h
part_left L R (Some g) ms h = part_by L R g ms (is_named_outside R.entries g) refl (is_used R.entries g ms) h

part_after : (L : RegistrationList) (R : Grouped) (w : World) (c : Command) → IsPart L R.entries → IsPart L (list_after R w c).entries
part_after L R w (NewModule name mask) h = h
part_after L R w (SetMask name mask) h = h
part_after L R w (AddSection name text) h = h
part_after L R w (Build name budget) h = h
part_after L R w (Bind name index exporter decl) h = h
part_after L R w (Unbind name index) h = h
part_after L R w (Call name decl args budget) h = h
part_after L R w (Discard name) h = h
part_after L R w (RemoveGroup name) h = part_left L R (group_named name R) w.modules h

-- ---- a command

module _ (y : Guard) (L : RegistrationList) (R : Grouped) (part : IsPart L R.entries) (w : World) (h : IsBetween L w) where
  -- a module of a name is in a place
  place_there : (name : List ℕ) (i : ℕ) → module_named name w ≡ Some i → i < length w.modules.places
  place_there name i e = (position-Some (has_name name) w.modules.places i None e).0

  module _ (i : ℕ) (there : i < length w.modules.places) where
    abbrev m : ModuleState
    m = module_at w i

    abbrev V : RegistrationList
    V = seen R.entries m.mask

    built_by : (inputs : List Input) (budget : ℕ) (c : Built) → build_of V m.sections ≡ c
        → Stays L (Some (misfit.after_build y V (denials_in R.entries m.mask m.sections) c (all_unbound_from i w) i m budget (globals_ended i (running w inputs))))
        (Some (after_build V (denials_in R.entries m.mask m.sections) c (all_unbound_from i w) i m budget (globals_ended i (running w inputs))))
    built_by inputs budget (Errors es) e = as_is L _ (gone_between L w i (Some (emptied m)) w.modules.order inputs there refl h)
    built_by inputs budget (Compiled q) e =
        let own : IsOwnProgram L (program_over V q) = record {
          sight = V;
          sections = m.sections;
          built = e;
          view = refl;
          values = seen_values R.entries m.mask part.values;
          few = seen_few R.entries m.mask part.few;
          handles = handles_own V (seen_owned R.entries m.mask part.owned);
          within = λ n x at. part.within n x (seen_within R.entries m.mask n x at);
        } in compiled_stays L w h i there V q own inputs y (denials_in R.entries m.mask m.sections) budget

    build_stays : (budget : ℕ) (inputs : List Input) → Stays L (misfit.build y R.entries w i m budget inputs) (build R.entries w i m budget inputs)
    build_stays budget [] = as_is L None tt
    build_stays budget (Said x ∷ is) = as_is L None tt
    build_stays budget (Tallied x ∷ is) = as_is L None tt
    build_stays budget (Fresh x ∷ is) = as_is L None tt
    build_stays budget (Room true ∷ is) = built_by is budget (build_of V m.sections) refl
    build_stays budget (Room false ∷ is) = as_is L _ (gone_between L w i (Some (emptied m)) w.modules.order is there refl h)

  removed_stays : (x : Removal) (inputs : List Input) → Stays L (removing x w inputs) (removing x w inputs)
  removed_stays (Removed s) inputs = as_is L _ h
  removed_stays Groups.NoGroup inputs = as_is L _ h
  removed_stays Groups.InUse inputs = as_is L _ h

  judged_stays : (c : Command) (inputs : List Input) → Stays L (misfit.judged y R w c inputs) (judged R w c inputs)
  judged_stays (NewModule name mask) inputs = new_stays L w inputs name mask.0 h
  judged_stays (SetMask name mask) inputs =
      stays_on L w inputs (module_named name w) (set_mask mask.0 w) (set_mask mask.0 w) h (λ i e. mask_stays L w inputs mask.0 i h)
  judged_stays (AddSection name text) inputs =
      stays_on L w inputs (module_named name w) (add_section text w) (add_section text w) h (λ i e. section_stays L w inputs text i h)
  judged_stays (Build name budget) inputs =
      stays_on L w inputs (module_named name w) (misfit.build_within y budget R.entries w) (build_within budget R.entries w) h
      (λ i e. stays_if L (is_budget budget) _ _ _ _ (build_stays i (place_there name i e) budget inputs) (as_is L _ h))
  judged_stays (Bind name index exporter decl) inputs = both_stay L w inputs (module_named name w) (module_named exporter w) index decl h
  judged_stays (Unbind name index) inputs =
      stays_on L w inputs (module_named name w) (unbind index w) (unbind index w) h (λ i e. unbind_by L w inputs i index (module_at w i).program refl h)
  judged_stays (Call name decl args budget) inputs =
      stays_on L w inputs (module_named name w) (misfit.call y decl args budget w) (call decl args budget w) h
      (λ i e. call_by L y w inputs i budget decl args (module_at w i).program refl h)
  judged_stays (Discard name) inputs =
      stays_on L w inputs (module_named name w) (discard w) (discard w) h
      (λ i e. as_is L _ (gone_between L w i None (filter (λ j. not (j == i)) w.modules.order) inputs (place_there name i e) refl h))
  judged_stays (RemoveGroup name) inputs = removed_stays (removal name R w.modules) inputs

  granted_stays : (c : Command) (inputs : List Input) → Stays L (misfit.granted y R w c inputs) (granted R w c inputs)
  granted_stays c [] = as_is L None tt
  granted_stays c (Said x ∷ is) = as_is L None tt
  granted_stays c (Tallied x ∷ is) = as_is L None tt
  granted_stays c (Fresh x ∷ is) = as_is L None tt
  granted_stays c (Room true ∷ is) = judged_stays c is
  granted_stays c (Room false ∷ is) = as_is L _ h

  step_stays : (c : Command) (inputs : List Input) → Stays L (misfit.step y R w c inputs) (step R w c inputs)
  step_stays (NewModule name mask) inputs = granted_stays (NewModule name mask) inputs
  step_stays (SetMask name mask) inputs = judged_stays (SetMask name mask) inputs
  step_stays (AddSection name text) inputs = granted_stays (AddSection name text) inputs
  step_stays (Build name budget) inputs = granted_stays (Build name budget) inputs
  step_stays (Bind name index exporter decl) inputs = granted_stays (Bind name index exporter decl) inputs
  step_stays (Unbind name index) inputs = judged_stays (Unbind name index) inputs
  step_stays (Call name decl args budget) inputs = granted_stays (Call name decl args budget) inputs
  step_stays (Discard name) inputs = granted_stays (Discard name) inputs
  step_stays (RemoveGroup name) inputs = judged_stays (RemoveGroup name) inputs

  -- the command takes the world so where its runs are guarded, and leaves all typed
  guarded_takes : (c : Command) (reply : Reply) (after : World) → Takes R w c reply after → GuardedTakes y R w c reply after
  guarded_takes c reply after takes = record {
    used = takes.used;
    tells = λ rest. (step_stays c (takes.used ++ rest)).same ∙ takes.tells rest;
    told = takes.told;
    answers = takes.answers;
  }

  between_after : (c : Command) (reply : Reply) (after : World) → Takes R w c reply after → IsBetween L after
  between_after c reply after takes = subst (λ o. IfSome o (λ (s : Stepped). IsBetween L s.world)) (takes.tells []) (step_stays c (takes.used ++ [])).leaves

-- ---- commands in turn

within_bounds : (L : RegistrationList) (b : Bounds) (w : World) → IsBetween L w → IsBetween L (bounded_by b w)
within_bounds L b w h = record {
  own = h.own;
  lists = h.lists;
  good = let g = h.good in record { own = g.own; places = tt; world = record { objects = g.world.objects; globals = g.world.globals }; counted = g.counted };
}

all_turns : (y : Guard) (L : RegistrationList) (R : Grouped) → IsPart L R.entries → (cs : List BoundedCommand) (rs : List Reply) (w v : World) → IsBetween L w
    → InTurn Takes R w cs rs v → InTurn (GuardedTakes y) R w cs rs v × IsBetween L v
all_turns y L R part [] [] w v h d = (d, subst (IsBetween L) d h)
all_turns y L R part [] (r ∷ rs) w v h d = absurd d
all_turns y L R part (c ∷ cs) [] w v h d = absurd d
all_turns y L R part (c ∷ cs) (r ∷ rs) w v h d =
    let before : World = bounded_by c.bounds w in
    let here = within_bounds L c.bounds w h in
    let next : World = d.0 in
    let takes : Takes R before c.command r next = d.1 in
    let after = between_after y L R part before here c.command r next takes in
    let rest =
    all_turns y L (list_after R before c.command) (part_after L R before c.command part) cs rs next v after d.2 in
    ((next, guarded_takes y L R part before here c.command r next takes, rest.0), rest.1)

-- ---- from the beginning

none_there : (n : ℕ) (o : ScriptRecord) → finmap.get (running no_modules []).objects n ≡ Some o → ⊥
none_there n o g = let s : None ≡ Some o = sym (get-empty nat_cmp n) ∙ g in let q : ⊥ = cc in q

begins : (L : RegistrationList) → IsBetween L no_modules
begins L = record {
  own = record {
    each = λ m p e. absurd (let s : None ≡ Some p = e in let q : ⊥ = cc in q);
    bound = λ m i g e. absurd (let s : None ≡ Some g = e in let q : ⊥ = cc in q);
  };
  lists = refl;
  good = record {
    own = λ n. 0;
    places = tt;
    world = record { objects = λ n o g. absurd (none_there n o g); globals = λ m. tt };
    counted = nothing_counted (running no_modules []) refl (λ d k. ap count_of (get-empty {X = ℕ} nat_cmp k)) (λ x. refl);
  };
}

part_of : (calls : List RegistryCall) → IsPart (list_in calls).entries (list_in calls).entries
part_of calls = let takes = registries_take calls in record { values = takes.values; few = takes.few; owned = registries_owned calls; within = λ n x e. e }

pub misfits_do_not_matter : MisfitsDoNotMatter
misfits_do_not_matter y calls cs rs v d = (all_turns y (list_in calls).entries (list_in calls) (part_of calls) cs rs no_modules v (begins (list_in calls).entries) d).0

typed_between : (L : RegistrationList) (w : World) → IsBetween L w → IsTypedBetween w
typed_between L w h = record {
  setting = λ nesting. setting_typed L w.modules h.own nesting;
  good = λ nesting inputs. good_told (setting_at w.modules nesting) (typed_modules w.modules) w [] inputs (good_nested w.modules 0 nesting (running w []) h.good);
}

pub all_stay_typed : AllStayTyped
all_stay_typed calls cs rs v d =
    typed_between (list_in calls).entries v (all_turns AsMeant (list_in calls).entries (list_in calls) (part_of calls) cs rs no_modules v (begins (list_in calls).entries) d).1
