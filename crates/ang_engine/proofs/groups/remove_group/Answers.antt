use Rattle.std.proofs.Common.{rules, ◌≡◌, ◌∙◌, refl, ap, sym, subst, true, false, Some, None, Ok, Err}
use Rattle.std.specs.List.{list_any}
use Rattle.ang_view.specs.Groups.{group_named}
use Rattle.ang_registry.specs.Groups.{refusal_of_removal, with_removed, without}
use Rattle.ang_registry.specs.Registrations.{Registrations, grouped}
use Rattle.ang_engine_modules.specs.Keeping.{place_keeps_some}
use Rattle.ang_engine_modules.specs.declared.reply.Refusal.TheVariants as refusal
use Rattle.ang_engine.specs.Groups.{NoGroup, IsRemoved, list_of}
use Rattle.ang_engine.specs.Sound.{AreSoundModules}
use Rattle.ang_engine.proofs.LeavingGroups.{grouped_left, is_kept, is_removed, left_sound, none_found, not_outside, refused_outside, removed_now, what}
use Rattle.ang_engine.proofs.groups.remove_group.Goals as goal

-- ---- there is no group of that name

pub returns-in_default-clause-exact : goal.returns-in_default-clause-exact
returns-in_default-clause-exact c =
    let r = c.args.registry.now in
    let is : what r c.args.modules.now c.args.name ≡ NoGroup = none_found r c.args.modules.now c.args.name (subst (λ n. group_named n (grouped r) ≡ None) c.as_slice.ensures.same (sym c.in_default.ensures.exact)) in
    subst (λ y. IsRemoved {U = Unit {0}} (Err refusal.NoGroup) y) (sym is) refl

pub returns-in_default-clause-list : goal.returns-in_default-clause-list
returns-in_default-clause-list c =
    let r = c.args.registry.now in
    let is : what r c.args.modules.now c.args.name ≡ NoGroup = none_found r c.args.modules.now c.args.name (subst (λ n. group_named n (grouped r) ≡ None) c.as_slice.ensures.same (sym c.in_default.ensures.exact)) in
    sym (ap (list_of (grouped r)) is)

-- ---- a module keeps an entry of it

pub returns-then-keep-clause-exact : goal.returns-then-keep-clause-exact
returns-then-keep-clause-exact c =
    let r = c.args.registry.now in
    let x = c.args.modules.now in
    let g = c.in-Some.group.now in
    let found : group_named c.args.name (grouped r) ≡ Some g = subst (λ n. group_named n (grouped r) ≡ Some g) c.as_slice.ensures.same (sym c.in-Some.ensures.exact) in
    let kept : list_any (place_keeps_some g) x.code ≡ true = search rules in
    subst (λ y. IsRemoved {U = Unit {0}} (Err refusal.InUse) y) (sym (is_kept r x c.args.name g found c.requires.sound kept)) refl

pub returns-then-keep-clause-list : goal.returns-then-keep-clause-list
returns-then-keep-clause-list c =
    let r = c.args.registry.now in
    let x = c.args.modules.now in
    let g = c.in-Some.group.now in
    let found : group_named c.args.name (grouped r) ≡ Some g = subst (λ n. group_named n (grouped r) ≡ Some g) c.as_slice.ensures.same (sym c.in-Some.ensures.exact) in
    let kept : list_any (place_keeps_some g) x.code ≡ true = search rules in
    sym (ap (list_of (grouped r)) (is_kept r x c.args.name g found c.requires.sound kept))

-- ---- something outside names a type of it

pub returns-in-Err-clause-exact : goal.returns-in-Err-clause-exact
returns-in-Err-clause-exact c =
    let r = c.args.registry.now in
    let x = c.args.modules.now in
    let g = c.in-Some.group.now in
    let found : group_named c.args.name (grouped r) ≡ Some g = subst (λ n. group_named n (grouped r) ≡ Some g) c.as_slice.ensures.same (sym c.in-Some.ensures.exact) in
    let p = refused_outside r x c.args.name g found _ (ap (refusal_of_removal r) (sym c.as_slice-2.ensures.same) ∙ c.in-Err.ensures.first_refusal) in
    subst (λ y. IsRemoved {U = Unit {0}} (Err refusal.InUse) y) (sym p.0) refl

pub returns-in-Err-clause-list : goal.returns-in-Err-clause-list
returns-in-Err-clause-list c =
    let r = c.args.registry.now in
    let x = c.args.modules.now in
    let g = c.in-Some.group.now in
    let found : group_named c.args.name (grouped r) ≡ Some g = subst (λ n. group_named n (grouped r) ≡ Some g) c.as_slice.ensures.same (sym c.in-Some.ensures.exact) in
    let p = refused_outside r x c.args.name g found _ (ap (refusal_of_removal r) (sym c.as_slice-2.ensures.same) ∙ c.in-Err.ensures.first_refusal) in
    ap grouped c.in-Err.ensures.unchanged ∙ sym (ap (list_of (grouped r)) p.0)

-- ---- it is removed

pub returns-clause-exact : goal.returns-clause-exact
returns-clause-exact c =
    let r = c.args.registry.now in
    let x = c.args.modules.now in
    let g = c.in-Some.group.now in
    let found : group_named c.args.name (grouped r) ≡ Some g = subst (λ n. group_named n (grouped r) ≡ Some g) c.as_slice.ensures.same (sym c.in-Some.ensures.exact) in
    let free = not_outside r x c.args.name g found (subst (λ n. refusal_of_removal r n ≡ None) c.as_slice-2.ensures.same c.in-Ok.ensures.accepted) in
    let left : list_any (place_keeps_some g) x.code ≡ false = search rules in
    subst (λ y. IsRemoved {U = Unit {0}} (Ok tt) y) (sym (is_removed r x c.args.name g found c.requires.sound free left)) tt

pub returns-clause-list : goal.returns-clause-list
returns-clause-list c =
    let r = c.args.registry.now in
    let x = c.args.modules.now in
    let g = c.in-Some.group.now in
    let found : group_named c.args.name (grouped r) ≡ Some g = subst (λ n. group_named n (grouped r) ≡ Some g) c.as_slice.ensures.same (sym c.in-Some.ensures.exact) in
    let free = not_outside r x c.args.name g found (subst (λ n. refusal_of_removal r n ≡ None) c.as_slice-2.ensures.same c.in-Ok.ensures.accepted) in
    let left : list_any (place_keeps_some g) x.code ≡ false = search rules in
    let now : c.remove_group.new.self ≡ with_removed r g = c.in-Ok.ensures.removed ∙ ap (λ n. without r n) c.as_slice-2.ensures.same ∙ removed_now r x c.args.name g found in
    ap grouped now ∙ grouped_left r c.args.name g found ∙ sym (ap (list_of (grouped r)) (is_removed r x c.args.name g found c.requires.sound free left))

pub returns-clause-sound : goal.returns-clause-sound
returns-clause-sound c =
    let r = c.args.registry.now in
    let x = c.args.modules.now in
    let g = c.in-Some.group.now in
    let found : group_named c.args.name (grouped r) ≡ Some g = subst (λ n. group_named n (grouped r) ≡ Some g) c.as_slice.ensures.same (sym c.in-Some.ensures.exact) in
    let free = not_outside r x c.args.name g found (subst (λ n. refusal_of_removal r n ≡ None) c.as_slice-2.ensures.same c.in-Ok.ensures.accepted) in
    let left : list_any (place_keeps_some g) x.code ≡ false = search rules in
    let now : c.remove_group.new.self ≡ with_removed r g = c.in-Ok.ensures.removed ∙ ap (λ n. without r n) c.as_slice-2.ensures.same ∙ removed_now r x c.args.name g found in
    subst (λ (q : Registrations). AreSoundModules q.entries x) (sym now) (left_sound r x c.args.name g found c.requires.sound free left)

pub returns-clause-mask : goal.returns-clause-mask
returns-clause-mask c =
    let r = c.args.registry.now in
    let x = c.args.modules.now in
    let g = c.in-Some.group.now in
    let found : group_named c.args.name (grouped r) ≡ Some g = subst (λ n. group_named n (grouped r) ≡ Some g) c.as_slice.ensures.same (sym c.in-Some.ensures.exact) in
    let now : c.remove_group.new.self ≡ with_removed r g = c.in-Ok.ensures.removed ∙ ap (λ n. without r n) c.as_slice-2.ensures.same ∙ removed_now r x c.args.name g found in
    ap (λ (q : Registrations). q.default_mask) now
