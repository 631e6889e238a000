use Rattle.std.proofs.Common.{◌≡◌, ◌≤◌, ◌++◌, ◌∷◌, [], true, false, List, Some, None, length, refl, sym, ap, subst, ◌∙◌}
use Rattle.std.specs.Prelude.{slice_get}
use Rattle.std.specs.List.{list_any}
use Rattle.std.proofs.lemmas.Option.{slice_get_past, slice_get_read}
use Rattle.std.proofs.lemmas.Result.{on_ok_weaker}
use Rattle.ang_names_known.specs.declared.methods.MethodPlace.{MethodPlace}
use Rattle.ang_names_known.specs.declared.names.Family.{Family}
use Rattle.ang_names_known.specs.declared.names.ScriptMethod.{ScriptMethod}
use Rattle.ang_names_known.specs.Lookup.{FoundMethod, stands_in}
use Rattle.ang_names_known.specs.MethodPlaces.{AreFound, found_at, found_in}
use Rattle.ang_names_known.specs.Nearest.{methods_declared, of_owner}
use Rattle.ang_names_known.proofs.MethodPlaces.{are_found_more, found_here, found_more, nothing_nearest, slot_free, slot_taken}
use Rattle.ang_names_known.proofs.methods.push_method.Goals as goal

pub returns-in_default-clause-pushed : goal.returns-in_default-clause-pushed
returns-in_default-clause-pushed c =
    let fs : List Family = c.args.families.now in
    let own : List ScriptMethod = c.own_methods.result.now in
    let past : length own ≤ c.args.place = c.in_default.ensures.lookup.3 in
    let none : slice_get (methods_declared (slice_get fs c.args.owner)) c.args.place ≡ None
    = ap (λ ms. slice_get ms c.args.place) (sym c.own_methods.ensures.exact) ∙ slice_get_past own c.args.place past in
    nothing_nearest (found_in fs c.args.found.now.items) c.args.owner (slice_get (methods_declared (slice_get fs c.args.owner)) c.args.place) none

pub returns-then-has_slot-clause-pushed : goal.returns-then-has_slot-clause-pushed
returns-then-has_slot-clause-pushed c =
    let fs : List Family = c.args.families.now in
    let own : List ScriptMethod = c.own_methods.result.now in
    let m : ScriptMethod = c.in-Some.method.now in
    let found : List FoundMethod = found_in fs c.args.found.now.items in
    let lookup = c.in-Some.ensures.lookup in
    let here : slice_get (methods_declared (slice_get fs c.args.owner)) c.args.place ≡ Some m
    = ap (λ ms. slice_get ms c.args.place) (sym c.own_methods.ensures.exact) ∙ slice_get_read own (length own) c.args.place m refl lookup.3.0 lookup.1 in
    let taken : list_any (stands_in m.slot) found ≡ true
    = ap (λ ps. list_any (stands_in m.slot) (found_in fs ps)) (sym c.deref.ensures.value) ∙ sym c.has_slot.ensures.exact ∙ c.if-has_slot.true in
    slot_taken found c.args.owner (slice_get (methods_declared (slice_get fs c.args.owner)) c.args.place) m here taken

pub push_nearest-requires-clause-method : goal.push_nearest-requires-clause-method
push_nearest-requires-clause-method c =
    let fs : List Family = c.args.families.now in
    let own : List ScriptMethod = c.own_methods.result.now in
    let m : ScriptMethod = c.in-Some.method.now in
    let lookup = c.in-Some.ensures.lookup in
    let here : slice_get (methods_declared (slice_get fs c.args.owner)) c.args.place ≡ Some m
    = ap (λ ms. slice_get ms c.args.place) (sym c.own_methods.ensures.exact) ∙ slice_get_read own (length own) c.args.place m refl lookup.3.0 lookup.1 in
    (of_owner c.args.owner m, (found_here fs c.in_ok-at.at c.args.owner c.args.place m c.in_ok-at.ensures.owner c.in_ok-at.ensures.place here, refl))

pub returns-clause-pushed : goal.returns-clause-pushed
returns-clause-pushed c =
    let fs : List Family = c.args.families.now in
    let own : List ScriptMethod = c.own_methods.result.now in
    let m : ScriptMethod = c.in-Some.method.now in
    let at : MethodPlace = c.in_ok-at.at in
    let before : List MethodPlace = c.args.found.now.items in
    let found : List FoundMethod = found_in fs before in
    let lookup = c.in-Some.ensures.lookup in
    let here : slice_get (methods_declared (slice_get fs c.args.owner)) c.args.place ≡ Some m
    = ap (λ ms. slice_get ms c.args.place) (sym c.own_methods.ensures.exact) ∙ slice_get_read own (length own) c.args.place m refl lookup.3.0 lookup.1 in
    let there : found_at fs at ≡ Some (of_owner c.args.owner m) = found_here fs at c.args.owner c.args.place m c.in_ok-at.ensures.owner c.in_ok-at.ensures.place here in
    let free : list_any (stands_in m.slot) found ≡ false
    = ap (λ ps. list_any (stands_in m.slot) (found_in fs ps)) (sym c.deref.ensures.value) ∙ sym c.has_slot.ensures.exact ∙ c.if-has_slot.false in
    on_ok_weaker c.push_nearest.result
    (λ (pushed : c.push_nearest.new.found.items ≡ before ++ at ∷ []).
    ap (found_in fs) pushed ∙ found_more fs before at (of_owner c.args.owner m) there
    ∙ ap (λ r. found ++ r) (sym (slot_free found c.args.owner (slice_get (methods_declared (slice_get fs c.args.owner)) c.args.place) m here free)))
    c.push_nearest.ensures.pushed

pub returns-clause-there : goal.returns-clause-there
returns-clause-there c =
    let fs : List Family = c.args.families.now in
    let own : List ScriptMethod = c.own_methods.result.now in
    let m : ScriptMethod = c.in-Some.method.now in
    let at : MethodPlace = c.in_ok-at.at in
    let before : List MethodPlace = c.args.found.now.items in
    let lookup = c.in-Some.ensures.lookup in
    let here : slice_get (methods_declared (slice_get fs c.args.owner)) c.args.place ≡ Some m
    = ap (λ ms. slice_get ms c.args.place) (sym c.own_methods.ensures.exact) ∙ slice_get_read own (length own) c.args.place m refl lookup.3.0 lookup.1 in
    let there : found_at fs at ≡ Some (of_owner c.args.owner m) = found_here fs at c.args.owner c.args.place m c.in_ok-at.ensures.owner c.in_ok-at.ensures.place here in
    on_ok_weaker c.push_nearest.result
    (λ (pushed : c.push_nearest.new.found.items ≡ before ++ at ∷ []).
    subst (AreFound fs) (sym pushed) (are_found_more fs before at (of_owner c.args.owner m) c.requires.there there))
    c.push_nearest.ensures.pushed
