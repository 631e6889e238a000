use Rattle.std.proofs.Common.{◌≡◌, ◌∙◌, ℕ, List, Some, Vec, length, refl, sym, ap, subst}
use Rattle.std.specs.Prelude.{option_map, slice_get}
use Rattle.std.specs.declared.alloc.Global.{Global}
use Rattle.std.proofs.lemmas.Option.{slice_get-map, slice_get_read}
use Rattle.ang_index.specs.Rows.{items_at}
use Rattle.ang_names_known.specs.declared.methods.MethodPlace.{MethodPlace}
use Rattle.ang_names_known.specs.Crowded.{lists_of}
use Rattle.ang_names_known.specs.MethodPlaces.{AreFound, found_in}
use Rattle.ang_names_known.proofs.CrowdedLists.{list_is}
use Rattle.ang_names_known.proofs.crowded.listed.Goals as goal

pub returns-clause-there : goal.returns-clause-there
returns-clause-there c =
    let m = c.args.crowded.now in
    let name : List ℕ = c.args.name.now in
    let numbers : List ℕ = c.find.result.now in
    let n : ℕ = c.in_ok-number.number.now in
    let list : Vec MethodPlace Global = c.in_ok-list.list.now in
    let item = c.in_ok-number.ensures.item in
    let lookup = c.in_ok-list.ensures.lookup in
    let at : slice_get (items_at c.args.family name m.numbers) 0 ≡ Some n
    = ap (λ xs. slice_get xs 0) (sym c.find.ensures.exact) ∙ slice_get_read numbers (length numbers) 0 n refl item.3.0 item.1 in
    let there : slice_get m.lists.items n ≡ Some list
    = ap (λ xs. slice_get xs n) (sym c.deref.ensures.value) ∙ slice_get_read c.deref.result.now (length c.deref.result.now) n list refl lookup.3.0 lookup.1 in
    let is : slice_get (lists_of m) n ≡ Some list.items
    = slice_get-map (λ (v : Vec MethodPlace Global). v.items) m.lists.items n ∙ ap (option_map (λ (v : Vec MethodPlace Global). v.items)) there in
    λ fs right. subst (AreFound fs) (sym c.as_slice.ensures.value) (list_is fs m c.args.family n 0 name list.items right at is).there

pub returns-clause-exact : goal.returns-clause-exact
returns-clause-exact c =
    let m = c.args.crowded.now in
    let name : List ℕ = c.args.name.now in
    let numbers : List ℕ = c.find.result.now in
    let n : ℕ = c.in_ok-number.number.now in
    let list : Vec MethodPlace Global = c.in_ok-list.list.now in
    let item = c.in_ok-number.ensures.item in
    let lookup = c.in_ok-list.ensures.lookup in
    let at : slice_get (items_at c.args.family name m.numbers) 0 ≡ Some n
    = ap (λ xs. slice_get xs 0) (sym c.find.ensures.exact) ∙ slice_get_read numbers (length numbers) 0 n refl item.3.0 item.1 in
    let there : slice_get m.lists.items n ≡ Some list
    = ap (λ xs. slice_get xs n) (sym c.deref.ensures.value) ∙ slice_get_read c.deref.result.now (length c.deref.result.now) n list refl lookup.3.0 lookup.1 in
    let is : slice_get (lists_of m) n ≡ Some list.items
    = slice_get-map (λ (v : Vec MethodPlace Global). v.items) m.lists.items n ∙ ap (option_map (λ (v : Vec MethodPlace Global). v.items)) there in
    λ fs right. ap (found_in fs) c.as_slice.ensures.value ∙ (list_is fs m c.args.family n 0 name list.items right at is).exact
