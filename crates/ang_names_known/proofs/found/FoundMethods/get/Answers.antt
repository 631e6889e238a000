use Rattle.std.proofs.Common.{◌≡◌, List, Some, length, refl, sym, ap, ◌∙◌}
use Rattle.std.specs.Prelude.{slice_get}
use Rattle.std.proofs.lemmas.Option.{slice_get_read}
use Rattle.ang_names_known.specs.declared.methods.MethodPlace.{MethodPlace}
use Rattle.ang_names_known.specs.Known.{KnownMethods, places_in}
use Rattle.ang_names_known.proofs.MethodPlaces.{get_found}
use Rattle.ang_names_known.proofs.found.FoundMethods.get.Goals as goal

pub returns : goal.returns
returns c =
    let inside = c.self.inside in
    let ps : List MethodPlace = places_in inside.places in
    let shown : List MethodPlace = c.as_slice.result.now in
    let at : MethodPlace = c.in_ok-at.at.now in
    let lookup = c.in_ok-at.ensures.lookup in
    let here : slice_get ps c.args.place ≡ Some at
    = ap (λ xs. slice_get xs c.args.place) (sym c.as_slice.ensures.same) ∙ slice_get_read shown (length shown) c.args.place at refl lookup.3.0 lookup.1 in
    record {
      exact = c.method_at.ensures.exact ∙ get_found inside.families.now ps c.args.place at c.self.invariant.0 here
          ∙ ap (λ (k : KnownMethods). slice_get k.methods c.args.place) c.self.view_is;
    }
