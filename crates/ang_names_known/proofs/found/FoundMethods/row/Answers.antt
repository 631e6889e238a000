use Rattle.std.proofs.Common.{◌≡◌, ◌≤◌, ℕ, List, Option, Some, None, Bor, length, refl, sym, ap, subst, rules, ◌∙◌}
use Rattle.std.specs.Prelude.{option_map, slice_get}
use Rattle.std.proofs.lemmas.Option.{slice_get_past, slice_get_read}
use Rattle.ang_names_known.specs.declared.methods.MethodPlace.{MethodPlace}
use Rattle.ang_names_known.specs.Kinds.{Rows, Says, params_on}
use Rattle.ang_names_known.specs.Known.{KnownMethods, places_in}
use Rattle.ang_names_known.specs.Lookup.{FoundMethod}
use Rattle.ang_names_known.specs.MethodPlaces.{found_in}
use Rattle.ang_names_known.proofs.FoundRows.{says_found, says_no_rows}
use Rattle.ang_names_known.proofs.found.FoundMethods.row.Goals as goal

-- the row is that of the method at a place
abbrev says_there : ℕ → ℕ → Option (List ℕ) → KnownMethods → Type 0
says_there t n row k = Says t k.kinds row (option_map (λ (m : FoundMethod). params_on t m.method) (slice_get k.methods n))

pub returns-in_err-rows : goal.returns-in_err-rows
returns-in_err-rows c =
    let inside = c.self.inside in
    let ps : List MethodPlace = places_in inside.places in
    let shown : List MethodPlace = c.as_slice.result.now in
    let tables : List Rows = c.deref.result.now in
    let at : MethodPlace = c.in_ok-at.at.now in
    let lookup = c.in_ok-at.ensures.lookup in
    let here : slice_get ps c.args.place ≡ Some at
    = ap (λ xs. slice_get xs c.args.place) (sym c.as_slice.ensures.same) ∙ slice_get_read shown (length shown) c.args.place at refl lookup.3.0 lookup.1 in
    let past : length tables ≤ at.owner = c.in_err-rows.ensures.lookup.3 in
    let none : slice_get inside.numbering.now.methods.items at.owner ≡ None
    = ap (λ xs. slice_get xs at.owner) (sym c.deref.ensures.value) ∙ slice_get_past tables at.owner past in
    let row : Option (List ℕ) = option_map {T = Bor (List ℕ)} {U = List ℕ} (λ r. r.now) c.from_residual-in_err-rows.result in
    let no_row : row ≡ None = search rules in
    record {
      says = λ t. subst (says_there t c.args.place row) c.self.view_is
          (subst (λ r. says_there t c.args.place r (record { methods = found_in inside.families.now ps; kinds = inside.numbering.now.kinds.items })) (sym no_row)
          (says_no_rows t inside.numbering.now.kinds.items inside.numbering.now.methods.items inside.families.now ps c.args.place at c.self.invariant.0 c.self.invariant.1 here none));
    }

pub returns : goal.returns
returns c =
    let inside = c.self.inside in
    let ps : List MethodPlace = places_in inside.places in
    let shown : List MethodPlace = c.as_slice.result.now in
    let tables : List Rows = c.deref.result.now in
    let at : MethodPlace = c.in_ok-at.at.now in
    let rows : Rows = c.in_ok-rows.rows.now in
    let lookup = c.in_ok-at.ensures.lookup in
    let table_lookup = c.in_ok-rows.ensures.lookup in
    let row : Option (List ℕ) = option_map {T = Bor (List ℕ)} {U = List ℕ} (λ r. r.now) c.row.result in
    let here : slice_get ps c.args.place ≡ Some at
    = ap (λ xs. slice_get xs c.args.place) (sym c.as_slice.ensures.same) ∙ slice_get_read shown (length shown) c.args.place at refl lookup.3.0 lookup.1 in
    let there : slice_get inside.numbering.now.methods.items at.owner ≡ Some rows
    = ap (λ xs. slice_get xs at.owner) (sym c.deref.ensures.value) ∙ slice_get_read tables (length tables) at.owner rows refl table_lookup.3.0 table_lookup.1 in
    record {
      says = λ t. subst (says_there t c.args.place row) c.self.view_is
          (says_found t inside.numbering.now.kinds.items inside.numbering.now.methods.items inside.families.now ps c.args.place at rows row c.self.invariant.0 c.self.invariant.1 here there c.row.ensures.exact);
    }
