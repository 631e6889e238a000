use Rattle.std.proofs.Common.{ℕ, List, Option, Bor, subst}
use Rattle.std.specs.Prelude.{option_map, slice_get}
use Rattle.ang_names_known.specs.Kinds.{Says}
use Rattle.ang_names_known.specs.Known.{KnownFunctions}
use Rattle.ang_names_known.specs.Lookup.{parameters_of}
use Rattle.ang_names_known.proofs.KeptNumbers.{says_function}
use Rattle.ang_names_known.proofs.known.KnownFunctions.of_function.Goals as goal

pub returns : goal.returns
returns c =
    let inside = c.self.inside in
    let numbering = inside.numbering.now in
    let row : Option (List ℕ) = option_map {T = Bor (List ℕ)} {U = List ℕ} (λ r. r.now) c.row.result in
    record {
      says = λ t. subst (λ (k : KnownFunctions). Says t k.kinds row (option_map parameters_of (slice_get k.functions c.args.number))) c.self.view_is
          (says_function t numbering.kinds.items numbering.functions inside.functions.now c.args.number row c.self.invariant.of_functions c.row.ensures.exact);
    }
