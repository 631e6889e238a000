use Rattle.std.proofs.Common.{ℕ, List, None, Bor, subst}
use Rattle.std.specs.Prelude.{option_map, slice_index_or}
use Rattle.ang_names_known.specs.Kinds.{Says}
use Rattle.ang_check_added.specs.Made.{made, params_in}
use Rattle.ang_check_denials.specs.Masked.{Masked}
use Rattle.ang_check_denials.proofs.Taking.{says_of_made}
use Rattle.ang_check_denials.proofs.masked.Masked.row.Goals as goal

pub returns : goal.returns
returns c =
    let inside = c.self.inside in
    let n : ℕ = c.args.number in
    record {
      says = subst (λ (k : Masked). Says 0 k.kinds (option_map {T = Bor (List ℕ)} {U = List ℕ} (λ row. row.now) c.row.result) (params_in (slice_index_or (made k.list) n None)))
          c.self.view_is
          (says_of_made 0 inside.numbered.kinds.items inside.numbered.rows (made inside.whole.now) n (option_map {T = Bor (List ℕ)} {U = List ℕ} (λ row. row.now) c.row.result)
          c.self.invariant.2 c.row.ensures.exact);
    }
