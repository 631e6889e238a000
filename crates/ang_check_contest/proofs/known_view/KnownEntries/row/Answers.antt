use Rattle.std.proofs.Common.{ℕ, List, Bor, subst}
use Rattle.std.specs.Prelude.{option_map}
use Rattle.ang_view.specs.Registration.{entry_at}
use Rattle.ang_names_known.specs.Kinds.{Says}
use Rattle.ang_check_contest.specs.EntryKinds.{entry_params}
use Rattle.ang_check_contest.specs.EntryKinds.{KnownEntries}
use Rattle.ang_check_contest.proofs.SeenRows.{says_of_entry}
use Rattle.ang_check_contest.proofs.known_view.KnownEntries.row.Goals as goal

pub returns : goal.returns
returns c =
    let inside = c.self.inside in
    let n : ℕ = c.args.number.0 in
    record {
      says = λ t. subst (λ (k : KnownEntries). Says t k.kinds (option_map {T = Bor (List ℕ)} {U = List ℕ} (λ row. row.now) c.row.result) (entry_params k.view t (entry_at k.view n)))
          c.self.view_is
          (says_of_entry inside.view.now t inside.kinds.now inside.rows.now n (option_map {T = Bor (List ℕ)} {U = List ℕ} (λ row. row.now) c.row.result) c.self.invariant c.row.ensures.exact);
    }
