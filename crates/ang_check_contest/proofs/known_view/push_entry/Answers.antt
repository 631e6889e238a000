use Rattle.std.proofs.Common.{◌≡◌, ℕ, Bool, true, List, Option, Some, map as list_map, sym, ap, subst, rules, ◌∙◌}
use Rattle.std.specs.Prelude.{is_some, IfOk}
use Rattle.std.proofs.lemmas.Result.{IfOk-weaker}
use Rattle.ang_types.specs.declared.arg_type.ArgType.{ArgType}
use Rattle.ang_types.specs.Overloads.{Params}
use Rattle.ang_view.specs.declared.entry.Entry.{Entry}
use Rattle.ang_check_contest.specs.Host.{host_parameters, host_type}
use Rattle.ang_names_known.specs.Kinds.{kinds_at, numbered}
use Rattle.ang_check_contest.specs.EntryKinds.{SaysIf, after, entry_params, receiver_row, row_if}
use Rattle.ang_check_contest.proofs.SeenRows.{front_of, says_seen, some_there}
use Rattle.ang_check_contest.proofs.known_view.push_entry.Goals as goal

pub returns-clause-pushed : goal.returns-clause-pushed
returns-clause-pushed c =
    let V = c.args.view.now in
    let x : Entry = c.args.entry.now in
    let old = c.args.table.now in
    let new = c.push_seen.new.table in
    let row : List ℕ = c.push_receiver.new.row.items in
    let ns : List ℕ = c.push_seen.new.row.items in
    let all_is : c.in_ok-push_receiver.field-0 ≡ true = search rules in
    let receiver : Some row ≡ receiver_row x.kind x.signature.read_only = ap (λ b. row_if b row) (sym all_is) ∙ c.in_ok-push_receiver.ensures.pushed in
    let is_there : is_some c.host_type.result ≡ true = search rules in
    let seen = some_there (host_type V x.signature.result) (ap is_some (sym c.host_type.ensures.exact) ∙ is_there) in
    IfOk-weaker c.push_seen.result
    (λ (all : Bool). (t : ℕ) (front : Params) → kinds_at (numbered t old) row ≡ list_map Some front → SaysIf all (numbered t new) ns (after front (host_parameters V c.as_slice.result.now)))
    (λ (all : Bool). (t : ℕ) → SaysIf all (numbered t new) ns (entry_params V t (Some x)))
    (λ all says t.
    let f = front_of t old x.kind x.signature.read_only row receiver in
    says_seen V t x seen.0 all old new row ns f seen.1
    (subst (λ ps. SaysIf all (numbered t new) ns (after f.front (host_parameters V ps))) c.as_slice.ensures.same (says t f.front f.says)))
    c.push_seen.ensures.pushed
