use Rattle.std.proofs.Common.{rules, ◌≡◌, IfOk, refl, subst, ap, ◌∙◌, map as list_map}
use Rattle.std.specs.List.{flat_map}
use Rattle.ang_kinds.specs.declared.mask.EntityNo.{EntityNo}
use Rattle.ang_view.specs.Named.{find}
use Rattle.ang_check_contest.specs.declared.host.Wanted.TheVariants as wanted
use Rattle.ang_names_known.specs.Lookup.{functions_named as numbers_named}
use Rattle.ang_check_uses.specs.declared.hosts.HostCallKind.TheVariants as usage
use Rattle.ang_check_uses.specs.declared.scripts.FunctionList.TheVariants as declared
use Rattle.ang_check_uses.specs.Choosing.{function_entry, host_entry}
use Rattle.ang_check_contest.specs.Contest.{fresh, after}
use Rattle.ang_check_uses.proofs.ChosenLaws.{functions_joined}
use Rattle.ang_check_uses.proofs.choosing.functions_entered.Goals as goal

pub returns : goal.returns
returns c =
    let s = c.args.scope.now in
    let name = c.args.name.now in
    let args = c.args.args.now in
    let es = c.find-numbers.result.now in
    let row : list_map (λ (e : EntityNo). e.0) es ≡ find s.view name = search rules in
    let functions = after s.ancestors args fresh (flat_map (function_entry declared.Functions s.names.functions) (numbers_named s.names.functions name)) in
    let imports = after s.ancestors args functions (flat_map (function_entry declared.Imports s.names.imports) (numbers_named s.names.imports name)) in
    let scripts : c.in_ok-contest.contest ≡ imports = search rules in
    let hosts = after s.ancestors args imports (flat_map (host_entry usage.Function (wanted.Function name) s.view) es) in
    let joined = functions_joined s name args functions imports hosts es row refl refl refl in
    let entered : IfOk c.enter_hosts.result (λ contest. contest ≡ hosts) = search rules in
    record { entered = subst (λ x. IfOk c.enter_hosts.result (λ contest. contest ≡ x)) joined entered }
