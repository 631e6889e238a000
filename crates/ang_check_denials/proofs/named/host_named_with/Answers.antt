use Rattle.std.proofs.Common.{rules, ◌≡◌, None, sym, ◌∙◌}
use Rattle.ang_check_denials.proofs.Types.{host_named_is}
use Rattle.ang_check_denials.proofs.named.host_named_with.Goals as goal

pub returns : goal.returns
returns c =
    let none : c.type_with.result ≡ None = search rules in
    record {
      exact =
          c.family_or_host.ensures.exact
          ∙ host_named_is c.args.masked.now.list c.args.masked.now.mask c.args.scope.now c.args.added c.args.name.now c.args.named.now.family None c.enumeration_with-enumeration.result
          c.requires.family c.requires.unknown (sym none ∙ c.type_with.ensures.exact) c.enumeration_with-enumeration.ensures.exact;
    }
