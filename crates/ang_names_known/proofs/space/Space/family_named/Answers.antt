use Rattle.std.proofs.Common.{◌≡◌, map as list_map, rules, ap, sym, ◌∙◌}
use Rattle.std.specs.Prelude.{bytes_eq}
use Rattle.std.specs.List.{position}
use Rattle.ang_names_known.specs.declared.names.Family.{Family}
use Rattle.ang_names_known.specs.Spaces.{family_names}
use Rattle.ang_names_known.proofs.space.Space.family_named.Goals as goal

pub returns-in-Known-clause-exact : goal.returns-in-Known-clause-exact
returns-in-Known-clause-exact c =
    let listed : family_names c.self.inside.families ≡ list_map (λ (f : Family). f.name) c.in-Known.names.now.families = ap family_names c.in-Known.is in
    let shown : c.args.self.now.families ≡ family_names c.self.inside.families = first_of (search rules, cc) in
    c.known_as.ensures.exact ∙ ap (position (bytes_eq c.args.name.now)) (sym listed ∙ sym shown)
