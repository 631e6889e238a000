use Rattle.std.proofs.Common.{◌≡◌, ap, map, ◌∙◌}
use Rattle.ang_names_known.specs.NameIndex.{places_of}
use Rattle.ang_names.specs.Before.{Members, member_name}
use Rattle.ang_names.proofs.Among.{all_among}
use Rattle.ang_names.proofs.before.Before.row.Goals as goal

pub returns : goal.returns
returns c =
    let before = c.args.self.now in
    let member = c.args.member.now in
    let inside = c.self.inside in
    let row : c.find.result.now ≡ places_of (map (member_name before.text) before.items) (member_name before.text member) =
    c.find.ensures.exact ∙ c.self.invariant.places c.text_of.result.now
    ∙ ap (places_of (map (member_name inside.text.now) inside.items.now)) c.text_of.ensures.exact
    ∙ ap (λ (b : Members). places_of (map (member_name b.text) b.items) (member_name b.text member)) c.self.view_is in
    record { all = all_among before member c.find.result.now row }
