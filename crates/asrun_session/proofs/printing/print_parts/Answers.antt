use Rattle.std.proofs.Common.{[], ◌++◌, ◌∙◌, subst, flat_map}
use Rattle.std.specs.Io.KnownBytes.{Appends}
use Rattle.asrun_text.specs.Text.{event_text, error_text, denial_text, outcome_text}
use Rattle.asrun_session.specs.Writing.{HasFront}
use Rattle.asrun_session.proofs.Held.{on_err, held_clear, held_join, held_front, front_join, front_more, written_join}
use Rattle.asrun_session.proofs.printing.print_parts.Goals as goal

pub returns-in_err-add_events-clause-front : goal.returns-in_err-add_events-clause-front
returns-in_err-add_events-clause-front g c =
    let old = g.W.Write.contents c.args.writer.now in
    let es = flat_map event_text c.args.events.now in
    let fs = flat_map error_text c.args.errors.now in
    let ds = flat_map denial_text c.args.denials.now in
    let o = outcome_text c.args.outcome in
    let start = held_clear old _ c.clear.ensures.items in
    let new = g.W.Write.contents c.add_events.new.writer in
    on_err c.from_residual.result
    (front_more old new ((es ++ fs) ++ ds) o (front_more old new (es ++ fs) ds (front_more old new es fs
    (front_join old old new _ [] es start c.in_err-add_events.ensures.front))))

pub returns-in_err-add_lines-clause-front : goal.returns-in_err-add_lines-clause-front
returns-in_err-add_lines-clause-front g c =
    let old = g.W.Write.contents c.args.writer.now in
    let es = flat_map event_text c.args.events.now in
    let fs = flat_map error_text c.args.errors.now in
    let ds = flat_map denial_text c.args.denials.now in
    let o = outcome_text c.args.outcome in
    let start = held_clear old _ c.clear.ensures.items in
    let one = g.W.Write.contents c.add_events.new.writer in
    let first = held_join old old one _ _ [] es start c.in_ok-add_events.ensures.whole in
    let new = g.W.Write.contents c.add_lines.new.writer in
    on_err c.from_residual-in_err-add_lines.result
    (front_more old new ((es ++ fs) ++ ds) o (front_more old new (es ++ fs) ds
    (front_join old one new _ es fs first c.in_err-add_lines.ensures.front)))

pub returns-in_err-add_denials-clause-front : goal.returns-in_err-add_denials-clause-front
returns-in_err-add_denials-clause-front g c =
    let old = g.W.Write.contents c.args.writer.now in
    let es = flat_map event_text c.args.events.now in
    let fs = flat_map error_text c.args.errors.now in
    let ds = flat_map denial_text c.args.denials.now in
    let o = outcome_text c.args.outcome in
    let start = held_clear old _ c.clear.ensures.items in
    let one = g.W.Write.contents c.add_events.new.writer in
    let first = held_join old old one _ _ [] es start c.in_ok-add_events.ensures.whole in
    let two = g.W.Write.contents c.add_lines.new.writer in
    let second = held_join old one two _ _ es fs first c.in_ok-add_lines.ensures.whole in
    let new = g.W.Write.contents c.add_denials.new.writer in
    on_err c.from_residual-in_err-add_denials.result
    (front_more old new ((es ++ fs) ++ ds) o
    (front_join old two new _ (es ++ fs) ds second c.in_err-add_denials.ensures.front))

pub returns-in_err-push_outcome-clause-front : goal.returns-in_err-push_outcome-clause-front
returns-in_err-push_outcome-clause-front g c =
    let old = g.W.Write.contents c.args.writer.now in
    let es = flat_map event_text c.args.events.now in
    let fs = flat_map error_text c.args.errors.now in
    let ds = flat_map denial_text c.args.denials.now in
    let o = outcome_text c.args.outcome in
    let start = held_clear old _ c.clear.ensures.items in
    let one = g.W.Write.contents c.add_events.new.writer in
    let first = held_join old old one _ _ [] es start c.in_ok-add_events.ensures.whole in
    let two = g.W.Write.contents c.add_lines.new.writer in
    let second = held_join old one two _ _ es fs first c.in_ok-add_lines.ensures.whole in
    let three = g.W.Write.contents c.add_denials.new.writer in
    let third = held_join old two three _ _ (es ++ fs) ds second c.in_ok-add_denials.ensures.whole in
    on_err c.from_residual-in_err-push_outcome.result
    (front_more old three ((es ++ fs) ++ ds) o (held_front old three _ ((es ++ fs) ++ ds) third))

pub returns-in_err-write_text-clause-front : goal.returns-in_err-write_text-clause-front
returns-in_err-write_text-clause-front g c =
    let old = g.W.Write.contents c.args.writer.now in
    let es = flat_map event_text c.args.events.now in
    let fs = flat_map error_text c.args.errors.now in
    let ds = flat_map denial_text c.args.denials.now in
    let o = outcome_text c.args.outcome in
    let start = held_clear old _ c.clear.ensures.items in
    let one = g.W.Write.contents c.add_events.new.writer in
    let first = held_join old old one _ _ [] es start c.in_ok-add_events.ensures.whole in
    let two = g.W.Write.contents c.add_lines.new.writer in
    let second = held_join old one two _ _ es fs first c.in_ok-add_lines.ensures.whole in
    let three = g.W.Write.contents c.add_denials.new.writer in
    let third = held_join old two three _ _ (es ++ fs) ds second c.in_ok-add_denials.ensures.whole in
    let new = g.W.Write.contents c.write_text.new.writer in
    on_err c.from_residual-in_err-write_text.result
    (front_join old three new _ ((es ++ fs) ++ ds) o third
    (subst (λ l. HasFront three new l) (c.as_slice.ensures.value ∙ c.in_ok-push_outcome.ensures.added) c.in_err-write_text.ensures.front))

pub returns-clause-whole : goal.returns-clause-whole
returns-clause-whole g c =
    let old = g.W.Write.contents c.args.writer.now in
    let es = flat_map event_text c.args.events.now in
    let fs = flat_map error_text c.args.errors.now in
    let ds = flat_map denial_text c.args.denials.now in
    let o = outcome_text c.args.outcome in
    let start = held_clear old _ c.clear.ensures.items in
    let one = g.W.Write.contents c.add_events.new.writer in
    let first = held_join old old one _ _ [] es start c.in_ok-add_events.ensures.whole in
    let two = g.W.Write.contents c.add_lines.new.writer in
    let second = held_join old one two _ _ es fs first c.in_ok-add_lines.ensures.whole in
    let three = g.W.Write.contents c.add_denials.new.writer in
    let third = held_join old two three _ _ (es ++ fs) ds second c.in_ok-add_denials.ensures.whole in
    let new = g.W.Write.contents c.write_text.new.writer in
    written_join old three new _ ((es ++ fs) ++ ds) o third
    (subst (λ l. Appends three new l) (c.as_slice.ensures.value ∙ c.in_ok-push_outcome.ensures.added) c.in_ok-write_text.ensures.whole)
