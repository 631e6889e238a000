use Rattle.std.proofs.Common.{◌≡◌, ◌++◌, ◌∷◌, [], true, length, sym, ap, ◌∙◌, arith}
use Rattle.ang_host.specs.Heads.{is_end, event_with}
use Rattle.ang_host.proofs.Listing.{one_more, call_counts}
use Rattle.ang_host.proofs.event_buffer.EventBuffer.push_call.Goals as goal
use Rattle.ang_host.proofs.event_buffer.EventBuffer.push_call.Goals.{then-self, else-self}

pub invariant_of-self : goal.invariant_of-self
invariant_of-self c =
    let more = one_more _ _ _ c.note.ensures.noted in
    let same : c.args.self.now.listens ≡ true → c.if-self.self.1.1.0.events ≡ c.note.new.self.events =
    elim c.if-self.branch [
      | then-self w ↦ λ heard.
          ap (λ s. s.1.1.0.events) w.self-is ∙ w.push_call-self.ensures.added
          ∙ ap (λ es. es ++ event_with (is_end c.of_call-head.result.kind) c.of_call-head.result c.args.caller.now c.args.args.now ∷ []) (c.args.self.now.same heard) ∙ sym c.note.ensures.noted
      | else-self w ↦ λ heard. cc
    ] in
    record {
      counted = elim c.if-self.branch [
        | then-self w ↦
            w.self2-is ∙ w.push_call-self.ensures.count ∙ sym (ap (λ s. length s.1.1.0.events) w.self-is) ∙ ap length (same w.if-self.true)
        | else-self w ↦ omega (arith, w.self2-is, c.args.self.now.counted, more)
      ];
      ended = c.args.self.now.ended ∙ sym (call_counts _ _ _ _ _ _ _ _ _ c.note.ensures.noted (c.of_call-head.ensures.exact _ _));
      same = same;
    }
