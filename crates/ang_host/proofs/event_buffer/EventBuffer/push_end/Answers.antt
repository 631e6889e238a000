use Rattle.std.proofs.Common.{◌≡◌, ◌-◌, ◌^◌, ◌<◌, ◌++◌, ◌∷◌, [], true, false, length, sym, ap, subst, ◌∙◌, arith}
use Rattle.std.specs.Prelude.{cond}
use Rattle.ang_host.specs.declared.event.HostEvent.TheVariants.{Ended}
use Rattle.ang_host.specs.Logs.{listed_in, log_capacity}
use Rattle.ang_host.proofs.Listing.{one_more, end_counts, ends_listed_few}
use Rattle.ang_host.proofs.event_buffer.EventBuffer.push_end.Goals as goal
use Rattle.ang_host.proofs.event_buffer.EventBuffer.push_end.Goals.{then-self, else-self}

pub overflow_add-self-2 : goal.overflow_add-self-2
unfolding listed_in log_capacity
overflow_add-self-2 c = elim c.if-self.branch [
  | then-self w ↦ record { fits = omega (arith, c.args.self.now.ended, ends_listed_few c.args.self.now.record.events, one_more _ _ _ w.push_end-self.ensures.added, ap length (c.args.self.now.same w.if-self.true), w.push_end-self.ensures.count, w.push_end-self.type_inv) }
  | else-self w ↦
      let room : length c.args.self.now.record.events < cond false c.args.self.now.kept.capacity (2 ^ 64 - 1) =
      subst (λ b. length c.args.self.now.record.events < cond b c.args.self.now.kept.capacity (2 ^ 64 - 1)) w.if-self.false c.requires.room in
      record { fits = omega (arith, c.args.self.now.ended, ends_listed_few c.args.self.now.record.events, room) }
]

pub invariant_of-self : goal.invariant_of-self
invariant_of-self c =
    let listed = c.note.ensures.noted in
    let more = one_more _ _ _ listed in
    let same : c.args.self.now.listens ≡ true → c.if-self.self.1.1.0.events ≡ c.note.new.self.events =
    elim c.if-self.branch [
      | then-self w ↦ λ heard.
          ap (λ s. s.1.1.0.events) w.self-is ∙ w.push_end-self.ensures.added
          ∙ ap (λ es. es ++ Ended c.args.driver c.args.key ∷ []) (c.args.self.now.same heard)
          ∙ ap (λ e. c.args.self.now.record.events ++ e ∷ []) (sym (c.of_end.ensures.exact _ _)) ∙ sym listed
      | else-self w ↦ λ heard. cc
    ] in
    record {
      counted = elim c.if-self.branch [
        | then-self w ↦
            w.self2-is ∙ w.push_end-self.ensures.count ∙ sym (ap (λ s. length s.1.1.0.events) w.self-is) ∙ ap length (same w.if-self.true)
        | else-self w ↦ omega (arith, w.self2-is, c.args.self.now.counted, more)
      ];
      ended = omega (arith, c.args.self.now.ended, end_counts c.args.self.now.record.events c.note.new.self.events _ c.args.driver c.args.key listed (c.of_end.ensures.exact _ _));
      same = same;
    }
