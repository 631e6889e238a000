use Rattle.std.specs.Prelude.{[], ◌∷◌, if◌then◌else◌, option_to_list, slice_index_or}
use Rattle.std.proofs.Common.{◌≡◌, true, false, None, IfOk, subst, sym, ap, ◌∙◌}
use Rattle.ang_view.specs.Registration.{entry_at}
use Rattle.ang_check_denials.specs.Added.{types_of}
use Rattle.ang_check_denials.specs.Denials.{helps}
use Rattle.ang_check_added.specs.Made.{is_won, made}
use Rattle.ang_check_denials.specs.Telling.{is_sought, rivals_for}
use Rattle.ang_check_denials.proofs.helpers.helper_told.Goals as goal

pub returns-then-is_sought : goal.returns-then-is_sought
returns-then-is_sought c =
    let k = c.args.masked.now in
    let s = c.args.scope.now in
    let r = c.args.refused.now in
    let a = c.args.asks.now in
    let x = c.args.number in
    let t = c.args.told.now in
    let best = is_won s.ancestors (rivals_for s r.error.name t.sought) (types_of a) (slice_index_or (made k.list) x None) in
    let help = helps k.list k.mask s r a x in
    let is : is_sought t.sought (entry_at k.list x) ≡ true =
    sym c.is_sought.ensures.exact ∙ c.if-is_sought.true in
    let won : c.wins-won.result ≡ best = c.wins-won.ensures.exact s.ancestors (rivals_for s r.error.name t.sought) (types_of a) c.requires.told.judge c.requires.told.winners in
    record {
      exact =
          c.kept.ensures.exact
          ∙ ap (λ b. if b then x ∷ [] else []) (won ∙ sym (ap (λ b. if b then best else help) is));
    }

pub returns : goal.returns
returns c =
    let k = c.args.masked.now in
    let s = c.args.scope.now in
    let r = c.args.refused.now in
    let a = c.args.asks.now in
    let x = c.args.number in
    let t = c.args.told.now in
    let best = is_won s.ancestors (rivals_for s r.error.name t.sought) (types_of a) (slice_index_or (made k.list) x None) in
    let help = helps k.list k.mask s r a x in
    let is : is_sought t.sought (entry_at k.list x) ≡ false =
    sym c.is_sought.ensures.exact ∙ c.if-is_sought.false in
    record {
      exact =
          subst (λ b. IfOk c.helper_at.result (λ helper. option_to_list helper ≡ (if b then x ∷ [] else [])))
          (sym (ap (λ b. if b then best else help) is)) c.helper_at.ensures.exact;
    }
