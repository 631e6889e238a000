use Rattle.std.proofs.Common.{◌≡◌, ◌+◌, ℕ, List, Some, length, refl, sym, ap, rules, ◌∙◌}
use Rattle.std.specs.Prelude.{slice_get}
use Rattle.std.proofs.lemmas.Option.{slice_get_read}
use Rattle.ang_names_known.specs.Kinds.{Kind}
use Rattle.ang_names_known.proofs.KeptNumbers.{behind_receivers}
use Rattle.ang_names_known.proofs.SameKinds.{kind_is}
use Rattle.ang_names_known.proofs.kinds.KindTable.hinted.Goals as goal

pub returns-then-is_kind : goal.returns-then-is_kind
returns-then-is_kind c =
    let n : ℕ = c.in_ok-number.field-0.now in
    let place : ℕ = c.in_ok-place.place in
    let kinds : List Kind = c.deref-2.result.now in
    let kind : Kind = c.in_ok-kind.kind.now in
    let lookup = c.in_ok-kind.ensures.lookup in
    let behind : n ≡ place + 2 = search rules in
    let all : kinds ≡ c.args.self.now = c.deref-2.ensures.value ∙ c.self.view_is in
    let here : slice_get kinds place ≡ Some kind = slice_get_read kinds (length kinds) place kind refl lookup.3.0 lookup.1 in
    let same : kind ≡ (c.args.ty, c.args.pass) = kind_is kind c.args.ty c.args.pass (sym c.is_kind.ensures.exact ∙ c.if-is_kind.true) in
    record { is = λ t. behind_receivers t c.args.self.now n place behind ∙ ap (λ ks. slice_get ks place) (sym all) ∙ here ∙ ap Some same }
