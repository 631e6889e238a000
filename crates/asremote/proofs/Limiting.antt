-- A limit that is set between two commands.
use Rattle.std.proofs.Common.{◌≡◌, ℕ, refl, sym, ap, ◌∙◌}
use Rattle.ang_heap.specs.Stores.{bounds_of}
use Rattle.ang_heap.specs.declared.limits.Limits.{Limits}
use Rattle.ang_engine_modules.specs.World.{World, bounded_by}
use Rattle.asrun_lines.specs.declared.limits.LimitKind.{LimitKind}
use Rattle.asrun_lines.specs.declared.limits.LimitKind.TheVariants.{Events, Slots, Objects}
use Rattle.asrun_lines.specs.declared.limits.LimitLine.{LimitLine}
use Rattle.asrun_session.specs.Limits.{limit_put, bound_put, with_limit, with_bound}

same_put : (l : Limits) (most : ℕ) (k : LimitKind) → bounds_of (limit_put l most k) ≡ bound_put (bounds_of l) most k
same_put l most Events = refl
same_put l most Slots = refl
same_put l most Objects = refl

-- The world w of an engine with the limits l became v, where its limits became n: those that it was asked for, k, with one other.
pub limited_world : (w v : World) (l k n : Limits) (limit : LimitLine) → w.bounds ≡ bounds_of l → k ≡ l → n ≡ with_limit k limit → v ≡ bounded_by (bounds_of n) w
    → v ≡ bounded_by (with_bound w.bounds limit) w
limited_world w v l k n limit h asked put e =
    e ∙ ap (λ b. bounded_by b w) (ap bounds_of put ∙ ap (λ x. bounds_of (with_limit x limit)) asked ∙ same_put l limit.most limit.kind ∙ ap (λ b. with_bound b limit) (sym h))
