use Rattle.std.proofs.Common.{◌≡◌, ℕ, subst, ◌∙◌}
use Rattle.ang_names_known.specs.Kinds.{kinds_of, numbered, told_of}
use Rattle.ang_check_added.specs.Made.{params_made}
use Rattle.ang_check_denials.proofs.masked.Masked.new.Goals as goal

pub invariant_of-result : goal.invariant_of-result
invariant_of-result c =
    let n = c.in_ok-numbered.numbered in (
      c.requires.hidden,
      c.in_ok-made.ensures.exact,
      subst (λ cs. (t : ℕ) → kinds_of (numbered t n.kinds.items) n.rows ≡ told_of (params_made cs)) (c.as_slice.ensures.value ∙ c.in_ok-made.ensures.exact)
          c.in_ok-numbered.ensures.rows,
      c.in_ok-brought.ensures.exact,
      c.in_ok-types.ensures.exact,
      c.in_ok-alone.ensures.exact,
      c.in_ok-masks.ensures.exact,
      c.in_ok-sorts.ensures.exact,
      c.in_ok-numbered.ensures.sets,
    )
