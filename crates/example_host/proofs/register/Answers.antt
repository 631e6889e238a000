use Rattle.std.proofs.Common.{◌≡◌, [], ap, ◌∙◌}
use Rattle.ang_view.specs.declared.entry.EntryKind.TheVariants.{Function, Global}
use Rattle.example_host.specs.Offered.{masks_of}
use Rattle.example_host.proofs.Masks.{one_more}
use Rattle.example_host.proofs.register.Goals as goal

pub returns : goal.returns
returns c =
    let players : c.set_default_mask.new.self.default_mask.0 ≡ 1 = ap (λ m. m.0) c.set_default_mask.ensures.set in
    let staff : c.set_default_mask-2.new.self.default_mask.0 ≡ 2 = ap (λ m. m.0) c.set_default_mask-2.ensures.set in
    let none : masks_of c.set_default_mask.new.self.entries ≡ [] = ap masks_of (c.set_default_mask.ensures.kept ∙ c.requires.empty) in
    let first = one_more Function _ _ _ _ _ [] 1 c.in_ok-function.ensures.accepted c.in_ok-function.ensures.added none players in
    let second = one_more Function _ _ _ _ _ _ 1 c.in_ok-function-2.ensures.accepted c.in_ok-function-2.ensures.added first.0 first.1 in
    let third = one_more Function _ _ _ _ _ _ 1 c.in_ok-function-3.ensures.accepted c.in_ok-function-3.ensures.added second.0 second.1 in
    let kept = ap masks_of c.set_default_mask-2.ensures.kept ∙ third.0 in
    let fourth = one_more Global _ _ _ _ _ _ 2 c.in_ok-global_property.ensures.accepted c.in_ok-global_property.ensures.added kept staff in
    record { masks = fourth.0 }
