use Rattle.std.proofs.Common.{arith, ◌∙◌}
use Rattle.asrun_text.specs.Text.{mask_text}
use Rattle.asrun_text.proofs.Parts.{masks_written, same_before}
use Rattle.asrun_text.proofs.denials.write_masks.Goals as goal

pub returns-clause-masks : goal.returns-clause-masks
returns-clause-masks c =
    masks_written c.args.line.now c.write_bytes-at.new.line c.write_mask-at.new.line c.write_bytes-at-2.new.line c.write_mask-at-2.new.line c.write_bytes.new.line
    c.write_bytes-at.result c.write_mask-at.result c.write_bytes-at-2.result c.write_mask-at-2.result c.write_bytes.result
    (mask_text c.args.module_mask.0) (mask_text c.args.entity_mask.0)
    c.requires.long c.write_bytes-at.ensures.start c.write_bytes-at.ensures.written c.write_mask-at.ensures.start c.write_mask-at.ensures.written
    c.write_bytes-at-2.ensures.start c.write_bytes-at-2.ensures.written c.write_mask-at-2.ensures.start c.write_mask-at-2.ensures.written
    c.write_bytes.ensures.start c.write_bytes.ensures.written

pub returns-clause-before : goal.returns-clause-before
returns-clause-before c =
    let s1 = c.write_bytes-at.ensures.start in
    let s2 = c.write_mask-at.ensures.start in
    let s3 = c.write_bytes-at-2.ensures.start in
    let s4 = c.write_mask-at-2.ensures.start in
    let s5 = c.write_bytes.ensures.start in
    same_before _ _ 50 _ (omega (arith, s1, s2, s3, s4, s5)) c.write_bytes.ensures.before
    ∙ same_before _ _ 50 _ (omega (arith, s1, s2, s3, s4)) c.write_mask-at-2.ensures.before
    ∙ same_before _ _ 50 _ (omega (arith, s1, s2, s3)) c.write_bytes-at-2.ensures.before
    ∙ same_before _ _ 50 _ (omega (arith, s1, s2)) c.write_mask-at.ensures.before
    ∙ same_before _ _ 50 _ (omega (arith, s1)) c.write_bytes-at.ensures.before
