use Rattle.std.proofs.Common.{◌≡◌, ◌-◌, List, refl, subst, ap, ◌∙◌, arith}
use Rattle.std.specs.List.{each_same}
use Rattle.ang_kinds.specs.declared.position.Position.{Position}
use Rattle.ang_gen.specs.Code.{body_code}
use Rattle.ang_gen.specs.Marks.{AreAmong}
use Rattle.ang_gen.specs.Peaks.{body_peak}
use Rattle.ang_gen.specs.Programs.{parameter_count}
use Rattle.ang_gen.proofs.Rising.{is_height}
use Rattle.ang_gen.proofs.module_code.generate_body.Goals as goal

pub returns : goal.returns
returns c =
    let b = c.args.body.now in let top = c.in_ok-peak.peak in
    let params : c.in_ok-params.params.items ≡ b.params.items = each_same b.params.items c.in_ok-params.params.items c.in_ok-params.ensures.cases.0 in
    let count : c.len-count.result ≡ parameter_count b = c.len-count.ensures ∙ b.params.ok.0 in
    let peak : top ≡ body_peak (parameter_count b) b.statement = c.in_ok-peak.ensures.peak ∙ ap (λ n. body_peak n b.statement) count in
    record {
      code = record {
        params = params;
        result = refl;
        text = c.in_ok-text.ensures.exact ∙ ap (λ n. body_code n b.statement) count;
        height = is_height b top (top - c.len-count.result) peak (ap (λ n. top - n) count);
        counted = omega (arith, peak, count, c.in_ok-peak.ensures.counted);
        marks = subst (λ (ps : List Position). AreAmong ps c.in_ok-text.marks.items) c.as_slice-positions.ensures.value c.in_ok-text.ensures.among;
      };
    }
