use Rattle.std.proofs.Common.{◌≡◌, ◌+◌, ◌-◌, [], ◌∷◌, ◌++◌, length, OnOk, ap, subst, ◌∙◌, arith}
use Rattle.ang_code.specs.declared.instruction.Instruction.TheVariants.{Jump}
use Rattle.ang_gen.specs.Code.{expr_code, while_code}
use Rattle.ang_gen.proofs.statement.begin_at_body.Goals as goal

pub returns : goal.returns
returns c =
    record {
      code =
          λ body rest e b.
          let t = c.begin_loop.new.text in let test = expr_code 0 c.args.test.now in let far = c.len-start.result - c.len-body.result in
          let far_is : far ≡ length test + 2 = omega (arith, c.in_ok-begin_loop.ensures.longer, c.len-start.ensures.count, c.len-body.ensures.count) in
          let same : Jump far ∷ t ≡ Jump (length test + 2) ∷ (while_code test body [] ++ rest) =
          ap (λ k. Jump k ∷ t) far_is ∙ ap (λ l. Jump (length test + 2) ∷ l) (c.in_ok-begin_loop.ensures.code body [] rest e b) in
          subst (λ l. OnOk c.put.result (c.put.new.self ≡ l)) same c.put.ensures.before;
    }
