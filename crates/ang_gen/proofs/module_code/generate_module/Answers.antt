use Rattle.std.proofs.Common.{[], ◌∷◌, ◌++◌, subst, sym}
use Rattle.std.specs.List.{AllZip}
use Rattle.ang_gen.specs.Programs.{IsBodyCode}
use Rattle.ang_gen.proofs.Turns.{zip_more}
use Rattle.ang_gen.proofs.module_code.generate_module.Goals as goal

pub loop-body-preserved : goal.loop-body-preserved
loop-body-preserved c =
    let xs = c.loop-body.yielded in let b = c.in-Some.body in
    subst (λ cs. AllZip IsBodyCode (xs ++ b ∷ []) cs) (sym c.in_ok-push.ensures.items)
    (zip_more IsBodyCode xs c.loop-body.codes.items b c.in_ok-code.code c.loop-body.invariant c.in_ok-code.ensures.code)
