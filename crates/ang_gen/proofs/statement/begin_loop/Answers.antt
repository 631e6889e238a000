use Rattle.std.proofs.Common.{◌≡◌, ◌+◌, ◌-◌, ◌<◌, ◌∷◌, ◌++◌, length, OnOk, ap, refl, subst, ◌∙◌, arith, length-append}
use Rattle.ang_code.specs.declared.instruction.Instruction.TheVariants.{JumpIfFalse, Tick, LoopBack}
use Rattle.ang_gen.specs.Code.{expr_code, while_code}
use Rattle.ang_gen.proofs.Shapes.{before_back, loop_seen, loop_made, set_length, loop_length, on_ok}
use Rattle.ang_gen.proofs.statement.begin_loop.Goals as goal

pub returns-clause-code : goal.returns-clause-code
returns-clause-code c = λ body step rest e b.
    let t0 = c.args.text.now in let t1 = c.write_test.new.text in let t2 = c.set_back.new.self in let test = expr_code 0 c.args.test.now in
    let n = length t0 - c.args.behind in
    let d = c.len-start.result - c.args.behind - 1 in
    let seen : t1 ≡ before_back test body step n ++ LoopBack 0 ∷ rest = loop_seen t0 t1 test body step rest n e c.in_ok-write_test.ensures.code in
    let made : t2 ≡ before_back test body step n ++ LoopBack d ∷ rest = c.set_back.ensures.set (before_back test body step n) rest (LoopBack 0) seen b in
    let same : Tick ∷ t2 ≡ while_code test body step ++ rest =
    loop_made t0 t1 t2 (Tick ∷ t2) test body step rest c.args.behind n d c.len-start.result e b refl c.in_ok-write_test.ensures.code c.len-start.ensures.count refl made refl in
    subst (λ l. OnOk c.put.result (c.put.new.self ≡ l)) same c.put.ensures.before

pub returns-clause-longer : goal.returns-clause-longer
returns-clause-longer c =
    let t0 = c.args.text.now in let t1 = c.write_test.new.text in let t2 = c.set_back.new.self in let t3 = c.put.new.self in let test = expr_code 0 c.args.test.now in
    let n = length t0 - c.args.behind in
    let l1 : length t1 ≡ length test + length (JumpIfFalse n ∷ t0) = ap length c.in_ok-write_test.ensures.code ∙ length-append test (JumpIfFalse n ∷ t0) in
    let inside : c.args.behind < length t1 = omega (arith, l1, c.requires.behind) in
    let same : length t2 ≡ length t1 = set_length t1 t2 c.args.behind (c.len-start.result - c.args.behind - 1) inside c.set_back.ensures.set in
    on_ok c.put.result (t3 ≡ Tick ∷ t2) (length t3 ≡ length t0 + length test + 2) (loop_length t0 t1 t2 t3 test n c.in_ok-write_test.ensures.code same) c.put.ensures.before
