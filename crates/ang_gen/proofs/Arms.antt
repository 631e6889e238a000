-- What stands written after each kind of statement.
use Rattle.std.proofs.Common.{◌≡◌, ℕ, suc, ◌+◌, ◌-◌, ◌≤◌, List, ◌∷◌, ◌++◌, length, refl, sym, ap, ◌∙◌, arith, append_assoc, length-append}
use Rattle.std.specs.declared.vec.Vec.{Vec}
use Rattle.std.specs.declared.alloc.Global.{Global}
use Rattle.ang_core.specs.declared.tree.CoreExpression.{CoreExpression}
use Rattle.ang_core.specs.declared.tree.CoreStatement.{CoreStatement}
use Rattle.ang_core.specs.declared.tree.CoreStatement.TheVariants.{Block}
use Rattle.ang_core.specs.Sound.{declared}
use Rattle.ang_code.specs.declared.instruction.Instruction.{Instruction}
use Rattle.ang_code.specs.declared.instruction.Instruction.TheVariants.{JumpIfFalse, LoopBack}
use Rattle.ang_gen.specs.Code.{expr_code, past_code, either_code, leave_code, block_code, stmt_code}
use Rattle.ang_gen.specs.Rows.{statements_code, declared_in}
use Rattle.ang_gen.proofs.Lists.{block_row}
use Rattle.ang_gen.proofs.Shapes.{choice, behind_more}

-- what a block's end takes
abbrev pub ending : CoreStatement → ℕ
ending s = length (leave_code (declared s))

-- a block where n locals are alive, in front of a text, with the places that it can leave to
abbrev pub block_at : ℕ → ℕ → ℕ → ℕ → ℕ → CoreStatement → List Instruction
block_at q n j b c s = block_code (stmt_code q n j (b + ending s) (c + ending s) s) (declared s)

abbrev pub if_text : ℕ → ℕ → ℕ → ℕ → ℕ → CoreExpression → CoreStatement → CoreStatement → List Instruction
if_text q n j b c e s r =
    let other = block_at q n j b c r in
    let past = past_code (length other) in
    either_code (expr_code 0 e) (block_at q n j (b + length other + length past) (c + length other + length past) s) other

pub if_arm : (t0 t1 t2 t3 : List Instruction) (q n j exit again m k : ℕ) (e : CoreExpression) (s r : CoreStatement) → exit ≤ length t0 → again ≤ length t0 →
    t1 ≡ block_at q n j (length t0 - exit) (length t0 - again) r ++ t0 → k ≡ length t0 → m ≡ length t1 → t2 ≡ past_code (m - k) ++ t1 →
    t3 ≡ block_at q n j (length t2 - exit) (length t2 - again) s ++ t2 →
    expr_code 0 e ++ (JumpIfFalse (length t3 - m) ∷ t3) ≡ if_text q n j (length t0 - exit) (length t0 - again) e s r ++ t0
if_arm t0 t1 t2 t3 q n j exit again m k e s r exit_in again_in e1 k_is m_is e2 e3 =
    let b = length t0 - exit in
    let c = length t0 - again in
    let other = block_at q n j b c r in
    let l1 : length t1 ≡ length other + length t0 = ap length e1 ∙ length-append other t0 in
    let past = past_code (length other) in
    let far : m - k ≡ length other = omega arith in
    let l2 : length t2 ≡ length past + length t1 = ap length (e2 ∙ ap (λ i. past_code i ++ t1) far) ∙ length-append past t1 in
    let b_is : length t2 - exit ≡ b + length other + length past = omega arith in
    let c_is : length t2 - again ≡ c + length other + length past = omega arith in
    choice t0 t1 t2 t3 (expr_code 0 e ++ (JumpIfFalse (length t3 - m) ∷ t3)) (expr_code 0 e) (block_at q n j (length t2 - exit) (length t2 - again) s) other m k e1 e2 m_is k_is e3 refl
    ∙ ap (λ z. either_code (expr_code 0 e) (block_at q n j z (length t2 - again) s) other ++ t0) b_is
    ∙ ap (λ z. either_code (expr_code 0 e) (block_at q n j (b + length other + length past) z s) other ++ t0) c_is

-- a loop's body where n locals are alive, and `far` instructions stand between it and the loop's exit
abbrev pub body_at : ℕ → ℕ → ℕ → CoreStatement → List Instruction
body_at q n far s = block_code (stmt_code q n n (far + ending s) (ending s) s) (declared s)

-- a loop's body and step, in front of its jump back
pub while_arm : (t0 t1 t2 t3 step : List Instruction) (q n behind : ℕ) (s : CoreStatement) → t1 ≡ LoopBack 0 ∷ t0 → behind ≡ length t0 → t2 ≡ step ++ t1 →
    t3 ≡ body_at q n (length t2 - behind) s ++ t2 → t3 ≡ block_code (stmt_code q n n (ending s + length step + 1) (ending s) s) (declared s) ++ (step ++ LoopBack 0 ∷ t0)
while_arm t0 t1 t2 t3 step q n behind s e1 behind_is e2 e3 =
    let l1 : length t1 ≡ suc (length t0) = ap length e1 in
    let l2 : length t2 ≡ length step + length t1 = ap length e2 ∙ length-append step t1 in
    let far : length t2 - behind + ending s ≡ ending s + length step + 1 = omega arith in
    e3
    ∙ ap (λ z. block_code (stmt_code q n n z (ending s) s) (declared s) ++ t2) far
    ∙ ap (λ l. block_code (stmt_code q n n (ending s + length step + 1) (ending s) s) (declared s) ++ l) (e2 ∙ ap (λ l. step ++ l) e1)

-- statements in turn and what gives up their locals
pub block_arm : (t0 t1 : List Instruction) (q n j exit again k : ℕ) (v : Vec CoreStatement Global) → exit ≤ length t0 → again ≤ length t0 → k ≡ declared_in v.items → t1 ≡ leave_code k ++ t0 →
    statements_code q n j (length t1 - exit) (length t1 - again) v.items ++ t1 ≡ stmt_code q n j (length t0 - exit) (length t0 - again) (Block v) ++ t0
block_arm t0 t1 q n j exit again k v exit_in again_in k_is e1 =
    let b = length t0 - exit in
    let c = length t0 - again in
    let d = declared_in v.items in
    let t1_is : t1 ≡ leave_code d ++ t0 = e1 ∙ ap (λ z. leave_code z ++ t0) k_is in
    let b_is : length t1 - exit ≡ b + length (leave_code d) = behind_more t0 t1 (leave_code d) exit t1_is exit_in in
    let c_is : length t1 - again ≡ c + length (leave_code d) = behind_more t0 t1 (leave_code d) again t1_is again_in in
    let row = statements_code q n j (b + length (leave_code d)) (c + length (leave_code d)) v.items in
    ap (λ z. statements_code q n j z (length t1 - again) v.items ++ t1) b_is
    ∙ ap (λ z. statements_code q n j (b + length (leave_code d)) z v.items ++ t1) c_is
    ∙ ap (λ l. row ++ l) t1_is
    ∙ sym (append_assoc row (leave_code d) t0)
    ∙ ap (λ l. l ++ t0) (sym (block_row q n j b c v))
