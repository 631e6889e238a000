-- What stands written after each construct, put together from its parts.
use Rattle.std.proofs.Common.{◌≡◌, ℕ, suc, ◌+◌, ◌-◌, ◌≤◌, ◌<◌, List, [], ◌∷◌, ◌++◌, length, take, drop, get_or, sym, ap, ◌∙◌, arith, append_assoc, length-append, length-drop, Result, Ok, Err, OnOk}
use Rattle.std.proofs.Math.Seq.{split_at}
use Rattle.ang_core.specs.declared.tree.CoreStatement.{CoreStatement}
use Rattle.ang_core.specs.Sound.{declared}
use Rattle.ang_code.specs.declared.instruction.Instruction.{Instruction}
use Rattle.ang_code.specs.declared.instruction.Instruction.TheVariants.{JumpIfFalse, Tick, LoopBack}
use Rattle.ang_gen.specs.Code.{past_code, either_code, while_code, leave_code, block_code, stmt_code}

-- a choice, where m and k are the places after its first and its second side
pub choice : (t0 t1 t2 t3 t4 test one two : List Instruction) (m k : ℕ) → t1 ≡ two ++ t0 → t2 ≡ past_code (m - k) ++ t1 → m ≡ length t1 → k ≡ length t0 → t3 ≡ one ++ t2 →
    t4 ≡ test ++ (JumpIfFalse (length t3 - m) ∷ t3) → t4 ≡ either_code test one two ++ t0
choice t0 t1 t2 t3 t4 test one two m k e1 e2 m_is k_is e3 e4 =
    let past = past_code (length two) in
    let l1 : length t1 ≡ length two + length t0 = ap length e1 ∙ length-append two t0 in
    let far : m - k ≡ length two = omega arith in
    let e2' : t2 ≡ past ++ t1 = e2 ∙ ap (λ n. past_code n ++ t1) far in
    let l2 : length t2 ≡ length past + length t1 = ap length e2' ∙ length-append past t1 in
    let l3 : length t3 ≡ length one + length t2 = ap length e3 ∙ length-append one t2 in
    let skip : length t3 - m ≡ length one + length past = omega arith in
    e4
    ∙ ap (λ n. test ++ (JumpIfFalse n ∷ t3)) skip
    ∙ ap (λ l. test ++ (JumpIfFalse (length one + length past) ∷ l)) (e3 ∙ ap (λ l. one ++ l) (e2' ∙ ap (λ l. past ++ l) e1 ∙ sym (append_assoc past two t0)))
    ∙ ap (λ l. test ++ (JumpIfFalse (length one + length past) ∷ l)) (sym (append_assoc one (past ++ two) t0))
    ∙ sym (append_assoc test (JumpIfFalse (length one + length past) ∷ (one ++ (past ++ two))) t0)

-- the text of a loop in front of its jump back
abbrev pub before_back : List Instruction → List Instruction → List Instruction → ℕ → List Instruction
before_back test body step n = test ++ (JumpIfFalse n ∷ (body ++ step))

pub loop_seen : (t0 t1 test body step rest : List Instruction) (n : ℕ) → t0 ≡ body ++ (step ++ LoopBack 0 ∷ rest) → t1 ≡ test ++ (JumpIfFalse n ∷ t0) →
    t1 ≡ before_back test body step n ++ LoopBack 0 ∷ rest
loop_seen t0 t1 test body step rest n e0 e1 =
    e1
    ∙ ap (λ l. test ++ (JumpIfFalse n ∷ l)) (e0 ∙ sym (append_assoc body step (LoopBack 0 ∷ rest)))
    ∙ sym (append_assoc test (JumpIfFalse n ∷ (body ++ step)) (LoopBack 0 ∷ rest))

pub loop_made : (t0 t1 t2 t3 test body step rest : List Instruction) (behind n d start : ℕ) → t0 ≡ body ++ (step ++ LoopBack 0 ∷ rest) → length rest ≡ behind →
    n ≡ length t0 - behind → t1 ≡ test ++ (JumpIfFalse n ∷ t0) → start ≡ length t1 → d ≡ start - behind - 1 → t2 ≡ before_back test body step n ++ LoopBack d ∷ rest → t3 ≡ Tick ∷ t2 →
    t3 ≡ while_code test body step ++ rest
loop_made t0 t1 t2 t3 test body step rest behind n d start e0 b n_is e1 start_is d_is e2 e3 =
    let l0 : length t0 ≡ length body + (length step + suc (length rest)) = ap length e0 ∙ length-append body (step ++ LoopBack 0 ∷ rest) ∙ ap (λ k. length body + k) (length-append step (LoopBack 0 ∷ rest)) in
    let l1 : length t1 ≡ length test + suc (length t0) = ap length e1 ∙ length-append test (JumpIfFalse n ∷ t0) in
    let skip : n ≡ length body + length step + 1 = omega arith in
    let far : d ≡ length test + 1 + length body + length step = omega arith in
    e3
    ∙ ap (λ l. Tick ∷ l) e2
    ∙ ap (λ k. Tick ∷ (before_back test body step k ++ LoopBack d ∷ rest)) skip
    ∙ ap (λ k. Tick ∷ (before_back test body step (length body + length step + 1) ++ LoopBack k ∷ rest)) far
    ∙ ap (λ l. Tick ∷ l) (append_assoc test (JumpIfFalse (length body + length step + 1) ∷ (body ++ step)) (LoopBack (length test + 1 + length body + length step) ∷ rest))
    ∙ ap (λ l. Tick ∷ (test ++ (JumpIfFalse (length body + length step + 1) ∷ l))) (append_assoc body step (LoopBack (length test + 1 + length body + length step) ∷ rest))
    ∙ ap (λ l. Tick ∷ (test ++ (JumpIfFalse (length body + length step + 1) ∷ (body ++ l)))) (sym (append_assoc step (LoopBack (length test + 1 + length body + length step) ∷ []) rest))
    ∙ ap (λ l. Tick ∷ (test ++ (JumpIfFalse (length body + length step + 1) ∷ l))) (sym (append_assoc body (step ++ LoopBack (length test + 1 + length body + length step) ∷ []) rest))
    ∙ ap (λ l. Tick ∷ l) (sym (append_assoc test (JumpIfFalse (length body + length step + 1) ∷ (body ++ (step ++ LoopBack (length test + 1 + length body + length step) ∷ []))) rest))

-- a jump back takes the place of one instruction
pub set_length : (t1 t2 : List Instruction) (behind d : ℕ) → behind < length t1 →
    ((front rest : List Instruction) (i : Instruction) → t1 ≡ front ++ i ∷ rest → length rest ≡ behind → t2 ≡ front ++ LoopBack d ∷ rest) → length t2 ≡ length t1
set_length t1 t2 behind d h set =
    let k = length t1 - behind - 1 in
    let front = take k t1 in
    let rest = drop (suc k) t1 in
    let parts : t1 ≡ front ++ get_or t1 k Tick ∷ rest = split_at t1 k Tick (omega arith) in
    let size : length rest ≡ behind = omega (arith, length-drop (suc k) t1) in
    let l1 : length t1 ≡ length front + suc (length rest) = ap length parts ∙ length-append front (get_or t1 k Tick ∷ rest) in
    let l2 : length t2 ≡ length front + suc (length rest) = ap length (set front rest (get_or t1 k Tick) parts size) ∙ length-append front (LoopBack d ∷ rest) in
    l2 ∙ sym l1

pub loop_length : (t0 t1 t2 t3 test : List Instruction) (n : ℕ) → t1 ≡ test ++ (JumpIfFalse n ∷ t0) → length t2 ≡ length t1 → t3 ≡ Tick ∷ t2 → length t3 ≡ length t0 + length test + 2
loop_length t0 t1 t2 t3 test n e1 same e3 =
    let l1 : length t1 ≡ length test + suc (length t0) = ap length e1 ∙ length-append test (JumpIfFalse n ∷ t0) in
    let l3 : length t3 ≡ suc (length t2) = ap length e3 in
    omega arith

-- the place after what was written since
pub behind_more : (t0 t1 part : List Instruction) (mark : ℕ) → t1 ≡ part ++ t0 → mark ≤ length t0 → length t1 - mark ≡ length t0 - mark + length part
behind_more t0 t1 part mark e h =
    let l : length t1 ≡ length part + length t0 = ap length e ∙ length-append part t0 in omega arith

pub grown : (t0 t1 part : List Instruction) → t1 ≡ part ++ t0 → length t0 ≤ length t1
grown t0 t1 part e = let l : length t1 ≡ length part + length t0 = ap length e ∙ length-append part t0 in omega arith

-- a block: a statement in front of what gives up its locals
pub block_made : (t0 t1 t2 : List Instruction) (q n m b c out again : ℕ) (s : CoreStatement) → t1 ≡ leave_code (declared s) ++ t0 →
    t2 ≡ stmt_code q n m out again s ++ t1 → out ≡ b → again ≡ c → t2 ≡ block_code (stmt_code q n m b c s) (declared s) ++ t0
block_made t0 t1 t2 q n m b c out again s e1 e2 b_is c_is =
    e2
    ∙ ap (λ k. stmt_code q n m k again s ++ t1) b_is
    ∙ ap (λ k. stmt_code q n m b k s ++ t1) c_is
    ∙ ap (λ l. stmt_code q n m b c s ++ l) e1
    ∙ sym (append_assoc (stmt_code q n m b c s) (leave_code (declared s)) t0)

-- what follows where it went well
pub on_ok : {T E : Type 0} (r : Result T E) (P Q : Type 0) → (P → Q) → OnOk r P → OnOk r Q
on_ok (Ok v) P Q f p = f p
on_ok (Err e) P Q f p = tt
