-- What is counted within a frame has 64 bits where the frame is counted in 64 bits.
use Rattle.std.proofs.Common.{◌≡◌, ℕ, suc, ◌+◌, ◌<◌, ◌≤◌, ◌^◌, List, [], ◌∷◌, ◌++◌, length, get_or, take, drop, sym, ap, ◌∙◌, arith, length-append}
use Rattle.std.specs.Prelude.{max, map, reverse}
use Rattle.std.proofs.Math.Nat.{mod-eq_of_lt}
use Rattle.std.proofs.lemmas.List.{length-map, length-reverse}
use Rattle.std.specs.declared.boxed.Box.{Box}
use Rattle.std.specs.declared.vec.Vec.{Vec}
use Rattle.std.specs.declared.alloc.Global.{Global}
use denote.Ref.{Bor}
use Rattle.ang_meaning.specs.declared.operation.Operation.{Operation}
use Rattle.ang_meaning.specs.declared.routine.Callee.{Callee}
use Rattle.ang_meaning.specs.declared.routine.Target.{Target}
use Rattle.ang_core.specs.declared.tree.CoreExpression.{CoreExpression, Row_of-CoreExpression, end_of-CoreExpression, more_of-CoreExpression}
use Rattle.ang_core.specs.declared.tree.CoreExpression.TheVariants.{Number, Null as Nothing, Local, Assign', Update', Apply', Apply, Call', Call, Choose'}
use Rattle.ang_core.specs.declared.tree.CoreStatement.{CoreStatement}
use Rattle.ang_core.specs.declared.tree.CoreStatement.TheVariants.{Skip, Evaluate, Declare, Block', Block, If', While', DoWhile', Return, Break, Continue}
use Rattle.ang_core.specs.Sound.{declared}
use Rattle.ang_gen.specs.Code.{place_above}
use Rattle.ang_gen.specs.Heights.{Below}
use Rattle.ang_gen.specs.Rows.{declared_in}
use Rattle.ang_gen.specs.Peaks.{peak, args_peak, list_peak, statement_peak, statements_peak}
use Rattle.ang_gen.proofs.Lists.{apply_peak, call_peak, block_peak}
use Rattle.ang_gen.proofs.Turns.{last_of, declared_front}

-- such a place is a plain sum
pub placed : (d i : ℕ) → d + i < 2 ^ 64 → place_above d i ≡ d + i
unfolding place_above
placed d i few = mod-eq_of_lt few

-- the frame has more values than stand below an expression
pub beneath : (h d : ℕ) (e : CoreExpression) → Below h d e → d < h
beneath h d (Number n) b = b
beneath h d Nothing b = b
beneath h d (Local i) b = b
beneath h d (Assign' i p e) b = beneath h d e b
beneath h d (Update' i by p e) b = beneath h d e b
beneath h d (Apply' o shape args) b = b.0
beneath h d (Call' f shape args outs) b = omega (arith, b.0)
beneath h d (Choose' p a q x s c) b = beneath h d a b.0

-- and so has the peak
pub tall : (d : ℕ) (e : CoreExpression) → d < peak d e
tall d (Number n) = omega arith
tall d Nothing = omega arith
tall d (Local i) = omega arith
tall d (Assign' i p e) = tall d e
tall d (Update' i by p e) = tall d e
tall d (Apply' o shape args) = omega arith
tall d (Call' f shape args outs) = omega arith
tall d (Choose' p a q b s c) = omega (arith, tall d a)

-- where more values stand below, the peak is no lower
mutual
  pub rises : (d b : ℕ) (e : CoreExpression) → d ≤ b → peak d e ≤ peak b e
  rises d b (Number n) le = omega arith
  rises d b Nothing le = omega arith
  rises d b (Local i) le = omega arith
  rises d b (Assign' i p e) le = rises d b e le
  rises d b (Update' i by p e) le = rises d b e le
  rises d b (Apply' o shape args) le = omega (arith, rises_args d b args le)
  rises d b (Call' f shape args outs) le = omega (arith, rises_args d b args le)
  rises d b (Choose' p a q x s c) le = omega (arith, rises d b a le, rises d b x le, rises d b c le)

  rises_args : {k : _} → (d b : ℕ) (args : Row_of-CoreExpression k) → d ≤ b → args_peak d args ≤ args_peak b args
  rises_args d b end_of-CoreExpression le = omega arith
  rises_args d b (more_of-CoreExpression e rest) le = omega (arith, rises d b e le, rises_args (suc d) (suc b) rest (omega arith))

-- an expression with nothing below it, in a statement's frame
pub room_alone : (n : ℕ) (e : CoreExpression) → peak n e < 2 ^ 64 → peak 0 e < 2 ^ 64
room_alone n e few = omega (arith, rises 0 n e (omega arith))

-- ---- operands

pub list_tall : (d : ℕ) (xs : List CoreExpression) → d + length xs ≤ max d (list_peak d xs)
list_tall d [] = omega arith
list_tall d (e ∷ es) = omega (arith, tall d e, list_tall (suc d) es)

operand_in : (front : List CoreExpression) (x : CoreExpression) (back : List CoreExpression) (d here : ℕ) → here ≡ d + length front → peak here x ≤ list_peak d (front ++ x ∷ back)
operand_in [] x back d here e =
    let same : peak here x ≡ peak d x = ap (λ n. peak n x) (let at : here ≡ d = omega arith in at) in omega arith
operand_in (y ∷ front) x back d here e = omega (arith, operand_in front x back (suc d) here (omega arith))

-- an expression's part of the peak
pub apply_room : (d : ℕ) (o : Operation) (v : Vec CoreExpression Global) (e : CoreExpression) (xs : List CoreExpression) → xs ≡ v.items → e ≡ Apply o v → peak d e < 2 ^ 64 → list_peak d xs < 2 ^ 64
apply_room d o v e xs xs_is e_is few =
    let parts : peak d e ≡ max (d + 1) (list_peak d xs) = ap (λ x. peak d x) e_is ∙ apply_peak d o v ∙ ap (λ l. max (d + 1) (list_peak d l)) (sym xs_is) in
    omega arith

pub call_room : (d : ℕ) (f : Callee) (v : Vec CoreExpression Global) (ts : Box (Vec Target Global) Global) (e : CoreExpression) (xs : List CoreExpression) → xs ≡ v.items → e ≡ Call f v ts → peak d e < 2 ^ 64 → list_peak d xs < 2 ^ 64
call_room d f v ts e xs xs_is e_is few =
    let own = length ts.value.items + d + 1 in
    let parts : peak d e ≡ max own (list_peak d xs) = ap (λ x. peak d x) e_is ∙ call_peak d f v ts ∙ ap (λ l. max own (list_peak d l)) (sym xs_is) in
    omega arith

-- the front of a list that is gone through from its end
front_long : {A : Type 0} (xs : List A) (ys : List (Bor A)) (front : List A) (y : A) → xs ≡ front ++ (y ∷ reverse (map (λ z. z.now) ys)) → length xs ≡ length front + suc (length ys)
front_long xs ys front y e =
    let done = reverse (map (λ z. z.now) ys) in
    let count : length done ≡ length ys = length-reverse (map (λ z. z.now) ys) ∙ length-map ys (λ z. z.now) in
    omega (arith, ap length e, length-append front (y ∷ done), count)

pub operand_room : (xs : List CoreExpression) (ys : List (Bor CoreExpression)) (y : Bor CoreExpression) (above here : ℕ) → length ys < length (reverse xs) → y.now ≡ get_or (reverse xs) (length ys) y.now →
    map (λ z. z.now) ys ≡ take (length ys) (reverse xs) → here + suc (length ys) ≡ above + length xs → peak here y.now ≤ list_peak above xs
operand_room xs ys y above here h e d here_is =
    let front = reverse (drop (suc (length ys)) (reverse xs)) in
    let done = reverse (map (λ z. z.now) ys) in
    let whole = last_of xs (map (λ z. z.now) ys) (length ys) y.now h e d in
    let long = front_long xs ys front y.now whole in
    let inside = operand_in front y.now done above here (omega arith) in
    let same = ap (λ l. list_peak above l) whole in
    omega arith

-- ---- statements

grows : (n : ℕ) (s : CoreStatement) → declared s + n ≤ max n (statement_peak n s)
grows n Skip = omega arith
grows n (Evaluate e) = omega arith
grows n (Declare e) = omega (arith, tall n e.value)
grows n (Block' shape row) = omega arith
grows n (If' e x a y b) = omega arith
grows n (While' e x s y step) = omega arith
grows n (DoWhile' e x s) = omega arith
grows n (Return e) = omega arith
grows n Break = omega arith
grows n Continue = omega arith

-- a block's row
pub block_room : (n : ℕ) (v : Vec CoreStatement Global) (s : CoreStatement) (xs : List CoreStatement) → xs ≡ v.items → s ≡ Block v → statement_peak n s < 2 ^ 64 → statements_peak n xs < 2 ^ 64
block_room n v s xs xs_is s_is few =
    let same : statement_peak n s ≡ statements_peak n xs = ap (λ x. statement_peak n x) s_is ∙ block_peak n v ∙ ap (λ l. statements_peak n l) (sym xs_is) in
    omega arith

pub row_tall : (n : ℕ) (ss : List CoreStatement) → declared_in ss + n ≤ max n (statements_peak n ss)
row_tall n [] = omega arith
row_tall n (s ∷ ss) = omega (arith, grows n s, row_tall (declared s + n) ss)

statement_in : (front : List CoreStatement) (x : CoreStatement) (back : List CoreStatement) (n here : ℕ) → here ≡ declared_in front + n → statement_peak here x ≤ statements_peak n (front ++ x ∷ back)
statement_in [] x back n here e =
    let same : statement_peak here x ≡ statement_peak n x = ap (λ m. statement_peak m x) (let at : here ≡ n = omega arith in at) in omega arith
statement_in (s ∷ front) x back n here e = omega (arith, statement_in front x back (declared s + n) here (omega arith))

-- `next` locals are alive after the statement, `here` before it
pub statement_room : (xs : List CoreStatement) (ys : List (Bor CoreStatement)) (y : Bor CoreStatement) (locals next here total : ℕ) → length ys < length (reverse xs) → y.now ≡ get_or (reverse xs) (length ys) y.now →
    map (λ z. z.now) ys ≡ take (length ys) (reverse xs) → total ≡ declared_in xs + locals → next + declared_in (reverse (map (λ z. z.now) ys)) ≡ total → next ≡ declared y.now + here →
    statement_peak here y.now ≤ statements_peak locals xs
statement_room xs ys y locals next here total h e d total_is next_is here_is =
    let done = reverse (map (λ z. z.now) ys) in
    let front = reverse (drop (suc (length ys)) (reverse xs)) in
    let whole = last_of xs (map (λ z. z.now) ys) (length ys) y.now h e d in
    let parts : declared_in xs ≡ declared_in (y.now ∷ done) + declared_in front = ap (λ l. declared_in l) whole ∙ declared_front front (y.now ∷ done) in
    let inside = statement_in front y.now done locals here (omega arith) in
    let same = ap (λ l. statements_peak locals l) whole in
    omega arith
