-- One turn of each loop, and its end: what was done so far, then what is left, is all of it.
use Rattle.std.proofs.Common.{◌≡◌, ℕ, suc, ◌+◌, ◌-◌, ◌<◌, ◌≤◌, List, [], ◌∷◌, ◌++◌, length, get_or, take, drop, sym, ap, ◌∙◌, arith, append_assoc, length-append}
use Rattle.std.proofs.Common.{nat_cmp}
use Rattle.std.proofs.lemmas.Grind.{common_steps}
use Rattle.std.specs.Ordering.{ord_max}
use Rattle.std.specs.List.{AllZip}
use Rattle.std.specs.Prelude.{max, map, reverse}
use Rattle.std.proofs.lemmas.List.{drop_more, get_or_default, map-append, reverse-append, reverse-reverse}
use Rattle.std.proofs.Math.Seq.{split_at}
use denote.Ref.{Bor}
use denote.Param.Weighed.{most, most-append}
use Rattle.std.proofs.Math.ListN.{drop_of_length-le}
use Rattle.ang_meaning.specs.declared.routine.Target.{Target}
use Rattle.ang_core.specs.declared.tree.CoreExpression.{CoreExpression}
use Rattle.ang_core.specs.declared.tree.CoreStatement.{CoreStatement}
use Rattle.ang_core.specs.Sound.{declared}
use Rattle.ang_code.specs.declared.instruction.Instruction.{Instruction}
use Rattle.ang_gen.specs.Code.{swap_at, swaps_code, expr_code, stmt_code}
use Rattle.ang_gen.specs.Rows.{list_code, declared_in, statements_code}
use Rattle.ang_gen.specs.Peaks.{peak, list_peak, statement_peak, statements_peak}

-- an element that was read at the index, and what follows it
pub next_of : {A : Type 0} (xs : List A) (i : ℕ) (x : A) → i < length xs → x ≡ get_or xs i x → drop i xs ≡ x ∷ drop (i + 1) xs
next_of xs i x h e = drop_more xs i x h ∙ ap (λ y. y ∷ drop (i + 1) xs) (sym e)

-- ---- targets

pub swaps_turn : (base u i : ℕ) (xs : List Target) (x : Target) (text longer all : List Instruction) → i < length xs → x ≡ get_or xs i x →
    swaps_code u base (drop i xs) ++ text ≡ all → longer ≡ swap_at x.to u base x.spot ∷ text → swaps_code (u + 1) base (drop (i + 1) xs) ++ longer ≡ all
swaps_turn base u i xs x text longer all h e so_far new =
    let rest = drop (i + 1) xs in
    let one : u + 1 ≡ suc u = omega arith in
    ap (λ l. swaps_code (u + 1) base rest ++ l) new
    ∙ ap (λ n. swaps_code n base rest ++ (swap_at x.to u base x.spot ∷ text)) one
    ∙ sym (append_assoc (swaps_code (suc u) base rest) (swap_at x.to u base x.spot ∷ []) text)
    ∙ ap (λ l. swaps_code u base l ++ text) (sym (next_of xs i x h e))
    ∙ so_far

-- the same of an element that was read with any default
pub swaps_turn_at : (base u next i : ℕ) (xs : List Target) (d : Target) (text longer all : List Instruction) → i < length xs →
    swaps_code u base (drop i xs) ++ text ≡ all → longer ≡ swap_at (get_or xs i d).to u base (get_or xs i d).spot ∷ text → next ≡ u + 1 → swaps_code next base (drop (i + 1) xs) ++ longer ≡ all
swaps_turn_at base u next i xs d text longer all h so_far new next_is =
    ap (λ n. swaps_code n base (drop (i + 1) xs) ++ longer) next_is
    ∙ swaps_turn base u i xs (get_or xs i d) text longer all h (get_or_default xs i d (get_or xs i d) h) so_far new

pub swaps_end : (base u i : ℕ) (xs : List Target) (text all : List Instruction) → length xs ≤ i → swaps_code u base (drop i xs) ++ text ≡ all → text ≡ all
swaps_end base u i xs text all h so_far = ap (λ l. swaps_code u base l ++ text) (sym (drop_of_length-le xs h)) ∙ so_far

-- ---- heights

-- the greater of two, as code finds it
pub greater_is : (a b : ℕ) → ord_max nat_cmp a b ≡ max a b
greater_is a b = grind (arith, common_steps)

pub peak_turn : (d next i high top n all : ℕ) (xs : List CoreExpression) (x : CoreExpression) → i < length xs → x ≡ get_or xs i x →
    max high (list_peak d (drop i xs)) ≡ all → n ≡ peak d x → next ≡ d + 1 → top ≡ max high n → max top (list_peak next (drop (i + 1) xs)) ≡ all
peak_turn d next i high top n all xs x h e so_far new there over =
    let one : next ≡ suc d = omega arith in
    let rest : list_peak next (drop (i + 1) xs) ≡ list_peak (suc d) (drop (i + 1) xs) = ap (λ k. list_peak k (drop (i + 1) xs)) one in
    let here : list_peak d (drop i xs) ≡ max (peak d x) (list_peak (suc d) (drop (i + 1) xs)) = ap (λ l. list_peak d l) (next_of xs i x h e) in
    omega arith

pub peak_end : (d i high all : ℕ) (xs : List CoreExpression) → length xs ≤ i → max high (list_peak d (drop i xs)) ≡ all → high ≡ all
peak_end d i high all xs h so_far =
    let none : list_peak d (drop i xs) ≡ 0 = ap (λ l. list_peak d l) (drop_of_length-le xs h) in omega arith

pub rise_turn : (n next i high top m all : ℕ) (xs : List CoreStatement) (x : CoreStatement) → i < length xs → x ≡ get_or xs i x →
    max high (statements_peak n (drop i xs)) ≡ all → m ≡ statement_peak n x → next ≡ declared x + n → top ≡ max high m → max top (statements_peak next (drop (i + 1) xs)) ≡ all
rise_turn n next i high top m all xs x h e so_far new there over =
    let rest : statements_peak next (drop (i + 1) xs) ≡ statements_peak (declared x + n) (drop (i + 1) xs) = ap (λ k. statements_peak k (drop (i + 1) xs)) there in
    let here : statements_peak n (drop i xs) ≡ max (statement_peak n x) (statements_peak (declared x + n) (drop (i + 1) xs)) = ap (λ l. statements_peak n l) (next_of xs i x h e) in
    omega arith

pub rise_end : (n i high all : ℕ) (xs : List CoreStatement) → length xs ≤ i → max high (statements_peak n (drop i xs)) ≡ all → high ≡ all
rise_end n i high all xs h so_far =
    let none : statements_peak n (drop i xs) ≡ 0 = ap (λ l. statements_peak n l) (drop_of_length-le xs h) in omega arith

-- ---- locals

pub declared_turn : (i count n : ℕ) (xs : List CoreStatement) (x : CoreStatement) → i < length xs → x ≡ get_or xs i x →
    count + declared_in (drop i xs) ≡ declared_in xs → n ≡ declared x → count + n + declared_in (drop (i + 1) xs) ≡ declared_in xs
declared_turn i count n xs x h e so_far new =
    let here : declared_in (drop i xs) ≡ declared_in (drop (i + 1) xs) + declared x = ap (λ l. declared_in l) (next_of xs i x h e) in
    omega arith

pub declared_end : (i count : ℕ) (xs : List CoreStatement) → length xs ≤ i → count + declared_in (drop i xs) ≡ declared_in xs → count ≡ declared_in xs
declared_end i count xs h so_far =
    let none : declared_in (drop i xs) ≡ 0 = ap (λ l. declared_in l) (drop_of_length-le xs h) in omega arith

pub declared_front : (a b : List CoreStatement) → declared_in (a ++ b) ≡ declared_in b + declared_in a
declared_front [] b = omega arith
declared_front (s ∷ a) b = omega (arith, declared_front a b)

-- ---- loops from the end

seam : {A : Type 0} (a : List A) (x : A) (b : List A) → reverse (a ++ x ∷ b) ≡ reverse b ++ (x ∷ reverse a)
seam a x b = reverse-append a (x ∷ b) ∙ ap (λ l. l ++ reverse a) (reverse-append (x ∷ []) b) ∙ append_assoc (reverse b) (x ∷ []) (reverse a)

-- one item more
pub one_more : {A : Type 0} (ys : List (Bor A)) (y : Bor A) → reverse (map (λ z. z.now) (ys ++ y ∷ [])) ≡ y.now ∷ reverse (map (λ z. z.now) ys)
one_more ys y = ap (λ l. reverse l) (map-append (λ z. z.now) ys (y ∷ [])) ∙ reverse-append (map (λ z. z.now) ys) (y.now ∷ [])

-- what comes next stands in front of what came
pub last_of : {A : Type 0} (xs done : List A) (k : ℕ) (x : A) → k < length (reverse xs) → x ≡ get_or (reverse xs) k x → done ≡ take k (reverse xs) →
    xs ≡ reverse (drop (suc k) (reverse xs)) ++ (x ∷ reverse done)
last_of xs done k x h e d =
    sym (reverse-reverse xs)
    ∙ ap (λ l. reverse l) (split_at (reverse xs) k x h)
    ∙ ap (λ y. reverse (take k (reverse xs) ++ y ∷ drop (suc k) (reverse xs))) (sym e)
    ∙ seam (take k (reverse xs)) x (drop (suc k) (reverse xs))
    ∙ ap (λ l. reverse (drop (suc k) (reverse xs)) ++ (x ∷ reverse l)) (sym d)

pub operands_turn : (next here : ℕ) (ys : List (Bor CoreExpression)) (y : Bor CoreExpression) (text longer old : List Instruction) →
    text ≡ list_code next (reverse (map (λ z. z.now) ys)) ++ old → next ≡ suc here → longer ≡ expr_code here y.now ++ text →
    longer ≡ list_code here (reverse (map (λ z. z.now) (ys ++ y ∷ []))) ++ old
operands_turn next here ys y text longer old so_far n_is new =
    let done = reverse (map (λ z. z.now) ys) in
    new
    ∙ ap (λ l. expr_code here y.now ++ l) (so_far ∙ ap (λ n. list_code n done ++ old) n_is)
    ∙ sym (append_assoc (expr_code here y.now) (list_code (suc here) done) old)
    ∙ ap (λ l. list_code here l ++ old) (sym (one_more ys y))

pub row_turn : (q m here next exit again : ℕ) (ys : List (Bor CoreStatement)) (y : Bor CoreStatement) (text longer old : List Instruction) →
    text ≡ statements_code q next m (length old - exit) (length old - again) (reverse (map (λ z. z.now) ys)) ++ old → next ≡ declared y.now + here →
    exit ≤ length old → again ≤ length old → longer ≡ stmt_code q here m (length text - exit) (length text - again) y.now ++ text →
    longer ≡ statements_code q here m (length old - exit) (length old - again) (reverse (map (λ z. z.now) (ys ++ y ∷ []))) ++ old
row_turn q m here next exit again ys y text longer old so_far n_is exit_in again_in new =
    let done = reverse (map (λ z. z.now) ys) in
    let b = length old - exit in
    let c = length old - again in
    let cr = statements_code q (declared y.now + here) m b c done in
    let text_is : text ≡ cr ++ old = so_far ∙ ap (λ n. statements_code q n m b c done ++ old) n_is in
    let size : length text ≡ length cr + length old = ap length text_is ∙ length-append cr old in
    let b_is : length text - exit ≡ b + length cr = omega arith in
    let c_is : length text - again ≡ c + length cr = omega arith in
    new
    ∙ ap (λ k. stmt_code q here m k (length text - again) y.now ++ text) b_is
    ∙ ap (λ k. stmt_code q here m (b + length cr) k y.now ++ text) c_is
    ∙ ap (λ l. stmt_code q here m (b + length cr) (c + length cr) y.now ++ l) text_is
    ∙ sym (append_assoc (stmt_code q here m (b + length cr) (c + length cr) y.now) cr old)
    ∙ ap (λ l. statements_code q here m b c l ++ old) (sym (one_more ys y))

-- the locals of what is still to be written
pub row_room : (xs : List CoreStatement) (ys : List (Bor CoreStatement)) (y : Bor CoreStatement) (locals here total : ℕ) → length ys < length (reverse xs) → y.now ≡ get_or (reverse xs) (length ys) y.now →
    map (λ z. z.now) ys ≡ take (length ys) (reverse xs) → total ≡ declared_in xs + locals → here + declared_in (reverse (map (λ z. z.now) ys)) ≡ total → declared y.now + locals ≤ here
row_room xs ys y locals here total h e d total_is here_is =
    let done = reverse (map (λ z. z.now) ys) in
    let front = reverse (drop (suc (length ys)) (reverse xs)) in
    let whole : declared_in xs ≡ declared_in (y.now ∷ done) + declared_in front =
    ap (λ l. declared_in l) (last_of xs (map (λ z. z.now) ys) (length ys) y.now h e d) ∙ declared_front front (y.now ∷ done) in
    omega arith

-- the same item is no larger than the largest one
pub row_depth : {A : Type 0} (size : A → ℕ) (xs done : List A) (k : ℕ) (x : A) → k < length (reverse xs) → x ≡ get_or (reverse xs) k x → done ≡ take k (reverse xs) → size x ≤ most size xs
row_depth size xs done k x h e d =
    let front = reverse (drop (suc k) (reverse xs)) in
    let whole : most size xs ≡ max (most size front) (most size (x ∷ reverse done)) =
    ap (λ l. most size l) (last_of xs done k x h e d) ∙ most-append size front (x ∷ reverse done) in
    omega arith

-- ---- bodies and their code

-- a body more, with its code
pub zip_more : {A B : Type 0} (R : A → B → Type 0) (xs : List A) (ys : List B) (x : A) (y : B) → AllZip R xs ys → R x y → AllZip R (xs ++ x ∷ []) (ys ++ y ∷ [])
zip_more R [] [] x y all one = (one, tt)
zip_more R [] (b ∷ ys) x y all one = absurd all
zip_more R (a ∷ xs) [] x y all one = absurd all
zip_more R (a ∷ xs) (b ∷ ys) x y all one = (all.0, zip_more R xs ys x y all.1 one)
