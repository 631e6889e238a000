-- A session's lines, one after the other.
use Rattle.std.proofs.Common.{◌≡◌, ℕ, zero, suc, ◌+◌, ◌≤◌, true, false, List, [], ◌∷◌, length, drop, Some, None, refl, sym, ap, ◌∙◌, arith, add-zero}
use Rattle.std.specs.Option.{option_and_then}
use Rattle.asrun_lines.specs.Lines.{shown_of, is_skipped}
use Rattle.asrun_lines.specs.SessionLines.{session_line_of}
use Rattle.asrun_session.specs.Session.{Act, act_of, session_from, behind_action, budget_after}

-- the lines of a section are passed over
session_behind : (n b k : ℕ) (ls : List (List ℕ)) → k ≤ length ls → session_from n b k ls ≡ session_from (n + k) b zero (drop k ls)
unfolding session_from
session_behind n b zero ls h = ap (λ x. session_from x b zero ls) (sym (add-zero n))
session_behind n b (suc k) [] h = absurd (omega arith)
session_behind n b (suc k) (l ∷ ls) h =
    let e : (n + 1) + k ≡ n + suc k = omega arith in
    session_behind (n + 1) b k ls (omega arith) ∙ ap (λ x. session_from x b zero (drop k ls)) e

pub session_end : (n b : ℕ) (all : List (List ℕ)) → all ≡ [] → session_from n b zero all ≡ record { actions = []; bad_line = None }
unfolding session_from
session_end n b all a = rw a refl

pub session_skipped : (n b : ℕ) (l shown : List ℕ) (all ls : List (List ℕ)) → all ≡ l ∷ ls → shown ≡ shown_of l → is_skipped shown ≡ true
    → session_from n b zero all ≡ session_from (n + 1) b zero ls
unfolding session_from
session_skipped n b l shown all ls a s e = rw (a, ← s, e) refl

pub session_bad : (n b : ℕ) (l shown : List ℕ) (all ls : List (List ℕ)) → all ≡ l ∷ ls → shown ≡ shown_of l → is_skipped shown ≡ false
    → option_and_then (act_of b ls) (session_line_of shown) ≡ None
    → session_from n b zero all ≡ record { actions = []; bad_line = Some n }
unfolding session_from
session_bad n b l shown all ls a s e f = rw (a, ← s, e, f) refl

pub session_act : (n b : ℕ) (l shown : List ℕ) (all ls : List (List ℕ)) (act : Act) → all ≡ l ∷ ls → shown ≡ shown_of l → is_skipped shown ≡ false
    → option_and_then (act_of b ls) (session_line_of shown) ≡ Some act → act.lines ≤ length ls
    → session_from n b zero all ≡ behind_action act.action (session_from (n + (1 + act.lines)) (budget_after b act.action) zero (drop act.lines ls))
unfolding session_from
session_act n b l shown all ls act a s e f h =
    let place : (n + 1) + act.lines ≡ n + (1 + act.lines) = omega arith in
    rw (a, ← s, e, f) (ap (behind_action act.action) (session_behind (n + 1) (budget_after b act.action) act.lines ls h
    ∙ ap (λ x. session_from x (budget_after b act.action) zero (drop act.lines ls)) place))
