-- A conversation without wrong lines is a session.
use Rattle.std.proofs.Common.{◌≡◌, ℕ, zero, suc, ◌+◌, Bool, true, false, if◌then◌else◌, List, [], ◌∷◌, ◌++◌, flat_map, Option, Some, None, refl, ap, ◌∙◌}
use Rattle.std.specs.List.{list_all}
use Rattle.std.specs.Option.{option_and_then}
use Rattle.asrun_lines.specs.Lines.{shown_of, is_skipped}
use Rattle.asrun_lines.specs.SessionLines.{session_line_of, is_header}
use Rattle.asrun_session.specs.Session.{Act, Session, act_of, acts, behind_action, session_from}
use Rattle.asremote.specs.OwnLines.{own_line_of}
use Rattle.asremote.specs.declared.own_lines.OwnLine.{OwnLine}
use Rattle.asremote.specs.Talk.{Nothing, Does, Talk, behind_turn, taken_as, talk_from, is_sessions, actions_in}

-- the session of the same lines
abbrev session_of : Talk → Session
session_of t = record { actions = flat_map actions_in t.turns; bad_line = t.bad_line }

abbrev Same : Session → Talk → Type 0
Same s t = list_all is_sessions t.turns ≡ true → s ≡ session_of t

one_line : (n b : ℕ) (skipped header : Bool) (own : Option OwnLine) (o : Option Act) (s : ℕ → ℕ → Session) (t : ℕ → ℕ → Talk) → ((c k : ℕ) → Same (s c k) (t c k))
    → Same (if skipped then s b zero else acts n b o s) (if skipped then behind_turn Nothing (t b zero) else taken_as n b header own o t)
one_line n b true header own o s t h = λ right. h b zero right
one_line n b false header (Some l) o s t h = λ right. absurd (let both : false ≡ true = right in cc)
one_line n b false true None None s t h = λ right. refl
one_line n b false false None None s t h = λ right. absurd (let both : false ≡ true = right in cc)
one_line n b false true None (Some a) s t h = λ right. ap (behind_action a.action) (h _ _ right)
one_line n b false false None (Some a) s t h = λ right. ap (behind_action a.action) (h _ _ right)

pub says_so : (n b k : ℕ) (ls : List (List ℕ)) → Same (session_from n b k ls) (talk_from n b k ls)
unfolding session_from talk_from
says_so n b k [] = λ right. refl
says_so n b (suc k) (l ∷ ls) = says_so (n + 1) b k ls
says_so n b zero (l ∷ ls) =
    one_line n b (is_skipped (shown_of l)) (is_header (shown_of l)) (own_line_of (shown_of l)) (option_and_then (act_of b ls) (session_line_of (shown_of l)))
    (λ c k. session_from (n + 1) c k ls) (λ c k. talk_from (n + 1) c k ls) (λ c k. says_so (n + 1) c k ls)
