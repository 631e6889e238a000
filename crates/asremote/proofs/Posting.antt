-- The functions that a profile has posted, line by line.
use Rattle.std.proofs.Common.{◌≡◌, ◌∙◌, ap, sym, List, [], ◌∷◌, ◌++◌, ℕ, append_assoc, append-nil}
use Rattle.asrun_lines.specs.Lines.{shown_of}
use Rattle.asrun_lines.specs.ProfileLines.{entry_of}
use Rattle.asremote.specs.Posted.{posted_by, posted_in}
use Rattle.asremote.specs.declared.posted.PostedFunction.{PostedFunction}

-- a line was looked at
pub posted_more : (before now : List PostedFunction) (line : List ℕ) (all lines : List (List ℕ)) (whole : List PostedFunction)
    → all ≡ line ∷ lines → now ≡ before ++ posted_by (entry_of (shown_of line))
    → before ++ posted_in all ≡ whole → now ++ posted_in lines ≡ whole
unfolding posted_in
posted_more before now line all lines whole a e h =
    ap (λ x. x ++ posted_in lines) e ∙ append_assoc before (posted_by (entry_of (shown_of line))) (posted_in lines)
    ∙ sym (ap (λ l. before ++ posted_in l) a) ∙ h

-- no line is left
pub posted_all : (before : List PostedFunction) (all : List (List ℕ)) (whole : List PostedFunction)
    → all ≡ [] → before ++ posted_in all ≡ whole → before ≡ whole
unfolding posted_in
posted_all before all whole a h = sym (append-nil before) ∙ sym (ap (λ l. before ++ posted_in l) a) ∙ h
