-- What a command says does not depend on what follows its section.
use Rattle.std.proofs.Common.{◌≡◌, ℕ, ◌+◌, ◌-◌, ◌≤◌, true, false, if◌then◌else◌, nat_le, unwrap_or, List, [], ◌∷◌, ◌++◌, length, take, Option, Some, None, refl, sym, ap, ◌∙◌, inl, inr, arith, length-append}
use Rattle.std.specs.Option.{option_and_then}
use Rattle.std.specs.List.{concat}
use Rattle.std.proofs.lemmas.Bool.{cases_Bool, leb-true, le-leb}
use Rattle.std.proofs.lemmas.List.{take-append-le}
use Rattle.asrun_lines.specs.Lines.{is_skipped}
use Rattle.asrun_lines.specs.SessionLines.{session_line_of}
use Rattle.asrun_lines.specs.declared.session_lines.SessionLine.{SessionLine}
use Rattle.asrun_lines.specs.declared.session_lines.SessionLine.TheVariants as line
use Rattle.asrun_lines.proofs.Headers.{may_head}
use Rattle.asrun_session.specs.Session.{Act, act_of, section_act}
use Rattle.ang_engine_modules.specs.declared.command.Command.TheVariants.{AddSection}
use Rattle.asrun_session.specs.declared.action.Action.TheVariants as action
use Rattle.asremote.specs.Commands.{section_lines, lines_told, lines_behind}

some_inj : {A : Type 0} (x y : A) → Some x ≡ Some y → x ≡ y
some_inj x y e = ap (λ o. unwrap_or o x) e

none_some : {A : Type 0} (x : A) → None ≡ Some x → ⊥
none_some x e = cc

abbrev section_of : List ℕ → ℕ → List (List ℕ) → Act
section_of name lines ls = record { action = action.Command (AddSection name (concat ls)); lines = lines }

section_said : (section : List (List ℕ)) (name : List ℕ) (lines : ℕ) (a : Act) → section_act section name lines ≡ Some a
    → (lines ≤ length section) × (section_of name lines (take lines section) ≡ a)
section_said section name lines a e = elim (cases_Bool (nat_le lines (length section))) [
  | inl t ↦ (leb-true lines (length section) t, some_inj _ a (sym (ap (λ b. if b then Some (section_of name lines (take lines section)) else None) t) ∙ e))
  | inr f ↦ absurd (none_some a (sym (ap (λ b. if b then Some (section_of name lines (take lines section)) else None) f) ∙ e))
]

section_told : (section future : List (List ℕ)) (name : List ℕ) (lines : ℕ) (a : Act) → section_act section name lines ≡ Some a
    → section_act (section ++ future) name lines ≡ Some a
section_told section future name lines a e =
    let said = section_said section name lines a e in
    let room : nat_le lines (length (section ++ future)) ≡ true = le-leb lines (length (section ++ future)) (omega (arith, said.0, length-append section future)) in
    ap (λ b. if b then Some (section_of name lines (take lines (section ++ future))) else None) room
    ∙ ap (λ ls. Some (section_of name lines ls)) (take-append-le lines section future said.0) ∙ ap (λ x. Some x) said.1

told_more : (b : ℕ) (section future : List (List ℕ)) (l : SessionLine) (a : Act) → act_of b section l ≡ Some a → act_of b (section ++ future) l ≡ Some a
told_more b section future (line.Module name mask) a e = e
told_more b section future (line.Section name lines) a e = section_told section future name lines a e
told_more b section future (line.Mask name mask) a e = e
told_more b section future (line.Build name) a e = e
told_more b section future (line.Bind name index exporter decl) a e = e
told_more b section future (line.Unbind name index) a e = e
told_more b section future (line.Discard name) a e = e
told_more b section future (line.Remove name) a e = e
told_more b section future (line.Call name args decl) a e = e
told_more b section future (line.Budget ticks) a e = e

pub option_told : (b : ℕ) (section future : List (List ℕ)) (o : Option SessionLine) (a : Act) → option_and_then (act_of b section) o ≡ Some a
    → option_and_then (act_of b (section ++ future)) o ≡ Some a
option_told b section future None a e = e
option_told b section future (Some l) a e = told_more b section future l a e

-- an act has as many lines after it as its line tells
act_lines : (b : ℕ) (section : List (List ℕ)) (l : SessionLine) (a : Act) → act_of b section l ≡ Some a → section_lines l ≡ a.lines
act_lines b section (line.Module name mask) a e = ap (λ x. x.lines) (some_inj _ a e)
act_lines b section (line.Section name lines) a e = ap (λ x. x.lines) (section_said section name lines a e).1
act_lines b section (line.Mask name mask) a e = ap (λ x. x.lines) (some_inj _ a e)
act_lines b section (line.Build name) a e = ap (λ x. x.lines) (some_inj _ a e)
act_lines b section (line.Bind name index exporter decl) a e = ap (λ x. x.lines) (some_inj _ a e)
act_lines b section (line.Unbind name index) a e = ap (λ x. x.lines) (some_inj _ a e)
act_lines b section (line.Discard name) a e = ap (λ x. x.lines) (some_inj _ a e)
act_lines b section (line.Remove name) a e = ap (λ x. x.lines) (some_inj _ a e)
act_lines b section (line.Call name args decl) a e = ap (λ x. x.lines) (some_inj _ a e)
act_lines b section (line.Budget ticks) a e = ap (λ x. x.lines) (some_inj _ a e)

pub option_lines : (b : ℕ) (section : List (List ℕ)) (o : Option SessionLine) (a : Act) → option_and_then (act_of b section) o ≡ Some a → lines_told o ≡ a.lines
option_lines b section None a e = absurd (none_some a e)
option_lines b section (Some l) a e = act_lines b section l a e

pub behind_told : (shown : List ℕ) → is_skipped shown ≡ false → lines_behind shown ≡ lines_told (session_line_of shown)
unfolding lines_behind
behind_told shown e = ap (λ b. if b then 0 else lines_told (session_line_of shown)) e

pub behind_none : (shown : List ℕ) → is_skipped shown ≡ true → lines_behind shown ≡ 0
unfolding lines_behind
behind_none shown e = ap (λ b. if b then 0 else lines_told (session_line_of shown)) e

pub empty : (section : List (List ℕ)) → length section ≤ 0 → section ≡ []
empty [] le = refl
empty (l ∷ ls) le = absurd (omega (arith, le))

-- a line that is no head has no lines of a section after it
pub told_none : (o : Option SessionLine) → may_head o ≡ false → lines_told o ≡ 0
told_none None e = refl
told_none (Some (line.Module name mask)) e = refl
told_none (Some (line.Section name lines)) e = absurd (let no : true ≡ false = e in cc)
told_none (Some (line.Mask name mask)) e = refl
told_none (Some (line.Build name)) e = refl
told_none (Some (line.Bind name index exporter decl)) e = refl
told_none (Some (line.Unbind name index)) e = refl
told_none (Some (line.Discard name)) e = refl
told_none (Some (line.Remove name)) e = refl
told_none (Some (line.Call name args decl)) e = refl
told_none (Some (line.Budget ticks)) e = refl

-- and where it does nothing, it is no line of a session
pub no_line : (b : ℕ) (section : List (List ℕ)) (o : Option SessionLine) → may_head o ≡ false → option_and_then (act_of b section) o ≡ None → o ≡ None
no_line b section None e f = refl
no_line b section (Some (line.Module name mask)) e f = absurd (none_some _ (sym f))
no_line b section (Some (line.Section name lines)) e f = absurd (let no : true ≡ false = e in cc)
no_line b section (Some (line.Mask name mask)) e f = absurd (none_some _ (sym f))
no_line b section (Some (line.Build name)) e f = absurd (none_some _ (sym f))
no_line b section (Some (line.Bind name index exporter decl)) e f = absurd (none_some _ (sym f))
no_line b section (Some (line.Unbind name index)) e f = absurd (none_some _ (sym f))
no_line b section (Some (line.Discard name)) e f = absurd (none_some _ (sym f))
no_line b section (Some (line.Remove name)) e f = absurd (none_some _ (sym f))
no_line b section (Some (line.Call name args decl)) e f = absurd (none_some _ (sym f))
no_line b section (Some (line.Budget ticks)) e f = absurd (none_some _ (sym f))
