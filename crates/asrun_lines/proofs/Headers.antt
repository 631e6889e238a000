-- Lines that are meant for the head of a section.
use Rattle.std.proofs.Common.{◌≡◌, ℕ, zero, suc, ◌+◌, Bool, true, false, cond, List, [], ◌∷◌, ◌++◌, length, take, drop, Option, Some, None, if◌then◌else◌, unwrap_or, codes, ◌==◌, refl, sym, ap, ◌∙◌, subst, inl, inr, arith}
use Rattle.std.specs.List.{position}
use Rattle.std.specs.Str.{bytes_eq, str_eq_ignore_ascii_case}
use Rattle.std.specs.Char.{is_ascii_alphabetic}
use Rattle.std.specs.Option.{option_and_then, option_map}
use Rattle.std.proofs.lemmas.Bool.{cases_Bool, lt-ltb, le-ltb}
use Rattle.std.proofs.lemmas.List.{take-append-drop}
use Rattle.std.proofs.lemmas.Slice.Eq.{bytes_eq-Decides}
use Rattle.asrun_lines.specs.Fields.{field_of, last_field_of, rest_of, decimal_of, number_of, mask_of, is_space}
use Rattle.asrun_lines.specs.Values.{arguments_of}
use Rattle.asrun_lines.specs.SessionLines.{module_of, masked_of, section_of, build_of, bind_of, unbind_of, call_of, discard_of, remove_of, budget_of, session_line_of, begins_section, is_header_at, is_header}
use Rattle.asrun_lines.specs.declared.session_lines.SessionLine.{SessionLine}
use Rattle.asrun_lines.specs.declared.session_lines.SessionLine.TheVariants as line

-- a line that may be the head of a section
abbrev pub may_head : Option SessionLine → Bool
may_head None = false
may_head (Some (line.Module name mask)) = false
may_head (Some (line.Section name lines)) = true
may_head (Some (line.Mask name mask)) = false
may_head (Some (line.Build name)) = false
may_head (Some (line.Bind name index exporter decl)) = false
may_head (Some (line.Unbind name index)) = false
may_head (Some (line.Discard name)) = false
may_head (Some (line.Remove name)) = false
may_head (Some (line.Call name args decl)) = false
may_head (Some (line.Budget ticks)) = false

then_no : {A : Type 0} (o : Option A) (f : A → Option SessionLine) → ((a : A) → may_head (f a) ≡ false) → may_head (option_and_then f o) ≡ false
then_no None f h = refl
then_no (Some a) f h = h a

module_no : (t : List ℕ) → may_head (module_of t) ≡ false
unfolding module_of
module_no t = then_no (field_of t) _ (λ name. then_no (mask_of name.1) _ (λ mask. refl))

masked_no : (t : List ℕ) → may_head (masked_of t) ≡ false
unfolding masked_of
masked_no t = then_no (field_of t) _ (λ name. then_no (mask_of name.1) _ (λ mask. refl))

build_no : (t : List ℕ) → may_head (build_of t) ≡ false
unfolding build_of
build_no t = then_no (last_field_of t) _ (λ name. refl)

bind_no : (t : List ℕ) → may_head (bind_of t) ≡ false
unfolding bind_of
bind_no t =
    then_no (field_of t) _ (λ name. then_no (field_of name.1) _ (λ index. then_no (number_of index.0) _ (λ n.
    then_no (field_of index.1) _ (λ exporter. then_no (rest_of exporter.1) _ (λ decl. refl)))))

unbind_no : (t : List ℕ) → may_head (unbind_of t) ≡ false
unfolding unbind_of
unbind_no t = then_no (field_of t) _ (λ name. then_no (number_of name.1) _ (λ n. refl))

call_no : (t : List ℕ) → may_head (call_of t) ≡ false
unfolding call_of
call_no t =
    then_no (field_of t) _ (λ name. then_no (field_of name.1) _ (λ args. then_no (arguments_of args.0) _ (λ values.
    then_no (rest_of args.1) _ (λ decl. refl))))

discard_no : (t : List ℕ) → may_head (discard_of t) ≡ false
unfolding discard_of
discard_no t = then_no (last_field_of t) _ (λ name. refl)

remove_no : (t : List ℕ) → may_head (remove_of t) ≡ false
unfolding remove_of
remove_no t = then_no (last_field_of t) _ (λ name. refl)

budget_no : (t : List ℕ) → may_head (budget_of t) ≡ false
unfolding budget_of
budget_no t = elim (decimal_of 10 t) as (λ o. may_head (option_map line.Budget o) ≡ false) [ None ↦ refl | Some n ↦ refl ]

either_no : (b : Bool) (x y : Option SessionLine) → may_head x ≡ false → may_head y ≡ false → may_head (if b then x else y) ≡ false
either_no true x y p q = p
either_no false x y p q = q

other_no : (b : Bool) (x y : Option SessionLine) → b ≡ false → may_head y ≡ false → may_head (if b then x else y) ≡ false
other_no b x y e q = ap (λ c. may_head (if c then x else y)) e ∙ q

-- a line of another first word is no head
word_no : (w t : List ℕ) → bytes_eq w (codes "section") ≡ false
    → may_head (if bytes_eq w (codes "module") then module_of t
    else (if bytes_eq w (codes "mask") then masked_of t
    else (if bytes_eq w (codes "section") then section_of t
    else (if bytes_eq w (codes "build") then build_of t
    else (if bytes_eq w (codes "bind") then bind_of t
    else (if bytes_eq w (codes "unbind") then unbind_of t
    else (if bytes_eq w (codes "call") then call_of t
    else (if bytes_eq w (codes "discard") then discard_of t
    else (if bytes_eq w (codes "remove") then remove_of t
    else (if bytes_eq w (codes "budget") then budget_of t else None)))))))))) ≡ false
word_no w t e =
    either_no (bytes_eq w (codes "module")) _ _ (module_no t)
    (either_no (bytes_eq w (codes "mask")) _ _ (masked_no t)
    (other_no (bytes_eq w (codes "section")) _ _ e
    (either_no (bytes_eq w (codes "build")) _ _ (build_no t)
    (either_no (bytes_eq w (codes "bind")) _ _ (bind_no t)
    (either_no (bytes_eq w (codes "unbind")) _ _ (unbind_no t)
    (either_no (bytes_eq w (codes "call")) _ _ (call_no t)
    (either_no (bytes_eq w (codes "discard")) _ _ (discard_no t)
    (either_no (bytes_eq w (codes "remove")) _ _ (remove_no t)
    (either_no (bytes_eq w (codes "budget")) _ _ (budget_no t) refl)))))))))

-- `section`, and what follows it
letter_first : (rest : List ℕ) → position is_ascii_alphabetic (codes "section" ++ rest) ≡ Some 0
letter_first rest = ap (λ b. cond b (Some 0) None) (lt-ltb 0 (length (codes "section" ++ rest)) (omega arith))

section_first : (rest : List ℕ) → begins_section (codes "section" ++ rest) ≡ true
unfolding begins_section
section_first rest =
    ap (λ b. if b then false else str_eq_ignore_ascii_case (take 7 (codes "section" ++ rest)) (codes "section"))
    (le-ltb (length (codes "section" ++ rest)) 7 (omega arith))

begins_so : (rest : List ℕ) → is_header (codes "section" ++ rest) ≡ true
unfolding is_header
begins_so rest = ap (λ o. is_header_at o (codes "section" ++ rest)) (letter_first rest) ∙ section_first rest

some_is : {A : Type 0} (x y : A) → Some x ≡ Some y → x ≡ y
some_is x y e = ap (λ o. unwrap_or o x) e

none_is : {A : Type 0} (x : A) → None ≡ Some x → ⊥
none_is x e = cc

front_at : (text : List ℕ) (x : List ℕ × List ℕ) (at : ℕ) (b : Bool) → (if b then None else Some (take at text, drop (at + 1) text)) ≡ Some x → text ≡ x.0 ++ drop at text
front_at text x at true h = absurd (none_is x h)
front_at text x at false h =
    let same : (take at text, drop (at + 1) text) ≡ x = some_is (take at text, drop (at + 1) text) x h in
    sym (take-append-drop at text) ∙ ap (λ p. p.0 ++ drop at text) same

place_front : (text : List ℕ) (x : List ℕ × List ℕ) (o : Option ℕ) → option_and_then (λ at. if at == 0 then None else Some (take at text, drop (at + 1) text)) o ≡ Some x
    → (rest : List ℕ) × (text ≡ x.0 ++ rest)
place_front text x None h = absurd (none_is x h)
place_front text x (Some at) h = (drop at text, front_at text x at (at == 0) h)

-- a field stands at the front of its line
field_front : (text : List ℕ) (x : List ℕ × List ℕ) → field_of text ≡ Some x → (rest : List ℕ) × (text ≡ x.0 ++ rest)
unfolding field_of
field_front text x e = place_front text x (position is_space text) e

-- its first word decides
by_word : (text w t : List ℕ) → is_header text ≡ false → ((rest : List ℕ) × (text ≡ w ++ rest)) → bytes_eq w (codes "section") ≡ false
by_word text w t e at = elim (cases_Bool (bytes_eq w (codes "section"))) [
  | inl is ↦
      let word : w ≡ codes "section" = (bytes_eq-Decides w (codes "section")).0 is in
      let whole : text ≡ codes "section" ++ at.0 = at.1 ∙ ap (λ v. v ++ at.0) word in
      let header : is_header text ≡ true = ap is_header whole ∙ begins_so at.0 in
      absurd (let both : true ≡ false = sym header ∙ e in cc)
  | inr other ↦ other
]

field_no : (text : List ℕ) → is_header text ≡ false → (o : Option (List ℕ × List ℕ)) → field_of text ≡ o
    → may_head (option_and_then (λ word. if bytes_eq word.0 (codes "module") then module_of word.1
    else (if bytes_eq word.0 (codes "mask") then masked_of word.1
    else (if bytes_eq word.0 (codes "section") then section_of word.1
    else (if bytes_eq word.0 (codes "build") then build_of word.1
    else (if bytes_eq word.0 (codes "bind") then bind_of word.1
    else (if bytes_eq word.0 (codes "unbind") then unbind_of word.1
    else (if bytes_eq word.0 (codes "call") then call_of word.1
    else (if bytes_eq word.0 (codes "discard") then discard_of word.1
    else (if bytes_eq word.0 (codes "remove") then remove_of word.1
    else (if bytes_eq word.0 (codes "budget") then budget_of word.1 else None)))))))))) o) ≡ false
field_no text e None is = refl
field_no text e (Some x) is = word_no x.0 x.1 (by_word text x.0 x.1 e (field_front text x is))

-- A line that is no head of a section in any spelling is none.
pub no_header : (text : List ℕ) → is_header text ≡ false → may_head (session_line_of text) ≡ false
unfolding session_line_of
no_header text e = field_no text e (field_of text) refl
