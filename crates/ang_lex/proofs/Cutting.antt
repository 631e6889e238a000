-- The tokens that are computed are those that the section is cut into.
use Rattle.std.proofs.Common.{◌≡◌, ℕ, zero, suc, ◌+◌, ◌<◌, ◌≤◌, Bool, true, false, cond, List, [], ◌∷◌, length, take, drop, refl, ap, sym, ◌∙◌, subst, arith, ⊎_elim, ◌⊎◌, Result, Ok, Err, inl, inr, length-drop, ◌↔◌, nat_lt}
use Rattle.std.proofs.lemmas.Bool.{cond-true, cond-false, false_from_ne_true, ltb-true, ltb-false, both_ways, lt-ltb}
use Rattle.std.specs.Prelude.{All}
use Rattle.std.specs.List.{AllByRecursion}
use Rattle.std.proofs.lemmas.List.Elements.{All-from_recursion}
use Rattle.ang_kinds.specs.declared.place.Place.{Place}
use Rattle.ang_lex.specs.declared.token.Token.{Token}
use Rattle.ang_lex.specs.declared.error.LexError.{LexError}
use Rattle.ang_lex.specs.declared.error.LexError.TheVariants.{TooLong}
use Rattle.ang_lex.specs.declared.shape.Piece.{Piece}
use Rattle.ang_lex.specs.declared.shape.Piece.TheVariants as piece
use Rattle.ang_lex.specs.declared.shape.Fault.{Fault}
use Rattle.ang_lex.specs.Spelling.{kind_of}
use Rattle.ang_lex.specs.Tokens.{piece_of, piece_len, place_after, start_of, error_at, token_at, with_first, with_piece, tokens_from, mark_len, tokens_of, IsWithin}
use Rattle.ang_lex.specs.Cuts.{IsWhiteSpace, IsLineComment, IsBlockComment, IsGap, IsSpan, IsFaultAt, IsCut, ended, gap, span, StopsAt, here, past_gap, past_span, IsSection, IsLongSection, HasFault, IsFirstFault}
use Rattle.ang_lex.proofs.PieceShapes.{gap_within, mark_within, fault_piece, fault_shape, fault_some, Shape, piece_shape, shape_moves, gap_piece, span_piece}

abbrev Read : Type 0
Read = Result (List Token) LexError

ok_list : {xs ys : List Token} → ◌≡◌ {A = Read} (Ok xs) (Ok ys) → xs ≡ ys
ok_list e = cc

first_split : (t : Token) (read : Read) (ts : List Token) → with_first t read ≡ Ok ts → (us : List Token) × (read ≡ Ok us) × (ts ≡ t ∷ us)
first_split t (Ok us) ts e = (us, refl, sym (ok_list e))
first_split t (Err f) ts e = absurd (cc)

-- ---- what is computed is a cut

cut_piece : (at : ℕ) (place : Place) (rest : List ℕ) (ts : List Token) (p : Piece) (read : Read) →
    with_piece (Ok p) at place (λ n. read) ≡ Ok ts → Shape rest p →
    ((us : List Token) → read ≡ Ok us → IsCut (at + piece_len p) (place_after place (take (piece_len p) rest)) (drop (piece_len p) rest) us) → IsCut at place rest ts
cut_piece at place rest ts (piece.Gap n) read e shape behind = gap n shape (behind ts e)
cut_piece at place rest ts (piece.Token kind n) read e shape behind =
    let parts = first_split (token_at kind n at place) read ts e in
    let same : token_at (kind_of (take n rest)) n at place ∷ parts.0 ≡ ts = ap (λ k. token_at k n at place ∷ parts.0) (sym shape.1) ∙ sym parts.2 in
    subst (IsCut at place rest) same (span n shape.0 (behind parts.0 parts.1))

cut_from_by : (rounds at : ℕ) (place : Place) (b : ℕ) (bs : List ℕ) (ts : List Token) (r : Result Piece Fault) → piece_of (b ∷ bs) ≡ r →
    ((n : ℕ) (us : List Token) → length (drop n (b ∷ bs)) ≤ rounds → tokens_from rounds (at + n) (place_after place (take n (b ∷ bs))) (drop n (b ∷ bs)) ≡ Ok us →
    IsCut (at + n) (place_after place (take n (b ∷ bs))) (drop n (b ∷ bs)) us) →
    length (b ∷ bs) ≤ suc rounds →
    with_piece r at place (λ n. tokens_from rounds (at + n) (place_after place (take n (b ∷ bs))) (drop n (b ∷ bs))) ≡ Ok ts → IsCut at place (b ∷ bs) ts
cut_from_by rounds at place b bs ts (Err f) is behind enough e = absurd (cc)
cut_from_by rounds at place b bs ts (Ok (piece.Gap n)) is behind enough e =
    let shape = piece_shape (b ∷ bs) (piece.Gap n) is in
    let moves = shape_moves (b ∷ bs) (piece.Gap n) shape in
    cut_piece at place (b ∷ bs) ts (piece.Gap n) _ e shape (λ us. behind n us (omega (arith, length-drop n (b ∷ bs))))
cut_from_by rounds at place b bs ts (Ok (piece.Token kind n)) is behind enough e =
    let shape = piece_shape (b ∷ bs) (piece.Token kind n) is in
    let moves = shape_moves (b ∷ bs) (piece.Token kind n) shape in
    cut_piece at place (b ∷ bs) ts (piece.Token kind n) _ e shape (λ us. behind n us (omega (arith, length-drop n (b ∷ bs))))

cut_from : (rounds at : ℕ) (place : Place) (rest : List ℕ) (ts : List Token) → length rest ≤ rounds → tokens_from rounds at place rest ≡ Ok ts → IsCut at place rest ts
cut_from rounds at place [] ts enough e = subst (IsCut at place []) (ok_list e) ended
cut_from zero at place (b ∷ bs) ts enough e = absurd (omega arith)
cut_from (suc rounds) at place (b ∷ bs) ts enough e =
    cut_from_by rounds at place b bs ts (piece_of (b ∷ bs)) refl
    (λ n us less. cut_from rounds (at + n) (place_after place (take n (b ∷ bs))) (drop n (b ∷ bs)) us less) enough e

-- ---- a cut is what is computed

from_piece : (rounds at : ℕ) (place : Place) (b : ℕ) (bs : List ℕ) (p : Piece) (ts : List Token) → piece_of (b ∷ bs) ≡ Ok p →
    with_piece (Ok p) at place (λ n. tokens_from rounds (at + n) (place_after place (take n (b ∷ bs))) (drop n (b ∷ bs))) ≡ Ok ts →
    tokens_from (suc rounds) at place (b ∷ bs) ≡ Ok ts
from_piece rounds at place b bs p ts is e =
    ap (λ r. with_piece r at place (λ n. tokens_from rounds (at + n) (place_after place (take n (b ∷ bs))) (drop n (b ∷ bs)))) is ∙ e

no_gap : (n : ℕ) → IsGap [] n → ⊥
no_gap n g =
    ⊎_elim
    (λ (w : IsWhiteSpace [] n). both_ways false refl w.white)
    (λ (c : IsLineComment [] n ⊎ IsBlockComment [] n). ⊎_elim
    (λ (l : IsLineComment [] n). both_ways false refl l.opened)
    (λ (k : IsBlockComment [] n). both_ways false refl k.opened)
    c)
    g

from_gap : (rounds at : ℕ) (place : Place) (rest : List ℕ) (ts : List Token) (n : ℕ) → length rest ≤ rounds → IsGap rest n →
    ((less : ℕ) → length (drop n rest) ≤ less → tokens_from less (at + n) (place_after place (take n rest)) (drop n rest) ≡ Ok ts) →
    tokens_from rounds at place rest ≡ Ok ts
from_gap rounds at place [] ts n enough g behind = absurd (no_gap n g)
from_gap zero at place (b ∷ bs) ts n enough g behind = absurd (omega arith)
from_gap (suc rounds) at place (b ∷ bs) ts n enough g behind =
    let moves = shape_moves (b ∷ bs) (piece.Gap n) g in
    from_piece rounds at place b bs (piece.Gap n) ts (gap_piece (b ∷ bs) n g) (behind rounds (omega (arith, length-drop n (b ∷ bs))))

from_span : (rounds at : ℕ) (place : Place) (rest : List ℕ) (ts : List Token) (n : ℕ) → length rest ≤ rounds → IsSpan rest n →
    ((less : ℕ) → length (drop n rest) ≤ less → tokens_from less (at + n) (place_after place (take n rest)) (drop n rest) ≡ Ok ts) →
    tokens_from rounds at place rest ≡ Ok (token_at (kind_of (take n rest)) n at place ∷ ts)
from_span rounds at place [] ts n enough s behind = absurd (omega (arith, s.token.some, s.token.within))
from_span zero at place (b ∷ bs) ts n enough s behind = absurd (omega arith)
from_span (suc rounds) at place (b ∷ bs) ts n enough s behind =
    let t = token_at (kind_of (take n (b ∷ bs))) n at place in
    from_piece rounds at place b bs (piece.Token (kind_of (take n (b ∷ bs))) n) (t ∷ ts) (span_piece (b ∷ bs) n s)
    (ap (with_first t) (behind rounds (omega (arith, length-drop n (b ∷ bs), s.token.some))))

from_cut : {at : ℕ} {place : Place} {rest : List ℕ} {ts : List Token} → IsCut at place rest ts → (rounds : ℕ) → length rest ≤ rounds → tokens_from rounds at place rest ≡ Ok ts
from_cut ended rounds enough = refl
from_cut {at} {place} {rest} {ts} (gap n g behind) rounds enough = from_gap rounds at place rest ts n enough g (from_cut behind)
from_cut {at} {place} {rest} (span n s behind) rounds enough = from_span rounds at place rest _ n enough s (from_cut behind)

-- ---- a whole section

section_by : (sect : ℕ) (text : List ℕ) (ts : List Token) (large : Bool) → nat_lt 65536 (length text) ≡ large →
    ◌≡◌ {A = Read} (cond large (Err (TooLong (start_of sect))) (tokens_from (length text) (mark_len text) (place_after (start_of sect) (take (mark_len text) text)) (drop (mark_len text) text))) (Ok ts) →
    IsSection sect text ts
section_by sect text ts true is e = absurd (cc)
section_by sect text ts false is e = record {
  size = ltb-false _ _ is;
  cut = cut_from (length text) (mark_len text) (place_after (start_of sect) (take (mark_len text) text)) (drop (mark_len text) text) ts (omega (arith, length-drop (mark_len text) text)) e;
}

section_from : (sect : ℕ) (text : List ℕ) (ts : List Token) → tokens_of sect text ≡ Ok ts → IsSection sect text ts
unfolding tokens_of
section_from sect text ts e = section_by sect text ts (nat_lt 65536 (length text)) refl e

from_section : (sect : ℕ) (text : List ℕ) (ts : List Token) → IsSection sect text ts → tokens_of sect text ≡ Ok ts
unfolding tokens_of
from_section sect text ts s =
    let fits : nat_lt 65536 (length text) ≡ false = false_from_ne_true _ (λ large. let l = ltb-true _ _ large in omega (arith, s.size)) in
    cond-false _ _ _ fits ∙ from_cut s.cut (length text) (omega (arith, length-drop (mark_len text) text))

-- ---- the first fault

err_same : {d e : LexError} → ◌≡◌ {A = Read} (Err d) (Err e) → d ≡ e
err_same s = cc

first_fault : (t : Token) (read : Read) (e : LexError) → with_first t read ≡ Err e → read ≡ Err e
first_fault t (Ok us) e is = absurd (cc)
first_fault t (Err d) e is = is

stop_piece : (at : ℕ) (place : Place) (rest : List ℕ) (e : LexError) (p : Piece) (read : Read) →
    with_piece (Ok p) at place (λ n. read) ≡ Err e → Shape rest p →
    (read ≡ Err e → StopsAt (at + piece_len p) (place_after place (take (piece_len p) rest)) (drop (piece_len p) rest) e) → StopsAt at place rest e
stop_piece at place rest e (piece.Gap n) read is shape behind = past_gap n shape (behind is)
stop_piece at place rest e (piece.Token kind n) read is shape behind = past_span n shape.0 (behind (first_fault (token_at kind n at place) read e is))

stop_from_by : (rounds at : ℕ) (place : Place) (b : ℕ) (bs : List ℕ) (e : LexError) (r : Result Piece Fault) → piece_of (b ∷ bs) ≡ r →
    ((n : ℕ) → length (drop n (b ∷ bs)) ≤ rounds → tokens_from rounds (at + n) (place_after place (take n (b ∷ bs))) (drop n (b ∷ bs)) ≡ Err e →
    StopsAt (at + n) (place_after place (take n (b ∷ bs))) (drop n (b ∷ bs)) e) →
    length (b ∷ bs) ≤ suc rounds →
    with_piece r at place (λ n. tokens_from rounds (at + n) (place_after place (take n (b ∷ bs))) (drop n (b ∷ bs))) ≡ Err e → StopsAt at place (b ∷ bs) e
stop_from_by rounds at place b bs e (Err f) is behind enough stop =
    subst (StopsAt at place (b ∷ bs)) (err_same stop) (here f (fault_shape (b ∷ bs) f (omega arith) is))
stop_from_by rounds at place b bs e (Ok (piece.Gap n)) is behind enough stop =
    let shape = piece_shape (b ∷ bs) (piece.Gap n) is in
    let moves = shape_moves (b ∷ bs) (piece.Gap n) shape in
    stop_piece at place (b ∷ bs) e (piece.Gap n) _ stop shape (behind n (omega (arith, length-drop n (b ∷ bs))))
stop_from_by rounds at place b bs e (Ok (piece.Token kind n)) is behind enough stop =
    let shape = piece_shape (b ∷ bs) (piece.Token kind n) is in
    let moves = shape_moves (b ∷ bs) (piece.Token kind n) shape in
    stop_piece at place (b ∷ bs) e (piece.Token kind n) _ stop shape (behind n (omega (arith, length-drop n (b ∷ bs))))

stop_from : (rounds at : ℕ) (place : Place) (rest : List ℕ) (e : LexError) → length rest ≤ rounds → tokens_from rounds at place rest ≡ Err e → StopsAt at place rest e
stop_from rounds at place [] e enough is = absurd (cc)
stop_from zero at place (b ∷ bs) e enough is = absurd (omega arith)
stop_from (suc rounds) at place (b ∷ bs) e enough is =
    stop_from_by rounds at place b bs e (piece_of (b ∷ bs)) refl
    (λ n less. stop_from rounds (at + n) (place_after place (take n (b ∷ bs))) (drop n (b ∷ bs)) e less) enough is

from_here : (rounds at : ℕ) (place : Place) (rest : List ℕ) (f : Fault) → length rest ≤ rounds → IsFaultAt rest f → tokens_from rounds at place rest ≡ Err (error_at place f)
from_here rounds at place [] f enough is = absurd (omega (arith, fault_some [] f is))
from_here zero at place (b ∷ bs) f enough is = absurd (omega arith)
from_here (suc rounds) at place (b ∷ bs) f enough is =
    ap (λ r. with_piece r at place (λ n. tokens_from rounds (at + n) (place_after place (take n (b ∷ bs))) (drop n (b ∷ bs)))) (fault_piece (b ∷ bs) f is)

past_piece : (rounds at : ℕ) (place : Place) (rest : List ℕ) (e : LexError) (p : Piece) → length rest ≤ rounds → 0 < length rest → piece_of rest ≡ Ok p → 1 ≤ piece_len p →
    ((less : ℕ) → length (drop (piece_len p) rest) ≤ less → tokens_from less (at + piece_len p) (place_after place (take (piece_len p) rest)) (drop (piece_len p) rest) ≡ Err e) →
    tokens_from rounds at place rest ≡ Err e
past_piece rounds at place [] e p enough some is moves behind = absurd (omega arith)
past_piece zero at place (b ∷ bs) e p enough some is moves behind = absurd (omega arith)
past_piece (suc rounds) at place (b ∷ bs) e (piece.Gap n) enough some is moves behind =
    ap (λ r. with_piece r at place (λ n. tokens_from rounds (at + n) (place_after place (take n (b ∷ bs))) (drop n (b ∷ bs)))) is
    ∙ behind rounds (omega (arith, length-drop n (b ∷ bs)))
past_piece (suc rounds) at place (b ∷ bs) e (piece.Token kind n) enough some is moves behind =
    ap (λ r. with_piece r at place (λ n. tokens_from rounds (at + n) (place_after place (take n (b ∷ bs))) (drop n (b ∷ bs)))) is
    ∙ ap (with_first (token_at kind n at place)) (behind rounds (omega (arith, length-drop n (b ∷ bs))))

gap_some : (rest : List ℕ) (n : ℕ) → IsGap rest n → 0 < length rest
gap_some [] n g = absurd (no_gap n g)
gap_some (b ∷ bs) n g = omega arith

from_stop : {at : ℕ} {place : Place} {rest : List ℕ} {e : LexError} → StopsAt at place rest e → (rounds : ℕ) → length rest ≤ rounds → tokens_from rounds at place rest ≡ Err e
from_stop {at} {place} {rest} (here f is) rounds enough = from_here rounds at place rest f enough is
from_stop {at} {place} {rest} {e} (past_gap n g behind) rounds enough =
    past_piece rounds at place rest e (piece.Gap n) enough (gap_some rest n g) (gap_piece rest n g) (shape_moves rest (piece.Gap n) g) (from_stop behind)
from_stop {at} {place} {rest} {e} (past_span n s behind) rounds enough =
    past_piece rounds at place rest e (piece.Token (kind_of (take n rest)) n) enough (omega (arith, s.token.some, s.token.within)) (span_piece rest n s) s.token.some (from_stop behind)

fault_from_by : (sect : ℕ) (text : List ℕ) (e : LexError) (large : Bool) → nat_lt 65536 (length text) ≡ large →
    ◌≡◌ {A = Read} (cond large (Err (TooLong (start_of sect))) (tokens_from (length text) (mark_len text) (place_after (start_of sect) (take (mark_len text) text)) (drop (mark_len text) text))) (Err e) →
    IsFirstFault sect text e
fault_from_by sect text e true is same = inl (record { size = ltb-true _ _ is; at_start = sym (err_same same) })
fault_from_by sect text e false is same = inr (record {
  size = ltb-false _ _ is;
  stops = stop_from (length text) (mark_len text) (place_after (start_of sect) (take (mark_len text) text)) (drop (mark_len text) text) e (omega (arith, length-drop (mark_len text) text)) same;
})

fault_from : (sect : ℕ) (text : List ℕ) (e : LexError) → tokens_of sect text ≡ Err e → IsFirstFault sect text e
unfolding tokens_of
fault_from sect text e same = fault_from_by sect text e (nat_lt 65536 (length text)) refl same

from_fault : (sect : ℕ) (text : List ℕ) (e : LexError) → IsFirstFault sect text e → tokens_of sect text ≡ Err e
unfolding tokens_of
from_fault sect text e f =
    ⊎_elim
    (λ (l : IsLongSection sect text e). cond-true _ _ _ (lt-ltb 65536 (length text) l.size) ∙ ap (λ d. Err d) (sym l.at_start))
    (λ (h : HasFault sect text e).
    let fits : nat_lt 65536 (length text) ≡ false = false_from_ne_true _ (λ large. let l = ltb-true _ _ large in omega (arith, h.size)) in
    cond-false _ _ _ fits ∙ from_stop h.stops (length text) (omega (arith, length-drop (mark_len text) text)))
    f

-- the first fault that is computed is the section's
pub one_fault : (sect : ℕ) (text : List ℕ) (e : LexError) → (tokens_of sect text ≡ Err e) ↔ IsFirstFault sect text e
one_fault sect text e = (fault_from sect text e, from_fault sect text e)

-- the tokens that are computed are the section's
pub one_reading : (sect : ℕ) (text : List ℕ) (ts : List Token) → (tokens_of sect text ≡ Ok ts) ↔ IsSection sect text ts
one_reading sect text ts = (section_from sect text ts, from_section sect text ts)

-- ---- tokens lie in their section

all_weaker : (n m : ℕ) (ts : List Token) → n ≤ m → AllByRecursion (IsWithin n) ts → AllByRecursion (IsWithin m) ts
all_weaker n m [] less all = all
all_weaker n m (t ∷ ts) less all = ((all.0.0, omega (arith, all.0.1)), all_weaker n m ts less all.1)

cut_within : {at : ℕ} {place : Place} {rest : List ℕ} {ts : List Token} → IsCut at place rest ts → (size : ℕ) → at + length rest ≤ size → AllByRecursion (IsWithin size) ts
cut_within ended size fits = tt
cut_within {at} {place} {rest} {ts} (gap n g behind) size fits = cut_within behind size (omega (arith, length-drop n rest, gap_within rest n g))
cut_within {at} {place} {rest} (span n s behind) size fits =
    ((omega (arith, s.token.some), omega (arith, s.token.within)), cut_within behind size (omega (arith, length-drop n rest, s.token.within)))

pub tokens_within : (sect : ℕ) (text : List ℕ) (ts : List Token) → tokens_of sect text ≡ Ok ts → All (IsWithin (length text)) ts
tokens_within sect text ts e =
    All-from_recursion (IsWithin (length text)) ts
    (cut_within (section_from sect text ts e).cut (length text) (omega (arith, length-drop (mark_len text) text, mark_within text)))
