-- What stands at a point of a section, in the manual's words.
use Rattle.std.proofs.Common.{◌≡◌, ℕ, zero, suc, ◌+◌, ◌<◌, ◌≤◌, Bool, true, false, not, List, [], ◌∷◌, length, take, drop, refl, ap, sym, ◌∙◌, subst, arith, ⊎_elim, nat_eq, nat_lt, Option, Some, None, Result, Ok, Err, inl, inr, codes}
use Rattle.std.specs.Prelude.{◌⊎◌, option_map}
use Rattle.std.specs.List.{list_all, list_any, prefix_len, starts_with}
use Rattle.std.specs.Str.{bytes_eq}
use Rattle.std.proofs.lemmas.Bool.{cond-true, cond-false, cases_Bool, and_parts, and_left, or_from, or_cases, both_ways, false_from_ne_true, ltb-false, not-true, eqb-true, ltb-true, lt-ltb}
use Rattle.std.proofs.str.Laws.{order}
use Rattle.std.proofs.lemmas.Bool.Decides.{Decides-eqb, nat_tests}
use Rattle.std.proofs.lemmas.Slice.Eq.{starts_is, bytes_eq-Decides}
use Rattle.std.proofs.lemmas.List.{length-take-le, drop-drop}
use Rattle.std.proofs.Common.{length-drop}
use Rattle.std.proofs.lemmas.List.Sums.{prefix_len-le-length}
use Rattle.ang_lex.specs.declared.shape.Piece.{Piece}
use Rattle.ang_lex.specs.declared.shape.Piece.TheVariants as piece
use Rattle.ang_lex.specs.declared.shape.Fault.{Fault}
use Rattle.ang_lex.specs.declared.shape.Fault.TheVariants as fault
use Rattle.ang_lex.specs.Bytes.{is_white, begins}
use Rattle.ang_lex.specs.Words.{Entry, signs, is_listed, not_is}
use Rattle.ang_lex.specs.Spelling.{is_token, is_token_of, longest_within, longest, kind_of}
use Rattle.ang_lex.specs.Tokens.{mark_len, line_len, closing_len, piece_len, block_piece, is_bad_number, longest_piece, piece_of}
use Rattle.ang_lex.specs.Cuts.{stays_in_line, IsWhiteSpace, IsLineComment, IsBlockComment, IsGap, IsLongestToken, BeginsNoComment, IsSpan, IsOpenComment, IsBadByte, IsLongToken, IsBadNumberToken, IsFaultAt}
use Rattle.ang_lex.proofs.Runs.{run_all}
use Rattle.ang_lex.proofs.Longest.{IsLongest, longest_is}
use Rattle.ang_lex.proofs.FirstBytes.{digit_range, name_start_range, token_by_other}

split_le : (m k : ℕ) → (m ≤ k) ⊎ (k < m)
split_le m k = ⊎_elim (λ above. inr above) (λ below. inl below) (order k m)

-- ---- the greatest length is of the longest token

longest_ok_by : (rest : List ℕ) (k : ℕ) (t : Bool) → is_token_of (suc k) rest ≡ t →
    (longest_within k rest ≤ k) × (0 < longest_within k rest → is_token_of (longest_within k rest) rest ≡ true) × ((m : ℕ) → longest_within k rest < m → m ≤ k → is_token_of m rest ≡ false) →
    (longest_within (suc k) rest ≤ suc k) × (0 < longest_within (suc k) rest → is_token_of (longest_within (suc k) rest) rest ≡ true) × ((m : ℕ) → longest_within (suc k) rest < m → m ≤ suc k → is_token_of m rest ≡ false)
longest_ok_by rest k true is less =
    let here : longest_within (suc k) rest ≡ suc k = cond-true _ _ _ is in
    rw here (omega arith, (λ some. is), λ m more most. absurd (omega arith))
longest_ok_by rest k false is less =
    let there : longest_within (suc k) rest ≡ longest_within k rest = cond-false _ _ _ is in
    rw there (omega (arith, less.0), less.1, λ m more most. ⊎_elim (λ below. less.2 m more below) (λ above. let e : m ≡ suc k = omega arith in subst (λ n. is_token_of n rest ≡ false) (sym e) is) (split_le m k))

longest_ok : (rest : List ℕ) (k : ℕ) → (longest_within k rest ≤ k) × (0 < longest_within k rest → is_token_of (longest_within k rest) rest ≡ true) × ((m : ℕ) → longest_within k rest < m → m ≤ k → is_token_of m rest ≡ false)
longest_ok rest zero = (omega arith, (λ some. absurd (omega arith)), λ m more most. absurd (omega arith))
longest_ok rest (suc k) = longest_ok_by rest k (is_token_of (suc k) rest) refl (longest_ok rest k)

longest_is_longest : (rest : List ℕ) → IsLongest rest (longest rest)
unfolding longest
longest_is_longest rest = let ok = longest_ok rest (length rest) in record { within = ok.0; token = ok.1; none_longer = ok.2 }

-- ---- a rest that begins with two bytes

begins_two : (x y : ℕ) (rest : List ℕ) → starts_with nat_eq rest (x ∷ y ∷ []) ≡ true → rest ≡ x ∷ y ∷ drop 2 rest
begins_two x y rest e = (starts_is Decides-eqb rest (x ∷ y ∷ []) _ refl).0 e

no_white_at : (x y : ℕ) (rest : List ℕ) → is_white x ≡ false → starts_with nat_eq rest (x ∷ y ∷ []) ≡ true → begins is_white rest ≡ false
no_white_at x y rest apart e = subst (λ xs. begins is_white xs ≡ false) (sym (begins_two x y rest e)) apart

-- ---- tokens begin with no white space

listed_class : (class : ℕ → Bool) (entries : List Entry) (b : ℕ) (w : List ℕ) → list_all (λ e. begins class e.0) entries ≡ true → is_listed entries (b ∷ w) ≡ true → class b ≡ true
unfolding is_listed
listed_class class [] b w all e = absurd (both_ways false refl e)
listed_class class (e ∷ es) b w all is =
    let parts = and_parts (begins class e.0) (list_all (λ s. begins class s.0) es) all in
    ⊎_elim
    (λ here. let same : e.0 ≡ b ∷ w = (bytes_eq-Decides e.0 (b ∷ w)).0 here in subst (λ xs. begins class xs ≡ true) same parts.0)
    (λ later. listed_class class es b w parts.1 later)
    (or_cases (bytes_eq e.0 (b ∷ w)) (list_any (λ s. bytes_eq s.0 (b ∷ w)) es) is)

signs_not_white : list_all (λ e. begins (λ c. not (is_white c)) e.0) signs ≡ true
unfolding signs
signs_not_white = refl

not_is_not_white : (b : ℕ) (w : List ℕ) → is_white b ≡ true → bytes_eq not_is (b ∷ w) ≡ false
not_is_not_white b w white = false_from_ne_true _ (λ is.
    let same : not_is ≡ b ∷ w = (bytes_eq-Decides not_is (b ∷ w)).0 is in
    let not_white : not (is_white b) ≡ true = subst (λ xs. begins (λ c. not (is_white c)) xs ≡ true) same refl in
    both_ways _ (not-true _ not_white) white)

white_range : (b : ℕ) → is_white b ≡ true → b ≤ 32
white_range b e = grind (arith, nat_tests)

white_no_token : (b : ℕ) (w after : List ℕ) → is_white b ≡ true → is_token (b ∷ w) after ≡ false
white_no_token b w after white =
    let low = white_range b white in
    token_by_other b w after
    (false_from_ne_true _ (λ n. let r = name_start_range b n in omega arith))
    (false_from_ne_true _ (λ d. let r = digit_range b d in omega arith))
    (false_from_ne_true _ (λ q. let r = eqb-true b 34 q in omega arith))
    ∙ or_from _ _
    (false_from_ne_true _ (λ is. both_ways _ (not-true _ (listed_class (λ c. not (is_white c)) signs b w signs_not_white is)) white))
    (and_left _ _ (not_is_not_white b w white))

token_no_white : (rest : List ℕ) (n : ℕ) → 0 < n → is_token (take n rest) (drop n rest) ≡ true → begins is_white rest ≡ false
token_no_white [] n some is = refl
token_no_white (b ∷ bs) zero some is = absurd (omega arith)
token_no_white (b ∷ bs) (suc n) some is = false_from_ne_true _ (λ white. both_ways _ (white_no_token b (take n bs) (drop n bs) white) is)

-- ---- what piece_of answers

module _ (rest : List ℕ) where
  at_white : begins is_white rest ≡ true → piece_of rest ≡ Ok (piece.Gap 1)
  unfolding piece_of
  at_white w = cond-true _ _ _ w

  at_line : begins is_white rest ≡ false → starts_with nat_eq rest (codes "//") ≡ true → piece_of rest ≡ Ok (piece.Gap (line_len rest))
  unfolding piece_of
  at_line w l = cond-false _ _ _ w ∙ cond-true _ _ _ l

  at_block : begins is_white rest ≡ false → starts_with nat_eq rest (codes "//") ≡ false → starts_with nat_eq rest (codes "/*") ≡ true →
      piece_of rest ≡ block_piece (closing_len (drop 2 rest))
  unfolding piece_of
  at_block w l k = cond-false _ _ _ w ∙ cond-false _ _ _ l ∙ cond-true _ _ _ k

  at_token : begins is_white rest ≡ false → starts_with nat_eq rest (codes "//") ≡ false → starts_with nat_eq rest (codes "/*") ≡ false →
      piece_of rest ≡ longest_piece (longest rest) rest
  unfolding piece_of
  at_token w l k = cond-false _ _ _ w ∙ cond-false _ _ _ l ∙ cond-false _ _ _ k

-- ---- line comments

run_ends_by : (p : ℕ → Bool) (x : ℕ) (xs : List ℕ) → begins p (drop (prefix_len p xs) xs) ≡ false → (t : Bool) → p x ≡ t → begins p (drop (prefix_len p (x ∷ xs)) (x ∷ xs)) ≡ false
run_ends_by p x xs more true e = let next : 1 + prefix_len p xs ≡ suc (prefix_len p xs) = omega arith in rw (e, next) more
run_ends_by p x xs more false e = rw (e, e) refl

run_ends : (p : ℕ → Bool) (xs : List ℕ) → begins p (drop (prefix_len p xs) xs) ≡ false
run_ends p [] = refl
run_ends p (x ∷ xs) = run_ends_by p x xs (run_ends p xs) (p x) refl

run_is : (p : ℕ → Bool) (xs : List ℕ) (n : ℕ) → n ≤ length xs → list_all p (take n xs) ≡ true → begins p (drop n xs) ≡ false → prefix_len p xs ≡ n
run_is p [] zero within all ended = refl
run_is p [] (suc n) within all ended = absurd (omega arith)
run_is p (x ∷ xs) zero within all ended = rw ended refl
run_is p (x ∷ xs) (suc n) within all ended =
    let parts = and_parts (p x) (list_all p (take n xs)) all in
    let more = run_is p xs n (omega arith) parts.1 ended in
    rw parts.0 (omega arith)

-- ---- block comments

record ClosesAt (rest : List ℕ) (body : ℕ) : Type 0 where
  closed : starts_with nat_eq (drop body rest) (codes "*/") ≡ true
  first : (k : ℕ) → k < body → starts_with nat_eq (drop k rest) (codes "*/") ≡ false

closes_next : (b : ℕ) (bs : List ℕ) (body : ℕ) → starts_with nat_eq (b ∷ bs) (codes "*/") ≡ false → ClosesAt bs body → ClosesAt (b ∷ bs) (suc body)
closes_next b bs body other c = record { closed = c.closed; first = first_next }
  where
    first_next : (k : ℕ) → k < suc body → starts_with nat_eq (drop k (b ∷ bs)) (codes "*/") ≡ false
    first_next zero below = other
    first_next (suc k) below = c.first k (omega arith)

-- what is found is the first `*/`
mapped_some : (o : Option ℕ) (m : ℕ) → option_map suc o ≡ Some m → (k : ℕ) × (o ≡ Some k) × (m ≡ suc k)
mapped_some None m e = absurd (cc)
mapped_some (Some k) m e = let size : suc k ≡ m = cc in (k, refl, sym size)

closing_some_by : (b : ℕ) (bs : List ℕ) (m : ℕ) (t : Bool) → starts_with nat_eq (b ∷ bs) (codes "*/") ≡ t →
    ((k : ℕ) → closing_len bs ≡ Some k → (body : ℕ) × (k ≡ body + 2) × ClosesAt bs body) →
    closing_len (b ∷ bs) ≡ Some m → (body : ℕ) × (m ≡ body + 2) × ClosesAt (b ∷ bs) body
closing_some_by b bs m true is later e =
    let here : closing_len (b ∷ bs) ≡ Some 2 = cond-true _ _ _ is in
    let two : Some 2 ≡ Some m = sym here ∙ e in
    let size : 2 ≡ m = cc in
    (0, omega arith, record { closed = is; first = λ k below. absurd (omega arith) })
closing_some_by b bs m false is later e =
    let there : closing_len (b ∷ bs) ≡ option_map suc (closing_len bs) = cond-false _ _ _ is in
    let one = mapped_some (closing_len bs) m (sym there ∙ e) in
    let found = later one.0 one.1 in
    (suc found.0, omega (arith, one.2, found.1), closes_next b bs found.0 is found.2)

closing_some : (rest : List ℕ) (m : ℕ) → closing_len rest ≡ Some m → (body : ℕ) × (m ≡ body + 2) × ClosesAt rest body
closing_some [] m e = absurd (cc)
closing_some (b ∷ bs) m e = closing_some_by b bs m (starts_with nat_eq (b ∷ bs) (codes "*/")) refl (closing_some bs) e

closing_from_by : (rest : List ℕ) (body : ℕ) → ClosesAt rest body → closing_len rest ≡ Some (body + 2)
closing_from_by [] zero c = absurd (both_ways false refl c.closed)
closing_from_by [] (suc body) c = absurd (both_ways false refl c.closed)
closing_from_by (b ∷ bs) zero c = cond-true _ _ _ c.closed
closing_from_by (b ∷ bs) (suc body) c =
    let before = closing_from_by bs body (record { closed = c.closed; first = λ k below. c.first (suc k) (omega arith) }) in
    let size : suc (body + 2) ≡ suc body + 2 = omega arith in
    cond-false _ _ _ (c.first 0 (omega arith)) ∙ ap (option_map suc) before ∙ ap (λ n. Some n) size

no_line_at_block : (rest : List ℕ) → starts_with nat_eq rest (codes "/*") ≡ true → starts_with nat_eq rest (codes "//") ≡ false
no_line_at_block rest e = subst (λ xs. starts_with nat_eq xs (codes "//") ≡ false) (sym (begins_two 47 42 rest e)) refl

good_piece : (rest : List ℕ) (n : ℕ) → 0 < n → n ≤ length rest → n ≤ 255 → is_bad_number (kind_of (take n rest)) (take n rest) (drop n rest) ≡ false →
    longest_piece n rest ≡ Ok (piece.Token (kind_of (take n rest)) n)
good_piece rest zero some within short good = absurd (omega arith)
good_piece rest (suc n) some within short good =
    let size = length-take-le (suc n) rest within in
    let fits : nat_lt 255 (length (take (suc n) rest)) ≡ false = false_from_ne_true _ (λ large. let l = ltb-true _ _ large in omega arith) in
    cond-false _ _ _ fits ∙ cond-false _ _ _ good ∙ ap (λ m. Ok (piece.Token (kind_of (take (suc n) rest)) m)) size

-- ---- gaps

pub gap_piece : (rest : List ℕ) (n : ℕ) → IsGap rest n → piece_of rest ≡ Ok (piece.Gap n)
gap_piece rest n g =
    ⊎_elim
    (λ (w : IsWhiteSpace rest n). at_white rest w.white ∙ ap (λ m. Ok (piece.Gap m)) (sym w.one))
    (λ (c : IsLineComment rest n ⊎ IsBlockComment rest n). ⊎_elim
    (λ (l : IsLineComment rest n). at_line rest (no_white_at 47 47 rest refl l.opened) l.opened ∙ ap (λ m. Ok (piece.Gap m)) (run_is stays_in_line rest n l.within l.one_line l.ended))
    (λ (k : IsBlockComment rest n).
    let closes : ClosesAt (drop 2 rest) k.body = record {
      closed = subst (λ xs. starts_with nat_eq xs (codes "*/") ≡ true) (sym (drop-drop k.body 2 rest)) k.closed;
      first = λ i below. subst (λ xs. starts_with nat_eq xs (codes "*/") ≡ false) (sym (drop-drop i 2 rest)) (k.first i below);
    } in
    let found = closing_from_by (drop 2 rest) k.body closes in
    let size : 2 + (k.body + 2) ≡ n = omega (arith, k.size) in
    at_block rest (no_white_at 47 42 rest refl k.opened) (no_line_at_block rest k.opened) k.opened ∙ ap block_piece found ∙ ap (λ m. Ok (piece.Gap m)) size)
    c)
    g

-- ---- spans

token_at_front : (rest : List ℕ) (n : ℕ) → IsLongestToken rest n → BeginsNoComment rest → piece_of rest ≡ longest_piece n rest
token_at_front rest n t c =
    let is : IsLongest rest n = record { within = t.within; token = λ some. t.token; none_longer = t.longest } in
    at_token rest (token_no_white rest n t.some t.token) c.no_line c.no_block ∙ ap (λ m. longest_piece m rest) (longest_is rest n is)

pub span_piece : (rest : List ℕ) (n : ℕ) → IsSpan rest n → piece_of rest ≡ Ok (piece.Token (kind_of (take n rest)) n)
span_piece rest n s =
    token_at_front rest n s.token s.no_comment ∙ good_piece rest n s.token.some s.token.within s.short s.good

-- ---- what piece_of answers is what stands there

abbrev pub Shape : List ℕ → Piece → Type 0
Shape rest (piece.Gap n) = IsGap rest n
Shape rest (piece.Token kind n) = IsSpan rest n × (kind ≡ kind_of (take n rest))

ok_same : {p q : Piece} → ◌≡◌ {A = Result Piece Fault} (Ok p) (Ok q) → p ≡ q
ok_same e = cc

block_shape : (rest : List ℕ) (o : Option ℕ) (p : Piece) → closing_len (drop 2 rest) ≡ o → starts_with nat_eq rest (codes "/*") ≡ true → block_piece o ≡ Ok p → Shape rest p
block_shape rest None p is opened e = absurd (cc)
block_shape rest (Some m) p is opened e =
    let found = closing_some (drop 2 rest) m is in
    let comment : IsBlockComment rest (2 + m) = record {
      opened = opened;
      body = found.0;
      size = omega (arith, found.1);
      closed = subst (λ xs. starts_with nat_eq xs (codes "*/") ≡ true) (drop-drop found.0 2 rest) found.2.closed;
      first = λ k below. subst (λ xs. starts_with nat_eq xs (codes "*/") ≡ false) (drop-drop k 2 rest) (found.2.first k below);
    } in
    subst (Shape rest) (ok_same e) (inr (inr comment))

token_shape_by : (rest : List ℕ) (n : ℕ) (p : Piece) (large bad : Bool) → IsLongest rest (suc n) →
    starts_with nat_eq rest (codes "//") ≡ false → starts_with nat_eq rest (codes "/*") ≡ false →
    nat_lt 255 (length (take (suc n) rest)) ≡ large → is_bad_number (kind_of (take (suc n) rest)) (take (suc n) rest) (drop (suc n) rest) ≡ bad →
    longest_piece (suc n) rest ≡ Ok p → Shape rest p
token_shape_by rest n p true bad is l k is_large is_bad e = let no_piece : ◌≡◌ {A = Result Piece Fault} (Err fault.TooLong) (Ok p) = sym (cond-true _ _ _ is_large) ∙ e in absurd (cc)
token_shape_by rest n p false true is l k is_large is_bad e =
    let no_piece : ◌≡◌ {A = Result Piece Fault} (Err fault.BadNumber) (Ok p) = sym (cond-true _ _ _ is_bad) ∙ sym (cond-false _ _ _ is_large) ∙ e in absurd (cc)
token_shape_by rest n p false false is l k is_large is_bad e =
    let size = length-take-le (suc n) rest is.within in
    let short = ltb-false _ _ is_large in
    let same : ◌≡◌ {A = Result Piece Fault} (Ok (piece.Token (kind_of (take (suc n) rest)) (suc n))) (Ok p) =
    ap (λ m. Ok (piece.Token (kind_of (take (suc n) rest)) m)) (sym size) ∙ sym (cond-false _ _ _ is_bad) ∙ sym (cond-false _ _ _ is_large) ∙ e in
    let span : IsSpan rest (suc n) = record {
      token = record { some = omega arith; within = is.within; token = is.token (omega arith); longest = is.none_longer };
      no_comment = record { no_line = l; no_block = k };
      short = omega arith;
      good = is_bad;
    } in
    subst (Shape rest) (ok_same same) (span, refl)

token_shape : (rest : List ℕ) (n : ℕ) (p : Piece) → IsLongest rest n → starts_with nat_eq rest (codes "//") ≡ false → starts_with nat_eq rest (codes "/*") ≡ false →
    longest_piece n rest ≡ Ok p → Shape rest p
token_shape rest zero p is l k e = absurd (cc)
token_shape rest (suc n) p is l k e = token_shape_by rest n p _ _ is l k refl refl e

shape_by : (rest : List ℕ) (p : Piece) (w l k : Bool) → begins is_white rest ≡ w → starts_with nat_eq rest (codes "//") ≡ l → starts_with nat_eq rest (codes "/*") ≡ k →
    piece_of rest ≡ Ok p → Shape rest p
shape_by rest p true l k is_w is_l is_k e =
    let white : IsWhiteSpace rest 1 = record { one = refl; white = is_w } in
    subst (Shape rest) (ok_same (sym (at_white rest is_w) ∙ e)) (inl white)
shape_by rest p false true k is_w is_l is_k e =
    let comment : IsLineComment rest (line_len rest) = record {
      opened = is_l;
      within = prefix_len-le-length stays_in_line rest;
      one_line = run_all stays_in_line rest;
      ended = run_ends stays_in_line rest;
    } in
    subst (Shape rest) (ok_same (sym (at_line rest is_w is_l) ∙ e)) (inr (inl comment))
shape_by rest p false false true is_w is_l is_k e = block_shape rest (closing_len (drop 2 rest)) p refl is_k (sym (at_block rest is_w is_l is_k) ∙ e)
shape_by rest p false false false is_w is_l is_k e = token_shape rest (longest rest) p (longest_is_longest rest) is_l is_k (sym (at_token rest is_w is_l is_k) ∙ e)

pub piece_shape : (rest : List ℕ) (p : Piece) → piece_of rest ≡ Ok p → Shape rest p
piece_shape rest p e = shape_by rest p (begins is_white rest) (starts_with nat_eq rest (codes "//")) (starts_with nat_eq rest (codes "/*")) refl refl refl e

line_moves : (rest : List ℕ) (n : ℕ) → IsLineComment rest n → 1 ≤ n
line_moves rest zero c =
    let opened = begins_two 47 47 rest c.opened in
    absurd (both_ways (begins stays_in_line rest) c.ended (subst (λ xs. begins stays_in_line xs ≡ true) (sym opened) refl))
line_moves rest (suc n) c = omega arith

-- a piece has a byte at least
pub shape_moves : (rest : List ℕ) (p : Piece) → Shape rest p → 1 ≤ piece_len p
shape_moves rest (piece.Gap n) g =
    ⊎_elim
    (λ (w : IsWhiteSpace rest n). let one = w.one in omega arith)
    (λ (c : IsLineComment rest n ⊎ IsBlockComment rest n). ⊎_elim
    (λ (l : IsLineComment rest n). line_moves rest n l)
    (λ (k : IsBlockComment rest n). omega (arith, k.size))
    c)
    g
shape_moves rest (piece.Token kind n) s = s.0.token.some

-- ---- faults

err_same : {f g : Fault} → ◌≡◌ {A = Result Piece Fault} (Err f) (Err g) → f ≡ g
err_same e = cc

mapped_none : (o : Option ℕ) → option_map suc o ≡ None → o ≡ None
mapped_none None e = refl
mapped_none (Some k) e = absurd (cc)

closing_none_by : (b : ℕ) (bs : List ℕ) (t : Bool) → starts_with nat_eq (b ∷ bs) (codes "*/") ≡ t → closing_len (b ∷ bs) ≡ None → (starts_with nat_eq (b ∷ bs) (codes "*/") ≡ false) × (closing_len bs ≡ None)
closing_none_by b bs true is e = let two : ◌≡◌ {A = Option ℕ} (Some 2) None = sym (cond-true _ _ _ is) ∙ e in absurd (cc)
closing_none_by b bs false is e = (is, mapped_none (closing_len bs) (sym (cond-false _ _ _ is) ∙ e))

closing_none : (rest : List ℕ) (k : ℕ) → closing_len rest ≡ None → starts_with nat_eq (drop k rest) (codes "*/") ≡ false
closing_none [] zero e = refl
closing_none [] (suc k) e = refl
closing_none (b ∷ bs) zero e = (closing_none_by b bs _ refl e).0
closing_none (b ∷ bs) (suc k) e = closing_none bs k (closing_none_by b bs _ refl e).1

none_closing : (rest : List ℕ) → ((k : ℕ) → starts_with nat_eq (drop k rest) (codes "*/") ≡ false) → closing_len rest ≡ None
none_closing [] never = refl
none_closing (b ∷ bs) never = cond-false _ _ _ (never 0) ∙ ap (option_map suc) (none_closing bs (λ k. never (suc k)))

long_piece : (rest : List ℕ) (n : ℕ) → 0 < n → n ≤ length rest → 255 < n → longest_piece n rest ≡ Err fault.TooLong
long_piece rest zero some within long = absurd (omega arith)
long_piece rest (suc n) some within long =
    let size = length-take-le (suc n) rest within in
    cond-true _ _ _ (lt-ltb 255 (length (take (suc n) rest)) (omega arith))

bad_piece : (rest : List ℕ) (n : ℕ) → 0 < n → n ≤ length rest → n ≤ 255 → is_bad_number (kind_of (take n rest)) (take n rest) (drop n rest) ≡ true → longest_piece n rest ≡ Err fault.BadNumber
bad_piece rest zero some within short bad = absurd (omega arith)
bad_piece rest (suc n) some within short bad =
    let size = length-take-le (suc n) rest within in
    let fits : nat_lt 255 (length (take (suc n) rest)) ≡ false = false_from_ne_true _ (λ large. let l = ltb-true _ _ large in omega arith) in
    cond-false _ _ _ fits ∙ cond-true _ _ _ bad

pub fault_piece : (rest : List ℕ) (f : Fault) → IsFaultAt rest f → piece_of rest ≡ Err f
fault_piece rest fault.TooLong t = token_at_front rest t.size t.token t.no_comment ∙ long_piece rest t.size t.token.some t.token.within t.long
fault_piece rest fault.BadByte b =
    let is : IsLongest rest 0 = record { within = omega arith; token = λ some. absurd (omega arith); none_longer = b.no_token } in
    at_token rest b.no_white b.no_comment.no_line b.no_comment.no_block ∙ ap (λ m. longest_piece m rest) (longest_is rest 0 is)
fault_piece rest fault.BadNumber t = token_at_front rest t.size t.token t.no_comment ∙ bad_piece rest t.size t.token.some t.token.within t.short t.bad
fault_piece rest fault.OpenComment k =
    at_block rest (no_white_at 47 42 rest refl k.opened) (no_line_at_block rest k.opened) k.opened
    ∙ ap block_piece (none_closing (drop 2 rest) (λ i. subst (λ xs. starts_with nat_eq xs (codes "*/") ≡ false) (sym (drop-drop i 2 rest)) (k.unclosed i)))

block_fault : (rest : List ℕ) (o : Option ℕ) (f : Fault) → closing_len (drop 2 rest) ≡ o → starts_with nat_eq rest (codes "/*") ≡ true → block_piece o ≡ Err f → IsFaultAt rest f
block_fault rest None f is opened e =
    let comment : IsOpenComment rest = record {
      opened = opened;
      unclosed = λ k. subst (λ xs. starts_with nat_eq xs (codes "*/") ≡ false) (drop-drop k 2 rest) (closing_none (drop 2 rest) k is);
    } in
    subst (IsFaultAt rest) (err_same e) comment
block_fault rest (Some m) f is opened e = absurd (cc)

token_fault_by : (rest : List ℕ) (n : ℕ) (f : Fault) (large bad : Bool) → IsLongest rest (suc n) → BeginsNoComment rest →
    nat_lt 255 (length (take (suc n) rest)) ≡ large → is_bad_number (kind_of (take (suc n) rest)) (take (suc n) rest) (drop (suc n) rest) ≡ bad →
    longest_piece (suc n) rest ≡ Err f → IsFaultAt rest f
token_fault_by rest n f true bad is c is_large is_bad e =
    let size = length-take-le (suc n) rest is.within in
    let long = ltb-true _ _ is_large in
    let fault_is : IsLongToken rest = record {
      size = suc n;
      token = record { some = omega arith; within = is.within; token = is.token (omega arith); longest = is.none_longer };
      no_comment = c;
      long = omega arith;
    } in
    subst (IsFaultAt rest) (err_same (sym (cond-true _ _ _ is_large) ∙ e)) fault_is
token_fault_by rest n f false true is c is_large is_bad e =
    let size = length-take-le (suc n) rest is.within in
    let short = ltb-false _ _ is_large in
    let fault_is : IsBadNumberToken rest = record {
      size = suc n;
      token = record { some = omega arith; within = is.within; token = is.token (omega arith); longest = is.none_longer };
      no_comment = c;
      short = omega arith;
      bad = is_bad;
    } in
    subst (IsFaultAt rest) (err_same (sym (cond-true _ _ _ is_bad) ∙ sym (cond-false _ _ _ is_large) ∙ e)) fault_is
token_fault_by rest n f false false is c is_large is_bad e =
    let no_fault : ◌≡◌ {A = Result Piece Fault} (Ok (piece.Token (kind_of (take (suc n) rest)) (length (take (suc n) rest)))) (Err f) =
    sym (cond-false _ _ _ is_bad) ∙ sym (cond-false _ _ _ is_large) ∙ e in
    absurd (cc)

token_fault : (rest : List ℕ) (n : ℕ) (f : Fault) → IsLongest rest n → 0 < length rest → begins is_white rest ≡ false → BeginsNoComment rest → longest_piece n rest ≡ Err f → IsFaultAt rest f
token_fault rest zero f is some w c e =
    let bad : IsBadByte rest = record { some = some; no_white = w; no_comment = c; no_token = is.none_longer } in
    subst (IsFaultAt rest) (err_same e) bad
token_fault rest (suc n) f is some w c e = token_fault_by rest n f _ _ is c refl refl e

fault_by : (rest : List ℕ) (f : Fault) (w l k : Bool) → begins is_white rest ≡ w → starts_with nat_eq rest (codes "//") ≡ l → starts_with nat_eq rest (codes "/*") ≡ k →
    0 < length rest → piece_of rest ≡ Err f → IsFaultAt rest f
fault_by rest f true l k is_w is_l is_k some e = let no_fault : ◌≡◌ {A = Result Piece Fault} (Ok (piece.Gap 1)) (Err f) = sym (at_white rest is_w) ∙ e in absurd (cc)
fault_by rest f false true k is_w is_l is_k some e = let no_fault : ◌≡◌ {A = Result Piece Fault} (Ok (piece.Gap (line_len rest))) (Err f) = sym (at_line rest is_w is_l) ∙ e in absurd (cc)
fault_by rest f false false true is_w is_l is_k some e = block_fault rest (closing_len (drop 2 rest)) f refl is_k (sym (at_block rest is_w is_l is_k) ∙ e)
fault_by rest f false false false is_w is_l is_k some e =
    token_fault rest (longest rest) f (longest_is_longest rest) some is_w (record { no_line = is_l; no_block = is_k }) (sym (at_token rest is_w is_l is_k) ∙ e)

pub fault_shape : (rest : List ℕ) (f : Fault) → 0 < length rest → piece_of rest ≡ Err f → IsFaultAt rest f
fault_shape rest f some e = fault_by rest f (begins is_white rest) (starts_with nat_eq rest (codes "//")) (starts_with nat_eq rest (codes "/*")) refl refl refl some e

-- a fault stands at a byte
pub fault_some : (rest : List ℕ) (f : Fault) → IsFaultAt rest f → 0 < length rest
fault_some rest fault.TooLong t = omega (arith, t.token.some, t.token.within)
fault_some rest fault.BadByte b = b.some
fault_some rest fault.BadNumber t = omega (arith, t.token.some, t.token.within)
fault_some rest fault.OpenComment k = let two = ap length (begins_two 47 42 rest k.opened) in omega arith

-- ---- a gap lies in the rest

begins_within : (p : ℕ → Bool) (rest : List ℕ) → begins p rest ≡ true → 1 ≤ length rest
begins_within p [] e = absurd (both_ways false refl e)
begins_within p (b ∷ bs) e = omega arith

pub gap_within : (rest : List ℕ) (n : ℕ) → IsGap rest n → n ≤ length rest
gap_within rest n g =
    ⊎_elim
    (λ (w : IsWhiteSpace rest n). omega (arith, w.one, begins_within is_white rest w.white))
    (λ (c : IsLineComment rest n ⊎ IsBlockComment rest n). ⊎_elim
    (λ (l : IsLineComment rest n). l.within)
    (λ (k : IsBlockComment rest n). let two = ap length (begins_two 42 47 (drop (2 + k.body) rest) k.closed) in omega (arith, two, k.size, length-drop (2 + k.body) rest))
    c)
    g

-- a byte order mark lies in the section
pub mark_within : (text : List ℕ) → mark_len text ≤ length text
mark_within text =
    ⊎_elim
    (λ (yes : starts_with nat_eq text (0xEF ∷ 0xBB ∷ 0xBF ∷ []) ≡ true).
    let size = ap length ((starts_is Decides-eqb text (0xEF ∷ 0xBB ∷ 0xBF ∷ []) _ refl).0 yes) in
    let three : mark_len text ≡ 3 = cond-true _ _ _ yes in omega arith)
    (λ (other : starts_with nat_eq text (0xEF ∷ 0xBB ∷ 0xBF ∷ []) ≡ false). let none : mark_len text ≡ 0 = cond-false _ _ _ other in omega arith)
    (cases_Bool (starts_with nat_eq text (0xEF ∷ 0xBB ∷ 0xBF ∷ [])))
