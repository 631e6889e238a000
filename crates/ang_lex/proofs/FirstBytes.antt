-- The first byte of a token says what it is.
use Rattle.std.proofs.Common.{◌≡◌, ℕ, ◌≤◌, Bool, true, false, not, cond, ◌&&◌, ◌||◌, List, [], ◌∷◌, length, refl, sym, subst, arith, ⊎_elim, nat_eq, nat_lt, Some, None, Option}
use Rattle.std.specs.Prelude.{◌⊎◌, is_some}
use Rattle.std.proofs.Common.{inl, inr}
use Rattle.std.specs.List.{list_all, list_any}
use Rattle.std.specs.Str.{bytes_eq}
use Rattle.std.proofs.lemmas.Bool.{false_from_ne_true, and_parts, and_left, or_cases, eqb-true, ltb-true, both_ways, not_from_true, and_right}
use Rattle.std.proofs.lemmas.Bool.Decides.{nat_tests}
use Rattle.std.proofs.lemmas.Slice.Eq.{bytes_eq-Decides}
use Rattle.std.proofs.lemmas.Str.Parse.{digit_from_value}
use Rattle.ang_lex.specs.Bytes.{is_name_start, is_name_byte, is_digit_in, begins}
use Rattle.ang_lex.specs.Numbers.{are_digits, prefixed_numeral, is_number}
use Rattle.ang_lex.specs.Words.{Entry, signs, is_listed, not_is}
use Rattle.ang_lex.specs.Spelling.{is_name, is_text, is_token}

-- neither a name, nor a number, nor a text begins with the byte
abbrev pub is_sign_start : ℕ → Bool
is_sign_start b = not (is_name_start b) && not (is_digit_in 10 b) && not (nat_eq b 34)

-- ---- the four classes of first bytes are apart

pub digit_range : (b : ℕ) → is_digit_in 10 b ≡ true → (48 ≤ b) × (b ≤ 57)
digit_range b e = let r = digit_from_value b (ltb-true _ _ e) in (omega arith, omega arith)

pub name_start_range : (b : ℕ) → is_name_start b ≡ true → 65 ≤ b
name_start_range b e = grind (arith, nat_tests)

name_start_no_digit : (b : ℕ) → is_name_start b ≡ true → is_digit_in 10 b ≡ true → ⊥
name_start_no_digit b name digit = let r = digit_range b digit in let s = name_start_range b name in omega arith

-- ---- what a spelling begins with

-- a number has decimal digits alone, or a prefix
abbrev pub is_prefixed : List ℕ → Bool
is_prefixed text = is_some (prefixed_numeral text)

some_cases : {A : Type 0} (t : Bool) (x : A) (o : Option A) → is_some (cond t (Some x) o) ≡ true → (t ≡ true) ⊎ (is_some o ≡ true)
some_cases true x o e = inl refl
some_cases false x o e = inr e

some_guard : {A : Type 0} (t : Bool) (o : Option A) → is_some (cond t o None) ≡ true → (t ≡ true) × (is_some o ≡ true)
some_guard true o e = (refl, e)
some_guard false o e = absurd (both_ways false refl e)

pub number_cases : (text : List ℕ) → is_number text ≡ true → (are_digits 10 text ≡ true) ⊎ (is_prefixed text ≡ true)
number_cases text = some_cases (are_digits 10 text) (10, text) (prefixed_numeral text)

prefixed_start : (b : ℕ) (w : List ℕ) → is_prefixed (b ∷ w) ≡ true → is_digit_in 10 b ≡ true
prefixed_start b [] e = absurd (both_ways false refl e)
prefixed_start b (l ∷ ds) e =
    let zero_first : b ≡ 48 = eqb-true b 48 (some_guard (nat_eq b 48) _ e).0 in
    subst (λ x. is_digit_in 10 x ≡ true) (sym zero_first) refl

number_start : (b : ℕ) (w : List ℕ) → is_number (b ∷ w) ≡ true → is_digit_in 10 b ≡ true
number_start b w e =
    ⊎_elim
    (λ digits. (and_parts (is_digit_in 10 b) (list_all (is_digit_in 10) w) (and_parts (nat_lt 0 (length (b ∷ w))) (list_all (is_digit_in 10) (b ∷ w)) digits).1).0)
    (λ prefixed. prefixed_start b w prefixed)
    (number_cases (b ∷ w) e)

listed_start : (entries : List Entry) (b : ℕ) (w : List ℕ) → list_all (λ e. begins is_sign_start e.0) entries ≡ true → is_listed entries (b ∷ w) ≡ true → is_sign_start b ≡ true
unfolding is_listed
listed_start [] b w all e = absurd (both_ways false refl e)
listed_start (e ∷ es) b w all is =
    let parts = and_parts (begins is_sign_start e.0) (list_all (λ s. begins is_sign_start s.0) es) all in
    ⊎_elim
    (λ here. let same : e.0 ≡ b ∷ w = (bytes_eq-Decides e.0 (b ∷ w)).0 here in subst (λ xs. begins is_sign_start xs ≡ true) same parts.0)
    (λ later. listed_start es b w parts.1 later)
    (or_cases (bytes_eq e.0 (b ∷ w)) (list_any (λ s. bytes_eq s.0 (b ∷ w)) es) is)

signs_start : list_all (λ e. begins is_sign_start e.0) signs ≡ true
unfolding signs
signs_start = refl

not_is_start : (b : ℕ) (w : List ℕ) → bytes_eq not_is (b ∷ w) ≡ true → is_sign_start b ≡ true
not_is_start b w e = let same : not_is ≡ b ∷ w = (bytes_eq-Decides not_is (b ∷ w)).0 e in subst (λ xs. begins is_sign_start xs ≡ true) same refl

-- ---- so a token is of the one kind that its first byte begins

only_first : (n d t s x : Bool) → d ≡ false → t ≡ false → s ≡ false → x ≡ false → (n || d || t || s || x) ≡ n
only_first true d t s x hd ht hs hx = refl
only_first false d t s x hd ht hs hx = rw (hd, ht, hs, hx) refl

only_second : (n d t s x : Bool) → n ≡ false → t ≡ false → s ≡ false → x ≡ false → (n || d || t || s || x) ≡ d
only_second n true t s x hn ht hs hx = rw hn refl
only_second n false t s x hn ht hs hx = rw (hn, ht, hs, hx) refl

only_third : (n d t s x : Bool) → n ≡ false → d ≡ false → s ≡ false → x ≡ false → (n || d || t || s || x) ≡ t
only_third n d true s x hn hd hs hx = rw (hn, hd) refl
only_third n d false s x hn hd hs hx = rw (hn, hd, hs, hx) refl

only_last : (n d t s x : Bool) → n ≡ false → d ≡ false → t ≡ false → (n || d || t || s || x) ≡ (s || x)
only_last n d t s x hn hd ht = rw (hn, hd, ht) refl

name_no_sign : (b : ℕ) → is_name_start b ≡ true → is_sign_start b ≡ false
name_no_sign b e = and_left _ _ (and_left _ _ (not_from_true _ e))

digit_no_sign : (b : ℕ) → is_digit_in 10 b ≡ true → is_sign_start b ≡ false
digit_no_sign b e = and_left _ _ (and_right _ _ (not_from_true _ e))

quote_no_sign : (b : ℕ) → nat_eq b 34 ≡ true → is_sign_start b ≡ false
quote_no_sign b e = and_right _ _ (not_from_true _ e)

name_no_quote : (b : ℕ) → is_name_start b ≡ true → nat_eq b 34 ≡ false
name_no_quote b e = false_from_ne_true _ (λ q. let r = name_start_range b e in let s = eqb-true b 34 q in omega arith)

digit_no_quote : (b : ℕ) → is_digit_in 10 b ≡ true → nat_eq b 34 ≡ false
digit_no_quote b e = false_from_ne_true _ (λ q. let r = digit_range b e in let s = eqb-true b 34 q in omega arith)

module _ (b : ℕ) (w after : List ℕ) where
  pub no_name : is_name_start b ≡ false → is_name (b ∷ w) ≡ false
  no_name e = and_left _ _ e

  pub no_number : is_digit_in 10 b ≡ false → is_number (b ∷ w) ≡ false
  no_number e = false_from_ne_true _ (λ is. both_ways _ e (number_start b w is))

  pub no_text : nat_eq b 34 ≡ false → is_text (b ∷ w) ≡ false
  no_text e = and_left _ _ e

  no_listed : is_sign_start b ≡ false → is_listed signs (b ∷ w) ≡ false
  no_listed e = false_from_ne_true _ (λ is. both_ways _ e (listed_start signs b w signs_start is))

  no_not_is : (more : Bool) → is_sign_start b ≡ false → (bytes_eq not_is (b ∷ w) && more) ≡ false
  no_not_is more e = and_left _ _ (false_from_ne_true _ (λ is. both_ways _ e (not_is_start b w is)))

  pub token_by_name_start : is_name_start b ≡ true → is_token (b ∷ w) after ≡ is_name (b ∷ w)
  unfolding is_token
  token_by_name_start e =
      only_first _ _ _ _ _ (no_number (false_from_ne_true _ (name_start_no_digit b e))) (no_text (name_no_quote b e)) (no_listed (name_no_sign b e)) (no_not_is _ (name_no_sign b e))

  pub token_by_digit : is_digit_in 10 b ≡ true → is_token (b ∷ w) after ≡ is_number (b ∷ w)
  unfolding is_token
  token_by_digit e =
      only_second _ _ _ _ _ (no_name (false_from_ne_true _ (λ n. name_start_no_digit b n e))) (no_text (digit_no_quote b e)) (no_listed (digit_no_sign b e)) (no_not_is _ (digit_no_sign b e))

  pub token_by_quote : nat_eq b 34 ≡ true → is_token (b ∷ w) after ≡ is_text (b ∷ w)
  unfolding is_token
  token_by_quote e =
      only_third _ _ _ _ _
      (no_name (false_from_ne_true _ (λ n. both_ways _ (name_no_quote b n) e)))
      (no_number (false_from_ne_true _ (λ d. both_ways _ (digit_no_quote b d) e)))
      (no_listed (quote_no_sign b e)) (no_not_is _ (quote_no_sign b e))

  pub token_by_other : is_name_start b ≡ false → is_digit_in 10 b ≡ false → nat_eq b 34 ≡ false →
      is_token (b ∷ w) after ≡ (is_listed signs (b ∷ w) || (bytes_eq not_is (b ∷ w) && not (begins is_name_byte after)))
  unfolding is_token
  token_by_other n d q = only_last _ _ _ _ _ (no_name n) (no_number d) (no_text q)
