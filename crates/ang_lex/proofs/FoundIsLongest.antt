-- The token that the lexer finds is the longest, and its kind is the kind of its bytes.
use Rattle.std.proofs.Common.{◌≡◌, ℕ, zero, suc, ◌<◌, ◌≤◌, Bool, true, false, not, ◌&&◌, ◌||◌, List, [], ◌∷◌, length, take, drop, refl, ap, sym, ◌∙◌, subst, arith, ⊎_elim, nat_eq}
use Rattle.std.specs.List.{starts_with}
use Rattle.std.specs.Str.{bytes_eq}
use Rattle.std.proofs.lemmas.Bool.{cond-true, cond-false, cases_Bool, and_parts, and_left, or_from, or_left, or_right, both_ways, false_from_ne_true}
use Rattle.std.proofs.lemmas.Slice.Eq.{bytes_eq-Decides}
use Rattle.std.proofs.lemmas.List.{length-take-le}
use Rattle.ang_lex.specs.declared.token.TokenKind.TheVariants as k
use Rattle.ang_lex.specs.Bytes.{is_name_start, is_name_byte, is_digit_in, begins}
use Rattle.ang_lex.specs.Numbers.{is_number}
use Rattle.ang_lex.specs.Words.{reserved_words, signs, not_is, is_listed, lookup}
use Rattle.ang_lex.specs.Fronts.{Front, name_len, number_len, text_len, begins_not_is, front_name, front_sign, front_token}
use Rattle.ang_lex.specs.Spelling.{is_name, is_text, is_token_of, longest, kind_of}
use Rattle.ang_lex.proofs.FirstBytes.{no_name, no_number, no_text, token_by_other}
use Rattle.ang_lex.proofs.Longest.{IsLongest, longest_is}
use Rattle.ang_lex.proofs.NameLen.{name_is, name_is_longest}
use Rattle.ang_lex.proofs.NumberLen.{number_is, number_is_longest}
use Rattle.ang_lex.proofs.TextLen.{text_is, text_is_longest}
use Rattle.ang_lex.proofs.SignLen.{found_in, found_listed, found_kind, no_longer_sign, no_sign_at_not_is}

-- the longest token, and its kind
pub record IsFound (rest : List ℕ) (f : Front) : Type 0 where
  pub longest : IsLongest rest f.1
  pub kind : 0 < f.1 → f.0 ≡ kind_of (take f.1 rest)

-- ---- kinds

kind_of_name : (text : List ℕ) → is_name text ≡ true → kind_of text ≡ lookup reserved_words text k.Name
unfolding kind_of
kind_of_name text e = rw e refl

kind_of_number : (text : List ℕ) → is_name text ≡ false → is_number text ≡ true → kind_of text ≡ k.Number
unfolding kind_of
kind_of_number text n e = rw (n, e) refl

kind_of_text : (text : List ℕ) → is_name text ≡ false → is_number text ≡ false → is_text text ≡ true → kind_of text ≡ k.Text
unfolding kind_of
kind_of_text text n d e = rw (n, d, e) refl

kind_of_sign : (text : List ℕ) → is_name text ≡ false → is_number text ≡ false → is_text text ≡ false → kind_of text ≡ lookup signs text k.NotIs
unfolding kind_of
kind_of_sign text n d e = rw (n, d, e) refl

-- ---- the four kinds of first byte

-- a fact of some first bytes of a rest is one of a front that begins with its first byte
front_by : (P : List ℕ → Type 0) (b : ℕ) (bs : List ℕ) (n : ℕ) → 0 < n → ((w : List ℕ) → P (b ∷ w)) → P (take n (b ∷ bs))
front_by P b bs zero some each = absurd (omega arith)
front_by P b bs (suc n) some each = each (take n bs)

name_is_found : (b : ℕ) (bs : List ℕ) → is_name_start b ≡ true → IsFound (b ∷ bs) (front_name (b ∷ bs))
unfolding front_name
name_is_found b bs start = record {
  longest = name_is_longest b bs start;
  kind = λ some. sym (kind_of_name (take (name_len (b ∷ bs)) (b ∷ bs)) (name_is b bs start));
}

number_is_found : (b : ℕ) (bs : List ℕ) → is_name_start b ≡ false → is_digit_in 10 b ≡ true → IsFound (b ∷ bs) (k.Number, number_len (b ∷ bs))
number_is_found b bs name start = record {
  longest = number_is_longest b bs start;
  kind = λ some. sym (kind_of_number (take (number_len (b ∷ bs)) (b ∷ bs))
      (front_by (λ w. is_name w ≡ false) b bs (number_len (b ∷ bs)) some (λ w. no_name b w [] name))
      (number_is b bs start));
}

text_is_found : (b : ℕ) (bs : List ℕ) → is_name_start b ≡ false → is_digit_in 10 b ≡ false → nat_eq b 34 ≡ true → IsFound (b ∷ bs) (k.Text, text_len (b ∷ bs))
text_is_found b bs name digit start = record {
  longest = text_is_longest b bs start;
  kind = λ some. sym (kind_of_text (take (text_len (b ∷ bs)) (b ∷ bs))
      (front_by (λ w. is_name w ≡ false) b bs (text_len (b ∷ bs)) some (λ w. no_name b w [] name))
      (front_by (λ w. is_number w ≡ false) b bs (text_len (b ∷ bs)) some (λ w. no_number b w [] digit))
      (text_is b bs start some));
}

not_is_kind : lookup signs not_is k.NotIs ≡ k.NotIs
unfolding lookup signs
not_is_kind = refl

-- no name, number or text begins with the byte
module _ (b : ℕ) (bs : List ℕ) (name : is_name_start b ≡ false) (digit : is_digit_in 10 b ≡ false) (quote : nat_eq b 34 ≡ false) where
  sign_of : (n : ℕ) → 0 < n → is_token_of n (b ∷ bs) ≡ (is_listed signs (take n (b ∷ bs)) || (bytes_eq not_is (take n (b ∷ bs)) && not (begins is_name_byte (drop n (b ∷ bs)))))
  sign_of zero some = absurd (omega arith)
  sign_of (suc n) some = token_by_other b (take n bs) (drop n bs) name digit quote

  sign_kind : (n : ℕ) → 0 < n → kind_of (take n (b ∷ bs)) ≡ lookup signs (take n (b ∷ bs)) k.NotIs
  sign_kind n some = kind_of_sign (take n (b ∷ bs))
      (front_by (λ w. is_name w ≡ false) b bs n some (λ w. no_name b w [] name))
      (front_by (λ w. is_number w ≡ false) b bs n some (λ w. no_number b w [] digit))
      (front_by (λ w. is_text w ≡ false) b bs n some (λ w. no_text b w [] quote))

  not_is_of_three : (n : ℕ) → n ≤ length (b ∷ bs) → bytes_eq not_is (take n (b ∷ bs)) ≡ true → n ≡ 3
  not_is_of_three n within e = sym (length-take-le n (b ∷ bs) within) ∙ sym (ap length ((bytes_eq-Decides not_is (take n (b ∷ bs))).0 e))

  no_not_is_at : (m : ℕ) → m ≤ length (b ∷ bs) → begins_not_is (b ∷ bs) ≡ false → (bytes_eq not_is (take m (b ∷ bs)) && not (begins is_name_byte (drop m (b ∷ bs)))) ≡ false
  no_not_is_at m most other = false_from_ne_true _ (λ both.
      let parts = and_parts (bytes_eq not_is (take m (b ∷ bs))) (not (begins is_name_byte (drop m (b ∷ bs)))) both in
      let three = not_is_of_three m most parts.0 in
      both_ways _ other (subst (λ n. (bytes_eq not_is (take n (b ∷ bs)) && not (begins is_name_byte (drop n (b ∷ bs)))) ≡ true) three both))

  -- `!is` stands there, and no name goes on
  not_is_found : begins_not_is (b ∷ bs) ≡ true → 3 ≤ length (b ∷ bs) → IsFound (b ∷ bs) (k.NotIs, 3)
  not_is_found begun within =
      let parts = and_parts (starts_with nat_eq (b ∷ bs) not_is) (not (begins is_name_byte (drop 3 (b ∷ bs)))) begun in
      let same : not_is ≡ take 3 (b ∷ bs) = (bytes_eq-Decides not_is (take 3 (b ∷ bs))).0 parts.0 in
      record {
        longest = record {
          within = within;
          token = λ some. sign_of 3 some ∙ or_right _ _ begun;
          none_longer = λ m more most. sign_of m (omega arith) ∙ or_from _ _
              (no_sign_at_not_is (b ∷ bs) m (omega arith) parts.0)
              (and_left _ _ (false_from_ne_true _ (λ is. let three = not_is_of_three m most is in omega arith)));
        };
        kind = λ some. sym (sign_kind 3 some ∙ ap (λ w. lookup signs w k.NotIs) (sym same) ∙ not_is_kind);
      }

  -- the first sign of the list
  listed_is_found : begins_not_is (b ∷ bs) ≡ false → (found_in signs (b ∷ bs)).1 ≤ length (b ∷ bs) → IsFound (b ∷ bs) (found_in signs (b ∷ bs))
  listed_is_found other within = record {
    longest = record {
      within = within;
      token = λ some. sign_of (found_in signs (b ∷ bs)).1 some ∙ or_left _ _ (found_listed signs (b ∷ bs) some);
      none_longer = λ m more most. sign_of m (omega arith) ∙ or_from _ _
          (no_longer_sign (b ∷ bs) m more most)
          (no_not_is_at m most other);
    };
    kind = λ some. sym (sign_kind (found_in signs (b ∷ bs)).1 some ∙ found_kind signs (b ∷ bs) k.NotIs some within);
  }

  sign_is_found : (front_sign (b ∷ bs)).1 ≤ length (b ∷ bs) → IsFound (b ∷ bs) (front_sign (b ∷ bs))
  unfolding front_sign
  sign_is_found within =
      ⊎_elim
      (λ yes. rw yes (not_is_found yes (rw yes at within)))
      (λ no. rw no (listed_is_found no (rw no at within)))
      (cases_Bool (begins_not_is (b ∷ bs)))

nothing_is_found : IsFound [] (k.Name, 0)
nothing_is_found = record {
  longest = record { within = omega arith; token = λ some. absurd (omega arith); none_longer = λ m more most. absurd (omega arith) };
  kind = λ some. absurd (omega arith);
}

-- what is found, by the first byte
module _ (b : ℕ) (bs : List ℕ) where
  front_token-name : is_name_start b ≡ true → front_token (b ∷ bs) ≡ front_name (b ∷ bs)
  unfolding front_token
  front_token-name name = cond-true _ _ _ name

  front_token-digit : is_name_start b ≡ false → is_digit_in 10 b ≡ true → front_token (b ∷ bs) ≡ (k.Number, number_len (b ∷ bs))
  unfolding front_token
  front_token-digit name digit = cond-false _ _ _ name ∙ cond-true _ _ _ digit

  front_token-quote : is_name_start b ≡ false → is_digit_in 10 b ≡ false → nat_eq b 34 ≡ true → front_token (b ∷ bs) ≡ (k.Text, text_len (b ∷ bs))
  unfolding front_token
  front_token-quote name digit quote = cond-false _ _ _ name ∙ cond-false _ _ _ digit ∙ cond-true _ _ _ quote

  front_token-other : is_name_start b ≡ false → is_digit_in 10 b ≡ false → nat_eq b 34 ≡ false → front_token (b ∷ bs) ≡ front_sign (b ∷ bs)
  unfolding front_token
  front_token-other name digit quote = cond-false _ _ _ name ∙ cond-false _ _ _ digit ∙ cond-false _ _ _ quote

found_by : (b : ℕ) (bs : List ℕ) (n d q : Bool) → is_name_start b ≡ n → is_digit_in 10 b ≡ d → nat_eq b 34 ≡ q → (front_token (b ∷ bs)).1 ≤ length (b ∷ bs) → IsFound (b ∷ bs) (front_token (b ∷ bs))
found_by b bs true d q name digit quote within = subst (IsFound (b ∷ bs)) (sym (front_token-name b bs name)) (name_is_found b bs name)
found_by b bs false true q name digit quote within = subst (IsFound (b ∷ bs)) (sym (front_token-digit b bs name digit)) (number_is_found b bs name digit)
found_by b bs false false true name digit quote within = subst (IsFound (b ∷ bs)) (sym (front_token-quote b bs name digit quote)) (text_is_found b bs name digit quote)
found_by b bs false false false name digit quote within =
    let is = front_token-other b bs name digit quote in
    subst (IsFound (b ∷ bs)) (sym is) (sign_is_found b bs name digit quote (subst (λ f. f.1 ≤ length (b ∷ bs)) is within))

found_is : (rest : List ℕ) → (front_token rest).1 ≤ length rest → IsFound rest (front_token rest)
unfolding front_token
found_is [] within = nothing_is_found
found_is (b ∷ bs) within = found_by b bs (is_name_start b) (is_digit_in 10 b) (nat_eq b 34) refl refl refl within

pub front_token-longest : (rest : List ℕ) → (front_token rest).1 ≤ length rest → (front_token rest).1 ≡ longest rest
front_token-longest rest within = sym (longest_is rest (front_token rest).1 (found_is rest within).longest)

pub front_token-kind : (rest : List ℕ) → (front_token rest).1 ≤ length rest → 0 < (front_token rest).1 → (front_token rest).0 ≡ kind_of (take (front_token rest).1 rest)
front_token-kind rest within = (found_is rest within).kind
