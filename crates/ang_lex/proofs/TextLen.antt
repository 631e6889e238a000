-- A text goes to the first byte that it can't have, where that is its quote.
use Rattle.std.proofs.Common.{◌≡◌, ℕ, zero, suc, ◌+◌, ◌<◌, ◌≤◌, Bool, true, false, ◌&&◌, List, [], ◌∷◌, length, take, drop, refl, ap, ◌∙◌, arith, ⊎_elim, nat_eq}
use Rattle.std.specs.List.{prefix_len}
use Rattle.std.proofs.lemmas.Bool.{and_parts, both_ways, cases_Bool, eqb-true, false_from_ne_true}
use Rattle.std.proofs.lemmas.List.{drop_all}
use Rattle.std.proofs.str.Laws.{order}
use Rattle.ang_lex.specs.Bytes.{is_text_byte, begins}
use Rattle.ang_lex.specs.Fronts.{text_len}
use Rattle.ang_lex.specs.Spelling.{is_closed, is_text, is_token_of}
use Rattle.ang_lex.proofs.Longest.{IsLongest}
use Rattle.ang_lex.proofs.FirstBytes.{token_by_quote}

abbrev is_quote : ℕ → Bool
is_quote b = nat_eq b 34

abbrev run : List ℕ → ℕ
run = prefix_len is_text_byte

begins_within : (p : ℕ → Bool) (xs : List ℕ) (n : ℕ) → begins p (drop n xs) ≡ true → n < length xs
begins_within p xs n e = ⊎_elim (λ below. below) (λ past. absurd (both_ways false refl (rw (drop_all n xs past) at e))) (order n (length xs))

-- what follows an opening quote is closed after its first n bytes
record Closes (r : List ℕ) (n : ℕ) : Type 0 where
  end : n ≡ run r + 1
  quote : begins is_quote (drop (run r) r) ≡ true

run-text : (b : ℕ) (r : List ℕ) → is_text_byte b ≡ true → run (b ∷ r) ≡ suc (run r)
run-text b r e = let next : 1 + run r ≡ suc (run r) = omega arith in rw e next

run-quote : (b : ℕ) (r : List ℕ) → is_quote b ≡ true → run (b ∷ r) ≡ 0
run-quote b r e = let same : b ≡ 34 = eqb-true b 34 e in rw same refl

closes_from : (r : List ℕ) (n : ℕ) → n ≤ length r → is_closed (take n r) ≡ true → Closes r n
closes_from [] zero within e = absurd (both_ways false refl e)
closes_from [] (suc n) within e = absurd (omega arith)
closes_from (b ∷ r) zero within e = absurd (both_ways false refl e)
closes_from (b ∷ r) (suc zero) within e = record {
  end = let z = run-quote b r e in omega arith;
  quote = rw (run-quote b r e) e;
}
closes_from (b ∷ []) (suc (suc n)) within e = absurd (omega arith)
closes_from (b ∷ c ∷ r) (suc (suc n)) within e =
    let parts = and_parts (is_text_byte b) (is_closed (c ∷ take n r)) e in
    let more = closes_from (c ∷ r) (suc n) (omega arith) parts.1 in
    let one = run-text b (c ∷ r) parts.0 in
    record {
      end = omega (arith, more.end, one);
      quote = rw one more.quote;
    }

closed_by : (r : List ℕ) → ((begins is_quote (drop (run r) r) ≡ true) → is_closed (take (suc (run r)) r) ≡ true) →
    (b : ℕ) → (t : Bool) → is_text_byte b ≡ t → begins is_quote (drop (run (b ∷ r)) (b ∷ r)) ≡ true → is_closed (take (suc (run (b ∷ r))) (b ∷ r)) ≡ true
closed_by [] closed b true e quote = absurd (both_ways false refl (rw (run-text b [] e) at quote))
closed_by (c ∷ r) closed b true e quote =
    let one = run-text b (c ∷ r) e in
    rw (one, e) (closed (rw one at quote))
closed_by r closed b false e quote = let none : run (b ∷ r) ≡ 0 = rw e refl in rw none (rw none at quote)

closed_from : (r : List ℕ) → begins is_quote (drop (run r) r) ≡ true → is_closed (take (suc (run r)) r) ≡ true
closed_from [] quote = absurd (both_ways false refl quote)
closed_from (b ∷ r) quote = closed_by r (closed_from r) b (is_text_byte b) refl quote

module _ (b : ℕ) (r : List ℕ) (start : nat_eq b 34 ≡ true) where
  token_of : (k : ℕ) → is_token_of (suc k) (b ∷ r) ≡ is_closed (take k r)
  token_of k = token_by_quote b (take k r) (drop k r) start ∙ ap (λ t. t && is_closed (take k r)) start

  -- where the text has an end
  some_len : begins is_quote (drop (run r) r) ≡ true → text_len (b ∷ r) ≡ suc (suc (run r))
  some_len quote = let next : run r + 2 ≡ suc (suc (run r)) = omega arith in rw quote next

  none_len : begins is_quote (drop (run r) r) ≡ false → text_len (b ∷ r) ≡ 0
  none_len quote = rw quote refl

  none_longer_than : (m : ℕ) → text_len (b ∷ r) < m → m ≤ length (b ∷ r) → is_token_of m (b ∷ r) ≡ false
  none_longer_than zero more most = absurd (omega arith)
  none_longer_than (suc k) more most = token_of k ∙ false_from_ne_true _ (λ closed. let c = closes_from r k (omega arith) closed in omega (arith, c.end, some_len c.quote))

  text_of : begins is_quote (drop (run r) r) ≡ true → is_token_of (text_len (b ∷ r)) (b ∷ r) ≡ true
  text_of quote = rw (some_len quote) (token_of (suc (run r)) ∙ closed_from r quote)

  pub quote_at_end : 0 < text_len (b ∷ r) → begins is_quote (drop (run r) r) ≡ true
  quote_at_end some = ⊎_elim (λ yes. yes) (λ no. absurd (omega (arith, none_len no))) (cases_Bool (begins is_quote (drop (run r) r)))

  pub text_is : 0 < text_len (b ∷ r) → is_text (take (text_len (b ∷ r)) (b ∷ r)) ≡ true
  text_is some = let quote = quote_at_end some in rw (some_len quote, start) (closed_from r quote)

  within_rest : text_len (b ∷ r) ≤ length (b ∷ r)
  within_rest =
      ⊎_elim
      (λ yes. let one = begins_within is_quote r (run r) yes in omega (arith, some_len yes))
      (λ no. omega (arith, none_len no))
      (cases_Bool (begins is_quote (drop (run r) r)))

  pub text_is_longest : IsLongest (b ∷ r) (text_len (b ∷ r))
  text_is_longest = record {
    within = within_rest;
    token = λ some. text_of (quote_at_end some);
    none_longer = none_longer_than;
  }
