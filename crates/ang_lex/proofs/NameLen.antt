-- A name goes as far as its bytes.
use Rattle.std.proofs.Common.{◌≡◌, ℕ, zero, suc, ◌+◌, ◌<◌, ◌≤◌, true, false, List, ◌∷◌, length, take, drop, refl, ◌∙◌, arith}
use Rattle.std.specs.List.{prefix_len, list_all}
use Rattle.std.proofs.lemmas.Bool.Decides.{nat_tests}
use Rattle.std.proofs.lemmas.List.Sums.{prefix_len-le-length}
use Rattle.ang_lex.specs.Bytes.{is_name_start, is_name_byte}
use Rattle.ang_lex.specs.Fronts.{name_len}
use Rattle.ang_lex.specs.Spelling.{is_name, is_token_of}
use Rattle.ang_lex.proofs.Runs.{run_all, run_longer}
use Rattle.ang_lex.proofs.Longest.{IsLongest}
use Rattle.ang_lex.proofs.FirstBytes.{token_by_name_start}

name_start_byte : (b : ℕ) → is_name_start b ≡ true → is_name_byte b ≡ true
name_start_byte b e = grind (arith, nat_tests)

module _ (b : ℕ) (bs : List ℕ) (start : is_name_start b ≡ true) where
  name_len-cons : name_len (b ∷ bs) ≡ suc (prefix_len is_name_byte bs)
  name_len-cons =
      let e = name_start_byte b start in
      let next : 1 + prefix_len is_name_byte bs ≡ suc (prefix_len is_name_byte bs) = omega arith in
      rw e next

  name_of : (k : ℕ) → is_name (take (suc k) (b ∷ bs)) ≡ list_all is_name_byte (take k bs)
  name_of k = rw start refl

  token_of : (k : ℕ) → is_token_of (suc k) (b ∷ bs) ≡ list_all is_name_byte (take k bs)
  token_of k = token_by_name_start b (take k bs) (drop k bs) start ∙ name_of k

  none_longer_than : (m : ℕ) → name_len (b ∷ bs) < m → m ≤ length (b ∷ bs) → is_token_of m (b ∷ bs) ≡ false
  none_longer_than zero more most = absurd (omega arith)
  none_longer_than (suc k) more most = token_of k ∙ run_longer is_name_byte bs k (omega (arith, name_len-cons)) (omega arith)

  pub name_is : is_name (take (name_len (b ∷ bs)) (b ∷ bs)) ≡ true
  name_is = rw name_len-cons (name_of (prefix_len is_name_byte bs) ∙ run_all is_name_byte bs)

  pub name_is_longest : IsLongest (b ∷ bs) (name_len (b ∷ bs))
  name_is_longest = record {
    within = prefix_len-le-length is_name_byte (b ∷ bs);
    token = λ _. rw name_len-cons (token_of (prefix_len is_name_byte bs) ∙ run_all is_name_byte bs);
    none_longer = none_longer_than;
  }
