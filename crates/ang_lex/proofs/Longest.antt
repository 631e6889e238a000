-- The greatest length of a token, by what it is.
use Rattle.std.proofs.Common.{◌≡◌, ℕ, zero, suc, ◌<◌, ◌≤◌, true, false, List, length, sym, subst, arith, ⊎_elim}
use Rattle.std.proofs.str.Laws.{order}
use Rattle.ang_lex.specs.Spelling.{is_token_of, longest_within, longest}

-- n bytes of the rest are a token, or n is 0, and no more bytes are one
pub record IsLongest (rest : List ℕ) (n : ℕ) : Type 0 where
  pub within : n ≤ length rest
  pub token : 0 < n → is_token_of n rest ≡ true
  pub none_longer : (m : ℕ) → n < m → m ≤ length rest → is_token_of m rest ≡ false

within_is : (rest : List ℕ) (k n : ℕ) → n ≤ k → (0 < n → is_token_of n rest ≡ true) → ((m : ℕ) → n < m → m ≤ k → is_token_of m rest ≡ false) → longest_within k rest ≡ n
within_is rest zero n le token none = omega arith
within_is rest (suc k) n le token none =
    ⊎_elim
    (λ below. let no = none (suc k) below (omega arith) in rw no (within_is rest k n (omega arith) token (λ m more most. none m more (omega arith))))
    (λ above. let same : n ≡ suc k = omega arith in let yes : is_token_of (suc k) rest ≡ true = subst (λ m. is_token_of m rest ≡ true) same (token (omega arith)) in rw yes (sym same))
    (order n (suc k))

pub longest_is : (rest : List ℕ) (n : ℕ) → IsLongest rest n → longest rest ≡ n
unfolding longest
longest_is rest n is = within_is rest (length rest) n is.within is.token is.none_longer
