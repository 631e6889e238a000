-- What a round of the lexer keeps: the tokens so far, and then those of the rest, are all.
use Rattle.std.proofs.Common.{◌≡◌, ℕ, zero, suc, ◌+◌, ◌<◌, ◌≤◌, List, [], ◌∷◌, ◌++◌, length, take, drop, Result, Ok, Err, refl, ap, sym, ◌∙◌, arith, append_assoc, length-drop}
use Rattle.std.proofs.lemmas.List.{append-nil, drop-drop}
use Rattle.ang_kinds.specs.declared.place.Place.{Place}
use Rattle.ang_lex.specs.declared.token.Token.{Token}
use Rattle.ang_lex.specs.declared.error.LexError.{LexError}
use Rattle.ang_lex.specs.declared.shape.Piece.{Piece}
use Rattle.ang_lex.specs.declared.shape.Piece.TheVariants as piece
use Rattle.ang_lex.specs.declared.shape.Fault.{Fault}
use Rattle.ang_lex.specs.Tokens.{piece_of, piece_len, tokens_with, place_after, error_at, token_at, with_first, with_piece, tokens_from}

abbrev pub Read : Type 0
Read = Result (List Token) LexError

abbrev pub with_front : List Token → Read → Read
with_front front (Ok ts) = Ok (front ++ ts)
with_front front (Err e) = Err e

with_front-with_first : (front : List Token) (t : Token) (read : Read) → with_front front (with_first t read) ≡ with_front (front ++ t ∷ []) read
with_front-with_first front t (Ok ts) = ap (λ xs. Ok xs) (sym (append_assoc front (t ∷ []) ts))
with_front-with_first front t (Err e) = refl

nothing_in_front : (read : Read) → with_front [] read ≡ read
nothing_in_front (Ok ts) = refl
nothing_in_front (Err e) = refl

-- the tokens so far, and then those of the rest, are what is read
pub record Reads (front : List Token) (at : ℕ) (place : Place) (rest : List ℕ) (read : Read) : Type 0 where
  pub rounds : ℕ
  pub enough : length rest ≤ rounds
  pub same : with_front front (tokens_from rounds at place rest) ≡ read

with_piece-front : (p : Piece) (front : List Token) (at : ℕ) (place : Place) (behind : ℕ → Read) →
    with_front front (with_piece (Ok p) at place behind) ≡ with_front (tokens_with front p at place) (behind (piece_len p))
with_piece-front (piece.Gap n) front at place behind = refl
with_piece-front (piece.Token kind n) front at place behind = with_front-with_first front (token_at kind n at place) (behind n)

next_of : (rounds : ℕ) (front : List Token) (at : ℕ) (place : Place) (rest : List ℕ) (read : Read) (p : Piece) →
    length rest ≤ rounds → with_front front (tokens_from rounds at place rest) ≡ read → 0 < length rest → piece_of rest ≡ Ok p → 1 ≤ piece_len p →
    Reads (tokens_with front p at place) (at + piece_len p) (place_after place (take (piece_len p) rest)) (drop (piece_len p) rest) read
next_of rounds front at place [] read p enough same some is moves = absurd (omega arith)
next_of zero front at place (b ∷ bs) read p enough same some is moves = absurd (omega arith)
next_of (suc rounds) front at place (b ∷ bs) read p enough same some is moves =
    let behind : ℕ → Read = λ n. tokens_from rounds (at + n) (place_after place (take n (b ∷ bs))) (drop n (b ∷ bs)) in
    record {
      rounds = rounds;
      enough = omega (arith, length-drop (piece_len p) (b ∷ bs));
      same = sym (with_piece-front p front at place behind) ∙ ap (λ x. with_front front (with_piece x at place behind)) (sym is) ∙ same;
    }

fault_of : (rounds : ℕ) (front : List Token) (at : ℕ) (place : Place) (rest : List ℕ) (read : Read) (f : Fault) →
    length rest ≤ rounds → with_front front (tokens_from rounds at place rest) ≡ read → 0 < length rest → piece_of rest ≡ Err f →
    read ≡ Err (error_at place f)
fault_of rounds front at place [] read f enough same some is = absurd (omega arith)
fault_of zero front at place (b ∷ bs) read f enough same some is = absurd (omega arith)
fault_of (suc rounds) front at place (b ∷ bs) read f enough same some is =
    sym same ∙ ap (λ x. with_front front (with_piece x at place (λ n. tokens_from rounds (at + n) (place_after place (take n (b ∷ bs))) (drop n (b ∷ bs))))) is

module _ {front : List Token} {at : ℕ} {place : Place} {rest : List ℕ} {read : Read} where
  -- a piece goes to the front
  pub reads_next : (p : Piece) → Reads front at place rest read → 0 < length rest → piece_of rest ≡ Ok p → 1 ≤ piece_len p →
      Reads (tokens_with front p at place) (at + piece_len p) (place_after place (take (piece_len p) rest)) (drop (piece_len p) rest) read
  reads_next p r = next_of r.rounds front at place rest read p r.enough r.same

  -- a fault ends the reading
  pub reads_fault : (f : Fault) → Reads front at place rest read → 0 < length rest → piece_of rest ≡ Err f → read ≡ Err (error_at place f)
  reads_fault f r = fault_of r.rounds front at place rest read f r.enough r.same

  -- nothing is left
  pub reads_end : Reads front at place rest read → rest ≡ [] → read ≡ Ok front
  reads_end r none = sym r.same ∙ ap (λ xs. with_front front (tokens_from r.rounds at place xs)) none ∙ ap (λ xs. Ok xs) (append-nil front)

-- nothing is read yet
pub reads_start : (rounds at : ℕ) (place : Place) (rest : List ℕ) → length rest ≤ rounds → Reads [] at place rest (tokens_from rounds at place rest)
reads_start rounds at place rest enough = record {
  rounds = rounds;
  enough = enough;
  same = nothing_in_front (tokens_from rounds at place rest);
}

-- a round of the loop over the bytes of a text
pub reads_round : {front : List Token} {at : ℕ} {place : Place} {read : Read} (text : List ℕ) (p : Piece) (new : List Token) (n : ℕ) (next : Place) →
    Reads front at place (drop at text) read → at < length text → piece_of (drop at text) ≡ Ok p → 1 ≤ piece_len p →
    new ≡ tokens_with front p at place → n ≡ piece_len p → next ≡ place_after place (take n (drop at text)) →
    Reads new (at + n) next (drop (at + n) text) read
reads_round {at = at} text p new n next r some is moves new_is n_is next_is =
    let one : 0 < length (drop at text) = omega (arith, length-drop at text) in
    let rest_is : drop (at + piece_len p) text ≡ drop (piece_len p) (drop at text) = sym (drop-drop (piece_len p) at text) in
    rw (new_is, next_is, n_is, rest_is) (reads_next p r one is moves)
