-- What the parsers answer, by the grammar.
use Rattle.std.proofs.Common.{◌≡◌, ◌≢◌, ℕ, Bool, true, false, if◌then◌else◌, List, Result, Ok, Err, refl, ap, sym, ◌∙◌}
use Rattle.std.specs.Prelude.{IfOk, IfErr}
use Rattle.ang_kinds.specs.declared.types.Signature.{Signature}
use Rattle.ang_lex.specs.declared.token.Token.{Token}
use Rattle.ang_lex.specs.declared.error.LexError.{LexError}
use Rattle.ang_lex.specs.Tokens.{tokens_of}
use Rattle.ang_parse_read.specs.Law.{all_of}
use Rattle.ang_parse_read.specs.Read.{Outcome, Parser}
use Rattle.ang_decl.specs.declared.error.DeclError.{DeclError}
use Rattle.ang_decl.specs.declared.error.DeclError.TheVariants.{Syntax, Unsupported, Memory}
use Rattle.ang_decl.specs.Meaning.{IsWritten, Declares, IsLeftOut, IsAnswer}
use Rattle.ang_decl.specs.Parsed.{judged, judged_tokens}
use Rattle.ang_decl.proofs.Exactly.{Exact, OfForm}

module _ (A : Type 0) (reader : ℕ → Parser A) (Spells : A → List Token → Type 0) (form : A → Bool) (Formed : A → List Token → Type 0)
    (left_out : A → Bool) (signature_of : List ℕ → A → Signature) (exact : Exact reader Spells) (of_form : OfForm Spells form Formed) where
  abbrev chosen : Bool → Bool → Signature → Result Signature DeclError
  chosen b c s = if b then (if c then Err Unsupported else Ok s) else Err Syntax

  abbrev answer : List ℕ → Result (List Token) LexError → Result Signature DeclError
  answer text tokens = judged_tokens reader form left_out (signature_of text) tokens

  written_so : (text : List ℕ) (ts : List Token) (x : A) → tokens_of 0 text ≡ Ok ts → Spells x ts → form x ≡ true → IsWritten Formed text x
  written_so text ts x l h f = record { tokens = ts; lexed = l; spelled = of_form.formed x ts h f }

  -- a signature

  declares_chosen : (text : List ℕ) (s : Signature) (ts : List Token) (x : A) → tokens_of 0 text ≡ Ok ts → Spells x ts
      → (b c : Bool) → form x ≡ b → left_out x ≡ c → chosen b c (signature_of text x) ≡ Ok s → Declares Formed left_out signature_of text s
  declares_chosen text s ts x l h true false f o e = record { declaration = x; written = written_so text ts x l h f; taken = o; signature = let g : signature_of text x ≡ s = cc in sym g }
  declares_chosen text s ts x l h true true f o e = absurd cc
  declares_chosen text s ts x l h false c f o e = absurd cc

  declares_read : (text : List ℕ) (s : Signature) (ts : List Token) → tokens_of 0 text ≡ Ok ts → (o : Outcome A) → all_of reader ts ≡ o
      → judged form left_out (signature_of text) o ≡ Ok s → Declares Formed left_out signature_of text s
  declares_read text s ts l (Ok p) a e = declares_chosen text s ts p.0 l (exact.sound ts p a) (form p.0) (left_out p.0) refl refl e
  declares_read text s ts l (Err f) a e = absurd cc

  declares_at : (text : List ℕ) (s : Signature) (tokens : Result (List Token) LexError) → tokens_of 0 text ≡ tokens → answer text tokens ≡ Ok s → Declares Formed left_out signature_of text s
  declares_at text s (Ok ts) l e = declares_read text s ts l (all_of reader ts) refl e
  declares_at text s (Err f) l e = absurd cc

  -- left out

  left_chosen : (text : List ℕ) (ts : List Token) (x : A) → tokens_of 0 text ≡ Ok ts → Spells x ts
      → (b c : Bool) → form x ≡ b → left_out x ≡ c → chosen b c (signature_of text x) ≡ Err Unsupported → IsLeftOut Formed left_out text
  left_chosen text ts x l h true true f o e = record { declaration = x; written = written_so text ts x l h f; left_out = o }
  left_chosen text ts x l h true false f o e = absurd cc
  left_chosen text ts x l h false c f o e = absurd cc

  left_read : (text : List ℕ) (ts : List Token) → tokens_of 0 text ≡ Ok ts → (o : Outcome A) → all_of reader ts ≡ o
      → judged form left_out (signature_of text) o ≡ Err Unsupported → IsLeftOut Formed left_out text
  left_read text ts l (Ok p) a e = left_chosen text ts p.0 l (exact.sound ts p a) (form p.0) (left_out p.0) refl refl e
  left_read text ts l (Err f) a e = absurd cc

  left_at : (text : List ℕ) (tokens : Result (List Token) LexError) → tokens_of 0 text ≡ tokens → answer text tokens ≡ Err Unsupported → IsLeftOut Formed left_out text
  left_at text (Ok ts) l e = left_read text ts l (all_of reader ts) refl e
  left_at text (Err f) l e = absurd cc

  -- of no form

  of_form_answered : (c : Bool) (s : Signature) → chosen true c s ≡ Err Syntax → ⊥
  of_form_answered true s e = cc
  of_form_answered false s e = cc

  -- what is answered of a declaration of the form
  answered : (text : List ℕ) (x : A) → IsWritten Formed text x → answer text (tokens_of 0 text) ≡ chosen true (left_out x) (signature_of text x)
  answered text x w =
      ap (answer text) w.lexed
      ∙ ap (judged form left_out (signature_of text)) (exact.complete x w.tokens (of_form.spelled x w.tokens w.spelled))
      ∙ ap (λ b. chosen b (left_out x) (signature_of text x)) (of_form.form_is x w.tokens w.spelled)

  none_written : (text : List ℕ) → answer text (tokens_of 0 text) ≡ Err Syntax → (x : A) → IsWritten Formed text x → ⊥
  none_written text e x w = of_form_answered (left_out x) (signature_of text x) (sym (answered text x w) ∙ e)

  -- ---- the other way

  declared_answered : (text : List ℕ) (s : Signature) → Declares Formed left_out signature_of text s → answer text (tokens_of 0 text) ≡ Ok s
  declared_answered text s d =
      answered text d.declaration d.written
      ∙ ap (λ c. chosen true c (signature_of text d.declaration)) d.taken
      ∙ ap Ok (sym d.signature)

  left_answered : (text : List ℕ) → IsLeftOut Formed left_out text → answer text (tokens_of 0 text) ≡ Err Unsupported
  left_answered text d =
      answered text d.declaration d.written
      ∙ ap (λ c. chosen true c (signature_of text d.declaration)) d.left_out

  never_chosen : (b c : Bool) (s : Signature) → chosen b c s ≡ Err Memory → ⊥
  never_chosen true true s e = cc
  never_chosen true false s e = cc
  never_chosen false c s e = cc

  never_judged : (text : List ℕ) (o : Outcome A) → judged form left_out (signature_of text) o ≡ Err Memory → ⊥
  never_judged text (Ok p) e = never_chosen (form p.0) (left_out p.0) (signature_of text p.0) e
  never_judged text (Err f) e = cc

  never_memory : (text : List ℕ) (tokens : Result (List Token) LexError) → answer text tokens ≡ Err Memory → ⊥
  never_memory text (Ok ts) e = never_judged text (all_of reader ts) e
  never_memory text (Err f) e = cc

  none_answered : (text : List ℕ) → ((x : A) → IsWritten Formed text x → ⊥) → (r : Result Signature DeclError) → answer text (tokens_of 0 text) ≡ r → r ≡ Err Syntax
  none_answered text none (Ok s) e = let d : Declares Formed left_out signature_of text s = declares_at text s (tokens_of 0 text) refl e in absurd (none d.declaration d.written)
  none_answered text none (Err Unsupported) e = let d : IsLeftOut Formed left_out text = left_at text (tokens_of 0 text) refl e in absurd (none d.declaration d.written)
  none_answered text none (Err Memory) e = absurd (never_memory text (tokens_of 0 text) e)
  none_answered text none (Err Syntax) e = refl

  -- ---- what the answer is

  pub answer_is : (text : List ℕ) → IsAnswer Formed left_out signature_of text (answer text (tokens_of 0 text))
  answer_is text = record {
    signature = λ s. (declares_at text s (tokens_of 0 text) refl, declared_answered text s);
    unsupported = (left_at text (tokens_of 0 text) refl, left_answered text);
    syntax = (none_written text, λ none. none_answered text none (answer text (tokens_of 0 text)) refl);
    memory = never_memory text (tokens_of 0 text);
  }

  -- ---- in the form of a contract

  pub given_signature : (text : List ℕ) (result : Result Signature DeclError) → IfOk result (λ s. answer text (tokens_of 0 text) ≡ Ok s) → IfOk result (Declares Formed left_out signature_of text)
  given_signature text (Ok s) h = declares_at text s (tokens_of 0 text) refl h
  given_signature text (Err e) h = tt

  pub given_unsupported : (text : List ℕ) (result : Result Signature DeclError) → IfErr result (λ e. e ≢ Memory → answer text (tokens_of 0 text) ≡ Err e)
      → IfErr result (λ e. e ≡ Unsupported → IsLeftOut Formed left_out text)
  given_unsupported text (Ok s) h = tt
  given_unsupported text (Err Unsupported) h = λ is. left_at text (tokens_of 0 text) refl (h (λ m. cc))
  given_unsupported text (Err Syntax) h = λ is. absurd cc
  given_unsupported text (Err Memory) h = λ is. absurd cc

  pub given_syntax : (text : List ℕ) (result : Result Signature DeclError) → IfErr result (λ e. e ≢ Memory → answer text (tokens_of 0 text) ≡ Err e)
      → IfErr result (λ e. e ≡ Syntax → (x : A) → IsWritten Formed text x → ⊥)
  given_syntax text (Ok s) h = tt
  given_syntax text (Err Syntax) h = λ is. none_written text (h (λ m. cc))
  given_syntax text (Err Unsupported) h = λ is. absurd cc
  given_syntax text (Err Memory) h = λ is. absurd cc
