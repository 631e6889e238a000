-- The tables of the code are the parts of the lists that can hold a text.
use Rattle.std.proofs.Common.{◌≡◌, ℕ, Bool, true, false, cond, not, ◌&&◌, ◌||◌, List, [], ◌∷◌, length, refl, ap, sym, ◌∙◌, subst, arith, ⊎_elim, nat_eq}
use Rattle.std.specs.Prelude.{filter, ◌⊎◌, nat_le, ◌==◌}
use Rattle.std.proofs.Common.{Some, ◌<◌}
use Rattle.std.specs.List.{list_all, starts_with}
use Rattle.std.specs.Str.{bytes_eq}
use Rattle.std.proofs.lemmas.Bool.{cond-true, cond-false, and_parts, and_left, both_ways, false_from_ne_true, eqb-true, eq-eqb, leb-true}
use Rattle.std.proofs.lemmas.Slice.Eq.{bytes_eq-Decides}
use Rattle.ang_lex.specs.declared.token.TokenKind.{TokenKind}
use Rattle.ang_lex.specs.Bytes.{begins}
use Rattle.ang_lex.specs.Words.{Entry, reserved_words, signs, is_listed, lookup}
use Rattle.ang_lex.specs.Fronts.{first_of_entries}

-- ---- words, by their length

abbrev pub has_length : ℕ → Entry → Bool
has_length n e = nat_eq (length e.0) n

other_length : (e : Entry) (n : ℕ) (text : List ℕ) → length text ≡ n → has_length n e ≡ false → bytes_eq e.0 text ≡ false
other_length e n text size other = false_from_ne_true _ (λ is.
    let same = ap length ((bytes_eq-Decides e.0 text).0 is) in both_ways _ other (eq-eqb (length e.0) n (same ∙ size)))

lookup_by : (n : ℕ) (e : Entry) (es : List Entry) (text : List ℕ) (other : TokenKind) (t : Bool) → length text ≡ n → has_length n e ≡ t →
    lookup (filter (has_length n) es) text other ≡ lookup es text other → lookup (filter (has_length n) (e ∷ es)) text other ≡ lookup (e ∷ es) text other
unfolding lookup
lookup_by n e es text other true size is more =
    ap (λ xs. lookup xs text other) (cond-true _ _ _ is) ∙ ap (λ k. cond (bytes_eq e.0 text) e.1 k) more
lookup_by n e es text other false size is more =
    ap (λ xs. lookup xs text other) (cond-false _ _ _ is) ∙ more ∙ sym (cond-false _ _ _ (other_length e n text size is))

pub lookup-filter : (n : ℕ) (es : List Entry) (text : List ℕ) (other : TokenKind) → length text ≡ n → lookup (filter (has_length n) es) text other ≡ lookup es text other
unfolding lookup
lookup-filter n [] text other size = refl
lookup-filter n (e ∷ es) text other size = lookup_by n e es text other (has_length n e) size refl (lookup-filter n es text other size)

listed-cons : (e : Entry) (es : List Entry) (text : List ℕ) → is_listed (e ∷ es) text ≡ (bytes_eq e.0 text || is_listed es text)
unfolding is_listed
listed-cons e es text = refl

listed_by : (n : ℕ) (e : Entry) (es : List Entry) (text : List ℕ) (t : Bool) → length text ≡ n → has_length n e ≡ t →
    is_listed (filter (has_length n) es) text ≡ is_listed es text → is_listed (filter (has_length n) (e ∷ es)) text ≡ is_listed (e ∷ es) text
listed_by n e es text true size is more =
    ap (λ xs. is_listed xs text) (cond-true _ _ _ is) ∙ listed-cons e (filter (has_length n) es) text ∙ ap (λ k. bytes_eq e.0 text || k) more ∙ sym (listed-cons e es text)
listed_by n e es text false size is more =
    ap (λ xs. is_listed xs text) (cond-false _ _ _ is) ∙ more ∙ sym (ap (λ k. k || is_listed es text) (other_length e n text size is)) ∙ sym (listed-cons e es text)

pub is_listed-filter : (n : ℕ) (es : List Entry) (text : List ℕ) → length text ≡ n → is_listed (filter (has_length n) es) text ≡ is_listed es text
unfolding is_listed
is_listed-filter n [] text size = refl
is_listed-filter n (e ∷ es) text size = listed_by n e es text (has_length n e) size refl (is_listed-filter n es text size)

-- each reserved word has two to nine letters
words_in_range : list_all (λ e. nat_le 2 (length e.0) && nat_le (length e.0) 9) reserved_words ≡ true
unfolding reserved_words
words_in_range = refl

none_of_length : (n : ℕ) (es : List Entry) → list_all (λ e. nat_le 2 (length e.0) && nat_le (length e.0) 9) es ≡ true → (n < 2) ⊎ (9 < n) → filter (has_length n) es ≡ []
none_of_length n [] all out = refl
none_of_length n (e ∷ es) all out =
    let parts = and_parts (nat_le 2 (length e.0) && nat_le (length e.0) 9) (list_all (λ s. nat_le 2 (length s.0) && nat_le (length s.0) 9) es) all in
    let range = and_parts (nat_le 2 (length e.0)) (nat_le (length e.0) 9) parts.0 in
    let low = leb-true _ _ range.0 in
    let high = leb-true _ _ range.1 in
    let other : has_length n e ≡ false = false_from_ne_true _ (λ is. let same = eqb-true _ _ is in ⊎_elim (λ (below : n < 2). omega arith) (λ (above : 9 < n). omega arith) out) in
    cond-false _ _ _ other ∙ none_of_length n es parts.1 out

pub no_words : (n : ℕ) → (n < 2) ⊎ (9 < n) → filter (has_length n) reserved_words ≡ []
no_words n = none_of_length n reserved_words words_in_range

-- ---- signs, by their first byte

abbrev has_byte : Entry → Bool
has_byte e = begins (λ b. true) e.0

abbrev in_class : (ℕ → Bool) → Entry → Bool
in_class class e = begins class e.0

apart : (class : ℕ → Bool) (spelling rest : List ℕ) → begins (λ b. true) spelling ≡ true → begins class spelling ≡ false → begins class rest ≡ true → starts_with nat_eq rest spelling ≡ false
apart class [] rest some other here = absurd (both_ways false refl some)
apart class (x ∷ w) [] some other here = refl
apart class (x ∷ w) (r ∷ rs) some other here =
    and_left _ _ (false_from_ne_true _ (λ is. both_ways _ other (subst (λ b. class b ≡ true) (sym (eqb-true x r is)) here)))

first_by : (class : ℕ → Bool) (rest : List ℕ) (e : Entry) (es : List Entry) (t : Bool) → begins class rest ≡ true → has_byte e ≡ true → in_class class e ≡ t →
    first_of_entries (filter (in_class class) es) rest ≡ first_of_entries es rest → first_of_entries (filter (in_class class) (e ∷ es)) rest ≡ first_of_entries (e ∷ es) rest
unfolding first_of_entries
first_by class rest e es true here some is more =
    ap (λ xs. first_of_entries xs rest) (cond-true _ _ _ is) ∙ ap (λ k. cond (starts_with nat_eq rest e.0) (Some e) k) more
first_by class rest e es false here some is more =
    ap (λ xs. first_of_entries xs rest) (cond-false _ _ _ is) ∙ more ∙ sym (cond-false _ _ _ (apart class e.0 rest some is here))

first-filter : (class : ℕ → Bool) (rest : List ℕ) (es : List Entry) → begins class rest ≡ true → list_all has_byte es ≡ true → first_of_entries (filter (in_class class) es) rest ≡ first_of_entries es rest
unfolding first_of_entries
first-filter class rest [] here all = refl
first-filter class rest (e ∷ es) here all =
    let parts = and_parts (has_byte e) (list_all has_byte es) all in
    first_by class rest e es (in_class class e) here parts.0 refl (first-filter class rest es here parts.1)

signs_have_bytes : list_all has_byte signs ≡ true
unfolding signs
signs_have_bytes = refl

in_class_from : (class : ℕ → Bool) (first : ℕ) (rest : List ℕ) → class first ≡ true → begins (λ b. nat_eq b first) rest ≡ true → begins class rest ≡ true
in_class_from class first [] is begun = absurd (both_ways false refl begun)
in_class_from class first (r ∷ rs) is begun = subst (λ b. class b ≡ true) (sym (eqb-true r first begun)) is

-- the signs whose first byte is of a class serve where the rest begins with such a byte
pub signs-in_class : (class : ℕ → Bool) (first : ℕ) (rest : List ℕ) → class first ≡ true → begins (λ b. nat_eq b first) rest ≡ true →
    first_of_entries (filter (in_class class) signs) rest ≡ first_of_entries signs rest
signs-in_class class first rest is begun = first-filter class rest signs (in_class_from class first rest is begun) signs_have_bytes

-- no longer sign begins with the byte
abbrev pub is_single : ℕ → Bool
is_single b =
    not (b == 62 || b == 60 || b == 61 || b == 33 || b == 38 || b == 124 || b == 94 || b == 43 || b == 45 || b == 42 || b == 47 || b == 37 || b == 58)
