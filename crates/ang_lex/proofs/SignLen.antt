-- The first sign that a rest begins with is the longest.
use Rattle.std.proofs.Common.{◌≡◌, ℕ, ◌<◌, ◌≤◌, Bool, true, false, not, cond, ◌&&◌, List, [], ◌∷◌, length, take, refl, ap, sym, ◌∙◌, subst, arith, nat_eq}
use Rattle.std.specs.Prelude.{nat_le}
use Rattle.std.specs.List.{list_all, starts_with}
use Rattle.std.specs.Str.{bytes_eq}
use Rattle.std.proofs.lemmas.Bool.{and_parts, or_from, or_left, or_right, both_ways, false_from_ne_true, leb-true, not-true}
use Rattle.std.proofs.lemmas.Slice.Eq.{bytes_eq-Decides}
use Rattle.std.proofs.lemmas.List.{length-take-le, take-take}
use Rattle.ang_lex.specs.declared.token.TokenKind.{TokenKind}
use Rattle.ang_lex.specs.Words.{Entry, signs, not_is, is_listed, lookup}
use Rattle.ang_lex.specs.Fronts.{first_of_entries, entry_token, Front}

-- the longer entries come first
abbrev IsDescending : List Entry → Bool
IsDescending [] = true
IsDescending (e ∷ es) = list_all (λ s. nat_le (length s.0) (length e.0)) es && IsDescending es

abbrev pub found_in : List Entry → List ℕ → Front
found_in entries rest = entry_token (first_of_entries entries rest)

-- an entry that is the front of the rest begins the rest
begins_from : (rest spelling : List ℕ) (m : ℕ) → m ≤ length rest → bytes_eq spelling (take m rest) ≡ true → (m ≡ length spelling) × (starts_with nat_eq rest spelling ≡ true)
begins_from rest spelling m within e =
    let same : spelling ≡ take m rest = (bytes_eq-Decides spelling (take m rest)).0 e in
    let len : m ≡ length spelling = sym (length-take-le m rest within) ∙ sym (ap length same) in
    (len, subst (λ n. bytes_eq spelling (take n rest) ≡ true) len e)

short_not_listed : (es : List Entry) (n : ℕ) (text : List ℕ) → list_all (λ s. nat_le (length s.0) n) es ≡ true → n < length text → is_listed es text ≡ false
unfolding is_listed
short_not_listed [] n text short less = refl
short_not_listed (e ∷ es) n text short less =
    let parts = and_parts (nat_le (length e.0) n) (list_all (λ s. nat_le (length s.0) n) es) short in
    or_from _ _
    (false_from_ne_true _ (λ is. let same = ap length ((bytes_eq-Decides e.0 text).0 is) in let at_most = leb-true _ _ parts.0 in omega arith))
    (short_not_listed es n text parts.1 less)

first_by : (e : Entry) (es : List Entry) (rest : List ℕ) (t : Bool) → starts_with nat_eq rest e.0 ≡ t → found_in (e ∷ es) rest ≡ cond t (e.1, length e.0) (found_in es rest)
unfolding first_of_entries
first_by e es rest true is = rw is refl
first_by e es rest false is = rw is refl

none_longer_by : (e : Entry) (es : List Entry) (rest : List ℕ) (m : ℕ) (t : Bool) → starts_with nat_eq rest e.0 ≡ t → IsDescending (e ∷ es) ≡ true →
    ((found_in es rest).1 < m → is_listed es (take m rest) ≡ false) → (found_in (e ∷ es) rest).1 < m → m ≤ length rest → is_listed (e ∷ es) (take m rest) ≡ false
unfolding is_listed
none_longer_by e es rest m true is ordered later longer within =
    let parts = and_parts (list_all (λ s. nat_le (length s.0) (length e.0)) es) (IsDescending es) ordered in
    let more : length e.0 < m = rw (first_by e es rest true is) at longer in
    let size = length-take-le m rest within in
    or_from _ _
    (false_from_ne_true _ (λ here. let begun = begins_from rest e.0 m within here in absurd (omega (arith, begun.0, more))))
    (short_not_listed es (length e.0) (take m rest) parts.0 (omega arith))
none_longer_by e es rest m false is ordered later longer within =
    or_from _ _
    (false_from_ne_true _ (λ here. both_ways _ is (begins_from rest e.0 m within here).1))
    (later (rw (first_by e es rest false is) at longer))

none_longer_in : (es : List Entry) (rest : List ℕ) (m : ℕ) → IsDescending es ≡ true → (found_in es rest).1 < m → m ≤ length rest → is_listed es (take m rest) ≡ false
unfolding is_listed first_of_entries
none_longer_in [] rest m ordered longer within = refl
none_longer_in (e ∷ es) rest m ordered longer within =
    none_longer_by e es rest m (starts_with nat_eq rest e.0) refl ordered
    (λ longer'. none_longer_in es rest m (and_parts (list_all (λ s. nat_le (length s.0) (length e.0)) es) (IsDescending es) ordered).1 longer' within)
    longer within

listed_here : (e : Entry) (es : List Entry) (text : List ℕ) → bytes_eq e.0 text ≡ true → is_listed (e ∷ es) text ≡ true
unfolding is_listed
listed_here e es text is = or_left _ _ is

listed_later : (e : Entry) (es : List Entry) (text : List ℕ) → is_listed es text ≡ true → is_listed (e ∷ es) text ≡ true
unfolding is_listed
listed_later e es text is = or_right _ _ is

-- what is found is an entry
found_by : (e : Entry) (es : List Entry) (rest : List ℕ) (t : Bool) → starts_with nat_eq rest e.0 ≡ t →
    (0 < (found_in es rest).1 → is_listed es (take (found_in es rest).1 rest) ≡ true) →
    0 < (found_in (e ∷ es) rest).1 → is_listed (e ∷ es) (take (found_in (e ∷ es) rest).1 rest) ≡ true
found_by e es rest true is later some = rw (first_by e es rest true is) (listed_here e es (take (length e.0) rest) is)
found_by e es rest false is later some = rw (first_by e es rest false is) (listed_later e es (take (found_in es rest).1 rest) (later (rw (first_by e es rest false is) at some)))

pub found_listed : (es : List Entry) (rest : List ℕ) → 0 < (found_in es rest).1 → is_listed es (take (found_in es rest).1 rest) ≡ true
unfolding first_of_entries
found_listed [] rest some = absurd (omega arith)
found_listed (e ∷ es) rest some = found_by e es rest (starts_with nat_eq rest e.0) refl (found_listed es rest) some

found_kind_by : (e : Entry) (es : List Entry) (rest : List ℕ) (other : TokenKind) (t : Bool) → starts_with nat_eq rest e.0 ≡ t →
    (0 < (found_in es rest).1 → (found_in es rest).1 ≤ length rest → lookup es (take (found_in es rest).1 rest) other ≡ (found_in es rest).0) →
    0 < (found_in (e ∷ es) rest).1 → (found_in (e ∷ es) rest).1 ≤ length rest → lookup (e ∷ es) (take (found_in (e ∷ es) rest).1 rest) other ≡ (found_in (e ∷ es) rest).0
unfolding lookup
found_kind_by e es rest other true is later some within = rw (first_by e es rest true is) (ap (λ t. cond t e.1 (lookup es (take (length e.0) rest) other)) is)
found_kind_by e es rest other false is later some within =
    let skip = first_by e es rest false is in
    let here : bytes_eq e.0 (take (found_in es rest).1 rest) ≡ false =
    false_from_ne_true _ (λ same. both_ways _ is (begins_from rest e.0 (found_in es rest).1 (rw skip at within) same).1) in
    rw (skip, here) (later (rw skip at some) (rw skip at within))

pub found_kind : (es : List Entry) (rest : List ℕ) (other : TokenKind) → 0 < (found_in es rest).1 → (found_in es rest).1 ≤ length rest →
    lookup es (take (found_in es rest).1 rest) other ≡ (found_in es rest).0
unfolding first_of_entries
found_kind [] rest other some within = absurd (omega arith)
found_kind (e ∷ es) rest other some within = found_kind_by e es rest other (starts_with nat_eq rest e.0) refl (found_kind es rest other) some within

signs_descend : IsDescending signs ≡ true
unfolding signs
signs_descend = refl

pub no_longer_sign : (rest : List ℕ) (m : ℕ) → (found_in signs rest).1 < m → m ≤ length rest → is_listed signs (take m rest) ≡ false
no_longer_sign rest m = none_longer_in signs rest m signs_descend

-- ---- `!is`

-- no sign begins with `!is`
no_sign_is : list_all (λ e. not (starts_with nat_eq e.0 not_is)) signs ≡ true
unfolding signs
no_sign_is = refl

none_begins : (es : List Entry) (text : List ℕ) → list_all (λ e. not (starts_with nat_eq e.0 not_is)) es ≡ true → starts_with nat_eq text not_is ≡ true → is_listed es text ≡ false
unfolding is_listed
none_begins [] text none begun = refl
none_begins (e ∷ es) text none begun =
    let parts = and_parts (not (starts_with nat_eq e.0 not_is)) (list_all (λ s. not (starts_with nat_eq s.0 not_is)) es) none in
    or_from _ _
    (false_from_ne_true _ (λ is. let same : e.0 ≡ text = (bytes_eq-Decides e.0 text).0 is in both_ways _ (not-true _ parts.0) (subst (λ xs. starts_with nat_eq xs not_is ≡ true) (sym same) begun)))
    (none_begins es text parts.1 begun)

pub no_sign_at_not_is : (rest : List ℕ) (m : ℕ) → 3 ≤ m → starts_with nat_eq rest not_is ≡ true → is_listed signs (take m rest) ≡ false
no_sign_at_not_is rest m large begun =
    none_begins signs (take m rest) no_sign_is (subst (λ xs. bytes_eq not_is xs ≡ true) (sym (take-take 3 m rest large)) begun)
