-- What passes a test stands at the places that are kept for it.
use Rattle.std.specs.Prelude.{ℕ, zero, suc, ◌≡◌, ◌<◌, ◌+◌, ◌==◌, Bool, true, false, cond, ◌&&◌, ◌||◌, if◌then◌else◌, List, [], ◌∷◌, ◌++◌, drop, find, get_or, is_some, length, bytes_eq, Option, Some, None, option_map, slice_get}
use Rattle.std.specs.List.{list_any}
use Rattle.std.specs.Option.{option_or}
use Rattle.std.proofs.Common.{arith, refl, sym, ap, ◌∙◌}
use Rattle.std.proofs.lemmas.List.{append-nil, drop_more}
use Rattle.ang_names_known.specs.declared.names.Family.{Family}
use Rattle.ang_names_known.specs.declared.names.Field.{Field}
use Rattle.ang_names_known.specs.declared.names.FoundField.{FoundField}
use Rattle.ang_names_known.specs.declared.names.ScriptMethod.{ScriptMethod}
use Rattle.ang_names_known.specs.Lookup.{Numbered, declares_method, families_at, fields_in, field_named, field_of, first_field, has_member, has_method, kin_of, own_field, with_family}
use Rattle.ang_names.specs.Heirs.{cannot_override}
use Rattle.ang_names.specs.ByNumber.{methods_in}
use Rattle.ang_names.specs.declared.indexed.MemberRows.{MemberRows}
use Rattle.ang_names.specs.Rows.{AllHaveMembers, HasMembers, HasRows, declares, field_row, field_row_in, first_at, is_at, method_row, method_row_in, passing, places_from, slot_row, slot_row_in}

-- ---- a member more

put_front : (xs : List ℕ) (n : ℕ) (rest : List ℕ) → xs ++ n ∷ rest ≡ (xs ++ n ∷ []) ++ rest
put_front [] n rest = refl
put_front (x ∷ xs) n rest = ap (λ r. x ∷ r) (put_front xs n rest)

one_put : (b : Bool) (xs : List ℕ) (n : ℕ) (rest : List ℕ) → xs ++ cond b (n ∷ rest) rest ≡ cond b (xs ++ n ∷ []) xs ++ rest
one_put true xs n rest = put_front xs n rest
one_put false xs n rest = refl

pub and_true : (b : Bool) → (b && true) ≡ b
and_true true = refl
and_true false = refl

module _ {A : Type 0} (p : A → Bool) where
  -- the places of those that pass, from item n on
  abbrev pub places_on : List A → ℕ → List ℕ
  places_on xs n = places_from p n (drop n xs)

  pub place_more : (xs : List A) (x : A) (n : ℕ) (b : Bool) (first old new : List ℕ) → n < length xs → x ≡ get_or xs n x
      → b ≡ p x → new ≡ cond b (old ++ n ∷ []) old → first ≡ old ++ places_on xs n → first ≡ new ++ places_on xs (n + 1)
  place_more xs x n b first old new lt is passes puts so_far =
      so_far
      ∙ ap (λ ys. old ++ places_from p n ys) (drop_more xs n x lt)
      ∙ one_put (p (get_or xs n x)) old n (places_on xs (n + 1))
      ∙ ap (λ y. cond (p y) (old ++ n ∷ []) old ++ places_on xs (n + 1)) (sym is)
      ∙ ap (λ c. cond c (old ++ n ∷ []) old ++ places_on xs (n + 1)) (sym passes)
      ∙ ap (λ ys. ys ++ places_on xs (n + 1)) (sym puts)

  pub places_end : (xs : List A) (n : ℕ) (places : List ℕ) → drop n xs ≡ [] → places ++ places_on xs n ≡ places
  places_end xs n places e = ap (λ l. places ++ places_from p n l) e ∙ append-nil places

-- ---- the rows of a family

pub rows_more : (fs : List Family) (rs : List MemberRows) (f : Family) (r : MemberRows) → AllHaveMembers fs rs → HasMembers f r
    → AllHaveMembers (fs ++ f ∷ []) (rs ++ r ∷ [])
rows_more [] [] f r has one = (one, tt)
rows_more [] (x ∷ rs) f r has one = absurd has
rows_more (g ∷ fs) [] f r has one = absurd has
rows_more (g ∷ fs) (x ∷ rs) f r has one = (has.0, rows_more fs rs f r has.1 one)

slot_row_of : (fs : List Family) (rs : List MemberRows) (n slot : ℕ) → AllHaveMembers fs rs
    → slot_row_in slot (slice_get rs n) ≡ slot_row slot (methods_in (slice_get fs n))
unfolding slot_row
slot_row_of [] [] n slot has = refl
slot_row_of [] (r ∷ rs) n slot has = absurd has
slot_row_of (f ∷ fs) [] n slot has = absurd has
slot_row_of (f ∷ fs) (r ∷ rs) zero slot has = has.0.of_slots.places slot
slot_row_of (f ∷ fs) (r ∷ rs) (suc n) slot has = slot_row_of fs rs n slot has.1

pub slot_row_known : (fs : List Family) (rs : List MemberRows) (n slot : ℕ) → HasRows fs rs
    → slot_row_in slot (slice_get rs n) ≡ slot_row slot (methods_in (slice_get fs n))
slot_row_known fs rs n slot has = slot_row_of fs rs n slot has.members

field_row_of : (fs : List Family) (rs : List MemberRows) (n : ℕ) (name : List ℕ) → AllHaveMembers fs rs
    → field_row_in name (slice_get rs n) ≡ field_row name (fields_in (slice_get fs n))
unfolding field_row
field_row_of [] [] n name has = refl
field_row_of [] (r ∷ rs) n name has = absurd has
field_row_of (f ∷ fs) [] n name has = absurd has
field_row_of (f ∷ fs) (r ∷ rs) zero name has = has.0.of_fields.places name
field_row_of (f ∷ fs) (r ∷ rs) (suc n) name has = field_row_of fs rs n name has.1

pub field_row_known : (fs : List Family) (rs : List MemberRows) (n : ℕ) (name : List ℕ) → HasRows fs rs
    → field_row_in name (slice_get rs n) ≡ field_row name (fields_in (slice_get fs n))
field_row_known fs rs n name has = field_row_of fs rs n name has.members

method_row_of : (fs : List Family) (rs : List MemberRows) (n : ℕ) (name : List ℕ) → AllHaveMembers fs rs
    → method_row_in name (slice_get rs n) ≡ method_row name (methods_in (slice_get fs n))
unfolding method_row
method_row_of [] [] n name has = refl
method_row_of [] (r ∷ rs) n name has = absurd has
method_row_of (f ∷ fs) [] n name has = absurd has
method_row_of (f ∷ fs) (r ∷ rs) zero name has = has.0.of_methods.places name
method_row_of (f ∷ fs) (r ∷ rs) (suc n) name has = method_row_of fs rs n name has.1

pub method_row_known : (fs : List Family) (rs : List MemberRows) (n : ℕ) (name : List ℕ) → HasRows fs rs
    → method_row_in name (slice_get rs n) ≡ method_row name (methods_in (slice_get fs n))
method_row_known fs rs n name has = method_row_of fs rs n name has.members

-- ---- all that pass are at these places

one_any : (f : ℕ → Bool) (b q r : Bool) (i : ℕ) (row : List ℕ) → (q ≡ true → b ≡ true) → f i ≡ q → list_any f row ≡ r
    → list_any f (if b then i ∷ row else row) ≡ (q || r)
one_any f true q r i row h here rest = ap (λ c. c || list_any f row) here ∙ ap (λ c. q || c) rest
one_any f false true r i row h here rest = cc (h refl)
one_any f false false r i row h here rest = rest

one_first : {A : Type 0} (p : A → Bool) (all : List A) (x : A) (b q : Bool) (r : Option A) (i : ℕ) (row : List ℕ) → (q ≡ true → b ≡ true)
    → passing p (slice_get all i) ≡ (if q then Some x else None) → first_at p all row ≡ r
    → first_at p all (if b then i ∷ row else row) ≡ (if q then Some x else r)
one_first p all x true true r i row h here rest = ap (λ o. option_or o (first_at p all row)) here
one_first p all x true false r i row h here rest = ap (λ o. option_or o (first_at p all row)) here ∙ rest
one_first p all x false true r i row h here rest = cc (h refl)
one_first p all x false false r i row h here rest = rest

module _ {A : Type 0} (p q : A → Bool) (all : List A) (kept : (x : A) → p x ≡ true → q x ≡ true) where
  any_from : (xs : List A) (i : ℕ) → ((j : ℕ) → slice_get all (i + j) ≡ slice_get xs j)
      → list_any (λ n. is_at p (slice_get all n)) (places_from q i xs) ≡ list_any p xs
  any_from [] i stands = refl
  any_from (x ∷ xs) i stands =
      let first : i + 0 ≡ i = omega arith in
      let here : is_at p (slice_get all i) ≡ p x = ap (λ n. is_at p (slice_get all n)) (sym first) ∙ ap (is_at p) (stands 0) in
      one_any (λ n. is_at p (slice_get all n)) (q x) (p x) (list_any p xs) i (places_from q (i + 1) xs) (kept x) here
      (any_from xs (i + 1) (λ j. let up : (i + 1) + j ≡ i + suc j = omega arith in ap (slice_get all) up ∙ stands (suc j)))

  first_from : (xs : List A) (i : ℕ) → ((j : ℕ) → slice_get all (i + j) ≡ slice_get xs j)
      → first_at p all (places_from q i xs) ≡ find p xs
  first_from [] i stands = refl
  first_from (x ∷ xs) i stands =
      let first : i + 0 ≡ i = omega arith in
      let here : passing p (slice_get all i) ≡ (if p x then Some x else None) = ap (λ n. passing p (slice_get all n)) (sym first) ∙ ap (passing p) (stands 0) in
      one_first p all x (q x) (p x) (find p xs) i (places_from q (i + 1) xs) (kept x) here
      (first_from xs (i + 1) (λ j. let up : (i + 1) + j ≡ i + suc j = omega arith in ap (slice_get all) up ∙ stands (suc j)))

  at_once : (j : ℕ) → slice_get all (0 + j) ≡ slice_get all j
  at_once j = let first : 0 + j ≡ j = omega arith in ap (slice_get all) first

  any_in_row : list_any (λ n. is_at p (slice_get all n)) (places_from q 0 all) ≡ list_any p all
  any_in_row = any_from all 0 at_once

  first_in_row : first_at p all (places_from q 0 all) ≡ find p all
  first_in_row = first_from all 0 at_once

-- what is looked up in the row of a family's own members is what all of these have
module _ {A R : Type 0} (part : Option Family → List A) (row_of : List A → List ℕ) (look : List A → List ℕ → R) (whole : List A → R)
    (agree : (xs : List A) → look xs (row_of xs) ≡ whole xs) where
  pub looked_up : (fs gs : List Family) (n : ℕ) (xs : List A) (row : List ℕ) (r : R) → gs ≡ fs → xs ≡ part (slice_get gs n)
      → row ≡ row_of (part (slice_get fs n)) → r ≡ look xs row → r ≡ whole (part (slice_get fs n))
  looked_up fs gs n xs row r same here at given =
      let own : xs ≡ part (slice_get fs n) = here ∙ ap (λ hs. part (slice_get hs n)) same in
      given ∙ ap (λ ys. look ys row) own ∙ ap (look (part (slice_get fs n))) at ∙ agree (part (slice_get fs n))

-- ---- slots

left : (a b : Bool) → (a && b) ≡ true → a ≡ true
left true b h = refl
left false b h = cc

pub first_in_slot_row : (ms : List ScriptMethod) (slot : ℕ) → first_at (λ (m : ScriptMethod). m.slot == slot) ms (slot_row slot ms) ≡ find (λ (m : ScriptMethod). m.slot == slot) ms
unfolding slot_row
first_in_slot_row ms slot = first_in_row (λ (m : ScriptMethod). m.slot == slot) (λ (m : ScriptMethod). m.slot == slot) ms (λ m h. h)

pub slot_in_row : (ms : List ScriptMethod) (slot : ℕ)
    → list_any (λ n. is_at (λ (m : ScriptMethod). m.slot == slot) (slice_get ms n)) (slot_row slot ms) ≡ list_any (λ (m : ScriptMethod). m.slot == slot) ms
unfolding slot_row
slot_in_row ms slot = any_in_row (λ (m : ScriptMethod). m.slot == slot) (λ (m : ScriptMethod). m.slot == slot) ms (λ m h. h)

pub refused_in_row : (ms : List ScriptMethod) (m : ScriptMethod)
    → list_any (λ n. is_at (λ (x : ScriptMethod). x.slot == m.slot && cannot_override m x) (slice_get ms n)) (slot_row m.slot ms)
    ≡ list_any (λ (x : ScriptMethod). x.slot == m.slot && cannot_override m x) ms
unfolding slot_row
refused_in_row ms m =
    any_in_row (λ (x : ScriptMethod). x.slot == m.slot && cannot_override m x) (λ (x : ScriptMethod). x.slot == m.slot) ms
    (λ x h. left (x.slot == m.slot) (cannot_override m x) h)

-- ---- names

pub field_in_row : (xs : List Field) (name : List ℕ)
    → list_any (λ n. is_at (λ (x : Field). bytes_eq x.name name) (slice_get xs n)) (field_row name xs) ≡ list_any (λ (x : Field). bytes_eq x.name name) xs
unfolding field_row
field_in_row xs name = any_in_row (λ (x : Field). bytes_eq x.name name) (λ (x : Field). bytes_eq x.name name) xs (λ x h. h)

pub method_in_row : (ms : List ScriptMethod) (name : List ℕ)
    → list_any (λ n. is_at (λ (x : ScriptMethod). bytes_eq x.function.name name) (slice_get ms n)) (method_row name ms)
    ≡ list_any (λ (x : ScriptMethod). bytes_eq x.function.name name) ms
unfolding method_row
method_in_row ms name =
    any_in_row (λ (x : ScriptMethod). bytes_eq x.function.name name) (λ (x : ScriptMethod). bytes_eq x.function.name name) ms (λ x h. h)

-- ---- members of the families of some numbers

found_some : (f : Field → FoundField) (p : Field → Bool) (xs : List Field) → is_some (option_map f (find p xs)) ≡ list_any p xs
found_some f p [] = refl
found_some f p (x ∷ xs) = by (p x) (found_some f p xs)
  where
    by : (b : Bool) → is_some (option_map f (find p xs)) ≡ list_any p xs → is_some (option_map f (if b then Some x else find p xs)) ≡ (b || list_any p xs)
    by true h = refl
    by false h = h

either_some : {A : Type 0} (a b : Option A) → is_some (option_or a b) ≡ (is_some a || is_some b)
either_some None b = refl
either_some (Some x) b = refl

mixed : (a b c d : Bool) → ((a || b) || (c || d)) ≡ ((a || c) || (b || d))
mixed true b c d = refl
mixed false true true d = refl
mixed false true false d = refl
mixed false false c d = refl

declared_by : (name : List ℕ) (n : ℕ) (f : Family) (ks : List Numbered)
    → (is_some (first_field name ((n, f) ∷ ks)) || list_any (declares_method name) ((n, f) ∷ ks))
    ≡ (declares name (Some f) || (is_some (first_field name ks) || list_any (declares_method name) ks))
declared_by name n f ks =
    let own : is_some (own_field name (n, f)) ≡ list_any (λ (x : Field). bytes_eq x.name name) f.fields = found_some (field_of n) (λ (x : Field). bytes_eq x.name name) f.fields in
    ap (λ b. b || list_any (declares_method name) ((n, f) ∷ ks)) (either_some (own_field name (n, f)) (first_field name ks) ∙ ap (λ b. b || is_some (first_field name ks)) own)
    ∙ mixed (list_any (λ (x : Field). bytes_eq x.name name) f.fields) (is_some (first_field name ks)) (declares_method name (n, f)) (list_any (declares_method name) ks)

declared_at : (name : List ℕ) (n : ℕ) (o : Option Family) (ks : List Numbered)
    → (is_some (first_field name (with_family n o ks)) || list_any (declares_method name) (with_family n o ks))
    ≡ (declares name o || (is_some (first_field name ks) || list_any (declares_method name) ks))
declared_at name n None ks = refl
declared_at name n (Some f) ks = declared_by name n f ks

declared_among : (fs : List Family) (name : List ℕ) (ns : List ℕ)
    → (is_some (first_field name (families_at fs ns)) || list_any (declares_method name) (families_at fs ns)) ≡ list_any (λ n. declares name (slice_get fs n)) ns
declared_among fs name [] = refl
declared_among fs name (n ∷ ns) =
    declared_at name n (slice_get fs n) (families_at fs ns) ∙ ap (λ b. declares name (slice_get fs n) || b) (declared_among fs name ns)

pub member_known : (fs : List Family) (c : ℕ) (name : List ℕ) (ns : List ℕ) → families_at fs ns ≡ kin_of fs c
    → list_any (λ n. declares name (slice_get fs n)) ns ≡ has_member fs c name
unfolding field_named has_method
member_known fs c name ns h =
    sym (declared_among fs name ns) ∙ ap (λ ks. is_some (first_field name ks) || list_any (declares_method name) ks) h
