-- What the table's calls do, as rows of items.
use Rattle.std.proofs.Common.{◌≡◌, ℕ, ◌==◌, Bool, true, false, cond, ◌&&◌, List, [], ◌∷◌, ◌++◌, Option, Some, None, refl, sym, ap, ◌∙◌, arith, true≢false, bytes_eq}
use Rattle.std.specs.Prelude.{unwrap_or, Result, Ok, Err, IfNone, IfSome, OnErr, OnOk}
use Rattle.std.specs.Map.{lookup, set_value}
use Rattle.std.proofs.lemmas.Slice.Eq.{bytes_eq-Decides}
use Rattle.indexmap.specs.IndexMap.{insert_entry}
use Rattle.ang_index.specs.declared.key.Key.{Key}
use Rattle.ang_index.specs.Rows.{is_under, items_at, Changes, Puts, rows_of, is_asked, lookup_asked}

-- ---- an answer that may be an error

pub on_ok : {A E P Q : Type 0} (r : Result A E) → (P → Q) → OnOk r P → OnOk r Q
on_ok (Ok a) f h = f h
on_ok (Err e) f h = h

pub on_err : {A E P Q : Type 0} (r : Result A E) → (P → Q) → OnErr r P → OnErr r Q
on_err (Ok a) f h = h
on_err (Err e) f h = f h

-- ---- an answer that may be none

pub if_some : {A : Type 0} {P Q : A → Type 0} (r : Option A) → ((x : A) → P x → Q x) → IfSome r P → IfSome r Q
if_some (Some a) f h = f a h
if_some None f h = h

pub if_none : {A P Q : Type 0} (r : Option A) → (P → Q) → IfNone r P → IfNone r Q
if_none (Some a) f h = h
if_none None f h = f h

-- ---- a scope's number and a name

and_gives : (b c : Bool) → (b && c) ≡ true → (b ≡ true) × (c ≡ true)
and_gives true c e = (refl, e)
and_gives false c e = cc

and_from : (b c : Bool) → b ≡ true → c ≡ true → (b && c) ≡ true
and_from b c e f = cc

alike : (b c : Bool) → (b ≡ true → c ≡ true) → (c ≡ true → b ≡ true) → b ≡ c
alike true true f g = refl
alike true false f g = absurd (true≢false (sym (f refl)))
alike false true f g = absurd (true≢false (sym (g refl)))
alike false false f g = refl

itself : (n : ℕ) → (n == n) ≡ true
itself n = search arith

two_from : (a b : ℕ) (m n : List ℕ) → a ≡ b → m ≡ n → (a == b && bytes_eq m n) ≡ true
two_from a b m n e f = and_from _ _ (ap (λ k. a == k) (sym e) ∙ itself a) ((bytes_eq-Decides m n).1 f)

two_are : (a b : ℕ) (m n : List ℕ) → (a == b && bytes_eq m n) ≡ true → (a ≡ b) × (m ≡ n)
two_are a b m n e =
    let r = and_gives (a == b) (bytes_eq m n) e in
    let tells : (a == b) ≡ true = r.0 in
    let is : a ≡ b = search (arith, tells) in
    (is, (bytes_eq-Decides m n).0 r.1)

two_flipped : (a b : ℕ) (m n : List ℕ) → (a == b && bytes_eq m n) ≡ (b == a && bytes_eq n m)
two_flipped a b m n =
    alike _ _
    (λ e. let r = two_are a b m n e in two_from b a n m (sym r.0) (sym r.1))
    (λ e. let r = two_are b a n m e in two_from a b m n (sym r.0) (sym r.1))

flipped : (s : ℕ) (name : List ℕ) (k : Key) → is_asked s name k ≡ is_under s name (k.scope, k.name.items)
flipped s name k = two_flipped s k.scope name k.name.items

-- a key that is not the one that is looked for stands under other two
apart : (s t : ℕ) (name other : List ℕ) (k : Key) → is_asked s name k ≡ false → is_under t other (k.scope, k.name.items) ≡ true → is_under t other (s, name) ≡ true → ⊥
apart s t name other k is dt ct =
    let p = two_are k.scope t k.name.items other dt in
    let q = two_are s t name other ct in
    true≢false (sym (two_from s k.scope name k.name.items (q.0 ∙ sym p.0) (q.1 ∙ sym p.1)) ∙ is)

-- ---- what is found

module _ {T : Type 0} where
  found_by : (b : Bool) (v r : List T) (l : Option (List T)) → r ≡ unwrap_or l [] → cond b v r ≡ unwrap_or (cond b (Some v) l) []
  found_by true v r l e = refl
  found_by false v r l e = e

  found : (s : ℕ) (name : List ℕ) (es : List (Key × List T)) → items_at s name (rows_of es) ≡ unwrap_or (lookup_asked s name es) []
  found s name [] = refl
  found s name (e ∷ es) =
      ap (λ b. cond b e.1 (items_at s name (rows_of es))) (sym (flipped s name e.0))
      ∙ found_by (is_asked s name e.0) e.1 (items_at s name (rows_of es)) (lookup_asked s name es) (found s name es)

  pub none_there : (s : ℕ) (name : List ℕ) (es : List (Key × List T)) → lookup_asked s name es ≡ None → [] ≡ items_at s name (rows_of es)
  none_there s name es h = sym (found s name es ∙ ap (λ l. unwrap_or l []) h)

  pub row_there : (s : ℕ) (name : List ℕ) (es : List (Key × List T)) (row : List T) → lookup_asked s name es ≡ Some row → row ≡ items_at s name (rows_of es)
  row_there s name es row h = sym (found s name es ∙ ap (λ l. unwrap_or l []) h)

  -- ---- an item more in a row that is there

  step : (d c : Bool) (v r more : List T) (x : T) → (d ≡ true → c ≡ true → ⊥) → more ≡ cond c (r ++ x ∷ []) r → cond d v more ≡ cond c (cond d v r ++ x ∷ []) (cond d v r)
  step true true v r more x never e = absurd (never refl refl)
  step true false v r more x never e = refl
  step false c v r more x never e = e

  in_row : (d c : Bool) (row v r : List T) (x : T) → d ≡ c → v ≡ row → cond d (row ++ x ∷ []) r ≡ cond c (cond d v r ++ x ∷ []) (cond d v r)
  in_row true true row v r x e at = ap (λ r. r ++ x ∷ []) (sym at)
  in_row true false row v r x e at = absurd (true≢false e)
  in_row false true row v r x e at = absurd (true≢false (sym e))
  in_row false false row v r x e at = refl

  some_same : (v row : List T) → Some v ≡ Some row → v ≡ row
  some_same v row e = cc

  present : (s : ℕ) (name : List ℕ) (x : T) (es : List (Key × List T)) (row : List T) → lookup_asked s name es ≡ Some row
      → Puts (rows_of es) (rows_of (set_value (is_asked s name) es (row ++ x ∷ []))) s name x
  present s name x [] row h t other = cc
  present s name x (e ∷ es) row h t other = by (is_asked s name e.0) refl (λ g. present s name x es row g t other) h
    where
      by : (b : Bool) → is_asked s name e.0 ≡ b
          → (lookup_asked s name es ≡ Some row → items_at t other (rows_of (set_value (is_asked s name) es (row ++ x ∷ [])))
          ≡ cond (is_under t other (s, name)) (items_at t other (rows_of es) ++ x ∷ []) (items_at t other (rows_of es)))
          → cond b (Some e.1) (lookup_asked s name es) ≡ Some row
          → items_at t other (rows_of (cond b ((e.0, row ++ x ∷ []) ∷ es) (e ∷ set_value (is_asked s name) es (row ++ x ∷ []))))
          ≡ cond (is_under t other (s, name)) (items_at t other (rows_of (e ∷ es)) ++ x ∷ []) (items_at t other (rows_of (e ∷ es)))
      by true is later h =
          let r = two_are s e.0.scope name e.0.name.items is in
          in_row _ _ row e.1 (items_at t other (rows_of es)) x (λ i. is_under t other (sym r.0 i, sym r.1 i)) (some_same e.1 row h)
      by false is later h = step _ _ e.1 (items_at t other (rows_of es)) _ x (apart s t name other e.0 is) (later h)

  pub present_puts : (s : ℕ) (name : List ℕ) (es new : List (Key × List T)) (row more : List T) (x : T)
      → lookup_asked s name es ≡ Some row → more ≡ row ++ x ∷ [] → new ≡ set_value (is_asked s name) es more
      → Puts (rows_of es) (rows_of new) s name x
  present_puts s name es new row more x h e is t other =
      ap (λ l. items_at t other (rows_of l)) (is ∙ ap (set_value (is_asked s name) es) e) ∙ present s name x es row h t other

  stays : (s : ℕ) (name : List ℕ) (es : List (Key × List T)) (row : List T) → lookup_asked s name es ≡ Some row → set_value (is_asked s name) es row ≡ es
  stays s name [] row h = refl
  stays s name (e ∷ es) row h = by (is_asked s name e.0) (stays s name es row) h
    where
      by : (b : Bool) → (lookup_asked s name es ≡ Some row → set_value (is_asked s name) es row ≡ es)
          → cond b (Some e.1) (lookup_asked s name es) ≡ Some row → cond b ((e.0, row) ∷ es) (e ∷ set_value (is_asked s name) es row) ≡ e ∷ es
      by true later h = ap (λ v. (e.0, v) ∷ es) (sym (some_same e.1 row h))
      by false later h = ap (λ r. e ∷ r) (later h)

  pub present_stays : (s : ℕ) (name : List ℕ) (es new : List (Key × List T)) (row same : List T)
      → lookup_asked s name es ≡ Some row → same ≡ row → new ≡ set_value (is_asked s name) es same → new ≡ es
  present_stays s name es new row same h e is = is ∙ ap (set_value (is_asked s name) es) e ∙ stays s name es row h

  -- ---- an item less in a row that is there

  set_found : (p : Key → Bool) (es : List (Key × List T)) (row less : List T) → lookup p es ≡ Some row → lookup p (set_value p es less) ≡ Some less
  set_found p [] row less h = cc
  set_found p (e ∷ es) row less h = by (p e.0) refl (set_found p es row less) h
    where
      by : (b : Bool) → p e.0 ≡ b → (lookup p es ≡ Some row → lookup p (set_value p es less) ≡ Some less)
          → cond b (Some e.1) (lookup p es) ≡ Some row → lookup p (cond b ((e.0, less) ∷ es) (e ∷ set_value p es less)) ≡ Some less
      by true is later h = ap (λ b. cond b (Some less) (lookup p es)) is
      by false is later h = ap (λ b. cond b (Some e.1) (lookup p (set_value p es less))) is ∙ later h

  set_back : (p : Key → Bool) (es : List (Key × List T)) (row less : List T) → lookup p es ≡ Some row → set_value p (set_value p es less) row ≡ es
  set_back p [] row less h = cc
  set_back p (e ∷ es) row less h = by (p e.0) refl (set_back p es row less) h
    where
      by : (b : Bool) → p e.0 ≡ b → (lookup p es ≡ Some row → set_value p (set_value p es less) row ≡ es)
          → cond b (Some e.1) (lookup p es) ≡ Some row → set_value p (cond b ((e.0, less) ∷ es) (e ∷ set_value p es less)) row ≡ e ∷ es
      by true is later h =
          ap (λ b. cond b ((e.0, row) ∷ es) ((e.0, less) ∷ set_value p es row)) is ∙ ap (λ v. (e.0, v) ∷ es) (sym (some_same e.1 row h))
      by false is later h =
          ap (λ b. cond b ((e.0, row) ∷ set_value p es less) (e ∷ set_value p (set_value p es less) row)) is ∙ ap (λ r. e ∷ r) (later h)

  pub present_takes : (s : ℕ) (name : List ℕ) (es new : List (Key × List T)) (row less : List T) (x : T)
      → lookup_asked s name es ≡ Some row → row ≡ less ++ x ∷ [] → new ≡ set_value (is_asked s name) es less
      → Puts (rows_of new) (rows_of es) s name x
  present_takes s name es new row less x h e is =
      let found : lookup_asked s name new ≡ Some less = ap (lookup (is_asked s name)) is ∙ set_found (is_asked s name) es row less h in
      let back : es ≡ set_value (is_asked s name) new row = sym (ap (λ n. set_value (is_asked s name) n row) is ∙ set_back (is_asked s name) es row less h) in
      present_puts s name new es less row x found e back

  pub present_none : (s : ℕ) (name : List ℕ) (es : List (Key × List T)) (row : List T) → lookup_asked s name es ≡ Some row → row ≡ [] → items_at s name (rows_of es) ≡ []
  present_none s name es row h e = sym (row_there s name es row h) ∙ e

  pub absent_none : (s : ℕ) (name : List ℕ) (es : List (Key × List T)) → lookup_asked s name es ≡ None → items_at s name (rows_of es) ≡ []
  absent_none s name es h = sym (none_there s name es h)

  -- ---- a row that is there, and changes

  step_by : (d c : Bool) (v r more : List T) (f : List T → List T) → (d ≡ true → c ≡ true → ⊥) → more ≡ cond c (f r) r → cond d v more ≡ cond c (f (cond d v r)) (cond d v r)
  step_by true true v r more f never e = absurd (never refl refl)
  step_by true false v r more f never e = refl
  step_by false c v r more f never e = e

  in_row_by : (d c : Bool) (row v r : List T) (f : List T → List T) → d ≡ c → v ≡ row → cond d (f row) r ≡ cond c (f (cond d v r)) (cond d v r)
  in_row_by true true row v r f e at = ap f (sym at)
  in_row_by true false row v r f e at = absurd (true≢false e)
  in_row_by false true row v r f e at = absurd (true≢false (sym e))
  in_row_by false false row v r f e at = refl

  present_by : (s : ℕ) (name : List ℕ) (f : List T → List T) (es : List (Key × List T)) (row : List T) → lookup_asked s name es ≡ Some row
      → Changes (rows_of es) (rows_of (set_value (is_asked s name) es (f row))) s name f
  present_by s name f [] row h t other = cc
  present_by s name f (e ∷ es) row h t other = by (is_asked s name e.0) refl (λ g. present_by s name f es row g t other) h
    where
      by : (b : Bool) → is_asked s name e.0 ≡ b
          → (lookup_asked s name es ≡ Some row → items_at t other (rows_of (set_value (is_asked s name) es (f row)))
          ≡ cond (is_under t other (s, name)) (f (items_at t other (rows_of es))) (items_at t other (rows_of es)))
          → cond b (Some e.1) (lookup_asked s name es) ≡ Some row
          → items_at t other (rows_of (cond b ((e.0, f row) ∷ es) (e ∷ set_value (is_asked s name) es (f row))))
          ≡ cond (is_under t other (s, name)) (f (items_at t other (rows_of (e ∷ es)))) (items_at t other (rows_of (e ∷ es)))
      by true is later h =
          let r = two_are s e.0.scope name e.0.name.items is in
          in_row_by _ _ row e.1 (items_at t other (rows_of es)) f (λ i. is_under t other (sym r.0 i, sym r.1 i)) (some_same e.1 row h)
      by false is later h = step_by _ _ e.1 (items_at t other (rows_of es)) _ f (apart s t name other e.0 is) (later h)

  pub present_changes : (s : ℕ) (name : List ℕ) (es new : List (Key × List T)) (row changed : List T) (f : List T → List T)
      → lookup_asked s name es ≡ Some row → changed ≡ f row → new ≡ set_value (is_asked s name) es changed
      → Changes (rows_of es) (rows_of new) s name f
  present_changes s name es new row changed f h e is t other =
      ap (λ l. items_at t other (rows_of l)) (is ∙ ap (set_value (is_asked s name) es) e) ∙ present_by s name f es row h t other

  -- ---- the first item of a name

  absent : (s : ℕ) (name : List ℕ) (x : T) (es : List (Key × List T)) (key : Key) → lookup_asked s name es ≡ None → key.scope ≡ s → key.name.items ≡ name
      → Puts (rows_of es) (rows_of (es ++ (key, x ∷ []) ∷ [])) s name x
  absent s name x [] key h p q t other = ap (λ b. cond b (x ∷ []) []) (λ i. is_under t other (p i, q i))
  absent s name x (e ∷ es) key h p q t other = by (is_asked s name e.0) refl (λ g. absent s name x es key g p q t other) h
    where
      by : (b : Bool) → is_asked s name e.0 ≡ b
          → (lookup_asked s name es ≡ None → items_at t other (rows_of (es ++ (key, x ∷ []) ∷ []))
          ≡ cond (is_under t other (s, name)) (items_at t other (rows_of es) ++ x ∷ []) (items_at t other (rows_of es)))
          → cond b (Some e.1) (lookup_asked s name es) ≡ None
          → items_at t other (rows_of (e ∷ es ++ (key, x ∷ []) ∷ []))
          ≡ cond (is_under t other (s, name)) (items_at t other (rows_of (e ∷ es)) ++ x ∷ []) (items_at t other (rows_of (e ∷ es)))
      by true is later h = cc
      by false is later h = step _ _ e.1 (items_at t other (rows_of es)) _ x (apart s t name other e.0 is) (later h)

  appended : (eq : Key → Key → Bool) (key : Key) (row : List T) (es : List (Key × List T)) → lookup (eq key) es ≡ None → insert_entry eq es key row ≡ es ++ (key, row) ∷ []
  appended eq key row [] h = refl
  appended eq key row (e ∷ es) h = by (eq key e.0) (appended eq key row es) h
    where
      by : (b : Bool) → (lookup (eq key) es ≡ None → insert_entry eq es key row ≡ es ++ (key, row) ∷ [])
          → cond b (Some e.1) (lookup (eq key) es) ≡ None → cond b ((e.0, row) ∷ es) (e ∷ insert_entry eq es key row) ≡ e ∷ es ++ (key, row) ∷ []
      by true later h = cc
      by false later h = ap (λ r. e ∷ r) (later h)

  pub absent_puts : (eq : Key → Key → Bool) (s : ℕ) (name : List ℕ) (es new : List (Key × List T)) (key : Key) (row : List T) (x : T)
      → lookup_asked s name es ≡ None → key.scope ≡ s → key.name.items ≡ name → row ≡ x ∷ []
      → ((k : Key) → eq key k ≡ is_asked key.scope key.name.items k) → new ≡ insert_entry eq es key row
      → Puts (rows_of es) (rows_of new) s name x
  absent_puts eq s name es new key row x h p q one same is t other =
      let missing : lookup (eq key) es ≡ None = (λ i. lookup (λ k. same k i) es) ∙ (λ i. lookup_asked (p i) (q i) es) ∙ h in
      ap (λ l. items_at t other (rows_of l)) (is ∙ appended eq key row es missing ∙ ap (λ r. es ++ (key, r) ∷ []) one)
      ∙ absent s name x es key h p q t other
