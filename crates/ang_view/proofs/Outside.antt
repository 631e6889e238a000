-- The types of a group that a declaration names, looked for by their names: there is one where there is one among all numbers that the
-- declaration names.
use Rattle.std.proofs.Common.{inl, inr, ◌≡◌, ℕ, ◌+◌, ◌<◌, ◌==◌, Bool, true, false, cond, not, ◌&&◌, ◌||◌, List, [], ◌∷◌, map, filter, Option, Some, None, refl, sym, ap, ◌∙◌, arith}
use Rattle.std.specs.List.{list_any, range_with_len}
use Rattle.std.proofs.lemmas.Bool.Decides.{eqb_tells}
use Rattle.std.proofs.lemmas.List.Folds.{list_any-append}
use Rattle.ang_kinds.specs.declared.mask.EntityNo.{EntityNo}
use Rattle.ang_kinds.specs.declared.primitive.Primitive.{Primitive}
use Rattle.ang_kinds.specs.declared.types.Param.{Param}
use Rattle.ang_kinds.specs.declared.types.Signature.{Signature}
use Rattle.ang_kinds.specs.declared.types.TypeRef.{TypeRef}
use Rattle.ang_kinds.specs.declared.types.TypeRef.TheVariants.{Void, Plain}
use Rattle.ang_view.specs.declared.entry.Entry.{Entry}
use Rattle.ang_view.specs.declared.group.Group.{Group}
use Rattle.ang_view.specs.Groups.{is_in}
use Rattle.ang_view.specs.Hidden.{numbers_of}
use Rattle.ang_view.specs.Named.{find, has_name, is_type_entry}
use Rattle.ang_view.specs.Outside.{declared_in, owner_in, signature_in, spelled_here, spelled_in}
use Rattle.ang_view.specs.Registration.{RegistrationList, entry_at, is_named_by, is_type, named}
use Rattle.ang_view.specs.SeenTypes.{is_spelled_type}
use Rattle.ang_view.proofs.Grouping.{none_at}
use Rattle.ang_view.proofs.Named.{range_more}
use Rattle.ang_view.proofs.SeenTypes.{and_false, and_yes, by_one, by_owner, by_signature, inside, is_spelled_any, names_nothing, no_parameter, no_plain, no_void, one_parameter, over_or}

-- ---- tests of some numbers

kept_step : (q : ℕ → Bool) (b : Bool) (n : ℕ) (hs : List ℕ) (r : Bool) → list_any q hs ≡ r → list_any q (cond b (n ∷ hs) hs) ≡ ((q n && b) || r)
kept_step q true n hs r e = λ i. sym (and_yes (q n)) i || e i
kept_step q false n hs r e = e ∙ ap (λ c. c || r) (sym (and_false (q n)))

-- one that passes two tests
any_kept : (q f : ℕ → Bool) (ns : List ℕ) → list_any q (filter f ns) ≡ list_any (λ n. q n && f n) ns
any_kept q f [] = refl
any_kept q f (n ∷ ns) = kept_step q (f n) n (filter f ns) (list_any (λ k. q k && f k) ns) (any_kept q f ns)

either : (a b h fs gs : Bool) → h ≡ (fs || gs) → ((a || b) || h) ≡ ((a || fs) || (b || gs))
either true b h fs gs e = refl
either false true h true gs e = refl
either false true h false gs e = refl
either false false h fs gs e = e

-- one that passes one of two tests
any_or : (f g : ℕ → Bool) (ns : List ℕ) → list_any (λ n. f n || g n) ns ≡ (list_any f ns || list_any g ns)
any_or f g [] = refl
any_or f g (n ∷ ns) = either (f n) (g n) (list_any (λ k. f k || g k) ns) (list_any f ns) (list_any g ns) (any_or f g ns)

any_of_none : (f : ℕ → Bool) → ((n : ℕ) → f n ≡ false) → (ns : List ℕ) → list_any f ns ≡ false
any_of_none f h [] = refl
any_of_none f h (n ∷ ns) = λ i. h n i || any_of_none f h ns i

same_number : (t : ℕ → Bool) (k n : ℕ) → (t n && (k == n)) ≡ (t k && (k == n))
same_number t k n =
    elim (eqb_tells k n) [
      | inl e ↦ λ i. t (sym e.1 i) && (k == n)
      | inr e ↦ ap (λ b. t n && b) e.0 ∙ and_false (t n) ∙ sym (ap (λ b. t k && b) e.0 ∙ and_false (t k))
    ]

-- a test of one number
any_one : (t : ℕ → Bool) (k : ℕ) (ns : List ℕ) → list_any (λ n. t n && (k == n)) ns ≡ (t k && list_any (λ n. k == n) ns)
any_one t k [] = sym (and_false (t k))
any_one t k (n ∷ ns) = (λ i. same_number t k n i || any_one t k ns i) ∙ sym (over_or (t k) (k == n) (list_any (λ j. k == j) ns))

both_and : (a b c : Bool) → (a && (b && c)) ≡ ((a && b) && c)
both_and true b c = refl
both_and false b c = refl

-- ---- of a group

module _ (R : RegistrationList) (g : Group) where
  owner_among : (owner : Option EntityNo) → list_any (λ n. is_in g n && by_owner owner (entry_at R n) n) (numbers_of R) ≡ owner_in R g owner
  owner_among None =
      any_of_none (λ n. is_in g n && (is_type_entry (entry_at R n) && false))
      (λ n. ap (λ b. is_in g n && b) (and_false (is_type_entry (entry_at R n))) ∙ and_false (is_in g n)) (numbers_of R)
  owner_among (Some e) =
      let from_zero : e.0 ≡ 0 + e.0 = omega arith in
      (λ i. list_any (λ n. both_and (is_in g n) (is_type_entry (entry_at R n)) (e.0 == n) i) (numbers_of R))
      ∙ any_one (λ n. is_in g n && is_type_entry (entry_at R n)) e.0 (numbers_of R)
      ∙ sym (both_and (is_in g e.0) (is_type_entry (entry_at R e.0)) (list_any (λ n. e.0 == n) (numbers_of R)))
      ∙ ap (λ k. is_in g e.0 && (is_type_entry (entry_at R e.0) && list_any (λ n. k == n) (numbers_of R))) from_zero
      ∙ ap (λ b. is_in g e.0 && b) (inside R 0 e.0)

  parameters_among : (ps : List Param)
      → list_any (λ n. is_in g n && is_spelled_any ps (entry_at R n)) (numbers_of R) ≡ list_any (λ (p : Param). spelled_in R g p.ty) ps
  parameters_among [] =
      any_of_none (λ n. is_in g n && is_spelled_any [] (entry_at R n))
      (λ n. ap (λ b. is_in g n && b) (no_parameter (entry_at R n)) ∙ and_false (is_in g n)) (numbers_of R)
  parameters_among (p ∷ ps) =
      (λ i. list_any (λ n. is_in g n && one_parameter p ps (entry_at R n) i) (numbers_of R))
      ∙ (λ i. list_any (λ n. over_or (is_in g n) (is_spelled_type p.ty (entry_at R n)) (is_spelled_any ps (entry_at R n)) i) (numbers_of R))
      ∙ any_or (λ n. spelled_here g p.ty n (entry_at R n)) (λ n. is_in g n && is_spelled_any ps (entry_at R n)) (numbers_of R)
      ∙ ap (λ b. spelled_in R g p.ty || b) (parameters_among ps)

  signature_among : (s : Signature) → list_any (λ n. is_in g n && by_signature s (entry_at R n)) (numbers_of R) ≡ signature_in R g s
  signature_among s =
      (λ i. list_any (λ n. over_or (is_in g n) (is_spelled_type s.result (entry_at R n)) (is_spelled_any s.params (entry_at R n)) i) (numbers_of R))
      ∙ any_or (λ n. spelled_here g s.result n (entry_at R n)) (λ n. is_in g n && is_spelled_any s.params (entry_at R n)) (numbers_of R)
      ∙ ap (λ b. spelled_in R g s.result || b) (parameters_among s.params)

  -- all types that a declaration names
  pub declared_among : (x : Entry) → declared_in R g x ≡ list_any (is_in g) (named R x)
  unfolding named
  declared_among x = by (is_type x.kind) refl
    where
      by : (b : Bool) → is_type x.kind ≡ b
          → (not b && (owner_in R g x.owner || signature_in R g x.signature)) ≡ list_any (is_in g) (filter (λ n. is_named_by x n (entry_at R n)) (numbers_of R))
      by true e =
          sym (
          any_kept (is_in g) (λ n. is_named_by x n (entry_at R n)) (numbers_of R)
          ∙ any_of_none (λ n. is_in g n && is_named_by x n (entry_at R n))
          (λ n. ap (λ b. is_in g n && b) (names_nothing x n (entry_at R n) e) ∙ and_false (is_in g n)) (numbers_of R)
          )
      by false e =
          sym (
          any_kept (is_in g) (λ n. is_named_by x n (entry_at R n)) (numbers_of R)
          ∙ (λ i. list_any (λ n. is_in g n && by_one x n (entry_at R n) e i) (numbers_of R))
          ∙ (λ i. list_any (λ n. over_or (is_in g n) (by_owner x.owner (entry_at R n) n) (by_signature x.signature (entry_at R n)) i) (numbers_of R))
          ∙ any_or (λ n. is_in g n && by_owner x.owner (entry_at R n) n) (λ n. is_in g n && by_signature x.signature (entry_at R n)) (numbers_of R)
          ∙ (λ i. owner_among x.owner i || signature_among x.signature i)
          )

  -- ---- found by the name

  pub nothing_in : (ty : TypeRef) → ((o : Option Entry) → is_spelled_type ty o ≡ false) → false ≡ spelled_in R g ty
  nothing_in ty h =
      sym (any_of_none (λ n. spelled_here g ty n (entry_at R n)) (λ n. ap (λ b. is_in g n && b) (h (entry_at R n)) ∙ and_false (is_in g n)) (numbers_of R))

  -- `void` and primitive types name nothing
  pub void_in : (ty : TypeRef) → ty ≡ Void → false ≡ spelled_in R g ty
  void_in ty is = nothing_in Void no_void ∙ ap (spelled_in R g) (sym is)

  pub plain_in : (ty : TypeRef) (p : Primitive) → ty ≡ Plain p → false ≡ spelled_in R g ty
  plain_in ty p is = nothing_in (Plain p) (no_plain p) ∙ ap (spelled_in R g) (sym is)

  by_number : (r : ℕ → Bool) (es : List EntityNo) → list_any (λ (e : EntityNo). r e.0) es ≡ list_any r (map (λ (e : EntityNo). e.0) es)
  by_number r [] = refl
  by_number r (e ∷ es) = ap (λ b. r e.0 || b) (by_number r es)

  named_too : (i s h : Bool) → (s ≡ true → h ≡ true) → ((i && s) && h) ≡ (i && s)
  named_too true true h f = f refl
  named_too true false h f = refl
  named_too false s h f = refl

  -- what is tested of the entries of a name
  pub found_in : (ty : TypeRef) (name : List ℕ) (es : List EntityNo)
      → map (λ (e : EntityNo). e.0) es ≡ find R name → ((o : Option Entry) → is_spelled_type ty o ≡ true → has_name name o ≡ true)
      → list_any (λ (e : EntityNo). spelled_here g ty e.0 (entry_at R e.0)) es ≡ spelled_in R g ty
  unfolding find
  found_in ty name es found wide =
      by_number (λ n. spelled_here g ty n (entry_at R n)) es
      ∙ ap (list_any (λ n. spelled_here g ty n (entry_at R n))) found
      ∙ any_kept (λ n. spelled_here g ty n (entry_at R n)) (λ n. has_name name (entry_at R n)) (numbers_of R)
      ∙ (λ i. list_any (λ n. named_too (is_in g n) (is_spelled_type ty (entry_at R n)) (has_name name (entry_at R n)) (wide (entry_at R n)) i) (numbers_of R))

-- ---- number by number

pub none_yet : (f : ℕ → Bool) (n : ℕ) → list_any f (range_with_len 0 n) ≡ false → f n ≡ false → list_any f (range_with_len 0 (n + 1)) ≡ false
none_yet f n before here =
    ap (list_any f) (range_more n) ∙ list_any-append f (range_with_len 0 n) (n ∷ []) ∙ (λ i. before i || (here i || false))

-- one that passes
pub one_at : (f : ℕ → Bool) (n k : ℕ) → k < n → f k ≡ true → true ≡ list_any f (range_with_len 0 n)
one_at f n k low passes = by (list_any f (range_with_len 0 n)) refl
  where
    by : (b : Bool) → list_any f (range_with_len 0 n) ≡ b → true ≡ b
    by true e = refl
    by false e = sym passes ∙ none_at f 0 n k (omega arith) (omega (arith, low)) e

-- ---- one entry: outside the group, and what it names

pub names_it : (b c : Bool) → b ≡ false → c ≡ true → (not b && c) ≡ true
names_it true c e f = cc
names_it false c e f = f

pub names_none : (b c : Bool) → c ≡ false → (not b && c) ≡ false
names_none true c e = refl
names_none false c e = e

pub stays_in : (b c : Bool) → b ≡ true → (not b && c) ≡ false
stays_in true c e = refl
stays_in false c e = cc
