-- A text that is written in pieces.
use Rattle.std.specs.Prelude.{Result, Ok, Err, OnErr, flat_map, drop, ◌<◌, get_or}
use Rattle.std.proofs.Common.{◌≡◌, ℕ, zero, suc, ◌+◌, ◌≤◌, List, [], ◌∷◌, ◌++◌, length, take, Option, Some, None, refl, sym, ap, subst, ◌∙◌, arith, append_assoc, append-nil}
use Rattle.std.specs.Io.KnownBytes.{Appends}
use Rattle.std.proofs.lemmas.List.{length-append}
use Rattle.asrun_session.specs.Writing.{HasFront}
use Rattle.asrun_session.specs.Pieces.{Holds}
use Rattle.asrun_session.proofs.Appending.{appends_both}

take_within : (n : ℕ) (xs ys : List ℕ) → n ≤ length xs → take n (xs ++ ys) ≡ take n xs
take_within zero xs ys le = refl
take_within (suc n) [] ys le = absurd (omega (arith, le))
take_within (suc n) (x ∷ xs) ys le = ap (λ l. x ∷ l) (take_within n xs ys (omega (arith, le)))

take_past : (xs ys : List ℕ) (n : ℕ) → take (length xs + n) (xs ++ ys) ≡ xs ++ take n ys
take_past [] ys n = ap (λ k. take k ys) (let e : 0 + n ≡ n = omega arith in e)
take_past (x ∷ xs) ys n = let e : suc (length xs) + n ≡ suc (length xs + n) = omega arith in ap (λ k. take k (x ∷ (xs ++ ys))) e ∙ ap (λ l. x ∷ l) (take_past xs ys n)

appends_nothing : (a : Option (List ℕ)) → Appends a a []
appends_nothing None = tt
appends_nothing (Some xs) = sym (append-nil xs)

-- nothing of a text is a front of it
pub front_none : (a : Option (List ℕ)) (text : List ℕ) → HasFront a a text
front_none a text = record { count = 0; within = omega arith; printed = appends_nothing a }

-- a front of a text is a front of a longer one
pub front_more : (a b : Option (List ℕ)) (xs ys : List ℕ) → HasFront a b xs → HasFront a b (xs ++ ys)
front_more a b xs ys h = record {
  count = h.count;
  within = let long = length-append xs ys in omega (arith, h.within, long);
  printed = subst (λ l. Appends a b l) (sym (take_within h.count xs ys h.within)) h.printed;
}

-- all of it is kept back
pub held_all : (a : Option (List ℕ)) (text : List ℕ) → Holds a a text text
held_all a text = record { written = []; printed = appends_nothing a; whole = refl }

-- all of it is written
pub held_none : (a b : Option (List ℕ)) (text : List ℕ) → Appends a b text → Holds a b [] text
held_none a b text p = record { written = text; printed = p; whole = append-nil text }

-- one text and then another one
pub held_join : (a b c : Option (List ℕ)) (kept left xs ys : List ℕ)
    → Holds a b kept xs → Holds b c left (kept ++ ys) → Holds a c left (xs ++ ys)
held_join a b c kept left xs ys h k = record {
  written = h.written ++ k.written;
  printed = appends_both a b c h.written k.written h.printed k.printed;
  whole = append_assoc h.written k.written left ∙ ap (λ l. h.written ++ l) k.whole ∙ sym (append_assoc h.written kept ys) ∙ ap (λ l. l ++ ys) h.whole;
}

-- one text and then a front of another one
pub front_join : (a b c : Option (List ℕ)) (kept xs ys : List ℕ)
    → Holds a b kept xs → HasFront b c (kept ++ ys) → HasFront a c (xs ++ ys)
front_join a b c kept xs ys h f =
    subst (λ l. HasFront a c l) (sym (append_assoc h.written kept ys) ∙ ap (λ l. l ++ ys) h.whole) (record {
      count = length h.written + f.count;
      within = let long = length-append h.written (kept ++ ys) in omega (arith, long, f.within);
      printed = subst (λ l. Appends a c l) (sym (take_past h.written (kept ++ ys) f.count))
          (appends_both a b c h.written (take f.count (kept ++ ys)) h.printed f.printed);
    })

-- what was written is a front
pub held_front : (a b : Option (List ℕ)) (kept text : List ℕ) → Holds a b kept text → HasFront a b text
held_front a b kept text h =
    subst (λ l. HasFront a b l) (append-nil text) (front_join a b b kept text [] h (front_none b (kept ++ [])))

-- one text and then another one, all of it
pub written_join : (a b c : Option (List ℕ)) (kept xs ys : List ℕ)
    → Holds a b kept xs → Appends b c (kept ++ ys) → Appends a c (xs ++ ys)
written_join a b c kept xs ys h p =
    subst (λ l. Appends a c l) (sym (append_assoc h.written kept ys) ∙ ap (λ l. l ++ ys) h.whole)
    (appends_both a b c h.written (kept ++ ys) h.printed p)

-- nothing is printed yet, behind what is kept back
pub held_start : (a : Option (List ℕ)) (kept : List ℕ) → Holds a a kept (kept ++ [])
held_start a kept = record { written = []; printed = appends_nothing a; whole = sym (append-nil kept) }

-- nothing is printed yet, and nothing is kept back
pub held_clear : (a : Option (List ℕ)) (kept : List ℕ) → kept ≡ [] → Holds a a kept []
held_clear a kept e = record { written = []; printed = appends_nothing a; whole = e }

pub on_err : {A E P : Type 0} (r : Result A E) → P → OnErr r P
on_err (Ok a) p = tt
on_err (Err e) p = p

module _ {X : Type 0} (f : X → List ℕ) where
  one_more : (xs : List X) (i : ℕ) (x : X) → i < length xs → x ≡ get_or xs i x
      → flat_map f (take (i + 1) xs) ≡ flat_map f (take i xs) ++ f x
  one_more [] i x lt e = absurd (omega (arith, lt))
  one_more (y ∷ xs) zero x lt e = append-nil (f y) ∙ ap f (sym e)
  one_more (y ∷ xs) (suc i) x lt e =
      let next : suc i + 1 ≡ suc (i + 1) = omega arith in
      ap (λ n. flat_map f (take n (y ∷ xs))) next ∙ ap (λ l. f y ++ l) (one_more xs i x (omega (arith, lt)) e) ∙ sym (append_assoc (f y) (flat_map f (take i xs)) (f x))

  all_of : (xs : List X) (i : ℕ) (x : X) → i < length xs → x ≡ get_or xs i x
      → (flat_map f (take i xs) ++ f x) ++ flat_map f (drop (i + 1) xs) ≡ flat_map f xs
  all_of [] i x lt e = absurd (omega (arith, lt))
  all_of (y ∷ xs) zero x lt e = ap (λ z. f z ++ flat_map f xs) e
  all_of (y ∷ xs) (suc i) x lt e =
      let next : suc i + 1 ≡ suc (i + 1) = omega arith in
      ap (λ n. ((f y ++ flat_map f (take i xs)) ++ f x) ++ flat_map f (drop n (y ∷ xs))) next
      ∙ ap (λ l. l ++ flat_map f (drop (i + 1) xs)) (append_assoc (f y) (flat_map f (take i xs)) (f x))
      ∙ append_assoc (f y) (flat_map f (take i xs) ++ f x) (flat_map f (drop (i + 1) xs))
      ∙ ap (λ l. f y ++ l) (all_of xs i x (omega (arith, lt)) e)

  taken_whole : (xs : List X) (i : ℕ) → length xs ≤ i → take i xs ≡ xs
  taken_whole [] zero le = refl
  taken_whole [] (suc i) le = refl
  taken_whole (y ∷ xs) zero le = absurd (omega (arith, le))
  taken_whole (y ∷ xs) (suc i) le = ap (λ l. y ∷ l) (taken_whole xs i (omega (arith, le)))

  -- a line more is printed
  pub lines_turn : (a b c : Option (List ℕ)) (kept left given : List ℕ) (xs : List X) (i : ℕ) (x : X)
      → Holds a b kept (given ++ flat_map f (take i xs)) → i < length xs → x ≡ get_or xs i x → Holds b c left (kept ++ f x)
      → Holds a c left (given ++ flat_map f (take (i + 1) xs))
  lines_turn a b c kept left given xs i x h lt is k =
      subst (λ l. Holds a c left l)
      (append_assoc given (flat_map f (take i xs)) (f x) ∙ ap (λ l. given ++ l) (sym (one_more xs i x lt is)))
      (held_join a b c kept left (given ++ flat_map f (take i xs)) (f x) h k)

  -- a front of a line more is printed
  pub lines_front : (a b c : Option (List ℕ)) (kept given : List ℕ) (xs : List X) (i : ℕ) (x : X)
      → Holds a b kept (given ++ flat_map f (take i xs)) → i < length xs → x ≡ get_or xs i x → HasFront b c (kept ++ f x)
      → HasFront a c (given ++ flat_map f xs)
  lines_front a b c kept given xs i x h lt is k =
      let front = flat_map f (take i xs) in
      let more = flat_map f (drop (i + 1) xs) in
      subst (λ l. HasFront a c l)
      (ap (λ l. l ++ more) (append_assoc given front (f x)) ∙ append_assoc given (front ++ f x) more ∙ ap (λ l. given ++ l) (all_of xs i x lt is))
      (front_more a c ((given ++ front) ++ f x) more (front_join a b c kept (given ++ front) (f x) h k))

  -- all lines are printed
  pub lines_all : (a b : Option (List ℕ)) (kept given : List ℕ) (xs : List X) (i : ℕ)
      → Holds a b kept (given ++ flat_map f (take i xs)) → length xs ≤ i → Holds a b kept (given ++ flat_map f xs)
  lines_all a b kept given xs i h le = subst (λ l. Holds a b kept (given ++ flat_map f l)) (taken_whole xs i le) h
