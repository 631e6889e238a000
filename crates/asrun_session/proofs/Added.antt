-- Lines that are put after what is kept back.
use Rattle.std.specs.Prelude.{Result, Ok, Err, OnOk, OnErr, flat_map}
use Rattle.std.proofs.Common.{◌≡◌, ℕ, List, [], ◌∷◌, ◌++◌, Option, refl, sym, ap, subst, ◌∙◌, append_assoc, append-nil}
use Rattle.std.specs.Io.KnownBytes.{Appends}
use Rattle.asrun_session.specs.Pieces.{Holds, AddsLines, AddsFront}
use Rattle.asrun_session.specs.Writing.{HasFront}
use Rattle.asrun_session.proofs.Held.{held_start, held_join, front_join, front_more, front_none, held_front, written_join}

module _ {X : Type 0} (f : X → List ℕ) where
  flat_both : (xs ys : List X) → flat_map f (xs ++ ys) ≡ flat_map f xs ++ flat_map f ys
  flat_both [] ys = refl
  flat_both (x ∷ xs) ys = ap (λ l. f x ++ l) (flat_both xs ys) ∙ sym (append_assoc (f x) (flat_map f xs) (flat_map f ys))

  all_lines : (given : List ℕ) (xs ys : List X) → (given ++ flat_map f xs) ++ flat_map f ys ≡ given ++ flat_map f (xs ++ ys)
  all_lines given xs ys = append_assoc given (flat_map f xs) (flat_map f ys) ∙ ap (λ l. given ++ l) (sym (flat_both xs ys))

  -- none
  pub adds_none : (a : Option (List ℕ)) (kept : List ℕ) → AddsLines f a a kept kept
  adds_none a kept = record { lines = []; holds = held_start a kept }

  pub adds_front_none : (a : Option (List ℕ)) (kept : List ℕ) → AddsFront f a a kept
  adds_front_none a kept = record { lines = []; front = front_none a (kept ++ []) }

  -- one
  pub adds_one : (a b : Option (List ℕ)) (kept left : List ℕ) (x : X) → Holds a b left (kept ++ f x) → AddsLines f a b kept left
  adds_one a b kept left x h = record { lines = x ∷ []; holds = subst (λ l. Holds a b left (kept ++ l)) (sym (append-nil (f x))) h }

  pub adds_front_one : (a b : Option (List ℕ)) (kept : List ℕ) (x : X) → HasFront a b (kept ++ f x) → AddsFront f a b kept
  adds_front_one a b kept x h = record { lines = x ∷ []; front = subst (λ l. HasFront a b (kept ++ l)) (sym (append-nil (f x))) h }

  -- some, and then others
  pub adds_both : (a b c : Option (List ℕ)) (kept mid left : List ℕ) → AddsLines f a b kept mid → AddsLines f b c mid left → AddsLines f a c kept left
  adds_both a b c kept mid left h k = record {
    lines = h.lines ++ k.lines;
    holds = subst (λ l. Holds a c left l) (all_lines kept h.lines k.lines) (held_join a b c mid left (kept ++ flat_map f h.lines) (flat_map f k.lines) h.holds k.holds);
  }

  pub adds_then_front : (a b c : Option (List ℕ)) (kept mid : List ℕ) → AddsLines f a b kept mid → AddsFront f b c mid → AddsFront f a c kept
  adds_then_front a b c kept mid h k = record {
    lines = h.lines ++ k.lines;
    front = subst (λ l. HasFront a c l) (all_lines kept h.lines k.lines) (front_join a b c mid (kept ++ flat_map f h.lines) (flat_map f k.lines) h.holds k.front);
  }

  -- a front of them
  pub adds_front : (a b : Option (List ℕ)) (kept left : List ℕ) → AddsLines f a b kept left → AddsFront f a b kept
  adds_front a b kept left h = record { lines = h.lines; front = held_front a b left (kept ++ flat_map f h.lines) h.holds }

  -- ---- behind nothing, and before a last text

  -- a front of lines is one of these with the last text
  pub ends_front : (a b : Option (List ℕ)) (kept last : List ℕ) → kept ≡ [] → AddsFront f a b kept → (xs : List X) × HasFront a b (flat_map f xs ++ last)
  ends_front a b kept last none h = (
    h.lines,
    front_more a b (flat_map f h.lines) last (subst (λ k. HasFront a b (k ++ flat_map f h.lines)) none h.front),
  )

  -- and so are lines, of which some are kept back
  pub ends_held : (a b : Option (List ℕ)) (kept left last : List ℕ) → kept ≡ [] → AddsLines f a b kept left → (xs : List X) × HasFront a b (flat_map f xs ++ last)
  ends_held a b kept left last none h = ends_front a b kept last none (adds_front a b kept left h)

  -- and what was written of them with the last text
  pub ends_written : (a b c : Option (List ℕ)) (kept left last : List ℕ) → kept ≡ [] → AddsLines f a b kept left → HasFront b c (left ++ last)
      → (xs : List X) × HasFront a c (flat_map f xs ++ last)
  ends_written a b c kept left last none h k = (
    h.lines,
    subst (λ l. HasFront a c ((l ++ flat_map f h.lines) ++ last)) none (front_join a b c left (kept ++ flat_map f h.lines) last h.holds k),
  )

  -- all was written
  pub ends_whole : (a b c : Option (List ℕ)) (kept left last : List ℕ) → kept ≡ [] → AddsLines f a b kept left → Appends b c (left ++ last)
      → (xs : List X) × Appends a c (flat_map f xs ++ last)
  ends_whole a b c kept left last none h p = (
    h.lines,
    subst (λ l. Appends a c ((l ++ flat_map f h.lines) ++ last)) none (written_join a b c left (kept ++ flat_map f h.lines) last h.holds p),
  )

pub ok_to : {A E : Type 0} (r : Result A E) (S T : Type 0) → (S → T) → OnOk r S → OnOk r T
ok_to (Ok a) S T f h = f h
ok_to (Err e) S T f h = tt

pub err_to : {A E : Type 0} (r : Result A E) (S T : Type 0) → (S → T) → OnErr r S → OnErr r T
err_to (Ok a) S T f h = tt
err_to (Err e) S T f h = f h
