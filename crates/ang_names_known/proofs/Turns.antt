-- Turns of a loop over what each item gives by those in front of it.
use Rattle.std.specs.Prelude.{ℕ, ◌≡◌, ◌<◌, ◌+◌, List, ◌++◌, length, take, drop, slice_index_or}
use Rattle.std.proofs.Common.{sym, ap, ◌∙◌}
use Rattle.std.proofs.lemmas.List.{drop_more, take_more}
use Rattle.ang_names_known.specs.Items.{each_after}

module _ {A B : Type 0} (f : List A → A → List B) where
  -- from turn i to the next one
  pub each_after-turn : (xs : List A) (i : ℕ) (d : A) → i < length xs
      → each_after f (take i xs) (drop i xs) ≡ f (take i xs) (slice_index_or xs i d) ++ each_after f (take (i + 1) xs) (drop (i + 1) xs)
  each_after-turn xs i d lt =
      ap (each_after f (take i xs)) (drop_more xs i d lt)
      ∙ ap (λ before. f (take i xs) (slice_index_or xs i d) ++ each_after f before (drop (i + 1) xs)) (sym (take_more xs i d lt))
