-- Words on lists that the definitions of a build's names and bodies share.
use Rattle.std.specs.Prelude.{Bool, true, false, List, [], ◌∷◌, ◌++◌}

abbrev pub is_empty : {A : Type 0} → List A → Bool
is_empty [] = true
is_empty (x ∷ xs) = false

-- the first of two lists, if it has an item
abbrev pub list_or : {A : Type 0} → List A → List A → List A
list_or [] later = later
list_or (x ∷ xs) later = x ∷ xs

-- what each item gives by those in front of it, where these were in front of the first one
abbrev pub each_after : {A B : Type 0} → (List A → A → List B) → List A → List A → List B
each_after f before [] = []
each_after f before (x ∷ xs) = f before x ++ each_after f (before ++ x ∷ []) xs
