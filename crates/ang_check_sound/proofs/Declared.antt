-- The declarations of all sections declare what is listed of them, each in its turn.
use Rattle.std.specs.Prelude.{◌≡◌, ℕ, ◌+◌, List, [], ◌∷◌, ◌++◌, map}
use Rattle.std.proofs.Common.{refl, append_assoc}
use Rattle.ang_tree.specs.Declarations.{Decl}
use Rattle.ang_names_listed.specs.Sources.{Source}
use Rattle.ang_names_listed.specs.declared.listed.ListedDeclaration.{ListedDeclaration}
use Rattle.ang_names_listed.specs.Declarations.{declared_at, declared_from, declarations_from, declarations_of}
use Rattle.ang_check.specs.Bodies.{InSection, in_sections}

-- these declarations declare these, wherever they stand
abbrev pub Declare : List InSection → List ListedDeclaration → Type 0
Declare [] ds = ds ≡ []
Declare (x ∷ xs) ds =
    (script : ℕ) × (n : ℕ) × (rest : List ListedDeclaration) × (ds ≡ declared_at script x.0 n x.1 ++ rest) × Declare xs rest

section_declared : (script : ℕ) (text : List ℕ) (n : ℕ) (xs : List Decl) (others : List InSection) (ds : List ListedDeclaration) → Declare others ds
    → Declare (map (λ d. (text, d)) xs ++ others) (declared_from script text n xs ++ ds)
section_declared script text n [] others ds h = h
section_declared script text n (d ∷ xs) others ds h = (
  script,
  n,
  declared_from script text (n + 1) xs ++ ds,
  append_assoc (declared_at script text n d) (declared_from script text (n + 1) xs) ds,
  section_declared script text (n + 1) xs others ds h,
)

sections_declared : (script : ℕ) (xs : List Source) → Declare (in_sections xs) (declarations_from script xs)
sections_declared script [] = refl
sections_declared script (x ∷ xs) =
    section_declared script x.text 0 x.declarations (in_sections xs) (declarations_from (script + 1) xs) (sections_declared (script + 1) xs)

pub all_declared : (sources : List Source) → Declare (in_sections sources) (declarations_of sources)
unfolding declarations_of
all_declared sources = sections_declared 0 sources
