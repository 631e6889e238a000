-- How many declarations there are of each kind, counted one by one.
use Rattle.std.specs.Prelude.{ℕ, ◌≡◌, ◌≤◌, ◌+◌, cond, Bool, List, [], ◌∷◌, ◌++◌, length, count_by}
use Rattle.std.specs.List.{cons_option, filter_map}
use Rattle.std.proofs.Common.{arith, refl, sym, ap, ◌∙◌}
use Rattle.std.proofs.lemmas.List.Recursion.{is_count_by}
use Rattle.std.proofs.lemmas.List.Sums.{count_by-le-length, sum_by_push}
use Rattle.ang_names_listed.specs.declared.earlier.Counts.{Counts}
use Rattle.ang_names_listed.specs.declared.listed.ListedDeclaration.{ListedDeclaration}
use Rattle.ang_names_listed.specs.declared.listed.Part.{Part}
use Rattle.ang_names_listed.specs.declared.listed.Part.TheVariants as part
use Rattle.ang_names_listed.specs.Declarations.{Declaring, declaring_by, declaring_of, families_of}
use Rattle.ang_names_listed.specs.Earlier.{counted, counts_of}
use Rattle.ang_names_listed.specs.Taken.{declares_family, declares_function, declares_global, declares_import}

one_more : (d : ListedDeclaration) (p : Part) (rest : List Declaring)
    → length (cons_option (declaring_by d p) rest) ≡ cond (declares_family p) (1 + length rest) (length rest)
one_more d (part.Family s) rest = omega arith
one_more d (part.Function y ps) rest = refl
one_more d (part.Import y ps) rest = refl
one_more d (part.Global y) rest = refl

families_counted : (ds : List ListedDeclaration) → count_by (λ (d : ListedDeclaration). declares_family d.part) ds ≡ length (families_of ds)
unfolding families_of
families_counted ds =
    sym (is_count_by (λ xs. length (filter_map declaring_of xs)) (λ (d : ListedDeclaration). declares_family d.part) refl
    (λ d xs. one_more d d.part (filter_map declaring_of xs)) ds)

more : (p : ListedDeclaration → Bool) (ds : List ListedDeclaration) (d : ListedDeclaration) → count_by p (ds ++ d ∷ []) ≡ count_by p ds + cond (p d) 1 0
more p ds d = sum_by_push (λ x. cond (p x) 1 0) ds d

more_families : (ds : List ListedDeclaration) (d : ListedDeclaration) → length (families_of (ds ++ d ∷ [])) ≡ length (families_of ds) + cond (declares_family d.part) 1 0
more_families ds d =
    sym (families_counted (ds ++ d ∷ [])) ∙ more (λ (x : ListedDeclaration). declares_family x.part) ds d
    ∙ ap (λ n. n + cond (declares_family d.part) 1 0) (families_counted ds)

abbrev counts : ℕ → ℕ → ℕ → ℕ → Counts
counts a b c e = record { families = a; functions = b; imports = c; globals = e }

alike : (a b c e k l m n : ℕ) → a ≡ k → b ≡ l → c ≡ m → e ≡ n → counts a b c e ≡ counts k l m n
alike a b c e k l m n p q r s = ap (λ x. counts x b c e) p ∙ ap (λ x. counts k x c e) q ∙ ap (λ x. counts k l x e) r ∙ ap (λ x. counts k l m x) s

none : (n : ℕ) → n + 0 ≡ n
none n = omega arith

one_counted : (a b c e : ℕ) (p : Part)
    → counts (a + cond (declares_family p) 1 0) (b + cond (declares_function p) 1 0) (c + cond (declares_import p) 1 0) (e + cond (declares_global p) 1 0)
    ≡ counted (counts a b c e) p
one_counted a b c e (part.Family s) = alike _ _ _ _ _ _ _ _ refl (none b) (none c) (none e)
one_counted a b c e (part.Function y ps) = alike _ _ _ _ _ _ _ _ (none a) refl (none c) (none e)
one_counted a b c e (part.Import y ps) = alike _ _ _ _ _ _ _ _ (none a) (none b) refl (none e)
one_counted a b c e (part.Global y) = alike _ _ _ _ _ _ _ _ (none a) (none b) (none c) refl

pushed_counts : (ds : List ListedDeclaration) (d : ListedDeclaration) → counts_of (ds ++ d ∷ []) ≡ counted (counts_of ds) d.part
pushed_counts ds d =
    alike _ _ _ _ _ _ _ _ (more_families ds d) (more (λ (x : ListedDeclaration). declares_function x.part) ds d)
    (more (λ (x : ListedDeclaration). declares_import x.part) ds d) (more (λ (x : ListedDeclaration). declares_global x.part) ds d)
    ∙ one_counted (length (families_of ds)) (count_by (λ (x : ListedDeclaration). declares_function x.part) ds) (count_by (λ (x : ListedDeclaration). declares_import x.part) ds)
    (count_by (λ (x : ListedDeclaration). declares_global x.part) ds) d.part

pub one_more_counted : (c new : Counts) (ds all : List ListedDeclaration) (d : ListedDeclaration) → c ≡ counts_of ds → new ≡ counted c d.part
    → all ≡ ds ++ d ∷ [] → new ≡ counts_of all
one_more_counted c new ds all d same is grown =
    is ∙ ap (λ k. counted k d.part) same ∙ sym (pushed_counts ds d) ∙ ap counts_of (sym grown)

-- none of the counts is above how many declarations there are
pub few_counted : (c : Counts) (ds : List ListedDeclaration) → c ≡ counts_of ds
    → (c.families ≤ length ds) × (c.functions ≤ length ds) × (c.imports ≤ length ds) × (c.globals ≤ length ds)
few_counted c ds same =
    let families : c.families ≡ count_by (λ (x : ListedDeclaration). declares_family x.part) ds = ap (λ k. k.families) same ∙ sym (families_counted ds) in
    let functions : c.functions ≡ count_by (λ (x : ListedDeclaration). declares_function x.part) ds = ap (λ k. k.functions) same in
    let imports : c.imports ≡ count_by (λ (x : ListedDeclaration). declares_import x.part) ds = ap (λ k. k.imports) same in
    let globals : c.globals ≡ count_by (λ (x : ListedDeclaration). declares_global x.part) ds = ap (λ k. k.globals) same in
    let f = count_by-le-length (λ (x : ListedDeclaration). declares_family x.part) ds in
    let g = count_by-le-length (λ (x : ListedDeclaration). declares_function x.part) ds in
    let h = count_by-le-length (λ (x : ListedDeclaration). declares_import x.part) ds in
    let i = count_by-le-length (λ (x : ListedDeclaration). declares_global x.part) ds in
    (omega (arith, families, f), omega (arith, functions, g), omega (arith, imports, h), omega (arith, globals, i))
