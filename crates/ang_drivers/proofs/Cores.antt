-- Tables of one core are the same table.
use Rattle.std.specs.Prelude.{ℕ, ℤ, ◌≡◌, cond, nat_eq, List, [], ◌∷◌, ◌++◌, length, map as list_map}
use Rattle.std.specs.FinMap as map
use Rattle.std.specs.FinMap.{same_entries_map}
use Rattle.std.proofs.Common.{refl, sym, ◌∙◌, ap, arith}
use Rattle.ang_kinds.specs.declared.value.Value.TheVariants.{Int}
use Rattle.ang_drivers.specs.declared.counter.Count.{Count}
use Rattle.ang_drivers.specs.declared.faulty.Failing.{Failing}
use Rattle.ang_drivers.specs.declared.faulty.Failing.TheVariants.{Fault, Nothing, Memory, Full}
use Rattle.ang_drivers.specs.Objects.{Table}
use Rattle.ang_drivers.specs.Console.{code_of}
use Rattle.ang_drivers.specs.Tables.{numbers_of, core_of}
use Rattle.ang_drivers.specs.Counter.{count_code}
use Rattle.ang_drivers.specs.Faulty.{failing_code, faulty_core}
use Rattle.ang_drivers.specs.Cell.{value_code}
use Rattle.ang_drivers.specs.IntList.{list_code}
use Rattle.ang_drivers.specs.IntMap.{Pairs, codes_of, map_code}
use Rattle.ang_drivers.proofs.Codes.{code_of-injective}

-- the numbers of a value can be told from those that follow
abbrev pub IsReadable : {T : Type 0} → (T → List ℕ) → Type 0
IsReadable {T} code = (v w : T) (xs ys : List ℕ) → code v ++ xs ≡ code w ++ ys → (v ≡ w) × (xs ≡ ys)

module _ {T : Type 0} (code : T → List ℕ) (readable : IsReadable code) where
  numbers_differ : (es gs : List (ℕ × T)) → numbers_of code es ≡ numbers_of code gs → es ≡ gs
  numbers_differ [] [] h = refl
  numbers_differ [] (g ∷ gs) h = absurd (let x : ⊥ = cc in x)
  numbers_differ (e ∷ es) [] h = absurd (let x : ⊥ = cc in x)
  numbers_differ (e ∷ es) (g ∷ gs) h =
      let k : e.0 ≡ g.0 = cc in
      let t : code e.1 ++ numbers_of code es ≡ code g.1 ++ numbers_of code gs = cc in
      let p = readable e.1 g.1 (numbers_of code es) (numbers_of code gs) t in
      let rest : es ≡ gs = numbers_differ es gs p.1 in
      let first : e ≡ g = λ i. (k i, p.0 i) in
      λ i. first i ∷ rest i

  pub cores_differ : (x y : Table T) → core_of code x ≡ core_of code y → x ≡ y
  cores_differ x y h =
      let n : x.next ≡ y.next = cc in
      let t : numbers_of code (map.entries x.values) ≡ numbers_of code (map.entries y.values) = cc in
      let m : x.values ≡ y.values = same_entries_map x.values y.values (numbers_differ (map.entries x.values) (map.entries y.values) t) in
      λ i. record { next = n i; values = m i }

int_differ : (a b : ℤ) → code_of (Int a) ≡ code_of (Int b) → a ≡ b
int_differ a b h = let e : Int a ≡ Int b = code_of-injective (Int a) (Int b) h in cc

pub count-readable : IsReadable count_code
count-readable v w xs ys h =
    let a : code_of (Int v.value) ≡ code_of (Int w.value) = cc in
    let b : code_of (Int v.step) ≡ code_of (Int w.step) = cc in
    let p : v.value ≡ w.value = int_differ v.value w.value a in
    let q : v.step ≡ w.step = int_differ v.step w.step b in
    let r : xs ≡ ys = cc in (λ i. record { value = p i; step = q i }, r)

pub value-readable : IsReadable value_code
value-readable v w xs ys h =
    let a : code_of (Int v) ≡ code_of (Int w) = cc in
    let r : xs ≡ ys = cc in (int_differ v w a, r)

-- how an asking fails, read back from its number
abbrev failing_of : ℕ → Failing
failing_of n = cond (nat_eq n 0) Fault (cond (nat_eq n 1) Nothing (cond (nat_eq n 2) Memory Full))

read_back : (how : Failing) → failing_of (failing_code how) ≡ how
read_back Fault = refl
read_back Nothing = refl
read_back Memory = refl
read_back Full = refl

pub faulty_differ : (m n : ℕ) (g h : Failing) (x y : Table Count) → faulty_core m g (core_of count_code x) ≡ faulty_core n h (core_of count_code y)
    → (m ≡ n) × (g ≡ h) × (x ≡ y)
faulty_differ m n g h x y e =
    let left : m ≡ n = cc in
    let how : failing_code g ≡ failing_code h = cc in
    let rest : core_of count_code x ≡ core_of count_code y = cc in
    (left, sym (read_back g) ∙ ap failing_of how ∙ read_back h, cores_differ count_code count-readable x y rest)

-- lists of one length can be told from what follows
numbers_told : (v w : List ℤ) (xs ys : List ℕ) → length v ≡ length w → list_map (λ z. code_of (Int z)) v ++ xs ≡ list_map (λ z. code_of (Int z)) w ++ ys → (v ≡ w) × (xs ≡ ys)
numbers_told [] [] xs ys n h = (refl, h)
numbers_told [] (b ∷ w) xs ys n h = absurd (omega (arith, n))
numbers_told (a ∷ v) [] xs ys n h = absurd (omega (arith, n))
numbers_told (a ∷ v) (b ∷ w) xs ys n h =
    let first : code_of (Int a) ≡ code_of (Int b) = cc in
    let others : list_map (λ z. code_of (Int z)) v ++ xs ≡ list_map (λ z. code_of (Int z)) w ++ ys = cc in
    let r = numbers_told v w xs ys (omega (arith, n)) others in
    let same = int_differ a b first in (λ i. same i ∷ r.0 i, r.1)

list-readable : IsReadable list_code
list-readable v w xs ys h =
    let n : length v ≡ length w = cc in
    let t : list_map (λ z. code_of (Int z)) v ++ xs ≡ list_map (λ z. code_of (Int z)) w ++ ys = cc in
    numbers_told v w xs ys n t

pub list_cores : (m n : ℕ) (x y : Table (List ℤ)) → m ∷ core_of list_code x ≡ n ∷ core_of list_code y → (m ≡ n) × (x ≡ y)
list_cores m n x y h =
    let bound : m ≡ n = cc in
    let rest : core_of list_code x ≡ core_of list_code y = cc in
    (bound, cores_differ list_code list-readable x y rest)

-- pairs of one number can be told from what follows
pairs_told : (v w : Pairs) (xs ys : List ℕ) → length v ≡ length w → codes_of v ++ xs ≡ codes_of w ++ ys → (v ≡ w) × (xs ≡ ys)
pairs_told [] [] xs ys n h = (refl, h)
pairs_told [] (g ∷ w) xs ys n h = absurd (omega (arith, n))
pairs_told (e ∷ v) [] xs ys n h = absurd (omega (arith, n))
pairs_told (e ∷ v) (g ∷ w) xs ys n h =
    let key : code_of (Int e.0) ≡ code_of (Int g.0) = cc in
    let number : code_of (Int e.1) ≡ code_of (Int g.1) = cc in
    let others : codes_of v ++ xs ≡ codes_of w ++ ys = cc in
    let r = pairs_told v w xs ys (omega (arith, n)) others in
    let k = int_differ e.0 g.0 key in
    let z = int_differ e.1 g.1 number in
    let first : e ≡ g = λ i. (k i, z i) in (λ i. first i ∷ r.0 i, r.1)

map-readable : IsReadable map_code
map-readable v w xs ys h =
    let n : length v ≡ length w = cc in
    let t : codes_of v ++ xs ≡ codes_of w ++ ys = cc in
    pairs_told v w xs ys n t

pub map_cores : (m n : ℕ) (x y : Table Pairs) → m ∷ core_of map_code x ≡ n ∷ core_of map_code y → (m ≡ n) × (x ≡ y)
map_cores m n x y h =
    let bound : m ≡ n = cc in
    let rest : core_of map_code x ≡ core_of map_code y = cc in
    (bound, cores_differ map_code map-readable x y rest)
