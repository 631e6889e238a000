-- Numbers in fields and globals: where a number stands, it stands there whatever is asked for in the stead of a place that is not there.
use Rattle.std.proofs.Common.{◌≡◌, ℕ, zero, suc, ◌<◌, List, [], ◌∷◌, Option, Some, None, Bool, true, is_some, IfSome, length, map, get_or, refl, sym, ap, ◌∙◌, unwrap_or, slice_index_or, slice_set}
use Rattle.std.proofs.lemmas.List.{get_or-map, length-set, set-get_or}
use Rattle.std.proofs.Math.Nat.{ℕ_set}
use Rattle.std.proofs.Math.Path.{to_path_p}
use Rattle.std.specs.Vec.{with_item}
use Rattle.std.specs.declared.vec.Vec.{Vec}
use Rattle.ang_meaning.specs.declared.slot.Slot.{Slot}
use Rattle.ang_meaning.specs.declared.slot.Slot.TheVariants.{Bits, Script, Host}
use Rattle.ang_meaning.specs.World.{ScriptRecord}
use Rattle.ang_meaning.specs.Perform.{field_of}
use Rattle.ang_heap.specs.Numbers.{number_in, HasNumber}

none_some : {A : Type 0} (a : A) → None ≡ Some a → ⊥
none_some a e = cc

number_is : (v : Slot) (n : ℕ) → number_in v ≡ Some n → v ≡ Bits n
number_is (Bits x) n e = ap (λ o. Bits (unwrap_or o x)) e
number_is (Script k) n e = absurd (none_some n e)
number_is (Host d k) n e = absurd (none_some n e)

-- ---- a place, by what stands there where another value is asked for in its stead

abbrev pub IsPlace : (Slot → Slot) → Type 0
IsPlace at = (n : ℕ) → number_in (at (Script None)) ≡ Some n → (other : Slot) → at other ≡ Bits n

pub value_place : (vs : List Slot) (i : ℕ) → IsPlace (slice_index_or vs i)
value_place [] i n e other = absurd (none_some n e)
value_place (v ∷ vs) zero n e other = number_is v n e
value_place (v ∷ vs) (suc i) n e other = value_place vs i n e other

pub field_place : (o : Option ScriptRecord) (i : ℕ) → IsPlace (field_of o i)
field_place None i n e other = absurd (none_some n e)
field_place (Some o) i n e other = value_place o.fields i n e other

-- what is read of a place
pub number_there : (at : Slot → Slot) → IsPlace at → (r : Option ℕ) → r ≡ number_in (at (Script None)) → IfSome r (λ n. (other : Slot) → at other ≡ Bits n)
number_there at p None e = tt
number_there at p (Some n) e = p n (sym e)

some_number : (o : Option ℕ) → is_some o ≡ true → (n : ℕ) × (o ≡ Some n)
some_number None e = absurd (let x : ⊥ = cc in x)
some_number (Some n) e = (n, refl)

-- what is put into one
pub number_was : (at : Slot → Slot) → IsPlace at → (b : Bool) → b ≡ is_some (number_in (at (Script None))) → b ≡ true → HasNumber at
number_was at p b e t =
    let found = some_number (number_in (at (Script None))) (sym e ∙ t) in
    (found.0, p found.0 found.1)

-- ---- a list among lists

pub items_at : {A : Type 0} (f : A → List Slot) (xs : List A) (i : ℕ) (x : A) → i < length xs → x ≡ get_or xs i x → f x ≡ get_or (map f xs) i []
items_at f xs i x k e = ap f e ∙ sym (get_or-map f xs i x [] k)

-- an item put back where it stood
pub item_back : {X Z : Type 0} (v : Vec X Z) (i : ℕ) (x y : X) → x ≡ slice_index_or v.items i x → y ≡ x → with_item v i y ≡ v
item_back v i x y e h =
    let back : slice_set v.items i y ≡ v.items = ap (slice_set v.items i) (h ∙ e) ∙ set-get_or v.items i x in
    let first : v.len ≡ length (slice_set v.items i y) = v.ok.0 ∙ sym (length-set v.items i y) in
    λ j. record {
      ptr = v.ptr;
      len = v.len;
      cap = v.cap;
      alloc = v.alloc;
      items = back j;
      ok = (to_path_p (λ k. v.len ≡ length (back k)) {a = first} {b = v.ok.0} (ℕ_set v.len (length v.items) (coe 0 1 (k. v.len ≡ length (back k)) first) v.ok.0) j, v.ok.1);
      small = v.small;
    }
