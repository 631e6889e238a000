-- Two values of one code are the same value.
use Rattle.std.specs.Prelude.{pos, negsuc, ◌≡◌, true, false, Some, None}
use Rattle.std.proofs.Common.{refl, ap, arith}
use Rattle.ang_kinds.specs.declared.value.Value.{Value}
use Rattle.ang_kinds.specs.declared.value.Value.TheVariants.{Int, Uint, Bool as Truth, Key as KeyValue}
use Rattle.ang_drivers.specs.Console.{code_of}

pub code_of-injective : (v w : Value) → code_of v ≡ code_of w → v ≡ w
code_of-injective (Int (pos n)) (Int (pos m)) e = ap (λ k. Int (pos k)) (omega (arith, e))
code_of-injective (Int (pos n)) (Int (negsuc m)) e = absurd (omega (arith, e))
code_of-injective (Int (pos n)) (Uint m) e = absurd (omega (arith, e))
code_of-injective (Int (pos n)) (Truth true) e = absurd (omega (arith, e))
code_of-injective (Int (pos n)) (Truth false) e = absurd (omega (arith, e))
code_of-injective (Int (pos n)) (KeyValue None) e = absurd (omega (arith, e))
code_of-injective (Int (pos n)) (KeyValue (Some m)) e = absurd (omega (arith, e))
code_of-injective (Int (negsuc n)) (Int (pos m)) e = absurd (omega (arith, e))
code_of-injective (Int (negsuc n)) (Int (negsuc m)) e = ap (λ k. Int (negsuc k)) (omega (arith, e))
code_of-injective (Int (negsuc n)) (Uint m) e = absurd (omega (arith, e))
code_of-injective (Int (negsuc n)) (Truth true) e = absurd (omega (arith, e))
code_of-injective (Int (negsuc n)) (Truth false) e = absurd (omega (arith, e))
code_of-injective (Int (negsuc n)) (KeyValue None) e = absurd (omega (arith, e))
code_of-injective (Int (negsuc n)) (KeyValue (Some m)) e = absurd (omega (arith, e))
code_of-injective (Uint n) (Int (pos m)) e = absurd (omega (arith, e))
code_of-injective (Uint n) (Int (negsuc m)) e = absurd (omega (arith, e))
code_of-injective (Uint n) (Uint m) e = ap (λ k. Uint k) (omega (arith, e))
code_of-injective (Uint n) (Truth true) e = absurd (omega (arith, e))
code_of-injective (Uint n) (Truth false) e = absurd (omega (arith, e))
code_of-injective (Uint n) (KeyValue None) e = absurd (omega (arith, e))
code_of-injective (Uint n) (KeyValue (Some m)) e = absurd (omega (arith, e))
code_of-injective (Truth true) (Int (pos m)) e = absurd (omega (arith, e))
code_of-injective (Truth true) (Int (negsuc m)) e = absurd (omega (arith, e))
code_of-injective (Truth true) (Uint m) e = absurd (omega (arith, e))
code_of-injective (Truth true) (Truth true) e = refl
code_of-injective (Truth true) (Truth false) e = absurd (omega (arith, e))
code_of-injective (Truth true) (KeyValue None) e = absurd (omega (arith, e))
code_of-injective (Truth true) (KeyValue (Some m)) e = absurd (omega (arith, e))
code_of-injective (Truth false) (Int (pos m)) e = absurd (omega (arith, e))
code_of-injective (Truth false) (Int (negsuc m)) e = absurd (omega (arith, e))
code_of-injective (Truth false) (Uint m) e = absurd (omega (arith, e))
code_of-injective (Truth false) (Truth true) e = absurd (omega (arith, e))
code_of-injective (Truth false) (Truth false) e = refl
code_of-injective (Truth false) (KeyValue None) e = absurd (omega (arith, e))
code_of-injective (Truth false) (KeyValue (Some m)) e = absurd (omega (arith, e))
code_of-injective (KeyValue None) (Int (pos m)) e = absurd (omega (arith, e))
code_of-injective (KeyValue None) (Int (negsuc m)) e = absurd (omega (arith, e))
code_of-injective (KeyValue None) (Uint m) e = absurd (omega (arith, e))
code_of-injective (KeyValue None) (Truth true) e = absurd (omega (arith, e))
code_of-injective (KeyValue None) (Truth false) e = absurd (omega (arith, e))
code_of-injective (KeyValue None) (KeyValue None) e = refl
code_of-injective (KeyValue None) (KeyValue (Some m)) e = absurd (omega (arith, e))
code_of-injective (KeyValue (Some n)) (Int (pos m)) e = absurd (omega (arith, e))
code_of-injective (KeyValue (Some n)) (Int (negsuc m)) e = absurd (omega (arith, e))
code_of-injective (KeyValue (Some n)) (Uint m) e = absurd (omega (arith, e))
code_of-injective (KeyValue (Some n)) (Truth true) e = absurd (omega (arith, e))
code_of-injective (KeyValue (Some n)) (Truth false) e = absurd (omega (arith, e))
code_of-injective (KeyValue (Some n)) (KeyValue None) e = absurd (omega (arith, e))
code_of-injective (KeyValue (Some n)) (KeyValue (Some m)) e = ap (λ k. KeyValue (Some k)) (omega (arith, e))
