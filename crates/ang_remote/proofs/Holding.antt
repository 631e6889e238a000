-- The counts of keys that are chosen elsewhere, and what the tallies say of them.
use Rattle.std.specs.Prelude.{ℕ, ◌+◌, ◌-◌, ◌≡◌, ◌≢◌, ◌<◌, ◌≤◌, Bool, true, is_some, List, ◌∷◌, Option, Some, None}
use Rattle.std.specs.Option.{option_map}
use Rattle.std.specs.Map.{lookup}
use Rattle.std.specs.BTreeMap.{is_at}
use Rattle.std.specs.Ordering.{nat_cmp}
use Rattle.std.specs.FinMap as map
use Rattle.std.proofs.Common.{refl, sym, ◌∙◌, ap, subst, arith}
use Rattle.ang_host.specs.State.{Tally, total}
use Rattle.ang_host.proofs.Counts.{total-empty}
use Rattle.ang_drivers.specs.Objects.{by_key}
use Rattle.ang_drivers.proofs.Ledgers.{ArePositive, positive-empty, positive-insert, positive-remove, total-new, total-gone, total-over, get-by_key}
use Rattle.ang_remote.specs.Ledger.{Ledger}

-- `made` keys were made, and `added` and `released` references were added and released
pub record AreKept (m : map.FinMap nat_cmp ℕ) (made added released : ℕ) : Type 0 where
  pub sums : made + added ≡ released + total m
  pub positive : ArePositive m

pub kept-none : (m : map.FinMap nat_cmp ℕ) → m ≡ map.empty → AreKept m 0 0 0
kept-none m e = record {
  sums = omega (arith, total-empty, ap total e);
  positive = subst ArePositive (sym e) positive-empty;
}

pub kept-new : (m n : map.FinMap nat_cmp ℕ) (k made added released : ℕ) → map.get m k ≡ None → n ≡ map.insert m k 1
    → AreKept m made added released → AreKept n (made + 1) added released
kept-new m n k made added released g e h = record {
  sums = omega (arith, h.sums, ap total e, total-new m k 1 g);
  positive = subst ArePositive (sym e) (positive-insert m k 1 (omega arith) h.positive);
}

-- another count at a live key
kept_over : (m n : map.FinMap nat_cmp ℕ) (k c d made added released a r : ℕ) → map.get m k ≡ Some c → 0 < d → n ≡ map.insert m k d → a + c + released ≡ r + d + added
    → AreKept m made added released → AreKept n made a r
kept_over m n k c d made added released a r g p e s h = record {
  sums = omega (arith, h.sums, ap total e, total-over m k c d g, s);
  positive = subst ArePositive (sym e) (positive-insert m k d p h.positive);
}

pub kept-added : (m n : map.FinMap nat_cmp ℕ) (k c made added released : ℕ) → map.get m k ≡ Some c → n ≡ map.insert m k (c + 1)
    → AreKept m made added released → AreKept n made (added + 1) released
kept-added m n k c made added released g e h = kept_over m n k c (c + 1) made added released (added + 1) released g (omega arith) e (omega arith) h

pub kept-released : (m n : map.FinMap nat_cmp ℕ) (k c made added released : ℕ) → map.get m k ≡ Some c → 1 < c → n ≡ map.insert m k (c - 1)
    → AreKept m made added released → AreKept n made added (released + 1)
kept-released m n k c made added released g lt e h = kept_over m n k c (c - 1) made added released added (released + 1) g (omega (arith, lt)) e (omega (arith, lt)) h

pub kept-ended : (m n : map.FinMap nat_cmp ℕ) (k c made added released : ℕ) → map.get m k ≡ Some c → c ≡ 1 → n ≡ map.remove m k
    → AreKept m made added released → AreKept n made added (released + 1)
kept-ended m n k c made added released g one e h = record {
  sums = omega (arith, h.sums, ap total e, total-gone m k c g, one);
  positive = subst ArePositive (sym e) (positive-remove m k h.positive);
}

-- a count is no more than all of them
pub kept-bound : (m : map.FinMap nat_cmp ℕ) (k c made added released : ℕ) → map.get m k ≡ Some c → AreKept m made added released → c + released ≤ made + added
kept-bound m k c made added released g h = omega (arith, h.sums, total-gone m k c g)

-- whether a key is there is read off any part of what stands under the keys
some_mapped : {O V : Type 0} (f : O → V) (o : Option O) → is_some (option_map f o) ≡ is_some o
some_mapped f None = refl
some_mapped f (Some x) = refl

pub there_by_key : {O V : Type 0} (f : O → V) (es : List (ℕ × O)) (k : ℕ) → is_some (map.get (by_key f es) k) ≡ is_some (lookup (is_at (nat_cmp k)) es)
there_by_key f es k = ap is_some (get-by_key f es k) ∙ some_mapped f (lookup (is_at (nat_cmp k)) es)

pub same_ledger : (a b : map.FinMap nat_cmp ℕ) (x y : map.FinMap nat_cmp Bool) (t : Tally) → a ≡ b → x ≡ y
    → ◌≡◌ {A = Ledger} (record { counts = a; live = x; tally = t }) (record { counts = b; live = y; tally = t })
same_ledger a b x y t p q = λ i. record { counts = p i; live = q i; tally = t }
