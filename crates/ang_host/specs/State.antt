-- What a driver is to its callers, and what it is asked (docs/RATTLE_HOST.md).
use Rattle.std.specs.Prelude.{ℕ, ◌^◌, ◌-◌, List, Option, Some, None, sum_by}
use Rattle.std.specs.Ordering.{nat_cmp}
use Rattle.std.specs.FinMap as map
use Rattle.ang_kinds.specs.declared.value.Value.{Value}

-- how often a driver was asked (with another answer than `Full`), made a key, added a reference and
-- released one
pub record Tally : Type 0 where
  pub asked : ℕ
  pub made : ℕ
  pub added : ℕ
  pub released : ℕ

-- the references to each live key, what the driver keeps as a list of numbers, and the tallies
pub record State : Type 0 where
  pub counts : map.FinMap nat_cmp ℕ
  pub core : List ℕ
  pub tally : Tally

-- what a driver is asked; `end` is the release that ends a key
pub data Ask : Type 0 where
  make : ℕ → List Value → Ask
  call : ℕ → Option ℕ → List Value → Ask
  read : ℕ → Option ℕ → Ask
  write : ℕ → Option ℕ → Value → Ask
  end : ℕ → Ask

-- where a tally is full
abbrev pub limit : ℕ
limit = 2 ^ 63 - 1

-- how often a key is counted: 0 where it is not live
abbrev pub count_of : Option ℕ → ℕ
count_of None = 0
count_of (Some n) = n

abbrev pub count_at : map.FinMap nat_cmp ℕ → ℕ → ℕ
count_at m k = count_of (map.get m k)

-- the sum of the counts
abbrev pub total : map.FinMap nat_cmp ℕ → ℕ
total m = sum_by (λ e. e.1) (map.entries m)
