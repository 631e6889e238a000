-- Relations as tables: row by row, n entries each.
use Rattle.std.specs.Prelude.{ℕ, Bool, false, not, List, length, map, ◌≡◌, ◌+◌, ◌*◌, ◌<◌, ◌==◌, ◌&&◌, ◌||◌, nat_lt, slice_index_or}
use Rattle.std.specs.List.{list_any, range_with_len}
use Rattle.ang_names_graph.specs.Graphs.{some_below}

abbrev pub at : List Bool → ℕ → ℕ → ℕ → Bool
at t n i j = slice_index_or t (i * n + j) false

-- the edges that a table shows, all of them below n
abbrev pub edges_of : List Bool → ℕ → ℕ → ℕ → Bool
edges_of t n i j = nat_lt i n && (nat_lt j n && at t n i j)

-- the table shows the relation below n
pub record Shows (t : List Bool) (n : ℕ) (f : ℕ → ℕ → Bool) : Type 0 where
  pub size : length t ≡ n * n
  pub entries : (i j : ℕ) → i < n → j < n → at t n i j ≡ f i j

-- an edge leads from one of these places to j
abbrev pub is_reached : List Bool → ℕ → List ℕ → ℕ → Bool
is_reached t n places j = list_any (λ k. edges_of t n k j) places

-- j is not marked, and an edge leads to it from one of these places
abbrev pub is_next : List Bool → ℕ → List Bool → List ℕ → ℕ → Bool
is_next t n near places j = not (slice_index_or near j false) && is_reached t n places j

-- ---- row by row

-- a row of n entries
abbrev pub row_below : (ℕ → Bool) → ℕ → List Bool
row_below p n = map p (range_with_len 0 n)

-- the table shows the relation as far as row i
pub record IsBegun (t : List Bool) (n i : ℕ) (f : ℕ → ℕ → Bool) : Type 0 where
  pub size : length t ≡ i * n
  pub entries : (a j : ℕ) → a < i → j < n → at t n a j ≡ f a j

-- j is marked in row i of one table, or leads to a place that is, by another one
abbrev pub is_spread : List Bool → List Bool → ℕ → ℕ → ℕ → Bool
is_spread marks closed n i j = some_below (λ d. edges_of marks n i d && (j == d || edges_of closed n j d)) n
