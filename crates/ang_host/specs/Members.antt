-- Lists of drivers: their states, and a call of one of them.
use Rattle.std.specs.Prelude.{ℕ, ◌≡◌, ◌≢◌, ◌<◌, List, [], map as list_map, length, slice_index_or, slice_set}
use Rattle.std.specs.FinMap as map
use Rattle.std.specs.declared.alloc.Global.{Global}
use Rattle.std.specs.declared.dyn_box.DynBox.{DynBox}
use Rattle.ang_host.specs.State.{State}
use Rattle.ang_host.specs.Laws.{Fits, IsSound}
use Rattle.ang_host.specs.Meanings.{Meanings, state_in}

-- the state of no driver
abbrev pub nothing : State
nothing = record {
  counts = map.empty;
  core = [];
  tally = record { asked = 0; made = 0; added = 0; released = 0 };
}

-- the relation of no driver
abbrev pub never : Fits
never c a r d = ⊥

abbrev pub state_at : List State → ℕ → State
state_at ss i = slice_index_or ss i nothing

abbrev pub rule_at : List Fits → ℕ → Fits
rule_at rs i = slice_index_or rs i never

-- The i-th of the members xs moved by R, and nothing else did. A member has a state and a kind, and
-- the kind has a relation.
pub record OneMoved {B V : Type 0} (st : B → State) (kind : B → V) (rule : V → Fits)
    (xs : List B) (i : ℕ) (R : Fits → State → State → Type 0) (ys : List B) : Type 0 where
  pub in_list : i < length xs
  pub moved : R (rule_at (list_map rule (list_map kind xs)) i) (state_at (list_map st xs) i)
      (state_at (list_map st ys) i)
  pub others : list_map st ys ≡ slice_set (list_map st xs) i (state_at (list_map st ys) i)
  pub kinds : list_map kind ys ≡ list_map kind xs

-- the states of boxed drivers
abbrev pub states_of :
    {V : Type 0} {P : V → Type 0} → Meanings P → List (DynBox V Global P) → List State
states_of m bs = list_map (λ b. state_in m b) bs

-- the i-th of the boxed drivers xs moved by R, and the others are as they were
abbrev pub DriverMoved :
    {V : Type 0} {P : V → Type 0} → Meanings P → List (DynBox V Global P) → ℕ
    → (Fits → State → State → Type 0) → List (DynBox V Global P) → Type 0
DriverMoved m xs i R ys =
    OneMoved (λ b. state_in m b) (λ b. b.vtable) (λ v. (m v).meaning.fits) xs i R ys

-- no driver has a live key, and each has its tallies
pub record AreFresh (ss : List State) : Type 0 where
  pub idle : (i : ℕ) → i < length ss → (state_at ss i).counts ≡ map.empty
  pub sound : (i : ℕ) → i < length ss → IsSound (state_at ss i)

-- some driver has a live key
abbrev pub IsBusy : List State → Type 0
IsBusy ss = (i : ℕ) × (i < length ss) × ((state_at ss i).counts ≢ map.empty)
