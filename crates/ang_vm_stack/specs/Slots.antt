-- Methods in the order of their slots.
use Rattle.std.specs.Prelude.{ℕ, suc, ◌≤◌, List, [], ◌∷◌, ⊤}
use Rattle.ang_vm_stack.specs.declared.methods.MethodEntry.{MethodEntry}
use Rattle.ang_vm_stack.specs.declared.methods.MethodRow.{MethodRow}

-- the method that a row is, in a class of the module of this number
abbrev pub entry_of : ℕ → MethodRow → MethodEntry
entry_of home row = record { slot = row.slot; function = record { home = home; number = row.number } }

-- the first slot is n or more, and each further one is above the one before it
abbrev pub RiseFrom : ℕ → List MethodEntry → Type 0
RiseFrom n [] = ⊤
RiseFrom n (x ∷ xs) = (n ≤ x.slot) × RiseFrom (suc x.slot) xs
