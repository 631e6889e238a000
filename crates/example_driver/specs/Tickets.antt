-- What the tickets answer. The core is how many were given.
use Rattle.std.specs.Prelude.{ℕ, ◌+◌, ◌≡◌, ◌≢◌, ◌⊎◌, List, [], ◌∷◌}
use Rattle.std.specs.FinMap as map
use Rattle.ang_kinds.specs.declared.value.Value.TheVariants.{Uint}
use Rattle.ang_host.specs.declared.answer.Made.TheVariants.{Fault as MadeFault}
use Rattle.ang_host.specs.declared.answer.Answer.{Answer}
use Rattle.ang_host.specs.declared.answer.Answer.TheVariants.{Gave, Fault}
use Rattle.ang_host.specs.declared.answer.HostReply.{HostReply}
use Rattle.ang_host.specs.declared.answer.HostReply.TheVariants.{Making, Asking}
use Rattle.ang_host.specs.State.{State, Ask, make, call, read, write, end}

-- no objects, and `given` tickets given in `asked` host calls
abbrev pub tickets : ℕ → ℕ → State
tickets given asked = record {
  counts = map.empty;
  core = given ∷ [];
  tally = record { asked = asked; made = 0; added = 0; released = 0 };
}

-- the fault 1, and nothing changes
abbrev pub IsUnknown : List ℕ → HostReply → List ℕ → Type 0
IsUnknown c r d = (r ≡ Asking (Fault 1)) × (d ≡ c)

-- a ticket: the number of those that were given before
abbrev pub IsTicket : List ℕ → HostReply → List ℕ → Type 0
IsTicket c r d = (n : ℕ) × (c ≡ n ∷ []) × (r ≡ Asking (Gave (Uint n))) × (d ≡ (n + 1) ∷ [])

-- how many were given
abbrev pub IsGiven : List ℕ → HostReply → List ℕ → Type 0
IsGiven c r d = (n : ℕ) × (c ≡ n ∷ []) × (r ≡ Asking (Gave (Uint n))) × (d ≡ c)

-- how the core moves; nothing is made, so no key ends
abbrev pub TicketsFits : List ℕ → Ask → HostReply → List ℕ → Type 0
TicketsFits c (make f args) r d = (r ≡ Making (MadeFault 1)) × (d ≡ c)
TicketsFits c (call f o args) r d = ((f ≡ 0) × IsTicket c r d) ⊎ ((f ≢ 0) × IsUnknown c r d)
TicketsFits c (read f o) r d = ((f ≡ 0) × IsGiven c r d) ⊎ ((f ≢ 0) × IsUnknown c r d)
TicketsFits c (write f o v) r d = IsUnknown c r d
TicketsFits c (end k) r d = ⊥
