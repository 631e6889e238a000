-- Each answer of the driver meets the law of its call, whatever it answers.
use Rattle.std.specs.Prelude.{ℕ, ◌≡◌, Bool, true}
use Rattle.ang_kinds.specs.declared.value.Value.TheVariants.{Int, Uint, Bool as BoolValue, Key}
use Rattle.ang_host.specs.declared.answer.Made.{Made}
use Rattle.ang_host.specs.declared.answer.Made.TheVariants.{Fault as MadeFault}
use Rattle.ang_host.specs.declared.answer.Answer.{Answer}
use Rattle.ang_host.specs.declared.answer.Answer.TheVariants.{Void, Gave, Fault, Memory, Full}
use Rattle.ang_host.specs.State.{State, Ask}
use Rattle.ang_host.specs.Laws.{IsLiveAnswer, IsSound, Answered, WasMade, WasReleased}
use Rattle.ang_drivers.specs.declared.objects.Objects.{Objects}
use Rattle.ang_drivers.specs.Objects.{Ledger, Asks, MakesOne, ReleasesOne}
use Rattle.ang_drivers.specs.ObjectsLedger.{ledger}
use Rattle.ang_drivers.specs.Tables.{state_of}
use Rattle.ang_drivers.proofs.Moving.{IsNotFull, answered, made_value, made_fault, released, sound_of}
use Rattle.host_template.specs.Answers.{AnyFits, AnyMoves, IsKept, is_plain, untold}

not_full : (r : Answer) → is_plain r ≡ true → IsNotFull r
not_full Void h = tt
not_full (Gave v) h = tt
not_full (Fault n) h = tt
not_full Memory h = tt
not_full Full h = cc

names_no_key : (s : State) (r : Answer) → is_plain r ≡ true → IsLiveAnswer s r
names_no_key s Void h = tt
names_no_key s (Gave (Int z)) h = tt
names_no_key s (Gave (Uint n)) h = tt
names_no_key s (Gave (BoolValue b)) h = tt
names_no_key s (Gave (Key k)) h = cc
names_no_key s (Fault n) h = tt
names_no_key s Memory h = tt
names_no_key s Full h = tt

module _ {T : Type 0} (s t : Ledger T) (q : Asks s true t) (o : Objects T) where
  pub answers : (a : Ask) (r : Answer) → IsKept t (ledger o) → is_plain r ≡ true → Answered (AnyFits T) (state_of untold s) a r (state_of untold (ledger o))
  answers a r k plain =
      answered untold AnyMoves s t (ledger o) a r q (record { counts = k.counts; tally = k.tally }) (not_full r plain) tt
      (names_no_key (state_of untold (ledger o)) r plain) (sound_of untold o)

  pub makes : (a : Ask) (v : T) (r : Made) → MakesOne t v r (ledger o) → WasMade (AnyFits T) (state_of untold s) a r (state_of untold (ledger o))
  makes a v r h = made_value untold AnyMoves s t (ledger o) a v r q h (λ x y m. tt) (sound_of untold o)

pub makes_none : {T : Type 0} (s : Ledger T) (o : Objects T) → Asks s true (ledger o) → (a : Ask) (n : ℕ)
    → WasMade (AnyFits T) (state_of untold s) a (MadeFault n) (state_of untold (ledger o))
makes_none s o q a n = made_fault untold AnyMoves s (ledger o) a n q tt (sound_of untold o)

pub releases : {T : Type 0} (s : Ledger T) (o : Objects T) (k : ℕ) (r : Bool) → ReleasesOne s k r (ledger o)
    → WasReleased (AnyFits T) (state_of untold s) k r (state_of untold (ledger o))
releases s o k r h = released untold AnyMoves s (ledger o) k r h tt (sound_of untold o)
