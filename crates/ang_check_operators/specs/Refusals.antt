-- Refusals, and results that may be one (docs/LANGUAGE.md, "Expressions": errors; kinds and places are this profile's own).
use Rattle.std.specs.Prelude.{◌≡◌, Bool, false, Some, None, Result, Ok, Err}
use Rattle.ang_kinds.specs.declared.error.ErrorKind.{ErrorKind}
use Rattle.ang_kinds.specs.declared.place.Place.{Place}
use Rattle.ang_lex.specs.declared.token.Token.{Token}
use Rattle.ang_types.specs.declared.asks.Asks.{Asks}
use Rattle.ang_check_operators.specs.declared.refusal.TypingRefusal.{TypingRefusal}
use Rattle.ang_check_operators.specs.declared.refusal.TypingError.{TypingError}
use Rattle.ang_check_operators.specs.declared.refusal.TypingError.TheVariants as stop

-- what something means, or the first refusal in it in reading order
abbrev pub Typing : Type 0 → Type 0
Typing A = Result A TypingRefusal

infixl 10 ◌>>=◌
abbrev pub ◌>>=◌ : {A B : Type 0} → Typing A → (A → Typing B) → Typing B
(Ok a) >>= f = f a
(Err r) >>= f = Err r

-- a refusal without a name
abbrev pub fault : ErrorKind → Place → TypingRefusal
fault k place = record { kind = k; place = place; name = None; asks = None; is_there = false }

-- a refusal about a name, at a place
abbrev pub refused_for : ErrorKind → Place → Token → TypingRefusal
refused_for k place x = record { kind = k; place = place; name = Some x; asks = None; is_there = false }

-- a refusal at a name
abbrev pub refused : ErrorKind → Token → TypingRefusal
refused k x = refused_for k x.place x

-- the refusal of a use that an entry of the host could help, where a local or a member has the name or not
abbrev pub use_refused : ErrorKind → Token → Asks → Bool → TypingRefusal
use_refused k x asks there = record { kind = k; place = x.place; name = Some x; asks = Some asks; is_there = there }

-- ---- what code gives of it

abbrev pub Stops : {B : Type 0} → TypingError → Typing B → Type 0
Stops stop.Memory typing = Unit {0}
Stops (stop.Refused r) typing = typing ≡ Err r

-- What a function returned, seen by view, is what was typed, unless memory ran out.
abbrev pub Gives : {A B : Type 0} → (A → B) → Result A TypingError → Typing B → Type 0
Gives view (Ok a) typing = typing ≡ Ok (view a)
Gives view (Err e) typing = Stops e typing
