-- How a driver moves whose host is behind a reader and a writer: in lines.
use Rattle.std.specs.Prelude.{ℕ, ◌+◌, ◌≡◌, ◌≤◌, ◌⊎◌, Bool, true, false, is_some, if◌then◌else◌, List, [], ◌∷◌, ◌++◌, length, take, Option, Some, None, map as list_map}
use Rattle.std.specs.FinMap as map
use Rattle.std.specs.Io.KnownBytes.{Appends, Consumes, IsAtEnd}
use Rattle.ang_kinds.specs.declared.value.Value.{Value}
use Rattle.ang_kinds.specs.declared.value.Value.TheVariants as value
use Rattle.ang_host.specs.declared.answer.Made.{Made}
use Rattle.ang_host.specs.declared.answer.Made.TheVariants as made
use Rattle.ang_host.specs.declared.answer.Answer.{Answer}
use Rattle.ang_host.specs.declared.answer.Answer.TheVariants as answer
use Rattle.ang_host.specs.declared.answer.HostReply.{HostReply}
use Rattle.ang_host.specs.declared.answer.HostReply.TheVariants.{Making, Asking}
use Rattle.ang_host.specs.State.{State, Ask, make, call, read, write, end}
use Rattle.ang_host.specs.Laws.{Fits}
use Rattle.ang_remote.specs.Asks.{ask_text, is_posted}
use Rattle.ang_remote.specs.Said.{said_in, not_written, not_read, input_ended, bad_form}
use Rattle.ang_remote.specs.Lines.{IsLine}
use Rattle.ang_remote.specs.Ledger.{Live, Ledger, Inserts, with_key}
use Rattle.ang_remote.specs.declared.lines.Heard.{Heard}
use Rattle.ang_remote.specs.declared.lines.Heard.TheVariants as heard
use Rattle.ang_remote.specs.declared.answers.Said.{Said}
use Rattle.ang_remote.specs.declared.answers.Said.TheVariants as said

-- ---- one host call over the streams

-- a front of the text was written
pub record HasFront (old new : Option (List ℕ)) (text : List ℕ) : Type 0 where
  pub count : ℕ
  pub within : count ≤ length text
  pub printed : Appends old new (take count text)

-- the text was written whole, or, where that failed, a front of it
abbrev pub IsWritten : Option (List ℕ) → Option (List ℕ) → List ℕ → Bool → Type 0
IsWritten old new text true = Appends old new text
IsWritten old new text false = HasFront old new text

-- what comes in the place of an answer
pub data Came : Type 0 where
  -- a line
  Line : List ℕ → Came
  -- a line of more bytes than an answer has, or for which memory was refused
  Long : List ℕ → Came
  Lost : List ℕ → Came
  -- the end of the stream, or a failure within a line
  Ended : Came
  Broken : List ℕ → Came

-- the most bytes of an answer, with its LF
abbrev pub most_answer : ℕ
most_answer = 64

-- It came: it, and nothing after it, was read.
abbrev pub Comes : Option (List ℕ) → Option (List ℕ) → Came → Type 0
Comes old new (Line line) = Consumes old new line × IsLine line new × (length line ≤ most_answer)
Comes old new (Long line) = Consumes old new line × IsLine line new × (most_answer + 1 ≤ length line)
Comes old new (Lost line) = Consumes old new line × IsLine line new
Comes old new Ended = Consumes old new [] × IsAtEnd new
Comes old new (Broken front) = Consumes old new front

-- what it is taken for
abbrev pub taken_for : Came → Said
taken_for (Line line) = said_in line
taken_for (Long line) = bad_form
taken_for (Lost line) = said.Memory
taken_for Ended = input_ended
taken_for (Broken front) = not_read

-- the same of what is heard, and of the line where there is one
abbrev pub heard_as : Heard → List ℕ → Said
heard_as heard.Line line = said_in line
heard_as heard.Last line = said_in line
heard_as heard.Long line = bad_form
heard_as heard.Memory line = said.Memory
heard_as heard.End line = input_ended
heard_as heard.Failed line = not_read

-- an answer was read, and taken for what it is
abbrev pub IsAnswered : Option (List ℕ) → Option (List ℕ) → Said → Type 0
IsAnswered old new s = (came : Came) × Comes old new came × (s ≡ taken_for came)

-- One host call of this text: it is written, and an answer is read, or, where it is posted, nothing is read, and `void` is
-- taken for its answer. Or it can't be written, and nothing is read. Or there is no memory for it, and nothing is done.
module _ (text : List ℕ) (written written_after unread unread_after : Option (List ℕ)) (s : Said) where
  abbrev pub IsAsked : Type 0
  IsAsked = Appends written written_after text × IsAnswered unread unread_after s

  abbrev pub IsPosted : Type 0
  IsPosted = Appends written written_after text × (unread_after ≡ unread) × (s ≡ said.Void)

  abbrev pub IsTold : Bool → Type 0
  IsTold true = IsPosted
  IsTold false = IsAsked

  abbrev pub IsUnasked : Type 0
  IsUnasked = HasFront written written_after text × (unread_after ≡ unread) × (s ≡ not_written)

  abbrev pub IsUntold : Type 0
  IsUntold = (written_after ≡ written) × (unread_after ≡ unread) × (s ≡ said.Memory)

  abbrev pub IsExchanged : Bool → Type 0
  IsExchanged posted = IsTold posted ⊎ (IsUnasked ⊎ IsUntold)

-- ---- answers

-- whether a key is live
abbrev pub is_live : Live → ℕ → Bool
is_live live k = is_some (map.get live k)

-- a value is answered, if a key in it is live
abbrev pub given_of : Live → Value → Answer
given_of live (value.Int n) = answer.Gave (value.Int n)
given_of live (value.Uint n) = answer.Gave (value.Uint n)
given_of live (value.Bool b) = answer.Gave (value.Bool b)
given_of live (value.Key None) = answer.Gave (value.Key None)
given_of live (value.Key (Some k)) =
    if is_live live k then answer.Gave (value.Key (Some k)) else answer.Fault 4294967286

-- the answer to a call, a read or a write
abbrev pub answer_of : Live → Said → Answer
answer_of live said.Void = answer.Void
answer_of live (said.Gave v) = given_of live v
answer_of live (said.Made k) = answer.Fault 4294967284
answer_of live said.Nothing = answer.Fault 4294967284
answer_of live (said.Fault n) = answer.Fault n
answer_of live said.Memory = answer.Memory

-- the answer to a making
abbrev pub made_of : Live → Said → Made
made_of live said.Void = made.Fault 4294967284
made_of live (said.Gave v) = made.Fault 4294967284
made_of live (said.Made k) = if is_live live k then made.Fault 4294967285 else made.Key k
made_of live said.Nothing = made.Nothing
made_of live (said.Fault n) = made.Fault n
made_of live said.Memory = made.Memory

-- the live keys after a making with this answer
abbrev pub live_after : Live → Made → Live
live_after live (made.Key k) = with_key live k
live_after live made.Nothing = live
live_after live (made.Fault n) = live
live_after live made.Memory = live
live_after live made.Full = live

-- A making is answered as is said, or there is no memory to keep the key.
abbrev pub IsMaking : Live → Said → Made → Type 0
IsMaking live s m = (m ≡ made_of live s) ⊎ ((m ≡ made.Memory) × (k : ℕ) × (made_of live s ≡ made.Key k))

-- What a making does to the keys, by its answer.
abbrev pub MakesKey : Ledger → Said → Made → Ledger → Type 0
MakesKey s said (made.Key k) t = (made_of s.live said ≡ made.Key k) × (map.get s.counts k ≡ None) × Inserts s k t
MakesKey s said made.Nothing t = (made_of s.live said ≡ made.Nothing) × (t ≡ s)
MakesKey s said (made.Fault n) t = (made_of s.live said ≡ made.Fault n) × (t ≡ s)
MakesKey s said made.Memory t = IsMaking s.live said made.Memory × (t ≡ s)
MakesKey s said made.Full t = ⊥

-- ---- the core

-- the driver's number, the functions that it is posted, the live keys, and what is known of the bytes that were written and
-- that are left to read
pub record Wire : Type 0 where
  pub number : ℕ
  pub posted : List ℕ
  pub live : Live
  pub written : Option (List ℕ)
  pub unread : Option (List ℕ)

-- known bytes in front of others, with their number and one more
abbrev pub known_code : Option (List ℕ) → List ℕ → List ℕ
known_code None rest = 0 ∷ rest
known_code (Some bytes) rest = (length bytes + 1) ∷ (bytes ++ rest)

abbrev pub core_of : Wire → List ℕ
core_of x =
    x.number ∷ known_code x.written (known_code x.unread (known_code (Some x.posted)
    (list_map (λ e. e.0) (map.entries x.live))))

-- wires with the same number, posted functions, live keys and known bytes
pub record AreAlike (x y : Wire) : Type 0 where
  pub number : x.number ≡ y.number
  pub posted : x.posted ≡ y.posted
  pub live : (k : ℕ) → is_live x.live k ≡ is_live y.live k
  pub written : x.written ≡ y.written
  pub unread : x.unread ≡ y.unread

-- Between two wires this was said to a host call.
abbrev pub Exchanges : Wire → Ask → Said → Wire → Type 0
Exchanges x a s y =
    (y.number ≡ x.number) × (y.posted ≡ x.posted)
    × IsExchanged (ask_text x.number x.posted a) x.written y.written x.unread y.unread s (is_posted x.posted a)

-- a host call to which something is answered
abbrev pub AnswerMoves : Wire → Ask → HostReply → Wire → Type 0
AnswerMoves x a r y =
    (s : Said) × Exchanges x a s y × (r ≡ Asking (answer_of x.live s)) × (y.live ≡ x.live)

-- a host call for an object
abbrev pub MakingMoves : Wire → Ask → HostReply → Wire → Type 0
MakingMoves x a r y =
    (s : Said) × (m : Made) × Exchanges x a s y × IsMaking x.live s m × (r ≡ Making m) × (y.live ≡ live_after x.live m)

-- how the wire moves; a key that ends is no longer live, and nothing is told
abbrev pub WireMoves : Wire → Ask → HostReply → Wire → Type 0
WireMoves x (make f args) r y = MakingMoves x (make f args) r y
WireMoves x (call f o args) r y = AnswerMoves x (call f o args) r y
WireMoves x (read f o) r y = AnswerMoves x (read f o) r y
WireMoves x (write f o v) r y = AnswerMoves x (write f o v) r y
WireMoves x (end k) r y = (r ≡ Asking answer.Void) × (y ≡ record x { live = map.remove x.live k })

-- a core moves as the wires move that it tells before and after
abbrev pub RemoteFits : Fits
RemoteFits c a r d = (x : Wire) × (y : Wire) × (c ≡ core_of x) × (d ≡ core_of y) × WireMoves x a r y

-- no objects, and never asked
abbrev pub fresh_state : ℕ → List ℕ → Option (List ℕ) → Option (List ℕ) → State
fresh_state number posted written unread = record {
  counts = map.empty;
  core = core_of (record {
    number = number;
    posted = posted;
    live = map.empty;
    written = written;
    unread = unread;
  });
  tally = record { asked = 0; made = 0; added = 0; released = 0 };
}
