-- Lines that are read byte by byte.
use Rattle.std.proofs.Common.{◌≡◌, ◌≢◌, ℕ, ◌+◌, ◌<◌, ◌≤◌, Bool, true, false, List, [], ◌∷◌, ◌++◌, length, Option, Some, None, refl, sym, ap, subst, ◌∙◌, inl, inr, arith, append_assoc, length-append}
use Rattle.std.specs.Io.KnownBytes.{Consumes, IsAtEnd}
use Rattle.std.proofs.lemmas.List.{append-nil}
use Rattle.ang_remote.specs.declared.lines.Heard.{Heard}
use Rattle.ang_remote.specs.declared.lines.Heard.TheVariants as heard
use Rattle.ang_remote.specs.Lines.{IsPlain, IsLine, IsKept, IsKeeping, HasRead, IsPassed, IsHeard, last_of}
use Rattle.ang_remote.specs.Wires.{Line, Long, Lost, Ended, Broken, IsAnswered, heard_as, most_answer}
use Rattle.ang_remote.proofs.Streams.{consumes_both, consumes_nothing}

longer : (xs : List ℕ) (b : ℕ) → length (xs ++ b ∷ []) ≡ length xs + 1
longer xs b = length-append xs (b ∷ [])

-- ---- one byte more

pub long_stays : (most : ℕ) (text : List ℕ) (byte : ℕ) (h : Heard) → h ≢ heard.Line → IsKeeping most h text byte h text
long_stays most text byte heard.Line ne before bytes p = absurd (ne refl)
long_stays most text byte heard.Last ne before bytes p = absurd p
long_stays most text byte heard.Long ne before bytes p = omega (arith, longer bytes byte, p)
long_stays most text byte heard.Memory ne before bytes p = tt
long_stays most text byte heard.End ne before bytes p = absurd p
long_stays most text byte heard.Failed ne before bytes p = absurd p

pub too_long : (most : ℕ) (text : List ℕ) (byte : ℕ) → most ≤ length text → IsKeeping most heard.Line text byte heard.Long text
too_long most text byte le before bytes p =
    let e : length text ≡ length before + length bytes = ap length p.0 ∙ length-append before bytes in
    omega (arith, longer bytes byte, e, le)

pub fits_in : (most : ℕ) (text after : List ℕ) (byte : ℕ) → length text < most → after ≡ text ++ byte ∷ [] → IsKeeping most heard.Line text byte heard.Line after
fits_in most text after byte lt e before bytes p =
    (e ∙ ap (λ x. x ++ byte ∷ []) p.0 ∙ append_assoc before bytes (byte ∷ []), λ some. omega (arith, ap length e, longer text byte, lt))

pub is_lost : (most : ℕ) (text after : List ℕ) (byte : ℕ) → IsKeeping most heard.Line text byte heard.Memory after
is_lost most text after byte before bytes p = tt

-- ---- a line so far

plain_more : (xs : List ℕ) (b : ℕ) → IsPlain xs → b ≢ 10 → IsPlain (xs ++ b ∷ [])
plain_more [] b p ne = (ne, tt)
plain_more (x ∷ xs) b p ne = (p.0, plain_more xs b p.1 ne)

pub begins : (most : ℕ) (before : List ℕ) (old : Option (List ℕ)) → HasRead most before before old old heard.Line false
begins most before old = record {
  bytes = [];
  read = consumes_nothing old;
  plain = tt;
  kept = (sym (append-nil before), λ some. absurd (omega (arith, some)));
  some = λ e. absurd (let x : ⊥ = cc in x);
  none = λ e. (refl, refl);
}

pub one_more : (most : ℕ) (before text after : List ℕ) (old mid new : Option (List ℕ)) (h k : Heard) (begun : Bool) (byte : ℕ)
    → HasRead most before text old mid h begun → Consumes mid new (byte ∷ []) → IsKeeping most h text byte k after → byte ≢ 10
    → HasRead most before after old new k true
one_more most before text after old mid new h k begun byte r c keeping ne = record {
  bytes = r.bytes ++ byte ∷ [];
  read = consumes_both old mid new r.bytes (byte ∷ []) r.read c;
  plain = plain_more r.bytes byte r.plain ne;
  kept = keeping before r.bytes r.kept;
  some = λ e. omega (arith, longer r.bytes byte);
  none = λ e. absurd (let x : ⊥ = cc in x);
}

-- the LF
ended : (most : ℕ) (before after bytes : List ℕ) (old new : Option (List ℕ)) (k : Heard) → IsPlain bytes → Consumes old new (bytes ++ 10 ∷ [])
    → IsKept most k before (bytes ++ 10 ∷ []) after → IsHeard most before after old new k
ended most before after bytes old new heard.Line p c kept = record { body = bytes; plain = p; read = c; kept = kept }
ended most before after bytes old new heard.Last p c kept = absurd kept
ended most before after bytes old new heard.Long p c kept = record { line = bytes ++ 10 ∷ []; read = c; whole = record { body = bytes; plain = p; ended = inl refl }; kept = kept }
ended most before after bytes old new heard.Memory p c kept = record { line = bytes ++ 10 ∷ []; read = c; whole = record { body = bytes; plain = p; ended = inl refl }; kept = kept }
ended most before after bytes old new heard.End p c kept = absurd kept
ended most before after bytes old new heard.Failed p c kept = absurd kept

pub ends_line : (most : ℕ) (before text after : List ℕ) (old mid new : Option (List ℕ)) (h k : Heard) (begun : Bool) (byte : ℕ)
    → HasRead most before text old mid h begun → Consumes mid new (byte ∷ []) → IsKeeping most h text byte k after → byte ≡ 10
    → IsHeard most before after old new k
ends_line most before text after old mid new h k begun byte r c keeping e =
    ended most before after r.bytes old new k r.plain (rw (← e) (consumes_both old mid new r.bytes (byte ∷ []) r.read c)) (rw (← e) (keeping before r.bytes r.kept))

-- the end of the stream, after some bytes
open_ended : (most : ℕ) (before after bytes : List ℕ) (old new : Option (List ℕ)) (h : Heard) → IsPlain bytes → 0 < length bytes → Consumes old new bytes → IsAtEnd new
    → IsKept most h before bytes after → IsHeard most before after old new (last_of h)
open_ended most before after bytes old new heard.Line p some c e kept = record { body = bytes; plain = p; some = some; read = c; end = e; kept = kept }
open_ended most before after bytes old new heard.Last p some c e kept = absurd kept
open_ended most before after bytes old new heard.Long p some c e kept = record { line = bytes; read = c; whole = record { body = bytes; plain = p; ended = inr (refl, some, e) }; kept = kept }
open_ended most before after bytes old new heard.Memory p some c e kept = record { line = bytes; read = c; whole = record { body = bytes; plain = p; ended = inr (refl, some, e) }; kept = kept }
open_ended most before after bytes old new heard.End p some c e kept = absurd kept
open_ended most before after bytes old new heard.Failed p some c e kept = absurd kept

pub ends_open : (most : ℕ) (before after : List ℕ) (old mid new : Option (List ℕ)) (h : Heard) (begun : Bool) → begun ≡ true
    → HasRead most before after old mid h begun → Consumes mid new [] → IsAtEnd new → IsHeard most before after old new (last_of h)
ends_open most before after old mid new h begun is r c e =
    let all : Consumes old new r.bytes = rw (← append-nil r.bytes) (consumes_both old mid new r.bytes [] r.read c) in
    open_ended most before after r.bytes old new h r.plain (r.some is) all e r.kept

-- and after none
pub ends_empty : (most : ℕ) (before after : List ℕ) (old mid new : Option (List ℕ)) (h : Heard) (begun : Bool) → begun ≡ false
    → HasRead most before after old mid h begun → Consumes mid new [] → IsAtEnd new → IsHeard most before after old new heard.End
ends_empty most before after old mid new h begun is r c e =
    let none = r.none is in
    let all : Consumes old new (r.bytes ++ []) = consumes_both old mid new r.bytes [] r.read c in
    let nothing : r.bytes ++ [] ≡ [] = append-nil r.bytes ∙ none.0 in
    (rw (← nothing) all, e, none.1)

-- a failure, after some bytes or none
pub breaks : (most : ℕ) (before after : List ℕ) (old mid new : Option (List ℕ)) (h : Heard) (begun : Bool)
    → HasRead most before after old mid h begun → Consumes mid new [] → IsHeard most before after old new heard.Failed
breaks most before after old mid new h begun r c =
    (r.bytes, rw (← append-nil r.bytes) (consumes_both old mid new r.bytes [] r.read c), r.plain)

-- it went on too long
pub gives_up : (most : ℕ) (before after : List ℕ) (old new : Option (List ℕ)) (h : Heard) (begun : Bool)
    → HasRead most before after old new h begun → IsHeard most before after old new heard.Failed
gives_up most before after old new h begun r = (r.bytes, r.read, r.plain)

-- ---- answers

-- what is heard in the place of an answer is what it is taken for
pub heard_answer : (line : List ℕ) (old new : Option (List ℕ)) (h : Heard) → IsHeard most_answer [] line old new h → IsAnswered old new (heard_as h line)
heard_answer line old new heard.Line e = (
  Line line,
  (
    subst (λ x. Consumes old new x) (sym e.kept.0) e.read,
    record { body = e.body; plain = e.plain; ended = inl e.kept.0 },
    e.kept.1 (omega (arith, longer e.body 10)),
  ),
  refl,
)
heard_answer line old new heard.Last e = (
  Line line,
  (
    subst (λ x. Consumes old new x) (sym e.kept.0) e.read,
    record { body = e.body; plain = e.plain; ended = inr (e.kept.0, e.some, e.end) },
    e.kept.1 e.some,
  ),
  refl,
)
heard_answer line old new heard.Long p = (Long p.line, (p.read, p.whole, omega (arith, p.kept)), refl)
heard_answer line old new heard.Memory p = (Lost p.line, (p.read, p.whole), refl)
heard_answer line old new heard.End e = (Ended, (e.0, e.1), refl)
heard_answer line old new heard.Failed e = (Broken e.0, e.1, refl)

pub heard_answer_from : (before line : List ℕ) (old new : Option (List ℕ)) (h : Heard) → before ≡ [] → IsHeard 64 before line old new h → IsAnswered old new (heard_as h line)
heard_answer_from before line old new h e p = heard_answer line old new h (subst (λ x. IsHeard 64 x line old new h) e p)
