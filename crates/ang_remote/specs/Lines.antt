-- Lines of a stream, and what is read in the place of one.
use Rattle.std.specs.Prelude.{ℕ, ◌+◌, ◌≡◌, ◌≢◌, ◌<◌, ◌≤◌, ◌⊎◌, Bool, true, false, List, [], ◌∷◌, ◌++◌, length, Option}
use Rattle.std.specs.Io.KnownBytes.{Consumes, IsAtEnd}
use Rattle.ang_remote.specs.declared.lines.Heard.{Heard}
use Rattle.ang_remote.specs.declared.lines.Heard.TheVariants as heard

-- no byte is an LF
abbrev pub IsPlain : List ℕ → Type 0
IsPlain [] = Unit {0}
IsPlain (b ∷ bs) = (b ≢ 10) × IsPlain bs

-- A line, after which the bytes `left` are left: it ends at its first LF, or, where there is none, with the stream.
pub record IsLine (line : List ℕ) (left : Option (List ℕ)) : Type 0 where
  pub body : List ℕ
  pub plain : IsPlain body
  pub ended : (line ≡ body ++ 10 ∷ []) ⊎ ((line ≡ body) × (0 < length body) × IsAtEnd left)

-- What became of a text, after which these bytes were to be put. It is to have no more than `most` bytes.
abbrev pub IsKept : ℕ → Heard → List ℕ → List ℕ → List ℕ → Type 0
IsKept most heard.Line before bytes after = (after ≡ before ++ bytes) × (0 < length bytes → length after ≤ most)
IsKept most heard.Last before bytes after = ⊥
IsKept most heard.Long before bytes after = most < length before + length bytes
IsKept most heard.Memory before bytes after = Unit {0}
IsKept most heard.End before bytes after = ⊥
IsKept most heard.Failed before bytes after = ⊥

-- One byte more is kept, or not.
abbrev pub IsKeeping : ℕ → Heard → List ℕ → ℕ → Heard → List ℕ → Type 0
IsKeeping most kept text byte after_kept after =
    (before bytes : List ℕ) → IsKept most kept before bytes text → IsKept most after_kept before (bytes ++ byte ∷ []) after

-- What was read so far of a line, which has begun where a byte came.
pub record HasRead (most : ℕ) (before after : List ℕ) (old new : Option (List ℕ)) (h : Heard) (begun : Bool) : Type 0 where
  pub bytes : List ℕ
  pub read : Consumes old new bytes
  pub plain : IsPlain bytes
  pub kept : IsKept most h before bytes after
  pub some : begun ≡ true → 0 < length bytes
  pub none : begun ≡ false → (bytes ≡ []) × (after ≡ before)

-- what is heard where the stream ends after some bytes of a line
abbrev pub last_of : Heard → Heard
last_of heard.Line = heard.Last
last_of heard.Last = heard.Last
last_of heard.Long = heard.Long
last_of heard.Memory = heard.Memory
last_of heard.End = heard.End
last_of heard.Failed = heard.Failed

-- a line was read that is not kept
pub record IsPassed (most : ℕ) (before after : List ℕ) (old new : Option (List ℕ)) (h : Heard) : Type 0 where
  pub line : List ℕ
  pub read : Consumes old new line
  pub whole : IsLine line new
  pub kept : IsKept most h before line after

-- a line was read to its LF, and stands after the text
pub record IsEnded (most : ℕ) (before after : List ℕ) (old new : Option (List ℕ)) : Type 0 where
  pub body : List ℕ
  pub plain : IsPlain body
  pub read : Consumes old new (body ++ 10 ∷ [])
  pub kept : IsKept most heard.Line before (body ++ 10 ∷ []) after

-- a line was read to the end of the stream, and stands after the text
pub record IsLast (most : ℕ) (before after : List ℕ) (old new : Option (List ℕ)) : Type 0 where
  pub body : List ℕ
  pub plain : IsPlain body
  pub some : 0 < length body
  pub read : Consumes old new body
  pub end : IsAtEnd new
  pub kept : IsKept most heard.Line before body after

-- What was read in the place of a line, after the text `before`, which is `after` then.
abbrev pub IsHeard : ℕ → List ℕ → List ℕ → Option (List ℕ) → Option (List ℕ) → Heard → Type 0
IsHeard most before after old new heard.Line = IsEnded most before after old new
IsHeard most before after old new heard.Last = IsLast most before after old new
IsHeard most before after old new heard.Long = IsPassed most before after old new heard.Long
IsHeard most before after old new heard.Memory = IsPassed most before after old new heard.Memory
IsHeard most before after old new heard.End = Consumes old new [] × IsAtEnd new × (after ≡ before)
IsHeard most before after old new heard.Failed = (front : List ℕ) × Consumes old new front × IsPlain front
