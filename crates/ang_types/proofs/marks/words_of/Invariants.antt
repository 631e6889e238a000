use Rattle.std.proofs.Common.{ℕ, ◌≡◌, length, take}
use Rattle.ang_types.specs.Marks.{has, is_marked_in}
use Rattle.ang_types.proofs.marks.words_of.Given as goal

abbrev pub invariant-loop-number : goal.invariant-loop-number
invariant-loop-number l =
    record {
      size : length l.words.items ≡ l.count;
      marked : (n : ℕ) → is_marked_in l.least l.words.items n ≡ has (take l.number-index l.numbers) n;
    }
