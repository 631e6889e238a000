use Rattle.std.proofs.Common.{refl, sym, arith, ⊎_elim, inl, inr}
use Rattle.std.proofs.str.Laws.{order}
use Rattle.ang_lex.specs.Words.{reserved_words}
use Rattle.ang_lex.proofs.Tables.{no_words}
use Rattle.ang_lex.proofs.words.words_of_length.Goals as goal

pub returns-in-2 : goal.returns-in-2
unfolding reserved_words
returns-in-2 c = record { exact = rw c.in-2.is refl }

pub returns-in-3 : goal.returns-in-3
unfolding reserved_words
returns-in-3 c = record { exact = rw c.in-3.is refl }

pub returns-in-4 : goal.returns-in-4
unfolding reserved_words
returns-in-4 c = record { exact = rw c.in-4.is refl }

pub returns-in-5 : goal.returns-in-5
unfolding reserved_words
returns-in-5 c = record { exact = rw c.in-5.is refl }

pub returns-in-6 : goal.returns-in-6
unfolding reserved_words
returns-in-6 c = record { exact = rw c.in-6.is refl }

pub returns-in-7 : goal.returns-in-7
unfolding reserved_words
returns-in-7 c = record { exact = rw c.in-7.is refl }

pub returns-in-8 : goal.returns-in-8
unfolding reserved_words
returns-in-8 c = record { exact = rw c.in-8.is refl }

pub returns-in-9 : goal.returns-in-9
unfolding reserved_words
returns-in-9 c = record { exact = rw c.in-9.is refl }

pub returns-in_default : goal.returns-in_default
returns-in_default c = record { exact = sym (no_words c.args.len (⊎_elim (λ below. inl below) (λ above. inr (omega arith)) (order c.args.len 2))) }
