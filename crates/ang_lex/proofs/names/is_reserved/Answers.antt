use Rattle.std.proofs.Common.{length, refl, ◌∙◌, ap}
use Rattle.ang_lex.specs.Words.{reserved_words, is_listed}
use Rattle.ang_lex.proofs.Tables.{is_listed-filter}
use Rattle.ang_lex.proofs.names.is_reserved.Goals as goal

pub returns : goal.returns
returns c = record { exact = c.is_listed.ensures.exact ∙ ap (λ es. is_listed es c.args.text.now) c.words_of_length.ensures.exact ∙ is_listed-filter (length c.args.text.now) reserved_words c.args.text.now refl }
