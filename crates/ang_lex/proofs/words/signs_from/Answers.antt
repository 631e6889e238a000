use Rattle.std.proofs.Common.{nat_eq}
use Rattle.std.proofs.Common.{arith}
use Rattle.std.proofs.lemmas.Bool.{eq-eqb}
use Rattle.std.proofs.lemmas.Bool.Decides.{nat_tests}
use Rattle.ang_lex.specs.Words.{signs}
use Rattle.ang_lex.proofs.Tables.{signs-in_class, is_single}
use Rattle.ang_lex.proofs.words.signs_from.Goals as goal

pub returns-in-62 : goal.returns-in-62
unfolding signs
returns-in-62 c = record { complete = λ rest begun. signs-in_class (λ b. nat_eq b 62) c.args.first rest (eq-eqb c.args.first 62 c.in-62.is) begun }

pub returns-in-60 : goal.returns-in-60
unfolding signs
returns-in-60 c = record { complete = λ rest begun. signs-in_class (λ b. nat_eq b 60) c.args.first rest (eq-eqb c.args.first 60 c.in-60.is) begun }

pub returns-in-61 : goal.returns-in-61
unfolding signs
returns-in-61 c = record { complete = λ rest begun. signs-in_class (λ b. nat_eq b 61) c.args.first rest (eq-eqb c.args.first 61 c.in-61.is) begun }

pub returns-in-33 : goal.returns-in-33
unfolding signs
returns-in-33 c = record { complete = λ rest begun. signs-in_class (λ b. nat_eq b 33) c.args.first rest (eq-eqb c.args.first 33 c.in-33.is) begun }

pub returns-in-38 : goal.returns-in-38
unfolding signs
returns-in-38 c = record { complete = λ rest begun. signs-in_class (λ b. nat_eq b 38) c.args.first rest (eq-eqb c.args.first 38 c.in-38.is) begun }

pub returns-in-124 : goal.returns-in-124
unfolding signs
returns-in-124 c = record { complete = λ rest begun. signs-in_class (λ b. nat_eq b 124) c.args.first rest (eq-eqb c.args.first 124 c.in-124.is) begun }

pub returns-in-94 : goal.returns-in-94
unfolding signs
returns-in-94 c = record { complete = λ rest begun. signs-in_class (λ b. nat_eq b 94) c.args.first rest (eq-eqb c.args.first 94 c.in-94.is) begun }

pub returns-in-43 : goal.returns-in-43
unfolding signs
returns-in-43 c = record { complete = λ rest begun. signs-in_class (λ b. nat_eq b 43) c.args.first rest (eq-eqb c.args.first 43 c.in-43.is) begun }

pub returns-in-45 : goal.returns-in-45
unfolding signs
returns-in-45 c = record { complete = λ rest begun. signs-in_class (λ b. nat_eq b 45) c.args.first rest (eq-eqb c.args.first 45 c.in-45.is) begun }

pub returns-in-42 : goal.returns-in-42
unfolding signs
returns-in-42 c = record { complete = λ rest begun. signs-in_class (λ b. nat_eq b 42) c.args.first rest (eq-eqb c.args.first 42 c.in-42.is) begun }

pub returns-in-47 : goal.returns-in-47
unfolding signs
returns-in-47 c = record { complete = λ rest begun. signs-in_class (λ b. nat_eq b 47) c.args.first rest (eq-eqb c.args.first 47 c.in-47.is) begun }

pub returns-in-37 : goal.returns-in-37
unfolding signs
returns-in-37 c = record { complete = λ rest begun. signs-in_class (λ b. nat_eq b 37) c.args.first rest (eq-eqb c.args.first 37 c.in-37.is) begun }

pub returns-in-58 : goal.returns-in-58
unfolding signs
returns-in-58 c = record { complete = λ rest begun. signs-in_class (λ b. nat_eq b 58) c.args.first rest (eq-eqb c.args.first 58 c.in-58.is) begun }

pub returns-in_default : goal.returns-in_default
unfolding signs
returns-in_default c = record { complete = λ rest begun. signs-in_class is_single c.args.first rest (grind (arith, nat_tests)) begun }
