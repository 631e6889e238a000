use Rattle.std.proofs.Common.{Result, Ok, Err, IfOk}
use Rattle.ang_lex.proofs.Cutting.{tokens_within}
use Rattle.ang_lex.proofs.lexer.lex.Goals as goal

ok_weaker : {V E : Type 0} (P Q : V → Type 0) (r : Result V E) → ((v : V) → P v → Q v) → IfOk r P → IfOk r Q
ok_weaker P Q (Ok v) each is = each v is
ok_weaker P Q (Err e) each is = tt

pub returns-clause-spans : goal.returns-clause-spans
returns-clause-spans c =
    ok_weaker _ _ c.section_tokens.result (λ v. tokens_within c.args.sect c.args.text.now v.items) c.section_tokens.ensures.tokens
