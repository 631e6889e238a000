use Rattle.ang_lex.proofs.FoundIsLongest.{front_token-longest, front_token-kind}
use Rattle.ang_lex.proofs.piece.longest_token.Goals as goal

pub returns-clause-length : goal.returns-clause-length
returns-clause-length c =
    let is = c.front_token.ensures.value in
    rw is (front_token-longest c.args.rest.now (rw is at c.front_token.ensures.within))

pub returns-clause-kind : goal.returns-clause-kind
returns-clause-kind c =
    let is = c.front_token.ensures.value in
    rw is (front_token-kind c.args.rest.now (rw is at c.front_token.ensures.within))
