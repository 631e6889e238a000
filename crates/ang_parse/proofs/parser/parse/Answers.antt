use Rattle.std.proofs.Common.{refl}
use Rattle.std.proofs.lemmas.Result.{err_from_is_err_and}
use Rattle.ang_parse.proofs.Columns.{tokens_columns}
use Rattle.ang_parse.proofs.Answered.{script_found, same_script, only_want, deep_clause, syntax_clause}
use Rattle.ang_parse.proofs.parser.parse.Goals as goal

pub declarations-requires : goal.declarations-requires
declarations-requires c = record { columns = tokens_columns c.requires.tokens.sect c.args.text.now c.args.tokens.now c.requires.tokens.are }

pub returns-in_err-declarations-clause-only : goal.returns-in_err-declarations-clause-only
returns-in_err-declarations-clause-only c =
    let p = err_from_is_err_and c.from_residual.result c.from_residual.ensures.1 in
    rw (p.1, p.2) (only_want c.args.text.now c.args.tokens.now _ c.in_err-declarations.ensures.fault)

pub returns-in_err-declarations-clause-deep : goal.returns-in_err-declarations-clause-deep
returns-in_err-declarations-clause-deep c =
    let p = err_from_is_err_and c.from_residual.result c.from_residual.ensures.1 in
    rw (p.1, p.2) (deep_clause c.args.text.now c.args.tokens.now _ _ c.in_err-declarations.ensures.fault c.in_err-declarations.ensures.deep _ _ refl)

pub returns-in_err-declarations-clause-syntax : goal.returns-in_err-declarations-clause-syntax
returns-in_err-declarations-clause-syntax c =
    let p = err_from_is_err_and c.from_residual.result c.from_residual.ensures.1 in
    rw (p.1, p.2) (syntax_clause c.args.text.now c.args.tokens.now _ c.in_err-declarations.ensures.fault)

pub returns-clause-found : goal.returns-clause-found
returns-clause-found c = script_found c.args.text.now c.args.tokens.now _ c.in_ok-declarations.ensures.script

pub returns-clause-only : goal.returns-clause-only
returns-clause-only c = λ ds h. same_script c.args.text.now c.args.tokens.now _ ds c.in_ok-declarations.ensures.script h
