use Rattle.std.proofs.Common.{◌≡◌, ◌∙◌, ◌++◌, [], ap, sym, subst}
use Rattle.std.proofs.lemmas.List.{append-nil}
use Rattle.std.specs.Prelude.{IfOk, OnOk, is_some, unwrap_or, option_and_then}
use Rattle.ang_engine.specs.Declarations.{text_in}
use Rattle.ang_engine.proofs.engine.Engine.write_declaration.Goals as goal

pub returns-in-Some-clause-found : goal.returns-in-Some-clause-found
returns-in-Some-clause-found g c =
    subst (λ o. IfOk c.write_declared.result (λ found. found ≡ is_some (option_and_then (text_in c.args.kind c.args.number) o))) c.in-Some.ensures.program c.write_declared.ensures.found

pub returns-in-Some-clause-written : goal.returns-in-Some-clause-written
returns-in-Some-clause-written g c =
    subst (λ o. OnOk c.write_declared.result (c.write_declared.new.out.items ≡ c.args.out.now.items ++ unwrap_or (option_and_then (text_in c.args.kind c.args.number) o) [])) c.in-Some.ensures.program
    c.write_declared.ensures.written

pub returns-in-None-clause-found : goal.returns-in-None-clause-found
returns-in-None-clause-found g c = ap (λ o. is_some (option_and_then (text_in c.args.kind c.args.number) o)) c.in-None.ensures.program

pub returns-in-None-clause-written : goal.returns-in-None-clause-written
returns-in-None-clause-written g c =
    sym (append-nil c.args.out.now.items) ∙ ap (λ o. c.args.out.now.items ++ unwrap_or (option_and_then (text_in c.args.kind c.args.number) o) []) c.in-None.ensures.program
