use Rattle.std.proofs.Common.{rules, ℕ, sym, subst}
use Rattle.std.proofs.lemmas.Option.{same_Some}
use Rattle.ang_types.specs.Overloads.{IsBest}
use Rattle.ang_types.proofs.BestLaws.{best_of-says}
use Rattle.ang_types.proofs.overloads.resolve.Goals as goal

pub returns-in-None-clause-exact : goal.returns-in-None-clause-exact
returns-in-None-clause-exact c =
    let says = best_of-says c.args.lineage.now c.args.candidates.now c.args.args.now in
    sym (says.no_viable.1 (λ i v. c.in-None.ensures.leads.none i v.there v))

pub returns-in-Some-clause-exact : goal.returns-in-Some-clause-exact
returns-in-Some-clause-exact c =
    let says = best_of-says c.args.lineage.now c.args.candidates.now c.args.args.now in
    sym ((says.one c.in-Some.i).1 (search rules))

pub returns-in-Some-2-clause-exact : goal.returns-in-Some-2-clause-exact
returns-in-Some-2-clause-exact c =
    let l = c.args.lineage.now in
    let cs = c.args.candidates.now in
    let args = c.args.args.now in
    let leads = c.in-Some.ensures.leads in
    let not_best : ¬ IsBest l cs args c.in-Some.i = search rules in
    sym ((best_of-says l cs args).ambiguous.1 (
      (c.in-Some.i, leads.viable),
      λ (k : ℕ) (b : IsBest l cs args k). not_best (subst (IsBest l cs args) (sym (same_Some c.in-Some.i k (leads.best k b.viable.there b))) b),
    ))
