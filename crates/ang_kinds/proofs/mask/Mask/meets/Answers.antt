use Rattle.std.proofs.Common.{rules, ◌≢◌, ◌<◌, ◌^◌, bit_and}
use Rattle.std.proofs.lemmas.Bool.Decides.{same_from_decides}
use Rattle.ang_kinds.specs.Masks.{meets}
use Rattle.ang_kinds.proofs.Meeting.{Meets-from_and, and-from_Meets, meets_says}
use Rattle.ang_kinds.proofs.mask.Mask.meets.Goals as goal

pub returns-clause-exact : goal.returns-clause-exact
returns-clause-exact c = (
  λ h. let ne : bit_and c.args.self.0 c.args.other.0 ≢ 0 = search rules in
      let fits : c.args.self.0 < 2 ^ 32 = search rules in
      Meets-from_and c.args.self.0 c.args.other.0 fits ne,
  λ m. let ne : bit_and c.args.self.0 c.args.other.0 ≢ 0 = and-from_Meets _ _ m in search rules,
)

pub returns-clause-test : goal.returns-clause-test
returns-clause-test c =
    let a = c.args.self.0 in
    let b = c.args.other.0 in
    same_from_decides _ (meets a b) (returns-clause-exact c) (meets_says a b)
