use Rattle.std.proofs.Common.{rules, arith, ◌≡◌, ◌≢◌, length, List, Some, None, ℕ, sym, ap, ◌∙◌}
use Rattle.std.proofs.lemmas.Grind.{common_steps}
use Rattle.ang_check_contest.specs.Contest.{met, passed}
use Rattle.ang_check_contest.specs.Levels.{AreLevels, known_ranks, levels_beside, levels_in, worst}
use Rattle.ang_check_contest.specs.Told.{told_ranks}
use Rattle.ang_check_contest.proofs.LevelLaws.{by_levels_met, by_levels_passed, levels_long, other_number}
use Rattle.ang_check_contest.proofs.told_contest.ToldContest.passes.Goals as goal

pub returns-then-numbers-len-clause-passed : goal.returns-then-numbers-len-clause-passed
returns-then-numbers-len-clause-passed c = λ taken params named are.
    c.passes_by_number.ensures.passed taken
    ∙ sym (other_number c.args.self.now.telling c.args.self.now.standing params named c.args.numbers.now are (c.passes_by_number.ensures.other_number taken))

pub returns-in_default-clause-passed : goal.returns-in_default-clause-passed
returns-in_default-clause-passed c =
    let t = c.args.self.now.telling in
    let s = c.args.self.now.standing in
    let ns = c.args.numbers.now in
    let held = c.self.inside in
    let stands : held.contest ≡ s = search rules in
    let tells : held.told ≡ t = search rules in
    let known = levels_in held.levels.items in
    let right : AreLevels t s known =
    λ some. c.self.invariant some ∙ (λ i. levels_beside (told_ranks (tells i).ancestors (tells i).kinds (tells i).args) (known_ranks (stands i).least)) in
    let as_many : length ns ≡ length held.levels.items = grind (arith, common_steps) in
    let long : length ns ≡ length known = as_many ∙ sym (levels_long held.levels.items) in
    let greatest : worst known ns ≡ c.worst_level.result =
    ap (λ xs. worst (levels_in xs) ns) (sym c.as_slice.ensures.value) ∙ sym c.worst_level.ensures.exact in
    let missing : c.worst_level.result ≡ None = search rules in
    λ taken params named are.
    c.pass.ensures.passed ∙ (ap passed stands ∙ sym (by_levels_passed t s params named ns are known None right long (greatest ∙ missing) tt))

pub returns-then-not-is_empty-clause-passed : goal.returns-then-not-is_empty-clause-passed
returns-then-not-is_empty-clause-passed c =
    let t = c.args.self.now.telling in
    let s = c.args.self.now.standing in
    let ns = c.args.numbers.now in
    let held = c.self.inside in
    let stands : held.contest ≡ s = search rules in
    let tells : held.told ≡ t = search rules in
    let known = levels_in held.levels.items in
    let right : AreLevels t s known =
    λ some. c.self.invariant some ∙ (λ i. levels_beside (told_ranks (tells i).ancestors (tells i).kinds (tells i).args) (known_ranks (stands i).least)) in
    let as_many : length ns ≡ length held.levels.items = grind (arith, common_steps) in
    let long : length ns ≡ length known = as_many ∙ sym (levels_long held.levels.items) in
    let greatest : worst known ns ≡ c.worst_level.result =
    ap (λ xs. worst (levels_in xs) ns) (sym c.as_slice.ensures.value) ∙ sym c.worst_level.ensures.exact in
    let found : c.worst_level.result ≡ Some c.in-Some.worst = search rules in
    let filled : length ns ≢ 0 = grind (arith, common_steps) in
    λ taken params named are.
    c.tie.ensures.tied taken named
    ∙ ((λ i. met (stands i) named (stands i).front)
    ∙ sym (by_levels_met t s params named ns are known right long (λ gone. filled (ap (λ (xs : List ℕ). length xs) gone)) (greatest ∙ (found ∙ ap Some c.if-worst-eq-LEAST.true))))

pub returns-clause-passed : goal.returns-clause-passed
returns-clause-passed c =
    let t = c.args.self.now.telling in
    let s = c.args.self.now.standing in
    let ns = c.args.numbers.now in
    let held = c.self.inside in
    let stands : held.contest ≡ s = search rules in
    let tells : held.told ≡ t = search rules in
    let known = levels_in held.levels.items in
    let right : AreLevels t s known =
    λ some. c.self.invariant some ∙ (λ i. levels_beside (told_ranks (tells i).ancestors (tells i).kinds (tells i).args) (known_ranks (stands i).least)) in
    let as_many : length ns ≡ length held.levels.items = grind (arith, common_steps) in
    let long : length ns ≡ length known = as_many ∙ sym (levels_long held.levels.items) in
    let greatest : worst known ns ≡ c.worst_level.result =
    ap (λ xs. worst (levels_in xs) ns) (sym c.as_slice.ensures.value) ∙ sym c.worst_level.ensures.exact in
    let found : c.worst_level.result ≡ Some c.in-Some.worst = search rules in
    λ taken params named are.
    c.pass-2.ensures.passed
    ∙ (ap passed stands ∙ sym (by_levels_passed t s params named ns are known (Some c.in-Some.worst) right long (greatest ∙ found) (c.if-worst-eq-LEAST.false, c.if-worst-eq-LOWER.false)))
