use Rattle.std.proofs.Common.{◌≡◌, ◌≤◌, drop}
use Rattle.ang_tree.specs.Depth.{too_deep_from}
use Rattle.ang_parse.proofs.depth.too_deep.Given as goal

abbrev pub invariant-loop-token : goal.invariant-loop-token
invariant-loop-token l = record {
  brackets_few : l.brackets ≤ 64;
  operators_few : l.operators ≤ 256;
  rest : too_deep_from l.brackets l.operators (drop l.token-index l.tokens) ≡ too_deep_from 0 0 l.tokens;
}
