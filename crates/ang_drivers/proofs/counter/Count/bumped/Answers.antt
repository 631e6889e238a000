use Rattle.std.proofs.Common.{rules}
use Rattle.std.specs.Int.{w32}
use Rattle.std.specs.Int.RustNames.{FitsSigned}
use Rattle.std.proofs.lemmas.Int.{wrapping_add_is, to_z-of_z}
use Rattle.ang_drivers.proofs.counter.Count.bumped.Goals as goal

pub returns : goal.returns
returns c = record {
  exact =
      let v : FitsSigned w32 c.args.self.value = search rules in
      let s : FitsSigned w32 c.args.self.step = search rules in
      let p = wrapping_add_is w32 c.args.self.value c.args.self.step v s in
      let q = to_z-of_z w32 c.args.self.step s in
      λ i. record { value = p i; step = q i };
}
