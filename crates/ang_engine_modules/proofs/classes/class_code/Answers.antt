use Rattle.std.proofs.Common.{◌≡◌, ◌∷◌, rules}
use Rattle.ang_vm_stack.specs.Tables.{method_in}
use Rattle.ang_engine_modules.proofs.classes.class_code.Goals as goal

pub returns : goal.returns
returns c =
    let fields : c.from_vec.result ≡ c.args.parts.fields.items = search rules in
    let under : c.from_vec-2.result ≡ c.args.number ∷ c.args.class.above = search rules in
    record {
      exact = λ j. record {
        class = record { number = c.args.number; rank = c.args.class.rank; fields = fields j; under = under j };
        method = λ s. method_in c.args.parts.methods s;
      };
    }
