use Rattle.std.proofs.Common.{rules, ◌≡◌, ◌∷◌}
use Rattle.ang_check_context.specs.Names.{own_type}
use Rattle.ang_check.specs.Typing.{this_parameter, typed_parameters}
use Rattle.ang_check.proofs.constructors.constructed.Goals as goal

pub returns : goal.returns
returns c =
    let w = c.args.within in
    let parameters : c.from_vec.result ≡ this_parameter w ∷ typed_parameters c.args.function.now = search rules in
    let ty : c.own_type.result ≡ own_type w = search rules in
    let positions : c.from_vec-2.result ≡ c.args.positions.items = search rules in record {
      exact = λ i. record { parameters = parameters i; result = ty i; body = c.in_ok-body.ensures.exact i; positions = positions i };
    }
