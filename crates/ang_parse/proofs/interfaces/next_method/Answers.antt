use Rattle.std.proofs.Common.{◌≡◌, [], ◌∷◌, ◌++◌, map, Ok, refl}
use Rattle.ang_tree.specs.View.{view_method}
use Rattle.ang_parse.specs.ReadClass as read
use Rattle.ang_parse.specs.ReadClass.{next_method}
use Rattle.ang_parse.proofs.interfaces.next_method.Goals as goal

pub returns : goal.returns
unfolding next_method
returns c =
    record {
      reads =
          let m : read.method c.args.limit c.args.tokens.now ≡ Ok (view_method c.in_ok-next.next, c.in_ok-next.rest.now) = c.in_ok-next.ensures.reads in
          let e : map view_method c.in_ok-longer.longer.items ≡ map view_method c.args.first.items ++ view_method c.in_ok-next.next ∷ [] = c.in_ok-longer.ensures.exact in
          rw (m, e) refl;
    }
