-- The first row that applies, where it is one of the first two.
use Rattle.std.proofs.Common.{◌≡◌, Bool, true, false, cond, Option, Some, None}
use Rattle.ang_registry.specs.declared.error.RegError.{RegError}

-- whatever the rows after these two answer
pub first_row-two : (a b : Bool) (e f : RegError) (rest : Option RegError) (why : RegError)
    → cond a (Some e) (cond b (Some f) None) ≡ Some why → cond a (Some e) (cond b (Some f) rest) ≡ Some why
first_row-two true b e f rest why h = h
first_row-two false true e f rest why h = h
first_row-two false false e f rest why h = cc
