use Rattle.std.proofs.Common.{refl}
use Rattle.std.specs.Prelude.{slice_set}
use Rattle.ang_engine_modules.specs.Relinked.{bounds_of, IsRelinked}
use Rattle.ang_engine_modules.proofs.Loading.{stood_there}
use Rattle.ang_engine_modules.proofs.links.bind_import.Goals as goal

pub returns-clause-code : goal.returns-clause-code
returns-clause-code c = record {
  code = c.bind_code.new.code;
  put = refl;
  relinked = λ d at. stood_there (λ x. IsRelinked x (slice_set (bounds_of x) c.args.index c.args.link) c.bind_code.new.code) c.args.codes.now.items c.args.home c.index_mut.result.now d c.index_mut.ensures.value at c.bind_code.ensures.linked;
}
