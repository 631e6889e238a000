use Rattle.std.specs.Prelude.{slice_index_or}
use Rattle.ang_source.specs.Meaning.{nothing}
use Rattle.ang_gen.proofs.Composed.{behaves_as_source}
use Rattle.ang_gen.proofs.laws.behaves.Goals as goal

pub returns : goal.returns
returns c = record {
  same = λ z view program code ms links. behaves_as_source z view program code ms links;
  listed = λ z view programs code ms links. behaves_as_source z view (λ m. slice_index_or programs m nothing) code ms links;
}
