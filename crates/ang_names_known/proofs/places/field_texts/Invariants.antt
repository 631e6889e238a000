use Rattle.std.proofs.Common.{◌≡◌, map, take}
use Rattle.ang_names_known.specs.declared.names.Field.{Field}
use Rattle.ang_names_known.proofs.places.field_texts.Given as goal

abbrev pub invariant-loop-field : goal.invariant-loop-field
invariant-loop-field l = l.texts.items ≡ map (λ (x : Field). x.name) (take l.field-index l.fields)
