-- Parameters that take their arguments alike.
use Rattle.std.specs.Prelude.{◌≡◌, List, [], ◌∷◌, map, reverse}
use Rattle.std.proofs.Common.{refl, ap, sym, ◌∙◌}
use Rattle.std.proofs.lemmas.List.{reverse-reverse}
use Rattle.ang_kinds.specs.declared.types.Pass.{Pass}
use Rattle.ang_kinds.specs.declared.types.Pass.TheVariants as pass
use Rattle.ang_types.specs.declared.arg_type.ArgType.{ArgType}
use Rattle.ang_types.specs.declared.arg_type.ArgType.TheVariants as type
use Rattle.ang_types.specs.Overloads.{Params}
use Rattle.ang_typed.specs.declared.program.TypedParameter.{TypedParameter}
use Rattle.ang_meaning.specs.declared.routine.Passing.{Passing}
use Rattle.ang_meaning.specs.declared.routine.Passing.TheVariants.{Out}
use Rattle.ang_source.specs.Meaning.{referred, passing_by, passing_of, passings_of}
use Rattle.ang_names_known.specs.declared.names.ScriptParameter.{ScriptParameter}
use Rattle.ang_names_known.specs.Lookup.{type_and_pass}
use Rattle.ang_check.specs.Typing.{typed_parameter}

-- how a parameter of this type and passing takes its argument
abbrev pub takes : ArgType × Pass → Passing
takes p = passing_by p.1 p.0

-- These parameters take what those types and passings take, the first one first.
abbrev pub TakeAlike : Params → List TypedParameter → Type 0
TakeAlike ps qs = map takes ps ≡ map passing_of qs

pub params_alike : (ps : List ScriptParameter) → TakeAlike (map type_and_pass ps) (map typed_parameter ps)
params_alike [] = refl
params_alike (p ∷ ps) = ap (λ rest. passing_by p.pass p.written.ty ∷ rest) (params_alike ps)

-- `&out` alone is taken so
never_referred : (ty : ArgType) → referred ty ≡ Out → ⊥
never_referred type.Void e = cc
never_referred type.Null e = cc
never_referred (type.Plain p) e = cc
never_referred (type.Enumeration n) e = cc
never_referred (type.Object n c) e = cc
never_referred (type.Handle n c) e = cc

pub only_out : (way : Pass) (ty : ArgType) → passing_by way ty ≡ Out → way ≡ pass.RefOut
only_out pass.Value ty e = cc
only_out pass.RefIn ty e = absurd (never_referred ty e)
only_out pass.RefOut ty e = refl
only_out pass.RefInOut ty e = absurd (never_referred ty e)

-- in the order of the parameters
pub in_order : (ps qs : List TypedParameter) → passings_of ps ≡ passings_of qs → map (λ (p : TypedParameter). passing_of p) ps ≡ map (λ (p : TypedParameter). passing_of p) qs
in_order ps qs e =
    sym (reverse-reverse (map (λ (p : TypedParameter). passing_of p) ps)) ∙ ap reverse e ∙ reverse-reverse (map (λ (p : TypedParameter). passing_of p) qs)
