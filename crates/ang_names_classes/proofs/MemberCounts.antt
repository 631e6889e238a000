-- How many functions there are, counted one by one.
use Rattle.std.specs.Prelude.{◌≡◌, ◌+◌, cond, List, length, count_by}
use Rattle.std.specs.List.{cons_option, filter_map}
use Rattle.std.proofs.Common.{arith, refl, sym}
use Rattle.std.proofs.lemmas.List.Recursion.{is_count_by}
use Rattle.ang_names_known.specs.declared.names.ScriptFunction.{ScriptFunction}
use Rattle.ang_names_known.specs.Spaces.{Space}
use Rattle.ang_names_listed.specs.declared.listed.ListedDeclaration.{ListedDeclaration}
use Rattle.ang_names_listed.specs.declared.listed.Part.{Part}
use Rattle.ang_names_listed.specs.declared.listed.Part.TheVariants as part
use Rattle.ang_names_listed.specs.Taken.{declares_function}
use Rattle.ang_names_classes.specs.Resolved.{function_by, function_of, functions_in}

one_function : (E : Space) (d : ListedDeclaration) (p : Part) (rest : List ScriptFunction)
    → length (cons_option (function_by E d p) rest) ≡ cond (declares_function p) (1 + length rest) (length rest)
one_function E d (part.Family s) rest = refl
one_function E d (part.Function y ps) rest = omega arith
one_function E d (part.Import y ps) rest = refl
one_function E d (part.Global y) rest = refl

pub functions_counted : (E : Space) (ds : List ListedDeclaration) → count_by (λ (d : ListedDeclaration). declares_function d.part) ds ≡ length (functions_in E ds)
unfolding function_of
functions_counted E ds =
    sym (is_count_by (λ xs. length (filter_map (function_of E) xs)) (λ (d : ListedDeclaration). declares_function d.part) refl
    (λ d xs. one_function E d d.part (filter_map (function_of E) xs)) ds)
