use Rattle.std.proofs.Common.{◌≡◌, ◌≤◌, ◌++◌, ◌∷◌, ◌+◌, [], Some, List, drop, length, map as list_map, refl, ap, subst, arith, ◌∙◌}
use Rattle.std.proofs.lemmas.List.{drop_all}
use Rattle.ang_names_known.specs.declared.names.ScriptFunction.{ScriptFunction}
use Rattle.ang_names_known.specs.Kinds.{function_params, kinds_at, kinds_of, numbered, told_of}
use Rattle.ang_names_known.specs.Lookup.{parameters_of, type_and_pass}
use Rattle.ang_names_known.proofs.KeptNumbers.{keeps_further, keeps_itself, left_here, row_added, rows_end}
use Rattle.ang_names_known.proofs.numbering.rows_of_functions.Goals as goal

pub loop-function-init : goal.loop-function-init
loop-function-init c = rw c.new-rows.ensures.none (λ t. keeps_itself (numbered t c.args.table.now), λ t. refl)

pub loop-function-preserved : goal.loop-function-preserved
unfolding parameters_of
loop-function-preserved c =
    let l = c.loop-function in
    let functions : List ScriptFunction = c.args.functions.now in
    let f : ScriptFunction = c.function-item.result in
    let old = l.table in
    let new = c.push_numbers.new.table in
    let here : drop l.function-index functions ≡ f ∷ drop (l.function-index + 1) functions = left_here functions l.function-index f c.loop-function-test.true c.function-item.is in (
      λ t. keeps_further (numbered t c.args.table.now) (numbered t old) (numbered t new) (l.invariant.0 t) (c.in_ok-push_numbers.ensures.keeps t),
      λ t.
          row_added (numbered t old) (numbered t new) (c.in_ok-push_numbers.ensures.keeps t) l.rows c.push.new.self c.push_numbers.new.row.items (parameters_of f)
          (function_params (drop (l.function-index + 1) functions)) (function_params functions)
          (subst (λ fs. kinds_of (numbered t old) l.rows ++ told_of (function_params fs) ≡ told_of (function_params functions)) here (l.invariant.1 t))
          (c.in_ok-push_numbers.ensures.pushed t [] (ap (kinds_at (numbered t old)) c.clear.ensures.items) ∙ ap (λ ps. list_map Some (list_map type_and_pass ps)) c.as_slice.ensures.same)
          (c.in_ok-push.ensures.pushed ∙ ap (λ ns. l.rows ++ Some ns ∷ []) c.as_slice-in-loop-function.ensures.value),
    )

pub returns : goal.returns
returns c =
    let l = c.loop-function in
    let functions : List ScriptFunction = c.args.functions.now in
    let over : length functions ≤ l.function-index = omega arith in
    let none : drop l.function-index functions ≡ [] = drop_all l.function-index functions over in
    record {
      keeps = l.invariant.0;
      rows = λ t. rows_end (numbered t l.table) l.rows (function_params (drop l.function-index functions)) (function_params functions) (ap function_params none) (l.invariant.1 t);
    }
