use Rattle.std.proofs.Common.{◌≡◌, ◌≤◌, ◌++◌, ◌∷◌, ◌+◌, [], Some, List, drop, length, map as list_map, refl, ap, subst, arith, ◌∙◌}
use Rattle.std.specs.Prelude.{slice_get}
use Rattle.std.proofs.lemmas.List.{drop_all}
use Rattle.ang_names_known.specs.declared.names.ScriptMethod.{ScriptMethod}
use Rattle.ang_names_known.specs.Kinds.{kinds_at, kinds_of, method_params, numbered, params_on, receiver, told_of}
use Rattle.ang_names_known.specs.Lookup.{parameters_of, type_and_pass}
use Rattle.ang_names_known.proofs.KeptNumbers.{keeps_further, keeps_itself, left_here, receiver_is, row_added, rows_end}
use Rattle.ang_names_known.proofs.numbering.rows_of_methods.Goals as goal

pub loop-method-init : goal.loop-method-init
loop-method-init c = rw c.new-rows.ensures.none (λ t. keeps_itself (numbered t c.args.table.now), λ t. refl)

pub loop-method-preserved : goal.loop-method-preserved
unfolding parameters_of
loop-method-preserved c =
    let l = c.loop-method in
    let methods : List ScriptMethod = c.args.methods.now in
    let m : ScriptMethod = c.method-item.result in
    let old = l.table in
    let new = c.push_numbers.new.table in
    let here : drop l.method-index methods ≡ m ∷ drop (l.method-index + 1) methods = left_here methods l.method-index m c.loop-method-test.true c.method-item.is in (
      λ t. keeps_further (numbered t c.args.table.now) (numbered t old) (numbered t new) (l.invariant.0 t) (c.in_ok-push_numbers.ensures.keeps t),
      λ t.
          row_added (numbered t old) (numbered t new) (c.in_ok-push_numbers.ensures.keeps t) l.rows c.push-in-loop-method.new.self c.push_numbers.new.row.items (params_on t m)
          (method_params t (drop (l.method-index + 1) methods)) (method_params t methods)
          (subst (λ ms. kinds_of (numbered t old) l.rows ++ told_of (method_params t ms) ≡ told_of (method_params t methods)) here (l.invariant.1 t))
          (c.in_ok-push_numbers.ensures.pushed t (receiver t m.read_only ∷ [])
          (ap (kinds_at (numbered t old)) (c.in_ok-push.ensures.items ∙ ap (λ ns. ns ++ c.receiver_number.result ∷ []) c.clear.ensures.items)
          ∙ (λ i. (ap (slice_get (numbered t old)) c.receiver_number.ensures.exact ∙ receiver_is t old m.read_only) i ∷ []))
          ∙ ap (λ ps. list_map Some (receiver t m.read_only ∷ list_map type_and_pass ps)) c.as_slice.ensures.same)
          (c.in_ok-push-2.ensures.pushed ∙ ap (λ ns. l.rows ++ Some ns ∷ []) c.as_slice-in-loop-method.ensures.value),
    )

pub returns : goal.returns
returns c =
    let l = c.loop-method in
    let methods : List ScriptMethod = c.args.methods.now in
    let over : length methods ≤ l.method-index = omega arith in
    let none : drop l.method-index methods ≡ [] = drop_all l.method-index methods over in
    record {
      keeps = l.invariant.0;
      rows = λ t. rows_end (numbered t l.table) l.rows (method_params t (drop l.method-index methods)) (method_params t methods) (ap (method_params t) none) (l.invariant.1 t);
    }
