use Rattle.std.proofs.Common.{sym, subst}
use Rattle.ang_names_known.specs.Kinds.{AreRows, function_params, numbered}
use Rattle.ang_names_known.specs.Numbering.{AreMethodRows}
use Rattle.ang_names_known.proofs.KeptNumbers.{keeps_further, rows_stay}
use Rattle.ang_names_known.proofs.numbering.parameter_kinds.Goals as goal

pub returns : goal.returns
returns c =
    let N = c.args.names.now in
    let first = c.rows_of_functions.new.table in
    let second = c.rows_of_functions-2.new.table in
    let last = c.rows_of_families.new.table in
    let functions = c.in_ok-functions.functions in
    let imports = c.in_ok-imports.imports in
    let methods = c.in_ok-methods.methods.items in
    record {
      kinds = record {
        of_functions = subst (λ kinds. AreRows kinds functions (λ t. function_params N.functions)) (sym c.into_kinds.ensures.same)
            (rows_stay first last (λ t. keeps_further (numbered t first) (numbered t second) (numbered t last) (c.in_ok-imports.ensures.keeps t) (c.in_ok-methods.ensures.keeps t))
            functions (λ t. function_params N.functions)
            (subst (λ fs. AreRows first functions (λ t. function_params fs)) c.as_slice.ensures.same c.in_ok-functions.ensures.rows));
        of_imports = subst (λ kinds. AreRows kinds imports (λ t. function_params N.imports)) (sym c.into_kinds.ensures.same)
            (rows_stay second last c.in_ok-methods.ensures.keeps imports (λ t. function_params N.imports)
            (subst (λ fs. AreRows second imports (λ t. function_params fs)) c.as_slice-2.ensures.same c.in_ok-imports.ensures.rows));
        of_methods = subst (λ kinds. AreMethodRows kinds methods N.families) (sym c.into_kinds.ensures.same)
            (subst (λ fs. AreMethodRows last methods fs) c.as_slice-3.ensures.same c.in_ok-methods.ensures.rows);
      };
    }
