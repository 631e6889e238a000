use Rattle.std.proofs.Common.{◌≡◌, List, sym, ap, subst, ◌∙◌}
use Rattle.ang_names_known.specs.declared.names.Names.{Names}
use Rattle.ang_names_known.specs.declared.names.ScriptFunction.{ScriptFunction}
use Rattle.ang_names_known.specs.Kinds.{AreRows, function_params}
use Rattle.ang_names_known.proofs.indexed.IndexedNames.known_functions.Goals as goal

pub new-requires : goal.new-requires
new-requires c =
    let lists : Names = c.self.inside.lists in
    let k = c.self.inside.numbering in
    let has = c.self.invariant.of_parameters in
    let functions : lists.functions ≡ c.functions.result.now = ap (λ (n : Names). n.functions) c.self.view_is ∙ sym c.functions.ensures.same in
    let imports : lists.imports ≡ c.imports.result.now = ap (λ (n : Names). n.imports) c.self.view_is ∙ sym c.imports.ensures.same in
    record {
      numbered = record {
        of_functions = subst (λ (fs : List ScriptFunction). AreRows k.kinds.items k.functions (λ t. function_params fs)) functions has.of_functions;
        of_imports = subst (λ (fs : List ScriptFunction). AreRows k.kinds.items k.imports (λ t. function_params fs)) imports has.of_imports;
      };
    }
