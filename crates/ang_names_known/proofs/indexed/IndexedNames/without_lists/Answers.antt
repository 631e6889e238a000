use Rattle.ang_names_known.proofs.indexed.IndexedNames.without_lists.Goals as goal

pub invariant_of-result : goal.invariant_of-result
invariant_of-result c =
    let old = c.self.invariant in
    record {
      of_kinds = old.of_kinds;
      of_fields = old.of_fields;
      of_methods = old.of_methods;
      of_crowded = c.no_lists.ensures.right c.self.inside.lists.families;
      of_parameters = old.of_parameters;
    }
