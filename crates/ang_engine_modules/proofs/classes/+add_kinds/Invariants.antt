use Rattle.ang_engine_modules.proofs.classes.+add_kinds.Given as goal

abbrev pub decreases-add_kinds : goal.decreases-add_kinds
decreases-add_kinds l = l.left
