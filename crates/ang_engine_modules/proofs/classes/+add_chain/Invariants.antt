use Rattle.ang_engine_modules.proofs.classes.+add_chain.Given as goal

abbrev pub decreases-add_chain : goal.decreases-add_chain
decreases-add_chain l = l.left
