use Rattle.ts_policy.proofs.TreeLaw.{paths_taken, paths_mapped, taken_on_paths, mapped_on_paths}
use Rattle.ts_policy.proofs.laws.tree_paths.Goals as goal

pub returns-clause-after_taking : goal.returns-clause-after_taking
returns-clause-after_taking c = paths_taken

pub returns-clause-after_mapping : goal.returns-clause-after_mapping
returns-clause-after_mapping c = paths_mapped

pub returns-clause-pruned_after_taking : goal.returns-clause-pruned_after_taking
returns-clause-pruned_after_taking c = taken_on_paths

pub returns-clause-pruned_after_mapping : goal.returns-clause-pruned_after_mapping
returns-clause-pruned_after_mapping c = mapped_on_paths
