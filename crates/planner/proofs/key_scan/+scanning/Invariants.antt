use Rattle.planner.proofs.key_scan.+scanning.Given as goal

abbrev pub decreases-behind_items : goal.decreases-behind_items
decreases-behind_items l = l.steps

abbrev pub decreases-behind_pairs : goal.decreases-behind_pairs
decreases-behind_pairs l = l.steps

abbrev pub decreases-behind_value : goal.decreases-behind_value
decreases-behind_value l = l.steps
