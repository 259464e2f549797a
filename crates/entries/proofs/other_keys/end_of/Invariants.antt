use Rattle.entries.proofs.other_keys.end_of.Given as goal

-- nothing has to be known but where the loop is
abbrev pub invariant-loop-at : goal.invariant-loop-at
invariant-loop-at l = Unit {0}
