use Rattle.file_state.specs.HoldingTests.{holds_some}
use Rattle.file_state.specs.StoredTests.{stored_in}
use Rattle.opening.proofs.loading.open_told.Given as goal

abbrev pub ghost-trusting : goal.ghost-trusting
ghost-trusting g a = holds_some g.image

abbrev pub ghost-of : goal.ghost-of
ghost-of g a = record { start = stored_in g.image; now = stored_in g.image }
