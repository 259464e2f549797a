use Rattle.page.specs.History.{now, reads}
use Rattle.opening.proofs.loading.open_file.Given as goal

abbrev pub ghost-open_told : goal.ghost-open_told
ghost-open_told g a = reads (now (g.D.Disk.history a.disk))
