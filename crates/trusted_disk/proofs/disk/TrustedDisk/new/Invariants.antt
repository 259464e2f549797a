use Rattle.trusted_disk.proofs.disk.TrustedDisk.new.Given as goal

abbrev pub ghost-any : goal.ghost-any
ghost-any g a = g.trusted
