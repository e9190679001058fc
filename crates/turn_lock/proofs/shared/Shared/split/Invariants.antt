use Rattle.turn_lock.proofs.shared.Shared.split.Given as goal

abbrev pub ghosts-split_pass : goal.ghosts-split_pass
ghosts-split_pass g a = record { number = a._number }
