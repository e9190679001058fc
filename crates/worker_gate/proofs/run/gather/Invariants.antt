use Rattle.worker_gate.proofs.run.gather.Given as goal

abbrev pub ghosts-gather_batch : goal.ghosts-gather_batch
ghosts-gather_batch g a = record {
  jobs = a.jobs.items;
  told = λ p. g.G.Gate.told a.pass p;
}
