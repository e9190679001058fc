use Rattle.std.proofs.Common.{◌≡◌, drop}
use Rattle.continue_resume.specs.Resuming.{Resumed, if_all_open}
use Rattle.continue_resume.proofs.resuming.first_refusal.Given as goal

abbrev pub invariant-loop-m : goal.invariant-loop-m
invariant-loop-m g l = (r : Resumed) → if_all_open l.metas l.goals r ≡ if_all_open l.metas (drop l.m-index l.goals) r
