use Rattle.std.proofs.lemmas.Result.{err_from_is_err_and}
use Rattle.panto_cli.proofs.Puts.{of_both, behind_first, at_error}
use Rattle.panto_cli.proofs.pieces.put_line.Goals as goal

pub returns-in_err-put_all-clause-failed : goal.returns-in_err-put_all-clause-failed
returns-in_err-put_all-clause-failed g c =
    let error = err_from_is_err_and c.from_residual.result c.from_residual.ensures.1 in
    rw error.1 (of_both _ _ _ _ c.in_err-put_all.ensures.failed)

pub returns-clause-failed : goal.returns-clause-failed
returns-clause-failed g c = at_error c.put_two.result (λ failed. behind_first _ _ _ _ _ c.in_ok-put_all.ensures.ok failed) c.put_two.ensures.failed
