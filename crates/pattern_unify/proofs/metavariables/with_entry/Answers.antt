use Rattle.std.proofs.Common.{ℕ, List, ◌∙◌, ap, arith, [], ◌∷◌, ◌++◌}
use Rattle.ld_terms.specs.declared.globals.Local.{Local}
use Rattle.pattern_unify.proofs.Meanings.{names_more}
use Rattle.pattern_unify.proofs.metavariables.with_entry.Goals as goal

pub returns-clause-entries : goal.returns-clause-entries
returns-clause-entries g c =
    let entry : List ℕ → Local g.row.H.Denot = λ n. record { name = n; ty = c.args.ty } in
    c.of.ensures ∙ c.in_ok-push.ensures.items ∙ ap (λ xs. xs ++ entry c.in_ok-name.name ∷ []) c.in_ok-entries.ensures ∙ ap (λ n. c.args.ctx.now ++ entry n ∷ []) c.in_ok-name.ensures

pub returns-clause-names : goal.returns-clause-names
returns-clause-names g c = names_more c.args.ctx.now c.of.result (record { name = c.args.name.now; ty = c.args.ty }) (returns-clause-entries g c) c.requires.names c.requires.named (omega arith)
