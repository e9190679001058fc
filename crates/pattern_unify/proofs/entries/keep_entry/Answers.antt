use Rattle.std.proofs.Common.{◌≡◌, true, List, length, reverse, sym, ap, ◌∙◌, subst}
use Rattle.ld_trees.specs.Term.{Term}
use Rattle.ld_trees.specs.Substitution.{rename}
use Rattle.ld_terms.specs.declared.globals.Local.{Local}
use Rattle.meta_context.specs.Plain.{plain_locals, rules_env}
use Rattle.unification.specs.Steps.{Gave}
use Rattle.unification.specs.Metavariables.{extended}
use Rattle.unification.specs.Pruning.{name_at, thin}
use Rattle.pattern_unify.specs.Answers.{Answers}
use Rattle.pattern_unify.specs.Walks.{kept_turn}
use Rattle.pattern_unify.proofs.Meanings.{locals_kept, read_kept, read_length}
use Rattle.pattern_unify.proofs.entries.keep_entry.Goals as goal

pub returns-then-not-flag-clause-value : goal.returns-then-not-flag-clause-value
returns-then-not-flag-clause-value g c Δ Σ Γ A r e f =
    ap (λ b. kept_turn b (rules_env Δ) Σ (reverse c.args.flags.now) Γ c.args.entry.now.name A c.args.fuel.now) c.if-not-flag.true ∙ ap (λ (ls : List (Local Term)). Gave ls c.args.fuel.now) (sym e)

pub returns-clause-value : goal.returns-clause-value
returns-clause-value g c Δ Σ Γ A r e f =
    let h0 = g.T.Terms.holds c.args.terms.now in
    let m0 = g.T.Terms.means c.args.terms.now in
    let h1 = g.T.Terms.holds c.rename.new.terms in
    let m1 = g.T.Terms.means c.rename.new.terms in
    let h = g.T.Terms.holds c.extend.new.terms in
    let m = g.T.Terms.means c.extend.new.terms in
    let flags = reverse c.args.flags.now in
    let name = c.args.entry.now.name in
    let kept1 = c.in_ok-ty.ensures.kept in
    let on : c.args.flag ≡ true = c.if-not-flag.false in
    let same = c.as_slice-kept.ensures in
    let e1 : plain_locals m1 c.as_slice-kept.result.now ≡ Γ = ap (plain_locals m1) same ∙ locals_kept h0 m0 h1 m1 kept1 c.args.kept c.requires.context ∙ e in
    let r1 = read_kept h0 m0 h1 m1 kept1 c.args.env.now c.args.metas.now Δ Σ c.requires.globals r in
    let f1 = c.in_ok-ty.ensures.tree ∙ ap (rename (thin flags)) f in
    let level : length c.as_slice-kept.result.now ≡ length Γ = ap (λ (ls : List (Local _)). length ls) same ∙ read_length m0 c.args.kept Γ e in
    let named : c.in_ok-name.name ≡ name_at (length Γ) name = c.in_ok-name.ensures.name ∙ ap (λ k. name_at k name) level in
    let whole : kept_turn c.args.flag (rules_env Δ) Σ flags Γ name A c.args.fuel.now ≡ extended (rules_env Δ) Σ Γ c.in_ok-name.name (rename (thin flags) A) c.args.fuel.now =
    ap (λ b. kept_turn b (rules_env Δ) Σ flags Γ name A c.args.fuel.now) on ∙ ap (λ x. extended (rules_env Δ) Σ Γ x (rename (thin flags) A) c.args.fuel.now) (sym named) in
    subst (λ o. Answers h m (plain_locals m) o c.extend.new.fuel c.extend.result) (sym whole) (c.extend.ensures.value Δ Σ Γ (rename (thin flags) A) r1 e1 f1)
