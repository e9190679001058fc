use Rattle.std.proofs.Common.{◌≡◌, ◌+◌, ◌*◌, ◌<◌, ◌≤◌, Some, None, map, length, option_map, Option, refl, sym, ap, ap₂, ◌∙◌, arith, rules}
use Rattle.ld_trees.specs.Term.{Con, Named, Numbered, Term, Terms}
use Rattle.ld_rules.specs.Expansion.{expanded}
use Rattle.ld_terms.proofs.Turns.{keeps_map}
use Rattle.meta_laws.specs.Unfolding.{values}
use Rattle.ld_terms.specs.Views.{terms_of}
use Rattle.meta_context.specs.Stored.{metas_of}
use Rattle.goal_state.specs.Rounds.{unfolded, unfolded_all}
use Rattle.goal_state.proofs.Means.{metas_kept, decls_held}
use Rattle.goal_state.proofs.Rounds.{cost_kept, head_cost_kept, part_kept, value_costs, value_held}
use Rattle.goal_state.proofs.Settling.{turn, table_kept, entry_made, one_entry_more, made_of, two_reached, constant_reached, meta_reached, value_reached, no_value_reached}
use Rattle.goal_state.proofs.unfolding.+unfolding.Goals as goal

pub unfold_once-returns-in_ok-insert-in-Some-settled-clause-known : goal.unfold_once-returns-in_ok-insert-in-Some-settled-clause-known
unfold_once-returns-in_ok-insert-in-Some-settled-clause-known g t c =
    let holds = g.T.Terms.holds in
    let means = g.T.Terms.means in
    let old = c.args.terms.now in
    let new = c.unfold_node.new.terms in
    let entry = entry_made (holds old) (means old) (holds new) (means new) c.args.metas.now c.in_ok-unfolded.ensures.kept c.requires.metas
    c.args.h c.in_ok-unfolded.unfolded.term c.in-Some-settled.n c.args.rounds c.in_ok-unfolded.unfolded.settled c.in-Some-settled.is c.requires.term c.in_ok-unfolded.ensures.held c.in_ok-unfolded.ensures.tree in
    one_entry_more (holds new) (means new) (metas_of (means new) c.args.metas.now) g.T.Handle.Ord.cmp c.unfold_node.new.known c.insert.new.self c.args.h c.in_ok-unfolded.unfolded.term c.in-Some-settled.n g.met.T.Terms.exact entry c.in_ok-insert-in-Some-settled.ensures.updates c.in_ok-unfolded.ensures.known

pub unfold_two-unfold-requires-2 : goal.unfold_two-unfold-requires-2
unfold_two-unfold-requires-2 g t c κs within =
    let holds = g.T.Terms.holds in
    let means = g.T.Terms.means in
    let old = c.args.terms.now in
    let one = c.unfold.new.terms in
    let cost = cost_kept (holds old) (means old) (holds one) (means one) c.args.metas.now c.in_ok-a.ensures.kept c.requires.metas c.args.rounds c.args.b c.requires.second in
    let held = decls_held (holds old) (means old) (holds one) (means one) c.in_ok-a.ensures.kept c.args.metas.now c.requires.metas in
    search rules

pub unfold_two-returns-clause-trees : goal.unfold_two-returns-clause-trees
unfold_two-returns-clause-trees g t c =
    let holds = g.T.Terms.holds in
    let means = g.T.Terms.means in
    let old = c.args.terms.now in
    let one = c.unfold.new.terms in
    let two = c.unfold-2.new.terms in
    two_reached (holds old) (means old) (holds one) (means one) (holds two) (means two) c.args.metas.now c.in_ok-a.ensures.kept c.in_ok-b.ensures.kept c.requires.metas
    c.args.a c.args.b c.in_ok-a.a.term c.in_ok-b.b.term c.args.rounds c.in_ok-a.a.settled c.in_ok-b.b.settled _ c.later.ensures c.requires.second c.in_ok-a.ensures.held c.in_ok-a.ensures.tree c.in_ok-b.ensures.tree

pub unfold_each-unfold-requires : goal.unfold_each-unfold-requires
unfold_each-unfold-requires g t c κs within =
    let holds = g.T.Terms.holds in
    let means = g.T.Terms.means in
    let old = c.args.terms.now in
    let before = c.loop-u.terms in
    let part = part_kept (holds old) (means old) (holds before) (means before) c.args.metas.now c.loop-u.invariant.kept c.requires.metas c.args.us.now c.args.rounds c.loop-u.u-index c.u-item.result c.requires.list (omega arith) c.u-item.is in
    let held = decls_held (holds old) (means old) (holds before) (means before) c.loop-u.invariant.kept c.args.metas.now c.requires.metas in
    let at = part.0 in
    let cost = part.1 in
    search rules

pub unfold_each-loop-u-preserved : goal.unfold_each-loop-u-preserved
unfold_each-loop-u-preserved g t c =
    let holds = g.T.Terms.holds in
    let means = g.T.Terms.means in
    let old = c.args.terms.now in
    let before = c.loop-u.terms in
    let after = c.unfold.new.terms in
    rw c.in_ok-push.ensures.items
    (turn (holds old) (means old) (holds before) (means before) (holds after) (means after) c.args.metas.now _ _ _ c.args.rounds
    c.args.us.now c.loop-u.made.items c.loop-u.settled c.in_ok-unfolded.unfolded.settled _ c.loop-u.u-index c.u-item.result c.in_ok-unfolded.unfolded.term c.later-settled.ensures c.loop-u.invariant c.requires.metas c.requires.list (omega arith) c.u-item.is
    c.in_ok-unfolded.ensures.kept c.in_ok-unfolded.ensures.held c.in_ok-unfolded.ensures.known c.in_ok-unfolded.ensures.tree)

pub unfold_value-unfold-requires : goal.unfold_value-unfold-requires
unfold_value-unfold-requires g t c κs within =
    let means = g.T.Terms.means c.args.terms.now in
    let found = sym c.value_at.ensures ∙ c.in-Some.is in
    let cost = value_costs means c.args.metas.now c.args.rounds c.args.m c.args.count c.in-Some.value (omega arith) found in
    let held = value_held (g.T.Terms.holds c.args.terms.now) c.args.metas.now c.args.m c.args.count c.in-Some.value c.requires.metas found in
    search rules

pub unfold_value-returns-in_ok-unfolded-in-Some-clause-tree : goal.unfold_value-returns-in_ok-unfolded-in-Some-clause-tree
unfold_value-returns-in_ok-unfolded-in-Some-clause-tree g t c =
    let means = g.T.Terms.means c.args.terms.now in
    let found = sym c.value_at.ensures ∙ c.in-Some.is in
    value_reached means c.args.metas.now c.args.rounds c.args.m c.args.count c.in-Some.value _ c.in_ok-unfolded-in-Some.unfolded.settled _ c.one_more.ensures (omega arith) found c.in_ok-unfolded-in-Some.ensures.tree

pub unfold_value-returns-in-None-clause-tree : goal.unfold_value-returns-in-None-clause-tree
unfold_value-returns-in-None-clause-tree g t c =
    no_value_reached (g.T.Terms.means c.args.terms.now) c.args.metas.now c.args.rounds c.args.m c.args.count (sym c.value_at.ensures ∙ c.in-None.is)

pub unfold_node-returns-in_ok-term-in-App-clause-known : goal.unfold_node-returns-in_ok-term-in-App-clause-known
unfold_node-returns-in_ok-term-in-App-clause-known g t c =
    let holds = g.T.Terms.holds in
    let means = g.T.Terms.means in
    let old = c.args.terms.now in
    let mid = c.unfold_two.new.terms in
    let new = c.make.new.self in
    let decls = decls_held (holds old) (means old) (holds mid) (means mid) c.in_ok-parts-in-App.ensures.kept c.args.metas.now c.requires.metas in
    table_kept (holds mid) (means mid) (holds new) (means new) c.args.metas.now c.in_ok-term-in-App.ensures.kept decls g.T.Handle.Ord.cmp c.unfold_two.new.known c.in_ok-parts-in-App.ensures.known

pub unfold_node-returns-in_ok-term-in-Lam-clause-known : goal.unfold_node-returns-in_ok-term-in-Lam-clause-known
unfold_node-returns-in_ok-term-in-Lam-clause-known g t c =
    let holds = g.T.Terms.holds in
    let means = g.T.Terms.means in
    let old = c.args.terms.now in
    let mid = c.unfold_two-in-Lam.new.terms in
    let new = c.make-in-Lam.new.self in
    let decls = decls_held (holds old) (means old) (holds mid) (means mid) c.in_ok-parts-in-Lam.ensures.kept c.args.metas.now c.requires.metas in
    table_kept (holds mid) (means mid) (holds new) (means new) c.args.metas.now c.in_ok-term-in-Lam.ensures.kept decls g.T.Handle.Ord.cmp c.unfold_two-in-Lam.new.known c.in_ok-parts-in-Lam.ensures.known

pub unfold_node-returns-in_ok-term-in-Pi-clause-known : goal.unfold_node-returns-in_ok-term-in-Pi-clause-known
unfold_node-returns-in_ok-term-in-Pi-clause-known g t c =
    let holds = g.T.Terms.holds in
    let means = g.T.Terms.means in
    let old = c.args.terms.now in
    let mid = c.unfold_two-in-Pi.new.terms in
    let new = c.make-in-Pi.new.self in
    let decls = decls_held (holds old) (means old) (holds mid) (means mid) c.in_ok-parts-in-Pi.ensures.kept c.args.metas.now c.requires.metas in
    table_kept (holds mid) (means mid) (holds new) (means new) c.args.metas.now c.in_ok-term-in-Pi.ensures.kept decls g.T.Handle.Ord.cmp c.unfold_two-in-Pi.new.known c.in_ok-parts-in-Pi.ensures.known

pub unfold_constant-returns-clause-known : goal.unfold_constant-returns-clause-known
unfold_constant-returns-clause-known g t c =
    let holds = g.T.Terms.holds in
    let means = g.T.Terms.means in
    let old = c.args.terms.now in
    let mid = c.unfold_each.new.terms in
    let new = c.make.new.self in
    let decls = decls_held (holds old) (means old) (holds mid) (means mid) c.in_ok-parts.ensures.kept c.args.metas.now c.requires.metas in
    table_kept (holds mid) (means mid) (holds new) (means new) c.args.metas.now c.in_ok-term.ensures.kept decls g.T.Handle.Ord.cmp c.unfold_each.new.known c.in_ok-parts.ensures.known

pub unfold_constant-returns-clause-tree : goal.unfold_constant-returns-clause-tree
unfold_constant-returns-clause-tree g t c =
    let means = g.T.Terms.means in
    let old = c.args.terms.now in
    let mid = c.unfold_each.new.terms in
    let new = c.make.new.self in
    let r = c.args.rounds in
    let Σ = metas_of (means old) c.args.metas.now in
    let parts = c.in_ok-parts.parts in
    let a = c.args.name.now in
    let us = terms_of (map (means old) c.args.us.now) in
    let made = terms_of (map (means mid) parts.0.items) in
    let vs = terms_of (map (means mid) c.deref.result.now) in
    let reached = made_of (λ (ts : Terms). ts) (λ k. unfolded_all Σ k us) (λ k. unfolded_all Σ k us) r made vs (λ k. refl)
    (ap (λ hs. terms_of (map (means mid) hs)) c.deref.ensures.value) parts.1 c.in_ok-parts.ensures.tree in
    constant_reached Σ r parts.1 a a us vs (Con (Named a) us) (means new c.in_ok-term.term) refl refl c.in_ok-term.ensures.tree reached

pub unfold_meta-unfold_value-requires : goal.unfold_meta-unfold_value-requires
unfold_meta-unfold_value-requires g t c κs within =
    let holds = g.T.Terms.holds in
    let means = g.T.Terms.means in
    let old = c.args.terms.now in
    let mid = c.unfold_each.new.terms in
    let kept = c.in_ok-parts.ensures.kept in
    let held = decls_held (holds old) (means old) (holds mid) (means mid) kept c.args.metas.now c.requires.metas in
    let cost = head_cost_kept (holds old) (means old) (holds mid) (means mid) c.args.metas.now kept c.requires.metas c.args.rounds c.args.m in
    search rules

pub unfold_meta-returns-clause-known : goal.unfold_meta-returns-clause-known
unfold_meta-returns-clause-known g t c =
    let holds = g.T.Terms.holds in
    let means = g.T.Terms.means in
    let old = c.args.terms.now in
    let one = c.unfold_each.new.terms in
    let two = c.unfold_value.new.terms in
    let new = c.applied.new.terms in
    let ds = c.args.metas.now in
    let first = decls_held (holds old) (means old) (holds one) (means one) c.in_ok-parts.ensures.kept ds c.requires.metas in
    let second = decls_held (holds one) (means one) (holds two) (means two) c.in_ok-value.ensures.kept ds first in
    table_kept (holds two) (means two) (holds new) (means new) ds c.in_ok-term.ensures.kept second g.T.Handle.Ord.cmp c.unfold_value.new.known c.in_ok-value.ensures.known

pub unfold_meta-returns-clause-tree : goal.unfold_meta-returns-clause-tree
unfold_meta-returns-clause-tree g t c =
    let holds = g.T.Terms.holds in
    let means = g.T.Terms.means in
    let old = c.args.terms.now in
    let one = c.unfold_each.new.terms in
    let two = c.unfold_value.new.terms in
    let new = c.applied.new.terms in
    let ds = c.args.metas.now in
    let r = c.args.rounds in
    let m = c.args.m in
    let Σ = metas_of (means old) ds in
    let parts = c.in_ok-parts.parts in
    let value = c.in_ok-value.value in
    let vs = parts.0.items in
    let us = terms_of (map (means old) c.args.us.now) in
    let found = option_map (means two) value.0 in
    let args = made_of (λ (ts : Terms). ts) (λ k. unfolded_all Σ k us) (λ k. unfolded_all Σ k us) r (terms_of (map (means one) vs)) (terms_of (map (means two) vs)) (λ k. refl)
    (ap terms_of (keeps_map (holds one) (means one) (holds two) (means two) vs c.in_ok-value.ensures.kept c.in_ok-parts.ensures.held)) parts.1 c.in_ok-parts.ensures.tree in
    let same = metas_kept (holds old) (means old) (holds one) (means one) c.in_ok-parts.ensures.kept ds c.requires.metas in
    let valued = made_of (λ (o : Option Term). o) (λ k. values (metas_of (means one) ds) k (Numbered m) (length c.as_slice-unfolded.result.now)) (λ k. values Σ k (Numbered m) (length vs)) r found found
    (λ k. ap₂ (λ Σ n. values Σ k (Numbered m) n) (sym same) (sym (ap length c.as_slice-unfolded.ensures.value))) refl value.1 c.in_ok-value.ensures.tree in
    meta_reached (means two) Σ r m us vs found value.1 parts.1 c.later.result (means new c.in_ok-term.term) c.later.ensures args valued
    (c.in_ok-term.ensures.tree ∙ ap (λ hs. expanded found (Numbered m) (terms_of (map (means two) hs))) c.as_slice-unfolded.ensures.value)
