use Rattle.std.proofs.Common.{◌≡◌, rules, refl, ◌++◌, ◌∷◌, [], length, take}
use Rattle.ld_terms.specs.declared.node.Place.{Place}
use Rattle.term_store.specs.Hashed.{entry_of}
use Rattle.term_store.proofs.Exact.{node_cmp, exact_nodes, nodes_total}
use Rattle.term_store.proofs.Hash.{hashed_same, of_error, hashed_added, nodes_added}
use Rattle.term_store.proofs.hash_terms.add.Goals as goal

pub returns-in_err-put_last-clause-hashed : goal.returns-in_err-put_last-clause-hashed
returns-in_err-put_last-clause-hashed c =
    (hashed_same node_cmp c.args.ids.now c.args.rows.now c.put_last.new.self c.requires.hashed (rw c.len-at.ensures.counted at c.put_last.ensures.kept)).0

pub returns-in_err-put_last-clause-kept : goal.returns-in_err-put_last-clause-kept
returns-in_err-put_last-clause-kept c =
    of_error c.from_residual-in_err-put_last.result _
    (λ e. (hashed_same node_cmp c.args.ids.now c.args.rows.now c.put_last.new.self c.requires.hashed (rw c.len-at.ensures.counted at c.put_last.ensures.kept)).1)

pub returns-in_err-insert-clause-hashed : goal.returns-in_err-insert-clause-hashed
returns-in_err-insert-clause-hashed c =
    rw c.in_err-insert.ensures.kept
    (hashed_same node_cmp c.args.ids.now c.args.rows.now c.put_last.new.self c.requires.hashed (rw c.len-at.ensures.counted at c.put_last.ensures.kept)).0

pub returns-in_err-insert-clause-kept : goal.returns-in_err-insert-clause-kept
returns-in_err-insert-clause-kept c =
    of_error c.from_residual-in_err-insert.result _
    (λ e. rw c.in_err-insert.ensures.kept
    (hashed_same node_cmp c.args.ids.now c.args.rows.now c.put_last.new.self c.requires.hashed (rw c.len-at.ensures.counted at c.put_last.ensures.kept)).1)

pub returns-clause-hashed : goal.returns-clause-hashed
returns-clause-hashed c =
    let same : c.in_ok-clone.field-0 ≡ c.args.key = search (rules, c.in_ok-clone.ensures.cases) in
    let p : Place = record { 0 = length c.args.ids.now } in
    let l : c.put_last.new.self ≡ take (length c.args.ids.now) c.args.rows.now ++ entry_of c.args.key c.args.size ∷ [] = rw (← c.len-at.ensures.counted, ← same, ← c.of.ensures) c.in_ok-put_last.ensures.put in
    rw (c.in_ok-insert.ensures.changed, c.len-at.ensures.counted)
    (hashed_added node_cmp nodes_total exact_nodes c.args.ids.now c.args.rows.now c.put_last.new.self (entry_of c.args.key c.args.size) p c.requires.hashed l c.len-at.ensures.in_order c.requires.new refl c.requires.below c.requires.sized)

pub returns-clause-added : goal.returns-clause-added
returns-clause-added c =
    let same : c.in_ok-clone.field-0 ≡ c.args.key = search (rules, c.in_ok-clone.ensures.cases) in
    let p : Place = record { 0 = length c.args.ids.now } in
    let l : c.put_last.new.self ≡ take (length c.args.ids.now) c.args.rows.now ++ entry_of c.args.key c.args.size ∷ [] = rw (← c.len-at.ensures.counted, ← same, ← c.of.ensures) c.in_ok-put_last.ensures.put in
    rw (c.in_ok-insert.ensures.changed, c.len-at.ensures.counted)
    (nodes_added node_cmp nodes_total exact_nodes c.args.ids.now c.args.rows.now c.put_last.new.self (entry_of c.args.key c.args.size) p c.requires.hashed l c.len-at.ensures.in_order c.requires.new refl)
