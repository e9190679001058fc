-- Nodes with their sizes.
use Rattle.std.proofs.Common.{◌≡◌, ℕ, ◌+◌, ◌<◌, List, [], ◌∷◌, ◌++◌, length, ap, sym, ◌∙◌, arith, get_or, length-append, ◌⊎◌, inl, inr}
use Rattle.std.proofs.lemmas.List.{map-append, length-map, get_or-map}
use Rattle.std.proofs.lemmas.Grind.{common_steps}
use Rattle.ld_trees.specs.Term as tree
use Rattle.ld_trees.specs.Term.{Term}
use Rattle.ld_terms.specs.Nodes.{IsPlace, tree_over, trees_of, IsBelow, tree_of_place}
use Rattle.ld_terms.specs.Sizes.{IsSize}
use Rattle.ld_terms.specs.Entries.{nodes_in, AreEntries}
use Rattle.ld_terms.proofs.NodeLaws.{push_end, node_at, length-trees_after, trees_after-push}
use Rattle.ld_terms.specs.declared.node.Node.{Node}
use Rattle.ld_terms.specs.declared.tree_terms.Entry.{Entry}
use Rattle.ld_terms.specs.declared.node.Place.{Place}

pub nodes_in-push : (es : List Entry) (e : Entry) → nodes_in (es ++ e ∷ []) ≡ nodes_in es ++ e.node ∷ []
nodes_in-push es e = map-append (λ (e : Entry). e.node) es (e ∷ [])

last_or : (i n : ℕ) → i < n + 1 → (i < n) ⊎ (i ≡ n)
last_or i n h = grind arith

-- a further entry
pub entries_push : (es : List Entry) (e : Entry) → AreEntries es → IsBelow (length (nodes_in es)) e.node → IsSize (tree_over (trees_of (nodes_in es)) e.node) e.size → AreEntries (es ++ e ∷ [])
entries_push es e a b s = record {
  ordered = rw nodes_in-push (push_end (nodes_in es) e.node a.ordered b);
  sizes = record {
    each = λ i d lt.
        let l : length (trees_of (nodes_in es)) ≡ length es = omega (arith, length-trees_after [] (nodes_in es), length-map es (λ (e : Entry). e.node)) in
        rw (nodes_in-push, trees_after-push [] (nodes_in es) e.node)
        (elim (last_or i (length es) (omega (arith, length-append es (e ∷ [])))) [
          | inl h ↦ let p : get_or (trees_of (nodes_in es) ++ tree_over (trees_of (nodes_in es)) e.node ∷ []) i tree.Star ≡ get_or (trees_of (nodes_in es)) i tree.Star = grind (arith, common_steps) in
              let q : get_or (es ++ e ∷ []) i d ≡ get_or es i d = grind (arith, common_steps) in
              rw (p, q) (a.sizes.each i d h)
          | inr h ↦ let p : get_or (trees_of (nodes_in es) ++ tree_over (trees_of (nodes_in es)) e.node ∷ []) i tree.Star ≡ tree_over (trees_of (nodes_in es)) e.node = grind (arith, common_steps) in
              let q : get_or (es ++ e ∷ []) i d ≡ e = grind (arith, common_steps) in
              rw (p, q) s
        ]);
  };
}

-- what node reads
pub entry_at : (es : List Entry) (ns : List Node) (p : Place) (e : Entry) → nodes_in es ≡ ns → AreEntries es → p.0 < length ns → e ≡ get_or es p.0 e →
    (tree_over (trees_of ns) e.node ≡ tree_of_place ns p) × IsBelow (length ns) e.node
unfolding IsPlace tree_of_place
entry_at es ns p e v a lt is =
    let l : length (nodes_in es) ≡ length es = length-map es (λ (e : Entry). e.node) in
    let lt' : p.0 < length (nodes_in es) = rw v lt in
    let n : e.node ≡ get_or ns p.0 e.node = ap (λ (e : Entry). e.node) is ∙ sym (get_or-map (λ (e : Entry). e.node) es p.0 e e.node (omega arith)) ∙ ap (λ ns. get_or ns p.0 e.node) v in
    node_at ns p e.node (rw v at a.ordered) lt n

pub length-nodes_in : (es : List Entry) → length (nodes_in es) ≡ length es
length-nodes_in es = length-map es (λ (e : Entry). e.node)
