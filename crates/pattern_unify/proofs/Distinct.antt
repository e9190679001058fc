-- Whether arguments are distinct variables, one after another.
use Rattle.std.proofs.Common.{◌≡◌, ℕ, ◌+◌, ◌<◌, List, [], ◌∷◌, ◌++◌, Bool, true, false, ◌&&◌, Some, None, length, take, drop, map, get_or, refl, sym, ap, ap₂, ◌∙◌}
use Rattle.ld_trees.specs.Term.{Term, Terms, ◌▹◌}
use Rattle.ld_terms.specs.Views.{terms_onto, terms_of}
use Rattle.unification.specs.Patterns.{is_new_variable, are_distinct_variables}
use Rattle.pattern_unify.specs.Walks.{variables_of, AreDistinct, IsNewVariable}
use Rattle.pattern_unify.proofs.Onto.{done_and_rest, one_more_done}
use Rattle.pattern_unify.proofs.Places.{variables_end}

never : (x : Bool) → (x && false) ≡ false
never true = refl
never false = refl

false_onto : (us : Terms) (xs : List Term) → are_distinct_variables us ≡ false → are_distinct_variables (terms_onto us xs) ≡ false
false_onto us [] e = e
false_onto us (x ∷ xs) e = false_onto (us ▹ x) xs (ap (λ b. is_new_variable us x && b) e ∙ never (is_new_variable us x))

module _ {H : Type 0} (means : H → Term) (hs : List H) (n : ℕ) (h : H) (l : n < length hs) (e : h ≡ get_or hs n h) (vs : List ℕ) (d : AreDistinct (terms_of (map means (take n hs))) (Some vs)) where
  next : are_distinct_variables (terms_of (map means (take (n + 1) hs))) ≡ (is_new_variable (variables_of vs) (means h) && true)
  next = ap are_distinct_variables (one_more_done means hs n h l e) ∙ ap₂ (λ us b. is_new_variable us (means h) && b) (sym d.1) d.0

  pub distinct_more : (i : ℕ) (ws : List ℕ) → ws ≡ vs ++ i ∷ [] → IsNewVariable (variables_of vs) (means h) (Some i) → AreDistinct (terms_of (map means (take (n + 1) hs))) (Some ws)
  distinct_more i ws q new = (
    next ∙ ap (λ b. b && true) new.0,
    ap variables_of q ∙ variables_end vs i ∙ ap₂ ◌▹◌ d.1 (sym new.1) ∙ sym (one_more_done means hs n h l e),
  )

  pub not_distinct : IsNewVariable (variables_of vs) (means h) None → are_distinct_variables (terms_of (map means hs)) ≡ false
  not_distinct new =
      ap are_distinct_variables (done_and_rest means hs (n + 1)) ∙ false_onto (terms_of (map means (take (n + 1) hs))) (map means (drop (n + 1) hs)) (next ∙ ap (λ b. b && true) new)
