-- Arguments behind others, as a part of a list of handles that is done and the rest of it.
use Rattle.std.proofs.Common.{◌≡◌, ℕ, ◌+◌, ◌<◌, ◌≤◌, List, [], ◌∷◌, ◌++◌, length, take, drop, map, get_or, refl, sym, ap, ◌∙◌}
use Rattle.std.proofs.lemmas.List.{map-append, take-append-drop, take_all}
use Rattle.ld_trees.specs.Term.{Term, Terms, none, ◌▹◌}
use Rattle.ld_terms.specs.Views.{terms_onto, terms_of}
use Rattle.ld_terms.proofs.Arguments.{terms_of_more}

onto_both : (us : Terms) (xs ys : List Term) → terms_onto us (xs ++ ys) ≡ terms_onto (terms_onto us xs) ys
onto_both us [] ys = refl
onto_both us (x ∷ xs) ys = onto_both (us ▹ x) xs ys

module _ {H : Type 0} (means : H → Term) (hs : List H) where
  -- the first arguments, and the others behind them
  pub done_and_rest : (n : ℕ) → terms_of (map means hs) ≡ terms_onto (terms_of (map means (take n hs))) (map means (drop n hs))
  done_and_rest n =
      ap (λ xs. terms_of (map means xs)) (sym (take-append-drop n hs)) ∙ ap terms_of (map-append means (take n hs) (drop n hs)) ∙ onto_both none (map means (take n hs)) (map means (drop n hs))

  -- one more argument is done
  pub one_more_done : (n : ℕ) (h : H) → n < length hs → h ≡ get_or hs n h → terms_of (map means (take (n + 1) hs)) ≡ terms_of (map means (take n hs)) ▹ means h
  one_more_done n h l e = terms_of_more means hs n h l ∙ ap (λ x. terms_of (map means (take n hs)) ▹ means x) (sym e)

  pub all_done : (n : ℕ) → length hs ≤ n → terms_of (map means (take n hs)) ≡ terms_of (map means hs)
  all_done n l = ap (λ xs. terms_of (map means xs)) (take_all n hs l)
