-- What occurs in a term occurs in the terms of its handles, and its nodes are theirs and its root.
use Rattle.std.proofs.Common.{◌≡◌, ◌+◌, inl, inr, ℕ, List, [], ◌∷◌, ◌++◌, map, All, true, ◌||◌, Option, Some, None, option_map, refl, sym, ap, ◌∙◌, arith, subst, nat_eq}
use Rattle.std.specs.Prelude.{Contains, sum_by, option_to_list}
use Rattle.std.proofs.lemmas.List.Sums.{sum_by-cons}
use Rattle.ld_trees.specs.Term.{Term, Terms, none, ◌▹◌, nodes, nodes_all}
use Rattle.ld_terms.specs.Views.{node_tree, terms_onto, terms_of, PartsIn}
use Rattle.ld_terms.specs.declared.globals.Local.{Local}
use Rattle.ld_terms.specs.declared.globals.Decl.{Decl}
use Rattle.ld_terms.specs.declared.view.View.{View}
use Rattle.ld_terms.specs.declared.view.View.TheVariants as view
use Rattle.meta_trees.specs.Dependencies.{occurs, occurs_in, parts, and_value}
use Rattle.meta_trees.proofs.Dependencies.{or_left, or_right}
use Rattle.meta_context.specs.Stored.{decl_of}
use Rattle.meta_context.specs.Walks.{types_of, decl_handles, node_parts}
use Rattle.meta_context.proofs.Entering.{contains_cases, contains_nothing, all_of}

-- ---- the parts of a metavariable are the trees of its handles

module _ {H : Type 0} (means : H → Term) where
  onto_append : (us : Terms) (xs ys : List H) → terms_onto us (map means (xs ++ ys)) ≡ terms_onto (terms_onto us (map means xs)) (map means ys)
  onto_append us [] ys = refl
  onto_append us (x ∷ xs) ys = onto_append (us ▹ means x) xs ys

  types_same : (us : Terms) (ls : List (Local H)) → terms_onto us (map (λ (l : Local H). means l.ty) ls) ≡ terms_onto us (map means (types_of ls))
  types_same us [] = refl
  types_same us (l ∷ ls) = types_same (us ▹ means l.ty) ls

  pub parts_same : (d : Decl H) → parts (decl_of means d) ≡ terms_of (map means (decl_handles d))
  parts_same d = by_value d.value
    where
      by_value : (v : Option H) → and_value (terms_of (map (λ (l : Local H). means l.ty) d.ctx) ▹ means d.ty) (option_map means v) ≡ terms_of (map means (types_of d.ctx ++ (d.ty ∷ option_to_list v)))
      by_value None = ap (λ us. us ▹ means d.ty) (types_same none d.ctx) ∙ sym (onto_append none (types_of d.ctx) (d.ty ∷ []))
      by_value (Some v) = ap (λ us. us ▹ means d.ty ▹ means v) (types_same none d.ctx) ∙ sym (onto_append none (types_of d.ctx) (d.ty ∷ v ∷ []))

-- ---- occurrences

module _ {H : Type 0} (means : H → Term) (j : ℕ) where
  onto_first : (us : Terms) (xs : List H) → occurs_in j us ≡ true → occurs_in j (terms_onto us (map means xs)) ≡ true
  onto_first us [] o = o
  onto_first us (x ∷ xs) o = onto_first (us ▹ means x) xs (or_left (occurs_in j us) (occurs j (means x)) o)

  occurs_onto : (us : Terms) (xs : List H) (x : H) → Contains xs x → occurs j (means x) ≡ true → occurs_in j (terms_onto us (map means xs)) ≡ true
  occurs_onto us [] x c o = absurd (contains_nothing x c)
  occurs_onto us (y ∷ xs) x c o = elim (contains_cases y x xs c) [
    | inl e ↦ onto_first (us ▹ means y) xs (or_right (occurs_in j us) (occurs j (means y)) (subst (λ z. occurs j (means z) ≡ true) (sym e) o))
    | inr d ↦ occurs_onto (us ▹ means y) xs x d o
  ]

  one_of_two : (a b x : H) → Contains (a ∷ b ∷ []) x → occurs j (means x) ≡ true → (occurs j (means a) || occurs j (means b)) ≡ true
  one_of_two a b x c o = elim (contains_cases a x (b ∷ []) c) [
    | inl e ↦ or_left (occurs j (means a)) _ (subst (λ z. occurs j (means z) ≡ true) (sym e) o)
    | inr d ↦ elim (contains_cases b x [] d) [
      | inl e ↦ or_right (occurs j (means a)) _ (subst (λ z. occurs j (means z) ≡ true) (sym e) o)
      | inr f ↦ absurd (contains_nothing x f)
    ]
  ]

  pub occurs_in_node : (v : View H) (x : H) → Contains (node_parts v) x → occurs j (means x) ≡ true → occurs j (node_tree means v) ≡ true
  occurs_in_node view.Star x c o = absurd (contains_nothing x c)
  occurs_in_node view.Square x c o = absurd (contains_nothing x c)
  occurs_in_node (view.Var i) x c o = absurd (contains_nothing x c)
  occurs_in_node (view.App f a) x c o = one_of_two f a x c o
  occurs_in_node (view.Lam A M) x c o = one_of_two A M x c o
  occurs_in_node (view.Pi A B) x c o = one_of_two A B x c o
  occurs_in_node (view.Const a us) x c o = occurs_onto none us.now x c o
  occurs_in_node (view.Meta k us) x c o = or_right (nat_eq k j) _ (occurs_onto none us.now x c o)

  pub occurs_in_decl : (d : Decl H) (x : H) → Contains (decl_handles d) x → occurs j (means x) ≡ true → occurs_in j (parts (decl_of means d)) ≡ true
  occurs_in_decl d x c o = ap (occurs_in j) (parts_same means d) ∙ occurs_onto none (decl_handles d) x c o

pub two_in : {H : Type 0} (P : H → Type 0) (a b : H) → P a → P b → All P (a ∷ b ∷ [])
two_in P a b p q = all_of P (a ∷ b ∷ []) (λ x c. elim (contains_cases a x (b ∷ []) c) [
  | inl e ↦ subst P e p
  | inr d ↦ elim (contains_cases b x [] d) [ inl e ↦ subst P e q | inr f ↦ absurd (contains_nothing x f) ]
])

-- ---- nodes

module _ {H : Type 0} (means : H → Term) where
  abbrev pub weight : H → ℕ
  weight x = nodes (means x)

  nodes_onto : (us : Terms) (xs : List H) → nodes_all (terms_onto us (map means xs)) ≡ nodes_all us + sum_by weight xs
  nodes_onto us [] = omega arith
  nodes_onto us (x ∷ xs) =
      let h : nodes_all (terms_onto (us ▹ means x) (map means xs)) ≡ (nodes_all us + nodes (means x)) + sum_by weight xs = nodes_onto (us ▹ means x) xs in
      let s : sum_by weight (x ∷ xs) ≡ nodes (means x) + sum_by weight xs = sum_by-cons weight x xs in
      omega (arith, h, s)

  pub node_weight : (v : View H) → nodes (node_tree means v) ≡ 1 + sum_by weight (node_parts v)
  node_weight view.Star = refl
  node_weight view.Square = refl
  node_weight (view.Var i) = refl
  node_weight (view.App f a) = omega arith
  node_weight (view.Lam A M) = omega arith
  node_weight (view.Pi A B) = omega arith
  node_weight (view.Const a us) = let h : nodes_all (terms_onto none (map means us.now)) ≡ 0 + sum_by weight us.now = nodes_onto none us.now in omega (arith, h)
  node_weight (view.Meta k us) = let h : nodes_all (terms_onto none (map means us.now)) ≡ 0 + sum_by weight us.now = nodes_onto none us.now in omega (arith, h)

  pub parts_in : (P : H → Type 0) (v : View H) → PartsIn P v → All P (node_parts v)
  parts_in P view.Star p = all_of P [] (λ x c. absurd (contains_nothing x c))
  parts_in P view.Square p = all_of P [] (λ x c. absurd (contains_nothing x c))
  parts_in P (view.Var i) p = all_of P [] (λ x c. absurd (contains_nothing x c))
  parts_in P (view.App f a) p = two_in P f a p.0 p.1
  parts_in P (view.Lam A M) p = two_in P A M p.0 p.1
  parts_in P (view.Pi A B) p = two_in P A B p.0 p.1
  parts_in P (view.Const a us) p = p
  parts_in P (view.Meta k us) p = p
