-- One turn of a walk: a handle is taken from those that are left and looked at.
use Rattle.std.proofs.Common.{◌≡◌, ◌<◌, ◌+◌, ◌⊎◌, inl, inr, ℕ, zero, suc, List, [], ◌∷◌, ◌++◌, get_or, length, All, Bool, true, Option, Some, None, option_map, refl, sym, ap, ◌∙◌, arith, subst}
use Rattle.std.specs.Prelude.{Contains, sum_by, slice_get, option_to_list}
use Rattle.std.proofs.lemmas.Bool.{eq-eqb}
use Rattle.std.proofs.lemmas.List.Elements.{All-append, All-contains, All-cons, All-nil, All-map, Contains-append_left, Contains-append_right, Contains-append_cases, Contains-push, Contains-push_cases}
use Rattle.std.proofs.lemmas.List.Sums.{sum_by-append, sum_by_push}
use Rattle.ld_trees.specs.Term.{Term, none, ◌▹◌, nodes}
use Rattle.ld_terms.specs.Views.{node_tree}
use Rattle.ld_terms.specs.declared.globals.Local.{Local}
use Rattle.ld_terms.specs.declared.globals.Decl.{Decl}
use Rattle.ld_terms.specs.declared.view.View.{View}
use Rattle.ld_terms.specs.declared.view.View.TheVariants as view
use Rattle.conversion.specs.Globals.{IsOptional, IsDeclOf}
use Rattle.meta_trees.specs.Dependencies.{occurs, Depends, through}
use Rattle.meta_trees.proofs.Dependencies.{or_left}
use Rattle.meta_context.specs.Stored.{decl_of, metas_of}
use Rattle.meta_context.specs.Walks.{types_of, decl_handles, node_parts, IsMet, again, MeetsOther, IsLookedAt}
use Rattle.meta_context.proofs.Stored.{decl_means}
use Rattle.meta_context.proofs.Entering.{contains_head, contains_tail, contains_nothing, all_of}
use Rattle.meta_context.proofs.Handles.{occurs_in_node, occurs_in_decl, weight, node_weight, parts_in}
use Rattle.meta_context.proofs.Walking.{unmet, IsCovered, IsGoodNode, covered_still, covers, met_more, met_sized, met_good, met_declared, met_weight, met_from}

pub contains_at : {X : Type 0} (xs : List X) (k : ℕ) (x : X) → slice_get xs k ≡ Some x → Contains xs x
contains_at [] k x e = absurd cc
contains_at (y ∷ xs) zero x e = let same : y ≡ x = cc in subst (λ z. Contains (y ∷ xs) z) same (contains_head y xs)
contains_at (y ∷ xs) (suc k) x e = contains_tail y x xs (contains_at xs k x e)

decl_held : {H : Type 0} (holds : H → Type 0) (d : Decl H) → IsDeclOf holds d → All holds (decl_handles d)
decl_held holds d i = All-append holds (types_of d.ctx) (d.ty ∷ option_to_list d.value) (All-map holds (λ (l : Local _). l.ty) d.ctx i.ctx) (All-cons holds d.ty (option_to_list d.value) i.ty (value_held d.value i.value))
  where
    value_held : (v : Option _) → IsOptional holds v → All holds (option_to_list v)
    value_held None p = All-nil holds
    value_held (Some v) p = All-cons holds v [] p (All-nil holds)

past_end : (bs : List Bool) → get_or bs (length bs) true ≡ true
past_end [] = refl
past_end (b ∷ bs) = past_end bs

-- what holds of a walk for m from h
pub record IsWalking {H : Type 0} (holds : H → Type 0) (means : H → Term) (ds : List (Decl H)) (m : ℕ) (h : H) (left entered : List H) (met : List Bool) : Type 0 where
  pub sized : length met ≡ length ds
  pub begun : Contains entered h
  pub looked : (x : H) → Contains entered x → Contains left x ⊎ IsCovered means m entered met (means x)
  pub declared : (k : ℕ) (d : Decl H) → slice_get ds k ≡ Some d → get_or met k true ≡ true → All (Contains entered) (decl_handles d)
  pub held : All holds left
  pub sound : (x : H) → Contains left x → (k : ℕ) → occurs k (means x) ≡ true → Depends (metas_of means ds) (none ▹ means h) k

module _ {H : Type 0} (means : H → Term) (ds : List (Decl H)) (m : ℕ) (met met' : List Bool) (more : List H) where
  no_meta : (t : Term) → met' ≡ met → more ≡ [] → (k : ℕ) × IsMet ds k met met' more × ((x : H) → Contains more x → occurs k t ≡ true)
  no_meta t s e = (length met, again (past_end met) s e, λ x c. absurd (contains_nothing x (subst (λ xs. Contains xs x) e c)))

  some_met : (v : View H) → MeetsOther ds m met met' more v → (k : ℕ) × IsMet ds k met met' more × ((x : H) → Contains more x → occurs k (node_tree means v) ≡ true)
  some_met view.Star (s, e) = no_meta (node_tree means view.Star) s e
  some_met view.Square (s, e) = no_meta (node_tree means view.Square) s e
  some_met (view.Var i) (s, e) = no_meta (node_tree means (view.Var i)) s e
  some_met (view.App a b) (s, e) = no_meta (node_tree means (view.App a b)) s e
  some_met (view.Lam a b) (s, e) = no_meta (node_tree means (view.Lam a b)) s e
  some_met (view.Pi a b) (s, e) = no_meta (node_tree means (view.Pi a b)) s e
  some_met (view.Const a us) (s, e) = no_meta (node_tree means (view.Const a us)) s e
  some_met (view.Meta k us) (n, i) = (k, i, λ x c. or_left _ _ (eq-eqb k k refl))

  good_node : (v : View H) → length met ≡ length ds → MeetsOther ds m met met' more v → IsGoodNode means m met' v
  good_node view.Star z o = tt
  good_node view.Square z o = tt
  good_node (view.Var i) z o = tt
  good_node (view.App a b) z o = tt
  good_node (view.Lam a b) z o = tt
  good_node (view.Pi a b) z o = tt
  good_node (view.Const a us) z o = tt
  good_node (view.Meta k us) z (n, i) = (n, met_good means m ds met met' more k z i)

module _ {H : Type 0} (holds : H → Type 0) (means : H → Term) (ds : List (Decl H)) (m : ℕ) (h : H) (stored : All (IsDeclOf holds) ds) where
  more_depends : (k : ℕ) → Depends (metas_of means ds) (none ▹ means h) k → (d : Decl H) → slice_get ds k ≡ Some d → (x : H) → Contains (decl_handles d) x → (j : ℕ) → occurs j (means x) ≡ true → Depends (metas_of means ds) (none ▹ means h) j
  more_depends k D d s x c j o = through (decl_of means d) D (decl_means means k ds ∙ ap (option_map (decl_of means)) s) (occurs_in_decl means j d x c o)

  module _ (left rest entered left' entered' : List H) (met met' : List Bool) (x : H) (w : IsWalking holds means ds m h left entered met) (taken : left ≡ rest ++ x ∷ []) (l : IsLookedAt holds means ds m x rest entered met left' entered' met') where
    was_left : (y : H) → Contains rest y → Contains left y
    was_left y c = subst (λ ys. Contains ys y) (sym taken) (Contains-append_left rest (x ∷ []) y c)

    x_left : Contains left x
    x_left = subst (λ ys. Contains ys x) (sym taken) (Contains-push rest x)

    in_parts : (y : H) → Contains (node_parts l.node) y → Contains entered' y
    in_parts y c = All-contains (Contains entered') (node_parts l.node ++ l.more) y l.parts.here (Contains-append_left (node_parts l.node) l.more y c)

    in_more : (y : H) → Contains l.more y → Contains entered' y
    in_more y c = All-contains (Contains entered') (node_parts l.node ++ l.more) y l.parts.here (Contains-append_right (node_parts l.node) l.more y c)

    x_covered : IsCovered means m entered' met' (means x)
    x_covered = subst (IsCovered means m entered' met') l.tree (covers means m entered' met' l.node in_parts (good_node means ds m met met' l.more l.node w.sized l.meets))

    turn_looked : (y : H) → Contains entered' y → Contains left' y ⊎ IsCovered means m entered' met' (means y)
    turn_looked y c = elim (l.parts.fresh y c) [
      | inr d ↦ inl d
      | inl d ↦ elim (w.looked y d) [
        | inr e ↦ inr (let i = some_met means ds m met met' l.more l.node l.meets in covered_still means m entered entered' l.parts.kept met met' (met_more means m ds met met' l.more i.0 i.1) (means y) e)
        | inl e ↦ elim (Contains-push_cases rest x y (subst (λ ys. Contains ys y) taken e)) [
          | inl f ↦ inl (l.parts.waiting y f)
          | inr q ↦ inr (subst (λ z. IsCovered means m entered' met' (means z)) q x_covered)
        ]
      ]
    ]

    turn_declared : (k : ℕ) (d : Decl H) → slice_get ds k ≡ Some d → get_or met' k true ≡ true → All (Contains entered') (decl_handles d)
    turn_declared k d s g =
        let i = some_met means ds m met met' l.more l.node l.meets in
        elim (met_declared means m ds met met' l.more i.0 i.1 k d s g) [
          | inl e ↦ all_of (Contains entered') (decl_handles d) (λ y c. in_more y (subst (λ ys. Contains ys y) (sym e) c))
          | inr o ↦ all_of (Contains entered') (decl_handles d) (λ y c. l.parts.kept y (All-contains (Contains entered) (decl_handles d) y (w.declared k d s o) c))
        ]

    turn_held : (y : H) → Contains left' y → holds y
    turn_held y c = elim (l.parts.known y c) [
      | inl d ↦ All-contains holds left y w.held (was_left y d)
      | inr d ↦ elim (Contains-append_cases (node_parts l.node) l.more y d) [
        | inl e ↦ All-contains holds (node_parts l.node) y (parts_in means holds l.node l.held) e
        | inr e ↦
            let i = some_met means ds m met met' l.more l.node l.meets in
            let f = met_from means m ds met met' l.more i.0 i.1 y e in
            All-contains holds (decl_handles f.0) y (decl_held holds f.0 (All-contains (IsDeclOf holds) ds f.0 stored (contains_at ds i.0 f.0 f.1))) f.2
      ]
    ]

    turn_sound : (y : H) → Contains left' y → (k : ℕ) → occurs k (means y) ≡ true → Depends (metas_of means ds) (none ▹ means h) k
    turn_sound y c k o = elim (l.parts.known y c) [
      | inl d ↦ w.sound y (was_left y d) k o
      | inr d ↦ elim (Contains-append_cases (node_parts l.node) l.more y d) [
        | inl e ↦ w.sound x x_left k (ap (occurs k) (sym l.tree) ∙ occurs_in_node means k l.node y e o)
        | inr e ↦
            let i = some_met means ds m met met' l.more l.node l.meets in
            let f = met_from means m ds met met' l.more i.0 i.1 y e in
            let D = w.sound x x_left i.0 (ap (occurs i.0) (sym l.tree) ∙ i.2 y e) in
            more_depends i.0 D f.0 f.1 y f.2 k o
      ]
    ]

    pub turn : IsWalking holds means ds m h left' entered' met'
    turn = let i = some_met means ds m met met' l.more l.node l.meets in record {
      sized = met_sized means m ds met met' l.more i.0 i.1 ∙ w.sized;
      begun = l.parts.kept h w.begun;
      looked = turn_looked;
      declared = turn_declared;
      held = all_of holds left' turn_held;
      sound = turn_sound;
    }

    pub turn_smaller : sum_by (weight means) left' + unmet (weight means) met' ds < sum_by (weight means) left + unmet (weight means) met ds
    turn_smaller =
        let i = some_met means ds m met met' l.more l.node l.meets in
        let less = l.parts.less (weight means) in
        let both : sum_by (weight means) (node_parts l.node ++ l.more) ≡ sum_by (weight means) (node_parts l.node) + sum_by (weight means) l.more = sum_by-append (weight means) (node_parts l.node) l.more in
        let old : sum_by (weight means) left ≡ sum_by (weight means) rest + nodes (means x) = ap (sum_by (weight means)) taken ∙ sum_by_push (weight means) rest x in
        let own : nodes (means x) ≡ 1 + sum_by (weight means) (node_parts l.node) = ap nodes (sym l.tree) ∙ node_weight means l.node in
        let rest_of : unmet (weight means) met' ds + sum_by (weight means) l.more ≡ unmet (weight means) met ds = met_weight means m ds met met' l.more (weight means) i.0 i.1 in
        omega (arith, less, both, old, own, rest_of)
