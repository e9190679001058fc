-- The goals of a stored state are those of the plain one, and the state after it is kept like it.
use Rattle.std.proofs.Common.{◌≡◌, ℕ, zero, suc, ◌<◌, ◌≤◌, List, [], ◌∷◌, map, All, ◌&&◌, not, Option, Some, None, option_map, slice_get, length, refl, sym, ap, ap₂, ◌∙◌, subst, arith}
use Rattle.std.proofs.lemmas.List.{length-map}
use Rattle.std.proofs.lemmas.Option.{same_Some}
use Rattle.ld_trees.specs.Term.{Term}
use Rattle.ld_terms.specs.Views.{Keeps}
use Rattle.ld_terms.specs.declared.globals.Local.{Local}
use Rattle.ld_terms.specs.declared.globals.Item.{Item}
use Rattle.ld_terms.specs.declared.globals.Decl.{Decl}
use Rattle.conversion.specs.Globals.{AreLocals, IsItemOf, IsDeclOf, IsOptional, AreGlobalsOf}
use Rattle.conversion.proofs.Lookups.{globals_kept}
use Rattle.meta_trees.specs.Dependencies.{below}
use Rattle.meta_context.specs.Declaring.{IsOpen}
use Rattle.meta_context.specs.Entered.{AreEntered, AreDeclared}
use Rattle.meta_context.specs.Plain.{plain_locals, plain_item, plain_items, rules_env}
use Rattle.meta_laws.specs.Cut.{listed}
use Rattle.meta_laws.specs.Legality.{IsLegalMetas}
use Rattle.goal_state.specs.State.{State, IsLegalState, AreDistinct, plain_metas, rules_metas, is_open, open_goals, dormant, HasRoot}
use Rattle.goal_state.specs.StoredState.{StoredState, plain_state, IsKeptState}
use Rattle.goal_state.specs.Following.{MayFollow, Extend}
use Rattle.goal_state.proofs.Lists.{below_same}
use Rattle.goal_state.proofs.Means.{open_again}

module _ {T H : Type 0} (means : T → H → Term) (s : StoredState T H) where
  as_many : length s.metas ≡ length (plain_metas (means s.terms) s.metas)
  as_many = sym (length-map s.metas _)

  pub open_goals_again : below (is_open s.metas) (length s.metas) ≡ open_goals (plain_state means s)
  open_goals_again =
      below_same (is_open s.metas) (is_open (plain_metas (means s.terms) s.metas)) (length s.metas) (λ m. sym (open_again (means s.terms) s.metas m))
      ∙ ap (below (is_open (plain_metas (means s.terms) s.metas))) as_many

  pub dormant_again : below (λ m. is_open s.metas m && not (listed m s.goals)) (length s.metas) ≡ dormant (plain_state means s)
  dormant_again =
      below_same (λ m. is_open s.metas m && not (listed m s.goals)) (λ m. is_open (plain_metas (means s.terms) s.metas) m && not (listed m s.goals)) (length s.metas)
      (λ m. ap (λ b. b && not (listed m s.goals)) (sym (open_again (means s.terms) s.metas m)))
      ∙ ap (below (λ m. is_open (plain_metas (means s.terms) s.metas) m && not (listed m s.goals))) as_many

-- ---- the environment while the store grows

tail_all : {X : Type 0} (P : X → Type 0) (x : X) (xs : List X) → All P (x ∷ xs) → All P xs
tail_all P x xs a i d l = a (suc i) d (omega arith)

same_items : (name : List ℕ) (ps qs : List (Local Term)) (t u : Term) (b c : Option Term) → ps ≡ qs → t ≡ u → b ≡ c
    → (let x : Item Term = record { name = name; params = ps; ty = t; body = b } in let y : Item Term = record { name = name; params = qs; ty = u; body = c } in x ≡ y)
same_items name ps qs t u b c p q r = λ i. record { name = name; params = p i; ty = q i; body = r i }

module _ {H : Type 0} (holds : H → Type 0) (means : H → Term) (holds' : H → Type 0) (means' : H → Term) (kept : Keeps holds means holds' means') where
  locals_kept : (ls : List (Local H)) → AreLocals holds ls → plain_locals means' ls ≡ plain_locals means ls
  locals_kept [] a = refl
  locals_kept (l ∷ ls) a = ap₂ (λ (t : Term) (ls : List (Local Term)). let x : Local Term = record { name = l.name; ty = t } in x ∷ ls) (kept l.ty (a 0 l (omega arith))).1 (locals_kept ls (tail_all (λ l. holds l.ty) l ls a))

  optional_kept : (o : Option H) → IsOptional holds o → option_map means' o ≡ option_map means o
  optional_kept None h = refl
  optional_kept (Some x) h = ap (λ (t : Term). Some t) (kept x h).1

  item_kept : (i : Item H) → IsItemOf holds i → plain_item means' i ≡ plain_item means i
  item_kept i h = same_items i.name (plain_locals means' i.params) (plain_locals means i.params) (means' i.ty) (means i.ty) (option_map means' i.body) (option_map means i.body) (locals_kept i.params h.params) (kept i.ty h.ty).1 (optional_kept i.body h.body)

  pub items_kept : (is : List (Item H)) → All (IsItemOf holds) is → plain_items means' is ≡ plain_items means is
  items_kept [] a = refl
  items_kept (i ∷ is) a = ap₂ (λ (x : Item Term) (xs : List (Item Term)). x ∷ xs) (item_kept i (a 0 i (omega arith))) (items_kept is (tail_all (IsItemOf holds) i is a))

  pub items_held : (is : List (Item H)) → All (IsItemOf holds) is → All (IsItemOf holds') is
  items_held is a = (globals_kept holds means holds' means' kept is [] (record { items_held = a; metas_held = λ k d l. absurd (omega arith) })).items_held

-- ---- the state after a state

root_kept : (ds cs : List (Decl Term)) → Extend ds cs → HasRoot ds → HasRoot cs
root_kept [] cs x r = absurd r
root_kept (d ∷ ds) [] x r = let y = x 0 d refl in let e = y.1 in absurd cc
root_kept (d ∷ ds) (c ∷ cs) x r = let y = x 0 d refl in let e : c ≡ y.0 = same_Some _ _ y.1 in ap (λ c. c.ctx) e ∙ y.2.ctx ∙ r

module _ {T H : Type 0} (holds : T → H → Type 0) (means : T → H → Term) (s : StoredState T H) (terms : T) (env : List (Item H)) (metas : List (Decl H)) (goals : List ℕ)
    (ok : IsKeptState holds means s) (kept : Keeps (holds s.terms) (means s.terms) (holds terms) (means terms)) (same : env ≡ s.items) where
  pub next_items : plain_items (means terms) env ≡ plain_items (means s.terms) s.items
  next_items = ap (plain_items (means terms)) same ∙ items_kept (holds s.terms) (means s.terms) (holds terms) (means terms) kept s.items ok.held.items_held

  pub next_kept : All (IsDeclOf (holds terms)) metas → AreDeclared metas → length metas ≤ 65536 → MayFollow (plain_state means s) (plain_metas (means terms) metas) goals
      → IsKeptState holds means (record { terms = terms; items = env; metas = metas; goals = goals })
  next_kept held declared few follows = record {
    held = record {
      items_held = subst (All (IsItemOf (holds terms))) (sym same) (items_held (holds s.terms) (means s.terms) (holds terms) (means terms) kept s.items ok.held.items_held);
      metas_held = held;
    };
    entered = subst AreEntered (sym same) ok.entered;
    declared = declared;
    few = few;
    legal = record {
      legal = subst (λ is. IsLegalMetas (rules_env is) (rules_metas (plain_metas (means terms) metas))) (sym next_items) follows.legal;
      root = root_kept (plain_metas (means s.terms) s.metas) (plain_metas (means terms) metas) follows.extend ok.legal.root;
      active = follows.active;
      once = follows.once;
    };
  }

-- the same metavariables with open goals of them
pub same_metas_follow : (s : State) (metas : List (Decl Term)) (goals : List ℕ) → IsLegalState s → metas ≡ s.metas → All (IsOpen metas) goals → AreDistinct goals → MayFollow s metas goals
same_metas_follow s metas goals ok same active once = record {
  extend = λ m d e. (d, ap (λ ds. slice_get ds m) same ∙ e, record { ctx = refl; ty = refl; value = λ v f. f });
  legal = subst (λ ds. IsLegalMetas (rules_env s.items) (rules_metas ds)) (sym same) ok.legal;
  active = active;
  once = once;
}
