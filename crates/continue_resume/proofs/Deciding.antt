-- The tests of equality are right.
use Rattle.std.proofs.Common.{◌≡◌, ◌↔◌, ℕ, List, Option, Some, None, true, is_none, slice_get, refl, sym, ap, ap₂, ◌∙◌}
use Rattle.std.specs.Cmp.Lexicographic.{pointwise_decides}
use Rattle.std.proofs.lemmas.Option.{same_Some}
use Rattle.ld_trees.specs.Term.{Term, same_name, same}
use Rattle.ld_trees.proofs.Equality.{and_left, and_right, and_both, same_head_is, same_head_itself, same_decides}
use Rattle.ld_trees.specs.Term.{Named}
use Rattle.ld_terms.specs.declared.globals.Local.{Local}
use Rattle.ld_terms.specs.declared.globals.Item.{Item}
use Rattle.ld_terms.specs.declared.globals.Decl.{Decl}
use Rattle.goal_state.specs.State.{root_type}
use Rattle.continue_resume.specs.Equality.{same_local, same_locals, same_body, same_item, same_items}
use Rattle.continue_resume.specs.Continuing.{is_open_as, IsShared}
use Rattle.continue_resume.specs.Laws.{RootsAreDecided, SharedGoalsAreDecided}

same_name_decides : (a b : List ℕ) → (same_name a b ≡ true) ↔ (a ≡ b)
same_name_decides a b = (
  λ e. let q : Named a ≡ Named b = same_head_is (Named a) (Named b) e in cc,
  λ e. ap (same_name a) (sym e) ∙ same_head_itself (Named a),
)

local_at : List ℕ → Term → Local Term
local_at x T = record { name = x; ty = T }

same_local_decides : (a b : Local Term) → (same_local a b ≡ true) ↔ (a ≡ b)
unfolding local_at
same_local_decides a b = (
  λ e. ap₂ local_at ((same_name_decides a.name b.name).0 (and_left (same_name a.name b.name) _ e)) ((same_decides a.ty b.ty).0 (and_right (same_name a.name b.name) _ e)),
  λ e. and_both (same_name a.name b.name) _ ((same_name_decides a.name b.name).1 (ap (λ (l : Local Term). l.name) e)) ((same_decides a.ty b.ty).1 (ap (λ (l : Local Term). l.ty) e)),
)

pub same_locals_decides : (xs ys : List (Local Term)) → (same_locals xs ys ≡ true) ↔ (xs ≡ ys)
same_locals_decides xs ys = pointwise_decides {E = same_local} same_local_decides xs ys

same_body_decides : (t u : Option Term) → (same_body t u ≡ true) ↔ (t ≡ u)
same_body_decides None None = (λ e. refl, λ e. refl)
same_body_decides None (Some u) = (λ e. absurd cc, λ e. absurd cc)
same_body_decides (Some t) None = (λ e. absurd cc, λ e. absurd cc)
same_body_decides (Some t) (Some u) = (λ e. ap (λ (x : Term). Some x) ((same_decides t u).0 e), λ e. (same_decides t u).1 (same_Some _ _ e))

item_at : List ℕ → List (Local Term) → Term → Option Term → Item Term
item_at x ps T b = record { name = x; params = ps; ty = T; body = b }

items_alike : (x y : List ℕ) (ps qs : List (Local Term)) (T U : Term) (b c : Option Term) → x ≡ y → ps ≡ qs → T ≡ U → b ≡ c → item_at x ps T b ≡ item_at y qs U c
items_alike x y ps qs T U b c e f g h = λ i. item_at (e i) (f i) (g i) (h i)

same_item_decides : (i j : Item Term) → (same_item i j ≡ true) ↔ (i ≡ j)
unfolding item_at
same_item_decides i j = (
  λ e.
      let rest = and_right (same_name i.name j.name) _ e in
      let last = and_right (same_locals i.params j.params) _ rest in
      items_alike i.name j.name i.params j.params i.ty j.ty i.body j.body
      ((same_name_decides i.name j.name).0 (and_left (same_name i.name j.name) _ e))
      ((same_locals_decides i.params j.params).0 (and_left (same_locals i.params j.params) _ rest))
      ((same_decides i.ty j.ty).0 (and_left (same i.ty j.ty) _ last))
      ((same_body_decides i.body j.body).0 (and_right (same i.ty j.ty) _ last)),
  λ e.
      and_both (same_name i.name j.name) _ ((same_name_decides i.name j.name).1 (ap (λ (k : Item Term). k.name) e))
      (and_both (same_locals i.params j.params) _ ((same_locals_decides i.params j.params).1 (ap (λ (k : Item Term). k.params) e))
      (and_both (same i.ty j.ty) _ ((same_decides i.ty j.ty).1 (ap (λ (k : Item Term). k.ty) e))
      ((same_body_decides i.body j.body).1 (ap (λ (k : Item Term). k.body) e)))),
)

pub same_items_decides : (is js : List (Item Term)) → (same_items is js ≡ true) ↔ (is ≡ js)
same_items_decides is js = pointwise_decides {E = same_item} same_item_decides is js

pub roots_are_decided : RootsAreDecided
roots_are_decided s t = (
  λ e. ((same_items_decides s.items t.items).0 (and_left (same_items s.items t.items) _ e), (same_decides (root_type s) (root_type t)).0 (and_right (same_items s.items t.items) _ e)),
  λ w. and_both (same_items s.items t.items) _ ((same_items_decides s.items t.items).1 w.0) ((same_decides (root_type s) (root_type t)).1 w.1),
)

-- ---- shared goals

pub no_value : {H : Type 0} (o : Option H) → is_none o ≡ true → o ≡ None
no_value None e = refl
no_value (Some x) e = absurd cc

pub shared_goals_are_decided : SharedGoalsAreDecided
shared_goals_are_decided ds cs m = go (slice_get ds m) (slice_get cs m) refl refl
  where
    go : (o p : Option (Decl Term)) → slice_get ds m ≡ o → slice_get cs m ≡ p → (is_open_as o p ≡ true) ↔ IsShared ds cs m
    go None p e f = (λ t. absurd cc, λ w. let q = sym e ∙ w.declared in absurd cc)
    go (Some d) None e f = (λ t. absurd cc, λ w. let q = sym f ∙ w.found in absurd cc)
    go (Some d) (Some c) e f = (
      λ t.
          let rest = and_right (is_none d.value) _ t in
          record {
            one = d;
            other = c;
            declared = e;
            unassigned = no_value d.value (and_left (is_none d.value) _ t);
            found = f;
            ctx = (same_locals_decides d.ctx c.ctx).0 (and_left (same_locals d.ctx c.ctx) _ rest);
            ty = (same_decides d.ty c.ty).0 (and_right (same_locals d.ctx c.ctx) _ rest);
          },
      λ w.
          let q : d ≡ w.one = same_Some _ _ (sym e ∙ w.declared) in
          let r : c ≡ w.other = same_Some _ _ (sym f ∙ w.found) in
          and_both (is_none d.value) _ (ap (λ (x : Decl Term). is_none x.value) q ∙ ap is_none w.unassigned)
          (and_both (same_locals d.ctx c.ctx) _
          ((same_locals_decides d.ctx c.ctx).1 (ap (λ (x : Decl Term). x.ctx) q ∙ w.ctx ∙ sym (ap (λ (x : Decl Term). x.ctx) r)))
          ((same_decides d.ty c.ty).1 (ap (λ (x : Decl Term). x.ty) q ∙ w.ty ∙ sym (ap (λ (x : Decl Term). x.ty) r)))),
    )
