-- One round of unfolding, over the handles of a store.
use Rattle.std.proofs.Common.{◌≡◌, ℕ, zero, suc, ◌+◌, ◌-◌, ◌<◌, ◌≤◌, List, [], ◌∷◌, map, All, Bool, true, false, nat_eq, if◌then◌else◌, Option, Some, None, option_map, length, slice_get, get_or, refl, sym, ap, ap₂, ◌∙◌, subst, arith}
use Rattle.std.proofs.lemmas.List.{length-map}
use Rattle.ld_trees.specs.Term.{Head, Named, Numbered, Term, Terms, Con, count}
use Rattle.ld_trees.specs.Substitution.{subst_all}
use Rattle.ld_rules.specs.Expansion.{Bodies, expand, expanded}
use Rattle.ld_rules.proofs.Removal.{expand_count}
use Rattle.ld_terms.specs.Views.{Keeps, terms_of}
use Rattle.ld_terms.specs.declared.globals.Decl.{Decl as StoredDecl}
use Rattle.conversion.specs.Globals.{IsDeclOf, IsOptional, context_of}
use Rattle.meta_trees.specs.MetaContext.{Decl, Metas, decl}
use Rattle.meta_context.specs.Stored.{decl_of, metas_of}
use Rattle.meta_laws.specs.Unfolding.{values, value_in}
use Rattle.goal_state.specs.Rounds.{unfolded, unfolded_all, value_with, value_for}
use Rattle.goal_state.proofs.Means.{decl_found, metas_kept, count_of_terms, count_of_context}
use Rattle.conversion.proofs.Lookups.{decl_found_held}
use Rattle.goal_state.proofs.Work.{work, decl_work, value_work, head_work, rounds_work, rounds_work_all, part_work}

-- constants have no value in any round
pub constants_have_none : (Σ : Metas) (r : ℕ) (a : List ℕ) (n : ℕ) → values Σ r (Named a) n ≡ None
constants_have_none Σ zero a n = refl
constants_have_none Σ (suc r) a n = refl

-- without a round nothing has a value
pub no_round : (Σ : Metas) (r m n : ℕ) → r ≡ 0 → values Σ r (Numbered m) n ≡ None
no_round Σ r m n e = ap (λ r. values Σ r (Numbered m) n) e

-- a round more
pub next_round : (Σ : Metas) (r m n : ℕ) → 0 < r → values Σ r (Numbered m) n ≡ value_in (λ h k. values Σ (r - 1) h k) n (decl m Σ)
next_round Σ zero m n l = absurd (omega arith)
next_round Σ (suc r) m n l = let e : r ≡ suc r - 1 = omega arith in ap (λ q. value_in (λ h k. values Σ q h k) n (decl m Σ)) e

next_work : (Σ : Metas) (r m : ℕ) → 0 < r → head_work Σ r (Numbered m) ≡ decl_work (work (λ h. head_work Σ (r - 1) h)) (decl m Σ)
next_work Σ zero m l = absurd (omega arith)
next_work Σ (suc r) m l = let e : r ≡ suc r - 1 = omega arith in ap (λ q. decl_work (work (λ h. head_work Σ q h)) (decl m Σ)) e

if_some : {H : Type 0} (b : Bool) (o : Option H) (v : H) → (if b then o else None) ≡ Some v → o ≡ Some v
if_some true o v e = e
if_some false o v e = absurd cc

module _ {H : Type 0} (means : H → Term) where
  value_if : (V : Bodies) (b : Bool) (o : Option H) → (if b then option_map (λ v. expand V v) (option_map means o) else None) ≡ option_map (λ h. expand V (means h)) (if b then o else None)
  value_if V true None = refl
  value_if V true (Some h) = refl
  value_if V false o = refl

  value_of : (V : Bodies) (n : ℕ) (o : Option (StoredDecl H)) → value_in V n (option_map (decl_of means) o) ≡ option_map (λ h. expand V (means h)) (value_with n o)
  value_of V n None = refl
  value_of V n (Some d) =
      ap (λ k. if nat_eq n k then option_map (λ v. expand V v) (option_map means d.value) else None) (count_of_context means d.ctx)
      ∙ value_if V (nat_eq n (length d.ctx)) d.value

  -- the value of a metavariable in the next round is its stored value, unfolded in one round less
  pub value_rounds : (ds : List (StoredDecl H)) (r m n : ℕ) → 0 < r → values (metas_of means ds) r (Numbered m) n ≡ option_map (λ h. unfolded (metas_of means ds) (r - 1) (means h)) (value_for ds m n)
  value_rounds ds r m n l =
      next_round (metas_of means ds) r m n l
      ∙ ap (value_in (λ h k. values (metas_of means ds) (r - 1) h k) n) (decl_found means ds m)
      ∙ value_of (λ h k. values (metas_of means ds) (r - 1) h k) n (slice_get ds m)

  pub no_value_rounds : (ds : List (StoredDecl H)) (r m n : ℕ) → 0 < r → value_for ds m n ≡ None → None ≡ values (metas_of means ds) r (Numbered m) n
  no_value_rounds ds r m n l e = sym (value_rounds ds r m n l ∙ ap (option_map (λ h. unfolded (metas_of means ds) (r - 1) (means h))) e)

  pub some_value_rounds : (ds : List (StoredDecl H)) (r m n : ℕ) (v : H) (t : Term) → 0 < r → value_for ds m n ≡ Some v → t ≡ unfolded (metas_of means ds) (r - 1) (means v)
      → Some t ≡ values (metas_of means ds) r (Numbered m) n
  some_value_rounds ds r m n v t l e f = ap (λ (t : Term). Some t) f ∙ sym (value_rounds ds r m n l ∙ ap (option_map (λ h. unfolded (metas_of means ds) (r - 1) (means h))) e)

  with_some : (f : Term → ℕ) (n : ℕ) (o : Option (StoredDecl H)) (v : H) → value_with n o ≡ Some v → decl_work f (option_map (decl_of means) o) ≡ 1 + f (means v)
  with_some f n None v e = absurd cc
  with_some f n (Some d) v e = ap (λ o. value_work f (option_map means o)) (if_some (nat_eq n (length d.ctx)) d.value v e)

  -- the value of a metavariable costs less than the metavariable
  pub value_costs : (ds : List (StoredDecl H)) (r m n : ℕ) (v : H) → 0 < r → value_for ds m n ≡ Some v
      → head_work (metas_of means ds) r (Numbered m) ≡ 1 + rounds_work (metas_of means ds) (r - 1) (means v)
  value_costs ds r m n v l e =
      next_work (metas_of means ds) r m l
      ∙ ap (decl_work (work (λ h. head_work (metas_of means ds) (r - 1) h))) (decl_found means ds m)
      ∙ with_some (work (λ h. head_work (metas_of means ds) (r - 1) h)) n (slice_get ds m) v e

optional_value : {H : Type 0} (holds : H → Type 0) (o : Option H) (v : H) → IsOptional holds o → o ≡ Some v → holds v
optional_value holds None v h e = absurd cc
optional_value holds (Some x) v h e = let q : x ≡ v = cc in subst holds q h

value_with_held : {H : Type 0} (holds : H → Type 0) (n : ℕ) (o : Option (StoredDecl H)) (v : H) → ((d : StoredDecl H) → o ≡ Some d → IsDeclOf holds d) → value_with n o ≡ Some v → holds v
value_with_held holds n None v f e = absurd cc
value_with_held holds n (Some d) v f e = optional_value holds d.value v (f d refl).value (if_some (nat_eq n (length d.ctx)) d.value v e)

-- the value of a metavariable is of the store
pub value_held : {H : Type 0} (holds : H → Type 0) (ds : List (StoredDecl H)) (m n : ℕ) (v : H) → All (IsDeclOf holds) ds → value_for ds m n ≡ Some v → holds v
value_held holds ds m n v a e = value_with_held holds n (slice_get ds m) v (λ d f. decl_found_held holds ds m d a f) e

-- ---- while the store grows

module _ {H : Type 0} (holds : H → Type 0) (means : H → Term) (holds' : H → Type 0) (means' : H → Term) (ds : List (StoredDecl H)) (kept : Keeps holds means holds' means') (a : All (IsDeclOf holds) ds) where
  -- what a term costs
  pub cost_kept : (r : ℕ) (h : H) → holds h → rounds_work (metas_of means' ds) r (means' h) ≡ rounds_work (metas_of means ds) r (means h)
  cost_kept r h p = ap₂ (λ Σ t. rounds_work Σ r t) (metas_kept holds means holds' means' kept ds a) (kept h p).1

  pub head_cost_kept : (r m : ℕ) → head_work (metas_of means' ds) r (Numbered m) ≡ head_work (metas_of means ds) r (Numbered m)
  head_cost_kept r m = ap (λ Σ. head_work Σ r (Numbered m)) (metas_kept holds means holds' means' kept ds a)

  -- an element of a list is of the store, and costs no more than the list
  pub part_kept : (hs : List H) (r i : ℕ) (h : H) → All holds hs → i < length hs → h ≡ get_or hs i h
      → holds' h × (rounds_work (metas_of means' ds) r (means' h) ≤ rounds_work_all (metas_of means ds) r (terms_of (map means hs)))
  part_kept hs r i h b l e =
      let at : holds h = rw e (b i h l) in
      let same = cost_kept r h at in
      let x : rounds_work (metas_of means ds) r (means h) ≡ rounds_work (metas_of means ds) r (means (get_or hs i h)) = ap (λ h. rounds_work (metas_of means ds) r (means h)) e in
      let y = part_work (λ k. head_work (metas_of means ds) r k) means hs h i l in
      ((kept h at).0, omega (arith, same, x, y))

  -- what a term of the store is unfolded to
  pub unfolded_kept : (r : ℕ) (h : H) → holds h → unfolded (metas_of means' ds) r (means' h) ≡ unfolded (metas_of means ds) r (means h)
  unfolded_kept r h p = ap₂ (λ Σ t. unfolded Σ r t) (metas_kept holds means holds' means' kept ds a) (kept h p).1

-- ---- constants and metavariables

pub constant_unfolded : (Σ : Metas) (r : ℕ) (a b : List ℕ) (us vs : Terms) (t x : Term) → Con (Named a) us ≡ t → b ≡ a → vs ≡ unfolded_all Σ r us → x ≡ Con (Named b) vs → x ≡ unfolded Σ r t
constant_unfolded Σ r a b us vs t x e f k y =
    y
    ∙ ap₂ (λ c ws. Con (Named c) ws) f k
    ∙ sym (ap (λ o. expanded o (Named a) (unfolded_all Σ r us)) (constants_have_none Σ r a (count us)))
    ∙ ap (unfolded Σ r) e

pub handles_counted : {H : Type 0} (means : H → Term) (hs : List H) → length hs ≡ count (terms_of (map means hs))
handles_counted means hs = sym (count_of_terms (map means hs) ∙ length-map hs means)

pub meta_unfolded : {H : Type 0} (means : H → Term) (Σ : Metas) (r m : ℕ) (us : Terms) (vs : List H) (t x : Term) → Con (Numbered m) us ≡ t
    → terms_of (map means vs) ≡ unfolded_all Σ r us
    → x ≡ expanded (values Σ r (Numbered m) (length vs)) (Numbered m) (terms_of (map means vs))
    → x ≡ unfolded Σ r t
meta_unfolded means Σ r m us vs t x e k y =
    let n : length vs ≡ count us = handles_counted means vs ∙ ap count k ∙ expand_count (λ h k. values Σ r h k) us in
    y ∙ ap₂ (λ n ws. expanded (values Σ r (Numbered m) n) (Numbered m) ws) n k ∙ ap (unfolded Σ r) e

-- arguments put into the value, or behind the metavariable where it has none
pub with_value : (o : Option Term) (B : Term) (h : Head) (us vs : Terms) (x : Term) → Some B ≡ o → vs ≡ us → x ≡ subst_all vs B → x ≡ expanded o h us
with_value o B h us vs x e k y = y ∙ ap (λ ws. subst_all ws B) k ∙ ap (λ o. expanded o h us) e

pub without_value : (o : Option Term) (h : Head) (us vs : Terms) (x : Term) → None ≡ o → vs ≡ us → x ≡ Con h vs → x ≡ expanded o h us
without_value o h us vs x e k y = y ∙ ap (λ ws. Con h ws) k ∙ ap (λ o. expanded o h us) e
