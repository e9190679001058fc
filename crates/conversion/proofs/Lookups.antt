-- What an environment of stored items and metavariables has under a name, and that it stays the same while the store grows.
use Rattle.std.proofs.Common.{◌≡◌, ℕ, zero, suc, ◌+◌, ◌<◌, List, [], ◌∷◌, map, All, Bool, true, false, nat_eq, cond, Option, Some, None, option_map, slice_get, refl, sym, ap, ap₂, ◌∙◌, subst, arith}
use Rattle.std.specs.Str.{bytes_eq}
use Rattle.std.proofs.lemmas.Slice.Eq.{bytes_eq-Decides}
use Rattle.std.proofs.lemmas.Option.{same_Some}
use Rattle.ld_trees.specs.Term.{Head, Named, Numbered, Term, same_head}
use Rattle.ld_trees.proofs.Equality.{same_head_is, same_head_itself}
use Rattle.ld_rules.specs.Environment.{Ctx, Env, Item, item_of, found_at}
use Rattle.ld_terms.specs.Items.{item_named}
use Rattle.ld_terms.specs.Views.{Keeps, terms_of}
use Rattle.ld_terms.specs.declared.globals.Local.{Local}
use Rattle.ld_terms.specs.declared.globals.Item.{Item as StoredItem}
use Rattle.ld_terms.specs.declared.globals.Decl.{Decl}
use Rattle.conversion.specs.Globals.{context_of, item_tree, decl_tree, with_metas, env_of, AreLocals, IsOptional, IsItemOf, IsDeclOf, AreGlobalsOf}

same_bit : (x y : Bool) → (x ≡ true → y ≡ true) → (y ≡ true → x ≡ true) → x ≡ y
same_bit true true f g = refl
same_bit false false f g = refl
same_bit true false f g = sym (f refl)
same_bit false true f g = g refl

same_bytes : (a b : List ℕ) → same_head (Named a) (Named b) ≡ bytes_eq b a
same_bytes a b =
    same_bit (same_head (Named a) (Named b)) (bytes_eq b a)
    (λ e. (bytes_eq-Decides b a).1 (sym (same_name_of a b (same_head_is (Named a) (Named b) e))))
    (λ e. ap (λ x. same_head (Named a) (Named x)) ((bytes_eq-Decides b a).0 e) ∙ same_head_itself (Named a))
  where
    same_name_of : (a b : List ℕ) → Named a ≡ Named b → a ≡ b
    same_name_of a b e = cc

module _ {H : Type 0} (means : H → Term) where
  named_in_items : (is : List (StoredItem H)) (c : List ℕ) → item_of (Named c) (map (item_tree means) is) ≡ option_map (item_tree means) (item_named is c)
  named_in_items [] c = refl
  named_in_items (i ∷ is) c = ap (λ b. found_at b (item_tree means i) (item_of (Named c) (map (item_tree means) is))) (same_bytes c i.name) ∙ by_case (named_in_items is c) (bytes_eq i.name c)
    where
      by_case : item_of (Named c) (map (item_tree means) is) ≡ option_map (item_tree means) (item_named is c) → (b : Bool) →
          found_at b (item_tree means i) (item_of (Named c) (map (item_tree means) is)) ≡ option_map (item_tree means) (cond b (Some i) (item_named is c))
      by_case h true = refl
      by_case h false = h

  named_in_all : (m : ℕ) (ds : List (Decl H)) (c : List ℕ) (Δ : Env) → item_of (Named c) (with_metas means m ds Δ) ≡ item_of (Named c) Δ
  named_in_all m [] c Δ = refl
  named_in_all m (d ∷ ds) c Δ = named_in_all (suc m) ds c (decl_tree means m d ∷ Δ)

  pub constant_found : (is : List (StoredItem H)) (ds : List (Decl H)) (c : List ℕ) → item_of (Named c) (env_of means is ds) ≡ option_map (item_tree means) (item_named is c)
  constant_found is ds c = named_in_all 0 ds c (map (item_tree means) is) ∙ named_in_items is c

  numbered_in_items : (is : List (StoredItem H)) (n : ℕ) → item_of (Numbered n) (map (item_tree means) is) ≡ None
  numbered_in_items [] n = refl
  numbered_in_items (i ∷ is) n = numbered_in_items is n

  -- a metavariable below those that are added
  numbered_below : (m : ℕ) (ds : List (Decl H)) (n : ℕ) (Δ : Env) → n < m → item_of (Numbered n) (with_metas means m ds Δ) ≡ item_of (Numbered n) Δ
  numbered_below m [] n Δ l = refl
  numbered_below m (d ∷ ds) n Δ l = numbered_below (suc m) ds n (decl_tree means m d ∷ Δ) (omega arith) ∙ ap (λ b. found_at b (decl_tree means m d) (item_of (Numbered n) Δ)) (different n m l)
    where
      different : (n m : ℕ) → n < m → nat_eq n m ≡ false
      different n m l = grind arith

  numbered_in_all : (m : ℕ) (ds : List (Decl H)) (n k : ℕ) (Δ : Env) → n ≡ m + k → item_of (Numbered n) Δ ≡ None →
      item_of (Numbered n) (with_metas means m ds Δ) ≡ option_map (decl_tree means n) (slice_get ds k)
  numbered_in_all m [] n k Δ e h = h
  numbered_in_all m (d ∷ ds) n zero Δ e h =
      let q : n ≡ m = omega arith in
      numbered_below (suc m) ds n (decl_tree means m d ∷ Δ) (omega arith)
      ∙ ap (λ x. item_of (Numbered x) (decl_tree means m d ∷ Δ)) q
      ∙ ap (λ b. found_at b (decl_tree means m d) (item_of (Numbered m) Δ)) (same_head_itself (Numbered m))
      ∙ ap (λ x. Some (decl_tree means x d)) (sym q)
  numbered_in_all m (d ∷ ds) n (suc k) Δ e h =
      numbered_in_all (suc m) ds n k (decl_tree means m d ∷ Δ) (omega arith) (ap (λ b. found_at b (decl_tree means m d) (item_of (Numbered n) Δ)) (different n m (omega arith)) ∙ h)
    where
      different : (n m : ℕ) → m < n → nat_eq n m ≡ false
      different n m l = grind arith

  pub meta_found : (is : List (StoredItem H)) (ds : List (Decl H)) (m : ℕ) → item_of (Numbered m) (env_of means is ds) ≡ option_map (decl_tree means m) (slice_get ds m)
  meta_found is ds m = numbered_in_all 0 ds m m (map (item_tree means) is) (omega arith) (numbered_in_items is m)

-- ---- what stays while the store grows

item_at : Head → Ctx → Term → Option Term → Item
item_at h ps T b = record { name = h; params = ps; ty = T; body = b }

same_items : (h : Head) (ps qs : Ctx) (T U : Term) (b c : Option Term) → ps ≡ qs → T ≡ U → b ≡ c → item_at h ps T b ≡ item_at h qs U c
same_items h ps qs T U b c p q r = ap (λ x. item_at h x T b) p ∙ ap (λ x. item_at h qs x b) q ∙ ap (λ x. item_at h qs U x) r

tail_all : {X : Type 0} (P : X → Type 0) (x : X) (xs : List X) → All P (x ∷ xs) → All P xs
tail_all P x xs a i d l = a (suc i) d (omega arith)

module _ {H : Type 0} (holds : H → Type 0) (means : H → Term) (holds' : H → Type 0) (means' : H → Term) (kept : Keeps holds means holds' means') where
  types_kept : (ls : List (Local H)) → AreLocals holds ls → map (λ l. means' l.ty) ls ≡ map (λ l. means l.ty) ls
  types_kept [] a = refl
  types_kept (l ∷ ls) a = ap₂ ◌∷◌ (kept l.ty (a 0 l (omega arith))).1 (types_kept ls (tail_all (λ x. holds x.ty) l ls a))

  optional_kept : (o : Option H) → IsOptional holds o → option_map means' o ≡ option_map means o
  optional_kept None h = refl
  optional_kept (Some x) h = ap Some (kept x h).1

  optional_held : (o : Option H) → IsOptional holds o → IsOptional holds' o
  optional_held None h = tt
  optional_held (Some x) h = (kept x h).0

  item_kept : (i : StoredItem H) → IsItemOf holds i → item_tree means' i ≡ item_tree means i
  unfolding item_at
  item_kept i h = same_items (Named i.name) (context_of means' i.params) (context_of means i.params) (means' i.ty) (means i.ty) (option_map means' i.body) (option_map means i.body) (ap terms_of (types_kept i.params h.params)) (kept i.ty h.ty).1 (optional_kept i.body h.body)

  decl_kept : (m : ℕ) (d : Decl H) → IsDeclOf holds d → decl_tree means' m d ≡ decl_tree means m d
  unfolding item_at
  decl_kept m d h = same_items (Numbered m) (context_of means' d.ctx) (context_of means d.ctx) (means' d.ty) (means d.ty) (option_map means' d.value) (option_map means d.value) (ap terms_of (types_kept d.ctx h.ctx)) (kept d.ty h.ty).1 (optional_kept d.value h.value)

  items_kept : (is : List (StoredItem H)) → All (IsItemOf holds) is → map (item_tree means') is ≡ map (item_tree means) is
  items_kept [] a = refl
  items_kept (i ∷ is) a = ap₂ ◌∷◌ (item_kept i (a 0 i (omega arith))) (items_kept is (tail_all (IsItemOf holds) i is a))

  metas_kept : (m : ℕ) (ds : List (Decl H)) (Δ : Env) → All (IsDeclOf holds) ds → with_metas means' m ds Δ ≡ with_metas means m ds Δ
  metas_kept m [] Δ a = refl
  metas_kept m (d ∷ ds) Δ a =
      metas_kept (suc m) ds (decl_tree means' m d ∷ Δ) (tail_all (IsDeclOf holds) d ds a)
      ∙ ap (λ x. with_metas means (suc m) ds (x ∷ Δ)) (decl_kept m d (a 0 d (omega arith)))

  pub env_kept : (is : List (StoredItem H)) (ds : List (Decl H)) → AreGlobalsOf holds is ds → env_of means' is ds ≡ env_of means is ds
  env_kept is ds h = metas_kept 0 ds (map (item_tree means') is) h.metas_held ∙ ap (with_metas means 0 ds) (items_kept is h.items_held)

  item_held : (i : StoredItem H) → IsItemOf holds i → IsItemOf holds' i
  item_held i h = record { params = λ k d l. (kept _ (h.params k d l)).0; ty = (kept i.ty h.ty).0; body = optional_held i.body h.body }

  decl_held : (d : Decl H) → IsDeclOf holds d → IsDeclOf holds' d
  decl_held d h = record { ctx = λ k e l. (kept _ (h.ctx k e l)).0; ty = (kept d.ty h.ty).0; value = optional_held d.value h.value }

  pub globals_kept : (is : List (StoredItem H)) (ds : List (Decl H)) → AreGlobalsOf holds is ds → AreGlobalsOf holds' is ds
  globals_kept is ds h = record { items_held = λ k d l. item_held _ (h.items_held k d l); metas_held = λ k d l. decl_held _ (h.metas_held k d l) }

-- an item that is found is one of the list
module _ {H : Type 0} (holds : H → Type 0) where
  pub item_found_held : (is : List (StoredItem H)) (c : List ℕ) (i : StoredItem H) → All (IsItemOf holds) is → item_named is c ≡ Some i → IsItemOf holds i
  item_found_held [] c i a e = absurd cc
  item_found_held (x ∷ is) c i a e = by_case (item_found_held is c i (tail_all (IsItemOf holds) x is a)) (bytes_eq x.name c) e
    where
      by_case : (item_named is c ≡ Some i → IsItemOf holds i) → (b : Bool) → cond b (Some x) (item_named is c) ≡ Some i → IsItemOf holds i
      by_case h true s = subst (IsItemOf holds) (same_Some _ _ s) (a 0 x (omega arith))
      by_case h false s = h s

  pub decl_found_held : (ds : List (Decl H)) (m : ℕ) (d : Decl H) → All (IsDeclOf holds) ds → slice_get ds m ≡ Some d → IsDeclOf holds d
  decl_found_held [] m d a e = absurd cc
  decl_found_held (x ∷ ds) zero d a e = subst (IsDeclOf holds) (same_Some _ _ e) (a 0 x (omega arith))
  decl_found_held (x ∷ ds) (suc m) d a e = decl_found_held ds m d (tail_all (IsDeclOf holds) x ds a) e
