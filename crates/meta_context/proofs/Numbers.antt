-- One more declaration, and another one in the place of a declaration.
use Rattle.std.proofs.Common.{◌≡◌, ℕ, zero, suc, ◌+◌, ◌<◌, ◌≤◌, List, [], ◌∷◌, ◌++◌, length, take, drop, Some, None, refl, ap, sym, ◌∙◌, arith, subst}
use Rattle.std.specs.FinMap.{put}
use Rattle.std.specs.Ordering.{nat_cmp}
use Rattle.std.specs.Prelude.{slice_get}
use Rattle.ld_terms.specs.declared.globals.Local.{Local}
use Rattle.ld_terms.specs.declared.globals.Decl.{Decl}
use Rattle.shared_map.specs.Table.{table}
use Rattle.shared_map.proofs.Tables.{put_row}
use Rattle.term_syntax.specs.ReadsBack.{IsContext}
use Rattle.meta_context.specs.Entered.{names_of, AreDeclared}
use Rattle.meta_context.specs.Tables.{rows, AreNumbered}
use Rattle.meta_context.specs.Declaring.{assigned, with_value}
use Rattle.meta_context.proofs.Indexes.{rows-numbered, rows_push, table_again}

pub length-rows : {X : Type 0} (es : List (ℕ × X)) → length es ≡ length (rows es)
length-rows [] = refl
length-rows (e ∷ es) = ap suc (length-rows es)

length-pushed : {X : Type 0} (xs : List X) (x : X) → length (xs ++ x ∷ []) ≡ length xs + 1
length-pushed [] x = refl
length-pushed (y ∷ xs) x = let h = length-pushed xs x in omega arith

pub declared_push : {H : Type 0} (ds : List (Decl H)) (d : Decl H) → AreDeclared ds → IsContext (names_of d.ctx) → AreDeclared (ds ++ d ∷ [])
declared_push [] d a ok = (ok, tt)
declared_push (e ∷ ds) d a ok = (a.0, declared_push ds d a.1 ok)

declared_put : {H : Type 0} (ds : List (Decl H)) (m : ℕ) (d : Decl H) → AreDeclared ds → IsContext (names_of d.ctx) → m < length ds → AreDeclared (take m ds ++ d ∷ drop (m + 1) ds)
declared_put [] m d a ok l = absurd (omega arith)
declared_put (e ∷ ds) zero d a ok l = (ok, a.1)
declared_put (e ∷ ds) (suc m) d a ok l =
    let n : suc (m + 1) ≡ suc m + 1 = omega arith in
    (a.0, subst (λ k. AreDeclared (take m ds ++ d ∷ drop k (e ∷ ds))) n (declared_put ds m d a.1 ok (omega arith)))

length-put : {X : Type 0} (xs : List X) (m : ℕ) (x : X) → m < length xs → length (take m xs ++ x ∷ drop (m + 1) xs) ≡ length xs
length-put [] m x l = absurd (omega arith)
length-put (y ∷ xs) zero x l = refl
length-put (y ∷ xs) (suc m) x l =
    let n : suc (m + 1) ≡ suc m + 1 = omega arith in
    ap suc (ap (λ k. length (take m xs ++ x ∷ drop k (y ∷ xs))) (sym n) ∙ length-put xs m x (omega arith))

pub declared_at : {H : Type 0} (ds : List (Decl H)) (m : ℕ) (d : Decl H) → AreDeclared ds → slice_get ds m ≡ Some d → IsContext (names_of d.ctx)
declared_at [] m d a e = absurd cc
declared_at (x ∷ ds) zero d a e = let same : x ≡ d = cc in subst (λ (y : Decl _). IsContext (names_of y.ctx)) same a.0
declared_at (x ∷ ds) (suc m) d a e = declared_at ds m d a.1 e

pub below_length : {X : Type 0} (xs : List X) (m : ℕ) (x : X) → slice_get xs m ≡ Some x → m < length xs
below_length [] m x e = absurd cc
below_length (y ∷ xs) zero x e = omega arith
below_length (y ∷ xs) (suc m) x e = let h = below_length xs m x e in omega arith

pub not_missing : {X : Type 0} (xs : List X) (m : ℕ) → m < length xs → slice_get xs m ≡ None → ⊥
not_missing [] m l e = absurd (omega arith)
not_missing (x ∷ xs) zero l e = absurd cc
not_missing (x ∷ xs) (suc m) l e = not_missing xs m (omega arith) e

pub assigned_is : {H : Type 0} (ds : List (Decl H)) (m : ℕ) (v : H) (d : Decl H) → slice_get ds m ≡ Some d → take m ds ++ with_value v d ∷ drop (m + 1) ds ≡ assigned m v ds
assigned_is [] m v d e = absurd cc
assigned_is (x ∷ ds) zero v d e = let same : x ≡ d = cc in ap (λ y. with_value v y ∷ ds) (sym same)
assigned_is (x ∷ ds) (suc m) v d e =
    let n : suc (m + 1) ≡ suc m + 1 = omega arith in
    ap (λ k. x ∷ (take m ds ++ with_value v d ∷ drop k (x ∷ ds))) (sym n) ∙ ap (λ ys. x ∷ ys) (assigned_is ds m v d e)

-- ---- the map, where the row that was put to it equals the declaration

module _ {H : Type 0} (es : List (ℕ × Decl H)) (ds : List (Decl H)) (a : AreNumbered es) (view : rows es ≡ ds) where
  pub rows_pushed : (es' : List (ℕ × Decl H)) (n : ℕ) (d d' : Decl H) → n ≡ length ds → d' ≡ d → es' ≡ put nat_cmp n d' es → rows es' ≡ ds ++ d ∷ []
  rows_pushed es' n d d' c same e =
      let k : n ≡ length es = c ∙ ap length (sym view) ∙ sym (length-rows es) in
      ap rows e ∙ rows_push es n d' a.numbered k ∙ ap (λ x. rows es ++ x ∷ []) same ∙ ap (λ xs. xs ++ d ∷ []) view

  pub numbered_push : (es' : List (ℕ × Decl H)) (n : ℕ) (d d' : Decl H) → n ≡ length ds → d' ≡ d → es' ≡ put nat_cmp n d' es → length ds < 65536 → IsContext (names_of d.ctx) → AreNumbered es'
  numbered_push es' n d d' c same e room ok =
      let k : n ≡ length es = c ∙ ap length (sym view) ∙ sym (length-rows es) in
      let pushed = rows_pushed es' n d d' c same e in
      let long : length (rows es') ≡ length ds + 1 = ap length pushed ∙ length-pushed ds d in
      record {
        numbered = e ∙ table_again es n d' a.numbered k ∙ ap (λ xs. table (rows xs)) (sym e);
        declared = subst AreDeclared (sym pushed) (declared_push ds d (subst AreDeclared view a.declared) ok);
        few = omega arith;
      }

  table_put : (es' : List (ℕ × Decl H)) (m : ℕ) (d d' : Decl H) → m < length ds → d' ≡ d → es' ≡ put nat_cmp m d' es → es' ≡ table (take m ds ++ d ∷ drop (m + 1) ds)
  table_put es' m d d' l same e =
      e ∙ ap (λ x. put nat_cmp m x es) same ∙ ap (put nat_cmp m d) (a.numbered ∙ ap table view) ∙ put_row 0 m m d ds (omega arith) l

  rows_put : (es' : List (ℕ × Decl H)) (m : ℕ) (d d' : Decl H) → m < length ds → d' ≡ d → es' ≡ put nat_cmp m d' es → rows es' ≡ take m ds ++ d ∷ drop (m + 1) ds
  rows_put es' m d d' l same e = ap rows (table_put es' m d d' l same e) ∙ rows-numbered 0 (take m ds ++ d ∷ drop (m + 1) ds)

  numbered_put : (es' : List (ℕ × Decl H)) (m : ℕ) (d d' : Decl H) → m < length ds → d' ≡ d → es' ≡ put nat_cmp m d' es → IsContext (names_of d.ctx) → AreNumbered es'
  numbered_put es' m d d' l same e ok =
      let rows' = rows_put es' m d d' l same e in
      let long : length (rows es') ≡ length ds = ap length rows' ∙ length-put ds m d l in
      let old : length (rows es) ≡ length ds = ap length view in
      let few : length (rows es) ≤ 65536 = a.few in
      record {
        numbered = table_put es' m d d' l same e ∙ ap table (sym rows');
        declared = subst AreDeclared (sym rows') (declared_put ds m d (subst AreDeclared view a.declared) ok l);
        few = omega arith;
      }

  -- metavariable m has a value
  module _ (es' : List (ℕ × Decl H)) (m : ℕ) (v : H) (Γ : List (Local H)) (d d' : Decl H) (s : slice_get ds m ≡ Some d) (same_ctx : Γ ≡ d.ctx) (same : d' ≡ record { ctx = Γ; ty = d.ty; value = Some v }) (e : es' ≡ put nat_cmp m d' es) where
    is_with_value : d' ≡ with_value v d
    is_with_value = same ∙ ap (λ (Δ : List (Local H)). let x : Decl H = record { ctx = Δ; ty = d.ty; value = Some v } in x) same_ctx

    pub rows_assigned : rows es' ≡ assigned m v ds
    rows_assigned = rows_put es' m (with_value v d) d' (below_length ds m d s) is_with_value e ∙ assigned_is ds m v d s

    pub numbered_assigned : AreNumbered es'
    numbered_assigned = numbered_put es' m (with_value v d) d' (below_length ds m d s) is_with_value e (declared_at ds m d (subst AreDeclared view a.declared) s)
