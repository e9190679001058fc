-- The pieces of a stored state.
use Rattle.std.proofs.Common.{◌≡◌, ◌↔◌, ℕ, List, [], ◌∷◌, All, Bool, true, false, IsTrue, Option, Some, None, slice_get, if◌then◌else◌, sym, ap, ◌∙◌, subst, arith}
use Rattle.std.proofs.lemmas.Option.{same_Some}
use Rattle.ld_trees.specs.Term.{Term}
use Rattle.ld_terms.specs.Views.{Keeps}
use Rattle.ld_terms.specs.declared.globals.Decl.{Decl}
use Rattle.conversion.specs.Globals.{IsDeclOf}
use Rattle.goal_state.specs.State.{State, IsSolved, root_type, root_value}
use Rattle.goal_state.specs.StoredState.{StoredState, plain_state, IsKeptState}
use Rattle.reply_text.specs.Shown.{term_json}
use Rattle.state_print.specs.Pieces.{is_solved, proof_json, theorem_json}
use Rattle.goal_state.proofs.Means.{decls_held}
use Rattle.state_print.proofs.Shown.{solved_as, no_root}

module _ {T H : Type 0} (holds : T → H → Type 0) (means : T → H → Term) (s : StoredState T H) (ok : IsKeptState holds means s) where
  -- in a fork of the state's store
  module _ (t : T) (kept : Keeps (holds s.terms) (means s.terms) (holds t) (means t)) where
    pub metas_there : (metas : List (Decl H)) → metas ≡ s.metas → All (IsDeclOf (holds t)) metas
    metas_there metas e = subst (All (IsDeclOf (holds t))) (sym e) (decls_held (holds s.terms) (means s.terms) (holds t) (means t) kept s.metas ok.held.metas_held)

  -- the root is declared, and its type is that of the state
  pub root_held : (metas : List (Decl H)) (terms : T) (d : Decl H) → metas ≡ s.metas → terms ≡ s.terms → Some d ≡ slice_get metas 0 → holds terms d.ty
  root_held metas terms d p q e = rw q (at s.metas ok.held.metas_held (sym (e ∙ ap (λ ds. slice_get ds 0) p))) where
    at : (ds : List (Decl H)) → All (IsDeclOf (holds s.terms)) ds → slice_get ds 0 ≡ Some d → holds s.terms d.ty
    at [] a e = absurd cc
    at (x ∷ ds) a e = let same : x ≡ d = same_Some _ _ e in subst (λ (d : Decl H). holds s.terms d.ty) same (a 0 x (omega arith)).ty

  pub theorem_there : (metas : List (Decl H)) (terms : T) (d : Decl H) (text : List ℕ) → metas ≡ s.metas → terms ≡ s.terms → Some d ≡ slice_get metas 0 → text ≡ term_json [] (means terms d.ty) → text ≡ theorem_json (plain_state means s)
  unfolding theorem_json
  theorem_there metas terms d text p q e f = f ∙ ap (λ (x : T). term_json [] (means x d.ty)) q ∙ ap (term_json []) (at s.items s.metas s.goals (sym (e ∙ ap (λ ds. slice_get ds 0) p))) where
    at : (is : List _) (ds : List (Decl H)) (gs : List ℕ) → slice_get ds 0 ≡ Some d → means s.terms d.ty ≡ root_type (plain_state means (record { terms = s.terms; items = is; metas = ds; goals = gs }))
    at is [] gs e = absurd cc
    at is (x ∷ ds) gs e = let same : x ≡ d = same_Some _ _ e in sym (ap (λ (d : Decl H). means s.terms d.ty) same)

  pub root_there : (metas : List (Decl H)) → metas ≡ s.metas → None ≡ slice_get metas 0 → ⊥
  root_there metas p e = no_root (means s.terms) s.metas ok.legal.root (sym (e ∙ ap (λ ds. slice_get ds 0) p))

-- ---- the proof

shown_if : (s : State) (b : Bool) → is_solved s ≡ b → proof_json s ≡ (if b then Some (term_json [] (root_value s)) else None)
unfolding proof_json
shown_if s b e = ap (λ (b : Bool). let o : Option (List ℕ) = if b then Some (term_json [] (root_value s)) else None in o) e

pub unsolved : (b : Bool) (s : State) → (IsTrue b ↔ IsSolved s) → b ≡ false → None ≡ proof_json s
unsolved b s h e = sym (shown_if s false (sym (solved_as b s h) ∙ e))

pub solved : (b : Bool) (s : State) (t : Term) (text : List ℕ) → (IsTrue b ↔ IsSolved s) → b ≡ true → t ≡ root_value s → text ≡ term_json [] t → Some text ≡ proof_json s
solved b s t text h e p q = ap (λ (x : List ℕ). Some x) (q ∙ ap (term_json []) p) ∙ sym (shown_if s true (sym (solved_as b s h) ∙ e))
