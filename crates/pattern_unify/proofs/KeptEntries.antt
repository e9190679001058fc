-- Which entries of a context are kept, one after another.
use Rattle.std.proofs.Common.{◌≡◌, ℕ, suc, ◌+◌, ◌<◌, ◌≤◌, List, [], ◌∷◌, ◌++◌, reverse, Bool, false, ◌&&◌, length, drop, get_or, refl, sym, ap, ap₂, ◌∙◌, append_assoc, drop-cons, arith}
use Rattle.std.proofs.lemmas.List.{append-nil, reverse-append, drop_all}
use Rattle.ld_trees.specs.Term.{Term}
use Rattle.ld_terms.specs.declared.globals.Local.{Local}
use Rattle.meta_context.specs.Plain.{plain_locals}
use Rattle.unification.specs.Patterns.{holds_only}
use Rattle.unification.specs.Pruning.{is_kept, kept_entries}

no_marks : (Γ : List (Local Term)) (before : List Bool) → kept_entries [] Γ before ≡ []
no_marks [] before = refl
no_marks (l ∷ Γ) before = refl

no_entries : (marks before : List Bool) → kept_entries marks [] before ≡ []
no_entries [] before = refl
no_entries (b ∷ marks) before = refl

module _ {H : Type 0} (means : H → Term) (marks : List Bool) (ctx : List (Local H)) where
  -- the flags so far, and those of the entries that are left
  abbrev pub AreFlagged : List Bool → ℕ → Type 0
  AreFlagged flags k = kept_entries marks (plain_locals means ctx) [] ≡ flags ++ kept_entries (drop k marks) (plain_locals means (drop k ctx)) (reverse flags)

  pub flagged_begins : (flags : List Bool) → flags ≡ [] → AreFlagged flags 0
  flagged_begins flags e = sym (ap (λ bs. bs ++ kept_entries marks (plain_locals means ctx) (reverse bs)) e)

  module _ (flags : List Bool) (k : ℕ) (h : AreFlagged flags k) where
    pub flagged_more : (b f : Bool) (l : Local H) → k < length marks → k < length ctx → b ≡ get_or marks k false → l ≡ get_or ctx k l → f ≡ (b && holds_only (is_kept (reverse flags)) 0 (means l.ty)) →
        AreFlagged (flags ++ f ∷ []) (suc k)
    flagged_more b f l m n p q e =
        let rest = kept_entries (drop (suc k) marks) (plain_locals means (drop (suc k) ctx)) in
        h ∙ ap (λ xs. flags ++ xs)
        (ap₂ (λ bs ls. kept_entries bs (plain_locals means ls) (reverse flags)) (drop-cons marks k false m ∙ ap (λ x. x ∷ drop (suc k) marks) (sym p)) (drop-cons ctx k l n ∙ ap (λ x. x ∷ drop (suc k) ctx) (sym q))
        ∙ ap (λ x. x ∷ rest (x ∷ reverse flags)) (sym e))
        ∙ sym (append_assoc flags (f ∷ []) (rest (f ∷ reverse flags)))
        ∙ ap (λ bs. (flags ++ f ∷ []) ++ rest bs) (sym (reverse-append flags (f ∷ [])))

    pub flagged_next : (n : ℕ) (flags' : List Bool) (b f : Bool) (l : Local H) → n ≡ k + 1 → flags' ≡ flags ++ f ∷ [] → k < length marks → k < length ctx → b ≡ get_or marks k false → l ≡ get_or ctx k l → f ≡ (b && holds_only (is_kept (reverse flags)) 0 (means l.ty)) →
        AreFlagged flags' n
    flagged_next n flags' b f l z w m o p q e =
        let s : suc k ≡ n = omega (arith, z) in
        flagged_more b f l m o p q e ∙ ap (λ i. (flags ++ f ∷ []) ++ kept_entries (drop i marks) (plain_locals means (drop i ctx)) (reverse (flags ++ f ∷ []))) s
        ∙ ap (λ bs. bs ++ kept_entries (drop n marks) (plain_locals means (drop n ctx)) (reverse bs)) (sym w)

    pub flagged_all : length marks ≤ k → kept_entries marks (plain_locals means ctx) [] ≡ flags
    flagged_all l = h ∙ ap (λ xs. flags ++ xs) (ap (λ bs. kept_entries bs (plain_locals means (drop k ctx)) (reverse flags)) (drop_all k marks l) ∙ no_marks (plain_locals means (drop k ctx)) (reverse flags)) ∙ append-nil flags

    pub flagged_short : length ctx ≤ k → kept_entries marks (plain_locals means ctx) [] ≡ flags
    flagged_short l = h ∙ ap (λ xs. flags ++ xs) (ap (λ ls. kept_entries (drop k marks) (plain_locals means ls) (reverse flags)) (drop_all k ctx l) ∙ no_entries (drop k marks) (reverse flags)) ∙ append-nil flags
