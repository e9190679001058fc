-- A constant with its arguments, in which another one or the same is replaced.
use Rattle.std.proofs.Common.{◌≡◌, true, false, Some, None, sym, ap, ◌∙◌, if◌then◌else◌}
use Rattle.std.specs.Str.{bytes_eq}
use Rattle.ld_trees.specs.Term.{Named, Term, Con, Const, Terms}
use Rattle.ld_trees.specs.Substitution.{subst_all}
use Rattle.ld_rules.specs.Expansion.{expanded}
use Rattle.term_syntax.specs.Lex.{Text}
use Rattle.move_set.specs.Replacing.{replaced, replaced_in}

module _ (a b : Text) (M : Term) (us vs : Terms) (x : Term) (made : vs ≡ replaced_in a M us) where
  pub replaced_same : bytes_eq b a ≡ true → x ≡ subst_all vs M → x ≡ replaced a M (Const b us)
  replaced_same q e = e ∙ ap (λ vs. subst_all vs M) made ∙ sym (ap (λ c. expanded (if c then Some M else None) (Named b) (replaced_in a M us)) q)

  pub replaced_other : bytes_eq b a ≡ false → x ≡ Const b vs → x ≡ replaced a M (Const b us)
  replaced_other q e = e ∙ ap (λ vs. Con (Named b) vs) made ∙ sym (ap (λ c. expanded (if c then Some M else None) (Named b) (replaced_in a M us)) q)
