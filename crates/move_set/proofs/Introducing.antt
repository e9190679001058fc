-- The move `intro`, part by part.
use Rattle.std.proofs.Common.{◌≡◌, ℕ, Bool, true, false, not, List, sym, ap, ◌∙◌}
use Rattle.ld_trees.specs.Term.{Term}
use Rattle.ld_terms.specs.declared.globals.Local.{Local}
use Rattle.ld_terms.specs.declared.globals.Item.{Item}
use Rattle.ld_terms.specs.declared.globals.Decl.{Decl}
use Rattle.term_syntax.specs.Lex.{Text}
use Rattle.meta_context.specs.Plain.{rules_env}
use Rattle.unification.specs.Metavariables.{extended}
use Rattle.unification.specs.Refusals.{Plain}
use Rattle.unification.specs.Steps.{Gave, Refused, go_on, ◌>>=◌, demand, renamed}
use Rattle.pattern_unify.proofs.Follow.{next}
use Rattle.move_set.specs.Refusals.{NameTaken, NotProduct, Step, from_unification, unify_step}
use Rattle.move_set.specs.Applying.{product_of}
use Rattle.move_set.specs.Moves.{Moved, has_entry, abstracted, intro}

module _ (Δ : List (Item Term)) (Σ : Plain) (g : ℕ) (d : Decl Term) (x : Text) (n : ℕ) where
  abbrev pub with_context : Term → Term → List (Local Term) → Step Moved
  with_context A B Γ = abstracted Δ Σ g d A B Γ

  abbrev pub with_parts : Term × Term → Step Moved
  with_parts p = unify_step (extended (rules_env Δ) Σ d.ctx x p.0) >>= with_context p.0 p.1

  abbrev named : Unit {0} → Step Moved
  named _ = product_of (rules_env Δ) NotProduct Σ d.ty >>= with_parts

  pub taken : (b : Bool) → b ≡ has_entry d.ctx x → b ≡ true → intro Δ Σ g d x n ≡ Refused (NameTaken x) n
  taken b e t = ap (λ b. go_on (demand (not b) (NameTaken x) n) named) (sym e ∙ t)

  pub free : (b : Bool) → b ≡ has_entry d.ctx x → b ≡ false → intro Δ Σ g d x n ≡ go_on (product_of (rules_env Δ) NotProduct Σ d.ty n) with_parts
  free b e t = ap (λ b. go_on (demand (not b) (NameTaken x) n) named) (sym e ∙ t)

  pub parted : intro Δ Σ g d x n ≡ go_on (product_of (rules_env Δ) NotProduct Σ d.ty n) with_parts → (A B : Term) (k : ℕ) → product_of (rules_env Δ) NotProduct Σ d.ty n ≡ Gave (A, B) k
      → intro Δ Σ g d x n ≡ go_on (renamed from_unification (extended (rules_env Δ) Σ d.ctx x A k)) (with_context A B)
  parted whole A B k p = next (intro Δ Σ g d x n) (product_of (rules_env Δ) NotProduct Σ d.ty n) (A, B) k with_parts whole p
