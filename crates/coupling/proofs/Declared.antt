-- The parts of a stored metavariable.
use Rattle.std.proofs.Common.{◌≡◌, ℕ, List, Some, None, option_map, All, sym, ap, ◌∙◌, subst}
use Rattle.std.specs.Prelude.{slice_get}
use Rattle.std.proofs.lemmas.Option.{get_or_from_slice_get}
use Rattle.ld_trees.specs.Term.{Term, none}
use Rattle.ld_terms.specs.declared.globals.Decl.{Decl}
use Rattle.meta_trees.specs.Dependencies.{occurs_in, parts, parts_if, parts_of}
use Rattle.meta_trees.proofs.Dependencies.{parts_are}
use Rattle.meta_context.specs.Stored.{decl_of, metas_of}
use Rattle.meta_context.proofs.Numbers.{below_length}
use Rattle.meta_context.proofs.Stored.{decl_means}
use Rattle.coupling.specs.Marks.{AreKnown, Marks}
use Rattle.coupling.specs.declared.looks.Looks.{Looks}
use Rattle.coupling.proofs.Marking.{none_marked}

pub all_at : {X : Type 0} (P : X → Type 0) (xs : List X) (i : ℕ) (x : X) → All P xs → slice_get xs i ≡ Some x → P x
all_at P xs i x a s = subst P (get_or_from_slice_get xs i x x s) (a i x (below_length xs i x s))

module _ {H : Type 0} (means : H → Term) (ds : List (Decl H)) (m : ℕ) (ms : List ℕ) (seen : Looks H) where
  pub parts_marked : (ms' : List ℕ) (d : Decl H) → slice_get ds m ≡ Some d → Marks means (λ k. occurs_in k (parts (decl_of means d))) ms seen ms' → Marks means (λ k. occurs_in k (parts_of (metas_of means ds) m)) ms seen ms'
  parts_marked ms' d s a =
      let found = decl_means means m ds ∙ ap (option_map (decl_of means)) s in
      subst (λ X. Marks means (λ k. occurs_in k X) ms seen ms') (sym (parts_are (metas_of means ds) m (decl_of means d) found)) a

  pub no_parts_marked : slice_get ds m ≡ None → AreKnown means seen ms → Marks means (λ k. occurs_in k (parts_of (metas_of means ds) m)) ms seen ms
  no_parts_marked s known =
      let found : parts_of (metas_of means ds) m ≡ none = ap parts_if (decl_means means m ds ∙ ap (option_map (decl_of means)) s) in
      record {
        marked = none_marked _ ms (λ k e. let x = ap (occurs_in k) (sym found) ∙ e in absurd cc);
        known = known;
      }
