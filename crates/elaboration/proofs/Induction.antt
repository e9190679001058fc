-- Induction over texts: what holds of each node of parts with a property holds of the elaboration of each text.
use Rattle.std.proofs.Common.{ℕ, List, [], ◌∷◌, map, sym, subst}
use Rattle.ld_trees.specs.Term.{Term}
use Rattle.ld_terms.specs.declared.globals.Item.{Item}
use Rattle.term_syntax.specs.declared.surface.Surface.{Surface, ind-Surface, fold_out-Surface}
use Rattle.term_syntax.specs.declared.surface.Shape.{Shape, fold-Shape, fold-roll-Shape, roll-Shape}
use Rattle.term_syntax.specs.declared.surface.Shape.TheFolds.{map-Shape, map-Surface}
use Rattle.term_syntax.specs.declared.surface.Shape.TheViews.{roll-Surface}
use Rattle.term_syntax.specs.declared.surface.Shape.TheOpen.{Shape-F, Surface-F}
use Rattle.elaboration.specs.Elaboration.{Elaborates, node, elaborate}

-- the property holds of each
abbrev pub Each : (Elaborates → Type 0) → List Elaborates → Type 0
Each P [] = Unit {0}
Each P (u ∷ us) = P u × Each P us

-- the property holds of each part of a node
abbrev pub EachPart : (Elaborates → Type 0) → Shape-F (ℕ → Elaborates) Elaborates → Type 0
EachPart P Shape-F.Star = Unit {0}
EachPart P Shape-F.Wild = Unit {0}
EachPart P Shape-F.Asked = Unit {0}
EachPart P (Shape-F.Named x) = Unit {0}
EachPart P (Shape-F.Const a us) = Each P us
EachPart P (Shape-F.App f us) = P f × Each P us
EachPart P (Shape-F.Lam x A M) = P A × P M
EachPart P (Shape-F.Pi x A B) = P A × P B

module _ (items : List (Item Term)) (P : Elaborates → Type 0) (at_node : (l : Shape-F (ℕ → Elaborates) Elaborates) (at : ℕ) → EachPart P l → P (node items l at)) where
  abbrev elaborate_shape : Shape → ℕ → Elaborates
  elaborate_shape s = fold-Shape (ℕ → Elaborates) Elaborates (node items) (λ t. t.shape t.at) s

  abbrev OfShape : Shape → Type 0
  OfShape s = (at : ℕ) → P (elaborate_shape s at)

  abbrev OfSurface : Surface → Type 0
  OfSurface t = P (elaborate items t)

  abbrev GoodShape : Type 0
  GoodShape = (s : Shape) × OfShape s

  abbrev GoodSurface : Type 0
  GoodSurface = (t : Surface) × OfSurface t

  each_of : (ms : List GoodSurface) → Each P (map (elaborate items) (map (λ p. p.0) ms))
  each_of [] = tt
  each_of (m ∷ ms) = (m.1, each_of ms)

  -- a node over its children
  abbrev over : Shape-F GoodShape GoodSurface → Shape-F (ℕ → Elaborates) Elaborates
  over y = map-Shape Shape Surface (ℕ → Elaborates) Elaborates elaborate_shape (elaborate items) (map-Shape GoodShape GoodSurface Shape Surface (λ p. p.0) (λ p. p.0) y)

  parts_of : (y : Shape-F GoodShape GoodSurface) → EachPart P (over y)
  parts_of Shape-F.Star = tt
  parts_of Shape-F.Wild = tt
  parts_of Shape-F.Asked = tt
  parts_of (Shape-F.Named x) = tt
  parts_of (Shape-F.Const a us) = each_of us
  parts_of (Shape-F.App f us) = (f.1, each_of us)
  parts_of (Shape-F.Lam x A M) = (A.1, M.1)
  parts_of (Shape-F.Pi x A B) = (A.1, B.1)

  shape_has : (y : Shape-F GoodShape GoodSurface) → OfShape (roll-Shape (map-Shape GoodShape GoodSurface Shape Surface (λ p. p.0) (λ p. p.0) y))
  unfolding elaborate
  shape_has y at =
      subst (λ f. P (f at)) (sym (fold-roll-Shape (ℕ → Elaborates) Elaborates (node items) (λ t. t.shape t.at) (map-Shape GoodShape GoodSurface Shape Surface (λ p. p.0) (λ p. p.0) y)))
      (at_node (over y) at (parts_of y))

  rolled : Surface-F GoodShape GoodSurface → Surface
  rolled y = roll-Surface (map-Surface GoodShape GoodSurface Shape Surface (λ p. p.0) (λ p. p.0) y)

  pub elaborate_has : (t : Surface) → P (elaborate items t)
  unfolding elaborate rolled
  elaborate_has = ind-Surface OfShape OfSurface
      (λ x y e. subst (λ l. OfShape (roll-Shape l)) e (shape_has y))
      (λ x y e. subst (λ l. OfSurface (roll-Surface l)) e (subst P (sym (fold_out-Surface (ℕ → Elaborates) Elaborates (node items) (λ t. t.shape t.at) (rolled y))) (y.shape.1 y.at)))
