-- The holes of a text are numbered in text order.
use Rattle.std.proofs.Common.{◌≡◌, ℕ, suc, List, [], ◌∷◌, ◌++◌, length, map, ◌==◌, Option, Some, None, refl, sym, subst, arith}
use Rattle.std.proofs.lemmas.Bool.{eqb-true}
use Rattle.ld_trees.specs.Term.{Term, Srt, Var, App, Lam, Pi, Con, Star, Square, Const, Terms, none, ◌▹◌}
use Rattle.ld_trees.specs.Substitution.{subst_all}
use Rattle.ld_rules.specs.Environment.{type_at}
use Rattle.ld_terms.specs.Items.{item_named}
use Rattle.ld_terms.specs.declared.globals.Local.{Local}
use Rattle.ld_terms.specs.declared.globals.Item.{Item}
use Rattle.term_syntax.specs.Lex.{Text}
use Rattle.term_syntax.specs.Scoping.{index_of, label_text}
use Rattle.term_syntax.specs.declared.surface.Label.{Label}
use Rattle.term_syntax.specs.declared.surface.Surface.{Surface, ind-Surface, fold_out-Surface}
use Rattle.term_syntax.specs.declared.surface.Shape.{Shape, fold-Shape, fold-roll-Shape, roll-Shape}
use Rattle.term_syntax.specs.declared.surface.Shape.TheFolds.{map-Shape, map-Surface}
use Rattle.term_syntax.specs.declared.surface.Shape.TheViews.{roll-Surface}
use Rattle.term_syntax.specs.declared.surface.Shape.TheOpen.{Shape-F, Surface-F}
use Rattle.meta_context.specs.Plain.{rules_ctx, rules_env}
use Rattle.unification.specs.Steps.{Gave, spend_each}
use Rattle.unification.specs.Refusals.{Plain}
use Rattle.unification.proofs.Gives.{Gives, given, gives_pure, gives_refuse, gives_less, gives_bind, gives_then, gives_any, gives_demand, gives_spend}
use Rattle.elaboration.specs.Refusals.{Refusal, UnknownName, WrongCount, NotFunction, NotType, from_unification}
use Rattle.elaboration.specs.Elaboration.{Work, Made, made, Want, Any, Of, AsType, Surroundings, depth_of, Elaborates, with_metas, with_goal, with_hole, parts_or, product_or, reduced, entered, unified, sort_of, meet, opened, hole, typed_variable, variable, arguments, constant, applied, application, abstraction, abstraction_of, function, product, node, elaborate, started, standing}
use Rattle.elaboration.specs.Order.{Hole, Asked, Wild, holes_of_all, node_holes, holes_of, AreInTextOrder, HolesAreNumberedInTextOrder}
use Rattle.elaboration.proofs.Renamed.{gives_renamed}
use Rattle.elaboration.proofs.Growth.{declares_one, unifying_grows}
use Rattle.elaboration.proofs.Added.{Keeps, Adds, keeps_itself, adds_none, adds_goal, adds_hole, adds_more, adds_kept}

-- a part of a text that adds its holes, whatever is wanted of it and wherever it stands
abbrev Numbers : List Hole → Elaborates → Type 0
Numbers hs e = (want : Want) (w : Work) (here : Surroundings) → Gives (λ m. Adds hs w m.work) (e want w here)

-- parts with their holes
abbrev NumberEach : List (List Hole) → List Elaborates → Type 0
NumberEach [] [] = Unit {0}
NumberEach (hs ∷ hss) (u ∷ us) = Numbers hs u × NumberEach hss us
NumberEach _ _ = ⊥

module _ (items : List (Item Term)) where
  -- ---- a term with its type comes to what is wanted

  unified_keeps : (w : Work) (here : Surroundings) (a b : Term) → Gives (Keeps w) (unified items w here a b)
  unified_keeps w here a b =
      gives_bind (gives_renamed from_unification (unifying_grows (rules_env items) w.metas (depth_of here) a b)) (λ metas l.
      gives_pure (with_metas metas w) (record { grows = l; goals = refl; holes = refl }))

  meet_keeps : (want : Want) (w : Work) (here : Surroundings) (t T : Term) → Gives (λ m. Keeps w m.work) (meet items want w here t T)
  meet_keeps Any w here t T = gives_pure (made w t T) (keeps_itself w)
  meet_keeps (Of wanted) w here t T = gives_bind (unified_keeps w here T wanted) (λ v k. gives_pure (made v t wanted) k)
  meet_keeps AsType w here t T = gives_bind (gives_any (sort_of items w here t T)) (λ s _. gives_pure (made w t s) (keeps_itself w))

  -- after work on the parts
  met : (hs : List Hole) (want : Want) (w v : Work) (here : Surroundings) (t T : Term) → Adds hs w v → Gives (λ m. Adds hs w m.work) (meet items want v here t T)
  met hs want w v here t T a = gives_less (λ m k. adds_kept hs w v m.work a k) (meet_keeps want v here t T)

  -- ---- holes

  module _ (h : Hole) (at : ℕ) (noted : ℕ → Work → Work) (note : (w : Work) (after : Plain) → length after ≡ suc (length w.metas) → Adds (h ∷ []) w (noted (length w.metas) (with_metas after w))) where
    opened_numbers : (T : Term) (w : Work) (here : Surroundings) → Gives (λ m. Adds (h ∷ []) w m.work) (opened items noted T w here)
    opened_numbers T w here = gives_bind (gives_renamed from_unification (declares_one (rules_env items) w.metas here.entries T)) (λ after e. gives_pure _ (note w after e))

    hole_numbers : Numbers (h ∷ []) (hole items at noted)
    hole_numbers Any w here = gives_refuse _
    hole_numbers (Of T) w here = opened_numbers T w here
    hole_numbers AsType w here = opened_numbers Star w here

  -- ---- variables

  typed_numbers : (i : ℕ) (r : Refusal) (o : Option Term) → Numbers [] (typed_variable items i r o)
  typed_numbers i r None want w here = gives_refuse r
  typed_numbers i r (Some T) want w here = met [] want w w here (Var i) T (adds_none w w (keeps_itself w))

  variable_numbers : (r : Refusal) (o : Option ℕ) → Numbers [] (variable items r o)
  variable_numbers r None want w here = gives_refuse r
  variable_numbers r (Some i) want w here = typed_numbers i r (type_at (rules_ctx here.entries) i) want w here

  -- ---- constants

  arguments_number : (hss : List (List Hole)) (us : List Elaborates) → NumberEach hss us → (ls : List (Local Term)) → length us ≡ length ls → (so_far : Terms) (w : Work) (here : Surroundings) → Gives (λ r. Adds (holes_of_all hss) w r.0) (arguments items us ls so_far w here)
  arguments_number [] [] h [] e so_far w here = gives_pure (w, so_far) (adds_none w w (keeps_itself w))
  arguments_number [] [] h (l ∷ ls) e so_far w here = absurd (omega (arith, e))
  arguments_number (hs ∷ hss) (u ∷ us) h [] e so_far w here = absurd (omega (arith, e))
  arguments_number (hs ∷ hss) (u ∷ us) h (l ∷ ls) e so_far w here =
      gives_bind (h.0 (Of (subst_all so_far l.ty)) w here) (λ m a.
      gives_less (λ r b. adds_more hs (holes_of_all hss) w m.work r.0 a b) (arguments_number hss us h.1 ls (omega (arith, e)) (so_far ▹ m.term) m.work here))
  arguments_number [] (u ∷ us) h ls e so_far w here = absurd h
  arguments_number (hs ∷ hss) [] h ls e so_far w here = absurd h

  constant_numbers : (at : ℕ) (a : Text) (hss : List (List Hole)) (us : List Elaborates) → NumberEach hss us → (o : Option (Item Term)) → Numbers (holes_of_all hss) (constant items at a us o)
  constant_numbers at a hss us h None want w here = gives_refuse _
  constant_numbers at a hss us h (Some i) want w here =
      gives_demand (length us == length i.params) (WrongCount at a (length us) (length i.params)) (λ t.
      gives_bind (arguments_number hss us h i.params (eqb-true (length us) (length i.params) t) none w here) (λ (v, vs) b.
      met (holes_of_all hss) want w v here (Const a vs) (subst_all vs i.ty) b))

  -- ---- applications

  applied_number : (hss : List (List Hole)) (us : List Elaborates) → NumberEach hss us → (w : Work) (here : Surroundings) (f F : Term) → Gives (λ m. Adds (holes_of_all hss) w m.work) (applied items us w here f F)
  applied_number [] [] h w here f F = gives_pure (made w f F) (adds_none w w (keeps_itself w))
  applied_number (hs ∷ hss) (u ∷ us) h w here f F =
      gives_bind (gives_any (reduced items w F)) (λ F' _.
      gives_bind (gives_any (parts_or (NotFunction (depth_of here) f F) F')) (λ (A, B) _.
      gives_bind (h.0 (Of A) w here) (λ m a.
      gives_less (λ r b. adds_more hs (holes_of_all hss) w m.work r.work a b) (applied_number hss us h.1 m.work here (App f m.term) (subst_all (none ▹ m.term) B)))))
  applied_number [] (u ∷ us) h w here f F = absurd h
  applied_number (hs ∷ hss) [] h w here f F = absurd h

  application_numbers : (gs : List Hole) (f : Elaborates) → Numbers gs f → (hss : List (List Hole)) (us : List Elaborates) → NumberEach hss us → Numbers (gs ++ holes_of_all hss) (application items f us)
  application_numbers gs f g hss us h want w here =
      gives_bind (g Any w here) (λ m a.
      gives_bind (applied_number hss us h m.work here m.term m.ty) (λ r b.
      met (gs ++ holes_of_all hss) want w r.work here r.term r.ty (adds_more gs (holes_of_all hss) w m.work r.work a b)))

  -- ---- binders

  module _ (hs gs : List Hole) (A M : Elaborates) (first : Numbers hs A) (second : Numbers gs M) where
    abstraction_numbers : (x : Label) → Numbers (hs ++ gs) (abstraction items x A M)
    abstraction_numbers x want w here =
        gives_bind (first AsType w here) (λ a p.
        gives_bind (gives_any (entered items (Some x) a.term a.work here)) (λ inner _.
        gives_bind (second Any a.work inner) (λ m q.
        gives_bind (gives_any (product_or (NotType (depth_of inner) Square) a.term m.ty)) (λ T _.
        met (hs ++ gs) want w m.work here (Lam a.term m.term) T (adds_more hs gs w a.work m.work p q)))))

    abstraction_of_numbers : (x : Label) (T : Term) (w : Work) (here : Surroundings) (T' : Term) → Gives (λ m. Adds (hs ++ gs) w m.work) (abstraction_of items x A M T w here T')
    abstraction_of_numbers x T w here (Pi C B) =
        gives_bind (first AsType w here) (λ a p.
        gives_bind (unified_keeps a.work here a.term C) (λ v k.
        gives_bind (gives_any (entered items (Some x) a.term v here)) (λ inner _.
        gives_bind (second (Of B) v inner) (λ m q.
        gives_pure (made m.work (Lam a.term m.term) T) (adds_more hs gs w v m.work (adds_kept hs w a.work v p k) q)))))
    abstraction_of_numbers x T w here (Srt s) = abstraction_numbers x (Of T) w here
    abstraction_of_numbers x T w here (Var i) = abstraction_numbers x (Of T) w here
    abstraction_of_numbers x T w here (App f a) = abstraction_numbers x (Of T) w here
    abstraction_of_numbers x T w here (Lam B N) = abstraction_numbers x (Of T) w here
    abstraction_of_numbers x T w here (Con k us) = abstraction_numbers x (Of T) w here

    function_numbers : (x : Label) → Numbers (hs ++ gs) (function items x A M)
    function_numbers x (Of T) w here = gives_bind (gives_any (reduced items w T)) (λ T' _. abstraction_of_numbers x T w here T')
    function_numbers x Any w here = abstraction_numbers x Any w here
    function_numbers x AsType w here = abstraction_numbers x AsType w here

    product_numbers : (x : Option Label) → Numbers (hs ++ gs) (product items x A M)
    product_numbers x want w here =
        gives_bind (first AsType w here) (λ a p.
        gives_bind (gives_any (entered items x a.term a.work here)) (λ inner _.
        gives_bind (second AsType a.work inner) (λ b q.
        met (hs ++ gs) want w b.work here (Pi a.term b.term) b.ty (adds_more hs gs w a.work b.work p q))))

  -- ---- induction over texts

  abbrev elaborate_shape : Shape → ℕ → Elaborates
  elaborate_shape s = fold-Shape (ℕ → Elaborates) Elaborates (node items) (λ t. t.shape t.at) s

  abbrev holes_of_shape : Shape → ℕ → List Hole
  holes_of_shape s = fold-Shape (ℕ → List Hole) (List Hole) node_holes (λ t. t.shape t.at) s

  abbrev OfShape : Shape → Type 0
  OfShape s = (at : ℕ) → Numbers (holes_of_shape s at) (elaborate_shape s at)

  abbrev OfSurface : Surface → Type 0
  OfSurface t = Numbers (holes_of t) (elaborate items t)

  abbrev GoodShape : Type 0
  GoodShape = (s : Shape) × OfShape s

  abbrev GoodSurface : Type 0
  GoodSurface = (t : Surface) × OfSurface t

  abbrev elaborate_each : List GoodSurface → List Elaborates
  elaborate_each ms = map (elaborate items) (map (λ p. p.0) ms)

  abbrev holes_of_each : List GoodSurface → List (List Hole)
  holes_of_each ms = map holes_of (map (λ p. p.0) ms)

  each_of : (ms : List GoodSurface) → NumberEach (holes_of_each ms) (elaborate_each ms)
  each_of [] = tt
  each_of (m ∷ ms) = (m.1, each_of ms)

  -- a node, what it is elaborated as over its children, and its holes over theirs
  abbrev bare : Shape-F GoodShape GoodSurface → Shape-F Shape Surface
  bare y = map-Shape GoodShape GoodSurface Shape Surface (λ p. p.0) (λ p. p.0) y

  abbrev over : Shape-F GoodShape GoodSurface → Shape-F (ℕ → Elaborates) Elaborates
  over y = map-Shape Shape Surface (ℕ → Elaborates) Elaborates elaborate_shape (elaborate items) (bare y)

  abbrev holes_over : Shape-F GoodShape GoodSurface → Shape-F (ℕ → List Hole) (List Hole)
  holes_over y = map-Shape Shape Surface (ℕ → List Hole) (List Hole) holes_of_shape holes_of (bare y)

  node_numbers : (y : Shape-F GoodShape GoodSurface) (at : ℕ) → Numbers (node_holes (holes_over y) at) (node items (over y) at)
  node_numbers Shape-F.Star at want w here = gives_spend (met [] want w w here Star Square (adds_none w w (keeps_itself w)))
  node_numbers Shape-F.Wild at want w here = gives_spend (hole_numbers (Wild at) at (with_hole at) (adds_hole at) want w here)
  node_numbers Shape-F.Asked at want w here = gives_spend (hole_numbers (Asked at) at with_goal (adds_goal at) want w here)
  node_numbers (Shape-F.Named x) at want w here = gives_spend (variable_numbers (UnknownName at (label_text x)) (index_of here.outer x here.bound) want w here)
  node_numbers (Shape-F.Const a us) at want w here =
      gives_spend (constant_numbers at a (holes_of_each us) (elaborate_each us) (each_of us) (item_named items a) want w here)
  node_numbers (Shape-F.App f us) at want w here =
      gives_then (gives_any (spend_each (length (elaborate_each us)))) (λ _ _. application_numbers (holes_of f.0) (elaborate items f.0) f.1 (holes_of_each us) (elaborate_each us) (each_of us) want w here)
  node_numbers (Shape-F.Lam x A M) at want w here = gives_spend (function_numbers (holes_of A.0) (holes_of M.0) (elaborate items A.0) (elaborate items M.0) A.1 M.1 x want w here)
  node_numbers (Shape-F.Pi x A B) at want w here = gives_spend (product_numbers (holes_of A.0) (holes_of B.0) (elaborate items A.0) (elaborate items B.0) A.1 B.1 x want w here)

  shape_numbers : (y : Shape-F GoodShape GoodSurface) → OfShape (roll-Shape (bare y))
  unfolding elaborate holes_of
  shape_numbers y at =
      subst (λ f. Numbers (f at) (elaborate_shape (roll-Shape (bare y)) at)) (sym (fold-roll-Shape (ℕ → List Hole) (List Hole) node_holes (λ t. t.shape t.at) (bare y)))
      (subst (λ f. Numbers (node_holes (holes_over y) at) (f at)) (sym (fold-roll-Shape (ℕ → Elaborates) Elaborates (node items) (λ t. t.shape t.at) (bare y))) (node_numbers y at))

  rolled : Surface-F GoodShape GoodSurface → Surface
  rolled y = roll-Surface (map-Surface GoodShape GoodSurface Shape Surface (λ p. p.0) (λ p. p.0) y)

  elaborate_numbers : (t : Surface) → Numbers (holes_of t) (elaborate items t)
  unfolding elaborate holes_of rolled
  elaborate_numbers = ind-Surface OfShape OfSurface
      (λ x y e. subst (λ l. OfShape (roll-Shape l)) e (shape_numbers y))
      (λ x y e. subst (λ l. OfSurface (roll-Surface l)) e
      (subst (λ hs. Numbers hs (elaborate items (rolled y))) (sym (fold_out-Surface (ℕ → List Hole) (List Hole) node_holes (λ t. t.shape t.at) (rolled y)))
      (subst (Numbers (holes_of_shape y.shape.0 y.at)) (sym (fold_out-Surface (ℕ → Elaborates) Elaborates (node items) (λ t. t.shape t.at) (rolled y))) (y.shape.1 y.at))))

  -- ---- the three calls

  in_order : (metas : Plain) (t : Surface) (m : Made) → Adds (holes_of t) (started items metas) m.work → AreInTextOrder metas t m
  in_order metas t m a = record { numbers = a.numbers; each = a.each; ascend = a.ascend; goals = a.goals; holes = a.holes }

  numbered : (metas : Plain) (Γ : List (Local Term)) (t : Surface) (want : Want) (m : Made) (n left : ℕ) → elaborate items t want (started items metas) (standing items Γ) n ≡ Gave m left → AreInTextOrder metas t m
  numbered metas Γ t want m n left e = in_order metas t m (given (elaborate_numbers t want (started items metas) (standing items Γ)) n left m e)

pub holes_are_numbered_in_text_order : HolesAreNumberedInTextOrder
holes_are_numbered_in_text_order items metas Γ t m n left = (numbered items metas Γ t Any m n left, numbered items metas Γ t AsType m n left, λ T. numbered items metas Γ t (Of T) m n left)
