-- The fuel law of elaboration, from that of unification.
use Rattle.std.proofs.Common.{ℕ, List, [], ◌∷◌, length, ◌==◌, Option, Some, None}
use Rattle.ld_trees.specs.Term.{square, Term, Srt, Var, App, Lam, Pi, Star, Square, Const, Terms, none, ◌▹◌}
use Rattle.ld_trees.specs.Substitution.{subst_all}
use Rattle.ld_rules.specs.Environment.{type_at}
use Rattle.ld_terms.specs.Items.{item_named}
use Rattle.ld_terms.specs.declared.globals.Local.{Local}
use Rattle.ld_terms.specs.declared.globals.Item.{Item}
use Rattle.term_syntax.specs.Lex.{Text}
use Rattle.term_syntax.specs.Scoping.{index_of, label_text}
use Rattle.term_syntax.specs.declared.surface.Label.{Label}
use Rattle.term_syntax.specs.declared.surface.Surface.{Surface}
use Rattle.term_syntax.specs.declared.surface.Shape.TheOpen.{Shape-F}
use Rattle.conversion.specs.WeakHead.{whnf}
use Rattle.conversion.proofs.Heads.{lawful_whnf}
use Rattle.meta_context.specs.Plain.{rules_ctx, rules_env}
use Rattle.unification.specs.Metavariables.{reach}
use Rattle.unification.proofs.Words.{Law, law_pure, law_refuse, law_bind, law_then, law_spend, law_demand, law_spend_each, law_called, fuel_law}
use Rattle.unification.proofs.FuelLaws.{law_extended, law_declared, law_unify}
use Rattle.elaboration.specs.Refusals.{Refusal, UnknownName, WrongCount, NotFunction, NotType, from_unification}
use Rattle.elaboration.specs.Elaboration.{Work, Want, Any, Of, AsType, Surroundings, depth_of, Elaborates, with_goal, with_hole, sort_or, parts_or, product_or, reduced, entered, unified, sort_of, meet, opened, hole, typed_variable, variable, arguments, constant, applied, application, abstraction, abstraction_of, function, product, node, elaborate, started, standing}
use Rattle.elaboration.specs.Laws.{ElaborationHasFuelLaw}
use Rattle.elaboration.proofs.Induction.{Each, EachPart, elaborate_has}
use Rattle.elaboration.proofs.Renamed.{law_renamed}

law_sort_or : (r : Refusal) (T : Term) → Law (sort_or r T)
law_sort_or r (Srt s) = law_pure (Srt s)
law_sort_or r _ = law_refuse r

law_parts_or : (r : Refusal) (T : Term) → Law (parts_or r T)
law_parts_or r (Pi A B) = law_pure (A, B)
law_parts_or r _ = law_refuse r

law_product_or : (r : Refusal) (A B : Term) → Law (product_or r A B)
law_product_or r A (Srt square) = law_refuse r
law_product_or r A _ = law_pure _

module _ (items : List (Item Term)) where
  Lawful : Elaborates → Type 0
  Lawful e = (want : Want) (w : Work) (here : Surroundings) → Law (e want w here)

  law_reduced : (w : Work) (t : Term) → Law (reduced items w t)
  law_reduced w t = law_called _ (whnf (reach (rules_env items) w.metas) t) (lawful_whnf (reach (rules_env items) w.metas) t)

  law_entered : (x : Option Label) (A : Term) (w : Work) (here : Surroundings) → Law (entered items x A w here)
  law_entered x A w here = law_bind (law_renamed from_unification (law_extended (rules_env items) w.metas here.entries _ A)) (λ Γ. law_pure _)

  law_unified : (w : Work) (here : Surroundings) (a b : Term) → Law (unified items w here a b)
  law_unified w here a b = law_bind (law_renamed from_unification (law_unify (rules_env items) w.metas (depth_of here) a b)) (λ metas. law_pure _)

  law_sort_of : (w : Work) (here : Surroundings) (t T : Term) → Law (sort_of items w here t T)
  law_sort_of w here t (Srt s) = law_pure (Srt s)
  law_sort_of w here t _ = law_bind (law_reduced w _) (λ T. law_sort_or _ T)

  law_meet : (want : Want) (w : Work) (here : Surroundings) (t T : Term) → Law (meet items want w here t T)
  law_meet Any w here t T = law_pure _
  law_meet (Of wanted) w here t T = law_bind (law_unified w here T wanted) (λ v. law_pure _)
  law_meet AsType w here t T = law_bind (law_sort_of w here t T) (λ s. law_pure _)

  law_opened : (noted : ℕ → Work → Work) (T : Term) (w : Work) (here : Surroundings) → Law (opened items noted T w here)
  law_opened noted T w here = law_bind (law_renamed from_unification (law_declared (rules_env items) w.metas here.entries T)) (λ metas. law_pure _)

  law_hole : (at : ℕ) (noted : ℕ → Work → Work) → Lawful (hole items at noted)
  unfolding Lawful
  law_hole at noted Any w here = law_refuse _
  law_hole at noted (Of T) w here = law_opened noted T w here
  law_hole at noted AsType w here = law_opened noted Star w here

  law_typed : (i : ℕ) (r : Refusal) (o : Option Term) → Lawful (typed_variable items i r o)
  unfolding Lawful
  law_typed i r None want w here = law_refuse r
  law_typed i r (Some T) want w here = law_meet want w here (Var i) T

  law_variable : (r : Refusal) (o : Option ℕ) → Lawful (variable items r o)
  unfolding Lawful
  law_variable r None want w here = law_refuse r
  law_variable r (Some i) want w here = law_typed i r (type_at (rules_ctx here.entries) i) want w here

  law_arguments : (us : List Elaborates) → Each Lawful us → (ls : List (Local Term)) (so_far : Terms) (w : Work) (here : Surroundings) → Law (arguments items us ls so_far w here)
  unfolding Lawful
  law_arguments (u ∷ us) h (l ∷ ls) so_far w here = law_bind (h.0 (Of (subst_all so_far l.ty)) w here) (λ m. law_arguments us h.1 ls (so_far ▹ m.term) m.work here)
  law_arguments [] h ls so_far w here = law_pure _
  law_arguments (u ∷ us) h [] so_far w here = law_pure _

  law_constant : (at : ℕ) (a : Text) (us : List Elaborates) → Each Lawful us → (o : Option (Item Term)) → Lawful (constant items at a us o)
  unfolding Lawful
  law_constant at a us h None want w here = law_refuse _
  law_constant at a us h (Some i) want w here =
      law_then (law_demand (length us == length i.params) (WrongCount at a (length us) (length i.params))) (law_bind (law_arguments us h i.params none w here) (λ (v, vs). law_meet want v here (Const a vs) (subst_all vs i.ty)))

  law_applied : (us : List Elaborates) → Each Lawful us → (w : Work) (here : Surroundings) (f F : Term) → Law (applied items us w here f F)
  unfolding Lawful
  law_applied [] h w here f F = law_pure _
  law_applied (u ∷ us) h w here f F =
      law_bind (law_reduced w F) (λ F'. law_bind (law_parts_or (NotFunction (depth_of here) f F) F') (λ (A, B). law_bind (h.0 (Of A) w here) (λ m. law_applied us h.1 m.work here (App f m.term) (subst_all (none ▹ m.term) B))))

  law_application : (f : Elaborates) → Lawful f → (us : List Elaborates) → Each Lawful us → Lawful (application items f us)
  unfolding Lawful
  law_application f hf us h want w here =
      law_bind (hf Any w here) (λ m. law_bind (law_applied us h m.work here m.term m.ty) (λ r. law_meet want r.work here r.term r.ty))

  module _ (A M : Elaborates) (hA : Lawful A) (hM : Lawful M) where
    law_abstraction : (x : Label) → Lawful (abstraction items x A M)
    unfolding Lawful
    law_abstraction x want w here =
        law_bind (hA AsType w here) (λ a. law_bind (law_entered (Some x) a.term a.work here) (λ inner. law_bind (hM Any a.work inner) (λ m. law_bind (law_product_or (NotType (depth_of inner) Square) a.term m.ty) (λ T. law_meet want m.work here (Lam a.term m.term) T))))

    law_abstraction_of : (x : Label) (T : Term) (w : Work) (here : Surroundings) (T' : Term) → Law (abstraction_of items x A M T w here T')
    unfolding Lawful
    law_abstraction_of x T w here (Pi C B) =
        law_bind (hA AsType w here) (λ a. law_bind (law_unified a.work here a.term C) (λ v. law_bind (law_entered (Some x) a.term v here) (λ inner. law_bind (hM (Of B) v inner) (λ m. law_pure _))))
    law_abstraction_of x T w here _ = law_abstraction x (Of T) w here

    law_function : (x : Label) → Lawful (function items x A M)
    unfolding Lawful
    law_function x (Of T) w here = law_bind (law_reduced w T) (λ T'. law_abstraction_of x T w here T')
    law_function x Any w here = law_abstraction x Any w here
    law_function x AsType w here = law_abstraction x AsType w here

    law_product : (x : Option Label) → Lawful (product items x A M)
    unfolding Lawful
    law_product x want w here =
        law_bind (hA AsType w here) (λ a. law_bind (law_entered x a.term a.work here) (λ inner. law_bind (hM AsType a.work inner) (λ b. law_meet want b.work here (Pi a.term b.term) b.ty)))

  law_node : (l : Shape-F (ℕ → Elaborates) Elaborates) (at : ℕ) → EachPart Lawful l → Lawful (node items l at)
  unfolding Lawful
  law_node Shape-F.Star at p want w here = law_spend (law_meet want w here Star Square)
  law_node Shape-F.Wild at p want w here = law_spend (law_hole at (with_hole at) want w here)
  law_node Shape-F.Asked at p want w here = law_spend (law_hole at with_goal want w here)
  law_node (Shape-F.Named x) at p want w here = law_spend (law_variable (UnknownName at (label_text x)) (index_of here.outer x here.bound) want w here)
  law_node (Shape-F.Const a us) at p want w here = law_spend (law_constant at a us p (item_named items a) want w here)
  law_node (Shape-F.App f us) at p want w here = law_then (law_spend_each (length us)) (law_application f p.0 us p.1 want w here)
  law_node (Shape-F.Lam x A M) at p want w here = law_spend (law_function A M p.0 p.1 x want w here)
  law_node (Shape-F.Pi x A B) at p want w here = law_spend (law_product A B p.0 p.1 x want w here)

  pub law_elaborate : (t : Surface) (want : Want) (w : Work) (here : Surroundings) → Law (elaborate items t want w here)
  unfolding Lawful
  law_elaborate t = elaborate_has items Lawful law_node t

pub elaboration_has_fuel_law : ElaborationHasFuelLaw
elaboration_has_fuel_law items metas Γ t = (
  fuel_law (law_elaborate items t Any (started items metas) (standing items Γ)),
  fuel_law (law_elaborate items t AsType (started items metas) (standing items Γ)),
  λ T. fuel_law (law_elaborate items t (Of T) (started items metas) (standing items Γ)),
)
