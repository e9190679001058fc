-- What a text elaborates to once the units of its node are paid, from the parts as the program holds them.
use Rattle.std.proofs.Common.{◌≡◌, ℕ, List, length, map, Option, sym, ap, ap₂, ◌∙◌}
use Rattle.std.proofs.lemmas.List.{length-map}
use Rattle.ld_trees.specs.Term.{Star, Square, Term}
use Rattle.ld_terms.specs.Items.{item_named}
use Rattle.ld_terms.specs.declared.globals.Item.{Item}
use Rattle.term_syntax.specs.Lex.{Text}
use Rattle.term_syntax.specs.Scoping.{index_of, label_text}
use Rattle.term_syntax.specs.declared.surface.Label.{Label}
use Rattle.term_syntax.specs.declared.surface.Surface.{Surface}
use Rattle.term_syntax.specs.declared.surface.Shape.TheVariants as shape
use Rattle.unification.specs.Steps.{Outcome, Gave, Step, go_on}
use Rattle.elaboration.specs.Refusals.{Refusal, UnknownName}
use Rattle.elaboration.specs.Elaboration.{Work, Made, Want, Any, Surroundings, with_goal, with_hole, meet, hole, variable, constant, applied, function, product, elaborate}
use Rattle.elaborate.specs.Steps.{cost, known, paid}
use Rattle.elaborate.proofs.Equations.{at_star, at_wild, at_asked, at_named, at_const, at_app, at_lam, at_pi}
use Rattle.elaborate.proofs.Parts.{constant_is, constant_rest}

paid_is : (k n j : ℕ) (o : Outcome Refusal Made) (rest : Step Refusal Made) → o ≡ go_on (paid k n) (λ _. rest) → paid k n ≡ Gave tt j → o ≡ rest j
paid_is k n j o rest e q = e ∙ ap (λ z. go_on z (λ _. rest)) q

module _ (items : List (Item Term)) (t : Surface) (want : Want) (w : Work) (here : Surroundings) (n k : ℕ) (had : paid (cost t) n ≡ Gave tt k) where
  abbrev Given : Outcome Refusal Made
  Given = elaborate items t want w here n

  pub star_is : t.shape ≡ shape.Star → Given ≡ meet items want w here Star Square k
  star_is is = paid_is (cost t) n k Given (meet items want w here Star Square) (at_star items t want w here n is) had

  pub wild_is : t.shape ≡ shape.Wild → Given ≡ hole items t.at (with_hole t.at) want w here k
  wild_is is = paid_is (cost t) n k Given (hole items t.at (with_hole t.at) want w here) (at_wild items t want w here n is) had

  pub asked_is : t.shape ≡ shape.Asked → Given ≡ hole items t.at with_goal want w here k
  asked_is is = paid_is (cost t) n k Given (hole items t.at with_goal want w here) (at_asked items t want w here n is) had

  pub named_is : (x : Label) → t.shape ≡ shape.Named x → Given ≡ variable items (UnknownName t.at (label_text x)) (index_of here.outer x here.bound) want w here k
  named_is x is = paid_is (cost t) n k Given (variable items (UnknownName t.at (label_text x)) (index_of here.outer x here.bound) want w here) (at_named items t want w here n x is) had

  pub const_is : (a : Text) (us us' : List Surface) → t.shape ≡ shape.Const a us → us' ≡ us → Given ≡ constant items t.at a (map (elaborate items) us') (item_named items a) want w here k
  const_is a us us' is eu =
      paid_is (cost t) n k Given _ (at_const items t want w here n a us is) had
      ∙ ap (λ vs. constant items t.at a (map (elaborate items) vs) (item_named items a) want w here k) (sym eu)

  abbrev pub met : Made → Step Refusal Made
  met m = meet items want m.work here m.term m.ty

  abbrev pub application_rest : List Surface → Made → Step Refusal Made
  application_rest us m n = go_on (applied items (map (elaborate items) us) m.work here m.term m.ty n) met

  pub app_is : (f f' : Surface) (us us' : List Surface) → t.shape ≡ shape.App f us → f' ≡ f → us' ≡ us → Given ≡ go_on (elaborate items f' Any w here k) (application_rest us')
  app_is f f' us us' is ef eu =
      paid_is (cost t) n k Given _ (at_app items t want w here n f us is) had
      ∙ ap₂ (λ g vs. go_on (elaborate items g Any w here k) (application_rest vs)) (sym ef) (sym eu)

  pub lam_is : (x : Label) (A A' M M' : Surface) → t.shape ≡ shape.Lam x A M → A' ≡ A → M' ≡ M → Given ≡ function items x (elaborate items A') (elaborate items M') want w here k
  lam_is x A A' M M' is ea em =
      paid_is (cost t) n k Given _ (at_lam items t want w here n x A M is) had
      ∙ ap₂ (λ B N. function items x (elaborate items B) (elaborate items N) want w here k) (sym ea) (sym em)

  pub pi_is : (x x' : Option Label) (A A' B B' : Surface) → t.shape ≡ shape.Pi x A B → x' ≡ x → A' ≡ A → B' ≡ B → Given ≡ product items x' (elaborate items A') (elaborate items B') want w here k
  pi_is x x' A A' B B' is ex ea eb =
      paid_is (cost t) n k Given _ (at_pi items t want w here n x A B is) had
      ∙ ap (λ y. product items y (elaborate items A) (elaborate items B) want w here k) (sym ex)
      ∙ ap₂ (λ C D. product items x' (elaborate items C) (elaborate items D) want w here k) (sym ea) (sym eb)

-- a constant, from its arguments as the program holds them
pub constant_of : (items : List (Item Term)) (at : ℕ) (a : Text) (us : List Surface) (want : Want) (w : Work) (here : Surroundings) (n : ℕ)
    → constant items at a (map (elaborate items) us) (item_named items a) want w here n ≡ go_on (known at a (length us) (item_named items a) n) (constant_rest items a (map (elaborate items) us) want w here)
constant_of items at a us want w here n =
    constant_is items at a (map (elaborate items) us) (item_named items a) want w here n
    ∙ ap (λ d. go_on (known at a d (item_named items a) n) (constant_rest items a (map (elaborate items) us) want w here)) (length-map us (elaborate items))
