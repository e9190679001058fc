-- What stands round the parts of a node.
use Rattle.std.proofs.Common.{◌≡◌, ◌≢◌, ℕ, suc, List, [], ◌∷◌, length, Bool, true, false, ◌==◌, cond, Some, None, option_map, refl, ap}
use Rattle.std.proofs.lemmas.Bool.{eqb-true, eq-eqb}
use Rattle.std.specs.Str.{bytes_eq}
use Rattle.ld_trees.specs.Term.{Term, Square, Lam}
use Rattle.ld_terms.specs.Items.{item_named}
use Rattle.ld_terms.specs.declared.globals.Item.{Item}
use Rattle.term_syntax.specs.Lex.{Text}
use Rattle.meta_context.specs.Plain.{plain_item, plain_items}
use Rattle.unification.specs.Steps.{Outcome, Gave, Refused, go_on, pure, demand}
use Rattle.elaboration.specs.Refusals.{Refusal, WrongCount, NotType}
use Rattle.elaboration.specs.Elaboration.{Made, Want, Surroundings, depth_of, meet, product_or}
use Rattle.elaborate.specs.Steps.{known, abstracted}
use Rattle.pattern_unify.proofs.Follow.{after}

-- ---- constants

pub named_again : {H : Type 0} (means : H → Term) (is : List (Item H)) (a : Text) → item_named (plain_items means is) a ≡ option_map (plain_item means) (item_named is a)
named_again means [] a = refl
named_again means (i ∷ is) a = by (named_again means is a) (bytes_eq i.name a) where
  by : item_named (plain_items means is) a ≡ option_map (plain_item means) (item_named is a)
      → (b : Bool) → cond b (Some (plain_item means i)) (item_named (plain_items means is) a) ≡ option_map (plain_item means) (cond b (Some i) (item_named is a))
  by e true = refl
  by e false = e

module _ (at : ℕ) (a : Text) (given : ℕ) (i : Item Term) (n : ℕ) where
  chosen : Bool → Outcome Refusal (Item Term)
  chosen b = go_on (demand b (WrongCount at a given (length i.params)) n) (λ _. pure i)

  pub fits : given ≡ length i.params → known at a given (Some i) n ≡ Gave i n
  unfolding chosen
  fits e = ap chosen (eq-eqb _ _ e)

  pub unfit : given ≢ length i.params → known at a given (Some i) n ≡ Refused (WrongCount at a given (length i.params)) n
  unfolding chosen
  unfit h = by (given == length i.params) refl where
    by : (b : Bool) → (given == length i.params) ≡ b → chosen b ≡ Refused (WrongCount at a given (length i.params)) n
    by true e = absurd (h (eqb-true _ _ e))
    by false e = refl

-- ---- abstractions

module _ (items : List (Item Term)) (want : Want) (A : Term) (m : Made) (s : Surroundings) (n : ℕ) where
  pub by_itself_is : (T : Term) (k : ℕ) → product_or (NotType (suc (depth_of s)) Square) A m.ty n ≡ Gave T k → abstracted items want None A m s n ≡ meet items want m.work s (Lam A m.term) T k
  by_itself_is T k e = after (product_or (NotType (suc (depth_of s)) Square) A m.ty n) T k (λ T. meet items want m.work s (Lam A m.term) T) e
