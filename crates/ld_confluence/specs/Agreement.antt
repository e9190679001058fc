-- Environments that agree on the constants of some terms.
use Rattle.std.specs.Prelude.{◌≡◌, Some}
use Rattle.ld_trees.specs.Term.{Head, Term}
use Rattle.ld_rules.specs.Environment.{Env, Item, item_of}
use Rattle.ld_rules.specs.ScopedItems.{EachHead, EachHeadOfAll}

-- a property holds of each constant of an item
pub record EachHeadOfItem (P : Head → Type 0) (d : Item) : Type 0 where
  pub params : EachHeadOfAll P d.params
  pub ty : EachHead P d.ty
  pub body : (M : Term) → d.body ≡ Some M → EachHead P M

-- two environments have the same items for the constants with a property, and such items have only such constants
pub record AgreeOn (P : Head → Type 0) (E F : Env) : Type 0 where
  pub same : (h : Head) → P h → item_of h E ≡ item_of h F
  pub closed : (h : Head) (d : Item) → P h → item_of h E ≡ Some d → EachHeadOfItem P d
