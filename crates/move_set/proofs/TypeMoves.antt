-- The moves `have`, `change` and `unfold`, part by part.
use Rattle.std.proofs.Common.{◌≡◌, ℕ, zero, suc, ◌+◌, Bool, true, false, cond, not, ◌==◌, All, List, [], ◌∷◌, Option, Some, None, option_and_then, option_map, refl, sym, ap, ◌∙◌, subst, arith}
use Rattle.std.proofs.Math.Dec.{eqb-suc-zero}
use Rattle.ld_trees.specs.Term.{Term}
use Rattle.ld_terms.specs.Items.{item_named}
use Rattle.ld_terms.specs.declared.globals.Item.{Item}
use Rattle.ld_terms.specs.declared.globals.Decl.{Decl}
use Rattle.std.specs.Str.{bytes_eq}
use Rattle.conversion.specs.Globals.{IsItemOf, IsOptional}
use Rattle.conversion.proofs.Lookups.{item_found_held}
use Rattle.std.proofs.lemmas.Option.{same_Some}
use Rattle.term_syntax.specs.Lex.{Text}
use Rattle.term_syntax.specs.declared.surface.Surface.{Surface}
use Rattle.meta_context.specs.Plain.{plain_item, plain_items}
use Rattle.unification.specs.Steps.{Gave, Refused, OutOfFuel, go_on, ◌>>◌, demand, pure}
use Rattle.unification.specs.Refusals.{Plain}
use Rattle.elaboration.specs.Elaboration.{Made}
use Rattle.pattern_unify.specs.Walks.{IsSpent}
use Rattle.move_set.specs.Asked.{first_asked}
use Rattle.move_set.specs.Refusals.{Step, NameTaken, NotDefined, NoOccurrence, Unsolved}
use Rattle.move_set.specs.Replacing.{occurrences, replaced}
use Rattle.move_set.specs.Moves.{Moved, has_entry, body_or, opened, none_open, cut, cut_by, have, restated, change_to, change, unfold_by, unfold_constant}
use Rattle.move_set.proofs.UnitsSpent.{spent_each, too_few}

module _ (Δ : List (Item Term)) (Σ : Plain) (g : ℕ) (d : Decl Term) where
  -- ---- types that texts say

  module _ (t : Surface) (n : ℕ) where
    abbrev pub restates : Made → Step Moved
    restates m = restated Δ Σ g d m.work.metas m.term m.work.holes

    pub change_asked : (at : ℕ) → first_asked t ≡ Some at → change Δ Σ g d t n ≡ Refused (Unsolved at) n
    change_asked at e = ap (λ o. (none_open o >> change_to Δ Σ g d t) n) e

    pub change_on : first_asked t ≡ None → change Δ Σ g d t n ≡ change_to Δ Σ g d t n
    change_on e = ap (λ o. (none_open o >> change_to Δ Σ g d t) n) e

  module _ (x : Text) (t : Surface) (n : ℕ) where
    abbrev pub cuts : Made → Step Moved
    cuts m = cut Δ Σ g d m.work.metas x m.term m.work.holes

    abbrev tested : Bool → Option ℕ → Step Moved
    tested b o = demand (not b) (NameTaken x) >> (none_open o >> cut_by Δ Σ g d x t)

    module _ (b : Bool) (test : b ≡ has_entry d.ctx x) where
      pub have_taken : b ≡ true → have Δ Σ g d x t n ≡ Refused (NameTaken x) n
      have_taken q = ap (λ b. tested b (first_asked t) n) (sym test ∙ q)

      pub have_asked : b ≡ false → (at : ℕ) → first_asked t ≡ Some at → have Δ Σ g d x t n ≡ Refused (Unsolved at) n
      have_asked q at e = ap (λ b. tested b (first_asked t) n) (sym test ∙ q) ∙ ap (λ o. tested false o n) e

      pub have_on : b ≡ false → first_asked t ≡ None → have Δ Σ g d x t n ≡ cut_by Δ Σ g d x t n
      have_on q e = ap (λ b. tested b (first_asked t) n) (sym test ∙ q) ∙ ap (λ o. tested false o n) e

  -- ---- `unfold`

  module _ (a : Text) (n : ℕ) where
    abbrev pub restates_target : Term → Step Moved
    restates_target A = restated Δ Σ g d Σ A []

    pub not_defined : option_and_then (λ (i : Item Term). i.body) (item_named Δ a) ≡ None → unfold_constant Δ Σ g d a n ≡ Refused (NotDefined a) n
    not_defined e = ap (λ o. go_on (body_or (NotDefined a) o n) (unfold_by Δ Σ g d a)) e

    pub unfold_on : (M : Term) → option_and_then (λ (i : Item Term). i.body) (item_named Δ a) ≡ Some M → unfold_constant Δ Σ g d a n ≡ unfold_by Δ Σ g d a M n
    unfold_on M e = ap (λ o. go_on (body_or (NotDefined a) o n) (unfold_by Δ Σ g d a)) e

-- ---- a definition put in

module _ (a : Text) (M t : Term) (n left : ℕ) (r : Bool) where
  abbrev counted : ℕ → Step Term
  counted k = demand (not (k == 0)) (NoOccurrence a) >> pure (replaced a M t)

  abbrev after_units : Unit {0} → Step Term
  after_units _ = counted (occurrences a t)

  pub open_short : r ≡ false → IsSpent (occurrences a t) n left r → (opened a M t n ≡ OutOfFuel) × (left ≡ 0)
  open_short e h = by r e h
    where
      by : (r : Bool) → r ≡ false → IsSpent (occurrences a t) n left r → (opened a M t n ≡ OutOfFuel) × (left ≡ 0)
      by true e h = absurd cc
      by false e h = (ap (λ o. go_on o after_units) (too_few (occurrences a t) n left h), h.1)

  spent : (r : Bool) → r ≡ true → IsSpent (occurrences a t) n left r → (opened a M t n ≡ counted (occurrences a t) left) × (n ≡ occurrences a t + left)
  spent true e h = (ap (λ o. go_on o after_units) (spent_each (occurrences a t) n left h), h)
  spent false e h = absurd cc

  pub open_none : r ≡ true → IsSpent (occurrences a t) n left r → left ≡ n → opened a M t n ≡ Refused (NoOccurrence a) left
  open_none e h same =
      let s = spent r e h in
      let count = s.1 in
      let none : occurrences a t ≡ 0 = omega arith in
      s.0 ∙ ap (λ k. counted k left) none

  pub open_some : r ≡ true → IsSpent (occurrences a t) n left r → (left ≡ n → ⊥) → opened a M t n ≡ Gave (replaced a M t) left
  open_some e h other = let s = spent r e h in s.0 ∙ by (occurrences a t) (λ z. other (let count = s.1 in omega arith))
    where
      by : (k : ℕ) → (k ≡ 0 → ⊥) → counted k left ≡ Gave (replaced a M t) left
      by zero f = absurd (f refl)
      by (suc k) f = ap (λ b. (demand (not b) (NoOccurrence a) >> pure (replaced a M t)) left) (eqb-suc-zero k)

-- ---- the item of a name over a store

module _ {H : Type 0} (means : H → Term) where
  pub named_again : (is : List (Item H)) (a : Text) → item_named (plain_items means is) a ≡ option_map (plain_item means) (item_named is a)
  named_again [] a = refl
  named_again (i ∷ is) a = by (named_again is a) (bytes_eq i.name a)
    where
      by : item_named (plain_items means is) a ≡ option_map (plain_item means) (item_named is a)
          → (b : Bool) → cond b (Some (plain_item means i)) (item_named (plain_items means is) a) ≡ option_map (plain_item means) (cond b (Some i) (item_named is a))
      by h true = refl
      by h false = h

  body_through : (o : Option (Item H)) → option_and_then (λ (i : Item Term). i.body) (option_map (plain_item means) o) ≡ option_map means (option_and_then (λ (i : Item H). i.body) o)
  body_through None = refl
  body_through (Some i) = refl

  pub body_again : (is : List (Item H)) (Δ : List (Item Term)) (a : Text) → plain_items means is ≡ Δ → option_and_then (λ (i : Item Term). i.body) (item_named Δ a) ≡ option_map means (option_and_then (λ (i : Item H). i.body) (item_named is a))
  body_again is Δ a e = ap (λ Δ. option_and_then (λ (i : Item Term). i.body) (item_named Δ a)) (sym e) ∙ ap (option_and_then (λ (i : Item Term). i.body)) (named_again is a) ∙ body_through (item_named is a)

  -- and it is of the store
  pub body_held : (holds : H → Type 0) (is : List (Item H)) (a : Text) (h : H) → All (IsItemOf holds) is → option_and_then (λ (i : Item H). i.body) (item_named is a) ≡ Some h → holds h
  body_held holds is a h items e = by (item_named is a) refl e
    where
      of_body : (o : Option H) → IsOptional holds o → o ≡ Some h → holds h
      of_body None p q = absurd cc
      of_body (Some x) p q = subst holds (same_Some x h q) p

      by : (o : Option (Item H)) → item_named is a ≡ o → option_and_then (λ (i : Item H). i.body) o ≡ Some h → holds h
      by None s q = absurd cc
      by (Some i) s q = let held = item_found_held holds is a i items s in of_body i.body held.body q
