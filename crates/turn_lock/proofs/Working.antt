-- What a call leaves in the slot.
use Rattle.std.proofs.Common.{◌≡◌, ℕ, ◌<◌, Bool, List, [], ◌∷◌, length, Some, sym, ap, ◌∙◌, subst, get_or}
use Rattle.std.specs.Prelude.{IsTrue, ◌↔◌}
use Rattle.atomic_table.specs.Seated.{TableId}
use Rattle.atomic_table.specs.Table.{Me}
use Rattle.turn_lock.specs.declared.view.View.{View}
use Rattle.turn_lock.specs.Journals.{ExtendsByOthers}
use Rattle.turn_lock.specs.Meanings.{Finds, Grows, IsPassOf, PassMeaning, SharedMeaning}
use Rattle.turn_lock.specs.Steps.{Found, Leaves, after_draw, after_take, after_turn}
use Rattle.turn_lock.specs.Views.{pass_meaning}

-- two lists of one slot
pub one_slot : {T : Type 0} (c : List (ℕ × T)) (x y : T) → c ≡ (0, x) ∷ [] → c ≡ (0, y) ∷ [] → x ≡ y
one_slot {T} c x y e f = ap (λ (l : List (ℕ × T)). (get_or l 0 (0, x)).1) (sym e ∙ f)

module _ {T E G : Type 0} (entries : T → List E) (pass_of : E → ℕ) (ground_of : T → G) where
  -- what a closure may leave is what a seat may enter
  pub works : (v v' : View E G) (k : ℕ) (x y : T) (grew : Bool) → v' ≡ after_take k (entries x) v → Found entries pass_of ground_of v x → Grows entries pass_of ground_of v.number x y → IsTrue grew ↔ (length (entries x) < length (entries y)) → Leaves entries pass_of ground_of v' y grew
  works v v' k x y grew is found grows iff =
      let at : Leaves entries pass_of ground_of (after_take k (entries x) v) y grew = record { stays = ap Some grows.stays ∙ found.same; list = grows.list; tells = iff } in
      subst (λ (u : View E G). Leaves entries pass_of ground_of u y grew) (sym is) at

-- the view after a turn
pub settles : {T E G : Type 0} (l m : List E) (k : ℕ) (v u : View E G) (me : Me T (View E G)) → me ≡ (after_turn l u, []) → u ≡ after_take k m v → me ≡ (after_turn l v, [])
settles {T} {E} {G} l m k v u me is view = let P : View E G → Type 0 = λ z. me ≡ (after_turn l z, []) in subst P view is

module _ {T E G : Type 0} (entries : T → List E) (pass_of : E → ℕ) (ground_of : T → G) where
  some_is : (a b : G) → Some a ≡ Some b → a ≡ b
  some_is a b e = cc

  -- what a seat finds at its turn is what its pass may find
  pub finds : (o : SharedMeaning E G) (p : PassMeaning E G) (z : TableId) (v v' : View E G) (n : ℕ) → pass_meaning z v ≡ p → IsPassOf o p → v' ≡ after_draw n v → (x : T) → Found entries pass_of ground_of v' x → Finds entries pass_of ground_of o p x
  finds o p z v v' n is own was x found =
      let here : Found entries pass_of ground_of (after_draw n v) x = subst (λ (u : View E G). Found entries pass_of ground_of u x) was found in
      let P : PassMeaning E G → Type 0 = λ q. ExtendsByOthers pass_of q.seen (entries x) (q.number ∷ q.took) in
      record { same = some_is _ _ (here.same ∙ (ap (λ (q : PassMeaning E G). q.the_ground) is ∙ own.1)); more = subst P is here.more }
