-- New seats.
use Rattle.std.proofs.Common.{◌≡◌, ℕ, zero, suc, ◌⊎◌, List, [], ◌∷◌, ◌++◌, length, set, refl, sym, ap, subst, inl, inr, ⊎_elim, ◌+◌, arith}
use mathlib.Core.Option.{Option, none, some, some-injective, some-ne-none}
use lib.ListN.{get_elem?}
use Rattle.atomic_table.specs.Table.{Splits}
use Rattle.atomic_table.proofs.Lists.{at_longer}
use Rattle.turn_lock.specs.declared.view.Stage.TheVariants.{Idle, Spent}
use Rattle.turn_lock.specs.declared.view.View.{View}
use Rattle.turn_lock.specs.Views.{HoldsSlot, ShowsTicket}
use Rattle.turn_lock.specs.LockRule.{LockRule, LockState, SlotFits, ViewFits, notes_learnt, notes_told}
use Rattle.turn_lock.proofs.Lists.{each_set}
use Rattle.turn_lock.proofs.Staying.{home_set, notes_cut, tickets_end, tickets_set}

-- the last place, or one before it
pub at_end : {A : Type 0} (l : List A) (a b : A) (j : ℕ) → get_elem? (l ++ a ∷ []) j ≡ some b → (get_elem? l j ≡ some b) ⊎ ((j ≡ length l) × (a ≡ b))
at_end [] a b zero e = inr (refl, some-injective a b e)
at_end [] a b (suc j) e = absurd (some-ne-none b (sym e))
at_end (x ∷ xs) a b zero e = inl e
at_end (x ∷ xs) a b (suc j) e = ⊎_elim (λ t. inl t) (λ t. inr (ap suc t.0, t.1)) (at_end xs a b j e)

module _ {V : Type 0} (P : ℕ → V → Type 0) where
  -- each view is as before, and the new one is right
  pub each_end : (views : List V) (v : V) → ((k : ℕ) (u : V) → get_elem? views k ≡ some u → P k u) → P (length views) v → (k : ℕ) (u : V) → get_elem? (views ++ v ∷ []) k ≡ some u → P k u
  each_end views v others mine k u e =
      ⊎_elim
      (λ (t : get_elem? views k ≡ some u). others k u t)
      (λ (t : (k ≡ length views) × (v ≡ u)). subst (λ (y : ℕ × V). P y.0 y.1) (λ i. (sym t.0 i, t.1 i)) mine)
      (at_end views v u k e)

module _ {T E G : Type 0} (entries : T → List E) (ground_of : T → G) (base : ℕ) (g : G) (journal : List E) (serving : ℕ) (views : List (View E G)) where
  -- a new seat leaves the slot as it is
  pub home_end : (v : View E G) → (home : Option T) → SlotFits entries ground_of base g journal serving views home → SlotFits entries ground_of base g journal serving (views ++ v ∷ []) home
  home_end v none (h, u, there, out) = (h, u, at_longer views (v ∷ []) h u there, out)
  home_end v (some x) t = t

module _ {T E G : Type 0} (entries : T → List E) (pass_of : E → ℕ) (ground_of : T → G) (x : T) where
  -- a seat is cut in two, and nothing else changes
  pub cut : (j : ℕ) (v left right : View E G) → (HoldsSlot v.stage → ⊥) → ((k : ℕ) → ShowsTicket k v.stage → ShowsTicket k left.stage) → notes_told left + notes_told right + notes_learnt v ≡ notes_told v + (notes_learnt left + notes_learnt right)
      → ((w : LockState T E) (i : ℕ) → ViewFits pass_of (length (entries x)) (ground_of x) w j v → ViewFits pass_of (length (entries x)) (ground_of x) w j left × ViewFits pass_of (length (entries x)) (ground_of x) w i right)
      → Splits (LockRule entries pass_of ground_of x) j v left right
  cut j v left right not_out none_has even fit s h at =
      let base : ℕ = length (entries x) in
      let views : List (View E G) = set s.views j left in
      let both = fit h.w (length views) (h.each j v at) in
      let home = home_set entries ground_of base (ground_of x) h.w.journal h.w.serving s.views j v left at not_out h.w.home h.slot in
      record {
        w = h.w;
        words = h.words;
        homes = h.homes;
        slot = home_end entries ground_of base (ground_of x) h.w.journal h.w.serving views right h.w.home home;
        since = h.since;
        grows = h.grows;
        carry = h.carry;
        served = h.served;
        behind = h.behind;
        drawn = h.drawn;
        late = h.late;
        short = h.short;
        tickets = tickets_end h.w.serving h.w.next h.w.drawer views (tickets_set h.w.serving h.w.next h.w.drawer s.views h.tickets j v left at h.w.serving (omega arith) (λ k _ t. none_has k t)) right;
        notes = notes_cut s.views h.notes j v at left right even;
        each = each_end (ViewFits pass_of base (ground_of x) h.w) views right (each_set (ViewFits pass_of base (ground_of x) h.w) s.views j left (λ k u ne e. h.each k u e) both.0) both.1;
      }

  -- the same view, with no rights
  pub sheds : (j : ℕ) (v : View E G) → v.stage ≡ Idle → Splits (LockRule entries pass_of ground_of x) j v v (record v { stage = Spent })
  sheds j v idle = cut j v v (record v { stage = Spent }) (λ o. subst HoldsSlot idle o) (λ k t. t) (omega arith) (λ w i f. (f, record { stage = tt; pass = λ p. absurd p; live = λ p. absurd p; seen = f.seen; found = f.found }))
