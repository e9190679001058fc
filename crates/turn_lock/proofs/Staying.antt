-- What the rule says of the views that a step leaves.
use Rattle.std.proofs.Common.{◌≡◌, ℕ, zero, suc, ◌+◌, ◌≤◌, ◌≢◌, Bool, true, false, List, [], ◌∷◌, ◌++◌, length, set, refl, sym, ap, eqb, if◌then◌else◌, ◌∙◌, subst, arith, sum_by}
use Rattle.std.proofs.lemmas.List.Sums.{sum_by_push}
use mathlib.Core.Option.{Option, none, some, some-injective, some-ne-none}
use lib.ListN.{get_elem?}
use mathlib.Core.Logic.{dite}
use native.Mathlib.Decide.{ℕ_discrete}
use Rattle.atomic_table.proofs.Lists.{set_else, at_longer}
use Rattle.turn_lock.specs.declared.view.Stage.TheVariants.{Called, Entered, Holding, Idle, Note, Spent, Waiting}
use Rattle.turn_lock.specs.declared.view.Stage.{Stage}
use Rattle.turn_lock.specs.declared.view.View.{View}
use Rattle.turn_lock.specs.LockRule.{HasTicket, SlotFits, StageFits, TicketsAreOut, learnt_at, notes_learnt, notes_told, told_at}
use Rattle.turn_lock.specs.Views.{HoldsSlot, IsLive, IsPass, ShowsTicket}
use Rattle.turn_lock.specs.Steps.{stage_after_watch}
use Rattle.turn_lock.proofs.Lists.{put, put_else, put_here, sum_by-at, sum_by-same}

-- a boolean that is not true
pub not_true : (b : Bool) → (b ≡ true → ⊥) → b ≡ false
not_true true h = absurd (h refl)
not_true false h = refl

module _ {T E : Type 0} (base serving next : ℕ) (drawer : ℕ → ℕ) (home : Option T) (journal : List E) (j : ℕ) (seen : List E) where
  -- more tickets are drawn
  pub stage_draws : (next' : ℕ) (drawer' : ℕ → ℕ) → ((t : ℕ) → HasTicket serving next drawer j t → HasTicket serving next' drawer' j t) → (stage : Stage) → StageFits base serving next drawer home journal j seen stage → StageFits base serving next' drawer' home journal j seen stage
  stage_draws next' drawer' f Spent h = tt
  stage_draws next' drawer' f Note h = tt
  stage_draws next' drawer' f Idle h = tt
  stage_draws next' drawer' f (Waiting k) h = f k h
  stage_draws next' drawer' f (Called k) h = (f k h.0, h.1)
  stage_draws next' drawer' f (Holding k) h = (f k h.0, h.1)
  stage_draws next' drawer' f (Entered k) h = (f k h.0, h.1)

  not_now : (i : ℕ) → drawer serving ≡ i → j ≢ i → (k : ℕ) → HasTicket serving next drawer j k → k ≢ serving
  not_now i served apart k t is = apart (sym t.is ∙ (ap drawer is ∙ served))

  -- where another seat is served, this one waits
  pub stage_waits : (i : ℕ) → drawer serving ≡ i → j ≢ i → (serving' : ℕ) → serving' ≤ serving + 1 → (home' : Option T) (journal' : List E) → (stage : Stage) → StageFits base serving next drawer home journal j seen stage → StageFits base serving' next drawer home' journal' j seen stage
  stage_waits i served apart serving' near home' journal' Spent h = tt
  stage_waits i served apart serving' near home' journal' Note h = tt
  stage_waits i served apart serving' near home' journal' Idle h = tt
  stage_waits i served apart serving' near home' journal' (Waiting k) h =
      let ne : k ≢ serving = not_now i served apart k h in
      let due : serving ≤ k = h.due in
      record { due = omega arith; drawn = h.drawn; early = h.early; is = h.is }
  stage_waits i served apart serving' near home' journal' (Called k) h = absurd (not_now i served apart k h.0 h.1)
  stage_waits i served apart serving' near home' journal' (Holding k) h = absurd (not_now i served apart k h.0 h.1.now)
  stage_waits i served apart serving' near home' journal' (Entered k) h = absurd (not_now i served apart k h.0 h.1.now)

  -- who has the slot is served, and has seen all
  pub out_facts : (stage : Stage) → HoldsSlot stage → StageFits base serving next drawer home journal j seen stage → (t : ℕ) × HasTicket serving next drawer j t × (t ≡ serving) × (home ≡ none) × (seen ≡ journal) × (length journal ≤ base + serving + 1) × ShowsTicket t stage
  out_facts Spent o h = absurd o
  out_facts Note o h = absurd o
  out_facts Idle o h = absurd o
  out_facts (Waiting k) o h = absurd o
  out_facts (Called k) o h = absurd o
  out_facts (Holding k) o h = let le : length journal ≤ base + serving + 0 = h.1.room in (k, h.0, h.1.now, h.1.away, h.1.whole, omega arith, refl)
  out_facts (Entered k) o h = (k, h.0, h.1.now, h.1.away, h.1.whole, h.1.room, refl)

-- where a list has an element, it has the one that is set there
pub get_set : {A : Type 0} (l : List A) (i : ℕ) (a b : A) → get_elem? l i ≡ some a → get_elem? (set l i b) i ≡ some b
get_set [] i a b e = absurd (some-ne-none a (sym e))
get_set (x ∷ xs) zero a b e = refl
get_set (x ∷ xs) (suc i) a b e = get_set xs i a b e

module _ {T E G : Type 0} (entries : T → List E) (ground_of : T → G) (base : ℕ) (g : G) (journal : List E) (serving : ℕ) (views : List (View E G)) where
  -- a seat that has no slot changes its view
  pub home_set : (j : ℕ) (v v' : View E G) → get_elem? views j ≡ some v → (HoldsSlot v.stage → ⊥) → (home : Option T) → SlotFits entries ground_of base g journal serving views home → SlotFits entries ground_of base g journal serving (set views j v') home
  home_set j v v' at idle none (h, u, there, out) =
      let apart : h ≢ j = λ e. idle (subst (λ (x : View E G). HoldsSlot x.stage) (some-injective _ _ (sym there ∙ (ap (λ (k : ℕ). get_elem? views k) e ∙ at))) out) in
      (h, u, set_else views j h v' apart ∙ there, out)
  home_set j v v' at idle (some x) t = t

-- a watch leaves the counts of notes
pub watched_told : (n : ℕ) (z : Stage) (t : ℕ) → (told_at (stage_after_watch n z) t ≡ told_at z t) × (learnt_at (stage_after_watch n z) t ≡ learnt_at z t)
watched_told n Spent t = (refl, refl)
watched_told n Note t = (refl, refl)
watched_told n Idle t = (refl, refl)
watched_told n (Waiting k) t = one (eqb n k)
  where
    one : (b : Bool) → (told_at (if b then Called k else Waiting k) t ≡ t) × (learnt_at (if b then Called k else Waiting k) t ≡ t)
    one true = (refl, refl)
    one false = (refl, refl)
watched_told n (Called k) t = (refl, refl)
watched_told n (Holding k) t = (refl, refl)
watched_told n (Entered k) t = (refl, refl)

-- a seat with the slot counts its notes
pub out_told : (z : Stage) → HoldsSlot z → (t : ℕ) → (t ≡ told_at z t) × (t ≡ learnt_at z t)
out_told Spent o t = absurd o
out_told Note o t = absurd o
out_told Idle o t = absurd o
out_told (Waiting k) o t = absurd o
out_told (Called k) o t = absurd o
out_told (Holding k) o t = (refl, refl)
out_told (Entered k) o t = (refl, refl)

module _ {E G : Type 0} (views : List (View E G)) (balanced : sum_by notes_told views ≡ sum_by notes_learnt views) (j : ℕ) (v : View E G) (at : get_elem? views j ≡ some v) where
  -- as much was told and learnt
  pub notes_same : (v' : View E G) → notes_told v' ≡ notes_told v → notes_learnt v' ≡ notes_learnt v → sum_by notes_told (set views j v') ≡ sum_by notes_learnt (set views j v')
  notes_same v' e f = sum_by-same notes_told views j v v' at e ∙ (balanced ∙ sym (sum_by-same notes_learnt views j v v' at f))

  -- the counts of notes add up where a seat is cut in two
  pub notes_cut : (left right : View E G) → notes_told left + notes_told right + notes_learnt v ≡ notes_told v + (notes_learnt left + notes_learnt right) → sum_by notes_told (set views j left ++ right ∷ []) ≡ sum_by notes_learnt (set views j left ++ right ∷ [])
  notes_cut left right even =
      let a = sum_by-at notes_told views j v left at in
      let b = sum_by-at notes_learnt views j v left at in
      let c = sum_by_push notes_told (set views j left) right in
      let d = sum_by_push notes_learnt (set views j left) right in
      omega arith

  -- and where two seats are joined
  pub notes_merge : (both : View E G) (i : ℕ) (u z : View E G) → get_elem? (set views j both) i ≡ some u → notes_told z ≡ 0 → notes_learnt z ≡ 0 → notes_told both + (notes_learnt v + notes_learnt u) ≡ notes_told v + notes_told u + notes_learnt both → sum_by notes_told (set (set views j both) i z) ≡ sum_by notes_learnt (set (set views j both) i z)
  notes_merge both i u z there e f even =
      let a = sum_by-at notes_told views j v both at in
      let b = sum_by-at notes_learnt views j v both at in
      let c = sum_by-at notes_told (set views j both) i u z there in
      let d = sum_by-at notes_learnt (set views j both) i u z there in
      omega arith

module _ {E G : Type 0} (serving next : ℕ) (drawer : ℕ → ℕ) (views : List (View E G)) (out : TicketsAreOut serving next drawer views) where
  -- a seat keeps its ticket
  pub tickets_set : (j : ℕ) (v v' : View E G) → get_elem? views j ≡ some v → (serving' : ℕ) → serving ≤ serving' → ((k : ℕ) → serving' ≤ k → ShowsTicket k v.stage → ShowsTicket k v'.stage) → TicketsAreOut serving' next drawer (set views j v')
  tickets_set j v v' at serving' up f k due drawn early =
      let t = out k (omega arith) drawn early in
      dite (ℕ_discrete (drawer k) j)
      (λ (e : drawer k ≡ j).
      let view : t.0 ≡ v = some-injective _ _ (sym t.1 ∙ (ap (λ (n : ℕ). get_elem? views n) e ∙ at)) in
      (v', ap (λ (n : ℕ). get_elem? (set views j v') n) e ∙ get_set views j v v' at, f k due (subst (λ (z : View E G). ShowsTicket k z.stage) view t.2)))
      (λ (ne : drawer k ≢ j). (t.0, set_else views j (drawer k) v' ne ∙ t.1, t.2))

  -- a new seat has none
  pub tickets_end : (v : View E G) → TicketsAreOut serving next drawer (views ++ v ∷ [])
  tickets_end v k due drawn early = let t = out k due drawn early in (t.0, at_longer views (v ∷ []) (drawer k) t.0 t.1, t.2)

  -- the seat j, which has no ticket, draws one
  pub tickets_draw : (j : ℕ) (v v' : View E G) → get_elem? views j ≡ some v → ((k : ℕ) → ShowsTicket k v.stage → ⊥) → ShowsTicket next v'.stage → TicketsAreOut serving (next + 1) (put drawer next j) (set views j v')
  tickets_draw j v v' at idle has k due drawn early =
      dite (ℕ_discrete k next)
      (λ (e : k ≡ next). (v', ap (λ (n : ℕ). get_elem? (set views j v') n) (ap (put drawer next j) e ∙ put_here drawer next j) ∙ get_set views j v v' at, subst (λ (n : ℕ). ShowsTicket n v'.stage) (sym e) has))
      (λ (ne : k ≢ next).
      let t = out k due (omega arith) early in
      let apart : drawer k ≢ j = λ e. idle k (subst (λ (z : View E G). ShowsTicket k z.stage) (some-injective _ _ (sym t.1 ∙ (ap (λ (n : ℕ). get_elem? views n) e ∙ at))) t.2) in
      (t.0, ap (λ (n : ℕ). get_elem? (set views j v') n) (put_else drawer next j k ne) ∙ (set_else views j (drawer k) v' apart ∙ t.1), t.2))

-- who has the slot has the ticket that is served
pub out_now : (stage : Stage) (t k : ℕ) → HoldsSlot stage → ShowsTicket t stage → ShowsTicket k stage → t ≡ k
out_now Spent t k o a b = absurd o
out_now Note t k o a b = absurd o
out_now Idle t k o a b = absurd o
out_now (Waiting n) t k o a b = absurd o
out_now (Called n) t k o a b = absurd o
out_now (Holding n) t k o a b = sym a ∙ b
out_now (Entered n) t k o a b = sym a ∙ b

-- a watch leaves the ticket
pub watched_has : (n k : ℕ) (z : Stage) → ShowsTicket k z → ShowsTicket k (stage_after_watch n z)
watched_has n k Spent h = h
watched_has n k Note h = h
watched_has n k Idle h = h
watched_has n k (Waiting t) h = one (eqb n t)
  where
    one : (b : Bool) → ShowsTicket k (if b then Called t else Waiting t)
    one true = h
    one false = h
watched_has n k (Called t) h = h
watched_has n k (Holding t) h = h
watched_has n k (Entered t) h = h

-- who has the slot is a pass
pub is_pass : (stage : Stage) → HoldsSlot stage → IsPass stage
is_pass Spent o = o
is_pass Note o = o
is_pass Idle o = tt
is_pass (Waiting k) o = tt
is_pass (Called k) o = tt
is_pass (Holding k) o = tt
is_pass (Entered k) o = tt

-- and is in use
pub is_live : (stage : Stage) → HoldsSlot stage → IsLive stage
is_live Spent o = o
is_live Note o = tt
is_live Idle o = tt
is_live (Waiting k) o = tt
is_live (Called k) o = tt
is_live (Holding k) o = tt
is_live (Entered k) o = tt
