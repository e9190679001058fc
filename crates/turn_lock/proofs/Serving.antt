-- A turn is waited for, taken, and passed on.
use Rattle.std.proofs.Common.{◌≡◌, ℕ, ◌+◌, ◌%◌, ◌^◌, ◌<◌, ◌≤◌, ◌≢◌, Bool, true, false, List, [], ◌∷◌, ◌++◌, length, set, Some, refl, sym, ap, ◌∙◌, subst, arith, if◌then◌else◌, eqb, eqb-true, length-append, get_or, Contains}
use Rattle.std.specs.Prelude.{slice_index}
use Rattle.std.proofs.Math.Nat.{mod-eq_of_lt}
use Rattle.std.proofs.lemmas.List.{append_assoc}
use Rattle.std.proofs.lemmas.List.Elements.{All-push}
use mathlib.Core.Option.{Option, none, some, some-injective}
use lib.ListN.{get_elem?}
use Rattle.atomic_table.specs.Table.{State, Me, step, keeps, takes, gives, homes_after, Allows}
use Rattle.turn_lock.specs.declared.view.Stage.TheVariants.{Called, Entered, Holding, Idle, Note, Spent, Waiting}
use Rattle.turn_lock.specs.declared.view.Stage.{Stage}
use Rattle.turn_lock.specs.declared.view.View.{View}
use Rattle.turn_lock.specs.Steps.{Enters, PassesOn, Reads, Takes, Watches, after_enter, after_pass_on, after_take, after_watch, stage_after_watch}
use Rattle.turn_lock.specs.Journals.{ExtendsByOthers}
use Rattle.turn_lock.specs.LockRule.{HasSlot, HasTicket, IsGiven, LockRule, LockState, SlotFits, StageFits, ViewFits, learnt_at, notes_learnt, notes_told, told_at}
use Rattle.turn_lock.specs.Views.{HoldsSlot, IsLive, IsPass, ShowsTicket, own_numbers}
use Rattle.turn_lock.specs.Meanings.{MAX_TURNS}
use Rattle.turn_lock.proofs.Lists.{Contains-head, each_set, none_in_nil}
use Rattle.turn_lock.proofs.Staying.{get_set, home_set, is_live, is_pass, notes_same, out_facts, out_now, out_told, stage_waits, tickets_set, watched_has, watched_told}
use Rattle.turn_lock.proofs.Extending.{goes_all, goes_longer}

module _ {T E G : Type 0} (entries : T → List E) (pass_of : E → ℕ) (ground_of : T → G) (x : T) (s : State T (View E G)) (h : LockRule entries pass_of ground_of x s) (j : ℕ) (v : View E G) (at : get_elem? s.views j ≡ some v) where
  abbrev base : ℕ
  base = length (entries x)

  abbrev Fit : LockState T E → ℕ → View E G → Type 0
  Fit w k u = ViewFits pass_of base (ground_of x) w k u

  mine : Fit h.w j v
  mine = h.each j v at

  -- a seat that has no slot changes its view, and nothing else changes
  pub same_state : (ws : List ℕ) → ws ≡ h.w.next ∷ h.w.serving ∷ length h.w.journal ∷ [] → (HoldsSlot v.stage → ⊥) → (v' : View E G) → notes_told v' ≡ notes_told v → notes_learnt v' ≡ notes_learnt v → ((k : ℕ) → ShowsTicket k v.stage → ShowsTicket k v'.stage) → Fit h.w j v' → LockRule entries pass_of ground_of x record { words = ws; homes = s.homes; views = set s.views j v' }
  same_state ws words not_out v' e f has fit = record {
    w = h.w;
    words = words;
    homes = h.homes;
    slot = home_set entries ground_of base (ground_of x) h.w.journal h.w.serving s.views j v v' at not_out h.w.home h.slot;
    since = h.since;
    grows = h.grows;
    carry = h.carry;
    served = h.served;
    behind = h.behind;
    drawn = h.drawn;
    late = h.late;
    short = h.short;
    tickets = tickets_set h.w.serving h.w.next h.w.drawer s.views h.tickets j v v' at h.w.serving (omega arith) (λ k _ t. has k t);
    notes = notes_same s.views h.notes j v at v' e f;
    each = each_set (Fit h.w) s.views j v' (λ k u ne e. h.each k u e) fit;
  }

  -- where this seat is served, the slot is at home
  pub is_home : (k : ℕ) → v.stage ≡ Called k → (y : T) × (h.w.home ≡ some y) × (entries y ≡ h.w.journal) × (ground_of y ≡ ground_of x) × (length h.w.journal ≤ base + h.w.serving)
  is_home k called = cases h.w.home refl h.slot
    where
      cases : (home : Option T) → h.w.home ≡ home → SlotFits entries ground_of base (ground_of x) h.w.journal h.w.serving s.views home → (y : T) × (h.w.home ≡ some y) × (entries y ≡ h.w.journal) × (ground_of y ≡ ground_of x) × (length h.w.journal ≤ base + h.w.serving)
      cases none is (i, u, there, out) =
          let f = h.each i u there in
          let o = out_facts base h.w.serving h.w.next h.w.drawer h.w.home h.w.journal i u.seen u.stage out f.stage in
          let c : HasTicket h.w.serving h.w.next h.w.drawer j k × (k ≡ h.w.serving) = subst (StageFits base h.w.serving h.w.next h.w.drawer h.w.home h.w.journal j v.seen) called mine.stage in
          let same : i ≡ j = sym o.1.is ∙ (ap h.w.drawer (o.2 ∙ sym c.1) ∙ c.0.is) in
          let view : u ≡ v = some-injective _ _ (sym there ∙ (ap (λ (n : ℕ). get_elem? s.views n) same ∙ at)) in
          absurd (subst HoldsSlot (ap (λ (z : View E G). z.stage) view ∙ called) out)
      cases (some y) is t = (y, is, t.0, t.1, t.2)

module _ {T E G : Type 0} (entries : T → List E) (pass_of : E → ℕ) (ground_of : T → G) (x : T) where
  -- watch
  pub watches : (j : ℕ) (me : Me T (View E G)) (k : ℕ) → me.0.stage ≡ Waiting k → Allows (LockRule entries pass_of ground_of x) 1 j me 1 (λ n. n) (Watches (step 0 0 0 0 none) me)
  watches j me k waits s h deep at small =
      let n : ℕ = slice_index s.words 1 in
      let v = me.0 in
      let is : n ≡ h.w.serving = ap (λ (l : List ℕ). slice_index l 1) h.words in
      let words : set s.words 1 n ≡ h.w.next ∷ h.w.serving ∷ length h.w.journal ∷ [] = ap (λ (l : List ℕ). set l 1 (slice_index l 1)) h.words in
      let f : ViewFits pass_of (length (entries x)) (ground_of x) h.w j v = h.each j v at in
      let t : HasTicket h.w.serving h.w.next h.w.drawer j k = subst (StageFits (length (entries x)) h.w.serving h.w.next h.w.drawer h.w.home h.w.journal j v.seen) waits f.stage in
      let at_stage : (b : Bool) → eqb n k ≡ b → ViewFits pass_of (length (entries x)) (ground_of x) h.w j (record v { stage = if b then Called k else Waiting k })
      = elim [
        | true ↦ λ e. record { stage = (t, sym (eqb-true _ _ e) ∙ is); pass = λ _. f.pass (subst IsPass (sym waits) tt); live = λ _. f.live (subst IsLive (sym waits) tt); seen = f.seen; found = f.found }
        | false ↦ λ e. record { stage = t; pass = λ _. f.pass (subst IsPass (sym waits) tt); live = λ _. f.live (subst IsLive (sym waits) tt); seen = f.seen; found = f.found }
      ] in
      let fit : ViewFits pass_of (length (entries x)) (ground_of x) h.w j (after_watch n v) = subst (λ (z : Stage). ViewFits pass_of (length (entries x)) (ground_of x) h.w j (record v { stage = stage_after_watch n z })) (sym waits) (at_stage (eqb n k) refl) in
      (after_watch n v, keeps, tt, same_state entries pass_of ground_of x s h j v at _ words (λ o. subst HoldsSlot waits o) _ (watched_told n v.stage v.told).0 (watched_told n v.stage v.learnt).1 (λ t. watched_has n t v.stage) fit, (refl, refl))

  -- take
  pub taken : (j : ℕ) (me : Me T (View E G)) (k : ℕ) → me.0.stage ≡ Called k → Allows (LockRule entries pass_of ground_of x) 1 j me 1 (λ n. (n + 0) % 2 ^ 64) (Takes entries pass_of ground_of (step 0 0 0 0 none) me)
  taken j me k called s h deep at small =
      let v = me.0 in
      let base : ℕ = length (entries x) in
      let n : ℕ = slice_index s.words 1 in
      let f : ViewFits pass_of base (ground_of x) h.w j v = h.each j v at in
      let c : HasTicket h.w.serving h.w.next h.w.drawer j k × (k ≡ h.w.serving) = subst (StageFits base h.w.serving h.w.next h.w.drawer h.w.home h.w.journal j v.seen) called f.stage in
      let p = f.pass (subst IsPass (sym called) tt) in
      let y = is_home entries pass_of ground_of x s h j v at k called in
      let w' : LockState T E = record h.w { home = none } in
      let v' : View E G = after_take k (entries y.0) v in
      let homes : s.homes ≡ some y.0 ∷ [] = h.homes ∙ ap (λ (o : Option T). o ∷ []) y.1 in
      let there : get_elem? s.homes 0 ≡ some (some y.0) = ap (λ (l : List (Option T)). get_elem? l 0) homes in
      let away : set s.homes 0 none ≡ none ∷ [] = ap (λ (l : List (Option T)). set l 0 none) homes in
      let fits : (n + 0) % 2 ^ 64 ≡ n = ap (λ (m : ℕ). m % 2 ^ 64) (omega arith) ∙ mod-eq_of_lt small in
      let words : set s.words 1 ((n + 0) % 2 ^ 64) ≡ h.w.next ∷ h.w.serving ∷ length h.w.journal ∷ [] = ap (λ (m : ℕ). set s.words 1 m) fits ∙ ap (λ (l : List ℕ). set l 1 (slice_index l 1)) h.words in
      let served : h.w.drawer h.w.serving ≡ j = ap h.w.drawer (sym c.1) ∙ c.0.is in
      let grown : base + length h.since ≡ length h.w.journal = sym (length-append (entries x) h.since) ∙ ap length h.grows in
      let whole : length (entries y.0) ≡ length h.w.journal = ap length y.2 in
      let near : length h.w.journal ≤ base + h.w.serving = y.4 in
      let others : (i : ℕ) (u : View E G) → i ≢ j → ViewFits pass_of base (ground_of x) h.w i u → ViewFits pass_of base (ground_of x) w' i u
      = λ i u apart e. record { stage = stage_waits base h.w.serving h.w.next h.w.drawer h.w.home h.w.journal i u.seen j served apart h.w.serving (omega arith) none h.w.journal u.stage e.stage; pass = e.pass; live = e.live; seen = e.seen; found = e.found } in
      let mine : ViewFits pass_of base (ground_of x) w' j v' = record {
        stage = (c.0, record { now = c.1; away = refl; whole = y.2; room = omega arith });
        pass = λ _. record { sees = goes_all pass_of (entries y.0) h.w.journal _ y.2; sees_pending = p.sees_pending; owns = p.owns; owns_pending = p.owns_pending; small = p.small; late = p.late; root = p.root };
        live = λ _. ((f.live (subst IsLive (sym called) tt)).0, omega arith);
        seen = goes_all pass_of (entries y.0) h.w.journal _ y.2;
        found = f.found;
      } in
      let kept : LockRule entries pass_of ground_of x record { words = set s.words 1 ((n + 0) % 2 ^ 64); homes = set s.homes 0 none; views = set s.views j v' } = record {
        w = w';
        words = words;
        homes = away;
        slot = (j, v', get_set s.views j v v' at, tt);
        since = h.since;
        grows = h.grows;
        carry = h.carry;
        served = h.served;
        behind = h.behind;
        drawn = h.drawn;
        late = h.late;
        short = h.short;
        tickets = tickets_set h.w.serving h.w.next h.w.drawer s.views h.tickets j v v' at h.w.serving (omega arith) (λ t _ o. subst (ShowsTicket t) called o);
        notes = notes_same s.views h.notes j v at v' (sym (ap (λ (z : Stage). told_at z v.told) called)) (sym (ap (λ (z : Stage). learnt_at z v.learnt) called));
        each = each_set (ViewFits pass_of base (ground_of x) w') s.views j v' (λ i u ne e. others i u ne (h.each i u e)) mine;
      } in
      let known : v.the_ground ≡ Some (ground_of x) = (f.live (subst IsLive (sym called) tt)).0 in
      let same : Some (ground_of y.0) ≡ v.the_ground = ap Some y.3 ∙ sym known in
      let more : ExtendsByOthers pass_of v.seen (entries y.0) (own_numbers v) = subst (λ (l : List E). ExtendsByOthers pass_of v.seen l (own_numbers v)) (sym y.2) p.sees in
      (v', takes 0 y.0, there, kept, λ k' called'. (y.0, refl, ap (λ (t : ℕ). after_take t (entries y.0) v) (same_ticket (sym called ∙ called')), record { same = same; more = more }))
    where
      ticket_of : Stage → ℕ
      ticket_of Spent = 0
      ticket_of Note = 0
      ticket_of Idle = 0
      ticket_of (Waiting t) = t
      ticket_of (Called t) = t
      ticket_of (Holding t) = t
      ticket_of (Entered t) = t

      same_ticket : {a b : ℕ} → Called a ≡ Called b → a ≡ b
      same_ticket e = cc

  -- enter
  pub enters : (j : ℕ) (me : Me T (View E G)) (k : ℕ) (y : T) (e : E) → me.0.stage ≡ Holding k → me.1 ≡ (0, y) ∷ [] → entries y ≡ me.0.seen ++ e ∷ [] → pass_of e ≡ me.0.number → me.0.pending_numbers ≡ [] → Allows (LockRule entries pass_of ground_of x) 1 j me 2 (λ n. (n + 1) % 2 ^ 64) (Enters entries (step 0 0 0 0 none) me)
  enters j me k y e holds carried list carries settled s h deep at small =
      let v = me.0 in
      let base : ℕ = length (entries x) in
      let n : ℕ = slice_index s.words 2 in
      let f : ViewFits pass_of base (ground_of x) h.w j v = h.each j v at in
      let c : HasTicket h.w.serving h.w.next h.w.drawer j k × HasSlot base h.w.serving h.w.home h.w.journal v.seen k 0 = subst (StageFits base h.w.serving h.w.next h.w.drawer h.w.home h.w.journal j v.seen) holds f.stage in
      let p = f.pass (subst IsPass (sym holds) tt) in
      let journal : List E = h.w.journal ++ e ∷ [] in
      let w' : LockState T E = record h.w { journal = journal } in
      let v' : View E G = after_enter k (entries y) v in
      let whole : entries y ≡ journal = list ∙ ap (λ (l : List E). l ++ e ∷ []) c.1.whole in
      let one_more : length journal ≡ length h.w.journal + 1 = length-append h.w.journal (e ∷ []) in
      let room : length h.w.journal ≤ base + h.w.serving + 0 = c.1.room in
      let short : base < MAX_TURNS = h.short in
      let far : h.w.serving ≤ MAX_TURNS = h.served in
      let is : n ≡ length h.w.journal = ap (λ (l : List ℕ). slice_index l 2) h.words in
      let fits : (n + 1) % 2 ^ 64 ≡ length journal = ap (λ (m : ℕ). (m + 1) % 2 ^ 64) is ∙ (mod-eq_of_lt (omega arith) ∙ sym one_more) in
      let words : set s.words 2 ((n + 1) % 2 ^ 64) ≡ h.w.next ∷ h.w.serving ∷ length journal ∷ [] = ap (λ (m : ℕ). set s.words 2 m) fits ∙ ap (λ (l : List ℕ). set l 2 (length journal)) h.words in
      let served : h.w.drawer h.w.serving ≡ j = ap h.w.drawer (sym c.1.now) ∙ c.0.is in
      let longer : length (entries y) ≡ length journal = ap length whole in
      let grown : base + length h.since ≡ length h.w.journal = sym (length-append (entries x) h.since) ∙ ap length h.grows in
      let others : (i : ℕ) (u : View E G) → i ≢ j → ViewFits pass_of base (ground_of x) h.w i u → ViewFits pass_of base (ground_of x) w' i u
      = λ i u apart r. record {
        stage = stage_waits base h.w.serving h.w.next h.w.drawer h.w.home h.w.journal i u.seen j served apart h.w.serving (omega arith) h.w.home journal u.stage r.stage;
        pass = λ q. let a = r.pass q in
            record {
              sees = goes_longer pass_of u.seen h.w.journal _ e (λ is'. apart (sym (a.owns (pass_of e) is').0 ∙ (ap h.w.owner carries ∙ (p.owns v.number (Contains-head v.number v.took)).0))) a.sees;
              sees_pending = goes_longer pass_of u.pending h.w.journal _ e (λ is'. apart (sym (a.owns_pending (pass_of e) is').0 ∙ (ap h.w.owner carries ∙ (p.owns v.number (Contains-head v.number v.took)).0))) a.sees_pending;
              owns = a.owns;
              owns_pending = a.owns_pending;
              small = a.small;
              late = a.late;
              root = a.root;
            };
        live = r.live;
        seen = goes_longer pass_of u.seen h.w.journal [] e (none_in_nil (pass_of e)) r.seen;
        found = r.found;
      } in
      let mine : ViewFits pass_of base (ground_of x) w' j v' = record {
        stage = (c.0, record { now = c.1.now; away = c.1.away; whole = whole; room = omega arith });
        pass = λ _. record { sees = goes_all pass_of (entries y) journal _ whole; sees_pending = goes_longer pass_of v.pending h.w.journal _ e (λ z. none_in_nil (pass_of e) (subst (λ (l : List ℕ). Contains l (pass_of e)) settled z)) p.sees_pending; owns = p.owns; owns_pending = p.owns_pending; small = p.small; late = p.late; root = p.root };
        live = λ _. ((f.live (subst IsLive (sym holds) tt)).0, omega arith);
        seen = goes_all pass_of (entries y) journal _ whole;
        found = f.found;
      } in
      let kept : LockRule entries pass_of ground_of x record { words = set s.words 2 ((n + 1) % 2 ^ 64); homes = s.homes; views = set s.views j v' } = record {
        w = w';
        words = words;
        homes = h.homes;
        slot = subst (SlotFits entries ground_of base (ground_of x) journal h.w.serving (set s.views j v')) (sym c.1.away) (j, v', get_set s.views j v v' at, tt);
        since = h.since ++ e ∷ [];
        grows = sym (append_assoc (entries x) h.since (e ∷ [])) ∙ ap (λ (l : List E). l ++ e ∷ []) h.grows;
        carry = All-push (λ (e : E). IsGiven h.w.gave (pass_of e)) h.since e h.carry (subst (IsGiven h.w.gave) (sym carries) (p.owns v.number (Contains-head v.number v.took)).1);
        served = h.served;
        behind = h.behind;
        drawn = h.drawn;
        late = h.late;
        short = h.short;
        tickets = tickets_set h.w.serving h.w.next h.w.drawer s.views h.tickets j v v' at h.w.serving (omega arith) (λ t _ o. subst (ShowsTicket t) holds o);
        notes = notes_same s.views h.notes j v at v' (sym (ap (λ (z : Stage). told_at z v.told) holds)) (sym (ap (λ (z : Stage). learnt_at z v.learnt) holds));
        each = each_set (ViewFits pass_of base (ground_of x) w') s.views j v' (λ i u ne r. others i u ne (h.each i u r)) mine;
      } in
      (v', keeps, tt, kept, (refl, λ k' y' holds' carried'. same_view k k' y y' (sym holds ∙ holds') (sym carried ∙ carried')))
    where
      same_view : (k k' : ℕ) (y y' : T) → Holding k ≡ Holding k' → ◌≡◌ {A = List (ℕ × T)} ((0, y) ∷ []) ((0, y') ∷ []) → after_enter k (entries y) me.0 ≡ after_enter k' (entries y') me.0
      same_view k k' y y' a b = let t : k ≡ k' = cc in let u : y ≡ y' = ap (λ (l : List (ℕ × T)). (get_or l 0 (0, y)).1) b in λ i. after_enter (t i) (entries (u i)) me.0

  -- pass on
  pub passes : (j : ℕ) (me : Me T (View E G)) (y : T) → HoldsSlot me.0.stage → me.1 ≡ (0, y) ∷ [] → entries y ≡ me.0.seen → Some (ground_of y) ≡ me.0.the_ground → Allows (LockRule entries pass_of ground_of x) 1 j me 1 (λ n. (n + 1) % 2 ^ 64) (PassesOn (step 0 0 0 0 none) me)
  passes j me y out carried list same s h deep at small =
      let v = me.0 in
      let base : ℕ = length (entries x) in
      let n : ℕ = slice_index s.words 1 in
      let f : ViewFits pass_of base (ground_of x) h.w j v = h.each j v at in
      let o = out_facts base h.w.serving h.w.next h.w.drawer h.w.home h.w.journal j v.seen v.stage out f.stage in
      let p = f.pass (is_pass v.stage out) in
      let w' : LockState T E = record h.w { serving = h.w.serving + 1; home = some y } in
      let v' : View E G = after_pass_on v in
      let far : h.w.serving ≤ MAX_TURNS = h.served in
      let is : n ≡ h.w.serving = ap (λ (l : List ℕ). slice_index l 1) h.words in
      let fits : (n + 1) % 2 ^ 64 ≡ h.w.serving + 1 = ap (λ (m : ℕ). (m + 1) % 2 ^ 64) is ∙ mod-eq_of_lt (omega arith) in
      let words : set s.words 1 ((n + 1) % 2 ^ 64) ≡ h.w.next ∷ (h.w.serving + 1) ∷ length h.w.journal ∷ [] = ap (λ (m : ℕ). set s.words 1 m) fits ∙ ap (λ (l : List ℕ). set l 1 (h.w.serving + 1)) h.words in
      let early : o.0 < MAX_TURNS = o.1.early in
      let drawn : o.0 < h.w.next = o.1.drawn in
      let now : o.0 ≡ h.w.serving = o.2 in
      let room : length h.w.journal ≤ base + h.w.serving + 1 = o.5 in
      let served : h.w.drawer h.w.serving ≡ j = ap h.w.drawer (sym o.2) ∙ o.1.is in
      let back : homes_after s.homes me.1 gives ≡ some y ∷ [] = ap (λ (l : List (ℕ × T)). homes_after s.homes l gives) carried ∙ ap (λ (l : List (Option T)). set l 0 (some y)) h.homes in
      let known : v.the_ground ≡ Some (ground_of x) = (f.live (is_live v.stage out)).0 in
      let others : (i : ℕ) (u : View E G) → i ≢ j → ViewFits pass_of base (ground_of x) h.w i u → ViewFits pass_of base (ground_of x) w' i u
      = λ i u apart e. record { stage = stage_waits base h.w.serving h.w.next h.w.drawer h.w.home h.w.journal i u.seen j served apart (h.w.serving + 1) (omega arith) (some y) h.w.journal u.stage e.stage; pass = e.pass; live = e.live; seen = e.seen; found = e.found } in
      let mine : ViewFits pass_of base (ground_of x) w' j v' = record {
        stage = tt;
        pass = λ _. p;
        live = λ _. f.live (is_live v.stage out);
        seen = f.seen;
        found = f.found;
      } in
      let kept : LockRule entries pass_of ground_of x record { words = set s.words 1 ((n + 1) % 2 ^ 64); homes = homes_after s.homes me.1 gives; views = set s.views j v' } = record {
        w = w';
        words = words;
        homes = back;
        slot = (list ∙ o.4, some_is _ _ (same ∙ known), omega arith);
        since = h.since;
        grows = h.grows;
        carry = h.carry;
        served = omega arith;
        behind = omega arith;
        drawn = h.drawn;
        late = h.late;
        short = h.short;
        tickets = tickets_set h.w.serving h.w.next h.w.drawer s.views h.tickets j v v' at (h.w.serving + 1) (omega arith) (λ t up o'. let is : o.0 ≡ t = out_now v.stage o.0 t out o.6 o' in absurd (omega arith));
        notes = notes_same s.views h.notes j v at v' (out_told v.stage out v.told).0 (out_told v.stage out v.learnt).1;
        each = each_set (ViewFits pass_of base (ground_of x) w') s.views j v' (λ i u ne r. others i u ne (h.each i u r)) mine;
      } in
      (v', gives, tt, kept, (refl, refl))
    where
      some_is : (a b : G) → Some a ≡ Some b → a ≡ b
      some_is a b e = cc

  -- read: nothing was taken in
  pub looks : (j : ℕ) (me : Me T (View E G)) → me.0.stage ≡ Idle → Allows (LockRule entries pass_of ground_of x) 1 j me 2 (λ n. n) (Reads (step 0 0 0 0 none) me)
  looks j me rests s h deep at small =
      let words : set s.words 2 (slice_index s.words 2) ≡ h.w.next ∷ h.w.serving ∷ length h.w.journal ∷ [] = ap (λ (l : List ℕ). set l 2 (slice_index l 2)) h.words in
      let f : ViewFits pass_of (length (entries x)) (ground_of x) h.w j me.0 = h.each j me.0 at in
      let is : slice_index s.words 2 ≡ length h.w.journal = ap (λ (l : List ℕ). slice_index l 2) h.words in
      let whole : length me.0.seen + length f.seen.more ≡ length h.w.journal = sym (length-append me.0.seen f.seen.more) ∙ ap length f.seen.is in
      (me.0, keeps, tt, same_state entries pass_of ground_of x s h j me.0 at _ words (λ o. subst HoldsSlot rests o) _ refl refl (λ k t. t) f, (refl, refl, omega arith))
