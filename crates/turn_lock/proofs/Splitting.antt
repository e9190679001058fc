-- A pass is cut off, and a note.
use Rattle.std.proofs.Common.{◌≡◌, ℕ, ◌<◌, ◌≤◌, ◌≢◌, List, [], ◌∷◌, ◌++◌, length, set, sym, ap, ◌∙◌, subst, inl, inr, ⊎_elim, arith, ◌+◌, All, Contains}
use Rattle.std.proofs.lemmas.List.Elements.{All-weaker, Contains-append_left, Contains-push}
use Rattle.atomic_table.specs.Table.{Splits}
use Rattle.turn_lock.specs.declared.view.Stage.TheVariants.{Idle}
use Rattle.turn_lock.specs.declared.view.Stage.{Stage}
use Rattle.turn_lock.specs.declared.view.View.{View}
use Rattle.turn_lock.specs.Views.{HoldsSlot, IsLive, IsPass}
use Rattle.turn_lock.specs.Journals.{IsByOthers}
use Rattle.turn_lock.specs.LockRule.{IsGiven, LockRule, LockState, StageFits, ViewFits, learnt_at, told_at}
use Rattle.turn_lock.specs.Steps.{after_giving, after_telling, new_note, new_pass}
use Rattle.turn_lock.proofs.Lists.{All-back, Contains-cons_cases, Contains-head, beginnings, each_set, none_in_nil, put, put_else, put_here}
use Rattle.turn_lock.proofs.Seats.{cut, each_end, home_end}
use Rattle.turn_lock.proofs.Extending.{goes_none}
use Rattle.turn_lock.proofs.Staying.{home_set, notes_cut, tickets_end, tickets_set}

-- one number more is given
pub Given-snoc : (gave : List ℕ) (n m : ℕ) → IsGiven gave n → IsGiven (gave ++ m ∷ []) n
Given-snoc gave n m t = ⊎_elim (λ e. inl e) (λ a. inr (Contains-append_left gave (m ∷ []) n a)) t

module _ {T E G : Type 0} (entries : T → List E) (pass_of : E → ℕ) (ground_of : T → G) (x : T) where
  -- split of a note
  pub tells : (j : ℕ) (v : View E G) → v.stage ≡ Idle → Splits (LockRule entries pass_of ground_of x) j v (after_telling v) (new_note v)
  tells j v idle =
      cut entries pass_of ground_of x j v (after_telling v) (new_note v) (λ o. subst HoldsSlot idle o) (λ k t. t) (subst (λ (z : Stage). told_at z (v.told + 1) + 0 + learnt_at z v.learnt ≡ told_at z v.told + (learnt_at z v.learnt + (0 + 1))) (sym idle) (omega arith))
      (λ w i f. (
        record { stage = f.stage; pass = f.pass; live = f.live; seen = f.seen; found = f.found },
        record { stage = tt; pass = λ p. absurd p; live = λ p. f.live (subst IsLive (sym idle) tt); seen = f.seen; found = f.found },
      ))

  -- split of a pass
  pub splits : (j : ℕ) (v : View E G) (n : ℕ) → v.stage ≡ Idle → v.number ≡ 0 → 0 < n → n < 64 → (Contains v.gave n → ⊥) → Splits (LockRule entries pass_of ground_of x) j v (after_giving n v) (new_pass n v)
  splits j v n idle root above small new s h at =
      let base : ℕ = length (entries x) in
      let f : ViewFits pass_of base (ground_of x) h.w j v = h.each j v at in
      let p = f.pass (subst IsPass (sym idle) tt) in
      let views : List (View E G) = set s.views j (after_giving n v) in
      let w' : LockState T E = record h.w { gave = h.w.gave ++ n ∷ []; owner = put h.w.owner n (length views) } in
      let same : v.gave ≡ h.w.gave = p.root root in
      let fresh : IsGiven h.w.gave n → ⊥ = λ t. ⊎_elim (λ (e : n ≡ 0). absurd (omega arith)) (λ (a : Contains h.w.gave n). new (subst (λ (l : List ℕ). Contains l n) (sym same) a)) t in
      let keep : (k m : ℕ) → (h.w.owner m ≡ k) × IsGiven h.w.gave m → (put h.w.owner n (length views) m ≡ k) × IsGiven (h.w.gave ++ n ∷ []) m
      = λ k m t. (put_else h.w.owner n (length views) m (λ (e : m ≡ n). fresh (subst (IsGiven h.w.gave) e t.1)) ∙ t.0, Given-snoc h.w.gave m n t.1) in
      let others : (k : ℕ) (u : View E G) → k ≢ j → ViewFits pass_of base (ground_of x) h.w k u → ViewFits pass_of base (ground_of x) w' k u
      = λ k u apart r. record {
        stage = r.stage;
        pass = λ q. let a = r.pass q in
            record {
              sees = a.sees;
              sees_pending = a.sees_pending;
              owns = λ m is. keep k m (a.owns m is);
              owns_pending = λ m is. keep k m (a.owns_pending m is);
              small = a.small;
              late = a.late;
              root = λ (e : u.number ≡ 0). absurd (apart (sym (a.owns u.number (Contains-head u.number u.took)).0 ∙ (ap h.w.owner (e ∙ sym root) ∙ (p.owns v.number (Contains-head v.number v.took)).0)));
            };
        live = r.live;
        seen = r.seen;
        found = r.found;
      } in
      let left : ViewFits pass_of base (ground_of x) w' j (after_giving n v) = record {
        stage = f.stage;
        pass = λ _. record {
          sees = p.sees;
          sees_pending = p.sees_pending;
          owns = λ m is. keep j m (p.owns m is);
          owns_pending = λ m is. keep j m (p.owns_pending m is);
          small = p.small;
          late = p.late;
          root = λ _. ap (λ (l : List ℕ). l ++ n ∷ []) same;
        };
        live = f.live;
        seen = f.seen;
        found = f.found;
      } in
      let long : base ≤ length v.seen = (f.live (subst IsLive (sym idle) tt)).1 in
      let t = beginnings (entries x) v.seen h.since p.sees.more (h.grows ∙ sym p.sees.is) long in
      let given : All (λ (e : E). IsGiven h.w.gave (pass_of e)) p.sees.more = All-back (λ (e : E). IsGiven h.w.gave (pass_of e)) t.0 p.sees.more (subst (All (λ (e : E). IsGiven h.w.gave (pass_of e))) t.2 h.carry) in
      let not_new : All (IsByOthers pass_of (n ∷ [])) p.sees.more
      = All-weaker (λ (e : E). IsGiven h.w.gave (pass_of e)) (IsByOthers pass_of (n ∷ [])) (λ e g is. ⊎_elim (λ (q : pass_of e ≡ n). fresh (subst (IsGiven h.w.gave) q g)) (none_in_nil (pass_of e)) (Contains-cons_cases n [] (pass_of e) is)) p.sees.more given in
      let right : ViewFits pass_of base (ground_of x) w' (length views) (new_pass n v) = record {
        stage = subst (StageFits base h.w.serving h.w.next h.w.drawer h.w.home h.w.journal (length views) v.seen) (sym idle) tt;
        pass = λ _. record {
          sees = record { more = p.sees.more; is = p.sees.is; by_others = not_new };
          sees_pending = goes_none pass_of h.w.journal;
          owns = λ m is. ⊎_elim (λ (e : m ≡ n). (ap (put h.w.owner n (length views)) e ∙ put_here h.w.owner n (length views), inr (subst (λ (k : ℕ). Contains (h.w.gave ++ n ∷ []) k) (sym e) (Contains-push h.w.gave n)))) (λ z. absurd (none_in_nil m z)) (Contains-cons_cases n [] m is);
          owns_pending = λ m is. absurd (none_in_nil m is);
          small = small;
          late = λ e. absurd (fresh (h.late n e));
          root = λ (e : n ≡ 0). absurd (omega arith);
        };
        live = λ _. f.live (subst IsLive (sym idle) tt);
        seen = f.seen;
        found = f.found;
      } in
      let home = home_set entries ground_of base (ground_of x) h.w.journal h.w.serving s.views j v (after_giving n v) at (λ o. subst HoldsSlot idle o) h.w.home h.slot in
      record {
        w = w';
        words = h.words;
        homes = h.homes;
        slot = home_end entries ground_of base (ground_of x) h.w.journal h.w.serving views (new_pass n v) h.w.home home;
        since = h.since;
        grows = h.grows;
        carry = All-weaker (λ (e : E). IsGiven h.w.gave (pass_of e)) (λ (e : E). IsGiven (h.w.gave ++ n ∷ []) (pass_of e)) (λ e g. Given-snoc h.w.gave (pass_of e) n g) h.since h.carry;
        served = h.served;
        behind = h.behind;
        drawn = h.drawn;
        late = λ m e. Given-snoc h.w.gave m n (h.late m e);
        short = h.short;
        tickets = tickets_end h.w.serving h.w.next h.w.drawer views (tickets_set h.w.serving h.w.next h.w.drawer s.views h.tickets j v (after_giving n v) at h.w.serving (omega arith) (λ k _ t. t)) (new_pass n v);
        notes = notes_cut s.views h.notes j v at (after_giving n v) (new_pass n v) (subst (λ (z : Stage). told_at z v.told + told_at z 0 + learnt_at z v.learnt ≡ told_at z v.told + (learnt_at z v.learnt + learnt_at z 0)) (sym idle) (omega arith));
        each = each_end (ViewFits pass_of base (ground_of x) w') views (new_pass n v) (each_set (ViewFits pass_of base (ground_of x) w') s.views j (after_giving n v) (λ k u ne e. others k u ne (h.each k u e)) left) right;
      }
