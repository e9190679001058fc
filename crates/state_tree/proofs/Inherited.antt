-- What the value of every command gives and keeps holds of all environments and states of every replay.
use Rattle.std.proofs.Common.{◌≡◌, ℕ, zero, suc, nat_lt, Bool, true, false, cond, List, [], ◌∷◌, ◌++◌, length, map, Option, None, Some, refl, sym, ◌∙◌, ap, subst, slice_get, option_map}
use Rattle.repl_json.specs.Names.{env_named, one_named, two_named}
use Rattle.repl_json.specs.declared.request.Ask.{Ask}
use Rattle.repl_json.specs.declared.request.Ask.TheVariants.{Bad, Delete, Reset, Stat}
use Rattle.repl_json.specs.declared.request.Request.{Request}
use Rattle.state_tree.specs.declared.slot.Slot.{Slot}
use Rattle.state_tree.specs.declared.work.Found.{Found}
use Rattle.state_tree.specs.declared.work.Entry.{Entry}
use Rattle.state_tree.specs.declared.work.Gave.{Gave}
use Rattle.state_tree.specs.declared.work.Gave.TheVariants.{Answer, Memory}
use Rattle.state_tree.specs.Value.{Value, Says, MakesEnv, MakesState}
use Rattle.state_tree.specs.Server.{PlainTree, Stepped, ◌or◌, or_else, bad_case, unknown_env, unless_live, unknown_state, flag_case, early_case, memory_case, value_case, answer, step, after_all, opening, replay, env_at, state_at, found_in}
use Rattle.state_tree.specs.Marks.{states_in, marked, mark_named, marks_after, marks_in, marks_of, EachHas, EachIs, HasIt, IsIt, Makes, IsInherited}
use Rattle.state_tree.proofs.Stays.{values_without, values_ended, values_append, get_value}

-- ---- a step that makes nothing

module _ {E S : Type 0} where
  -- the environments are the same, and so are the states under their ids
  pub record Same (t : PlainTree E S) (x : Stepped E S) : Type 0 where
    pub envs : x.envs ≡ t.envs
    pub states : states_in x.states ≡ states_in t.states

  abbrev SameSome : PlainTree E S → Option (Stepped E S) → Type 0
  SameSome t None = Unit {0}
  SameSome t (Some x) = Same t x

  same_or : (t : PlainTree E S) (x y : Option (Stepped E S)) → SameSome t x → SameSome t y → SameSome t (x or y)
  same_or t None y p q = q
  same_or t (Some x) y p q = p

  same_unless : (t : PlainTree E S) (b : Bool) (x : Stepped E S) → Same t x → SameSome t (cond b None (Some x))
  same_unless t true x p = tt
  same_unless t false x p = p

  same_if : (t : PlainTree E S) (b : Bool) (x : Stepped E S) → Same t x → SameSome t (cond b (Some x) None)
  same_if t true x p = p
  same_if t false x p = tt

  same_env : (t : PlainTree E S) (named : Option ℕ) → SameSome t (unknown_env t named)
  same_env t None = tt
  same_env t (Some id) = same_unless t (nat_lt id (length t.envs)) _ (record { envs = refl; states = refl })

  same_slot : (t : PlainTree E S) (id : ℕ) (slot : Option (Slot S)) → SameSome t (unless_live t id slot)
  same_slot t id None = record { envs = refl; states = refl }
  same_slot t id (Some slot) = same_unless t slot.live _ (record { envs = refl; states = refl })

  same_state : (t : PlainTree E S) (named : Option ℕ) → SameSome t (unknown_state t named)
  same_state t None = tt
  same_state t (Some id) = same_slot t id (slice_get t.states id)

  same_bad : (t : PlainTree E S) (ask : Ask) → SameSome t (bad_case t ask)
  same_bad t (Bad bad) = record { envs = refl; states = refl }
  same_bad t ask = tt

  same_flag : (t : PlainTree E S) (ask : Ask) → SameSome t (flag_case t ask)
  same_flag t (Delete id) = record { envs = refl; states = values_without t.states id }
  same_flag t Reset = record { envs = refl; states = values_ended t.states }
  same_flag t Stat = record { envs = refl; states = refl }
  same_flag t ask = tt

  same_memory : (t : PlainTree E S) (gave : Gave) → SameSome t (memory_case t gave)
  same_memory t Answer = tt
  same_memory t Memory = record { envs = refl; states = refl }

  same_early : (t : PlainTree E S) (request : Request) → SameSome t (early_case t request)
  same_early t request =
      same_or t _ _ (same_bad t request.ask)
      (same_or t _ _ (same_if t (nat_lt (length t.journal) request.after) _ (record { envs = refl; states = refl }))
      (same_or t _ _ (same_or t _ _ (same_env t (env_named request.ask)) (same_or t _ _ (same_state t (one_named request.ask)) (same_state t (two_named request.ask))))
      (same_flag t request.ask)))

-- ---- lists

module _ {E S M : Type 0} (P : E → Type 0) (Q : M → S → Type 0) where
  each_more : (es : List E) (e : E) → EachHas P Q es → P e → EachHas P Q (es ++ e ∷ [])
  each_more [] e h p = (p, tt)
  each_more (x ∷ es) e h p = (h.0, each_more es e h.1 p)

  each_at : (es : List E) (i : ℕ) → EachHas P Q es → HasIt P Q (slice_get es i)
  each_at [] i h = tt
  each_at (e ∷ es) zero h = h.0
  each_at (e ∷ es) (suc i) h = each_at es i h.1

  -- as many marks as states: none is new
  marked_same : (ss : List S) (ms : List M) (m : M) → EachIs P Q ss ms → marked ss ms m ≡ ms
  marked_same [] [] m h = refl
  marked_same [] (n ∷ ms) m h = absurd h
  marked_same (s ∷ ss) [] m h = absurd h
  marked_same (s ∷ ss) (n ∷ ms) m h = ap (λ ms. n ∷ ms) (marked_same ss ms m h.1)

  marked_more : (ss : List S) (ms : List M) (s : S) (m : M) → EachIs P Q ss ms → Q m s → EachIs P Q (ss ++ s ∷ []) (marked (ss ++ s ∷ []) ms m)
  marked_more [] [] s m h q = (q, tt)
  marked_more [] (n ∷ ms) s m h q = absurd h
  marked_more (x ∷ ss) [] s m h q = absurd h
  marked_more (x ∷ ss) (n ∷ ms) s m h q = (h.0, marked_more ss ms s m h.1 q)

  pub is_at : (ss : List S) (ms : List M) (i : ℕ) → EachIs P Q ss ms → IsIt P Q (slice_get ss i) (slice_get ms i)
  is_at [] ms i h = tt
  is_at (s ∷ ss) [] i h = absurd h
  is_at (s ∷ ss) (m ∷ ms) zero h = h.0
  is_at (s ∷ ss) (m ∷ ms) (suc i) h = is_at ss ms i h.1

  -- ---- what a request names

  has_env : (t : PlainTree E S) (named : Option ℕ) → EachHas P Q t.envs → HasIt P Q (env_at t named)
  has_env t None h = tt
  has_env t (Some id) h = each_at t.envs id h

  pub has_state : (t : PlainTree E S) (ms : List M) (named : Option ℕ) → EachIs P Q (states_in t.states) ms → IsIt P Q (state_at t named) (mark_named ms named)
  has_state t ms None h = tt
  has_state t ms (Some id) h = subst (λ o. IsIt P Q o (slice_get ms id)) (get_value t.states id) (is_at (states_in t.states) ms id h)

  -- ---- steps

  pub record Hold (envs : List E) (states : List (Slot S)) (ms : List M) : Type 0 where
    pub each_env : EachHas P Q envs
    pub each_state : EachIs P Q (states_in states) ms

  module _ (V : Ask → Found E S → Value E S) (mark : Ask → Option M → M) (inherited : IsInherited P Q V mark) where
    abbrev HoldBehind : List M → M → Stepped E S → Type 0
    HoldBehind ms m x = Hold x.envs x.states (marked (states_in x.states) ms m)

    same_holds : (t : PlainTree E S) (ms : List M) (m : M) (x : Stepped E S) → Hold t.envs t.states ms → Same t x → HoldBehind ms m x
    same_holds t ms m x h s = record {
      each_env = subst (EachHas P Q) (sym s.envs) h.each_env;
      each_state = subst (λ ss. EachIs P Q ss (marked ss ms m)) (sym s.states) (subst (EachIs P Q (states_in t.states)) (sym (marked_same (states_in t.states) ms m h.each_state)) h.each_state);
    }

    value_holds : (t : PlainTree E S) (ms : List M) (m : M) (v : Value E S) → Hold t.envs t.states ms → Makes P Q m v → HoldBehind ms m (value_case t v)
    value_holds t ms m (Says body) h p = same_holds t ms m (value_case t (Says body)) h (record { envs = refl; states = refl })
    value_holds t ms m (MakesEnv env body) h p = record {
      each_env = each_more t.envs env h.each_env p;
      each_state = subst (EachIs P Q (states_in t.states)) (sym (marked_same (states_in t.states) ms m h.each_state)) h.each_state;
    }
    value_holds t ms m (MakesState state body) h p = record {
      each_env = h.each_env;
      each_state = subst (λ ss. EachIs P Q ss (marked ss ms m)) (sym (values_append t.states (record { state = state; live = true } ∷ []))) (marked_more (states_in t.states) ms state m h.each_state p);
    }

    else_holds : (t : PlainTree E S) (ms : List M) (m : M) (x : Option (Stepped E S)) (v : Value E S) → Hold t.envs t.states ms → SameSome t x → Makes P Q m v → HoldBehind ms m (or_else x (value_case t v))
    else_holds t ms m None v h s p = value_holds t ms m v h p
    else_holds t ms m (Some x) v h s p = same_holds t ms m x h s

    step_holds : (t : PlainTree E S) (ms : List M) (e : Entry) → Hold t.envs t.states ms → Hold (answer V t e).envs (answer V t e).states (marks_after V mark t ms e)
    unfolding answer
    step_holds t ms e h =
        let ask = e.request.ask in
        else_holds t ms (mark ask (mark_named ms (one_named ask))) (early_case t e.request or memory_case t e.gave) (V ask (found_in t ask)) h
        (same_or t _ _ (same_early t e.request) (same_memory t e.gave))
        (inherited ask (found_in t ask) (mark_named ms (one_named ask)) (mark_named ms (two_named ask)) (has_env t (env_named ask) h.each_env)
        (has_state t ms (one_named ask) h.each_state) (has_state t ms (two_named ask) h.each_state))

    all_hold : (t : PlainTree E S) (ms : List M) (es : List Entry) → Hold t.envs t.states ms → Hold (after_all V t es).envs (after_all V t es).states (marks_in V mark t ms es)
    all_hold t ms [] h = h
    all_hold t ms (e ∷ es) h = all_hold (step V t e) (marks_after V mark t ms e) es (step_holds t ms e h)

    -- over a book that has the property, all environments and states of every history have it
    pub replay_holds : (book : E) (history : List Entry) → P book → Hold (replay V book history).envs (replay V book history).states (marks_of V mark book history)
    unfolding replay marks_of
    replay_holds book history p = all_hold (opening V book) [] history (record { each_env = (p, tt); each_state = tt })
