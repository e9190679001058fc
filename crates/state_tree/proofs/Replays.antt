-- A history that goes on.
use Rattle.std.proofs.Common.{◌≡◌, ℕ, ◌+◌, ◌≤◌, List, [], ◌∷◌, ◌++◌, length, refl, sym, ◌∙◌, ap, arith, vec_capacity}
use Rattle.repl_json.specs.declared.request.Ask.{Ask}
use Rattle.state_tree.specs.declared.holdings.Holdings.{Holdings}
use Rattle.state_tree.specs.declared.work.Found.{Found}
use Rattle.state_tree.specs.declared.work.Entry.{Entry}
use Rattle.state_tree.specs.Value.{Value}
use Rattle.state_tree.specs.Server.{PlainTree, step, after_all, MayStand, MayAll, opening, replay, IsLegal, live_count}
use Rattle.state_tree.specs.TreeModel.{IsReplayed}

module _ {E S : Type 0} (V : Ask → Found E S → Value E S) where
  after_more : (t : PlainTree E S) (es : List Entry) (e : Entry) → after_all V t (es ++ e ∷ []) ≡ step V (after_all V t es) e
  after_more t [] e = refl
  after_more t (x ∷ es) e = after_more (step V t x) es e

  may_more : (t : PlainTree E S) (es : List Entry) (e : Entry) → MayAll V t es → MayStand (after_all V t es) e → MayAll V t (es ++ e ∷ [])
  may_more t [] e all one = (one, tt)
  may_more t (x ∷ es) e all one = (all.0, may_more (step V t x) es e all.1 one)

  pub replay_more : (book : E) (h : List Entry) (e : Entry) → replay V book (h ++ e ∷ []) ≡ step V (replay V book h) e
  unfolding replay
  replay_more book h e = after_more (opening V book) h e

  pub legal_more : (book : E) (h : List Entry) (e : Entry) → IsLegal V book h → MayStand (replay V book h) e → IsLegal V book (h ++ e ∷ [])
  unfolding replay IsLegal
  legal_more book h e all one = may_more (opening V book) h e all one

  pub opened : (book : E) (entries : ℕ) (holdings : Holdings E S) → holdings.envs.items ≡ book ∷ [] → holdings.states.items ≡ [] → holdings.journal.items ≡ [] → holdings.live ≡ 0
      → entries + 1 ≤ vec_capacity holdings.envs → entries ≤ vec_capacity holdings.states → entries ≤ vec_capacity holdings.journal → IsReplayed V book entries holdings
  unfolding replay IsLegal
  opened book entries holdings envs states journal live a b c = record {
    is = rw (journal, envs, states) refl;
    legal = rw journal tt;
    room = record {
      counted = live ∙ sym (ap live_count states);
      envs = omega (arith, ap length envs);
      states = omega (arith, ap length states);
      journal = omega (arith, ap length journal);
      for_envs = a;
      for_states = b;
      for_journal = c;
    };
  }
