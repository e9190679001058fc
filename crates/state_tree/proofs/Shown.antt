-- The reply to each entry is a line, and the memory line exactly where the entry says Memory.
use Rattle.std.proofs.Common.{◌≡◌, ℕ, nat_lt, Bool, true, false, cond, List, [], ◌∷◌, ◌++◌, length, Option, None, Some, refl, sym, ◌∙◌, ap, slice_get}
use Rattle.std.proofs.lemmas.List.{same_from_push}
use Rattle.repl_json.specs.Names.{env_named, one_named, two_named}
use Rattle.repl_json.specs.Reply.{text}
use Rattle.repl_json.specs.OneLine.{IsLine, HasReply, says_memory, memory_line}
use Rattle.repl_json.proofs.OneLineLemmas.{bad_is_reply, reply_line, memory_text, only_memory}
use Rattle.repl_json.specs.declared.reply.Line.{Line}
use Rattle.repl_json.specs.declared.reply.Line.TheVariants as line
use Rattle.repl_json.specs.declared.request.Request.{Request}
use Rattle.repl_json.specs.declared.request.Ask.{Ask}
use Rattle.repl_json.specs.declared.request.Ask.TheVariants.{Bad, Delete, Reset, Stat}
use Rattle.state_tree.specs.declared.slot.Slot.{Slot}
use Rattle.state_tree.specs.declared.work.Found.{Found}
use Rattle.state_tree.specs.declared.work.Entry.{Entry}
use Rattle.state_tree.specs.declared.work.Gave.{Gave}
use Rattle.state_tree.specs.declared.work.Gave.TheVariants.{Answer, Memory}
use Rattle.state_tree.specs.Value.{Value, Says, MakesEnv, MakesState}
use Rattle.state_tree.specs.Server.{PlainTree, Stepped, says, seq_of, ◌or◌, or_else, bad_case, ahead_case, unknown_env, unless_live, unknown_state, unknown_case, flag_case, early_case, memory_case, value_case, answer, reply, found_in, MayStand}
use Rattle.state_tree.specs.Replies.{SaysReply, IsShown}

-- a reply that isn't the memory line
abbrev IsOther : Line → Type 0
IsOther reply = HasReply reply × (says_memory reply ≡ false)

module _ {E S : Type 0} where
  abbrev AreOther : Option (Stepped E S) → Type 0
  AreOther None = Unit {0}
  AreOther (Some stepped) = IsOther stepped.line

  or_other : (a b : Option (Stepped E S)) → AreOther a → AreOther b → AreOther (a or b)
  or_other None b p q = q
  or_other (Some x) b p q = p

  when : (b : Bool) (s : Stepped E S) → IsOther s.line → AreOther (cond b (Some s) None)
  when true s h = h
  when false s h = tt

  unless : (b : Bool) (s : Stepped E S) → IsOther s.line → AreOther (cond b None (Some s))
  unless true s h = tt
  unless false s h = h

  bad_other : (t : PlainTree E S) (ask : Ask) → AreOther (bad_case t ask)
  bad_other t (Bad bad) = (bad_is_reply bad, refl)
  bad_other t ask = tt

  ahead_other : (t : PlainTree E S) (after : ℕ) → AreOther (ahead_case t after)
  ahead_other t after = when (nat_lt (seq_of t) after) (says t (line.Ahead (seq_of t) (seq_of t))) (tt, refl)

  env_other : (t : PlainTree E S) (named : Option ℕ) → AreOther (unknown_env t named)
  env_other t None = tt
  env_other t (Some id) = unless (nat_lt id (length t.envs)) (says t (line.UnknownEnv id (seq_of t))) (tt, refl)

  live_other : (t : PlainTree E S) (id : ℕ) (slot : Option (Slot S)) → AreOther (unless_live t id slot)
  live_other t id None = (tt, refl)
  live_other t id (Some slot) = unless slot.live (says t (line.UnknownState id (seq_of t))) (tt, refl)

  state_other : (t : PlainTree E S) (named : Option ℕ) → AreOther (unknown_state t named)
  state_other t None = tt
  state_other t (Some id) = live_other t id (slice_get t.states id)

  flag_other : (t : PlainTree E S) (ask : Ask) → AreOther (flag_case t ask)
  flag_other t (Delete id) = (tt, refl)
  flag_other t Reset = (tt, refl)
  flag_other t Stat = (tt, refl)
  flag_other t ask = tt

  early_other : (t : PlainTree E S) (request : Request) → AreOther (early_case t request)
  early_other t request =
      or_other (bad_case t request.ask) _ (bad_other t request.ask)
      (or_other (ahead_case t request.after) _ (ahead_other t request.after)
      (or_other (unknown_case t request.ask) (flag_case t request.ask)
      (or_other (unknown_env t (env_named request.ask)) _ (env_other t (env_named request.ask))
      (or_other (unknown_state t (one_named request.ask)) (unknown_state t (two_named request.ask)) (state_other t (one_named request.ask)) (state_other t (two_named request.ask))))
      (flag_other t request.ask)))

  value_other : (t : PlainTree E S) (v : Value E S) → SaysReply v → IsOther (value_case t v).line
  value_other t (Says body) h = (h, refl)
  value_other t (MakesEnv env body) h = (h, refl)
  value_other t (MakesState state body) h = (h, refl)

  -- a reply by what its entry says
  record IsBy (t : PlainTree E S) (gave : Gave) (reply : Line) : Type 0 where
    has : HasReply reply
    memory : gave ≡ Memory → reply ≡ line.Memory (seq_of t)
    other : gave ≡ Answer → says_memory reply ≡ false

  by_gave : (t : PlainTree E S) (early : Option (Stepped E S)) (gave : Gave) (last : Stepped E S) → AreOther early → (gave ≡ Memory → early ≡ None) → IsOther last.line
      → IsBy t gave (or_else (early or memory_case t gave) last).line
  by_gave t None Answer last e may h = record { has = h.0; memory = λ q. absurd cc; other = λ q. h.1 }
  by_gave t None Memory last e may h = record { has = tt; memory = λ q. refl; other = λ q. absurd cc }
  by_gave t (Some s) Answer last e may h = record { has = e.0; memory = λ q. absurd cc; other = λ q. e.1 }
  by_gave t (Some s) Memory last e may h = absurd (let none : Some s ≡ None = may refl in cc)

  not_other : (t : PlainTree E S) (gave : Gave) (reply : Line) → IsBy t gave reply → says_memory reply ≡ true → gave ≡ Memory
  not_other t Memory reply h q = refl
  not_other t Answer reply h q = absurd (let no : says_memory reply ≡ false = h.other refl in cc)

module _ {E S : Type 0} (V : Ask → Found E S → Value E S) where
  by_entry : ((ask : Ask) (found : Found E S) → SaysReply (V ask found)) → (t : PlainTree E S) (entry : Entry) → MayStand t entry → IsBy t entry.gave (reply V t entry)
  unfolding answer
  by_entry says_reply t entry may =
      by_gave t (early_case t entry.request) entry.gave (value_case t (V entry.request.ask (found_in t entry.request.ask))) (early_other t entry.request) may
      (value_other t (V entry.request.ask (found_in t entry.request.ask)) (says_reply entry.request.ask (found_in t entry.request.ask)))

  pub replies_shown : ((ask : Ask) (found : Found E S) → SaysReply (V ask found)) → (t : PlainTree E S) (entry : Entry) → MayStand t entry → (line : List ℕ) × IsShown V t entry line
  replies_shown says_reply t entry may =
      let is = by_entry says_reply t entry may in
      let whole = reply_line (reply V t entry) is.has in (
        whole.0,
        record {
          line = whole.1;
          memory = (
            (λ said. (same_from_push _ _ _ _ (sym whole.1.is ∙ ap text (is.memory said) ∙ memory_text (seq_of t))).0),
            (λ same. not_other t entry.gave (reply V t entry) is (only_memory (reply V t entry) (seq_of t) is.has (whole.1.is ∙ ap (λ l. l ++ 10 ∷ []) same))),
          );
        },
      )
