-- What a check says of the cases of the server.
use Rattle.std.proofs.Common.{◌≡◌, ℕ, nat_lt, Bool, true, false, cond, length, Option, None, Some, refl, slice_get}
use Rattle.repl_json.specs.Names.{env_named, one_named, two_named}
use Rattle.repl_json.specs.declared.reply.Line.TheVariants as line
use Rattle.repl_json.specs.declared.request.Ask.{Ask}
use Rattle.repl_json.specs.declared.request.Ask.TheVariants.{Bad}
use Rattle.state_tree.specs.declared.slot.Slot.{Slot}
use Rattle.state_tree.specs.declared.check.Known.{Known}
use Rattle.state_tree.specs.declared.check.IdCheck.{IdCheck}
use Rattle.state_tree.specs.declared.check.IdCheck.TheVariants.{Usable, Gone, Missed}
use Rattle.state_tree.specs.declared.check.Check.{Check}
use Rattle.state_tree.specs.declared.check.Check.TheVariants.{Again, Early, Open}
use Rattle.state_tree.specs.Server.{PlainTree, Stepped, says, seq_of, ◌or◌, bad_case, ahead_case, unknown_env, unless_live, unknown_state, unknown_case, flag_case, early_case}
use Rattle.state_tree.specs.Again.{env_check, slot_check, state_check, missed_first, again_of}
use Rattle.state_tree.specs.Holdings.{after_env, after_state, check_of}

-- all ids are usable
pub record AreUsable (w1 w2 w3 : IdCheck) : Type 0 where
  pub env : w1 ≡ Usable
  pub one : w2 ≡ Usable
  pub two : w3 ≡ Usable

module _ {E S : Type 0} where
  -- what a way says of case 3 at its id
  abbrev pub Fact : Option (Stepped E S) → (ℕ → Stepped E S) → IdCheck → Type 0
  Fact case gone Usable = case ≡ None
  Fact case gone (Gone id) = case ≡ Some (gone id)
  Fact case gone (Missed id) = Unit {0}

  abbrev pub gone_env : PlainTree E S → ℕ → Stepped E S
  gone_env t id = says t (line.UnknownEnv id (seq_of t))

  abbrev pub gone_state : PlainTree E S → ℕ → Stepped E S
  gone_state t id = says t (line.UnknownState id (seq_of t))

  env_fact_at : (t : PlainTree E S) (id : ℕ) (made found : Bool) → Fact (cond made None (Some (gone_env t id))) (gone_env t) (cond made (cond found Usable (Missed id)) (Gone id))
  env_fact_at t id true true = refl
  env_fact_at t id true false = tt
  env_fact_at t id false found = refl

  env_fact : (t : PlainTree E S) (named : Option ℕ) (found : Bool) → Fact (unknown_env t named) (gone_env t) (env_check (length t.envs) named found)
  env_fact t None found = refl
  env_fact t (Some id) found = env_fact_at t id (nat_lt id (length t.envs)) found

  live_fact_at : (t : PlainTree E S) (id : ℕ) (live found : Bool) → Fact (cond live None (Some (gone_state t id))) (gone_state t) (cond found (cond live Usable (Gone id)) (Missed id))
  live_fact_at t id true true = refl
  live_fact_at t id false true = refl
  live_fact_at t id live false = tt

  slot_fact : (t : PlainTree E S) (id : ℕ) (slot : Option (Slot S)) (found : Bool) → Fact (unless_live t id slot) (gone_state t) (slot_check id found slot)
  slot_fact t id None found = refl
  slot_fact t id (Some slot) found = live_fact_at t id slot.live found

  state_fact : (t : PlainTree E S) (named : Option ℕ) (found : Bool) → Fact (unknown_state t named) (gone_state t) (state_check t.states named found)
  state_fact t None found = refl
  state_fact t (Some id) found = slot_fact t id (slice_get t.states id) found

  -- what a check says, where these are the id to look for again, and what the cases 1 to 4 give, alone and where no id is in the way
  abbrev pub Says : PlainTree E S → Option ℕ → Option (Stepped E S) → Option (Stepped E S) → IdCheck → IdCheck → IdCheck → Check → Type 0
  Says t again early flags w1 w2 w3 (Again id) = again ≡ Some id
  Says t again early flags w1 w2 w3 (Early reply) = (again ≡ None) × (early ≡ Some (says t reply))
  Says t again early flags w1 w2 w3 Open = (again ≡ None) × (early ≡ flags) × AreUsable w1 w2 w3

  checks : (t : PlainTree E S) (r1 r2 r3 flags : Option (Stepped E S)) (w1 w2 w3 : IdCheck) → Fact r1 (gone_env t) w1 → Fact r2 (gone_state t) w2 → Fact r3 (gone_state t) w3
      → Says t (missed_first w1 (missed_first w2 (missed_first w3 None))) ((r1 or (r2 or r3)) or flags) flags w1 w2 w3
      (after_env (seq_of t) w1 (after_state (seq_of t) w2 (after_state (seq_of t) w3 Open)))
  checks t r1 r2 r3 flags Usable Usable Usable f1 f2 f3 = (refl, rw (f1, f2, f3) refl, record { env = refl; one = refl; two = refl })
  checks t r1 r2 r3 flags Usable Usable (Gone id) f1 f2 f3 = (refl, rw (f1, f2, f3) refl)
  checks t r1 r2 r3 flags Usable Usable (Missed id) f1 f2 f3 = refl
  checks t r1 r2 r3 flags Usable (Gone id) w3 f1 f2 f3 = (refl, rw (f1, f2) refl)
  checks t r1 r2 r3 flags Usable (Missed id) w3 f1 f2 f3 = refl
  checks t r1 r2 r3 flags (Gone id) w2 w3 f1 f2 f3 = (refl, rw f1 refl)
  checks t r1 r2 r3 flags (Missed id) w2 w3 f1 f2 f3 = refl

  ahead : (t : PlainTree E S) (late : Bool) (again : Option ℕ) (early flags : Option (Stepped E S)) (w1 w2 w3 : IdCheck) (next : Check) → Says t again early flags w1 w2 w3 next
      → Says t (cond late None again) (cond late (Some (says t (line.Ahead (seq_of t) (seq_of t)))) None or early) flags w1 w2 w3 (cond late (Early (line.Ahead (seq_of t) (seq_of t))) next)
  ahead t true again early flags w1 w2 w3 next says_next = (refl, refl)
  ahead t false again early flags w1 w2 w3 next says_next = says_next

  abbrev pub Checks : PlainTree E S → ℕ → Ask → Known → Check → Type 0
  Checks t after ask s check = Says t (again_of t (record { after = after; ask = ask }) s) (early_case t (record { after = after; ask = ask })) (bad_case t ask or flag_case t ask)
      (env_check (length t.envs) (env_named ask) s.env) (state_check t.states (one_named ask) s.one) (state_check t.states (two_named ask) s.two) check

  -- the checks at the three ids
  abbrev pub check_1 : PlainTree E S → Ask → Known → IdCheck
  check_1 t ask s = env_check (length t.envs) (env_named ask) s.env

  abbrev pub check_2 : PlainTree E S → Ask → Known → IdCheck
  check_2 t ask s = state_check t.states (one_named ask) s.one

  abbrev pub check_3 : PlainTree E S → Ask → Known → IdCheck
  check_3 t ask s = state_check t.states (two_named ask) s.two

  abbrev pub missed_of : PlainTree E S → Ask → Known → Option ℕ
  missed_of t ask s = missed_first (check_1 t ask s) (missed_first (check_2 t ask s) (missed_first (check_3 t ask s) None))

  abbrev pub checks_of : PlainTree E S → Ask → Known → Check
  checks_of t ask s = after_env (seq_of t) (check_1 t ask s) (after_state (seq_of t) (check_2 t ask s) (after_state (seq_of t) (check_3 t ask s) Open))

  not_bad : (t : PlainTree E S) (after : ℕ) (ask : Ask) (s : Known)
      → Says t (cond (nat_lt (seq_of t) after) None (missed_of t ask s)) (ahead_case t after or (unknown_case t ask or flag_case t ask)) (flag_case t ask)
      (check_1 t ask s) (check_2 t ask s) (check_3 t ask s) (cond (nat_lt (seq_of t) after) (Early (line.Ahead (seq_of t) (seq_of t))) (checks_of t ask s))
  not_bad t after ask s = ahead t (nat_lt (seq_of t) after) (missed_of t ask s) (unknown_case t ask or flag_case t ask) (flag_case t ask)
      (check_1 t ask s) (check_2 t ask s) (check_3 t ask s) (checks_of t ask s)
      (checks t (unknown_env t (env_named ask)) (unknown_state t (one_named ask)) (unknown_state t (two_named ask)) (flag_case t ask)
      (check_1 t ask s) (check_2 t ask s) (check_3 t ask s) (env_fact t (env_named ask) s.env) (state_fact t (one_named ask) s.one) (state_fact t (two_named ask) s.two))

  pub check_says : (t : PlainTree E S) (after : ℕ) (ask : Ask) (s : Known) → Checks t after ask s (check_of t (record { after = after; ask = ask }) s)
  check_says t after (Bad bad) s = (refl, refl, record { env = refl; one = refl; two = refl })
  check_says t after ask s = not_bad t after ask s
