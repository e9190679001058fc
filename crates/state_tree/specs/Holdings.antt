-- What the tree's code holds, and how it tests a request.
use Rattle.std.specs.Prelude.{◌≡◌, ◌≤◌, ◌+◌, ℕ, nat_lt, length, if◌then◌else◌, vec_capacity}
use Rattle.repl_json.specs.Names.{env_named, one_named, two_named}
use Rattle.repl_json.specs.declared.reply.Line.{Line}
use Rattle.repl_json.specs.declared.reply.Line.TheVariants as line
use Rattle.repl_json.specs.declared.request.Request.{Request}
use Rattle.state_tree.specs.declared.holdings.Holdings.{Holdings}
use Rattle.state_tree.specs.declared.check.Known.{Known}
use Rattle.state_tree.specs.declared.check.IdCheck.{IdCheck}
use Rattle.state_tree.specs.declared.check.IdCheck.TheVariants.{Usable, Gone, Missed}
use Rattle.state_tree.specs.declared.check.Check.{Check}
use Rattle.state_tree.specs.declared.check.Check.TheVariants.{Again, Early, Open}
use Rattle.state_tree.specs.Server.{PlainTree, Stepped, seq_of, live_count}
use Rattle.state_tree.specs.Again.{is_bad, env_check, state_check}

-- how the code goes on after an id
abbrev pub after_state : ℕ → IdCheck → Check → Check
after_state seq Usable next = next
after_state seq (Gone id) next = Early (line.UnknownState id seq)
after_state seq (Missed id) next = Again id

abbrev pub after_env : ℕ → IdCheck → Check → Check
after_env seq Usable next = next
after_env seq (Gone id) next = Early (line.UnknownEnv id seq)
after_env seq (Missed id) next = Again id

module _ {E S : Type 0} where
  -- the tree that is held
  abbrev pub plain : Holdings E S → PlainTree E S
  plain holdings = record { envs = holdings.envs.items; states = holdings.states.items; journal = holdings.journal.items }

  -- a reply, with what is held after it
  abbrev pub stepped : Line → Holdings E S → Stepped E S
  stepped reply holdings = record { line = reply; envs = holdings.envs.items; states = holdings.states.items }

  abbrev pub check_of : PlainTree E S → Request → Known → Check
  check_of t request known =
      if is_bad request.ask then Open else
      if nat_lt (seq_of t) request.after then Early (line.Ahead (seq_of t) (seq_of t)) else
      after_env (seq_of t) (env_check (length t.envs) (env_named request.ask) known.env)
      (after_state (seq_of t) (state_check t.states (one_named request.ask) known.one)
      (after_state (seq_of t) (state_check t.states (two_named request.ask) known.two) Open))

  -- the counter of live states is right
  abbrev pub IsCounted : Holdings E S → Type 0
  IsCounted holdings = holdings.live ≡ live_count holdings.states.items

  -- each list can hold as many as there are entries, and one environment more, the book
  pub record HasRoom (holdings : Holdings E S) (entries : ℕ) : Type 0 where
    pub counted : IsCounted holdings
    pub envs : length holdings.envs.items ≤ length holdings.journal.items + 1
    pub states : length holdings.states.items ≤ length holdings.journal.items
    pub journal : length holdings.journal.items ≤ entries
    pub for_envs : entries + 1 ≤ vec_capacity holdings.envs
    pub for_states : entries ≤ vec_capacity holdings.states
    pub for_journal : entries ≤ vec_capacity holdings.journal

  pub record SameRoom (old new : Holdings E S) : Type 0 where
    pub for_envs : vec_capacity new.envs ≡ vec_capacity old.envs
    pub for_states : vec_capacity new.states ≡ vec_capacity old.states
    pub for_journal : vec_capacity new.journal ≡ vec_capacity old.journal
