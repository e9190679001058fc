-- Made ids keep their values.
use Rattle.std.proofs.Common.{◌≡◌, ℕ, zero, suc, nat_lt, Bool, true, false, cond, List, [], ◌∷◌, ◌++◌, length, map, Option, None, Some, refl, sym, ◌∙◌, ap, slice_get, option_map}
use Rattle.repl_json.specs.Names.{env_named, one_named, two_named}
use Rattle.repl_json.specs.declared.request.Ask.{Ask}
use Rattle.repl_json.specs.declared.request.Ask.TheVariants.{Bad, Delete, Reset, Stat}
use Rattle.repl_json.specs.declared.request.Request.{Request}
use Rattle.state_tree.specs.declared.slot.Slot.{Slot}
use Rattle.state_tree.specs.declared.work.Found.{Found}
use Rattle.state_tree.specs.declared.work.Entry.{Entry}
use Rattle.state_tree.specs.declared.work.Gave.{Gave}
use Rattle.state_tree.specs.declared.work.Gave.TheVariants.{Answer, Memory}
use Rattle.state_tree.specs.Value.{Value, Says, MakesEnv, MakesState}
use Rattle.state_tree.specs.Server.{PlainTree, Stepped, ◌or◌, or_else, bad_case, unknown_env, unless_live, unknown_state, flag_case, early_case, memory_case, value_case, answer, step, after_all, opening, replay, ended, without, env_at, state_at}
use Rattle.state_tree.specs.TreeModel.{HeldAs, Holds}

module _ {A : Type 0} where
  -- each place of xs has its value in ys
  abbrev pub Keeps : List A → List A → Type 0
  Keeps xs ys = (i : ℕ) (x : A) → slice_get xs i ≡ Some x → slice_get ys i ≡ Some x

  keeps_self : (xs : List A) → Keeps xs xs
  keeps_self xs i x at = at

  keeps_more : (xs ys : List A) → Keeps xs (xs ++ ys)
  keeps_more [] ys i x at = cc
  keeps_more (y ∷ xs) ys zero x at = at
  keeps_more (y ∷ xs) ys (suc i) x at = keeps_more xs ys i x at

module _ {S : Type 0} where
  abbrev pub values : List (Slot S) → List S
  values slots = map (λ slot. slot.state) slots

  pub values_without : (xs : List (Slot S)) (i : ℕ) → values (without xs i) ≡ values xs
  values_without [] i = refl
  values_without (x ∷ xs) zero = refl
  values_without (x ∷ xs) (suc i) = ap (λ l. x.state ∷ l) (values_without xs i)

  pub values_ended : (xs : List (Slot S)) → values (map ended xs) ≡ values xs
  values_ended [] = refl
  values_ended (x ∷ xs) = ap (λ l. x.state ∷ l) (values_ended xs)

  pub values_append : (xs ys : List (Slot S)) → values (xs ++ ys) ≡ values xs ++ values ys
  values_append [] ys = refl
  values_append (x ∷ xs) ys = ap (λ l. x.state ∷ l) (values_append xs ys)

  pub get_value : (xs : List (Slot S)) (i : ℕ) → slice_get (values xs) i ≡ option_map (λ slot. slot.state) (slice_get xs i)
  get_value [] i = refl
  get_value (x ∷ xs) zero = refl
  get_value (x ∷ xs) (suc i) = get_value xs i

module _ {E S : Type 0} where
  pub record Stays (envs envs' : List E) (states states' : List (Slot S)) : Type 0 where
    pub envs_stay : Keeps envs envs'
    pub states_stay : Keeps (values states) (values states')

  abbrev pub StaysIn : PlainTree E S → Stepped E S → Type 0
  StaysIn t x = Stays t.envs x.envs t.states x.states

  abbrev StaysSome : PlainTree E S → Option (Stepped E S) → Type 0
  StaysSome t None = Unit {0}
  StaysSome t (Some x) = StaysIn t x

  stays_same : (t : PlainTree E S) → Stays t.envs t.envs t.states t.states
  stays_same t = record { envs_stay = keeps_self t.envs; states_stay = keeps_self (values t.states) }

  stays_or : (t : PlainTree E S) (x y : Option (Stepped E S)) → StaysSome t x → StaysSome t y → StaysSome t (x or y)
  stays_or t None y p q = q
  stays_or t (Some x) y p q = p

  stays_else : (t : PlainTree E S) (x : Option (Stepped E S)) (y : Stepped E S) → StaysSome t x → StaysIn t y → StaysIn t (or_else x y)
  stays_else t None y p q = q
  stays_else t (Some x) y p q = p

  stays_unless : (t : PlainTree E S) (b : Bool) (x : Stepped E S) → StaysIn t x → StaysSome t (cond b None (Some x))
  stays_unless t true x p = tt
  stays_unless t false x p = p

  stays_if : (t : PlainTree E S) (b : Bool) (x : Stepped E S) → StaysIn t x → StaysSome t (cond b (Some x) None)
  stays_if t true x p = p
  stays_if t false x p = tt

  stays_env : (t : PlainTree E S) (named : Option ℕ) → StaysSome t (unknown_env t named)
  stays_env t None = tt
  stays_env t (Some id) = stays_unless t (nat_lt id (length t.envs)) _ (stays_same t)

  stays_slot : (t : PlainTree E S) (id : ℕ) (slot : Option (Slot S)) → StaysSome t (unless_live t id slot)
  stays_slot t id None = stays_same t
  stays_slot t id (Some slot) = stays_unless t slot.live _ (stays_same t)

  stays_state : (t : PlainTree E S) (named : Option ℕ) → StaysSome t (unknown_state t named)
  stays_state t None = tt
  stays_state t (Some id) = stays_slot t id (slice_get t.states id)

  stays_bad : (t : PlainTree E S) (ask : Ask) → StaysSome t (bad_case t ask)
  stays_bad t (Bad bad) = stays_same t
  stays_bad t ask = tt

  stays_flag : (t : PlainTree E S) (ask : Ask) → StaysSome t (flag_case t ask)
  stays_flag t (Delete id) = record { envs_stay = keeps_self t.envs; states_stay = rw (values_without t.states id) (keeps_self (values t.states)) }
  stays_flag t Reset = record { envs_stay = keeps_self t.envs; states_stay = rw (values_ended t.states) (keeps_self (values t.states)) }
  stays_flag t Stat = stays_same t
  stays_flag t ask = tt

  stays_memory : (t : PlainTree E S) (gave : Gave) → StaysSome t (memory_case t gave)
  stays_memory t Answer = tt
  stays_memory t Memory = stays_same t

  stays_value : (t : PlainTree E S) (v : Value E S) → StaysIn t (value_case t v)
  stays_value t (Says body) = stays_same t
  stays_value t (MakesEnv env body) = record { envs_stay = keeps_more t.envs (env ∷ []); states_stay = keeps_self (values t.states) }
  stays_value t (MakesState state body) = record { envs_stay = keeps_self t.envs; states_stay = rw (values_append t.states (record { state = state; live = true } ∷ [])) (keeps_more (values t.states) (state ∷ [])) }

  stays_early : (t : PlainTree E S) (request : Request) → StaysSome t (early_case t request)
  stays_early t request =
      stays_or t _ _ (stays_bad t request.ask)
      (stays_or t _ _ (stays_if t (nat_lt (length t.journal) request.after) _ (stays_same t))
      (stays_or t _ _ (stays_or t _ _ (stays_env t (env_named request.ask)) (stays_or t _ _ (stays_state t (one_named request.ask)) (stays_state t (two_named request.ask))))
      (stays_flag t request.ask)))

module _ {E S : Type 0} (V : Ask → Found E S → Value E S) where
  stays_step : (t : PlainTree E S) (e : Entry) → StaysIn t (answer V t e)
  unfolding answer
  stays_step t e = stays_else t (early_case t e.request or memory_case t e.gave) _ (stays_or t _ _ (stays_early t e.request) (stays_memory t e.gave)) (stays_value t _)

  stays_all : (t : PlainTree E S) (es : List Entry) → Stays t.envs (after_all V t es).envs t.states (after_all V t es).states
  stays_all t [] = stays_same t
  stays_all t (e ∷ es) =
      let one = stays_step t e in
      let rest = stays_all (step V t e) es in
      record { envs_stay = λ i x at. rest.envs_stay i x (one.envs_stay i x at); states_stay = λ i x at. rest.states_stay i x (one.states_stay i x at) }

  held_env : (t u : PlainTree E S) (named : Option ℕ) (found : Option E) → Keeps t.envs u.envs → HeldAs (env_at t named) found → HeldAs (env_at u named) found
  held_env t u named None keeps held = tt
  held_env t u None (Some x) keeps held = held
  held_env t u (Some id) (Some x) keeps held = keeps id x held

  held_state : (t u : PlainTree E S) (named : Option ℕ) (found : Option S) → Keeps (values t.states) (values u.states) → HeldAs (state_at t named) found → HeldAs (state_at u named) found
  held_state t u named None keeps held = tt
  held_state t u None (Some x) keeps held = held
  held_state t u (Some id) (Some x) keeps held = sym (get_value u.states id) ∙ keeps id x (get_value t.states id ∙ held)

  -- what was found in an earlier tree is held in a later one
  pub holds_later : (t : PlainTree E S) (es : List Entry) (ask : Ask) (found : Found E S) → Holds t ask found → Holds (after_all V t es) ask found
  holds_later t es ask found held =
      let stays = stays_all t es in
      record {
        env = held_env t (after_all V t es) (env_named ask) found.env stays.envs_stay held.env;
        one = held_state t (after_all V t es) (one_named ask) found.one stays.states_stay held.one;
        two = held_state t (after_all V t es) (two_named ask) found.two stays.states_stay held.two;
      }

  after_append : (t : PlainTree E S) (xs ys : List Entry) → after_all V t (xs ++ ys) ≡ after_all V (after_all V t xs) ys
  after_append t [] ys = refl
  after_append t (x ∷ xs) ys = after_append (step V t x) xs ys

  -- the same over a book, for a view and a history that extends it
  pub holds_beyond : (book : E) (seen more : List Entry) (ask : Ask) (found : Found E S) → Holds (replay V book seen) ask found → Holds (replay V book (seen ++ more)) ask found
  unfolding replay
  holds_beyond book seen more ask found held = rw (after_append (opening V book) seen more) (holds_later (after_all V (opening V book) seen) more ask found held)
