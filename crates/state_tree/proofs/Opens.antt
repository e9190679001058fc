-- A request whose result is read is answered as the server answers it.
use Rattle.std.proofs.Common.{◌≡◌, ℕ, nat_lt, Bool, true, false, cond, length, Option, None, Some, refl, sym, ◌∙◌, ap, is_some, slice_get, option_map}
use Rattle.repl_json.specs.Bad.{bad_body}
use Rattle.repl_json.specs.Names.{env_named, one_named, two_named}
use Rattle.repl_json.specs.declared.request.Ask.{Ask}
use Rattle.repl_json.specs.declared.request.Ask.TheVariants.{Bad, Delete, Reset, Stat}
use Rattle.state_tree.specs.declared.slot.Slot.{Slot}
use Rattle.state_tree.specs.declared.check.IdCheck.TheVariants.{Usable, Gone, Missed}
use Rattle.state_tree.specs.declared.work.Found.{Found}
use Rattle.state_tree.specs.declared.work.Entry.{Entry}
use Rattle.state_tree.specs.declared.work.Gave.{Gave}
use Rattle.state_tree.specs.declared.work.Gave.TheVariants as gave
use Rattle.state_tree.specs.declared.work.Worked.{Worked}
use Rattle.state_tree.specs.declared.work.Worked.TheVariants.{Said, NewEnv, NewState, Memory}
use Rattle.state_tree.specs.Value.{Value, Says, Gives, value_at}
use Rattle.state_tree.specs.Server.{PlainTree, Stepped, ◌or◌, or_else, bad_case, flag_case, early_case, memory_case, value_case, answer, env_at, state_at, found_in, MayStand}
use Rattle.state_tree.specs.Again.{is_bad, env_check, slot_check, state_check}
use Rattle.state_tree.specs.Results.{result_case, gave_by, open_case, open_gave}
use Rattle.state_tree.specs.Prepared.{Prepared, IsPrepared, is_refused, is_memory}
use Rattle.state_tree.specs.TreeModel.{HeldAs, Holds, gave_of, entry_of}
use Rattle.state_tree.proofs.CheckLemmas.{AreUsable}

module _ {S : Type 0} where
  found_slot : (id : ℕ) (slot : Option (Slot S)) (found : Option S) → slot_check id (is_some found) slot ≡ Usable → HeldAs (option_map (λ x. x.state) slot) found
      → option_map (λ x. x.state) slot ≡ found
  found_slot id None found clear held = cc
  found_slot id (Some slot) None clear held = cc
  found_slot id (Some slot) (Some state) clear held = held

always : (b : Bool) → cond b gave.Answer gave.Answer ≡ gave.Answer
always true = refl
always false = refl

never_env : (id : ℕ) (made : Bool) → cond made (Missed id) (Gone id) ≡ Usable → ⊥
never_env id true clear = cc
never_env id false clear = cc

module _ {E S : Type 0} where
  found_env : (t : PlainTree E S) (named : Option ℕ) (found : Option E) → env_check (length t.envs) named (is_some found) ≡ Usable → HeldAs (env_at t named) found → env_at t named ≡ found
  found_env t None None clear held = refl
  found_env t None (Some env) clear held = held
  found_env t (Some id) (Some env) clear held = held
  found_env t (Some id) None clear held = absurd (never_env id (nat_lt id (length t.envs)) clear)

  found_state : (t : PlainTree E S) (named : Option ℕ) (found : Option S) → state_check t.states named (is_some found) ≡ Usable → HeldAs (state_at t named) found → state_at t named ≡ found
  found_state t None None clear held = refl
  found_state t None (Some state) clear held = held
  found_state t (Some id) found clear held = found_slot id (slice_get t.states id) found clear held

  -- what was found is all that is named
  pub found_all : (t : PlainTree E S) (ask : Ask) (found : Found E S)
      → AreUsable (env_check (length t.envs) (env_named ask) (is_some found.env)) (state_check t.states (one_named ask) (is_some found.one)) (state_check t.states (two_named ask) (is_some found.two))
      → Holds t ask found → found_in t ask ≡ found
  found_all t ask found clear held =
      let env = found_env t (env_named ask) found.env clear.env held.env in
      let one = found_state t (one_named ask) found.one clear.one held.one in
      let two = found_state t (two_named ask) found.two clear.two held.two in
      rw (env, one, two) refl

  -- a result that isn't want of memory says the value
  worked_value : (t : PlainTree E S) (v : Value E S) (worked : Worked E S) → Gives v worked → is_memory worked ≡ false → result_case t worked ≡ value_case t v
  worked_value t v (Said body) gives some = ap (value_case t) (sym gives)
  worked_value t v (NewEnv env body) gives some = ap (value_case t) (sym gives)
  worked_value t v (NewState state body) gives some = ap (value_case t) (sym gives)
  worked_value t v Memory gives some = cc

  -- what the cases 5 and 6 give, where the value is v
  last_cases : (t : PlainTree E S) (v : Value E S) (worked : Worked E S) → Gives v worked → or_else (memory_case t (gave_by worked)) (value_case t v) ≡ result_case t worked
  last_cases t v (Said body) gives = ap (value_case t) gives
  last_cases t v (NewEnv env body) gives = ap (value_case t) gives
  last_cases t v (NewState state body) gives = ap (value_case t) gives
  last_cases t v Memory gives = refl

  -- what is known of a request whose check is open
  pub record IsOpen (V : Ask → Found E S → Value E S) (t : PlainTree E S) (ready : Prepared E S) : Type 0 where
    pub early : early_case t ready.request ≡ (bad_case t ready.request.ask or flag_case t ready.request.ask)
    pub prepared : IsPrepared V ready
    pub found : ready.given_up ≡ false → found_in t ready.request.ask ≡ ready.found
    pub some : is_bad ready.request.ask ≡ true → is_refused ready ≡ false

  abbrev pub entry_as : ℕ → Prepared E S → Gave → Entry
  entry_as pass ready gave = record { pass = pass; request = ready.request; gave = gave }

  -- it is answered as its result says, and its entry says what it is to say
  pub record Opens (V : Ask → Found E S → Value E S) (t : PlainTree E S) (pass : ℕ) (ready : Prepared E S) : Type 0 where
    pub gave : open_gave t ready.request.ask ready.worked ≡ gave_of t ready
    pub answer_is : answer V t (entry_of t pass ready) ≡ open_case t ready.request.ask ready.worked
    pub stands : MayStand t (entry_of t pass ready)

  -- where cases 1 to 4 give nothing, the rest is by the result
  last : (early : Option (Stepped E S)) (t : PlainTree E S) (v w : Value E S) (worked : Worked E S) → early ≡ None → Gives v worked → (is_memory worked ≡ false → w ≡ v)
      → or_else (early or memory_case t (cond (is_memory worked) (cond (is_some early) gave.Answer gave.Memory) gave.Answer)) (value_case t w) ≡ result_case t worked
  last early t v w (Said body) none gives same = rw (none, same refl, gives) refl
  last early t v w (NewEnv env body) none gives same = rw (none, same refl, gives) refl
  last early t v w (NewState state body) none gives same = rw (none, same refl, gives) refl
  last early t v w Memory none gives same = rw none refl

  kept_at : (up : Bool) (worked : Worked E S) → (up ≡ true → worked ≡ Memory) → is_memory worked ≡ false → up ≡ false
  kept_at true worked only some = let e = only refl in let f : is_memory worked ≡ true = ap is_memory e in cc
  kept_at false worked only some = refl

  -- a given up request has no other result
  kept_up : (V : Ask → Found E S → Value E S) (ready : Prepared E S) → IsPrepared V ready → is_memory ready.worked ≡ false → ready.given_up ≡ false
  kept_up V ready prepared some = kept_at ready.given_up ready.worked prepared.given_up some

  stands_at : (early : Option (Stepped E S)) (refused : Bool) → cond refused (cond (is_some early) gave.Answer gave.Memory) gave.Answer ≡ gave.Memory → early ≡ None
  stands_at None refused says_so = refl
  stands_at (Some x) true says_so = cc
  stands_at (Some x) false says_so = cc

  pub stands : (t : PlainTree E S) (pass : ℕ) (ready : Prepared E S) → MayStand t (entry_of t pass ready)
  stands t pass ready = stands_at (early_case t ready.request) (is_refused ready)

  -- what the entry says, where the cases 1 to 4 give this
  abbrev pub gave_at : Option (Stepped E S) → Worked E S → Gave
  gave_at early worked = cond (is_memory worked) (cond (is_some early) gave.Answer gave.Memory) gave.Answer

  gave_none : (early : Option (Stepped E S)) (worked : Worked E S) → early ≡ None → gave_by worked ≡ gave_at early worked
  gave_none early (Said body) none = refl
  gave_none early (NewEnv env body) none = refl
  gave_none early (NewState state body) none = refl
  gave_none early Memory none = rw none refl

  pub gave_some : (early : Option (Stepped E S)) (x : Stepped E S) (worked : Worked E S) → early ≡ Some x → gave.Answer ≡ gave_at early worked
  gave_some early x worked some = rw some (sym (always (is_memory worked)))

  -- and the answer
  abbrev pub answer_at : PlainTree E S → Option (Stepped E S) → Worked E S → Value E S → Stepped E S
  answer_at t early worked v = or_else (early or memory_case t (gave_at early worked)) (value_case t v)

  answer_some : (t : PlainTree E S) (early : Option (Stepped E S)) (x : Stepped E S) (worked : Worked E S) (v : Value E S) → early ≡ Some x → answer_at t early worked v ≡ x
  answer_some t early x worked v some = rw some refl

  bad_result : (t : PlainTree E S) (v : Value E S) (worked : Worked E S) → Gives v worked → is_memory worked ≡ false → gave_by worked ≡ gave.Answer
  bad_result t v (Said body) gives some = refl
  bad_result t v (NewEnv env body) gives some = refl
  bad_result t v (NewState state body) gives some = refl
  bad_result t v Memory gives some = cc

  -- what an open request comes to
  pub record Comes (t : PlainTree E S) (early : Option (Stepped E S)) (ask : Ask) (worked : Worked E S) (v : Value E S) : Type 0 where
    pub gave : open_gave t ask worked ≡ gave_at early worked
    pub answer_is : answer_at t early worked v ≡ open_case t ask worked

  comes_flag : (t : PlainTree E S) (early : Option (Stepped E S)) (ask : Ask) (x : Stepped E S) (worked : Worked E S) (v : Value E S) → flag_case t ask ≡ Some x → early ≡ Some x → Comes t early ask worked v
  comes_flag t early ask x worked v flag some = record {
    gave = rw flag (gave_some early x worked some);
    answer_is = rw flag (answer_some t early x worked v some);
  }

  comes_last : (t : PlainTree E S) (early : Option (Stepped E S)) (ask : Ask) (worked : Worked E S) (v w : Value E S) → flag_case t ask ≡ None → early ≡ None → Gives v worked
      → (is_memory worked ≡ false → w ≡ v) → Comes t early ask worked w
  comes_last t early ask worked v w flag none gives same = record {
    gave = rw flag (gave_none early worked none);
    answer_is = rw flag (last early t v w worked none gives same);
  }

  comes : (V : Ask → Found E S → Value E S) (t : PlainTree E S) (early : Option (Stepped E S)) (ask : Ask) (found : Found E S) (worked : Worked E S) → early ≡ (bad_case t ask or flag_case t ask)
      → Gives (value_at V ask found) worked → (is_memory worked ≡ false → found_in t ask ≡ found) → (is_bad ask ≡ true → is_memory worked ≡ false)
      → Comes t early ask worked (V ask (found_in t ask))
  comes V t early (Bad bad) found worked is gives same some = record {
    gave = bad_result t _ worked gives (some refl) ∙ gave_some early _ worked is;
    answer_is = answer_some t early _ worked _ is ∙ sym (worked_value t (Says (bad_body bad)) worked gives (some refl));
  }
  comes V t early (Delete id) found worked is gives same some = comes_flag t early (Delete id) _ worked _ refl is
  comes V t early Reset found worked is gives same some = comes_flag t early Reset _ worked _ refl is
  comes V t early Stat found worked is gives same some = comes_flag t early Stat _ worked _ refl is
  comes V t early ask found worked is gives same some = comes_last t early ask worked (V ask found) (V ask (found_in t ask)) refl is gives (λ h. ap (V ask) (same h))

  pub opens : (V : Ask → Found E S → Value E S) (t : PlainTree E S) (pass : ℕ) (ready : Prepared E S) → IsOpen V t ready → Opens V t pass ready
  unfolding answer
  opens V t pass ready open_now =
      let come = comes V t (early_case t ready.request) ready.request.ask ready.found ready.worked open_now.early open_now.prepared.gives
      (λ h. open_now.found (kept_up V ready open_now.prepared h)) open_now.some in
      record { gave = come.gave; answer_is = come.answer_is; stands = stands t pass ready }
