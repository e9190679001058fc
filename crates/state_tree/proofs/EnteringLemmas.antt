-- A tree with one entry more.
use Rattle.std.proofs.Common.{◌≡◌, ◌≢◌, ℕ, true, false, List, [], ◌∷◌, ◌++◌, length, None, Some, refl, sym, ◌∙◌, ap, arith, subst}
use Rattle.repl_json.specs.Names.{env_named, one_named, two_named}
use Rattle.repl_json.specs.declared.reply.Line.{Line}
use Rattle.repl_json.specs.declared.request.Ask.{Ask}
use Rattle.state_tree.specs.declared.holdings.Holdings.{Holdings}
use Rattle.state_tree.specs.declared.check.Check.{Check}
use Rattle.state_tree.specs.declared.check.Check.TheVariants.{Again, Early, Open}
use Rattle.state_tree.specs.declared.work.Found.{Found}
use Rattle.state_tree.specs.declared.work.Entry.{Entry}
use Rattle.state_tree.specs.declared.work.Gave.TheVariants as gave
use Rattle.state_tree.specs.Value.{Value}
use Rattle.state_tree.specs.Server.{PlainTree, Stepped, says, ◌or◌, or_else, memory_case, value_case, answer, step, early_case, found_in, MayStand, replay, IsLegal}
use Rattle.state_tree.specs.Again.{is_bad, again_of, env_check, state_check}
use Rattle.state_tree.specs.Holdings.{plain, stepped, check_of, HasRoom}
use Rattle.state_tree.specs.Results.{open_case, open_gave}
use Rattle.state_tree.specs.Prepared.{Prepared, IsPrepared, is_refused, known_by}
use Rattle.state_tree.specs.TreeModel.{TreeModel, IsReplayed, Holds, gave_of, entry_of}
use Rattle.state_tree.specs.Enters.{EntersAs, MissedAs, tree_of}
use Rattle.state_tree.proofs.CheckLemmas.{Checks, check_says, AreUsable}
use Rattle.state_tree.proofs.Opens.{IsOpen, opens, found_all, gave_some, stands, entry_as}
use Rattle.state_tree.proofs.Replays.{replay_more, legal_more}

module _ {E S : Type 0} where
  abbrev pub view : E → ℕ → Holdings E S → TreeModel E
  view book n holdings = record { book = book; entries = n; journal = holdings.journal.items }

  -- what a check says, by its answer
  checked : (t : PlainTree E S) (ready : Prepared E S) (check : Check) → check ≡ check_of t ready.request (known_by ready)
      → Checks t ready.request.after ready.request.ask (known_by ready) check
  checked t ready check is = subst (Checks t ready.request.after ready.request.ask (known_by ready)) (sym is) (check_says t ready.request.after ready.request.ask (known_by ready))

module _ {E S : Type 0} (V : Ask → Found E S → Value E S) where
  step_is : (g g' : Holdings E S) (e : Entry) (line : Line) → answer V (plain g) e ≡ stepped line g' → g'.journal.items ≡ g.journal.items ++ e ∷ [] → step V (plain g) e ≡ plain g'
  step_is g g' e line ans jour =
      ap (λ (x : Stepped E S). record { envs = x.envs; states = x.states; journal = g.journal.items ++ e ∷ [] }) ans
      ∙ ap (λ (j : List Entry). record { envs = g'.envs.items; states = g'.states.items; journal = j }) (sym jour)

  grown_more : (book : E) (n : ℕ) (g g' : Holdings E S) (e : Entry) (line : Line) → IsReplayed V book n g → MayStand (plain g) e → answer V (plain g) e ≡ stepped line g'
      → g'.journal.items ≡ g.journal.items ++ e ∷ [] → HasRoom g' n → IsReplayed V book n g'
  grown_more book n g g' e line grown may ans jour room = record {
    is = ap (replay V book) jour ∙ replay_more V book g.journal.items e ∙ ap (λ t. step V t e) grown.is ∙ step_is g g' e line ans jour;
    legal = subst (IsLegal V book) (sym jour) (legal_more V book g.journal.items e grown.legal (subst (λ t. MayStand t e) (sym grown.is) may));
    room = room;
  }

  -- the tree after an entry, and what entering it was
  pub record Went (book : E) (n : ℕ) (g g' : Holdings E S) (pass : ℕ) (ready : Prepared E S) (line : Line) : Type 0 where
    pub grown : IsReplayed V book n g'
    pub enters : EntersAs V (view book n g) (view book n g') pass ready line

  went : (book : E) (n : ℕ) (g g' : Holdings E S) (pass : ℕ) (ready : Prepared E S) (line : Line) → IsReplayed V book n g → length g.journal.items ≢ n
      → again_of (plain g) ready.request (known_by ready) ≡ None
      → answer V (plain g) (entry_of (plain g) pass ready) ≡ stepped line g' → g'.journal.items ≡ g.journal.items ++ entry_of (plain g) pass ready ∷ []
      → HasRoom g' n → Went book n g g' pass ready line
  went book n g g' pass ready line grown some again ans jour room = record {
    grown = grown_more book n g g' (entry_of (plain g) pass ready) line grown (stands (plain g) pass ready) ans jour room;
    enters = record {
      room = omega (arith, grown.room.journal);
      found = rw grown.is again;
      line_is = rw grown.is (sym (ap (λ (x : Stepped E S). x.line) ans));
      entry = rw grown.is (ap (λ (j : List Entry). record { book = book; entries = n; journal = j }) jour);
    };
  }

  answer_early : (t : PlainTree E S) (e : Entry) (x : Stepped E S) → early_case t e.request ≡ Some x → answer V t e ≡ x
  unfolding answer
  answer_early t e x some = ap (λ c. or_else (c or memory_case t e.gave) (value_case t (V e.request.ask (found_in t e.request.ask)))) some

  pub went_early : (book : E) (n : ℕ) (g g' : Holdings E S) (pass : ℕ) (ready : Prepared E S) (line : Line) → IsReplayed V book n g → length g.journal.items ≢ n
      → Early line ≡ check_of (plain g) ready.request (known_by ready)
      → g'.envs ≡ g.envs → g'.states ≡ g.states → g'.journal.items ≡ g.journal.items ++ entry_as pass ready gave.Answer ∷ [] → HasRoom g' n
      → Went book n g g' pass ready line
  went_early book n g g' pass ready line grown some is envs states jour room =
      let says_it = checked (plain g) ready (Early line) is in
      let gave_is : gave.Answer ≡ gave_of (plain g) ready = gave_some (early_case (plain g) ready.request) (says (plain g) line) ready.worked says_it.1 in
      went book n g g' pass ready line grown some says_it.0
      (answer_early (plain g) (entry_of (plain g) pass ready) (says (plain g) line) says_it.1
      ∙ ap (λ v. record { line = line; envs = v.items; states = g.states.items }) (sym envs) ∙ ap (λ v. record { line = line; envs = g'.envs.items; states = v.items }) (sym states))
      (jour ∙ ap (λ w. g.journal.items ++ entry_as pass ready w ∷ []) gave_is) room

  pub missed : (book : E) (n : ℕ) (g : Holdings E S) (ready : Prepared E S) (id : ℕ) → IsReplayed V book n g → length g.journal.items ≢ n
      → Again id ≡ check_of (plain g) ready.request (known_by ready) → MissedAs V (view book n g) (view book n g) ready ready id
  missed book n g ready id grown some is = record {
    room = omega (arith, grown.room.journal);
    missed = rw grown.is (checked (plain g) ready (Again id) is);
    same = refl;
    stays = refl;
  }

  clear_found : (t : PlainTree E S) (ready : Prepared E S) → ready.given_up ≡ false
      → AreUsable (env_check (length t.envs) (env_named ready.request.ask) (known_by ready).env) (state_check t.states (one_named ready.request.ask) (known_by ready).one) (state_check t.states (two_named ready.request.ask) (known_by ready).two)
      → Holds t ready.request.ask ready.found → found_in t ready.request.ask ≡ ready.found
  clear_found t ready looked clear held = found_all t ready.request.ask ready.found (rw looked at clear) held

  pub went_open : (book : E) (n : ℕ) (g g' : Holdings E S) (pass : ℕ) (ready : Prepared E S) (line : Line) → IsReplayed V book n g → length g.journal.items ≢ n
      → Open ≡ check_of (plain g) ready.request (known_by ready) → IsPrepared V ready
      → Holds (tree_of V (view book n g)) ready.request.ask ready.found → (is_bad ready.request.ask ≡ true → is_refused ready ≡ false)
      → open_case (plain g) ready.request.ask ready.worked ≡ stepped line g'
      → g'.journal.items ≡ g.journal.items ++ entry_as pass ready (open_gave (plain g) ready.request.ask ready.worked) ∷ [] → HasRoom g' n
      → Went book n g g' pass ready line
  went_open book n g g' pass ready line grown some is prepared held bad opened jour room =
      let says_it = checked (plain g) ready Open is in
      let known : IsOpen V (plain g) ready = record {
        early = says_it.1;
        prepared = prepared;
        found = λ looked. clear_found (plain g) ready looked says_it.2 (rw grown.is at held);
        some = bad;
      } in
      let open_now = opens V (plain g) pass ready known in
      went book n g g' pass ready line grown some says_it.0 (open_now.answer_is ∙ opened)
      (jour ∙ ap (λ w. g.journal.items ++ entry_as pass ready w ∷ []) open_now.gave) room
