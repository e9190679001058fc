-- A request that is looked up again.
use Rattle.std.proofs.Common.{◌≡◌, ℕ, ◌<◌, Bool, length, sym, ◌∙◌, ap, subst, false, Ok}
use Rattle.repl_json.specs.declared.reply.Line.{Line}
use Rattle.repl_json.specs.declared.request.Ask.{Ask}
use Rattle.state_tree.specs.declared.work.Found.{Found}
use Rattle.state_tree.specs.declared.tree.Outcome.{Outcome}
use Rattle.state_tree.specs.declared.tree.Outcome.TheVariants.{Entered, Again, Full}
use Rattle.state_tree.specs.Value.{Value}
use Rattle.state_tree.specs.Again.{is_bad}
use Rattle.state_tree.specs.Prepared.{Prepared, known_by}
use Rattle.state_tree.specs.TreeModel.{TreeModel}
use Rattle.state_tree.specs.Enters.{MissedAs, tree_of}
use Rattle.session_server.specs.Sees.{OthersCome, EntersThere, EntersOne}
use Rattle.session_server.specs.Answers.{IsFit, Tries, misses}
use Rattle.session_server.specs.Made.{IsLookedUp}
use Rattle.session_server.specs.declared.answer.Tried.{Tried}
use Rattle.session_server.specs.declared.answer.Tried.TheVariants as trying
use Rattle.session_server.proofs.Fit.{fit_later, not_bad}
use Rattle.session_server.proofs.LessMissed.{misses_less}
use Rattle.session_server.proofs.SeesLemmas.{others_more, one_there}

module _ {E S : Type 0} (V : Ask → Found E S → Value E S) (alone : Bool) (pass : ℕ) where
  -- a further look after a turn that found something missed
  pub others_again : (old tree now new : TreeModel E) (ready given : Prepared E S) (id : ℕ) → OthersCome alone pass old tree → MissedAs V tree now ready given id → OthersCome alone pass now new → OthersCome alone pass old new
  others_again old tree now new ready given id before missed after =
      others_more alone pass old tree new before (subst (λ (t : TreeModel E). OthersCome alone pass t new) missed.stays after)

  -- what that look found misses less
  pub tried_again : (old tree now new : TreeModel E) (ready given again : Prepared E S) (id : ℕ) → IsFit (tree_of V old) ready → OthersCome alone pass old tree → MissedAs V tree now ready given id
      → OthersCome alone pass now new → again.request ≡ given.request → IsFit (tree_of V new) again → IsLookedUp (tree_of V new) again
      → OthersCome alone pass old new × (again.request ≡ ready.request) × IsFit (tree_of V new) again × (misses again < misses ready)
  tried_again old tree now new ready given again id fit before missed after same fits looked =
      let from_tree = subst (λ (t : TreeModel E). OthersCome alone pass t new) missed.stays after in
      let request : again.request ≡ ready.request = same ∙ ap (λ (p : Prepared E S). p.request) missed.same in (
        others_again old tree now new ready given id before missed after,
        request,
        fits,
        misses_less V tree new from_tree.since ready again id from_tree.sees.grows (fit_later V old tree before.since ready before.sees.grows fit).held missed.missed request looked,
      )

module _ {E : Type 0} (alone : Bool) (pass : ℕ) where
  -- the turn found the journal full
  pub full_there : (old tree new : TreeModel E) (n : ℕ) → OthersCome alone pass old tree → (length tree.journal ≡ tree.entries) × (n ≡ tree.entries) × (new ≡ tree)
      → OthersCome alone pass old new × (length new.journal ≡ new.entries) × (n ≡ new.entries)
  full_there old tree new n others full = subst (λ (t : TreeModel E). OthersCome alone pass old t × (length t.journal ≡ t.entries) × (n ≡ t.entries)) (sym full.2) (others, full.0, full.1)

module _ {E S W : Type 0} (V : Ask → Found E S → Value E S) (alone : Bool) (pass : ℕ) where
  -- by what entering came to
  pub entered_there : (old new : TreeModel E) (ready : Prepared E S) (o : Outcome W E S) (line : Line) → o ≡ Entered line → EntersThere V alone pass old new ready o → EntersOne V alone pass old new ready.request line
  entered_there old new ready o line is there =
      let t = subst (λ (x : Outcome W E S). EntersThere V alone pass old new ready x) is there in
      one_there V alone pass old t.tree new ready line t.others t.enters

  pub filled_there : (old new : TreeModel E) (ready : Prepared E S) (o : Outcome W E S) (n : ℕ) → o ≡ Full n → EntersThere V alone pass old new ready o → OthersCome alone pass old new × (length new.journal ≡ new.entries) × (n ≡ new.entries)
  filled_there old new ready o n is there =
      let t = subst (λ (x : Outcome W E S). EntersThere V alone pass old new ready x) is there in
      full_there alone pass old t.tree new n t.others t.enters

  pub good_again : (old now : TreeModel E) (ready given : Prepared E S) (o : Outcome W E S) (id : ℕ) → o ≡ Again given id → EntersThere V alone pass old now ready o → is_bad given.request.ask ≡ false
  good_again old now ready given o id is there =
      let t = subst (λ (x : Outcome W E S). EntersThere V alone pass old now ready x) is there in
      ap (λ (p : Prepared E S). is_bad p.request.ask) t.enters.same ∙ not_bad (tree_of V t.tree) ready.request (known_by ready) id t.enters.missed

  pub missed_there : (old now new : TreeModel E) (ready given again : Prepared E S) (o : Outcome W E S) (id : ℕ) → o ≡ Again given id → EntersThere V alone pass old now ready o → IsFit (tree_of V old) ready
      → OthersCome alone pass now new → again.request ≡ given.request → IsFit (tree_of V new) again → IsLookedUp (tree_of V new) again
      → OthersCome alone pass old new × (again.request ≡ ready.request) × IsFit (tree_of V new) again × (misses again < misses ready)
  missed_there old now new ready given again o id is there fit after same fits looked =
      let t = subst (λ (x : Outcome W E S). EntersThere V alone pass old now ready x) is there in
      tried_again V alone pass old t.tree now new ready given again id fit t.others t.enters after same fits looked

  pub others_there : (old now new : TreeModel E) (ready given : Prepared E S) (o : Outcome W E S) (id : ℕ) → o ≡ Again given id → EntersThere V alone pass old now ready o → OthersCome alone pass now new → OthersCome alone pass old new
  others_there old now new ready given o id is there after =
      let t = subst (λ (x : Outcome W E S). EntersThere V alone pass old now ready x) is there in
      others_again V alone pass old t.tree now new ready given id t.others t.enters after

  -- by what a try came to
  pub entered_by : (old new : TreeModel E) (ready : Prepared E S) (o : Tried W E S) (line : Line) → o ≡ trying.Entered line → Tries V alone pass old new ready (Ok o) → EntersOne V alone pass old new ready.request line
  entered_by old new ready o line is tried = subst (λ (x : Tried W E S). Tries V alone pass old new ready (Ok x)) is tried

  pub missed_by : (old new : TreeModel E) (ready again : Prepared E S) (o : Tried W E S) → o ≡ trying.Missed again → Tries V alone pass old new ready (Ok o)
      → OthersCome alone pass old new × (again.request ≡ ready.request) × IsFit (tree_of V new) again × (misses again < misses ready)
  missed_by old new ready again o is tried = subst (λ (x : Tried W E S). Tries V alone pass old new ready (Ok x)) is tried
