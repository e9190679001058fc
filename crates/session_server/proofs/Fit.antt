-- Prepared requests that may be entered.
use Rattle.std.proofs.Common.{◌≡◌, ℕ, Bool, true, false, cond, List, [], ◌∷◌, Option, None, Some, IfSome, refl, sym, subst}
use Rattle.std.specs.List.{AllByRecursion}
use Rattle.repl_json.specs.declared.request.Ask.{Ask}
use Rattle.repl_json.specs.declared.request.Request.{Request}
use Rattle.state_tree.specs.declared.work.Found.{Found}
use Rattle.state_tree.specs.declared.work.Entry.{Entry}
use Rattle.state_tree.specs.declared.check.Known.{Known}
use Rattle.state_tree.specs.Value.{Value}
use Rattle.state_tree.specs.Server.{PlainTree}
use Rattle.state_tree.specs.Again.{is_bad, again_of}
use Rattle.state_tree.specs.Prepared.{Prepared}
use Rattle.state_tree.specs.TreeModel.{TreeModel, Holds}
use Rattle.state_tree.specs.Enters.{tree_of}
use Rattle.state_tree.proofs.Stays.{holds_beyond}
use Rattle.session_server.specs.Entered.{with_entries}
use Rattle.session_server.specs.Made.{IsKept}
use Rattle.session_server.specs.Answers.{IsFit, AreFit}

not_first : {A : Type 0} (b : Bool) (x : Option A) (id : A) → cond b None x ≡ Some id → b ≡ false
not_first true x id is = cc
not_first false x id is = refl

module _ {E S : Type 0} where
  -- a request that its line alone decides is never looked up again
  pub not_bad : (t : PlainTree E S) (request : Request) (known : Known) (id : ℕ) → again_of t request known ≡ Some id → is_bad request.ask ≡ false
  not_bad t request known id missed = not_first (is_bad request.ask) _ id missed

module _ {E S : Type 0} (V : Ask → Found E S → Value E S) where
  held_beyond : (old new : TreeModel E) (more : List Entry) (ask : Ask) (found : Found E S) → new ≡ with_entries old more → Holds (tree_of V old) ask found → Holds (tree_of V new) ask found
  held_beyond old new more ask found grows held = subst (λ (g : TreeModel E). Holds (tree_of V g) ask found) (sym grows) (holds_beyond V old.book old.journal more ask found held)

  -- what was prepared stays fit as entries are added
  pub fit_later : (old new : TreeModel E) (more : List Entry) (ready : Prepared E S) → new ≡ with_entries old more → IsFit (tree_of V old) ready → IsFit (tree_of V new) ready
  fit_later old new more ready grows fit = record { held = held_beyond old new more ready.request.ask ready.found grows fit.held; bad = fit.bad }

  pub all_fit_later : (old new : TreeModel E) (more : List Entry) (readies : List (Prepared E S)) → new ≡ with_entries old more → AreFit (tree_of V old) readies → AreFit (tree_of V new) readies
  all_fit_later old new more [] grows all = tt
  all_fit_later old new more (ready ∷ readies) grows all = (fit_later old new more ready grows all.0, all_fit_later old new more readies grows all.1)

  kept_of : (old new : TreeModel E) (more : List Entry) (request : Request) (found : Option (Found E S)) → new ≡ with_entries old more → IfSome found (λ f. Holds (tree_of V old) request.ask f) → IfSome found (λ f. Holds (tree_of V new) request.ask f)
  kept_of old new more request None grows held = tt
  kept_of old new more request (Some f) grows held = held_beyond old new more request.ask f grows held

  -- what was looked up stays what the tree holds
  pub kept_later : (old new : TreeModel E) (more : List Entry) (request : Request) (found : Option (Found E S)) → new ≡ with_entries old more → IsKept (tree_of V old) request found → IsKept (tree_of V new) request found
  kept_later old new more request found grows kept = record { held = kept_of old new more request found grows kept.held; bad = kept.bad }

  -- jobs of any type that hold a request and what its look found
  module _ {J : Type 0} (request_of : J → Request) (found_of : J → Option (Found E S)) where
    pub all_kept_later : (old new : TreeModel E) (more : List Entry) (jobs : List J) → new ≡ with_entries old more → AllByRecursion (λ job. IsKept (tree_of V old) (request_of job) (found_of job)) jobs
        → AllByRecursion (λ job. IsKept (tree_of V new) (request_of job) (found_of job)) jobs
    all_kept_later old new more [] grows all = tt
    all_kept_later old new more (job ∷ jobs) grows all = (kept_later old new more (request_of job) (found_of job) grows all.0, all_kept_later old new more jobs grows all.1)
