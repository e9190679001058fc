-- Requests that were made ready may be entered.
use Rattle.std.proofs.Common.{◌≡◌, Bool, true, false, List, [], ◌∷◌, ◌++◌, map, Option, None, Some, Result, Ok, IfOk, IfSome, inl, inr, refl, sym, ◌∙◌, ap, subst}
use Rattle.std.specs.List.{AllByRecursion, AllZip}
use Rattle.repl_json.specs.Names.{names_any}
use Rattle.repl_json.specs.declared.request.Ask.{Ask}
use Rattle.repl_json.specs.declared.request.Ask.TheVariants as ask
use Rattle.repl_json.specs.declared.request.Request.{Request}
use Rattle.state_tree.specs.declared.work.Found.{Found}
use Rattle.state_tree.specs.Value.{Value}
use Rattle.state_tree.specs.Server.{PlainTree, found_in}
use Rattle.state_tree.specs.Again.{is_bad}
use Rattle.state_tree.specs.Prepared.{Prepared}
use Rattle.state_tree.specs.TreeModel.{Holds}
use Rattle.state_tree.proofs.Looks.{holds_found, holds_nothing}
use Rattle.session_server.specs.Answers.{IsFit, AreFit, requests_in_readies}
use Rattle.session_server.specs.Made.{IsLooked, IsKept, IsLookedUp, Makes, MakesFit}

pub all_push : {X : Type 0} (P : X → Type 0) (xs : List X) (x : X) → AllByRecursion P xs → P x → AllByRecursion P (xs ++ x ∷ [])
all_push P [] x old new = (new, tt)
all_push P (y ∷ ys) x old new = (old.0, all_push P ys x old.1 new)

-- a request that its line alone decides names nothing
pub bad_names_none : (a : Ask) → is_bad a ≡ true → names_any a ≡ false
bad_names_none (ask.Bad bad) h = refl
bad_names_none (ask.Echo env expr fuel) h = absurd (let no : ⊥ = cc in no)
bad_names_none (ask.EnvAdd env text fuel) h = absurd (let no : ⊥ = cc in no)
bad_names_none (ask.EnvInspect env name) h = absurd (let no : ⊥ = cc in no)
bad_names_none (ask.EnvCatalog env) h = absurd (let no : ⊥ = cc in no)
bad_names_none (ask.Start env expr fuel) h = absurd (let no : ⊥ = cc in no)
bad_names_none (ask.Move state goal text fuel auto) h = absurd (let no : ⊥ = cc in no)
bad_names_none (ask.Continue target branch) h = absurd (let no : ⊥ = cc in no)
bad_names_none (ask.Resume state goals) h = absurd (let no : ⊥ = cc in no)
bad_names_none (ask.Print state) h = absurd (let no : ⊥ = cc in no)
bad_names_none (ask.Delete state) h = absurd (let no : ⊥ = cc in no)
bad_names_none ask.Reset h = absurd (let no : ⊥ = cc in no)
bad_names_none ask.Stat h = absurd (let no : ⊥ = cc in no)

not_both : {A : Type 0} (b : Bool) → b ≡ false → b ≡ true → A
not_both b is_false is_true = absurd (let e : false ≡ true = sym is_false ∙ is_true in cc)

module _ {E S : Type 0} (V : Ask → Found E S → Value E S) (t : PlainTree E S) where
  kept_made : (request : Request) (found : Option (Found E S)) (ready : Prepared E S) → IsKept t request found → Makes V request found ready → Holds t ready.request.ask ready.found
  kept_made request None ready kept made = subst (Holds t ready.request.ask) (sym made.found_is) (holds_nothing t ready.request.ask)
  kept_made request (Some f) ready kept made =
      subst (λ (found : Found E S). Holds t ready.request.ask found) (sym made.found_is) (subst (λ (r : Request). Holds t r.ask f) (sym made.request_is) kept.held)

  -- what is ready on what a look kept is fit
  pub fit_made : (request : Request) (found : Option (Found E S)) (ready : Prepared E S) → IsKept t request found → MakesFit V request found ready → IsFit t ready
  fit_made request found ready kept fits = record {
    held = kept_made request found ready kept fits.made;
    bad = λ h. fits.bad (ap (λ (r : Request). is_bad r.ask) (sym fits.made.request_is) ∙ h);
  }

  found_holds : (request : Request) (found : Option (Found E S)) → IfSome found (λ f. f ≡ found_in t request.ask) → IfSome found (λ f. Holds t request.ask f)
  found_holds request None is = tt
  found_holds request (Some f) is = holds_found t request.ask f is

  -- what a look found is kept
  pub kept_now : (request : Request) (found : Option (Found E S)) → IsLooked t request found → IsKept t request found
  kept_now request found looked = record { held = found_holds request found looked.held; bad = looked.bad }

  pub fit_good : (request : Request) (found : Option (Found E S)) (ready : Prepared E S) → is_bad request.ask ≡ false → IsLooked t request found → Makes V request found ready → IsFit t ready
  fit_good request found ready good looked made = fit_made request found ready (kept_now request found looked) (record { made = made; bad = not_both (is_bad request.ask) good })

  pub looked_made : (request : Request) (found : Option (Found E S)) (ready : Prepared E S) → IsLooked t request found → Makes V request found ready → IsLookedUp t ready
  looked_made request None ready looked made = inl made.given_up
  looked_made request (Some f) ready looked made = inr (made.given_up, made.found_is ∙ looked.held ∙ ap (λ (r : Request). found_in t r.ask) (sym made.request_is))

  -- jobs of any type that hold a request and what its look found, and their results
  module _ {J : Type 0} (request_of : J → Request) (found_of : J → Option (Found E S)) where
    pub all_fit : (jobs : List J) (readies : List (Prepared E S)) → AllByRecursion (λ job. IsKept t (request_of job) (found_of job)) jobs
        → AllZip (λ job ready. MakesFit V (request_of job) (found_of job) ready) jobs readies → AreFit t readies
    all_fit [] [] kept results = tt
    all_fit [] (ready ∷ readies) kept results = absurd results
    all_fit (job ∷ jobs) [] kept results = absurd results
    all_fit (job ∷ jobs) (ready ∷ readies) kept results = (fit_made (request_of job) (found_of job) ready kept.0 results.0, all_fit jobs readies kept.1 results.1)

module _ {E S : Type 0} (V : Ask → Found E S → Value E S) where
  module _ {J : Type 0} (request_of : J → Request) (found_of : J → Option (Found E S)) where
    abbrev pub MayGive : {F : Type 0} → J → Result (Prepared E S) F → Type 0
    MayGive job done = IfOk done (λ ready. MakesFit V (request_of job) (found_of job) ready)

    pub same_requests : (jobs : List J) (readies : List (Prepared E S)) → AllZip (λ job ready. MakesFit V (request_of job) (found_of job) ready) jobs readies → requests_in_readies readies ≡ map request_of jobs
    same_requests [] [] results = refl
    same_requests [] (ready ∷ readies) results = absurd results
    same_requests (job ∷ jobs) [] results = absurd results
    same_requests (job ∷ jobs) (ready ∷ readies) results =
        ap (λ l. ready.request ∷ l) (same_requests jobs readies results.1) ∙ ap (λ r. r ∷ map request_of jobs) results.0.made.request_is

    zip_made : (F : Type 0) (jobs : List J) (readies : List (Prepared E S)) → AllZip (MayGive {F = F}) jobs (map Ok readies) → AllZip (λ job ready. MakesFit V (request_of job) (found_of job) ready) jobs readies
    zip_made F [] [] results = tt
    zip_made F [] (ready ∷ readies) results = absurd results
    zip_made F (job ∷ jobs) [] results = absurd results
    zip_made F (job ∷ jobs) (ready ∷ readies) results = (results.0, zip_made F jobs readies results.1)

    -- where nothing failed
    pub all_made : {F : Type 0} (jobs : List J) (made : List (Result (Prepared E S) F)) (readies : List (Prepared E S)) → made ≡ map Ok readies
        → AllZip (MayGive {F = F}) jobs made → AllZip (λ job ready. MakesFit V (request_of job) (found_of job) ready) jobs readies
    all_made {F} jobs made readies is results = zip_made F jobs readies (subst (λ l. AllZip (MayGive {F = F}) jobs l) is results)
