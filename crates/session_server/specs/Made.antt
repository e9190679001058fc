-- Requests that are made ready, each on what its look found.
use Rattle.std.specs.Prelude.{◌≡◌, ◌⊎◌, true, false, not, Option, Some, None, is_some, IfSome}
use Rattle.repl_json.specs.declared.request.Ask.{Ask}
use Rattle.repl_json.specs.declared.request.Request.{Request}
use Rattle.state_tree.specs.declared.work.Found.{Found}
use Rattle.state_tree.specs.Value.{Value}
use Rattle.state_tree.specs.Server.{PlainTree, found_in}
use Rattle.state_tree.specs.Again.{is_bad}
use Rattle.state_tree.specs.TreeModel.{Holds}
use Rattle.state_tree.specs.Prepared.{Prepared, IsPrepared, is_refused, nothing}

module _ {E S : Type 0} where
  -- the look found what the tree holds, or no memory; there it is always enough for a request that its line alone decides
  pub record IsLooked (t : PlainTree E S) (request : Request) (found : Option (Found E S)) : Type 0 where
    pub held : IfSome found (λ f. f ≡ found_in t request.ask)
    pub bad : is_bad request.ask ≡ true → is_some found ≡ true

  -- the same of a look into an earlier tree: what it found is held
  pub record IsKept (t : PlainTree E S) (request : Request) (found : Option (Found E S)) : Type 0 where
    pub held : IfSome found (λ f. Holds t request.ask f)
    pub bad : is_bad request.ask ≡ true → is_some found ≡ true

  -- a prepared request was looked up in this tree, or given up
  abbrev pub IsLookedUp : PlainTree E S → Prepared E S → Type 0
  IsLookedUp t ready = (ready.given_up ≡ true) ⊎ ((ready.given_up ≡ false) × (ready.found ≡ found_in t ready.request.ask))

  abbrev pub or_nothing : Option (Found E S) → Found E S
  or_nothing None = nothing
  or_nothing (Some found) = found

  -- the request is ready, with its value on what was found, or want of memory; it was given up where its look found no memory
  pub record Makes (V : Ask → Found E S → Value E S) (request : Request) (found : Option (Found E S)) (ready : Prepared E S) : Type 0 where
    pub request_is : ready.request ≡ request
    pub found_is : ready.found ≡ or_nothing found
    pub given_up : ready.given_up ≡ not (is_some found)
    pub prepared : IsPrepared V ready

  -- it may be entered: a request that its line alone decides isn't answered by want of memory
  pub record MakesFit (V : Ask → Found E S → Value E S) (request : Request) (found : Option (Found E S)) (ready : Prepared E S) : Type 0 where
    pub made : Makes V request found ready
    pub bad : is_bad request.ask ≡ true → is_refused ready ≡ false
