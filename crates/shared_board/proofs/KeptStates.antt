-- What a cache holds stays what the tree holds.
use Rattle.std.proofs.Common.{◌≡◌, ℕ, true, ◌⊎◌, List, ◌++◌, Option, Some, None, Result, Ok, Err, IfOk, sym, ap, ◌∙◌, subst, ⊎_elim, nat_eq, Contains}
use Rattle.std.proofs.lemmas.Bool.{eqb-true}
use Rattle.std.specs.Map.{lookup}
use Rattle.lru.specs.LruCache.{LruCache, lru_cache, promoted, put_entries}
use Rattle.lru.proofs.CallerLemmas.{Contains-lookup, Contains-promoted, Contains-put_entries}
use Rattle.repl_json.specs.declared.request.Ask.{Ask}
use Rattle.repl_json.specs.declared.request.Ask.TheVariants.{Print}
use Rattle.state_tree.specs.declared.work.Found.{Found}
use Rattle.state_tree.specs.declared.work.Entry.{Entry}
use Rattle.state_tree.specs.Value.{Value}
use Rattle.state_tree.specs.Server.{PlainTree, replay, state_at}
use Rattle.state_tree.specs.TreeModel.{HeldAs}
use Rattle.state_tree.proofs.Stays.{holds_beyond}
use Rattle.shared_board.specs.declared.board_tree.TreeGround.{TreeGround}
use Rattle.shared_board.specs.Cached.{AreStatesOf, AreStatesSeen}

module _ {E S : Type 0} (V : Ask → Found E S → Value E S) where
  -- a made id keeps its state
  stay_states : (book : E) (seen more : List Entry) (kept : List (ℕ × S)) → AreStatesOf (replay V book seen) kept → AreStatesOf (replay V book (seen ++ more)) kept
  stay_states book seen more kept are = record {
    each = λ id state there. (holds_beyond V book seen more (Print id) (record { env = None; one = Some state; two = None }) (record { env = tt; one = are.each id state there; two = tt })).one;
  }

  pub stay_seen : (g : Option (TreeGround E)) (seen more journal : List Entry) (kept : List (ℕ × S)) → seen ++ more ≡ journal → AreStatesSeen V g seen kept → AreStatesSeen V g journal kept
  stay_seen None seen more journal kept is are = tt
  stay_seen (Some g) seen more journal kept is are = subst (λ (l : List Entry). AreStatesOf (replay V g.book l) kept) is (stay_states g.book seen more kept are)

module _ {E S : Type 0} (t : PlainTree E S) where
  -- the state that was used last goes first
  pub promoted_are : (kept : List (ℕ × S)) (id : ℕ) → AreStatesOf t kept → AreStatesOf t (promoted (nat_eq id) kept)
  promoted_are kept id are = record { each = λ i state there. are.each i state (Contains-promoted (nat_eq id) kept (i, state) there) }

  -- what is looked up in the cache
  pub recalled_is : (kept : List (ℕ × S)) (id : ℕ) (found : Option S) → AreStatesOf t kept → found ≡ lookup (nat_eq id) kept → HeldAs (state_at t (Some id)) found
  recalled_is kept id None are is = tt
  recalled_is kept id (Some state) are is = let c = Contains-lookup (nat_eq id) kept state (sym is) in subst (λ (k : ℕ). state_at t (Some k) ≡ Some state) (sym (eqb-true id c.0 c.2)) (are.each c.0 state c.1)

  pub recalled_ok : {X : Type 0} (kept : List (ℕ × S)) (id : ℕ) (r : Result (Option S) X) → IfOk r (λ found. found ≡ lookup (nat_eq id) kept) → AreStatesOf t kept → IfOk r (HeldAs (state_at t (Some id)))
  recalled_ok kept id (Ok found) is are = recalled_is kept id found are is
  recalled_ok kept id (Err x) is are = tt

  -- what is put into it
  put_each : (c : LruCache ℕ S) (id : ℕ) (state : S) → AreStatesOf t c.entries → state_at t (Some id) ≡ Some state → (i : ℕ) (s : S) → Contains (put_entries nat_eq c id state) (i, s) → state_at t (Some i) ≡ Some s
  put_each c id state are is i s there = ⊎_elim
      (λ (was : Contains c.entries (i, s)). are.each i s was)
      (λ (put : (s ≡ state) × ((i ≡ id) ⊎ ((w : S) × Contains c.entries (i, w) × (nat_eq id i ≡ true)))).
      let same : id ≡ i = ⊎_elim (λ (e : i ≡ id). sym e) (λ (p : (w : S) × Contains c.entries (i, w) × (nat_eq id i ≡ true)). eqb-true id i p.2) put.1 in
      subst (λ (k : ℕ). state_at t (Some k) ≡ Some s) same (is ∙ ap Some (sym put.0)))
      (Contains-put_entries nat_eq c id state (i, s) there)

  pub put_are : (c : LruCache ℕ S) (id : ℕ) (state : S) → AreStatesOf t c.entries → state_at t (Some id) ≡ Some state → AreStatesOf t (put_entries nat_eq c id state)
  put_are c id state are is = record { each = λ i s there. put_each c id state are is i s there }

  pub keeps_or_puts : (old new : LruCache ℕ S) (id : ℕ) (state : S) → (new ≡ old) ⊎ (new ≡ lru_cache (put_entries nat_eq old id state) old.cap) → AreStatesOf t old.entries → state_at t (Some id) ≡ Some state → AreStatesOf t new.entries
  keeps_or_puts old new id state either are is = ⊎_elim
      (λ (e : new ≡ old). subst (λ (c : LruCache ℕ S). AreStatesOf t c.entries) (sym e) are)
      (λ (e : new ≡ lru_cache (put_entries nat_eq old id state) old.cap). subst (λ (c : LruCache ℕ S). AreStatesOf t c.entries) (sym e) (put_are old id state are is))
      either

  -- a look found what the tree holds
  pub found_held : (named : Option ℕ) (found : Option S) → found ≡ state_at t named → HeldAs (state_at t named) found
  found_held named None is = tt
  found_held named (Some state) is = sym is
