-- What a look missed is found by the next one, so each further look misses less.
use Rattle.std.proofs.Common.{◌≡◌, ℕ, zero, suc, ◌<◌, ◌≤◌, nat_lt, Bool, true, false, ◌⊎◌, ⊎_elim, inl, inr, List, [], ◌∷◌, length, Option, Some, None, is_some, slice_get, option_map, refl, ap, ◌∙◌, subst, arith, if◌then◌else◌}
use Rattle.std.proofs.lemmas.Bool.{ltb-true}
use Rattle.repl_json.specs.Names.{env_named, one_named, two_named}
use Rattle.repl_json.specs.declared.request.Ask.{Ask}
use Rattle.repl_json.specs.declared.request.Request.{Request}
use Rattle.state_tree.specs.declared.slot.Slot.{Slot}
use Rattle.state_tree.specs.declared.check.Known.{Known}
use Rattle.state_tree.specs.declared.check.IdCheck.{IdCheck}
use Rattle.state_tree.specs.declared.check.IdCheck.TheVariants.{Usable, Gone, Missed}
use Rattle.state_tree.specs.declared.work.Found.{Found}
use Rattle.state_tree.specs.declared.work.Entry.{Entry}
use Rattle.state_tree.specs.Value.{Value}
use Rattle.state_tree.specs.Server.{PlainTree, seq_of, env_at, state_at, found_in}
use Rattle.state_tree.specs.Again.{again_of, is_bad, env_check, slot_check, state_check, missed_first}
use Rattle.state_tree.specs.Prepared.{Prepared, known_by}
use Rattle.state_tree.specs.TreeModel.{TreeModel, HeldAs, Holds}
use Rattle.state_tree.specs.Enters.{tree_of}
use Rattle.state_tree.proofs.Later.{holds_grown}
use Rattle.state_tree.proofs.Looks.{refused_again}
use Rattle.session_server.specs.Entered.{with_entries}
use Rattle.session_server.specs.Answers.{unless, unknown, misses}
use Rattle.session_server.specs.Made.{IsLookedUp}

unless_so : (b : Bool) (x : Option ℕ) (id : ℕ) → (if b then None else x) ≡ Some id → x ≡ Some id
unless_so true x id e = cc
unless_so false x id e = e

first_missed : (c : IdCheck) (next : Option ℕ) (id : ℕ) → missed_first c next ≡ Some id → (c ≡ Missed id) ⊎ (next ≡ Some id)
first_missed Usable next id e = inr e
first_missed (Gone i) next id e = cc
first_missed (Missed i) next id e = let same : i ≡ id = cc in inl (ap Missed same)

got : {A : Type 0} (xs : List A) (i : ℕ) → i < length xs → (x : A) × (slice_get xs i ≡ Some x)
got [] i lt = absurd (omega arith)
got (x ∷ xs) zero lt = (x, refl)
got (x ∷ xs) (suc i) lt = got xs i (omega arith)

-- not found, and made
abbrev IsMissed : {A : Type 0} → Bool → Option A → Type 0
IsMissed {A} found made = (found ≡ false) × (x : A) × (made ≡ Some x)

env_among : (i id : ℕ) (b found : Bool) → (if b then (if found then Usable else Missed i) else Gone i) ≡ Missed id → (found ≡ false) × (b ≡ true)
env_among i id true true e = cc
env_among i id true false e = (refl, refl)
env_among i id false found e = cc

env_missed : {E S : Type 0} (t : PlainTree E S) (named : Option ℕ) (found : Bool) (id : ℕ) → env_check (length t.envs) named found ≡ Missed id → IsMissed found (env_at t named)
env_missed t None found id e = cc
env_missed t (Some i) found id e =
    let h = env_among i id (nat_lt i (length t.envs)) found e in
    let lt : i < length t.envs = ltb-true i (length t.envs) h.1 in
    let at = got t.envs i lt in
    (h.0, at.0, at.1)

live_missed : (i id : ℕ) (b : Bool) → (if b then Usable else Gone i) ≡ Missed id → ⊥
live_missed i id true e = cc
live_missed i id false e = cc

slot_missed : {S : Type 0} (i id : ℕ) (found : Bool) (slot : Option (Slot S)) → slot_check i found slot ≡ Missed id → IsMissed found (option_map (λ s. s.state) slot)
slot_missed i id found None e = cc
slot_missed i id true (Some s) e = absurd (live_missed i id s.live e)
slot_missed i id false (Some s) e = (refl, s.state, refl)

state_missed : {E S : Type 0} (t : PlainTree E S) (named : Option ℕ) (found : Bool) (id : ℕ) → state_check t.states named found ≡ Missed id → IsMissed found (state_at t named)
state_missed t None found id e = cc
state_missed t (Some i) found id e = slot_missed i id found (slice_get t.states i) e

-- what was found is held later, and what was missed is found
unless_less : (known later : Bool) → (known ≡ true → later ≡ true) → unless later ≤ unless known
unless_less true true h = omega arith
unless_less true false h = absurd (let no : false ≡ true = h refl in cc)
unless_less false true h = omega arith
unless_less false false h = omega arith

unless_fewer : (known later : Bool) → known ≡ false → later ≡ true → unless later < unless known
unless_fewer known later p q = rw (p, q) (omega arith)

held_is : {A : Type 0} (kept found : Option A) → HeldAs kept found → is_some found ≡ true → is_some kept ≡ true
held_is kept None held e = cc
held_is kept (Some x) held e = ap is_some held

made_is : {A : Type 0} (kept : Option A) (x : A) → kept ≡ Some x → is_some kept ≡ true
made_is kept x is = ap is_some is

module _ {E S : Type 0} (V : Ask → Found E S → Value E S) (old new : TreeModel E) (more : List Entry) (grows : new ≡ with_entries old more) (ask : Ask) where
  later_holds : (found : Found E S) → Holds (tree_of V old) ask found → Holds (tree_of V new) ask found
  later_holds found held = holds_grown V old new ask found (record { more = more; is = grows }) held

  env_found : (x : E) → env_at (tree_of V old) (env_named ask) ≡ Some x → is_some (env_at (tree_of V new) (env_named ask)) ≡ true
  env_found x at = made_is (env_at (tree_of V new) (env_named ask)) x (later_holds (record { env = Some x; one = None; two = None }) (record { env = at; one = tt; two = tt })).env

  one_found : (x : S) → state_at (tree_of V old) (one_named ask) ≡ Some x → is_some (state_at (tree_of V new) (one_named ask)) ≡ true
  one_found x at = made_is (state_at (tree_of V new) (one_named ask)) x (later_holds (record { env = None; one = Some x; two = None }) (record { env = tt; one = at; two = tt })).one

  two_found : (x : S) → state_at (tree_of V old) (two_named ask) ≡ Some x → is_some (state_at (tree_of V new) (two_named ask)) ≡ true
  two_found x at = made_is (state_at (tree_of V new) (two_named ask)) x (later_holds (record { env = None; one = None; two = Some x }) (record { env = tt; one = tt; two = at })).two

  abbrev known_of : Found E S → Known
  known_of found = record { env = is_some found.env; one = is_some found.one; two = is_some found.two }

  -- a look into the later tree misses less than one whose request is to be looked up again
  less : (after id : ℕ) (found : Found E S) → Holds (tree_of V old) ask found → again_of (tree_of V old) (record { after = after; ask = ask }) (known_of found) ≡ Some id
      → unknown (known_of (found_in (tree_of V new) ask)) < unknown (known_of found)
  less after id found held again =
      let t = tree_of V old in
      let now = known_of found in
      let after_it = known_of (found_in (tree_of V new) ask) in
      let kept = later_holds found held in
      let a = unless_less now.env after_it.env (held_is (env_at (tree_of V new) (env_named ask)) found.env kept.env) in
      let b = unless_less now.one after_it.one (held_is (state_at (tree_of V new) (one_named ask)) found.one kept.one) in
      let d = unless_less now.two after_it.two (held_is (state_at (tree_of V new) (two_named ask)) found.two kept.two) in
      let two_next = missed_first (state_check t.states (two_named ask) now.two) None in
      let one_next = missed_first (state_check t.states (one_named ask) now.one) two_next in
      let env_next = missed_first (env_check (length t.envs) (env_named ask) now.env) one_next in
      let named : env_next ≡ Some id = unless_so (nat_lt (seq_of t) after) env_next id (unless_so (is_bad ask) (if nat_lt (seq_of t) after then None else env_next) id again) in
      ⊎_elim
      (λ (e : env_check (length t.envs) (env_named ask) now.env ≡ Missed id).
      let m = env_missed t (env_named ask) now.env id e in
      let f = unless_fewer now.env after_it.env m.0 (env_found m.1 m.2) in
      omega (arith, a, b, d, f))
      (λ (e : one_next ≡ Some id). ⊎_elim
      (λ (e1 : state_check t.states (one_named ask) now.one ≡ Missed id).
      let m = state_missed t (one_named ask) now.one id e1 in
      let f = unless_fewer now.one after_it.one m.0 (one_found m.1 m.2) in
      omega (arith, a, b, d, f))
      (λ (e1 : two_next ≡ Some id). ⊎_elim
      (λ (e2 : state_check t.states (two_named ask) now.two ≡ Missed id).
      let m = state_missed t (two_named ask) now.two id e2 in
      let f = unless_fewer now.two after_it.two m.0 (two_found m.1 m.2) in
      omega (arith, a, b, d, f))
      (λ (none : None ≡ Some id). absurd (cc none))
      (first_missed (state_check t.states (two_named ask) now.two) None id e1))
      (first_missed (state_check t.states (one_named ask) now.one) two_next id e))
      (first_missed (env_check (length t.envs) (env_named ask) now.env) one_next id named)

module _ {E S : Type 0} (V : Ask → Found E S → Value E S) where
  not_up : (t : PlainTree E S) (ready : Prepared E S) (id : ℕ) (b : Bool) → ready.given_up ≡ b → again_of t ready.request (known_by ready) ≡ Some id → ready.given_up ≡ false
  not_up t ready id true up again = let none = refused_again t ready up in cc
  not_up t ready id false looked again = looked

  known_at : (ready : Prepared E S) → ready.given_up ≡ false → known_by ready ≡ record { env = is_some ready.found.env; one = is_some ready.found.one; two = is_some ready.found.two }
  known_at ready looked = rw looked refl

  known_up : (ready : Prepared E S) → ready.given_up ≡ true → misses ready ≡ 0
  known_up ready up = rw up refl

  found_less : (old new : TreeModel E) (more : List Entry) (ready again : Prepared E S) (id : ℕ) → new ≡ with_entries old more → Holds (tree_of V old) ready.request.ask ready.found → ready.given_up ≡ false
      → again_of (tree_of V old) ready.request (known_by ready) ≡ Some id
      → unknown (record { env = is_some (env_at (tree_of V new) (env_named ready.request.ask)); one = is_some (state_at (tree_of V new) (one_named ready.request.ask)); two = is_some (state_at (tree_of V new) (two_named ready.request.ask)) }) < misses ready
  found_less old new more ready again id grows held looked missed =
      let now = known_at ready looked in
      let here = subst (λ (k : Known). again_of (tree_of V old) ready.request k ≡ Some id) now missed in
      let l = less V old new more grows ready.request.ask ready.request.after id ready.found held here in
      omega (arith, l, ap unknown now)

  looked_is : (t : PlainTree E S) (ready again : Prepared E S) → again.request ≡ ready.request → again.given_up ≡ false → again.found ≡ found_in t again.request.ask
      → misses again ≡ unknown (record { env = is_some (env_at t (env_named ready.request.ask)); one = is_some (state_at t (one_named ready.request.ask)); two = is_some (state_at t (two_named ready.request.ask)) })
  looked_is t ready again same looked is =
      ap unknown (known_at again looked) ∙ ap (λ (f : Found E S). unknown (record { env = is_some f.env; one = is_some f.one; two = is_some f.two })) (is ∙ ap (λ (r : Request). found_in t r.ask) same)

  -- looked up again, a request misses less
  pub misses_less : (old new : TreeModel E) (more : List Entry) (ready again : Prepared E S) (id : ℕ) → new ≡ with_entries old more → Holds (tree_of V old) ready.request.ask ready.found
      → again_of (tree_of V old) ready.request (known_by ready) ≡ Some id → again.request ≡ ready.request → IsLookedUp (tree_of V new) again → misses again < misses ready
  misses_less old new more ready again id grows held missed same looked =
      let before = not_up (tree_of V old) ready id ready.given_up refl missed in
      let l = found_less old new more ready again id grows held before missed in
      ⊎_elim
      (λ (up : again.given_up ≡ true). omega (arith, l, known_up again up))
      (λ (h : (again.given_up ≡ false) × (again.found ≡ found_in (tree_of V new) again.request.ask)). omega (arith, l, looked_is (tree_of V new) ready again same h.0 h.1))
      looked
