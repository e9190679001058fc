-- What a look in the tree itself finds is held there, and nothing is to be looked for again.
use Rattle.std.proofs.Common.{◌≡◌, ℕ, nat_lt, Bool, true, false, cond, List, length, Option, None, Some, refl, ap, is_some, slice_get, option_map, inl, inr}
use Rattle.std.proofs.lemmas.Bool.{le-ltb}
use Rattle.std.proofs.lemmas.Option.{slice_get_cases}
use Rattle.repl_json.specs.Names.{env_named, one_named, two_named, names_any}
use Rattle.repl_json.specs.declared.request.Ask.{Ask}
use Rattle.repl_json.specs.declared.request.Ask.TheVariants.{Bad}
use Rattle.repl_json.specs.declared.request.Request.{Request}
use Rattle.state_tree.specs.declared.slot.Slot.{Slot}
use Rattle.state_tree.specs.declared.check.Known.{Known}
use Rattle.state_tree.specs.declared.check.IdCheck.{IdCheck}
use Rattle.state_tree.specs.declared.check.IdCheck.TheVariants.{Usable, Gone, Missed}
use Rattle.state_tree.specs.declared.work.Found.{Found}
use Rattle.state_tree.specs.Server.{PlainTree, seq_of, env_at, state_at, found_in}
use Rattle.state_tree.specs.Again.{is_bad, env_check, slot_check, state_check, missed_first, again_of}
use Rattle.state_tree.specs.Prepared.{Prepared, known_by, nothing}
use Rattle.state_tree.specs.TreeModel.{HeldAs, Holds}

abbrev IsSeen : IdCheck → Type 0
IsSeen Usable = Unit {0}
IsSeen (Gone id) = Unit {0}
IsSeen (Missed id) = ⊥

seen_next : (w : IdCheck) (next : Option ℕ) → IsSeen w → next ≡ None → missed_first w next ≡ None
seen_next Usable next seen none = none
seen_next (Gone id) next seen none = refl
seen_next (Missed id) next seen none = absurd seen

held_self : {A : Type 0} (x : Option A) → HeldAs x x
held_self None = tt
held_self (Some x) = refl

seen_env_at : (id : ℕ) (made found : Bool) → (made ≡ true → found ≡ true) → IsSeen (cond made (cond found Usable (Missed id)) (Gone id))
seen_env_at id true true h = tt
seen_env_at id true false h = let e = h refl in cc
seen_env_at id false found h = tt

made_env : {E : Type 0} (envs : List E) (id : ℕ) → nat_lt id (length envs) ≡ true → is_some (slice_get envs id) ≡ true
made_env envs id made = elim (slice_get_cases envs id).1 [ inl (x, within, some, at) ↦ ap is_some some | inr (past, none) ↦ (let not : nat_lt id (length envs) ≡ false = le-ltb id (length envs) past in cc) ]

seen_live : (id : ℕ) (live : Bool) → IsSeen (cond live Usable (Gone id))
seen_live id true = tt
seen_live id false = tt

seen_slot : {S : Type 0} (id : ℕ) (slot : Option (Slot S)) → IsSeen (slot_check id (is_some (option_map (λ x. x.state) slot)) slot)
seen_slot id None = tt
seen_slot id (Some slot) = seen_live id slot.live

seen_slot_up : {S : Type 0} (id : ℕ) (slot : Option (Slot S)) → IsSeen (slot_check id true slot)
seen_slot_up id None = tt
seen_slot_up id (Some slot) = seen_live id slot.live

skip : (b c : Bool) (x : Option ℕ) → x ≡ None → cond b None (cond c None x) ≡ None
skip true c x none = refl
skip false true x none = refl
skip false false x none = none

module _ {E S : Type 0} where
  pub holds_found : (t : PlainTree E S) (ask : Ask) (found : Found E S) → found ≡ found_in t ask → Holds t ask found
  holds_found t ask found is = rw is (record {
    env = held_self (env_at t (env_named ask));
    one = held_self (state_at t (one_named ask));
    two = held_self (state_at t (two_named ask));
  })

  pub holds_nothing : (t : PlainTree E S) (ask : Ask) → Holds t ask nothing
  holds_nothing t ask = record { env = tt; one = tt; two = tt }

  seen_env : (t : PlainTree E S) (named : Option ℕ) → IsSeen (env_check (length t.envs) named (is_some (env_at t named)))
  seen_env t None = tt
  seen_env t (Some id) = seen_env_at id (nat_lt id (length t.envs)) (is_some (slice_get t.envs id)) (made_env t.envs id)

  seen_env_up : (t : PlainTree E S) (named : Option ℕ) → IsSeen (env_check (length t.envs) named true)
  seen_env_up t None = tt
  seen_env_up t (Some id) = seen_env_at id (nat_lt id (length t.envs)) true (λ h. refl)

  seen_state : (t : PlainTree E S) (named : Option ℕ) → IsSeen (state_check t.states named (is_some (state_at t named)))
  seen_state t None = tt
  seen_state t (Some id) = seen_slot id (slice_get t.states id)

  seen_state_up : (t : PlainTree E S) (named : Option ℕ) → IsSeen (state_check t.states named true)
  seen_state_up t None = tt
  seen_state_up t (Some id) = seen_slot_up id (slice_get t.states id)

  none_again : (t : PlainTree E S) (request : Request) (s : Known) → IsSeen (env_check (length t.envs) (env_named request.ask) s.env) → IsSeen (state_check t.states (one_named request.ask) s.one)
      → IsSeen (state_check t.states (two_named request.ask) s.two) → again_of t request s ≡ None
  none_again t request s env one two = skip (is_bad request.ask) (nat_lt (seq_of t) request.after) _ (seen_next _ _ env (seen_next _ _ one (seen_next _ _ two refl)))

  pub found_again : (t : PlainTree E S) (ready : Prepared E S) → ready.given_up ≡ false → ready.found ≡ found_in t ready.request.ask → again_of t ready.request (known_by ready) ≡ None
  found_again t ready looked is = rw (looked, is) (none_again t ready.request _ (seen_env t (env_named ready.request.ask)) (seen_state t (one_named ready.request.ask)) (seen_state t (two_named ready.request.ask)))

  pub refused_again : (t : PlainTree E S) (ready : Prepared E S) → ready.given_up ≡ true → again_of t ready.request (known_by ready) ≡ None
  refused_again t ready up = rw up (none_again t ready.request _ (seen_env_up t (env_named ready.request.ask)) (seen_state_up t (one_named ready.request.ask)) (seen_state_up t (two_named ready.request.ask)))

pub named_not_bad : (ask : Ask) → names_any ask ≡ true → is_bad ask ≡ false
named_not_bad (Bad bad) named = cc
named_not_bad ask named = refl
