-- An id that is to be looked for again is found from then on.
use Rattle.std.proofs.Common.{◌≡◌, ℕ, zero, suc, ◌<◌, nat_lt, Bool, true, false, ◌⊎◌, List, [], ◌∷◌, ◌++◌, length, Option, Some, None, is_some, slice_get, option_map, refl, ap, ◌∙◌, subst, inl, inr, ⊎_elim, arith, if◌then◌else◌}
use Rattle.std.proofs.lemmas.Bool.{ltb-true}
use Rattle.repl_json.specs.Names.{env_named, one_named, two_named}
use Rattle.repl_json.specs.declared.request.Ask.{Ask}
use Rattle.repl_json.specs.declared.request.Request.{Request}
use Rattle.state_tree.specs.declared.slot.Slot.{Slot}
use Rattle.state_tree.specs.declared.check.Known.{Known}
use Rattle.state_tree.specs.declared.check.IdCheck.{IdCheck}
use Rattle.state_tree.specs.declared.check.IdCheck.TheVariants.{Usable, Gone, Missed}
use Rattle.state_tree.specs.declared.work.Found.{Found}
use Rattle.state_tree.specs.declared.work.Entry.{Entry}
use Rattle.state_tree.specs.Value.{Value}
use Rattle.state_tree.specs.Server.{PlainTree, replay, seq_of, env_at, state_at, found_in}
use Rattle.state_tree.specs.Again.{again_of, is_bad, env_check, slot_check, state_check, missed_first}
use Rattle.state_tree.proofs.Stays.{holds_beyond}
use Rattle.shared_board.specs.Laws.{HasFound}

unless_so : (b : Bool) (x : Option ℕ) (id : ℕ) → (if b then None else x) ≡ Some id → x ≡ Some id
unless_so true x id e = cc
unless_so false x id e = e

first_missed : (c : IdCheck) (next : Option ℕ) (id : ℕ) → missed_first c next ≡ Some id → (c ≡ Missed id) ⊎ (next ≡ Some id)
first_missed Usable next id e = inr e
first_missed (Gone i) next id e = cc
first_missed (Missed i) next id e = let same : i ≡ id = cc in inl (ap Missed same)

get_some : {A : Type 0} (xs : List A) (i : ℕ) → i < length xs → (x : A) × (slice_get xs i ≡ Some x)
get_some [] i lt = absurd (omega arith)
get_some (x ∷ xs) zero lt = (x, refl)
get_some (x ∷ xs) (suc i) lt = get_some xs i (omega arith)

env_among : (i id : ℕ) (b found : Bool) → (if b then (if found then Usable else Missed i) else Gone i) ≡ Missed id → (i ≡ id) × (b ≡ true)
env_among i id true true e = cc
env_among i id true false e = let same : i ≡ id = cc in (same, refl)
env_among i id false found e = cc

env_missed : {E : Type 0} (envs : List E) (named : Option ℕ) (found : Bool) (id : ℕ) → env_check (length envs) named found ≡ Missed id → (named ≡ Some id) × ((x : E) × (slice_get envs id ≡ Some x))
env_missed envs None found id e = cc
env_missed {E} envs (Some i) found id e =
    let h = env_among i id (nat_lt i (length envs)) found e in
    let lt : i < length envs = ltb-true i (length envs) h.1 in
    (ap Some h.0, subst (λ (k : ℕ). (x : E) × (slice_get envs k ≡ Some x)) h.0 (get_some envs i lt))

live_missed : (i id : ℕ) (b : Bool) → (if b then Usable else Gone i) ≡ Missed id → ⊥
live_missed i id true e = cc
live_missed i id false e = cc

slot_missed : {S : Type 0} (i id : ℕ) (found : Bool) (slot : Option (Slot S)) → slot_check i found slot ≡ Missed id → (i ≡ id) × ((s : Slot S) × (slot ≡ Some s))
slot_missed i id found None e = cc
slot_missed i id true (Some s) e = absurd (live_missed i id s.live e)
slot_missed i id false (Some s) e = let same : i ≡ id = cc in (same, (s, refl))

state_missed : {S : Type 0} (slots : List (Slot S)) (named : Option ℕ) (found : Bool) (id : ℕ) → state_check slots named found ≡ Missed id → (named ≡ Some id) × ((s : Slot S) × (slice_get slots id ≡ Some s))
state_missed slots None found id e = cc
state_missed {S} slots (Some i) found id e =
    let h = slot_missed i id found (slice_get slots i) e in
    (ap Some h.0, subst (λ (k : ℕ). (s : Slot S) × (slice_get slots k ≡ Some s)) h.0 h.1)

module _ {E S : Type 0} (V : Ask → Found E S → Value E S) (book : E) (seen more : List Entry) (ask : Ask) (id : ℕ) where
  abbrev now : PlainTree E S
  now = replay V book seen

  abbrev later : PlainTree E S
  later = replay V book (seen ++ more)

  env_later : (known : Bool) → env_check (length now.envs) (env_named ask) known ≡ Missed id → (env_named ask ≡ Some id) × (is_some (env_at later (env_named ask)) ≡ true)
  env_later known e =
      let h = env_missed now.envs (env_named ask) known id e in
      let at : env_at now (env_named ask) ≡ Some h.1.0 = ap (env_at now) h.0 ∙ h.1.1 in
      (h.0, ap is_some (holds_beyond V book seen more ask (record { env = Some h.1.0; one = None; two = None }) (record { env = at; one = tt; two = tt })).env)

  held_at : (named : Option ℕ) (s : Slot S) → named ≡ Some id → slice_get now.states id ≡ Some s → state_at now named ≡ Some s.state
  held_at named s is at = ap (state_at now) is ∙ ap (option_map (λ (slot : Slot S). slot.state)) at

  one_later : (known : Bool) → state_check now.states (one_named ask) known ≡ Missed id → (one_named ask ≡ Some id) × (is_some (state_at later (one_named ask)) ≡ true)
  one_later known e =
      let h = state_missed now.states (one_named ask) known id e in
      (h.0, ap is_some (holds_beyond V book seen more ask (record { env = None; one = Some h.1.0.state; two = None }) (record { env = tt; one = held_at (one_named ask) h.1.0 h.0 h.1.1; two = tt })).one)

  two_later : (known : Bool) → state_check now.states (two_named ask) known ≡ Missed id → (two_named ask ≡ Some id) × (is_some (state_at later (two_named ask)) ≡ true)
  two_later known e =
      let h = state_missed now.states (two_named ask) known id e in
      (h.0, ap is_some (holds_beyond V book seen more ask (record { env = None; one = None; two = Some h.1.0.state }) (record { env = tt; one = tt; two = held_at (two_named ask) h.1.0 h.0 h.1.1 })).two)

module _ {E S : Type 0} (V : Ask → Found E S → Value E S) where
  pub again_found : (book : E) (seen more : List Entry) (request : Request) (known : Known) (id : ℕ) → again_of (replay V book seen) request known ≡ Some id → HasFound request.ask (found_in (replay V book (seen ++ more)) request.ask) id
  again_found book seen more request known id e =
      let t = replay V book seen in
      let ask = request.ask in
      let two_next = missed_first (state_check t.states (two_named ask) known.two) None in
      let one_next = missed_first (state_check t.states (one_named ask) known.one) two_next in
      let env_next = missed_first (env_check (length t.envs) (env_named ask) known.env) one_next in
      let named : env_next ≡ Some id = unless_so (nat_lt (seq_of t) request.after) env_next id (unless_so (is_bad ask) (if nat_lt (seq_of t) request.after then None else env_next) id e) in
      ⊎_elim
      (λ (a : env_check (length t.envs) (env_named ask) known.env ≡ Missed id). inl (env_later V book seen more ask id known.env a))
      (λ (b : one_next ≡ Some id). ⊎_elim
      (λ (c : state_check t.states (one_named ask) known.one ≡ Missed id). inr (inl (one_later V book seen more ask id known.one c)))
      (λ (d : two_next ≡ Some id). ⊎_elim
      (λ (f : state_check t.states (two_named ask) known.two ≡ Missed id). inr (inr (two_later V book seen more ask id known.two f)))
      (λ (none : None ≡ Some id). absurd (cc none))
      (first_missed (state_check t.states (two_named ask) known.two) None id d))
      (first_missed (state_check t.states (one_named ask) known.one) two_next id b))
      (first_missed (env_check (length t.envs) (env_named ask) known.env) one_next id named)
