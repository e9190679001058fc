-- The rule holds when the lock opens.
use Rattle.std.proofs.Common.{◌≡◌, ℕ, zero, suc, ◌<◌, false, true≢false, List, [], ◌∷◌, length, refl, sym, subst, inl, ⊎_elim, arith}
use Rattle.std.proofs.lemmas.List.{append-nil}
use Rattle.std.proofs.lemmas.List.Elements.{All-nil}
use mathlib.Core.Option.{some, some-injective, some-ne-none}
use lib.ListN.{get_elem?}
use Rattle.atomic_table.specs.Table.{opening}
use Rattle.turn_lock.specs.declared.view.View.{View}
use Rattle.turn_lock.specs.LockRule.{IsGiven, LockRule, LockState, ViewFits}
use Rattle.turn_lock.specs.Meanings.{MAX_TURNS}
use Rattle.turn_lock.specs.Views.{first_view}
use Rattle.turn_lock.proofs.Lists.{Contains-cons_cases, none_in_nil}
use Rattle.turn_lock.proofs.Extending.{goes_all, goes_none}

module _ {T E G : Type 0} (entries : T → List E) (pass_of : E → ℕ) (ground_of : T → G) where
  abbrev start : T → LockState T E
  start x = record { next = 0; serving = 0; journal = entries x; home = some x; drawer = λ _. 0; owner = λ _. 0; late = λ _. false; gave = [] }

  -- the first state of the table
  pub begins : (x : T) → length (entries x) < MAX_TURNS → LockRule entries pass_of ground_of x (opening (0 ∷ 0 ∷ length (entries x) ∷ []) (x ∷ []) (first_view (entries x) (ground_of x)))
  begins x short = record {
    w = start x;
    words = refl;
    homes = refl;
    slot = (refl, refl, omega arith);
    since = [];
    grows = append-nil (entries x);
    carry = All-nil (λ e. IsGiven [] (pass_of e));
    served = omega arith;
    behind = omega arith;
    drawn = omega arith;
    late = λ n e. absurd (true≢false (sym e));
    short = short;
    tickets = λ k due drawn early. absurd (omega arith);
    notes = refl;
    each = one;
  }
    where
      mine : ViewFits pass_of (length (entries x)) (ground_of x) (start x) 0 (first_view (entries x) (ground_of x))
      mine = record {
        stage = tt;
        pass = λ _. record {
          sees = goes_all pass_of (entries x) (entries x) (0 ∷ []) refl;
          sees_pending = goes_none pass_of (entries x);
          owns = λ n h. (refl, ⊎_elim (λ e. inl e) (λ t. absurd (none_in_nil n t)) (Contains-cons_cases 0 [] n h));
          owns_pending = λ n h. absurd (none_in_nil n h);
          small = omega arith;
          late = λ e. absurd (true≢false (sym e));
          root = λ _. refl;
        };
        live = λ _. (refl, omega arith);
        seen = goes_all pass_of (entries x) (entries x) [] refl;
        found = omega arith;
      }

      one : (j : ℕ) (u : View E G) → get_elem? (first_view (entries x) (ground_of x) ∷ []) j ≡ some u → ViewFits pass_of (length (entries x)) (ground_of x) (start x) j u
      one zero u e = subst (ViewFits pass_of (length (entries x)) (ground_of x) (start x) 0) (some-injective _ _ e) mine
      one (suc j) u e = absurd (some-ne-none u (sym e))
