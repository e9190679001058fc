-- The goals of the new state are open ones, each listed once, so the state is legal.
use Rattle.std.proofs.Common.{◌≡◌, ◌<◌, inl, inr, ℕ, suc, List, [], ◌∷◌, ◌++◌, filter, cond, drop, get_or, drop-cons, All, Option, Some, None, is_none, Bool, true, false, ◌||◌, nat_eq, if◌then◌else◌, length, slice_get, refl, sym, ap, ◌∙◌, subst, arith}
use Rattle.std.proofs.lemmas.Bool.{eqb-true, eq-eqb}
use Rattle.std.proofs.lemmas.List.Elements.{All-append, All-cons, All-nil}
use Rattle.ld_trees.specs.Term.{Term}
use Rattle.ld_terms.specs.Views.{Keeps}
use Rattle.ld_terms.specs.declared.globals.Decl.{Decl}
use Rattle.meta_trees.proofs.Dependencies.{or_split}
use Rattle.meta_context.specs.Declaring.{IsOpen}
use Rattle.meta_laws.specs.Cut.{listed}
use Rattle.meta_laws.proofs.Lists.{listed_append, or_false, is_false}
use Rattle.goal_state.specs.State.{State, AreDistinct, IsLegalState, plain_metas}
use Rattle.goal_state.specs.Following.{MayFollow}
use Rattle.goal_state.specs.StoredState.{StoredState, plain_state, IsKeptState}
use Rattle.goal_state.proofs.Means.{plain_metas_kept}
use Rattle.continue_resume.specs.Continuing.{same_root, is_shared, with_goals, RootDiffers, Continues, continued_without}
use Rattle.continue_resume.specs.Resuming.{Resumed, GoalAssigned, Resumes, with_listed, if_open, if_all_open}
use Rattle.continue_resume.specs.Laws.{ContinuingIsLegal, ResumingIsLegal}
use Rattle.continue_resume.proofs.Deciding.{shared_goals_are_decided, no_value}

-- ---- goals that pass a test

filtered_all : (p : ℕ → Bool) (P : ℕ → Type 0) (xs : List ℕ) → ((m : ℕ) → p m ≡ true → P m) → All P (filter p xs)
filtered_all p P [] f = All-nil P
filtered_all p P (x ∷ xs) f = go (p x) refl (filtered_all p P xs f)
  where
    go : (b : Bool) → p x ≡ b → All P (filter p xs) → All P (cond b (x ∷ filter p xs) (filter p xs))
    go true e rest = All-cons P x (filter p xs) (f x e) rest
    go false e rest = rest

unlisted_filtered : (p : ℕ → Bool) (m : ℕ) (xs : List ℕ) → listed m xs ≡ false → listed m (filter p xs) ≡ false
unlisted_filtered p m [] e = refl
unlisted_filtered p m (x ∷ xs) e = go (p x) (nat_eq x m) refl e (unlisted_filtered p m xs)
  where
    go : (b c : Bool) → nat_eq x m ≡ c → (c || listed m xs) ≡ false → (listed m xs ≡ false → listed m (filter p xs) ≡ false) → listed m (cond b (x ∷ filter p xs) (filter p xs)) ≡ false
    go b true f e rest = absurd cc
    go true false f e rest = or_false (nat_eq x m) _ f (rest e)
    go false false f e rest = rest e

pub filtered_once : (p : ℕ → Bool) (xs : List ℕ) → AreDistinct xs → AreDistinct (filter p xs)
filtered_once p [] d = tt
filtered_once p (x ∷ xs) d = go (p x) (filtered_once p xs d.1)
  where
    go : (b : Bool) → AreDistinct (filter p xs) → AreDistinct (cond b (x ∷ filter p xs) (filter p xs))
    go true rest = (unlisted_filtered p x xs d.0, rest)
    go false rest = rest

shared_open : (ds cs : List (Decl Term)) (m : ℕ) → is_shared ds cs m ≡ true → IsOpen ds m
shared_open ds cs m e = let w = (shared_goals_are_decided ds cs m).0 e in (w.one, w.declared, w.unassigned)

pub shared_active : (ds cs : List (Decl Term)) (xs : List ℕ) → All (IsOpen ds) (filter (is_shared ds cs) xs)
shared_active ds cs xs = filtered_all (is_shared ds cs) (IsOpen ds) xs (shared_open ds cs)

-- ---- listed goals

one_more : (xs : List ℕ) (m : ℕ) → AreDistinct xs → listed m xs ≡ false → AreDistinct (xs ++ m ∷ [])
one_more [] m d e = (refl, tt)
one_more (x ∷ xs) m d e = go (nat_eq x m) refl e (one_more xs m d.1)
  where
    go : (b : Bool) → nat_eq x m ≡ b → (b || listed m xs) ≡ false → (listed m xs ≡ false → AreDistinct (xs ++ m ∷ [])) → AreDistinct ((x ∷ xs) ++ m ∷ [])
    go true f e rest = absurd cc
    go false f e rest = (
      listed_append x xs (m ∷ []) ∙ or_false (listed x xs) _ d.0 (is_false _ (λ t. elim (or_split (nat_eq m x) false t) [
        | inl q ↦ let s : nat_eq x m ≡ true = eq-eqb x m (sym (eqb-true m x q)) in let c = sym f ∙ s in absurd cc
        | inr q ↦ absurd cc
      ])),
      rest e,
    )

pub listed_once : (goals ms : List ℕ) → AreDistinct goals → AreDistinct (with_listed goals ms)
listed_once goals [] d = d
listed_once goals (m ∷ ms) d = go (listed m goals) refl (λ ns. listed_once ns ms)
  where
    go : (b : Bool) → listed m goals ≡ b → ((ns : List ℕ) → AreDistinct ns → AreDistinct (with_listed ns ms)) → AreDistinct (with_listed (if b then goals else goals ++ m ∷ []) ms)
    go true e rest = rest goals d
    go false e rest = rest (goals ++ m ∷ []) (one_more goals m d e)

first_of : {X : Type 0} (P : X → Type 0) (x : X) (xs : List X) → All P (x ∷ xs) → P x
first_of P x xs a = a 0 x (omega arith)

rest_of : {X : Type 0} (P : X → Type 0) (x : X) (xs : List X) → All P (x ∷ xs) → All P xs
rest_of P x xs a i d l = a (suc i) d (omega arith)

pub listed_all : (P : ℕ → Type 0) (goals ms : List ℕ) → All P goals → All P ms → All P (with_listed goals ms)
listed_all P goals [] a b = a
listed_all P goals (m ∷ ms) a b = go (listed m goals) (λ ns c. listed_all P ns ms c (rest_of P m ms b))
  where
    go : (c : Bool) → ((ns : List ℕ) → All P ns → All P (with_listed ns ms)) → All P (with_listed (if c then goals else goals ++ m ∷ []) ms)
    go true rest = rest goals a
    go false rest = rest (goals ++ m ∷ []) (All-append P goals (m ∷ []) a (All-cons P m [] (first_of P m ms b) (All-nil P)))

module _ {H : Type 0} (ds : List (Decl H)) (s : State) where
  -- where no number is refused, each is an open goal
  pub all_open : (ms : List ℕ) → if_all_open ds ms (Resumes s) ≡ Resumes s → All (IsOpen ds) ms
  all_open [] e = All-nil (IsOpen ds)
  all_open (m ∷ ms) e = go (slice_get ds m) refl e (all_open ms)
    where
      by_value : (d : Decl H) (b : Bool) → slice_get ds m ≡ Some d → is_none d.value ≡ b → (if b then if_all_open ds ms (Resumes s) else GoalAssigned m) ≡ Resumes s
          → (if_all_open ds ms (Resumes s) ≡ Resumes s → All (IsOpen ds) ms) → All (IsOpen ds) (m ∷ ms)
      by_value d true f n e rest = All-cons (IsOpen ds) m ms (d, f, no_value d.value n) (rest e)
      by_value d false f n e rest = absurd cc

      go : (o : Option (Decl H)) → slice_get ds m ≡ o → if_open o m (if_all_open ds ms (Resumes s)) ≡ Resumes s → (if_all_open ds ms (Resumes s) ≡ Resumes s → All (IsOpen ds) ms) → All (IsOpen ds) (m ∷ ms)
      go None f e rest = absurd cc
      go (Some d) f e rest = by_value d (is_none d.value) f refl e rest

-- the state that resuming gives
same_state : (s r : State) → Resumes s ≡ Resumes r → s ≡ r
same_state s r e = cc

resumes_only : {H : Type 0} (ds : List (Decl H)) (ms : List ℕ) (s r : State) → if_all_open ds ms (Resumes s) ≡ Resumes r → s ≡ r
resumes_only ds [] s r e = same_state s r e
resumes_only {H} ds (m ∷ ms) s r e = go (slice_get ds m) e (resumes_only ds ms s r)
  where
    by_value : (b : Bool) → (if b then if_all_open ds ms (Resumes s) else GoalAssigned m) ≡ Resumes r → (if_all_open ds ms (Resumes s) ≡ Resumes r → s ≡ r) → s ≡ r
    by_value true e rest = rest e
    by_value false e rest = absurd cc

    go : (o : Option (Decl H)) → if_open o m (if_all_open ds ms (Resumes s)) ≡ Resumes r → (if_all_open ds ms (Resumes s) ≡ Resumes r → s ≡ r) → s ≡ r
    go None e rest = absurd cc
    go (Some d) e rest = by_value (is_none d.value) e rest

-- ---- legal states

pub goals_legal : (s : State) (goals : List ℕ) → IsLegalState s → All (IsOpen s.metas) goals → AreDistinct goals → IsLegalState (with_goals s goals)
goals_legal s goals l a d = record { legal = l.legal; root = l.root; active = a; once = d }

pub continuing_is_legal : ContinuingIsLegal
continuing_is_legal target branch s l k e = by_goals target.goals e
  where
    goals : List ℕ
    goals = filter (is_shared target.metas branch.metas) branch.goals

    by_root : (b : Bool) → (if b then Continues (with_goals target goals) else RootDiffers) ≡ Continues s → IsLegalState s × (s.items ≡ target.items) × (s.metas ≡ target.metas)
    by_root false e = absurd cc
    by_root true e =
        let q : with_goals target goals ≡ s = cc in (
          subst IsLegalState q (goals_legal target goals l (shared_active target.metas branch.metas branch.goals) (filtered_once (is_shared target.metas branch.metas) branch.goals k.once)),
          ap (λ (x : State). x.items) (sym q),
          ap (λ (x : State). x.metas) (sym q),
        )

    by_goals : (ms : List ℕ) → continued_without ms target branch ≡ Continues s → IsLegalState s × (s.items ≡ target.items) × (s.metas ≡ target.metas)
    by_goals [] e = by_root (same_root target branch) e
    by_goals (m ∷ ms) e = absurd cc

pub resuming_is_legal : ResumingIsLegal
resuming_is_legal s r ms l e =
    let goals = with_listed s.goals ms in
    let q : with_goals s goals ≡ r = resumes_only s.metas ms (with_goals s goals) r e in
    let open_ones : All (IsOpen s.metas) ms = all_open s.metas (with_goals s goals) ms (e ∙ ap Resumes (sym q)) in (
      subst IsLegalState q (goals_legal s goals l (listed_all (IsOpen s.metas) s.goals ms l.active open_ones) (listed_once s.goals ms l.once)),
      ap (λ (x : State). x.items) (sym q),
      ap (λ (x : State). x.metas) (sym q),
    )

-- ---- over a fork of the store

-- a state with other open goals follows a legal state
follows_itself : (s : State) (goals : List ℕ) → IsLegalState s → All (IsOpen s.metas) goals → AreDistinct goals → MayFollow s s.metas goals
follows_itself s goals l a d = record {
  extend = λ m d e. (d, e, record { ctx = refl; ty = refl; value = λ v q. q });
  legal = l.legal;
  active = a;
  once = d;
}

module _ {T H : Type 0} (holds : T → H → Type 0) (means : T → H → Term) (s : StoredState T H) (fork : T) (metas : List (Decl H)) (goals : List ℕ)
    (ok : IsKeptState holds means s) (kept : Keeps (holds s.terms) (means s.terms) (holds fork) (means fork)) (same : metas ≡ s.metas) where
  pub metas_again : plain_metas (means fork) metas ≡ (plain_state means s).metas
  metas_again = ap (plain_metas (means fork)) same ∙ plain_metas_kept (holds s.terms) (means s.terms) (holds fork) (means fork) kept s.metas ok.held.metas_held

  pub fork_follows : All (IsOpen (plain_state means s).metas) goals → AreDistinct goals → MayFollow (plain_state means s) (plain_metas (means fork) metas) goals
  fork_follows a d = subst (λ ds. MayFollow (plain_state means s) ds goals) (sym metas_again) (follows_itself (plain_state means s) goals ok.legal a d)

  pub fork_is : (r : State) → r ≡ record (plain_state means s) { metas = plain_metas (means fork) metas; goals = goals } → r ≡ with_goals (plain_state means s) goals
  fork_is r e = e ∙ ap (λ (ds : List (Decl Term)). let x : State = record { items = (plain_state means s).items; metas = ds; goals = goals } in x) metas_again

-- ---- the first number that is refused

pub refused_at : {H : Type 0} (ds : List (Decl H)) (ms : List ℕ) (i : ℕ) (r : Resumed) → i < length ms → if_all_open ds ms r ≡ if_all_open ds (drop i ms) r
    → if_all_open ds ms r ≡ if_open (slice_get ds (get_or ms i 0)) (get_or ms i 0) (if_all_open ds (drop (suc i) ms) r)
refused_at ds ms i r l e = e ∙ ap (λ ns. if_all_open ds ns r) (drop-cons ms i 0 l)
