-- Terms with their variables changed, node by node, and tables of such terms.
use Rattle.std.proofs.Common.{◌≡◌, ℕ, zero, suc, ◌+◌, ◌-◌, ◌*◌, ◌<◌, ◌≤◌, List, [], ◌∷◌, ◌++◌, map, take, length, get_or, nat_lt, nat_eq, All, Bool, true, false, cond, if◌then◌else◌, Option, Some, None, refl, sym, ap, ap₂, ◌∙◌, subst, arith}
use Rattle.std.proofs.lemmas.Option.{same_Some}
use Rattle.std.proofs.lemmas.Bool.Decides.{nat_tests}
use Rattle.std.specs.Prelude.{OnOk}
use Rattle.std.specs.declared.result.Result.{Result}
use Rattle.std.specs.declared.result.Result.TheVariants.{Ok, Err}
use Rattle.std.specs.Map.{lookup}
use Rattle.std.specs.BTreeMap.{BTreeMap, get, is_at, IsEmpty, Updates}
use Rattle.std.specs.declared.cmp.Ordering.{Ordering}
use Rattle.std.specs.declared.cmp.Ordering.TheVariants.{Less, Equal, Greater}
use Rattle.std.specs.Ordering.{is_eq, ordering_then, nat_cmp}
use Rattle.std.specs.Cmp.Lexicographic.{slice_cmp}
use Rattle.ld_trees.specs.Term.{Sort, Head, Term, Terms, Srt, Var, App, Lam, Pi, Con, ◌▹◌, nodes, nodes_all}
use Rattle.ld_trees.specs.Substitution.{shift, subst_at, instantiate}
use Rattle.ld_terms.specs.Views.{Keeps, terms_of}
use Rattle.ld_terms.proofs.Arguments.{part_less}
use Rattle.ld_terms.proofs.Instantiation.{argument_for, shift_none}
use Rattle.ld_terms.proofs.Turns.{keeps_all, keeps_map, Turn}
use Rattle.goal_state.specs.declared.changing.Change.{Change}
use Rattle.goal_state.specs.declared.changing.Change.TheVariants as change
use Rattle.goal_state.specs.Changes.{changed, changed_all, ArgsIn, by_both, IsChange, AreChanges, IsUntouched}

-- ---- each kind of node

below_kept : (u i j : ℕ) → i < u → Var (if nat_lt i u then i else j) ≡ Var i
below_kept u i j l = go (nat_lt i u) refl
  where
    go : (b : Bool) → nat_lt i u ≡ b → Var (if b then i else j) ≡ Var i
    go true e = refl
    go false e = absurd (let m : u ≤ i = grind (arith, nat_tests) in omega arith)

below_taken : (u i : ℕ) (t : Term) → i < u → (if nat_lt i u then Var i else t) ≡ Var i
below_taken u i t l = go (nat_lt i u) refl
  where
    go : (b : Bool) → nat_lt i u ≡ b → (if b then Var i else t) ≡ Var i
    go true e = refl
    go false e = absurd (let m : u ≤ i = grind (arith, nat_tests) in omega arith)

module _ {H : Type 0} (means : H → Term) where
  pub changed_app : (c : Change H) (u : ℕ) (f a : Term) → changed means c u (App f a) ≡ App (changed means c u f) (changed means c u a)
  changed_app (change.Shift by) u f a = refl
  changed_app (change.Put args) u f a = refl

  pub changed_lam : (c : Change H) (u : ℕ) (a m : Term) → changed means c u (Lam a m) ≡ Lam (changed means c u a) (changed means c (u + 1) m)
  changed_lam (change.Shift by) u a m = refl
  changed_lam (change.Put args) u a m = refl

  pub changed_pi : (c : Change H) (u : ℕ) (a m : Term) → changed means c u (Pi a m) ≡ Pi (changed means c u a) (changed means c (u + 1) m)
  changed_pi (change.Shift by) u a m = refl
  changed_pi (change.Put args) u a m = refl

  pub changed_con : (c : Change H) (u : ℕ) (h : Head) (us : Terms) → changed means c u (Con h us) ≡ Con h (changed_all means c u us)
  changed_con (change.Shift by) u h us = refl
  changed_con (change.Put args) u h us = refl

  pub changed_more : (c : Change H) (u : ℕ) (us : Terms) (t : Term) → changed_all means c u (us ▹ t) ≡ changed_all means c u us ▹ changed means c u t
  changed_more (change.Shift by) u us t = refl
  changed_more (change.Put args) u us t = refl

  pub sort_untouched : (c : Change H) (u : ℕ) (t : Term) (s : Sort) → Srt s ≡ t → changed means c u t ≡ t
  sort_untouched c u t s e = ap (changed means c u) (sym e) ∙ go c ∙ e
    where
      go : (c : Change H) → changed means c u (Srt s) ≡ Srt s
      go (change.Shift by) = refl
      go (change.Put args) = refl

  pub bound_untouched : (c : Change H) (u i : ℕ) → i < u → changed means c u (Var i) ≡ Var i
  bound_untouched (change.Shift by) u i l = below_kept u i (i + by) l
  bound_untouched (change.Put args) u i l = below_taken u i (shift 0 u (instantiate (terms_of (map means args.now)) (i - u))) l

-- a variable beyond the binders is raised
pub raised_variable : (u by i : ℕ) → u ≤ i → Var (i + by) ≡ shift u by (Var i)
raised_variable u by i l = go (nat_lt i u) refl
  where
    go : (b : Bool) → nat_lt i u ≡ b → Var (i + by) ≡ Var (if b then i else i + by)
    go true e = absurd (let m : i < u = grind (arith, nat_tests) in omega arith)
    go false e = refl

-- ---- how much there is to do, also for the arguments that come in

abbrev pub weight : {H : Type 0} → (H → Term) → Change H → ℕ
weight means (change.Shift by) = 0
weight means (change.Put args) = 4 * nodes_all (terms_of (map means args.now)) + 8

-- ---- while the store grows

module _ {H : Type 0} (holds : H → Type 0) (means : H → Term) (holds' : H → Type 0) (means' : H → Term) (kept : Keeps holds means holds' means') where
  pub args_kept : (c : Change H) → ArgsIn holds c → ArgsIn holds' c
  args_kept (change.Shift by) a = tt
  args_kept (change.Put args) a = keeps_all holds means holds' means' args.now kept a

  pub changed_kept : (c : Change H) → ArgsIn holds c → (u : ℕ) (t : Term) → changed means' c u t ≡ changed means c u t
  changed_kept (change.Shift by) a u t = refl
  changed_kept (change.Put args) a u t = ap (λ hs. subst_at u (terms_of hs) t) (keeps_map holds means holds' means' args.now kept a)

  pub weight_kept : (c : Change H) → ArgsIn holds c → weight means' c ≡ weight means c
  weight_kept (change.Shift by) a = refl
  weight_kept (change.Put args) a = ap (λ hs. 4 * nodes_all (terms_of hs) + 8) (keeps_map holds means holds' means' args.now kept a)

  pub changes_kept : (c : Change H) (cmp : H → H → Ordering) (known : BTreeMap (H × ℕ) H) → ArgsIn holds c → AreChanges holds means c cmp known → AreChanges holds' means' c cmp known
  changes_kept c cmp known a t h r u e =
      let x = t h r u e in
      record {
        term = (kept h x.term).0;
        held = (kept r x.held).0;
        is = (kept r x.held).1 ∙ x.is ∙ ap (changed means c u) (sym (kept h x.term).1) ∙ sym (changed_kept c a u (means' h));
      }

  -- what a term was changed to, as an entry
  pub entry_made : (c : Change H) → ArgsIn holds c → (h r : H) (u : ℕ) → holds h → holds' r → means' r ≡ changed means c u (means h) → IsChange holds' means' c h u r
  entry_made c a h r u p q e = record {
    term = (kept h p).0;
    held = q;
    is = e ∙ ap (changed means c u) (sym (kept h p).1) ∙ sym (changed_kept c a u (means' h));
  }

  -- what is said of a term after the store grew was so before
  pub before : (c : Change H) → ArgsIn holds c → (h : H) (u : ℕ) (x : Term) → holds h → x ≡ changed means' c u (means' h) → x ≡ changed means c u (means h)
  before c a h u x p e = e ∙ changed_kept c a u (means' h) ∙ ap (changed means c u) (kept h p).1

-- ---- tables

is_equal : (o : Ordering) → is_eq o ≡ true → o ≡ Equal
is_equal Less e = absurd cc
is_equal Equal e = refl
is_equal Greater e = absurd cc

nat_equal : (m n : ℕ) → nat_cmp m n ≡ Equal → m ≡ n
nat_equal m n e = go (nat_lt m n) (nat_eq m n) refl refl e
  where
    go : (b c : Bool) → nat_lt m n ≡ b → nat_eq m n ≡ c → cond b Less (cond c Equal Greater) ≡ Equal → m ≡ n
    go true c p q e = absurd cc
    go false true p q e = grind (arith, nat_tests)
    go false false p q e = absurd cc

then_equal : (o p : Ordering) → ordering_then o p ≡ Equal → (o ≡ Equal) × (p ≡ Equal)
then_equal Less p e = absurd cc
then_equal Equal p e = (refl, e)
then_equal Greater p e = absurd cc

module _ {H : Type 0} (cmp : H → H → Ordering) (exact : (a b : H) → cmp a b ≡ Equal → a ≡ b) where
  pub both_exact : (x y : H × ℕ) → by_both cmp x y ≡ Equal → x ≡ y
  both_exact x y e = let p = then_equal (cmp x.0 y.0) (nat_cmp x.1 y.1) e in ap₂ (λ (h : H) (n : ℕ). (h, n)) (exact x.0 y.0 p.0) (nat_equal x.1 y.1 p.1)

  pub lists_exact : (xs ys : List H) → slice_cmp cmp xs ys ≡ Equal → xs ≡ ys
  lists_exact [] [] e = refl
  lists_exact [] (y ∷ ys) e = absurd cc
  lists_exact (x ∷ xs) [] e = absurd cc
  lists_exact (x ∷ xs) (y ∷ ys) e = let p = then_equal (cmp x y) (slice_cmp cmp xs ys) e in ap₂ ◌∷◌ (exact x y p.0) (lists_exact xs ys p.1)

module _ {H : Type 0} (holds : H → Type 0) (means : H → Term) (c : Change H) (cmp : H → H → Ordering) where
  pub no_changes : (known : BTreeMap (H × ℕ) H) → IsEmpty known → AreChanges holds means c cmp known
  no_changes known empty h r u e = let x : ◌≡◌ {A = Option H} None (Some r) = sym (ap (λ es. lookup (is_at (by_both cmp (h, u))) es) empty) ∙ e in absurd cc

  pub one_change_more : (old new : BTreeMap (H × ℕ) H) (h r : H) (u : ℕ) → ((a b : H) → cmp a b ≡ Equal → a ≡ b) → IsChange holds means c h u r
      → Updates (by_both cmp) old new (h, u) (Some r) → AreChanges holds means c cmp old → AreChanges holds means c cmp new
  one_change_more old new h r u exact is updates known q s v e = go (is_at (by_both cmp (h, u)) (q, v)) refl
    where
      go : (b : Bool) → is_at (by_both cmp (h, u)) (q, v) ≡ b → IsChange holds means c q v s
      go true t =
          let same : ◌≡◌ {A = H × ℕ} (h, u) (q, v) = both_exact cmp exact (h, u) (q, v) (is_equal (by_both cmp (h, u) (q, v)) t) in
          let found : ◌≡◌ {A = Option H} (Some r) (Some s) = sym (updates.0 (q, v) ∙ ap (λ b. cond b (Some r) (get (by_both cmp) old (q, v))) t) ∙ e in
          let value : r ≡ s = same_Some _ _ found in
          subst (λ (p : H × ℕ). IsChange holds means c p.0 p.1 s) same (subst (λ s. IsChange holds means c h u s) value is)
      go false t = known q s v (sym (updates.0 (q, v) ∙ ap (λ b. cond b (Some r) (get (by_both cmp) old (q, v))) t) ∙ e)

-- ---- a list of terms

-- After i turns the handles made mean what the first i terms are changed to, and the table is right.
pub record Changing {H : Type 0} (holds : H → Type 0) (means : H → Term) (holds' : H → Type 0) (means' : H → Term) (c : Change H) (cmp : H → H → Ordering)
    (table : BTreeMap (H × ℕ) H) (u : ℕ) (hs made : List H) (i : ℕ) : Type 0 where
  pub turn : Turn holds means holds' means' (changed_all means c u) hs made i
  pub known : AreChanges holds' means' c cmp table

-- ---- a constant or a metavariable, and its arguments

module _ {H : Type 0} (holds : H → Type 0) (means : H → Term) (holds' : H → Type 0) (means' : H → Term) (kept : Keeps holds means holds' means') where
  -- where the changed arguments are the same handles, the node is the same
  pub node_again : (c : Change H) (u : ℕ) (k : Head) (us vs ws : List H) (h : H) → All holds us → holds h → us ≡ vs → vs ≡ ws
      → terms_of (map means' ws) ≡ changed_all means c u (terms_of (map means us)) → Con k (terms_of (map means us)) ≡ means h
      → means' h ≡ changed means c u (means h)
  node_again c u k us vs ws h a l e f trees is =
      let x : terms_of (map means' ws) ≡ terms_of (map means us) = ap (λ hs. terms_of (map means' hs)) (sym (e ∙ f)) ∙ ap terms_of (keeps_map holds means holds' means' us kept a) in
      (kept h l).1 ∙ sym is ∙ ap (Con k) (sym x ∙ trees) ∙ sym (changed_con means c u k (terms_of (map means us))) ∙ ap (changed means c u) is

  -- a term of a list is of the store, and no larger than the list
  pub part_of : (hs : List H) (h : H) (i : ℕ) → All holds hs → i < length hs → h ≡ get_or hs i h → holds' h × (nodes (means' h) ≤ nodes_all (terms_of (map means hs)))
  part_of hs h i a l e =
      let at : holds h = rw e (a i h l) in
      let q : nodes (means' h) ≡ nodes (means h) = ap nodes (kept h at).1 in
      let p : nodes (means h) ≤ nodes_all (terms_of (map means hs)) = part_less means hs h i l e in
      ((kept h at).0, omega (arith, q, p))

-- ---- what stands for a variable

module _ {H : Type 0} (means : H → Term) (hs : List H) (h : H) (d i k : ℕ) (l : d ≤ i) (e : i - d + k + 1 ≡ length hs) (is : h ≡ get_or hs k h) where
  -- an argument that is the variable itself
  pub itself : means h ≡ Var (i - d) → Var i ≡ subst_at d (terms_of (map means hs)) (Var i)
  itself m =
      let q : i ≡ i - d + d = omega arith in
      ap Var q ∙ raised_variable 0 d (i - d) (omega arith) ∙ ap (shift 0 d) (sym m) ∙ argument_for means hs h d i k l e is

  -- an argument above which there are no binders
  pub at_root : d ≡ 0 → means h ≡ subst_at d (terms_of (map means hs)) (Var i)
  at_root z = sym (shift_none (means h) 0) ∙ ap (λ n. shift 0 n (means h)) (sym z) ∙ argument_for means hs h d i k l e is

-- what holds in any case holds where a call succeeds
pub on_ok : {X E : Type 0} (r : Result X E) (P : Type 0) → P → OnOk r P
on_ok (Ok x) P p = p
on_ok (Err e) P p = tt
