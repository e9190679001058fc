-- Rounds of unfolding after which nothing changes any more, and tables of such terms.
use Rattle.std.proofs.Common.{◌≡◌, ℕ, zero, suc, ◌+◌, ◌-◌, ◌<◌, ◌≤◌, max, List, [], ◌∷◌, ◌++◌, map, take, length, get_or, All, Bool, true, false, cond, Option, Some, None, option_map, IfSome, refl, sym, ap, ap₂, ◌∙◌, subst, arith}
use Rattle.std.proofs.lemmas.List.Elements.{All-append}
use Rattle.std.proofs.lemmas.Option.{same_Some}
use Rattle.std.specs.Map.{lookup}
use Rattle.std.specs.BTreeMap.{BTreeMap, get, is_at, IsEmpty, Updates}
use Rattle.std.specs.declared.cmp.Ordering.{Ordering}
use Rattle.std.specs.declared.cmp.Ordering.TheVariants.{Less, Equal, Greater}
use Rattle.std.specs.Ordering.{is_eq}
use Rattle.ld_trees.specs.Term.{Named, Numbered, Term, Terms, Con, count, none, ◌▹◌}
use Rattle.ld_rules.specs.Expansion.{expanded}
use Rattle.ld_rules.proofs.Removal.{expand_count}
use Rattle.ld_terms.specs.Views.{Keeps, terms_of}
use Rattle.ld_terms.specs.declared.globals.Decl.{Decl as StoredDecl}
use Rattle.ld_terms.proofs.Arguments.{terms_of_end, terms_of_more}
use Rattle.ld_terms.proofs.Turns.{keeps_both, keeps_all, keeps_map}
use Rattle.conversion.specs.Globals.{IsDeclOf}
use Rattle.meta_trees.specs.MetaContext.{Metas}
use Rattle.meta_context.specs.Stored.{metas_of}
use Rattle.meta_laws.specs.Unfolding.{values}
use Rattle.goal_state.specs.Rounds.{unfolded, unfolded_all, value_for}
use Rattle.goal_state.specs.Settling.{Settles, Reaches, later, one_more, IsUnfolding, AreUnfoldings}
use Rattle.goal_state.proofs.Means.{metas_kept}
use Rattle.goal_state.proofs.Rounds.{no_round, no_value_rounds, some_value_rounds, constant_unfolded, handles_counted}

-- ---- what rounds give

-- what stays so from n rounds on, at r rounds of which n are some
pub settled_at : {X : Type 0} (f : ℕ → X) (r n : ℕ) (x : X) → n ≤ r → Settles f n x → Reaches f r (Some n) x
settled_at f r n x l s = record { value = s r l; settled = (l, s) }

-- the same in each round
pub always : {X : Type 0} (f : ℕ → X) (r : ℕ) (x : X) → ((k : ℕ) → f k ≡ x) → Reaches f r (Some 0) x
always f r x e = record { value = e r; settled = (omega arith, λ k l. e k) }

module _ {X Y Z : Type 0} (c : X → Y → Z) (f : ℕ → X) (g : ℕ → Y) (r : ℕ) (x : X) (y : Y) where
  both_settled : (o p : Option ℕ) → IfSome o (λ n. (n ≤ r) × Settles f n x) → IfSome p (λ n. (n ≤ r) × Settles g n y)
      → IfSome (later o p) (λ n. (n ≤ r) × Settles (λ k. c (f k) (g k)) n (c x y))
  both_settled None p a b = tt
  both_settled (Some n) None a b = tt
  both_settled (Some n) (Some m) a b = (grind arith, λ k l. ap₂ c (a.1 k (grind arith)) (b.1 k (grind arith)))

  -- two parts, and what is made of them
  pub both : (o p : Option ℕ) → Reaches f r o x → Reaches g r p y → Reaches (λ k. c (f k) (g k)) r (later o p) (c x y)
  both o p a b = record { value = ap₂ c a.value b.value; settled = both_settled o p a.settled b.settled }

module _ {X Y : Type 0} (c : X → Y) (f : ℕ → X) (g : ℕ → Y) (r : ℕ) (x : X) (y : Y) (same : (k : ℕ) → g k ≡ c (f k)) (is : y ≡ c x) where
  made_settled : (o : Option ℕ) → IfSome o (λ n. (n ≤ r) × Settles f n x) → IfSome o (λ n. (n ≤ r) × Settles g n y)
  made_settled None a = tt
  made_settled (Some n) a = (a.0, λ k l. same k ∙ ap c (a.1 k l) ∙ sym is)

  -- what is made of one part
  pub made_of : (o : Option ℕ) → Reaches f r o x → Reaches g r o y
  made_of o a = record { value = same r ∙ ap c a.value ∙ sym is; settled = made_settled o a.settled }

-- ---- the values of metavariables

module _ {H : Type 0} (means : H → Term) (ds : List (StoredDecl H)) (r m n : ℕ) where
  value_settled : (v : H) (x : Term) → value_for ds m n ≡ Some v → (o : Option ℕ) → 0 < r
      → IfSome o (λ i. (i ≤ r - 1) × Settles (λ k. unfolded (metas_of means ds) k (means v)) i x)
      → IfSome (one_more o) (λ i. (i ≤ r) × Settles (λ k. values (metas_of means ds) k (Numbered m) n) i (Some x))
  value_settled v x e None l a = tt
  value_settled v x e (Some i) l a = (omega (arith, a.0, l), λ k b. sym (some_value_rounds means ds k m n v x (omega (arith, b)) e (sym (a.1 (k - 1) (omega (arith, b))))))

  -- a value is unfolded in one round less
  pub value_reached : (v : H) (x : Term) (o q : Option ℕ) → q ≡ one_more o → 0 < r → value_for ds m n ≡ Some v
      → Reaches (λ k. unfolded (metas_of means ds) k (means v)) (r - 1) o x
      → Reaches (λ k. values (metas_of means ds) k (Numbered m) n) r q (Some x)
  value_reached v x o q w l e a = rw w (record {
    value = sym (some_value_rounds means ds r m n v x l e (sym a.value));
    settled = value_settled v x e o l a.settled;
  })

  none_in : value_for ds m n ≡ None → (k : ℕ) → values (metas_of means ds) k (Numbered m) n ≡ None
  none_in e zero = refl
  none_in e (suc k) = sym (no_value_rounds means ds (suc k) m n (omega arith) e)

  pub no_value_reached : value_for ds m n ≡ None → Reaches (λ k. values (metas_of means ds) k (Numbered m) n) r (Some 0) None
  no_value_reached e = always (λ k. values (metas_of means ds) k (Numbered m) n) r None (none_in e)

  -- without a round nothing has a value, and more rounds may give one
  pub no_round_reached : r ≡ 0 → Reaches (λ k. values (metas_of means ds) k (Numbered m) n) r None None
  no_round_reached e = record { value = no_round (metas_of means ds) r m n e; settled = tt }

-- ---- tables

is_equal : (o : Ordering) → is_eq o ≡ true → o ≡ Equal
is_equal Less e = absurd cc
is_equal Equal e = refl
is_equal Greater e = absurd cc

module _ {H : Type 0} (holds : H → Type 0) (means : H → Term) (Σ : Metas) (cmp : H → H → Ordering) where
  pub no_entries : (known : BTreeMap H (H × ℕ)) → IsEmpty known → AreUnfoldings holds means Σ cmp known
  no_entries known empty h r n e = let x : ◌≡◌ {A = Option (H × ℕ)} None (Some (r, n)) = sym (ap (λ es. lookup (is_at (cmp h)) es) empty) ∙ e in absurd cc

  pub one_entry_more : (old new : BTreeMap H (H × ℕ)) (h r : H) (n : ℕ) → ((a b : H) → cmp a b ≡ Equal → a ≡ b) → IsUnfolding holds means Σ h r n
      → Updates cmp old new h (Some (r, n)) → AreUnfoldings holds means Σ cmp old → AreUnfoldings holds means Σ cmp new
  one_entry_more old new h r n exact is updates known q s i e = go (is_at (cmp h) q) refl
    where
      go : (b : Bool) → is_at (cmp h) q ≡ b → IsUnfolding holds means Σ q s i
      go true t =
          let same : h ≡ q = exact h q (is_equal (cmp h q) t) in
          let found : ◌≡◌ {A = Option (H × ℕ)} (Some (r, n)) (Some (s, i)) = sym (updates.0 q ∙ ap (λ b. cond b (Some (r, n)) (get cmp old q)) t) ∙ e in
          let pair : ◌≡◌ {A = H × ℕ} (r, n) (s, i) = same_Some _ _ found in
          let first : r ≡ s = ap (λ (p : H × ℕ). p.0) pair in
          let second : n ≡ i = ap (λ (p : H × ℕ). p.1) pair in
          subst (λ q. IsUnfolding holds means Σ q s i) same (subst (λ s. IsUnfolding holds means Σ h s i) first (subst (λ i. IsUnfolding holds means Σ h r i) second is))
      go false t = known q s i (sym (updates.0 q ∙ ap (λ b. cond b (Some (r, n)) (get cmp old q)) t) ∙ e)

module _ {H : Type 0} (holds : H → Type 0) (means : H → Term) (holds' : H → Type 0) (means' : H → Term) (ds : List (StoredDecl H)) (kept : Keeps holds means holds' means') (a : All (IsDeclOf holds) ds) where
  -- a table stays right while the store grows
  pub table_kept : (cmp : H → H → Ordering) (known : BTreeMap H (H × ℕ)) → AreUnfoldings holds means (metas_of means ds) cmp known → AreUnfoldings holds' means' (metas_of means' ds) cmp known
  table_kept cmp known t h r n e =
      let u = t h r n e in
      record {
        term = (kept h u.term).0;
        held = (kept r u.held).0;
        settles = λ k l. ap₂ (λ Σ t. unfolded Σ k t) (metas_kept holds means holds' means' kept ds a) (kept h u.term).1 ∙ u.settles k l ∙ sym (kept r u.held).1;
      }

  -- what a term was unfolded to, as an entry of a table
  pub entry_made : (h r : H) (n rounds : ℕ) (o : Option ℕ) → o ≡ Some n → holds h → holds' r → Reaches (λ k. unfolded (metas_of means ds) k (means h)) rounds o (means' r)
      → IsUnfolding holds' means' (metas_of means' ds) h r n
  entry_made h r n rounds o e p q u =
      let s : IfSome (Some n) (λ n. (n ≤ rounds) × Settles (λ k. unfolded (metas_of means ds) k (means h)) n (means' r)) = subst (λ o. IfSome o (λ n. (n ≤ rounds) × Settles (λ k. unfolded (metas_of means ds) k (means h)) n (means' r))) e u.settled in
      record {
        term = (kept h p).0;
        held = q;
        settles = λ k l. ap₂ (λ Σ t. unfolded Σ k t) (metas_kept holds means holds' means' kept ds a) (kept h p).1 ∙ s.1 k l;
      }

  -- what is said of a term after the store grew was so before
  pub reached_before : (h : H) (r : ℕ) (o : Option ℕ) (x : Term) → holds h → Reaches (λ k. unfolded (metas_of means' ds) k (means' h)) r o x
      → Reaches (λ k. unfolded (metas_of means ds) k (means h)) r o x
  reached_before h r o x p u =
      made_of (λ (t : Term). t) (λ k. unfolded (metas_of means' ds) k (means' h)) (λ k. unfolded (metas_of means ds) k (means h)) r x x
      (λ k. sym (ap₂ (λ Σ t. unfolded Σ k t) (metas_kept holds means holds' means' kept ds a) (kept h p).1)) refl o u

-- ---- a list of terms

all_one : {H : Type 0} (P : H → Type 0) (h : H) → P h → All P (h ∷ [])
all_one P h p zero d l = p
all_one P h p (suc i) d l = absurd (omega arith)

-- After i turns the handles made mean what the first i terms are unfolded to, and the handles so far mean what they meant.
pub record Turn {H : Type 0} (holds : H → Type 0) (means : H → Term) (holds' : H → Type 0) (means' : H → Term) (ds : List (StoredDecl H)) (cmp : H → H → Ordering)
    (table : BTreeMap H (H × ℕ)) (rounds : ℕ) (hs made : List H) (told : Option ℕ) (i : ℕ) : Type 0 where
  pub kept : Keeps holds means holds' means'
  pub held : All holds' made
  pub known : AreUnfoldings holds' means' (metas_of means' ds) cmp table
  pub trees : Reaches (λ k. unfolded_all (metas_of means ds) k (terms_of (map means (take i hs)))) rounds told (terms_of (map means' made))

pub turn : {H : Type 0} (holds : H → Type 0) (means : H → Term) (holds' : H → Type 0) (means' : H → Term) (holds'' : H → Type 0) (means'' : H → Term) (ds : List (StoredDecl H))
    (cmp : H → H → Ordering) (known known' : BTreeMap H (H × ℕ)) (rounds : ℕ) (hs made : List H) (o p q : Option ℕ) (i : ℕ) (h r : H) → q ≡ later o p →
    Turn holds means holds' means' ds cmp known rounds hs made o i → All (IsDeclOf holds) ds → All holds hs → i < length hs → h ≡ get_or hs i h →
    Keeps holds' means' holds'' means'' → holds'' r → AreUnfoldings holds'' means'' (metas_of means'' ds) cmp known' →
    Reaches (λ k. unfolded (metas_of means' ds) k (means' h)) rounds p (means'' r) →
    Turn holds means holds'' means'' ds cmp known' rounds hs (made ++ r ∷ []) q (i + 1)
turn holds means holds' means' holds'' means'' ds cmp known known' rounds hs made o p q i h r w t decls a l e k held table u = record {
  kept = keeps_both holds means holds' means' holds'' means'' t.kept k;
  held = All-append holds'' made (r ∷ []) (keeps_all holds' means' holds'' means'' made k t.held) (all_one holds'' r held);
  known = table;
  trees =
      let at : holds h = rw e (a i h l) in
      let Σ = metas_of means ds in
      let before : Reaches (λ n. unfolded Σ n (means h)) rounds p (means'' r) = reached_before holds means holds' means' ds t.kept decls h rounds p (means'' r) at u in
      made_of (λ (us : Terms). us)
      (λ n. unfolded_all Σ n (terms_of (map means (take i hs))) ▹ unfolded Σ n (means h))
      (λ n. unfolded_all Σ n (terms_of (map means (take (i + 1) hs)))) rounds
      (terms_of (map means' made) ▹ means'' r) (terms_of (map means'' (made ++ r ∷ [])))
      (λ n. ap (unfolded_all Σ n) (terms_of_more means hs i h l) ∙ ap (λ t. unfolded_all Σ n (terms_of (map means (take i hs))) ▹ unfolded Σ n t) (sym (ap means e)))
      (terms_of_end means'' made r ∙ ap (λ us. us ▹ means'' r) (ap terms_of (keeps_map holds' means' holds'' means'' made k t.held)))
      q
      (rw w (both (λ (us : Terms) (u : Term). us ▹ u) (λ n. unfolded_all Σ n (terms_of (map means (take i hs)))) (λ n. unfolded Σ n (means h)) rounds (terms_of (map means' made)) (means'' r) o p t.trees before));
}

-- ---- nodes

module _ {H : Type 0} (holds : H → Type 0) (means : H → Term) (holds' : H → Type 0) (means' : H → Term) (holds'' : H → Type 0) (means'' : H → Term) (ds : List (StoredDecl H))
    (kept : Keeps holds means holds' means') (kept' : Keeps holds' means' holds'' means'') (decls : All (IsDeclOf holds) ds) where
  -- two terms, of which the second is unfolded in a store that has grown by the first
  pub two_reached : (a b x y : H) (r : ℕ) (o p q : Option ℕ) → q ≡ later o p → holds b → holds' x
      → Reaches (λ k. unfolded (metas_of means ds) k (means a)) r o (means' x)
      → Reaches (λ k. unfolded (metas_of means' ds) k (means' b)) r p (means'' y)
      → Reaches {X = Term × Term} (λ k. (unfolded (metas_of means ds) k (means a), unfolded (metas_of means ds) k (means b))) r q (means'' x, means'' y)
  two_reached a b x y r o p q w hb hx u v =
      rw w (rw (kept' x hx).1 (both (λ (s t : Term). (s, t)) (λ k. unfolded (metas_of means ds) k (means a)) (λ k. unfolded (metas_of means ds) k (means b)) r (means' x) (means'' y) o p
      u (reached_before holds means holds' means' ds kept decls b r p (means'' y) hb v)))

module _ (Σ : Metas) (r : ℕ) (o : Option ℕ) where
  -- what is made of two terms
  pub pair_reached : (c : Term → Term → Term) → ((k : ℕ) (s t : Term) → unfolded Σ k (c s t) ≡ c (unfolded Σ k s) (unfolded Σ k t)) → (s t h x y z : Term) → c s t ≡ h → z ≡ c x y
      → Reaches {X = Term × Term} (λ k. (unfolded Σ k s, unfolded Σ k t)) r o (x, y) → Reaches (λ k. unfolded Σ k h) r o z
  pair_reached c step s t h x y z e is u =
      made_of (λ (p : Term × Term). c p.0 p.1) (λ k. (unfolded Σ k s, unfolded Σ k t)) (λ k. unfolded Σ k h) r (x, y) z (λ k. ap (unfolded Σ k) (sym e) ∙ step k s t) is o u

  pub constant_reached : (a b : List ℕ) (us vs : Terms) (h z : Term) → Con (Named a) us ≡ h → b ≡ a → z ≡ Con (Named b) vs
      → Reaches (λ k. unfolded_all Σ k us) r o vs → Reaches (λ k. unfolded Σ k h) r o z
  constant_reached a b us vs h z e f is u =
      made_of (λ (ws : Terms). Con (Named a) ws) (λ k. unfolded_all Σ k us) (λ k. unfolded Σ k h) r vs z
      (λ k. sym (constant_unfolded Σ k a a us (unfolded_all Σ k us) h (Con (Named a) (unfolded_all Σ k us)) e refl refl refl)) (is ∙ ap (λ c. Con (Named c) vs) f) o u

-- a metavariable, of its arguments and its value
pub meta_reached : {H : Type 0} (means : H → Term) (Σ : Metas) (r m : ℕ) (us : Terms) (vs : List H) (value : Option Term) (o p q : Option ℕ) (z : Term)
    → q ≡ later o p
    → Reaches (λ k. unfolded_all Σ k us) r p (terms_of (map means vs))
    → Reaches (λ k. values Σ k (Numbered m) (length vs)) r o value
    → z ≡ expanded value (Numbered m) (terms_of (map means vs))
    → Reaches (λ k. unfolded Σ k (Con (Numbered m) us)) r q z
meta_reached means Σ r m us vs value o p q z w u v is =
    let n : length vs ≡ count us = handles_counted means vs ∙ ap count (sym u.value) ∙ expand_count (λ h k. values Σ r h k) us in
    rw w (made_of (λ (t : Term). t) (λ k. expanded (values Σ k (Numbered m) (length vs)) (Numbered m) (unfolded_all Σ k us)) (λ k. unfolded Σ k (Con (Numbered m) us)) r
    (expanded value (Numbered m) (terms_of (map means vs))) z
    (λ k. ap (λ n. expanded (values Σ k (Numbered m) n) (Numbered m) (unfolded_all Σ k us)) (sym n)) is (later o p)
    (both (λ (x : Option Term) (ws : Terms). expanded x (Numbered m) ws) (λ k. values Σ k (Numbered m) (length vs)) (λ k. unfolded_all Σ k us) r value (terms_of (map means vs)) o p v u))
