-- Places among arguments, and flags of entries from the last one on.
use Rattle.std.proofs.Common.{◌≡◌, ◌≢◌, ℕ, zero, suc, ◌+◌, ◌-◌, ◌<◌, ◌≤◌, List, [], ◌∷◌, ◌++◌, reverse, length, take, map, All, get_or, Bool, true, false, nat_eq, Option, Some, None, option_map, refl, sym, ap, ap₂, ◌∙◌, arith, take-suc, if◌then◌else◌}
use Rattle.std.proofs.lemmas.List.{length-reverse, get_or-reverse, get_or_past, reverse-append, take_all}
use Rattle.ld_trees.specs.Term.{Term, Var, ◌▹◌}
use Rattle.ld_terms.specs.Views.{Keeps, terms_of}
use Rattle.ld_terms.proofs.Arguments.{terms_of_end}
use Rattle.ld_terms.proofs.Turns.{keeps_both, keeps_all, keeps_map}
use Rattle.conversion.proofs.Spines.{all_pushed}
use Rattle.unification.specs.Patterns.{place_of}
use Rattle.unification.specs.Pruning.{is_kept, thin, kept_variables}
use Rattle.pattern_unify.specs.Walks.{variables_of, one_if, IsKeptVariable}

-- ---- places

shift_none : (o : Option ℕ) (n : ℕ) → n ≡ 0 → option_map (λ p. n + p) o ≡ o
shift_none None n e = refl
shift_none (Some p) n e = ap (λ (q : ℕ). Some q) (omega arith)

shift_more : (o : Option ℕ) (n m : ℕ) → m ≡ n + 1 → option_map (λ p. n + p) (option_map suc o) ≡ option_map (λ p. m + p) o
shift_more None n m e = refl
shift_more (Some p) n m e = ap (λ (q : ℕ). Some q) (omega arith)

pub variables_end : (vs : List ℕ) (v : ℕ) → variables_of (vs ++ v ∷ []) ≡ variables_of vs ▹ Var v
variables_end vs v = terms_of_end (λ i. Var i) vs v

place_at_end : (vs : List ℕ) (v i : ℕ) → place_of (variables_of (vs ++ v ∷ [])) i ≡ (if nat_eq i v then Some 0 else option_map suc (place_of (variables_of vs) i))
place_at_end vs v i = ap (λ us. place_of us i) (variables_end vs v)

module _ (vs : List ℕ) (i : ℕ) where
  -- looking from the last one on, so many are left
  abbrev pub PlaceIsAmong : ℕ → Type 0
  PlaceIsAmong k = place_of (variables_of vs) i ≡ option_map (λ p. (length vs - k) + p) (place_of (variables_of (take k vs)) i)

  pub looking_begins : (k : ℕ) → k ≡ length vs → PlaceIsAmong k
  looking_begins k e =
      sym (ap (λ xs. option_map (λ p. (length vs - k) + p) (place_of (variables_of xs) i)) (take_all k vs (omega arith)) ∙ shift_none (place_of (variables_of vs) i) (length vs - k) (omega arith))

  last_of : (k : ℕ) → k < length vs → place_of (variables_of (take (suc k) vs)) i ≡ (if nat_eq i (get_or vs k 0) then Some 0 else option_map suc (place_of (variables_of (take k vs)) i))
  last_of k l = ap (λ xs. place_of (variables_of xs) i) (take-suc vs k 0 l) ∙ place_at_end (take k vs) (get_or vs k 0) i

  module _ (n k : ℕ) (e : n ≡ suc k) (l : k < length vs) (h : PlaceIsAmong n) where
    stepped : place_of (variables_of vs) i ≡ option_map (λ p. (length vs - n) + p) (if nat_eq i (get_or vs k 0) then Some 0 else option_map suc (place_of (variables_of (take k vs)) i))
    stepped = h ∙ ap (λ j. option_map (λ p. (length vs - n) + p) (place_of (variables_of (take j vs)) i)) e ∙ ap (option_map (λ p. (length vs - n) + p)) (last_of k l)

    pub found_there : get_or vs k 0 ≡ i → Some (length vs - 1 - k) ≡ place_of (variables_of vs) i
    found_there q =
        let t : nat_eq i (get_or vs k 0) ≡ true = grind (arith, q) in
        sym (stepped ∙ ap (λ b. option_map (λ p. (length vs - n) + p) (if b then Some 0 else option_map suc (place_of (variables_of (take k vs)) i))) t ∙ ap (λ (q : ℕ). Some q) (omega arith))

    pub not_there : get_or vs k 0 ≢ i → PlaceIsAmong k
    not_there q =
        let t : nat_eq i (get_or vs k 0) ≡ false = grind (arith, q) in
        stepped ∙ ap (λ b. option_map (λ p. (length vs - n) + p) (if b then Some 0 else option_map suc (place_of (variables_of (take k vs)) i))) t
        ∙ shift_more (place_of (variables_of (take k vs)) i) (length vs - n) (length vs - k) (omega arith)

  pub nowhere : (k : ℕ) → k ≡ 0 → PlaceIsAmong k → None ≡ place_of (variables_of vs) i
  nowhere k e h = sym (h ∙ ap (λ j. option_map (λ p. (length vs - j) + p) (place_of (variables_of (take j vs)) i)) e)

-- ---- flags

kept_at : (ks : List Bool) (i : ℕ) → is_kept ks i ≡ get_or ks i false
kept_at [] i = refl
kept_at (k ∷ ks) zero = refl
kept_at (k ∷ ks) (suc i) = kept_at ks i

module _ (flags : List Bool) where
  -- an entry behind the first ones
  pub kept_inside : (i : ℕ) → i < length flags → get_or flags (length flags - 1 - i) false ≡ is_kept (reverse flags) i
  kept_inside i l = sym (kept_at (reverse flags) i ∙ get_or-reverse flags i false l)

  pub kept_outside : (i : ℕ) → length flags ≤ i → false ≡ is_kept (reverse flags) i
  kept_outside i l = sym (kept_at (reverse flags) i ∙ get_or_past (reverse flags) i false (omega (arith, length-reverse flags)))

-- ---- numbers among the kept ones

thin_more : (ks : List Bool) (i : ℕ) → i < length ks → thin ks (suc i) ≡ thin ks i + one_if (is_kept ks i)
thin_more [] i l = absurd (omega arith)
thin_more (true ∷ ks) zero l = first ks
  where
    first : (ks : List Bool) → suc (thin ks 0) ≡ 1
    first [] = refl
    first (true ∷ ks) = refl
    first (false ∷ ks) = refl
thin_more (false ∷ ks) zero l = first ks
  where
    first : (ks : List Bool) → thin ks 0 ≡ 0
    first [] = refl
    first (true ∷ ks) = refl
    first (false ∷ ks) = refl
thin_more (true ∷ ks) (suc i) l = omega (arith, thin_more ks i (omega arith))
thin_more (false ∷ ks) (suc i) l = thin_more ks i (omega arith)

thin_none : (ks : List Bool) → thin ks 0 ≡ 0
thin_none [] = refl
thin_none (true ∷ ks) = refl
thin_none (false ∷ ks) = refl

thin_past : (ks : List Bool) (i j : ℕ) → length ks ≤ i → length ks ≤ j → thin ks i ≡ thin ks j
thin_past [] i j l m = refl
thin_past (k ∷ ks) zero j l m = absurd (omega arith)
thin_past (k ∷ ks) (suc i) zero l m = absurd (omega arith)
thin_past (true ∷ ks) (suc i) (suc j) l m = ap suc (thin_past ks i j (omega arith) (omega arith))
thin_past (false ∷ ks) (suc i) (suc j) l m = thin_past ks i j (omega arith) (omega arith)

module _ (flags : List Bool) where
  pub counting_begins : 0 ≡ thin (reverse flags) 0
  counting_begins = sym (thin_none (reverse flags))

  pub counted : (i kept more : ℕ) → i < length flags → kept ≡ thin (reverse flags) i → more ≡ kept + one_if (get_or flags (length flags - 1 - i) false) → more ≡ thin (reverse flags) (i + 1)
  counted i kept more l h e =
      let m : i + 1 ≡ suc i = omega arith in
      e ∙ ap₂ (λ n b. n + one_if b) h (kept_inside flags i l) ∙ sym (ap (thin (reverse flags)) m ∙ thin_more (reverse flags) i (omega (arith, length-reverse flags)))

  pub over : (i n kept : ℕ) → length flags ≤ i → i ≤ n → kept ≡ thin (reverse flags) i → kept ≡ thin (reverse flags) n
  over i n kept l m h = h ∙ thin_past (reverse flags) i n (omega (arith, length-reverse flags)) (omega (arith, length-reverse flags))

-- ---- the variables of the kept entries

-- so many entries are left behind those that are done
module _ (flags : List Bool) (k : ℕ) (vs : List ℕ) (l : k < length flags) (h : variables_of vs ≡ kept_variables (reverse (take k flags)) (length flags - k)) (b : Bool) (e : b ≡ get_or flags k false) where
  turned : reverse (take (suc k) flags) ≡ b ∷ reverse (take k flags)
  turned = ap reverse (take-suc flags k false l ∙ ap (λ x. take k flags ++ x ∷ []) (sym e)) ∙ reverse-append (take k flags) (b ∷ [])

  left : length flags - k ≡ suc (length flags - 1 - k)
  left = omega arith

  turned_at : (n : ℕ) → n ≡ suc k → kept_variables (reverse (take n flags)) (length flags - n) ≡ kept_variables (b ∷ reverse (take k flags)) (length flags - 1 - k)
  turned_at n q = ap (λ m. kept_variables (reverse (take m flags)) (length flags - m)) q ∙ ap (λ m. kept_variables (reverse (take (suc k) flags)) m) (omega arith) ∙ ap (λ ks. kept_variables ks (length flags - 1 - k)) turned

  variable_kept : (n i : ℕ) (ws : List ℕ) → n ≡ k + 1 → b ≡ true → i ≡ length flags - 1 - k → ws ≡ vs ++ i ∷ [] → variables_of ws ≡ kept_variables (reverse (take n flags)) (length flags - n)
  variable_kept n i ws q t p w =
      ap variables_of w ∙ variables_end vs i ∙ ap (λ us. us ▹ Var i) (h ∙ ap (kept_variables (reverse (take k flags))) left) ∙ ap (λ j. kept_variables (reverse (take k flags)) (suc (length flags - 1 - k)) ▹ Var j) p
      ∙ sym (turned_at n (omega arith) ∙ ap (λ x. kept_variables (x ∷ reverse (take k flags)) (length flags - 1 - k)) t)

  variable_passed : (n : ℕ) → n ≡ k + 1 → b ≡ false → variables_of vs ≡ kept_variables (reverse (take n flags)) (length flags - n)
  variable_passed n q t =
      h ∙ ap (kept_variables (reverse (take k flags))) left ∙ sym (turned_at n (omega arith) ∙ ap (λ x. kept_variables (x ∷ reverse (take k flags)) (length flags - 1 - k)) t)

  pub variable_turn : (n i : ℕ) (ws : List ℕ) → n ≡ k + 1 → i ≡ length flags - 1 - k → IsKeptVariable b i vs ws → variables_of ws ≡ kept_variables (reverse (take n flags)) (length flags - n)
  variable_turn n i ws q p w = by_case b refl w
    where
      by_case : (x : Bool) → b ≡ x → IsKeptVariable x i vs ws → variables_of ws ≡ kept_variables (reverse (take n flags)) (length flags - n)
      by_case true t w = variable_kept n i ws q t p w
      by_case false t w = ap variables_of w ∙ variable_passed n q t

pub variables_done : (flags : List Bool) (k : ℕ) (vs : List ℕ) → length flags ≤ k → variables_of vs ≡ kept_variables (reverse (take k flags)) (length flags - k) → variables_of vs ≡ kept_variables (reverse flags) 0
variables_done flags k vs l h = let z : length flags - k ≡ 0 = omega arith in h ∙ ap (λ n. kept_variables (reverse (take k flags)) n) z ∙ ap (λ ks. kept_variables (reverse ks) 0) (take_all k flags l)

pub one_at_most : (b : Bool) → one_if b ≤ 1
one_at_most true = omega arith
one_at_most false = omega arith

-- ---- variables as terms of a store

-- so many variables are made
pub record AreMade {H : Type 0} (holds : H → Type 0) (means : H → Term) (holds' : H → Type 0) (means' : H → Term) (vs : List ℕ) (made : List H) : Type 0 where
  pub kept : Keeps holds means holds' means'
  pub held : All holds' made
  pub trees : terms_of (map means' made) ≡ variables_of vs

module _ {H : Type 0} (holds : H → Type 0) (means : H → Term) (holds' : H → Type 0) (means' : H → Term) (holds'' : H → Type 0) (means'' : H → Term) where
  pub made_more : (vs : List ℕ) (made made' : List H) (i j v : ℕ) (h : H) → AreMade holds means holds' means' (take i vs) made → i < length vs → v ≡ get_or vs i 0 → j ≡ i + 1 → made' ≡ made ++ h ∷ [] →
      Keeps holds' means' holds'' means'' → holds'' h → means'' h ≡ Var v → AreMade holds means holds'' means'' (take j vs) made'
  made_more vs made made' i j v h a l e q p k held is =
      let s : suc i ≡ j = omega (arith, q) in record {
        kept = keeps_both holds means holds' means' holds'' means'' a.kept k;
        held = all_pushed holds'' made made' h p (keeps_all holds' means' holds'' means'' made k a.held) held;
        trees =
            ap (λ xs. terms_of (map means'' xs)) p ∙ terms_of_end means'' made h ∙ ap₂ ◌▹◌ (ap terms_of (keeps_map holds' means' holds'' means'' made k a.held) ∙ a.trees) (is ∙ ap (λ n. Var n) e)
            ∙ sym (ap (λ n. variables_of (take n vs)) (sym s) ∙ ap variables_of (take-suc vs i 0 l) ∙ variables_end (take i vs) (get_or vs i 0));
      }
