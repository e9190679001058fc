-- What scoping gives: a term whose variables are bound or entries of the context, and whose constants are known.
use Rattle.std.proofs.Common.{◌≡◌, ℕ, suc, ◌+◌, ◌-◌, ◌<◌, List, [], ◌∷◌, map, length, Option, Some, None, Ok, Err, refl, ap, sym, ◌∙◌, arith, subst, Bool, true, false, cond, nat_lt, ◌==◌}
use Rattle.std.proofs.lemmas.Bool.{eqb-true}
use Rattle.std.proofs.lemmas.Bool.Decides.{nat_tests}
use Rattle.std.specs.Str.{bytes_eq}
use Rattle.ld_trees.specs.Term.{Term, Star, Var, App, Lam, Pi, Const, Terms, none, ◌▹◌, count}
use Rattle.ld_terms.specs.Names.{IsTextName}
use Rattle.term_syntax.specs.declared.scope_fault.ScopeFault.TheVariants.{WrongCount}
use Rattle.term_syntax.specs.declared.surface.Label.{Label}
use Rattle.term_syntax.specs.declared.surface.Label.TheVariants as label
use Rattle.term_syntax.specs.declared.surface.Surface.{Surface, ind-Surface, fold_out-Surface}
use Rattle.term_syntax.specs.declared.surface.Shape.{Shape, fold-Shape, fold-roll-Shape, roll-Shape}
use Rattle.term_syntax.specs.declared.surface.Shape.TheFolds.{map-Shape, map-Surface}
use Rattle.term_syntax.specs.declared.surface.Shape.TheViews.{roll-Surface}
use Rattle.term_syntax.specs.declared.surface.Shape.TheOpen.{Shape-F, Surface-F}
use Rattle.term_syntax.specs.Lex.{Text}
use Rattle.term_syntax.specs.Printing.{Names}
use Rattle.ld_trees.specs.Scoping.{Scoped, AllScoped}
use Rattle.term_syntax.specs.ReadsBack.{IsReadable, AreReadable}
use Rattle.term_syntax.specs.Scoping.{Arities, Bound, Meaning, Resolved, ◌>>=◌, same_label, later, or_else, index_named, index_in_context, index_of, variable, applied, arguments, constant, below, node_meaning, scope}

-- ---- indices

named_by : (x : Text) (n : ℕ) (b : Bool) (o : Option ℕ) (i : ℕ) → ((j : ℕ) → o ≡ Some j → j < n) → or_else o (cond b (Some n) None) ≡ Some i → i < suc n
named_by x n b (Some j) i below_n e = let l = below_n j refl in let s : j ≡ i = cc in omega (arith, l, s)
named_by x n true None i below_n e = let s : n ≡ i = cc in omega (arith, s)
named_by x n false None i below_n e = absurd cc

index_named_below : (x : Text) (names : Names) (i : ℕ) → index_named x names ≡ Some i → i < length names
index_named_below x [] i e = absurd cc
index_named_below x (name ∷ names) i e = named_by x (length names) (bytes_eq x name) (index_named x names) i (index_named_below x names) e

at_by : (k n i : ℕ) (b : Bool) → nat_lt k n ≡ b → cond b (Some (n - (k + 1))) None ≡ Some i → i < n
at_by k n i true t e = let s : n - (k + 1) ≡ i = cc in let l : k < n = grind (arith, nat_tests) in omega (arith, s, l)
at_by k n i false t e = absurd cc

in_context_below : (x : Label) (names : Names) (i : ℕ) → index_in_context x names ≡ Some i → i < length names
in_context_below (label.Plain x) names i e = index_named_below x names i e
in_context_below (label.Level k) names i e = at_by k (length names) i (nat_lt k (length names)) refl e

later_below : (n : ℕ) (o : Option ℕ) (i : ℕ) → ((j : ℕ) → o ≡ Some j → j < n) → later o ≡ Some i → i < suc n
later_below n None i below_n e = absurd cc
later_below n (Some j) i below_n e = let s : j + 1 ≡ i = cc in let l = below_n j refl in omega (arith, s, l)

found_below : (n : ℕ) (b : Bool) (o : Option ℕ) (i : ℕ) → ((j : ℕ) → o ≡ Some j → j < n) → cond b (Some 0) (later o) ≡ Some i → i < suc n
found_below n true o i below_n e = let s : 0 ≡ i = cc in omega (arith, s)
found_below n false o i below_n e = later_below n o i below_n e

index_below : (names : Names) (x : Label) (bound : Bound) (i : ℕ) → index_of names x bound ≡ Some i → i < length bound + length names
index_below names x [] i e = omega (arith, in_context_below x names i e)
index_below names x (None ∷ bound) i e = omega (arith, later_below (length bound + length names) (index_of names x bound) i (index_below names x bound) e)
index_below names x (Some y ∷ bound) i e = omega (arith, found_below (length bound + length names) (same_label x y) (index_of names x bound) i (index_below names x bound) e)

-- ---- terms

abbrev scoped : {A : Type 0} → A → Resolved A
scoped x = Ok x

ok_is : {A : Type 0} (P : A → Type 0) (x t : A) → scoped x ≡ scoped t → P x → P t
ok_is P x t e p = let s : x ≡ t = cc in subst P s p

abbrev fitted : ℕ → Text → ℕ → ℕ → Bool → Resolved (Unit {0})
fitted at a given wanted b = cond b (Ok tt) (Err (WrongCount at a given wanted))

module _ (arity : Arities) (names : Names) (known : (a : Text) (n : ℕ) → arity a ≡ Some n → IsTextName a) where
  abbrev pub IsGood : Bound → Term → Type 0
  IsGood bound t = Scoped (length bound + length names) t × IsReadable arity t

  abbrev AreGood : Bound → Terms → Type 0
  AreGood bound us = AllScoped (length bound + length names) us × AreReadable arity us

  abbrev pub GivesGood : Meaning → Type 0
  GivesGood m = (bound : Bound) (t : Term) → m bound ≡ Ok t → IsGood bound t

  abbrev meaning_of : Shape → ℕ → Meaning
  meaning_of s = fold-Shape (ℕ → Meaning) Meaning (node_meaning arity names) (λ t. t.shape t.at) s

  abbrev ShapeGood : Shape → Type 0
  ShapeGood s = (at : ℕ) → GivesGood (meaning_of s at)

  abbrev SurfaceGood : Surface → Type 0
  SurfaceGood s = GivesGood (scope arity names s)

  abbrev GoodSurface : Type 0
  GoodSurface = (s : Surface) × SurfaceGood s

  variable_good : (at : ℕ) (x : Label) (bound : Bound) (o : Option ℕ) (t : Term) → index_of names x bound ≡ o → variable at x o ≡ Ok t → IsGood bound t
  variable_good at x bound None t is e = absurd cc
  variable_good at x bound (Some i) t is e = ok_is (IsGood bound) (Var i) t e (index_below names x bound i is, tt)

  -- a meaning, and what is made of its term
  then_good : (m : Resolved Term) (f : Term → Resolved Term) (bound inner : Bound) (t : Term) → ((u : Term) → m ≡ Ok u → IsGood inner u)
      → ((u : Term) → IsGood inner u → f u ≡ Ok t → IsGood bound t) → m >>= f ≡ Ok t → IsGood bound t
  then_good (Err x) f bound inner t first next e = absurd cc
  then_good (Ok u) f bound inner t first next e = next u (first u refl) e

  applied_good : (ms : List GoodSurface) (bound : Bound) (f t : Term) → IsGood bound f → applied f (below bound (map (scope arity names) (map (λ p. p.0) ms))) ≡ Ok t → IsGood bound t
  applied_good [] bound f t good e = ok_is (IsGood bound) f t e good
  applied_good (m ∷ ms) bound f t good e =
      then_good (scope arity names m.0 bound) _ bound bound t (m.1 bound) (λ a a_good e. applied_good ms bound (App f a) t ((good.0, a_good.0), (good.1, a_good.1)) e) e

  arguments_by : (m : Resolved Term) (f : Term → Resolved Terms) (bound : Bound) (vs : Terms) (Q : Terms → Type 0) → ((u : Term) → m ≡ Ok u → IsGood bound u)
      → ((u : Term) → IsGood bound u → f u ≡ Ok vs → Q vs) → m >>= f ≡ Ok vs → Q vs
  arguments_by (Err x) f bound vs Q first next e = absurd cc
  arguments_by (Ok u) f bound vs Q first next e = next u (first u refl) e

  arguments_good : (ms : List GoodSurface) (bound : Bound) (us vs : Terms) → AreGood bound us
      → arguments us (below bound (map (scope arity names) (map (λ p. p.0) ms))) ≡ Ok vs → AreGood bound vs × (count vs ≡ count us + length ms)
  arguments_good [] bound us vs good e = ok_is (λ vs. AreGood bound vs × (count vs ≡ count us + 0)) us vs e (good, omega arith)
  arguments_good (m ∷ ms) bound us vs good e =
      arguments_by (scope arity names m.0 bound) _ bound vs (λ vs. AreGood bound vs × (count vs ≡ count us + suc (length ms))) (m.1 bound)
      (λ u u_good e.
      let rest = arguments_good ms bound (us ▹ u) vs ((good.0, u_good.0), (good.1, u_good.1)) e in
      (rest.0, omega (arith, rest.1)))
      e

  constant_by : (at : ℕ) (a : Text) (o : Option ℕ) (ms : List GoodSurface) (bound : Bound) (t : Term) (given : List (Resolved Term)) → arity a ≡ o
      → given ≡ below bound (map (scope arity names) (map (λ p. p.0) ms)) → length given ≡ length ms → constant at a o given ≡ Ok t → IsGood bound t
  constant_by at a None ms bound t given is same long e = absurd cc
  constant_by at a (Some n) ms bound t given is same long e = fits (length given == n) refl e
    where
      built : (o : Resolved Terms) → arguments none given ≡ o → o >>= (λ us. Ok (Const a us)) ≡ Ok t → length given ≡ n → IsGood bound t
      built (Err x) q e l = absurd cc
      built (Ok us) q e l =
          let good = arguments_good ms bound none us (tt, tt) (ap (arguments none) (sym same) ∙ q) in
          ok_is (IsGood bound) (Const a us) t e (good.0.0, (known a n is, is ∙ ap Some (omega (arith, good.1, long, l)), good.0.1))

      fits : (b : Bool) → (length given == n) ≡ b → fitted at a (length given) n b >>= (λ _. arguments none given >>= (λ us. Ok (Const a us))) ≡ Ok t → IsGood bound t
      fits true q e = built (arguments none given) refl e (eqb-true (length given) n q)
      fits false q e = absurd cc

  length_below : (ms : List GoodSurface) (bound : Bound) → length (below bound (map (scope arity names) (map (λ p. p.0) ms))) ≡ length ms
  length_below [] bound = refl
  length_below (m ∷ ms) bound = ap suc (length_below ms bound)

  -- under a binder
  inner_good : (bound : Bound) (x : Option Label) (t : Term) → IsGood (x ∷ bound) t → Scoped (suc (length bound + length names)) t × IsReadable arity t
  inner_good bound x t good = let e : suc (length bound) + length names ≡ suc (length bound + length names) = omega arith in (subst (λ n. Scoped n t) e good.0, good.1)

  abbrev GoodShape : Type 0
  GoodShape = (s : Shape) × ShapeGood s

  node_good : (y : Shape-F GoodShape GoodSurface) (at : ℕ)
      → GivesGood (node_meaning arity names (map-Shape Shape Surface (ℕ → Meaning) Meaning meaning_of (scope arity names) (map-Shape GoodShape GoodSurface Shape Surface (λ p. p.0) (λ p. p.0) y)) at)
  node_good Shape-F.Star at bound t e = ok_is (IsGood bound) Star t e (tt, tt)
  node_good Shape-F.Wild at bound t e = absurd cc
  node_good Shape-F.Asked at bound t e = absurd cc
  node_good (Shape-F.Named x) at bound t e = variable_good at x bound (index_of names x bound) t refl e
  node_good (Shape-F.Const a us) at bound t e = constant_by at a (arity a) us bound t _ refl refl (length_below us bound) e
  node_good (Shape-F.App f us) at bound t e =
      then_good (scope arity names f.0 bound) _ bound bound t (f.1 bound) (λ g good e. applied_good us bound g t good e) e
  node_good (Shape-F.Lam x A M) at bound t e =
      then_good (scope arity names A.0 bound) _ bound bound t (A.1 bound)
      (λ B B_good e. then_good (scope arity names M.0 (Some x ∷ bound)) _ bound (Some x ∷ bound) t (M.1 (Some x ∷ bound))
      (λ N N_good e. ok_is (IsGood bound) (Lam B N) t e (let n = inner_good bound (Some x) N N_good in ((B_good.0, n.0), (B_good.1, n.1)))) e) e
  node_good (Shape-F.Pi x A M) at bound t e =
      then_good (scope arity names A.0 bound) _ bound bound t (A.1 bound)
      (λ B B_good e. then_good (scope arity names M.0 (x ∷ bound)) _ bound (x ∷ bound) t (M.1 (x ∷ bound))
      (λ N N_good e. ok_is (IsGood bound) (Pi B N) t e (let n = inner_good bound x N N_good in ((B_good.0, n.0), (B_good.1, n.1)))) e) e

  shape_good : (y : Shape-F GoodShape GoodSurface) → ShapeGood (roll-Shape (map-Shape GoodShape GoodSurface Shape Surface (λ p. p.0) (λ p. p.0) y))
  unfolding scope
  shape_good y at bound t e =
      node_good y at bound t
      (sym (ap (λ f. f at bound) (fold-roll-Shape (ℕ → Meaning) Meaning (node_meaning arity names) (λ t. t.shape t.at) (map-Shape GoodShape GoodSurface Shape Surface (λ p. p.0) (λ p. p.0) y))) ∙ e)

  rolled : Surface-F GoodShape GoodSurface → Surface
  rolled y = roll-Surface (map-Surface GoodShape GoodSurface Shape Surface (λ p. p.0) (λ p. p.0) y)

  pub scoped_is_good : (s : Surface) → SurfaceGood s
  unfolding scope rolled
  scoped_is_good = ind-Surface ShapeGood SurfaceGood
      (λ x y e. subst (λ l. ShapeGood (roll-Shape l)) e (shape_good y))
      (λ x y e. subst (λ l. SurfaceGood (roll-Surface l)) e (λ bound t h. y.shape.1 y.at bound t (sym (ap (λ f. f bound) (fold_out-Surface (ℕ → Meaning) Meaning (node_meaning arity names) (λ t. t.shape t.at) (rolled y))) ∙ h)))

pub scoped_is_readable : (arity : Arities) (names : Names) → ((a : Text) (n : ℕ) → arity a ≡ Some n → IsTextName a)
    → (s : Surface) (t : Term) → scope arity names s [] ≡ Ok t → Scoped (length names) t × IsReadable arity t
scoped_is_readable arity names known s t e =
    let good = scoped_is_good arity names known s [] t e in
    let z : 0 + length names ≡ length names = omega arith in
    (subst (λ n. Scoped n t) z good.0, good.1)
