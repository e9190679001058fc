-- The round trip, by induction on the term.
use Rattle.std.proofs.Common.{◌≡◌, ℕ, zero, suc, ◌+◌, ◌*◌, ◌^◌, ◌<◌, ◌≤◌, Bool, true, false, if◌then◌else◌, ◌||◌, List, [], ◌∷◌, ◌++◌, length, Some, None, Ok, refl, arith, subst}
use Rattle.std.specs.Prelude.{codes}
use Rattle.std.proofs.lemmas.Bool.Decides.{nat_tests}
use Rattle.std.proofs.lemmas.List.{append-nil}
use Rattle.ld_trees.specs.Term.{Term, Srt, star, square, Star, Var, App, Lam, Pi, Con, Named, Numbered, Const, Terms, none, ◌▹◌, count, depth, depth_all}
use Rattle.ld_terms.specs.Names.{IsTextName}
use Rattle.term_syntax.specs.declared.surface.Label.TheVariants as label
use Rattle.term_syntax.specs.Lex.{Text, lexemes}
use Rattle.term_syntax.specs.Grammar as grammar
use Rattle.term_syntax.specs.Grammar.{IsTerm, IsApp, IsAtom}
use Rattle.term_syntax.specs.Printing.{Names, occurs, occurs_in, is_binder, is_application, in_parentheses, binder_text, text, texts}
use Rattle.term_syntax.specs.Scoping.{Bound}
use Rattle.term_syntax.specs.ReadsBack.{IsReadable, AreReadable, PrintedIsRead}
use Rattle.term_syntax.proofs.LexLemmas.{lexemes_none}
use Rattle.term_syntax.proofs.NoBinder.{app_no_binder}
use Rattle.term_syntax.proofs.Back.{Known, Back, HeadBack, star_back, var_back, paren_back, binder_back, lam_back, product_back, arrow_back, atom_head, app_head, app_back}
use Rattle.term_syntax.proofs.BackConstants.{TextsBack, one_argument, more_arguments, bare_back, constant_back}
use Rattle.term_syntax.proofs.Entries.{Sees, sees_left, sees_right, sees_under, sees_nameless, sees_context, below_occurs}

-- a place inside a text for something so deep, of whose variables this is true: at most d terms may nest from there on, below n entries and binders
pub record Place (g : Known) (d n : ℕ) (bound : Bound) (deep : ℕ) (p : ℕ → Bool) : Type 0 where
  pub nests : deep ≤ d
  pub named : n + deep ≤ 10 ^ 9
  pub entries : length g.names ≤ n
  pub sees : Sees g bound n p

-- a part of it
part : (g : Known) (d n : ℕ) (bound : Bound) (deep : ℕ) (p : ℕ → Bool) (d' deep' : ℕ) (q : ℕ → Bool) → Place g d n bound deep p → deep' ≤ d' → deep' ≤ deep → Sees g bound n q → Place g d' n bound deep' q
part g d n bound deep p d' deep' q h small smaller s = record { nests = small; named = omega (arith, h.named); entries = h.entries; sees = s }

-- what is said of a term at every place
pub record Backs (g : Known) (t : Term) : Type 0 where
  pub term : (d n : ℕ) (bound : Bound) → Place g d n bound (depth t) (λ i. occurs i t) → Back g (IsTerm d) (text g.names n t) bound t
  pub left : (d n : ℕ) (bound : Bound) → Place g d n bound (depth t) (λ i. occurs i t) → Back g (IsApp d) (in_parentheses (is_binder t) (text g.names n t)) bound t
  pub head : (d n : ℕ) (bound : Bound) → Place g d n bound (depth t) (λ i. occurs i t) → HeadBack g d (in_parentheses (is_binder t) (text g.names n t)) bound t
  pub atom : (d n : ℕ) (bound : Bound) → Place g d n bound (depth t) (λ i. occurs i t) → Back g (IsAtom d) (in_parentheses (is_binder t || is_application t) (text g.names n t)) bound t

-- an atom is an application, and an application a term
alone : (g : Known) (d : ℕ) (bytes : Text) (bound : Bound) (t : Term) → Back g (IsAtom d) bytes bound t → Back g (IsApp d) bytes bound t
alone g d bytes bound t b = record { run = λ at more e. let x = b.run at more e in (x.0, x.1, grammar.alone x.2, x.3) }

as_term : (g : Known) (d : ℕ) (bytes : Text) (bound : Bound) (t : Term) → Back g (IsApp d) bytes bound t → Back g (IsTerm (suc d)) bytes bound t
as_term g d bytes bound t b = record { run = λ at more e. let x = b.run at more e in (x.0, x.1, grammar.application (app_no_binder x.2) x.2, x.3) }

-- a term that is an atom as it stands, with parts that are less deep by one
from_atom : (g : Known) (t : Term) (m : ℕ) → depth t ≡ suc m → is_binder t ≡ false → is_application t ≡ false
    → ((d n : ℕ) (bound : Bound) → Place g d n bound m (λ i. occurs i t) → Back g (IsAtom d) (text g.names n t) bound t) → Backs g t
from_atom g t m is nb na b = record {
  term = λ d n bound h. in_term d n bound h;
  left = λ d n bound h. rw nb (alone g d (text g.names n t) bound t (b d n bound (inner d n bound h)));
  head = λ d n bound h. rw nb (atom_head g d (text g.names n t) bound t (b d n bound (inner d n bound h)));
  atom = λ d n bound h. rw (nb, na) (b d n bound (inner d n bound h));
} where
  inner : (d n : ℕ) (bound : Bound) → Place g d n bound (depth t) (λ i. occurs i t) → Place g d n bound m (λ i. occurs i t)
  inner d n bound h = part g d n bound (depth t) _ d m _ h (omega (arith, h.nests)) (omega arith) h.sees

  in_term : (d n : ℕ) (bound : Bound) → Place g d n bound (depth t) (λ i. occurs i t) → Back g (IsTerm d) (text g.names n t) bound t
  in_term zero n bound h = absurd (omega (arith, h.nests))
  in_term (suc d) n bound h = as_term g d (text g.names n t) bound t (alone g d (text g.names n t) bound t (b d n bound (part g (suc d) n bound (depth t) _ d m _ h (omega (arith, h.nests)) (omega arith) h.sees)))

-- a term that stands in parentheses everywhere else
from_binder : (g : Known) (t : Term) → is_binder t ≡ true → ((d n : ℕ) (bound : Bound) → Place g d n bound (depth t) (λ i. occurs i t) → Back g (IsTerm d) (text g.names n t) bound t) → Backs g t
from_binder g t is b = record {
  term = b;
  left = λ d n bound h. rw is (alone g d _ bound t (paren_back g d (text g.names n t) bound t (b d n bound h)));
  head = λ d n bound h. rw is (atom_head g d _ bound t (paren_back g d (text g.names n t) bound t (b d n bound h)));
  atom = λ d n bound h. rw is (paren_back g d (text g.names n t) bound t (b d n bound h));
}

module _ (g : Known) (f a : Term) (x : Backs g f) (y : Backs g a) where
  function : (d d' n : ℕ) (bound : Bound) → depth f ≤ d' → Place g d n bound (depth (App f a)) (λ i. occurs i (App f a)) → Place g d' n bound (depth f) (λ i. occurs i f)
  function d d' n bound small h = part g d n bound _ _ d' (depth f) _ h small (omega arith) (sees_left g bound n (λ i. occurs i f) (λ i. occurs i a) h.sees)

  argument : (d d' n : ℕ) (bound : Bound) → depth a ≤ d' → Place g d n bound (depth (App f a)) (λ i. occurs i (App f a)) → Place g d' n bound (depth a) (λ i. occurs i a)
  argument d d' n bound small h = part g d n bound _ _ d' (depth a) _ h small (omega arith) (sees_right g bound n (λ i. occurs i f) (λ i. occurs i a) h.sees)

  app_term : (d n : ℕ) (bound : Bound) → Place g d n bound (depth (App f a)) (λ i. occurs i (App f a)) → Back g (IsTerm d) (text g.names n (App f a)) bound (App f a)
  app_term zero n bound h = absurd (omega (arith, h.nests))
  app_term (suc d) n bound h =
      as_term g d _ bound (App f a) (app_back g d _ _ bound f a (x.head d n bound (function (suc d) d n bound (omega (arith, h.nests)) h)) (y.atom d n bound (argument (suc d) d n bound (omega (arith, h.nests)) h)))

  from_app : Backs g (App f a)
  from_app = record {
    term = app_term;
    left = λ d n bound h. app_back g d _ _ bound f a (x.head d n bound (function d d n bound (omega (arith, h.nests)) h)) (y.atom d n bound (argument d d n bound (omega (arith, h.nests)) h));
    head = λ d n bound h. app_head g d _ _ bound f a (x.head d n bound (function d d n bound (omega (arith, h.nests)) h)) (y.atom d n bound (argument d d n bound (omega (arith, h.nests)) h));
    atom = λ d n bound h. paren_back g d _ bound (App f a) (app_term d n bound h);
  }

-- a binder's domain and what stands below it
module _ (g : Known) (a b : Term) (x : Backs g a) (y : Backs g b) where
  abbrev Whole : ℕ → ℕ → Bound → Type 0
  Whole d n bound = Place g (suc d) n bound (1 + Rattle.std.specs.Prelude.max (depth a) (depth b)) (λ i. occurs i a || occurs (i + 1) b)

  domain : (d n : ℕ) (bound : Bound) → Whole d n bound → Place g d n bound (depth a) (λ i. occurs i a)
  domain d n bound h = part g (suc d) n bound _ _ d (depth a) _ h (omega (arith, h.nests)) (omega arith) (sees_left g bound n (λ i. occurs i a) (λ i. occurs (i + 1) b) h.sees)

  under : (d n : ℕ) (bound : Bound) → Whole d n bound → Place g d (n + 1) (Some (label.Level n) ∷ bound) (depth b) (λ i. occurs i b)
  under d n bound h = record { nests = omega (arith, h.nests); named = omega (arith, h.named); entries = omega (arith, h.entries); sees = sees_under g bound n (λ i. occurs i a) (λ i. occurs i b) h.entries h.sees }

  nameless : (d n : ℕ) (bound : Bound) → occurs 0 b ≡ false → Whole d n bound → Place g d (n + 1) (None ∷ bound) (depth b) (λ i. occurs i b)
  nameless d n bound is h = record { nests = omega (arith, h.nests); named = omega (arith, h.named); entries = omega (arith, h.entries); sees = sees_nameless g bound n (λ i. occurs i a) (λ i. occurs i b) is h.sees }

  lam_term : (d n : ℕ) (bound : Bound) → Place g d n bound (depth (Lam a b)) (λ i. occurs i (Lam a b)) → Back g (IsTerm d) (text g.names n (Lam a b)) bound (Lam a b)
  lam_term zero n bound h = absurd (omega (arith, h.nests))
  lam_term (suc d) n bound h =
      lam_back g d n _ a b bound _ (binder_back g d n _ bound a (omega (arith, h.named)) (x.term d n bound (domain d n bound h))) (y.term d (n + 1) (Some (label.Level n) ∷ bound) (under d n bound h))

  pi_by : (d n : ℕ) (bound : Bound) → Whole d n bound → (c : Bool) → occurs 0 b ≡ c
      → Back g (IsTerm (suc d)) ((if c then binder_text n (text g.names n a) else in_parentheses (is_binder a) (text g.names n a)) ++ (codes " -> " ++ text g.names (n + 1) b)) bound (Pi a b)
  pi_by d n bound h true is =
      product_back g d n _ a b bound _ (binder_back g d n _ bound a (omega (arith, h.named)) (x.term d n bound (domain d n bound h))) (y.term d (n + 1) (Some (label.Level n) ∷ bound) (under d n bound h))
  pi_by d n bound h false is =
      arrow_back g d _ a b bound _ (x.left d n bound (domain d n bound h)) (y.term d (n + 1) (None ∷ bound) (nameless d n bound is h))

  pi_term : (d n : ℕ) (bound : Bound) → Place g d n bound (depth (Pi a b)) (λ i. occurs i (Pi a b)) → Back g (IsTerm d) (text g.names n (Pi a b)) bound (Pi a b)
  pi_term zero n bound h = absurd (omega (arith, h.nests))
  pi_term (suc d) n bound h = pi_by d n bound h (occurs 0 b) refl

-- ---- constants

abbrev Some_of : Terms → Type 0
Some_of none = ⊥
Some_of (us ▹ u) = Unit {0}

-- what is said of arguments at every place
pub record AllBack (g : Known) (us : Terms) : Type 0 where
  pub texts : (d n : ℕ) (bound : Bound) → Some_of us → Place g d n bound (depth_all us) (λ i. occurs_in i us) → TextsBack g d (Rattle.term_syntax.specs.Printing.texts g.names n us) bound us

last_argument : (g : Known) (us : Terms) (u : Term) → Backs g u → (d n : ℕ) (bound : Bound) → Place g d n bound (depth_all (us ▹ u)) (λ i. occurs_in i (us ▹ u)) → TextsBack g d (text g.names n u) bound (none ▹ u)
last_argument g us u y d n bound h = one_argument g d _ bound u (y.term d n bound (part g d n bound _ _ d (depth u) _ h (omega (arith, h.nests)) (omega arith) (sees_right g bound n (λ i. occurs_in i us) (λ i. occurs i u) h.sees)))

one_more : (g : Known) (us : Terms) (u : Term) → AllBack g us → Backs g u → AllBack g (us ▹ u)
one_more g none u x y = record { texts = λ d n bound some h. last_argument g none u y d n bound h }
one_more g (us ▹ v) u x y = record {
  texts = λ d n bound some h.
      more_arguments g d _ _ bound (us ▹ v) u
      (x.texts d n bound tt (part g d n bound _ _ d (depth_all (us ▹ v)) _ h (omega (arith, h.nests)) (omega arith) (sees_left g bound n (λ i. occurs_in i (us ▹ v)) (λ i. occurs i u) h.sees)))
      (last_argument g (us ▹ v) u y d n bound h);
}

from_constant : (g : Known) (a : Text) (us : Terms) → IsTextName a → g.arity a ≡ Some (count us) → AllBack g us → Backs g (Const a us)
from_constant g a none h known x = from_atom g (Const a none) 0 (omega arith) refl refl (λ d n bound p. bare_back g d a bound h known)
from_constant g a (us ▹ u) h known x = from_atom g (Const a (us ▹ u)) (depth_all (us ▹ u)) (omega arith) refl refl (λ d n bound p. constant_back g d a _ bound (us ▹ u) h known (x.texts d n bound tt p))

-- ---- the induction

mutual
  pub backs : (g : Known) (t : Term) → IsReadable g.arity t → Backs g t
  backs g (Srt star) h = from_atom g Star 0 refl refl refl (λ d n bound p. star_back g d bound)
  backs g (Srt square) h = absurd h
  backs g (Var i) h = from_atom g (Var i) 0 refl refl refl (λ d n bound p.
      let f = p.sees i (let t : Rattle.std.proofs.Common.eqb i i ≡ true = grind (arith, nat_tests) in t) in
      var_back g d n i _ bound f.by (omega (arith, p.named)) f.spelled f.found)
  backs g (App f a) h = from_app g f a (backs g f h.0) (backs g a h.1)
  backs g (Lam a m) h = from_binder g (Lam a m) refl (lam_term g a m (backs g a h.0) (backs g m h.1))
  backs g (Pi a b) h = from_binder g (Pi a b) refl (pi_term g a b (backs g a h.0) (backs g b h.1))
  backs g (Con (Named a) us) h = from_constant g a us h.0 h.1 (all_back g us h.2)
  backs g (Con (Numbered m) us) h = absurd h

  all_back : (g : Known) (us : Terms) → AreReadable g.arity us → AllBack g us
  all_back g none h = record { texts = λ d n bound some p. absurd some }
  all_back g (us ▹ u) h = one_more g us u (all_back g us h.0) (backs g u h.1)

pub printed_is_read : PrintedIsRead
printed_is_read arity names t few low known deep =
    let g : Known = record { arity = arity; names = names } in
    let n = length names in
    let b = (backs g t known).term 512 n [] (record { nests = deep; named = omega arith; entries = omega arith; sees = sees_context g (λ i. occurs i t) (below_occurs n t low) }) in
    let x = b.run 0 [] refl in
    (x.0, subst (λ ls. IsTerm 512 (lexemes 0 (text names n t)) x.0 ls) (lexemes_none x.1) (subst (λ z. IsTerm 512 (lexemes 0 z) x.0 (lexemes x.1 [])) (append-nil (text names n t)) x.2), x.3)
