-- The tests of equality are right.
use Rattle.std.proofs.Common.{◌≡◌, ◌↔◌, ℕ, List, [], ◌∷◌, refl, sym, ap, ap₂, ◌∙◌, Bool, true, false, ◌&&◌, nat_eq}
use Rattle.std.proofs.lemmas.Bool.{eqb-true, eq-eqb}
use Rattle.ld_trees.specs.Term.{Sort, star, square, Head, Named, Numbered, Term, Srt, Var, App, Lam, Pi, Con, Terms, none, ◌▹◌, same_sort, same_name, same_head, same, sames}

pub and_left : (a b : Bool) → (a && b) ≡ true → a ≡ true
and_left true b h = refl
and_left false b h = h

pub and_right : (a b : Bool) → (a && b) ≡ true → b ≡ true
and_right true b h = h
and_right false b h = absurd cc

pub and_both : (a b : Bool) → a ≡ true → b ≡ true → (a && b) ≡ true
and_both true b p q = q
and_both false b p q = p

pub same_sort_is : (a b : Sort) → same_sort a b ≡ true → a ≡ b
same_sort_is star star h = refl
same_sort_is square square h = refl
same_sort_is _ _ h = absurd cc

same_name_is : (a b : List ℕ) → same_name a b ≡ true → a ≡ b
same_name_is [] [] h = refl
same_name_is (x ∷ xs) (y ∷ ys) h =
    ap₂ ◌∷◌ (eqb-true x y (and_left (nat_eq x y) _ h)) (same_name_is xs ys (and_right (nat_eq x y) _ h))
same_name_is _ _ h = absurd cc

pub same_head_is : (a b : Head) → same_head a b ≡ true → a ≡ b
same_head_is (Named a) (Named b) h = ap Named (same_name_is a b h)
same_head_is (Numbered a) (Numbered b) h = ap Numbered (eqb-true a b h)
same_head_is _ _ h = absurd cc

mutual
  pub same_is : (a b : Term) → same a b ≡ true → a ≡ b
  same_is (Srt s) (Srt z) h = ap Srt (same_sort_is s z h)
  same_is (Var i) (Var j) h = ap Var (eqb-true i j h)
  same_is (App a b) (App c d) h = ap₂ App (same_is a c (and_left (same a c) _ h)) (same_is b d (and_right (same a c) _ h))
  same_is (Lam a b) (Lam c d) h = ap₂ Lam (same_is a c (and_left (same a c) _ h)) (same_is b d (and_right (same a c) _ h))
  same_is (Pi a b) (Pi c d) h = ap₂ Pi (same_is a c (and_left (same a c) _ h)) (same_is b d (and_right (same a c) _ h))
  same_is (Con c us) (Con d vs) h = ap₂ Con (same_head_is c d (and_left (same_head c d) _ h)) (sames_is us vs (and_right (same_head c d) _ h))
  same_is _ _ h = absurd cc

  pub sames_is : (a b : Terms) → sames a b ≡ true → a ≡ b
  sames_is none none h = refl
  sames_is (us ▹ u) (vs ▹ v) h = ap₂ ◌▹◌ (sames_is us vs (and_left (sames us vs) _ h)) (same_is u v (and_right (sames us vs) _ h))
  sames_is _ _ h = absurd cc

same_name_itself : (a : List ℕ) → same_name a a ≡ true
same_name_itself [] = refl
same_name_itself (x ∷ xs) = and_both (nat_eq x x) _ (eq-eqb x x refl) (same_name_itself xs)

pub same_head_itself : (a : Head) → same_head a a ≡ true
same_head_itself (Named a) = same_name_itself a
same_head_itself (Numbered m) = eq-eqb m m refl

mutual
  pub same_itself : (a : Term) → same a a ≡ true
  same_itself (Srt star) = refl
  same_itself (Srt square) = refl
  same_itself (Var i) = eq-eqb i i refl
  same_itself (App a b) = and_both (same a a) _ (same_itself a) (same_itself b)
  same_itself (Lam a b) = and_both (same a a) _ (same_itself a) (same_itself b)
  same_itself (Pi a b) = and_both (same a a) _ (same_itself a) (same_itself b)
  same_itself (Con c us) = and_both (same_head c c) _ (same_head_itself c) (sames_itself us)

  pub sames_itself : (a : Terms) → sames a a ≡ true
  sames_itself none = refl
  sames_itself (us ▹ u) = and_both (sames us us) _ (sames_itself us) (same_itself u)

pub same_decides : (t u : Term) → (same t u ≡ true) ↔ (t ≡ u)
same_decides t u = (same_is t u, λ e. ap (same t) (sym e) ∙ same_itself t)
