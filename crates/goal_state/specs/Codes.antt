-- Terms, items, declarations and states as trees of numbers, by which a proof tells them apart.
use Rattle.std.specs.Prelude.{◌≡◌, ℕ, zero, suc, List, [], ◌∷◌, Option}
use Rattle.std.specs.Coded.{Coded, code_by, coded_ℕ, coded_list, coded×, coded_option}
use base.Stored.{Gv, gnil, gnum, gcons}
use mathlib.Core.Path.{refl, sym, ap, ◌∙◌}
use Rattle.ld_trees.specs.Term.{Term, Srt, star, square, Var, App, Lam, Pi, Con, Terms, none, ◌▹◌, Head, Named, Numbered}
use Rattle.ld_terms.specs.declared.globals.Local.{Local}
use Rattle.ld_terms.specs.declared.globals.Item.{Item}
use Rattle.ld_terms.specs.declared.globals.Decl.{Decl}
use Rattle.goal_state.specs.State.{State}
use Rattle.goal_state.specs.StoredState.{StoredState}

abbrev pub name_code : List ℕ → Gv
name_code [] = gnil
name_code (x ∷ xs) = gcons (gnum x) (name_code xs)

abbrev pub name_in : Gv → List ℕ
name_in gnil = []
name_in (gnum n) = []
name_in (gcons gnil b) = []
name_in (gcons (gnum x) b) = x ∷ name_in b
name_in (gcons (gcons a b) c) = []

abbrev pub head_code : Head → Gv
head_code (Named a) = gcons gnil (name_code a)
head_code (Numbered m) = gnum m

abbrev pub head_in : Gv → Head
head_in gnil = Numbered 0
head_in (gnum m) = Numbered m
head_in (gcons a b) = Named (name_in b)

abbrev mutual
  pub term_code : Term → Gv
  term_code (Srt star) = gnil
  term_code (Srt square) = gcons gnil gnil
  term_code (Var i) = gnum i
  term_code (App f a) = gcons (gnum 0) (gcons (term_code f) (term_code a))
  term_code (Lam f a) = gcons (gnum 1) (gcons (term_code f) (term_code a))
  term_code (Pi f a) = gcons (gnum 2) (gcons (term_code f) (term_code a))
  term_code (Con h us) = gcons gnil (gcons (head_code h) (terms_code us))

  pub terms_code : Terms → Gv
  terms_code none = gnil
  terms_code (us ▹ u) = gcons (terms_code us) (term_code u)

abbrev pub pair_in : ℕ → Term → Term → Term
pair_in zero f a = App f a
pair_in (suc zero) f a = Lam f a
pair_in (suc (suc n)) f a = Pi f a

abbrev mutual
  pub term_in : Gv → Term
  term_in gnil = Srt star
  term_in (gnum i) = Var i
  term_in (gcons gnil gnil) = Srt square
  term_in (gcons gnil (gnum n)) = Srt square
  term_in (gcons gnil (gcons h us)) = Con (head_in h) (terms_in us)
  term_in (gcons (gnum n) gnil) = Srt square
  term_in (gcons (gnum n) (gnum m)) = Srt square
  term_in (gcons (gnum n) (gcons f a)) = pair_in n (term_in f) (term_in a)
  term_in (gcons (gcons a b) c) = Srt square

  pub terms_in : Gv → Terms
  terms_in gnil = none
  terms_in (gnum n) = none
  terms_in (gcons us u) = terms_in us ▹ term_in u

name_back : (a : List ℕ) → name_in (name_code a) ≡ a
name_back [] = refl
name_back (x ∷ xs) = ap (λ xs. x ∷ xs) (name_back xs)

head_back : (h : Head) → head_in (head_code h) ≡ h
head_back (Named a) = ap Named (name_back a)
head_back (Numbered m) = refl

mutual
  term_back : (t : Term) → term_in (term_code t) ≡ t
  term_back (Srt star) = refl
  term_back (Srt square) = refl
  term_back (Var i) = refl
  term_back (App f a) = λ i. App (term_back f i) (term_back a i)
  term_back (Lam f a) = λ i. Lam (term_back f i) (term_back a i)
  term_back (Pi f a) = λ i. Pi (term_back f i) (term_back a i)
  term_back (Con h us) = λ i. Con (head_back h i) (terms_back us i)

  terms_back : (us : Terms) → terms_in (terms_code us) ≡ us
  terms_back none = refl
  terms_back (us ▹ u) = λ i. terms_back us i ▹ term_back u i

pub term_code_inj : (x y : Term) → term_code x ≡ term_code y → x ≡ y
term_code_inj x y p = sym (term_back x) ∙ ap term_in p ∙ term_back y

abbrev pub coded_term : Coded Term
coded_term = record { code = term_code; inj = term_code_inj }

-- ---- entries, items, declarations and states, over handles that have a code

module _ {H : Type 0} (coded_handle : Coded H) where
  abbrev pub coded_local : Coded (Local H)
  coded_local = code_by (List ℕ × H) (coded× (coded_list coded_ℕ) coded_handle) (λ l. (l.name, l.ty)) (λ p. record { name = p.0; ty = p.1 }) (λ _. refl)

  abbrev pub coded_item : Coded (Item H)
  coded_item = code_by (List ℕ × (List (Local H) × (H × Option H)))
      (coded× (coded_list coded_ℕ) (coded× (coded_list coded_local) (coded× coded_handle (coded_option coded_handle))))
      (λ i. (i.name, (i.params, (i.ty, i.body)))) (λ p. record { name = p.0; params = p.1.0; ty = p.1.1.0; body = p.1.1.1 }) (λ _. refl)

  abbrev pub coded_decl : Coded (Decl H)
  coded_decl = code_by (List (Local H) × (H × Option H)) (coded× (coded_list coded_local) (coded× coded_handle (coded_option coded_handle)))
      (λ d. (d.ctx, (d.ty, d.value))) (λ p. record { ctx = p.0; ty = p.1.0; value = p.1.1 }) (λ _. refl)

abbrev pub coded_plain_state : Coded State
coded_plain_state = code_by (List (Item Term) × (List (Decl Term) × List ℕ))
    (coded× (coded_list (coded_item coded_term)) (coded× (coded_list (coded_decl coded_term)) (coded_list coded_ℕ)))
    (λ s. (s.items, (s.metas, s.goals))) (λ p. record { items = p.0; metas = p.1.0; goals = p.1.1 }) (λ _. refl)

abbrev pub coded_state : {T H : Type 0} → Coded T → Coded H → Coded (StoredState T H)
coded_state {T} {H} coded_store coded_handle = code_by (T × (List (Item H) × (List (Decl H) × List ℕ)))
    (coded× coded_store (coded× (coded_list (coded_item coded_handle)) (coded× (coded_list (coded_decl coded_handle)) (coded_list coded_ℕ))))
    (λ s. (s.terms, (s.items, (s.metas, s.goals)))) (λ p. record { terms = p.0; items = p.1.0; metas = p.1.1.0; goals = p.1.1.1 }) (λ _. refl)
