-- A weak head form is βδ-equal to its term, and a Yes of conversion means that the terms are βδ-equal.
use Rattle.std.proofs.Common.{◌≡◌, ℕ, zero, suc, List, [], ◌∷◌, ◌++◌, Bool, true, false, Option, Some, None, refl, sym, ap, ◌∙◌, subst, arith, nat_eq}
use Rattle.std.proofs.lemmas.Bool.{eqb-true}
use Rattle.std.proofs.lemmas.Option.{same_Some}
use Rattle.ld_trees.specs.Term.{Head, Term, Srt, Var, App, Lam, Pi, Con, Terms, none, ◌▹◌, count, same, same_head}
use Rattle.ld_trees.proofs.Equality.{same_is, same_head_is, and_left, and_right, same_sort_is}
use Rattle.ld_rules.specs.Environment.{Env, Item, item_of}
use Rattle.ld_rules.specs.Reduction.{Step, beta, delta, in_function, Equal, by_step, reflexive, symmetric, transitive, EqualAll, no_terms, one_more}
use Rattle.ld_rules.proofs.Congruence.{equal_app, equal_lam, equal_pi, equal_con}
use Rattle.conversion.specs.Runs.{Gave, OutOfFuel, Run, pure, choose}
use Rattle.conversion.specs.WeakHead.{unfold_if, unfolded, apply_step, head_step, whnf}
use Rattle.conversion.specs.Conversion.{alike, is_defined_at_head, are_twins, both, argument_pairs, part_pairs, convert_each, conv_step, conv_deep, conv}
use Rattle.conversion.specs.Laws.{WeakHeadFormIsEqual, YesMeansEqual}
use Rattle.conversion.proofs.Heads.{whnf_none, whnf_some, whnf_fuel}
use Rattle.conversion.proofs.Values.{Ensures, gave_inj, ensures_pure, ensures_spend, ensures_choose, ensures_bind, ensures_less}

module _ (Δ : Env) where
  apply_sound : (f a : Term) (o : Option Term) (t : Term) → ((g : Term) → o ≡ Some g → Step Δ f g) → apply_step f a o ≡ Some t → Step Δ (App f a) t
  apply_sound (Lam A M) a o t ih e = subst (Step Δ (App (Lam A M) a)) (same_Some _ _ e) beta
  apply_sound f a None t ih e = absurd cc
  apply_sound f a (Some g) t ih e = subst (Step Δ (App f a)) (same_Some _ _ e) (in_function (ih g refl))

  unfold_sound : (h : Head) (us : Terms) (d : Item) (b : Bool) (o : Option Term) (t : Term) → item_of h Δ ≡ Some d → nat_eq (count us) (count d.params) ≡ b → d.body ≡ o → unfold_if b o us ≡ Some t → Step Δ (Con h us) t
  unfold_sound h us d true (Some M) t p n e q = subst (Step Δ (Con h us)) (same_Some _ _ q) (delta d M p e (eqb-true _ _ n))
  unfold_sound h us d _ _ t p n e q = absurd cc

  unfolded_sound : (h : Head) (us : Terms) (o : Option Item) (t : Term) → item_of h Δ ≡ o → unfolded o us ≡ Some t → Step Δ (Con h us) t
  unfolded_sound h us None t p q = absurd cc
  unfolded_sound h us (Some d) t p q = unfold_sound h us d _ _ t p refl refl q

  step_sound : (t t' : Term) → head_step Δ t ≡ Some t' → Step Δ t t'
  step_sound (App f a) t' e = apply_sound f a (head_step Δ f) t' (step_sound f) e
  step_sound (Con h us) t' e = unfolded_sound h us (item_of h Δ) t' refl e
  step_sound _ t' e = absurd cc

  whnf_at : (n : ℕ) (t : Term) (o : Option Term) → head_step Δ t ≡ o → ((t' x : Term) (j k : ℕ) → n ≡ suc j → whnf Δ t' j ≡ Gave x k → Equal Δ t' x) → (k : ℕ) (x : Term) → whnf Δ t n ≡ Gave x k → Equal Δ t x
  whnf_at n t None e ih k x p = subst (Equal Δ t) (gave_inj t x n k (sym (whnf_none Δ t e n) ∙ p)) reflexive
  whnf_at zero t (Some t') e ih k x p = absurd (let q = sym (whnf_fuel Δ t t' e) ∙ p in cc)
  whnf_at (suc n) t (Some t') e ih k x p = transitive (by_step (step_sound t t' e)) (ih t' x n k refl (sym (whnf_some Δ t t' e n) ∙ p))

  whnf_sound : (n : ℕ) (t : Term) (k : ℕ) (x : Term) → whnf Δ t n ≡ Gave x k → Equal Δ t x
  whnf_sound zero t = whnf_at zero t (head_step Δ t) refl (λ t' x j k e p. absurd (omega arith))
  whnf_sound (suc n) t = whnf_at (suc n) t (head_step Δ t) refl (λ t' x j k e p. whnf_sound n t' k x (ap (whnf Δ t') (omega arith) ∙ p))

  pub ensures_whnf : (t : Term) → Ensures (whnf Δ t) (λ x. Equal Δ t x)
  ensures_whnf t n k x p = whnf_sound n t k x p

  ensures_both : (P Q : Type 0) (m k : Run Bool) → Ensures m (λ x. x ≡ true → P) → Ensures k (λ x. x ≡ true → Q) → Ensures (both m k) (λ x. x ≡ true → P × Q)
  ensures_both P Q m k h l =
      ensures_bind (λ x. x ≡ true → P) (λ x. x ≡ true → P × Q) m _ h (λ b p. ensures_choose (λ x. x ≡ true → P × Q) b k (pure false) (λ e. ensures_less _ (λ x. x ≡ true → P × Q) k (λ x q r. (p e, q r)) l) (λ e. ensures_pure (λ x. x ≡ true → P × Q) false (λ r. absurd cc)))

  unfoldable pub AllEqual : List (Term × Term) → Type 0
  AllEqual [] = Unit {0}
  AllEqual (p ∷ ps) = Equal Δ p.0 p.1 × AllEqual ps

  first_part : (ps qs : List (Term × Term)) → AllEqual (ps ++ qs) → AllEqual ps
  unfolding AllEqual
  first_part [] qs h = tt
  first_part (p ∷ ps) qs h = (h.0, first_part ps qs h.1)

  last_part : (ps qs : List (Term × Term)) → AllEqual (ps ++ qs) → AllEqual qs
  unfolding AllEqual
  last_part [] qs h = h
  last_part (p ∷ ps) qs h = last_part ps qs h.1

  arguments_equal : (us vs : Terms) → count us ≡ count vs → AllEqual (argument_pairs us vs) → EqualAll Δ us vs
  unfolding AllEqual
  arguments_equal none none e h = no_terms
  arguments_equal (us ▹ u) (vs ▹ v) e h = one_more (arguments_equal us vs (omega arith) (first_part (argument_pairs us vs) _ h)) (last_part (argument_pairs us vs) _ h).0
  arguments_equal none (vs ▹ v) e h = absurd (omega arith)
  arguments_equal (us ▹ u) none e h = absurd (omega arith)

  -- terms of one kind with equal parts are equal
  pub parts_equal : (a b : Term) → alike a b ≡ true → AllEqual (part_pairs a b) → Equal Δ a b
  unfolding AllEqual
  parts_equal (App f a) (App g b) e h = equal_app Δ f g a b (parts_equal f g e (first_part (part_pairs f g) _ h)) (last_part (part_pairs f g) _ h).0
  parts_equal (Lam A M) (Lam B N) e h = equal_lam Δ A B M N h.0 h.1.0
  parts_equal (Pi A M) (Pi B N) e h = equal_pi Δ A B M N h.0 h.1.0
  parts_equal (Con k us) (Con l vs) e h =
      let n : count us ≡ count vs = eqb-true _ _ (and_right (same_head k l) _ e) in
      let i : k ≡ l = same_head_is k l (and_left (same_head k l) _ e) in
      subst (λ z. Equal Δ (Con k us) (Con z vs)) i (equal_con Δ k us vs (arguments_equal us vs n h))
  parts_equal (Srt s) (Srt z) e h = subst (Equal Δ (Srt s)) (ap Srt (same_sort_is s z e)) reflexive
  parts_equal (Var i) (Var j) e h = subst (Equal Δ (Var i)) (ap Var (eqb-true i j e)) reflexive
  parts_equal _ _ e h = absurd cc

  module _ (c : Term → Term → Run Bool) (hc : (a b : Term) → Ensures (c a b) (λ x. x ≡ true → Equal Δ a b)) where
    each_sound : (ps : List (Term × Term)) → Ensures (convert_each c ps) (λ x. x ≡ true → AllEqual ps)
    unfolding AllEqual
    each_sound [] = ensures_pure _ true (λ r. tt)
    each_sound (p ∷ ps) = ensures_both (Equal Δ p.0 p.1) (AllEqual ps) _ _ (hc p.0 p.1) (each_sound ps)

    parts_sound : (a b : Term) → alike a b ≡ true → Ensures (convert_each c (part_pairs a b)) (λ x. x ≡ true → Equal Δ a b)
    parts_sound a b e = ensures_less (λ x. x ≡ true → AllEqual (part_pairs a b)) _ _ (λ x h r. parts_equal a b e (h r)) (each_sound (part_pairs a b))

    conv_step_sound : (a b : Term) → Ensures (conv_step Δ c a b) (λ x. x ≡ true → Equal Δ a b)
    conv_step_sound a b =
        let P : Bool → Type 0 = λ x. x ≡ true → Equal Δ a b in
        let whole : Run Bool = choose (are_twins Δ a b) (convert_each c (part_pairs a b)) (pure false) in
        let first : Ensures whole P = ensures_choose P (are_twins Δ a b) _ _ (λ e. parts_sound a b (and_right (is_defined_at_head Δ a) _ e)) (λ e. ensures_pure P false (λ r. absurd cc)) in
        ensures_choose P (same a b) _ _ (λ e. ensures_pure P true (λ r. subst (Equal Δ a) (same_is a b e) reflexive)) (λ e. ensures_spend P _ (ensures_bind P P whole _ first (λ done y. ensures_choose P done _ _ (λ z. ensures_pure P true (λ r. y z)) (λ z. ensures_bind (λ x. Equal Δ a x) P _ _ (ensures_whnf a) (λ a' p. ensures_bind (λ x. Equal Δ b x) P _ _ (ensures_whnf b) (λ b' q. ensures_choose P (alike a' b') _ _ (λ h. ensures_less (λ x. x ≡ true → Equal Δ a' b') P _ (λ x t r. transitive p (transitive (t r) (symmetric q))) (parts_sound a' b' h)) (λ h. ensures_pure P false (λ r. absurd cc))))))))

  conv_deep_sound : (g : ℕ) (a b : Term) → Ensures (conv_deep Δ g a b) (λ x. x ≡ true → Equal Δ a b)
  conv_deep_sound zero a b = conv_step_sound (λ a b n. OutOfFuel) (λ a b n k x p. absurd cc) a b
  conv_deep_sound (suc g) a b = conv_step_sound (λ a b. conv_deep Δ g a b) (λ a b. conv_deep_sound g a b) a b

  -- a Yes means that the terms are equal
  pub conv_sound : (a b : Term) → Ensures (conv Δ a b) (λ x. x ≡ true → Equal Δ a b)
  conv_sound a b n = conv_deep_sound n a b n

pub whnf_is_equal : WeakHeadFormIsEqual
whnf_is_equal Δ t t' n left e = ensures_whnf Δ t n left t' e

pub yes_means_equal : YesMeansEqual
yes_means_equal Δ a b n left e = conv_sound Δ a b n left true e refl
