-- Strengthening: a derivation needs only the items of the constants that it speaks of.
use Rattle.std.proofs.Common.{◌≡◌, suc, inl, inr, true, refl, sym, ◌∙◌, subst as transport, subst₂ as transport₂}
use Rattle.ld_trees.specs.Term.{◌▹◌, Head, Term, none, Terms, Sort, Srt, square, Pi, Square, Var}
use Rattle.ld_trees.specs.Substitution.{weaken, subst_all, instantiate}
use Rattle.ld_trees.proofs.SubstitutionLaws.{subst_var}
use Rattle.ld_rules.specs.Environment.{Env, Ctx}
use Rattle.ld_rules.specs.Reduction.{Step, beta, delta, in_function, in_argument, in_lam_type, in_lam_body, in_domain, in_codomain, in_arguments, Steps, in_last, in_earlier, Equal, transitive, symmetric, reflexive}
use Rattle.ld_rules.specs.Derivation.{argument, Derives, sort, conv, var, weak, form, appl, inst, abst, def, def_prim, Fits, no_argument}
use Rattle.ld_rules.specs.Legality.{IsLegalEnvironment, IsLegal, IsValid}
use Rattle.ld_rules.specs.ScopedItems.{EachHead, EachHeadOfAll}
use Rattle.ld_rules.specs.Extension.{Extends}
use Rattle.ld_rules.proofs.ScopedJudgements.{EnvironmentScoped, in_scope}
use Rattle.ld_rules.proofs.SubstitutionLemma.{domain, equal_subst, equal_weaken, extends_itself, legal, extends_below}
use Rattle.ld_rules.proofs.Congruence.{equal_pi}
use Rattle.ld_rules.proofs.Entries.{last, substitute_arguments}
use Rattle.ld_rules.proofs.Validity.{valid, product}
use Rattle.ld_rules.proofs.Environments.{change_environment, item_legal}
use Rattle.ld_confluence.specs.Reducts.{Reduces, no_steps, step_and}
use Rattle.ld_confluence.specs.Agreement.{AgreeOn}
use Rattle.ld_confluence.specs.Laws.{Strengthening}
use Rattle.ld_confluence.proofs.Confluence.{confluence}
use Rattle.ld_confluence.proofs.Heads.{each_arguments, each_rename, each_renamed}
use Rattle.ld_confluence.proofs.Reducts.{reduces_equal, sort_reduct, reduces_keep, product_reduct, NotSquare, not_square}

module _ (P : Head → Type 0) (E F : Env) (ag : AgreeOn P E F) (okE : IsLegalEnvironment E) (okF : IsLegalEnvironment F) where
  -- reduction of a term with such constants alone is the same in both
  mutual
    step_agrees : {a b : Term} → Step E a b → EachHead P a → Step F a b × EachHead P b
    step_agrees (beta {A = A} {M = M} {N = N}) i = (beta, each_arguments P (none ▹ N) M (tt, i.1) i.0.1)
    step_agrees (delta {h = h} {us = us} d M p e n) i = (delta d M (sym (ag.same h i.0) ∙ p) e n, each_arguments P us M i.1 ((ag.closed h d i.0 p).body M e))
    step_agrees (in_function e) i = let s = step_agrees e i.0 in (in_function s.0, (s.1, i.1))
    step_agrees (in_argument e) i = let s = step_agrees e i.1 in (in_argument s.0, (i.0, s.1))
    step_agrees (in_lam_type e) i = let s = step_agrees e i.0 in (in_lam_type s.0, (s.1, i.1))
    step_agrees (in_lam_body e) i = let s = step_agrees e i.1 in (in_lam_body s.0, (i.0, s.1))
    step_agrees (in_domain e) i = let s = step_agrees e i.0 in (in_domain s.0, (s.1, i.1))
    step_agrees (in_codomain e) i = let s = step_agrees e i.1 in (in_codomain s.0, (i.0, s.1))
    step_agrees (in_arguments e) i = let s = steps_agree e i.1 in (in_arguments s.0, (i.0, s.1))

    steps_agree : {us vs : Terms} → Steps E us vs → EachHeadOfAll P us → Steps F us vs × EachHeadOfAll P vs
    steps_agree (in_last e) i = let s = step_agrees e i.1 in (in_last s.0, (i.0, s.1))
    steps_agree (in_earlier e) i = let s = steps_agree e i.0 in (in_earlier s.0, (s.1, i.1))

  reduction_agrees : {a b : Term} → Reduces E a b → EachHead P a → Reduces F a b × EachHead P b
  reduction_agrees no_steps i = (no_steps, i)
  reduction_agrees (step_and e r) i =
      let s = step_agrees e i in
      let t = reduction_agrees r s.1 in
      (step_and s.0 t.0, t.1)

  pub equality_agrees : (a b : Term) → EachHead P a → EachHead P b → Equal E a b → Equal F a b
  equality_agrees a b i j e =
      let c = confluence E a b okE e in
      transitive (reduces_equal (reduction_agrees c.1 i).0) (symmetric (reduces_equal (reduction_agrees c.2 j).0))

  -- the term has, in the other environment, an equal type
  record Strengthened (Γ : Ctx) (M B : Term) : Type 0 where
    ty : Term
    each : EachHead P ty
    derives : Derives F Γ M ty
    equal : Equal E B ty

  -- where the type is a sort, it is that one
  as_sort : (Γ : Ctx) (M : Term) (s : Sort) → Strengthened Γ M (Srt s) → Derives F Γ M (Srt s)
  as_sort Γ M s g =
      let c = confluence E (Srt s) g.ty okE g.equal in
      go c.0 (sort_reduct c.1 s refl) (reduction_agrees c.2 g.each).0 (valid g.derives)
    where
      go : (c : Term) → c ≡ Srt s → Reduces F g.ty c → IsValid F Γ g.ty → Derives F Γ M (Srt s)
      go c q r (inl e) = transport (Derives F Γ M) (e ∙ sym (sort_reduct r square e) ∙ q) g.derives
      go c q r (inr z) = transport (Derives F Γ M) q (conv g.derives (reduces_keep r z.1) (reduces_equal r))

  record Function (Γ : Ctx) (M A B : Term) : Type 0 where
    dom : Term
    cod : Term
    each : EachHead P (Pi dom cod)
    derives : Derives F Γ M (Pi dom cod)
    doms : Equal E A dom
    cods : Equal E B cod

  -- where the type is a product, it is one of equal parts
  as_product : (Γ : Ctx) (M A B : Term) → Strengthened Γ M (Pi A B) → Function Γ M A B
  as_product Γ M A B g =
      let c = confluence E (Pi A B) g.ty okE g.equal in
      let q = product_reduct c.1 A B refl in
      let r = reduction_agrees c.2 g.each in
      record {
        dom = q.0;
        cod = q.1;
        each = transport (EachHead P) q.2 r.1;
        derives = go c.0 q.0 q.1 q.2 r.0 (valid g.derives);
        doms = q.3;
        cods = q.4;
      }
    where
      go : (c C D : Term) → c ≡ Pi C D → Reduces F g.ty c → IsValid F Γ g.ty → Derives F Γ M (Pi C D)
      go c C D q r (inl e) = absurd (let x = sort_reduct r square e in cc)
      go c C D q r (inr z) = transport (Derives F Γ M) q (conv g.derives (reduces_keep r z.1) (reduces_equal r))

  -- a codomain that has a sort elsewhere isn't the upper sort
  sorted_codomain : {D : Env} (Γ : Ctx) (A M B B' : Term) (z : Sort) → Derives D (Γ ▹ A) B (Srt z) → Extends D E → Equal E B B' → Derives F (Γ ▹ A) M B' → (s : Sort) × Derives F (Γ ▹ A) B' (Srt s)
  sorted_codomain Γ A M B B' z dB ext e d = go (valid d)
    where
      go : IsValid F (Γ ▹ A) B' → (s : Sort) × Derives F (Γ ▹ A) B' (Srt s)
      go (inr h) = h
      go (inl q) =
          let c = confluence E B B' okE e in
          absurd (transport NotSquare (sort_reduct c.2 square q) (not_square (reduces_keep c.1 (change_environment dB ext okE))))

  sorted_domain : {Γ : Ctx} {M A B : Term} → Derives F Γ M (Pi A B) → (s : Sort) × Derives F Γ A (Srt s)
  sorted_domain {Γ} {M} {A} {B} d = go (valid d)
    where
      go : IsValid F Γ (Pi A B) → (s : Sort) × Derives F Γ A (Srt s)
      go (inl e) = absurd cc
      go (inr h) = domain h.1

  scoped_items : EnvironmentScoped E
  scoped_items = (in_scope okE).env

  equal_here : {D : Env} {a b : Term} → EnvironmentScoped D → Extends D E → Equal D a b → Equal E a b
  equal_here {D} {a} {b} ok ext e = transport₂ (λ x y. Equal E x y) (subst_var a) (subst_var b) (equal_subst ok ext Var e)

  mutual
    strengthened : {D : Env} {Γ : Ctx} {M B : Term} → Derives D Γ M B → Extends D E → EachHeadOfAll P Γ → EachHead P M → Strengthened Γ M B
    strengthened sort ext i j = record { ty = Square; each = tt; derives = okF; equal = reflexive }
    strengthened (var {Γ = Γ} {A = A} {s = s} dA) ext i j =
        record { ty = weaken A; each = each_rename P A suc i.1; derives = var (as_sort Γ A s (strengthened dA ext i.0 i.1)); equal = reflexive }
    strengthened (weak {Γ = Γ} {M = M} {B = B} {C = C} {s = s} dM dC) ext i j =
        let c = as_sort Γ C s (strengthened dC ext i.0 i.1) in
        let m = strengthened dM ext i.0 (each_renamed P M suc j) in
        record { ty = weaken m.ty; each = each_rename P m.ty suc m.each; derives = weak m.derives c; equal = equal_weaken scoped_items m.equal }
    strengthened (form {Γ = Γ} {A = A} {B = B} {s = s} {z = z} dA dB) ext i j =
        let a = as_sort Γ A s (strengthened dA ext i j.0) in
        let b = as_sort (Γ ▹ A) B z (strengthened dB ext (i, j.0) j.1) in
        record { ty = Srt z; each = tt; derives = form a b; equal = reflexive }
    strengthened (appl {Γ = Γ} {M = M} {N = N} {A = A} {B = B} dM dN) ext i j =
        let m = as_product Γ M A B (strengthened dM ext i j.0) in
        let n = strengthened dN ext i j.1 in
        let n' = conv n.derives (sorted_domain m.derives).1 (equality_agrees n.ty m.dom n.each m.each.0 (transitive (symmetric n.equal) m.doms)) in
        record { ty = subst_all (none ▹ N) m.cod; each = each_arguments P (none ▹ N) m.cod (tt, j.1) m.each.1; derives = appl m.derives n'; equal = equal_subst scoped_items (extends_itself E) (instantiate (none ▹ N)) m.cods }
    strengthened (abst {Γ = Γ} {A = A} {M = M} {B = B} dM dP) ext i j =
        let m = strengthened dM ext (i, j.0) j.1 in
        let a = last (legal m.derives) in
        let p = product dP in
        let b = sorted_codomain Γ A M B m.ty p.1 p.3 ext m.equal m.derives in
        record { ty = Pi A m.ty; each = (j.0, m.each); derives = abst m.derives (form a.1 b.1); equal = equal_pi E A A B m.ty reflexive m.equal }
    strengthened (conv dM dB e) ext i j =
        let m = strengthened dM ext i j in
        record { ty = m.ty; each = m.each; derives = m.derives; equal = transitive (symmetric (equal_here (in_scope dM).env ext e)) m.equal }
    strengthened (def {Δ = D} d dK e dM fresh) ext i j = strengthened dK (extends_below d D E fresh ext) i j
    strengthened (def_prim {Δ = D} d dK e dN fresh) ext i j = strengthened dK (extends_below d D E fresh ext) i j
    strengthened (inst {Γ = Γ} {h = h} {us = us} d dS dU p) ext i j =
        let c = ext h d p in
        let q = sym (ag.same h j.0) ∙ c.1 in
        let t = ag.closed h c.0 j.0 c.1 in
        let l = legal (strengthened dS ext i tt).derives in
        let params = transport (λ Y. IsLegal F Y) (sym c.2.params) (item_legal F h c.0 okF q) in
        let f = all_strengthened dU ext i j.1 (transport (EachHeadOfAll P) (sym c.2.params) t.params) l params in
        record { ty = subst_all us c.0.ty; each = each_arguments P us c.0.ty j.1 t.ty; derives = inst c.0 l (transport (Fits F Γ us) c.2.params f) q; equal = transport (λ x. Equal E (subst_all us x) (subst_all us c.0.ty)) (sym c.2.ty) reflexive }

    all_strengthened : {D : Env} {Γ : Ctx} {us ps : Terms} → Fits D Γ us ps → Extends D E → EachHeadOfAll P Γ → EachHeadOfAll P us → EachHeadOfAll P ps → IsLegal F Γ → IsLegal F ps → Fits F Γ us ps
    all_strengthened no_argument ext i j k l lp = no_argument
    all_strengthened (argument {us = us} {ps = ps} {u = u} {P = Q} dU du) ext i j k l lp =
        let p = last lp in
        let f = all_strengthened dU ext i j.0 k.0 l (legal p.1) in
        let g = strengthened du ext i j.1 in
        argument f (conv g.derives (substitute_arguments l p.1 f) (equality_agrees g.ty (subst_all us Q) g.each (each_arguments P us Q j.0 k.1) (symmetric g.equal)))

  pub strengthening : (Γ : Ctx) (M B : Term) → EachHeadOfAll P Γ → EachHead P M → EachHead P B → Derives E Γ M B → Derives F Γ M B
  strengthening Γ M B i j k d = go (strengthened d (extends_itself E) i j) (valid d)
    where
      go : Strengthened Γ M B → IsValid E Γ B → Derives F Γ M B
      go g (inl e) = transport (Derives F Γ M) (sym e) (as_sort Γ M square (transport (Strengthened Γ M) e g))
      go g (inr z) =
          conv g.derives (as_sort Γ B z.0 (strengthened z.1 (extends_itself E) i k)) (equality_agrees g.ty B g.each k (let b = g.equal in symmetric b))

pub strengthening_holds : Strengthening
strengthening_holds p E F ag okE okF = (strengthening (λ h. p h ≡ true) E F ag okE okF, equality_agrees (λ h. p h ≡ true) E F ag okE okF)
