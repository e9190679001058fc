-- Weak head form and conversion look up the constants of their terms alone.
use Rattle.std.proofs.Common.{◌≡◌, ℕ, zero, suc, List, [], ◌∷◌, ◌++◌, Bool, true, false, ◌&&◌, Option, Some, None, option_map, refl, sym, ap, ◌∙◌, subst as transport, nat_eq}
use Rattle.std.proofs.lemmas.Option.{same_Some}
use Rattle.ld_trees.specs.Term.{◌▹◌, Head, Term, Terms, none, App, Lam, Pi, Con, same, count, Srt, Var, Named}
use Rattle.ld_rules.specs.Environment.{Env, Item, item_of}
use Rattle.ld_rules.specs.ScopedItems.{EachHead, EachHeadOfAll}
use Rattle.conversion.specs.Runs.{Gave, Run, pure, choose, OutOfFuel}
use Rattle.conversion.specs.WeakHead.{apply_step, unfold_if, unfolded, head_step, whnf}
use Rattle.conversion.specs.Conversion.{argument_pairs, part_pairs, is_defined_at_head, has_body, conv, convert_each, conv_step, are_twins, alike, conv_deep}
use Rattle.conversion.proofs.Heads.{whnf_none, whnf_fuel, whnf_some}
use Rattle.conversion.proofs.Values.{gave_inj}
use Rattle.ld_confluence.specs.Agreement.{AgreeOn, EachHeadOfItem}
use Rattle.ld_confluence.proofs.Heads.{each_arguments}
use Rattle.meta_laws.proofs.SameRuns.{Same, Any, same_pure, same_bind, same_choose, same_spend}

module _ (P : Head → Type 0) where
  -- the parts of two terms have only constants of theirs
  abbrev pub EachHeadOfPairs : List (Term × Term) → Type 0
  EachHeadOfPairs [] = Unit {0}
  EachHeadOfPairs (p ∷ ps) = EachHead P p.0 × EachHead P p.1 × EachHeadOfPairs ps

  append_pairs : (ps qs : List (Term × Term)) → EachHeadOfPairs ps → EachHeadOfPairs qs → EachHeadOfPairs (ps ++ qs)
  append_pairs [] qs a b = b
  append_pairs (p ∷ ps) qs a b = (a.0, a.1, append_pairs ps qs a.2 b)

  each_argument_pair : (us vs : Terms) → EachHeadOfAll P us → EachHeadOfAll P vs → EachHeadOfPairs (argument_pairs us vs)
  each_argument_pair (us ▹ u) (vs ▹ v) i j = append_pairs (argument_pairs us vs) _ (each_argument_pair us vs i.0 j.0) (i.1, j.1, tt)
  each_argument_pair none none i j = tt
  each_argument_pair none (vs ▹ v) i j = tt
  each_argument_pair (us ▹ u) none i j = tt

  pub each_pair : (a b : Term) → EachHead P a → EachHead P b → EachHeadOfPairs (part_pairs a b)
  each_pair (App f a) (App g b) i j = append_pairs (part_pairs f g) _ (each_pair f g i.0 j.0) (i.1, j.1, tt)
  each_pair (Lam A M) (Lam B N) i j = (i.0, j.0, (i.1, j.1, tt))
  each_pair (Pi A M) (Pi B N) i j = (i.0, j.0, (i.1, j.1, tt))
  each_pair (Con h us) (Con l vs) i j = each_argument_pair us vs i.1 j.1
  each_pair _ _ i j = tt

  module _ (E F : Env) (ag : AgreeOn P E F) where
    -- the step at the head
    record SameStep (o q : Option Term) : Type 0 where
      equal : o ≡ q
      each : (t' : Term) → o ≡ Some t' → EachHead P t'

    waiting_argument : (a : Term) (o q : Option Term) → EachHead P a → SameStep o q → SameStep (option_map (λ g. App g a) o) (option_map (λ g. App g a) q)
    waiting_argument a None q j s = record { equal = ap (λ o. option_map (λ g. App g a) o) s.equal; each = λ t e. absurd cc }
    waiting_argument a (Some g) q j s = record {
      equal = ap (λ o. option_map (λ g. App g a) o) s.equal;
      each = λ t e. transport (EachHead P) (same_Some (App g a) t e) (s.each g refl, j);
    }

    same_apply : (f a : Term) (o q : Option Term) → EachHead P f → EachHead P a → SameStep o q → SameStep (apply_step f a o) (apply_step f a q)
    same_apply (Lam A M) a o q i j s = record { equal = refl; each = λ t e. transport (EachHead P) (same_Some _ t e) (each_arguments P (none ▹ a) M (tt, j) i.1) }
    same_apply f a o q i j s = waiting_argument a o q j s

    same_body : (us : Terms) (b : Bool) (o : Option Term) → EachHeadOfAll P us → ((M : Term) → o ≡ Some M → EachHead P M) → SameStep (unfold_if b o us) (unfold_if b o us)
    same_body us true (Some M) i f = record { equal = refl; each = λ t e. transport (EachHead P) (same_Some _ t e) (each_arguments P us M i (f M refl)) }
    same_body us true None i f = record { equal = refl; each = λ t e. absurd cc }
    same_body us false o i f = record { equal = refl; each = λ t e. absurd cc }

    same_unfolded : (us : Terms) (o : Option Item) → EachHeadOfAll P us → ((d : Item) → o ≡ Some d → EachHeadOfItem P d) → SameStep (unfolded o us) (unfolded o us)
    same_unfolded us None i f = record { equal = refl; each = λ t e. absurd cc }
    same_unfolded us (Some d) i f = same_body us (nat_eq (count us) (count d.params)) d.body i (f d refl).body

    same_step : (t : Term) → EachHead P t → SameStep (head_step E t) (head_step F t)
    same_step (Srt s) i = record { equal = refl; each = λ t e. absurd cc }
    same_step (Var n) i = record { equal = refl; each = λ t e. absurd cc }
    same_step (Lam A M) i = record { equal = refl; each = λ t e. absurd cc }
    same_step (Pi A M) i = record { equal = refl; each = λ t e. absurd cc }
    same_step (App f a) i = same_apply f a (head_step E f) (head_step F f) i.0 i.1 (same_step f i.0)
    same_step (Con h us) i = transport (λ o. SameStep (unfolded (item_of h E) us) (unfolded o us)) (ag.same h i.0) (same_unfolded us (item_of h E) i.1 (λ d e. ag.closed h d i.0 e))

    -- weak head form
    abbrev SameForm : ℕ → Term → Type 0
    SameForm n t = (whnf E t n ≡ whnf F t n) × ((x : Term) (k : ℕ) → whnf E t n ≡ Gave x k → EachHead P x)

    no_step_more : (n : ℕ) (t : Term) → EachHead P t → head_step E t ≡ None → SameForm n t
    no_step_more n t i e =
        (whnf_none E t e n ∙ sym (whnf_none F t (sym (same_step t i).equal ∙ e) n), λ x k p. transport (EachHead P) (gave_inj t x n k (sym (whnf_none E t e n) ∙ p)) i)

    same_form : (n : ℕ) (t : Term) → EachHead P t → SameForm n t
    same_form zero t i = go (head_step E t) refl
      where
        go : (o : Option Term) → head_step E t ≡ o → SameForm 0 t
        go None e = no_step_more 0 t i e
        go (Some t') e = (whnf_fuel E t t' e ∙ sym (whnf_fuel F t t' (sym (same_step t i).equal ∙ e)), λ x k p. absurd (let q = sym (whnf_fuel E t t' e) ∙ p in cc))
    same_form (suc n) t i = go (head_step E t) refl (λ t' j. same_form n t' j)
      where
        go : (o : Option Term) → head_step E t ≡ o → ((t' : Term) → EachHead P t' → SameForm n t') → SameForm (suc n) t
        go None e f = no_step_more (suc n) t i e
        go (Some t') e f =
            let h = f t' ((same_step t i).each t' e) in
            (whnf_some E t t' e n ∙ h.0 ∙ sym (whnf_some F t t' (sym (same_step t i).equal ∙ e) n), λ x k p. h.1 x k (sym (whnf_some E t t' e n) ∙ p))

    pub same_whnf : (t : Term) → EachHead P t → Same (EachHead P) (whnf E t) (whnf F t)
    same_whnf t i = record { equal = λ n. (same_form n t i).0; ensures = λ n k x p. (same_form n t i).1 x k p }

    -- conversion
    same_defined : (t : Term) → EachHead P t → is_defined_at_head E t ≡ is_defined_at_head F t
    same_defined (App f a) i = same_defined f i.0
    same_defined (Con (Named c) us) i = ap has_body (ag.same (Named c) i.0)
    same_defined _ i = refl

    module _ (c d : Term → Term → Run Bool) (hc : (a b : Term) → EachHead P a → EachHead P b → Same Any (c a b) (d a b)) where
      same_each : (ps : List (Term × Term)) → EachHeadOfPairs ps → Same Any (convert_each c ps) (convert_each d ps)
      same_each [] i = same_pure Any true tt
      same_each (p ∷ ps) i = same_bind Any Any _ _ _ _ (hc p.0 p.1 i.0 i.1) (λ b _. same_choose Any b _ _ _ _ (λ e. same_each ps i.2) (λ e. same_pure Any false tt))

      same_conv_step : (a b : Term) → EachHead P a → EachHead P b → Same Any (conv_step E c a b) (conv_step F d a b)
      same_conv_step a b i j =
          let no : Same Any (pure false) (pure false) = same_pure Any false tt in
          let yes : Same Any (pure true) (pure true) = same_pure Any true tt in
          let first : Same Any (choose (are_twins E a b) (convert_each c (part_pairs a b)) (pure false)) (choose (are_twins F a b) (convert_each d (part_pairs a b)) (pure false)) =
          transport (λ t. Same Any (choose (are_twins E a b) (convert_each c (part_pairs a b)) (pure false)) (choose (t && alike a b) (convert_each d (part_pairs a b)) (pure false))) (same_defined a i) (same_choose Any (are_twins E a b) _ _ _ _ (λ h. same_each (part_pairs a b) (each_pair a b i j)) (λ h. no)) in
          same_choose Any (same a b) _ _ _ _ (λ e. yes) (λ e. same_spend Any _ _ (same_bind Any Any _ _ _ _ first (λ done _. same_choose Any done _ _ _ _ (λ h. yes) (λ h. same_bind (EachHead P) Any _ _ _ _ (same_whnf a i) (λ a' i'. same_bind (EachHead P) Any _ _ _ _ (same_whnf b j) (λ b' j'. same_choose Any (alike a' b') _ _ _ _ (λ h. same_each (part_pairs a' b') (each_pair a' b' i' j')) (λ h. no)))))))

    same_deep : (g : ℕ) (a b : Term) → EachHead P a → EachHead P b → Same Any (conv_deep E g a b) (conv_deep F g a b)
    same_deep zero a b i j = same_conv_step (λ a b n. OutOfFuel) (λ a b n. OutOfFuel) (λ a b _ _. record { equal = λ n. refl; ensures = λ n k x p. tt }) a b i j
    same_deep (suc g) a b i j = same_conv_step (λ a b. conv_deep E g a b) (λ a b. conv_deep F g a b) (λ a b i j. same_deep g a b i j) a b i j

    pub same_conv : (a b : Term) → EachHead P a → EachHead P b → Same Any (conv E a b) (conv F a b)
    same_conv a b i j = record { equal = λ n. (same_deep n a b i j).equal n; ensures = λ n k x p. tt }
