-- A metavariable with a value, and its occurrences replaced: the term stays known and βδ-equal.
use Rattle.std.proofs.Common.{◌≡◌, ℕ, zero, suc, Bool, true, false, Some, refl, sym, ap, ◌∙◌, nat_eq, subst as transport}
use Rattle.std.proofs.lemmas.Bool.{eqb-true}
use Rattle.std.proofs.lemmas.Option.{same_Some}
use Rattle.ld_trees.specs.Term.{Head, Named, Numbered, Term, Srt, Var, App, Lam, Pi, Con, Meta, Terms, none, ◌▹◌, count}
use Rattle.ld_trees.specs.Substitution.{instantiate, subst_all}
use Rattle.ld_rules.specs.Environment.{Env, Item, item_of}
use Rattle.ld_rules.specs.Reduction.{delta, Equal, by_step, reflexive, transitive, EqualAll, no_terms, one_more}
use Rattle.ld_rules.specs.Scoping.{IsKnown, Known, AllKnown}
use Rattle.ld_rules.proofs.Congruence.{equal_app, equal_lam, equal_pi, equal_con}
use Rattle.ld_rules.proofs.ScopedItems.{known_subst}
use Rattle.meta_trees.specs.Dependencies.{is_meta}
use Rattle.unification.specs.Pruning.{put_in, replace, replace_all}

argument_known : (E : Env) (us : Terms) → AllKnown E us → (i : ℕ) → Known E (instantiate us i)
argument_known E none k i = tt
argument_known E (us ▹ u) k zero = k.1
argument_known E (us ▹ u) k (suc i) = argument_known E us k.0 i

count_replaced : (m : ℕ) (v : Term) (us : Terms) → count (replace_all m v us) ≡ count us
count_replaced m v none = refl
count_replaced m v (us ▹ u) = ap suc (count_replaced m v us)

module _ (E : Env) (m : ℕ) (v : Term) where
  known_put : (h : Head) (us : Terms) → Known E v → IsKnown E h (count us) → AllKnown E us → Known E (put_in (is_meta m h) v h us)
  known_put h us kv k l = go (is_meta m h)
    where
      go : (b : Bool) → Known E (put_in b v h us)
      go true = known_subst E v (instantiate us) (argument_known E us l) kv
      go false = (k, l)

  mutual
    pub known_replaced : (t : Term) → Known E v → Known E t → Known E (replace m v t)
    known_replaced (Srt s) kv k = tt
    known_replaced (Var i) kv k = tt
    known_replaced (App f a) kv k = (known_replaced f kv k.0, known_replaced a kv k.1)
    known_replaced (Lam A M) kv k = (known_replaced A kv k.0, known_replaced M kv k.1)
    known_replaced (Pi A M) kv k = (known_replaced A kv k.0, known_replaced M kv k.1)
    known_replaced (Con h us) kv k = known_put h (replace_all m v us) kv (transport (IsKnown E h) (sym (count_replaced m v us)) k.0) (all_known_replaced us kv k.1)

    all_known_replaced : (us : Terms) → Known E v → AllKnown E us → AllKnown E (replace_all m v us)
    all_known_replaced none kv k = tt
    all_known_replaced (us ▹ u) kv k = (all_known_replaced us kv k.0, known_replaced u kv k.1)

  module _ (c : Item) (found : item_of (Numbered m) E ≡ Some c) (is_value : c.body ≡ Some v) where
    pub value_step : (us : Terms) → IsKnown E (Numbered m) (count us) → Equal E (Meta m us) (subst_all us v)
    value_step us k = by_step (delta c v found is_value (k.2 ∙ ap (λ (x : Item). count x.params) (same_Some k.0 c (sym k.1 ∙ found))))

    equal_put : (h : Head) (us ws : Terms) → IsKnown E h (count ws) → Equal E (Con h us) (Con h ws) → Equal E (Con h us) (put_in (is_meta m h) v h ws)
    equal_put (Named a) us ws k e = e
    equal_put (Numbered j) us ws k e = go (nat_eq j m) refl
      where
        go : (b : Bool) → nat_eq j m ≡ b → Equal E (Con (Numbered j) us) (put_in b v (Numbered j) ws)
        go true q =
            let r : j ≡ m = eqb-true j m q in
            transitive e (transport (λ i. Equal E (Con (Numbered i) ws) (subst_all ws v)) (sym r) (value_step ws (transport (λ i. IsKnown E (Numbered i) (count ws)) r k)))
        go false q = e

    mutual
      pub equal_replaced : (t : Term) → Known E t → Equal E t (replace m v t)
      equal_replaced (Srt s) k = reflexive
      equal_replaced (Var i) k = reflexive
      equal_replaced (App f a) k = equal_app E f (replace m v f) a (replace m v a) (equal_replaced f k.0) (equal_replaced a k.1)
      equal_replaced (Lam A M) k = equal_lam E A (replace m v A) M (replace m v M) (equal_replaced A k.0) (equal_replaced M k.1)
      equal_replaced (Pi A M) k = equal_pi E A (replace m v A) M (replace m v M) (equal_replaced A k.0) (equal_replaced M k.1)
      equal_replaced (Con h us) k = equal_put h us (replace_all m v us) (transport (IsKnown E h) (sym (count_replaced m v us)) k.0) (equal_con E h us (replace_all m v us) (all_equal_replaced us k.1))

      all_equal_replaced : (us : Terms) → AllKnown E us → EqualAll E us (replace_all m v us)
      all_equal_replaced none k = no_terms
      all_equal_replaced (us ▹ u) k = one_more (all_equal_replaced us k.0) (equal_replaced u k.1)
