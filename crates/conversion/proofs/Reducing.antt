-- The loop that brings a term to weak head form.
use Rattle.std.proofs.Common.{◌≡◌, ◌≢◌, ℕ, ◌-◌, ◌≤◌, List, map, All, Bool, true, false, Option, Some, None, refl, sym, ap, ap₂, ◌∙◌, arith}
use Rattle.ld_trees.specs.Term.{Term}
use Rattle.ld_terms.specs.Views.{Keeps}
use Rattle.ld_terms.proofs.Turns.{keeps_both, keeps_map}
use Rattle.ld_terms.specs.declared.globals.Item.{Item as StoredItem}
use Rattle.ld_terms.specs.declared.globals.Decl.{Decl}
use Rattle.conversion.specs.Globals.{env_of, AreGlobalsOf}
use Rattle.conversion.specs.Runs.{Gave, OutOfFuel}
use Rattle.conversion.specs.WeakHead.{head_step, whnf}
use Rattle.conversion.specs.Spines.{applied, IsNoApplication, reduct_tree}
use Rattle.conversion.specs.declared.steps.Reduct.{Reduct}
use Rattle.conversion.proofs.Heads.{whnf_none, whnf_less, whnf_fuel}
use Rattle.conversion.proofs.Lookups.{env_kept, globals_kept}

-- after some steps the weak head form is that of the head with the arguments that wait; `stands` where there was no step
pub record Reducing {H : Type 0} (holds : H → Type 0) (means : H → Term) (holds' : H → Type 0) (means' : H → Term) (is : List (StoredItem H)) (ds : List (Decl H)) (h head : H) (waiting : List H) (n left : ℕ) (stands : Bool) : Type 0 where
  pub kept : Keeps holds means holds' means'
  pub held : holds' head
  pub waiting_held : All holds' waiting
  pub head_alone : IsNoApplication (means' head)
  pub same : whnf (env_of means is ds) (means h) n ≡ whnf (env_of means is ds) (applied (means' head) (map means' waiting)) left
  pub less : left ≤ n
  pub stood : stands ≡ true → applied (means' head) (map means' waiting) ≡ means h

module _ {H : Type 0} (holds : H → Type 0) (means : H → Term) (holds' : H → Type 0) (means' : H → Term) (is : List (StoredItem H)) (ds : List (Decl H)) (held : AreGlobalsOf holds is ds) where
  -- before the first step
  pub begun : (h head : H) (waiting : List H) (n : ℕ) → holds head → All holds waiting → IsNoApplication (means head) → applied (means head) (map means waiting) ≡ means h →
      Reducing holds means holds means is ds h head waiting n n true
  begun h head waiting n p a q e = record {
    kept = λ x k. (k, refl);
    held = p;
    waiting_held = a;
    head_alone = q;
    same = ap (λ t. whnf (env_of means is ds) t n) (sym e);
    less = omega arith;
    stood = λ s. e;
  }

  module _ (h head : H) (waiting : List H) (n left : ℕ) (stands : Bool) (so_far : Reducing holds means holds' means' is ds h head waiting n left stands) where
    pub now_held : AreGlobalsOf holds' is ds
    now_held = globals_kept holds means holds' means' so_far.kept is ds held

    same_step : (o : Option Term) → head_step (env_of means' is ds) (applied (means' head) (map means' waiting)) ≡ o → head_step (env_of means is ds) (applied (means' head) (map means' waiting)) ≡ o
    same_step o e = ap (λ Δ. head_step Δ (applied (means' head) (map means' waiting))) (sym (env_kept holds means holds' means' so_far.kept is ds held)) ∙ e

    pub no_unit : (t : Term) → head_step (env_of means' is ds) (applied (means' head) (map means' waiting)) ≡ Some t → left ≡ 0 → whnf (env_of means is ds) (means h) n ≡ OutOfFuel
    no_unit t e z = so_far.same ∙ ap (whnf (env_of means is ds) (applied (means' head) (map means' waiting))) z ∙ whnf_fuel (env_of means is ds) (applied (means' head) (map means' waiting)) t (same_step (Some t) e)

    pub no_step : head_step (env_of means' is ds) (applied (means' head) (map means' waiting)) ≡ None → whnf (env_of means is ds) (means h) n ≡ Gave (applied (means' head) (map means' waiting)) left
    no_step e = so_far.same ∙ whnf_none (env_of means is ds) (applied (means' head) (map means' waiting)) (same_step None e) left

    -- one step more
    pub stepped : (holds'' : H → Type 0) (means'' : H → Term) (r : Reduct H) (rest : List H) (term : H) (head' : H) (waiting' : List H) →
        head_step (env_of means' is ds) (applied (means' head) (map means' waiting)) ≡ Some (applied (reduct_tree means' r) (map means' rest)) → left ≢ 0 →
        Keeps holds' means' holds'' means'' → All holds' rest → means'' term ≡ reduct_tree means' r →
        applied (means'' head') (map means'' waiting') ≡ applied (means'' term) (map means'' rest) → IsNoApplication (means'' head') → holds'' head' → All holds'' waiting' →
        Reducing holds means holds'' means'' is ds h head' waiting' n (left - 1) false
    stepped holds'' means'' r rest term head' waiting' e z k a m f q p b = record {
      kept = keeps_both holds means holds' means' holds'' means'' so_far.kept k;
      held = p;
      waiting_held = b;
      head_alone = q;
      same =
          so_far.same
          ∙ whnf_less (env_of means is ds) (applied (means' head) (map means' waiting)) (applied (reduct_tree means' r) (map means' rest)) left (same_step _ e) z
          ∙ ap (λ t. whnf (env_of means is ds) t (left - 1)) (sym (f ∙ ap₂ applied m (keeps_map holds' means' holds'' means'' rest k a)));
      less = let l = so_far.less in omega (arith, l);
      stood = λ s. absurd cc;
    }
