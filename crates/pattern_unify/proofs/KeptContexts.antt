-- The context of the entries that are kept, one after another.
use Rattle.std.proofs.Common.{◌≡◌, ℕ, suc, ◌+◌, ◌<◌, ◌≤◌, List, [], ◌∷◌, ◌++◌, reverse, Bool, true, false, length, take, drop, get_or, refl, sym, ap, ap₂, ◌∙◌, subst, drop-cons, take-suc, arith}
use Rattle.std.proofs.lemmas.List.{reverse-append, drop_all}
use Rattle.ld_trees.specs.Term.{Term}
use Rattle.ld_rules.specs.Environment.{Env}
use Rattle.ld_terms.specs.Views.{Keeps}
use Rattle.ld_terms.specs.declared.globals.Local.{Local}
use Rattle.ld_terms.specs.declared.globals.Item.{Item}
use Rattle.ld_terms.specs.declared.globals.Decl.{Decl}
use Rattle.ld_terms.proofs.Turns.{keeps_both}
use Rattle.term_syntax.specs.ReadsBack.{IsContext}
use Rattle.conversion.specs.Globals.{AreLocals}
use Rattle.meta_context.specs.Entered.{names_of}
use Rattle.meta_context.specs.Plain.{plain_local, plain_locals, rules_env}
use Rattle.unification.specs.Steps.{Gave, go_on}
use Rattle.unification.specs.Refusals.{Plain}
use Rattle.unification.specs.Pruning.{kept_context}
use Rattle.pattern_unify.specs.declared.fault.UnifyFault.{UnifyFault}
use Rattle.pattern_unify.specs.Answers.{AreRead, Shows}
use Rattle.pattern_unify.specs.Walks.{kept_turn}
use Rattle.pattern_unify.proofs.Follow.{after, shows_more}

no_flags : (Δ : Env) (metas : Plain) (Γ : List (Local Term)) (before : List Bool) (kept : List (Local Term)) (n : ℕ) → kept_context Δ metas [] Γ before kept n ≡ Gave kept n
no_flags Δ metas [] before kept n = refl
no_flags Δ metas (l ∷ Γ) before kept n = refl

no_entries : (Δ : Env) (metas : Plain) (ks before : List Bool) (kept : List (Local Term)) (n : ℕ) → kept_context Δ metas ks [] before kept n ≡ Gave kept n
no_entries Δ metas [] before kept n = refl
no_entries Δ metas (true ∷ ks) before kept n = refl
no_entries Δ metas (false ∷ ks) before kept n = refl

-- one entry after another
turn_is : (Δ : Env) (metas : Plain) (b : Bool) (ks : List Bool) (l : Local Term) (Γ : List (Local Term)) (before : List Bool) (kept : List (Local Term)) (n : ℕ) →
    kept_context Δ metas (b ∷ ks) (l ∷ Γ) before kept n ≡ go_on (kept_turn b Δ metas before kept l.name l.ty n) (λ more. kept_context Δ metas ks Γ (b ∷ before) more)
turn_is Δ metas true ks l Γ before kept n = refl
turn_is Δ metas false ks l Γ before kept n = refl

-- After so many entries the context so far stands for what is left of the definition.
pub record KeptSoFar {H : Type 0} (holds : H → Type 0) (means : H → Term) (holds' : H → Type 0) (means' : H → Term) (items : List (Item H)) (metas : List (Decl H)) (flags : List Bool) (ctx now : List (Local H)) (k n n' : ℕ) : Type 0 where
  pub kept : Keeps holds means holds' means'
  pub less : n' ≤ n
  pub held : AreLocals holds' now
  pub names : IsContext (names_of now)
  pub value : (Δ : List (Item Term)) (Σ : Plain) → AreRead means items metas Δ Σ
      → kept_context (rules_env Δ) Σ flags (plain_locals means ctx) [] [] n ≡ kept_context (rules_env Δ) Σ (drop k flags) (plain_locals means (drop k ctx)) (reverse (take k flags)) (plain_locals means' now) n'

module _ {H : Type 0} (holds : H → Type 0) (means : H → Term) (items : List (Item H)) (metas : List (Decl H)) (flags : List Bool) (ctx : List (Local H)) (n : ℕ) where
  pub kept_begins : (now : List (Local H)) → now ≡ [] → KeptSoFar holds means holds means items metas flags ctx now 0 n n
  kept_begins now e = record {
    kept = λ x p. (p, refl);
    less = omega arith;
    held = λ i d l. absurd (let z : length now ≡ 0 = ap (λ xs. length xs) e in omega (arith, z, l));
    names = subst (λ (xs : List (Local H)). IsContext (names_of xs)) (sym e) (record { named = tt; few = omega arith });
    value = λ Δ Σ r. ap (λ xs. kept_context (rules_env Δ) Σ flags (plain_locals means ctx) [] (plain_locals means xs) n) (sym e);
  }

  module _ (holds' : H → Type 0) (means' : H → Term) (now : List (Local H)) (k n' : ℕ) (h : KeptSoFar holds means holds' means' items metas flags ctx now k n n') where
    pub kept_all : length flags ≤ k → (Δ : List (Item Term)) (Σ : Plain) → AreRead means items metas Δ Σ → kept_context (rules_env Δ) Σ flags (plain_locals means ctx) [] [] n ≡ Gave (plain_locals means' now) n'
    kept_all l Δ Σ r =
        h.value Δ Σ r ∙ ap (λ ks. kept_context (rules_env Δ) Σ ks (plain_locals means (drop k ctx)) (reverse (take k flags)) (plain_locals means' now) n') (drop_all k flags l)
        ∙ no_flags (rules_env Δ) Σ (plain_locals means (drop k ctx)) (reverse (take k flags)) (plain_locals means' now) n'

    pub kept_short : length ctx ≤ k → (Δ : List (Item Term)) (Σ : Plain) → AreRead means items metas Δ Σ → kept_context (rules_env Δ) Σ flags (plain_locals means ctx) [] [] n ≡ Gave (plain_locals means' now) n'
    kept_short l Δ Σ r =
        h.value Δ Σ r ∙ ap (λ ls. kept_context (rules_env Δ) Σ (drop k flags) (plain_locals means ls) (reverse (take k flags)) (plain_locals means' now) n') (drop_all k ctx l)
        ∙ no_entries (rules_env Δ) Σ (drop k flags) (reverse (take k flags)) (plain_locals means' now) n'

    module _ (b : Bool) (l : Local H) (p : k < length flags) (q : k < length ctx) (eb : b ≡ get_or flags k false) (el : l ≡ get_or ctx k l) (ty : holds l.ty) where
      more : (Δ : List (Item Term)) (Σ : Plain) → AreRead means items metas Δ Σ → kept_context (rules_env Δ) Σ flags (plain_locals means ctx) [] [] n
          ≡ go_on (kept_turn b (rules_env Δ) Σ (reverse (take k flags)) (plain_locals means' now) l.name (means' l.ty) n') (λ more. kept_context (rules_env Δ) Σ (drop (suc k) flags) (plain_locals means (drop (suc k) ctx)) (b ∷ reverse (take k flags)) more)
      more Δ Σ r =
          h.value Δ Σ r
          ∙ ap₂ (λ ks ls. kept_context (rules_env Δ) Σ ks (plain_locals means ls) (reverse (take k flags)) (plain_locals means' now) n') (drop-cons flags k false p ∙ ap (λ x. x ∷ drop (suc k) flags) (sym eb)) (drop-cons ctx k l q ∙ ap (λ x. x ∷ drop (suc k) ctx) (sym el))
          ∙ turn_is (rules_env Δ) Σ b (drop (suc k) flags) (plain_local means l) (plain_locals means (drop (suc k) ctx)) (reverse (take k flags)) (plain_locals means' now) n'
          ∙ ap (λ t. go_on (kept_turn b (rules_env Δ) Σ (reverse (take k flags)) (plain_locals means' now) l.name t n') (λ more. kept_context (rules_env Δ) Σ (drop (suc k) flags) (plain_locals means (drop (suc k) ctx)) (b ∷ reverse (take k flags)) more)) (sym (h.kept l.ty ty).1)

      turned : reverse (take (suc k) flags) ≡ b ∷ reverse (take k flags)
      turned = ap reverse (take-suc flags k false p ∙ ap (λ x. take k flags ++ x ∷ []) (sym eb)) ∙ reverse-append (take k flags) (b ∷ [])

      module _ (holds'' : H → Type 0) (means'' : H → Term) (left : ℕ) (kept : Keeps holds' means' holds'' means'') (less : left ≤ n') where
        pub kept_more : (j : ℕ) (next : List (Local H)) → j ≡ k + 1 → AreLocals holds'' next → IsContext (names_of next)
            → ((Δ : List (Item Term)) (Σ : Plain) → AreRead means items metas Δ Σ → kept_turn b (rules_env Δ) Σ (reverse (take k flags)) (plain_locals means' now) l.name (means' l.ty) n' ≡ Gave (plain_locals means'' next) left)
            → KeptSoFar holds means holds'' means'' items metas flags ctx next j n left
        kept_more j next e held names v = record {
          kept = keeps_both holds means holds' means' holds'' means'' h.kept kept;
          less = omega (arith, h.less, less);
          held = held;
          names = names;
          value = λ Δ Σ r.
              let s : suc k ≡ j = omega (arith, e) in
              more Δ Σ r ∙ after _ (plain_locals means'' next) left (λ more. kept_context (rules_env Δ) Σ (drop (suc k) flags) (plain_locals means (drop (suc k) ctx)) (b ∷ reverse (take k flags)) more) (v Δ Σ r)
              ∙ ap (λ ks. kept_context (rules_env Δ) Σ (drop (suc k) flags) (plain_locals means (drop (suc k) ctx)) ks (plain_locals means'' next) left) (sym turned)
              ∙ ap (λ i. kept_context (rules_env Δ) Σ (drop i flags) (plain_locals means (drop i ctx)) (reverse (take i flags)) (plain_locals means'' next) left) s;
        }

        pub kept_refused : (Δ : List (Item Term)) (Σ : Plain) → AreRead means items metas Δ Σ → (x : UnifyFault H)
            → Shows holds'' means'' (kept_turn b (rules_env Δ) Σ (reverse (take k flags)) (plain_locals means' now) l.name (means' l.ty) n') left x → Shows holds'' means'' (kept_context (rules_env Δ) Σ flags (plain_locals means ctx) [] [] n) left x
        kept_refused Δ Σ r x s =
            subst (λ o. Shows holds'' means'' o left x) (sym (more Δ Σ r)) (shows_more holds'' means'' (kept_turn b (rules_env Δ) Σ (reverse (take k flags)) (plain_locals means' now) l.name (means' l.ty) n') (λ more. kept_context (rules_env Δ) Σ (drop (suc k) flags) (plain_locals means (drop (suc k) ctx)) (b ∷ reverse (take k flags)) more) left x s)
