-- A derivation needs the dependencies alone.
use Rattle.std.proofs.Common.{◌≡◌, ℕ, List, Bool, true, false, ◌||◌, Option, Some, None, option_map, refl, sym, ◌∙◌, subst as transport}
use Rattle.std.proofs.lemmas.Bool.{eq-eqb}
use Rattle.std.proofs.lemmas.Option.{same_Some}
use Rattle.ld_trees.specs.Term.{◌▹◌, Term, Terms, Head, Named, Numbered, Srt, Var, App, Lam, Pi, Con, none, Star, Square}
use Rattle.ld_rules.specs.Environment.{Env, item_of, Item, Ctx}
use Rattle.ld_rules.specs.Reduction.{Equal}
use Rattle.ld_rules.specs.Derivation.{Derives}
use Rattle.ld_rules.specs.Legality.{IsLegal}
use Rattle.ld_rules.specs.ScopedItems.{EachHead, EachHeadOfAll}
use Rattle.ld_rules.proofs.SubstitutionLemma.{legal}
use Rattle.ld_rules.proofs.Environments.{items_have_types, newest}
use Rattle.ld_rules.proofs.KnownConstants.{known, known_context, known_valid}
use Rattle.ld_confluence.specs.Agreement.{EachHeadOfItem, AgreeOn}
use Rattle.ld_confluence.proofs.Strengthening.{strengthening, equality_agrees}
use Rattle.meta_trees.specs.MetaContext.{Metas, item, decl, Decl}
use Rattle.meta_trees.specs.Dependencies.{Depends, is_meta, occurs, occurs_in, through, parts, and_value, direct}
use Rattle.meta_laws.specs.Cut.{cut, order}
use Rattle.meta_laws.specs.Legality.{IsLegalMetas}
use Rattle.meta_laws.specs.Laws.{DependenciesSuffice, EqualityNeedsDependencies, ContextsAreLegal}
use Rattle.meta_trees.proofs.Dependencies.{or_left, or_right, depends_wider}
use Rattle.meta_laws.proofs.Items.{constant_found, undeclared_new, Found, all_known_found, known_found}
use Rattle.meta_laws.proofs.Legal.{cuts_are_legal}
use Rattle.meta_laws.proofs.Growing.{dependency_found, judgements_are_of_dependencies, cuts_grow, keeps_itself}
use Rattle.meta_laws.proofs.Rounds.{value_in_parts}

-- a constant, or a metavariable among the dependencies of X
abbrev pub IsOf : Metas → Terms → Head → Type 0
IsOf Σ X (Named a) = Unit {0}
IsOf Σ X (Numbered k) = Depends Σ X k

module _ (Σ : Metas) (X : Terms) where
  of_head : (h : Head) → ((k : ℕ) → is_meta k h ≡ true → Depends Σ X k) → IsOf Σ X h
  of_head (Named a) f = tt
  of_head (Numbered m) f = f m (eq-eqb m m refl)

  mutual
    pub each_of : (t : Term) → ((k : ℕ) → occurs k t ≡ true → Depends Σ X k) → EachHead (IsOf Σ X) t
    each_of (Srt s) f = tt
    each_of (Var i) f = tt
    each_of (App g a) f = (each_of g (λ k w. f k (or_left (occurs k g) _ w)), each_of a (λ k w. f k (or_right (occurs k g) _ w)))
    each_of (Lam A M) f = (each_of A (λ k w. f k (or_left (occurs k A) _ w)), each_of M (λ k w. f k (or_right (occurs k A) _ w)))
    each_of (Pi A B) f = (each_of A (λ k w. f k (or_left (occurs k A) _ w)), each_of B (λ k w. f k (or_right (occurs k A) _ w)))
    each_of (Con h us) f = (of_head h (λ k w. f k (or_left (is_meta k h) _ w)), all_of us (λ k w. f k (or_right (is_meta k h) _ w)))

    pub all_of : (us : Terms) → ((k : ℕ) → occurs_in k us ≡ true → Depends Σ X k) → EachHeadOfAll (IsOf Σ X) us
    all_of none f = tt
    all_of (us ▹ u) f = (all_of us (λ k w. f k (or_left (occurs_in k us) _ w)), each_of u (λ k w. f k (or_right (occurs_in k us) _ w)))

-- an environment has the constants of Δ and the metavariables that X depends on
pub record Has (Δ : Env) (Σ : Metas) (X : Terms) (E : Env) : Type 0 where
  pub constants : (a : List ℕ) → item_of (Named a) E ≡ item_of (Named a) Δ
  pub metas : (k : ℕ) → Depends Σ X k → item_of (Numbered k) E ≡ option_map (item k) (decl k Σ)

module _ (Δ : Env) (Σ : Metas) (ok : IsLegalMetas Δ Σ) (X : Terms) where
  -- a cut to more has them
  pub cut_has : (Y : Terms) → ((k : ℕ) → Depends Σ X k → Depends Σ Y k) → Has Δ Σ X (cut Σ Δ Y)
  cut_has Y f = record { constants = constant_found Σ Δ (order Σ Y); metas = λ k D. go k (f k D) (decl k Σ) refl }
    where
      go : (k : ℕ) → Depends Σ Y k → (o : Option Decl) → decl k Σ ≡ o → item_of (Numbered k) (cut Σ Δ Y) ≡ option_map (item k) o
      go k D None p = undeclared_new Σ Δ (order Σ Y) k ok.constants p
      go k D (Some d) p = dependency_found Δ Σ Y k d ok D p

  -- what is known in Δ has constants alone
  no_meta_found : (k : ℕ) → Found Δ k → Depends Σ X k
  no_meta_found k f = absurd (let p = ok.constants k in let q = f.1 in cc)

  of_constant : (h : Head) (c : Item) → item_of h Δ ≡ Some c → EachHeadOfItem (IsOf Σ X) c
  of_constant h c p =
      let i = items_have_types Δ h c ok.environment p in
      record {
        params = all_of Σ X c.params (λ k w. no_meta_found k (all_known_found Δ k c.params (known_context i.0) w));
        ty = each_of Σ X c.ty (λ k w. no_meta_found k (known_found Δ k c.ty (known_valid c.ty i.1) w));
        body = λ M q. each_of Σ X M (λ k w. no_meta_found k (known_found Δ k M (known (i.2 M q)) w));
      }

  -- what stands in the parts of a dependency is one
  of_part : (k : ℕ) (d : Decl) → Depends Σ X k → decl k Σ ≡ Some d → EachHeadOfItem (IsOf Σ X) (item k d)
  of_part k d D p = record {
    params = all_of Σ X d.ctx (λ j w. early j (or_left (occurs_in j d.ctx) _ w));
    ty = each_of Σ X d.ty (λ j w. early j (or_right (occurs_in j d.ctx) _ w));
    body = λ M q. each_of Σ X M (λ j w. through d D p (value_in_parts j d M q w));
  }
    where
      in_front : (j : ℕ) (o : Option Term) → occurs_in j (d.ctx ▹ d.ty) ≡ true → occurs_in j (and_value (d.ctx ▹ d.ty) o) ≡ true
      in_front j None w = w
      in_front j (Some v) w = or_left (occurs_in j (d.ctx ▹ d.ty)) _ w

      early : (j : ℕ) → occurs_in j (d.ctx ▹ d.ty) ≡ true → Depends Σ X j
      early j w = through d D p (in_front j d.value w)

  -- two environments that have them agree on them
  pub agree : (E F : Env) → Has Δ Σ X E → Has Δ Σ X F → AgreeOn (IsOf Σ X) E F
  agree E F e f = record { same = same; closed = closed }
    where
      same : (h : Head) → IsOf Σ X h → item_of h E ≡ item_of h F
      same (Named a) i = e.constants a ∙ sym (f.constants a)
      same (Numbered k) D = e.metas k D ∙ sym (f.metas k D)

      declared : (k : ℕ) (c : Item) → Depends Σ X k → (o : Option Decl) → decl k Σ ≡ o → option_map (item k) o ≡ Some c → EachHeadOfItem (IsOf Σ X) c
      declared k c D None p q = absurd cc
      declared k c D (Some d) p q = transport (EachHeadOfItem (IsOf Σ X)) (same_Some (item k d) c q) (of_part k d D p)

      closed : (h : Head) (c : Item) → IsOf Σ X h → item_of h E ≡ Some c → EachHeadOfItem (IsOf Σ X) c
      closed (Named a) c i p = of_constant (Named a) c (sym (e.constants a) ∙ p)
      closed (Numbered k) c D p = declared k c D (decl k Σ) refl (sym (e.metas k D) ∙ p)

  -- from a cut to more
  module _ (Y : Terms) (within : (k : ℕ) → Depends Σ X k → Depends Σ Y k) where
    both : AgreeOn (IsOf Σ X) (cut Σ Δ Y) (cut Σ Δ X)
    both = agree (cut Σ Δ Y) (cut Σ Δ X) (cut_has Y within) (cut_has X (λ k D. D))

    pub narrowed : (Γ : Ctx) (M B : Term) → ((k : ℕ) → occurs_in k (Γ ▹ M ▹ B) ≡ true → Depends Σ X k) → Derives (cut Σ Δ Y) Γ M B → Derives (cut Σ Δ X) Γ M B
    narrowed Γ M B f d =
        let i = all_of Σ X (Γ ▹ M ▹ B) f in
        strengthening (IsOf Σ X) (cut Σ Δ Y) (cut Σ Δ X) both (cuts_are_legal Δ Σ Y ok) (cuts_are_legal Δ Σ X ok) Γ M B i.0.0 i.0.1 i.1 d

    pub equality_narrowed : (a b : Term) → ((k : ℕ) → occurs_in k (none ▹ a ▹ b) ≡ true → Depends Σ X k) → Equal (cut Σ Δ Y) a b → Equal (cut Σ Δ X) a b
    equality_narrowed a b f e =
        let i = all_of Σ X (none ▹ a ▹ b) f in
        equality_agrees (IsOf Σ X) (cut Σ Δ Y) (cut Σ Δ X) both (cuts_are_legal Δ Σ Y ok) (cuts_are_legal Δ Σ X ok) a b i.0.1 i.1 e

pub dependencies_suffice : DependenciesSuffice
dependencies_suffice Δ Σ X Y Γ M B ok f d =
    let Z = Γ ▹ M ▹ B in
    let own = narrowed Δ Σ ok Z Y (λ k D. judgements_are_of_dependencies Δ Σ Y Γ M B k ok d D) Γ M B (λ k w. direct w) d in
    cuts_grow Δ Σ Σ Z X Γ M B ok ok (keeps_itself Σ) f own

pub equality_needs_dependencies : EqualityNeedsDependencies
equality_needs_dependencies Δ Σ X Y a b ok f g e = equality_narrowed Δ Σ ok X Y f a b (λ k w. g k (direct w)) e

pub contexts_are_legal : ContextsAreLegal
contexts_are_legal Δ Σ m d ok p = dependencies_suffice Δ Σ d.ctx (parts d) d.ctx Star Square ok (λ k D. depends_wider (λ j w. direct (without_sorts (occurs_in j d.ctx) w)) D) (own d.value refl)
  where
    without_sorts : (b : Bool) → ((b || false) || false) ≡ true → b ≡ true
    without_sorts true h = refl
    without_sorts false h = h

    own : (o : Option Term) → d.value ≡ o → IsLegal (cut Σ Δ (parts d)) d.ctx
    own None e = legal ((newest (ok.items m d p)).1.primitive e).1
    own (Some v) e = legal ((newest (ok.items m d p)).1.body v e)
