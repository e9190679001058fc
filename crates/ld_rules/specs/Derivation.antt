-- The rules of λD, after the table of derivation rules in Nederpelt and Geuvers, Type Theory and Formal Proof (2014), chapter 10.
-- s and z are each one of `*` and `□`. A new x is the next entry of the context.
use Rattle.std.specs.Prelude.{◌≡◌, [], ◌∷◌, Some, None}
use Rattle.ld_trees.specs.Term.{Sort, Head, Term, Srt, Star, Square, Var, App, Lam, Pi, Con, Terms, none, ◌▹◌}
use Rattle.ld_trees.specs.Substitution.{weaken, subst_all}
use Rattle.ld_rules.specs.Environment.{Ctx, Env, Item, item_of}
use Rattle.ld_rules.specs.Reduction.{Equal}

mutual
  -- in an environment and a context a term has a type: the least relation that is closed under the rules
  pub data Derives : Env → Ctx → Term → Term → Type 0 where
    -- sort: in the empty environment and context, `*` has type `□`
    sort : Derives [] none Star Square
    -- var: A has type s; then in the context extended by new x : A, x has type A
    var : {Δ : Env} {Γ : Ctx} {A : Term} {s : Sort} → Derives Δ Γ A (Srt s) → Derives Δ (Γ ▹ A) (Var 0) (weaken A)
    -- weak: M has type B, C has type s; then in the context extended by new x : C, M has type B
    weak : {Δ : Env} {Γ : Ctx} {M B C : Term} {s : Sort} → Derives Δ Γ M B → Derives Δ Γ C (Srt s) → Derives Δ (Γ ▹ C) (weaken M) (weaken B)
    -- form: A has type s; under x : A, B has type z; then (x : A) -> B has type z
    form : {Δ : Env} {Γ : Ctx} {A B : Term} {s z : Sort} → Derives Δ Γ A (Srt s) → Derives Δ (Γ ▹ A) B (Srt z) → Derives Δ Γ (Pi A B) (Srt z)
    -- appl: M has type (x : A) -> B, N has type A; then M N has type B with N for x
    appl : {Δ : Env} {Γ : Ctx} {M N A B : Term} → Derives Δ Γ M (Pi A B) → Derives Δ Γ N A → Derives Δ Γ (App M N) (subst_all (none ▹ N) B)
    -- abst: under x : A, M has type B; (x : A) -> B has type s; then fun (x : A) => M has type (x : A) -> B
    abst : {Δ : Env} {Γ : Ctx} {A M B : Term} {s : Sort} → Derives Δ (Γ ▹ A) M B → Derives Δ Γ (Pi A B) (Srt s) → Derives Δ Γ (Lam A M) (Pi A B)
    -- conv: M has type B, B' has type s, B and B' are βδ-equal; then M has type B'
    conv : {Δ : Env} {Γ : Ctx} {M B B' : Term} {s : Sort} → Derives Δ Γ M B → Derives Δ Γ B' (Srt s) → Equal Δ B B' → Derives Δ Γ M B'
    -- def: K has type L; in the context of the parameters M has type N; a is new; then after adding a := M : N, K has type L
    def : {Δ : Env} {Γ : Ctx} {K L M : Term} (d : Item) → Derives Δ Γ K L → d.body ≡ Some M → Derives Δ d.params M d.ty → item_of d.name Δ ≡ None → Derives (d ∷ Δ) Γ K L
    -- def-prim: K has type L; in the context of the parameters N has type s; a is new; then after adding the primitive a : N, K has type L
    def_prim : {Δ : Env} {Γ : Ctx} {K L : Term} {s : Sort} (d : Item) → Derives Δ Γ K L → d.body ≡ None → Derives Δ d.params d.ty (Srt s) → item_of d.name Δ ≡ None → Derives (d ∷ Δ) Γ K L
    -- inst and inst-prim, for definitions and primitives alike: `*` has type `□`; each Ui has the type of its parameter with U put in;
    -- a is in the environment; then a(U1, .., Un) has type N with U put in
    inst : {Δ : Env} {Γ : Ctx} {h : Head} {us : Terms} (d : Item) → Derives Δ Γ Star Square → Fits Δ Γ us d.params → item_of h Δ ≡ Some d → Derives Δ Γ (Con h us) (subst_all us d.ty)

  -- One argument per parameter, each of the type of its parameter with the arguments put in. The type of a parameter stands in the
  -- earlier parameters alone, so the earlier arguments are those that it needs; the law `ArgumentsFitParameters` says it with all of them.
  pub data Fits : Env → Ctx → Terms → Ctx → Type 0 where
    no_argument : {Δ : Env} {Γ : Ctx} → Fits Δ Γ none none
    argument : {Δ : Env} {Γ : Ctx} {us ps : Terms} {u P : Term} → Fits Δ Γ us ps → Derives Δ Γ u (subst_all us P) → Fits Δ Γ (us ▹ u) (ps ▹ P)
