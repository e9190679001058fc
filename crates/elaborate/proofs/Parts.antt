-- A node of a text as one call after another of those that the program makes.
use Rattle.std.proofs.Common.{◌≡◌, ℕ, suc, ◌+◌, List, [], ◌∷◌, ◌++◌, length, Bool, true, false, ◌==◌, Option, Some, None, refl, sym, ap, ◌∙◌, arith}
use Rattle.std.proofs.lemmas.List.{length-append}
use Rattle.ld_trees.specs.Term.{Term, Square, Srt, Var, App, Lam, Pi, Con, Const, none, ◌▹◌}
use Rattle.ld_trees.specs.Substitution.{subst_all}
use Rattle.ld_terms.specs.declared.globals.Local.{Local}
use Rattle.ld_terms.specs.declared.globals.Item.{Item}
use Rattle.term_syntax.specs.Lex.{Text}
use Rattle.term_syntax.specs.declared.surface.Label.{Label}
use Rattle.meta_context.specs.Plain.{rules_env}
use Rattle.unification.specs.Steps.{Outcome, Gave, Refused, OutOfFuel, Step, go_on, pure, demand, renamed, ◌>>=◌}
use Rattle.unification.specs.Refusals as unification
use Rattle.unification.specs.Metavariables.{sorted}
use Rattle.elaboration.specs.Refusals.{Refusal, NotType, NotFunction, WrongCount, from_unification}
use Rattle.elaboration.specs.Elaboration.{Work, Made, made, Want, Any, Of, AsType, Surroundings, depth_of, entry_name, behind, Elaborates, parts_or, product_or, reduced, entered, unified, meet, arguments, constant, applied, abstraction, abstraction_of, function, product}
use Rattle.elaborate.specs.Steps.{Product, product_of, wanted_product, met_domain, under, abstracted, function_parts, applied_to, known}
use Rattle.pattern_unify.proofs.Follow.{again}

-- two calls after the same one, which agree on what it gives
pub same_after : {R A B : Type 0} (o : Outcome R A) (f g : A → Step R B) → ((x : A) (k : ℕ) → o ≡ Gave x k → f x k ≡ g x k) → go_on o f ≡ go_on o g
same_after (Gave x k) f g h = h x k refl
same_after (Refused r k) f g h = refl
same_after OutOfFuel f g h = refl

-- ---- entries

longer : (Γ Γ' more : List (Local Term)) (l : Local Term) (o : Outcome unification.Refusal (Unit {0})) (here inner : Surroundings) (x : Option Label) (k : ℕ) → more ≡ Γ ++ l ∷ []
    → go_on (renamed from_unification (go_on o (λ _. pure more))) (λ Γ. pure (behind x Γ here)) ≡ Gave inner k → depth_of inner ≡ suc (length Γ)
longer Γ Γ' more l (Gave u n) here inner x k m e =
    let q : behind x more here ≡ inner = cc in
    ap depth_of (sym q) ∙ ap (λ ls. length ls) m ∙ length-append Γ (l ∷ []) ∙ (let z : length Γ + 1 ≡ suc (length Γ) = omega arith in z)
longer Γ Γ' more l (Refused r n) here inner x k m e = absurd cc
longer Γ Γ' more l OutOfFuel here inner x k m e = absurd cc

module _ (items : List (Item Term)) where
  entered_depth : (x : Option Label) (A : Term) (w : Work) (here inner : Surroundings) (n k : ℕ) → entered items x A w here n ≡ Gave inner k → depth_of inner ≡ suc (depth_of here)
  entered_depth x A w here inner n k e =
      let l : Local Term = record { name = entry_name (depth_of here) x; ty = A } in
      longer here.entries here.entries (here.entries ++ l ∷ []) l (sorted (rules_env items) w.metas here.entries A n) here inner x k refl e

  -- ---- constants

  abbrev pub constant_rest : Text → List Elaborates → Want → Work → Surroundings → Item Term → Step Refusal Made
  constant_rest a us want w here i = do
    (w', vs) ← arguments items us i.params none w here
    meet items want w' here (Const a vs) (subst_all vs i.ty)

  pub constant_is : (at : ℕ) (a : Text) (us : List Elaborates) (o : Option (Item Term)) (want : Want) (w : Work) (here : Surroundings) (n : ℕ)
      → constant items at a us o want w here n ≡ go_on (known at a (length us) o n) (constant_rest a us want w here)
  constant_is at a us None want w here n = refl
  constant_is at a us (Some i) want w here n = by (length us == length i.params) where
    by : (b : Bool) → go_on (demand b (WrongCount at a (length us) (length i.params)) n) (λ _. constant_rest a us want w here i) ≡ go_on (go_on (demand b (WrongCount at a (length us) (length i.params)) n) (λ _. pure i)) (constant_rest a us want w here)
    by true = refl
    by false = refl

  -- ---- applications

  -- an argument, and the function applied to it
  abbrev pub argument_rest : Elaborates → Made → Surroundings → Term × Term → Step Refusal Made
  argument_rest u f here p n = go_on (u (Of p.0) f.work here n) (λ a. pure (made a.work (App f.term a.term) (subst_all (none ▹ a.term) p.1)))

  pub applied_to_is : (u : Elaborates) (f : Made) (here : Surroundings) (n : ℕ) → applied_to items u f here n ≡ go_on (function_parts items f here n) (argument_rest u f here)
  applied_to_is u f here n = refl

  pub applied_more : (u : Elaborates) (us : List Elaborates) (w : Work) (here : Surroundings) (f F : Term) (n : ℕ)
      → applied items (u ∷ us) w here f F n ≡ go_on (applied_to items u (made w f F) here n) (λ m. applied items us m.work here m.term m.ty)
  applied_more u us w here f F n =
      let r : Refusal = NotFunction (depth_of here) f F in
      let rest : Made → Step Refusal Made = λ m. applied items us m.work here m.term m.ty in
      let one : Term × Term → Step Refusal Made = λ p n. go_on (u (Of p.0) w here n) (λ a. pure (made a.work (App f a.term) (subst_all (none ▹ a.term) p.1))) in
      same_after (reduced items w F n) _ _ (λ F' k e. same_after (parts_or r F' k) _ _ (λ p j q. sym (again (u (Of p.0) w here j) (λ a. pure (made a.work (App f a.term) (subst_all (none ▹ a.term) p.1))) rest)))
      ∙ sym (again (reduced items w F n) (parts_or r) (λ p n. go_on (one p n) rest))
      ∙ sym (again (go_on (reduced items w F n) (parts_or r)) one rest)

  -- ---- products

  module _ (want : Want) (here : Surroundings) where
    abbrev pub product_end : Made → Made → Step Refusal Made
    product_end a b = meet items want b.work here (Pi a.term b.term) b.ty

    abbrev pub product_rest : Option Label → Elaborates → Made → Step Refusal Made
    product_rest x B a n = go_on (under items x B AsType a.work a.term here n) (product_end a)

    pub product_is : (x : Option Label) (A B : Elaborates) (w : Work) (n : ℕ) → product items x A B want w here n ≡ go_on (A AsType w here n) (product_rest x B)
    product_is x A B w n = same_after (A AsType w here n) _ _ (λ a k e. sym (again (entered items x a.term a.work here k) (λ inner. B AsType a.work inner) (product_end a)))

    -- ---- abstractions

    abbrev pub body_rest : Option Product → Made → Made → Step Refusal Made
    body_rest p a m = abstracted items want p a.term m here

    abbrev pub inside_rest : Label → Elaborates → Option Product → Made → Work × Want → Step Refusal Made
    inside_rest x M p a q n = go_on (under items (Some x) M q.1 q.0 a.term here n) (body_rest p a)

    abbrev pub domain_rest : Label → Elaborates → Option Product → Made → Step Refusal Made
    domain_rest x M p a n = go_on (met_domain items p a here n) (inside_rest x M p a)

    abbrev pub function_rest : Label → Elaborates → Elaborates → Work → Option Product → Step Refusal Made
    function_rest x A M w p n = go_on (A AsType w here n) (domain_rest x M p)

    by_itself : (x : Label) (A M : Elaborates) (w : Work) (n : ℕ) → abstraction items x A M want w here n ≡ function_rest x A M w None n
    by_itself x A M w n =
        same_after (A AsType w here n) _ _ (λ a k e.
        same_after (entered items (Some x) a.term a.work here k) _ (λ inner n. go_on (M Any a.work inner n) (body_rest None a)) (λ inner j q.
        same_after (M Any a.work inner j) _ _ (λ m i z.
        ap (λ d. go_on (product_or (NotType d Square) a.term m.ty i) (λ T. meet items want m.work here (Lam a.term m.term) T)) (entered_depth (Some x) a.term a.work here inner k j q)))
        ∙ sym (again (entered items (Some x) a.term a.work here k) (λ inner. M Any a.work inner) (body_rest None a)))

  against : (T : Term) (x : Label) (A M : Elaborates) (w : Work) (here : Surroundings) (T' : Term) (n : ℕ) → abstraction_of items x A M T w here T' n ≡ function_rest (Of T) here x A M w (product_of T T') n
  against T x A M w here (Srt s) n = by_itself (Of T) here x A M w n
  against T x A M w here (Var i) n = by_itself (Of T) here x A M w n
  against T x A M w here (App f a) n = by_itself (Of T) here x A M w n
  against T x A M w here (Lam B N) n = by_itself (Of T) here x A M w n
  against T x A M w here (Con c us) n = by_itself (Of T) here x A M w n
  against T x A M w here (Pi C B) n =
      let p : Product = record { whole = T; domain = C; codomain = B } in
      same_after (A AsType w here n) _ _ (λ a k e.
      same_after (unified items a.work here a.term C k) _ (λ v n. inside_rest (Of T) here x M (Some p) a (v, Of B) n) (λ v j q.
      sym (again (entered items (Some x) a.term v here j) (λ inner. M (Of B) v inner) (body_rest (Of T) here (Some p) a)))
      ∙ sym (again (unified items a.work here a.term C k) (λ v. pure (v, Of B)) (inside_rest (Of T) here x M (Some p) a)))

  pub function_is : (want : Want) (x : Label) (A M : Elaborates) (w : Work) (here : Surroundings) (n : ℕ)
      → function items x A M want w here n ≡ go_on (wanted_product items want w n) (function_rest want here x A M w)
  function_is Any x A M w here n = by_itself Any here x A M w n
  function_is AsType x A M w here n = by_itself AsType here x A M w n
  function_is (Of T) x A M w here n =
      same_after (reduced items w T n) _ _ (λ T' k e. against T x A M w here T' k)
      ∙ sym (again (reduced items w T n) (λ T'. pure (product_of T T')) (function_rest (Of T) here x A M w))
