-- Loops over the arguments of a constant and of an application.
use Rattle.std.proofs.Common.{◌≡◌, ℕ, suc, ◌+◌, ◌<◌, ◌≤◌, List, [], ◌∷◌, ◌++◌, length, get_or, drop, drop-cons, map, All, refl, sym, ap, ap₂, ◌∙◌, arith}
use Rattle.std.proofs.lemmas.List.{drop_all}
use Rattle.std.proofs.lemmas.List.Elements.{All-push}
use Rattle.ld_trees.specs.Term.{Term, Terms, none, ◌▹◌}
use Rattle.ld_trees.specs.Substitution.{subst_all}
use Rattle.ld_terms.specs.Views.{Keeps, terms_of}
use Rattle.ld_terms.proofs.Arguments.{terms_of_end}
use Rattle.ld_terms.proofs.Turns.{keeps_both, keeps_all, keeps_map}
use Rattle.ld_terms.specs.declared.globals.Local.{Local}
use Rattle.ld_terms.specs.declared.globals.Item.{Item}
use Rattle.term_syntax.specs.declared.surface.Surface.{Surface}
use Rattle.conversion.specs.Globals.{IsDeclOf}
use Rattle.meta_context.specs.Plain.{plain_locals, plain_local}
use Rattle.unification.specs.Steps.{Gave, Step, go_on}
use Rattle.elaboration.specs.Refusals.{Refusal}
use Rattle.elaboration.specs.Elaboration.{Work, Made, Of, Surroundings, arguments, applied, elaborate}
use Rattle.elaborate.specs.Steps.{applied_to}
use Rattle.elaborate.specs.Standing.{IsRead, IsTypedIn, plain_work, plain_typed}
use Rattle.elaborate.specs.declared.standing.Work.{Work as StoredWork}
use Rattle.elaborate.specs.declared.standing.Typed.{Typed}
use Rattle.elaborate.specs.declared.standing.Here.{Here}
use Rattle.pattern_unify.proofs.Follow.{after}
use Rattle.elaborate.proofs.Parts.{applied_more}

-- ---- what is left of a list behind a place

all_left : {A B : Type 0} (r : A → B) (us : List A) → map r us ≡ map r (drop 0 us)
all_left r [] = refl
all_left r (u ∷ us) = refl

left_at : {A B : Type 0} (r : A → B) (us : List A) (i : ℕ) (u : A) → i < length us → u ≡ get_or us i u → map r (drop i us) ≡ r u ∷ map r (drop (i + 1) us)
left_at r us i u h is = ap (map r) (drop-cons us i u h) ∙ ap (λ v. r v ∷ map r (drop (suc i) us)) (sym is) ∙ (let e : suc i ≡ i + 1 = omega arith in ap (λ n. r u ∷ map r (drop n us)) e)

nothing_left : {A B : Type 0} (r : A → B) (us : List A) (i : ℕ) → length us ≤ i → map r (drop i us) ≡ []
nothing_left r us i h = ap (map r) (drop_all i us h)

-- ---- the arguments of a constant

-- After so many arguments are made the others are still to come.
pub record AreArguments {H : Type 0} (holds : H → Type 0) (means : H → Term) (holds' : H → Type 0) (means' : H → Term) (items : List (Item H)) (here : Here H) (us : List Surface) (params : List (Local H)) (work after : StoredWork H) (vs : List H) (i n n' : ℕ) : Type 0 where
  pub kept : Keeps holds means holds' means'
  pub less : n' ≤ n
  pub metas : All (IsDeclOf holds') after.metas
  pub made : All holds' vs
  pub value : (Δ : List (Item Term)) (w : Work) (s : Surroundings) → IsRead means items work here Δ w s
      → arguments Δ (map (elaborate Δ) us) (plain_locals means params) none w s n ≡ arguments Δ (map (elaborate Δ) (drop i us)) (map (plain_local means) (drop i params)) (terms_of (map means' vs)) (plain_work means' after) s n'

module _ {H : Type 0} {holds : H → Type 0} {means : H → Term} {items : List (Item H)} {here : Here H} (us : List Surface) (params : List (Local H)) (work : StoredWork H) where
  pub arguments_begin : (vs : List H) (n : ℕ) → vs ≡ [] → All (IsDeclOf holds) work.metas → AreArguments holds means holds means items here us params work work vs 0 n n
  arguments_begin vs n e held = record {
    kept = λ x h. (h, refl);
    less = omega arith;
    metas = held;
    made = λ k d l. absurd (omega (arith, ap (λ xs. length xs) e));
    value = λ Δ w s r.
        ap₂ (λ fs ps. arguments Δ fs ps none w s n) (all_left (elaborate Δ) us) (all_left (plain_local means) params)
        ∙ ap (λ xs. arguments Δ (map (elaborate Δ) (drop 0 us)) (map (plain_local means) (drop 0 params)) (terms_of (map means xs)) w s n) (sym e)
        ∙ ap (λ v. arguments Δ (map (elaborate Δ) (drop 0 us)) (map (plain_local means) (drop 0 params)) (terms_of (map means vs)) v s n) (sym r.work_is);
  }

  module _ {holds1 : H → Type 0} {means1 : H → Term} {before : StoredWork H} {vs : List H} {i n n1 : ℕ} (turn : AreArguments holds means holds1 means1 items here us params work before vs i n n1) where
    abbrev pub arguments_rest : List (Item Term) → Surroundings → Made → Step Refusal (Work × Terms)
    arguments_rest Δ s m = arguments Δ (map (elaborate Δ) (drop (i + 1) us)) (map (plain_local means) (drop (i + 1) params)) (terms_of (map means1 vs) ▹ m.term) m.work s

    -- the next argument comes first, against the type of its parameter with the earlier ones put in
    pub arguments_next : (u : Surface) (p : Local H) → i < length us → i < length params → u ≡ get_or us i u → p ≡ get_or params i p → (Δ : List (Item Term)) (w : Work) (s : Surroundings) → IsRead means items work here Δ w s
        → arguments Δ (map (elaborate Δ) us) (plain_locals means params) none w s n ≡ go_on (elaborate Δ u (Of (subst_all (terms_of (map means1 vs)) (means p.ty))) (plain_work means1 before) s n1) (arguments_rest Δ s)
    arguments_next u p lu lp iu ip Δ w s rd =
        turn.value Δ w s rd ∙ ap₂ (λ fs ps. arguments Δ fs ps (terms_of (map means1 vs)) (plain_work means1 before) s n1) (left_at (elaborate Δ) us i u lu iu) (left_at (plain_local means) params i p lp ip)

    -- one more argument
    pub arguments_turn : {holds2 holds3 : H → Type 0} {means2 means3 : H → Term} (u : Surface) (p : Local H) (r : Typed H) (after' : StoredWork H) (vs' : List H) (j n3 : ℕ) → i < length us → i < length params → u ≡ get_or us i u → p ≡ get_or params i p
        → Keeps holds1 means1 holds2 means2 → Keeps holds2 means2 holds3 means3 → IsTypedIn holds3 r → n3 ≤ n1 → after' ≡ r.work → vs' ≡ vs ++ r.term ∷ [] → j ≡ i + 1
        → ((Δ : List (Item Term)) (w : Work) (s : Surroundings) → IsRead means items work here Δ w s → elaborate Δ u (Of (subst_all (terms_of (map means1 vs)) (means p.ty))) (plain_work means1 before) s n1 ≡ Gave (plain_typed means3 r) n3)
        → AreArguments holds means holds3 means3 items here us params work after' vs' j n n3
    arguments_turn {holds2 = holds2} {holds3 = holds3} {means2 = means2} {means3 = means3} u p r after' vs' j n3 lu lp iu ip k1 k2 typed less ea ev ej gave =
        let k12 = keeps_both holds1 means1 holds2 means2 holds3 means3 k1 k2 in
        record {
          kept = keeps_both holds means holds1 means1 holds3 means3 turn.kept k12;
          less = let a = turn.less in omega arith;
          metas = rw ea typed.metas;
          made = rw ev (All-push holds3 vs r.term (keeps_all holds1 means1 holds3 means3 vs k12 turn.made) typed.term);
          value = λ Δ w s rd.
              let D = terms_of (map means1 vs) in
              let done : D ▹ means3 r.term ≡ terms_of (map means3 vs') = ap (λ xs. terms_of xs ▹ means3 r.term) (sym (keeps_map holds1 means1 holds3 means3 vs k12 turn.made)) ∙ sym (terms_of_end means3 vs r.term) ∙ ap (λ xs. terms_of (map means3 xs)) (sym ev) in
              arguments_next u p lu lp iu ip Δ w s rd
              ∙ after _ _ _ (arguments_rest Δ s) (gave Δ w s rd)
              ∙ ap₂ (λ k ts. arguments Δ (map (elaborate Δ) (drop k us)) (map (plain_local means) (drop k params)) ts (plain_work means3 r.work) s n3) (sym ej) done
              ∙ ap (λ v. arguments Δ (map (elaborate Δ) (drop j us)) (map (plain_local means) (drop j params)) (terms_of (map means3 vs')) (plain_work means3 v) s n3) (sym ea);
        }

    pub arguments_done : (Δ : List (Item Term)) (w : Work) (s : Surroundings) → length us ≤ i → IsRead means items work here Δ w s
        → arguments Δ (map (elaborate Δ) us) (plain_locals means params) none w s n ≡ Gave (plain_work means1 before, terms_of (map means1 vs)) n1
    arguments_done Δ w s l rd = turn.value Δ w s rd ∙ ap (λ fs. arguments Δ fs (map (plain_local means) (drop i params)) (terms_of (map means1 vs)) (plain_work means1 before) s n1) (nothing_left (elaborate Δ) us i l)

-- ---- the arguments of an application

-- After an application to so many arguments the others are still to come.
pub record IsApplied {H : Type 0} (holds : H → Type 0) (means : H → Term) (holds' : H → Type 0) (means' : H → Term) (items : List (Item H)) (here : Here H) (us : List Surface) (function after : Typed H) (i n n' : ℕ) : Type 0 where
  pub kept : Keeps holds means holds' means'
  pub less : n' ≤ n
  pub typed : IsTypedIn holds' after
  pub value : (Δ : List (Item Term)) (f : Made) (s : Surroundings) → IsRead means items function.work here Δ f.work s → means function.term ≡ f.term → means function.ty ≡ f.ty
      → applied Δ (map (elaborate Δ) us) f.work s f.term f.ty n ≡ applied Δ (map (elaborate Δ) (drop i us)) (plain_work means' after.work) s (means' after.term) (means' after.ty) n'

module _ {H : Type 0} {holds : H → Type 0} {means : H → Term} {items : List (Item H)} {here : Here H} (us : List Surface) (function : Typed H) where
  pub applied_begin : (n : ℕ) → IsTypedIn holds function → IsApplied holds means holds means items here us function function 0 n n
  applied_begin n held = record {
    kept = λ x h. (h, refl);
    less = omega arith;
    typed = held;
    value = λ Δ f s r p q.
        ap (λ fs. applied Δ fs f.work s f.term f.ty n) (all_left (elaborate Δ) us)
        ∙ ap (λ w. applied Δ (map (elaborate Δ) (drop 0 us)) w s f.term f.ty n) (sym r.work_is)
        ∙ ap₂ (λ t T. applied Δ (map (elaborate Δ) (drop 0 us)) (plain_work means function.work) s t T n) (sym p) (sym q);
  }

  module _ {holds1 : H → Type 0} {means1 : H → Term} {before : Typed H} {i n n1 : ℕ} (turn : IsApplied holds means holds1 means1 items here us function before i n n1) where
    abbrev pub applied_rest : List (Item Term) → Surroundings → Made → Step Refusal Made
    applied_rest Δ s m = applied Δ (map (elaborate Δ) (drop (i + 1) us)) m.work s m.term m.ty

    -- the next argument comes first
    pub applied_next : (u : Surface) → i < length us → u ≡ get_or us i u → (Δ : List (Item Term)) (f : Made) (s : Surroundings) → IsRead means items function.work here Δ f.work s → means function.term ≡ f.term → means function.ty ≡ f.ty
        → applied Δ (map (elaborate Δ) us) f.work s f.term f.ty n ≡ go_on (applied_to Δ (elaborate Δ u) (plain_typed means1 before) s n1) (applied_rest Δ s)
    applied_next u l is Δ f s rd p q =
        turn.value Δ f s rd p q
        ∙ ap (λ fs. applied Δ fs (plain_work means1 before.work) s (means1 before.term) (means1 before.ty) n1) (left_at (elaborate Δ) us i u l is)
        ∙ applied_more Δ (elaborate Δ u) (map (elaborate Δ) (drop (i + 1) us)) (plain_work means1 before.work) s (means1 before.term) (means1 before.ty) n1

    pub applied_turn : {holds2 : H → Type 0} {means2 : H → Term} (u : Surface) (r : Typed H) (j n2 : ℕ) → i < length us → u ≡ get_or us i u → Keeps holds1 means1 holds2 means2 → IsTypedIn holds2 r → n2 ≤ n1 → j ≡ i + 1
        → ((Δ : List (Item Term)) (f : Made) (s : Surroundings) → IsRead means items function.work here Δ f.work s → applied_to Δ (elaborate Δ u) (plain_typed means1 before) s n1 ≡ Gave (plain_typed means2 r) n2)
        → IsApplied holds means holds2 means2 items here us function r j n n2
    applied_turn {holds2 = holds2} {means2 = means2} u r j n2 l is k typed less ej gave = record {
      kept = keeps_both holds means holds1 means1 holds2 means2 turn.kept k;
      less = let a = turn.less in omega arith;
      typed = typed;
      value = λ Δ f s rd p q.
          applied_next u l is Δ f s rd p q
          ∙ after _ _ _ (applied_rest Δ s) (gave Δ f s rd)
          ∙ ap (λ k. applied Δ (map (elaborate Δ) (drop k us)) (plain_work means2 r.work) s (means2 r.term) (means2 r.ty) n2) (sym ej);
    }

    pub applied_done : (Δ : List (Item Term)) (f : Made) (s : Surroundings) → length us ≤ i → IsRead means items function.work here Δ f.work s → means function.term ≡ f.term → means function.ty ≡ f.ty
        → applied Δ (map (elaborate Δ) us) f.work s f.term f.ty n ≡ Gave (plain_typed means1 before) n1
    applied_done Δ f s l rd p q = turn.value Δ f s rd p q ∙ ap (λ fs. applied Δ fs (plain_work means1 before.work) s (means1 before.term) (means1 before.ty) n1) (nothing_left (elaborate Δ) us i l)
