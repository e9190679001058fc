-- How the outcome of scoping a node follows from its parts, over a store that grows.
use Rattle.std.proofs.Common.{◌≡◌, ℕ, zero, suc, ◌+◌, ◌<◌, ◌≤◌, List, [], ◌∷◌, ◌++◌, length, get_or, drop, map, Option, Ok, All, refl, ap, sym, ◌∙◌, arith, subst, drop-cons}
use denote.Bor.{Bor}
use Rattle.std.specs.Option.{option_copied}
use Rattle.ld_trees.specs.Term.{Term, Terms, none, ◌▹◌, App}
use Rattle.ld_terms.specs.Views.{Keeps, terms_of}
use Rattle.ld_terms.proofs.Arguments.{terms_of_end}
use Rattle.ld_terms.proofs.Turns.{keeps_both, keeps_all, keeps_map}
use Rattle.term_syntax.specs.declared.surface.Label.{Label}
use Rattle.term_syntax.specs.declared.surface.Surface.{Surface}
use Rattle.term_syntax.specs.declared.scope_fault.ScopeFault.{ScopeFault}
use Rattle.term_syntax.specs.declared.scope_fault.ScopeFault.TheVariants.{UnknownName, WrongCount, Unsolved, Memory}
use Rattle.term_syntax.specs.Scoping.{Bound, Resolved, ◌>>=◌, applied, arguments, below, scope, Arities}
use Rattle.term_syntax.specs.Printing.{Names}
use Rattle.term_text.specs.Scoped.{bound_onto, bound_of, Refuses}

-- a refusal of the first step is the whole's
pub refused : {A B : Type 0} (o : Resolved A) (f : A → Resolved B) (e : ScopeFault) → Refuses o e → Refuses (o >>= f) e
refused o f Memory h = tt
refused o f (UnknownName at a) h = ap (λ o. o >>= f) h
refused o f (WrongCount at a given wanted) h = ap (λ o. o >>= f) h
refused o f (Unsolved at) h = ap (λ o. o >>= f) h

-- ---- one more handle

all_push : {H : Type 0} (p : H → Type 0) (xs : List H) (x : H) → All p xs → p x → All p (xs ++ x ∷ [])
all_push p [] x a h zero d lt = h
all_push p [] x a h (suc k) d lt = absurd (omega arith)
all_push p (y ∷ ys) x a h zero d lt = a 0 y (omega arith)
all_push p (y ∷ ys) x a h (suc k) d lt = all_push p ys x (λ j e l. a (suc j) e (omega arith)) h k d (omega arith)

-- ---- binders

onto_more : (outer : Bound) (ls : List (Option (Bor Label))) (l : Option (Bor Label)) → bound_onto outer (ls ++ l ∷ []) ≡ option_copied l ∷ bound_onto outer ls
onto_more outer [] l = refl
onto_more outer (k ∷ ls) l = onto_more (option_copied k ∷ outer) ls l

pub pushed : (ls : List (Option (Bor Label))) (l : Option (Bor Label)) → bound_of (ls ++ l ∷ []) ≡ option_copied l ∷ bound_of ls
pushed ls l = onto_more [] ls l

-- ---- what is left of a list of trees

left : {A B : Type 0} (r : A → B) (us : List A) (i : ℕ) (u : A) → i < length us → u ≡ get_or us i u → map r (drop i us) ≡ r u ∷ map r (drop (i + 1) us)
left r us i u h is = ap (map r) (drop-cons us i u h) ∙ ap (λ v. r v ∷ map r (drop (suc i) us)) (sym is) ∙ (let e : suc i ≡ i + 1 = omega arith in ap (λ n. r u ∷ map r (drop n us)) e)

pub nothing_left : {A B : Type 0} (r : A → B) (us : List A) (i : ℕ) → length us ≤ i → map r (drop i us) ≡ []
nothing_left r [] i h = at i where
  at : (i : ℕ) → map r (drop i []) ≡ []
  at zero = refl
  at (suc i) = refl
nothing_left r (u ∷ us) zero h = absurd (omega arith)
nothing_left r (u ∷ us) (suc i) h = nothing_left r us i (omega arith)

-- ---- an application with all of its arguments

-- so many arguments are applied, and the rest decides the outcome
pub record Spine {H : Type 0} (p : H → Type 0) (m : H → Term) (q : H → Type 0) (n : H → Term) (outcome : Resolved Term) (rest : List (Resolved Term)) (h : H) : Type 0 where
  pub kept : Keeps p m q n
  pub held : q h
  pub is : outcome ≡ applied (n h) rest

pub spine_turn : {H : Type 0} {p q q' q'' : H → Type 0} {m n n' n'' : H → Term} {outcome : Resolved Term} {h : H}
    (r : Surface → Resolved Term) (us : List Surface) (i : ℕ) (u : Surface) (a h' : H) → Spine p m q n outcome (map r (drop i us)) h → i < length us → u ≡ get_or us i u
    → Keeps q n q' n' → r u ≡ Ok (n' a) → Keeps q' n' q'' n'' → q'' h' → n'' h' ≡ App (n' h) (n' a) → Spine p m q'' n'' outcome (map r (drop (i + 1) us)) h'
spine_turn {p = p} {q = q} {q' = q'} {q'' = q''} {m = m} {n = n} {n' = n'} {n'' = n''} {h = h} r us i u a h' s lt is k scoped k' held made = record {
  kept = keeps_both p m q n q'' n'' s.kept (keeps_both q n q' n' q'' n'' k k');
  held = held;
  is =
      s.is
      ∙ ap (applied (n h)) (left r us i u lt is)
      ∙ ap (λ o. o >>= (λ a. applied (App (n h) a) (map r (drop (i + 1) us)))) scoped
      ∙ ap (λ f. applied (App f (n' a)) (map r (drop (i + 1) us))) (sym (k h s.held).1)
      ∙ ap (λ f. applied f (map r (drop (i + 1) us))) (sym made);
}

pub spine_refused : {H : Type 0} {p q : H → Type 0} {m n : H → Term} {outcome : Resolved Term} {h : H}
    (r : Surface → Resolved Term) (us : List Surface) (i : ℕ) (u : Surface) (e : ScopeFault) → Spine p m q n outcome (map r (drop i us)) h → i < length us → u ≡ get_or us i u
    → Refuses (r u) e → Refuses outcome e
spine_refused {n = n} {h = h} r us i u e s lt is bad =
    subst (λ o. Refuses o e) (sym (s.is ∙ ap (applied (n h)) (left r us i u lt is))) (refused (r u) (λ a. applied (App (n h) a) (map r (drop (i + 1) us))) e bad)

pub spine_done : {H : Type 0} {p q : H → Type 0} {m n : H → Term} {outcome : Resolved Term} {h : H}
    (r : Surface → Resolved Term) (us : List Surface) (i : ℕ) → Spine p m q n outcome (map r (drop i us)) h → length us ≤ i → outcome ≡ Ok (n h)
spine_done {n = n} {h = h} r us i s over = s.is ∙ ap (applied (n h)) (nothing_left r us i over)

-- ---- arguments of a constant

pub record Each {H : Type 0} (p : H → Type 0) (m : H → Term) (q : H → Type 0) (n : H → Term) (outcome : Resolved Terms) (rest : List (Resolved Term)) (out : List H) : Type 0 where
  pub kept : Keeps p m q n
  pub held : All q out
  pub is : outcome ≡ arguments (terms_of (map n out)) rest

pub each_turn : {H : Type 0} {p q q' : H → Type 0} {m n n' : H → Term} {outcome : Resolved Terms} {out : List H}
    (r : Surface → Resolved Term) (us : List Surface) (i : ℕ) (u : Surface) (a : H) → Each p m q n outcome (map r (drop i us)) out → i < length us → u ≡ get_or us i u
    → Keeps q n q' n' → q' a → r u ≡ Ok (n' a) → Each p m q' n' outcome (map r (drop (i + 1) us)) (out ++ a ∷ [])
each_turn {p = p} {q = q} {q' = q'} {m = m} {n = n} {n' = n'} {out = out} r us i u a s lt is k held scoped = record {
  kept = keeps_both p m q n q' n' s.kept k;
  held = all_push q' out a (keeps_all q n q' n' out k s.held) held;
  is =
      s.is
      ∙ ap (arguments (terms_of (map n out))) (left r us i u lt is)
      ∙ ap (λ o. o >>= (λ v. arguments (terms_of (map n out) ▹ v) (map r (drop (i + 1) us)))) scoped
      ∙ ap (λ ts. arguments (terms_of ts ▹ n' a) (map r (drop (i + 1) us))) (sym (keeps_map q n q' n' out k s.held))
      ∙ ap (λ us'. arguments us' (map r (drop (i + 1) us))) (sym (terms_of_end n' out a));
}

pub each_refused : {H : Type 0} {p q : H → Type 0} {m n : H → Term} {outcome : Resolved Terms} {out : List H}
    (r : Surface → Resolved Term) (us : List Surface) (i : ℕ) (u : Surface) (e : ScopeFault) → Each p m q n outcome (map r (drop i us)) out → i < length us → u ≡ get_or us i u
    → Refuses (r u) e → Refuses outcome e
each_refused {n = n} {out = out} r us i u e s lt is bad =
    subst (λ o. Refuses o e) (sym (s.is ∙ ap (arguments (terms_of (map n out))) (left r us i u lt is))) (refused (r u) (λ v. arguments (terms_of (map n out) ▹ v) (map r (drop (i + 1) us))) e bad)

pub each_done : {H : Type 0} {p q : H → Type 0} {m n : H → Term} {outcome : Resolved Terms} {out : List H}
    (r : Surface → Resolved Term) (us : List Surface) (i : ℕ) → Each p m q n outcome (map r (drop i us)) out → length us ≤ i → outcome ≡ Ok (terms_of (map n out))
each_done {n = n} {out = out} r us i s over = s.is ∙ ap (arguments (terms_of (map n out))) (nothing_left r us i over)

-- what trees mean, one by one
pub results : (arity : Arities) (names : Names) (bound : Bound) (us : List Surface) → below bound (map (scope arity names) us) ≡ map (λ u. scope arity names u bound) us
results arity names bound [] = refl
results arity names bound (u ∷ us) = ap (λ rs. scope arity names u bound ∷ rs) (results arity names bound us)

all_left : {A B : Type 0} (r : A → B) (us : List A) → map r (drop 0 us) ≡ map r us
all_left r [] = refl
all_left r (u ∷ us) = refl

pub before_all : (arity : Arities) (names : Names) (bound : Bound) (us : List Surface) → below bound (map (scope arity names) us) ≡ map (λ u. scope arity names u bound) (drop 0 us)
before_all arity names bound us = results arity names bound us ∙ sym (all_left (λ u. scope arity names u bound) us)

pub each_init : {H : Type 0} {p : H → Type 0} {m : H → Term} (outcome : Resolved Terms) (rest : List (Resolved Term)) (out : List H) → out ≡ [] → outcome ≡ arguments none rest → Each p m p m outcome rest out
each_init {m = m} outcome rest out e is = record {
  kept = λ h held. (held, refl);
  held = λ k d lt. absurd (omega (arith, ap (λ xs. length xs) e));
  is = is ∙ ap (λ us. arguments (terms_of (map m us)) rest) (sym e);
}

pub spine_init : {H : Type 0} {p : H → Type 0} {m : H → Term} (outcome : Resolved Term) (rest : List (Resolved Term)) (h : H) → p h → outcome ≡ applied (m h) rest → Spine p m p m outcome rest h
spine_init outcome rest h held is = record { kept = λ h held. (held, refl); held = held; is = is }

pub ruleset scope_laws = (refused, pushed, results)
