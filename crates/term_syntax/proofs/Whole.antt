-- Reading a term looks no further than the next token, although `(`, a name and `:` are seen at once.
use Rattle.std.proofs.Common.{◌≡◌, ℕ, zero, suc, ◌+◌, ◌<◌, ◌≤◌, Bool, true, false, ◌&&◌, ◌||◌, if◌then◌else◌, inl, inr, ◌⊎◌, List, [], ◌∷◌, ◌++◌, length, Ok, Err, Some, None, refl, ap, sym, ◌∙◌, arith, length-append}
use Rattle.std.proofs.lemmas.Bool.{false≢true}
use Rattle.term_syntax.specs.declared.surface.Surface.{Surface}
use Rattle.term_syntax.specs.declared.surface.Label.{Label}
use Rattle.term_syntax.specs.declared.surface.Shape.TheVariants as shape
use Rattle.term_syntax.specs.declared.kind.Kind.{Kind}
use Rattle.term_syntax.specs.declared.kind.Kind.TheVariants as k
use Rattle.term_syntax.specs.Lex.{Lexeme}
use Rattle.term_syntax.specs.Kinds.{is_kind}
use Rattle.term_syntax.specs.Input.{Input, kind, kind_of, tail_of, place, begins_binder}
use Rattle.term_syntax.specs.Grammar as grammar
use Rattle.term_syntax.specs.Grammar.{IsLabel, node}
use Rattle.term_syntax.specs.Reading.{Outcome, Parser, and_then, ◌>>=◌, ◌>>◌, pure, sees, expect, eat, label_at, binder, parenthesized, abstraction, product, atom_by, atom, atoms, applied, app, arrows, whole, term}
use Rattle.term_syntax.proofs.Progress.{left, Shorter, term_shorter}
use Rattle.term_syntax.proofs.Sound.{same_kind}
use Rattle.term_syntax.proofs.Complete.{expect_runs, label_runs}
use Rattle.term_syntax.proofs.Local.{Head, head_after, head_kind, same_kind_of, OkAgain, ErrAgain, Local, local_then, local_pure, local_refuse, local_expect, local_eat, end_arrow, local_abstraction, local_product}
use Rattle.term_syntax.proofs.Loops.{local_atoms, local_arrows}

-- what is left after a refusal is no longer, nor after an answer
err_left : {A : Type 0} (p : Parser A) → Local p → (i r : Input) → p i ≡ Err r → left r ≤ left i
err_left p m i r e = let x = m.err i r e in omega (arith, ap (λ ls. length ls) x.1, length-append x.0 r.ahead)

-- a name or a level name
abbrev names : Kind → Bool
names t = is_kind t k.Name || is_kind t k.Level

label_of : (n : Lexeme) (b : Bool) → is_kind n.kind k.Name ≡ b → names n.kind ≡ true → (x : Label) × IsLabel n x
label_of n true e h = (_, grammar.name (same_kind n.kind k.Name e))
label_of n false e h = (_, grammar.level (same_kind n.kind k.Level (ap (λ b. b || is_kind n.kind k.Level) (sym e) ∙ h)))

middle : (a b c : Bool) → b ≡ false → (a && b && c) ≡ false
middle true b c e = rw e refl
middle false b c e = refl

conjuncts : (a b c : Bool) → (a && b && c) ≡ true → (a ≡ true) × (b ≡ true)
conjuncts true true c e = (refl, refl)
conjuncts true false c e = absurd (false≢true e)
conjuncts false b c e = absurd (false≢true e)

binder_tokens : (ls : List Lexeme) → begins_binder ls ≡ true → (o : Lexeme) × (n : Lexeme) × (ts : List Lexeme) × (ls ≡ o ∷ n ∷ ts) × (is_kind o.kind k.Open ≡ true) × (names n.kind ≡ true)
unfolding is_kind
binder_tokens [] e = absurd (false≢true e)
binder_tokens (o ∷ []) e = absurd (false≢true ((conjuncts (is_kind o.kind k.Open) (names k.End) _ e).1))
binder_tokens (o ∷ n ∷ ts) e = let x = conjuncts (is_kind o.kind k.Open) (names n.kind) _ e in (o, n, ts, refl, x.0, x.1)

no_open : (ls : List Lexeme) → is_kind (kind_of ls) k.Open ≡ false → begins_binder ls ≡ false
no_open ls e = rw e refl

no_name : (ls : List Lexeme) → names (kind_of (tail_of ls)) ≡ false → begins_binder ls ≡ false
no_name ls e = middle (is_kind (kind_of ls) k.Open) (names (kind_of (tail_of ls))) _ e

opens : (ls : List Lexeme) → is_kind (kind_of ls) k.Open ≡ true → (o : Lexeme) × (ts : List Lexeme) × (ls ≡ o ∷ ts) × (o.kind ≡ k.Open)
unfolding is_kind
opens [] e = absurd (false≢true e)
opens (o ∷ ts) e = (o, ts, refl, same_kind o.kind k.Open e)

-- the tokens that were taken decide whether a binder begins
abbrev Decided : Input → List Lexeme → Type 0
Decided i pre = (2 ≤ length pre) ⊎ ((is_kind (kind i) k.Open ≡ false) ⊎ ((1 ≤ length pre) × (names (kind_of (tail_of i.ahead)) ≡ false)))

same_far : (pre s t : List Lexeme) → Head s t → 2 ≤ length pre → begins_binder (pre ++ s) ≡ begins_binder (pre ++ t)
same_far [] s t h n = absurd (omega arith)
same_far (x ∷ []) s t h n = absurd (omega arith)
same_far (x ∷ y ∷ pre) s t h n = ap (λ c. is_kind x.kind k.Open && names y.kind && is_kind c k.Colon) (head_kind (pre ++ s) (pre ++ t) (head_after pre s t h))

second_same : (pre s t : List Lexeme) → Head s t → 1 ≤ length pre → kind_of (tail_of (pre ++ s)) ≡ kind_of (tail_of (pre ++ t))
second_same [] s t h n = absurd (omega arith)
second_same (x ∷ pre) s t h n = head_kind (pre ++ s) (pre ++ t) (head_after pre s t h)

same_binder : (i r : Input) (pre : List Lexeme) → i.ahead ≡ pre ++ r.ahead → Decided i pre → (j : Input) (tail : List Lexeme) → Head tail r.ahead → j.ahead ≡ pre ++ tail → begins_binder j.ahead ≡ begins_binder i.ahead
same_binder i r pre ei d j tail h ej = elim d [
  | inl n ↦ ap begins_binder ej ∙ same_far pre tail r.ahead h n ∙ sym (ap begins_binder ei)
  | inr c ↦ elim c [
    | inl e ↦ no_open j.ahead (ap (λ t. is_kind t k.Open) (same_kind_of pre tail r.ahead j i ej ei h) ∙ e) ∙ sym (no_open i.ahead e)
    | inr x ↦ no_name j.ahead (ap (λ ls. names (kind_of (tail_of ls))) ej ∙ ap names (second_same pre tail r.ahead h x.0) ∙ sym (ap (λ ls. names (kind_of (tail_of ls))) ei) ∙ x.1) ∙ sym (no_name i.ahead x.1)
  ]
]

-- the same as another parser, wherever the tokens are the same up to the next
ok_as : {A : Type 0} (p q : Parser A) (i : Input) (a : A) (r : Input) → OkAgain q i a r → ((pre : List Lexeme) → i.ahead ≡ pre ++ r.ahead → (j : Input) (tail : List Lexeme) → Head tail r.ahead → j.ahead ≡ pre ++ tail → p j ≡ q j) → OkAgain p i a r
ok_as p q i a r x f = (x.0, x.1, λ j tail h ej. let y = x.2 j tail h ej in (y.0, f x.0 x.1 j tail h ej ∙ y.1, y.2))

err_as : {A : Type 0} (p q : Parser A) (i r : Input) → ErrAgain q i r → ((pre : List Lexeme) → i.ahead ≡ pre ++ r.ahead → (j : Input) (tail : List Lexeme) → Head tail r.ahead → j.ahead ≡ pre ++ tail → p j ≡ q j) → ErrAgain p i r
err_as p q i r x f = (x.0, x.1, λ j tail h ej. let y = x.2 j tail h ej in (y.0, f x.0 x.1 j tail h ej ∙ y.1))

taken : (i r : Input) (pre : List Lexeme) (n : ℕ) → i.ahead ≡ pre ++ r.ahead → left r + n ≤ left i → n ≤ length pre
taken i r pre n e h = omega (arith, ap (λ ls. length ls) e, length-append pre r.ahead)

-- a parser that refuses whatever it has before it
record Fails {A : Type 0} (p : Parser A) : Type 0 where
  pub run : (i : Input) → (r : Input) × (p i ≡ Err r)

fails_first : {A B : Type 0} {p : Parser A} (f : A → Parser B) → Fails p → Fails (p >>= f)
fails_first f m = record { run = λ i. let x = m.run i in (x.0, ap (λ o. and_then o f) x.1) }

fails_at : {A B : Type 0} (f : A → Parser B) → ((a : A) → Fails (f a)) → (o : Outcome A) → (r : Input) × (and_then o f ≡ Err r)
fails_at f n (Ok p) = (n p.0).run p.1
fails_at f n (Err r) = (r, refl)

fails_later : {A B : Type 0} (p : Parser A) {f : A → Parser B} → ((a : A) → Fails (f a)) → Fails (p >>= f)
fails_later p {f = f} n = record { run = λ i. fails_at f n (p i) }

module _ (inner : Parser Surface) where
  whole_fun : (i : Input) → sees k.Fun i ≡ true → whole inner i ≡ abstraction inner i
  unfolding whole
  whole_fun i e = rw e refl

  whole_binder : (i : Input) → sees k.Fun i ≡ false → begins_binder i.ahead ≡ true → whole inner i ≡ product inner i
  unfolding whole
  whole_binder i e b = rw (e, b) refl

  whole_plain : (i : Input) → sees k.Fun i ≡ false → begins_binder i.ahead ≡ false → whole inner i ≡ arrows inner i
  unfolding whole
  whole_plain i e b = rw (e, b) refl

  -- what a product goes on with behind its label
  abbrev behind_label : ℕ → Label → Parser Surface
  behind_label at x = (expect k.Colon >> (inner >>= (λ ty. expect k.Close >> pure (x, ty)))) >>= (λ (b : Label × Surface). expect k.Arrow >> (inner >>= (λ body. pure (node at (shape.Pi (Some b.0) b.1 body)))))

  local_behind_label : Local inner → (at : ℕ) (x : Label) → Local (behind_label at x)
  local_behind_label m at x = local_then _ (local_then _ (local_expect k.Colon (λ h. cc)) (λ _. local_then _ m (λ ty. local_then _ (local_expect k.Close (λ h. cc)) (λ _. local_pure (x, ty)))))
      (λ b. local_then _ (local_expect k.Arrow (λ h. cc)) (λ _. local_then _ m (λ body. local_pure (node at (shape.Pi (Some b.0) b.1 body)))))

  product_at : (i : Input) → begins_binder i.ahead ≡ true → (x : Label) × (j : Input) × (left j + 2 ≡ left i) × (product inner i ≡ behind_label (place i) x j)
  unfolding product binder
  product_at i e =
      let t = binder_tokens i.ahead e in
      let x = label_of t.1 (is_kind t.1.kind k.Name) refl t.5 in
      let a = (expect_runs t.0 (t.1 ∷ t.2) (same_kind t.0.kind k.Open t.4)).run i t.3 in
      let b = (label_runs t.2 x.1).run a.0 a.2 in (
        x.0,
        b.0,
        omega (arith, ap (λ ls. length ls) b.2, ap (λ ls. length ls) t.3),
        ap (λ o. and_then (and_then o (λ _. label_at >>= (λ x. expect k.Colon >> (inner >>= (λ ty. expect k.Close >> pure (x, ty)))))) (λ (b : Label × Surface). expect k.Arrow >> (inner >>= (λ body. pure (node (place i) (shape.Pi (Some b.0) b.1 body)))))) a.1
            ∙ ap (λ o. and_then (and_then o (λ x. expect k.Colon >> (inner >>= (λ ty. expect k.Close >> pure (x, ty))))) (λ (b : Label × Surface). expect k.Arrow >> (inner >>= (λ body. pure (node (place i) (shape.Pi (Some b.0) b.1 body)))))) b.1,
      )

  -- what arrows go on with behind the term in a first parenthesis
  abbrev behind_inner : ℕ → Surface → Parser Surface
  behind_inner at t = ((expect k.Close >> pure t) >>= (λ head. atoms inner >>= (λ others. pure (applied at head others)))) >>= (λ from. eat k.Arrow >>= (λ b. if b then (inner >>= (λ to. pure (node at (shape.Pi None from to)))) else pure from))

  regroup : (at : ℕ) (o : Outcome Surface) → and_then (and_then (and_then o (λ t. expect k.Close >> pure t)) (λ head. atoms inner >>= (λ others. pure (applied at head others)))) (λ from. eat k.Arrow >>= (λ b. if b then (inner >>= (λ to. pure (node at (shape.Pi None from to)))) else pure from))
      ≡ and_then o (behind_inner at)
  regroup at (Ok p) = refl
  regroup at (Err r) = refl

  arrows_at : (i : Input) → is_kind (kind i) k.Open ≡ true → (j : Input) × (left j + 1 ≡ left i) × (tail_of i.ahead ≡ j.ahead) × (arrows inner i ≡ and_then (inner j) (behind_inner (place i)))
  unfolding arrows app atom parenthesized
  arrows_at i e =
      let t = opens i.ahead e in
      let a = (expect_runs t.0 t.1 t.3).run i t.2 in
      let go : Outcome Surface → Outcome Surface = λ o. and_then (and_then o (λ head. atoms inner >>= (λ others. pure (applied (place i) head others)))) (λ from. eat k.Arrow >>= (λ b. if b then (inner >>= (λ to. pure (node (place i) (shape.Pi None from to)))) else pure from)) in (
        a.0,
        omega (arith, ap (λ ls. length ls) a.2, ap (λ ls. length ls) t.2),
        ap tail_of t.2 ∙ sym a.2,
        ap (λ c. go (atom_by inner (place i) c i)) (same_kind (kind i) k.Open e)
            ∙ ap (λ o. go (and_then o (λ _. inner >>= (λ t. expect k.Close >> pure t)))) a.1
            ∙ regroup (place i) (inner a.0),
      )

  atom_label : (at : ℕ) (t : Kind) → names t ≡ true → atom_by inner at t ≡ (label_at >>= (λ x. pure (node at (shape.Named x))))
  unfolding is_kind
  atom_label at k.Name e = refl
  atom_label at k.Level e = refl
  atom_label at _ e = absurd (false≢true e)

  -- what arrows go on with behind a label
  abbrev behind_named : ℕ → Label → Parser Surface
  behind_named at x = (atoms inner >>= (λ others. pure (applied at (node at (shape.Named x)) others))) >>= (λ from. eat k.Arrow >>= (λ b. if b then (inner >>= (λ to. pure (node at (shape.Pi None from to)))) else pure from))

  named_at : (i : Input) → names (kind i) ≡ true → (n : Lexeme) (ts : List Lexeme) → i.ahead ≡ n ∷ ts → (x : Label) × (j : Input) × (left j < left i) × (arrows inner i ≡ behind_named (place i) x j)
  unfolding arrows app atom
  named_at i e n ts is =
      let x = label_of n (is_kind n.kind k.Name) refl (sym (ap (λ ls. names (kind_of ls)) is) ∙ e) in
      let b = (label_runs ts x.1).run i is in
      let go : Outcome Surface → Outcome Surface = λ o. and_then (and_then o (λ head. atoms inner >>= (λ others. pure (applied (place i) head others)))) (λ from. eat k.Arrow >>= (λ b. if b then (inner >>= (λ to. pure (node (place i) (shape.Pi None from to)))) else pure from)) in (
        x.0,
        b.0,
        omega (arith, ap (λ ls. length ls) b.2, ap (λ ls. length ls) is),
        ap (λ (p : Parser Surface). go (p i)) (atom_label (place i) (kind i) e)
            ∙ ap (λ o. go (and_then o (λ x. pure (node (place i) (shape.Named x))))) b.1,
      )

no_label_kind : (t : Kind) → names t ≡ true → (is_kind t k.Fun ≡ false) × (is_kind t k.Open ≡ false)
unfolding is_kind
no_label_kind k.Name e = (refl, refl)
no_label_kind k.Level e = (refl, refl)
no_label_kind _ e = absurd (false≢true e)

no_fun_open : (t : Kind) → is_kind t k.Open ≡ true → is_kind t k.Fun ≡ false
unfolding is_kind
no_fun_open k.Open e = refl
no_fun_open _ e = absurd (false≢true e)

names_first : (ls : List Lexeme) → names (kind_of ls) ≡ true → (n : Lexeme) × (ts : List Lexeme) × (ls ≡ n ∷ ts)
unfolding is_kind
names_first [] e = absurd (false≢true e)
names_first (n ∷ ts) e = (n, ts, refl)

-- a term that begins with a label is never refused there
abbrev Settled : Parser Surface → Type 0
Settled p = (i r : Input) → names (kind i) ≡ true → p i ≡ Err r → left r < left i

module _ (inner : Parser Surface) (m : Local inner) (s : Shorter inner) where
  local_joined : (at : ℕ) (from : Surface) → Local (eat k.Arrow >>= (λ b. if b then (inner >>= (λ to. pure (node at (shape.Pi None from to)))) else pure from))
  local_joined at from = local_eat k.Arrow end_arrow (local_then _ m (λ to. local_pure (node at (shape.Pi None from to)))) (local_pure from)

  local_applied : (at : ℕ) (head : Surface) → Local (atoms inner >>= (λ others. pure (applied at head others)))
  local_applied at head = local_then _ (local_atoms inner s m) (λ others. local_pure (applied at head others))

  local_behind_inner : (at : ℕ) (t : Surface) → Local (behind_inner inner at t)
  local_behind_inner at t = local_then _ (local_then _ (local_then _ (local_expect k.Close (λ h. cc)) (λ _. local_pure t)) (local_applied at)) (local_joined at)

  settled_whole : Settled (whole inner)
  settled_whole i r e bad =
      let t = names_first i.ahead e in
      let o = no_label_kind (kind i) e in
      let x = named_at inner i e t.0 t.1 t.2 in
      omega (arith, x.2, err_left (behind_named inner (place i) x.0) (local_then _ (local_applied (place i) (node (place i) (shape.Named x.0))) (local_joined (place i))) x.1 r (sym x.3 ∙ sym (whole_plain inner i o.0 (no_open i.ahead o.1)) ∙ bad))

  ok_far : (j : Input) (at : ℕ) (o : Outcome Surface) → inner j ≡ o → (a : Surface) (r : Input) → and_then o (behind_inner inner at) ≡ Ok (a, r) → left r < left j
  ok_far j at (Ok p) is a r e = let x = (local_behind_inner at p.0).ok p.1 a r e in omega (arith, s j p.0 p.1 is, ap (λ ls. length ls) x.1, length-append x.0 r.ahead)
  ok_far j at (Err q) is a r e = cc e

  err_far : (j : Input) (at : ℕ) (o : Outcome Surface) → inner j ≡ o → (r : Input) → and_then o (behind_inner inner at) ≡ Err r → (left r < left j) ⊎ ((left r ≤ left j) × (inner j ≡ Err r))
  err_far j at (Ok p) is r e = inl (omega (arith, s j p.0 p.1 is, err_left (behind_inner inner at p.0) (local_behind_inner at p.0) p.1 r e))
  err_far j at (Err q) is r e = let got : inner j ≡ Err r = is ∙ e in inr (err_left inner m j r got, got)

  product_ok_far : (i : Input) (a : Surface) (r : Input) → begins_binder i.ahead ≡ true → product inner i ≡ Ok (a, r) → left r + 2 ≤ left i
  product_ok_far i a r b e =
      let x = product_at inner i b in
      let y = (local_behind_label inner m (place i) x.0).ok x.1 a r (sym x.3 ∙ e) in
      omega (arith, x.2, ap (λ ls. length ls) y.1, length-append y.0 r.ahead)

  product_err_far : (i r : Input) → begins_binder i.ahead ≡ true → product inner i ≡ Err r → left r + 2 ≤ left i
  product_err_far i r b e =
      let x = product_at inner i b in
      omega (arith, x.2, err_left (behind_label inner (place i) x.0) (local_behind_label inner m (place i) x.0) x.1 r (sym x.3 ∙ e))

  arrows_ok_decided : (i : Input) (a : Surface) (r : Input) → arrows inner i ≡ Ok (a, r) → (pre : List Lexeme) → i.ahead ≡ pre ++ r.ahead → (b : Bool) → is_kind (kind i) k.Open ≡ b → Decided i pre
  arrows_ok_decided i a r e pre ei false eb = inr (inl eb)
  arrows_ok_decided i a r e pre ei true eb =
      let x = arrows_at inner i eb in
      inl (taken i r pre 2 ei (omega (arith, x.1, ok_far x.0 (place i) (inner x.0) refl a r (sym x.3 ∙ e))))

  near_decided : Settled inner → (i j r : Input) → left j + 1 ≡ left i → tail_of i.ahead ≡ j.ahead → left r ≤ left j → inner j ≡ Err r → (pre : List Lexeme) → i.ahead ≡ pre ++ r.ahead → (b : Bool) → names (kind j) ≡ b → Decided i pre
  near_decided g i j r one behind near bad pre ei false eb = inr (inr (taken i r pre 1 ei (omega (arith, one, near)), ap (λ ls. names (kind_of ls)) behind ∙ eb))
  near_decided g i j r one behind near bad pre ei true eb = inl (taken i r pre 2 ei (omega (arith, one, g j r eb bad)))

  arrows_err_decided : Settled inner → (i r : Input) → arrows inner i ≡ Err r → (pre : List Lexeme) → i.ahead ≡ pre ++ r.ahead → (b : Bool) → is_kind (kind i) k.Open ≡ b → Decided i pre
  arrows_err_decided g i r e pre ei false eb = inr (inl eb)
  arrows_err_decided g i r e pre ei true eb =
      let x = arrows_at inner i eb in
      elim (err_far x.0 (place i) (inner x.0) refl r (sym x.3 ∙ e)) [
        | inl far ↦ inl (taken i r pre 2 ei (omega (arith, x.1, far)))
        | inr near ↦ near_decided g i x.0 r x.1 x.2 near.0 near.1 pre ei (names (kind x.0)) refl
      ]

  failing_behind : Fails inner → (at : ℕ) (x : Label) → Fails (behind_label inner at x)
  failing_behind f at x = fails_first (λ (b : Label × Surface). expect k.Arrow >> (inner >>= (λ body. pure (node at (shape.Pi (Some b.0) b.1 body)))))
      (fails_later {A = Unit {0}} {B = Label × Surface} (expect k.Colon) {f = λ _. inner >>= (λ ty. expect k.Close >> pure (x, ty))} (λ _. fails_first (λ ty. expect k.Close >> pure (x, ty)) f))

  -- what begins with `(` and where the term inside is always refused is refused
  open_fails : Fails inner → (j : Input) → is_kind (kind j) k.Open ≡ true → (b : Bool) → begins_binder j.ahead ≡ b → (r : Input) × (whole inner j ≡ Err r)
  open_fails f j e true eb =
      let x = product_at inner j eb in
      let y = (failing_behind f (place j) x.0).run x.1 in
      (y.0, whole_binder inner j (no_fun_open (kind j) e) eb ∙ x.3 ∙ y.1)
  open_fails f j e false eb =
      let x = arrows_at inner j e in
      let y = f.run x.0 in
      (y.0, whole_plain inner j (no_fun_open (kind j) e) eb ∙ x.3 ∙ ap (λ o. and_then o (behind_inner inner (place j))) y.1)

  same_fun : (i r : Input) (b : Bool) → sees k.Fun i ≡ b → (pre : List Lexeme) → i.ahead ≡ pre ++ r.ahead → (j : Input) (tail : List Lexeme) → Head tail r.ahead → j.ahead ≡ pre ++ tail → sees k.Fun j ≡ b
  same_fun i r b e pre ei j tail h ej = ap (λ t. is_kind t k.Fun) (same_kind_of pre tail r.ahead j i ej ei h) ∙ e

  whole_ok : (i : Input) (a : Surface) (r : Input) → whole inner i ≡ Ok (a, r) → (f : Bool) → sees k.Fun i ≡ f → (b : Bool) → begins_binder i.ahead ≡ b → OkAgain (whole inner) i a r
  whole_ok i a r e true ef b eb =
      ok_as (whole inner) (abstraction inner) i a r ((local_abstraction inner m).ok i a r (sym (whole_fun inner i ef) ∙ e))
      (λ pre ei j tail h ej. whole_fun inner j (same_fun i r true ef pre ei j tail h ej))
  whole_ok i a r e false ef true eb =
      let q = sym (whole_binder inner i ef eb) ∙ e in
      ok_as (whole inner) (product inner) i a r ((local_product inner m).ok i a r q)
      (λ pre ei j tail h ej. whole_binder inner j (same_fun i r false ef pre ei j tail h ej) (same_binder i r pre ei (inl (taken i r pre 2 ei (product_ok_far i a r eb q))) j tail h ej ∙ eb))
  whole_ok i a r e false ef false eb =
      let q = sym (whole_plain inner i ef eb) ∙ e in
      ok_as (whole inner) (arrows inner) i a r ((local_arrows inner s m).ok i a r q)
      (λ pre ei j tail h ej. whole_plain inner j (same_fun i r false ef pre ei j tail h ej) (same_binder i r pre ei (arrows_ok_decided i a r q pre ei (is_kind (kind i) k.Open) refl) j tail h ej ∙ eb))

  whole_settled : Settled inner → (i r : Input) → whole inner i ≡ Err r → (f : Bool) → sees k.Fun i ≡ f → (b : Bool) → begins_binder i.ahead ≡ b → ErrAgain (whole inner) i r
  whole_settled g i r e true ef b eb =
      err_as (whole inner) (abstraction inner) i r ((local_abstraction inner m).err i r (sym (whole_fun inner i ef) ∙ e))
      (λ pre ei j tail h ej. whole_fun inner j (same_fun i r true ef pre ei j tail h ej))
  whole_settled g i r e false ef true eb =
      let q = sym (whole_binder inner i ef eb) ∙ e in
      err_as (whole inner) (product inner) i r ((local_product inner m).err i r q)
      (λ pre ei j tail h ej. whole_binder inner j (same_fun i r false ef pre ei j tail h ej) (same_binder i r pre ei (inl (taken i r pre 2 ei (product_err_far i r eb q))) j tail h ej ∙ eb))
  whole_settled g i r e false ef false eb =
      let q = sym (whole_plain inner i ef eb) ∙ e in
      err_as (whole inner) (arrows inner) i r ((local_arrows inner s m).err i r q)
      (λ pre ei j tail h ej. whole_plain inner j (same_fun i r false ef pre ei j tail h ej) (same_binder i r pre ei (arrows_err_decided g i r q pre ei (is_kind (kind i) k.Open) refl) j tail h ej ∙ eb))

  -- the same where the term inside is always refused
  whole_failing : Fails inner → (i r : Input) → whole inner i ≡ Err r → (o : Bool) → is_kind (kind i) k.Open ≡ o → (f : Bool) → sees k.Fun i ≡ f → ErrAgain (whole inner) i r
  whole_failing g i r e o eo true ef =
      err_as (whole inner) (abstraction inner) i r ((local_abstraction inner m).err i r (sym (whole_fun inner i ef) ∙ e))
      (λ pre ei j tail h ej. whole_fun inner j (same_fun i r true ef pre ei j tail h ej))
  whole_failing g i r e false eo false ef =
      let plain = no_open i.ahead eo in
      err_as (whole inner) (arrows inner) i r ((local_arrows inner s m).err i r (sym (whole_plain inner i ef plain) ∙ e))
      (λ pre ei j tail h ej. whole_plain inner j (same_fun i r false ef pre ei j tail h ej) (same_binder i r pre ei (inr (inl eo)) j tail h ej ∙ plain))
  whole_failing g i r e true eo false ef = whole_open (begins_binder i.ahead) refl where
    again : (pre : List Lexeme) → i.ahead ≡ pre ++ r.ahead → (j : Input) (tail : List Lexeme) → Head tail r.ahead → j.ahead ≡ pre ++ tail → (r' : Input) × (whole inner j ≡ Err r')
    again pre ei j tail h ej = open_fails g j (ap (λ t. is_kind t k.Open) (same_kind_of pre tail r.ahead j i ej ei h) ∙ eo) (begins_binder j.ahead) refl

    whole_open : (b : Bool) → begins_binder i.ahead ≡ b → ErrAgain (whole inner) i r
    whole_open true eb = let x = (local_product inner m).err i r (sym (whole_binder inner i ef eb) ∙ e) in (x.0, x.1, λ j tail h ej. again x.0 x.1 j tail h ej)
    whole_open false eb = let x = (local_arrows inner s m).err i r (sym (whole_plain inner i ef eb) ∙ e) in (x.0, x.1, λ j tail h ej. again x.0 x.1 j tail h ej)

  local_settled : Settled inner → Local (whole inner)
  local_settled g = record {
    ok = λ i a r e. whole_ok i a r e (sees k.Fun i) refl (begins_binder i.ahead) refl;
    err = λ i r e. whole_settled g i r e (sees k.Fun i) refl (begins_binder i.ahead) refl;
  }

  local_failing : Fails inner → Local (whole inner)
  local_failing g = record {
    ok = λ i a r e. whole_ok i a r e (sees k.Fun i) refl (begins_binder i.ahead) refl;
    err = λ i r e. whole_failing g i r e (is_kind (kind i) k.Open) refl (sees k.Fun i) refl;
  }

pub local_term : (d : ℕ) → Local (term d)
unfolding term
local_term zero = local_refuse
local_term (suc zero) = local_failing (term zero) local_refuse (term_shorter zero) (record { run = λ i. (i, refl) })
local_term (suc (suc d)) = local_settled (term (suc d)) (local_term (suc d)) (term_shorter (suc d)) (settled_whole (term d) (local_term d) (term_shorter d))
