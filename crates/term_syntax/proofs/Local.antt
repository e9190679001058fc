-- A reader looks no further than the next token: what it answers or refuses stays so whatever stands behind that.
use Rattle.std.proofs.Common.{◌≡◌, ◌≢◌, ℕ, zero, suc, Bool, true, false, if◌then◌else◌, inl, inr, ◌⊎◌, List, [], ◌∷◌, ◌++◌, Ok, Err, Some, refl, ap, sym, ◌∙◌, append_assoc, subst}
use Rattle.std.proofs.lemmas.Bool.{false≢true}
use Rattle.term_syntax.specs.declared.surface.Surface.{Surface}
use Rattle.term_syntax.specs.declared.surface.Label.TheVariants as label
use Rattle.term_syntax.specs.declared.surface.Shape.TheVariants as shape
use Rattle.term_syntax.specs.declared.kind.Kind.{Kind}
use Rattle.term_syntax.specs.declared.kind.Kind.TheVariants as k
use Rattle.term_syntax.specs.Lex.{Lexeme, Text}
use Rattle.term_syntax.specs.Kinds.{is_kind}
use Rattle.term_syntax.specs.Input.{Input, kind, kind_of, tail_of, next, place, place_of, spelling, spelling_of, is_nil}
use Rattle.term_syntax.specs.Reading.{Outcome, Parser, and_then, ◌>>=◌, pure, refuse, here, at_end, peek, sees, expect, eat, take_token, label_by, label_at, binder, parenthesized, abstraction, product, arguments_from}
use Rattle.term_syntax.specs.Grammar.{level_of, node}
use Rattle.term_syntax.proofs.Progress.{chosen, ok_inj}
use Rattle.term_syntax.proofs.Sound.{expect_took}
use Rattle.term_syntax.proofs.Complete.{expect_runs}

-- two rests begin with the same token
abbrev pub Head : List Lexeme → List Lexeme → Type 0
Head s t = (l : Lexeme) × (s' : List Lexeme) × (t' : List Lexeme) × (s ≡ l ∷ s') × (t ≡ l ∷ t')

pub head_after : (pre s t : List Lexeme) → Head s t → Head (pre ++ s) (pre ++ t)
head_after [] s t h = h
head_after (l ∷ pre) s t h = (l, pre ++ s, pre ++ t, refl, refl)

pub head_kind : (s t : List Lexeme) → Head s t → kind_of s ≡ kind_of t
head_kind s t (l, s', t', e, f) = ap kind_of e ∙ sym (ap kind_of f)

head_place : (s t : List Lexeme) (m n : ℕ) → Head s t → place_of m s ≡ place_of n t
head_place s t m n (l, s', t', e, f) = ap (place_of m) e ∙ sym (ap (place_of n) f)

same_place : (pre s t : List Lexeme) (j i : Input) → j.ahead ≡ pre ++ s → i.ahead ≡ pre ++ t → Head s t → place j ≡ place i
same_place pre s t j i ej ei h = ap (place_of j.end) ej ∙ head_place (pre ++ s) (pre ++ t) j.end i.end (head_after pre s t h) ∙ sym (ap (place_of i.end) ei)

pub same_kind_of : (pre s t : List Lexeme) (j i : Input) → j.ahead ≡ pre ++ s → i.ahead ≡ pre ++ t → Head s t → kind j ≡ kind i
same_kind_of pre s t j i ej ei h = ap kind_of ej ∙ head_kind (pre ++ s) (pre ++ t) (head_after pre s t h) ∙ sym (ap kind_of ei)

abbrev pub OkAgain : {A : Type 0} → Parser A → Input → A → Input → Type 0
OkAgain p i a r = (pre : List Lexeme) × (i.ahead ≡ pre ++ r.ahead) × ((j : Input) (tail : List Lexeme) → Head tail r.ahead → j.ahead ≡ pre ++ tail → (r' : Input) × (p j ≡ Ok (a, r')) × (r'.ahead ≡ tail))

abbrev pub ErrAgain : {A : Type 0} → Parser A → Input → Input → Type 0
ErrAgain p i r = (pre : List Lexeme) × (i.ahead ≡ pre ++ r.ahead) × ((j : Input) (tail : List Lexeme) → Head tail r.ahead → j.ahead ≡ pre ++ tail → (r' : Input) × (p j ≡ Err r'))

pub record Local {A : Type 0} (p : Parser A) : Type 0 where
  pub ok : (i : Input) (a : A) (r : Input) → p i ≡ Ok (a, r) → OkAgain p i a r
  pub err : (i : Input) (r : Input) → p i ≡ Err r → ErrAgain p i r

bind_cases : {A B : Type 0} (o : Outcome A) (f : A → Parser B) (y : Outcome B) → and_then o f ≡ y → ((x : A) × (r : Input) × (o ≡ Ok (x, r)) × (f x r ≡ y)) ⊎ ((r : Input) × (o ≡ Err r) × (y ≡ Err r))
bind_cases (Ok x) f y e = inl (x.0, x.1, refl, e)
bind_cases (Err r) f y e = inr (r, refl, sym e)

pub err_inj : {A : Type 0} (r s : Input) → ◌≡◌ {A = Outcome A} (Err r) (Err s) → r ≡ s
err_inj r s e = cc

pub local_then : {A B : Type 0} {p : Parser A} (f : A → Parser B) → Local p → ((a : A) → Local (f a)) → Local (p >>= f)
local_then {B = B} {p = p} f m n = record {
  ok = λ i b r e. elim (bind_cases (p i) f (Ok (b, r)) e) [
    | inl (a, q, ea, eb) ↦
        let x = m.ok i a q ea in
        let y = (n a).ok q b r eb in (
          x.0 ++ y.0,
          x.1 ∙ ap (λ ls. x.0 ++ ls) y.1 ∙ sym (append_assoc x.0 y.0 r.ahead),
          λ j tail h ej.
              let x' = x.2 j (y.0 ++ tail) (subst (λ ls. Head (y.0 ++ tail) ls) (sym y.1) (head_after y.0 tail r.ahead h)) (ej ∙ append_assoc x.0 y.0 tail) in
              let y' = y.2 x'.0 tail h x'.2 in
              (y'.0, ap (λ o. and_then o f) x'.1 ∙ y'.1, y'.2),
        )
    | inr (q, eq, bad) ↦ cc bad
  ];
  err = λ i r e. elim (bind_cases (p i) f (Err r) e) [
    | inl (a, q, ea, eb) ↦
        let x = m.ok i a q ea in
        let y = (n a).err q r eb in (
          x.0 ++ y.0,
          x.1 ∙ ap (λ ls. x.0 ++ ls) y.1 ∙ sym (append_assoc x.0 y.0 r.ahead),
          λ j tail h ej.
              let x' = x.2 j (y.0 ++ tail) (subst (λ ls. Head (y.0 ++ tail) ls) (sym y.1) (head_after y.0 tail r.ahead h)) (ej ∙ append_assoc x.0 y.0 tail) in
              let y' = y.2 x'.0 tail h x'.2 in
              (y'.0, ap (λ o. and_then o f) x'.1 ∙ y'.1),
        )
    | inr (q, eq, same) ↦
        let at : r ≡ q = err_inj {A = B} r q same in
        let x = m.err i q eq in (
          x.0,
          x.1 ∙ ap (λ (q : Input). x.0 ++ q.ahead) (sym at),
          λ j tail h ej.
              let x' = x.2 j tail (subst (λ (q : Input). Head tail q.ahead) at h) ej in
              (x'.0, ap (λ o. and_then o f) x'.1),
        )
  ];
}

pub local_pure : {A : Type 0} (a : A) → Local (pure a)
local_pure {A = A} a = record {
  ok = λ i b r e. subst (λ (p : A × Input). OkAgain (pure a) i p.0 p.1) (ok_inj (a, i) (b, r) e) ([], refl, λ j tail h ej. (j, refl, ej));
  err = λ i r e. cc;
}

pub local_refuse : {A : Type 0} → Local (refuse {A = A})
local_refuse {A = A} = record {
  ok = λ i b r e. cc;
  err = λ i r e. subst (λ r. ErrAgain (refuse {A = A}) i r) (err_inj {A = A} i r e) ([], refl, λ j tail h ej. (j, refl));
}

pub local_here : {B : Type 0} (f : ℕ → Parser B) → ((at : ℕ) → Local (f at)) → Local (here >>= f)
local_here f n = record {
  ok = λ i b r e. let x = (n (place i)).ok i b r e in (
    x.0,
    x.1,
    λ j tail h ej.
        let same : place j ≡ place i = same_place x.0 tail r.ahead j i ej x.1 h in
        let y = x.2 j tail h ej in (y.0, ap (λ at. f at j) same ∙ y.1, y.2),
  );
  err = λ i r e. let x = (n (place i)).err i r e in (
    x.0,
    x.1,
    λ j tail h ej.
        let same : place j ≡ place i = same_place x.0 tail r.ahead j i ej x.1 h in
        let y = x.2 j tail h ej in (y.0, ap (λ at. f at j) same ∙ y.1),
  );
}

-- a choice by the kind of the next token
pub local_by : {A : Type 0} (g : Kind → Parser A) → ((t : Kind) → Local (g t)) → Local (λ i. g (kind i) i)
local_by g n = record {
  ok = λ i b r e. let x = (n (kind i)).ok i b r e in (
    x.0,
    x.1,
    λ j tail h ej.
        let same : kind j ≡ kind i = same_kind_of x.0 tail r.ahead j i ej x.1 h in
        let y = x.2 j tail h ej in (y.0, ap (λ t. g t j) same ∙ y.1, y.2),
  );
  err = λ i r e. let x = (n (kind i)).err i r e in (
    x.0,
    x.1,
    λ j tail h ej.
        let same : kind j ≡ kind i = same_kind_of x.0 tail r.ahead j i ej x.1 h in
        let y = x.2 j tail h ej in (y.0, ap (λ t. g t j) same ∙ y.1),
  );
}

-- a token is taken, whatever it is
take_front : (i : Input) (ls : List Lexeme) (r : Input) (t : Text) → i.ahead ≡ ls → ◌≡◌ {A = Text × Input} (spelling i, next i) (t, r) → OkAgain take_token i t r
take_front i [] r t e same = subst (λ (p : Text × Input). OkAgain take_token i p.0 p.1) same
    ([], e ∙ sym (ap tail_of e), λ j tail (l, s', t', es, et) ej. let none : l ∷ t' ≡ [] = sym et ∙ ap tail_of e in cc none)
take_front i (l ∷ ls) r t e same = subst (λ (p : Text × Input). OkAgain take_token i p.0 p.1) same (
  l ∷ [],
  e ∙ ap (λ xs. l ∷ xs) (sym (ap tail_of e)),
  λ j tail h ej.
      (next j, ap (λ t. Ok (t, next j)) (ap spelling_of ej ∙ sym (ap spelling_of e)), ap tail_of ej),
)

pub local_take : Local take_token
local_take = record {
  ok = λ i t r e. take_front i i.ahead r t refl (ok_inj (spelling i, next i) (t, r) e);
  err = λ i r e. cc;
}

-- one token of a kind
local_expect_ok : (t : Kind) → t ≢ k.End → (i : Input) (u : Unit {0}) (r : Input) → expect t i ≡ Ok (u, r) → OkAgain (expect t) i u r
local_expect_ok t some i u r e =
    let o = expect_took t some i u r e in
    (o.0 ∷ [], o.1.ahead, λ j tail h ej. (expect_runs o.0 tail o.1.kind).run j ej)

expect_err : (t : Kind) (i r : Input) → expect t i ≡ Err r → (sees t i ≡ false) × (i ≡ r)
unfolding expect
expect_err t i r e = elim (chosen (sees t i) (Ok (tt, next i)) (Err i) (Err r) e) [ inl h ↦ cc h.1 | inr h ↦ (h.0, err_inj {A = Unit {0}} i r h.1) ]

expect_fails : (t : Kind) (j : Input) → sees t j ≡ false → expect t j ≡ Err j
unfolding expect
expect_fails t j e = rw e refl

pub local_expect : (t : Kind) → t ≢ k.End → Local (expect t)
local_expect t some = record {
  ok = λ i u r e. local_expect_ok t some i u r e;
  err = λ i r e. let x = expect_err t i r e in subst (λ r. ErrAgain (expect t) i r) x.1
      ([], refl, λ j tail h ej. (j, expect_fails t j (ap (λ k. is_kind k t) (same_kind_of [] tail i.ahead j i ej refl h) ∙ x.0)));
}

label_by_local : (t : Kind) → Local (label_by t)
label_by_local k.Name = local_then _ local_take (λ t. local_pure (label.Plain t))
label_by_local k.Level = local_then _ local_take (λ t. local_pure (label.Level (level_of t)))
label_by_local k.Call = local_then _ local_take (λ t. local_refuse)
label_by_local _ = local_refuse

pub local_label : Local label_at
unfolding label_at
local_label = local_by label_by label_by_local

eat_yes_at : (t : Kind) (i : Input) → sees t i ≡ true → eat t i ≡ Ok (true, next i)
unfolding eat
eat_yes_at t i e = rw e refl

eat_no_at : (t : Kind) (i : Input) → sees t i ≡ false → eat t i ≡ Ok (false, i)
unfolding eat
eat_no_at t i e = rw e refl

some_seen : (t : Kind) → is_kind k.End t ≡ false → (i : Input) → sees t i ≡ true → (l : Lexeme) × (i.ahead ≡ l ∷ (next i).ahead)
some_seen t none i e = seen_at t none i.ahead e where
  seen_at : (t : Kind) → is_kind k.End t ≡ false → (ls : List Lexeme) → is_kind (kind_of ls) t ≡ true → (l : Lexeme) × (ls ≡ l ∷ tail_of ls)
  seen_at t none [] e = absurd (false≢true (sym none ∙ e))
  seen_at t none (l ∷ ls) e = (l, refl)

still_seen : (t : Kind) (i j : Input) (l : Lexeme) (rest tail : List Lexeme) → i.ahead ≡ l ∷ rest → j.ahead ≡ l ∷ tail → sees t i ≡ true → sees t j ≡ true
still_seen t i j l rest tail ei ej e = ap (λ ls. is_kind (kind_of ls) t) (ej) ∙ (sym (ap (λ ls. is_kind (kind_of ls) t) ei) ∙ e)

-- a token is taken if it is there, and then the first goes on, or else the second
pub local_eat : {A : Type 0} (t : Kind) {p q : Parser A} → is_kind k.End t ≡ false → Local p → Local q → Local (eat t >>= (λ b. if b then p else q))
local_eat {A = A} t {p = p} {q = q} none m n = record {
  ok = λ i b r e. eat_ok i b r e (sees t i) refl;
  err = λ i r e. eat_err i r e (sees t i) refl;
} where
  both : Bool → Parser A
  both b = if b then p else q

  eat_ok : (i : Input) (b : A) (r : Input) → (eat t >>= (λ b. if b then p else q)) i ≡ Ok (b, r) → (s : Bool) → sees t i ≡ s → OkAgain (eat t >>= (λ b. if b then p else q)) i b r
  eat_ok i b r e true is =
      let o = some_seen t none i is in
      let x = m.ok (next i) b r (sym (ap (λ o. and_then o (λ b. if b then p else q)) (eat_yes_at t i is)) ∙ e) in (
        o.0 ∷ x.0,
        o.1 ∙ ap (λ ls. o.0 ∷ ls) x.1,
        λ j tail h ej.
            let y = x.2 (next j) tail h (ap tail_of ej) in
            (y.0, ap (λ o. and_then o (λ b. if b then p else q)) (eat_yes_at t j (still_seen t i j o.0 _ _ o.1 ej is)) ∙ y.1, y.2),
      )
  eat_ok i b r e false is =
      let x = n.ok i b r (sym (ap (λ o. and_then o (λ b. if b then p else q)) (eat_no_at t i is)) ∙ e) in (
        x.0,
        x.1,
        λ j tail h ej.
            let y = x.2 j tail h ej in
            (y.0, ap (λ o. and_then o (λ b. if b then p else q)) (eat_no_at t j (ap (λ k. is_kind k t) (same_kind_of x.0 tail r.ahead j i ej x.1 h) ∙ is)) ∙ y.1, y.2),
      )

  eat_err : (i : Input) (r : Input) → (eat t >>= (λ b. if b then p else q)) i ≡ Err r → (s : Bool) → sees t i ≡ s → ErrAgain (eat t >>= (λ b. if b then p else q)) i r
  eat_err i r e true is =
      let o = some_seen t none i is in
      let x = m.err (next i) r (sym (ap (λ o. and_then o (λ b. if b then p else q)) (eat_yes_at t i is)) ∙ e) in (
        o.0 ∷ x.0,
        o.1 ∙ ap (λ ls. o.0 ∷ ls) x.1,
        λ j tail h ej.
            let y = x.2 (next j) tail h (ap tail_of ej) in
            (y.0, ap (λ o. and_then o (λ b. if b then p else q)) (eat_yes_at t j (still_seen t i j o.0 _ _ o.1 ej is)) ∙ y.1),
      )
  eat_err i r e false is =
      let x = n.err i r (sym (ap (λ o. and_then o (λ b. if b then p else q)) (eat_no_at t i is)) ∙ e) in (
        x.0,
        x.1,
        λ j tail h ej.
            let y = x.2 j tail h ej in
            (y.0, ap (λ o. and_then o (λ b. if b then p else q)) (eat_no_at t j (ap (λ k. is_kind k t) (same_kind_of x.0 tail r.ahead j i ej x.1 h) ∙ is)) ∙ y.1),
      )

local_if : {A : Type 0} (b : Bool) {p q : Parser A} → Local p → Local q → Local (if b then p else q)
local_if true m n = m
local_if false m n = n

pub local_peek : {A : Type 0} (test : Kind → Bool) {p q : Parser A} → Local p → Local q → Local (peek >>= (λ kind. if test kind then p else q))
local_peek test {p = p} {q = q} m n = local_by (λ t. if test t then p else q) (λ t. local_if (test t) m n)

some_head : (s t : List Lexeme) → Head s t → (is_nil s ≡ false) × (is_nil t ≡ false)
some_head s t (l, s', t', es, et) = (ap is_nil es, ap is_nil et)

-- the first at the end of the text, and elsewhere the second
pub local_over : {A : Type 0} {p q : Parser A} → Local p → Local q → Local (at_end >>= (λ over. if over then p else q))
local_over {A = A} {p = p} {q = q} m n = record {
  ok = λ i a r e. over_ok i a r e (is_nil i.ahead) refl;
  err = λ i r e. over_err i r e (is_nil i.ahead) refl;
} where
  either : Parser A
  either = at_end >>= (λ over. if over then p else q)

  by : (i : Input) (b : Bool) → is_nil i.ahead ≡ b → either i ≡ (if b then p else q) i
  by i b e = ap (λ b. (if b then p else q) i) e

  more : (pre : List Lexeme) (i j r : Input) (tail : List Lexeme) → i.ahead ≡ pre ++ r.ahead → Head tail r.ahead → j.ahead ≡ pre ++ tail → (is_nil j.ahead ≡ false) × (is_nil i.ahead ≡ false)
  more pre i j r tail ei h ej = let s = some_head (pre ++ tail) (pre ++ r.ahead) (head_after pre tail r.ahead h) in (ap is_nil ej ∙ s.0, ap is_nil ei ∙ s.1)

  over_ok : (i : Input) (a : A) (r : Input) → either i ≡ Ok (a, r) → (b : Bool) → is_nil i.ahead ≡ b → OkAgain either i a r
  over_ok i a r e true eb =
      let x = m.ok i a r (sym (by i true eb) ∙ e) in
      (x.0, x.1, λ j tail h ej. absurd (false≢true (sym (more x.0 i j r tail x.1 h ej).1 ∙ eb)))
  over_ok i a r e false eb =
      let x = n.ok i a r (sym (by i false eb) ∙ e) in
      (x.0, x.1, λ j tail h ej. let y = x.2 j tail h ej in (y.0, by j false (more x.0 i j r tail x.1 h ej).0 ∙ y.1, y.2))

  over_err : (i r : Input) → either i ≡ Err r → (b : Bool) → is_nil i.ahead ≡ b → ErrAgain either i r
  over_err i r e true eb =
      let x = m.err i r (sym (by i true eb) ∙ e) in
      (x.0, x.1, λ j tail h ej. absurd (false≢true (sym (more x.0 i j r tail x.1 h ej).1 ∙ eb)))
  over_err i r e false eb =
      let x = n.err i r (sym (by i false eb) ∙ e) in
      (x.0, x.1, λ j tail h ej. let y = x.2 j tail h ej in (y.0, by j false (more x.0 i j r tail x.1 h ej).0 ∙ y.1))

end_comma : is_kind k.End k.Comma ≡ false
unfolding is_kind
end_comma = refl

pub end_close : is_kind k.End k.Close ≡ false
unfolding is_kind
end_close = refl

pub end_arrow : is_kind k.End k.Arrow ≡ false
unfolding is_kind
end_arrow = refl

module _ (inner : Parser Surface) (m : Local inner) where
  pub local_binder : Local (binder inner)
  unfolding binder
  local_binder = local_then _ (local_expect k.Open (λ h. cc)) (λ _. local_then _ local_label (λ x. local_then _ (local_expect k.Colon (λ h. cc)) (λ _. local_then _ m (λ ty. local_then _ (local_expect k.Close (λ h. cc)) (λ _. local_pure (x, ty))))))

  pub local_parenthesized : Local (parenthesized inner)
  unfolding parenthesized
  local_parenthesized = local_then _ (local_expect k.Open (λ h. cc)) (λ _. local_then _ m (λ t. local_then _ (local_expect k.Close (λ h. cc)) (λ _. local_pure t)))

  pub local_abstraction : Local (abstraction inner)
  unfolding abstraction
  local_abstraction = local_here _ (λ at. local_then _ (local_expect k.Fun (λ h. cc)) (λ _. local_then _ local_binder (λ b. local_then _ (local_expect k.FatArrow (λ h. cc)) (λ _. local_then _ m (λ body. local_pure (node at (shape.Lam b.0 b.1 body)))))))

  pub local_product : Local (product inner)
  unfolding product
  local_product = local_here _ (λ at. local_then _ local_binder (λ b. local_then _ (local_expect k.Arrow (λ h. cc)) (λ _. local_then _ m (λ body. local_pure (node at (shape.Pi (Some b.0) b.1 body))))))

  pub local_arguments_from : (n : ℕ) (found : List Surface) → Local (arguments_from inner n found)
  unfolding arguments_from
  local_arguments_from zero found = local_refuse
  local_arguments_from (suc n) found = local_then _ m (λ x. local_eat k.Comma end_comma (local_arguments_from n (found ++ x ∷ [])) (local_then _ (local_expect k.Close (λ h. cc)) (λ _. local_pure (found ++ x ∷ []))))
