-- Each step takes tokens from the front, so what is left is no longer.
use Rattle.std.proofs.Common.{◌≡◌, ℕ, zero, suc, ◌<◌, ◌≤◌, Bool, true, false, cond, List, [], ◌∷◌, ◌++◌, length, Result, Ok, Err, Some, None, refl, ap, sym, ◌∙◌, arith, if◌then◌else◌, inl, inr, ◌⊎◌, ◌≢◌}
use Rattle.std.proofs.lemmas.Bool.{false≢true}
use Rattle.term_syntax.specs.declared.surface.Surface.{Surface}
use Rattle.term_syntax.specs.declared.surface.Label.{Label}
use Rattle.term_syntax.specs.declared.surface.Label.TheVariants as label
use Rattle.term_syntax.specs.declared.surface.Shape.TheVariants as shape
use Rattle.term_syntax.specs.declared.kind.Kind.{Kind}
use Rattle.term_syntax.specs.declared.kind.Kind.TheVariants as k
use Rattle.term_syntax.specs.Lex.{Lexeme}
use Rattle.term_syntax.specs.Kinds.{is_kind}
use Rattle.term_syntax.specs.Input.{Input, kind, kind_of, tail_of, next, place, spelling, begins_binder}
use Rattle.term_syntax.specs.Reading.{Outcome, Parser, and_then, ◌>>=◌, pure, refuse, here, peek, sees, expect, eat, take_token, label_by, label_at, begins_atom, binder, arguments_from, arguments, constant, parenthesized, atom_by, atom, atoms_from, atoms, app, applied, abstraction, product, arrows, whole, term}
use Rattle.term_syntax.specs.Grammar.{node, level_of}

abbrev pub left : Input → ℕ
left i = length i.ahead

-- with an answer fewer tokens are left, or no more
abbrev pub Shorter : {A : Type 0} → Parser A → Type 0
Shorter {A = A} p = (i : Input) (a : A) (j : Input) → p i ≡ Ok (a, j) → left j < left i

abbrev pub NoLonger : {A : Type 0} → Parser A → Type 0
NoLonger {A = A} p = (i : Input) (a : A) (j : Input) → p i ≡ Ok (a, j) → left j ≤ left i

pub bind_ok : {A B : Type 0} (r : Outcome A) (f : A → Parser B) (y : B × Input) → and_then r f ≡ Ok y → (x : A × Input) × (r ≡ Ok x) × (f x.0 x.1 ≡ Ok y)
bind_ok (Ok x) f y e = (x, refl, e)
bind_ok (Err e) f y h = cc

pub chosen : {X : Type 0} (b : Bool) (x y z : X) → cond b x y ≡ z → ((b ≡ true) × (x ≡ z)) ⊎ ((b ≡ false) × (y ≡ z))
chosen true x y z e = inl (refl, e)
chosen false x y z e = inr (refl, e)

pub shorter_then : {A B : Type 0} (p : Parser A) (f : A → Parser B) → Shorter p → ((a : A) → NoLonger (f a)) → Shorter (p >>= f)
shorter_then p f s n i b j e =
    let x = bind_ok (p i) f (b, j) e in
    omega (arith, s i x.0.0 x.0.1 x.1, n x.0.0 x.0.1 b j x.2)

pub no_longer_then : {A B : Type 0} (p : Parser A) (f : A → Parser B) → NoLonger p → ((a : A) → NoLonger (f a)) → NoLonger (p >>= f)
no_longer_then p f s n i b j e =
    let x = bind_ok (p i) f (b, j) e in
    omega (arith, s i x.0.0 x.0.1 x.1, n x.0.0 x.0.1 b j x.2)

pub then_shorter : {A B : Type 0} (p : Parser A) (f : A → Parser B) → NoLonger p → ((a : A) → Shorter (f a)) → Shorter (p >>= f)
then_shorter p f s n i b j e =
    let x = bind_ok (p i) f (b, j) e in
    omega (arith, s i x.0.0 x.0.1 x.1, n x.0.0 x.0.1 b j x.2)

pub weak : {A : Type 0} (p : Parser A) → Shorter p → NoLonger p
weak p s i a j e = omega (arith, s i a j e)

pub ok_inj : {A : Type 0} (x y : A) → ◌≡◌ {A = Result A Input} (Ok x) (Ok y) → x ≡ y
ok_inj x y e = cc

pub pure_no_longer : {A : Type 0} (a : A) → NoLonger (pure a)
pure_no_longer {A = A} a i b j e = let same : ◌≡◌ {A = A × Input} (a, i) (b, j) = ok_inj (a, i) (b, j) e in omega (arith, ap (λ (p : A × Input). left p.1) same)

pub refuse_shorter : {A : Type 0} → Shorter (refuse {A = A})
refuse_shorter i a j e = cc

pub here_no_longer : NoLonger here
here_no_longer i b j e = let same : ◌≡◌ {A = ℕ × Input} (place i, i) (b, j) = ok_inj (place i, i) (b, j) e in omega (arith, ap (λ (p : ℕ × Input). left p.1) same)

pub peek_no_longer : NoLonger peek
peek_no_longer i b j e = let same : ◌≡◌ {A = Kind × Input} (kind i, i) (b, j) = ok_inj (kind i, i) (b, j) e in omega (arith, ap (λ (p : Kind × Input). left p.1) same)

tail_shorter : (ls : List Lexeme) (t : Kind) → is_kind k.End t ≡ false → is_kind (kind_of ls) t ≡ true → length (tail_of ls) < length ls
tail_shorter [] t none e = absurd (false≢true (sym none ∙ e))
tail_shorter (l ∷ ls) t none e = omega arith

tail_no_longer : (ls : List Lexeme) → length (tail_of ls) ≤ length ls
tail_no_longer [] = omega arith
tail_no_longer (l ∷ ls) = omega arith

pub expect_shorter : (t : Kind) → is_kind k.End t ≡ false → Shorter (expect t)
unfolding expect
expect_shorter t none i a j e =
    elim (chosen (sees t i) (Ok (tt, next i)) (Err i) (Ok (a, j)) e) [
      | inl h ↦ omega (arith, tail_shorter i.ahead t none h.0, ap (λ (p : Unit {0} × Input). left p.1) (ok_inj (tt, next i) (a, j) h.1))
      | inr h ↦ cc h.1
    ]

pub eat_no_longer : (t : Kind) → NoLonger (eat t)
unfolding eat
eat_no_longer t i a j e =
    elim (chosen (sees t i) (Ok (true, next i)) (Ok (false, i)) (Ok (a, j)) e) [
      | inl h ↦ omega (arith, tail_no_longer i.ahead, ap (λ (p : Bool × Input). left p.1) (ok_inj (true, next i) (a, j) h.1))
      | inr h ↦ omega (arith, ap (λ (p : Bool × Input). left p.1) (ok_inj (false, i) (a, j) h.1))
    ]

pub take_shorter : (i : Input) (a : List ℕ) (j : Input) → (t : Kind) → is_kind k.End t ≡ false → is_kind (kind i) t ≡ true → take_token i ≡ Ok (a, j) → left j < left i
take_shorter i a j t none e h = omega (arith, tail_shorter i.ahead t none e, ap (λ (p : List ℕ × Input). left p.1) (ok_inj (spelling i, next i) (a, j) h))

pub take_no_longer : NoLonger take_token
take_no_longer i a j h = omega (arith, tail_no_longer i.ahead, ap (λ (p : List ℕ × Input). left p.1) (ok_inj (spelling i, next i) (a, j) h))

-- a step that begins with a token of a kind, where one is there
ahead_shorter : (ls : List Lexeme) → kind_of ls ≢ k.End → length (tail_of ls) < length ls
ahead_shorter [] h = absurd (h refl)
ahead_shorter (l ∷ ls) h = omega arith

taken : {A : Type 0} (f : List ℕ → A) (i : Input) (a : A) (j : Input) → kind i ≢ k.End → (take_token >>= (λ t. pure (f t))) i ≡ Ok (a, j) → left j < left i
taken {A = A} f i a j some e = omega (arith, ahead_shorter i.ahead some, ap (λ (p : A × Input). left p.1) (ok_inj (f (spelling i), next i) (a, j) e))

label_by_shorter : (t : Kind) (i : Input) (a : Label) (j : Input) → kind i ≡ t → label_by t i ≡ Ok (a, j) → left j < left i
label_by_shorter k.Name i a j is e = taken label.Plain i a j (λ h. cc) e
label_by_shorter k.Level i a j is e = taken (λ t. label.Level (level_of t)) i a j (λ h. cc) e
label_by_shorter k.Call i a j is e = cc e
label_by_shorter _ i a j is e = cc

pub label_shorter : Shorter label_at
unfolding label_at
label_shorter i a j e = label_by_shorter (kind i) i a j refl e

pub shut : (t : Kind) → is_kind k.End t ≡ false → NoLonger (expect t)
shut t none = weak _ (expect_shorter t none)

pub if_no_longer : {A : Type 0} (b : Bool) (p q : Parser A) → NoLonger p → NoLonger q → NoLonger (if b then p else q)
if_no_longer true p q x y = x
if_no_longer false p q x y = y

module _ (inner : Parser Surface) (s : Shorter inner) where
  pub binder_shorter : Shorter (binder inner)
  unfolding binder is_kind
  binder_shorter = shorter_then _ _ (expect_shorter k.Open refl) (λ _. no_longer_then _ _ (weak _ label_shorter) (λ _. no_longer_then _ _ (shut k.Colon refl) (λ _. no_longer_then _ _ (weak _ s) (λ _. no_longer_then _ _ (shut k.Close refl) (λ _. pure_no_longer _)))))

  pub parenthesized_shorter : Shorter (parenthesized inner)
  unfolding parenthesized is_kind
  parenthesized_shorter = shorter_then _ _ (expect_shorter k.Open refl) (λ _. no_longer_then _ _ (weak _ s) (λ _. no_longer_then _ _ (shut k.Close refl) (λ _. pure_no_longer _)))

  pub abstraction_shorter : Shorter (abstraction inner)
  unfolding abstraction is_kind
  abstraction_shorter = then_shorter _ _ here_no_longer (λ at. shorter_then _ _ (expect_shorter k.Fun refl) (λ _. no_longer_then _ _ (weak _ binder_shorter) (λ b. no_longer_then _ _ (shut k.FatArrow refl) (λ _. no_longer_then _ _ (weak _ s) (λ body. pure_no_longer (node at (shape.Lam b.0 b.1 body)))))))

  pub product_shorter : Shorter (product inner)
  unfolding product is_kind
  product_shorter = then_shorter _ _ here_no_longer (λ at. shorter_then _ _ binder_shorter (λ b. no_longer_then _ _ (shut k.Arrow refl) (λ _. no_longer_then _ _ (weak _ s) (λ body. pure_no_longer (node at (shape.Pi (Some b.0) b.1 body))))))

  pub arguments_from_no_longer : (n : ℕ) (found : List Surface) → NoLonger (arguments_from inner n found)
  unfolding arguments_from is_kind
  arguments_from_no_longer zero found = weak _ refuse_shorter
  arguments_from_no_longer (suc n) found = no_longer_then _ _ (weak _ s) (λ x. no_longer_then _ _ (eat_no_longer k.Comma) (λ more. if_no_longer more _ _ (arguments_from_no_longer n (found ++ x ∷ [])) (no_longer_then _ _ (shut k.Close refl) (λ _. pure_no_longer _))))

  pub arguments_no_longer : NoLonger (arguments inner)
  unfolding arguments
  arguments_no_longer = no_longer_then _ _ (eat_no_longer k.Close) (λ none. if_no_longer none _ _ (pure_no_longer _) (λ i. arguments_from_no_longer (suc (length i.ahead)) [] i))

  pub constant_shorter : Shorter (constant inner)
  unfolding constant is_kind
  constant_shorter = then_shorter _ _ here_no_longer (λ at. then_shorter _ _ take_no_longer (λ name. shorter_then _ _ (expect_shorter k.Open refl) (λ _. no_longer_then _ _ arguments_no_longer (λ found. pure_no_longer (node at (shape.Const name found))))))

  atom_by_shorter : (t : Kind) (at : ℕ) (i : Input) (a : Surface) (j : Input) → kind i ≡ t → atom_by inner at t i ≡ Ok (a, j) → left j < left i
  atom_by_shorter k.Star at i a j is e = taken (λ _. node at shape.Star) i a j (λ h. cc) e
  atom_by_shorter k.Wild at i a j is e = taken (λ _. node at shape.Wild) i a j (λ h. cc) e
  atom_by_shorter k.Asked at i a j is e = taken (λ _. node at shape.Asked) i a j (λ h. cc) e
  atom_by_shorter k.Name at i a j is e = shorter_then label_at _ label_shorter (λ _. pure_no_longer _) i a j e
  atom_by_shorter k.Level at i a j is e = shorter_then label_at _ label_shorter (λ _. pure_no_longer _) i a j e
  atom_by_shorter k.Call at i a j is e = constant_shorter i a j e
  atom_by_shorter k.Open at i a j is e = parenthesized_shorter i a j e
  atom_by_shorter _ at i a j is e = cc

  pub atom_shorter : Shorter (atom inner)
  unfolding atom
  atom_shorter i a j e = atom_by_shorter (kind i) (place i) i a j refl e

  pub atoms_from_no_longer : (n : ℕ) (found : List Surface) → NoLonger (atoms_from inner n found)
  unfolding atoms_from
  atoms_from_no_longer zero found = pure_no_longer found
  atoms_from_no_longer (suc n) found = no_longer_then _ _ peek_no_longer (λ kind. if_no_longer (begins_atom kind) _ _ (no_longer_then _ _ (weak _ atom_shorter) (λ x. atoms_from_no_longer n (found ++ x ∷ []))) (pure_no_longer found))

  pub atoms_no_longer : NoLonger (atoms inner)
  unfolding atoms
  atoms_no_longer i = atoms_from_no_longer (suc (length i.ahead)) [] i

  pub app_shorter : Shorter (app inner)
  unfolding app
  app_shorter = then_shorter _ _ here_no_longer (λ at. shorter_then _ _ atom_shorter (λ head. no_longer_then _ _ atoms_no_longer (λ others. pure_no_longer (applied at head others))))

  pub arrows_shorter : Shorter (arrows inner)
  unfolding arrows
  arrows_shorter = then_shorter _ _ here_no_longer (λ at. shorter_then _ _ app_shorter (λ from. no_longer_then _ _ (eat_no_longer k.Arrow) (λ goes_on. if_no_longer goes_on _ _ (no_longer_then _ _ (weak _ s) (λ to. pure_no_longer (node at (shape.Pi None from to)))) (pure_no_longer from))))

  pub whole_shorter : Shorter (whole inner)
  unfolding whole
  whole_shorter i a j e =
      elim (chosen (sees k.Fun i) (abstraction inner i) _ (Ok (a, j)) e) [
        | inl h ↦ abstraction_shorter i a j h.1
        | inr h ↦ elim (chosen (begins_binder i.ahead) (product inner i) (arrows inner i) (Ok (a, j)) h.1) [
          | inl g ↦ product_shorter i a j g.1
          | inr g ↦ arrows_shorter i a j g.1
        ]
      ]

pub term_shorter : (depth : ℕ) → Shorter (term depth)
unfolding term
term_shorter zero = refuse_shorter
term_shorter (suc depth) = whole_shorter (term depth) (term_shorter depth)
