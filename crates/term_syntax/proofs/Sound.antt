-- What is read is in the grammar.
use Rattle.std.proofs.Common.{◌≡◌, ℕ, zero, suc, Bool, true, false, cond, if◌then◌else◌, inl, inr, ◌⊎◌, List, [], ◌∷◌, ◌++◌, length, Ok, Err, Some, None, refl, ap, sym, ◌∙◌, append_assoc, rules, ◌≢◌, subst}
use denote.Enum.Bare.{same_true}
use Rattle.term_syntax.specs.declared.surface.Surface.{Surface}
use Rattle.term_syntax.specs.declared.surface.Label.{Label}
use Rattle.term_syntax.specs.declared.surface.Label.TheVariants as label
use Rattle.term_syntax.specs.declared.surface.Shape.{Shape}
use Rattle.term_syntax.specs.declared.surface.Shape.TheVariants as shape
use Rattle.term_syntax.specs.contracts.kind.Kind.{the_type}
use Rattle.term_syntax.specs.declared.kind.Kind.{Kind}
use Rattle.term_syntax.specs.declared.kind.Kind.TheVariants as k
use Rattle.term_syntax.specs.Lex.{Lexeme, Text}
use Rattle.term_syntax.specs.Kinds.{is_kind}
use Rattle.term_syntax.specs.Input.{Input, kind, kind_of, tail_of, next, place, place_of, spelling, spelling_of, begins_binder, is_nil}
use Rattle.term_syntax.specs.Reading.{Parser, and_then, ◌>>=◌, pure, refuse, here, at_end, peek, sees, expect, eat, take_token, label_by, label_at, begins_atom, binder, arguments_from, arguments, constant, parenthesized, atom_by, atom, atoms_from, atoms, app, applied, abstraction, product, arrows, whole, term}
use Rattle.term_syntax.specs.Grammar as grammar
use Rattle.term_syntax.specs.Grammar.{IsLabel, IsTerm, IsBinder, IsApp, IsAtoms, IsAtom, IsArguments, first, node, level_of}
use Rattle.term_syntax.proofs.Progress.{bind_ok, chosen, ok_inj}

pub same_kind : (a b : Kind) → is_kind a b ≡ true → a ≡ b
unfolding is_kind
same_kind a b e = same_true the_type (search rules) a b e

-- a step took one token of this kind
pub record Took (i : Input) (t : Kind) (l : Lexeme) (j : Input) : Type 0 where
  pub kind : l.kind ≡ t
  pub ahead : i.ahead ≡ l ∷ j.ahead
  pub text : spelling i ≡ l.text
  pub at : place i ≡ l.at

taken_from : (i : Input) (ls : List Lexeme) (t : Kind) → i.ahead ≡ ls → t ≢ k.End → kind_of ls ≡ t → (l : Lexeme) × Took i t l (next i)
taken_from i [] t is some e = absurd (some (sym e))
taken_from i (l ∷ ls) t is some e = (l, record { kind = e; ahead = is ∙ ap (λ xs. l ∷ xs) (sym (ap tail_of is)); text = ap spelling_of is; at = ap (place_of i.end) is })

pub takes : (i : Input) (t : Kind) → t ≢ k.End → kind i ≡ t → (l : Lexeme) × Took i t l (next i)
takes i t some e = taken_from i i.ahead t refl some e

pub expect_took : (t : Kind) → t ≢ k.End → (i : Input) (u : Unit {0}) (j : Input) → expect t i ≡ Ok (u, j) → (l : Lexeme) × Took i t l j
unfolding expect
expect_took t some i u j e =
    elim (chosen (sees t i) (Ok (tt, next i)) (Err i) (Ok (u, j)) e) [
      | inl h ↦
          let at : next i ≡ j = ap (λ (p : Unit {0} × Input). p.1) (ok_inj (tt, next i) (u, j) h.1) in
          let got = takes i t some (same_kind (kind i) t h.0) in
          (got.0, record { kind = got.1.kind; ahead = got.1.ahead ∙ ap (λ (j : Input). got.0 ∷ j.ahead) at; text = got.1.text; at = got.1.at })
      | inr h ↦ cc h.1
    ]

label_by_sound : (t : Kind) (i : Input) (x : Label) (j : Input) → kind i ≡ t → label_by t i ≡ Ok (x, j) → (l : Lexeme) × (i.ahead ≡ l ∷ j.ahead) × IsLabel l x × (place i ≡ l.at)
label_by_sound k.Name i x j is e =
    let got = takes i k.Name (λ h. cc) is in
    let same = ok_inj (label.Plain (spelling i), next i) (x, j) e in
    (got.0, got.1.ahead ∙ ap (λ (p : Label × Input). got.0 ∷ p.1.ahead) same, subst (λ y. IsLabel got.0 y) (ap label.Plain (sym got.1.text) ∙ ap (λ (p : Label × Input). p.0) same) (grammar.name got.1.kind), got.1.at)
label_by_sound k.Level i x j is e =
    let got = takes i k.Level (λ h. cc) is in
    let same = ok_inj (label.Level (level_of (spelling i)), next i) (x, j) e in
    (got.0, got.1.ahead ∙ ap (λ (p : Label × Input). got.0 ∷ p.1.ahead) same, subst (λ y. IsLabel got.0 y) (ap (λ t. label.Level (level_of t)) (sym got.1.text) ∙ ap (λ (p : Label × Input). p.0) same) (grammar.level got.1.kind), got.1.at)
label_by_sound k.Call i x j is e = cc e
label_by_sound _ i x j is e = cc

pub label_sound : (i : Input) (x : Label) (j : Input) → label_at i ≡ Ok (x, j) → (l : Lexeme) × (i.ahead ≡ l ∷ j.ahead) × IsLabel l x × (place i ≡ l.at)
unfolding label_at
label_sound i x j e = label_by_sound (kind i) i x j refl e

-- What an answer of a parser means. A record, so that antt finds the parser and the meaning.
pub record Means {A : Type 0} (p : Parser A) (R : Input → A → Input → Type 0) : Type 0 where
  pub run : (i : Input) (a : A) (j : Input) → p i ≡ Ok (a, j) → R i a j

pub then_means : {A B : Type 0} {p : Parser A} {f : A → Parser B} {P : Input → A → Input → Type 0} {Q : A → Input → B → Input → Type 0}
    → Means p P → ((a : A) → Means (f a) (Q a)) → Means (p >>= f) (λ i b k. (a : A) × (j : Input) × P i a j × Q a j b k)
then_means {p = p} {f = f} m n = record { run = λ i b k e. let x = bind_ok (p i) f (b, k) e in (x.0.0, x.0.1, m.run i x.0.0 x.0.1 x.1, (n x.0.0).run x.0.1 b k x.2) }

pub pure_means : {A : Type 0} (a : A) → Means (pure a) (λ i b j. ◌≡◌ {A = A × Input} (a, i) (b, j))
pure_means a = record { run = λ i b j e. ok_inj (a, i) (b, j) e }

pub here_means : {B : Type 0} {f : ℕ → Parser B} {Q : ℕ → Input → B → Input → Type 0} → ((at : ℕ) → Means (f at) (Q at)) → Means (here >>= f) (λ i b k. Q (place i) i b k)
here_means n = record { run = λ i b k e. (n (place i)).run i b k e }

pub expect_means : (t : Kind) → t ≢ k.End → Means (expect t) (λ i _ j. (l : Lexeme) × Took i t l j)
expect_means t some = record { run = expect_took t some }

pub label_means : Means label_at (λ i x j. (l : Lexeme) × (i.ahead ≡ l ∷ j.ahead) × IsLabel l x × (place i ≡ l.at))
label_means = record { run = label_sound }

pub weaken : {A : Type 0} {p : Parser A} {P : Input → A → Input → Type 0} (R : Input → A → Input → Type 0) → Means p P → ((i : Input) (a : A) (j : Input) → P i a j → R i a j) → Means p R
weaken R m go = record { run = λ i a j e. go i a j (m.run i a j e) }

-- the answer is this one
pub done : {A : Type 0} (R : A → Input → Type 0) (a : A) (i : Input) (b : A) (j : Input) → ◌≡◌ {A = A × Input} (a, i) (b, j) → R a i → R b j
done {A = A} R a i b j e h = subst (λ (p : A × Input). R p.0 p.1) e h

pub closes : {d : ℕ} {ts : List Lexeme} {t : Surface} {us vs : List Lexeme} → us ≡ vs → IsTerm d ts t us → IsTerm d ts t vs
closes {d = d} {ts = ts} {t = t} e h = subst (λ ls. IsTerm d ts t ls) e h

abbrev pub Sound : ℕ → Parser Surface → Type 0
Sound d p = Means p (λ i t j. IsTerm d i.ahead t j.ahead)

pub refuse_means : {A : Type 0} {R : Input → A → Input → Type 0} → Means refuse R
refuse_means = record { run = λ i a j e. cc }

choose_at : {A : Type 0} (t : Kind) (p q : Parser A) (P Q : Input → A → Input → Type 0) → t ≢ k.End → Means p P → Means q Q → (i : Input) (a : A) (j : Input) (b : Bool) → sees t i ≡ b
    → and_then (cond b (Ok (true, next i)) (Ok (false, i))) (λ x. if x then p else q) ≡ Ok (a, j)
    → ((l : Lexeme) × Took i t l (next i) × P (next i) a j) ⊎ ((sees t i ≡ false) × Q i a j)
choose_at t p q P Q some m n i a j true is e = let got = takes i t some (same_kind (kind i) t is) in inl (got.0, got.1, m.run (next i) a j e)
choose_at t p q P Q some m n i a j false is e = inr (is, n.run i a j e)

-- a token of this kind, and then the first, or else the second
pub eat_means : {A : Type 0} (t : Kind) {p q : Parser A} {P Q : Input → A → Input → Type 0} → t ≢ k.End → Means p P → Means q Q
    → Means (eat t >>= (λ b. if b then p else q)) (λ i a j. ((l : Lexeme) × Took i t l (next i) × P (next i) a j) ⊎ ((sees t i ≡ false) × Q i a j))
unfolding eat
eat_means t {p = p} {q = q} {P = P} {Q = Q} some m n = record { run = λ i a j e. choose_at t p q P Q some m n i a j (sees t i) refl e }

peek_at : {A : Type 0} (test : Kind → Bool) (p q : Parser A) (P Q : Input → A → Input → Type 0) → Means p P → Means q Q → (i : Input) (a : A) (j : Input) (b : Bool) → test (kind i) ≡ b
    → (if b then p else q) i ≡ Ok (a, j) → ((test (kind i) ≡ true) × P i a j) ⊎ ((test (kind i) ≡ false) × Q i a j)
peek_at test p q P Q m n i a j true is e = inl (is, m.run i a j e)
peek_at test p q P Q m n i a j false is e = inr (is, n.run i a j e)

pub peek_means : {A : Type 0} (test : Kind → Bool) {p q : Parser A} {P Q : Input → A → Input → Type 0} → Means p P → Means q Q
    → Means (peek >>= (λ kind. if test kind then p else q)) (λ i a j. ((test (kind i) ≡ true) × P i a j) ⊎ ((test (kind i) ≡ false) × Q i a j))
peek_means test {p = p} {q = q} {P = P} {Q = Q} m n = record { run = λ i a j e. peek_at test p q P Q m n i a j (test (kind i)) refl e }

over_at : {A : Type 0} (p q : Parser A) (P Q : Input → A → Input → Type 0) → Means p P → Means q Q → (i : Input) (a : A) (j : Input) (b : Bool) → is_nil i.ahead ≡ b
    → (if b then p else q) i ≡ Ok (a, j) → ((i.ahead ≡ []) × P i a j) ⊎ Q i a j
over_at p q P Q m n i a j true is e = inl (nil_is i.ahead is, m.run i a j e) where
  nil_is : (ls : List Lexeme) → is_nil ls ≡ true → ls ≡ []
  nil_is [] e = refl
  nil_is (l ∷ ls) e = cc
over_at p q P Q m n i a j false is e = inr (n.run i a j e)

-- the first at the end of the text, and elsewhere the second
pub over_means : {A : Type 0} {p q : Parser A} {P Q : Input → A → Input → Type 0} → Means p P → Means q Q → Means (at_end >>= (λ over. if over then p else q)) (λ i a j. ((i.ahead ≡ []) × P i a j) ⊎ Q i a j)
over_means {p = p} {q = q} {P = P} {Q = Q} m n = record { run = λ i a j e. over_at p q P Q m n i a j (is_nil i.ahead) refl e }

-- one token that is an atom
one_token : (d : ℕ) (t : Kind) (sh : Shape) → t ≢ k.End → ((l : Lexeme) (rest : List Lexeme) → l.kind ≡ t → IsAtom d (l ∷ rest) (node l.at sh) rest)
    → (i : Input) → kind i ≡ t → IsAtom d i.ahead (node (place i) sh) (next i).ahead
one_token d t sh some made i is =
    let got = takes i t some is in
    rw got.1.ahead (made got.0 (next i).ahead got.1.kind)

binds : {d : ℕ} {ts : List Lexeme} {x : Label} {t : Surface} {us vs : List Lexeme} → us ≡ vs → IsBinder d ts x t us → IsBinder d ts x t vs
binds {d = d} {ts = ts} {x = x} {t = t} e h = subst (λ ls. IsBinder d ts x t ls) e h

-- a binder begins with a token
pub product_from : {d : ℕ} (end : ℕ) (ts : List Lexeme) (x : Label) (ty : Surface) (us : List Lexeme) (body : Surface) (rest : List Lexeme) (a : Lexeme) (vs : List Lexeme) → IsBinder d ts x ty us → us ≡ a ∷ vs → a.kind ≡ k.Arrow
    → IsTerm d vs body rest → IsTerm (suc d) ts (node (place_of end ts) (shape.Pi (Some x) ty body)) rest
product_from end [] x ty us body rest a vs h e ka is = elim h [ ]
product_from end (o ∷ ts) x ty us body rest a vs h e ka is = grammar.product (binds e h) ka is

-- more terms with commas between, behind those that were found, and a closing parenthesis
abbrev pub ListsOn : ℕ → List Surface → List Lexeme → List Surface → List Lexeme → Type 0
ListsOn d found ts xs rest = (y : Surface) × (ys : List Surface) × (xs ≡ found ++ y ∷ ys) × (z : Lexeme) × (z.kind ≡ k.Close) × IsArguments d ts y ys (z ∷ rest)

-- a token was taken where there was one
pub record Taken (i : Input) (t : Text) (j : Input) (l : Lexeme) : Type 0 where
  pub kind : kind i ≡ l.kind
  pub ahead : i.ahead ≡ l ∷ j.ahead
  pub text : t ≡ l.text

taken_at : (i : Input) (ls : List Lexeme) → i.ahead ≡ ls → kind i ≢ k.End → (l : Lexeme) × Taken i (spelling i) (next i) l
taken_at i [] e some = absurd (some (ap kind_of e))
taken_at i (l ∷ ls) e some = (l, record { kind = ap kind_of e; ahead = e ∙ ap (λ xs. l ∷ xs) (sym (ap tail_of e)); text = ap spelling_of e })

pub take_means : Means take_token (λ i t j. kind i ≢ k.End → (l : Lexeme) × Taken i t j l)
take_means = record { run = λ i t j e some. done (λ t j. (l : Lexeme) × Taken i t j l) (spelling i) (next i) t j (ok_inj (spelling i, next i) (t, j) e) (taken_at i i.ahead refl some) }

-- atoms behind those that were found, or none
abbrev pub GoesOn : ℕ → List Surface → List Lexeme → List Surface → List Lexeme → Type 0
GoesOn d found ts xs rest = ((xs ≡ found) × (ts ≡ rest)) ⊎ ((y : Surface) × (ys : List Surface) × (xs ≡ found ++ y ∷ ys) × IsAtoms d ts y ys rest)

stops : {d : ℕ} {ts : List Lexeme} {t : Surface} {us vs : List Lexeme} → us ≡ vs → IsAtom d ts t us → IsAtom d ts t vs
stops {d = d} {ts = ts} {t = t} e h = subst (λ ls. IsAtom d ts t ls) e h

app_stops : {d : ℕ} {ts : List Lexeme} {t : Surface} {us vs : List Lexeme} → us ≡ vs → IsApp d ts t us → IsApp d ts t vs
app_stops {d = d} {ts = ts} {t = t} e h = subst (λ ls. IsApp d ts t ls) e h

-- an atom begins with a token
place_is : {d : ℕ} {ts : List Lexeme} {t : Surface} {us : List Lexeme} (end : ℕ) → IsAtom d ts t us → place_of end ts ≡ first ts
place_is {ts = []} end h = elim h [ ]
place_is {ts = l ∷ ts} end h = refl

app_place : {d : ℕ} {ts : List Lexeme} {t : Surface} {us : List Lexeme} (end : ℕ) → IsApp d ts t us → place_of end ts ≡ first ts
app_place end (grammar.alone h) = place_is end h
app_place end (grammar.spine h more) = place_is end h

module _ (d : ℕ) (inner : Parser Surface) (s : Sound d inner) where
  pub binder_sound : Means (binder inner) (λ i b j. IsBinder d i.ahead b.0 b.1 j.ahead)
  unfolding binder
  binder_sound = weaken _
      (then_means (expect_means k.Open (λ h. cc)) (λ _. then_means label_means (λ x. then_means (expect_means k.Colon (λ h. cc)) (λ _. then_means s (λ ty. then_means (expect_means k.Close (λ h. cc)) (λ _. pure_means (x, ty)))))))
      (λ i b j (u, i1, (o, to), (x, i2, (n, en, is, _), (v, i3, (c, tc), (ty, i4, t, (w, i5, (z, tz), same))))).
      done (λ b j. IsBinder d i.ahead b.0 b.1 j.ahead) (x, ty) i5 b j same
      (rw (to.ahead, en, tc.ahead) (grammar.binder to.kind is tc.kind (closes tz.ahead t) tz.kind)))

  pub parenthesized_sound : Means (parenthesized inner) (λ i t j. IsAtom d i.ahead t j.ahead)
  unfolding parenthesized
  parenthesized_sound = weaken _
      (then_means (expect_means k.Open (λ h. cc)) (λ _. then_means s (λ t. then_means (expect_means k.Close (λ h. cc)) (λ _. pure_means t))))
      (λ i t j (u, i1, (o, to), (x, i2, is, (w, i3, (z, tz), same))).
      done (λ t j. IsAtom d i.ahead t j.ahead) x i3 t j same (rw to.ahead (grammar.parentheses to.kind (closes tz.ahead is) tz.kind)))

  pub abstraction_sound : Sound (suc d) (abstraction inner)
  unfolding abstraction
  abstraction_sound = weaken _
      (here_means (λ at. then_means (expect_means k.Fun (λ h. cc)) (λ _. then_means binder_sound (λ b. then_means (expect_means k.FatArrow (λ h. cc)) (λ _. then_means s (λ body. pure_means (node at (shape.Lam b.0 b.1 body))))))))
      (λ i t j (u, i1, (f, tf), (b, i2, isb, (v, i3, (a, ta), (body, i4, is, same)))).
      done (λ t j. IsTerm (suc d) i.ahead t j.ahead) (node (place i) (shape.Lam b.0 b.1 body)) i4 t j same
      (rw tf.ahead (grammar.abstraction tf.kind (binds ta.ahead isb) ta.kind is)))

  pub product_sound : Means (product inner) (λ i t j. IsTerm (suc d) i.ahead t j.ahead)
  unfolding product
  product_sound = weaken _
      (here_means (λ at. then_means binder_sound (λ b. then_means (expect_means k.Arrow (λ h. cc)) (λ _. then_means s (λ body. pure_means (node at (shape.Pi (Some b.0) b.1 body)))))))
      (λ i t j (b, i2, isb, (v, i3, (a, ta), (body, i4, is, same))).
      done (λ t j. IsTerm (suc d) i.ahead t j.ahead) (node (place i) (shape.Pi (Some b.0) b.1 body)) i4 t j same
      (product_from i.end i.ahead b.0 b.1 i2.ahead body i4.ahead a i3.ahead isb ta.ahead ta.kind is))

  pub arguments_from_sound : (n : ℕ) (found : List Surface) → Means (arguments_from inner n found) (λ i xs j. ListsOn d found i.ahead xs j.ahead)
  unfolding arguments_from
  arguments_from_sound zero found = refuse_means
  arguments_from_sound (suc n) found = weaken _
      (then_means s (λ x. eat_means k.Comma (λ h. cc) (arguments_from_sound n (found ++ x ∷ [])) (then_means (expect_means k.Close (λ h. cc)) (λ _. pure_means (found ++ x ∷ [])))))
      (λ i xs j (x, i1, is, rest). elim rest [
        | inl (c, tc, (y, ys, e, z, zk, more)) ↦ (x, y ∷ ys, e ∙ append_assoc found (x ∷ []) (y ∷ ys), z, zk, grammar.more_arguments (closes tc.ahead is) tc.kind more)
        | inr (_, (w, i2, (z, tz), same)) ↦ done (λ xs j. ListsOn d found i.ahead xs j.ahead) (found ++ x ∷ []) i2 xs j same (x, [], refl, z, tz.kind, grammar.last_argument (closes tz.ahead is))
      ])

  pub constant_sound : Means (constant inner) (λ i t j. kind i ≡ k.Call → IsAtom d i.ahead t j.ahead)
  unfolding constant arguments
  constant_sound = weaken _
      (here_means (λ at. then_means take_means (λ name. then_means (expect_means k.Open (λ h. cc)) (λ _. then_means (eat_means k.Close (λ h. cc) (pure_means []) (record { run = λ i. (arguments_from_sound (suc (length i.ahead)) []).run i })) (λ found. pure_means (node at (shape.Const name found)))))))
      (λ i t j (name, i1, took, (u, i2, (o, to), (found, i3, args, same))) is.
      let n = took (λ h. cc) in
      done (λ t j. IsAtom d i.ahead t j.ahead) (node (place i) (shape.Const name found)) i3 t j same
      (elim args [
        | inl (z, tz, none) ↦ done (λ found i3. IsAtom d i.ahead (node (place i) (shape.Const name found)) i3.ahead) [] (next i2) found i3 none
            (rw (n.1.ahead, to.ahead, tz.ahead, n.1.text) (grammar.bare (sym n.1.kind ∙ is) to.kind tz.kind))
        | inr (_, (y, ys, e, z, zk, more)) ↦ rw (e, n.1.ahead, to.ahead, n.1.text) (grammar.constant (sym n.1.kind ∙ is) to.kind more zk)
      ]))

  named_means : (at : ℕ) → Means (label_at >>= (λ l. pure (node at (shape.Named l)))) (λ i t j. place i ≡ at → IsAtom d i.ahead t j.ahead)
  named_means at = weaken _ (then_means label_means (λ l. pure_means (node at (shape.Named l))))
      (λ i t j (x, i1, (n, en, is, pl), same) here. done (λ t j. IsAtom d i.ahead t j.ahead) (node at (shape.Named x)) i1 t j same (rw (en, ← here, pl) (grammar.named is)))

  atom_by_sound : (t : Kind) (i : Input) (a : Surface) (j : Input) → kind i ≡ t → atom_by inner (place i) t i ≡ Ok (a, j) → IsAtom d i.ahead a j.ahead
  atom_by_sound k.Star i a j is e = done (λ t j. IsAtom d i.ahead t j.ahead) (node (place i) shape.Star) (next i) a j (ok_inj _ _ e) (one_token d k.Star shape.Star (λ h. cc) (λ l rest h. grammar.star h) i is)
  atom_by_sound k.Wild i a j is e = done (λ t j. IsAtom d i.ahead t j.ahead) (node (place i) shape.Wild) (next i) a j (ok_inj _ _ e) (one_token d k.Wild shape.Wild (λ h. cc) (λ l rest h. grammar.wild h) i is)
  atom_by_sound k.Asked i a j is e = done (λ t j. IsAtom d i.ahead t j.ahead) (node (place i) shape.Asked) (next i) a j (ok_inj _ _ e) (one_token d k.Asked shape.Asked (λ h. cc) (λ l rest h. grammar.asked h) i is)
  atom_by_sound k.Name i a j is e = (named_means (place i)).run i a j e refl
  atom_by_sound k.Level i a j is e = (named_means (place i)).run i a j e refl
  atom_by_sound k.Call i a j is e = constant_sound.run i a j e is
  atom_by_sound k.Open i a j is e = parenthesized_sound.run i a j e
  atom_by_sound _ i a j is e = cc

  pub atom_sound : Means (atom inner) (λ i t j. IsAtom d i.ahead t j.ahead)
  unfolding atom
  atom_sound = record { run = λ i a j e. atom_by_sound (kind i) i a j refl e }

  pub atoms_from_sound : (n : ℕ) (found : List Surface) → Means (atoms_from inner n found) (λ i xs j. GoesOn d found i.ahead xs j.ahead)
  unfolding atoms_from
  atoms_from_sound zero found = weaken _ (pure_means found) (λ i xs j same. done (λ xs j. GoesOn d found i.ahead xs j.ahead) found i xs j same (inl (refl, refl)))
  atoms_from_sound (suc n) found = weaken _
      (peek_means begins_atom (then_means atom_sound (λ x. atoms_from_sound n (found ++ x ∷ []))) (pure_means found))
      (λ i xs j h. elim h [
        | inl (_, (x, i1, is, rest)) ↦ elim rest [
          | inl (e, same) ↦ inr (x, [], e, grammar.last_atom (stops same is))
          | inr (y, ys, e, more) ↦ inr (x, y ∷ ys, e ∙ append_assoc found (x ∷ []) (y ∷ ys), grammar.more_atoms is more)
        ]
        | inr (_, same) ↦ done (λ xs j. GoesOn d found i.ahead xs j.ahead) found i xs j same (inl (refl, refl))
      ])

  pub app_sound : Means (app inner) (λ i t j. IsApp d i.ahead t j.ahead)
  unfolding app atoms applied
  app_sound = weaken _
      (here_means (λ at. then_means atom_sound (λ head. then_means (record { run = λ i. (atoms_from_sound (suc (length i.ahead)) []).run i }) (λ others. pure_means (applied at head others)))))
      (λ i t j (head, i1, is, (xs, i2, on, same)).
      done (λ t j. IsApp d i.ahead t j.ahead) (applied (place i) head xs) i2 t j same
      (elim on [
        | inl (none, at) ↦ rw none (grammar.alone (stops at is))
        | inr (y, ys, e, more) ↦ rw (e, place_is i.end is) (grammar.spine is more)
      ]))

  pub arrows_sound : Means (arrows inner) (λ i t j. begins_binder i.ahead ≡ false → IsTerm (suc d) i.ahead t j.ahead)
  unfolding arrows
  arrows_sound = weaken _
      (here_means (λ at. then_means app_sound (λ from. eat_means k.Arrow (λ h. cc) (then_means s (λ to. pure_means (node at (shape.Pi None from to)))) (pure_means from))))
      (λ i t j (from, i1, is, rest) plain. elim rest [
        | inl (a, ta, (to, i2, isto, same)) ↦ done (λ t j. IsTerm (suc d) i.ahead t j.ahead) (node (place i) (shape.Pi None from to)) i2 t j same
            (rw (app_place i.end is) (grammar.arrow plain (app_stops ta.ahead is) ta.kind isto))
        | inr (_, same) ↦ done (λ t j. IsTerm (suc d) i.ahead t j.ahead) from i1 t j same (grammar.application plain is)
      ])

  pub whole_sound : Sound (suc d) (whole inner)
  unfolding whole
  whole_sound = record {
    run = λ i a j e.
        elim (chosen (sees k.Fun i) (abstraction inner i) _ (Ok (a, j)) e) [
          | inl h ↦ abstraction_sound.run i a j h.1
          | inr h ↦ elim (chosen (begins_binder i.ahead) (product inner i) (arrows inner i) (Ok (a, j)) h.1) [
            | inl g ↦ product_sound.run i a j g.1
            | inr g ↦ arrows_sound.run i a j g.1 g.0
          ]
        ];
  }

-- what is read is a term of the grammar, nested no deeper
pub term_sound : (d : ℕ) → Sound d (term d)
unfolding term
term_sound zero = refuse_means
term_sound (suc d) = whole_sound d (term d) (term_sound d)
