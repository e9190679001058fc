-- Where a reader stands: directly after the last token that it took, and before the same end.
use Rattle.std.proofs.Common.{◌≡◌, ℕ, zero, suc, ◌+◌, Bool, true, false, if◌then◌else◌, inl, inr, ◌⊎◌, ◌≢◌, List, [], ◌∷◌, ◌++◌, length, Ok, Err, Some, None, refl, ap, ap₂, sym, ◌∙◌, append_assoc, subst}
use Rattle.term_syntax.specs.declared.surface.Surface.{Surface}
use Rattle.term_syntax.specs.declared.surface.Label.TheVariants as label
use Rattle.term_syntax.specs.declared.surface.Shape.TheVariants as shape
use Rattle.term_syntax.specs.declared.kind.Kind.{Kind}
use Rattle.term_syntax.specs.declared.kind.Kind.TheVariants as k
use Rattle.term_syntax.specs.Lex.{Lexeme, Text}
use Rattle.term_syntax.specs.Input.{Input, kind, next, place, spelling, begins_binder}
use Rattle.term_syntax.specs.Grammar.{node, level_of}
use Rattle.term_syntax.specs.FromPlace.{end_of}
use Rattle.term_syntax.specs.Reading.{Outcome, Parser, and_then, ◌>>=◌, pure, refuse, here, sees, expect, eat, take_token, label_by, label_at, begins_atom, binder, arguments_from, arguments, constant, parenthesized, atom_by, atom, atoms_from, atoms, app, applied, abstraction, product, arrows, whole, term}
use Rattle.term_syntax.proofs.Progress.{bind_ok, chosen, ok_inj}
use Rattle.term_syntax.proofs.Sound.{same_kind, takes}
use Rattle.term_syntax.proofs.Local.{err_inj}

-- some tokens were taken
pub record Walks (i j : Input) : Type 0 where
  pub taken : List Lexeme
  pub ahead : i.ahead ≡ taken ++ j.ahead
  pub at : j.at ≡ end_of i.at taken
  pub end : j.end ≡ i.end

-- an answer leaves the place after the tokens that were taken, and a refusal the end
pub record EndsAt {A : Type 0} (p : Parser A) (i : Input) : Type 0 where
  pub ok : (a : A) (j : Input) → p i ≡ Ok (a, j) → Walks i j
  pub err : (j : Input) → p i ≡ Err j → j.end ≡ i.end

abbrev pub Ends : {A : Type 0} → Parser A → Type 0
Ends p = (i : Input) → EndsAt p i

stay : (i : Input) → Walks i i
stay i = record { taken = []; ahead = refl; at = refl; end = refl }

end_append : (start : ℕ) (xs ys : List Lexeme) → end_of start (xs ++ ys) ≡ end_of (end_of start xs) ys
end_append start [] ys = refl
end_append start (l ∷ xs) ys = end_append (l.at + length l.text) xs ys

join : (i j r : Input) → Walks i j → Walks j r → Walks i r
join i j r x y = record {
  taken = x.taken ++ y.taken;
  ahead = x.ahead ∙ ap (λ ls. x.taken ++ ls) y.ahead ∙ sym (append_assoc x.taken y.taken r.ahead);
  at = y.at ∙ ap (λ n. end_of n y.taken) x.at ∙ sym (end_append i.at x.taken y.taken);
  end = y.end ∙ x.end;
}

same_input : (i j r : Input) → Walks i j → j ≡ r → Walks i r
same_input i j r w e = subst (Walks i) e w

step : (i : Input) (t : Kind) → t ≢ k.End → kind i ≡ t → Walks i (next i)
step i t some e =
    let got = takes i t some e in
    record { taken = got.0 ∷ []; ahead = got.1.ahead; at = ap₂ (λ m n. m + n) got.1.at (ap (λ (bytes : Text). length bytes) got.1.text); end = refl }

bind_err : {A B : Type 0} (o : Outcome A) (f : A → Parser B) (j : Input) → and_then o f ≡ Err j → ((x : A × Input) × (o ≡ Ok x) × (f x.0 x.1 ≡ Err j)) ⊎ (o ≡ Err j)
bind_err (Ok x) f j e = inl (x, refl, e)
bind_err {A = A} {B = B} (Err r) f j e = inr (ap (λ (q : Input). Err q) (err_inj {A = B} r j e))

then_at : {A B : Type 0} {p : Parser A} (f : A → Parser B) (i : Input) → EndsAt p i → ((a : A) → Ends (f a)) → EndsAt (p >>= f) i
then_at {p = p} f i m n = record {
  ok = λ b j e.
      let x = bind_ok (p i) f (b, j) e in
      join i x.0.1 j (m.ok x.0.0 x.0.1 x.1) ((n x.0.0 x.0.1).ok b j x.2);
  err = λ j e. elim (bind_err (p i) f j e) [
    | inl x ↦ (n x.0.0 x.0.1).err j x.2 ∙ (m.ok x.0.0 x.0.1 x.1).end
    | inr bad ↦ m.err j bad
  ];
}

then_ends : {A B : Type 0} {p : Parser A} (f : A → Parser B) → Ends p → ((a : A) → Ends (f a)) → Ends (p >>= f)
then_ends f m n i = then_at f i (m i) n

pure_ends : {A : Type 0} (a : A) → Ends (pure a)
pure_ends {A = A} a i = record { ok = λ b j e. same_input i i j (stay i) (ap (λ (p : A × Input). p.1) (ok_inj (a, i) (b, j) e)); err = λ j e. cc }

refuse_ends : {A : Type 0} → Ends (refuse {A = A})
refuse_ends {A = A} i = record { ok = λ b j e. cc; err = λ j e. ap (λ (r : Input). r.end) (sym (err_inj {A = A} i j e)) }

here_ends : {B : Type 0} (f : ℕ → Parser B) (i : Input) → ((at : ℕ) → EndsAt (f at) i) → EndsAt (here >>= f) i
here_ends f i m = record { ok = λ b j e. (m (place i)).ok b j e; err = λ j e. (m (place i)).err j e }

take_ends : {B : Type 0} (f : Text → Parser B) (i : Input) (t : Kind) → t ≢ k.End → kind i ≡ t → ((z : Text) → Ends (f z)) → EndsAt (take_token >>= f) i
take_ends f i t some is n = record {
  ok = λ b j e. join i (next i) j (step i t some is) ((n (spelling i) (next i)).ok b j e);
  err = λ j e. (n (spelling i) (next i)).err j e;
}

expect_ends : (t : Kind) → t ≢ k.End → Ends (expect t)
unfolding expect
expect_ends t some i = record {
  ok = λ u j e. elim (chosen (sees t i) (Ok (tt, next i)) (Err i) (Ok (u, j)) e) [
    | inl h ↦ same_input i (next i) j (step i t some (same_kind (kind i) t h.0)) (ap (λ (p : Unit {0} × Input). p.1) (ok_inj (tt, next i) (u, j) h.1))
    | inr h ↦ cc h.1
  ];
  err = λ j e. elim (chosen (sees t i) (Ok (tt, next i)) (Err i) (Err j) e) [ inl h ↦ cc h.1 | inr h ↦ ap (λ (r : Input). r.end) (sym (err_inj {A = Unit {0}} i j h.1)) ];
}

eat_ends : (t : Kind) → t ≢ k.End → Ends (eat t)
unfolding eat
eat_ends t some i = record {
  ok = λ b j e. elim (chosen (sees t i) (Ok (true, next i)) (Ok (false, i)) (Ok (b, j)) e) [
    | inl h ↦ same_input i (next i) j (step i t some (same_kind (kind i) t h.0)) (ap (λ (p : Bool × Input). p.1) (ok_inj (true, next i) (b, j) h.1))
    | inr h ↦ same_input i i j (stay i) (ap (λ (p : Bool × Input). p.1) (ok_inj (false, i) (b, j) h.1))
  ];
  err = λ j e. elim (chosen (sees t i) (Ok (true, next i)) (Ok (false, i)) (Err j) e) [ inl h ↦ cc h.1 | inr h ↦ cc h.1 ];
}

if_ends : {A : Type 0} (b : Bool) (p q : Parser A) → Ends p → Ends q → Ends (if b then p else q)
if_ends true p q x y = x
if_ends false p q x y = y

if_ends_at : {A : Type 0} (b : Bool) (p q : Parser A) (i : Input) → EndsAt p i → EndsAt q i → EndsAt (λ i. (if b then p else q) i) i
if_ends_at true p q i x y = record { ok = λ a j e. x.ok a j e; err = λ j e. x.err j e }
if_ends_at false p q i x y = record { ok = λ a j e. y.ok a j e; err = λ j e. y.err j e }

label_by_ends : (t : Kind) (i : Input) → kind i ≡ t → EndsAt (label_by t) i
label_by_ends k.Name i is = take_ends _ i k.Name (λ h. cc) is (λ z. pure_ends (label.Plain z))
label_by_ends k.Level i is = take_ends _ i k.Level (λ h. cc) is (λ z. pure_ends (label.Level (level_of z)))
label_by_ends k.Call i is = take_ends _ i k.Call (λ h. cc) is (λ z. refuse_ends)
label_by_ends _ i is = refuse_ends i

label_ends : Ends label_at
unfolding label_at
label_ends i = let m = label_by_ends (kind i) i refl in record { ok = λ a j e. m.ok a j e; err = λ j e. m.err j e }

module _ (inner : Parser Surface) (s : Ends inner) where
  binder_ends : Ends (binder inner)
  unfolding binder
  binder_ends = then_ends _ (expect_ends k.Open (λ h. cc)) (λ _. then_ends _ label_ends (λ x. then_ends _ (expect_ends k.Colon (λ h. cc)) (λ _. then_ends _ s (λ ty. then_ends _ (expect_ends k.Close (λ h. cc)) (λ _. pure_ends (x, ty))))))

  parenthesized_ends : Ends (parenthesized inner)
  unfolding parenthesized
  parenthesized_ends = then_ends _ (expect_ends k.Open (λ h. cc)) (λ _. then_ends _ s (λ t. then_ends _ (expect_ends k.Close (λ h. cc)) (λ _. pure_ends t)))

  abstraction_ends : Ends (abstraction inner)
  unfolding abstraction
  abstraction_ends i = here_ends _ i (λ at. then_ends _ (expect_ends k.Fun (λ h. cc)) (λ _. then_ends _ binder_ends (λ b. then_ends _ (expect_ends k.FatArrow (λ h. cc)) (λ _. then_ends _ s (λ body. pure_ends (node at (shape.Lam b.0 b.1 body)))))) i)

  product_ends : Ends (product inner)
  unfolding product
  product_ends i = here_ends _ i (λ at. then_ends _ binder_ends (λ b. then_ends _ (expect_ends k.Arrow (λ h. cc)) (λ _. then_ends _ s (λ body. pure_ends (node at (shape.Pi (Some b.0) b.1 body))))) i)

  arguments_from_ends : (n : ℕ) (found : List Surface) → Ends (arguments_from inner n found)
  unfolding arguments_from
  arguments_from_ends zero found = refuse_ends
  arguments_from_ends (suc n) found = then_ends _ s (λ x. then_ends _ (eat_ends k.Comma (λ h. cc)) (λ more. if_ends more _ _ (arguments_from_ends n (found ++ x ∷ [])) (then_ends _ (expect_ends k.Close (λ h. cc)) (λ _. pure_ends (found ++ x ∷ [])))))

  arguments_all_ends : Ends (λ i. arguments_from inner (suc (length i.ahead)) [] i)
  arguments_all_ends i = let m = arguments_from_ends (suc (length i.ahead)) [] i in record { ok = λ a j e. m.ok a j e; err = λ j e. m.err j e }

  arguments_ends : Ends (arguments inner)
  unfolding arguments
  arguments_ends = then_ends _ (eat_ends k.Close (λ h. cc)) (λ none. if_ends none _ _ (pure_ends []) arguments_all_ends)

  constant_ends : (i : Input) → kind i ≡ k.Call → EndsAt (constant inner) i
  unfolding constant
  constant_ends i is = here_ends _ i (λ at. take_ends _ i k.Call (λ h. cc) is (λ name. then_ends _ (expect_ends k.Open (λ h. cc)) (λ _. then_ends _ arguments_ends (λ found. pure_ends (node at (shape.Const name found))))))

  atom_by_ends : (t : Kind) (at : ℕ) (i : Input) → kind i ≡ t → EndsAt (atom_by inner at t) i
  atom_by_ends k.Star at i is = take_ends _ i k.Star (λ h. cc) is (λ _. pure_ends (node at shape.Star))
  atom_by_ends k.Wild at i is = take_ends _ i k.Wild (λ h. cc) is (λ _. pure_ends (node at shape.Wild))
  atom_by_ends k.Asked at i is = take_ends _ i k.Asked (λ h. cc) is (λ _. pure_ends (node at shape.Asked))
  atom_by_ends k.Name at i is = then_at _ i (label_ends i) (λ x. pure_ends (node at (shape.Named x)))
  atom_by_ends k.Level at i is = then_at _ i (label_ends i) (λ x. pure_ends (node at (shape.Named x)))
  atom_by_ends k.Call at i is = constant_ends i is
  atom_by_ends k.Open at i is = parenthesized_ends i
  atom_by_ends _ at i is = refuse_ends i

  atom_ends : Ends (atom inner)
  unfolding atom
  atom_ends i = let m = atom_by_ends (kind i) (place i) i refl in record { ok = λ a j e. m.ok a j e; err = λ j e. m.err j e }

  atoms_from_ends : (n : ℕ) (found : List Surface) → Ends (atoms_from inner n found)
  unfolding atoms_from
  atoms_from_ends zero found i = pure_ends found i
  atoms_from_ends (suc n) found i =
      let m = if_ends (begins_atom (kind i)) _ _ (then_ends _ atom_ends (λ x. atoms_from_ends n (found ++ x ∷ []))) (pure_ends found) i in
      record { ok = λ a j e. m.ok a j e; err = λ j e. m.err j e }

  atoms_ends : Ends (atoms inner)
  unfolding atoms
  atoms_ends i = let m = atoms_from_ends (suc (length i.ahead)) [] i in record { ok = λ a j e. m.ok a j e; err = λ j e. m.err j e }

  app_ends : Ends (app inner)
  unfolding app
  app_ends i = here_ends _ i (λ at. then_ends _ atom_ends (λ head. then_ends _ atoms_ends (λ others. pure_ends (applied at head others))) i)

  arrows_ends : Ends (arrows inner)
  unfolding arrows
  arrows_ends i = here_ends _ i (λ at. then_ends _ app_ends (λ from. then_ends _ (eat_ends k.Arrow (λ h. cc)) (λ goes_on. if_ends goes_on _ _ (then_ends _ s (λ to. pure_ends (node at (shape.Pi None from to)))) (pure_ends from))) i)

  whole_ends : Ends (whole inner)
  unfolding whole
  whole_ends i = record {
    ok = λ a j e. elim (chosen (sees k.Fun i) (abstraction inner i) _ (Ok (a, j)) e) [
      | inl h ↦ (abstraction_ends i).ok a j h.1
      | inr h ↦ elim (chosen (begins_binder i.ahead) (product inner i) (arrows inner i) (Ok (a, j)) h.1) [ inl g ↦ (product_ends i).ok a j g.1 | inr g ↦ (arrows_ends i).ok a j g.1 ]
    ];
    err = λ j e. elim (chosen (sees k.Fun i) (abstraction inner i) _ (Err j) e) [
      | inl h ↦ (abstraction_ends i).err j h.1
      | inr h ↦ elim (chosen (begins_binder i.ahead) (product inner i) (arrows inner i) (Err j) h.1) [ inl g ↦ (product_ends i).err j g.1 | inr g ↦ (arrows_ends i).err j g.1 ]
    ];
  }

pub term_ends : (depth : ℕ) → Ends (term depth)
unfolding term
term_ends zero = refuse_ends
term_ends (suc depth) = whole_ends (term depth) (term_ends depth)
