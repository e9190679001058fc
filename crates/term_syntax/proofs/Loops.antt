-- The loops of the reading look no further than the next token either, and neither do those that stand on them.
use Rattle.std.proofs.Common.{◌≡◌, ℕ, zero, suc, ◌+◌, ◌<◌, ◌≤◌, Bool, true, false, if◌then◌else◌, List, [], ◌∷◌, ◌++◌, length, Ok, Err, None, refl, ap, sym, ◌∙◌, arith, length-append}
use Rattle.term_syntax.specs.declared.surface.Surface.{Surface}
use Rattle.term_syntax.specs.declared.surface.Shape.TheVariants as shape
use Rattle.term_syntax.specs.declared.kind.Kind.{Kind}
use Rattle.term_syntax.specs.declared.kind.Kind.TheVariants as k
use Rattle.term_syntax.specs.Lex.{Lexeme}
use Rattle.term_syntax.specs.Input.{Input, kind}
use Rattle.term_syntax.specs.Reading.{Outcome, Parser, and_then, ◌>>=◌, ◌>>◌, pure, expect, eat, begins_atom, arguments, arguments_from, constant, atom_by, atom, atoms, atoms_from, applied, app, arrows}
use Rattle.term_syntax.specs.Grammar.{node}
use Rattle.term_syntax.proofs.Progress.{left, Shorter, eat_no_longer, atom_shorter}
use Rattle.term_syntax.proofs.Local.{Local, local_then, local_pure, local_refuse, local_here, local_by, local_take, local_expect, local_label, local_eat, local_peek, end_close, end_arrow, local_parenthesized, local_arguments_from}

-- the same tokens are in front of the same rest
pub cancel : (a b c : List Lexeme) → a ++ c ≡ b ++ c → a ≡ b
cancel [] [] c e = refl
cancel [] (y ∷ b) c e = absurd (omega (arith, ap (λ ls. length ls) e, length-append b c))
cancel (x ∷ a) [] c e = absurd (omega (arith, ap (λ ls. length ls) e, length-append a c))
cancel (x ∷ a) (y ∷ b) c e = let h : x ≡ y = cc in let t : a ++ c ≡ b ++ c = cc in ap (λ z. z ∷ a) h ∙ ap (λ zs. y ∷ zs) (cancel a b c t)

-- A loop whose count of turns is above the tokens that are left: any such count gives the same, and each is local.
pub local_fuel : {A : Type 0} (f : ℕ → Parser A) → ((n m : ℕ) (i : Input) → left i < n → left i < m → f n i ≡ f m i) → ((n : ℕ) → Local (f n)) → Local (λ i. f (suc (left i)) i)
local_fuel {A = A} f same l = record {
  ok = λ i a r e.
      let x = (l (suc (left i))).ok i a r e in (
        x.0,
        x.1,
        λ j tail h ej.
            let n = suc (left i + left j) in
            let y = (l n).ok i a r (same n (suc (left i)) i (omega arith) (omega arith) ∙ e) in
            let pre : x.0 ≡ y.0 = cancel x.0 y.0 r.ahead (sym x.1 ∙ y.1) in
            let z = y.2 j tail h (ej ∙ ap (λ p. p ++ tail) pre) in
            (z.0, same (suc (left j)) n j (omega arith) (omega arith) ∙ z.1, z.2),
      );
  err = λ i r e.
      let x = (l (suc (left i))).err i r e in (
        x.0,
        x.1,
        λ j tail h ej.
            let n = suc (left i + left j) in
            let y = (l n).err i r (same n (suc (left i)) i (omega arith) (omega arith) ∙ e) in
            let pre : x.0 ≡ y.0 = cancel x.0 y.0 r.ahead (sym x.1 ∙ y.1) in
            let z = y.2 j tail h (ej ∙ ap (λ p. p ++ tail) pre) in
            (z.0, same (suc (left j)) n j (omega arith) (omega arith) ∙ z.1),
      );
}

abbrev go_on : (inner : Parser Surface) → ℕ → List Surface → Surface → Bool → Parser (List Surface)
go_on inner n found x b = if b then arguments_from inner n (found ++ x ∷ []) else (expect k.Close >> pure (found ++ x ∷ []))

after_comma : (inner : Parser Surface) (n m : ℕ) (found : List Surface) (x : Surface) (r : Input) → ((q : Input) → left q ≤ left r → arguments_from inner n (found ++ x ∷ []) q ≡ arguments_from inner m (found ++ x ∷ []) q)
    → (o : Outcome Bool) → eat k.Comma r ≡ o → and_then o (go_on inner n found x) ≡ and_then o (go_on inner m found x)
after_comma inner n m found x r again (Ok (true, q)) e = again q (eat_no_longer k.Comma r true q e)
after_comma inner n m found x r again (Ok (false, q)) e = refl
after_comma inner n m found x r again (Err q) e = refl

after_first : (inner : Parser Surface) (n m : ℕ) (found : List Surface) (i : Input) → ((x : Surface) (r : Input) → inner i ≡ Ok (x, r) → (q : Input) → left q ≤ left r → arguments_from inner n (found ++ x ∷ []) q ≡ arguments_from inner m (found ++ x ∷ []) q)
    → (o : Outcome Surface) → inner i ≡ o → and_then o (λ x. eat k.Comma >>= go_on inner n found x) ≡ and_then o (λ x. eat k.Comma >>= go_on inner m found x)
after_first inner n m found i again (Ok (x, r)) e = after_comma inner n m found x r (again x r e) (eat k.Comma r) refl
after_first inner n m found i again (Err q) e = refl

after_atom : (inner : Parser Surface) (n m : ℕ) (found : List Surface) (i : Input) → ((x : Surface) (r : Input) → atom inner i ≡ Ok (x, r) → atoms_from inner n (found ++ x ∷ []) r ≡ atoms_from inner m (found ++ x ∷ []) r)
    → (o : Outcome Surface) → atom inner i ≡ o → and_then o (λ x. atoms_from inner n (found ++ x ∷ [])) ≡ and_then o (λ x. atoms_from inner m (found ++ x ∷ []))
after_atom inner n m found i again (Ok (x, r)) e = again x r e
after_atom inner n m found i again (Err q) e = refl

next_atom : (inner : Parser Surface) (n m : ℕ) (found : List Surface) (i : Input) → ((x : Surface) (r : Input) → atom inner i ≡ Ok (x, r) → atoms_from inner n (found ++ x ∷ []) r ≡ atoms_from inner m (found ++ x ∷ []) r)
    → (b : Bool) → (if b then (atom inner >>= (λ x. atoms_from inner n (found ++ x ∷ []))) else pure found) i ≡ (if b then (atom inner >>= (λ x. atoms_from inner m (found ++ x ∷ []))) else pure found) i
next_atom inner n m found i again true = after_atom inner n m found i again (atom inner i) refl
next_atom inner n m found i again false = refl

module _ (inner : Parser Surface) (s : Shorter inner) where
  arguments_fuel : (n m : ℕ) (found : List Surface) (i : Input) → left i < n → left i < m → arguments_from inner n found i ≡ arguments_from inner m found i
  unfolding arguments_from
  arguments_fuel zero m found i a b = absurd (omega arith)
  arguments_fuel (suc n) zero found i a b = absurd (omega arith)
  arguments_fuel (suc n) (suc m) found i a b =
      after_first inner n m found i (λ x r e q h. arguments_fuel n m (found ++ x ∷ []) q (omega (arith, s i x r e)) (omega (arith, s i x r e))) (inner i) refl

  local_arguments : Local inner → Local (arguments inner)
  unfolding arguments
  local_arguments l = local_eat k.Close end_close (local_pure []) (local_fuel (λ n. arguments_from inner n []) (λ n m i a b. arguments_fuel n m [] i a b) (λ n. local_arguments_from inner l n []))

  local_constant : Local inner → Local (constant inner)
  unfolding constant
  local_constant l = local_here _ (λ at. local_then (λ name. expect k.Open >> (arguments inner >>= (λ found. pure (node at (shape.Const name found))))) local_take (λ name. local_then _ (local_expect k.Open (λ h. cc)) (λ _. local_then _ (local_arguments l) (λ found. local_pure (node at (shape.Const name found))))))

  local_atom_by : Local inner → (at : ℕ) (t : Kind) → Local (atom_by inner at t)
  local_atom_by l at k.Star = local_then (λ _. pure (node at shape.Star)) local_take (λ _. local_pure (node at shape.Star))
  local_atom_by l at k.Wild = local_then (λ _. pure (node at shape.Wild)) local_take (λ _. local_pure (node at shape.Wild))
  local_atom_by l at k.Asked = local_then (λ _. pure (node at shape.Asked)) local_take (λ _. local_pure (node at shape.Asked))
  local_atom_by l at k.Name = local_then (λ x. pure (node at (shape.Named x))) local_label (λ x. local_pure (node at (shape.Named x)))
  local_atom_by l at k.Level = local_then (λ x. pure (node at (shape.Named x))) local_label (λ x. local_pure (node at (shape.Named x)))
  local_atom_by l at k.Call = local_constant l
  local_atom_by l at k.Open = local_parenthesized inner l
  local_atom_by l at _ = local_refuse

  local_atom : Local inner → Local (atom inner)
  unfolding atom
  local_atom l = local_here (λ at i. atom_by inner at (kind i) i) (λ at. local_by (λ t. atom_by inner at t) (λ t. local_atom_by l at t))

  local_atoms_from : Local inner → (n : ℕ) (found : List Surface) → Local (atoms_from inner n found)
  unfolding atoms_from
  local_atoms_from l zero found = local_pure found
  local_atoms_from l (suc n) found = local_peek begins_atom (local_then _ (local_atom l) (λ x. local_atoms_from l n (found ++ x ∷ []))) (local_pure found)

  atoms_fuel : (n m : ℕ) (found : List Surface) (i : Input) → left i < n → left i < m → atoms_from inner n found i ≡ atoms_from inner m found i
  unfolding atoms_from
  atoms_fuel zero m found i a b = absurd (omega arith)
  atoms_fuel (suc n) zero found i a b = absurd (omega arith)
  atoms_fuel (suc n) (suc m) found i a b =
      next_atom inner n m found i (λ x r e. atoms_fuel n m (found ++ x ∷ []) r (omega (arith, atom_shorter inner s i x r e)) (omega (arith, atom_shorter inner s i x r e))) (begins_atom (kind i))

  pub local_atoms : Local inner → Local (atoms inner)
  unfolding atoms
  local_atoms l = local_fuel (λ n. atoms_from inner n []) (λ n m i a b. atoms_fuel n m [] i a b) (λ n. local_atoms_from l n [])

  local_app : Local inner → Local (app inner)
  unfolding app
  local_app l = local_here _ (λ at. local_then _ (local_atom l) (λ head. local_then _ (local_atoms l) (λ others. local_pure (applied at head others))))

  pub local_arrows : Local inner → Local (arrows inner)
  unfolding arrows
  local_arrows l = local_here _ (λ at. local_then _ (local_app l) (λ from. local_eat k.Arrow end_arrow (local_then _ l (λ to. local_pure (node at (shape.Pi None from to)))) (local_pure from)))
