-- The loops of the reading: any count of turns above the number of tokens that are left gives the same; and an application is read by
-- the tokens up to the next one alone.
use Rattle.std.proofs.Common.{◌≡◌, ℕ, zero, suc, ◌+◌, ◌<◌, ◌≤◌, Bool, true, false, if◌then◌else◌, List, [], ◌∷◌, ◌++◌, Ok, Err, refl, ap, sym, ◌∙◌, arith}
use Rattle.term_syntax.specs.declared.surface.Surface.{Surface}
use Rattle.term_syntax.specs.declared.surface.Shape.TheVariants as shape
use Rattle.term_syntax.specs.declared.kind.Kind.{Kind}
use Rattle.term_syntax.specs.declared.kind.Kind.TheVariants as k
use Rattle.term_syntax.specs.Input.{Input, kind}
use Rattle.term_syntax.specs.Reading.{Outcome, Parser, and_then, ◌>>=◌, ◌>>◌, pure, peek, expect, eat, begins_atom, arguments, arguments_from, constant, atom_by, atom, atoms_from, applied, app}
use Rattle.term_syntax.specs.Grammar.{node}
use Rattle.term_syntax.proofs.Progress.{left, Shorter, eat_no_longer, atom_shorter}
use Rattle.term_syntax.proofs.Local.{Local, local_then, local_pure, local_refuse, local_here, local_by, local_take, local_expect, local_label, local_eat, end_close, local_parenthesized, local_arguments_from}
use Rattle.term_syntax.proofs.Loops.{cancel, local_atoms}

-- A loop whose count of turns is above the tokens that are left: any such count gives the same, and each is local.
local_fuel : {A : Type 0} (f : ℕ → Parser A) → ((n m : ℕ) (i : Input) → left i < n → left i < m → f n i ≡ f m i) → ((n : ℕ) → Local (f n)) → Local (λ i. f (suc (left i)) i)
local_fuel {A = A} f same l = record {
  ok = λ i a r e.
      let x = (l (suc (left i))).ok i a r e in (
        x.0,
        x.1,
        λ j tail h ej.
            let n = suc (left i + left j) in
            let y = (l n).ok i a r (same n (suc (left i)) i (omega arith) (omega arith) ∙ e) in
            let pre : x.0 ≡ y.0 = cancel x.0 y.0 r.ahead (sym x.1 ∙ y.1) in
            let z = y.2 j tail h (ej ∙ ap (λ p. p ++ tail) pre) in
            (z.0, same (suc (left j)) n j (omega arith) (omega arith) ∙ z.1, z.2),
      );
  err = λ i r e.
      let x = (l (suc (left i))).err i r e in (
        x.0,
        x.1,
        λ j tail h ej.
            let n = suc (left i + left j) in
            let y = (l n).err i r (same n (suc (left i)) i (omega arith) (omega arith) ∙ e) in
            let pre : x.0 ≡ y.0 = cancel x.0 y.0 r.ahead (sym x.1 ∙ y.1) in
            let z = y.2 j tail h (ej ∙ ap (λ p. p ++ tail) pre) in
            (z.0, same (suc (left j)) n j (omega arith) (omega arith) ∙ z.1),
      );
}

abbrev pub go_on : (inner : Parser Surface) → ℕ → List Surface → Surface → Bool → Parser (List Surface)
go_on inner n found x b = if b then arguments_from inner n (found ++ x ∷ []) else (expect k.Close >> pure (found ++ x ∷ []))

after_comma : (inner : Parser Surface) (n m : ℕ) (found : List Surface) (x : Surface) (r : Input) → ((q : Input) → left q ≤ left r → arguments_from inner n (found ++ x ∷ []) q ≡ arguments_from inner m (found ++ x ∷ []) q)
    → (o : Outcome Bool) → eat k.Comma r ≡ o → and_then o (go_on inner n found x) ≡ and_then o (go_on inner m found x)
after_comma inner n m found x r again (Ok (true, q)) e = again q (eat_no_longer k.Comma r true q e)
after_comma inner n m found x r again (Ok (false, q)) e = refl
after_comma inner n m found x r again (Err q) e = refl

after_first : (inner : Parser Surface) (n m : ℕ) (found : List Surface) (i : Input) → ((x : Surface) (r : Input) → inner i ≡ Ok (x, r) → (q : Input) → left q ≤ left r → arguments_from inner n (found ++ x ∷ []) q ≡ arguments_from inner m (found ++ x ∷ []) q)
    → (o : Outcome Surface) → inner i ≡ o → and_then o (λ x. eat k.Comma >>= go_on inner n found x) ≡ and_then o (λ x. eat k.Comma >>= go_on inner m found x)
after_first inner n m found i again (Ok (x, r)) e = after_comma inner n m found x r (again x r e) (eat k.Comma r) refl
after_first inner n m found i again (Err q) e = refl

after_atom : (inner : Parser Surface) (n m : ℕ) (found : List Surface) (i : Input) → ((x : Surface) (r : Input) → atom inner i ≡ Ok (x, r) → atoms_from inner n (found ++ x ∷ []) r ≡ atoms_from inner m (found ++ x ∷ []) r)
    → (o : Outcome Surface) → atom inner i ≡ o → and_then o (λ x. atoms_from inner n (found ++ x ∷ [])) ≡ and_then o (λ x. atoms_from inner m (found ++ x ∷ []))
after_atom inner n m found i again (Ok (x, r)) e = again x r e
after_atom inner n m found i again (Err q) e = refl

next_atom : (inner : Parser Surface) (n m : ℕ) (found : List Surface) (i : Input) → ((x : Surface) (r : Input) → atom inner i ≡ Ok (x, r) → atoms_from inner n (found ++ x ∷ []) r ≡ atoms_from inner m (found ++ x ∷ []) r)
    → (b : Bool) → (if b then (atom inner >>= (λ x. atoms_from inner n (found ++ x ∷ []))) else pure found) i ≡ (if b then (atom inner >>= (λ x. atoms_from inner m (found ++ x ∷ []))) else pure found) i
next_atom inner n m found i again true = after_atom inner n m found i again (atom inner i) refl
next_atom inner n m found i again false = refl

-- the loops with a count of turns that suffices
abbrev pub all_arguments : (inner : Parser Surface) → List Surface → Parser (List Surface)
all_arguments inner found = λ i. arguments_from inner (suc (left i)) found i

abbrev pub all_atoms : (inner : Parser Surface) → List Surface → Parser (List Surface)
all_atoms inner found = λ i. atoms_from inner (suc (left i)) found i

abbrev pub arguments_on : (inner : Parser Surface) → List Surface → Surface → Bool → Parser (List Surface)
arguments_on inner found x b = if b then all_arguments inner (found ++ x ∷ []) else (expect k.Close >> pure (found ++ x ∷ []))

module _ (inner : Parser Surface) (s : Shorter inner) where
  pub arguments_fuel : (n m : ℕ) (found : List Surface) (i : Input) → left i < n → left i < m → arguments_from inner n found i ≡ arguments_from inner m found i
  unfolding arguments_from
  arguments_fuel zero m found i a b = absurd (omega arith)
  arguments_fuel (suc n) zero found i a b = absurd (omega arith)
  arguments_fuel (suc n) (suc m) found i a b =
      after_first inner n m found i (λ x r e q h. arguments_fuel n m (found ++ x ∷ []) q (omega (arith, s i x r e)) (omega (arith, s i x r e))) (inner i) refl

  pub local_arguments : Local inner → Local (arguments inner)
  unfolding arguments
  local_arguments l = local_eat k.Close end_close (local_pure []) (local_fuel (λ n. arguments_from inner n []) (λ n m i a b. arguments_fuel n m [] i a b) (λ n. local_arguments_from inner l n []))

  local_constant : Local inner → Local (constant inner)
  unfolding constant
  local_constant l = local_here _ (λ at. local_then (λ name. expect k.Open >> (arguments inner >>= (λ found. pure (node at (shape.Const name found))))) local_take (λ name. local_then _ (local_expect k.Open (λ h. cc)) (λ _. local_then _ (local_arguments l) (λ found. local_pure (node at (shape.Const name found))))))

  local_atom_by : Local inner → (at : ℕ) (t : Kind) → Local (atom_by inner at t)
  local_atom_by l at k.Star = local_then (λ _. pure (node at shape.Star)) local_take (λ _. local_pure (node at shape.Star))
  local_atom_by l at k.Wild = local_then (λ _. pure (node at shape.Wild)) local_take (λ _. local_pure (node at shape.Wild))
  local_atom_by l at k.Asked = local_then (λ _. pure (node at shape.Asked)) local_take (λ _. local_pure (node at shape.Asked))
  local_atom_by l at k.Name = local_then (λ x. pure (node at (shape.Named x))) local_label (λ x. local_pure (node at (shape.Named x)))
  local_atom_by l at k.Level = local_then (λ x. pure (node at (shape.Named x))) local_label (λ x. local_pure (node at (shape.Named x)))
  local_atom_by l at k.Call = local_constant l
  local_atom_by l at k.Open = local_parenthesized inner l
  local_atom_by l at _ = local_refuse

  pub local_atom : Local inner → Local (atom inner)
  unfolding atom
  local_atom l = local_here (λ at i. atom_by inner at (kind i) i) (λ at. local_by (λ t. atom_by inner at t) (λ t. local_atom_by l at t))

  pub atoms_fuel : (n m : ℕ) (found : List Surface) (i : Input) → left i < n → left i < m → atoms_from inner n found i ≡ atoms_from inner m found i
  unfolding atoms_from
  atoms_fuel zero m found i a b = absurd (omega arith)
  atoms_fuel (suc n) zero found i a b = absurd (omega arith)
  atoms_fuel (suc n) (suc m) found i a b =
      next_atom inner n m found i (λ x r e. atoms_fuel n m (found ++ x ∷ []) r (omega (arith, atom_shorter inner s i x r e)) (omega (arith, atom_shorter inner s i x r e))) (begins_atom (kind i))

  pub local_app : Local inner → Local (app inner)
  unfolding app
  local_app l = local_here _ (λ at. local_then _ (local_atom l) (λ head. local_then _ (local_atoms inner s l) (λ others. local_pure (applied at head others))))

  -- one turn, and then the same loop
  comma_turn : (n : ℕ) (found : List Surface) (x : Surface) (r : Input) → left r < n → (o : Outcome Bool) → eat k.Comma r ≡ o → and_then o (go_on inner n found x) ≡ and_then o (arguments_on inner found x)
  comma_turn n found x r less (Ok (true, q)) e = arguments_fuel n (suc (left q)) (found ++ x ∷ []) q (omega (arith, less, eat_no_longer k.Comma r true q e)) (omega arith)
  comma_turn n found x r less (Ok (false, q)) e = refl
  comma_turn n found x r less (Err q) e = refl

  first_turn : (found : List Surface) (i : Input) (o : Outcome Surface) → inner i ≡ o → and_then o (λ x. eat k.Comma >>= go_on inner (left i) found x) ≡ and_then o (λ x. eat k.Comma >>= arguments_on inner found x)
  first_turn found i (Ok (x, r)) e = comma_turn (left i) found x r (s i x r e) (eat k.Comma r) refl
  first_turn found i (Err q) e = refl

  pub arguments_turn : (found : List Surface) (i : Input) → all_arguments inner found i ≡ (inner >>= (λ x. eat k.Comma >>= arguments_on inner found x)) i
  unfolding arguments_from
  arguments_turn found i = first_turn found i (inner i) refl

  atom_turn : (found : List Surface) (i : Input) (o : Outcome Surface) → atom inner i ≡ o → and_then o (λ x. atoms_from inner (left i) (found ++ x ∷ [])) ≡ and_then o (λ x. all_atoms inner (found ++ x ∷ []))
  atom_turn found i (Ok (x, r)) e = atoms_fuel (left i) (suc (left r)) (found ++ x ∷ []) r (atom_shorter inner s i x r e) (omega arith)
  atom_turn found i (Err q) e = refl

  either_turn : (found : List Surface) (i : Input) (b : Bool) → (if b then (atom inner >>= (λ x. atoms_from inner (left i) (found ++ x ∷ []))) else pure found) i ≡ (if b then (atom inner >>= (λ x. all_atoms inner (found ++ x ∷ []))) else pure found) i
  either_turn found i true = atom_turn found i (atom inner i) refl
  either_turn found i false = refl

  pub atoms_turn : (found : List Surface) (i : Input) → all_atoms inner found i ≡ (peek >>= (λ kind. if begins_atom kind then (atom inner >>= (λ x. all_atoms inner (found ++ x ∷ []))) else pure found)) i
  unfolding atoms_from
  atoms_turn found i = either_turn found i (begins_atom (kind i))
