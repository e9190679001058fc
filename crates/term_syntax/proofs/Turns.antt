-- Loops beside recursions on a count of turns, which is above the number of tokens that are left.
use Rattle.std.proofs.Common.{◌≡◌, ℕ, zero, suc, ◌-◌, ◌<◌, true, false, List, [], ◌∷◌, ◌++◌, length, Ok, Err, refl, ◌∙◌, arith}
use Rattle.term_syntax.specs.declared.surface.Surface.{Surface}
use Rattle.term_syntax.specs.declared.kind.Kind.TheVariants as k
use Rattle.term_syntax.specs.Input.{Input, kind}
use Rattle.term_syntax.specs.Reading.{Outcome, Parser, pure, expect, eat, begins_atom, arguments_from, arguments, atom, atoms_from, atoms, Reads, term, whole, ◌>>◌}
use Rattle.term_syntax.specs.declared.fault.ReadFault.{ReadFault}
use Rattle.term_syntax.specs.declared.fault.ReadFault.TheVariants as fault
use Rattle.term_syntax.proofs.Progress.{left, Shorter, atom_shorter, eat_no_longer}

-- some number of turns, above the tokens that are left, leads from here to the whole
abbrev pub Leads : Outcome (List Surface) → (ℕ → List Surface → Parser (List Surface)) → List Surface → Input → Type 0
Leads w from found i = (n : ℕ) × (left i < n) × (w ≡ from n found i)

module _ (inner : Parser Surface) (s : Shorter inner) where
  pub atoms_init : (i : Input) (found : List Surface) → found ≡ [] → Leads (atoms inner i) (atoms_from inner) found i
  unfolding atoms
  atoms_init i found none = (suc (length i.ahead), omega arith, rw none refl)

  pub atoms_turn : (w : Outcome (List Surface)) (i : Input) (found : List Surface) (x : Surface) (j : Input) (more : List Surface)
      → Leads w (atoms_from inner) found i → begins_atom (kind i) ≡ true → atom inner i ≡ Ok (x, j) → more ≡ found ++ x ∷ [] → Leads w (atoms_from inner) more j
  unfolding atoms_from
  atoms_turn w i found x j more (zero, below, e) begins got is = absurd (omega arith)
  atoms_turn w i found x j more (suc n, below, e) begins got is = (n, omega (arith, atom_shorter inner s i x j got), e ∙ rw (begins, got, is) refl)

  pub atoms_fault : (w : Outcome (List Surface)) (i : Input) (found : List Surface) (at : Input)
      → Leads w (atoms_from inner) found i → begins_atom (kind i) ≡ true → atom inner i ≡ Err at → w ≡ Err at
  unfolding atoms_from
  atoms_fault w i found at (zero, below, e) begins got = absurd (omega arith)
  atoms_fault w i found at (suc n, below, e) begins got = e ∙ rw (begins, got) refl

  pub atoms_done : (w : Outcome (List Surface)) (i : Input) (found : List Surface) → Leads w (atoms_from inner) found i → begins_atom (kind i) ≡ false → w ≡ Ok (found, i)
  unfolding atoms_from
  atoms_done w i found (zero, below, e) over = absurd (omega arith)
  atoms_done w i found (suc n, below, e) over = e ∙ rw over refl

  pub arguments_none : (i j : Input) → eat k.Close i ≡ Ok (true, j) → arguments inner i ≡ Ok ([], j)
  unfolding arguments
  arguments_none i j e = rw e refl

  pub arguments_init : (i j : Input) (found : List Surface) → eat k.Close i ≡ Ok (false, j) → found ≡ [] → Leads (arguments inner i) (arguments_from inner) found j
  unfolding arguments
  arguments_init i j found e none = (suc (length j.ahead), omega arith, rw (e, none) refl)

  pub arguments_turn : (w : Outcome (List Surface)) (i : Input) (found : List Surface) (x : Surface) (j j' : Input) (more : List Surface)
      → Leads w (arguments_from inner) found i → inner i ≡ Ok (x, j) → eat k.Comma j ≡ Ok (true, j') → more ≡ found ++ x ∷ [] → Leads w (arguments_from inner) more j'
  unfolding arguments_from
  arguments_turn w i found x j j' more (zero, below, e) got comma is = absurd (omega arith)
  arguments_turn w i found x j j' more (suc n, below, e) got comma is =
      (n, omega (arith, s i x j got, eat_no_longer k.Comma j true j' comma), e ∙ rw (got, comma, is) refl)

  pub arguments_fault : (w : Outcome (List Surface)) (i : Input) (found : List Surface) (at : Input)
      → Leads w (arguments_from inner) found i → inner i ≡ Err at → w ≡ Err at
  unfolding arguments_from
  arguments_fault w i found at (zero, below, e) got = absurd (omega arith)
  arguments_fault w i found at (suc n, below, e) got = e ∙ rw got refl

  pub arguments_done : (w : Outcome (List Surface)) (i : Input) (found : List Surface) (x : Surface) (j j' : Input) (more : List Surface)
      → Leads w (arguments_from inner) found i → inner i ≡ Ok (x, j) → eat k.Comma j ≡ Ok (false, j') → more ≡ found ++ x ∷ [] → w ≡ (expect k.Close >> pure more) j'
  unfolding arguments_from
  arguments_done w i found x j j' more (zero, below, e) got comma is = absurd (omega arith)
  arguments_done w i found x j j' more (suc n, below, e) got comma is = e ∙ rw (got, comma, is) refl

  pub atoms_refused : (w : Outcome (List Surface)) (i : Input) (found : List Surface) (e : ReadFault) (j : Input)
      → Leads w (atoms_from inner) found i → begins_atom (kind i) ≡ true → Reads (atom inner i) (Err e) j → Reads w (Err e) j
  atoms_refused w i found fault.Memory j h begins got = tt
  atoms_refused w i found (fault.Syntax at) j h begins got = (atoms_fault w i found j h begins got.0, got.1)

  pub arguments_refused : (w : Outcome (List Surface)) (i : Input) (found : List Surface) (e : ReadFault) (j : Input)
      → Leads w (arguments_from inner) found i → Reads (inner i) (Err e) j → Reads w (Err e) j
  arguments_refused w i found fault.Memory j h got = tt
  arguments_refused w i found (fault.Syntax at) j h got = (arguments_fault w i found j h got.0, got.1)

-- the close of a list of arguments
pub closed_refused : (w : Outcome (List Surface)) (i : Input) (more : List Surface) (e : ReadFault) (j : Input) → w ≡ (expect k.Close >> pure more) i → Reads (expect k.Close i) (Err e) j → Reads w (Err e) j
closed_refused w i more fault.Memory j is got = tt
closed_refused w i more (fault.Syntax at) j is got = (is ∙ rw got.0 refl, got.1)

pub closed : (w : Outcome (List Surface)) (i : Input) (more : List Surface) (j : Input) → w ≡ (expect k.Close >> pure more) i → expect k.Close i ≡ Ok (tt, j) → w ≡ Ok (more, j)
closed w i more j is got = is ∙ rw got refl

pub deeper : (depth : ℕ) (i : Input) → 0 < depth → term depth i ≡ whole (term (depth - 1)) i
unfolding term
deeper zero i some = absurd (omega arith)
deeper (suc depth) i some = let e : suc depth - 1 ≡ depth = omega arith in rw e refl
