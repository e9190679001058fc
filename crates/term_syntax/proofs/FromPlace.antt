-- Reading from a place of a text, against the grammar.
use Rattle.std.proofs.Common.{◌≡◌, ℕ, min, length, false, ◌||◌, List, [], ◌∷◌, ◌++◌, Result, Ok, Err, refl, ap, sym, ◌∙◌, subst, IfOk}
use Rattle.std.proofs.lemmas.List.{append-nil}
use Rattle.term_syntax.specs.declared.surface.Surface.{Surface}
use Rattle.term_syntax.specs.declared.kind.Kind.TheVariants.{Arrow}
use Rattle.term_syntax.specs.declared.fault.ReadFault.{ReadFault}
use Rattle.term_syntax.specs.declared.fault.ReadFault.TheVariants as fault
use Rattle.term_syntax.specs.Kinds.{is_kind}
use Rattle.term_syntax.specs.Lex.{Text, Lexeme}
use Rattle.term_syntax.specs.Input.{Input, kind_of, place, place_of, input_at}
use Rattle.term_syntax.specs.Reading.{Outcome, begins_atom, term, read_at, IsRead, Gives}
use Rattle.term_syntax.specs.Grammar.{IsTerm, IsRight}
use Rattle.term_syntax.specs.FromPlace.{end_of, IsTermAt, IsRefusedAt, StandsAt}
use Rattle.term_syntax.proofs.Progress.{ok_inj}
use Rattle.term_syntax.proofs.Sound.{term_sound}
use Rattle.term_syntax.proofs.Complete.{Follows, term_runs, ends}
use Rattle.term_syntax.proofs.Whole.{local_term}
use Rattle.term_syntax.proofs.Loops.{cancel}
use Rattle.term_syntax.proofs.PrintedTokens.{or_false}
use Rattle.term_syntax.proofs.Walks.{term_ends}

-- tokens alone, whatever place they have
abbrev bare : List Lexeme → Input
bare ls = record { at = 0; end = 0; ahead = ls }

module _ (text : Text) (at : ℕ) where
  abbrev start : Input
  start = input_at text (min at (length text))

  is_term : (t : Surface) (j : Input) → term 512 start ≡ Ok (t, j) → IsTermAt text at t j.at
  is_term t j e =
      let x = (local_term 512).ok start t j e in
      let w = (term_ends 512 start).ok t j e in
      let same : w.taken ≡ x.0 = cancel w.taken x.0 j.ahead (sym w.ahead ∙ x.1) in
      record {
        taken = x.0;
        rest = j.ahead;
        tokens = x.1;
        term = subst (λ ls. IsTerm 512 ls t j.ahead) x.1 ((term_sound 512).run start t j e);
        greatest = λ l behind others is u h.
            let again = x.2 (bare (x.0 ++ l ∷ others)) (l ∷ others) (l, others, behind, refl, is) refl in
            let yes = (term_runs h ends).run (bare (x.0 ++ l ∷ others)) refl in
            let left : again.0 ≡ yes.0 = ap (λ (p : Surface × Input). p.1) (ok_inj (t, again.0) (u, yes.0) (sym again.1 ∙ yes.1)) in
            let clash : l ∷ others ≡ [] = sym again.2 ∙ ap (λ (r : Input). r.ahead) left ∙ yes.2 in
            cc clash;
        ends = w.at ∙ ap (λ ls. end_of (min at (length text)) ls) same;
      }

  is_refused : (j : Input) → term 512 start ≡ Err j → IsRefusedAt text at (place j)
  is_refused j e =
      let x = (local_term 512).err start j e in
      record {
        taken = x.0;
        rest = j.ahead;
        tokens = x.1;
        none = λ l behind others is u h.
            let again = x.2 (bare (x.0 ++ l ∷ others)) (l ∷ others) (l, others, behind, refl, is) refl in
            let yes = (term_runs h ends).run (bare (x.0 ++ l ∷ others)) refl in
            let clash = sym yes.1 ∙ again.1 in
            cc clash;
        ends_early = λ over u h.
            let all : start.ahead ≡ x.0 = x.1 ∙ ap (λ ls. x.0 ++ ls) over ∙ append-nil x.0 in
            let yes = (term_runs h ends).run start all in
            let clash = sym yes.1 ∙ e in
            cc clash;
        at_next = ap (λ n. place_of n j.ahead) ((term_ends 512 start).err j e);
      }

  follows : (rest : List Lexeme) → (begins_atom (kind_of rest) || is_kind (kind_of rest) Arrow) ≡ false → Follows rest
  follows rest e = let p = or_false (begins_atom (kind_of rest)) (is_kind (kind_of rest) Arrow) e in record { no_atom = p.0; no_arrow = p.1 }

  is_read : (t : Surface) (after : ℕ) → StandsAt text at t after → (j : Input) × (term 512 start ≡ Ok (t, j)) × (j.at ≡ after)
  is_read t after s =
      let x = (term_runs s.term (follows s.rest s.over)).run start s.tokens in
      let w = (term_ends 512 start).ok t x.0 x.1 in
      let same : w.taken ≡ s.taken = cancel w.taken s.taken s.rest (ap (λ ls. w.taken ++ ls) (sym x.2) ∙ sym w.ahead ∙ s.tokens) in
      (x.0, x.1, w.at ∙ ap (λ ls. end_of (min at (length text)) ls) same ∙ sym s.ends)

  found_by : (o : Outcome Surface) (p : Surface × ℕ) → o ≡ term 512 start → IsRead (λ t i. (t, i.at)) o p → IsTermAt text at p.0 p.1
  found_by (Ok q) p is e = subst (λ (p : Surface × ℕ). IsTermAt text at p.0 p.1) (sym e) (is_term q.0 q.1 (sym is))
  found_by (Err e) p is h = absurd h

  pub found_at : (r : Result (Surface × ℕ) ReadFault) → Gives (λ t i. (t, i.at)) (read_at text at) r → IfOk r (λ p. IsTermAt text at p.0 p.1)
  unfolding read_at
  found_at (Ok p) h = found_by (term 512 start) p refl h
  found_at (Err e) h = tt

  refused_by : (place' : ℕ) (r : Result (Surface × ℕ) ReadFault) → Gives (λ t i. (t, i.at)) (term 512 start) r → r ≡ Err (fault.Syntax place') → IsRefusedAt text at place'
  refused_by n (Ok p) h e = cc e
  refused_by n (Err fault.Memory) h e = cc e
  refused_by n (Err (fault.Syntax m)) h e =
      let is : m ≡ n = cc e in
      subst (λ n. IsRefusedAt text at n) (sym h.2 ∙ is) (is_refused h.0 h.1)

  pub refused_at : (n : ℕ) (r : Result (Surface × ℕ) ReadFault) → Gives (λ t i. (t, i.at)) (read_at text at) r → r ≡ Err (fault.Syntax n) → IsRefusedAt text at n
  unfolding read_at
  refused_at n r h e = refused_by n r h e

  read_by : (o : Outcome Surface) (p : Surface × ℕ) (t : Surface) (j : Input) → o ≡ Ok (t, j) → IsRead (λ t i. (t, i.at)) o p → p ≡ (t, j.at)
  read_by (Ok q) p t j e h = h ∙ ap (λ (q : Surface × Input). (q.0, q.1.at)) (ok_inj q (t, j) e)
  read_by (Err i) p t j e h = absurd h

  right : (t : Surface) (after : ℕ) → StandsAt text at t after → (r : Result (Surface × ℕ) ReadFault) → Gives (λ t i. (t, i.at)) (term 512 start) r → IsRight r (λ p. p ≡ (t, after))
  right t after s (Ok p) h = let x = is_read t after s in read_by (term 512 start) p t x.0 x.1 h ∙ ap (λ n. (t, n)) x.2
  right t after s (Err fault.Memory) h = tt
  right t after s (Err (fault.Syntax m)) h = let x = is_read t after s in let clash = sym x.1 ∙ h.1 in cc clash

  pub only_at : (t : Surface) (after : ℕ) → StandsAt text at t after → (r : Result (Surface × ℕ) ReadFault) → Gives (λ t i. (t, i.at)) (read_at text at) r → IsRight r (λ p. p ≡ (t, after))
  unfolding read_at
  only_at t after s r h = right t after s r h
