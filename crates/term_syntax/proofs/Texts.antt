-- Reading a whole text, against the grammar.
use Rattle.std.proofs.Common.{◌≡◌, inl, inr, [], Result, Ok, Err, refl, ap, sym, ◌∙◌, IfOk}
use Rattle.term_syntax.specs.declared.surface.Surface.{Surface}
use Rattle.term_syntax.specs.declared.fault.ReadFault.{ReadFault}
use Rattle.term_syntax.specs.declared.fault.ReadFault.TheVariants as fault
use Rattle.term_syntax.specs.Lex.{Text}
use Rattle.term_syntax.specs.Input.{Input, input_at}
use Rattle.term_syntax.specs.Reading.{Outcome, finish, read, IsRead, Gives}
use Rattle.term_syntax.specs.Grammar.{IsTerm, IsText, IsRight}
use Rattle.term_syntax.specs.Laws.{shown, ReadingIsSound, ReadingIsComplete, TreesAreUnique}
use Rattle.term_syntax.proofs.Progress.{ok_inj}
use Rattle.term_syntax.proofs.Sound.{Means, then_means, pure_means, refuse_means, over_means, weaken, done, closes, term_sound}
use Rattle.term_syntax.proofs.Complete.{one_tree}
use Rattle.term_syntax.proofs.Refusals.{finish_runs}

finish_sound : Means finish (λ i t j. IsTerm 512 i.ahead t [])
unfolding finish
finish_sound = weaken _ (then_means (term_sound 512) (λ t. over_means {Q = λ _ _ _. ⊥} (pure_means t) refuse_means))
    (λ i t j (u, i1, is, ending). elim ending [
      | inl (none, same) ↦ done (λ t _. IsTerm 512 i.ahead t []) u i1 t j same (closes none is)
      | inr never ↦ absurd never
    ])

pub read_sound : (text : Text) (t : Surface) (j : Input) → read text ≡ Ok (t, j) → IsText text t
unfolding read
read_sound text t j e = finish_sound.run (input_at text 0) t j e

pub read_complete : (text : Text) (t : Surface) → IsText text t → (j : Input) × (read text ≡ Ok (t, j))
unfolding read
read_complete text t h = let x = (finish_runs h).run (input_at text 0) refl in (x.0, x.1)

gives_ok : (o : Outcome Surface) (t : Surface) → IsRead (λ t _. t) o t → (j : Input) × (o ≡ Ok (t, j))
gives_ok (Ok p) t e = (p.1, ap (λ (u : Surface). Ok (u, p.1)) (sym e))
gives_ok (Err e) t h = absurd h

pub found : (text : Text) (r : Result Surface ReadFault) → Gives (λ t _. t) (read text) r → IfOk r (λ t. IsText text t)
found text (Ok t) h = let x = gives_ok (read text) t h in read_sound text t x.0 x.1
found text (Err e) h = tt

pub only : (text : Text) (r : Result Surface ReadFault) → Gives (λ t _. t) (read text) r → (t : Surface) → IsText text t → IsRight r (λ u. t ≡ u)
only text (Ok u) h t is =
    let x = gives_ok (read text) u h in
    let y = read_complete text t is in
    ap (λ (p : Surface × Input). p.0) (ok_inj (t, y.0) (u, x.0) (sym y.1 ∙ x.1))
only text (Err fault.Memory) h t is = tt
only text (Err (fault.Syntax at)) h t is = let y = read_complete text t is in cc (sym y.1 ∙ h.1)

-- an answer that is shown
shown_ok : (o : Outcome Surface) (t : Surface) → shown o ≡ Ok t → (j : Input) × (o ≡ Ok (t, j))
shown_ok (Ok p) t e = let h : p.0 ≡ t = cc e in (p.1, ap (λ (u : Surface). Ok (u, p.1)) h)
shown_ok (Err i) t e = cc e

pub reading_is_sound : ReadingIsSound
reading_is_sound text t e = let x = shown_ok (read text) t e in read_sound text t x.0 x.1

pub reading_is_complete : ReadingIsComplete
reading_is_complete text t h = let x = read_complete text t h in ap shown x.1

pub trees_are_unique : TreesAreUnique
trees_are_unique text t u h g = one_tree h g
