-- Reading a whole text, against the grammar.
use Rattle.std.proofs.Common.{◌≡◌, inl, inr, List, [], ◌∷◌, All, Result, Ok, Err, refl, ap, sym, ◌∙◌, arith, subst, IfOk}
use Rattle.term_syntax.specs.declared.fault.ReadFault.{ReadFault}
use Rattle.term_syntax.specs.declared.fault.ReadFault.TheVariants as fault
use Rattle.term_syntax.specs.Lex.{Text, Lexeme}
use Rattle.term_syntax.specs.Input.{Input, input_at}
use Rattle.term_syntax.specs.Reading.{Outcome, IsRead, Gives}
use Rattle.term_syntax.specs.Grammar.{IsRight}
use Rattle.term_syntax.proofs.NamedTokens.{IsNamedToken, lexemes_named}
use Rattle.term_syntax.proofs.Progress.{ok_inj}
use Rattle.term_syntax.proofs.Sound.{Means, then_means, pure_means, refuse_means, over_means, weaken, done}
use Rattle.move_text.specs.declared.moves.Move.{Move}
use Rattle.move_text.specs.Grammar as grammar
use Rattle.move_text.specs.Grammar.{IsMove, IsMoveText}
use Rattle.move_text.specs.Named.{HasTextName}
use Rattle.move_text.specs.Reading.{finish, read}
use Rattle.move_text.specs.Laws.{MovesAreUnique}
use Rattle.move_text.proofs.Sound.{form_sound}
use Rattle.move_text.proofs.Refusals.{finish_runs}

finish_sound : Means finish (λ i m j. IsMove i.ahead m [])
unfolding finish
finish_sound = weaken _ (then_means form_sound (λ m. over_means {Q = λ _ _ _. ⊥} (pure_means m) refuse_means))
    (λ i m j (n, i1, is, ending). elim ending [
      | inl (none, same) ↦ done (λ m _. IsMove i.ahead m []) n i1 m j same (subst (λ ls. IsMove i.ahead n ls) none is)
      | inr never ↦ absurd never
    ])

read_sound : (text : Text) (m : Move) (j : Input) → read text ≡ Ok (m, j) → IsMoveText text m
unfolding read
read_sound text m j e = finish_sound.run (input_at text 0) m j e

read_complete : (text : Text) (m : Move) → IsMoveText text m → (j : Input) × (read text ≡ Ok (m, j))
unfolding read
read_complete text m h = let x = (finish_runs h).run (input_at text 0) refl in (x.0, x.1)

gives_ok : (o : Outcome Move) (m : Move) → IsRead (λ m _. m) o m → (j : Input) × (o ≡ Ok (m, j))
gives_ok (Ok p) m e = (p.1, ap (λ (n : Move). Ok (n, p.1)) (sym e))
gives_ok (Err e) m h = absurd h

pub found : (text : Text) (r : Result Move ReadFault) → Gives (λ m _. m) (read text) r → IfOk r (λ m. IsMoveText text m)
found text (Ok m) h = let x = gives_ok (read text) m h in read_sound text m x.0 x.1
found text (Err e) h = tt

move_named : {ts rest : List Lexeme} {m : Move} → IsMove ts m rest → All IsNamedToken ts → HasTextName m
move_named (grammar.intro {n = n} is e) h = h 1 n (omega arith) (rw e tt)
move_named (grammar.apply is t) h = tt
move_named (grammar.exact is t) h = tt
move_named (grammar.refine is t) h = tt
move_named (grammar.have {n = n} is e ec t) h = h 1 n (omega arith) (rw e tt)
move_named (grammar.assumption is) h = tt
move_named (grammar.change is t) h = tt
move_named (grammar.«unfold» is e) h = tt

pub named : (text : Text) (r : Result Move ReadFault) → Gives (λ m _. m) (read text) r → IfOk r HasTextName
named text (Ok m) h = let x = gives_ok (read text) m h in move_named (read_sound text m x.0 x.1) (lexemes_named text)
named text (Err e) h = tt

pub only : (text : Text) (r : Result Move ReadFault) → Gives (λ m _. m) (read text) r → (m : Move) → IsMoveText text m → IsRight r (λ n. m ≡ n)
only text (Ok n) h m is =
    let x = gives_ok (read text) n h in
    let y = read_complete text m is in
    ap (λ (p : Move × Input). p.0) (ok_inj (m, y.0) (n, x.0) (sym y.1 ∙ x.1))
only text (Err fault.Memory) h m is = tt
only text (Err (fault.Syntax at)) h m is = let y = read_complete text m is in cc (sym y.1 ∙ h.1)

pub moves_are_unique : MovesAreUnique
moves_are_unique text m n h g =
    let x = read_complete text m h in
    let y = read_complete text n g in
    ap (λ (p : Move × Input). p.0) (ok_inj (m, x.0) (n, y.0) (sym x.1 ∙ y.1))
