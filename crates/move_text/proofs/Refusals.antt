-- No move goes on with the token at which a text is refused.
use Rattle.std.proofs.Common.{◌≡◌, Bool, true, false, if◌then◌else◌, List, [], ◌∷◌, ◌++◌, Err, refl, ap, sym, ◌∙◌}
use Rattle.std.specs.Str.{bytes_eq}
use Rattle.term_syntax.specs.declared.kind.Kind.{Kind}
use Rattle.term_syntax.specs.declared.kind.Kind.TheVariants as k
use Rattle.term_syntax.specs.declared.surface.Surface.{Surface}
use Rattle.term_syntax.specs.Lex.{Text, Lexeme}
use Rattle.term_syntax.specs.Input.{Input, kind_of, spelling_of, input_at}
use Rattle.term_syntax.specs.Reading.{Parser, at_end, pure, refuse, ◌>>=◌, term}
use Rattle.term_syntax.proofs.Complete.{Runs, runs_then, pure_runs, over_yes}
use Rattle.term_syntax.proofs.Local.{Head, head_after, ErrAgain, Local, local_then, local_pure, local_refuse, local_by, local_take, local_expect, local_over}
use Rattle.term_syntax.proofs.Whole.{local_term}
use Rattle.move_text.specs.declared.moves.Move.{Move}
use Rattle.move_text.specs.declared.moves.Move.TheVariants as m
use Rattle.move_text.specs.Grammar.{IsMove}
use Rattle.move_text.specs.Reading.{word_by, word, name_by, name, having, forms, form_of, form, finish, read}
use Rattle.move_text.specs.Laws.{NothingContinues}
use Rattle.move_text.proofs.Complete.{move_runs}

-- ---- the reading looks no further than the next token

abbrev first_word : List Lexeme → Text
first_word ls = word_by (kind_of ls) (spelling_of ls)

same_first : (s t : List Lexeme) → Head s t → first_word s ≡ first_word t
same_first s t (l, s', t', e, f) = ap first_word e ∙ sym (ap first_word f)

same_word : (pre s t : List Lexeme) (j i : Input) → j.ahead ≡ pre ++ s → i.ahead ≡ pre ++ t → Head s t → word j ≡ word i
same_word pre s t j i ej ei h = ap first_word ej ∙ same_first (pre ++ s) (pre ++ t) (head_after pre s t h) ∙ sym (ap first_word ei)

-- a choice by the next word
local_by_word : {A : Type 0} (g : Text → Parser A) → ((z : Text) → Local (g z)) → Local (λ i. g (word i) i)
local_by_word g n = record {
  ok = λ i b r e. let x = (n (word i)).ok i b r e in (
    x.0,
    x.1,
    λ j tail h ej.
        let same : word j ≡ word i = same_word x.0 tail r.ahead j i ej x.1 h in
        let y = x.2 j tail h ej in (y.0, ap (λ z. g z j) same ∙ y.1, y.2),
  );
  err = λ i r e. let x = (n (word i)).err i r e in (
    x.0,
    x.1,
    λ j tail h ej.
        let same : word j ≡ word i = same_word x.0 tail r.ahead j i ej x.1 h in
        let y = x.2 j tail h ej in (y.0, ap (λ z. g z j) same ∙ y.1),
  );
}

local_if : {A : Type 0} (b : Bool) {p q : Parser A} → Local p → Local q → Local (if b then p else q)
local_if true x y = x
local_if false x y = y

name_by_local : (t : Kind) → Local (name_by t)
name_by_local k.Name = local_take
name_by_local k.Call = local_then _ local_take (λ _. local_refuse)
name_by_local _ = local_refuse

local_name : Local name
unfolding name
local_name = local_by name_by name_by_local

abbrev AllLocal : List (Text × Parser Move) → Type 0
AllLocal [] = Unit {0}
AllLocal (f ∷ fs) = Local f.1 × AllLocal fs

local_named : (c : Text → Move) → Local (name >>= (λ x. pure (c x)))
local_named c = local_then _ local_name (λ x. local_pure (c x))

local_with_term : (c : Surface → Move) → Local (term 512 >>= (λ t. pure (c t)))
local_with_term c = local_then _ (local_term 512) (λ t. local_pure (c t))

local_having : Local having
local_having = local_then _ local_name (λ x. local_then _ (local_expect k.Colon (λ h. cc)) (λ _. local_with_term (m.Have x)))

all_local : AllLocal forms
all_local = (local_named m.Intro, (local_with_term m.Apply, (local_with_term m.Exact, (local_with_term m.Refine, (local_having, (local_pure m.Assumption, (local_with_term m.Change, (local_named m.Unfold, tt))))))))

local_form_of : (z : Text) (fs : List (Text × Parser Move)) → AllLocal fs → Local (form_of z fs)
local_form_of z [] h = local_refuse
local_form_of z (f ∷ fs) h = local_if (bytes_eq z f.0) (local_then (λ _. f.1) local_take (λ _. h.0)) (local_form_of z fs h.1)

local_form : Local form
unfolding form
local_form = local_by_word (λ z. form_of z forms) (λ z. local_form_of z forms all_local)

-- ---- and then the end of the text

abbrev ending : Move → Parser Move
ending move = at_end >>= (λ over. if over then pure move else refuse)

local_finish : Local finish
unfolding finish
local_finish = local_then ending local_form (λ move. local_over (local_pure move) local_refuse)

-- all tokens are a move
pub finish_runs : {ts : List Lexeme} {move : Move} → IsMove ts move [] → Runs finish ts move []
unfolding finish
finish_runs {move = move} is = runs_then ending (move_runs is) (over_yes refuse refl (pure_runs move []))

refused_again : (text : Text) (i : Input) → read text ≡ Err i → ErrAgain finish (input_at text 0) i
unfolding read
refused_again text i e = local_finish.err (input_at text 0) i e

pub nothing_continues : NothingContinues
nothing_continues text i e =
    let x = refused_again text i e in (
      x.0,
      x.1,
      λ l rest tail is move h.
          let j : Input = record { at = 0; end = 0; ahead = x.0 ++ l ∷ tail } in
          let no = x.2 j (l ∷ tail) (l, tail, rest, refl, is) refl in
          let yes = (finish_runs h).run j refl in
          let clash = sym yes.1 ∙ no.1 in
          cc clash,
    )
