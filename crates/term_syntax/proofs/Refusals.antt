-- No text of the grammar goes on with the token at which a text is refused.
use Rattle.std.proofs.Common.{◌≡◌, if◌then◌else◌, List, [], ◌∷◌, ◌++◌, Err, refl, sym, ◌∙◌}
use Rattle.term_syntax.specs.declared.surface.Surface.{Surface}
use Rattle.term_syntax.specs.Lex.{Text, Lexeme}
use Rattle.term_syntax.specs.Input.{Input, input_at}
use Rattle.term_syntax.specs.Reading.{Parser, at_end, pure, refuse, ◌>>=◌, finish, read}
use Rattle.term_syntax.specs.Grammar.{IsTerm}
use Rattle.term_syntax.specs.Laws.{NothingContinues}
use Rattle.term_syntax.proofs.Complete.{Runs, runs_then, pure_runs, over_yes, term_runs, ends}
use Rattle.term_syntax.proofs.Local.{ErrAgain, Local, local_then, local_pure, local_refuse, local_over}
use Rattle.term_syntax.proofs.Whole.{local_term}

abbrev ending : Surface → Parser Surface
ending t = at_end >>= (λ over. if over then pure t else refuse)

local_finish : Local finish
unfolding finish
local_finish = local_then ending (local_term 512) (λ t. local_over (local_pure t) local_refuse)

-- all tokens are a term
pub finish_runs : {ts : List Lexeme} {t : Surface} → IsTerm 512 ts t [] → Runs finish ts t []
unfolding finish
finish_runs {t = t} is = runs_then ending (term_runs is ends) (over_yes refuse refl (pure_runs t []))

refused_again : (text : Text) (i : Input) → read text ≡ Err i → ErrAgain finish (input_at text 0) i
unfolding read
refused_again text i e = local_finish.err (input_at text 0) i e

pub nothing_continues : NothingContinues
nothing_continues text i e =
    let x = refused_again text i e in (
      x.0,
      x.1,
      λ l rest tail is t h.
          let j : Input = record { at = 0; end = 0; ahead = x.0 ++ l ∷ tail } in
          let no = x.2 j (l ∷ tail) (l, tail, rest, refl, is) refl in
          let yes = (finish_runs h).run j refl in
          let clash = sym yes.1 ∙ no.1 in
          cc clash,
    )
