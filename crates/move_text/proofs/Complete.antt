-- What is in the grammar is read.
use Rattle.std.proofs.Common.{◌≡◌, ◌⊎◌, inl, inr, List, [], ◌∷◌, refl, ap, ◌∙◌, subst}
use Rattle.std.specs.Prelude.{codes}
use Rattle.term_syntax.specs.declared.kind.Kind.TheVariants as k
use Rattle.term_syntax.specs.declared.surface.Surface.{Surface}
use Rattle.term_syntax.specs.Lex.{Text, Lexeme}
use Rattle.term_syntax.specs.Input.{kind, kind_of, spelling_of}
use Rattle.term_syntax.specs.Reading.{Parser, ◌>>=◌, ◌>>◌, pure, take_token, term}
use Rattle.term_syntax.specs.Grammar.{IsTerm}
use Rattle.term_syntax.proofs.Complete.{Runs, runs_then, pure_runs, take_runs, expect_runs, term_runs, ends}
use Rattle.move_text.specs.declared.moves.Move.{Move}
use Rattle.move_text.specs.declared.moves.Move.TheVariants as m
use Rattle.move_text.specs.Grammar as grammar
use Rattle.move_text.specs.Grammar.{IsWord, IsMove}
use Rattle.move_text.specs.Reading.{word_by, word, name_by, name, forms, form_of, form}

word_read : (z : Text) (w : Lexeme) → IsWord z w → word_by w.kind w.text ≡ z
word_read z w is = by is.kind where
  by : (w.kind ≡ k.Name) ⊎ (w.kind ≡ k.Call) → word_by w.kind w.text ≡ z
  by (inl e) = rw e is.text
  by (inr e) = rw e is.text

name_runs : (n : Lexeme) (ts : List Lexeme) → n.kind ≡ k.Name → Runs name (n ∷ ts) n.text ts
unfolding name
name_runs n ts e = record {
  run = λ i is.
      let x = (take_runs n ts).run i is in
      let seen : kind i ≡ k.Name = ap kind_of is ∙ e in
      (x.0, ap (λ t. name_by t i) seen ∙ x.1, x.2);
}

form_runs : (z : Text) {p : Parser Move} {w : Lexeme} {ts rest : List Lexeme} {move : Move} → form_of z forms ≡ (take_token >> p) → IsWord z w → Runs p ts move rest → Runs form (w ∷ ts) move rest
unfolding form
form_runs z {p = p} {w = w} {ts = ts} chosen is r = record {
  run = λ i ahead.
      let x = (runs_then (λ _. p) (take_runs w ts) r).run i ahead in
      let begins : word i ≡ z = ap (λ ls. word_by (kind_of ls) (spelling_of ls)) ahead ∙ word_read z w is in
      (x.0, ap (λ z. form_of z forms i) begins ∙ ap (λ (q : Parser Move). q i) chosen ∙ x.1, x.2);
}

named_runs : (c : Text → Move) (n : Lexeme) (ts : List Lexeme) → n.kind ≡ k.Name → Runs (name >>= (λ x. pure (c x))) (n ∷ ts) (c n.text) ts
named_runs c n ts e = runs_then _ (name_runs n ts e) (pure_runs (c n.text) ts)

over_runs : (c : Surface → Move) {ts : List Lexeme} {t : Surface} → IsTerm 512 ts t [] → Runs (term 512 >>= (λ t. pure (c t))) ts (c t) []
over_runs c {t = t} h = runs_then _ (term_runs h ends) (pure_runs (c t) [])

ends_at : (ts : List Lexeme) (move : Move) {us vs : List Lexeme} → us ≡ vs → Runs form ts move us → Runs form ts move vs
ends_at ts move e r = subst (λ ls. Runs form ts move ls) e r

term_at : {ts us vs : List Lexeme} {t : Surface} → us ≡ vs → IsTerm 512 ts t us → IsTerm 512 ts t vs
term_at {ts = ts} {t = t} e h = subst (λ ls. IsTerm 512 ts t ls) e h

-- the tokens behind a move are given by an equation
move_at : {ts rest : List Lexeme} {move : Move} → IsMove ts move rest → rest ≡ [] → Runs form ts move []
move_at (grammar.intro {w = w} {n = n} {rest = rest} is e) over = ends_at (w ∷ n ∷ rest) (m.Intro n.text) over (form_runs (codes "intro") refl is (named_runs m.Intro n rest e))
move_at (grammar.apply is h) over = form_runs (codes "apply") refl is (over_runs m.Apply (term_at over h))
move_at (grammar.exact is h) over = form_runs (codes "exact") refl is (over_runs m.Exact (term_at over h))
move_at (grammar.refine is h) over = form_runs (codes "refine") refl is (over_runs m.Refine (term_at over h))
move_at (grammar.have {n = n} {c = c} {ts = ts} is e ec h) over =
    form_runs (codes "have") refl is (runs_then _ (name_runs n (c ∷ ts) e) (runs_then _ (expect_runs c ts ec) (over_runs (m.Have n.text) (term_at over h))))
move_at (grammar.assumption {w = w} {rest = rest} is) over = ends_at (w ∷ rest) m.Assumption over (form_runs (codes "assumption") refl is (pure_runs m.Assumption rest))
move_at (grammar.change is h) over = form_runs (codes "change") refl is (over_runs m.Change (term_at over h))
move_at (grammar.«unfold» {w = w} {n = n} {rest = rest} is e) over = ends_at (w ∷ n ∷ rest) (m.Unfold n.text) over (form_runs (codes "unfold") refl is (named_runs m.Unfold n rest e))

pub move_runs : {ts : List Lexeme} {move : Move} → IsMove ts move [] → Runs form ts move []
move_runs h = move_at h refl
