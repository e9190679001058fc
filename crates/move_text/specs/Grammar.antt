-- The grammar of moves, as a relation between tokens and moves. Tokens and terms are those of the grammar of terms.
--
--   move = "intro" name | "apply" term | "exact" term | "refine" term | "have" name ":" term | "assumption" | "change" term
--        | "unfold" name
--
-- The first word is never read as a constant, even where `(` follows directly. A move isn't counted where terms stand inside one
-- another.
use Rattle.std.specs.Prelude.{◌≡◌, ◌⊎◌, List, [], ◌∷◌, codes}
use Rattle.term_syntax.specs.declared.kind.Kind.TheVariants.{Name, Call, Colon}
use Rattle.term_syntax.specs.declared.surface.Surface.{Surface}
use Rattle.term_syntax.specs.Lex.{Text, Lexeme, lexemes}
use Rattle.term_syntax.specs.Grammar.{IsTerm, max_nesting}
use Rattle.move_text.specs.declared.moves.Move.{Move}
use Rattle.move_text.specs.declared.moves.Move.TheVariants as m

-- this word, whether `(` follows it directly or not
pub record IsWord (word : Text) (l : Lexeme) : Type 0 where
  pub kind : (l.kind ≡ Name) ⊎ (l.kind ≡ Call)
  pub text : l.text ≡ word

-- `IsMove ts move rest`: from the tokens `ts` on stands this move, and then come the tokens `rest`
pub data IsMove : List Lexeme → Move → List Lexeme → Type 0 where
  intro : {w n : Lexeme} {rest : List Lexeme} → IsWord (codes "intro") w → n.kind ≡ Name → IsMove (w ∷ n ∷ rest) (m.Intro n.text) rest
  apply : {w : Lexeme} {ts rest : List Lexeme} {t : Surface} → IsWord (codes "apply") w → IsTerm max_nesting ts t rest → IsMove (w ∷ ts) (m.Apply t) rest
  exact : {w : Lexeme} {ts rest : List Lexeme} {t : Surface} → IsWord (codes "exact") w → IsTerm max_nesting ts t rest → IsMove (w ∷ ts) (m.Exact t) rest
  refine : {w : Lexeme} {ts rest : List Lexeme} {t : Surface} → IsWord (codes "refine") w → IsTerm max_nesting ts t rest → IsMove (w ∷ ts) (m.Refine t) rest
  have : {w n c : Lexeme} {ts rest : List Lexeme} {t : Surface}
      → IsWord (codes "have") w → n.kind ≡ Name → c.kind ≡ Colon → IsTerm max_nesting ts t rest → IsMove (w ∷ n ∷ c ∷ ts) (m.Have n.text t) rest
  assumption : {w : Lexeme} {rest : List Lexeme} → IsWord (codes "assumption") w → IsMove (w ∷ rest) m.Assumption rest
  change : {w : Lexeme} {ts rest : List Lexeme} {t : Surface} → IsWord (codes "change") w → IsTerm max_nesting ts t rest → IsMove (w ∷ ts) (m.Change t) rest
  «unfold» : {w n : Lexeme} {rest : List Lexeme} → IsWord (codes "unfold") w → n.kind ≡ Name → IsMove (w ∷ n ∷ rest) (m.Unfold n.text) rest

-- all of the text is this move
abbrev pub IsMoveText : Text → Move → Type 0
IsMoveText text move = IsMove (lexemes 0 text) move []
