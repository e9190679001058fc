-- The grammar of terms, as a relation between tokens and trees.
--
--   term   = "fun" binder "=>" term | binder "->" term | app [ "->" term ]
--   binder = "(" ( name | level ) ":" term ")"
--   app    = atom { atom }
--   atom   = "*" | "_" | "?" | name | level | "(" term ")"
--          | name directly followed by "(" [ term { "," term } ] ")"
--
-- Where a term begins with `(`, a name or level name and `:`, it begins with a binder. A name directly followed by `(` is always a
-- constant. An arrow is a product whose variable has no name. Application groups to the left, the arrow to the right.
--
-- `IsTerm d ts t rest` says: from the tokens `ts` on stands a term with the tree `t`, and then come the tokens `rest`. The number
-- `d` bounds how many occurrences of `term` in the grammar stand inside one another, this one counted; the other relations are
-- alike, and there `d` is the bound for the terms inside. So the inside of parentheses, each argument of a constant, the domain and
-- the body of a binder and the right side of an arrow count one more, the left side of an arrow and the parts of an application none.
use Rattle.std.specs.Prelude.{◌≡◌, ℕ, suc, ◌+◌, ◌-◌, ◌*◌, drop, fold, false, List, [], ◌∷◌, Some, None, Result, Ok, Err}
use Rattle.term_syntax.specs.declared.fault.ReadFault.{ReadFault}
use Rattle.term_syntax.specs.declared.fault.ReadFault.TheVariants.{Syntax, Memory}
use Rattle.term_syntax.specs.declared.surface.Label.{Label}
use Rattle.term_syntax.specs.declared.surface.Label.TheVariants as label
use Rattle.term_syntax.specs.declared.surface.Surface.{Surface}
use Rattle.term_syntax.specs.declared.surface.Shape.{Shape}
use Rattle.term_syntax.specs.declared.surface.Shape.TheVariants as shape
use Rattle.term_syntax.specs.declared.kind.Kind.TheVariants as k
use Rattle.term_syntax.specs.Lex.{Text, Lexeme, lexemes}
use Rattle.term_syntax.specs.Input.{begins_binder, place_of}

-- how many terms may stand inside one another, the outermost counted
abbrev pub max_nesting : ℕ
max_nesting = 512

-- a node of a tree, with its place
abbrev pub node : ℕ → Shape → Surface
node at s = record { at = at; shape = s }

-- the number of a level name: what its decimal digits behind the `%` stand for
unfoldable pub level_of : Text → ℕ
level_of text = fold (λ n b. 10 * n + (b - 48)) 0 (drop 1 text)

-- the place of the first token
abbrev pub first : List Lexeme → ℕ
first = place_of 0

-- name | level
pub data IsLabel : Lexeme → Label → Type 0 where
  name : {l : Lexeme} → l.kind ≡ k.Name → IsLabel l (label.Plain l.text)
  level : {l : Lexeme} → l.kind ≡ k.Level → IsLabel l (label.Level (level_of l.text))

mutual
  pub data IsTerm : ℕ → List Lexeme → Surface → List Lexeme → Type 0 where
    -- "fun" binder "=>" term
    abstraction : {d : ℕ} {f a : Lexeme} {ts us rest : List Lexeme} {x : Label} {ty body : Surface}
        → f.kind ≡ k.Fun → IsBinder d ts x ty (a ∷ us) → a.kind ≡ k.FatArrow → IsTerm d us body rest
        → IsTerm (suc d) (f ∷ ts) (node f.at (shape.Lam x ty body)) rest
    -- binder "->" term
    product : {d : ℕ} {o a : Lexeme} {ts us rest : List Lexeme} {x : Label} {ty body : Surface}
        → IsBinder d (o ∷ ts) x ty (a ∷ us) → a.kind ≡ k.Arrow → IsTerm d us body rest
        → IsTerm (suc d) (o ∷ ts) (node o.at (shape.Pi (Some x) ty body)) rest
    -- app "->" term
    arrow : {d : ℕ} {a : Lexeme} {ts us rest : List Lexeme} {from to : Surface}
        → begins_binder ts ≡ false → IsApp d ts from (a ∷ us) → a.kind ≡ k.Arrow → IsTerm d us to rest
        → IsTerm (suc d) ts (node (first ts) (shape.Pi None from to)) rest
    -- app
    application : {d : ℕ} {ts rest : List Lexeme} {t : Surface} → begins_binder ts ≡ false → IsApp d ts t rest → IsTerm (suc d) ts t rest

  -- `IsBinder d ts x ty rest`: a binder of the label `x` with the type `ty`
  pub data IsBinder : ℕ → List Lexeme → Label → Surface → List Lexeme → Type 0 where
    -- "(" ( name | level ) ":" term ")"
    binder : {d : ℕ} {o n c e : Lexeme} {ts rest : List Lexeme} {x : Label} {ty : Surface}
        → o.kind ≡ k.Open → IsLabel n x → c.kind ≡ k.Colon → IsTerm d ts ty (e ∷ rest) → e.kind ≡ k.Close
        → IsBinder d (o ∷ n ∷ c ∷ ts) x ty rest

  pub data IsApp : ℕ → List Lexeme → Surface → List Lexeme → Type 0 where
    -- atom
    alone : {d : ℕ} {ts rest : List Lexeme} {t : Surface} → IsAtom d ts t rest → IsApp d ts t rest
    -- atom atom { atom }, an application of the first to all others
    spine : {d : ℕ} {ts us rest : List Lexeme} {head x : Surface} {xs : List Surface}
        → IsAtom d ts head us → IsAtoms d us x xs rest → IsApp d ts (node (first ts) (shape.App head (x ∷ xs))) rest

  -- `IsAtoms d ts x xs rest`: the atom `x`, and then the atoms `xs`
  pub data IsAtoms : ℕ → List Lexeme → Surface → List Surface → List Lexeme → Type 0 where
    -- atom
    last_atom : {d : ℕ} {ts rest : List Lexeme} {x : Surface} → IsAtom d ts x rest → IsAtoms d ts x [] rest
    -- atom { atom }
    more_atoms : {d : ℕ} {ts us rest : List Lexeme} {x y : Surface} {ys : List Surface}
        → IsAtom d ts x us → IsAtoms d us y ys rest → IsAtoms d ts x (y ∷ ys) rest

  pub data IsAtom : ℕ → List Lexeme → Surface → List Lexeme → Type 0 where
    -- "*"
    star : {d : ℕ} {l : Lexeme} {rest : List Lexeme} → l.kind ≡ k.Star → IsAtom d (l ∷ rest) (node l.at shape.Star) rest
    -- "_"
    wild : {d : ℕ} {l : Lexeme} {rest : List Lexeme} → l.kind ≡ k.Wild → IsAtom d (l ∷ rest) (node l.at shape.Wild) rest
    -- "?"
    asked : {d : ℕ} {l : Lexeme} {rest : List Lexeme} → l.kind ≡ k.Asked → IsAtom d (l ∷ rest) (node l.at shape.Asked) rest
    -- name | level
    named : {d : ℕ} {l : Lexeme} {rest : List Lexeme} {x : Label} → IsLabel l x → IsAtom d (l ∷ rest) (node l.at (shape.Named x)) rest
    -- "(" term ")"
    parentheses : {d : ℕ} {o e : Lexeme} {ts rest : List Lexeme} {t : Surface}
        → o.kind ≡ k.Open → IsTerm d ts t (e ∷ rest) → e.kind ≡ k.Close → IsAtom d (o ∷ ts) t rest
    -- name directly followed by "(" ")"
    bare : {d : ℕ} {n o e : Lexeme} {rest : List Lexeme}
        → n.kind ≡ k.Call → o.kind ≡ k.Open → e.kind ≡ k.Close → IsAtom d (n ∷ o ∷ e ∷ rest) (node n.at (shape.Const n.text [])) rest
    -- name directly followed by "(" term { "," term } ")"
    constant : {d : ℕ} {n o e : Lexeme} {ts rest : List Lexeme} {x : Surface} {xs : List Surface}
        → n.kind ≡ k.Call → o.kind ≡ k.Open → IsArguments d ts x xs (e ∷ rest) → e.kind ≡ k.Close
        → IsAtom d (n ∷ o ∷ ts) (node n.at (shape.Const n.text (x ∷ xs))) rest

  -- `IsArguments d ts x xs rest`: the term `x`, and then the terms `xs`, with commas between
  pub data IsArguments : ℕ → List Lexeme → Surface → List Surface → List Lexeme → Type 0 where
    -- term
    last_argument : {d : ℕ} {ts rest : List Lexeme} {x : Surface} → IsTerm d ts x rest → IsArguments d ts x [] rest
    -- term "," term { "," term }
    more_arguments : {d : ℕ} {c : Lexeme} {ts us rest : List Lexeme} {x y : Surface} {ys : List Surface}
        → IsTerm d ts x (c ∷ us) → c.kind ≡ k.Comma → IsArguments d us y ys rest → IsArguments d ts x (y ∷ ys) rest

-- All of the text is a term with this tree. No term stands inside 512 others.
abbrev pub IsText : Text → Surface → Type 0
IsText text t = IsTerm max_nesting (lexemes 0 text) t []

-- an answer that is right, unless memory ran out
abbrev pub IsRight : {B : Type 0} → Result B ReadFault → (B → Type 0) → Type 0
IsRight (Ok b) P = P b
IsRight (Err Memory) P = Unit {0}
IsRight (Err (Syntax at)) P = ⊥
