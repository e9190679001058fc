-- `expr.echo`: a term is read as a text, its names are resolved in an environment, and it is printed with its type.
use Rattle.std.specs.Prelude.{ℕ, List, [], ◌∷◌, None, Ok, Err, codes}
use Rattle.ld_trees.specs.Term.{Term, none}
use Rattle.term_syntax.specs.Lex.{Text}
use Rattle.term_syntax.specs.Input.{place}
use Rattle.term_syntax.specs.Reading.{Outcome as Parsed, read}
use Rattle.term_syntax.specs.Scoping.{Resolved, scope}
use Rattle.term_syntax.specs.declared.surface.Surface.{Surface}
use Rattle.term_text.specs.Scoped.{arities}
use Rattle.conversion.specs.Runs.{Outcome, Gave, Refused, OutOfFuel}
use Rattle.kernel_check.specs.Inference.{infer}
use Rattle.ld_terms.specs.declared.globals.Item.{Item}
use Rattle.meta_context.specs.Plain.{rules_env}
use Rattle.reply_text.specs.declared.members.Members.{Members}
use Rattle.reply_text.specs.Shown.{term_json}
use Rattle.reply_text.specs.Refusals.{syntax, scoping, kernel, out_of_fuel}

-- a closed term and its type
abbrev pub typed : Term → Term → Members
typed t T = record { before = record { key = codes "expr"; value = term_json [] t } ∷ []; after = record { key = codes "type"; value = term_json [] T } ∷ [] }

-- a term with the outcome of inference
abbrev pub inferred : Term → Outcome Term → Members
inferred t (Gave T left) = typed t T
inferred t (Refused r left) = kernel None r
inferred t OutOfFuel = out_of_fuel None

module _ (items : List (Item Term)) (fuel : ℕ) where
  -- a term whose names were resolved, or the first that couldn't be
  abbrev pub resolved : Resolved Term → Members
  resolved (Ok t) = inferred t (infer (rules_env items) none t fuel)
  resolved (Err fault) = scoping None fault

  -- a tree of the grammar, or the place at which the text is refused
  abbrev pub parsed : Parsed Surface → Members
  parsed (Ok p) = resolved (scope (arities items) [] p.0 [])
  parsed (Err input) = syntax (place input)

-- the reply to a text, with so many units of fuel for its type
unfoldable pub echo : List (Item Term) → Text → ℕ → Members
echo items expr fuel = parsed items fuel (read expr)
