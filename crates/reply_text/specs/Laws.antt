-- The names that replies show terms with are those of contexts.
use Rattle.std.specs.Prelude.{◌≡◌, ◌<◌, ℕ, length}
use Rattle.term_syntax.specs.Printing.{Names}
use Rattle.term_syntax.specs.ReadsBack.{IsContext}
use Rattle.reply_text.specs.Shown.{level_names}
use Rattle.reply_text.specs.Context.{shown_names}

-- so many level names, of which there are few enough for a context
abbrev pub LevelNamesFit : Type 0
LevelNamesFit = (n : ℕ) → n < 999999000 → IsContext (level_names n) × (length (level_names n) ≡ n)

-- as many names as the context has entries
abbrev pub ShownNamesFit : Type 0
ShownNamesFit = (names : Names) → IsContext names → IsContext (shown_names names) × (length (shown_names names) ≡ length names)
