-- The laws of replies that the layers above use.
use Rattle.std.specs.Prelude.{◌≡◌, ℕ, true, List, ◌∷◌, ◌++◌, []}
use Rattle.repl_json.specs.Reply.{text}
use Rattle.repl_json.specs.Bad.{bad_body}
use Rattle.repl_json.specs.OneLine.{IsLine, IsReply, HasReply, memory_line, says_memory}
use Rattle.repl_json.specs.declared.reply.Line.{Line}
use Rattle.repl_json.specs.declared.reply.Line.TheVariants.{Memory}
use Rattle.repl_json.specs.declared.request.Bad.{Bad}

-- each reply is one line with its end
abbrev pub RepliesAreLines : Type 0
RepliesAreLines = (reply : Line) → HasReply reply → (line : List ℕ) × IsLine (text reply) line

-- want of memory is answered by the memory line
abbrev pub MemoryIsMemoryLine : Type 0
MemoryIsMemoryLine = (seq : ℕ) → text (Memory seq) ≡ memory_line seq ++ 10 ∷ []

-- and nothing else is
abbrev pub OnlyMemoryIsMemoryLine : Type 0
OnlyMemoryIsMemoryLine = (reply : Line) (seq : ℕ) → HasReply reply → text reply ≡ memory_line seq ++ 10 ∷ [] → says_memory reply ≡ true

-- the reply to a line that is no request has such a body
abbrev pub BadBodiesAreReplies : Type 0
BadBodiesAreReplies = (bad : Bad) → IsReply (bad_body bad)
