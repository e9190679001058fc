-- The bytes of a reply.
use Rattle.std.specs.Prelude.{ℕ, List, [], ◌∷◌, Option, Some, None, codes, decimal, if◌then◌else◌}
use Rattle.std.specs.List.{concat}
use Rattle.repl_json.specs.declared.reply.Line.{Line}
use Rattle.repl_json.specs.declared.reply.Line.TheVariants.{Given, Ahead, UnknownEnv, UnknownState, Deleted, Reset, Stat, Memory}
use Rattle.repl_json.specs.declared.reply.Body.{Body}

-- the pieces of a body with two numbers in its gaps
abbrev pub text_around : Body → ℕ → ℕ → List ℕ
text_around body one two = concat (body.first ∷ decimal one ∷ body.second ∷ decimal two ∷ body.third ∷ codes "\n" ∷ [])

-- the pieces of a body with the number of entries between them, and the new id where there is one
abbrev pub body_text : Body → ℕ → Option ℕ → List ℕ
body_text body seq None = concat (body.first ∷ decimal seq ∷ body.second ∷ body.third ∷ codes "\n" ∷ [])
body_text body seq (Some id) = if body.id_first then text_around body id seq else text_around body seq id

-- a front, a number, and the number of entries
abbrev pub counted_text : List ℕ → ℕ → ℕ → List ℕ
counted_text front number seq = concat (front ∷ decimal number ∷ codes ",\"seq\":" ∷ decimal seq ∷ codes "}\n" ∷ [])

abbrev pub stat_text : ℕ → ℕ → ℕ → ℕ → List ℕ
stat_text envs live seq states =
    concat (codes "{\"envs\":" ∷ decimal envs ∷ codes ",\"live\":" ∷ decimal live ∷ codes ",\"seq\":" ∷ decimal seq ∷ codes ",\"states\":" ∷ decimal states ∷ codes "}\n" ∷ [])

-- one compact JSON object with its keys in byte order, and a line end
unfoldable pub text : Line → List ℕ
text (Given body seq id) = body_text body seq id
text (Ahead length seq) = counted_text (codes "{\"error\":\"ahead\",\"length\":") length seq
text (UnknownEnv id seq) = counted_text (codes "{\"error\":\"unknownEnv\",\"id\":") id seq
text (UnknownState id seq) = counted_text (codes "{\"error\":\"unknownState\",\"id\":") id seq
text (Deleted id seq) = counted_text (codes "{\"deleted\":") id seq
text (Reset deleted seq) = counted_text (codes "{\"deleted\":") deleted seq
text (Stat envs live seq states) = stat_text envs live seq states
text (Memory seq) = concat (codes "{\"error\":\"memory\",\"seq\":" ∷ decimal seq ∷ codes "}\n" ∷ [])
