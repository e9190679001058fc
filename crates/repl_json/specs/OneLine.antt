-- Replies as lines, and the memory line among them.
use Rattle.std.specs.Prelude.{◌≡◌, ℕ, Bool, true, false, not, ◌==◌, List, [], ◌∷◌, ◌++◌, if◌then◌else◌, codes, decimal}
use Rattle.std.specs.List.{list_all}
use Rattle.pan_io.specs.Text.{is_line_end}
use Rattle.repl_json.specs.declared.reply.Line.{Line}
use Rattle.repl_json.specs.declared.reply.Line.TheVariants.{Given, Memory}
use Rattle.repl_json.specs.declared.reply.Body.{Body}

-- none of the bytes ends a line
abbrev pub is_unbroken : List ℕ → Bool
is_unbroken bytes = list_all (λ b. not (is_line_end b)) bytes

-- one line with its end, which stands behind these bytes
pub record IsLine (bytes line : List ℕ) : Type 0 where
  pub is : bytes ≡ line ++ 10 ∷ []
  pub unbroken : is_unbroken line ≡ true

-- what the memory line is up to its number
abbrev pub memory_front : List ℕ
memory_front = codes "{\"error\":\"memory\",\"seq\":"

-- the memory line of a number, without its end: `{"error":"memory","seq":0}`
abbrev pub memory_line : ℕ → List ℕ
memory_line seq = memory_front ++ (decimal seq ++ codes "}")

-- at some place both have a byte, and not the same one
abbrev pub differ : List ℕ → List ℕ → Bool
differ [] ys = false
differ (x ∷ xs) [] = false
differ (x ∷ xs) (y ∷ ys) = if x == y then differ xs ys else true

-- a body whose replies are lines, and no memory lines, whatever their numbers are
pub record IsReply (body : Body) : Type 0 where
  pub other : differ body.first memory_front ≡ true
  pub first : is_unbroken body.first ≡ true
  pub second : is_unbroken body.second ≡ true
  pub third : is_unbroken body.third ≡ true

-- a reply whose body is such a one, where it has a body
abbrev pub HasReply : Line → Type 0
HasReply (Given body seq id) = IsReply body
HasReply line = Unit {0}

abbrev pub says_memory : Line → Bool
says_memory (Memory seq) = true
says_memory line = false
