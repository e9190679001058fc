-- Replies of worked examples.
use Rattle.std.specs.Prelude.{ℕ, List, [], false}
use Rattle.repl_json.specs.declared.reply.Body.{Body}

-- a reply that makes nothing: its text before the value of `seq`, and its text behind it
abbrev pub reply : List ℕ → List ℕ → Body
reply first second = record { first = first; second = second; third = []; id_first = false }
