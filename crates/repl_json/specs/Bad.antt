-- What a line that is no request is answered.
use Rattle.std.specs.Prelude.{ℕ, List, [], ◌++◌, false, codes, decimal}
use Rattle.json.specs.Print.{quoted}
use Rattle.repl_json.specs.declared.request.Bad.{Bad}
use Rattle.repl_json.specs.declared.request.Bad.TheVariants.{LineTooLong, Json, Command, Field}
use Rattle.repl_json.specs.declared.reply.Body.{Body}

-- up to the number of entries; a field's name is a JSON string, as `serde_json` writes it
abbrev pub bad_front : Bad → List ℕ
bad_front (LineTooLong length) = codes "{\"error\":\"lineTooLong\",\"length\":" ++ decimal length ++ codes ",\"seq\":"
bad_front Json = codes "{\"error\":\"json\",\"seq\":"
bad_front Command = codes "{\"error\":\"command\",\"seq\":"
bad_front (Field name) = codes "{\"error\":\"field\",\"field\":" ++ quoted name ++ codes ",\"seq\":"

unfoldable pub bad_body : Bad → Body
bad_body bad = record { first = bad_front bad; second = codes "}"; third = []; id_first = false }
