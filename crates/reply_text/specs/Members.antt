-- JSON objects (RFC 8259) as `serde_json` writes them compactly: no blank, and a comma between members.
use Rattle.std.specs.Prelude.{ℕ, List, [], ◌∷◌, ◌++◌, codes, decimal, flat_map, false, Option, Some, None}
use Rattle.json.specs.Print.{quoted}
use Rattle.repl_json.specs.declared.reply.Body.{Body}
pub use Rattle.reply_text.specs.Member.{Member}
pub use Rattle.reply_text.specs.declared.members.Members.{Members}

-- a number in decimal digits
abbrev pub number : List ℕ → ℕ → Member
number key n = record { key = key; value = decimal n }

-- a text as a JSON string
abbrev pub string : List ℕ → List ℕ → Member
string key text = record { key = key; value = quoted text }

abbrev pub member_text : Member → List ℕ
member_text m = 34 ∷ (m.key ++ (34 ∷ 58 ∷ m.value))

abbrev pub behind_comma : Member → List ℕ
behind_comma m = 44 ∷ member_text m

abbrev pub members_text : List Member → List ℕ
members_text [] = []
members_text (m ∷ ms) = member_text m ++ flat_map behind_comma ms

-- the reply, with the gap for the value of `seq`
abbrev pub body_text : Members → Body
body_text m = record { first = 123 ∷ (members_text m.before ++ codes ",\"seq\":"); second = flat_map behind_comma m.after ++ (125 ∷ []); third = []; id_first = false }

-- the object without `seq`
abbrev pub object_text : Members → List ℕ
object_text m = 123 ∷ (members_text (m.before ++ m.after) ++ (125 ∷ []))

-- a member that may be missing
abbrev pub listed : Option Member → List Member
listed None = []
listed (Some m) = m ∷ []
