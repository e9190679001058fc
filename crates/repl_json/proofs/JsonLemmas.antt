-- The value that bytes are.
use Rattle.std.proofs.Common.{◌≡◌, ℕ, List, Bool, true, false, cond, refl, sym, ◌∙◌, ap, Some, None}
use Rattle.std.specs.Str.{IsUtf8, is_utf8}
use Rattle.std.proofs.lemmas.Str.{IsUtf8-from_is_utf8, is_utf8-from_IsUtf8}
use Rattle.serde_json.specs.Data.{Data}
use Rattle.serde_json.specs.Read.{read}
use Rattle.repl_json.specs.Json.{data_of}

pub data_read : (bytes : List ℕ) (d : Data) → IsUtf8 bytes → read bytes ≡ Some d → Some d ≡ data_of bytes
data_read bytes d utf8 was = sym (ap (λ b. cond b (read bytes) None) (is_utf8-from_IsUtf8 bytes utf8) ∙ was)

no_data : (bytes : List ℕ) (b : Bool) → is_utf8 bytes ≡ b → (IsUtf8 bytes → read bytes ≡ None) → None ≡ data_of bytes
no_data bytes true e none = sym (ap (λ b. cond b (read bytes) None) e ∙ none (IsUtf8-from_is_utf8 bytes e))
no_data bytes false e none = sym (ap (λ b. cond b (read bytes) None) e)

pub data_none : (bytes : List ℕ) → (IsUtf8 bytes → read bytes ≡ None) → None ≡ data_of bytes
data_none bytes none = no_data bytes (is_utf8 bytes) refl none
