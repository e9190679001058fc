-- One member of a JSON object (RFC 8259).
use Rattle.std.specs.Prelude.{ℕ, List}

-- a key, in which nothing needs an escape, and the JSON text of its value
pub record Member : Type 0 where
  pub key : List ℕ
  pub value : List ℕ
