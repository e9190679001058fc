-- The test whether two kinds of tokens are the same.
use Rattle.std.specs.Prelude.{Bool}
use denote.Enum.Bare.{sameb}
use Rattle.term_syntax.specs.contracts.kind.Kind.{the_type}
use Rattle.term_syntax.specs.declared.kind.Kind.{Kind}

-- `==` on kinds
unfoldable pub is_kind : Kind → Kind → Bool
is_kind = sameb the_type
