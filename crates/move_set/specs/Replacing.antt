-- A defined constant replaced by its body, wherever it stands in a term.
use Rattle.std.specs.Prelude.{ℕ, ◌+◌, Bool, false, if◌then◌else◌, Some, None}
use Rattle.std.specs.Str.{bytes_eq}
use Rattle.ld_trees.specs.Term.{Head, Named, Numbered, Term, Srt, Var, App, Lam, Pi, Con, Terms, none, ◌▹◌}
use Rattle.ld_rules.specs.Expansion.{Bodies, expand, expand_all}
use Rattle.term_syntax.specs.Lex.{Text}

-- whether a head is the constant of that name
abbrev pub is_constant : Text → Head → Bool
is_constant a (Named b) = bytes_eq b a
is_constant a (Numbered m) = false

-- at how many nodes the constant stands, those in arguments of the constant itself included
abbrev mutual
  pub occurrences : Text → Term → ℕ
  occurrences a (Srt s) = 0
  occurrences a (Var i) = 0
  occurrences a (App f u) = occurrences a f + occurrences a u
  occurrences a (Lam A M) = occurrences a A + occurrences a M
  occurrences a (Pi A B) = occurrences a A + occurrences a B
  occurrences a (Con h us) = (if is_constant a h then 1 else 0) + occurrences_in a us

  pub occurrences_in : Text → Terms → ℕ
  occurrences_in a none = 0
  occurrences_in a (us ▹ u) = occurrences_in a us + occurrences a u

-- the body for this constant alone
abbrev pub body_for : Text → Term → Bodies
body_for a M h n = if is_constant a h then Some M else None

-- The term with the body in place of the constant at each of these nodes, and in the body the arguments, in which it is replaced too, in
-- place of the parameters. The body stands as it is.
abbrev pub replaced : Text → Term → Term → Term
replaced a M t = expand (body_for a M) t

abbrev pub replaced_in : Text → Term → Terms → Terms
replaced_in a M us = expand_all (body_for a M) us
