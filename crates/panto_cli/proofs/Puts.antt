-- Pieces into a sink, one after another.
use Rattle.std.proofs.Common.{ℕ, List, [], ◌++◌, Option, None, Some, Result, Ok, Err, sym, ap, ◌∙◌, append_assoc}
use Rattle.std.proofs.lemmas.List.{append-nil}
use Rattle.std.specs.Prelude.{OnErr}
use Rattle.std.proofs.KnownBytes.{Appends-trans}
use Rattle.std.specs.Io.KnownBytes.{Appends, Keeps}
use Rattle.pan_io.specs.Put.{AppendsPrefix}

-- a prefix of the first piece is one of both
pub of_both : (old new : Option (List ℕ)) (first second : List ℕ) → AppendsPrefix old new first → AppendsPrefix old new (first ++ second)
of_both old new first second p = (p.0, p.1 ++ second, ap (λ l. l ++ second) p.2 ∙ append_assoc p.0 p.1 second, p.3)

-- the first piece, and then a prefix of the second
pub behind_first : (old mid new : Option (List ℕ)) (first second : List ℕ) → Appends old mid first → AppendsPrefix mid new second → AppendsPrefix old new (first ++ second)
behind_first old mid new first second a p =
    (first ++ p.0, p.1, ap (λ l. first ++ l) p.2 ∙ sym (append_assoc first p.0 p.1), Appends-trans old mid new first p.0 a p.3)

-- what was taken stays
pub then_keeps : (old mid new : Option (List ℕ)) (piece : List ℕ) → Appends old mid piece → Keeps mid new → Appends old new piece
then_keeps None mid new piece a k = a
then_keeps (Some xs) (Some ys) (Some zs) piece a k = k ∙ a
then_keeps (Some xs) (Some ys) None piece a k = absurd k
then_keeps (Some xs) None new piece a k = absurd a

-- all of it is a prefix of it
pub all_of_it : (old new : Option (List ℕ)) (piece : List ℕ) → Appends old new piece → AppendsPrefix old new piece
all_of_it old new piece a = (piece, [], sym (append-nil piece), a)

-- what follows at an error
pub at_error : {T E : Type 0} {P Q : Type 0} (r : Result T E) → (P → Q) → OnErr r P → OnErr r Q
at_error (Ok x) f p = p
at_error (Err e) f p = f p
