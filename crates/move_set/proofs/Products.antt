-- A term that is no product.
use Rattle.std.proofs.Common.{◌≡◌, ◌≢◌, ℕ, refl}
use Rattle.ld_trees.specs.Term.{Term, Srt, Var, App, Lam, Pi, Con}
use Rattle.unification.specs.Steps.{Refused}
use Rattle.move_set.specs.Refusals.{Refusal}
use Rattle.move_set.specs.Applying.{parts_or}

pub no_parts : (r : Refusal) (t : Term) (n : ℕ) → ((A B : Term) → t ≢ Pi A B) → parts_or r t n ≡ Refused r n
no_parts r (Srt s) n h = refl
no_parts r (Var i) n h = refl
no_parts r (App f a) n h = refl
no_parts r (Lam A M) n h = refl
no_parts r (Pi A B) n h = absurd (h A B refl)
no_parts r (Con c us) n h = refl
