-- A term that has a type holds no `□`.
use Rattle.std.proofs.Common.{ℕ, suc}
use Rattle.ld_trees.specs.Term.{Term, Srt, star, square, Var, App, Lam, Pi, Con, Terms, none, ◌▹◌}
use Rattle.ld_trees.specs.Substitution.{rename, renames, lift_name}
use Rattle.ld_rules.specs.Environment.{Ctx, Env}
use Rattle.ld_rules.specs.Derivation.{Derives, sort, var, weak, form, appl, abst, conv, def, def_prim, inst, Fits, no_argument, argument}

abbrev mutual
  pub HasNoSquare : Term → Type 0
  HasNoSquare (Srt star) = Unit {0}
  HasNoSquare (Srt square) = ⊥
  HasNoSquare (Var i) = Unit {0}
  HasNoSquare (App f a) = HasNoSquare f × HasNoSquare a
  HasNoSquare (Lam A M) = HasNoSquare A × HasNoSquare M
  HasNoSquare (Pi A B) = HasNoSquare A × HasNoSquare B
  HasNoSquare (Con h us) = HaveNoSquare us

  pub HaveNoSquare : Terms → Type 0
  HaveNoSquare none = Unit {0}
  HaveNoSquare (us ▹ u) = HaveNoSquare us × HasNoSquare u

mutual
  renamed : (r : ℕ → ℕ) (t : Term) → HasNoSquare t → HasNoSquare (rename r t)
  renamed r (Srt star) h = tt
  renamed r (Srt square) h = absurd h
  renamed r (Var i) h = tt
  renamed r (App f a) h = (renamed r f h.0, renamed r a h.1)
  renamed r (Lam A M) h = (renamed r A h.0, renamed (lift_name r) M h.1)
  renamed r (Pi A B) h = (renamed r A h.0, renamed (lift_name r) B h.1)
  renamed r (Con k us) h = all_renamed r us h

  all_renamed : (r : ℕ → ℕ) (us : Terms) → HaveNoSquare us → HaveNoSquare (renames r us)
  all_renamed r none h = tt
  all_renamed r (us ▹ u) h = (all_renamed r us h.0, renamed r u h.1)

mutual
  pub typed_has_no_square : {Δ : Env} {Γ : Ctx} {M B : Term} → Derives Δ Γ M B → HasNoSquare M
  typed_has_no_square sort = tt
  typed_has_no_square (var d) = tt
  typed_has_no_square (weak {M = M} d e) = renamed (λ i. suc i) M (typed_has_no_square d)
  typed_has_no_square (form d e) = (typed_has_no_square d, typed_has_no_square e)
  typed_has_no_square (appl d e) = (typed_has_no_square d, typed_has_no_square e)
  typed_has_no_square (abst d e) = ((typed_has_no_square e).0, typed_has_no_square d)
  typed_has_no_square (conv d e q) = typed_has_no_square d
  typed_has_no_square (def i d b e f) = typed_has_no_square d
  typed_has_no_square (def_prim i d b e f) = typed_has_no_square d
  typed_has_no_square (inst i d fits e) = arguments_have_no_square fits

  arguments_have_no_square : {Δ : Env} {Γ ps : Ctx} {us : Terms} → Fits Δ Γ us ps → HaveNoSquare us
  arguments_have_no_square no_argument = tt
  arguments_have_no_square (argument fits d) = (arguments_have_no_square fits, typed_has_no_square d)
