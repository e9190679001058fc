-- Turns, one call after another.
use Rattle.std.proofs.Common.{◌≡◌, ◌<◌, ℕ, ◌⊎◌, inl, inr, Result, Ok, Err, refl, sym, ◌∙◌, subst, arith}
use Rattle.turn_lock.specs.Meanings.{MAX_TURNS}
use Rattle.session_server.specs.Desks.{DeskMeaning, Went, Wore, GoesHalting, GoesBy, GoesTo, GoesStep}
use Rattle.session_server.specs.Progress.{step_of}
use Rattle.session_server.specs.declared.answer.Halt.{Halt}
use Rattle.session_server.specs.declared.answer.Halt.TheVariants.{Write, Full, Worn, Memory}
use Rattle.session_server.specs.declared.run.End.{End}
use Rattle.session_server.specs.declared.run.End.TheVariants as ending

module _ {P E : Type 0} (desk : DeskMeaning P E) where
  pub went_none : (p : P) → Went desk p p
  went_none p = record { rest_is = refl; later = omega arith; in_time = inl refl }

  in_time_more : (p q r : P) → (q ≡ p) ⊎ (desk.found q < MAX_TURNS) → (r ≡ q) ⊎ (desk.found r < MAX_TURNS) → (r ≡ p) ⊎ (desk.found r < MAX_TURNS)
  in_time_more p q r (inl a) (inl b) = inl (b ∙ a)
  in_time_more p q r (inr a) (inl b) = inr (subst (λ (x : P). desk.found x < MAX_TURNS) (sym b) a)
  in_time_more p q r a (inr b) = inr b

  pub went_more : (p q r : P) → Went desk p q → Went desk q r → Went desk p r
  went_more p q r a b = record {
    rest_is = b.rest_is ∙ a.rest_is;
    later = let x = a.later in let y = b.later in omega arith;
    in_time = in_time_more p q r a.in_time b.in_time;
  }

  pub wore_more : (n : ℕ) (p q r : P) → Went desk p q → Wore desk n q r → Wore desk n p r
  wore_more n p q r a b = record {
    rest_is = b.rest_is ∙ a.rest_is;
    later = let x = a.later in let y = b.later in omega arith;
    turns_are = b.turns_are;
    all_drawn = b.all_drawn;
  }

  pub halting_more : (p q r : P) (halt : Halt) → Went desk p q → GoesHalting desk q r halt → GoesHalting desk p r halt
  halting_more p q r Write a b = went_more p q r a b
  halting_more p q r (Full n) a b = went_more p q r a b
  halting_more p q r (Worn n) a b = wore_more n p q r a b
  halting_more p q r Memory a b = went_more p q r a b

  pub goes_more : {A : Type 0} (p q r : P) (x : Result A Halt) → Went desk p q → GoesBy desk q r x → GoesBy desk p r x
  goes_more p q r (Ok x) a b = went_more p q r a b
  goes_more p q r (Err halt) a b = halting_more p q r halt a b

  pub goes_to_more : (p q r : P) (end : End) → Went desk p q → GoesTo desk q r end → GoesTo desk p r end
  goes_to_more p q r ending.Done a b = went_more p q r a b
  goes_to_more p q r ending.ReadFault a b = went_more p q r a b
  goes_to_more p q r ending.WriteFault a b = went_more p q r a b
  goes_to_more p q r (ending.Full n) a b = went_more p q r a b
  goes_to_more p q r (ending.Worn n) a b = wore_more n p q r a b
  goes_to_more p q r (ending.Long n) a b = went_more p q r a b
  goes_to_more p q r ending.Memory a b = went_more p q r a b

  pub goes_step : (p q : P) (x : Result (Unit {0}) Halt) → GoesBy desk p q x → GoesStep desk p q (step_of x)
  goes_step p q (Ok x) a = a
  goes_step p q (Err Write) a = a
  goes_step p q (Err (Full n)) a = a
  goes_step p q (Err (Worn n)) a = a
  goes_step p q (Err Memory) a = a
