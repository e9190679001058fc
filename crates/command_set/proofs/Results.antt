-- Results that hold a value.
use Rattle.std.proofs.Common.{Result, Ok, Err, IfOk}

-- a fact of the value gives another one
pub one_ok : {A E : Type 0} (r : Result A E) (P Q : A → Type 0) → ((x : A) → P x → Q x) → IfOk r P → IfOk r Q
one_ok (Ok x) P Q f p = f x p
one_ok (Err e) P Q f p = p

-- two facts of the value give a third
pub both_ok : {A E : Type 0} (r : Result A E) (P Q R : A → Type 0) → ((x : A) → P x → Q x → R x) → IfOk r P → IfOk r Q → IfOk r R
both_ok (Ok x) P Q R f p q = f x p q
both_ok (Err e) P Q R f p q = p
