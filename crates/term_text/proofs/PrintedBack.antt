-- What is printed is read again, and is ASCII.
use Rattle.std.proofs.Common.{◌≡◌, Bool, true, false, if◌then◌else◌, length, Result, Ok, Err, refl, sym, arith, subst, IfOk}
use Rattle.std.specs.Prelude.{nat_lt}
use Rattle.std.proofs.lemmas.Bool.Decides.{nat_tests}
use Rattle.ld_trees.specs.Term.{Term, nodes, depth}
use Rattle.term_syntax.specs.Printing.{Names, text}
use Rattle.ld_trees.specs.Scoping.{Scoped}
use Rattle.term_syntax.specs.ReadsBack.{IsContext, HasTextNames}
use Rattle.term_syntax.proofs.PrintedTokens.{or_false}
use Rattle.term_syntax.proofs.PrintedAscii.{printed_is_ascii}
use Rattle.term_syntax.proofs.RoundTrip.{printed_is_read}
use Rattle.term_text.specs.declared.print.Printed.{Printed}
use Rattle.term_text.specs.declared.print.Printed.TheVariants as printed
use Rattle.term_text.specs.Printed.{is_large, shown, printed_as, PrintedReadsBack, PrintedIsAscii}

by_size : (names : Names) (t : Term) → IsContext names → Scoped (length names) t → (b : Bool) → is_large t ≡ b
    → PrintedReadsBack names t (if b then printed.Large (shown (depth t)) (shown (nodes t)) else printed.Text (text names (length names) t))
by_size names t context low true e = tt
by_size names t context low false e = λ arity known.
    let small : nat_lt 512 (depth t) ≡ false = (or_false (nat_lt 65536 (nodes t)) (nat_lt 512 (depth t)) e).1 in
    printed_is_read arity names t context.few low known (grind (arith, nat_tests, small))

pub printed_back : {E : Type 0} (names : Names) (t : Term) (r : Result Printed E) → IsContext names → Scoped (length names) t → IfOk r (λ p. p ≡ printed_as names t) → IfOk r (λ p. PrintedReadsBack names t p)
printed_back names t (Ok p) context low e = subst (λ p. PrintedReadsBack names t p) (sym e) (by_size names t context low (is_large t) refl)
printed_back names t (Err e) context low h = tt

ascii_by_size : (names : Names) (t : Term) → HasTextNames t → (b : Bool) → PrintedIsAscii (if b then printed.Large (shown (depth t)) (shown (nodes t)) else printed.Text (text names (length names) t))
ascii_by_size names t h true = tt
ascii_by_size names t h false = printed_is_ascii names (length names) t h

pub printed_ascii : {E : Type 0} (names : Names) (t : Term) (r : Result Printed E) → IfOk r (λ p. p ≡ printed_as names t) → IfOk r (λ p. HasTextNames t → PrintedIsAscii p)
printed_ascii names t (Ok p) e = λ h. subst PrintedIsAscii (sym e) (ascii_by_size names t h (is_large t))
printed_ascii names t (Err e) h = tt
