use Rattle.std.proofs.Common.{Ok, arith, ap, sym, ◌∙◌}
use Rattle.std.proofs.lemmas.Result.{err_from_is_err_and}
use Rattle.term_syntax.specs.Reading.{term, begins_atom}
use Rattle.term_syntax.specs.declared.kind.Kind.TheVariants as k
use Rattle.term_syntax.proofs.Turns.{atoms_init, atoms_turn, atoms_refused, atoms_done, arguments_none, arguments_init, arguments_turn, arguments_refused, arguments_done, closed, closed_refused, deeper}
use Rattle.term_syntax.proofs.Progress.{term_shorter, atom_shorter, eat_no_longer}
use Rattle.term_text.proofs.read.+term.Goals as goal

pub arguments-returns-then-eat : goal.arguments-returns-then-eat
arguments-returns-then-eat t c = rw (c.of.ensures, c.new-found.ensures.items) (arguments_none (term c.args.depth) (term_shorter c.args.depth) c.args.cursor.now c.eat.new.self (c.eat.ensures ∙ ap (λ b. Ok (b, c.eat.new.self)) c.if-eat.true))

pub arguments-more-init : goal.arguments-more-init
arguments-more-init t c = arguments_init (term c.args.depth) (term_shorter c.args.depth) c.args.cursor.now c.eat.new.self c.new-found.result.items (c.eat.ensures ∙ ap (λ b. Ok (b, c.eat.new.self)) c.if-eat.false) c.new-found.ensures.items

pub arguments-returns-in_err-next : goal.arguments-returns-in_err-next
arguments-returns-in_err-next t c =
    let p = err_from_is_err_and c.from_residual.result c.from_residual.ensures.1 in
    rw (p.1, p.2) (arguments_refused (term c.args.depth) (term_shorter c.args.depth) _ c.more.cursor c.more.found.items c.in_err-next.field-0.0 c.term.new.cursor c.more.invariant c.in_err-next.ensures)

pub arguments-more-smaller : goal.arguments-more-smaller
arguments-more-smaller t c = omega (arith, term_shorter c.args.depth c.more.cursor c.in_ok-next.next c.term.new.cursor c.in_ok-next.ensures, eat_no_longer k.Comma c.term.new.cursor _ c.eat-in-more.new.self c.eat-in-more.ensures)

pub arguments-more-preserved : goal.arguments-more-preserved
arguments-more-preserved t c = arguments_turn (term c.args.depth) (term_shorter c.args.depth) _ c.more.cursor c.more.found.items c.in_ok-next.next c.term.new.cursor c.eat-in-more.new.self c.push.new.self.items c.more.invariant c.in_ok-next.ensures (c.eat-in-more.ensures ∙ ap (λ b. Ok (b, c.eat-in-more.new.self)) c.if-not-eat.false) c.in_ok-push.ensures.items

pub arguments-returns-in_err-expect : goal.arguments-returns-in_err-expect
arguments-returns-in_err-expect t c =
    let p = err_from_is_err_and c.from_residual-in_err-expect.result c.from_residual-in_err-expect.ensures.1 in
    let done = arguments_done (term c.args.depth) (term_shorter c.args.depth) _ c.more.cursor c.more.found.items c.in_ok-next.next c.term.new.cursor c.eat-in-more.new.self c.push.new.self.items c.more.invariant c.in_ok-next.ensures (c.eat-in-more.ensures ∙ ap (λ b. Ok (b, c.eat-in-more.new.self)) c.if-not-eat.true) c.in_ok-push.ensures.items in
    rw (p.1, p.2) (closed_refused _ c.eat-in-more.new.self c.push.new.self.items c.in_err-expect.field-0.0 c.expect.new.self done c.in_err-expect.ensures)

pub arguments-returns : goal.arguments-returns
arguments-returns t c =
    let done = arguments_done (term c.args.depth) (term_shorter c.args.depth) _ c.more.cursor c.more.found.items c.in_ok-next.next c.term.new.cursor c.eat-in-more.new.self c.push.new.self.items c.more.invariant c.in_ok-next.ensures (c.eat-in-more.ensures ∙ ap (λ b. Ok (b, c.eat-in-more.new.self)) c.if-not-eat.true) c.in_ok-push.ensures.items in
    rw c.of-2.ensures (closed _ c.eat-in-more.new.self c.push.new.self.items c.expect.new.self done c.in_ok-expect.ensures)

pub atoms-more-init : goal.atoms-more-init
atoms-more-init t c = atoms_init (term c.args.depth) (term_shorter c.args.depth) c.args.cursor.now c.new-found.result.items c.new-found.ensures.items

pub atoms-returns-in_err-next : goal.atoms-returns-in_err-next
atoms-returns-in_err-next t c =
    let p = err_from_is_err_and c.from_residual.result c.from_residual.ensures.1 in
    rw (p.1, p.2) (atoms_refused (term c.args.depth) (term_shorter c.args.depth) _ c.more.cursor c.more.found.items c.in_err-next.field-0.0 c.atom.new.cursor c.more.invariant (ap begins_atom (sym c.kind.ensures) ∙ sym c.begins_atom.ensures ∙ c.more-test.true) c.in_err-next.ensures)

pub atoms-more-smaller : goal.atoms-more-smaller
atoms-more-smaller t c = omega (arith, atom_shorter (term c.args.depth) (term_shorter c.args.depth) c.more.cursor c.in_ok-next.next c.atom.new.cursor c.in_ok-next.ensures)

pub atoms-more-preserved : goal.atoms-more-preserved
atoms-more-preserved t c = atoms_turn (term c.args.depth) (term_shorter c.args.depth) _ c.more.cursor c.more.found.items c.in_ok-next.next c.atom.new.cursor c.push.new.self.items c.more.invariant (ap begins_atom (sym c.kind.ensures) ∙ sym c.begins_atom.ensures ∙ c.more-test.true) c.in_ok-next.ensures c.in_ok-push.ensures.items

pub atoms-returns : goal.atoms-returns
atoms-returns t c = rw c.of.ensures (atoms_done (term c.args.depth) (term_shorter c.args.depth) _ c.more.cursor c.more.found.items c.more.invariant (ap begins_atom (sym c.kind.ensures) ∙ sym c.begins_atom.ensures ∙ c.more-test.false))

pub term-returns : goal.term-returns
term-returns t c = rw (deeper c.args.depth c.args.cursor.now (omega arith)) c.whole.ensures
