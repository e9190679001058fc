use Rattle.std.proofs.Common.{◌≢◌, ◌∙◌, ◌+◌, ap, sym, refl}
use Rattle.ld_trees.specs.Term.{Square}
use Rattle.unification.specs.Steps.{Gave, Refused}
use Rattle.elaboration.specs.Refusals.{NotType}
use Rattle.elaborate.proofs.Forms.{has_product, is_kind}
use Rattle.elaborate.proofs.nodes.function_type.Goals as goal

pub returns-then-is_square-clause-value : goal.returns-then-is_square-clause-value
returns-then-is_square-clause-value g c n =
    let h0 = g.T.Terms.holds c.args.terms.now in
    let m0 = g.T.Terms.means c.args.terms.now in
    let z = c.if-is_square.ensures.0 refl in
    (is_kind (NotType (c.args.depth + 1) Square) (m0 c.args.domain) (m0 c.args.ty) n z ∙ ap (λ T. Refused (NotType (c.args.depth + 1) T) n) (sym z), c.requires.ty)

pub returns-clause-value : goal.returns-clause-value
returns-clause-value g c n =
    let h0 = g.T.Terms.holds c.args.terms.now in
    let m0 = g.T.Terms.means c.args.terms.now in
    let h1 = g.T.Terms.holds c.make.new.self in
    let m1 = g.T.Terms.means c.make.new.self in
    let no : m0 c.args.ty ≢ Square = λ q. let z = c.if-is_square.ensures.1 q in cc in
    has_product (NotType (c.args.depth + 1) Square) (m0 c.args.domain) (m0 c.args.ty) n no ∙ ap (λ T. Gave T n) (sym c.in_ok-make.ensures.tree)
