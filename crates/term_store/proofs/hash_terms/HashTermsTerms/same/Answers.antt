use Rattle.std.proofs.Common.{ap, arith}
use Rattle.std.proofs.lemmas.Bool.Decides.{nat_tests}
use Rattle.ld_terms.specs.Nodes.{tree_of_place}
use Rattle.ld_terms.specs.declared.node.Place.{Place}
use Rattle.term_store.proofs.Distinct.{place_same}
use Rattle.term_store.proofs.hash_terms.HashTermsTerms.same.Goals as goal

pub returns : goal.returns
returns c = (
  λ t. ap (tree_of_place c.args.self.now) (place_same c.args.a c.args.b (grind (arith, nat_tests))),
  λ e. let s = ap (λ (p : Place). p.0) (c.one_handle.ensures e) in grind (arith, nat_tests),
)
