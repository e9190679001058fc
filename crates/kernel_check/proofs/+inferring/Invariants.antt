use Rattle.std.proofs.Common.{◌+◌, ◌*◌, vec_len}
use Rattle.kernel_check.specs.Steps.{AreConverted, AreApplied}
use Rattle.kernel_check.proofs.+inferring.Given as goal

abbrev pub decreases-inference::infer_in : goal.decreases-inference::infer_in
decreases-inference::infer_in g l = 7 * l.fuel.now

abbrev pub decreases-inference::sort_of : goal.decreases-inference::sort_of
decreases-inference::sort_of g l = 7 * l.fuel.now + 1

abbrev pub decreases-inference::infer_under : goal.decreases-inference::infer_under
decreases-inference::infer_under g l = 7 * l.fuel.now + 1

abbrev pub decreases-inference::check_reduct : goal.decreases-inference::check_reduct
decreases-inference::check_reduct g l = 7 * l.fuel.now + 2

abbrev pub decreases-inference::product_form : goal.decreases-inference::product_form
decreases-inference::product_form g l = 7 * l.fuel.now + 3

abbrev pub decreases-inference::infer_application : goal.decreases-inference::infer_application
decreases-inference::infer_application g l = 7 * l.fuel.now + 6

abbrev pub decreases-inference::infer_along : goal.decreases-inference::infer_along
decreases-inference::infer_along g l = 7 * l.fuel.now + 5

abbrev pub decreases-inference::infer_applied : goal.decreases-inference::infer_applied
decreases-inference::infer_applied g l = 7 * l.fuel.now + 4

abbrev pub decreases-instances::infer_item : goal.decreases-instances::infer_item
decreases-instances::infer_item g l = 7 * l.fuel.now + 3

abbrev pub decreases-inference::infer_abstraction : goal.decreases-inference::infer_abstraction
decreases-inference::infer_abstraction g l = 7 * l.fuel.now + 2

abbrev pub decreases-inference::infer_product : goal.decreases-inference::infer_product
decreases-inference::infer_product g l = 7 * l.fuel.now + 2

abbrev pub decreases-instances::infer_arguments : goal.decreases-instances::infer_arguments
decreases-instances::infer_arguments g l = 7 * l.fuel.now + 1

abbrev pub decreases-instances::infer_instance : goal.decreases-instances::infer_instance
decreases-instances::infer_instance g l = 7 * l.fuel.now + 2

abbrev pub invariant-instances::infer_arguments-loop-k : goal.invariant-instances::infer_arguments-loop-k
invariant-instances::infer_arguments-loop-k g l =
    AreConverted (g.T.Terms.holds l.fn.terms) (g.T.Terms.means l.fn.terms) (g.T.Terms.holds l.terms) (g.T.Terms.means l.terms)
    (g.G.Globals.items l.globals) (g.G.Globals.metas l.globals) l.fn.types.items l.types.items l.args l.params l.fn.fuel l.fuel l.k

abbrev pub invariant-inference::infer_along-loop-pair : goal.invariant-inference::infer_along-loop-pair
invariant-inference::infer_along-loop-pair g l =
    AreApplied (g.T.Terms.holds l.fn.terms) (g.T.Terms.means l.fn.terms) (g.T.Terms.holds l.terms) (g.T.Terms.means l.terms)
    (g.G.Globals.items l.globals) (g.G.Globals.metas l.globals) l.fn.types.items l.types.items l.fn.waiting.items l.waiting.items l.fn.head l.found l.fn.fuel l.fuel

abbrev pub decreases-inference::infer_along-loop-pair : goal.decreases-inference::infer_along-loop-pair
decreases-inference::infer_along-loop-pair g l = vec_len l.waiting
