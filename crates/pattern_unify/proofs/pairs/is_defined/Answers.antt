use Rattle.std.proofs.Common.{rules, ◌≡◌, Some, None, is_some, sym, ap, ◌∙◌, map}
use Rattle.ld_terms.specs.Items.{item_named}
use Rattle.ld_terms.specs.Views.{terms_of}
use Rattle.conversion.specs.Conversion.{is_defined_at_head}
use Rattle.conversion.specs.Globals.{env_of}
use Rattle.conversion.proofs.PartPairs.{constant_defined}
use Rattle.pattern_unify.proofs.pairs.is_defined.Goals as goal

pub returns-in-Some : goal.returns-in-Some
returns-in-Some g c =
    let means = g.T.Terms.means c.args.terms.now in
    let is = g.G.Globals.items c.args.globals.now in
    let ds = g.G.Globals.metas c.args.globals.now in
    let found : Some c.in-Some.item.now ≡ item_named is c.in-Const.name.now = search rules in
    let answer : c.is_some.result ≡ is_some c.in-Some.item.now.body = search rules in
    answer
    ∙ sym (constant_defined means is ds c.in-Const.name.now (terms_of (map means c.in-Const.field-1.now)) (Some c.in-Some.item.now) found)
    ∙ ap (is_defined_at_head (env_of means is ds)) c.in-Const.ensures.tree
    ∙ c.loop-f.invariant.1

pub returns-in-None : goal.returns-in-None
returns-in-None g c =
    let means = g.T.Terms.means c.args.terms.now in
    let is = g.G.Globals.items c.args.globals.now in
    let ds = g.G.Globals.metas c.args.globals.now in
    let found : None ≡ item_named is c.in-Const.name.now = search rules in
    sym (constant_defined means is ds c.in-Const.name.now (terms_of (map means c.in-Const.field-1.now)) None found)
    ∙ ap (is_defined_at_head (env_of means is ds)) c.in-Const.ensures.tree
    ∙ c.loop-f.invariant.1
