use Rattle.std.proofs.Common.{◌∷◌, [], map, sym, ap, ◌∙◌, rules}
use Rattle.std.proofs.lemmas.List.{map-append}
use Rattle.state_print.proofs.Turns.{named_at, held_at, none_more, one_more}
use Rattle.state_print.proofs.goals.push_goal.Goals as goal

pub goal_json-requires : goal.goal_json-requires
goal_json-requires g c =
    let holds = g.T.Terms.holds c.args.terms.now in
    let metas = c.args.metas.now in
    let context = named_at metas c.args.goal c.in-Some.decl.now c.requires.declared (sym c.in-Some.ensures) in
    let decl = held_at holds metas c.args.goal c.in-Some.decl.now c.requires.metas (sym c.in-Some.ensures) in
    search rules

pub returns-in-None-clause-text : goal.returns-in-None-clause-text
returns-in-None-clause-text g c = none_more (g.T.Terms.means c.args.terms.now) c.args.metas.now c.args.goal (map (λ x. x.items) c.args.texts.now.items) c.in-None.ensures

pub returns-in_ok-push-in-Some-clause-text : goal.returns-in_ok-push-in-Some-clause-text
returns-in_ok-push-in-Some-clause-text g c =
    let q = c.in_ok-goal_json-in-Some in
    ap (map (λ x. x.items)) c.in_ok-push-in-Some.ensures.items
    ∙ map-append (λ x. x.items) c.args.texts.now.items (q.field-0 ∷ [])
    ∙ one_more (g.T.Terms.means c.args.terms.now) c.args.metas.now c.args.others.now c.args.goal c.in-Some.decl.now (map (λ x. x.items) c.args.texts.now.items) q.field-0.items c.in-Some.ensures c.requires.others q.ensures.text
