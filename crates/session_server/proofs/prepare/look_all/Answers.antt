use Rattle.std.proofs.Common.{rules, ◌∙◌, [], ◌∷◌, ◌++◌, refl, ap, sym, append_assoc}
use Rattle.std.proofs.lemmas.List.{map-append}
use Rattle.state_tree.specs.Enters.{tree_of}
use Rattle.session_server.specs.Made.{IsKept}
use Rattle.session_server.proofs.Fit.{all_kept_later}
use Rattle.session_server.proofs.GoingLemmas.{went_none, went_more}
use Rattle.session_server.proofs.SeesLemmas.{others_none, others_more}
use Rattle.session_server.proofs.MadeLemmas.{all_push, kept_now}
use Rattle.session_server.proofs.prepare.look_all.Goals as goal

pub loop-request-init : goal.loop-request-init
loop-request-init g c = record {
  own = c.requires.own;
  went = went_none (g.D.Desk.meaning c.args.desk.now) c.args.place.now;
  others = others_none (g.D.Desk.meaning c.args.desk.now).alone (g.D.Desk.meaning c.args.desk.now).pass _ _ refl;
  left = search rules;
  made = rw c.in-Ok.ensures.items refl;
  kept = rw c.in-Ok.ensures.items tt;
}

pub loop-request-preserved : goal.loop-request-preserved
loop-request-preserved g c =
    let before = c.loop-request.invariant in
    let looked = c.in-Ok-look_up.ensures in
    let job = c.in-Ok-look_up.job in
    rw c.in-Ok-push.ensures.items (record {
      own = looked.own;
      went = went_more (g.D.Desk.meaning c.args.desk.now) _ _ _ before.went looked.went;
      others = others_more (g.D.Desk.meaning c.args.desk.now).alone (g.D.Desk.meaning c.args.desk.now).pass _ _ _ before.others looked.others;
      left = before.left ∙ ap (λ l. c.loop-request.yielded ++ l) c.in-Some.ensures.steps.0 ∙ sym (append_assoc c.loop-request.yielded (c.in-Some.request ∷ []) c.next.new.self.rest.items);
      made = map-append (λ j. j.request) c.loop-request.jobs.items (job ∷ []) ∙ ap (λ l. l ++ job.request ∷ []) before.made ∙ ap (λ r. c.loop-request.yielded ++ r ∷ []) looked.request;
      kept = all_push (λ j. IsKept (tree_of g.W.Work.value ((g.D.Desk.meaning c.args.desk.now).view c.look_up.new.place)) j.request j.found) c.loop-request.jobs.items job
          (all_kept_later g.W.Work.value (λ j. j.request) (λ j. j.found) _ _ looked.others.since c.loop-request.jobs.items looked.others.sees.grows before.kept)
          (kept_now g.W.Work.value (tree_of g.W.Work.value ((g.D.Desk.meaning c.args.desk.now).view c.look_up.new.place)) job.request job.found looked.looked);
    })

pub returns-in_default-push-clause-others : goal.returns-in_default-push-clause-others
returns-in_default-push-clause-others g c = others_more (g.D.Desk.meaning c.args.desk.now).alone (g.D.Desk.meaning c.args.desk.now).pass _ _ _ c.loop-request.invariant.others c.in-Ok-look_up.ensures.others

pub returns-in_default-push-clause-goes : goal.returns-in_default-push-clause-goes
returns-in_default-push-clause-goes g c = went_more (g.D.Desk.meaning c.args.desk.now) _ _ _ c.loop-request.invariant.went c.in-Ok-look_up.ensures.went

pub returns-in-Err-clause-others : goal.returns-in-Err-clause-others
returns-in-Err-clause-others g c = others_more (g.D.Desk.meaning c.args.desk.now).alone (g.D.Desk.meaning c.args.desk.now).pass _ _ _ c.loop-request.invariant.others c.in-Err.ensures.others
