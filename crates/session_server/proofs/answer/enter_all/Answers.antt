use Rattle.std.proofs.Common.{List, Ok, Err, subst, ◌≡◌, ◌∙◌, ap, sym, refl, [], ◌∷◌, ◌++◌, append_assoc, append-nil, arith}
use Rattle.repl_json.specs.declared.request.Request.{Request}
use Rattle.session_server.specs.Answers.{Answers, requests_in_readies}
use Rattle.session_server.proofs.AnswerLemmas.{answered_none, answered_more, answers_more, answers_rest, rose_later}
use Rattle.session_server.proofs.Fit.{all_fit_later}
use Rattle.session_server.proofs.GoingLemmas.{went_none, went_more, halting_more}
use Rattle.session_server.proofs.answer.enter_all.Goals as goal

pub readies-init : goal.readies-init
readies-init g c = record {
  own = c.requires.own;
  went = went_none (g.D.Desk.meaning c.args.desk.now) c.args.place.now;
  before = ([], refl, answered_none g.W.Work.value (g.D.Desk.meaning c.args.desk.now).alone (g.D.Desk.meaning c.args.desk.now).pass _ _);
  fit = c.requires.fit;
  tells = refl;
  later = omega arith;
}

pub readies-preserved : goal.readies-preserved
readies-preserved g c =
    let so_far = c.readies.invariant.before in
    let taken = c.in-Some.ensures.items in
    let answered = c.in-Ok.ensures.answers in
    record {
      own = c.in-Ok.ensures.own;
      went = went_more (g.D.Desk.meaning c.args.desk.now) _ _ _ c.readies.invariant.went c.in-Ok.ensures.goes;
      before = (
        so_far.0 ++ c.in-Some.ready.request ∷ [],
        so_far.1 ∙ ap (λ l. so_far.0 ++ requests_in_readies l) taken ∙ sym (append_assoc so_far.0 (c.in-Some.ready.request ∷ []) (requests_in_readies c.take_first.new.readies.items)),
        answered_more g.W.Work.value (g.D.Desk.meaning c.args.desk.now).alone (g.D.Desk.meaning c.args.desk.now).pass _ _ _ _ _ _ so_far.0 (c.in-Some.ready.request ∷ []) so_far.2 answered,
      );
      fit = all_fit_later g.W.Work.value _ _ answered.since c.take_first.new.readies.items answered.sees.grows (rw taken at c.readies.invariant.fit).1;
      tells = c.in-Ok.ensures.tells ∙ c.readies.invariant.tells;
      later = omega (arith, c.in-Ok.ensures.later);
    }

pub returns-in-Err-clause-goes : goal.returns-in-Err-clause-goes
returns-in-Err-clause-goes g c = halting_more (g.D.Desk.meaning c.args.desk.now) _ _ _ c.in-Err.halt c.readies.invariant.went c.in-Err.ensures.goes

pub returns-in-Err-clause-answers : goal.returns-in-Err-clause-answers
returns-in-Err-clause-answers g c =
    let so_far = c.readies.invariant.before in
    let e : requests_in_readies c.args.readies.items ≡ so_far.0 ++ (c.in-Some.ready.request ∷ [] ++ requests_in_readies c.take_first.new.readies.items) = so_far.1 ∙ ap (λ l. so_far.0 ++ requests_in_readies l) c.in-Some.ensures.items in
    subst (λ (rs : List Request). Answers g.W.Work.value (g.D.Desk.meaning c.args.desk.now).alone (g.D.Desk.meaning c.args.desk.now).pass ((g.D.Desk.meaning c.args.desk.now).view c.args.place.now) ((g.D.Desk.meaning c.args.desk.now).view c.enter_ready.new.place) (g.K.Sink.taken c.args.sink.now) (g.K.Sink.taken c.enter_ready.new.sink) rs (Err c.in-Err.halt)) (sym e)
    (answers_more g.W.Work.value (g.D.Desk.meaning c.args.desk.now).alone (g.D.Desk.meaning c.args.desk.now).pass _ _ _ _ _ _ so_far.0 _ (Err c.in-Err.halt) so_far.2
    (answers_rest g.W.Work.value (g.D.Desk.meaning c.args.desk.now).alone (g.D.Desk.meaning c.args.desk.now).pass _ _ _ _ (c.in-Some.ready.request ∷ []) (requests_in_readies c.take_first.new.readies.items) c.in-Err.halt c.in-Err.ensures.answers))

pub returns-in-None-clause-answers : goal.returns-in-None-clause-answers
returns-in-None-clause-answers g c =
    let so_far = c.readies.invariant.before in
    subst (λ (rs : List Request). Answers g.W.Work.value (g.D.Desk.meaning c.args.desk.now).alone (g.D.Desk.meaning c.args.desk.now).pass ((g.D.Desk.meaning c.args.desk.now).view c.args.place.now) ((g.D.Desk.meaning c.args.desk.now).view c.readies.place) (g.K.Sink.taken c.args.sink.now) (g.K.Sink.taken c.readies.sink) rs (Ok tt))
    (sym (so_far.1 ∙ ap (λ l. so_far.0 ++ requests_in_readies l) c.in-None.ensures.none ∙ append-nil so_far.0)) so_far.2

pub returns-in-Err-clause-rose : goal.returns-in-Err-clause-rose
returns-in-Err-clause-rose g c = λ e. rose_later _ _ _ c.readies.invariant.later (c.in-Err.ensures.rose e)
