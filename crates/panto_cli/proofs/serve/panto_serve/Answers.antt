use Rattle.std.proofs.Common.{ap}
use Rattle.panto_cli.proofs.Serving.{usage_so, refused_so}
use Rattle.panto_cli.proofs.Heard.{noted_so}
use Rattle.panto_cli.proofs.serve.panto_serve.Goals as goal

pub returns-clause-usage : goal.returns-clause-usage
returns-clause-usage g c = usage_so c.serve_words-finish.ensures.ends _ c.status.ensures

pub returns-clause-refused : goal.returns-clause-refused
returns-clause-refused g c = refused_so c.serve_words-finish.ensures.ends _ c.status.ensures

pub returns-clause-noted : goal.returns-clause-noted
returns-clause-noted g c =
    noted_so c.serve_words-finish.ensures.ends _ c.status.ensures c.serve_words-finish.result.told
    (g.N.Sink.taken c.args.notes.now) (g.N.Sink.taken c.serve_words-finish.new.notes) (g.N.Sink.taken c.write_end.new.notes)
    (g.N.Sink.faults c.args.notes.now) (g.N.Sink.faults c.serve_words-finish.new.notes) (g.N.Sink.faults c.write_end.new.notes)
    c.serve_words-finish.ensures.heard c.serve_words-finish.ensures.later_notes c.write_end.ensures.told
    (λ e. ap g.N.Sink.taken (c.write_end.ensures.silent e)) (λ e. ap g.N.Sink.faults (c.write_end.ensures.silent e))
