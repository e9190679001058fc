use Rattle.std.proofs.Common.{Some, drop, ◌∙◌}
use Rattle.panto_cli.proofs.Demos.{own_end, counts_are, never_rose, at_ok}
use Rattle.panto_cli.proofs.demo.run_text.Goals as goal

pub is_done-requires : goal.is_done-requires
is_done-requires g c =
    own_end c.args.entries _ _ (λ i. record { book = (c.in_ok-tree.ensures.book ∙ c.in_ok-empty_book.ensures) i; entries = c.in_ok-tree.ensures.entries i; journal = c.in_ok-tree.ensures.journal i }) c.args.text.items _ _
    (λ i. Some (drop (c.new-source.ensures.at i) (c.new-source.ensures.bytes i).items)) _ c.new-sink.ensures.bytes _ c.requires.short c.requires.room c.run_session-end.result c.run_session-end.ensures.session
    (λ e. never_rose (c.run_session-end.ensures.read e))

pub returns : goal.returns
returns g c =
    at_ok c.count.result (counts_are c.args.entries _ _ (λ i. record { book = (c.in_ok-tree.ensures.book ∙ c.in_ok-empty_book.ensures) i; entries = c.in_ok-tree.ensures.entries i; journal = c.in_ok-tree.ensures.journal i }) c.args.text.items _ _
    (λ i. Some (drop (c.new-source.ensures.at i) (c.new-source.ensures.bytes i).items)) _ c.new-sink.ensures.bytes _ _ c.bytes.ensures c.run_session-end.result (c.is_done.ensures c.if-not-is_done.false) c.run_session-end.ensures.session) c.count.ensures
