use Rattle.std.proofs.Common.{◌∙◌, sym}
use Rattle.shared_map.proofs.Edits.{put_less, put_equal, put_greater, was_there, was_new, not_less, not_greater}
use Rattle.shared_map.proofs.leaf.with_key.Goals as goal

pub returns-in_ok-made-in-Less-clause-changed : goal.returns-in_ok-made-in-Less-clause-changed
returns-in_ok-made-in-Less-clause-changed g c =
    rw (put_less g.K.Ord.cmp g.met.K.Ord.total c.args.key c.args.entries.now c.place_of-at.result c.requires.sorted c.place_of-at.ensures c.index-entries-at.result c.index-entries-at.is c.args.value
    (sym c.cmp.ensures ∙ c.in-Less.is)) c.in_ok-made-in-Less.ensures

pub returns-in_ok-made-in-Equal-clause-changed : goal.returns-in_ok-made-in-Equal-clause-changed
returns-in_ok-made-in-Equal-clause-changed g c =
    rw (put_equal g.K.Ord.cmp g.met.K.Ord.total c.args.key c.args.entries.now c.place_of-at.result c.requires.sorted c.place_of-at.ensures c.index-entries-at.result c.index-entries-at.is c.in_ok-key-in-Equal.key c.args.value
    (sym c.cmp.ensures ∙ c.in-Equal.is) (c.requires.keys _ _ c.in_ok-key-in-Equal.ensures.cases)) c.in_ok-made-in-Equal.ensures

pub returns-in_ok-made-in-Greater-clause-changed : goal.returns-in_ok-made-in-Greater-clause-changed
returns-in_ok-made-in-Greater-clause-changed g c =
    rw (put_greater g.K.Ord.cmp g.met.K.Ord.total c.args.key c.args.entries.now c.place_of-at.result c.requires.sorted c.place_of-at.ensures c.index-entries-at.result c.index-entries-at.is c.args.value
    (sym c.cmp.ensures ∙ c.in-Greater.is)) c.in_ok-made-in-Greater.ensures

pub returns-in_ok-made-in-Less-clause-found : goal.returns-in_ok-made-in-Less-clause-found
returns-in_ok-made-in-Less-clause-found g c = was_new g.K.Ord.cmp g.met.K.Ord.total c.args.key c.args.entries.now c.place_of-at.result c.requires.sorted c.place_of-at.ensures c.index-entries-at.result c.index-entries-at.is (λ e. not_less (sym c.in-Less.is ∙ c.cmp.ensures ∙ e))

pub returns-in_ok-made-in-Equal-clause-found : goal.returns-in_ok-made-in-Equal-clause-found
returns-in_ok-made-in-Equal-clause-found g c = was_there g.K.Ord.cmp g.met.K.Ord.total c.args.key c.args.entries.now c.place_of-at.result c.requires.sorted c.place_of-at.ensures c.index-entries-at.result c.index-entries-at.is (sym c.cmp.ensures ∙ c.in-Equal.is)

pub returns-in_ok-made-in-Greater-clause-found : goal.returns-in_ok-made-in-Greater-clause-found
returns-in_ok-made-in-Greater-clause-found g c = was_new g.K.Ord.cmp g.met.K.Ord.total c.args.key c.args.entries.now c.place_of-at.result c.requires.sorted c.place_of-at.ensures c.index-entries-at.result c.index-entries-at.is (λ e. not_greater (sym c.in-Greater.is ∙ c.cmp.ensures ∙ e))
