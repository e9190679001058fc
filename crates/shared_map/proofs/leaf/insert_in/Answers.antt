use Rattle.std.proofs.Common.{◌∙◌, sym}
use Rattle.shared_map.proofs.Edits.{put_value, put_greater, was_there, new_tried, not_less, not_greater}
use Rattle.shared_map.proofs.leaf.insert_in.Goals as goal

pub returns-in-Equal-clause-tried : goal.returns-in-Equal-clause-tried
returns-in-Equal-clause-tried g c =
    put_value g.K.Ord.cmp g.met.K.Ord.total c.args.key c.args.entries.now.items c.place_of-at.result c.requires.sorted (rw c.deref.ensures.value at c.place_of-at.ensures) c.index.result.now c.index.ensures c.index_mut.result.now c.index_mut.ensures.value c.args.value
    (sym c.cmp.ensures ∙ c.in-Equal.is)

pub returns-in-Greater-clause-tried : goal.returns-in-Greater-clause-tried
returns-in-Greater-clause-tried g c =
    rw (put_greater g.K.Ord.cmp g.met.K.Ord.total c.args.key c.args.entries.now.items c.place_of-at.result c.requires.sorted (rw c.deref.ensures.value at c.place_of-at.ensures) c.index.result.now c.index.ensures c.args.value
    (sym c.cmp.ensures ∙ c.in-Greater.is)) c.insert_at-in-Greater.ensures.tried

pub returns-in-Less-clause-found : goal.returns-in-Less-clause-found
returns-in-Less-clause-found g c =
    new_tried g.K.Ord.cmp g.met.K.Ord.total c.args.key c.args.entries.now.items c.place_of-at.result c.requires.sorted (rw c.deref.ensures.value at c.place_of-at.ensures) c.index.result.now c.index.ensures c.insert_at.result
    (λ e. not_less (sym c.in-Less.is ∙ c.cmp.ensures ∙ e)) c.insert_at.ensures.found

pub returns-in-Equal-clause-found : goal.returns-in-Equal-clause-found
returns-in-Equal-clause-found g c =
    was_there g.K.Ord.cmp g.met.K.Ord.total c.args.key c.args.entries.now.items c.place_of-at.result c.requires.sorted (rw c.deref.ensures.value at c.place_of-at.ensures) c.index.result.now c.index.ensures
    (sym c.cmp.ensures ∙ c.in-Equal.is)

pub returns-in-Greater-clause-found : goal.returns-in-Greater-clause-found
returns-in-Greater-clause-found g c =
    new_tried g.K.Ord.cmp g.met.K.Ord.total c.args.key c.args.entries.now.items c.place_of-at.result c.requires.sorted (rw c.deref.ensures.value at c.place_of-at.ensures) c.index.result.now c.index.ensures c.insert_at-in-Greater.result
    (λ e. not_greater (sym c.in-Greater.is ∙ c.cmp.ensures ∙ e)) c.insert_at-in-Greater.ensures.found
