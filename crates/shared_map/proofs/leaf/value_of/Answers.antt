use Rattle.std.proofs.Common.{◌∙◌, sym}
use Rattle.shared_map.proofs.Edits.{find_equal, find_other}
use Rattle.shared_map.proofs.leaf.value_of.Goals as goal

pub returns-in-Equal : goal.returns-in-Equal
returns-in-Equal g c = find_equal g.K.Ord.cmp g.met.K.Ord.total c.args.key.now c.args.entries.now c.place_of-at.result c.requires.sorted c.place_of-at.ensures c.index-entries-at.result c.index-entries-at.is (sym c.cmp.ensures ∙ c.in-Equal.is)

pub returns-in_default : goal.returns-in_default
returns-in_default g c = find_other g.K.Ord.cmp g.met.K.Ord.total c.args.key.now c.args.entries.now c.place_of-at.result c.requires.sorted c.place_of-at.ensures c.index-entries-at.result c.index-entries-at.is (λ e. c.in_default.not-Equal (c.cmp.ensures ∙ e))
