use Rattle.std.proofs.Common.{subst}
use Rattle.term_store.specs.Hashed.{nodes_of}
use Rattle.term_store.proofs.Distinct.{same_places, IsOnce}
use Rattle.term_store.proofs.Hash.{once_of}
use Rattle.term_store.proofs.hash_terms.HashTerms.one_handle.Goals as goal

pub returns : goal.returns
returns c = same_places c.args.self.now (rw c.self.view_is at c.self.invariant.entries.ordered)
    (subst IsOnce c.self.view_is (once_of _ c.self.inside.ids (nodes_of c.self.inside.ids c.self.inside.rows) c.self.invariant.places)) c.args.a c.args.b c.requires.left c.requires.right
