-- The node of a key, whose name and arguments stand behind pointers.
use Rattle.ld_terms.specs.declared.node.Node.{Node}
use Rattle.ld_terms.specs.declared.node.Node.TheVariants as node
use Rattle.term_store.specs.declared.key.Form.{Form}
use Rattle.term_store.specs.declared.key.Form.TheVariants as form

abbrev pub node_of : Form → Node
node_of form.Star = node.Star
node_of form.Square = node.Square
node_of (form.Var i) = node.Var i
node_of (form.App f a) = node.App f a
node_of (form.Lam A M) = node.Lam A M
node_of (form.Pi A B) = node.Pi A B
node_of (form.Const call) = node.Const call.name call.args
node_of (form.Meta m us) = node.Meta m us
