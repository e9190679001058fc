use Rattle.std.proofs.Common.{rules}
use Rattle.serde_json.specs.View.{view}
use Rattle.repl_json.proofs.ListLemmas.{tries_read}
use Rattle.repl_json.proofs.lists.tries.Goals as goal

pub returns-in_default : goal.returns-in_default
returns-in_default c = let read = tries_read c.args.state c.args.after (view c.args.object.now) c.things.result c.things.ensures in search rules

pub returns-then-not-may_be_tried : goal.returns-then-not-may_be_tried
returns-then-not-may_be_tried c = let read = tries_read c.args.state c.args.after (view c.args.object.now) c.things.result c.things.ensures in search rules

pub returns : goal.returns
returns c = let read = tries_read c.args.state c.args.after (view c.args.object.now) c.things.result c.things.ensures in search rules
