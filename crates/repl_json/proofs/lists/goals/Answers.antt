use Rattle.std.proofs.Common.{rules}
use Rattle.serde_json.specs.View.{view}
use Rattle.repl_json.proofs.ListLemmas.{goals_read}
use Rattle.repl_json.proofs.lists.goals.Goals as goal

pub returns-in_default : goal.returns-in_default
returns-in_default c = let read = goals_read (view c.args.object.now) c.things.result c.things.ensures in search rules

pub returns-in-Some-2 : goal.returns-in-Some-2
returns-in-Some-2 c = let read = goals_read (view c.args.object.now) c.things.result c.things.ensures in search rules

pub returns-in-None : goal.returns-in-None
returns-in-None c = let read = goals_read (view c.args.object.now) c.things.result c.things.ensures in search rules
