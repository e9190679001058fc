use Rattle.repl_json.specs.Reply.{text}
use Rattle.repl_json.proofs.finish.finish_line.Goals as goal

pub returns-in-Ahead-clause-ok : goal.returns-in-Ahead-clause-ok
unfolding text
returns-in-Ahead-clause-ok g c = rw c.in-Ahead.is c.put_counted.ensures.ok

pub returns-in-UnknownEnv-clause-ok : goal.returns-in-UnknownEnv-clause-ok
unfolding text
returns-in-UnknownEnv-clause-ok g c = rw c.in-UnknownEnv.is c.put_counted-in-UnknownEnv.ensures.ok

pub returns-in-UnknownState-clause-ok : goal.returns-in-UnknownState-clause-ok
unfolding text
returns-in-UnknownState-clause-ok g c = rw c.in-UnknownState.is c.put_counted-in-UnknownState.ensures.ok

pub returns-in-Deleted-clause-ok : goal.returns-in-Deleted-clause-ok
unfolding text
returns-in-Deleted-clause-ok g c = rw c.in-Deleted.is c.put_counted-in-Deleted.ensures.ok

pub returns-in-Reset-clause-ok : goal.returns-in-Reset-clause-ok
unfolding text
returns-in-Reset-clause-ok g c = rw c.in-Reset.is c.put_counted-in-Reset.ensures.ok

pub returns-in-Memory-clause-ok : goal.returns-in-Memory-clause-ok
unfolding text
returns-in-Memory-clause-ok g c = rw c.in-Memory.is c.put_parts.ensures.ok
