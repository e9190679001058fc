-- What a result leaves where nothing stands in the way of its request.
use Rattle.std.specs.Prelude.{Some, None, true, [], ◌∷◌, ◌++◌, length, is_some, if◌then◌else◌}
use Rattle.repl_json.specs.declared.reply.Line.TheVariants as line
use Rattle.repl_json.specs.declared.request.Ask.{Ask}
use Rattle.state_tree.specs.declared.work.Gave.{Gave}
use Rattle.state_tree.specs.declared.work.Gave.TheVariants as gave
use Rattle.state_tree.specs.declared.work.Worked.{Worked}
use Rattle.state_tree.specs.declared.work.Worked.TheVariants.{Said, NewEnv, NewState, Memory}
use Rattle.state_tree.specs.Server.{PlainTree, Stepped, says, seq_of, or_else, flag_case}

module _ {E S : Type 0} where
  abbrev pub result_case : PlainTree E S → Worked E S → Stepped E S
  result_case t (Said body) = says t (line.Given body (seq_of t) None)
  result_case t (NewEnv env body) = record { line = line.Given body (seq_of t) (Some (length t.envs)); envs = t.envs ++ env ∷ []; states = t.states }
  result_case t (NewState state body) = record { line = line.Given body (seq_of t) (Some (length t.states)); envs = t.envs; states = t.states ++ record { state = state; live = true } ∷ [] }
  result_case t Memory = says t (line.Memory (seq_of t))

  abbrev pub gave_by : Worked E S → Gave
  gave_by Memory = gave.Memory
  gave_by worked = gave.Answer

  -- flags are changed without the result
  abbrev pub open_case : PlainTree E S → Ask → Worked E S → Stepped E S
  open_case t ask worked = or_else (flag_case t ask) (result_case t worked)

  abbrev pub open_gave : PlainTree E S → Ask → Worked E S → Gave
  open_gave t ask worked = if is_some (flag_case t ask) then gave.Answer else gave_by worked
