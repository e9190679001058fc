-- What each of several deques keeps.
use Rattle.std.specs.Prelude.{◌≡◌, ℕ, ◌+◌, ◌*◌, ◌/◌, ◌%◌, min, ◌<◌, ◌≤◌, List, [], length, slice_index_or}
use Rattle.std.specs.List.{Contains, range_with_len}
use Rattle.atomic_blocks.specs.Lent.{RowsId}
use Rattle.crossbeam_deque.specs.declared.handles.Worker.{Worker}
use Rattle.crossbeam_deque.specs.Handles.{worker_deque, worker_view}
use Rattle.worker_gate.specs.declared.account.Account.{Account}

-- which deque it is, and what was put into it
abbrev pub tag : {T A P : Type 0} → Worker T A Account P → (RowsId × A) × List ℕ
tag w = (worker_deque w, (worker_view w).put)

-- each of the first n positions was put into one of the deques
abbrev pub Dealt : ℕ → List (List ℕ) → Type 0
Dealt n puts = (p : ℕ) → p < n → (k : ℕ) × (k < length puts) × Contains (slice_index_or puts k []) p

-- the parts that its owner has
abbrev pub parts : {T A P : Type 0} → Worker T A Account P → ℕ
parts w = (worker_view w).parts

-- what was put into it
abbrev pub put_of : {T A P : Type 0} → Worker T A Account P → List ℕ
put_of w = (worker_view w).put

-- where the run of this worker begins, of so many jobs and workers. The first runs have one job more, where the jobs don't go even
abbrev pub start : ℕ → ℕ → ℕ → ℕ
start count workers worker = count / workers * worker + min worker (count % workers)

-- The run of this worker: neighbouring positions from where it begins up to where the next run begins. The lengths of two runs differ by at most one.
abbrev pub IsRun : ℕ → ℕ → ℕ → List ℕ → Type 0
IsRun count workers worker put =
    (put ≡ range_with_len (start count workers worker) (length put))
    × (start count workers worker + length put ≡ start count workers (worker + 1))
    × (count / workers ≤ length put)
    × (length put ≤ count / workers + 1)

-- the run of each worker was put into its deque
abbrev pub Runs : ℕ → ℕ → List (List ℕ) → Type 0
Runs count workers puts = (worker : ℕ) → worker < length puts → IsRun count workers worker (slice_index_or puts worker [])
