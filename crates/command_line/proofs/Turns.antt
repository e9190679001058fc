-- One turn of the walk of `clap` over the words of a leaf command.
use Rattle.std.proofs.Common.{◌≡◌, ℕ, List, [], ◌∷◌, refl, true, false, Bool, Option, Some, None, slice_get}
use Rattle.std.specs.Str.{bytes_eq, chars}
use Rattle.clap.specs.Lexer.{long_of, short_of}
use Rattle.clap.specs.Words.{App, Text, Row}
use Rattle.clap.specs.Faults.{turn_fault}
use Rattle.clap.specs.Walk.{walked, Walk, Waiting, idle, option, positional, used, has_row, arg_by_long, arg_by_short, arg_by_id, arg_by_index}
use Rattle.clap.proofs.OnLiterals.{clap_on_literals}
use Rattle.command_line.proofs.Rows.{opt, flag, is_nil, same_text}

abbrev pub at : List Row → Option (Text × List Text) → Waiting → Walk
at rows pending waiting = record { held = record { rows = rows; pending = pending; skip = 0 }; waiting = waiting; position = 1; is_trailing = false; stopped = None }

abbrev pub row_after : Text → Text → List Row → List Row
row_after n v rows = used (opt n) (v ∷ []) rows

abbrev pub flag_after : Text → List Row → List Row
flag_after n rows = used (flag n) [] rows

-- a command with no subcommands, no short names and no words at places, whose options do not override themselves
pub record IsLeaf (app : App) : Type 0 where
  pub again : app.top.args_override_self ≡ false
  pub leaf : app.top.is_leaf ≡ true
  pub by_short : (c : ℕ) → arg_by_short app.top.rules c ≡ None
  pub by_index : (i : ℕ) → arg_by_index app.top.rules i ≡ None

module _ (app : App) (it : IsLeaf app) where
  abbrev pub turn : Walk → Text → Bool
  turn w word = is_nil (turn_fault app.top [] w word)

  abbrev pub on : Walk → Text → Walk
  on w word = walked app.top.rules [] w word

  module _ (word : Text) (plain : bytes_eq word (45 ∷ 45 ∷ []) ≡ false) where
    -- `--n=v`
    module _ (n v : Text) (long : long_of word ≡ Some (n, Some v)) (known : arg_by_long app.top.rules n ≡ Some (opt n)) (rows : List Row) where
      pub fresh : has_row n rows ≡ false → turn (at rows None idle) word ≡ true
      unfolding clap_on_literals
      fresh new = rw (plain, long, known, new) refl

      pub fresh_walk : on (at rows None idle) word ≡ at (row_after n v rows) None idle
      unfolding clap_on_literals
      fresh_walk = rw (plain, long, known) refl

      pub twice : has_row n rows ≡ true → turn (at rows None idle) word ≡ false
      unfolding clap_on_literals
      twice old = rw (plain, long, known, old, it.again) refl

      -- with the value of m pending
      module _ (m u : Text) (by_id : arg_by_id app.top.rules m ≡ Some (opt m)) (first : has_row m rows ≡ false) where
        pub after : has_row n (row_after m u rows) ≡ false → turn (at rows (Some (m, u ∷ [])) idle) word ≡ true
        unfolding clap_on_literals
        after new = rw (plain, long, known, by_id, first, new) refl

        pub after_walk : on (at rows (Some (m, u ∷ [])) idle) word ≡ at (row_after n v (row_after m u rows)) None idle
        unfolding clap_on_literals
        after_walk = rw (plain, long, known, by_id) refl

        pub after_twice : has_row n (row_after m u rows) ≡ true → turn (at rows (Some (m, u ∷ [])) idle) word ≡ false
        unfolding clap_on_literals
        after_twice old = rw (plain, long, known, by_id, first, old, it.again) refl

    -- `--n=v` where a value is wanted, or one was given twice
    module _ (n v : Text) (long : long_of word ≡ Some (n, Some v)) (known : arg_by_long app.top.rules n ≡ Some (opt n)) (rows : List Row) (m : Text) (by_id : arg_by_id app.top.rules m ≡ Some (opt m)) where
      pub wanting : turn (at rows (Some (m, [])) (option m)) word ≡ false
      unfolding clap_on_literals
      wanting = rw (plain, long, known, by_id) refl

      pub doomed_a : (u : Text) → has_row m rows ≡ true → turn (at rows (Some (m, u ∷ [])) idle) word ≡ false
      unfolding clap_on_literals
      doomed_a u old = rw (plain, long, known, by_id, old, it.again) refl

    -- `--n`, of an option that takes a value
    module _ (n : Text) (long : long_of word ≡ Some (n, None)) (known : arg_by_long app.top.rules n ≡ Some (opt n)) (rows : List Row) where
      pub asks : turn (at rows None idle) word ≡ true
      unfolding clap_on_literals
      asks = rw (plain, long, known) refl

      pub asks_walk : on (at rows None idle) word ≡ at rows (Some (n, [])) (option n)
      unfolding clap_on_literals
      asks_walk = rw (plain, long, known) refl

      module _ (m : Text) (by_id : arg_by_id app.top.rules m ≡ Some (opt m)) where
        pub asks_after : (u : Text) → has_row m rows ≡ false → turn (at rows (Some (m, u ∷ [])) idle) word ≡ true
        unfolding clap_on_literals
        asks_after u first = rw (plain, long, known, by_id, first) refl

        pub asks_after_walk : (u : Text) → on (at rows (Some (m, u ∷ [])) idle) word ≡ at (row_after m u rows) (Some (n, [])) (option n)
        unfolding clap_on_literals
        asks_after_walk u = rw (plain, long, known, by_id) refl

        pub asks_wanting : turn (at rows (Some (m, [])) (option m)) word ≡ false
        unfolding clap_on_literals
        asks_wanting = rw (plain, long, known, by_id) refl

        pub asks_doomed : (u : Text) → has_row m rows ≡ true → turn (at rows (Some (m, u ∷ [])) idle) word ≡ false
        unfolding clap_on_literals
        asks_doomed u old = rw (plain, long, known, by_id, old, it.again) refl

    -- `--n`, of a flag
    module _ (n : Text) (long : long_of word ≡ Some (n, None)) (known : arg_by_long app.top.rules n ≡ Some (flag n)) (rows : List Row) where
      pub set : has_row n rows ≡ false → turn (at rows None idle) word ≡ true
      unfolding clap_on_literals
      set new = rw (plain, long, known, new) refl

      pub set_walk : on (at rows None idle) word ≡ at (flag_after n rows) None idle
      unfolding clap_on_literals
      set_walk = rw (plain, long, known) refl

      pub set_twice : has_row n rows ≡ true → turn (at rows None idle) word ≡ false
      unfolding clap_on_literals
      set_twice old = rw (plain, long, known, old, it.again) refl

      module _ (m : Text) (by_id : arg_by_id app.top.rules m ≡ Some (opt m)) where
        pub set_after : (u : Text) → has_row m rows ≡ false → has_row n (row_after m u rows) ≡ false → turn (at rows (Some (m, u ∷ [])) idle) word ≡ true
        unfolding clap_on_literals
        set_after u first new = rw (plain, long, known, by_id, first, new) refl

        pub set_after_walk : (u : Text) → on (at rows (Some (m, u ∷ [])) idle) word ≡ at (flag_after n (row_after m u rows)) None idle
        unfolding clap_on_literals
        set_after_walk u = rw (plain, long, known, by_id) refl

        pub set_after_twice : (u : Text) → has_row m rows ≡ false → has_row n (row_after m u rows) ≡ true → turn (at rows (Some (m, u ∷ [])) idle) word ≡ false
        unfolding clap_on_literals
        set_after_twice u first old = rw (plain, long, known, by_id, first, old, it.again) refl

        pub set_wanting : turn (at rows (Some (m, [])) (option m)) word ≡ false
        unfolding clap_on_literals
        set_wanting = rw (plain, long, known, by_id) refl

        pub set_doomed : (u : Text) → has_row m rows ≡ true → turn (at rows (Some (m, u ∷ [])) idle) word ≡ false
        unfolding clap_on_literals
        set_doomed u old = rw (plain, long, known, by_id, old, it.again) refl

    -- a flag with a value, and an option of another name
    module _ (n : Text) (v : Text) (long : long_of word ≡ Some (n, Some v)) (known : arg_by_long app.top.rules n ≡ Some (flag n)) where
      pub flag_value : (rows : List Row) (pending : Option (Text × List Text)) (waiting : Waiting) → turn (at rows pending waiting) word ≡ false
      unfolding clap_on_literals
      flag_value rows pending idle = rw (plain, long, known) refl
      flag_value rows pending (option i) = rw (plain, long, known) refl
      flag_value rows pending positional = rw (plain, long, known) refl

    module _ (n : Text) (v : Option Text) (long : long_of word ≡ Some (n, v)) (unknown : arg_by_long app.top.rules n ≡ None) where
      pub stranger : (rows : List Row) (pending : Option (Text × List Text)) (waiting : Waiting) → turn (at rows pending waiting) word ≡ false
      unfolding clap_on_literals
      stranger rows pending idle = rw (plain, long, unknown) refl
      stranger rows pending (option i) = rw (plain, long, unknown) refl
      stranger rows pending positional = rw (plain, long, unknown) refl

    -- `-abc`
    module _ (x : ℕ) (flags : Text) (c : ℕ) (long : long_of word ≡ None) (short : short_of word ≡ Some (x ∷ flags)) (char : slice_get (chars (x ∷ flags)) 0 ≡ Some c) where
      pub bundled : (rows : List Row) (pending : Option (Text × List Text)) (waiting : Waiting) → turn (at rows pending waiting) word ≡ false
      unfolding clap_on_literals
      bundled rows pending idle = rw (plain, long, short, char, it.by_short c) refl
      bundled rows pending (option i) = rw (plain, long, short, char, it.by_short c) refl
      bundled rows pending positional = rw (plain, long, short, char, it.by_short c) refl

    -- no flag
    module _ (long : long_of word ≡ None) (short : short_of word ≡ None) (rows : List Row) where
      pub stray : (pending : Option (Text × List Text)) → turn (at rows pending idle) word ≡ false
      unfolding clap_on_literals
      stray pending = rw (plain, long, short, it.by_index 1, it.leaf) refl

      module _ (m : Text) (by_id : arg_by_id app.top.rules m ≡ Some (opt m)) where
        pub given : turn (at rows (Some (m, [])) (option m)) word ≡ true
        unfolding clap_on_literals
        given = rw (plain, long, short) refl

        pub given_walk : on (at rows (Some (m, [])) (option m)) word ≡ at rows (Some (m, word ∷ [])) idle
        unfolding clap_on_literals
        given_walk = rw (plain, long, short, by_id, same_text m) refl
