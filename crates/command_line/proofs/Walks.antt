-- The walk of `clap` over any words of a leaf command whose arguments are options of one text and flags.
use Rattle.std.proofs.Common.{◌≡◌, List, [], ◌∷◌, ◌++◌, refl, ap, ◌∙◌, true, false, Bool, Option, Some, None, is_some, ◌&&◌, fold, cond, option_map}
use Rattle.std.specs.Str.{bytes_eq}
use Rattle.clap.specs.Lexer.{long_of, short_of}
use Rattle.clap.specs.Words.{App, Text, Kinds, Row}
use Rattle.clap.specs.Kinds.{or_else}
use Rattle.clap.specs.Simple.{entered}
use Rattle.clap.specs.Faults.{walk_fault, turn_fault, settle_fault, defaults_fault, check_fault, entered_fault}
use Rattle.clap.specs.Walk.{walked, Walk, idle, option, settled, has_row, arg_by_long, arg_by_id, finished, with_default}
use Rattle.clap.proofs.OnLiterals.{clap_on_literals}
use Rattle.command_line.specs.Given.{Known, Given, kind_of_option, has, options, next_value}
use Rattle.command_line.proofs.Looks.{Looks, attached, bare, unknown, bundle, plain_value, looks, not_dashes, AreWords}
use Rattle.command_line.proofs.Rows.{opt, rule_at, is_nil, or_else_assoc, nil-or_else, rows, has_rows, more_value, more_flag}
use Rattle.command_line.proofs.Turns.{IsLeaf, at, row_after, flag_after, turn, on, after, after_twice, after_walk, asks, asks_after, asks_after_walk, asks_doomed, asks_walk, asks_wanting, bundled, doomed_a, flag_value, fresh, fresh_walk, given, given_walk, set, set_after, set_after_twice, set_after_walk, set_doomed, set_twice, set_walk, set_wanting, stranger, stray, twice, wanting}

module _ (app : App) (it : IsLeaf app) where
  abbrev pub tail : Walk → Kinds
  tail w = or_else (entered_fault app w.stopped) (or_else (settle_fault app.top.rules app.top.args_override_self w.held)
      (or_else (defaults_fault (settled app.top.rules w.held).rows app.top.rules) (check_fault app.top (finished app.top.rules w.held) (is_some (entered app w.stopped)))))

  unfoldable pub total : Walk → List Text → Kinds
  total w words = or_else (walk_fault app.top [] w words) (tail (fold (walked app.top.rules []) w words))

  total-cons : (w : Walk) (word : Text) (rest : List Text) → total w (word ∷ rest) ≡ or_else (turn_fault app.top [] w word) (total (on app it w word) rest)
  unfolding total clap_on_literals
  total-cons w word rest = or_else_assoc (turn_fault app.top [] w word) (walk_fault app.top [] (on app it w word) rest) (tail (fold (walked app.top.rules []) w (word ∷ rest)))

  nil-cons : (w : Walk) (word : Text) (rest : List Text) → is_nil (total w (word ∷ rest)) ≡ (turn app it w word && is_nil (total (on app it w word) rest))
  nil-cons w word rest = ap is_nil (total-cons w word rest) ∙ nil-or_else (turn_fault app.top [] w word) (total (on app it w word) rest)

  abbrev pub ending : Walk → List Text → List Row
  ending w words = finished app.top.rules (fold (walked app.top.rules []) w words).held

  module _ (known : Known) (by_long : (n : Text) → arg_by_long app.top.rules n ≡ option_map (rule_at n) (kind_of_option known n))
      (by_id : (n : Text) → arg_by_id app.top.rules n ≡ option_map (rule_at n) (kind_of_option known n))
      (quiet : (rows : List Row) → or_else (defaults_fault rows app.top.rules) (check_fault app.top (fold with_default rows app.top.rules) false) ≡ []) where
    -- from this state the words are taken, and give these options; or they are refused
    abbrev pub Fits : Option Given → Walk → List Text → Type 0
    Fits None w words = is_nil (total w words) ≡ false
    Fits (Some g) w words = (is_nil (total w words) ≡ true) × (ending w words ≡ fold with_default (rows known g) app.top.rules)

    goes : (r : Option Given) (s next : Walk) (w : Text) (ws : List Text) → turn app it s w ≡ true → on app it s w ≡ next → Fits r next ws → Fits r s (w ∷ ws)
    goes None s next w ws t walk ih = nil-cons s w ws ∙ ap (λ b. b && is_nil (total (on app it s w) ws)) t ∙ ap (λ k. is_nil (total k ws)) walk ∙ ih
    goes (Some g) s next w ws t walk ih = (nil-cons s w ws ∙ ap (λ b. b && is_nil (total (on app it s w) ws)) t ∙ ap (λ k. is_nil (total k ws)) walk ∙ ih.0, ap (λ k. ending k ws) walk ∙ ih.1)

    stops : (s : Walk) (w : Text) (ws : List Text) → turn app it s w ≡ false → Fits None s (w ∷ ws)
    stops s w ws t = nil-cons s w ws ∙ ap (λ b. b && is_nil (total (on app it s w) ws)) t

    long_kind : (n : Text) (takes : Bool) → kind_of_option known n ≡ Some takes → arg_by_long app.top.rules n ≡ Some (rule_at n takes)
    long_kind n takes k = by_long n ∙ ap (option_map (rule_at n)) k

    long_none : (n : Text) → kind_of_option known n ≡ None → arg_by_long app.top.rules n ≡ None
    long_none n k = by_long n ∙ ap (option_map (rule_at n)) k

    id_kind : (n : Text) → kind_of_option known n ≡ Some true → arg_by_id app.top.rules n ≡ Some (opt n)
    id_kind n k = by_id n ∙ ap (option_map (rule_at n)) k

    abbrev after_none : Given → Walk
    after_none g = at (rows known g) None idle

    abbrev after_value : Given → Text → Text → Walk
    after_value g m u = at (rows known g) (Some (m, u ∷ [])) idle

    abbrev after_name : Given → Text → Walk
    after_name g m = at (rows known g) (Some (m, [])) (option m)

    end_idle : (g : Given) → Fits (Some g) (after_none g) []
    unfolding total clap_on_literals
    end_idle g = (rw (quiet (rows known g)) refl, refl)

    end_pending : (m u : Text) (g : Given) → kind_of_option known m ≡ Some true → has m g ≡ false → Fits (Some (g ++ (m, u) ∷ [])) (after_value g m u) []
    unfolding total clap_on_literals
    end_pending m u g k none =
        let e = id_kind m k in
        let first = has_rows known m g ∙ none in
        let more = more_value known m u g k none in
        let q = quiet (row_after m u (rows known g)) in
        (rw (e, first) (ap is_nil q), rw e (ap (λ l. fold with_default l app.top.rules) more))

    end_doomed : (m u : Text) (g : Given) → kind_of_option known m ≡ Some true → has m g ≡ true → Fits None (after_value g m u) []
    unfolding total clap_on_literals
    end_doomed m u g k old = rw (id_kind m k, has_rows known m g ∙ old, it.again) refl

    end_wanting : (m : Text) (g : Given) → kind_of_option known m ≡ Some true → Fits None (after_name g m) []
    unfolding total clap_on_literals
    end_wanting m g k = rw (id_kind m k) refl

    doomed_at : (m u word : Text) (ws : List Text) (g : Given) → kind_of_option known m ≡ Some true → has m g ≡ true → bytes_eq word (45 ∷ 45 ∷ []) ≡ false → Looks known word
        → Fits None (after_value g m u) (word ∷ ws)
    doomed_at m u word ws g km old is (attached n x true e o i k) = stops _ word ws (doomed_a app it word is n x e (long_kind n true k) (rows known g) m (id_kind m km) u (has_rows known m g ∙ old))
    doomed_at m u word ws g km old is (attached n x false e o i k) = stops _ word ws (flag_value app it word is n x e (long_kind n false k) (rows known g) (Some (m, u ∷ [])) idle)
    doomed_at m u word ws g km old is (bare n true e o i k) = stops _ word ws (asks_doomed app it word is n e (long_kind n true k) (rows known g) m (id_kind m km) u (has_rows known m g ∙ old))
    doomed_at m u word ws g km old is (bare n false e o i k) = stops _ word ws (set_doomed app it word is n e (long_kind n false k) (rows known g) m (id_kind m km) u (has_rows known m g ∙ old))
    doomed_at m u word ws g km old is (unknown n x e o i k) = stops _ word ws (stranger app it word is n x e (long_none n k) (rows known g) (Some (m, u ∷ [])) idle)
    doomed_at m u word ws g km old is (bundle x flags c e f char o i) = stops _ word ws (bundled app it word is x flags c e f char (rows known g) (Some (m, u ∷ [])) idle)
    doomed_at m u word ws g km old is (plain_value e f o i) = stops _ word ws (stray app it word is e f (rows known g) (Some (m, u ∷ [])))

    doomed : (m u : Text) (words : List Text) (g : Given) → kind_of_option known m ≡ Some true → has m g ≡ true → AreWords words → Fits None (after_value g m u) words
    doomed m u [] g km old are = end_doomed m u g km old
    doomed m u (w ∷ ws) g km old are = doomed_at m u w ws g km old (not_dashes w are.0) (looks known w are.0 are.1)

    -- from each state, what the rest of the words come to
    pub record Laws (words : List Text) : Type 0 where
      pub idle_law : (g : Given) → Fits (options known g words) (after_none g) words
      pub value_law : (g : Given) (m u : Text) → kind_of_option known m ≡ Some true → has m g ≡ false → Fits (options known (g ++ (m, u) ∷ []) words) (after_value g m u) words
      pub name_law : (g : Given) (m : Text) → kind_of_option known m ≡ Some true → Fits (next_value known g m words) (after_name g m) words

    abbrev no_row : (n : Text) (g : Given) (b : Bool) → has n g ≡ b → has_row n (rows known g) ≡ b
    no_row n g b e = has_rows known n g ∙ e

    -- after an option that is complete

    idle_attached : (n v word : Text) (ws : List Text) (g : Given) (b : Bool) → bytes_eq word (45 ∷ 45 ∷ []) ≡ false → long_of word ≡ Some (n, Some v) → kind_of_option known n ≡ Some true → has n g ≡ b → Laws ws
        → Fits (cond b None (options known (g ++ (n, v) ∷ []) ws)) (after_none g) (word ∷ ws)
    idle_attached n v word ws g false is e k new ih =
        goes _ _ _ word ws (fresh app it word is n v e (long_kind n true k) (rows known g) (no_row n g false new))
        (fresh_walk app it word is n v e (long_kind n true k) (rows known g) ∙ ap (λ l. at l None idle) (more_value known n v g k new)) (ih.idle_law (g ++ (n, v) ∷ []))
    idle_attached n v word ws g true is e k old ih = stops _ word ws (twice app it word is n v e (long_kind n true k) (rows known g) (no_row n g true old))

    idle_flag : (n word : Text) (ws : List Text) (g : Given) (b : Bool) → bytes_eq word (45 ∷ 45 ∷ []) ≡ false → long_of word ≡ Some (n, None) → kind_of_option known n ≡ Some false → has n g ≡ b → Laws ws
        → Fits (cond b None (options known (g ++ (n, []) ∷ []) ws)) (after_none g) (word ∷ ws)
    idle_flag n word ws g false is e k new ih =
        goes _ _ _ word ws (set app it word is n e (long_kind n false k) (rows known g) (no_row n g false new))
        (set_walk app it word is n e (long_kind n false k) (rows known g) ∙ ap (λ l. at l None idle) (more_flag known n g k new)) (ih.idle_law (g ++ (n, []) ∷ []))
    idle_flag n word ws g true is e k old ih = stops _ word ws (set_twice app it word is n e (long_kind n false k) (rows known g) (no_row n g true old))

    idle_at : (word : Text) (ws : List Text) (g : Given) → bytes_eq word (45 ∷ 45 ∷ []) ≡ false → Looks known word → Laws ws → Fits (options known g (word ∷ ws)) (after_none g) (word ∷ ws)
    idle_at word ws g is (attached n v true e o i k) ih = rw (o, k) (idle_attached n v word ws g (has n g) is e k refl ih)
    idle_at word ws g is (attached n v false e o i k) ih = rw (o, k) (stops _ word ws (flag_value app it word is n v e (long_kind n false k) (rows known g) None idle))
    idle_at word ws g is (bare n true e o i k) ih = rw (o, k) (goes _ _ _ word ws (asks app it word is n e (long_kind n true k) (rows known g)) (asks_walk app it word is n e (long_kind n true k) (rows known g)) (ih.name_law g n k))
    idle_at word ws g is (bare n false e o i k) ih = rw (o, k) (idle_flag n word ws g (has n g) is e k refl ih)
    idle_at word ws g is (unknown n x e o i k) ih = rw (o, k) (stops _ word ws (stranger app it word is n x e (long_none n k) (rows known g) None idle))
    idle_at word ws g is (bundle x flags c e f char o i) ih = rw o (stops _ word ws (bundled app it word is x flags c e f char (rows known g) None idle))
    idle_at word ws g is (plain_value e f o i) ih = rw o (stops _ word ws (stray app it word is e f (rows known g) None))

    -- after a value that is a word of its own

    module _ (m u : Text) (g : Given) (km : kind_of_option known m ≡ Some true) (first : has m g ≡ false) where
      abbrev g2 : Given
      g2 = g ++ (m, u) ∷ []

      has_after : (n : Text) (b : Bool) → has n g2 ≡ b → has_row n (row_after m u (rows known g)) ≡ b
      has_after n b e = ap (has_row n) (more_value known m u g km first) ∙ has_rows known n g2 ∙ e

      value_attached : (n v word : Text) (ws : List Text) (b : Bool) → bytes_eq word (45 ∷ 45 ∷ []) ≡ false → long_of word ≡ Some (n, Some v) → kind_of_option known n ≡ Some true → has n g2 ≡ b → Laws ws
          → Fits (cond b None (options known (g2 ++ (n, v) ∷ []) ws)) (after_value g m u) (word ∷ ws)
      value_attached n v word ws false is e k new ih =
          goes _ _ _ word ws (after app it word is n v e (long_kind n true k) (rows known g) m u (id_kind m km) (no_row m g false first) (has_after n false new))
          (after_walk app it word is n v e (long_kind n true k) (rows known g) m u (id_kind m km) (no_row m g false first)
          ∙ ap (λ l. at (row_after n v l) None idle) (more_value known m u g km first) ∙ ap (λ l. at l None idle) (more_value known n v g2 k new)) (ih.idle_law (g2 ++ (n, v) ∷ []))
      value_attached n v word ws true is e k old ih = stops _ word ws (after_twice app it word is n v e (long_kind n true k) (rows known g) m u (id_kind m km) (no_row m g false first) (has_after n true old))

      value_flag : (n word : Text) (ws : List Text) (b : Bool) → bytes_eq word (45 ∷ 45 ∷ []) ≡ false → long_of word ≡ Some (n, None) → kind_of_option known n ≡ Some false → has n g2 ≡ b → Laws ws
          → Fits (cond b None (options known (g2 ++ (n, []) ∷ []) ws)) (after_value g m u) (word ∷ ws)
      value_flag n word ws false is e k new ih =
          goes _ _ _ word ws (set_after app it word is n e (long_kind n false k) (rows known g) m (id_kind m km) u (no_row m g false first) (has_after n false new))
          (set_after_walk app it word is n e (long_kind n false k) (rows known g) m (id_kind m km) u
          ∙ ap (λ l. at (flag_after n l) None idle) (more_value known m u g km first) ∙ ap (λ l. at l None idle) (more_flag known n g2 k new)) (ih.idle_law (g2 ++ (n, []) ∷ []))
      value_flag n word ws true is e k old ih = stops _ word ws (set_after_twice app it word is n e (long_kind n false k) (rows known g) m (id_kind m km) u (no_row m g false first) (has_after n true old))

      value_at : (word : Text) (ws : List Text) → bytes_eq word (45 ∷ 45 ∷ []) ≡ false → Looks known word → Laws ws → Fits (options known g2 (word ∷ ws)) (after_value g m u) (word ∷ ws)
      value_at word ws is (attached n v true e o i k) ih = rw (o, k) (value_attached n v word ws (has n g2) is e k refl ih)
      value_at word ws is (attached n v false e o i k) ih = rw (o, k) (stops _ word ws (flag_value app it word is n v e (long_kind n false k) (rows known g) (Some (m, u ∷ [])) idle))
      value_at word ws is (bare n true e o i k) ih = rw (o, k) (goes _ _ _ word ws (asks_after app it word is n e (long_kind n true k) (rows known g) m (id_kind m km) u (no_row m g false first))
          (asks_after_walk app it word is n e (long_kind n true k) (rows known g) m (id_kind m km) u ∙ ap (λ l. at l (Some (n, [])) (option n)) (more_value known m u g km first)) (ih.name_law g2 n k))
      value_at word ws is (bare n false e o i k) ih = rw (o, k) (value_flag n word ws (has n g2) is e k refl ih)
      value_at word ws is (unknown n x e o i k) ih = rw (o, k) (stops _ word ws (stranger app it word is n x e (long_none n k) (rows known g) (Some (m, u ∷ [])) idle))
      value_at word ws is (bundle x flags c e f char o i) ih = rw o (stops _ word ws (bundled app it word is x flags c e f char (rows known g) (Some (m, u ∷ [])) idle))
      value_at word ws is (plain_value e f o i) ih = rw o (stops _ word ws (stray app it word is e f (rows known g) (Some (m, u ∷ []))))

    -- after the name of an option that takes a value

    name_value : (word : Text) (ws : List Text) (g : Given) (m : Text) (b : Bool) → bytes_eq word (45 ∷ 45 ∷ []) ≡ false → AreWords ws → long_of word ≡ None → short_of word ≡ None → kind_of_option known m ≡ Some true → has m g ≡ b → Laws ws
        → Fits (cond b None (options known (g ++ (m, word) ∷ []) ws)) (after_name g m) (word ∷ ws)
    name_value word ws g m false is are e f km new ih =
        goes _ _ _ word ws (given app it word is e f (rows known g) m (id_kind m km)) (given_walk app it word is e f (rows known g) m (id_kind m km)) (ih.value_law g m word km new)
    name_value word ws g m true is are e f km old ih =
        goes None _ _ word ws (given app it word is e f (rows known g) m (id_kind m km)) (given_walk app it word is e f (rows known g) m (id_kind m km)) (doomed m word ws g km old are)

    name_at : (word : Text) (ws : List Text) (g : Given) (m : Text) → bytes_eq word (45 ∷ 45 ∷ []) ≡ false → AreWords ws → kind_of_option known m ≡ Some true → Looks known word → Laws ws → Fits (next_value known g m (word ∷ ws)) (after_name g m) (word ∷ ws)
    name_at word ws g m is are km (attached n v true e o i k) ih = rw i (stops _ word ws (wanting app it word is n v e (long_kind n true k) (rows known g) m (id_kind m km)))
    name_at word ws g m is are km (attached n v false e o i k) ih = rw i (stops _ word ws (flag_value app it word is n v e (long_kind n false k) (rows known g) (Some (m, [])) (option m)))
    name_at word ws g m is are km (bare n true e o i k) ih = rw i (stops _ word ws (asks_wanting app it word is n e (long_kind n true k) (rows known g) m (id_kind m km)))
    name_at word ws g m is are km (bare n false e o i k) ih = rw i (stops _ word ws (set_wanting app it word is n e (long_kind n false k) (rows known g) m (id_kind m km)))
    name_at word ws g m is are km (unknown n x e o i k) ih = rw i (stops _ word ws (stranger app it word is n x e (long_none n k) (rows known g) (Some (m, [])) (option m)))
    name_at word ws g m is are km (bundle x flags c e f char o i) ih = rw i (stops _ word ws (bundled app it word is x flags c e f char (rows known g) (Some (m, [])) (option m)))
    name_at word ws g m is are km (plain_value e f o i) ih = rw i (name_value word ws g m (has m g) is are e f km refl ih)

    pub laws : (words : List Text) → AreWords words → Laws words
    laws [] are = record { idle_law = λ g. end_idle g; value_law = λ g m u km none. end_pending m u g km none; name_law = λ g m km. end_wanting m g km }
    laws (w ∷ ws) are =
        let ih = laws ws are.2 in
        let is = not_dashes w are.0 in
        let look = looks known w are.0 are.1 in
        record {
          idle_law = λ g. idle_at w ws g is look ih;
          value_law = λ g m u km none. value_at m u g km none w ws is look ih;
          name_law = λ g m km. name_at w ws g m is are.2 km look ih;
        }
