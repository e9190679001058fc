-- The arguments of a leaf command, options of one text and flags, and the rows that `clap` keeps of them.
use Rattle.std.proofs.Common.{◌≡◌, ℕ, List, [], ◌∷◌, ◌++◌, map, refl, sym, ap, ◌∙◌, true, false, Bool, codes, Option, Some, None, is_some, ◌&&◌, ◌||◌, not, fold, cond, option_map, find}
use Rattle.std.specs.Option.{option_map_or}
use Rattle.std.specs.List.{list_any}
use Rattle.std.specs.Str.{bytes_eq}
use Rattle.std.proofs.lemmas.Slice.Eq.{bytes_eq-Decides}
use Rattle.std.proofs.Common.{rules}
use Rattle.clap.specs.Words.{Text, Kinds, Rule, Row}
use Rattle.clap.specs.Kinds.{or_else}
use Rattle.clap.specs.Simple.{filled, with_index}
use Rattle.clap.specs.Faults.{defaults_fault, default_fault}
use Rattle.clap.specs.Walk.{used, has_row, with_values, without, arg_by_long, arg_by_short, arg_by_id, arg_by_index, with_default, row_text}
use Rattle.clap.specs.Takes.{is_given}
use Rattle.clap.specs.declared.builder.value_parser.Reading.TheVariants.{AsWritten}
use Rattle.clap.specs.declared.parser.matches.ValueSource.TheVariants.{CommandLine, DefaultValue}
use Rattle.clap.proofs.OnLiterals.{clap_on_literals}
use Rattle.command_line.specs.Given.{Known, Given, kind_of_option, has}
use Rattle.command_line.specs.Parsed.{option_rule, flag_rule}

abbrev pub opt : Text → Rule
opt n = with_index 1 (filled (option_rule n))

abbrev pub flag : Text → Rule
flag n = with_index 1 (filled (flag_rule n))

abbrev pub rule_at : Text → Bool → Rule
rule_at n takes = cond takes (opt n) (flag n)

abbrev pub rules_for : Known → List Rule
rules_for known = map (λ k. rule_at k.0 k.1) known

pub same_text : (n : Text) → bytes_eq n n ≡ true
same_text n = search (rules, bytes_eq-Decides)

pub text_is : (a b : Text) → bytes_eq a b ≡ true → a ≡ b
text_is a b e = search (rules, bytes_eq-Decides)

abbrev pub is_nil : Kinds → Bool
is_nil [] = true
is_nil (x ∷ xs) = false

pub or_else_assoc : (a b c : Kinds) → or_else (or_else a b) c ≡ or_else a (or_else b c)
or_else_assoc [] b c = refl
or_else_assoc (x ∷ xs) b c = refl

pub nil-or_else : (a b : Kinds) → is_nil (or_else a b) ≡ (is_nil a && is_nil b)
nil-or_else [] b = refl
nil-or_else (x ∷ xs) b = refl

-- ---- the arguments

long_by : (n name : Text) (takes b : Bool) (ks : Known) → bytes_eq name n ≡ b → arg_by_long (rules_for ks) n ≡ option_map (rule_at n) (kind_of_option ks n)
    → arg_by_long (rule_at name takes ∷ rules_for ks) n ≡ option_map (rule_at n) (kind_of_option ((name, takes) ∷ ks) n)
long_by n name true true ks e ih = rw e (ap (λ t. Some (opt t)) (text_is name n e))
long_by n name false true ks e ih = rw e (ap (λ t. Some (flag t)) (text_is name n e))
long_by n name true false ks e ih = rw e ih
long_by n name false false ks e ih = rw e ih

pub at_long : (ks : Known) (n : Text) → arg_by_long (rules_for ks) n ≡ option_map (rule_at n) (kind_of_option ks n)
at_long [] n = refl
at_long ((name, takes) ∷ ks) n = long_by n name takes (bytes_eq name n) ks refl (at_long ks n)

id_by : (n name : Text) (takes b : Bool) (ks : Known) → bytes_eq name n ≡ b → arg_by_id (rules_for ks) n ≡ option_map (rule_at n) (kind_of_option ks n)
    → arg_by_id (rule_at name takes ∷ rules_for ks) n ≡ option_map (rule_at n) (kind_of_option ((name, takes) ∷ ks) n)
id_by n name true true ks e ih = rw e (ap (λ t. Some (opt t)) (text_is name n e))
id_by n name false true ks e ih = rw e (ap (λ t. Some (flag t)) (text_is name n e))
id_by n name true false ks e ih = rw e ih
id_by n name false false ks e ih = rw e ih

pub at_id : (ks : Known) (n : Text) → arg_by_id (rules_for ks) n ≡ option_map (rule_at n) (kind_of_option ks n)
at_id [] n = refl
at_id ((name, takes) ∷ ks) n = id_by n name takes (bytes_eq name n) ks refl (at_id ks n)

pub no_short : (ks : Known) (c : ℕ) → arg_by_short (rules_for ks) c ≡ None
no_short [] c = refl
no_short ((name, true) ∷ ks) c = no_short ks c
no_short ((name, false) ∷ ks) c = no_short ks c

pub no_index : (ks : Known) (i : ℕ) → arg_by_index (rules_for ks) i ≡ None
no_index [] i = refl
no_index ((name, true) ∷ ks) i = no_index ks i
no_index ((name, false) ∷ ks) i = no_index ks i

-- ---- the rows

module _ (known : Known) where
  -- the text that `clap` keeps of an option
  abbrev pub shown : Option Bool → Text → Text
  shown kind t = option_map_or (λ takes. cond takes t (codes "true")) kind t

  abbrev pub row_for : Text × Text → Row
  row_for g = record { id = g.0; values = shown (kind_of_option known g.0) g.1 ∷ []; count = None; source = Some CommandLine; reading = AsWritten }

  abbrev pub rows : Given → List Row
  rows given = map row_for given

  pub has_rows : (n : Text) (g : Given) → has_row n (rows g) ≡ has n g
  has_rows n [] = refl
  has_rows n (x ∷ g) = ap (λ t. bytes_eq x.0 n || t) (has_rows n g)

  new_by : (n v : Text) (x : Text × Text) (g : Given) (b : Bool) → bytes_eq x.0 n ≡ b → has n (x ∷ g) ≡ false
      → (has n g ≡ false → with_values n AsWritten CommandLine (v ∷ []) (without n (rows g)) ≡ rows g ++ record { id = n; values = v ∷ []; count = None; source = Some CommandLine; reading = AsWritten } ∷ [])
      → with_values n AsWritten CommandLine (v ∷ []) (without n (rows (x ∷ g))) ≡ rows (x ∷ g) ++ record { id = n; values = v ∷ []; count = None; source = Some CommandLine; reading = AsWritten } ∷ []
  new_by n v x g true e none ih = let no = rw e at none in cc
  new_by n v x g false e none ih = rw (e, e) (ap (λ t. row_for x ∷ t) (ih (rw e at none)))

  new_row : (n v : Text) (g : Given) → has n g ≡ false → with_values n AsWritten CommandLine (v ∷ []) (without n (rows g)) ≡ rows g ++ record { id = n; values = v ∷ []; count = None; source = Some CommandLine; reading = AsWritten } ∷ []
  new_row n v [] none = refl
  new_row n v (x ∷ g) none = new_by n v x g (bytes_eq x.0 n) refl none (new_row n v g)

  rows-append : (g : Given) (n v : Text) → rows (g ++ (n, v) ∷ []) ≡ rows g ++ record { id = n; values = shown (kind_of_option known n) v ∷ []; count = None; source = Some CommandLine; reading = AsWritten } ∷ []
  rows-append [] n v = refl
  rows-append (x ∷ g) n v = ap (λ t. row_for x ∷ t) (rows-append g n v)

  pub more_value : (n v : Text) (g : Given) → kind_of_option known n ≡ Some true → has n g ≡ false → used (opt n) (v ∷ []) (rows g) ≡ rows (g ++ (n, v) ∷ [])
  more_value n v g k none = new_row n v g none ∙ sym (rw k at (rows-append g n v))

  pub more_flag : (n : Text) (g : Given) → kind_of_option known n ≡ Some false → has n g ≡ false → used (flag n) [] (rows g) ≡ rows (g ++ (n, []) ∷ [])
  more_flag n g k none = new_row n (codes "true") g none ∙ sym (rw k at (rows-append g n []))

-- ---- the defaults at the end

abbrev pub row_at : Text → List Row → Option Row
row_at q rows = find (λ r. bytes_eq r.id q) rows

has-row_at : (q : Text) (rs : List Row) → has_row q rs ≡ is_some (row_at q rs)
has-row_at q [] = refl
has-row_at q (r ∷ rs) = has_by q r rs (bytes_eq r.id q) refl (has-row_at q rs)
  where
    has_by : (q : Text) (r : Row) (rs : List Row) (b : Bool) → bytes_eq r.id q ≡ b → has_row q rs ≡ is_some (row_at q rs) → has_row q (r ∷ rs) ≡ is_some (row_at q (r ∷ rs))
    has_by q r rs true e ih = rw e refl
    has_by q r rs false e ih = rw e ih

-- a row put in under a new name
module _ (n q : Text) (how : _) (s : _) (vs : List Text) where
  put_other : (rs : List Row) → bytes_eq n q ≡ false → has_row n rs ≡ false → row_at q (with_values n how s vs rs) ≡ row_at q rs
  put_other [] e none = rw e refl
  put_other (r ∷ rs) e none = put_by r rs (bytes_eq r.id n) (bytes_eq r.id q) refl refl none (put_other rs e)
    where
      put_by : (r : Row) (rs : List Row) (b c : Bool) → bytes_eq r.id n ≡ b → bytes_eq r.id q ≡ c → has_row n (r ∷ rs) ≡ false
          → (has_row n rs ≡ false → row_at q (with_values n how s vs rs) ≡ row_at q rs) → row_at q (with_values n how s vs (r ∷ rs)) ≡ row_at q (r ∷ rs)
      put_by r rs true c f g none ih = let no = rw f at none in cc
      put_by r rs false true f g none ih = rw (f, g) refl
      put_by r rs false false f g none ih = rw (f, g) (ih (rw f at none))

  put_here : (rs : List Row) → bytes_eq n q ≡ true → has_row n rs ≡ false → row_at q (with_values n how s vs rs) ≡ Some (record { id = n; values = vs; count = None; source = Some s; reading = how })
  put_here [] e none = rw e refl
  put_here (r ∷ rs) e none = put_by r rs (bytes_eq r.id n) refl none (put_here rs e)
    where
      put_by : (r : Row) (rs : List Row) (b : Bool) → bytes_eq r.id n ≡ b → has_row n (r ∷ rs) ≡ false
          → (has_row n rs ≡ false → row_at q (with_values n how s vs rs) ≡ Some (record { id = n; values = vs; count = None; source = Some s; reading = how }))
          → row_at q (with_values n how s vs (r ∷ rs)) ≡ Some (record { id = n; values = vs; count = None; source = Some s; reading = how })
      put_by r rs true f none ih = let no = rw f at none in cc
      put_by r rs false f none ih = let other : bytes_eq r.id q ≡ false = ap (bytes_eq r.id) (sym (text_is n q e)) ∙ f in rw (f, other) (ih (rw f at none))

default_opt : (name : Text) (rs : List Row) (b : Bool) → has_row name rs ≡ b → with_default rs (opt name) ≡ rs
default_opt name rs true e = rw e refl
default_opt name rs false e = rw e refl

-- a row that is there stays
stays_flag : (q name : Text) (rs : List Row) (r : Row) (b c : Bool) → has_row name rs ≡ b → bytes_eq name q ≡ c → row_at q rs ≡ Some r → row_at q (with_default rs (flag name)) ≡ Some r
stays_flag q name rs r true c e f is = rw e is
stays_flag q name rs r false true e f is =
    let none : has_row q rs ≡ false = ap (λ t. has_row t rs) (sym (text_is name q f)) ∙ e in
    let some : has_row q rs ≡ true = has-row_at q rs ∙ ap is_some is in
    cc
stays_flag q name rs r false false e f is = rw e (put_other name q _ _ _ rs f e ∙ is)

pub stays : (q : Text) (ks : Known) (rs : List Row) (r : Row) → row_at q rs ≡ Some r → row_at q (fold with_default rs (rules_for ks)) ≡ Some r
stays q [] rs r is = is
stays q ((name, true) ∷ ks) rs r is = ap (λ l. row_at q (fold with_default l (rules_for ks))) (default_opt name rs (has_row name rs) refl) ∙ stays q ks rs r is
stays q ((name, false) ∷ ks) rs r is = stays q ks (with_default rs (flag name)) r (stays_flag q name rs r (has_row name rs) (bytes_eq name q) refl refl is)

-- an option that takes a value and was not given has no row
missing_flag : (q name : Text) (rs : List Row) (b : Bool) → has_row name rs ≡ b → bytes_eq name q ≡ false → row_at q rs ≡ None → row_at q (with_default rs (flag name)) ≡ None
missing_flag q name rs true e f is = rw e is
missing_flag q name rs false e f is = rw e (put_other name q _ _ _ rs f e ∙ is)

-- the names are distinct
abbrev pub Agree : Known → Known → Type 0
Agree known [] = Unit {0}
Agree known (k ∷ ks) = (kind_of_option known k.0 ≡ Some k.1) × Agree known ks

not_same : (known : Known) (q name : Text) (b : Bool) → kind_of_option known q ≡ Some true → kind_of_option known name ≡ Some false → bytes_eq name q ≡ b → bytes_eq name q ≡ false
not_same known q name false k l e = e
not_same known q name true k l e = let same = ap (kind_of_option known) (text_is name q e) in let no : Some true ≡ Some false = sym k ∙ sym same ∙ l in cc

pub stays_missing : (known : Known) (q : Text) → kind_of_option known q ≡ Some true → (ks : Known) (rs : List Row) → Agree known ks → row_at q rs ≡ None → row_at q (fold with_default rs (rules_for ks)) ≡ None
stays_missing known q k [] rs agree is = is
stays_missing known q k ((name, true) ∷ ks) rs agree is =
    ap (λ l. row_at q (fold with_default l (rules_for ks))) (default_opt name rs (has_row name rs) refl) ∙ stays_missing known q k ks rs agree.1 is
stays_missing known q k ((name, false) ∷ ks) rs agree is =
    stays_missing known q k ks (with_default rs (flag name)) agree.1 (missing_flag q name rs (has_row name rs) refl (not_same known q name (bytes_eq name q) k agree.0 refl) is)

-- a flag that was not given gets the text `false`
abbrev unset : Text → Row
unset n = record { id = n; values = codes "false" ∷ []; count = None; source = Some DefaultValue; reading = AsWritten }

becomes_by : (q name : Text) (takes : Bool) (ks : Known) (rs : List Row) (b : Bool) → bytes_eq name q ≡ b → kind_of_option ((name, takes) ∷ ks) q ≡ Some false → row_at q rs ≡ None
    → ((rs : List Row) → kind_of_option ks q ≡ Some false → row_at q rs ≡ None → (r : Row) × (row_at q (fold with_default rs (rules_for ks)) ≡ Some r) × (row_text r ≡ Some (codes "false")))
    → (r : Row) × (row_at q (fold with_default rs (rules_for ((name, takes) ∷ ks))) ≡ Some r) × (row_text r ≡ Some (codes "false"))
becomes_by q name true ks rs true e k is ih = let no = rw e at k in cc
becomes_by q name false ks rs true e k is ih =
    let none : has_row name rs ≡ false = has-row_at name rs ∙ ap (λ t. is_some (row_at t rs)) (text_is name q e) ∙ ap is_some is in
    (unset name, stays q ks (with_default rs (flag name)) (unset name) (rw none (put_here name q _ _ _ rs e none)), refl)
becomes_by q name true ks rs false e k is ih =
    let got = ih rs (rw e at k) is in
    (got.0, ap (λ l. row_at q (fold with_default l (rules_for ks))) (default_opt name rs (has_row name rs) refl) ∙ got.1, got.2)
becomes_by q name false ks rs false e k is ih = ih (with_default rs (flag name)) (rw e at k) (missing_flag q name rs (has_row name rs) refl e is)

pub becomes : (q : Text) (ks : Known) (rs : List Row) → kind_of_option ks q ≡ Some false → row_at q rs ≡ None
    → (r : Row) × (row_at q (fold with_default rs (rules_for ks)) ≡ Some r) × (row_text r ≡ Some (codes "false"))
becomes q [] rs k is = cc
becomes q ((name, takes) ∷ ks) rs k is = becomes_by q name takes ks rs (bytes_eq name q) refl k is (becomes q ks)

-- ---- no argument with a default that fails, and none that is required

quiet_by : (name : Text) (takes b : Bool) (rs : List Row) → has_row name rs ≡ b → default_fault rs (rule_at name takes) ≡ []
quiet_by name true true rs e = rw e refl
quiet_by name true false rs e = rw e refl
quiet_by name false true rs e = rw e refl
quiet_by name false false rs e = rw e refl

pub no_defaults : (ks : Known) (rs : List Row) → defaults_fault rs (rules_for ks) ≡ []
unfolding clap_on_literals
no_defaults [] rs = refl
no_defaults ((name, takes) ∷ ks) rs = rw (quiet_by name takes (has_row name rs) rs refl) (no_defaults ks (with_default rs (rule_at name takes)))

pub none_required : (ks : Known) (rs : List Row) → list_any (λ a. a.required && not (is_given a.id rs)) (rules_for ks) ≡ false
none_required [] rs = refl
none_required ((name, true) ∷ ks) rs = none_required ks rs
none_required ((name, false) ∷ ks) rs = none_required ks rs
