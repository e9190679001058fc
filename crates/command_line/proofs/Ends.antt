-- What the matches at the end of a parse say of the options that were given.
use Rattle.std.proofs.Common.{◌≡◌, List, [], ◌∷◌, refl, sym, ap, ◌∙◌, true, false, Bool, codes, Option, Some, None, is_some, fold, slice_get, option_map, find, option_and_then, Result, Ok, Err, inl, inr, IfOk, if◌then◌else◌}
use Rattle.std.specs.Str.{bytes_eq}
use Rattle.clap.specs.Words.{App, Text, Kinds, Row, first_of, found_of, kind_of, FailsBy, IsAmong, HasMatchesOf, fault_of, matches_of, is_simple}
use Rattle.clap.specs.Walk.{one_of, with_default, row_text}
use Rattle.clap.specs.declared.ArgMatches.{ArgMatches}
use Rattle.clap.specs.declared.error.Error.{Error}
use Rattle.clap.proofs.WalkLemmas.{first_value-rows, one_text-rows}
use Rattle.command_line.specs.Given.{Known, Given, kind_of_option, has, value}
use Rattle.command_line.specs.Parsed.{Parses}
use Rattle.command_line.proofs.Rows.{rows, row_for, row_at, rules_for, is_nil, stays, stays_missing, becomes, Agree, text_is}

abbrev pub given_at : Text → Given → Option (Text × Text)
given_at q g = find (λ x. bytes_eq x.0 q) g

given_is_by : (q : Text) (x : Text × Text) (g : Given) (y : Text × Text) (b : Bool) → bytes_eq x.0 q ≡ b → given_at q (x ∷ g) ≡ Some y → (given_at q g ≡ Some y → y.0 ≡ q) → y.0 ≡ q
given_is_by q x g y true e is ih = let same : Some x ≡ Some y = rw e at is in let here : x ≡ y = cc in ap (λ t. t.0) (sym here) ∙ text_is x.0 q e
given_is_by q x g y false e is ih = ih (rw e at is)

given_is : (q : Text) (g : Given) (y : Text × Text) → given_at q g ≡ Some y → y.0 ≡ q
given_is q [] y is = cc
given_is q (x ∷ g) y is = given_is_by q x g y (bytes_eq x.0 q) refl is (given_is q g y)

has_by : (q : Text) (x : Text × Text) (g : Given) (b : Bool) → bytes_eq x.0 q ≡ b → has q g ≡ is_some (given_at q g) → has q (x ∷ g) ≡ is_some (given_at q (x ∷ g))
has_by q x g true e ih = rw e refl
has_by q x g false e ih = rw e ih

has-given_at : (q : Text) (g : Given) → has q g ≡ is_some (given_at q g)
has-given_at q [] = refl
has-given_at q (x ∷ g) = has_by q x g (bytes_eq x.0 q) refl (has-given_at q g)

module _ (known : Known) (agree : Agree known known) where
  row_by : (q : Text) (x : Text × Text) (g : Given) (b : Bool) → bytes_eq x.0 q ≡ b → row_at q (rows known g) ≡ option_map (row_for known) (given_at q g)
      → row_at q (rows known (x ∷ g)) ≡ option_map (row_for known) (given_at q (x ∷ g))
  row_by q x g true e ih = rw e refl
  row_by q x g false e ih = rw e ih

  row_found : (q : Text) (g : Given) → row_at q (rows known g) ≡ option_map (row_for known) (given_at q g)
  row_found q [] = refl
  row_found q (x ∷ g) = row_by q x g (bytes_eq x.0 q) refl (row_found q g)

  abbrev last : Given → List Row
  last g = fold with_default (rows known g) (rules_for known)

  value_by : (q : Text) (g : Given) (o : Option (Text × Text)) → kind_of_option known q ≡ Some true → given_at q g ≡ o → first_of q (last g) ≡ option_map (λ x. x.1) o
  value_by q g None k is = ap (option_and_then (λ r. slice_get r.values 0)) (stays_missing known q k known (rows known g) agree (row_found q g ∙ ap (option_map (row_for known)) is))
  value_by q g (Some x) k is =
      let kind : kind_of_option known x.0 ≡ Some true = ap (kind_of_option known) (given_is q g x is) ∙ k in
      ap (option_and_then (λ r. slice_get r.values 0)) (stays q known (rows known g) (row_for known x) (row_found q g ∙ ap (option_map (row_for known)) is)) ∙ rw kind refl

  pub value_last : (q : Text) (g : Given) → kind_of_option known q ≡ Some true → first_of q (last g) ≡ value q g
  value_last q g k = value_by q g (given_at q g) k refl

  flag_by : (q : Text) (g : Given) (o : Option (Text × Text)) → kind_of_option known q ≡ Some false → given_at q g ≡ o → one_of q (last g) ≡ Some (if has q g then codes "true" else codes "false")
  flag_by q g None k is =
      let none : has q g ≡ false = has-given_at q g ∙ ap is_some is in
      let end = becomes q known (rows known g) k (row_found q g ∙ ap (option_map (row_for known)) is) in
      rw none (ap (option_and_then row_text) end.1 ∙ end.2)
  flag_by q g (Some x) k is =
      let kind : kind_of_option known x.0 ≡ Some false = ap (kind_of_option known) (given_is q g x is) ∙ k in
      let some : has q g ≡ true = has-given_at q g ∙ ap is_some is in
      rw some (ap (option_and_then row_text) (stays q known (rows known g) (row_for known x) (row_found q g ∙ ap (option_map (row_for known)) is)) ∙ rw kind refl)

  pub flag_last : (q : Text) (g : Given) → kind_of_option known q ≡ Some false → one_of q (last g) ≡ Some (if has q g then codes "true" else codes "false")
  flag_last q g k = flag_by q g (given_at q g) k refl

  -- the words are refused, or give these options
  abbrev pub Comes : Kinds → List Row → Option Given → Type 0
  Comes kinds found None = is_nil kinds ≡ false
  Comes kinds found (Some g) = (is_nil kinds ≡ true) × (found ≡ last g)

  among_none : (k : _) (kinds : Kinds) → IsAmong k kinds → is_nil kinds ≡ true → ⊥
  among_none k [] h e = h
  among_none k (x ∷ xs) h e = cc

  pub parses : (r : Result ArgMatches Error) (a : App) (words : List Text) (o : Option Given) → Comes (fault_of a words) (matches_of a words) o → is_simple a ≡ true
      → FailsBy (fault_of a words) r → IfOk r (HasMatchesOf a words) → Parses known o r
  parses (Ok m) a words None comes simple none matches = let no : true ≡ false = sym (ap is_nil none) ∙ comes in cc
  parses (Ok m) a words (Some g) comes simple none matches =
      let found = (matches simple).0 ∙ comes.1 in
      record {
        values = λ q k. first_value-rows (found_of m) q ∙ ap (first_of q) found ∙ value_last q g k;
        flags = λ q k. one_text-rows (found_of m) q ∙ ap (one_of q) found ∙ flag_last q g k;
      }
  parses (Err e) a words o comes simple (inl memory) matches = inl memory
  parses (Err e) a words None comes simple (inr among) matches = inr tt
  parses (Err e) a words (Some g) comes simple (inr among) matches = absurd (among_none (kind_of e) (fault_of a words) among comes.0)
