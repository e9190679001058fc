-- What is read is in the grammar.
use Rattle.std.proofs.Common.{◌≡◌, ◌≢◌, Bool, true, false, if◌then◌else◌, inl, inr, List, [], ◌∷◌, Ok, refl, sym, ◌∙◌}
use Rattle.std.specs.Prelude.{codes}
use Rattle.std.specs.Str.{bytes_eq}
use Rattle.std.proofs.lemmas.Slice.Eq.{bytes_eq-Decides}
use Rattle.term_syntax.specs.declared.kind.Kind.{Kind}
use Rattle.term_syntax.specs.declared.kind.Kind.TheVariants as k
use Rattle.term_syntax.specs.declared.surface.Surface.{Surface}
use Rattle.term_syntax.specs.Lex.{Text, Lexeme}
use Rattle.term_syntax.specs.Input.{Input, kind, spelling, next}
use Rattle.term_syntax.specs.Reading.{Parser, ◌>>◌, pure, take_token}
use Rattle.term_syntax.specs.Grammar.{IsTerm, max_nesting}
use Rattle.term_syntax.proofs.Progress.{ok_inj}
use Rattle.term_syntax.proofs.Sound.{takes, Means, then_means, pure_means, expect_means, weaken, done, term_sound}
use Rattle.move_text.specs.declared.moves.Move.{Move}
use Rattle.move_text.specs.declared.moves.Move.TheVariants as m
use Rattle.move_text.specs.Grammar as grammar
use Rattle.move_text.specs.Grammar.{IsWord, IsMove}
use Rattle.move_text.specs.Reading.{word_by, word, name_by, name, with_name, with_term, having, forms, form_of, form}

-- a word was next
abbrev Begins : Input → Text → Type 0
Begins i z = (w : Lexeme) × IsWord z w × (i.ahead ≡ w ∷ (next i).ahead)

word_at : (t : Kind) (i : Input) (z : Text) → z ≢ [] → kind i ≡ t → word_by t (spelling i) ≡ z → Begins i z
word_at k.Name i z some is e = let got = takes i k.Name (λ h. cc) is in (got.0, record { kind = inl got.1.kind; text = sym got.1.text ∙ e }, got.1.ahead)
word_at k.Call i z some is e = let got = takes i k.Call (λ h. cc) is in (got.0, record { kind = inr got.1.kind; text = sym got.1.text ∙ e }, got.1.ahead)
word_at _ i z some is e = absurd (some (sym e))

-- a plain name was taken
abbrev TookName : Input → Text → Input → Type 0
TookName i x j = (n : Lexeme) × (n.kind ≡ k.Name) × (x ≡ n.text) × (i.ahead ≡ n ∷ j.ahead)

name_by_sound : (t : Kind) (i : Input) (x : Text) (j : Input) → kind i ≡ t → name_by t i ≡ Ok (x, j) → TookName i x j
name_by_sound k.Name i x j is e =
    let got = takes i k.Name (λ h. cc) is in
    done (TookName i) (spelling i) (next i) x j (ok_inj (spelling i, next i) (x, j) e) (got.0, got.1.kind, got.1.text, got.1.ahead)
name_by_sound k.Call i x j is e = cc e
name_by_sound _ i x j is e = cc

name_means : Means name TookName
unfolding name
name_means = record { run = λ i x j e. name_by_sound (kind i) i x j refl e }

-- what follows a word makes a move with it
record SoundForm (f : Text × Parser Move) : Type 0 where
  some : f.0 ≢ []
  means : Means f.1 (λ i move j. (w : Lexeme) → IsWord f.0 w → IsMove (w ∷ i.ahead) move j.ahead)

abbrev AllSound : List (Text × Parser Move) → Type 0
AllSound [] = Unit {0}
AllSound (f ∷ fs) = SoundForm f × AllSound fs

-- the move behind a word, from its parts
abbrev Makes : Text → Input → Move → Input → Type 0
Makes z i move j = (w : Lexeme) → IsWord z w → IsMove (w ∷ i.ahead) move j.ahead

name_sound : (z : Text) (c : Text → Move) → z ≢ [] → ((w n : Lexeme) (rest : List Lexeme) → IsWord z w → n.kind ≡ k.Name → IsMove (w ∷ n ∷ rest) (c n.text) rest) → SoundForm (with_name z c)
name_sound z c some made = record {
  some = some;
  means = weaken _ (then_means name_means (λ x. pure_means (c x))) (λ i move j (x, i1, (n, kn, en, an), same).
      done (Makes z i) (c x) i1 move j same (λ w is. rw (an, en) (made w n i1.ahead is kn)));
}

term_sounds : (z : Text) (c : Surface → Move) → z ≢ [] → ((w : Lexeme) (ts rest : List Lexeme) (t : Surface) → IsWord z w → IsTerm max_nesting ts t rest → IsMove (w ∷ ts) (c t) rest) → SoundForm (with_term z c)
term_sounds z c some made = record {
  some = some;
  means = weaken _ (then_means (term_sound 512) (λ t. pure_means (c t))) (λ i move j (t, i1, is, same).
      done (Makes z i) (c t) i1 move j same (λ w iw. made w i.ahead i1.ahead t iw is));
}

have_sound : SoundForm (codes "have", having)
have_sound = record {
  some = λ h. cc;
  means = weaken _ (then_means name_means (λ x. then_means (expect_means k.Colon (λ h. cc)) (λ _. then_means (term_sound 512) (λ t. pure_means (m.Have x t)))))
      (λ i move j (x, i1, (n, kn, en, an), (u, i2, (c, tc), (t, i3, is, same))).
      done (Makes (codes "have") i) (m.Have x t) i3 move j same (λ w iw. rw (an, en, tc.ahead) (grammar.have iw kn tc.kind is)));
}

assumption_sound : SoundForm (codes "assumption", pure m.Assumption)
assumption_sound = record {
  some = λ h. cc;
  means = weaken _ (pure_means m.Assumption) (λ i move j same. done (Makes (codes "assumption") i) m.Assumption i move j same (λ w iw. grammar.assumption iw));
}

all_sound : AllSound forms
all_sound = (
  name_sound (codes "intro") m.Intro (λ h. cc) (λ w n rest is e. grammar.intro is e),
  (
    term_sounds (codes "apply") m.Apply (λ h. cc) (λ w ts rest t is h. grammar.apply is h),
    (
      term_sounds (codes "exact") m.Exact (λ h. cc) (λ w ts rest t is h. grammar.exact is h),
      (
        term_sounds (codes "refine") m.Refine (λ h. cc) (λ w ts rest t is h. grammar.refine is h),
        (
          have_sound,
          (
            assumption_sound,
            (
              term_sounds (codes "change") m.Change (λ h. cc) (λ w ts rest t is h. grammar.change is h),
              (
                name_sound (codes "unfold") m.Unfold (λ h. cc) (λ w n rest is e. grammar.«unfold» is e),
                tt,
              ),
            ),
          ),
        ),
      ),
    ),
  ),
)

one_form : (i : Input) (f : Text × Parser Move) (fs : List (Text × Parser Move)) → SoundForm f → (move : Move) (j : Input) → (form_of (word i) fs i ≡ Ok (move, j) → IsMove i.ahead move j.ahead)
    → (b : Bool) → bytes_eq (word i) f.0 ≡ b → (if b then (take_token >> f.1) else form_of (word i) fs) i ≡ Ok (move, j) → IsMove i.ahead move j.ahead
one_form i f fs h move j others true is e =
    let w = word_at (kind i) i f.0 h.some refl ((bytes_eq-Decides (word i) f.0).0 is) in
    rw w.2 (h.means.run (next i) move j e w.0 w.1)
one_form i f fs h move j others false is e = others e

form_of_sound : (i : Input) (fs : List (Text × Parser Move)) → AllSound fs → (move : Move) (j : Input) → form_of (word i) fs i ≡ Ok (move, j) → IsMove i.ahead move j.ahead
form_of_sound i [] h move j e = cc e
form_of_sound i (f ∷ fs) h move j e = one_form i f fs h.0 move j (λ e. form_of_sound i fs h.1 move j e) (bytes_eq (word i) f.0) refl e

pub form_sound : Means form (λ i move j. IsMove i.ahead move j.ahead)
unfolding form
form_sound = record { run = λ i move j e. form_of_sound i forms all_sound move j e }
