-- Each variable that is printed is found again by the label that its text spells.
use Rattle.std.proofs.Common.{◌≡◌, ℕ, zero, suc, ◌+◌, ◌-◌, ◌<◌, ◌≤◌, Bool, true, false, cond, eqb, ◌&&◌, ◌||◌, inl, inr, ◌⊎◌, [], ◌∷◌, length, Option, Some, None, refl, ap, sym, ◌∙◌, arith, subst}
use Rattle.std.specs.Prelude.{nat_lt, not}
use Rattle.std.specs.List.{list_any}
use Rattle.std.specs.Str.{bytes_eq}
use Rattle.std.proofs.lemmas.Bool.{false≢true}
use Rattle.std.proofs.lemmas.Bool.Decides.{nat_tests}
use Rattle.std.proofs.lemmas.Slice.Eq.{bytes_eq-Decides}
use Rattle.ld_trees.specs.Term.{Term, Srt, Var, App, Lam, Pi, Con, Terms, none, ◌▹◌}
use Rattle.ld_terms.specs.Names.{IsTextName, is_text_name, level_name}
use Rattle.term_syntax.specs.declared.surface.Label.{Label}
use Rattle.term_syntax.specs.declared.surface.Label.TheVariants as label
use Rattle.term_syntax.specs.Lex.{Text}
use Rattle.term_syntax.specs.Printing.{Names, entry_text, level_text, variable_text, occurs, occurs_in}
use Rattle.term_syntax.specs.Scoping.{Bound, same_label, index_named, index_at, index_of}
use Rattle.ld_trees.specs.Scoping.{Scoped, AllScoped}
use Rattle.term_syntax.proofs.PrintedTokens.{or_false}
use Rattle.term_syntax.proofs.Back.{Known, Spells}

-- ---- entries of the context

none_later : (a : Text) (names : Names) → list_any (bytes_eq a) names ≡ false → index_named a names ≡ None
none_later a [] e = refl
none_later a (name ∷ names) e = let p = or_false (bytes_eq a name) (list_any (bytes_eq a) names) e in rw (p.0, none_later a names p.1) refl

-- an entry's text is its level name, or its name, under which it is found
abbrev pub Shown : Names → ℕ → ℕ → Text → Type 0
Shown names level j bytes = (bytes ≡ level_name level) ⊎ (IsTextName bytes × (index_named bytes names ≡ Some (length names - (j + 1))))

first_shown : (name : Text) (names : Names) (level : ℕ) (a b : Bool) → is_text_name name ≡ a → list_any (bytes_eq name) names ≡ b → Shown (name ∷ names) level 0 (cond (a && not b) name (level_name level))
first_shown name names level false b ea eb = inl refl
first_shown name names level true true ea eb = inl refl
first_shown name names level true false ea eb =
    let self : bytes_eq name name ≡ true = (bytes_eq-Decides name name).1 refl in
    inr (ea, rw (none_later name names eb, self) (ap (λ (n : ℕ). Some n) (omega arith)))

found_later : (bytes name : Text) (names : Names) (i j : ℕ) → i ≡ j → index_named bytes names ≡ Some i → index_named bytes (name ∷ names) ≡ Some j
found_later bytes name names i j e h = rw h (ap (λ (n : ℕ). Some n) e)

at_first : (first : ℕ) (name : Text) (names : Names) → level_text first (name ∷ names) first ≡ entry_text first name names
at_first first name names = let t : eqb first first ≡ true = grind (arith, nat_tests) in ap (λ b. cond b (entry_text first name names) (level_text (first + 1) names first)) t

after_first : (first level : ℕ) (name : Text) (names : Names) → first < level → level_text first (name ∷ names) level ≡ level_text (first + 1) names level
after_first first level name names h = let t : eqb level first ≡ false = grind (arith, nat_tests) in ap (λ b. cond b (entry_text level name names) (level_text (first + 1) names level)) t

shown_later : (name : Text) (names : Names) (level i j : ℕ) (bytes : Text) → i + 1 ≡ j → i < length names → Shown names level i bytes → Shown (name ∷ names) level j bytes
shown_later name names level i j bytes e low (inl a) = inl a
shown_later name names level i j bytes e low (inr b) = inr (b.0, found_later bytes name names _ _ (omega arith) b.1)

pub shown : (names : Names) (first j : ℕ) → j < length names → Shown names (first + j) j (level_text first names (first + j))
shown [] first j h = absurd (omega arith)
shown (name ∷ names) first zero h =
    let e : first ≡ first + 0 = omega arith in
    subst (λ l. Shown (name ∷ names) l 0 (level_text first (name ∷ names) l)) e
    (subst (λ z. Shown (name ∷ names) first 0 z) (sym (at_first first name names)) (first_shown name names first (is_text_name name) (list_any (bytes_eq name) names) refl refl))
shown (name ∷ names) first (suc j) h =
    let e : first + 1 + j ≡ first + suc j = omega arith in
    subst (λ z. Shown (name ∷ names) (first + suc j) (suc j) z) (sym (after_first first (first + suc j) name names (omega arith)))
    (shown_later name names (first + suc j) j (suc j) _ (omega arith) (omega arith) (subst (λ l. Shown names l j (level_text (first + 1) names l)) e (shown names (first + 1) j (omega arith))))

pub beyond : (names : Names) (first level : ℕ) → first + length names ≤ level → level_text first names level ≡ level_name level
beyond [] first level h = refl
beyond (name ∷ names) first level h =
    let t : eqb level first ≡ false = grind (arith, nat_tests) in
    rw t (beyond names (first + 1) level (omega arith))

-- ---- variables below binders

-- each variable of which this is true is found by a label that its text spells
pub record IsFound (g : Known) (bound : Bound) (n i : ℕ) : Type 0 where
  pub below : i < n
  pub by : Label
  pub spelled : Spells n (variable_text g.names n i) by
  pub found : index_of g.names by bound ≡ Some i

abbrev pub Sees : Known → Bound → ℕ → (ℕ → Bool) → Type 0
Sees g bound n p = (i : ℕ) → p i ≡ true → IsFound g bound n i

or_left : (a b : Bool) → a ≡ true → (a || b) ≡ true
or_left true b e = refl
or_left false b e = absurd (false≢true e)

or_right : (a b : Bool) → b ≡ true → (a || b) ≡ true
or_right true b e = refl
or_right false b e = e

pub sees_left : (g : Known) (bound : Bound) (n : ℕ) (p q : ℕ → Bool) → Sees g bound n (λ i. p i || q i) → Sees g bound n p
sees_left g bound n p q s i o = s i (or_left (p i) (q i) o)

pub sees_right : (g : Known) (bound : Bound) (n : ℕ) (p q : ℕ → Bool) → Sees g bound n (λ i. p i || q i) → Sees g bound n q
sees_right g bound n p q s i o = s i (or_right (p i) (q i) o)

-- a label that stands for an outer variable isn't the one of a further binder
other_label : (n : ℕ) (bytes : Text) (x : Label) → Spells n bytes x → same_label x (label.Level n) ≡ false
other_label n bytes (label.Plain a) h = refl
other_label n bytes (label.Level m) h = grind (arith, nat_tests, h.0)

more_levels : (n : ℕ) (bytes : Text) (x : Label) → Spells n bytes x → Spells (n + 1) bytes x
more_levels n bytes (label.Plain a) h = h
more_levels n bytes (label.Level m) h = (omega (arith, h.0), h.1)

same_text : (g : Known) (n i : ℕ) → variable_text g.names (n + 1) (suc i) ≡ variable_text g.names n i
same_text g n i = let e : n + 1 - (suc i + 1) ≡ n - (i + 1) = omega arith in ap (λ l. level_text 0 g.names l) e

outer : (g : Known) (bound : Bound) (n i : ℕ) (y : Option Label) → ((x : Label) → Spells n (variable_text g.names n i) x → index_of g.names x bound ≡ Some i → index_of g.names x (y ∷ bound) ≡ Some (i + 1)) → IsFound g bound n i → IsFound g (y ∷ bound) (n + 1) (suc i)
outer g bound n i y step f =
    let e : i + 1 ≡ suc i = omega arith in
    record {
      below = omega (arith, f.below);
      by = f.by;
      spelled = rw (same_text g n i) (more_levels n _ f.by f.spelled);
      found = step f.by f.spelled f.found ∙ ap (λ (j : ℕ). Some j) e;
    }

-- below a binder that has the name of its level
pub sees_under : (g : Known) (bound : Bound) (n : ℕ) (p q : ℕ → Bool) → length g.names ≤ n → Sees g bound n (λ i. p i || q (i + 1)) → Sees g (Some (label.Level n) ∷ bound) (n + 1) q
sees_under g bound n p q h s zero o =
    let e : n + 1 - (0 + 1) ≡ n = omega arith in
    let t : eqb n n ≡ true = grind (arith, nat_tests) in
    record { below = omega arith; by = label.Level n; spelled = (omega arith, ap (λ l. level_text 0 g.names l) e ∙ beyond g.names 0 n (omega arith)); found = rw t refl }
sees_under g bound n p q h s (suc i) o =
    let e : suc i ≡ i + 1 = omega arith in
    outer g bound n i (Some (label.Level n)) (λ x is found. rw (other_label n _ x is, found) refl) (s i (or_right (p i) (q (i + 1)) (ap q (sym e) ∙ o)))

-- below a binder without a name, whose variable does not occur
pub sees_nameless : (g : Known) (bound : Bound) (n : ℕ) (p q : ℕ → Bool) → q 0 ≡ false → Sees g bound n (λ i. p i || q (i + 1)) → Sees g (None ∷ bound) (n + 1) q
sees_nameless g bound n p q absent s zero o = absurd (false≢true (sym absent ∙ o))
sees_nameless g bound n p q absent s (suc i) o =
    let e : suc i ≡ i + 1 = omega arith in
    outer g bound n i None (λ x is found. rw found refl) (s i (or_right (p i) (q (i + 1)) (ap q (sym e) ∙ o)))

-- ---- variables of a context

either : (a b : Bool) → (a || b) ≡ true → (a ≡ true) ⊎ (b ≡ true)
either true b e = inl refl
either false b e = inr e

mutual
  pub below_occurs : (n : ℕ) (t : Term) → Scoped n t → (i : ℕ) → occurs i t ≡ true → i < n
  below_occurs n (Srt s) h i o = absurd (false≢true o)
  below_occurs n (Var j) h i o = grind (arith, nat_tests, o, h)
  below_occurs n (App f a) h i o = elim (either (occurs i f) (occurs i a) o) [ inl e ↦ below_occurs n f h.0 i e | inr e ↦ below_occurs n a h.1 i e ]
  below_occurs n (Lam A M) h i o = elim (either (occurs i A) (occurs (i + 1) M) o) [ inl e ↦ below_occurs n A h.0 i e | inr e ↦ omega (arith, below_occurs (suc n) M h.1 (i + 1) e) ]
  below_occurs n (Pi A B) h i o = elim (either (occurs i A) (occurs (i + 1) B) o) [ inl e ↦ below_occurs n A h.0 i e | inr e ↦ omega (arith, below_occurs (suc n) B h.1 (i + 1) e) ]
  below_occurs n (Con c us) h i o = all_below_occur n us h i o

  all_below_occur : (n : ℕ) (us : Terms) → AllScoped n us → (i : ℕ) → occurs_in i us ≡ true → i < n
  all_below_occur n none h i o = absurd (false≢true o)
  all_below_occur n (us ▹ u) h i o = elim (either (occurs_in i us) (occurs i u) o) [ inl e ↦ all_below_occur n us h.0 i e | inr e ↦ below_occurs n u h.1 i e ]

index_tested : (n i : ℕ) → i < n → index_at (n - (i + 1)) n ≡ Some i
index_tested n i h =
    let t : nat_lt (n - (i + 1)) n ≡ true = grind (arith, nat_tests) in
    rw t (ap (λ (j : ℕ). Some j) (omega arith))

pub sees_context : (g : Known) (p : ℕ → Bool) → ((i : ℕ) → p i ≡ true → i < length g.names) → Sees g [] (length g.names) p
sees_context g p h i o =
    let n = length g.names in
    let low : i < n = h i o in
    let z : 0 + (n - (i + 1)) ≡ n - (i + 1) = omega arith in
    elim (shown g.names 0 (n - (i + 1)) (omega (arith, low))) [
      | inl a ↦ record { below = low; by = label.Level (n - (i + 1)); spelled = (omega (arith, low), ap (λ l. level_text 0 g.names l) (sym z) ∙ a ∙ ap level_name z); found = index_tested n i low }
      | inr b ↦ (let e : n - (n - (i + 1) + 1) ≡ i = omega (arith, low) in
          record { below = low; by = label.Plain (level_text 0 g.names (0 + (n - (i + 1)))); spelled = (b.0, ap (λ l. level_text 0 g.names l) (sym z)); found = b.1 ∙ ap (λ (j : ℕ). Some j) e })
    ]
