-- A proof in an environment whose items have names of the texts prints as a text that reads as the proof.
use Rattle.std.proofs.Common.{◌≡◌, ℕ, List, [], ◌∷◌, length, All, Bool, true, false, cond, if◌then◌else◌, ◌||◌, ◌≤◌, nat_eq, Option, None, Some, option_map, refl, sym, ap, ◌∙◌, subst, arith, inl, inr}
use Rattle.std.specs.Prelude.{nat_lt}
use Rattle.std.specs.Str.{bytes_eq}
use Rattle.std.proofs.lemmas.Bool.{eq-eqb}
use Rattle.std.proofs.lemmas.Bool.Decides.{nat_tests}
use Rattle.std.proofs.lemmas.List.Elements.{All-tail}
use Rattle.std.proofs.lemmas.Option.{same_Some}
use Rattle.std.proofs.lemmas.Slice.Eq.{bytes_eq-Decides}
use Rattle.ld_trees.specs.Term.{Term, Srt, star, square, Var, App, Lam, Pi, Con, Named, Numbered, Terms, none, ◌▹◌, count, depth, nodes}
use Rattle.ld_trees.specs.Scoping.{Scoped}
use Rattle.ld_rules.specs.Derivation.{Derives}
use Rattle.ld_rules.specs.Environment.{Item as RulesItem}
use Rattle.ld_rules.specs.Scoping.{IsKnown, Known, AllKnown}
use Rattle.ld_rules.proofs.KnownConstants.{judgements_are_scoped}
use Rattle.ld_terms.specs.Items.{item_named}
use Rattle.ld_terms.specs.Names.{IsTextName}
use Rattle.ld_terms.specs.declared.globals.Item.{Item}
use Rattle.term_syntax.specs.Printing.{text}
use Rattle.term_syntax.specs.ReadsBack.{IsReadable, AreReadable}
use Rattle.term_syntax.proofs.RoundTrip.{printed_is_read}
use Rattle.term_text.specs.Printed.{is_large, shown}
use Rattle.term_text.specs.Scoped.{arities}
use Rattle.term_text.specs.declared.print.Printed.TheVariants as printed
use Rattle.conversion.specs.Globals.{item_tree}
use Rattle.conversion.proofs.Lookups.{constant_found}
use Rattle.meta_context.specs.Plain.{rules_env}
use Rattle.meta_trees.specs.Dependencies.{occurs, occurs_in}
use Rattle.goal_state.specs.State.{HasNoMeta}
use Rattle.goal_state.proofs.Means.{count_of_context}
use Rattle.reply_text.specs.Shown.{printed_json, term_json}
use Rattle.command_set.specs.Theorems.{ShowsTerm}
use Rattle.command_set.proofs.NoSquare.{HasNoSquare, HaveNoSquare, typed_has_no_square}

-- ---- constants

named_item : (items : List (Item Term)) (a : List ℕ) (i : Item Term) → All (λ i. IsTextName i.name) items → item_named items a ≡ Some i → IsTextName a
named_item [] a i h e = absurd cc
named_item (x ∷ items) a i h e = by (λ e. named_item items a i (All-tail (λ (i : Item Term). IsTextName i.name) x items h) e) (bytes_eq x.name a) refl e where
  by : (item_named items a ≡ Some i → IsTextName a) → (b : Bool) → bytes_eq x.name a ≡ b → cond b (Some x) (item_named items a) ≡ Some i → IsTextName a
  by others true s e = subst IsTextName ((bytes_eq-Decides x.name a).0 s) (h 0 x (omega arith))
  by others false s e = others e

module _ (items : List (Item Term)) (named : All (λ i. IsTextName i.name) items) where
  -- a constant that is known has the arity of its item, and a name of the texts
  known_constant : (a : List ℕ) (n : ℕ) → IsKnown (rules_env items) (Named a) n → IsTextName a × (arities items a ≡ Some n)
  known_constant a n k = by (item_named items a) refl (sym (constant_found (λ t. t) items [] a) ∙ k.1) where
    by : (o : Option (Item Term)) → item_named items a ≡ o → option_map (item_tree (λ t. t)) o ≡ Some k.0 → IsTextName a × (arities items a ≡ Some n)
    by None s e = absurd cc
    by (Some i) s e =
        let q : item_tree (λ t. t) i ≡ k.0 = same_Some _ _ e in
        let c : length i.params ≡ n = sym (count_of_context (λ t. t) i.params) ∙ ap (λ (d : RulesItem). count d.params) q ∙ sym k.2 in
        (named_item items a i named s, ap (option_map (λ (i : Item Term). length i.params)) s ∙ ap (λ (n : ℕ). Some n) c)

  left_no : (a b : Bool) → (a || b) ≡ false → a ≡ false
  left_no false b e = refl
  left_no true b e = e

  right_no : (a b : Bool) → (a || b) ≡ false → b ≡ false
  right_no false b e = e
  right_no true b e = absurd cc

  itself : (m : ℕ) (b : Bool) → (nat_eq m m || b) ≡ false → ⊥
  itself m b e =
      let one : nat_eq m m ≡ true = eq-eqb m m refl in
      let all : (nat_eq m m || b) ≡ true = ap (λ c. c || b) one in
      cc (sym all ∙ e)

  mutual
    readable : (t : Term) → HasNoSquare t → Known (rules_env items) t → ((k : ℕ) → occurs k t ≡ false) → IsReadable (arities items) t
    readable (Srt star) s k h = tt
    readable (Srt square) s k h = absurd s
    readable (Var i) s k h = tt
    readable (App f a) s k h = (readable f s.0 k.0 (λ m. left_no (occurs m f) (occurs m a) (h m)), readable a s.1 k.1 (λ m. right_no (occurs m f) (occurs m a) (h m)))
    readable (Lam A M) s k h = (readable A s.0 k.0 (λ m. left_no (occurs m A) (occurs m M) (h m)), readable M s.1 k.1 (λ m. right_no (occurs m A) (occurs m M) (h m)))
    readable (Pi A B) s k h = (readable A s.0 k.0 (λ m. left_no (occurs m A) (occurs m B) (h m)), readable B s.1 k.1 (λ m. right_no (occurs m A) (occurs m B) (h m)))
    readable (Con (Named a) us) s k h = let c = known_constant a (count us) k.0 in (c.0, c.1, all_readable us s k.1 (λ m. h m))
    readable (Con (Numbered m) us) s k h = absurd (itself m (occurs_in m us) (h m))

    all_readable : (us : Terms) → HaveNoSquare us → AllKnown (rules_env items) us → ((k : ℕ) → occurs_in k us ≡ false) → AreReadable (arities items) us
    all_readable none s k h = tt
    all_readable (us ▹ u) s k h = (all_readable us s.0 k.0 (λ m. left_no (occurs_in m us) (occurs m u) (h m)), readable u s.1 k.1 (λ m. right_no (occurs_in m us) (occurs m u) (h m)))

  -- ---- the JSON text of a proof

  not_deep : (t : Term) → is_large t ≡ false → depth t ≤ 512
  not_deep t e =
      let small : nat_lt 512 (depth t) ≡ false = right_no (nat_lt 65536 (nodes t)) (nat_lt 512 (depth t)) e in
      grind (arith, nat_tests, small)

  pub proof_shown : (t : Term) → IsReadable (arities items) t → Scoped 0 t → ShowsTerm items t (term_json [] t)
  unfolding term_json
  proof_shown t r c = by (is_large t) refl where
    by : (b : Bool) → is_large t ≡ b → ShowsTerm items t (printed_json (if b then printed.Large (shown (depth t)) (shown (nodes t)) else printed.Text (text [] 0 t)))
    by true e = inr (e, refl)
    by false e = inl (text [] 0 t, refl, printed_is_read (arities items) [] t (omega arith) c r (not_deep t e))

  pub proof_reads : (T t : Term) → Derives (rules_env items) none t T → HasNoMeta t → Scoped 0 t → ShowsTerm items t (term_json [] t)
  proof_reads T t d h c = proof_shown t (readable t (typed_has_no_square d) (judgements_are_scoped (rules_env items) none t T d).2.1 h) c
