-- The printed bytes, whatever follows them, are in the grammar, as a tree that means the term. One lemma for each rule of printing.
use Rattle.std.proofs.Common.{◌≡◌, ℕ, suc, ◌+◌, ◌^◌, ◌<◌, ◌≤◌, cond, List, [], ◌∷◌, ◌++◌, length, slice_index, map, Some, None, Ok, refl, ap, ◌∙◌, arith, subst, append_assoc}
use Rattle.std.specs.Prelude.{◌==◌, codes}
use Rattle.ld_trees.specs.Term.{Term, Star, Var, App, Lam, Pi}
use Rattle.ld_terms.specs.Names.{IsTextName, level_name, is_name_byte}
use Rattle.term_syntax.specs.declared.surface.Label.{Label}
use Rattle.term_syntax.specs.declared.surface.Label.TheVariants as label
use Rattle.term_syntax.specs.declared.surface.Surface.{Surface}
use Rattle.term_syntax.specs.declared.surface.Shape.TheVariants as shape
use Rattle.term_syntax.specs.declared.kind.Kind.TheVariants as k
use Rattle.term_syntax.specs.Lex.{Text, Lexeme, lexemes}
use Rattle.term_syntax.specs.Grammar as grammar
use Rattle.term_syntax.specs.Grammar.{IsLabel, IsTerm, IsBinder, IsApp, IsAtoms, IsAtom, IsArguments, first, node}
use Rattle.term_syntax.specs.Printing.{Names, binder_text}
use Rattle.term_syntax.specs.Scoping.{Arities, Bound, Resolved, ◌>>=◌, index_of, applied, below, scope}
use Rattle.term_syntax.proofs.Sound.{product_from}
use Rattle.term_syntax.proofs.NoBinder.{app_no_binder}
use Rattle.term_syntax.proofs.ScopeEquations.{scope_star, scope_named, scope_app, scope_lam, scope_pi}
use Rattle.term_syntax.proofs.PrintedTokens.{tok, Ends, no_tail, or_false, lex_blank, lex_open, lex_close, lex_star, lex_colon, lex_arrow, lex_fat_arrow, lex_fun}
use Rattle.term_syntax.proofs.Levels.{lex_level, level_of_name}
use Rattle.term_syntax.proofs.NameTokens.{lex_name, name_kind}

-- what is known where a term is read
pub record Known : Type 0 where
  pub arity : Arities
  pub names : Names

-- what a tree means there
abbrev pub means : Known → Surface → Bound → Resolved Term
means g = scope g.arity g.names

-- The bytes, whatever comes behind them, are in the grammar, with a tree that means the term.
pub record Back (g : Known) (Q : List Lexeme → Surface → List Lexeme → Type 0) (bytes : Text) (bound : Bound) (t : Term) : Type 0 where
  pub run : (at : ℕ) (more : Text) → Ends more → (s : Surface) × (to : ℕ) × Q (lexemes at (bytes ++ more)) s (lexemes to more) × (means g s bound ≡ Ok t)

-- ---- atoms

pub star_back : (g : Known) (d : ℕ) (bound : Bound) → Back g (IsAtom d) (42 ∷ []) bound Star
star_back g d bound = record { run = λ at more e. (node at shape.Star, at + 1, rw (lex_star at more) (grammar.star refl), scope_star g.arity g.names (node at shape.Star) bound refl) }

level_label : (n at : ℕ) → n < 2 ^ 32 → IsLabel (tok k.Level at (level_name n)) (label.Level n)
level_label n at h = subst (λ m. IsLabel (tok k.Level at (level_name n)) (label.Level m)) (level_of_name n h) (grammar.level refl)

-- the label that the text of a variable spells, where levels are below a number
abbrev pub Spells : ℕ → Text → Label → Type 0
Spells n bytes (label.Plain a) = IsTextName a × (bytes ≡ a)
Spells n bytes (label.Level m) = (m < n) × (bytes ≡ level_name m)

plain_kind : (more : Text) → Ends more → name_kind (slice_index more 0) ≡ k.Name
plain_kind more e = ap (λ b. cond b k.Call k.Name) (or_false (is_name_byte (slice_index more 0)) (slice_index more 0 == 40) e).1

pub var_back : (g : Known) (d n i : ℕ) (bytes : Text) (bound : Bound) (x : Label) → n ≤ 10 ^ 9 → Spells n bytes x → index_of g.names x bound ≡ Some i → Back g (IsAtom d) bytes bound (Var i)
var_back g d n i bytes bound (label.Plain a) h is found = record {
  run = λ at more e. (
    node at (shape.Named (label.Plain a)),
    at + length a,
    rw (is.1, lex_name at a more is.0 (no_tail more e), plain_kind more e) (grammar.named (grammar.name refl)),
    scope_named g.arity g.names (node at (shape.Named (label.Plain a))) bound (label.Plain a) refl ∙ rw found refl,
  );
}
var_back g d n i bytes bound (label.Level m) h is found = record {
  run = λ at more e. (
    node at (shape.Named (label.Level m)),
    at + length (level_name m),
    rw (is.1, lex_level m at more (omega (arith, is.0)) e) (grammar.named (level_label m at (omega (arith, is.0)))),
    scope_named g.arity g.names (node at (shape.Named (label.Level m))) bound (label.Level m) refl ∙ rw found refl,
  );
}

pub paren_back : (g : Known) (d : ℕ) (bytes : Text) (bound : Bound) (t : Term) → Back g (IsTerm d) bytes bound t → Back g (IsAtom d) (40 ∷ (bytes ++ 41 ∷ [])) bound t
paren_back g d bytes bound t b = record {
  run = λ at more e.
      let x = b.run (at + 1) (41 ∷ more) refl in
      (x.0, x.1 + 1, rw (append_assoc bytes (41 ∷ []) more, lex_open at (bytes ++ 41 ∷ more)) (grammar.parentheses refl (subst (λ ls. IsTerm d (lexemes (at + 1) (bytes ++ 41 ∷ more)) x.0 ls) (lex_close x.1 more) x.2) refl), x.3);
}

-- ---- binders, abstractions and products

pub record BinderBack (g : Known) (d n : ℕ) (bytes : Text) (bound : Bound) (t : Term) : Type 0 where
  pub run : (at : ℕ) (more : Text) → (s : Surface) × (to : ℕ) × IsBinder d (lexemes at (bytes ++ more)) (label.Level n) s (lexemes to more) × (means g s bound ≡ Ok t)

binder_bytes : (n : ℕ) (a more : Text) → binder_text n a ++ more ≡ 40 ∷ (level_name n ++ (32 ∷ 58 ∷ 32 ∷ (a ++ 41 ∷ more)))
binder_bytes n a more = simp append_assoc

binder_lexes : (n at : ℕ) (rest : Text) → n < 10 ^ 9
    → lexemes at (40 ∷ (level_name n ++ (32 ∷ 58 ∷ 32 ∷ rest))) ≡ tok k.Open at (40 ∷ []) ∷ tok k.Level (at + 1) (level_name n) ∷ tok k.Colon (at + 1 + length (level_name n) + 1) (58 ∷ []) ∷ lexemes (at + 1 + length (level_name n) + 1 + 1 + 1) rest
binder_lexes n at rest h =
    lex_open at (level_name n ++ (32 ∷ 58 ∷ 32 ∷ rest))
    ∙ ap (λ ls. tok k.Open at (40 ∷ []) ∷ ls) (lex_level n (at + 1) (32 ∷ 58 ∷ 32 ∷ rest) h refl
    ∙ ap (λ ls. tok k.Level (at + 1) (level_name n) ∷ ls) (lex_blank (at + 1 + length (level_name n)) (58 ∷ 32 ∷ rest)
    ∙ lex_colon (at + 1 + length (level_name n) + 1) rest
    ∙ ap (λ ls. tok k.Colon (at + 1 + length (level_name n) + 1) (58 ∷ []) ∷ ls) (lex_blank (at + 1 + length (level_name n) + 1 + 1) rest)))

pub binder_back : (g : Known) (d n : ℕ) (bytes : Text) (bound : Bound) (t : Term) → n < 10 ^ 9 → Back g (IsTerm d) bytes bound t → BinderBack g d n (binder_text n bytes) bound t
binder_back g d n bytes bound t h b = record {
  run = λ at more.
      let from = at + 1 + length (level_name n) + 1 + 1 + 1 in
      let x = b.run from (41 ∷ more) refl in (
        x.0,
        x.1 + 1,
        rw (binder_bytes n bytes more, binder_lexes n at (bytes ++ 41 ∷ more) h)
            (grammar.binder refl (level_label n (at + 1) (omega arith)) refl (subst (λ ls. IsTerm d (lexemes from (bytes ++ 41 ∷ more)) x.0 ls) (lex_close x.1 more) x.2) refl),
        x.3,
      );
}

pub lam_back : (g : Known) (d n : ℕ) (bytes : Text) (a m : Term) (bound : Bound) (mtext : Text) → BinderBack g d n bytes bound a → Back g (IsTerm d) mtext (Some (label.Level n) ∷ bound) m
    → Back g (IsTerm (suc d)) (codes "fun " ++ (bytes ++ (codes " => " ++ mtext))) bound (Lam a m)
lam_back g d n bytes a m bound mtext b c = record {
  run = λ at more e.
      let x = b.run (at + 3 + 1) (32 ∷ 61 ∷ 62 ∷ 32 ∷ (mtext ++ more)) in
      let y = c.run (x.1 + 1 + 2 + 1) more e in
      let regroup : (codes "fun " ++ (bytes ++ (codes " => " ++ mtext))) ++ more ≡ 102 ∷ 117 ∷ 110 ∷ 32 ∷ (bytes ++ (32 ∷ 61 ∷ 62 ∷ 32 ∷ (mtext ++ more))) = simp append_assoc in
      let opening = lex_fun at (bytes ++ (32 ∷ 61 ∷ 62 ∷ 32 ∷ (mtext ++ more))) ∙ ap (λ ls. tok k.Fun at (102 ∷ 117 ∷ 110 ∷ []) ∷ ls) (lex_blank (at + 3) (bytes ++ (32 ∷ 61 ∷ 62 ∷ 32 ∷ (mtext ++ more)))) in
      let middle = lex_blank x.1 (61 ∷ 62 ∷ 32 ∷ (mtext ++ more)) ∙ lex_fat_arrow (x.1 + 1) (32 ∷ (mtext ++ more)) ∙ ap (λ ls. tok k.FatArrow (x.1 + 1) (61 ∷ 62 ∷ []) ∷ ls) (lex_blank (x.1 + 1 + 2) (mtext ++ more)) in (
        node at (shape.Lam (label.Level n) x.0 y.0),
        y.1,
        rw (regroup, opening) (grammar.abstraction refl (subst (λ ls. IsBinder d (lexemes (at + 3 + 1) (bytes ++ (32 ∷ 61 ∷ 62 ∷ 32 ∷ (mtext ++ more)))) (label.Level n) x.0 ls) middle x.2) refl y.2),
        scope_lam g.arity g.names (node at (shape.Lam (label.Level n) x.0 y.0)) bound (label.Level n) x.0 y.0 refl ∙ rw (x.3, y.3) refl,
      );
}

arrow_lexes : (at : ℕ) (z : Text) → lexemes at (32 ∷ 45 ∷ 62 ∷ 32 ∷ z) ≡ tok k.Arrow (at + 1) (45 ∷ 62 ∷ []) ∷ lexemes (at + 1 + 2 + 1) z
arrow_lexes at z = lex_blank at (45 ∷ 62 ∷ 32 ∷ z) ∙ lex_arrow (at + 1) (32 ∷ z) ∙ ap (λ ls. tok k.Arrow (at + 1) (45 ∷ 62 ∷ []) ∷ ls) (lex_blank (at + 1 + 2) z)

pub product_back : (g : Known) (d n : ℕ) (bytes : Text) (a b : Term) (bound : Bound) (btext : Text) → BinderBack g d n bytes bound a → Back g (IsTerm d) btext (Some (label.Level n) ∷ bound) b
    → Back g (IsTerm (suc d)) (bytes ++ (codes " -> " ++ btext)) bound (Pi a b)
product_back g d n bytes a b bound btext f c = record {
  run = λ at more e.
      let x = f.run at (32 ∷ 45 ∷ 62 ∷ 32 ∷ (btext ++ more)) in
      let y = c.run (x.1 + 1 + 2 + 1) more e in
      let regroup : (bytes ++ (codes " -> " ++ btext)) ++ more ≡ bytes ++ (32 ∷ 45 ∷ 62 ∷ 32 ∷ (btext ++ more)) = simp append_assoc in
      let ts = lexemes at (bytes ++ (32 ∷ 45 ∷ 62 ∷ 32 ∷ (btext ++ more))) in
      let s = node (first ts) (shape.Pi (Some (label.Level n)) x.0 y.0) in (
        s,
        y.1,
        rw regroup (product_from 0 ts (label.Level n) x.0 (lexemes x.1 (32 ∷ 45 ∷ 62 ∷ 32 ∷ (btext ++ more))) y.0 (lexemes y.1 more) (tok k.Arrow (x.1 + 1) (45 ∷ 62 ∷ [])) (lexemes (x.1 + 1 + 2 + 1) (btext ++ more)) x.2 (arrow_lexes x.1 (btext ++ more)) refl y.2),
        scope_pi g.arity g.names s bound (Some (label.Level n)) x.0 y.0 refl ∙ rw (x.3, y.3) refl,
      );
}

pub arrow_back : (g : Known) (d : ℕ) (bytes : Text) (a b : Term) (bound : Bound) (btext : Text) → Back g (IsApp d) bytes bound a → Back g (IsTerm d) btext (None ∷ bound) b
    → Back g (IsTerm (suc d)) (bytes ++ (codes " -> " ++ btext)) bound (Pi a b)
arrow_back g d bytes a b bound btext f c = record {
  run = λ at more e.
      let x = f.run at (32 ∷ 45 ∷ 62 ∷ 32 ∷ (btext ++ more)) refl in
      let y = c.run (x.1 + 1 + 2 + 1) more e in
      let regroup : (bytes ++ (codes " -> " ++ btext)) ++ more ≡ bytes ++ (32 ∷ 45 ∷ 62 ∷ 32 ∷ (btext ++ more)) = simp append_assoc in
      let ts = lexemes at (bytes ++ (32 ∷ 45 ∷ 62 ∷ 32 ∷ (btext ++ more))) in
      let s = node (first ts) (shape.Pi None x.0 y.0) in (
        s,
        y.1,
        rw regroup (grammar.arrow (app_no_binder x.2) (subst (λ ls. IsApp d ts x.0 ls) (arrow_lexes x.1 (btext ++ more)) x.2) refl y.2),
        scope_pi g.arity g.names s bound None x.0 y.0 refl ∙ rw (x.3, y.3) refl,
      );
}

-- ---- applications

abbrev pub apply : Term → List Term → Term
apply f [] = f
apply f (a ∷ us) = apply (App f a) us

applied_is : (f : Term) (us : List Term) → applied f (map (λ u. Ok u) us) ≡ Ok (apply f us)
applied_is f [] = refl
applied_is f (a ∷ us) = applied_is (App f a) us

pub means_each : (g : Known) (bound : Bound) (ys : List Surface) → below bound (map (scope g.arity g.names) ys) ≡ map (λ y. means g y bound) ys
means_each g bound [] = refl
means_each g bound (y ∷ ys) = ap (λ zs. means g y bound ∷ zs) (means_each g bound ys)

-- arguments that stand from a place on
pub record Rest (g : Known) (R : List Lexeme → Surface → List Surface → List Lexeme → Type 0) (bound : Bound) (to : ℕ) (more tail : Text) (us : List Term) : Type 0 where
  pub y : Surface
  pub ys : List Surface
  pub end : ℕ
  pub stand : R (lexemes to more) y ys (lexemes end tail)
  pub meant : map (λ y. means g y bound) (y ∷ ys) ≡ map (λ u. Ok u) us

pub record HeadBack (g : Known) (d : ℕ) (bytes : Text) (bound : Bound) (f : Term) : Type 0 where
  pub run : (at : ℕ) (more tail : Text) (us : List Term) → Ends more → ((to : ℕ) → Rest g (IsAtoms d) bound to more tail us)
      → (s : Surface) × (end : ℕ) × IsApp d (lexemes at (bytes ++ more)) s (lexemes end tail) × (means g s bound ≡ Ok (apply f us))

pub atom_head : (g : Known) (d : ℕ) (bytes : Text) (bound : Bound) (f : Term) → Back g (IsAtom d) bytes bound f → HeadBack g d bytes bound f
atom_head g d bytes bound f b = record {
  run = λ at more tail us e go.
      let x = b.run at more e in
      let c = go x.1 in
      let s = node (first (lexemes at (bytes ++ more))) (shape.App x.0 (c.y ∷ c.ys)) in (
        s,
        c.end,
        grammar.spine x.2 c.stand,
        scope_app g.arity g.names s bound x.0 (c.y ∷ c.ys) refl
            ∙ ap (λ r. r >>= (λ f. applied f (below bound (map (scope g.arity g.names) (c.y ∷ c.ys))))) x.3
            ∙ ap (λ rs. applied f rs) (means_each g bound (c.y ∷ c.ys) ∙ c.meant)
            ∙ applied_is f us,
      );
}

pub app_head : (g : Known) (d : ℕ) (fb ab : Text) (bound : Bound) (f a : Term) → HeadBack g d fb bound f → Back g (IsAtom d) ab bound a → HeadBack g d (fb ++ (32 ∷ ab)) bound (App f a)
app_head g d fb ab bound f a h b = record {
  run = λ at more tail us e go.
      let regroup : (fb ++ (32 ∷ ab)) ++ more ≡ fb ++ (32 ∷ (ab ++ more)) = append_assoc fb (32 ∷ ab) more in
      rw regroup (h.run at (32 ∷ (ab ++ more)) tail (a ∷ us) refl (λ to.
      let x = b.run (to + 1) more e in
      let c = go x.1 in
      record { y = x.0; ys = c.y ∷ c.ys; end = c.end; stand = rw (lex_blank to (ab ++ more)) (grammar.more_atoms x.2 c.stand); meant = rw (x.3, c.meant) refl }));
}

pub app_back : (g : Known) (d : ℕ) (fb ab : Text) (bound : Bound) (f a : Term) → HeadBack g d fb bound f → Back g (IsAtom d) ab bound a → Back g (IsApp d) (fb ++ (32 ∷ ab)) bound (App f a)
app_back g d fb ab bound f a h b = record {
  run = λ at more e.
      let regroup : (fb ++ (32 ∷ ab)) ++ more ≡ fb ++ (32 ∷ (ab ++ more)) = append_assoc fb (32 ∷ ab) more in
      rw regroup (h.run at (32 ∷ (ab ++ more)) more (a ∷ []) refl (λ to.
      let x = b.run (to + 1) more e in
      record { y = x.0; ys = []; end = x.1; stand = rw (lex_blank to (ab ++ more)) (grammar.last_atom x.2); meant = rw x.3 refl }));
}
