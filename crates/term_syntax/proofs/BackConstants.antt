-- The printed bytes of a constant with its arguments are in the grammar, as a tree that means it.
use Rattle.std.proofs.Common.{◌≡◌, ℕ, ◌+◌, true, eqb, List, [], ◌∷◌, ◌++◌, length, map, Some, Ok, refl, ap, ◌∙◌, arith, subst, append_assoc}
use Rattle.std.proofs.lemmas.List.{length-map}
use Rattle.std.proofs.lemmas.Bool.Decides.{nat_tests}
use Rattle.ld_trees.specs.Term.{Term, Const, Terms, none, ◌▹◌, count}
use Rattle.ld_terms.specs.Names.{IsTextName}
use Rattle.ld_terms.specs.Views.{terms_onto}
use Rattle.term_syntax.specs.declared.surface.Shape.TheVariants as shape
use Rattle.term_syntax.specs.declared.kind.Kind.TheVariants as k
use Rattle.term_syntax.specs.Lex.{Text, lexemes}
use Rattle.term_syntax.specs.Grammar as grammar
use Rattle.term_syntax.specs.Grammar.{IsTerm, IsAtom, IsArguments, node}
use Rattle.term_syntax.specs.Scoping.{Bound, Resolved, arguments, constant, below, scope}
use Rattle.term_syntax.proofs.ScopeEquations.{scope_const}
use Rattle.term_syntax.proofs.PrintedTokens.{tok, Ends, lex_blank, lex_open, lex_close, lex_comma}
use Rattle.term_syntax.proofs.NameTokens.{lex_name}
use Rattle.term_syntax.proofs.Back.{Known, Back, Rest, means_each}

-- arguments in front of others, in order
abbrev pub before : Terms → List Term → List Term
before none vs = vs
before (us ▹ u) vs = before us (u ∷ vs)

before_count : (us : Terms) (vs : List Term) → length (before us vs) ≡ count us + length vs
before_count none vs = omega arith
before_count (us ▹ u) vs = before_count us (u ∷ vs) ∙ omega arith

before_onto : (us : Terms) (vs : List Term) → terms_onto none (before us vs) ≡ terms_onto us vs
before_onto none vs = refl
before_onto (us ▹ u) vs = before_onto us (u ∷ vs)

arguments_are : (us : Terms) (vs : List Term) → arguments us (map (λ u. Ok u) vs) ≡ Ok (terms_onto us vs)
arguments_are us [] = refl
arguments_are us (v ∷ vs) = arguments_are (us ▹ v) vs

count_tested : (m n : ℕ) → m ≡ n → eqb m n ≡ true
count_tested m n e = grind (arith, nat_tests)

constant_is : (at : ℕ) (a : Text) (us : Terms) → constant at a (Some (count us)) (map (λ u. Ok u) (before us [])) ≡ Ok (Const a us)
constant_is at a us =
    let counted : length (map {B = Resolved Term} (λ u. Ok u) (before us [])) ≡ count us = length-map (before us []) (λ u. Ok u) ∙ before_count us [] ∙ omega arith in
    rw (count_tested _ _ counted, arguments_are none (before us []) ∙ ap (λ us. Ok us) (before_onto us [])) refl

-- The bytes of arguments, at least one: what stands behind a further comma goes on with them, and what may end a term ends them.
pub record TextsBack (g : Known) (d : ℕ) (bytes : Text) (bound : Bound) (us : Terms) : Type 0 where
  pub follows : (at : ℕ) (more tail : Text) (vs : List Term) → ((to : ℕ) → Rest g (IsArguments d) bound to more tail vs) → Rest g (IsArguments d) bound at (bytes ++ (44 ∷ 32 ∷ more)) tail (before us vs)
  pub ends : (at : ℕ) (more : Text) → Ends more → Rest g (IsArguments d) bound at (bytes ++ more) more (before us [])

comma_lexes : (at : ℕ) (more : Text) → lexemes at (44 ∷ 32 ∷ more) ≡ tok k.Comma at (44 ∷ []) ∷ lexemes (at + 1 + 1) more
comma_lexes at more = lex_comma at (32 ∷ more) ∙ ap (λ ls. tok k.Comma at (44 ∷ []) ∷ ls) (lex_blank (at + 1) more)

pub one_argument : (g : Known) (d : ℕ) (bytes : Text) (bound : Bound) (u : Term) → Back g (IsTerm d) bytes bound u → TextsBack g d bytes bound (none ▹ u)
one_argument g d bytes bound u b = record {
  follows = λ at more tail vs go.
      let x = b.run at (44 ∷ 32 ∷ more) refl in
      let c = go (x.1 + 1 + 1) in
      record { y = x.0; ys = c.y ∷ c.ys; end = c.end; stand = grammar.more_arguments (subst (λ ls. IsTerm d (lexemes at (bytes ++ (44 ∷ 32 ∷ more))) x.0 ls) (comma_lexes x.1 more) x.2) refl c.stand; meant = rw (x.3, c.meant) refl };
  ends = λ at more e.
      let x = b.run at more e in
      record { y = x.0; ys = []; end = x.1; stand = grammar.last_argument x.2; meant = rw x.3 refl };
}

pub more_arguments : (g : Known) (d : ℕ) (bytes last : Text) (bound : Bound) (us : Terms) (u : Term) → TextsBack g d bytes bound us → TextsBack g d last bound (none ▹ u) → TextsBack g d (bytes ++ (44 ∷ 32 ∷ last)) bound (us ▹ u)
more_arguments g d bytes last bound us u f b = record {
  follows = λ at more tail vs go.
      rw (append_assoc bytes (44 ∷ 32 ∷ last) (44 ∷ 32 ∷ more)) (f.follows at (last ++ (44 ∷ 32 ∷ more)) tail (u ∷ vs) (λ to. b.follows to more tail vs go));
  ends = λ at more e.
      rw (append_assoc bytes (44 ∷ 32 ∷ last) more) (f.follows at (last ++ more) more (u ∷ []) (λ to. b.ends to more e));
}

call_lexes : (at : ℕ) (a z : Text) → IsTextName a → lexemes at (a ++ (40 ∷ z)) ≡ tok k.Call at a ∷ tok k.Open (at + length a) (40 ∷ []) ∷ lexemes (at + length a + 1) z
call_lexes at a z h = lex_name at a (40 ∷ z) h refl ∙ ap (λ ls. tok k.Call at a ∷ ls) (lex_open (at + length a) z)

pub bare_back : (g : Known) (d : ℕ) (a : Text) (bound : Bound) → IsTextName a → g.arity a ≡ Some 0 → Back g (IsAtom d) (a ++ (40 ∷ 41 ∷ [])) bound (Const a none)
bare_back g d a bound h known = record {
  run = λ at more e.
      let s = node at (shape.Const a []) in
      let tokens = call_lexes at a (41 ∷ more) h ∙ ap (λ ls. tok k.Call at a ∷ tok k.Open (at + length a) (40 ∷ []) ∷ ls) (lex_close (at + length a + 1) more) in (
        s,
        at + length a + 1 + 1,
        rw (append_assoc a (40 ∷ 41 ∷ []) more, tokens) (grammar.bare refl refl refl),
        scope_const g.arity g.names s bound a [] refl ∙ ap (λ n. constant at a n []) known,
      );
}

pub constant_back : (g : Known) (d : ℕ) (a bytes : Text) (bound : Bound) (us : Terms) → IsTextName a → g.arity a ≡ Some (count us) → TextsBack g d bytes bound us → Back g (IsAtom d) (a ++ (40 ∷ (bytes ++ 41 ∷ []))) bound (Const a us)
constant_back g d a bytes bound us h known f = record {
  run = λ at more e.
      let c = f.ends (at + length a + 1) (41 ∷ more) refl in
      let s = node at (shape.Const a (c.y ∷ c.ys)) in
      let regroup : (a ++ (40 ∷ (bytes ++ 41 ∷ []))) ++ more ≡ a ++ (40 ∷ (bytes ++ (41 ∷ more))) = simp append_assoc in (
        s,
        c.end + 1,
        rw (regroup, call_lexes at a (bytes ++ (41 ∷ more)) h)
            (grammar.constant refl refl (subst (λ ls. IsArguments d (lexemes (at + length a + 1) (bytes ++ (41 ∷ more))) c.y c.ys ls) (lex_close c.end more) c.stand) refl),
        scope_const g.arity g.names s bound a (c.y ∷ c.ys) refl
            ∙ ap (λ n. constant at a n (below bound (map (scope g.arity g.names) (c.y ∷ c.ys)))) known
            ∙ ap (λ rs. constant at a (Some (count us)) rs) (means_each g bound (c.y ∷ c.ys) ∙ c.meant)
            ∙ constant_is at a us,
      );
}
