use Rattle.std.proofs.Common.{◌≡◌, [], ◌∷◌, codes, None, Some, Ok, Err, refl, ◌∙◌}
use Rattle.std.specs.Prelude.{if◌then◌else◌}
use Rattle.std.specs.Fmt.{digits}
use Rattle.std.specs.Str.{bytes_eq}
use Rattle.ld_trees.specs.Term.{Star, Var}
use Rattle.term_syntax.specs.declared.scope_fault.ScopeFault.TheVariants.{UnknownName, Unsolved}
use Rattle.term_syntax.specs.declared.surface.Label.TheVariants as label
use Rattle.term_syntax.specs.declared.surface.Shape.TheVariants as shape
use Rattle.term_syntax.specs.Grammar.{node}
use Rattle.term_syntax.specs.Scoping.{scope}
use Rattle.term_syntax.proofs.ScopeEquations.{scope_star, scope_wild, scope_named, scope_const, scope_app, scope_lam, scope_pi}
use Rattle.term_syntax.proofs.round_trip.scoped_examples_compute.Goals as goal

pub returns-clause-unknown : goal.returns-clause-unknown
returns-clause-unknown c = scope_named (λ _. None) [] (node 0 (shape.Named (label.Plain (codes "y")))) [] (label.Plain (codes "y")) refl

pub returns-clause-wrong_count : goal.returns-clause-wrong_count
returns-clause-wrong_count c =
    let us = node 3 (shape.Const (codes "a") []) ∷ [] in
    scope_const (λ a. if bytes_eq a (codes "le") then Some 2 else Some 0) [] (node 0 (shape.Const (codes "le") us)) [] (codes "le") us refl

pub returns-clause-innermost : goal.returns-clause-innermost
returns-clause-innermost c =
    let x = label.Plain (codes "x") in
    let names = codes "x" ∷ [] in
    let domain : scope (λ _. None) names (node 9 (shape.Named x)) [] ≡ Ok (Var 0) = scope_named (λ _. None) names (node 9 (shape.Named x)) [] x refl in
    let body : scope (λ _. None) names (node 15 (shape.Named x)) (Some x ∷ []) ≡ Ok (Var 0) = scope_named (λ _. None) names (node 15 (shape.Named x)) (Some x ∷ []) x refl in
    scope_lam (λ _. None) names (node 0 (shape.Lam x (node 9 (shape.Named x)) (node 15 (shape.Named x)))) [] x (node 9 (shape.Named x)) (node 15 (shape.Named x)) refl ∙ rw (domain, body) refl

pub returns-clause-hole : goal.returns-clause-hole
returns-clause-hole c =
    let head : scope (λ _. None) [] (node 0 shape.Star) [] ≡ Ok Star = scope_star (λ _. None) [] (node 0 shape.Star) [] refl in
    let hole : scope (λ _. None) [] (node 2 shape.Wild) [] ≡ Err (Unsolved 2) = scope_wild (λ _. None) [] (node 2 shape.Wild) [] refl in
    scope_app (λ _. None) [] (node 0 (shape.App (node 0 shape.Star) (node 2 shape.Wild ∷ []))) [] (node 0 shape.Star) (node 2 shape.Wild ∷ []) refl ∙ rw (head, hole) refl

pub returns-clause-level : goal.returns-clause-level
returns-clause-level c = scope_named (λ _. None) (codes "A" ∷ codes "B" ∷ codes "C" ∷ []) (node 0 (shape.Named (label.Level 1))) (Some (label.Plain (codes "x")) ∷ []) (label.Level 1) refl

pub returns-clause-no_such_level : goal.returns-clause-no_such_level
unfolding digits
returns-clause-no_such_level c = scope_named (λ _. None) (codes "A" ∷ []) (node 0 (shape.Named (label.Level 1))) [] (label.Level 1) refl

pub returns-clause-label_bound : goal.returns-clause-label_bound
returns-clause-label_bound c =
    let a = label.Plain (codes "A") in
    let x = label.Level 5 in
    let names = codes "A" ∷ [] in
    let domain : scope (λ _. None) names (node 6 (shape.Named a)) [] ≡ Ok (Var 0) = scope_named (λ _. None) names (node 6 (shape.Named a)) [] a refl in
    let body : scope (λ _. None) names (node 12 (shape.Named x)) (Some x ∷ []) ≡ Ok (Var 0) = scope_named (λ _. None) names (node 12 (shape.Named x)) (Some x ∷ []) x refl in
    scope_pi (λ _. None) names (node 0 (shape.Pi (Some x) (node 6 (shape.Named a)) (node 12 (shape.Named x)))) [] (Some x) (node 6 (shape.Named a)) (node 12 (shape.Named x)) refl ∙ rw (domain, body) refl

pub returns-clause-last_of_equals : goal.returns-clause-last_of_equals
returns-clause-last_of_equals c = scope_named (λ _. None) (codes "x" ∷ codes "y" ∷ codes "x" ∷ codes "z" ∷ []) (node 0 (shape.Named (label.Plain (codes "x")))) [] (label.Plain (codes "x")) refl

pub returns-clause-below_an_arrow : goal.returns-clause-below_an_arrow
returns-clause-below_an_arrow c =
    let a = label.Plain (codes "A") in
    let names = codes "A" ∷ [] in
    let domain : scope (λ _. None) names (node 0 (shape.Named a)) [] ≡ Ok (Var 0) = scope_named (λ _. None) names (node 0 (shape.Named a)) [] a refl in
    let body : scope (λ _. None) names (node 5 (shape.Named a)) (None ∷ []) ≡ Ok (Var 1) = scope_named (λ _. None) names (node 5 (shape.Named a)) (None ∷ []) a refl in
    scope_pi (λ _. None) names (node 0 (shape.Pi None (node 0 (shape.Named a)) (node 5 (shape.Named a)))) [] None (node 0 (shape.Named a)) (node 5 (shape.Named a)) refl ∙ rw (domain, body) refl

pub returns-clause-unknown_constant : goal.returns-clause-unknown_constant
returns-clause-unknown_constant c =
    let us = node 2 (shape.Named (label.Plain (codes "y"))) ∷ [] in
    scope_const (λ _. None) [] (node 0 (shape.Const (codes "a") us)) [] (codes "a") us refl

pub returns-clause-count_first : goal.returns-clause-count_first
returns-clause-count_first c =
    let us = node 2 (shape.Named (label.Plain (codes "y"))) ∷ [] in
    scope_const (λ _. Some 0) [] (node 0 (shape.Const (codes "a") us)) [] (codes "a") us refl

pub returns-clause-argument_last : goal.returns-clause-argument_last
returns-clause-argument_last c =
    let y = label.Plain (codes "y") in
    let us = node 2 (shape.Named y) ∷ [] in
    let unknown : scope (λ _. Some 1) [] (node 2 (shape.Named y)) [] ≡ Err (UnknownName 2 (codes "y")) = scope_named (λ _. Some 1) [] (node 2 (shape.Named y)) [] y refl in
    scope_const (λ _. Some 1) [] (node 0 (shape.Const (codes "a") us)) [] (codes "a") us refl ∙ rw unknown refl
