-- The parts of a node are less deep than the node.
use Rattle.std.proofs.Common.{◌≡◌, ℕ, ◌+◌, ◌*◌, ◌<◌, ◌≤◌, max, List, Option, length, get_or, ap, sym, subst, arith}
use denote.Param.Weighed.{most, at_most}
use Rattle.term_syntax.proofs.surface.Surface.TheLaws.{the_size}
use Rattle.term_syntax.specs.Lex.{Text}
use Rattle.term_syntax.specs.declared.surface.Label.{Label}
use Rattle.term_syntax.specs.declared.surface.Surface.{Surface, size_is-Surface}
use Rattle.term_syntax.specs.declared.surface.Shape.{Shape, size-Shape, size_is-Shape}
use Rattle.term_syntax.specs.declared.surface.Shape.TheVariants as shape

pub argument_falls : (us : List Surface) (i : ℕ) (u : Surface) (t : ℕ) → i < length us → u ≡ get_or us i u → 3 * most (λ x. the_size x) us + 1 ≡ t → 3 * the_size u < t
argument_falls us i u t l is d =
    let a : the_size u ≤ most (λ x. the_size x) us = subst (λ x. the_size x ≤ most (λ x. the_size x) us) (sym is) (at_most (λ x. the_size x) us i u l) in omega arith

by_shape : (x : Surface) (s : Shape) (n k : ℕ) → x.shape ≡ s → size-Shape s ≡ max k (max n 0) + 1 → n < the_size x
by_shape x s n k is e =
    let node : the_size x ≡ max 0 (max (size-Shape x.shape) 0) + 1 = size_is-Surface x in
    let same = ap size-Shape is in omega (arith, node, same, e)

app_deeper : (x f : Surface) (us : List Surface) → x.shape ≡ shape.App f us → most (λ u. the_size u) us < the_size x
app_deeper x f us is = by_shape x (shape.App f us) _ (the_size f) is (rw (shape.outs-App f us) at (size_is-Shape (shape.App f us)))

const_deeper : (x : Surface) (a : Text) (us : List Surface) → x.shape ≡ shape.Const a us → most (λ u. the_size u) us < the_size x
const_deeper x a us is = by_shape x (shape.Const a us) _ 0 is (rw (shape.outs-Const a us) at (size_is-Shape (shape.Const a us)))

pub app_falls : (x f : Surface) (us vs : List Surface) (t : ℕ) → x.shape ≡ shape.App f us → vs ≡ us → 3 * the_size x ≡ t → 3 * most (λ u. the_size u) vs + 2 < t
app_falls x f us vs t is e d = let h : most (λ u. the_size u) vs < the_size x = subst (λ z. most (λ u. the_size u) z < the_size x) (sym e) (app_deeper x f us is) in omega arith

pub const_falls : (x : Surface) (a : Text) (us vs : List Surface) (t : ℕ) → x.shape ≡ shape.Const a us → vs ≡ us → 3 * the_size x ≡ t → 3 * most (λ u. the_size u) vs + 2 < t
const_falls x a us vs t is e d = let h : most (λ u. the_size u) vs < the_size x = subst (λ z. most (λ u. the_size u) z < the_size x) (sym e) (const_deeper x a us is) in omega arith

both_deeper : (x : Surface) (s : Shape) (n k : ℕ) → x.shape ≡ s → size-Shape s ≡ max 0 (max n (max k 0)) + 1 → max n k + 1 < the_size x
both_deeper x s n k is e =
    let node : the_size x ≡ max 0 (max (size-Shape x.shape) 0) + 1 = size_is-Surface x in
    let same = ap size-Shape is in omega (arith, node, same, e)

lam_deeper : (x : Surface) (l : Label) (A M : Surface) → x.shape ≡ shape.Lam l A M → max (the_size A) (the_size M) + 1 < the_size x
lam_deeper x l A M is = both_deeper x (shape.Lam l A M) _ _ is (rw (shape.outs-Lam l A M) at (size_is-Shape (shape.Lam l A M)))

pi_deeper : (x : Surface) (l : Option Label) (A B : Surface) → x.shape ≡ shape.Pi l A B → max (the_size A) (the_size B) + 1 < the_size x
pi_deeper x l A B is = both_deeper x (shape.Pi l A B) _ _ is (rw (shape.outs-Pi l A B) at (size_is-Shape (shape.Pi l A B)))

falls_by : (x A A' M M' : Surface) (t : ℕ) → max (the_size A) (the_size M) + 1 < the_size x → A' ≡ A → M' ≡ M → 3 * the_size x ≡ t → 3 * max (the_size A') (the_size M') + 2 < t
falls_by x A A' M M' t h ea em d =
    let a = ap (λ z. the_size z) ea in
    let m = ap (λ z. the_size z) em in omega (arith, h, a, m, d)

pub lam_falls : (x : Surface) (l : Label) (A A' M M' : Surface) (t : ℕ) → x.shape ≡ shape.Lam l A M → A' ≡ A → M' ≡ M → 3 * the_size x ≡ t → 3 * max (the_size A') (the_size M') + 2 < t
lam_falls x l A A' M M' t is ea em d = falls_by x A A' M M' t (lam_deeper x l A M is) ea em d

pub pi_falls : (x : Surface) (l : Option Label) (A A' B B' : Surface) (t : ℕ) → x.shape ≡ shape.Pi l A B → A' ≡ A → B' ≡ B → 3 * the_size x ≡ t → 3 * max (the_size A') (the_size B') + 2 < t
pi_falls x l A A' B B' t is ea eb d = falls_by x A A' B B' t (pi_deeper x l A B is) ea eb d
