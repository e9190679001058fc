-- Rows of a store.
use Rattle.std.proofs.Common.{◌≡◌, ℕ, ◌<◌, List, [], ◌∷◌, length, ap, sym, ◌∙◌, arith, get_or, Some, subst, Bor}
use Rattle.std.specs.Prelude.{Option, None, option_copied, IsSome, slice_get, refl, zero, suc}
use Rattle.ld_terms.specs.declared.tree_terms.Entry.{Entry}
use Rattle.ld_terms.specs.declared.node.Node.TheVariants.{Star}
use Rattle.ld_trees.specs.Term.{Term}
use Rattle.ld_terms.specs.Nodes.{tree_at}
use Rattle.ld_terms.specs.Sizes.{IsSize}
use Rattle.ld_terms.specs.declared.node.Place.{Place}
use Rattle.ld_terms.specs.declared.size.Size.{Size}
use Rattle.term_store.specs.Hashed.{AreSizesBelow}

get_there : (xs : List Entry) (i : ℕ) (d : Entry) → i < length xs → slice_get xs i ≡ Some (get_or xs i d)
get_there [] i d lt = absurd (omega arith)
get_there (x ∷ xs) zero d lt = refl
get_there (x ∷ xs) (suc i) d lt = get_there xs i d (omega arith)

is_there : {X : Type 0} (r : Option (Bor X)) (x : X) → option_copied r ≡ Some x → IsSome r
is_there None x e = absurd (cc)
is_there (Some y) x e = refl

some_entry : Entry
some_entry = record { node = Star; size = record { nodes = 0; depth = 0 } }

pub there : (rows : List Entry) (i : ℕ) (r : Option (Bor Entry)) → i < length rows → option_copied r ≡ slice_get rows i → IsSome r
there rows i r lt e = is_there r _ (e ∙ get_there rows i some_entry lt)

pub read_row : (rows : List Entry) (i : ℕ) (r : Option (Bor Entry)) (x : Bor Entry) → i < length rows → option_copied r ≡ slice_get rows i → r ≡ Some x → x.now ≡ get_or rows i x.now
read_row rows i r x lt e s =
    let m : Some x.now ≡ Some (get_or rows i x.now) = ap option_copied (sym s) ∙ e ∙ get_there rows i x.now lt in
    cc

-- the size that is read from a row is that of the tree there
pub size_at : (k : ℕ) (ts : List Term) (rows : List Entry) (p : Place) (e : Entry) (z : Size) → AreSizesBelow k ts rows → p.0 < k → e ≡ get_or rows p.0 e → z ≡ e.size → IsSize (tree_at ts p) z
size_at k ts rows p e z s lt is eq = rw eq (subst (λ (d : Entry). IsSize (tree_at ts p) d.size) (sym is) (s.each p.0 e lt))
