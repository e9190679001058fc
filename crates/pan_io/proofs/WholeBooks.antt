-- A book that is read piece by piece.
use Rattle.std.proofs.Common.{◌≡◌, ℕ, ◌<◌, ◌≤◌, inl, inr, List, [], ◌++◌, length, Option, Some, None, is_some, refl, sym, subst, ap, ◌∙◌, append_assoc, arith, unwrap_or}
use Rattle.std.proofs.lemmas.List.{append-nil, length-append}
use Rattle.std.specs.Io.KnownBytes.{Consumes, IsAtEnd}
use Rattle.pan_io.specs.Books.{NamedBytes, LeftAtStart}
use Rattle.pan_io.specs.Faults.{Rose}
use Rattle.pan_io.specs.Whole.{IsBook, IsLongBook, IsPartOf, GoesOn}

some_is : (xs ys : List ℕ) → Some xs ≡ Some ys → xs ≡ ys
some_is xs ys e = ap (λ o. unwrap_or o []) e

-- at its start
pub at_start : (books : Option (List NamedBytes)) (name : List ℕ) (left : Option (List ℕ)) → LeftAtStart books name left → IsPartOf books name [] left
at_start None name left l = l
at_start (Some books) name None l = absurd (cc l.1)
at_start (Some books) name (Some rest) l = (rest, refl, sym l.0)

-- after a further piece
pub further : (books : Option (List NamedBytes)) (name bytes piece : List ℕ) (left left' : Option (List ℕ)) → IsPartOf books name bytes left → Consumes left left' piece → is_some left' ≡ is_some left → IsPartOf books name (bytes ++ piece) left'
further None name bytes piece None None p c s = refl
further None name bytes piece None (Some ys) p c s = absurd (cc s)
further None name bytes piece (Some xs) left' p c s = absurd (cc p)
further (Some books) name bytes piece None left' p c s = absurd (cc p.1)
further (Some books) name bytes piece (Some xs) None p c s = absurd c
further (Some books) name bytes piece (Some xs) (Some ys) p c s = (ys, refl, p.2 ∙ ap (λ r. Some (bytes ++ r)) (sym (some_is xs p.0 p.1) ∙ c) ∙ ap Some (sym (append_assoc bytes piece ys)))

-- at its end
pub at_end : (books : Option (List NamedBytes)) (name bytes : List ℕ) (left : Option (List ℕ)) → IsPartOf books name bytes left → IsAtEnd left → IsBook books name bytes
at_end None name bytes left p e = tt
at_end (Some books) name bytes None p e = absurd (cc p.1)
at_end (Some books) name bytes (Some xs) p e = p.2 ∙ ap (λ r. Some (bytes ++ r)) (sym (some_is xs p.0 p.1) ∙ e) ∙ ap Some (append-nil bytes)

-- where the last piece has no byte
pub none_further : (left left' : Option (List ℕ)) (bytes piece : List ℕ) → Consumes left left' piece → is_some left' ≡ is_some left → piece ≡ [] → GoesOn left left' bytes bytes
none_further left left' bytes piece c s none books name p =
    subst (λ r. IsPartOf books name r left') (ap (λ r. bytes ++ r) none ∙ append-nil bytes) (further books name bytes piece left left' p c s)

-- where the pieces are longer already
pub too_long : (books : Option (List NamedBytes)) (name bytes : List ℕ) (left : Option (List ℕ)) (most : ℕ) → IsPartOf books name bytes left → most < length bytes → IsLongBook books name most
too_long None name bytes left most p l = tt
too_long (Some books) name bytes left most p l = (bytes ++ p.0, p.2, omega (arith, l, length-append bytes p.0))

-- a count that rose since later than before rose since before
pub rose_before : (before since now : ℕ) → before ≤ since → Rose since now → Rose before now
rose_before before since now l (inl r) = inl (omega (arith, l, r))
rose_before before since now l (inr most) = inr most
