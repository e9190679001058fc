-- One more item, kept by its place and by its name.
use Rattle.std.proofs.Common.{◌≡◌, ◌≢◌, ℕ, ◌+◌, Bool, true, false, cond, List, [], ◌∷◌, ◌++◌, length, reverse, Some, refl, ap, sym, ◌∙◌, arith, subst}
use Rattle.std.specs.FinMap.{find, put, slice_cmp-IsAntisymmetric, nat_cmp-IsAntisymmetric}
use Rattle.std.specs.Cmp.Lexicographic.{slice_cmp}
use Rattle.std.specs.Ordering.{nat_cmp}
use Rattle.std.specs.Prelude.{slice_get}
use Rattle.std.specs.Str.{bytes_eq}
use Rattle.std.specs.declared.cmp.Ordering.TheVariants.{Equal}
use Rattle.std.proofs.lemmas.Bool.{false≢true}
use Rattle.std.proofs.lemmas.List.{reverse-append, reverse-reverse}
use Rattle.std.proofs.lemmas.Slice.Eq.{bytes_eq-Decides}
use Rattle.ld_terms.specs.Items.{item_named}
use Rattle.ld_terms.specs.declared.globals.Item.{Item}
use Rattle.shared_map.specs.Table.{numbered, table}
use Rattle.shared_map.proofs.Tables.{length-numbered, find-numbered, put_next}
use Rattle.meta_context.specs.Entered.{MayEnter, AreEntered}
use Rattle.meta_context.specs.Tables.{rows, items_in, AreIndexed}

pub rows-numbered : {X : Type 0} (k : ℕ) (xs : List X) → rows (numbered k xs) ≡ xs
rows-numbered k [] = refl
rows-numbered k (x ∷ xs) = ap (λ ys. x ∷ ys) (rows-numbered (k + 1) xs)

-- a table with one more row, the number of which is that of the rows before
pub table_push : {X : Type 0} (es : List (ℕ × X)) (n : ℕ) (x : X) → es ≡ table (rows es) → n ≡ length es → put nat_cmp n x es ≡ table (rows es ++ x ∷ [])
table_push es n x e c =
    let k : n ≡ length (rows es) = c ∙ ap (λ es. length es) e ∙ length-numbered 0 (rows es) in
    let l : n ≡ 0 + length (rows es) = omega (arith, k) in
    ap (put nat_cmp n x) e ∙ put_next 0 n x (rows es) l

pub rows_push : {X : Type 0} (es : List (ℕ × X)) (n : ℕ) (x : X) → es ≡ table (rows es) → n ≡ length es → rows (put nat_cmp n x es) ≡ rows es ++ x ∷ []
rows_push es n x e c = ap rows (table_push es n x e c) ∙ rows-numbered 0 (rows es ++ x ∷ [])

pub table_again : {X : Type 0} (es : List (ℕ × X)) (n : ℕ) (x : X) → es ≡ table (rows es) → n ≡ length es → put nat_cmp n x es ≡ table (rows (put nat_cmp n x es))
table_again es n x e c = table_push es n x e c ∙ ap table (sym (rows_push es n x e c))

pub items_push : {H : Type 0} (es : List (ℕ × Item H)) (n : ℕ) (i : Item H) → es ≡ table (rows es) → n ≡ length es → items_in (put nat_cmp n i es) ≡ i ∷ items_in es
items_push es n i e c = ap (λ xs. reverse xs) (rows_push es n i e c) ∙ reverse-append (rows es) (i ∷ [])

name_differs : (q name : List ℕ) → bytes_eq name q ≡ false → slice_cmp nat_cmp q name ≢ Equal
name_differs q name e tied =
    let same : q ≡ name = slice_cmp-IsAntisymmetric nat_cmp-IsAntisymmetric q name tied in
    false≢true (sym e ∙ (bytes_eq-Decides name q).1 (sym same))

found_push : {H : Type 0} (items : List (Item H)) (i : Item H) (named named' : List (List ℕ × Item H))
    → find (slice_cmp nat_cmp) i.name named' ≡ Some i
    → ((q : List ℕ) → slice_cmp nat_cmp q i.name ≢ Equal → find (slice_cmp nat_cmp) q named' ≡ find (slice_cmp nat_cmp) q named)
    → ((q : List ℕ) → find (slice_cmp nat_cmp) q named ≡ item_named items q)
    → (q : List ℕ) → find (slice_cmp nat_cmp) q named' ≡ item_named (i ∷ items) q
found_push items i named named' here elsewhere before q = by (bytes_eq i.name q) refl where
  by : (b : Bool) → bytes_eq i.name q ≡ b → find (slice_cmp nat_cmp) q named' ≡ cond b (Some i) (item_named items q)
  by true e = subst (λ n. find (slice_cmp nat_cmp) n named' ≡ Some i) ((bytes_eq-Decides i.name q).0 e) here
  by false e = elsewhere q (name_differs q i.name e) ∙ before q

-- the items after the one at the next place was put to both maps, where its copies equal it
module _ {H : Type 0} (places : List (ℕ × Item H)) (items : List (Item H)) (n : ℕ) (i i' : Item H) (a : places ≡ table (rows places)) (view : items_in places ≡ items) (c : n ≡ length places) (same : i' ≡ i) where
  pub items_pushed : (places' : List (ℕ × Item H)) → places' ≡ put nat_cmp n i' places → items_in places' ≡ i ∷ items
  items_pushed places' e = ap items_in e ∙ items_push places n i' a c ∙ ap (λ i. i ∷ items_in places) same ∙ ap (λ is. i ∷ is) view

pub indexed_push : {H : Type 0} (places places' : List (ℕ × Item H)) (named named' : List (List ℕ × Item H)) (items : List (Item H)) (n : ℕ) (i i' i'' : Item H) (name : List ℕ)
    → AreIndexed places named → items_in places ≡ items → MayEnter items i → n ≡ length places → i' ≡ i → i'' ≡ i' → name ≡ i.name
    → places' ≡ put nat_cmp n i' places
    → find (slice_cmp nat_cmp) name named' ≡ Some i''
    → ((q : List ℕ) → slice_cmp nat_cmp q name ≢ Equal → find (slice_cmp nat_cmp) q named' ≡ find (slice_cmp nat_cmp) q named)
    → AreIndexed places' named'
indexed_push places places' named named' items n i i' i'' name a view may c e f m is here elsewhere =
    let pushed = items_pushed places items n i i' a.numbered view c e places' is in
    let there : find (slice_cmp nat_cmp) i.name named' ≡ Some i = subst (λ m. find (slice_cmp nat_cmp) m named' ≡ Some i) m (here ∙ ap (λ x. Some x) (f ∙ e)) in
    record {
      numbered = is ∙ table_again places n i' a.numbered c ∙ ap (λ es. table (rows es)) (sym is);
      found = λ q. found_push items i named named' there (λ q d. elsewhere q (subst (λ m. slice_cmp nat_cmp q m ≢ Equal) (sym m) d)) (λ q. a.found q ∙ ap (λ is. item_named is q) view) q ∙ ap (λ is. item_named is q) (sym pushed);
      entered = subst AreEntered (sym pushed) (may, subst AreEntered view a.entered);
    }

-- ---- reading

pub row_read : {X : Type 0} (es : List (ℕ × X)) (i : ℕ) → es ≡ table (rows es) → find nat_cmp i es ≡ slice_get (rows es) i
row_read es i e = ap (find nat_cmp i) e ∙ find-numbered 0 i i (rows es) (omega arith)

pub item_read : {H : Type 0} (es : List (ℕ × Item H)) (items : List (Item H)) (i : ℕ) → es ≡ table (rows es) → items_in es ≡ items → find nat_cmp i es ≡ slice_get (reverse items) i
item_read es items i e view = row_read es i e ∙ ap (λ xs. slice_get xs i) (sym (reverse-reverse (rows es)) ∙ ap (λ is. reverse is) view)

pub decl_read : {X : Type 0} (es : List (ℕ × X)) (xs : List X) (i : ℕ) → es ≡ table (rows es) → rows es ≡ xs → find nat_cmp i es ≡ slice_get xs i
decl_read es xs i e view = row_read es i e ∙ ap (λ xs. slice_get xs i) view
