-- A hashed store, and a further node.
use Rattle.std.proofs.Common.{◌≡◌, ◌≢◌, ℕ, ◌+◌, ◌<◌, ◌≤◌, List, [], ◌∷◌, ◌++◌, length, refl, ap, sym, ◌∙◌, arith, get_or, take, Some, None, cond, subst, ◌⊎◌, inl, inr, length-append}
use Rattle.std.specs.Prelude.{true, false, is_some, min, Result, Ok, Err, IfErr}
use Rattle.std.proofs.lemmas.Grind.{common_steps}
use Rattle.std.proofs.lemmas.Cmp.{tied_itself}
use Rattle.std.proofs.lemmas.List.{length-take, length-take-le, take_all}
use Rattle.std.specs.FinMap.{find, put, is_sorted, IsAntisymmetric}
use Rattle.std.specs.FinMap.Entries.{find-put, length-put}
use Rattle.std.specs.Ordering.{eq_by_cmp, is_eq}
use Rattle.std.specs.Cmp.{IsTotalOrder}
use Rattle.std.specs.declared.cmp.Ordering.{Ordering}
use Rattle.std.specs.declared.cmp.Ordering.TheVariants.{Less, Equal, Greater}
use Rattle.ld_terms.specs.Nodes.{tree_over, trees_of, AreOrdered, IsBelow, tree_at, IsPlace, tree_of_place}
use Rattle.ld_terms.specs.Sizes.{IsSize}
use Rattle.ld_terms.specs.Entries.{nodes_in}
use Rattle.ld_terms.specs.declared.node.Node.{Node}
use Rattle.ld_terms.specs.declared.node.Node.TheVariants.{Star}
use Rattle.ld_terms.specs.declared.node.Place.{Place}
use Rattle.ld_terms.specs.declared.size.Size.{Size}
use Rattle.ld_terms.specs.declared.tree_terms.Entry.{Entry}
use Rattle.ld_terms.proofs.EntryLaws.{entries_push, entry_at, nodes_in-push, length-nodes_in}
use Rattle.term_store.specs.Hashed.{entries_of, nodes_of, AreKnown, AreSizesBelow, IsHashed}
use Rattle.term_store.proofs.Rows.{size_at}
use Rattle.term_store.proofs.Distinct.{IsOnce, tree_here}

same_place : (p q : Place) → Some p ≡ Some q → p ≡ q
same_place p q e = cc

place_is : (p : Place) (i : ℕ) → p.0 ≡ i → Some p ≡ Some (record { 0 = i })
place_is p i e = ap (λ (n : ℕ). let r : Place = record { 0 = n } in Some r) e

last_or : (i n : ℕ) → i < n + 1 → (i < n) ⊎ (i ≡ n)
last_or i n h = grind arith

not_none : (p : Place) → Some p ≢ None
not_none p e = absurd (cc)

take_get : (xs : List Entry) (n i : ℕ) (d : Entry) → i < n → n ≤ length xs → get_or (take n xs) i d ≡ get_or xs i d
take_get xs n i d lt le = grind (arith, common_steps)

-- a list that begins as another one does is as long as that beginning
as_long : (xs ys : List Entry) (n : ℕ) → n ≤ length xs → take n ys ≡ take n xs → n ≤ length ys
as_long xs ys n le e =
    let k : length (take n ys) ≡ n = ap length e ∙ length-take-le n xs le in
    let m : length (take n ys) ≡ min n (length ys) = length-take n ys in
    omega (arith, k, m)

is_equal : (o : Ordering) → is_eq o ≡ true → o ≡ Equal
is_equal Less e = absurd (cc)
is_equal Equal e = refl
is_equal Greater e = absurd (cc)

-- what holds anyhow holds of an error
pub of_error : {T E : Type 0} → (r : Result T E) (P : E → Type 0) → ((y : E) → P y) → IfErr r P
of_error (Ok x) P h = tt
of_error (Err y) P h = h y

module _ (R : Node → Node → Ordering) where
  pub once_of : (ids : List (Node × Place)) (ns : List Node) → AreKnown R ids ns → IsOnce ns
  once_of ids ns h = record {
    at = λ i j d a b e.
        ap (λ (p : Place). p.0) (same_place (record { 0 = i }) (record { 0 = j }) (sym (h.known i d a) ∙ ap (λ n. find R n ids) e ∙ h.known j d b));
  }

  pub found : (ids : List (Node × Place)) (ns : List Node) (n : Node) (p : Place) → AreKnown R ids ns → AreOrdered 0 ns → Some p ≡ find R n ids →
      IsPlace ns p × (tree_over (trees_of ns) n ≡ tree_of_place ns p)
  unfolding IsPlace tree_of_place
  found ids ns n p h o e =
      let k = h.once n Star p (sym e) in
      let t = (tree_here ns p o k.0).0 in
      (k.0, ap (tree_over (trees_of ns)) (sym k.1) ∙ t)

  pub length-entries : (ids : List (Node × Place)) (rows : List Entry) → IsHashed R ids rows → length (entries_of ids rows) ≡ length ids
  length-entries ids rows h = length-take-le (length ids) rows h.enough

  pub length-nodes : (ids : List (Node × Place)) (rows : List Entry) → IsHashed R ids rows → length (nodes_of ids rows) ≡ length ids
  length-nodes ids rows h = length-nodes_in (entries_of ids rows) ∙ length-entries ids rows h

  -- a row that counts is an entry
  pub entry_of_row : (ids : List (Node × Place)) (rows : List Entry) (i : ℕ) (e : Entry) → IsHashed R ids rows → i < length ids → e ≡ get_or rows i e → e ≡ get_or (entries_of ids rows) i e
  entry_of_row ids rows i e h lt is = is ∙ sym (take_get rows (length ids) i e lt h.enough)

  -- the rows that count have the sizes of their trees
  pub sizes_below : (ids : List (Node × Place)) (rows : List Entry) → IsHashed R ids rows → AreSizesBelow (length ids) (trees_of (nodes_of ids rows)) rows
  sizes_below ids rows h = record {
    each = λ i d lt. rw (← take_get rows (length ids) i d lt h.enough) (h.entries.sizes.each i d (omega (arith, length-entries ids rows h)));
  }

  -- what a row says of its place
  pub row_within : (ids : List (Node × Place)) (rows : List Entry) (ns : List Node) (i : ℕ) → IsHashed R ids rows → nodes_of ids rows ≡ ns → i < length ns → i < length rows
  row_within ids rows ns i h v lt =
      let k : length (nodes_of ids rows) ≡ length ns = ap length v in
      omega (arith, length-nodes ids rows h, h.enough)

  pub row_read : (ids : List (Node × Place)) (rows : List Entry) (ns : List Node) (p : Place) (e : Entry) → IsHashed R ids rows → nodes_of ids rows ≡ ns → p.0 < length ns → e ≡ get_or rows p.0 e →
      (tree_over (trees_of ns) e.node ≡ tree_of_place ns p) × IsBelow (length ns) e.node
  row_read ids rows ns p e h v lt is =
      let k : length (nodes_of ids rows) ≡ length ns = ap length v in
      entry_at (entries_of ids rows) ns p e v h.entries lt (entry_of_row ids rows p.0 e h (omega (arith, length-nodes ids rows h)) is)

  pub size_read : (ids : List (Node × Place)) (rows : List Entry) (ns : List Node) (p : Place) (e : Entry) (z : Size) → IsHashed R ids rows → nodes_of ids rows ≡ ns → p.0 < length ns → e ≡ get_or rows p.0 e → z ≡ e.size →
      IsSize (tree_of_place ns p) z
  unfolding IsPlace tree_of_place
  size_read ids rows ns p e z h v lt is eq =
      let k : length (nodes_of ids rows) ≡ length ns = ap length v in
      subst (λ (ns : List Node). IsSize (tree_at (trees_of ns) p) z) v (size_at (length ids) (trees_of (nodes_of ids rows)) rows p e z (sizes_below ids rows h) (omega (arith, length-nodes ids rows h)) is eq)

  -- other rows behind those that count change no node
  pub hashed_same : (ids : List (Node × Place)) (rows later : List Entry) → IsHashed R ids rows → take (length ids) later ≡ take (length ids) rows →
      IsHashed R ids later × (nodes_of ids later ≡ nodes_of ids rows)
  hashed_same ids rows later h same = (
    record {
      enough = as_long rows later (length ids) h.enough same;
      entries = rw same h.entries;
      places = rw same h.places;
    },
    ap nodes_in same,
  )

  module _ (o : IsTotalOrder R) (exact : IsAntisymmetric R) where
    module _ (ids : List (Node × Place)) (ns : List Node) (m : Node) (p : Place) (h : AreKnown R ids ns) (new : find R m ids ≡ None) (at : p.0 ≡ length ns) where
      known' : (i : ℕ) (d : Node) → i < length ns + 1 → find R (get_or (ns ++ m ∷ []) i d) (put R m p ids) ≡ Some (record { 0 = i })
      known' i d lt =
          elim (last_or i (length ns) lt) [
            | inl a ↦
                let g : get_or (ns ++ m ∷ []) i d ≡ get_or ns i d = grind (arith, common_steps) in
                rw g (find-put R o (get_or ns i d) m p ids
                ∙ elim (eq_by_cmp R (get_or ns i d) m) as (λ b. eq_by_cmp R (get_or ns i d) m ≡ b → cond b (Some p) (find R (get_or ns i d) ids) ≡ Some (record { 0 = i })) [
                  | true ↦ λ t. absurd (not_none (record { 0 = i }) (sym (h.known i d a) ∙ ap (λ n. find R n ids) (exact _ _ (is_equal _ t)) ∙ new))
                  | false ↦ λ t. h.known i d a
                ] refl)
            | inr a ↦
                let g : get_or (ns ++ m ∷ []) i d ≡ m = grind (arith, common_steps) in
                rw g (find-put R o m m p ids ∙ ap (λ r. cond (is_eq r) (Some p) (find R m ids)) (tied_itself o m) ∙ place_is p i (at ∙ sym a))
          ]

      once' : (n d : Node) (q : Place) → find R n (put R m p ids) ≡ Some q → (q.0 < length ns + 1) × (get_or (ns ++ m ∷ []) q.0 d ≡ n)
      once' n d q e =
          elim (eq_by_cmp R n m) as (λ b. eq_by_cmp R n m ≡ b → cond b (Some p) (find R n ids) ≡ Some q → (q.0 < length ns + 1) × (get_or (ns ++ m ∷ []) q.0 d ≡ n)) [
            | true ↦ λ t f.
                let s : q.0 ≡ length ns = ap (λ (p : Place). p.0) (sym (same_place p q f)) ∙ at in
                let k : n ≡ m = exact _ _ (is_equal _ t) in
                let g : get_or (ns ++ m ∷ []) q.0 d ≡ m = grind (arith, common_steps) in
                (omega arith, g ∙ sym k)
            | false ↦ λ t f.
                let k = h.once n d q f in
                let kl : q.0 < length ns = k.0 in
                let g : get_or (ns ++ m ∷ []) q.0 d ≡ get_or ns q.0 d = grind (arith, common_steps) in
                (omega arith, g ∙ k.1)
          ] refl (sym (find-put R o n m p ids) ∙ e)

      pub known_push : AreKnown R (put R m p ids) (ns ++ m ∷ [])
      known_push = record {
        known = λ i d lt. known' i d (omega (arith, length-append ns (m ∷ [])));
        once = λ n d q e. let k = once' n d q e in (omega (arith, length-append ns (m ∷ []), k.0), k.1);
      }

    module _ (ids : List (Node × Place)) (rows later : List Entry) (v : Entry) (p : Place) (h : IsHashed R ids rows) (l : later ≡ take (length ids) rows ++ v ∷ []) (s : is_sorted R ids ≡ true) (new : find R v.node ids ≡ None) (at : p.0 ≡ length ids) where
      longer : length (put R v.node p ids) ≡ length ids + 1
      longer = length-put R o v.node p ids (rw s tt) ∙ ap (λ r. cond (is_some r) (length ids) (length ids + 1)) new

      long : length later ≡ length ids + 1
      long = ap length l ∙ length-append (take (length ids) rows) (v ∷ []) ∙ ap (λ n. n + 1) (length-entries ids rows h)

      entries_added : entries_of (put R v.node p ids) later ≡ entries_of ids rows ++ v ∷ []
      entries_added = take_all (length (put R v.node p ids)) later (omega (arith, longer, long)) ∙ l

      pub nodes_added : nodes_of (put R v.node p ids) later ≡ nodes_of ids rows ++ v.node ∷ []
      nodes_added = ap nodes_in entries_added ∙ nodes_in-push (entries_of ids rows) v

      pub hashed_added : IsBelow (length (nodes_of ids rows)) v.node → IsSize (tree_over (trees_of (nodes_of ids rows)) v.node) v.size →
          IsHashed R (put R v.node p ids) later
      hashed_added b z = record {
        enough = omega (arith, longer, long);
        entries = rw entries_added (entries_push (entries_of ids rows) v h.entries b z);
        places = rw nodes_added (known_push ids (nodes_of ids rows) v.node p h.places new (at ∙ sym (length-nodes ids rows h)));
      }
