-- The items of a stored environment as plain data.
use Rattle.std.proofs.Common.{◌≡◌, ℕ, suc, ◌+◌, List, [], ◌∷◌, ◌++◌, length, map, take, reverse, slice_get, inl, inr, ◌≤◌, ap₂, Bool, true, false, cond, Option, Some, None, option_map, refl, sym, ap, ◌∙◌, arith, subst}
use Rattle.std.proofs.Math.Path.{fun_ext}
use Rattle.std.proofs.lemmas.List.{map-append, reverse-append, length-reverse, map_more}
use Rattle.std.proofs.lemmas.Option.{same_Some, slice_get_cases}
use Rattle.std.specs.Prelude.{codes}
use Rattle.reply_text.specs.Members.{string}
use Rattle.reply_text.specs.Shown.{term_json}
use Rattle.reply_text.specs.Context.{shown_names, context_json}
use Rattle.std.specs.Str.{bytes_eq}
use Rattle.std.proofs.lemmas.Slice.Eq.{bytes_eq-Decides}
use Rattle.json.specs.Print.{quoted}
use Rattle.ld_trees.specs.Term.{Term}
use Rattle.ld_terms.specs.Names.{IsTextName}
use Rattle.ld_terms.specs.Items.{item_named}
use Rattle.ld_terms.specs.declared.globals.Local.{Local}
use Rattle.ld_terms.specs.declared.globals.Item.{Item}
use Rattle.term_syntax.specs.Lex.{Text}
use Rattle.term_syntax.specs.ReadsBack.{IsContext}
use Rattle.term_text.specs.Scoped.{arities}
use Rattle.meta_context.specs.Entered.{names_of, AreEntered}
use Rattle.meta_context.specs.Plain.{plain_locals, plain_item, plain_items}
use Rattle.state_print.proofs.Turns.{names_again, types_again}
use Rattle.command_set.specs.Inspect.{kind_of, value_of, front, back, item_members, found_item, inspect}
use Rattle.reply_text.specs.Refusals.{no_item as refuse_name}

-- the item of a name has that name, which is one of the texts, and its parameters have names of a context
pub found_entered : {H : Type 0} (items : List (Item H)) (a : Text) (i : Item H) → AreEntered items → item_named items a ≡ Some i → IsTextName a × IsContext (names_of i.params)
found_entered [] a i h e = absurd cc
found_entered {H = H} (x ∷ xs) a i h e = by (λ q. found_entered xs a i h.1 q) (bytes_eq x.name a) refl e where
  by : (item_named xs a ≡ Some i → IsTextName a × IsContext (names_of i.params)) → (b : Bool) → bytes_eq x.name a ≡ b → cond b (Some x) (item_named xs a) ≡ Some i → IsTextName a × IsContext (names_of i.params)
  by later true q e =
      let same : x ≡ i = cc in
      let named : x.name ≡ a = (bytes_eq-Decides x.name a).0 q in
      (subst IsTextName named h.0.named, subst (λ (i : Item H). IsContext (names_of i.params)) same h.0.params)
  by later false q e = later e

-- ---- the plain items

map_reverse : {A B : Type 0} (f : A → B) (xs : List A) → map f (reverse xs) ≡ reverse (map f xs)
map_reverse f [] = refl
map_reverse f (x ∷ xs) = ap (map f) (reverse-append (x ∷ []) xs) ∙ map-append f (reverse xs) (x ∷ []) ∙ ap (λ ys. ys ++ f x ∷ []) (map_reverse f xs) ∙ sym (reverse-append (f x ∷ []) (map f xs))

module _ {H : Type 0} (means : H → Term) where
  pub named_again : (is : List (Item H)) (a : Text) → item_named (plain_items means is) a ≡ option_map (plain_item means) (item_named is a)
  named_again [] a = refl
  named_again (i ∷ is) a = by (named_again is a) (bytes_eq i.name a) where
    by : item_named (plain_items means is) a ≡ option_map (plain_item means) (item_named is a)
        → (b : Bool) → cond b (Some (plain_item means i)) (item_named (plain_items means is) a) ≡ option_map (plain_item means) (cond b (Some i) (item_named is a))
    by e true = refl
    by e false = e

  length_again : (ls : List (Local H)) → length (plain_locals means ls) ≡ length ls
  length_again [] = refl
  length_again (l ∷ ls) = ap suc (length_again ls)

  arity_again : (o : Option (Item H)) → option_map (λ (i : Item Term). length i.params) (option_map (plain_item means) o) ≡ option_map (λ (i : Item H). length i.params) o
  arity_again None = refl
  arity_again (Some i) = ap (λ (n : ℕ). Some n) (length_again i.params)

  pub arities_again : (is : List (Item H)) → arities is ≡ arities (plain_items means is)
  arities_again is = fun_ext (λ a. sym (ap (option_map (λ (i : Item Term). length i.params)) (named_again is a) ∙ arity_again (item_named is a)))

  pub kind_again : (o : Option H) → kind_of (option_map means o) ≡ kind_of o
  kind_again None = refl
  kind_again (Some x) = refl

  quoted_again : (is : List (Item H)) → map (λ (i : Item Term). quoted i.name) (plain_items means is) ≡ map (λ (i : Item H). quoted i.name) is
  quoted_again [] = refl
  quoted_again (i ∷ is) = ap (λ ns. quoted i.name ∷ ns) (quoted_again is)

  pub names_in_order : (is : List (Item H)) → map (λ (i : Item Term). quoted i.name) (reverse (plain_items means is)) ≡ map (λ (i : Item H). quoted i.name) (reverse is)
  names_in_order is = map_reverse (λ (i : Item Term). quoted i.name) (plain_items means is) ∙ ap reverse (quoted_again is) ∙ sym (map_reverse (λ (i : Item H). quoted i.name) is)

  pub front_is : (i : Item H) → string (codes "kind") (kind_of i.body) ∷ record { key = codes "params"; value = context_json (map (λ l. l.name) i.params) (map (λ l. means l.ty) i.params) } ∷ [] ≡ front (plain_item means i)
  front_is i = ap₂ (λ k v. string (codes "kind") k ∷ record { key = codes "params"; value = v } ∷ []) (sym (kind_again i.body)) (ap₂ context_json (names_again means i.params) (types_again means i.params))

  pub back_is : (i : Item H) → record { key = codes "type"; value = term_json (shown_names (map (λ l. l.name) i.params)) (means i.ty) } ∷ value_of (shown_names (map (λ l. l.name) i.params)) (option_map means i.body) ≡ back (plain_item means i)
  back_is i = ap (λ ns. record { key = codes "type"; value = term_json (shown_names ns) (means i.ty) } ∷ value_of (shown_names ns) (option_map means i.body)) (names_again means i.params)

  pub shown_item : (items : List (Item H)) (Δ : List (Item Term)) (name : Text) (i : Item H) → plain_items means items ≡ Δ → item_named items name ≡ Some i → item_members (plain_item means i) ≡ inspect Δ name
  unfolding inspect
  shown_item items Δ name i d e = sym (ap (λ is. found_item name (item_named is name)) (sym d) ∙ ap (found_item name) (named_again items name ∙ ap (option_map (plain_item means)) e))

  pub shown_none : (items : List (Item H)) (Δ : List (Item Term)) (name : Text) → plain_items means items ≡ Δ → item_named items name ≡ None → refuse_name name ≡ inspect Δ name
  unfolding inspect
  shown_none items Δ name d e = sym (ap (λ is. found_item name (item_named is name)) (sym d) ∙ ap (found_item name) (named_again items name ∙ ap (option_map (plain_item means)) e))

  pub names_plain : (items : List (Item H)) (Δ : List (Item Term)) → plain_items means items ≡ Δ → map (λ (i : Item H). quoted i.name) (reverse items) ≡ map (λ (i : Item Term). quoted i.name) (reverse Δ)
  names_plain items Δ d = sym (names_in_order items) ∙ ap (λ is. map (λ (i : Item Term). quoted i.name) (reverse is)) d

-- ---- names one after another

pub next_name : {A B : Type 0} (f : A → B) (xs : List A) (i : ℕ) (x : A) → Some x ≡ slice_get xs i → map f (take (i + 1) xs) ≡ map f (take i xs) ++ f x ∷ []
next_name {A = A} f xs i x e = elim (slice_get_cases xs i).1 [
  | inl h ↦ (let same : x ≡ h.0 = same_Some _ _ (e ∙ h.2) in map_more f xs i h.0 h.1 ∙ ap (λ y. map f (take i xs) ++ f y ∷ []) (h.3 ∙ sym same))
  | inr h ↦ absurd (some_or_none x (e ∙ h.1))
] where
  some_or_none : (x : A) → Some x ≡ None → ⊥
  some_or_none x e = cc

pub no_item : {A : Type 0} (xs : List A) (i : ℕ) → None ≡ slice_get (reverse xs) i → length xs ≤ i
no_item {A = A} xs i e = elim (slice_get_cases (reverse xs) i).1 [
  | inl h ↦ absurd (none_or_some h.0 (e ∙ h.2))
  | inr h ↦ omega (arith, h.0, length-reverse xs)
] where
  none_or_some : (x : A) → None ≡ Some x → ⊥
  none_or_some x e = cc
