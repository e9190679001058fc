-- A stored environment stays one while the store grows, and means the same items.
use Rattle.std.proofs.Common.{◌≡◌, ℕ, suc, List, [], ◌∷◌, All, Option, Some, None, option_map, refl, sym, ap, ap₂, arith, subst}
use Rattle.ld_trees.specs.Term.{Term}
use Rattle.ld_rules.specs.Legality.{IsLegalEnvironment}
use Rattle.ld_terms.specs.Views.{Keeps}
use Rattle.ld_terms.specs.declared.globals.Local.{Local}
use Rattle.ld_terms.specs.declared.globals.Item.{Item}
use Rattle.conversion.specs.Globals.{AreLocals, IsItemOf, IsOptional, AreGlobalsOf}
use Rattle.conversion.proofs.Lookups.{env_kept, globals_kept}
use Rattle.meta_context.specs.Plain.{plain_locals, plain_item, plain_items}
use Rattle.command_set.specs.Stored.{IsStored}

tail_all : {A : Type 0} (P : A → Type 0) (x : A) (xs : List A) → All P (x ∷ xs) → All P xs
tail_all P x xs a k d l = a (suc k) d (omega arith)

pub globals_of : {H : Type 0} (holds : H → Type 0) (items : List (Item H)) → All (IsItemOf holds) items → AreGlobalsOf holds items []
globals_of holds items a = record { items_held = a; metas_held = λ k d l. absurd (omega arith) }

same_items : (name : List ℕ) (ps qs : List (Local Term)) (t u : Term) (b c : Option Term) → ps ≡ qs → t ≡ u → b ≡ c
    → (let x : Item Term = record { name = name; params = ps; ty = t; body = b } in let y : Item Term = record { name = name; params = qs; ty = u; body = c } in x ≡ y)
same_items name ps qs t u b c p q r = λ i. record { name = name; params = p i; ty = q i; body = r i }

module _ {H : Type 0} (holds : H → Type 0) (means : H → Term) (holds' : H → Type 0) (means' : H → Term) (kept : Keeps holds means holds' means') where
  locals_kept : (ls : List (Local H)) → AreLocals holds ls → plain_locals means' ls ≡ plain_locals means ls
  locals_kept [] a = refl
  locals_kept (l ∷ ls) a = ap₂ (λ (t : Term) (ls : List (Local Term)). let x : Local Term = record { name = l.name; ty = t } in x ∷ ls) (kept l.ty (a 0 l (omega arith))).1 (locals_kept ls (tail_all (λ l. holds l.ty) l ls a))

  optional_kept : (o : Option H) → IsOptional holds o → option_map means' o ≡ option_map means o
  optional_kept None h = refl
  optional_kept (Some x) h = ap (λ (t : Term). Some t) (kept x h).1

  item_kept : (i : Item H) → IsItemOf holds i → plain_item means' i ≡ plain_item means i
  item_kept i h = same_items i.name (plain_locals means' i.params) (plain_locals means i.params) (means' i.ty) (means i.ty) (option_map means' i.body) (option_map means i.body) (locals_kept i.params h.params) (kept i.ty h.ty).1 (optional_kept i.body h.body)

  pub items_kept : (is : List (Item H)) → All (IsItemOf holds) is → plain_items means' is ≡ plain_items means is
  items_kept [] a = refl
  items_kept (i ∷ is) a = ap₂ (λ (x : Item Term) (xs : List (Item Term)). x ∷ xs) (item_kept i (a 0 i (omega arith))) (items_kept is (tail_all (IsItemOf holds) i is a))

  pub stored_kept : (is : List (Item H)) → IsStored holds means is → IsStored holds' means' is
  stored_kept is s =
      let g = globals_of holds is s.held in
      record {
        held = (globals_kept holds means holds' means' kept is [] g).items_held;
        legal = subst IsLegalEnvironment (sym (env_kept holds means holds' means' kept is [] g)) s.legal;
        entered = s.entered;
      }
