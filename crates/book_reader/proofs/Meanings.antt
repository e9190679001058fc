-- What a stored environment and stored parameters mean, while the store grows.
use Rattle.std.proofs.Common.{◌≡◌, ℕ, zero, suc, ◌+◌, ◌<◌, ◌≤◌, List, [], ◌∷◌, ◌++◌, length, All, drop, drop-cons, Bool, true, false, cond, Ok, Err, Option, Some, None, option_map, get_or, refl, sym, ap, ap₂, ◌∙◌, arith}
use Rattle.std.proofs.Math.Path.{fun_ext}
use Rattle.std.specs.Str.{bytes_eq}
use Rattle.ld_trees.specs.Term.{Term}
use Rattle.ld_terms.specs.Items.{item_named}
use Rattle.ld_terms.specs.Views.{Keeps}
use Rattle.ld_terms.specs.declared.globals.Item.{Item}
use Rattle.ld_terms.specs.declared.globals.Local.{Local}
use Rattle.conversion.specs.Globals.{AreLocals, IsItemOf, IsOptional, context_of, env_of}
use Rattle.term_text.specs.Scoped.{arities}
use Rattle.term_syntax.specs.Lex.{Text}
use Rattle.meta_context.specs.Entered.{names_of}
use Rattle.meta_context.specs.Plain.{plain_local, plain_locals, plain_item, plain_items, rules_ctx, rules_env}
use Rattle.meta_context.proofs.PlainItems.{context_again, env_again}
use Rattle.std.specs.Prelude.{is_some}
use Rattle.std.proofs.lemmas.List.{map-append, drop_all}
use Rattle.book_reader.specs.declared.source.Parameter.{Parameter}
use Rattle.book_reader.specs.declared.checked.ItemFault.{ItemFault}
use Rattle.book_reader.specs.declared.checked.ItemFault.TheVariants as fault
use Rattle.book_reader.specs.Items.{NameTaken, choose, refuse, pure, go_on, entry_name, typed, parameters, new_name}
use Rattle.book_reader.specs.Checked.{IsRead, IsNewName, Shows}

pub tail_all : {A : Type 0} (P : A → Type 0) (x : A) (xs : List A) → All P (x ∷ xs) → All P xs
tail_all P x xs a k d l = a (suc k) d (omega arith)

module _ {H : Type 0} (means : H → Term) where
  pub named_again : (is : List (Item H)) (a : Text) → item_named (plain_items means is) a ≡ option_map (plain_item means) (item_named is a)
  named_again [] a = refl
  named_again (i ∷ is) a = by (named_again is a) (bytes_eq i.name a) where
    by : item_named (plain_items means is) a ≡ option_map (plain_item means) (item_named is a)
        → (b : Bool) → cond b (Some (plain_item means i)) (item_named (plain_items means is) a) ≡ option_map (plain_item means) (cond b (Some i) (item_named is a))
    by e true = refl
    by e false = e

  pub length_again : (ls : List (Local H)) → length (plain_locals means ls) ≡ length ls
  length_again [] = refl
  length_again (l ∷ ls) = ap suc (length_again ls)

  arity_again : (o : Option (Item H)) → option_map (λ (i : Item Term). length i.params) (option_map (plain_item means) o) ≡ option_map (λ (i : Item H). length i.params) o
  arity_again None = refl
  arity_again (Some i) = ap (λ (n : ℕ). Some n) (length_again i.params)

  pub arities_again : (is : List (Item H)) → arities is ≡ arities (plain_items means is)
  arities_again is = fun_ext (λ a. sym (ap (option_map (λ (i : Item Term). length i.params)) (named_again is a) ∙ arity_again (item_named is a)))

  pub names_again : (ls : List (Local H)) → names_of ls ≡ names_of (plain_locals means ls)
  names_again [] = refl
  names_again (l ∷ ls) = ap (λ ns. l.name ∷ ns) (names_again ls)

module _ {H : Type 0} (means : H → Term) (items : List (Item H)) (params : List (Local H)) (Δ : List (Item Term)) (Γ : List (Local Term)) (r : IsRead means items params Δ Γ) where
  pub read_env : env_of means items [] ≡ rules_env Δ
  read_env = env_again means items ∙ ap rules_env r.items_are

  pub read_ctx : context_of means params ≡ rules_ctx Γ
  read_ctx = context_again means params ∙ ap rules_ctx r.params_are

  pub read_arities : arities items ≡ arities Δ
  read_arities = arities_again means items ∙ ap arities r.items_are

  pub read_names : names_of params ≡ names_of Γ
  read_names = names_again means params ∙ ap names_of r.params_are

  pub read_length : length params ≡ length Γ
  read_length = sym (length_again means params) ∙ ap (λ ls. length ls) r.params_are

pub same_items : (name other : Text) (ps qs : List (Local Term)) (t u : Term) (b c : Option Term) → name ≡ other → ps ≡ qs → t ≡ u → b ≡ c
    → (let x : Item Term = record { name = name; params = ps; ty = t; body = b } in let y : Item Term = record { name = other; params = qs; ty = u; body = c } in x ≡ y)
same_items name other ps qs t u b c o p q r = λ i. record { name = o i; params = p i; ty = q i; body = r i }

pub keeps_after : {H : Type 0} (p q r : H → Type 0) (m n o : H → Term) → Keeps p m q n → Keeps q n r o → Keeps p m r o
keeps_after p q r m n o a b h is = let x = a h is in let y = b h x.0 in (y.0, y.1 ∙ x.1)

pub all_push : {A : Type 0} (P : A → Type 0) (xs : List A) (x : A) → All P xs → P x → All P (xs ++ x ∷ [])
all_push P [] x a h zero d lt = h
all_push P [] x a h (suc k) d lt = absurd (omega arith)
all_push P (y ∷ ys) x a h zero d lt = a 0 y (omega arith)
all_push P (y ∷ ys) x a h (suc k) d lt = all_push P ys x (λ j e l. a (suc j) e (omega arith)) h k d (omega arith)

module _ {H : Type 0} (holds : H → Type 0) (means : H → Term) (holds' : H → Type 0) (means' : H → Term) (kept : Keeps holds means holds' means') where
  pub locals_kept : (ls : List (Local H)) → AreLocals holds ls → plain_locals means' ls ≡ plain_locals means ls
  locals_kept [] a = refl
  locals_kept (l ∷ ls) a = ap₂ (λ (t : Term) (ls : List (Local Term)). let x : Local Term = record { name = l.name; ty = t } in x ∷ ls) (kept l.ty (a 0 l (omega arith))).1 (locals_kept ls (tail_all (λ l. holds l.ty) l ls a))

  pub optional_kept : (o : Option H) → IsOptional holds o → option_map means' o ≡ option_map means o
  optional_kept None h = refl
  optional_kept (Some x) h = ap (λ (t : Term). Some t) (kept x h).1

  optional_held : (o : Option H) → IsOptional holds o → IsOptional holds' o
  optional_held None h = tt
  optional_held (Some x) h = (kept x h).0

  pub item_kept : (i : Item H) → IsItemOf holds i → plain_item means' i ≡ plain_item means i
  item_kept i h = same_items i.name i.name (plain_locals means' i.params) (plain_locals means i.params) (means' i.ty) (means i.ty) (option_map means' i.body) (option_map means i.body) refl (locals_kept i.params h.params) (kept i.ty h.ty).1 (optional_kept i.body h.body)

  pub items_kept : (is : List (Item H)) → All (IsItemOf holds) is → plain_items means' is ≡ plain_items means is
  items_kept [] a = refl
  items_kept (i ∷ is) a = ap₂ (λ (x : Item Term) (xs : List (Item Term)). x ∷ xs) (item_kept i (a 0 i (omega arith))) (items_kept is (tail_all (IsItemOf holds) i is a))

  pub locals_held : (ls : List (Local H)) → AreLocals holds ls → AreLocals holds' ls
  locals_held ls a k d l = (kept _ (a k d l)).0

  item_held : (i : Item H) → IsItemOf holds i → IsItemOf holds' i
  item_held i h = record { params = locals_held i.params h.params; ty = (kept i.ty h.ty).0; body = optional_held i.body h.body }

  pub items_held : (is : List (Item H)) → All (IsItemOf holds) is → All (IsItemOf holds') is
  items_held is a k d l = item_held _ (a k d l)

  pub read_kept : (items : List (Item H)) (params : List (Local H)) (Δ : List (Item Term)) (Γ : List (Local Term)) → All (IsItemOf holds) items → AreLocals holds params → IsRead means items params Δ Γ → IsRead means' items params Δ Γ
  read_kept items params Δ Γ a b r = record { items_are = items_kept items a ∙ r.items_are; params_are = locals_kept params b ∙ r.params_are }

-- the parameters as they are
pub read_later : {H : Type 0} (holds : H → Type 0) (means : H → Term) (holds' : H → Type 0) (means' : H → Term) (kept : Keeps holds means holds' means') (items : List (Item H)) (params : List (Local H)) (Δ : List (Item Term))
    → All (IsItemOf holds) items → plain_items means items ≡ Δ → IsRead means' items params Δ (plain_locals means' params)
read_later holds means holds' means' kept items params Δ a d = record { items_are = items_kept holds means holds' means' kept items a ∙ d; params_are = refl }

-- one more parameter
pub locals_more : {H : Type 0} (means : H → Term) (params params' : List (Local H)) (o : Option Text) (ty : H) (done : List (Local Term))
    → params' ≡ params ++ record { name = entry_name (length params) o; ty = ty } ∷ [] → plain_locals means params ≡ done
    → plain_locals means params' ≡ done ++ record { name = entry_name (length done) o; ty = means ty } ∷ []
locals_more {H = H} means params params' o ty done e d =
    let l : Local H = record { name = entry_name (length params) o; ty = ty } in
    let count : length params ≡ length done = sym (length_again means params) ∙ ap (λ (ls : List (Local Term)). length ls) d in
    ap (plain_locals means) e ∙ map-append (plain_local means) params (l ∷ [])
    ∙ ap₂ (λ (ds : List (Local Term)) (k : ℕ). let x : Local Term = record { name = entry_name k o; ty = means ty } in ds ++ x ∷ []) d count

-- ---- names of items

some_again : {A B : Type 0} (f : A → B) (o : Option A) → is_some (option_map f o) ≡ is_some o
some_again f None = refl
some_again f (Some x) = refl

none_is : {A : Type 0} (o : Option A) → o ≡ None → is_some o ≡ false
none_is o e = ap is_some e

taken_again : {H : Type 0} (means : H → Term) (items : List (Item H)) (Δ : List (Item Term)) (name : Text) → plain_items means items ≡ Δ → is_some (item_named Δ name) ≡ is_some (item_named items name)
taken_again means items Δ name d = ap (λ is. is_some (item_named is name)) (sym d) ∙ ap is_some (named_again means items name) ∙ some_again (plain_item means) (item_named items name)

pub name_new : {H : Type 0} (means : H → Term) (items : List (Item H)) (Δ : List (Item Term)) (name : Text) (n : ℕ) → plain_items means items ≡ Δ → item_named items name ≡ None → new_name Δ name n ≡ Ok (tt, n)
name_new means items Δ name n d e = ap (λ b. choose b (refuse (NameTaken name)) (pure {A = Unit {0}} tt) n) (taken_again means items Δ name d ∙ none_is (item_named items name) e)

pub name_taken : {H : Type 0} (holds : H → Type 0) (means : H → Term) (items : List (Item H)) (Δ : List (Item Term)) (name : Text) (n : ℕ) (e : ItemFault H)
    → plain_items means items ≡ Δ → IsNewName items name (Err e) → Shows holds means (new_name Δ name n) e
name_taken holds means items Δ name n (fault.NameTaken x) d h =
    ap (λ b. choose b (refuse (NameTaken name)) (pure {A = Unit {0}} tt) n) (taken_again means items Δ name d ∙ h.1) ∙ ap (λ (x : Text). Err (NameTaken x)) (sym h.0)
name_taken holds means items Δ name n (fault.Scope e) d h = absurd h
name_taken holds means items Δ name n (fault.Kernel e) d h = absurd h
name_taken holds means items Δ name n fault.Memory d h = tt

-- ---- parameters from left to right

pub drop_at : {A : Type 0} (xs : List A) (i : ℕ) (x : A) → i < length xs → x ≡ get_or xs i x → drop i xs ≡ x ∷ drop (i + 1) xs
drop_at xs i x l e =
    let s : suc i ≡ i + 1 = omega arith in
    drop-cons xs i x l ∙ ap₂ (λ y k. y ∷ drop k xs) (sym e) s

pub parameters_next : (Δ : List (Item Term)) (done : List (Local Term)) (ps : List Parameter) (i n : ℕ) (p : Parameter) → i < length ps → p ≡ get_or ps i p
    → parameters Δ done (drop i ps) n ≡ go_on (typed Δ done p.ty n) (λ A. parameters Δ (done ++ record { name = entry_name (length done) p.name; ty = A } ∷ []) (drop (i + 1) ps))
parameters_next Δ done ps i n p l e = ap (λ qs. parameters Δ done qs n) (drop_at ps i p l e)

pub parameters_over : (Δ : List (Item Term)) (done : List (Local Term)) (ps : List Parameter) (i n : ℕ) → length ps ≤ i → parameters Δ done (drop i ps) n ≡ Ok (done, n)
parameters_over Δ done ps i n l = ap (λ qs. parameters Δ done qs n) (drop_all i ps l)
