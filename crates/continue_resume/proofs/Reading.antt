-- Lists that are equal by their places, and what two states have.
use Rattle.std.proofs.Common.{◌≡◌, ◌<◌, ◌≤◌, ◌^◌, ◌↔◌, ℕ, suc, List, [], ◌∷◌, ◌++◌, map, get_or, reverse, Option, Some, None, option_map, is_none, is_some, All, Bool, true, false, ◌&&◌, if◌then◌else◌, length, slice_get, refl, sym, ap, ap₂, ◌∙◌, arith}
use Rattle.std.proofs.lemmas.Option.{same_Some, slice_get-get_or}
use mathlib.Core.List.{reverse-cons}
use Rattle.std.proofs.lemmas.List.{length-map, length-reverse, map-append, reverse-reverse}
use Rattle.ld_trees.specs.Term.{Term, same}
use Rattle.ld_trees.proofs.Equality.{and_left, and_right, and_both, same_decides}
use Rattle.ld_terms.specs.declared.globals.Local.{Local}
use Rattle.ld_terms.specs.declared.globals.Item.{Item}
use Rattle.ld_terms.specs.declared.globals.Decl.{Decl}
use Rattle.meta_context.specs.Plain.{plain_local, plain_locals, plain_item, plain_items}
use Rattle.meta_context.specs.Declaring.{IsOpen}
use Rattle.meta_context.proofs.Numbers.{below_length}
use Rattle.goal_state.specs.State.{State, plain_decl, plain_metas, root_type}
use Rattle.goal_state.proofs.Lists.{get_map}
use Rattle.coupling.proofs.Stored.{same_truth}
use Rattle.continue_resume.specs.Continuing.{same_root, is_open_as, is_shared}
use Rattle.continue_resume.specs.Resuming.{Resumed, GoalAssigned, if_open, if_all_open}
use Rattle.continue_resume.specs.Answers.{ShowsRefusal, ShowsResume}
use Rattle.continue_resume.specs.declared.fault.ResumeFault.{ResumeFault}
use Rattle.continue_resume.specs.declared.fault.ResumeFault.TheVariants as resume_fault
use Rattle.continue_resume.specs.Equality.{same_locals}
use Rattle.continue_resume.proofs.Deciding.{same_locals_decides, roots_are_decided}

same_places : {X : Type 0} (xs ys : List X) → length xs ≡ length ys → ((k : ℕ) → k < length xs → slice_get xs k ≡ slice_get ys k) → xs ≡ ys
same_places [] [] n f = refl
same_places [] (y ∷ ys) n f = absurd (omega arith)
same_places (x ∷ xs) [] n f = absurd (omega arith)
same_places (x ∷ xs) (y ∷ ys) n f = ap₂ (λ z zs. z ∷ zs) (same_Some x y (f 0 (omega arith))) (same_places xs ys (omega arith) (λ k l. f (suc k) (omega arith)))

module _ {A B C : Type 0} (f : A → C) (g : B → C) where
  pub maps_same : (xs : List A) (ys : List B) → length xs ≡ length ys → ((k : ℕ) → k < length xs → option_map f (slice_get xs k) ≡ option_map g (slice_get ys k)) → map f xs ≡ map g ys
  maps_same xs ys n h =
      let a = length-map xs f in
      let b = length-map ys g in
      same_places (map f xs) (map g ys) (a ∙ n ∙ sym b) (λ k l. get_map f xs k ∙ h k (omega (arith, l, a)) ∙ sym (get_map g ys k))

  pub same_place : (xs : List A) (ys : List B) (k : ℕ) → map f xs ≡ map g ys → option_map f (slice_get xs k) ≡ option_map g (slice_get ys k)
  same_place xs ys k e = sym (get_map f xs k) ∙ ap (λ zs. slice_get zs k) e ∙ get_map g ys k

  pub same_long : (xs : List A) (ys : List B) → map f xs ≡ map g ys → length xs ≡ length ys
  same_long xs ys e = sym (length-map xs f) ∙ ap length e ∙ length-map ys g

  module _ (xs : List A) (ys : List B) (i : ℕ) (x : A) (y : B) (l : i < length xs) (m : i < length ys) (p : x ≡ get_or xs i x) (q : y ≡ get_or ys i y) where
    x_found : slice_get xs i ≡ Some x
    x_found = slice_get-get_or xs i x l ∙ ap Some (sym p)

    y_found : slice_get ys i ≡ Some y
    y_found = slice_get-get_or ys i y m ∙ ap Some (sym q)

    -- elements at one place are the same
    pub same_here : map f xs ≡ map g ys → f x ≡ g y
    same_here e = same_Some (f x) (g y) (sym (ap (option_map f) x_found) ∙ same_place xs ys i e ∙ ap (option_map g) y_found)

    pub place_same : f x ≡ g y → option_map f (slice_get xs i) ≡ option_map g (slice_get ys i)
    place_same e = ap (option_map f) x_found ∙ ap Some e ∙ sym (ap (option_map g) y_found)

map_reversed : {A B : Type 0} (f : A → B) (xs : List A) → map f (reverse xs) ≡ reverse (map f xs)
map_reversed f [] = refl
map_reversed f (x ∷ xs) = ap (map f) (reverse-cons x xs) ∙ map-append f (reverse xs) (x ∷ []) ∙ ap (λ ys. ys ++ f x ∷ []) (map_reversed f xs) ∙ sym (reverse-cons (f x) (map f xs))

module _ {A B C : Type 0} (f : A → C) (g : B → C) (xs : List A) (ys : List B) where
  pub reversed_same : map f xs ≡ map g ys → map f (reverse xs) ≡ map g (reverse ys)
  reversed_same e = map_reversed f xs ∙ ap reverse e ∙ sym (map_reversed g ys)

  reversed_back : map f (reverse xs) ≡ map g (reverse ys) → map f xs ≡ map g ys
  reversed_back e = sym (reverse-reverse (map f xs)) ∙ ap reverse (sym (map_reversed f xs) ∙ e ∙ map_reversed g ys) ∙ reverse-reverse (map g ys)

  pub reversed_place : (k : ℕ) → map f xs ≡ map g ys → option_map f (slice_get (reverse xs) k) ≡ option_map g (slice_get (reverse ys) k)
  reversed_place k e = same_place f g (reverse xs) (reverse ys) k (reversed_same e)

  pub reversed_maps : length xs ≡ length ys → ((k : ℕ) → k < length xs → option_map f (slice_get (reverse xs) k) ≡ option_map g (slice_get (reverse ys) k)) → map f xs ≡ map g ys
  reversed_maps n h =
      let a = length-reverse xs in
      let b = length-reverse ys in
      reversed_back (maps_same f g (reverse xs) (reverse ys) (a ∙ n ∙ sym b) (λ k l. h k (omega (arith, l, a))))

-- the type of metavariable 0
pub root_found : {H : Type 0} (means : H → Term) (items : List (Item Term)) (ds : List (Decl H)) (goals : List ℕ) (d : Decl H) → slice_get ds 0 ≡ Some d
    → root_type (record { items = items; metas = plain_metas means ds; goals = goals }) ≡ means d.ty
root_found means items [] goals d e = absurd cc
root_found means items (x ∷ ds) goals d e = ap (λ (y : Decl _). means y.ty) (same_Some x d e)

-- ---- entries and items, part by part

module _ {H : Type 0} (left right : H → Term) where
  local_at : List ℕ → Term → Local Term
  local_at x T = record { name = x; ty = T }

  pub entry_whole : (x y : Local H) → x.name ≡ y.name → left x.ty ≡ right y.ty → plain_local left x ≡ plain_local right y
  unfolding local_at
  entry_whole x y e f = ap₂ local_at e f

  pub entry_name : (x y : Local H) → plain_local left x ≡ plain_local right y → x.name ≡ y.name
  entry_name x y e = ap (λ (l : Local Term). l.name) e

  pub entry_type : (x y : Local H) → plain_local left x ≡ plain_local right y → left x.ty ≡ right y.ty
  entry_type x y e = ap (λ (l : Local Term). l.ty) e

  pub item_whole : (x y : Item H) → x.name ≡ y.name → plain_locals left x.params ≡ plain_locals right y.params → left x.ty ≡ right y.ty → option_map left x.body ≡ option_map right y.body → plain_item left x ≡ plain_item right y
  item_whole x y e f g h = λ i. record { name = e i; params = f i; ty = g i; body = h i }

  pub item_name : (x y : Item H) → plain_item left x ≡ plain_item right y → x.name ≡ y.name
  item_name x y e = ap (λ (l : Item Term). l.name) e

  pub item_params : (x y : Item H) → plain_item left x ≡ plain_item right y → plain_locals left x.params ≡ plain_locals right y.params
  item_params x y e = ap (λ (l : Item Term). l.params) e

  pub item_type : (x y : Item H) → plain_item left x ≡ plain_item right y → left x.ty ≡ right y.ty
  item_type x y e = ap (λ (l : Item Term). l.ty) e

  pub item_body : (x y : Item H) → plain_item left x ≡ plain_item right y → option_map left x.body ≡ option_map right y.body
  item_body x y e = ap (λ (l : Item Term). l.body) e

-- ---- what two states share

module _ {T H : Type 0} (means : T → H → Term) where
  -- equal environments, where the stores and the items are those of states
  pub items_as : (b : Bool) (t t' u u' : T) (xs xs' ys ys' : List (Item H)) → t' ≡ t → u' ≡ u → xs' ≡ xs → ys' ≡ ys
      → (b ≡ true) ↔ (plain_items (means t') xs' ≡ plain_items (means u') ys') → (b ≡ true) ↔ (plain_items (means t) xs ≡ plain_items (means u) ys)
  items_as b t t' u u' xs xs' ys ys' e f g h w =
      let p = ap₂ (λ x zs. plain_items (means x) zs) e g in
      let q = ap₂ (λ x zs. plain_items (means x) zs) f h in
      (λ x. sym p ∙ w.0 x ∙ q, λ x. w.1 (p ∙ x ∙ sym q))

  module _ (t t' u u' : T) (ds ds' cs cs' : List (Decl H)) (e : t' ≡ t) (f : u' ≡ u) (g : ds' ≡ ds) (h : cs' ≡ cs) where
    -- the types of metavariable 0
    pub types_as : (is js : List (Item Term)) (ms ns : List ℕ) (b : Bool) (d c : Decl H) → slice_get ds' 0 ≡ Some d → slice_get cs' 0 ≡ Some c → (b ≡ true) ↔ (means t' d.ty ≡ means u' c.ty)
        → (b ≡ true) ↔ (root_type (record { items = is; metas = plain_metas (means t) ds; goals = ms }) ≡ root_type (record { items = js; metas = plain_metas (means u) cs; goals = ns }))
    types_as is js ms ns b d c x y w =
        let p = ap (λ z. means z d.ty) e ∙ sym (root_found (means t) is ds ms d (ap (λ zs. slice_get zs 0) (sym g) ∙ x)) in
        let q = ap (λ z. means z c.ty) f ∙ sym (root_found (means u) js cs ns c (ap (λ zs. slice_get zs 0) (sym h) ∙ y)) in
        (λ z. sym p ∙ w.0 z ∙ q, λ z. w.1 (p ∙ z ∙ sym q))

    module _ (m : ℕ) where
      decl_read : (o : Option (Decl H)) → slice_get ds' m ≡ o → slice_get (plain_metas (means t) ds) m ≡ option_map (plain_decl (means t)) o
      decl_read o x = get_map (plain_decl (means t)) ds m ∙ ap (option_map (plain_decl (means t))) (ap (λ zs. slice_get zs m) (sym g) ∙ x)

      other_read : (o : Option (Decl H)) → slice_get cs' m ≡ o → slice_get (plain_metas (means u) cs) m ≡ option_map (plain_decl (means u)) o
      other_read o x = get_map (plain_decl (means u)) cs m ∙ ap (option_map (plain_decl (means u))) (ap (λ zs. slice_get zs m) (sym h) ∙ x)

      pub shared_as : (b : Bool) (d c : Decl H) → slice_get ds' m ≡ Some d → slice_get cs' m ≡ Some c → b ≡ is_open_as (Some (plain_decl (means t') d)) (Some (plain_decl (means u') c))
          → b ≡ is_shared (plain_metas (means t) ds) (plain_metas (means u) cs) m
      shared_as b d c x y w =
          w
          ∙ ap₂ (λ z v. is_open_as (Some (plain_decl (means z) d)) (Some (plain_decl (means v) c))) e f
          ∙ sym (ap₂ is_open_as (decl_read (Some d) x) (other_read (Some c) y))

      pub first_missing : slice_get ds' m ≡ None → false ≡ is_shared (plain_metas (means t) ds) (plain_metas (means u) cs) m
      first_missing x = sym (ap (λ o. is_open_as o (slice_get (plain_metas (means u) cs) m)) (decl_read None x) ∙ nothing (slice_get (plain_metas (means u) cs) m))
        where
          nothing : (o : Option (Decl Term)) → is_open_as None o ≡ false
          nothing None = refl
          nothing (Some d) = refl

      pub second_missing : slice_get cs' m ≡ None → false ≡ is_shared (plain_metas (means t) ds) (plain_metas (means u) cs) m
      second_missing x = sym (ap (is_open_as (slice_get (plain_metas (means t) ds) m)) (other_read None x) ∙ nothing (slice_get (plain_metas (means t) ds) m))
        where
          nothing : (o : Option (Decl Term)) → is_open_as o None ≡ false
          nothing None = refl
          nothing (Some d) = refl

-- one root, by both tests
pub same_both : (s t : State) (a b : Bool) → (a ≡ true) ↔ (s.items ≡ t.items) → (b ≡ true) ↔ (root_type s ≡ root_type t) → a ≡ true → b ≡ same_root s t
same_both s t a b p q e = same_truth b (same_root s t) (λ x. (roots_are_decided s t).1 (p.0 e, q.0 x)) (λ x. q.1 ((roots_are_decided s t).0 x).1)

pub items_differ : (s t : State) (a : Bool) → (a ≡ true) ↔ (s.items ≡ t.items) → a ≡ false → a ≡ same_root s t
items_differ s t a p e = same_truth a (same_root s t) (λ x. absurd cc) (λ x. p.1 ((roots_are_decided s t).0 x).0)

-- ---- open goals of stored metavariables

module _ {H : Type 0} (means : H → Term) (ds : List (Decl H)) where
  if_open_again : (o : Option (Decl H)) (m : ℕ) (r : Resumed) → if_open (option_map (plain_decl means) o) m r ≡ if_open o m r
  if_open_again None m r = refl
  if_open_again (Some d) m r = ap (λ b. if b then r else GoalAssigned m) (by_value d.value)
    where
      by_value : (v : Option H) → is_none (option_map means v) ≡ is_none v
      by_value None = refl
      by_value (Some x) = refl

  pub all_open_again : (ms : List ℕ) (r : Resumed) → if_all_open (plain_metas means ds) ms r ≡ if_all_open ds ms r
  all_open_again [] r = refl
  all_open_again (m ∷ ms) r =
      ap₂ (λ o x. if_open o m x) (get_map (plain_decl means) ds m) (all_open_again ms r)
      ∙ if_open_again (slice_get ds m) m (if_all_open ds ms r)

pub shows : (o : Resumed) (e : ResumeFault) → ShowsRefusal o e → ShowsResume o e
shows o (resume_fault.GoalUndeclared m) h = h
shows o (resume_fault.GoalAssigned m) h = h
shows o resume_fault.Memory h = tt

-- open goals have small numbers
pub all_small : {H : Type 0} (ds : List (Decl H)) (ms : List ℕ) → length ds ≤ 65536 → All (IsOpen ds) ms → All (λ m. m < 2 ^ 32) ms
all_small ds ms few a k d l = let w = a k d l in let b = below_length ds (get_or ms k d) w.0 w.1 in omega (arith, b, few)

-- ---- a metavariable without a value, by its context and its type

none_by : {H : Type 0} (f : H → Term) (v : Option H) → is_some v ≡ false → is_none (option_map f v) ≡ true
none_by f None e = refl
none_by f (Some x) e = absurd cc

module _ {H : Type 0} (left right : H → Term) (v : Option H) (b : Bool) (xs xs' ys ys' : List (Local H)) (p : xs' ≡ xs) (q : ys' ≡ ys) (w : (b ≡ true) ↔ (plain_locals left xs' ≡ plain_locals right ys')) (T U : H) where
  contexts : (b ≡ true) ↔ (plain_locals left xs ≡ plain_locals right ys)
  contexts = (
    λ x. sym (ap (plain_locals left) p) ∙ w.0 x ∙ ap (plain_locals right) q,
    λ x. w.1 (ap (plain_locals left) p ∙ x ∙ sym (ap (plain_locals right) q)),
  )

  abbrev Test : Bool
  Test = is_none (option_map left v) && (same_locals (plain_locals left xs) (plain_locals right ys) && same (left T) (right U))

  pub contexts_differ : b ≡ false → false ≡ Test
  contexts_differ f = same_truth false Test (λ e. absurd cc) (λ e.
      let m = and_left (same_locals (plain_locals left xs) (plain_locals right ys)) _ (and_right (is_none (option_map left v)) _ e) in
      let t = contexts.1 ((same_locals_decides (plain_locals left xs) (plain_locals right ys)).0 m) in
      absurd cc)

  pub types_decide : (c : Bool) → is_some v ≡ false → b ≡ true → (c ≡ true) ↔ (left T ≡ right U) → c ≡ Test
  types_decide c n t d = same_truth c Test
      (λ e. and_both (is_none (option_map left v)) _ (none_by left v n)
      (and_both (same_locals (plain_locals left xs) (plain_locals right ys)) _ ((same_locals_decides (plain_locals left xs) (plain_locals right ys)).1 (contexts.0 t)) ((same_decides (left T) (right U)).1 (d.0 e))))
      (λ e. d.1 ((same_decides (left T) (right U)).0 (and_right (same_locals (plain_locals left xs) (plain_locals right ys)) _ (and_right (is_none (option_map left v)) _ e))))
