-- Loops that print from a store that grows.
use Rattle.std.proofs.Common.{◌≡◌, ℕ, zero, suc, ◌+◌, ◌<◌, List, [], ◌∷◌, ◌++◌, map, take, length, get_or, All, Some, None, option_map, slice_get, refl, sym, ap, ap₂, ◌∙◌, subst, arith, append-nil}
use Rattle.std.specs.Prelude.{flat_map, codes, decimal}
use Rattle.std.proofs.lemmas.List.{map-append, take_more, flat_map_more}
use Rattle.std.proofs.lemmas.List.Elements.{All-append}
use Rattle.std.proofs.lemmas.Option.{same_Some, slice_get-map}
use Rattle.ld_trees.specs.Term.{Term}
use Rattle.ld_terms.specs.Views.{Keeps}
use Rattle.ld_terms.specs.declared.globals.Local.{Local}
use Rattle.ld_terms.specs.declared.globals.Decl.{Decl}
use Rattle.ld_terms.proofs.Turns.{keeps_both}
use Rattle.conversion.specs.Globals.{AreLocals, IsDeclOf}
use Rattle.term_syntax.specs.ReadsBack.{IsContext}
use Rattle.meta_context.specs.Entered.{names_of, AreDeclared}
use Rattle.meta_context.specs.Plain.{plain_local, plain_locals}
use Rattle.meta_context.specs.Stored.{metas_of}
use Rattle.meta_laws.specs.Unfolding.{unfold_metas}
use Rattle.meta_context.specs.Declaring.{IsOpen}
use Rattle.goal_state.specs.State.{plain_decl, plain_metas}
use Rattle.goal_state.proofs.Means.{metas_again, metas_kept, plain_metas_kept}
use Rattle.coupling.specs.Coupling.{coupled}
use Rattle.reply_text.specs.Members.{number, object_text}
use Rattle.reply_text.specs.Shown.{term_json}
use Rattle.reply_text.specs.Context.{shown_names, context_json}
use Rattle.state_print.specs.Pieces.{unfolded, unfolded_entry, coupled_member, goal_over, goal_json, found_goal, goal_texts}

tail_all : {X : Type 0} (P : X → Type 0) (x : X) (xs : List X) → All P (x ∷ xs) → All P xs
tail_all P x xs a i d l = a (suc i) d (omega arith)

all_one : {X : Type 0} (P : X → Type 0) (x : X) → P x → All P (x ∷ [])
all_one P x p i d l = at i l where
  at : (i : ℕ) → i < 1 → P (get_or (x ∷ []) i d)
  at i l = let e : i ≡ 0 = omega arith in rw e p

same_entries : (name : List ℕ) (t u : Term) → t ≡ u → (let x : Local Term = record { name = name; ty = t } in let y : Local Term = record { name = name; ty = u } in x ≡ y)
same_entries name t u e = λ i. record { name = name; ty = e i }

-- ---- what handles mean in a store that has grown

module _ {H : Type 0} (holds : H → Type 0) (means : H → Term) (holds' : H → Type 0) (means' : H → Term) (kept : Keeps holds means holds' means') where
  entry_kept : (l : Local H) → holds l.ty → plain_local means' l ≡ plain_local means l
  entry_kept l h = same_entries l.name (means' l.ty) (means l.ty) (kept l.ty h).1

  pub entries_kept : (ls : List (Local H)) → AreLocals holds ls → plain_locals means' ls ≡ plain_locals means ls
  entries_kept [] a = refl
  entries_kept (l ∷ ls) a = ap₂ (λ (x : Local Term) (xs : List (Local Term)). x ∷ xs) (entry_kept l (a 0 l (omega arith))) (entries_kept ls (tail_all (λ l. holds l.ty) l ls a))

  pub entries_held : (ls : List (Local H)) → AreLocals holds ls → AreLocals holds' ls
  entries_held ls a i d l = (kept _ (a i d l)).0

  -- what a term unfolds to in the store that has grown
  pub unfolded_kept : (ds : List (Decl H)) (h : H) (t : Term) → All (IsDeclOf holds) ds → holds h → t ≡ unfold_metas (metas_of means' ds) (means' h) → t ≡ unfolded (plain_metas means ds) (means h)
  unfolded_kept ds h t a held e = e ∙ ap₂ unfold_metas (metas_kept holds means holds' means' kept ds a ∙ sym (metas_again means ds)) (kept h held).1

-- what a term unfolds to in the store
pub unfolded_there : {H : Type 0} (means : H → Term) (ds : List (Decl H)) (h : H) (t : Term) → t ≡ unfold_metas (metas_of means ds) (means h) → t ≡ unfolded (plain_metas means ds) (means h)
unfolded_there means ds h t e = e ∙ ap (λ Σ. unfold_metas Σ (means h)) (sym (metas_again means ds))

-- ---- names and types of entries

module _ {H : Type 0} (means : H → Term) where
  pub names_again : (ls : List (Local H)) → names_of ls ≡ names_of (plain_locals means ls)
  names_again [] = refl
  names_again (l ∷ ls) = ap (λ ns. l.name ∷ ns) (names_again ls)

  pub types_again : (ls : List (Local H)) → map (λ (l : Local H). means l.ty) ls ≡ map (λ (l : Local Term). l.ty) (plain_locals means ls)
  types_again [] = refl
  types_again (l ∷ ls) = ap (λ ts. means l.ty ∷ ts) (types_again ls)

-- unfolding keeps names
pub names_unfolded : (metas : List (Decl Term)) (ls : List (Local Term)) → names_of (map (unfolded_entry metas) ls) ≡ names_of ls
names_unfolded metas [] = refl
names_unfolded metas (l ∷ ls) = ap (λ ns. l.name ∷ ns) (names_unfolded metas ls)

-- ---- the entries of a context, unfolded one after another

pub next_mapped : {A B : Type 0} (f : A → B) (xs : List A) (i : ℕ) (x : A) → i < length xs → x ≡ get_or xs i x → map f (take (i + 1) xs) ≡ map f (take i xs) ++ f x ∷ []
next_mapped f xs i x l e = ap (map f) (take_more xs i x l) ∙ map-append f (take i xs) (get_or xs i x ∷ []) ∙ ap (λ y. map f (take i xs) ++ f y ∷ []) (sym e)

-- After i turns the entries made are the first i of the context, unfolded.
pub record Entered {H : Type 0} (holds : H → Type 0) (means : H → Term) (holds' : H → Type 0) (means' : H → Term) (ds : List (Decl H)) (ctx made : List (Local H)) (i : ℕ) : Type 0 where
  pub kept : Keeps holds means holds' means'
  pub held : AreLocals holds' made
  pub entries : plain_locals means' made ≡ map (unfolded_entry (plain_metas means ds)) (plain_locals means (take i ctx))

module _ {H : Type 0} (holds : H → Type 0) (means : H → Term) (holds' : H → Type 0) (means' : H → Term) (holds'' : H → Type 0) (means'' : H → Term) (ds : List (Decl H)) (ctx made : List (Local H)) where
  pub entered : (i : ℕ) (l r : Local H) → Entered holds means holds' means' ds ctx made i → All (IsDeclOf holds) ds → AreLocals holds ctx → i < length ctx → l ≡ get_or ctx i l
      → Keeps holds' means' holds'' means'' → holds'' r.ty → r.name ≡ l.name → means'' r.ty ≡ unfold_metas (metas_of means' ds) (means' l.ty)
      → Entered holds means holds'' means'' ds ctx (made ++ r ∷ []) (i + 1)
  entered i l r t da ca low is k held named tree = record {
    kept = keeps_both holds means holds' means' holds'' means'' t.kept k;
    held = All-append (λ l. holds'' l.ty) made (r ∷ []) (entries_held holds' means' holds'' means'' k made t.held) (all_one (λ l. holds'' l.ty) r held);
    entries =
        let there : holds l.ty = rw is (ca i l low) in
        let f = unfolded_entry (plain_metas means ds) in
        map-append (plain_local means'') made (r ∷ [])
        ∙ ap₂ (λ (xs : List (Local Term)) (x : Local Term). xs ++ x ∷ [])
        (entries_kept holds' means' holds'' means'' k made t.held ∙ t.entries)
        (ap (λ (n : List ℕ). let x : Local Term = record { name = n; ty = means'' r.ty } in x) named
        ∙ same_entries l.name (means'' r.ty) (unfolded (plain_metas means ds) (means l.ty)) (unfolded_kept holds means holds' means' t.kept ds l.ty (means'' r.ty) da there tree))
        ∙ sym (ap (map f) (next_mapped (plain_local means) ctx i l low is) ∙ map-append f (plain_locals means (take i ctx)) (plain_local means l ∷ []));
  }

-- ---- goals, one after another

-- After i turns the texts are those of the first i goals.
pub record Shown {H : Type 0} (holds : H → Type 0) (means : H → Term) (holds' : H → Type 0) (means' : H → Term) (ds : List (Decl H)) (goals : List ℕ) (texts : List (List ℕ)) (i : ℕ) : Type 0 where
  pub kept : Keeps holds means holds' means'
  pub are : texts ≡ goal_texts (plain_metas means ds) (take i goals)

flat_one : {A : Type 0} (f : ℕ → List A) (xs : List ℕ) (x : ℕ) → flat_map f (xs ++ x ∷ []) ≡ flat_map f xs ++ f x
flat_one f xs x = sym (flat_map_more f [] xs x)

module _ {H : Type 0} (holds : H → Type 0) (means : H → Term) (holds' : H → Type 0) (means' : H → Term) (holds'' : H → Type 0) (means'' : H → Term) (ds : List (Decl H)) (goals : List ℕ) where
  pub shown : (i m : ℕ) (texts texts' : List (List ℕ)) → Shown holds means holds' means' ds goals texts i → All (IsDeclOf holds) ds → i < length goals → m ≡ get_or goals i 0
      → Keeps holds' means' holds'' means'' → texts' ≡ texts ++ found_goal (plain_metas means' ds) m (slice_get (plain_metas means' ds) m)
      → Shown holds means holds'' means'' ds goals texts' (i + 1)
  shown i m texts texts' t da low is k e = record {
    kept = keeps_both holds means holds' means' holds'' means'' t.kept k;
    are =
        let f = λ (m : ℕ). found_goal (plain_metas means ds) m (slice_get (plain_metas means ds) m) in
        e
        ∙ ap₂ (λ (xs : List (List ℕ)) (cs : List (Decl Term)). xs ++ found_goal cs m (slice_get cs m)) t.are (plain_metas_kept holds means holds' means' t.kept ds da)
        ∙ sym (ap (goal_texts (plain_metas means ds)) (take_more goals i 0 low ∙ ap (λ n. take i goals ++ n ∷ []) (sym is)) ∙ flat_one f (take i goals) m);
  }

-- ---- the members of a goal

pub goal_members : {H : Type 0} (means : H → Term) (others : List ℕ) (m : ℕ) (ls : List (Local H)) (ty : Term)
    → coupled_member others ∷ number (codes "goal") m ∷ record { key = codes "target"; value = term_json (shown_names (names_of ls)) ty } ∷ record { key = codes "vars"; value = context_json (names_of ls) (map (λ (l : Local H). means l.ty) ls) } ∷ []
    ≡ (goal_over others m (plain_locals means ls) ty).before
goal_members means others m ls ty =
    ap₂ (λ (ns : List (List ℕ)) (ts : List Term). coupled_member others ∷ number (codes "goal") m ∷ record { key = codes "target"; value = term_json (shown_names ns) ty } ∷ record { key = codes "vars"; value = context_json ns ts } ∷ []) (names_again means ls) (types_again means ls)

-- unfolded entries have the names that they had
pub names_made : {H : Type 0} (means' means : H → Term) (metas : List (Decl Term)) (made ls : List (Local H)) → plain_locals means' made ≡ map (unfolded_entry metas) (plain_locals means ls) → names_of made ≡ names_of ls
names_made means' means metas made ls e = names_again means' made ∙ ap names_of e ∙ names_unfolded metas (plain_locals means ls) ∙ sym (names_again means ls)

-- The text of a goal, whose type was unfolded first and then its context, each in a store that had grown.
module _ {H : Type 0} (holds : H → Type 0) (means : H → Term) (holds' : H → Type 0) (means' : H → Term) (holds'' : H → Type 0) (means'' : H → Term) (ds : List (Decl H)) where
  pub goal_made : (others : List ℕ) (m : ℕ) (d : Decl H) (ty : H) (made : List (Local H)) (text : List ℕ) → All (IsDeclOf holds) ds → IsDeclOf holds d → Keeps holds means holds' means' → Keeps holds' means' holds'' means''
      → holds' ty → means' ty ≡ unfold_metas (metas_of means ds) (means d.ty) → plain_locals means'' made ≡ map (unfolded_entry (plain_metas means' ds)) (plain_locals means' d.ctx)
      → text ≡ object_text (goal_over others m (plain_locals means'' made) (means'' ty)) → text ≡ goal_json others (plain_metas means ds) m (plain_decl means d)
  goal_made others m d ty made text da dh k l held tree entries e =
      e
      ∙ ap₂ (λ (ls : List (Local Term)) (t : Term). object_text (goal_over others m ls t))
      (entries ∙ ap₂ (λ (cs : List (Decl Term)) (ls : List (Local Term)). map (unfolded_entry cs) ls) (plain_metas_kept holds means holds' means' k ds da) (entries_kept holds means holds' means' k d.ctx dh.ctx))
      ((l ty held).1 ∙ unfolded_there means ds d.ty (means' ty) tree)

-- ---- the declaration of a number

pub named_at : {H : Type 0} (ds : List (Decl H)) (m : ℕ) (d : Decl H) → AreDeclared ds → slice_get ds m ≡ Some d → IsContext (names_of d.ctx)
named_at [] m d a e = absurd cc
named_at {H} (x ∷ ds) zero d a e = let same : x ≡ d = same_Some _ _ e in subst (λ (d : Decl H). IsContext (names_of d.ctx)) same a.0
named_at (x ∷ ds) (suc m) d a e = named_at ds m d a.1 e

pub held_at : {H : Type 0} (holds : H → Type 0) (ds : List (Decl H)) (m : ℕ) (d : Decl H) → All (IsDeclOf holds) ds → slice_get ds m ≡ Some d → IsDeclOf holds d
held_at holds [] m d a e = absurd cc
held_at holds (x ∷ ds) zero d a e = let same : x ≡ d = same_Some _ _ e in subst (IsDeclOf holds) same (a 0 x (omega arith))
held_at holds (x ∷ ds) (suc m) d a e = held_at holds ds m d (tail_all (IsDeclOf holds) x ds a) e

-- a number that isn't declared adds no text, and another one adds its goal
pub none_more : {H : Type 0} (means : H → Term) (ds : List (Decl H)) (m : ℕ) (texts : List (List ℕ)) → None ≡ slice_get ds m → texts ≡ texts ++ found_goal (plain_metas means ds) m (slice_get (plain_metas means ds) m)
none_more means ds m texts e = sym (append-nil texts) ∙ ap (λ o. texts ++ found_goal (plain_metas means ds) m o) (ap (option_map (plain_decl means)) e ∙ sym (slice_get-map (plain_decl means) ds m))

pub one_more : {H : Type 0} (means : H → Term) (ds : List (Decl H)) (others : List ℕ) (m : ℕ) (d : Decl H) (texts : List (List ℕ)) (text : List ℕ) → Some d ≡ slice_get ds m
    → others ≡ coupled (plain_metas means ds) m → text ≡ goal_json others (plain_metas means ds) m (plain_decl means d)
    → texts ++ text ∷ [] ≡ texts ++ found_goal (plain_metas means ds) m (slice_get (plain_metas means ds) m)
one_more means ds others m d texts text e same f =
    ap (λ x. texts ++ x ∷ []) (f ∙ ap (λ os. goal_json os (plain_metas means ds) m (plain_decl means d)) same)
    ∙ ap (λ o. texts ++ found_goal (plain_metas means ds) m o) (ap (option_map (plain_decl means)) e ∙ sym (slice_get-map (plain_decl means) ds m))

-- ---- the goals coupled with an active one

-- an active goal is open
pub open_at : (ds : List (Decl Term)) (goals : List ℕ) (i m : ℕ) → All (IsOpen ds) goals → i < length goals → m ≡ get_or goals i 0 → IsOpen ds m
open_at ds goals i m a l e = rw e (a i 0 l)

-- the same goals are coupled with it in a store that has grown
pub coupled_kept : {H : Type 0} (holds : H → Type 0) (means : H → Term) (holds' : H → Type 0) (means' : H → Term) → Keeps holds means holds' means' → (ds : List (Decl H)) → All (IsDeclOf holds) ds
    → (m : ℕ) (ms : List ℕ) → ms ≡ coupled (plain_metas means ds) m → ms ≡ coupled (plain_metas means' ds) m
coupled_kept holds means holds' means' kept ds a m ms e = e ∙ ap (λ cs. coupled cs m) (sym (plain_metas_kept holds means holds' means' kept ds a))

-- ---- numbers, one after another

pub next_number : (ms : List ℕ) (i m : ℕ) (texts : List (List ℕ)) (text : List ℕ) → i < length ms → m ≡ get_or ms i 0 → texts ≡ map decimal (take i ms) → text ≡ decimal m → texts ++ text ∷ [] ≡ map decimal (take (i + 1) ms)
next_number ms i m texts text low is are e =
    ap₂ (λ (xs : List (List ℕ)) (x : List ℕ). xs ++ x ∷ []) are (e ∙ ap decimal is) ∙ sym (ap (map decimal) (take_more ms i 0 low) ∙ map-append decimal (take i ms) (get_or ms i 0 ∷ []))
