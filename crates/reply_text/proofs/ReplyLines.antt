-- The JSON texts of replies hold no line end, and no reply begins as the memory line.
use Rattle.std.proofs.Common.{◌≡◌, ℕ, zero, suc, ◌+◌, Bool, true, List, [], ◌∷◌, ◌++◌, length, take, Option, Some, None, codes, decimal, refl}
use Rattle.std.specs.Prelude.{flat_map, slice_index_or}
use Rattle.json.specs.Print.{escape_byte, quoted}
use Rattle.ld_trees.specs.Term.{Term, Star}
use Rattle.term_syntax.specs.Printing.{Names}
use Rattle.term_syntax.specs.declared.scope_fault.ScopeFault.{ScopeFault}
use Rattle.term_syntax.specs.declared.scope_fault.ScopeFault.TheVariants as scope
use Rattle.term_text.specs.Printed.{printed_as}
use Rattle.term_text.specs.declared.print.Printed.{Printed}
use Rattle.term_text.specs.declared.print.Printed.TheVariants as printed
use Rattle.conversion.specs.Runs.{Refusal, NotType, NotFunction, Mismatch, ReductIllTyped}
use Rattle.repl_json.specs.OneLine.{is_unbroken, memory_front, differ, IsReply}
use Rattle.repl_json.proofs.OneLineLemmas.{unbroken-append, unbroken-decimal, unbroken-quoted}
use Rattle.reply_text.specs.Member.{Member}
use Rattle.reply_text.specs.declared.members.Members.{Members}
use Rattle.reply_text.specs.Members.{number, string, member_text, behind_comma, members_text, body_text, object_text}
use Rattle.reply_text.specs.Shown.{size, printed_json, term_json, level_names}
use Rattle.reply_text.specs.Context.{between_commas, array_text, entry_json, first_entries, shown_names, context_json}
use Rattle.reply_text.specs.Refusals.{error, place, item_number, level_term, syntax, name_taken, no_item, unknown_name, wrong_count, unsolved, no_expected, plain, of_goal, out_of_scope, no_goal, scoping, kernel, out_of_fuel}

-- ---- members

-- neither the key nor the value holds a line end
abbrev pub IsPlain : Member → Type 0
IsPlain m = (is_unbroken m.key ≡ true) × (is_unbroken m.value ≡ true)

abbrev pub ArePlain : List Member → Type 0
ArePlain [] = Unit {0}
ArePlain (m ∷ ms) = IsPlain m × ArePlain ms

pub plain-append : (ms ns : List Member) → ArePlain ms → ArePlain ns → ArePlain (ms ++ ns)
plain-append [] ns p q = q
plain-append (m ∷ ms) ns p q = (p.0, plain-append ms ns p.1 q)

member_unbroken : (m : Member) → IsPlain m → is_unbroken (member_text m) ≡ true
member_unbroken m p = unbroken-append m.key (34 ∷ 58 ∷ m.value) p.0 p.1

behind_unbroken : (ms : List Member) → ArePlain ms → is_unbroken (flat_map behind_comma ms) ≡ true
behind_unbroken [] p = refl
behind_unbroken (m ∷ ms) p = unbroken-append (behind_comma m) (flat_map behind_comma ms) (member_unbroken m p.0) (behind_unbroken ms p.1)

members_unbroken : (ms : List Member) → ArePlain ms → is_unbroken (members_text ms) ≡ true
members_unbroken [] p = refl
members_unbroken (m ∷ ms) p = unbroken-append (member_text m) (flat_map behind_comma ms) (member_unbroken m p.0) (behind_unbroken ms p.1)

pub object_unbroken : (m : Members) → ArePlain m.before → ArePlain m.after → is_unbroken (object_text m) ≡ true
object_unbroken m p q = unbroken-append (members_text (m.before ++ m.after)) (125 ∷ []) (members_unbroken (m.before ++ m.after) (plain-append m.before m.after p q)) refl

-- the reply with these members
pub reply_of : (m : Members) → ArePlain m.before → ArePlain m.after → differ (body_text m).first memory_front ≡ true → IsReply (body_text m)
reply_of m p q other = record {
  other = other;
  first = unbroken-append (members_text m.before) (codes ",\"seq\":") (members_unbroken m.before p) refl;
  second = unbroken-append (flat_map behind_comma m.after) (125 ∷ []) (behind_unbroken m.after q) refl;
  third = refl;
}

-- ---- values

pub number_plain : (key : List ℕ) (n : ℕ) → is_unbroken key ≡ true → IsPlain (number key n)
number_plain key n k = (k, unbroken-decimal n)

pub string_plain : (key text : List ℕ) → is_unbroken key ≡ true → IsPlain (string key text)
string_plain key text k = (k, unbroken-quoted text)

printed_unbroken : (p : Printed) → is_unbroken (printed_json p) ≡ true
printed_unbroken (printed.Text text) = unbroken-quoted text
printed_unbroken (printed.Large depth nodes) = object_unbroken (size depth nodes) (number_plain (codes "depth") depth refl, (number_plain (codes "nodes") nodes refl, tt)) tt

pub term_unbroken : (names : Names) (t : Term) → is_unbroken (term_json names t) ≡ true
unfolding term_json
term_unbroken names t = printed_unbroken (printed_as names t)

abbrev pub AreUnbroken : List (List ℕ) → Type 0
AreUnbroken [] = Unit {0}
AreUnbroken (x ∷ xs) = (is_unbroken x ≡ true) × AreUnbroken xs

all-append : (xs ys : List (List ℕ)) → AreUnbroken xs → AreUnbroken ys → AreUnbroken (xs ++ ys)
all-append [] ys p q = q
all-append (x ∷ xs) ys p q = (p.0, all-append xs ys p.1 q)

behind_commas_unbroken : (xs : List (List ℕ)) → AreUnbroken xs → is_unbroken (flat_map (λ y. 44 ∷ y) xs) ≡ true
behind_commas_unbroken [] p = refl
behind_commas_unbroken (x ∷ xs) p = unbroken-append (44 ∷ x) (flat_map (λ y. 44 ∷ y) xs) p.0 (behind_commas_unbroken xs p.1)

between_unbroken : (xs : List (List ℕ)) → AreUnbroken xs → is_unbroken (between_commas xs) ≡ true
between_unbroken [] p = refl
between_unbroken (x ∷ xs) p = unbroken-append x (flat_map (λ y. 44 ∷ y) xs) p.0 (behind_commas_unbroken xs p.1)

pub array_unbroken : (xs : List (List ℕ)) → AreUnbroken xs → is_unbroken (array_text xs) ≡ true
array_unbroken xs p = unbroken-append (between_commas xs) (93 ∷ []) (between_unbroken xs p) refl

entry_unbroken : (before : Names) (name : List ℕ) (ty : Term) → is_unbroken (entry_json before name ty) ≡ true
entry_unbroken before name ty =
    object_unbroken (record { before = string (codes "name") name ∷ record { key = codes "type"; value = term_json before ty } ∷ []; after = [] })
    (string_plain (codes "name") name refl, ((refl, term_unbroken before ty), tt)) tt

entries_unbroken : (names : Names) (types : List Term) (k : ℕ) → AreUnbroken (first_entries names types k)
entries_unbroken names types zero = tt
entries_unbroken names types (suc k) =
    all-append (first_entries names types k) _ (entries_unbroken names types k) (entry_unbroken (take k names) (slice_index_or names k []) (slice_index_or types k Star), tt)

pub context_unbroken : (names : Names) (types : List Term) → is_unbroken (context_json names types) ≡ true
unfolding context_json
context_unbroken names types = array_unbroken (first_entries (shown_names names) types (length types)) (entries_unbroken (shown_names names) types (length types))

-- ---- refusals

item_plain : (item : Option ℕ) → ArePlain (item_number item)
item_plain None = tt
item_plain (Some item) = (number_plain (codes "item") item refl, tt)

level_plain : (key : List ℕ) (depth : ℕ) (t : Term) → is_unbroken key ≡ true → IsPlain (level_term key depth t)
level_plain key depth t k = (k, term_unbroken (level_names depth) t)

at_plain : (at : ℕ) → IsPlain (place at)
at_plain at = number_plain (codes "at") at refl

error_plain : (name : List ℕ) → IsPlain (error name)
error_plain name = string_plain (codes "error") name refl

name_plain : (name : List ℕ) → ArePlain (string (codes "name") name ∷ [])
name_plain name = (string_plain (codes "name") name refl, tt)

pub syntax_reply : (at : ℕ) → IsReply (body_text (syntax at))
syntax_reply at = reply_of (syntax at) (at_plain at, (error_plain (codes "syntax"), tt)) tt refl

pub fuel_reply : (item : Option ℕ) → IsReply (body_text (out_of_fuel item))
unfolding escape_byte
fuel_reply item = reply_of (out_of_fuel item) (error_plain (codes "fuel"), item_plain item) tt refl

-- an error that shows nothing more, and isn't want of memory
pub plain_reply : (name : List ℕ) → differ (body_text (plain name None)).first memory_front ≡ true → IsReply (body_text (plain name None))
plain_reply name other = reply_of (plain name None) (error_plain name, tt) tt other

-- nor is one that names a metavariable
pub goal_reply : (name : List ℕ) (m : ℕ) → differ (body_text (of_goal name m)).first memory_front ≡ true → IsReply (body_text (of_goal name m))
goal_reply name m other = reply_of (of_goal name m) (error_plain name, (number_plain (codes "goal") m refl, tt)) tt other

pub out_of_scope_reply : (m level : ℕ) → IsReply (body_text (out_of_scope m level))
unfolding escape_byte
out_of_scope_reply m level = reply_of (out_of_scope m level) (error_plain (codes "scope"), (number_plain (codes "goal") m refl, (number_plain (codes "level") level refl, tt))) tt refl

pub no_goal_reply : (index count : ℕ) → IsReply (body_text (no_goal index count))
no_goal_reply index count = reply_of (no_goal index count) (number_plain (codes "count") count refl, (error_plain (codes "noGoal"), (number_plain (codes "index") index refl, tt))) tt refl

pub taken_reply : (item : Option ℕ) (name : List ℕ) → IsReply (body_text (name_taken item name))
unfolding escape_byte
taken_reply item name = reply_of (name_taken item name) (error_plain (codes "nameTaken"), plain-append (item_number item) _ (item_plain item) (name_plain name)) tt refl

pub no_item_reply : (name : List ℕ) → IsReply (body_text (no_item name))
unfolding escape_byte
no_item_reply name = reply_of (no_item name) (error_plain (codes "unknownName"), name_plain name) tt refl

-- names that could not be resolved, and holes
pub unknown_name_reply : (item : Option ℕ) (at : ℕ) (name : List ℕ) → IsReply (body_text (unknown_name item at name))
unknown_name_reply item at name =
    reply_of (unknown_name item at name) (at_plain at, (error_plain (codes "unknownName"), plain-append (item_number item) _ (item_plain item) (name_plain name))) tt refl

pub wrong_count_reply : (item : Option ℕ) (at : ℕ) (name : List ℕ) (given wanted : ℕ) → IsReply (body_text (wrong_count item at name given wanted))
wrong_count_reply item at name given wanted =
    reply_of (wrong_count item at name given wanted)
    (at_plain at, (error_plain (codes "wrongCount"), (number_plain (codes "given") given refl, plain-append (item_number item) _ (item_plain item) (name_plain name)))) (number_plain (codes "wanted") wanted refl, tt) refl

pub unsolved_reply : (item : Option ℕ) (at : ℕ) → IsReply (body_text (unsolved item at))
unsolved_reply item at = reply_of (unsolved item at) (at_plain at, (error_plain (codes "unsolved"), item_plain item)) tt refl

pub no_expected_reply : (at : ℕ) → IsReply (body_text (no_expected at))
no_expected_reply at = reply_of (no_expected at) (at_plain at, (error_plain (codes "noExpected"), tt)) tt refl

pub scoping_reply : (item : Option ℕ) (fault : ScopeFault) → IsReply (body_text (scoping item fault))
unfolding scoping
scoping_reply item (scope.UnknownName at name) = unknown_name_reply item at name
scoping_reply item (scope.WrongCount at name given wanted) = wrong_count_reply item at name given wanted
scoping_reply item (scope.Unsolved at) = unsolved_reply item at
scoping_reply item scope.Memory = record { other = refl; first = refl; second = refl; third = refl }

pub kernel_reply : (item : Option ℕ) (r : Refusal) → IsReply (body_text (kernel item r))
unfolding kernel escape_byte
kernel_reply item (NotType depth t) = reply_of (kernel item (NotType depth t)) (error_plain (codes "notType"), item_plain item) (level_plain (codes "term") depth t refl, tt) refl
kernel_reply item (NotFunction depth t found) =
    reply_of (kernel item (NotFunction depth t found)) (error_plain (codes "notFunction"), item_plain item) (level_plain (codes "term") depth t refl, (level_plain (codes "type") depth found refl, tt)) refl
kernel_reply item (Mismatch depth found wanted) =
    reply_of (kernel item (Mismatch depth found wanted)) (error_plain (codes "mismatch"), (level_plain (codes "found") depth found refl, item_plain item)) (level_plain (codes "wanted") depth wanted refl, tt) refl
kernel_reply item (ReductIllTyped depth t reduct) =
    reply_of (kernel item (ReductIllTyped depth t reduct)) (error_plain (codes "reductIllTyped"), plain-append (item_number item) _ (item_plain item) (level_plain (codes "reduct") depth reduct refl, tt))
    (level_plain (codes "term") depth t refl, tt) refl
