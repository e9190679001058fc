-- The loops over parameters and items, beside recursions on a count of turns that is above the number of tokens left.
use Rattle.std.proofs.Common.{◌≡◌, ℕ, zero, suc, ◌<◌, Bool, true, false, List, [], ◌∷◌, ◌++◌, length, Some, None, Result, Ok, Err, refl, sym, ◌∙◌, arith, subst, if◌then◌else◌}
use Rattle.std.specs.Prelude.{IsErrAnd}
use Rattle.term_syntax.specs.declared.kind.Kind.{Kind}
use Rattle.term_syntax.specs.declared.kind.Kind.TheVariants as k
use Rattle.term_syntax.specs.declared.fault.ReadFault.{ReadFault}
use Rattle.term_syntax.specs.declared.fault.ReadFault.TheVariants as fault
use Rattle.term_syntax.specs.Kinds.{is_kind}
use Rattle.term_syntax.specs.Input.{Input, kind, is_nil}
use Rattle.term_syntax.specs.Reading.{Outcome, Parser, Reads, term}
use Rattle.term_syntax.specs.Grammar.{max_nesting}
use Rattle.term_syntax.proofs.Progress.{left, Shorter, NoLonger, shorter_then, no_longer_then, then_shorter, weak, expect_shorter, shut, take_no_longer, pure_no_longer, peek_no_longer, refuse_shorter, if_no_longer, binder_shorter, term_shorter}
use Rattle.book_reader.specs.declared.source.Parameter.{Parameter}
use Rattle.book_reader.specs.declared.source.Source.{Source}
use Rattle.book_reader.specs.Grammar.{parameter_of}
use Rattle.book_reader.specs.Reading.{name_by, item_name, parameter, parameters_from, parameters, definition, primitive, item, items_from, items}

-- ---- fewer tokens are left

name_by_no_longer : (t : Kind) → NoLonger (name_by t)
name_by_no_longer k.Name = take_no_longer
name_by_no_longer k.Call = take_no_longer
name_by_no_longer _ = weak _ refuse_shorter

item_name_no_longer : NoLonger item_name
unfolding item_name
item_name_no_longer i a j e = name_by_no_longer (kind i) i a j e

term_no_longer : NoLonger (term max_nesting)
term_no_longer = weak _ (term_shorter max_nesting)

pub parameter_shorter : Shorter parameter
unfolding parameter
parameter_shorter = shorter_then _ _ (binder_shorter (term 512) (term_shorter 512)) (λ b. pure_no_longer (parameter_of b.0 b.1))

parameters_from_no_longer : (n : ℕ) (found : List Parameter) → NoLonger (parameters_from n found)
unfolding parameters_from
parameters_from_no_longer zero found = pure_no_longer found
parameters_from_no_longer (suc n) found = no_longer_then _ _ peek_no_longer (λ kind. if_no_longer (is_kind kind k.Open) _ _ (no_longer_then _ _ (weak _ parameter_shorter) (λ p. parameters_from_no_longer n (found ++ p ∷ []))) (pure_no_longer found))

parameters_no_longer : NoLonger parameters
unfolding parameters
parameters_no_longer i = parameters_from_no_longer (suc (length i.ahead)) [] i

definition_shorter : Shorter definition
unfolding definition is_kind
definition_shorter =
    shorter_then _ _ (expect_shorter k.Def refl) (λ _. no_longer_then _ _ item_name_no_longer (λ name. no_longer_then _ _ parameters_no_longer (λ params. no_longer_then _ _ (shut k.Assign refl) (λ _. no_longer_then _ _ term_no_longer (λ body.
    no_longer_then _ _ (shut k.Colon refl) (λ _. no_longer_then _ _ term_no_longer (λ ty. no_longer_then _ _ (shut k.Semi refl) (λ _. pure_no_longer (record { name = name; params = params; ty = ty; body = Some body })))))))))

primitive_shorter : Shorter primitive
unfolding primitive is_kind
primitive_shorter =
    shorter_then _ _ (expect_shorter k.Prim refl) (λ _. no_longer_then _ _ item_name_no_longer (λ name. no_longer_then _ _ parameters_no_longer (λ params.
    no_longer_then _ _ (shut k.Colon refl) (λ _. no_longer_then _ _ term_no_longer (λ ty. no_longer_then _ _ (shut k.Semi refl) (λ _. pure_no_longer (record { name = name; params = params; ty = ty; body = None })))))))

if_shorter : {A : Type 0} (b : Bool) (p q : Parser A) → Shorter p → Shorter q → Shorter (if b then p else q)
if_shorter true p q x y = x
if_shorter false p q x y = y

pub item_shorter : Shorter item
unfolding item
item_shorter = then_shorter _ _ peek_no_longer (λ kind. if_shorter (is_kind kind k.Def) _ _ definition_shorter primitive_shorter)

-- ---- turns

-- some number of turns, above the tokens that are left, leads from here to the whole
abbrev pub Leads : {A : Type 0} → Outcome (List A) → (ℕ → List A → Parser (List A)) → List A → Input → Type 0
Leads w from found i = (n : ℕ) × (left i < n) × (w ≡ from n found i)

pub parameters_init : (i : Input) (found : List Parameter) → found ≡ [] → Leads (parameters i) parameters_from found i
unfolding parameters
parameters_init i found none = (suc (length i.ahead), omega arith, rw none refl)

pub parameters_turn : (w : Outcome (List Parameter)) (i : Input) (found : List Parameter) (x : Parameter) (j : Input) (more : List Parameter)
    → Leads w parameters_from found i → is_kind (kind i) k.Open ≡ true → parameter i ≡ Ok (x, j) → more ≡ found ++ x ∷ [] → Leads w parameters_from more j
unfolding parameters_from
parameters_turn w i found x j more (zero, below, e) begins got is = absurd (omega arith)
parameters_turn w i found x j more (suc n, below, e) begins got is = (n, omega (arith, parameter_shorter i x j got), e ∙ rw (begins, got, is) refl)

pub parameters_done : (w : Outcome (List Parameter)) (i : Input) (found : List Parameter) → Leads w parameters_from found i → is_kind (kind i) k.Open ≡ false → w ≡ Ok (found, i)
unfolding parameters_from
parameters_done w i found (zero, below, e) over = absurd (omega arith)
parameters_done w i found (suc n, below, e) over = e ∙ rw over refl

parameters_fault : (w : Outcome (List Parameter)) (i : Input) (found : List Parameter) (at : Input) → Leads w parameters_from found i → is_kind (kind i) k.Open ≡ true → parameter i ≡ Err at → w ≡ Err at
unfolding parameters_from
parameters_fault w i found at (zero, below, e) begins got = absurd (omega arith)
parameters_fault w i found at (suc n, below, e) begins got = e ∙ rw (begins, got) refl

pub items_init : (i : Input) (found : List Source) → found ≡ [] → Leads (items i) items_from found i
unfolding items
items_init i found none = (suc (length i.ahead), omega arith, rw none refl)

pub items_turn : (w : Outcome (List Source)) (i : Input) (found : List Source) (x : Source) (j : Input) (more : List Source)
    → Leads w items_from found i → is_nil i.ahead ≡ false → item i ≡ Ok (x, j) → more ≡ found ++ x ∷ [] → Leads w items_from more j
unfolding items_from
items_turn w i found x j more (zero, below, e) begins got is = absurd (omega arith)
items_turn w i found x j more (suc n, below, e) begins got is = (n, omega (arith, item_shorter i x j got), e ∙ rw (begins, got, is) refl)

pub items_done : (w : Outcome (List Source)) (i : Input) (found : List Source) → Leads w items_from found i → is_nil i.ahead ≡ true → w ≡ Ok (found, i)
unfolding items_from
items_done w i found (zero, below, e) over = absurd (omega arith)
items_done w i found (suc n, below, e) over = e ∙ rw over refl

items_fault : (w : Outcome (List Source)) (i : Input) (found : List Source) (at : Input) → Leads w items_from found i → is_nil i.ahead ≡ false → item i ≡ Err at → w ≡ Err at
unfolding items_from
items_fault w i found at (zero, below, e) begins got = absurd (omega arith)
items_fault w i found at (suc n, below, e) begins got = e ∙ rw (begins, got) refl

-- a refusal that is passed on
pub passed : {A : Type 0} (o : Outcome A) (r : Result A ReadFault) (e : ReadFault) (new : Input) → IsErrAnd r (λ x. x ≡ e) → Reads o (Err e) new → Reads o r new
passed o (Ok x) e new p h = absurd p
passed o (Err x) e new p h = subst (λ x. Reads o (Err x) new) (sym p) h

pub parameters_refused : (w : Outcome (List Parameter)) (i : Input) (found : List Parameter) (e : ReadFault) (new : Input) → Leads w parameters_from found i → is_kind (kind i) k.Open ≡ true → Reads (parameter i) (Err e) new → Reads w (Err e) new
parameters_refused w i found fault.Memory new l s h = tt
parameters_refused w i found (fault.Syntax at) new l s h = (parameters_fault w i found new l s h.0, h.1)

pub items_refused : (w : Outcome (List Source)) (i : Input) (found : List Source) (e : ReadFault) (new : Input) → Leads w items_from found i → is_nil i.ahead ≡ false → Reads (item i) (Err e) new → Reads w (Err e) new
items_refused w i found fault.Memory new l s h = tt
items_refused w i found (fault.Syntax at) new l s h = (items_fault w i found new l s h.0, h.1)
