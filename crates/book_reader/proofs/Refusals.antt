-- No book goes on with the token at which a text is refused.
use Rattle.std.proofs.Common.{◌≡◌, ℕ, zero, suc, ◌<◌, Bool, true, false, if◌then◌else◌, List, [], ◌∷◌, ◌++◌, Ok, Err, Some, None, refl, sym, ◌∙◌, arith}
use Rattle.term_syntax.specs.declared.kind.Kind.{Kind}
use Rattle.term_syntax.specs.declared.kind.Kind.TheVariants as k
use Rattle.term_syntax.specs.Kinds.{is_kind}
use Rattle.term_syntax.specs.Lex.{Text}
use Rattle.term_syntax.specs.Input.{Input, kind, input_at, is_nil}
use Rattle.term_syntax.specs.Reading.{Outcome, Parser, and_then, term}
use Rattle.term_syntax.proofs.Progress.{left}
use Rattle.term_syntax.proofs.Local.{ErrAgain, Local, local_then, local_pure, local_refuse, local_by, local_take, local_expect, local_peek, local_over, local_binder}
use Rattle.term_syntax.proofs.Loops.{local_fuel}
use Rattle.term_syntax.proofs.Whole.{local_term}
use Rattle.book_reader.specs.declared.source.Parameter.{Parameter}
use Rattle.book_reader.specs.declared.source.Source.{Source}
use Rattle.book_reader.specs.Grammar.{parameter_of}
use Rattle.book_reader.specs.Reading.{name_by, item_name, parameter, parameters_from, parameters, definition, primitive, item, items_from, items, read}
use Rattle.book_reader.specs.Laws.{NothingContinues}
use Rattle.book_reader.proofs.Turns.{parameter_shorter, item_shorter}
use Rattle.book_reader.proofs.Complete.{items_run}

-- ---- the reading looks no further than the next token

name_by_local : (t : Kind) → Local (name_by t)
name_by_local k.Name = local_take
name_by_local k.Call = local_take
name_by_local _ = local_refuse

local_name : Local item_name
unfolding item_name
local_name = local_by name_by name_by_local

local_parameter : Local parameter
unfolding parameter
local_parameter = local_then _ (local_binder (term 512) (local_term 512)) (λ b. local_pure (parameter_of b.0 b.1))

-- two ways on that agree behind an answer
both_after : {A B : Type 0} (o : Outcome A) (f g : A → Parser B) → ((x : A) (r : Input) → o ≡ Ok (x, r) → f x r ≡ g x r) → and_then o f ≡ and_then o g
both_after (Ok p) f g same = same p.0 p.1 refl
both_after (Err r) f g same = refl

either : {A : Type 0} (b : Bool) (p q p' q' : Parser A) (i : Input) → p i ≡ p' i → q i ≡ q' i → (if b then p else q) i ≡ (if b then p' else q') i
either true p q p' q' i e f = e
either false p q p' q' i e f = f

local_parameters_from : (n : ℕ) (found : List Parameter) → Local (parameters_from n found)
unfolding parameters_from
local_parameters_from zero found = local_pure found
local_parameters_from (suc n) found = local_peek (λ kind. is_kind kind k.Open) (local_then _ local_parameter (λ p. local_parameters_from n (found ++ p ∷ []))) (local_pure found)

parameters_alike : (n m : ℕ) (found : List Parameter) (i : Input) → left i < n → left i < m → parameters_from n found i ≡ parameters_from m found i
unfolding parameters_from
parameters_alike zero m found i a b = absurd (omega arith)
parameters_alike (suc n) zero found i a b = absurd (omega arith)
parameters_alike (suc n) (suc m) found i a b =
    either (is_kind (kind i) k.Open) _ _ _ _ i
    (both_after (parameter i) _ _ (λ p r e. parameters_alike n m (found ++ p ∷ []) r (omega (arith, parameter_shorter i p r e)) (omega (arith, parameter_shorter i p r e)))) refl

local_parameters : Local parameters
unfolding parameters
local_parameters = local_fuel (λ n. parameters_from n []) (λ n m i a b. parameters_alike n m [] i a b) (λ n. local_parameters_from n [])

local_definition : Local definition
unfolding definition
local_definition =
    local_then _ (local_expect k.Def (λ h. cc)) (λ _. local_then _ local_name (λ name. local_then _ local_parameters (λ ps. local_then _ (local_expect k.Assign (λ h. cc)) (λ _. local_then _ (local_term 512) (λ M.
    local_then _ (local_expect k.Colon (λ h. cc)) (λ _. local_then _ (local_term 512) (λ A. local_then _ (local_expect k.Semi (λ h. cc)) (λ _. local_pure (record { name = name; params = ps; ty = A; body = Some M })))))))))

local_primitive : Local primitive
unfolding primitive
local_primitive =
    local_then _ (local_expect k.Prim (λ h. cc)) (λ _. local_then _ local_name (λ name. local_then _ local_parameters (λ ps. local_then _ (local_expect k.Colon (λ h. cc)) (λ _. local_then _ (local_term 512) (λ A.
    local_then _ (local_expect k.Semi (λ h. cc)) (λ _. local_pure (record { name = name; params = ps; ty = A; body = None })))))))

local_item : Local item
unfolding item
local_item = local_peek (λ kind. is_kind kind k.Def) local_definition local_primitive

local_items_from : (n : ℕ) (found : List Source) → Local (items_from n found)
unfolding items_from
local_items_from zero found = local_refuse
local_items_from (suc n) found = local_over (local_pure found) (local_then _ local_item (λ s. local_items_from n (found ++ s ∷ [])))

items_alike : (n m : ℕ) (found : List Source) (i : Input) → left i < n → left i < m → items_from n found i ≡ items_from m found i
unfolding items_from
items_alike zero m found i a b = absurd (omega arith)
items_alike (suc n) zero found i a b = absurd (omega arith)
items_alike (suc n) (suc m) found i a b =
    either (is_nil i.ahead) _ _ _ _ i refl
    (both_after (item i) _ _ (λ s r e. items_alike n m (found ++ s ∷ []) r (omega (arith, item_shorter i s r e)) (omega (arith, item_shorter i s r e))))

local_items : Local items
unfolding items
local_items = local_fuel (λ n. items_from n []) (λ n m i a b. items_alike n m [] i a b) (λ n. local_items_from n [])

-- ---- so no book goes on with what is refused

refused_again : (text : Text) (i : Input) → read text ≡ Err i → ErrAgain items (input_at text 0) i
unfolding read
refused_again text i e = local_items.err (input_at text 0) i e

pub nothing_continues : NothingContinues
nothing_continues text i e =
    let x = refused_again text i e in (
      x.0,
      x.1,
      λ l rest tail is ss h.
          let j : Input = record { at = 0; end = 0; ahead = x.0 ++ l ∷ tail } in
          let no = x.2 j (l ∷ tail) (l, tail, rest, refl, is) refl in
          let yes = (items_run h).run j refl in
          let clash = sym yes.1 ∙ no.1 in
          cc clash,
    )
