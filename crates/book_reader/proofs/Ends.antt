-- The reading keeps the length of the text.
use Rattle.std.proofs.Common.{◌≡◌, ℕ, zero, suc, Bool, true, false, if◌then◌else◌, List, [], ◌∷◌, ◌++◌, length, Ok, Err, Some, None, refl, ◌∙◌}
use Rattle.term_syntax.specs.declared.kind.Kind.{Kind}
use Rattle.term_syntax.specs.declared.kind.Kind.TheVariants as k
use Rattle.term_syntax.specs.declared.surface.Surface.{Surface}
use Rattle.term_syntax.specs.Kinds.{is_kind}
use Rattle.term_syntax.specs.Input.{Input, kind, next, is_nil}
use Rattle.term_syntax.specs.Reading.{Outcome, Parser, and_then, ◌>>=◌, pure, sees, expect, label_by, label_at, binder, term}
use Rattle.term_syntax.proofs.Walks.{term_ends}
use Rattle.book_reader.specs.declared.source.Parameter.{Parameter}
use Rattle.book_reader.specs.declared.source.Source.{Source}
use Rattle.book_reader.specs.Grammar.{parameter_of}
use Rattle.book_reader.specs.Reading.{name_by, item_name, parameter, parameters_from, parameters, definition, primitive, item, items_from, items}

abbrev pub end_of : {A : Type 0} → Outcome A → ℕ
end_of (Ok p) = p.1.end
end_of (Err i) = i.end

-- A record, so that antt finds the parser.
pub record KeepsEnd {A : Type 0} (p : Parser A) : Type 0 where
  pub keeps : (i : Input) → end_of (p i) ≡ i.end

behind : {A B : Type 0} (o : Outcome A) (f : A → Parser B) (end : ℕ) → end_of o ≡ end → ((a : A) → KeepsEnd (f a)) → end_of (and_then o f) ≡ end
behind (Ok p) f end e n = (n p.0).keeps p.1 ∙ e
behind (Err i) f end e n = e

keeps_then : {A B : Type 0} {p : Parser A} {f : A → Parser B} → KeepsEnd p → ((a : A) → KeepsEnd (f a)) → KeepsEnd (p >>= f)
keeps_then {p = p} {f = f} m n = record { keeps = λ i. behind (p i) f i.end (m.keeps i) n }

keeps_pure : {A : Type 0} (a : A) → KeepsEnd (pure a)
keeps_pure a = record { keeps = λ i. refl }

keeps_if : {A : Type 0} (b : Bool) {p q : Parser A} → KeepsEnd p → KeepsEnd q → KeepsEnd (if b then p else q)
keeps_if true m n = m
keeps_if false m n = n

expect_end : (b : Bool) (i : Input) → end_of {A = Unit {0}} (if b then Ok (tt, next i) else Err i) ≡ i.end
expect_end true i = refl
expect_end false i = refl

keeps_expect : (t : Kind) → KeepsEnd (expect t)
unfolding expect
keeps_expect t = record { keeps = λ i. expect_end (sees t i) i }

term_end : (i : Input) (o : Outcome Surface) → term 512 i ≡ o → end_of o ≡ i.end
term_end i (Ok p) e = ((term_ends 512 i).ok p.0 p.1 e).end
term_end i (Err j) e = (term_ends 512 i).err j e

keeps_term : KeepsEnd (term 512)
keeps_term = record { keeps = λ i. term_end i (term 512 i) refl }

label_end : (t : Kind) (i : Input) → end_of (label_by t i) ≡ i.end
label_end k.Name i = refl
label_end k.Level i = refl
label_end k.Call i = refl
label_end _ i = refl

keeps_label : KeepsEnd label_at
unfolding label_at
keeps_label = record { keeps = λ i. label_end (kind i) i }

name_end : (t : Kind) (i : Input) → end_of (name_by t i) ≡ i.end
name_end k.Name i = refl
name_end k.Call i = refl
name_end _ i = refl

keeps_name : KeepsEnd item_name
unfolding item_name
keeps_name = record { keeps = λ i. name_end (kind i) i }

keeps_binder : KeepsEnd (binder (term 512))
unfolding binder
keeps_binder = keeps_then (keeps_expect k.Open) (λ _. keeps_then keeps_label (λ x. keeps_then (keeps_expect k.Colon) (λ _. keeps_then keeps_term (λ ty. keeps_then (keeps_expect k.Close) (λ _. keeps_pure (x, ty))))))

keeps_parameter : KeepsEnd parameter
unfolding parameter
keeps_parameter = keeps_then keeps_binder (λ b. keeps_pure (parameter_of b.0 b.1))

keeps_parameters_from : (n : ℕ) (found : List Parameter) → KeepsEnd (parameters_from n found)
unfolding parameters_from
keeps_parameters_from zero found = keeps_pure found
keeps_parameters_from (suc n) found = record { keeps = λ i. (keeps_if (is_kind (kind i) k.Open) (keeps_then keeps_parameter (λ p. keeps_parameters_from n (found ++ p ∷ []))) (keeps_pure found)).keeps i }

keeps_parameters : KeepsEnd parameters
unfolding parameters
keeps_parameters = record { keeps = λ i. (keeps_parameters_from (suc (length i.ahead)) []).keeps i }

keeps_definition : KeepsEnd definition
unfolding definition
keeps_definition =
    keeps_then (keeps_expect k.Def) (λ _. keeps_then keeps_name (λ name. keeps_then keeps_parameters (λ ps. keeps_then (keeps_expect k.Assign) (λ _. keeps_then keeps_term (λ M.
    keeps_then (keeps_expect k.Colon) (λ _. keeps_then keeps_term (λ A. keeps_then (keeps_expect k.Semi) (λ _. keeps_pure (record { name = name; params = ps; ty = A; body = Some M })))))))))

keeps_primitive : KeepsEnd primitive
unfolding primitive
keeps_primitive =
    keeps_then (keeps_expect k.Prim) (λ _. keeps_then keeps_name (λ name. keeps_then keeps_parameters (λ ps. keeps_then (keeps_expect k.Colon) (λ _. keeps_then keeps_term (λ A.
    keeps_then (keeps_expect k.Semi) (λ _. keeps_pure (record { name = name; params = ps; ty = A; body = None })))))))

keeps_item : KeepsEnd item
unfolding item
keeps_item = record { keeps = λ i. (keeps_if (is_kind (kind i) k.Def) keeps_definition keeps_primitive).keeps i }

keeps_items_from : (n : ℕ) (found : List Source) → KeepsEnd (items_from n found)
unfolding items_from
keeps_items_from zero found = record { keeps = λ i. refl }
keeps_items_from (suc n) found = record { keeps = λ i. (keeps_if (is_nil i.ahead) (keeps_pure found) (keeps_then keeps_item (λ s. keeps_items_from n (found ++ s ∷ [])))).keeps i }

pub items_end : (i : Input) → end_of (items i) ≡ i.end
unfolding items
items_end i = (keeps_items_from (suc (length i.ahead)) []).keeps i
