-- What is in the grammar is read.
use Rattle.std.proofs.Common.{◌≡◌, ℕ, zero, suc, ◌<◌, true, false, inl, inr, List, [], ◌∷◌, ◌++◌, length, Some, None, refl, ap, sym, ◌∙◌, arith, append_assoc, subst}
use Rattle.std.proofs.lemmas.List.{append-nil}
use Rattle.term_syntax.specs.declared.kind.Kind.TheVariants as k
use Rattle.term_syntax.specs.declared.surface.Label.{Label}
use Rattle.term_syntax.specs.declared.surface.Surface.{Surface}
use Rattle.term_syntax.specs.Kinds.{is_kind}
use Rattle.term_syntax.specs.Lex.{Lexeme}
use Rattle.term_syntax.specs.Input.{kind, kind_of, is_nil}
use Rattle.term_syntax.specs.Reading.{Parser, pure}
use Rattle.term_syntax.specs.Grammar as terms
use Rattle.term_syntax.specs.Grammar.{IsTerm, IsBinder}
use Rattle.term_syntax.proofs.Complete.{Runs, runs_then, pure_runs, take_runs, expect_runs, peek_yes, peek_no, over_yes, over_no, sees_it, shrinks, binder_run, term_runs}
use Rattle.book_reader.specs.declared.source.Parameter.{Parameter}
use Rattle.book_reader.specs.declared.source.Source.{Source}
use Rattle.book_reader.specs.Grammar as grammar
use Rattle.book_reader.specs.Grammar.{IsItemName, parameter_of, AreParameters, IsItem, AreItems}
use Rattle.book_reader.specs.Reading.{name_by, item_name, parameter, parameters_from, parameters, definition, primitive, item, items_from, items}
use Rattle.book_reader.proofs.Turns.{parameter_shorter, item_shorter}
use Rattle.book_reader.proofs.NamedItems.{colon_follows, semi_follows}

answer_is : {A : Type 0} {p : Parser A} {ts rest : List Lexeme} {a b : A} → a ≡ b → Runs p ts a rest → Runs p ts b rest
answer_is {p = p} {ts = ts} {rest = rest} e m = subst (λ a. Runs p ts a rest) e m

name_runs : {n : Lexeme} (ts : List Lexeme) → IsItemName n → Runs item_name (n ∷ ts) n.text ts
unfolding item_name
name_runs {n = n} ts (inl e) = record {
  run = λ i is.
      let x = (take_runs n ts).run i is in
      let seen : kind i ≡ k.Name = ap kind_of is ∙ e in
      (x.0, ap (λ t. name_by t i) seen ∙ x.1, x.2);
}
name_runs {n = n} ts (inr e) = record {
  run = λ i is.
      let x = (take_runs n ts).run i is in
      let seen : kind i ≡ k.Call = ap kind_of is ∙ e in
      (x.0, ap (λ t. name_by t i) seen ∙ x.1, x.2);
}

-- ---- parameters

parameter_runs : {ts rest : List Lexeme} {x : Label} {A : Surface} → IsBinder 512 ts x A rest → Runs parameter ts (parameter_of x A) rest
unfolding parameter
parameter_runs {rest = rest} {x = x} {A = A} is = runs_then (λ b. pure (parameter_of b.0 b.1)) (binder_run is) (pure_runs (parameter_of x A) rest)

opens : {ts rest : List Lexeme} {x : Label} {A : Surface} → IsBinder 512 ts x A rest → is_kind (kind_of ts) k.Open ≡ true
opens (terms.binder {o = o} ko is kc t ke) = sees_it o k.Open ko

parameters_from_runs : {ts rest : List Lexeme} {ps : List Parameter} → AreParameters ts ps rest → is_kind (kind_of rest) k.Open ≡ false → (n : ℕ) → length ts < n → (found : List Parameter) → Runs (parameters_from n found) ts (found ++ ps) rest
unfolding parameters_from
parameters_from_runs are stops zero less found = absurd (omega arith)
parameters_from_runs (grammar.no_parameter {ts = ts}) stops (suc n) less found = answer_is (sym (append-nil found)) (peek_no (λ kind. is_kind kind k.Open) _ stops (pure_runs found ts))
parameters_from_runs (grammar.more_parameters {x = x} {A = A} {ps = ps} is are) stops (suc n) less found =
    let m = parameter_runs is in
    answer_is (append_assoc found (parameter_of x A ∷ []) ps)
    (peek_yes (λ kind. is_kind kind k.Open) _ (opens is) (runs_then (λ p. parameters_from n (found ++ p ∷ [])) m (parameters_from_runs are stops n (omega (arith, shrinks parameter_shorter m)) (found ++ parameter_of x A ∷ []))))

parameters_runs : {ts rest : List Lexeme} {ps : List Parameter} → AreParameters ts ps rest → is_kind (kind_of rest) k.Open ≡ false → Runs parameters ts ps rest
unfolding parameters
parameters_runs are stops = record { run = λ i is. (parameters_from_runs are stops (suc (length i.ahead)) (omega (arith, ap (λ (ls : List Lexeme). length ls) is)) []).run i is }

assign_stops : (l : Lexeme) → l.kind ≡ k.Assign → is_kind l.kind k.Open ≡ false
unfolding is_kind
assign_stops l e = rw e refl

colon_stops : (l : Lexeme) → l.kind ≡ k.Colon → is_kind l.kind k.Open ≡ false
unfolding is_kind
colon_stops l e = rw e refl

-- ---- items

definition_runs : {d n a c e : Lexeme} {ts us vs rest : List Lexeme} {ps : List Parameter} {M A : Surface} → d.kind ≡ k.Def → IsItemName n → AreParameters ts ps (a ∷ us) → a.kind ≡ k.Assign → IsTerm 512 us M (c ∷ vs) → c.kind ≡ k.Colon
    → IsTerm 512 vs A (e ∷ rest) → e.kind ≡ k.Semi → Runs definition (d ∷ n ∷ ts) (record { name = n.text; params = ps; ty = A; body = Some M }) rest
unfolding definition
definition_runs {d = d} {n = n} {a = a} {c = c} {e = e} {ts = ts} {us = us} {vs = vs} {rest = rest} {ps = ps} {M = M} {A = A} kd kn are ka is kc of ke =
    runs_then _ (expect_runs d (n ∷ ts) kd) (runs_then _ (name_runs ts kn) (runs_then _ (parameters_runs are (assign_stops a ka)) (runs_then _ (expect_runs a us ka) (runs_then _ (term_runs is (colon_follows c vs kc))
    (runs_then _ (expect_runs c vs kc) (runs_then _ (term_runs of (semi_follows e rest ke)) (runs_then _ (expect_runs e rest ke) (pure_runs (record { name = n.text; params = ps; ty = A; body = Some M }) rest))))))))

primitive_runs : {d n c e : Lexeme} {ts us rest : List Lexeme} {ps : List Parameter} {A : Surface} → d.kind ≡ k.Prim → IsItemName n → AreParameters ts ps (c ∷ us) → c.kind ≡ k.Colon
    → IsTerm 512 us A (e ∷ rest) → e.kind ≡ k.Semi → Runs primitive (d ∷ n ∷ ts) (record { name = n.text; params = ps; ty = A; body = None }) rest
unfolding primitive
primitive_runs {d = d} {n = n} {c = c} {e = e} {ts = ts} {us = us} {rest = rest} {ps = ps} {A = A} kd kn are kc of ke =
    runs_then _ (expect_runs d (n ∷ ts) kd) (runs_then _ (name_runs ts kn) (runs_then _ (parameters_runs are (colon_stops c kc)) (runs_then _ (expect_runs c us kc)
    (runs_then _ (term_runs of (semi_follows e rest ke)) (runs_then _ (expect_runs e rest ke) (pure_runs (record { name = n.text; params = ps; ty = A; body = None }) rest))))))

prim_is_no_def : (l : Lexeme) → l.kind ≡ k.Prim → is_kind l.kind k.Def ≡ false
unfolding is_kind
prim_is_no_def l e = rw e refl

item_runs : {ts rest : List Lexeme} {s : Source} → IsItem ts s rest → Runs item ts s rest
unfolding item
item_runs (grammar.definition {d = d} kd kn are ka is kc of ke) = peek_yes (λ kind. is_kind kind k.Def) _ (sees_it d k.Def kd) (definition_runs kd kn are ka is kc of ke)
item_runs (grammar.primitive {d = d} kd kn are kc of ke) = peek_no (λ kind. is_kind kind k.Def) _ (prim_is_no_def d kd) (primitive_runs kd kn are kc of ke)

item_begins : {ts rest : List Lexeme} {s : Source} → IsItem ts s rest → is_nil ts ≡ false
item_begins (grammar.definition kd kn are ka is kc of ke) = refl
item_begins (grammar.primitive kd kn are kc of ke) = refl

items_from_runs : {ts : List Lexeme} {ss : List Source} → AreItems ts ss → (n : ℕ) → length ts < n → (found : List Source) → Runs (items_from n found) ts (found ++ ss) []
unfolding items_from
items_from_runs are zero less found = absurd (omega arith)
items_from_runs grammar.no_item (suc n) less found = answer_is (sym (append-nil found)) (over_yes _ refl (pure_runs found []))
items_from_runs (grammar.more_items {s = s} {ss = ss} is are) (suc n) less found =
    let m = item_runs is in
    answer_is (append_assoc found (s ∷ []) ss)
    (over_no _ (item_begins is) (runs_then (λ s. items_from n (found ++ s ∷ [])) m (items_from_runs are n (omega (arith, shrinks item_shorter m)) (found ++ s ∷ []))))

pub items_run : {ts : List Lexeme} {ss : List Source} → AreItems ts ss → Runs items ts ss []
unfolding items
items_run are = record { run = λ i is. (items_from_runs are (suc (length i.ahead)) (omega (arith, ap (λ (ls : List Lexeme). length ls) is)) []).run i is }
